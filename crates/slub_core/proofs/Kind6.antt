-- Kind 6: an object is put on a CPU freelist.
use Rattle.std.proofs.Common.{◌≡◌, ◌≢◌, ℕ, ◌+◌, ◌/◌, ◌≤◌, ◌==◌, true, false, List, ◌∷◌, get_or, set, refl, sym, ap, ◌∙◌, subst, arith, add-one}
use Rattle.std.specs.Prelude.{All}
use Rattle.std.proofs.lemmas.Bool.{false≢true}
use Rattle.std.proofs.lemmas.List.Elements.{All-head}
use Rattle.slub_words.specs.declared.cpu.CpuWord.{CpuWord}
use Rattle.slub_core.specs.declared.local.Known.{Known}
use Rattle.slub_core.specs.declared.step.Answer.TheVariants.{Won}
use Rattle.slub_core.specs.declared.spot.Spot.TheVariants.{Between, InFree}
use Rattle.slub_core.specs.declared.spot.FreeSpot.TheVariants.{Push}
use Rattle.slub_core.specs.World.{World, set_cpu, pointer, cache_at, object_at, exists_at, one_if, is_at, IsChain}
use Rattle.slub_core.specs.Local.{Local, Worker, here, nobody, at, loses}
use Rattle.slub_core.specs.Ops.{own_cpu}
use Rattle.slub_core.specs.Free.{free_advance, pushed_word}
use Rattle.slub_core.specs.Placed.{owned}
use Rattle.slub_core.specs.Listed.{home_of}
use Rattle.slub_core.specs.Fresh.{IsAtWork}
use Rattle.slub_core.specs.Coherent.{Stands}
use Rattle.slub_core.proofs.Chains.{IsChain-from}
use Rattle.slub_core.proofs.Changes.{own-word, grown, in_chain-same, current-slab}
use Rattle.slub_core.proofs.CpuStep.{cpu_step}
use Rattle.slub_core.proofs.Exists.{in_chain-cons, owned-object, exists-none, object-small}
use Rattle.slub_core.proofs.Knowns.{held-loses, here-set, known-set}
use Rattle.slub_core.proofs.Loads.{freed-object}
use Rattle.slub_core.proofs.Locks.{ComesTo}

-- the object that it holds no more
abbrev lost : Local → Known
lost l = record (here l) { held = false }

pushed-work : (w : World) (x : Worker) (n : ℕ) (v : CpuWord) → x.local.spot ≡ InFree Push → get_or (set x.local.known x.local.place (lost x.local)) x.local.place nobody ≡ lost x.local
    → All (λ (k : Known). k.held ≡ true → k.cache ≡ cache_at w k.frame) (set x.local.known x.local.place (lost x.local)) → IsAtWork w x
    → IsAtWork (set_cpu w n v) (record x { local = at (loses x.local) Between })
pushed-work w x n v is now caches ok = grind arith

pub at_Push-won : (w : World) (x : Worker) (others : List Worker) → x.local.spot ≡ InFree Push → w.cpu (own_cpu x.local) ≡ x.local.cpu_word → Stands w (x ∷ others)
    → ComesTo (set_cpu w (own_cpu x.local) (pushed_word w.setup x.local)) others (free_advance w.setup x.local Push Won).local
at_Push-won w x others is won s =
    let ok = All-head (IsAtWork w) x others s.fresh.workers in
    let n = own_cpu x.local in
    let c = x.local.cpu_word in
    let k = here x.local in
    let xs = s.chains.cpu n in
    let own = own-word w x others s (rw is refl) in
    let mine = ok.spot.frees (rw is refl) in
    let object = freed-object w x others s (rw is refl) in
    let all = All-head (λ o. owned k.frame k.index o ≤ object_at w k.frame k.index) x others (owned-object w s.chains (x ∷ others) k.frame k.index s.placed) in
    let there : 1 ≤ exists_at w k.frame k.index = (let e = object.0.exists in let o = object.1 in omega arith) in
    let frame = ok.spot.noted.own (rw is refl) in
    let real : c.frame ≢ 0 = λ z. absurd (let e = exists-none w s.chains k.index s.listed.shaped in let t : 1 ≤ exists_at w 0 k.index = subst (λ f. 1 ≤ exists_at w f k.index) (sym frame ∙ z) there in omega arith) in
    let slab = current-slab w x others s (rw is refl) won real in
    let chain : IsChain (pointer w (n / 16) c.frame) c.head xs = rw won at (s.placed.cpu_chain n own.0) in
    let linked : pointer w (n / 16) c.frame k.index ≡ c.head
    = subst (λ f. pointer w (n / 16) f k.index ≡ c.head) (sym frame) (subst (λ a. pointer w a k.frame k.index ≡ c.head) (mine.2 ∙ sym own.1) (ok.seen.linked_cpu (rw is refl))) in
    let fits = ok.spot.packed in (
      record x { local = at (loses x.local) Between },
      refl,
      cpu_step w x (record x { local = at (loses x.local) Between }) others n (pushed_word w.setup x.local) (k.index ∷ xs) s own.0
          (grown w n c c.frame (k.index + 1) s.fresh.setup won (ok.spot.noted.step (rw is refl)) (λ _. ok.spot.noted.fresh (rw is refl)) fits.cpu_word.1 (let o = object-small w (x ∷ others) k.frame k.index s there in omega arith) (λ _. slab) (λ z. absurd (real z)))
          (add-one k.index, IsChain-from (pointer w (n / 16) c.frame) c.head (pointer w (n / 16) c.frame k.index) xs linked chain)
          (λ f i.
          let now = held-loses f i x.local mine.0 mine.1 in
          let split = in_chain-cons c.frame k.index xs f i in
          let was = in_chain-same (w.cpu n) c xs xs f i won refl in
          let same : one_if (is_at c.frame k.index f i) ≡ one_if (is_at k.frame k.index f i) = ap (λ g. one_if (is_at g k.index f i)) frame in
          omega arith)
          (λ f _. ap (λ (c : CpuWord). home_of f x + one_if (c.frame == f)) (sym won))
          (λ f. rw is refl) (λ g. refl) (λ k. rw is refl)
          (pushed-work w x n (pushed_word w.setup x.local) is (here-set x.local (lost x.local) mine.0)
          (known-set w x.local.known x.local.place (lost x.local) (λ e. absurd (false≢true e)) ok.seen.known) ok),
    )
