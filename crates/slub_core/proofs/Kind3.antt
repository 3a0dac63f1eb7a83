-- Kind 3: the head is taken off a CPU freelist.
use Rattle.std.proofs.Common.{◌≡◌, ◌≢◌, ℕ, ◌+◌, ◌-◌, ◌/◌, ◌%◌, ◌^◌, ◌<◌, ◌≤◌, ◌==◌, true, List, ◌∷◌, get_or, set, refl, sym, ap, ◌∙◌, subst, arith}
use Rattle.std.specs.Prelude.{All}
use Rattle.std.proofs.lemmas.List.Elements.{All-head}
use Rattle.slub_common.specs.Times.{times}
use Rattle.slub_words.specs.declared.cpu.CpuWord.{CpuWord}
use Rattle.slub_core.specs.declared.local.Known.{Known}
use Rattle.slub_core.specs.declared.step.Answer.TheVariants.{Won}
use Rattle.slub_core.specs.declared.spot.Spot.TheVariants.{Between, InAlloc}
use Rattle.slub_core.specs.declared.spot.AllocSpot.TheVariants.{Pop}
use Rattle.slub_core.specs.World.{World, set_cpu, pointer, cache_at, one_if, exists_at, IsChain}
use Rattle.slub_core.specs.Local.{Local, Worker, here, nobody, at, gets}
use Rattle.slub_core.specs.Ops.{own_cpu}
use Rattle.slub_core.specs.Alloc.{alloc_advance, popped_word}
use Rattle.slub_core.specs.Listed.{home_of}
use Rattle.slub_core.specs.Fresh.{IsAtWork}
use Rattle.slub_core.specs.Coherent.{Stands}
use Rattle.slub_core.proofs.Chains.{IsChain-first, IsChain-from, Leads-small}
use Rattle.slub_core.proofs.Changes.{own-word, grown, in_chain-same, current-slab}
use Rattle.slub_core.proofs.CpuStep.{cpu_step}
use Rattle.slub_core.proofs.Exists.{in_chain-cons, in_chain-here, chain-exists, cpu-live, object-small}
use Rattle.slub_core.proofs.Knowns.{held-gets, here-set, known-set}
use Rattle.slub_core.proofs.Lists.{times-first}
use Rattle.slub_core.proofs.Locks.{ComesTo}
use Rattle.slub_core.proofs.StepValues.{word-cache}

-- the object that a worker gets, as it then knows it
abbrev pub given : Local → ℕ → ℕ → Known
given l frame index = record { object = (here l).object; frame = frame; index = index; cache = l.cache; held = true }

popped-work : (w : World) (x : Worker) (n : ℕ) (v : CpuWord) (frame index : ℕ) → x.local.spot ≡ InAlloc Pop → get_or (set x.local.known x.local.place (given x.local frame index)) x.local.place nobody ≡ given x.local frame index
    → All (λ (k : Known). k.held ≡ true → k.cache ≡ cache_at w k.frame) (set x.local.known x.local.place (given x.local frame index)) → IsAtWork w x
    → IsAtWork (set_cpu w n v) (record x { local = at (gets x.local x.local.cache frame index) Between })
popped-work w x n v frame index is now caches ok = grind arith

pub at_Pop-won : (w : World) (x : Worker) (others : List Worker) → x.local.spot ≡ InAlloc Pop → w.cpu (own_cpu x.local) ≡ x.local.cpu_word → Stands w (x ∷ others)
    → ComesTo (set_cpu w (own_cpu x.local) (popped_word w.setup x.local)) others (alloc_advance w.setup x.local Pop Won).local
at_Pop-won w x others is won s =
    let ok = All-head (IsAtWork w) x others s.fresh.workers in
    let n = own_cpu x.local in
    let c = x.local.cpu_word in
    let xs = s.chains.cpu n in
    let own = own-word w x others s (rw is refl) in
    let room = ok.spot.awaits (rw is refl) in
    let some = (ok.spot.noted.head (rw is refl)).0 in
    let frame = ap (λ (c : CpuWord). c.frame) won in
    let tid = ap (λ (c : CpuWord). c.tid) won in
    let real : c.frame ≢ 0 = λ z. absurd (let head = ap (λ (c : CpuWord). c.head) won in let b = s.listed.shaped.bare n own.0 (frame ∙ z) in omega arith) in
    let slab = current-slab w x others s (rw is refl) won real in
    let chain : IsChain (pointer w (n / 16) c.frame) c.head xs = rw won at (s.placed.cpu_chain n own.0) in
    let first = IsChain-first (pointer w (n / 16) c.frame) c.head xs some chain in
    let ys = first.0 in
    let small : pointer w (n / 16) c.frame (c.head - 1) < 2 ^ 16 = Leads-small (pointer w (n / 16) c.frame) (pointer w (n / 16) c.frame (c.head - 1)) ys
    (λ j has. object-small w (x ∷ others) c.frame j s (subst (λ f. 1 ≤ exists_at w f j) frame (chain-exists w s.chains (x ∷ others) n (w.cpu n).frame j s.placed s.listed own.0
    (let h = in_chain-here (w.cpu n).frame xs j in let t : times j xs ≡ times j ((c.head - 1) ∷ ys) = ap (times j) first.1 in let u = times-first j (c.head - 1) ys in omega arith)))) first.2 in
    let next : x.local.next ≡ pointer w (n / 16) c.frame (c.head - 1) =
    ok.seen.next (rw is refl) (sym tid) ∙ ap (λ k. pointer w k c.frame (c.head - 1) % 2 ^ 16) (sym own.1) ∙ below-mod (pointer w (n / 16) c.frame (c.head - 1)) small in
    let live : 1 ≤ (w.slab c.frame).objects = subst (λ f. 1 ≤ (w.slab f).objects) frame (cpu-live w s.chains (x ∷ others) n s.listed own.0 (λ z. real (sym frame ∙ z))) in
    let fits = ok.spot.packed in (
      record x { local = at (gets x.local x.local.cache c.frame (c.head - 1)) Between },
      refl,
      cpu_step w x (record x { local = at (gets x.local x.local.cache c.frame (c.head - 1)) Between }) others n (popped_word w.setup x.local) ys s own.0
          (grown w n c c.frame x.local.next s.fresh.setup won (ok.spot.noted.step (rw is refl)) (λ _. ok.spot.noted.fresh (rw is refl)) fits.cpu_word.1 fits.next (λ _. slab) (λ z. absurd (real z)))
          (IsChain-from (pointer w (n / 16) c.frame) (pointer w (n / 16) c.frame (c.head - 1)) x.local.next ys next first.2)
          (λ f i.
          let now = held-gets f i x.local x.local.cache c.frame (c.head - 1) room.0 room.1 in
          let split = in_chain-cons c.frame (c.head - 1) ys f i in
          let was = in_chain-same (w.cpu n) c xs ((c.head - 1) ∷ ys) f i won first.1 in
          omega arith)
          (λ f _. ap (λ (c : CpuWord). home_of f x + one_if (c.frame == f)) (sym won))
          (λ f. rw is refl) (λ g. refl) (λ k. rw is refl)
          (popped-work w x n (popped_word w.setup x.local) c.frame (c.head - 1) is (here-set x.local (given x.local c.frame (c.head - 1)) room.0)
          (known-set w x.local.known x.local.place (given x.local c.frame (c.head - 1)) (λ _. sym (word-cache w c.frame live ∙ slab.0 ∙ own.1)) ok.seen.known) ok),
    )
  where
    below-mod : (a : ℕ) → a < 2 ^ 16 → a % 2 ^ 16 ≡ a
    below-mod a small = omega arith
