-- Kind 4, spot by spot: the head of a freelist is stored in the object that is freed, or a word of a held object is written.
use Rattle.std.proofs.Common.{◌≡◌, ℕ, ◌+◌, ◌*◌, ◌≤◌, true, None, List, ◌∷◌, refl, sym, ap, ◌∙◌, subst, arith, inl}
use Rattle.std.proofs.lemmas.Bool.{leb-true, not-false}
use Rattle.std.proofs.lemmas.List.Elements.{All-head}
use Rattle.slub_words.proofs.Pointers.{come_back}
use Rattle.slub_core.specs.declared.step.Answer.TheVariants.{Done}
use Rattle.slub_core.specs.declared.spot.Spot.TheVariants.{Between, InFree, WriteWord}
use Rattle.slub_core.specs.declared.spot.FreeSpot.TheVariants.{LinkOwn, Push, LinkSlab, FreeSlab, LinkLocked, FreeLocked}
use Rattle.slub_core.specs.Calls.{call_word, call_value}
use Rattle.slub_words.specs.Words.{steps_from_one}
use Rattle.slub_core.specs.Setup.{pointer_at, word_at, hardened}
use Rattle.slub_core.specs.World.{World, set_memory, pointer, exists_at, object_at}
use Rattle.slub_core.specs.Local.{Worker, here, at, call_of}
use Rattle.slub_core.specs.Free.{free_advance}
use Rattle.slub_core.specs.Steps.{advance_at}
use Rattle.slub_core.specs.Placed.{owned}
use Rattle.slub_core.specs.Spots.{frees}
use Rattle.slub_core.specs.Fresh.{IsAtWork}
use Rattle.slub_core.specs.Coherent.{Stands}
use Rattle.slub_core.proofs.Apart.{apart-object}
use Rattle.slub_core.proofs.Exists.{owned-object}
use Rattle.slub_core.proofs.Loads.{held-object, freed-object}
use Rattle.slub_core.proofs.LocalStep.{Settled}
use Rattle.slub_core.proofs.Locks.{ComesTo}
use Rattle.slub_core.proofs.MemoryStep.{memory_step}
use Rattle.slub_core.proofs.Slots.{IsWordOf, pointer-word, word-word}
use Rattle.slub_core.proofs.Update.{update_same}

-- a free pointer that was stored is there
pub pointer-here : (w : World) (cache f i to : ℕ) → pointer (set_memory w (pointer_at w.setup cache f i) (hardened cache (pointer_at w.setup cache f i) to)) cache f i ≡ to
pointer-here w cache f i to =
    let p = pointer_at w.setup cache f i in
    ap (hardened cache p) (update_same w.memory p (hardened cache p to)) ∙ come_back to (steps_from_one (cache + 1)) (8 * p)

-- where the head of a freelist is stored
abbrev pub at_object : World → Worker → ℕ
at_object w x = pointer_at w.setup (here x.local).cache (here x.local).frame (here x.local).index

-- a store in the object that is freed
link_step : (w : World) (x z : Worker) (others : List Worker) (v : ℕ) → Stands w (x ∷ others) → frees x.local.spot ≡ true → ((g j : ℕ) → owned g j z ≡ owned g j x) → Settled x z
    → IsAtWork (set_memory w (at_object w x) v) z → Stands (set_memory w (at_object w x) v) (z ∷ others)
link_step w x z others v s is same settled ok =
    let k = here x.local in
    let o = freed-object w x others s is in
    let mine = (All-head (IsAtWork w) x others s.fresh.workers).spot.frees is in
    let all = All-head (λ o. owned k.frame k.index o ≤ object_at w k.frame k.index) x others (owned-object w s.chains (x ∷ others) k.frame k.index s.placed) in
    let there : 1 ≤ exists_at w k.frame k.index = (let e = o.0.exists in let h = o.1 in omega arith) in
    let cache : k.cache ≡ (w.slab k.frame).cache = mine.2 ∙ o.0.cache in
    let live = (s.listed.shaped.plain k.frame o.0.live).1 in
    let word : IsWordOf (w.setup.layout (w.slab k.frame).cache) k.frame k.index (at_object w x)
    = subst (λ c. IsWordOf (w.setup.layout (w.slab k.frame).cache) k.frame k.index (pointer_at w.setup c k.frame k.index)) (sym cache) (pointer-word w.setup (w.slab k.frame).cache k.frame k.index s.fresh.setup live) in
    memory_step w x z others k.frame k.index (at_object w x) v s (apart-object w x others k.frame k.index (at_object w x) s there word) (inl o.1) same settled ok

link_own-work : (w : World) (x : Worker) (p v : ℕ) → x.local.spot ≡ InFree LinkOwn → x.local.run ≡ None → pointer (set_memory w p v) (here x.local).cache (here x.local).frame (here x.local).index ≡ x.local.cpu_word.head
    → IsAtWork w x → IsAtWork (set_memory w p v) (record x { local = at x.local (InFree Push) })
link_own-work w x p v is none linked ok = grind arith

pub at_LinkOwn : (w : World) (x : Worker) (others : List Worker) → x.local.spot ≡ InFree LinkOwn → Stands w (x ∷ others)
    → ComesTo (set_memory w (at_object w x) (hardened (here x.local).cache (at_object w x) x.local.cpu_word.head)) others (free_advance w.setup x.local LinkOwn Done).local
at_LinkOwn w x others is s =
    let ok = All-head (IsAtWork w) x others s.fresh.workers in (
      record x { local = at x.local (InFree Push) },
      refl,
      link_step w x _ others _ s (rw is refl) (λ g j. refl) (record { home = λ f. refl; marked = λ f. rw is refl; covered = λ g. refl; takes = λ k. rw is refl })
          (link_own-work w x _ _ is (ok.spot.no_run (rw is refl)) (pointer-here w (here x.local).cache (here x.local).frame (here x.local).index x.local.cpu_word.head) ok),
    )

link_slab-work : (w : World) (x : Worker) (p v : ℕ) → x.local.spot ≡ InFree LinkSlab → x.local.run ≡ None → pointer (set_memory w p v) (here x.local).cache (here x.local).frame (here x.local).index ≡ x.local.slab_word.head
    → IsAtWork w x → IsAtWork (set_memory w p v) (record x { local = at x.local (InFree FreeSlab) })
link_slab-work w x p v is none linked ok = grind arith

pub at_LinkSlab : (w : World) (x : Worker) (others : List Worker) → x.local.spot ≡ InFree LinkSlab → Stands w (x ∷ others)
    → ComesTo (set_memory w (at_object w x) (hardened (here x.local).cache (at_object w x) x.local.slab_word.head)) others (free_advance w.setup x.local LinkSlab Done).local
at_LinkSlab w x others is s =
    let ok = All-head (IsAtWork w) x others s.fresh.workers in (
      record x { local = at x.local (InFree FreeSlab) },
      refl,
      link_step w x _ others _ s (rw is refl) (λ g j. refl) (record { home = λ f. refl; marked = λ f. rw is refl; covered = λ g. refl; takes = λ k. rw is refl })
          (link_slab-work w x _ _ is (ok.spot.no_run (rw is refl)) (pointer-here w (here x.local).cache (here x.local).frame (here x.local).index x.local.slab_word.head) ok),
    )

link_locked-work : (w : World) (x : Worker) (p v : ℕ) → x.local.spot ≡ InFree LinkLocked → x.local.run ≡ None → pointer (set_memory w p v) (here x.local).cache (here x.local).frame (here x.local).index ≡ x.local.slab_word.head
    → IsAtWork w x → IsAtWork (set_memory w p v) (record x { local = at x.local (InFree FreeLocked) })
link_locked-work w x p v is none linked ok = grind arith

pub at_LinkLocked : (w : World) (x : Worker) (others : List Worker) → x.local.spot ≡ InFree LinkLocked → Stands w (x ∷ others)
    → ComesTo (set_memory w (at_object w x) (hardened (here x.local).cache (at_object w x) x.local.slab_word.head)) others (free_advance w.setup x.local LinkLocked Done).local
at_LinkLocked w x others is s =
    let ok = All-head (IsAtWork w) x others s.fresh.workers in (
      record x { local = at x.local (InFree FreeLocked) },
      refl,
      link_step w x _ others _ s (rw is refl) (λ g j. refl) (record { home = λ f. refl; marked = λ f. rw is refl; covered = λ g. refl; takes = λ k. rw is refl })
          (link_locked-work w x _ _ is (ok.spot.no_run (rw is refl)) (pointer-here w (here x.local).cache (here x.local).frame (here x.local).index x.local.slab_word.head) ok),
    )

-- ---- a word of a held object

write-work : (w : World) (x : Worker) (p v : ℕ) → x.local.spot ≡ WriteWord → x.local.run ≡ None → IsAtWork w x → IsAtWork (set_memory w p v) (record x { local = at x.local Between })
write-work w x p v is none ok = grind arith

pub at_WriteWord : (w : World) (x : Worker) (others : List Worker) → x.local.spot ≡ WriteWord → Stands w (x ∷ others)
    → ComesTo (set_memory w (word_at w.setup (here x.local).cache (here x.local).frame (here x.local).index (call_word (call_of x.local))) (call_value (call_of x.local))) others (advance_at w.setup w.value x.local WriteWord Done).local
at_WriteWord w x others is s =
    let ok = All-head (IsAtWork w) x others s.fresh.workers in
    let k = here x.local in
    let p = word_at w.setup k.cache k.frame k.index (call_word (call_of x.local)) in
    let mine = ok.spot.uses (rw is refl) in
    let o = held-object w x others s (rw is refl) mine in
    let all = All-head (λ o. owned k.frame k.index o ≤ object_at w k.frame k.index) x others (owned-object w s.chains (x ∷ others) k.frame k.index s.placed) in
    let there : 1 ≤ exists_at w k.frame k.index = (let e = o.0.exists in let h = o.1 in omega arith) in
    let cache : k.cache ≡ (w.slab k.frame).cache = mine.2 ∙ o.0.cache in
    let plain = s.listed.shaped.plain k.frame o.0.live in
    let inside : 8 * (call_word (call_of x.local) + 1) ≤ (w.setup.layout (w.slab k.frame).cache).object_size
    = subst (λ c. 8 * (call_word (call_of x.local) + 1) ≤ (w.setup.layout c).object_size) o.0.cache (leb-true (8 * (call_word (call_of x.local) + 1)) (w.setup.layout x.local.cache).object_size (not-false _ (ok.spot.inside (rw is refl)))) in
    let word : IsWordOf (w.setup.layout (w.slab k.frame).cache) k.frame k.index p
    = subst (λ c. IsWordOf (w.setup.layout (w.slab k.frame).cache) k.frame k.index (word_at w.setup c k.frame k.index (call_word (call_of x.local)))) (sym cache) (word-word w.setup (w.slab k.frame).cache k.frame k.index (call_word (call_of x.local)) s.fresh.setup plain.1 inside) in (
      record x { local = at x.local Between },
      refl,
      memory_step w x _ others k.frame k.index p (call_value (call_of x.local)) s (apart-object w x others k.frame k.index p s there word) (inl o.1) (λ g j. refl)
          (record { home = λ f. refl; marked = λ f. rw is refl; covered = λ g. refl; takes = λ k. rw is refl })
          (write-work w x p (call_value (call_of x.local)) is (ok.spot.no_run (rw is refl)) ok),
    )
