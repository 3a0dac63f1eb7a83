-- Kinds 2, 5 and 8, spot by spot: the next of a CPU freelist, a word of an object and the slab word of an object are loaded.
use Rattle.std.proofs.Common.{◌≡◌, ℕ, ◌-◌, ◌%◌, ◌^◌, ◌<◌, ◌≤◌, true, false, List, ◌∷◌, length, refl, sym, ◌∙◌, subst, arith}
use Rattle.std.proofs.lemmas.Bool.{le-ltb, cond_both}
use Rattle.std.proofs.lemmas.List.Elements.{All-head}
use Rattle.slub_common.specs.Times.{times}
use Rattle.slub_words.specs.declared.slab.SlabWord.{SlabWord}
use Rattle.slub_core.specs.declared.step.Answer.TheVariants.{Word}
use Rattle.slub_core.specs.declared.spot.Spot.{Spot}
use Rattle.slub_core.specs.declared.spot.Spot.TheVariants.{Between, InAlloc, InFree, ReadWord}
use Rattle.slub_core.specs.declared.spot.AllocSpot.TheVariants.{LoadNext, Pop}
use Rattle.slub_core.specs.declared.spot.FreeSpot.TheVariants.{LoadSlab, LinkSlab, LockFree, LoadLocked, GoBack, LinkLocked}
use Rattle.slub_core.specs.Setup.{pointer_at}
use Rattle.slub_core.specs.Words.{slab_in}
use Rattle.slub_core.specs.World.{World, pointer, exists_at, object_at}
use Rattle.slub_core.specs.Local.{Worker, here, nobody, at}
use Rattle.slub_core.specs.Alloc.{alloc_advance}
use Rattle.slub_core.specs.Free.{free_advance, is_last_listed, way_of_slab, way_of_locked}
use Rattle.slub_core.specs.Steps.{advance_at}
use Rattle.slub_core.specs.Placed.{owned}
use Rattle.slub_core.specs.Spots.{frees, in_plain}
use Rattle.slub_core.specs.Fresh.{IsAtWork}
use Rattle.slub_core.specs.Coherent.{Stands}
use Rattle.slub_core.proofs.Counts.{places-cons}
use Rattle.slub_core.proofs.Exists.{IsPlainObject, plain-object, owned-object, object_at-le, exists_at-within, word-object, alone}
use Rattle.slub_core.proofs.LocalStep.{local_step}
use Rattle.slub_core.proofs.Locks.{ComesTo}
use Rattle.slub_core.proofs.Pigeon.{sum_below-room, length-as_sum}
use Rattle.slub_core.proofs.Spots.{frees-plain}
use Rattle.slub_core.proofs.ValueStep.{known-owned}

-- ---- the next of a CPU freelist

pop-work : (w : World) (x : Worker) (n : ℕ) → x.local.spot ≡ InAlloc LoadNext → n < 2 ^ 16 → n ≡ pointer w x.local.cache x.local.cpu_word.frame (x.local.cpu_word.head - 1) % 2 ^ 16 → IsAtWork w x
    → IsAtWork w (record x { local = record x.local { next = n; spot = InAlloc Pop } })
pop-work w x n is fits found ok = grind arith

pub at_LoadNext : (w : World) (x : Worker) (others : List Worker) → x.local.spot ≡ InAlloc LoadNext → Stands w (x ∷ others)
    → ComesTo w others (alloc_advance w.setup x.local LoadNext (Word (w.memory (pointer_at w.setup x.local.cache x.local.cpu_word.frame (x.local.cpu_word.head - 1))))).local
at_LoadNext w x others is s =
    let n : ℕ = pointer w x.local.cache x.local.cpu_word.frame (x.local.cpu_word.head - 1) % 2 ^ 16 in (
      record x { local = record x.local { next = n; spot = InAlloc Pop } },
      refl,
      local_step w x _ others s (λ f i. refl) (record { home = λ f. refl; marked = λ f. rw is refl; covered = λ g. refl; takes = λ k. rw is refl })
          (pop-work w x n is (omega arith) refl (All-head (IsAtWork w) x others s.fresh.workers)),
    )

-- ---- a word of an object

read-work : (w : World) (x : Worker) → x.local.spot ≡ ReadWord → IsAtWork w x → IsAtWork w (record x { local = at x.local Between })
read-work w x is ok = grind arith

pub at_ReadWord : (w : World) (x : Worker) (others : List Worker) (word : ℕ) → x.local.spot ≡ ReadWord → Stands w (x ∷ others)
    → ComesTo w others (advance_at w.setup w.value x.local ReadWord (Word word)).local
at_ReadWord w x others word is s = (
  record x { local = at x.local Between },
  refl,
  local_step w x _ others s (λ f i. refl) (record { home = λ f. refl; marked = λ f. rw is refl; covered = λ g. refl; takes = λ k. rw is refl })
      (read-work w x is (All-head (IsAtWork w) x others s.fresh.workers)),
)

-- ---- a slab of which a worker has an object has one in use

pub some_in_use : (w : World) (x : Worker) (others : List Worker) (f i : ℕ) → Stands w (x ∷ others) → 1 ≤ (w.slab f).objects → 1 ≤ owned f i x → 1 ≤ (w.slab f).inuse
some_in_use w x others f i s live holds =
    let y = s.chains in
    let free = alone w y x others f i s.placed holds in
    let once : (j : ℕ) → times j (y.own f) ≤ exists_at w f j = λ j. let o = s.placed.once f j in let e = word-object w f j live in let p = places-cons w y x others f j in omega arith in
    let within = exists_at-within w f i (let o = s.placed.once f i in let e = word-object w f i live in let p = places-cons w y x others f i in omega arith) in
    let sum = length-as_sum (w.slab f).objects (y.own f) (λ j past. let o = once j in let z : exists_at w f j ≡ 0 = rw (le-ltb j (w.slab f).objects past) refl in omega arith) in
    let room = sum_below-room (w.slab f).objects (λ j. times j (y.own f)) i within (λ j. let o = once j in let e = word-object w f j live in let z = object_at-le w f j in omega arith) free.own in
    let c = s.listed.shaped.counted f in
    omega arith

-- an object that a worker holds in a call of an unchecked cache is of a slab with a word, which is of that cache
pub held-object : (w : World) (x : Worker) (others : List Worker) → Stands w (x ∷ others) → in_plain x.local.spot ≡ true
    → (x.local.place < length x.local.known) × ((here x.local).held ≡ true) × ((here x.local).cache ≡ x.local.cache)
    → IsPlainObject w x.local.cache (here x.local).frame (here x.local).index × (1 ≤ owned (here x.local).frame (here x.local).index x)
held-object w x others s is h =
    let ok = All-head (IsAtWork w) x others s.fresh.workers in
    let k = here x.local in
    let plain = ok.spot.plain is in
    let some = known-owned x x.local.place nobody h.0 h.1 in
    let e = All-head (λ o. owned k.frame k.index o ≤ object_at w k.frame k.index) x others (owned-object w s.chains (x ∷ others) k.frame k.index s.placed) in
    (plain-object w s.chains x.local.cache k.frame k.index s.listed.shaped plain.2 (sym h.2 ∙ ok.seen.known x.local.place nobody h.0 h.1) (omega arith), some)

pub freed-object : (w : World) (x : Worker) (others : List Worker) → Stands w (x ∷ others) → frees x.local.spot ≡ true → IsPlainObject w x.local.cache (here x.local).frame (here x.local).index × (1 ≤ owned (here x.local).frame (here x.local).index x)
freed-object w x others s is = held-object w x others s (frees-plain x.local.spot is) ((All-head (IsAtWork w) x others s.fresh.workers).spot.frees is)

-- ---- the slab word of an object that is freed

abbrev with_slab : Worker → SlabWord → Spot → Worker
with_slab x v spot = record x { local = record x.local { slab_word = v; spot = spot } }

abbrev IsSlabWord : SlabWord → Type 0
IsSlabWord v = (v.head < 2 ^ 16) × (v.inuse < 2 ^ 16) × (v.objects < 2 ^ 16) × (v.cache < 2 ^ 8)

lock_free-work : (w : World) (x : Worker) (v : SlabWord) → x.local.spot ≡ InFree LoadSlab → IsSlabWord v → IsAtWork w x → IsAtWork w (with_slab x v (InFree LockFree))
lock_free-work w x v is fits ok = grind arith

link_slab-work : (w : World) (x : Worker) (v : SlabWord) → x.local.spot ≡ InFree LoadSlab → IsSlabWord v → 1 ≤ v.inuse → is_last_listed v ≡ false → IsAtWork w x → IsAtWork w (with_slab x v (InFree LinkSlab))
link_slab-work w x v is fits used last ok = grind arith

pub at_LoadSlab : (w : World) (x : Worker) (others : List Worker) (word : ℕ) → x.local.spot ≡ InFree LoadSlab → w.slab (here x.local).frame ≡ slab_in word → Stands w (x ∷ others)
    → ComesTo w others (free_advance w.setup x.local LoadSlab (Word word)).local
at_LoadSlab w x others word is there s = (with_slab x v (way_of_slab v), refl, by_last)
  where
    v : SlabWord
    v = slab_in word

    ok : IsAtWork w x
    ok = All-head (IsAtWork w) x others s.fresh.workers

    fits : IsSlabWord v
    fits = subst IsSlabWord there (s.fresh.worded.slab (here x.local).frame)

    GoesTo : Spot → Type 0
    GoesTo spot = Stands w (with_slab x v spot ∷ others)

    used : 1 ≤ v.inuse
    used = let o = freed-object w x others s (rw is refl) in subst (λ (u : SlabWord). 1 ≤ u.inuse) there (some_in_use w x others (here x.local).frame (here x.local).index s o.0.live o.1)

    by_last : GoesTo (way_of_slab v)
    by_last = cond_both (is_last_listed v) (InFree LockFree) (InFree LinkSlab) GoesTo
        (λ e. local_step w x _ others s (λ f i. refl) (record { home = λ f. refl; marked = λ f. rw is refl; covered = λ g. refl; takes = λ k. rw is refl }) (lock_free-work w x v is fits ok))
        (λ e. local_step w x _ others s (λ f i. refl) (record { home = λ f. refl; marked = λ f. rw is refl; covered = λ g. refl; takes = λ k. rw is refl }) (link_slab-work w x v is fits used e ok))

link_locked-work : (w : World) (x : Worker) (v : SlabWord) → x.local.spot ≡ InFree LoadLocked → IsSlabWord v → is_last_listed v ≡ true → IsAtWork w x → IsAtWork w (with_slab x v (InFree LinkLocked))
link_locked-work w x v is fits last ok = grind arith

go_back-work : (w : World) (x : Worker) (v : SlabWord) → x.local.spot ≡ InFree LoadLocked → IsSlabWord v → IsAtWork w x → IsAtWork w (with_slab x v (InFree GoBack))
go_back-work w x v is fits ok = grind arith

pub at_LoadLocked : (w : World) (x : Worker) (others : List Worker) (word : ℕ) → x.local.spot ≡ InFree LoadLocked → w.slab (here x.local).frame ≡ slab_in word → Stands w (x ∷ others)
    → ComesTo w others (free_advance w.setup x.local LoadLocked (Word word)).local
at_LoadLocked w x others word is there s = (with_slab x v (way_of_locked v), refl, by_last)
  where
    v : SlabWord
    v = slab_in word

    ok : IsAtWork w x
    ok = All-head (IsAtWork w) x others s.fresh.workers

    fits : IsSlabWord v
    fits = subst IsSlabWord there (s.fresh.worded.slab (here x.local).frame)

    GoesTo : Spot → Type 0
    GoesTo spot = Stands w (with_slab x v spot ∷ others)

    by_last : GoesTo (way_of_locked v)
    by_last = cond_both (is_last_listed v) (InFree LinkLocked) (InFree GoBack) GoesTo
        (λ e. local_step w x _ others s (λ f i. refl) (record { home = λ f. refl; marked = λ f. rw is refl; covered = λ g. refl; takes = λ k. rw is refl }) (link_locked-work w x v is fits e ok))
        (λ e. local_step w x _ others s (λ f i. refl) (record { home = λ f. refl; marked = λ f. rw is refl; covered = λ g. refl; takes = λ k. rw is refl }) (go_back-work w x v is fits ok))
