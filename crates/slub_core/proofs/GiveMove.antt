-- The node lock is given back when a set of slabs was moved.
use Rattle.std.proofs.Common.{◌≡◌, ℕ, suc, ◌+◌, ◌<◌, ◌≤◌, ◌==◌, false, Some, None, List, [], ◌∷◌, length, refl, sym, ap, ◌∙◌, arith, inl, inr}
use Rattle.std.specs.Prelude.{slice_index}
use Rattle.std.proofs.lemmas.Bool.{cases_eq, cases_lt, ne_eqb, lt-ltb, le-ltb}
use Rattle.std.proofs.lemmas.List.Elements.{All-head}
use Rattle.slub_core.specs.declared.local.Hand.{Hand}
use Rattle.slub_core.specs.declared.step.Answer.TheVariants.{Done}
use Rattle.slub_core.specs.declared.spot.Spot.TheVariants.{Between, InMoveSet, InPutOnList, InOffline, InTrim}
use Rattle.slub_core.specs.declared.spot.MoveSet.{MoveSet}
use Rattle.slub_core.specs.declared.spot.MoveSet.TheVariants.{ForFree, ForOffline}
use Rattle.slub_core.specs.declared.spot.MoveSetSpot.TheVariants.{GiveMove}
use Rattle.slub_core.specs.declared.spot.PutOnList.TheVariants.{OfFree}
use Rattle.slub_core.specs.declared.spot.PutOnListSpot.TheVariants.{LoadList}
use Rattle.slub_core.specs.declared.spot.Sweep.TheVariants.{Trimming, Flushing}
use Rattle.slub_core.specs.declared.spot.OfflineSpot.TheVariants.{LoadCurrent}
use Rattle.slub_core.specs.declared.spot.TrimSpot.TheVariants.{LockTrim}
use Rattle.slub_core.specs.Setup.{IsPlain, node_lock}
use Rattle.slub_core.specs.World.{World, set_lock, one_if}
use Rattle.slub_core.specs.Local.{Local, Worker, at}
use Rattle.slub_core.specs.Alloc.{single_string}
use Rattle.slub_core.specs.Spots.{Kept, is_marked}
use Rattle.slub_core.specs.Free.{alone}
use Rattle.slub_core.specs.Offline.{trimmed_cpu, flushed_cache}
use Rattle.slub_core.specs.MoveSet.{move_set_advance}
use Rattle.slub_core.specs.Fresh.{IsAtWork, IsCursor, IsKeptSlab, IsHeldString, AreHands, AreHeld}
use Rattle.slub_core.specs.Coherent.{Stands}
use Rattle.slub_core.proofs.StepHands.{one-hand, in_chain-nil}
use Rattle.slub_core.proofs.Lists.{times-first}
use Rattle.slub_core.proofs.Locks.{ComesTo, HasSame, lent, give-node}

-- ---- a free goes on with the slab that it has in hand, as a string of one

pub single-cursor : (f : ℕ) → IsCursor (single_string f) (f ∷ [])
single-cursor f = record { count = refl; place = (omega arith, omega arith); cursor = refl }

alone-work : (w : World) (x : Worker) (h : Hand) → x.local.spot ≡ InMoveSet GiveMove ForFree → x.local.hands ≡ h ∷ [] → IsCursor (single_string h.frame) (h.frame ∷ []) → IsHeldString w x.local.cache (Some (single_string h.frame)) (h.frame ∷ [])
    → ((n : ℕ) → w.lock n ≡ suc x.local.worker) → IsAtWork w x → IsAtWork w (record x { local = record x.local { hands = []; string = Some (single_string h.frame); spot = InPutOnList LoadList OfFree }; chains = []; string = h.frame ∷ [] })
alone-work w x h is one cursor held locks ok = grind arith

pub alone-held : (w : World) (cache f : ℕ) → 1 ≤ f → IsKeptSlab (w.slab f) cache → IsHeldString w cache (Some (single_string f)) (f ∷ [])
alone-held w cache f real kept = (
  (refl, tt),
  tt,
  λ g some. elim (cases_eq f g) [
    | inl e ↦ (rw (sym e) real, rw (sym e) kept)
    | inr d ↦ absurd (let t = times-first g f [] in let o : one_if (f == g) ≡ 0 = rw (ne_eqb f g d) refl in omega arith)
  ],
)

-- the slab in hand, by what the worker relies on
kept-slab : (w : World) (x : Worker) (h : Hand) (xs : List ℕ) → x.local.spot ≡ InMoveSet GiveMove ForFree → x.local.hands ≡ h ∷ [] → x.chains ≡ xs ∷ [] → IsAtWork w x → (1 ≤ h.frame) × (xs ≡ []) × IsKeptSlab (w.slab h.frame) x.local.cache
kept-slab w x h xs is one chain ok =
    let a : AreHands (Kept ∷ []) (h ∷ []) (xs ∷ []) = rw (is, one, chain) at ok.spot.hands in
    let b : AreHeld w x.local.cache (Kept ∷ []) (h ∷ []) (xs ∷ []) 0 = rw (is, one, chain) at ok.seen.hands in
    (a.0, a.3.1, record { owner = b.1; unfrozen = b.2.0; unlisted = b.2.1; head = b.2.2 })

at_GiveMove-free : (w : World) (x : Worker) (others : List Worker) → x.local.spot ≡ InMoveSet GiveMove ForFree → Stands w (x ∷ others)
    → ComesTo (set_lock w (node_lock x.local.cache) 0) others (move_set_advance w.setup w.value x.local GiveMove ForFree Done).local
at_GiveMove-free w x others is s =
    let ok = All-head (IsAtWork w) x others s.fresh.workers in
    let r = one-hand Kept x.local.hands x.chains (rw is at ok.spot.hands) in
    by_hand r.0 r.1 r.2 r.3 ok
  where
    by_hand : (h : Hand) (xs : List ℕ) → x.local.hands ≡ h ∷ [] → x.chains ≡ xs ∷ [] → IsAtWork w x → ComesTo (set_lock w (node_lock x.local.cache) 0) others (alone x.local)
    by_hand h xs one chain ok =
        let cache = (ok.spot.plain (rw is refl)).0 in
        let k = kept-slab w x h xs is one chain ok in
        let bare : x.chains ≡ [] ∷ [] = chain ∙ ap (λ ys. ys ∷ []) k.1 in
        let none : x.local.string ≡ None = ok.spot.no_string (rw is refl) in
        let empty : x.string ≡ [] = rw none at ok.spot.string in
        let f = h.frame in
        let held = alone-held w x.local.cache f k.0 k.2 in (
          record { local = record x.local { hands = []; string = Some (single_string f); spot = InPutOnList LoadList OfFree }; chains = []; string = f ∷ [] },
          rw one refl,
          give-node w x _ others s cache
              (record {
                owned = λ g i. rw (one, bare) (let n = in_chain-nil f g i in omega arith);
                home = λ g. rw (one, empty) (let t = times-first g f [] in omega arith);
                marked = λ g. rw is refl;
                covered = λ g. refl;
              }) (rw is refl) (rw is refl) refl refl refl
              (alone-work (lent w x.local.worker) x h is one (single-cursor f) held (λ n. refl)),
        )

-- ---- a sweep goes on with the next CPU or the next cache

next_cpu-work : (w : World) (x : Worker) → x.local.spot ≡ InMoveSet GiveMove (ForOffline Trimming) → x.local.cpu + 1 < w.setup.cpus → ((n : ℕ) → w.lock n ≡ suc x.local.worker) → IsAtWork w x
    → IsAtWork w (record x { local = record x.local { cpu = x.local.cpu + 1; spot = InOffline LoadCurrent Trimming } })
next_cpu-work w x is more locks ok = grind arith

last_cpu-work : (w : World) (x : Worker) → x.local.spot ≡ InMoveSet GiveMove (ForOffline Trimming) → ((n : ℕ) → w.lock n ≡ suc x.local.worker) → IsAtWork w x
    → IsAtWork w (record x { local = at x.local (InTrim LockTrim) })
last_cpu-work w x is locks ok = grind arith

next_cache-work : (w : World) (x : Worker) → x.local.spot ≡ InMoveSet GiveMove (ForOffline Flushing) → x.local.turn + 1 < length w.setup.plain → IsPlain w.setup (slice_index w.setup.plain (x.local.turn + 1)) → ((n : ℕ) → w.lock n ≡ suc x.local.worker) → IsAtWork w x
    → IsAtWork w (record x { local = record x.local { turn = x.local.turn + 1; cache = slice_index w.setup.plain (x.local.turn + 1); spot = InOffline LoadCurrent Flushing } })
next_cache-work w x is more plain locks ok = grind arith

last_cache-work : (w : World) (x : Worker) → x.local.spot ≡ InMoveSet GiveMove (ForOffline Flushing) → ((n : ℕ) → w.lock n ≡ suc x.local.worker) → IsAtWork w x
    → IsAtWork w (record x { local = at x.local Between })
last_cache-work w x is locks ok = grind arith

kept-all : (x : Worker) (l : Local) → l.known ≡ x.local.known → l.hands ≡ x.local.hands → l.run ≡ x.local.run → is_marked x.local.spot ≡ false → is_marked l.spot ≡ false → HasSame x (record x { local = l })
kept-all x l known hands run was now = record {
  owned = λ f i. rw (known, hands) refl;
  home = λ f. rw hands refl;
  marked = λ f. rw (was, now) refl;
  covered = λ g. rw run refl;
}

at_GiveMove-trim : (w : World) (x : Worker) (others : List Worker) → x.local.spot ≡ InMoveSet GiveMove (ForOffline Trimming) → Stands w (x ∷ others)
    → ComesTo (set_lock w (node_lock x.local.cache) 0) others (trimmed_cpu w.setup x.local).local
at_GiveMove-trim w x others is s =
    let cache = ((All-head (IsAtWork w) x others s.fresh.workers).spot.plain (rw is refl)).0 in
    elim (cases_lt (x.local.cpu + 1) w.setup.cpus) [
      | inl l ↦ (
        record x { local = record x.local { cpu = x.local.cpu + 1; spot = InOffline LoadCurrent Trimming } },
        rw (lt-ltb (x.local.cpu + 1) w.setup.cpus l) refl,
        give-node w x _ others s cache (kept-all x _ refl refl refl (rw is refl) refl) (rw is refl) (rw is refl) refl refl refl (next_cpu-work (lent w x.local.worker) x is l (λ n. refl)),
      )
      | inr g ↦ (
        record x { local = at x.local (InTrim LockTrim) },
        rw (le-ltb (x.local.cpu + 1) w.setup.cpus g) refl,
        give-node w x _ others s cache (kept-all x _ refl refl refl (rw is refl) refl) (rw is refl) (rw is refl) refl refl refl (last_cpu-work (lent w x.local.worker) x is (λ n. refl)),
      )
    ]

at_GiveMove-flush : (w : World) (x : Worker) (others : List Worker) → x.local.spot ≡ InMoveSet GiveMove (ForOffline Flushing) → Stands w (x ∷ others)
    → ComesTo (set_lock w (node_lock x.local.cache) 0) others (flushed_cache w.setup x.local).local
at_GiveMove-flush w x others is s =
    let cache = ((All-head (IsAtWork w) x others s.fresh.workers).spot.plain (rw is refl)).0 in
    elim (cases_lt (x.local.turn + 1) (length w.setup.plain)) [
      | inl l ↦ (
        record x { local = record x.local { turn = x.local.turn + 1; cache = slice_index w.setup.plain (x.local.turn + 1); spot = InOffline LoadCurrent Flushing } },
        rw (lt-ltb (x.local.turn + 1) (length w.setup.plain) l) refl,
        give-node w x _ others s cache (kept-all x _ refl refl refl (rw is refl) refl) (rw is refl) (rw is refl) refl refl refl (next_cache-work (lent w x.local.worker) x is l (s.fresh.setup.plain (x.local.turn + 1) 0 l) (λ n. refl)),
      )
      | inr g ↦ (
        record x { local = at x.local Between },
        rw (le-ltb (x.local.turn + 1) (length w.setup.plain) g) refl,
        give-node w x _ others s cache (kept-all x _ refl refl refl (rw is refl) refl) (rw is refl) (rw is refl) refl refl refl (last_cache-work (lent w x.local.worker) x is (λ n. refl)),
      )
    ]

pub at_GiveMove : (w : World) (x : Worker) (others : List Worker) (move : MoveSet) → x.local.spot ≡ InMoveSet GiveMove move → Stands w (x ∷ others)
    → ComesTo (set_lock w (node_lock x.local.cache) 0) others (move_set_advance w.setup w.value x.local GiveMove move Done).local
at_GiveMove w x others ForFree is s = at_GiveMove-free w x others is s
at_GiveMove w x others (ForOffline Trimming) is s = at_GiveMove-trim w x others is s
at_GiveMove w x others (ForOffline Flushing) is s = at_GiveMove-flush w x others is s
