-- At once: the last object of a checked slab is taken back, and the slab goes where enough are listed.
use Rattle.std.proofs.Common.{◌≡◌, ℕ, suc, ◌+◌, ◌<◌, ◌≤◌, true, false, Option, Some, None, List, ◌∷◌, length, get_or, set, refl, sym, ap, ◌∙◌, subst, arith, inr}
use Rattle.std.specs.Prelude.{All, IsSome, nat_lt, option_map, unwrap_or, slice_index_or}
use Rattle.std.proofs.lemmas.Option.{none-some}
use Rattle.std.proofs.lemmas.Bool.{lt-ltb, le-ltb, false≢true}
use Rattle.std.proofs.lemmas.List.{length-set}
use Rattle.std.proofs.lemmas.List.Elements.{All-head}
use Rattle.slub_red_zone.specs.declared.checked.Run.{Run}
use Rattle.slub_red_zone.specs.State.{SlabState, CheckedState, no_slab, slab_of, objects_in, free_count, used_count, aside_count, slab_count}
use Rattle.slub_red_zone.specs.Sound.{IsSound}
use Rattle.slub_red_zone.specs.Kept.{IsKept}
use Rattle.slub_red_zone.specs.Zones.{red_inactive}
use Rattle.slub_red_zone.specs.Objects.{shape_of, shape_at, idle}
use Rattle.slub_red_zone.specs.Steps.{IsSpare, with_taken, without_slab}
use Rattle.slub_red_zone.proofs.Comings.{gone-kept}
use Rattle.slub_red_zone.proofs.Objects.{taken-object, takes-slab}
use Rattle.slub_red_zone.proofs.Taken.{used-some, used-inside, taken-sound}
use Rattle.slub_red_zone.proofs.Whole.{slab-there, slab-sound, frame-positive}
use Rattle.slub_core.specs.declared.call.CallKind.TheVariants.{Free}
use Rattle.slub_core.specs.declared.local.Known.{Known}
use Rattle.slub_core.specs.declared.local.FrameRun.{FrameRun}
use Rattle.slub_core.specs.declared.spot.Spot.TheVariants.{InChecked}
use Rattle.slub_core.specs.declared.spot.CheckedSpot.TheVariants.{DoChecked, LockRun}
use Rattle.slub_core.specs.Setup.{node_lock}
use Rattle.slub_core.specs.World.{World, LockValue, Checked, set_value, cache_at, objects_at, order_at, object_at, size_in, idle_in, one_if, in_run}
use Rattle.slub_core.specs.Local.{Worker, nobody, here, loses, stays}
use Rattle.slub_core.specs.Checked.{slot_of, with_slabs, run_at}
use Rattle.slub_core.specs.Placed.{owned}
use Rattle.slub_core.specs.Listed.{takes, IsCheckedOf}
use Rattle.slub_object_layout.specs.Layout.{IsSized}
use Rattle.slub_core.specs.Fresh.{IsHeldRun, IsAtWork}
use Rattle.slub_core.specs.Coherent.{Stands}
use Rattle.slub_core.proofs.CheckedBytes.{length-set_slot}
use Rattle.slub_core.proofs.CheckedSpots.{held-object}
use Rattle.slub_core.proofs.CheckedStep.{shape-size, shape-order, object-there}
use Rattle.slub_core.proofs.Counts.{places-cons}
use Rattle.slub_core.proofs.Kind22.{slab-inside}
use Rattle.slub_core.proofs.Knowns.{held-loses, known-set, here-set}
use Rattle.slub_core.proofs.OneSlab.{IsOneSlab, having, one_slab_step, old-here, run_at_slab}
use Rattle.slub_core.proofs.UnderLock.{Makes, takes-node, locks-same}
use Rattle.slub_core.proofs.Update.{term_le_sum}
use Rattle.slub_core.proofs.ValueStep.{known-owned}

freed-work : (w : World) (x : Worker) (n : ℕ) (v : LockValue) (k : Known) (run : FrameRun) → x.local.spot ≡ InChecked DoChecked Free → length (set x.local.known x.local.place k) ≡ length x.local.known
    → get_or (set x.local.known x.local.place k) x.local.place nobody ≡ k → k.object ≡ (here x.local).object → IsHeldRun (set_value w n v) x.local.cache (Some run) 0
    → All (λ (k : Known). k.held ≡ true → k.cache ≡ cache_at (set_value w n v) k.frame) (set x.local.known x.local.place k)
    → ((n : ℕ) → 1 ≤ takes n (record x { local = record x.local { known = set x.local.known x.local.place k; run = Some run; spot = InChecked LockRun Free } }) → w.lock n ≡ suc x.local.worker) → IsAtWork w x
    → IsAtWork (set_value w n v) (record x { local = record x.local { known = set x.local.known x.local.place k; run = Some run; spot = InChecked LockRun Free } })
freed-work w x n v k run is same now object held known locks ok = grind arith

-- a sound cache with its counts
pub kept-of : (s : CheckedState) → IsSound s → IsKept s (record { free = free_count s; used = used_count s; aside = aside_count s; slabs = slab_count s }) 4096 4096 (free_count s + used_count s + aside_count s)
kept-of s sound = record { sound = sound; are_totals = record { free = refl; used = refl; aside = refl; slabs = refl }; list_room = refl; counts_room = omega arith; reports_room = omega arith }

-- a slab that is there no more has no object
pub shape-none : (s : CheckedState) (f : ℕ) → shape_at s f ≡ None → objects_in (slab_of s f) ≡ 0
shape-none s f e = none (slice_index_or s.slabs f None) e
  where
    none : (a : Option SlabState) → option_map shape_of a ≡ None → objects_in (unwrap_or a no_slab) ≡ 0
    none None e = refl
    none (Some slab) e = absurd (none-some (shape_of slab) (sym e))

-- the slab is in no other value
only-one : (w : World) (x : Worker) (others : List Worker) (n f : ℕ) (old : CheckedState) → Stands w (x ∷ others) → n < w.setup.locks → w.value n ≡ Checked old → (w.slab f).objects ≡ 0 → 1 ≤ objects_in (slab_of old f)
    → having w.value w.setup.locks f ≡ one_if (nat_lt 0 (objects_in (slab_of old f)))
only-one w x others n f old s below was none some =
    let a = s.listed.shaped.alone f in
    let t = term_le_sum w.setup.locks (λ k. one_if (nat_lt 0 (size_in (w.value k) f))) n below in
    let b : one_if (nat_lt 0 (objects_in (slab_of old f))) ≡ 1 = rw (lt-ltb 0 (objects_in (slab_of old f)) some) refl in
    let c : one_if (nat_lt 0 (size_in (w.value n) f)) ≡ one_if (nat_lt 0 (objects_in (slab_of old f))) = ap (λ v. one_if (nat_lt 0 (size_in v f))) was in
    omega arith

pub do_free-spare : (w : World) (x : Worker) (others : List Worker) (old : CheckedState) → x.local.spot ≡ InChecked DoChecked Free → Stands w (x ∷ others) → w.value (node_lock x.local.cache) ≡ Checked old → IsCheckedOf w.setup x.local.cache old
    → IsSpare (with_taken old (slot_of x.local)) (here x.local).frame (w.setup.layout x.local.cache).min_partial
    → Makes w others (stays (with_slabs w.value x.local (without_slab (with_taken old (slot_of x.local)) (here x.local).frame)) (record (loses x.local) { run = Some (run_at (with_taken old (slot_of x.local)) (here x.local).frame); spot = InChecked LockRun Free }))
do_free-spare w x others old is s was of spare =
    let ok = All-head (IsAtWork w) x others s.fresh.workers in
    let n = node_lock x.local.cache in
    let f = (here x.local).frame in
    let slot = slot_of x.local in
    let mid = with_taken old slot in
    let new = without_slab mid f in
    let checked = ok.spot.checked (rw is refl) in
    let count = s.fresh.setup.locks in
    let below : n < w.setup.locks = let c = checked.0 in omega arith in
    let used = held-object w x others old s (rw is refl) (rw is refl) was in
    let keep = ok.spot.keeps (rw is refl) in
    let took = taken-object old slot of.sound used in
    let sound = taken-sound old slot of.sound used (length-set_slot old.layout old.flags red_inactive (slab_of old slot.frame).bytes slot.index of.sound.layout.bounds (used-inside old slot of.sound used)) in
    let size = shape-size old mid f (took.slabs.shape f) in
    let order = shape-order old mid f (took.slabs.shape f) in
    let some : 1 ≤ objects_in (slab_of old f) = used-some old slot of.sound used in
    let some_mid : 0 < objects_in (slab_of mid f) = omega arith in
    let there = slab-there mid.slabs f some_mid in
    let run : Run = record { frame = f; order = (slab_of mid f).order } in
    let gone = takes-slab mid f (w.setup.layout x.local.cache).min_partial run new sound (subst (λ a. IsSome a) (sym there) refl) (spare, refl, refl) in
    let all = spare.all_free in
    let sound_new = (gone-kept mid f (slab_of mid f) sound there (omega arith) (kept-of mid sound)).sound in
    let none_new = shape-none new f gone.shape in
    let owner = ok.seen.known x.local.place nobody keep.0 keep.1 in
    let held = known-owned x x.local.place nobody keep.0 keep.1 in
    let places = λ (j : ℕ). places-cons w s.chains x others f j in
    let exists : 1 ≤ object_at w f slot.index = let p = places slot.index in let o = s.placed.once f slot.index in omega arith in
    let o = object-there w x others old f slot.index s (rw is refl) was (sym keep.2 ∙ owner) exists in
    let here_old : objects_at w f ≡ objects_in (slab_of old f) = o.1 in
    let one : IsOneSlab w n old new f = record {
      below = below;
      was = was;
      elsewhere = λ g d. gone.others.shape g d ∙ took.slabs.shape g;
      unworded = o.2;
      only = only-one w x others n f old s below was o.2 some;
      real = λ e. absurd (let p = frame-positive old f of.sound some in omega arith);
      within = s.listed.shaped.within f (omega arith);
      aligned = λ more. absurd (omega arith);
      either = inr none_new;
    } in
    let was_here = old-here w n old new f one in
    let order_is : order_at w f ≡ (slab_of mid f).order = was_here.1 some ∙ sym order in
    let inside = slab-inside w (x ∷ others) f s (omega arith) in
    let sized : IsSized (w.setup.layout x.local.cache) (slab_of mid f).order (objects_in (slab_of mid f)) = subst (λ l. IsSized l (slab_of mid f).order (objects_in (slab_of mid f))) of.layout (slab-sound mid f sound some_mid).sized in
    let k : Known = record (here x.local) { held = false } in
    let z : Worker = record x { local = record x.local { known = set x.local.known x.local.place k; run = Some (run_at mid f); spot = InChecked LockRun Free } } in
    let same : (j : ℕ) → takes j z ≡ takes j x = λ j. rw is refl in
    let no_run : x.local.run ≡ None = ok.spot.no_run (rw is refl) in
    let held_run : IsHeldRun (set_value w n (Checked new)) x.local.cache (Some (run_at mid f)) 0 = (record { first = frame-positive old f of.sound some; inside = rw order_is at inside; aligned = rw order_is at (s.listed.shaped.aligned f (omega arith)); sized = sized }, o.2, λ i none. absurd (omega arith)) in
    let full : (j : ℕ) → idle mid f j ≡ one_if (nat_lt j (objects_in (slab_of old f))) = λ j. gone.before j ∙ ap (λ a. one_if (nat_lt j a)) size in
    let here' : (j : ℕ) → owned f j z + idle new f j + one_if (nat_lt j (objects_in (slab_of old f))) ≡ owned f j x + idle old f j + one_if (nat_lt j (objects_in (slab_of new f)))
    = λ j.
    let h = held-loses f j x.local keep.0 keep.1 in
    let e = took.objects f j in
    let a = full j in
    let b = gone.objects j in
    let c : one_if (nat_lt j (objects_in (slab_of new f))) ≡ 0 = ap (λ a. one_if (nat_lt j a)) none_new ∙ ap one_if (le-ltb j 0 (omega arith)) in
    omega arith in (
      z,
      refl,
      one_slab_step w x z others n old new f s (takes-node x (rw is refl)) one
          (x.local.cache, refl, checked.1, checked.2, record { sound = sound_new; number = of.number; layout = of.layout })
          (λ g j d. let h = held-loses g j x.local keep.0 keep.1 in let e = took.objects g j in let a = gone.others.objects g j d in omega arith)
          here'
          (λ g. refl) (λ g. rw is refl)
          (λ g.
          let a : run_at_slab new f g ≡ 0 = rw none_new refl in
          let b : run_at_slab old f g ≡ in_run g f (slab_of mid f).order = rw (lt-ltb 0 (objects_in (slab_of old f)) some, order) refl in
          rw no_run (omega arith))
          same
          (λ caches. freed-work w x n (Checked new) k (run_at mid f) is (length-set x.local.known x.local.place k) (here-set x.local k keep.0) refl held_run
          (λ p d under is_held.
          let g = get_or (set x.local.known x.local.place k) p d in
          let mine = known-owned z p d under is_held in
          known-set w x.local.known x.local.place k (λ h. absurd (false≢true h)) ok.seen.known p d under is_held ∙ sym (caches g.frame (λ e. absurd (
          let at_f : 1 ≤ owned f g.index z = subst (λ h. 1 ≤ owned h g.index z) e mine in
          let b = here' g.index in
          let c : one_if (nat_lt g.index (objects_in (slab_of new f))) ≡ 0 = ap (λ a. one_if (nat_lt g.index a)) none_new ∙ ap one_if (le-ltb g.index 0 (omega arith)) in
          let q = places g.index in
          let r = s.placed.once f g.index in
          let t = term_le_sum w.setup.locks (λ n. idle_in (w.value n) f g.index) n below in
          let u : idle_in (w.value n) f g.index ≡ idle old f g.index = ap (λ v. idle_in v f g.index) was in
          let v : object_at w f g.index ≡ one_if (nat_lt g.index (objects_in (slab_of old f))) = ap (λ a. one_if (nat_lt g.index a)) here_old in
          omega arith))))
          (locks-same w x z refl same ok) ok)
          (λ e. absurd (omega arith)),
    )
