-- At once: a run in hand is added to a checked cache as a slab, of which the first object is given; or it is put back.
use Rattle.std.proofs.Common.{◌≡◌, ℕ, suc, ◌+◌, ◌-◌, ◌%◌, ◌^◌, ◌<◌, ◌≤◌, Bool, true, false, Option, Some, None, List, ◌∷◌, length, get_or, set, refl, sym, ap, ◌∙◌, subst, arith, inl, inr}
use Rattle.std.specs.Prelude.{All, IsSome, IfSome, nat_lt, option_map, unwrap_or, slice_index_or, if◌then◌else◌}
use Rattle.std.proofs.lemmas.Bool.{cases_lt, ne_eqb, lt-ltb, le-ltb, false≢true}
use Rattle.std.proofs.lemmas.Option.{none-some, same_Some}
use Rattle.std.proofs.lemmas.List.{length-set}
use Rattle.std.proofs.lemmas.List.Elements.{All-head}
use Rattle.slub_red_zone.specs.declared.checked.Slot.{Slot}
use Rattle.slub_red_zone.specs.declared.checked.Run.{Run}
use Rattle.slub_red_zone.specs.State.{SlabState, CheckedState, Has, no_slab, slab_of, objects_in, free_count, used_count, aside_count}
use Rattle.slub_red_zone.specs.Sound.{IsSound, IsSlab}
use Rattle.slub_red_zone.specs.Zones.{red_active}
use Rattle.slub_red_zone.specs.Objects.{shape_of, shape_at, idle}
use Rattle.slub_red_zone.specs.Steps.{with_new_slab, with_given}
use Rattle.slub_red_zone.proofs.Comings.{new-kept}
use Rattle.slub_red_zone.proofs.Given.{next-inside, given-sound}
use Rattle.slub_red_zone.proofs.Objects.{first-comes, adds-given}
use Rattle.slub_core.specs.declared.call.CallKind.{CallKind}
use Rattle.slub_core.specs.declared.call.CallKind.TheVariants.{Alloc}
use Rattle.slub_core.specs.declared.local.Known.{Known}
use Rattle.slub_core.specs.declared.local.FrameRun.{FrameRun}
use Rattle.slub_core.specs.declared.spot.Spot.TheVariants.{InChecked}
use Rattle.slub_core.specs.declared.spot.CheckedSpot.TheVariants.{AddSlab, GiveRun}
use Rattle.slub_core.specs.Setup.{node_lock, pool_lock}
use Rattle.slub_core.specs.World.{World, LockValue, Checked, Pool, set_value, cache_at, object_at, size_in, idle_in, pool_of, one_if, is_at, in_run}
use Rattle.slub_core.specs.Local.{Worker, nobody, here, run_of}
use Rattle.slub_core.specs.Discard.{with_put}
use Rattle.slub_core.specs.Checked.{slabs_of, slabs_in, slab_added, slab_refused, checked_at_once}
use Rattle.slub_core.specs.Placed.{owned}
use Rattle.slub_core.specs.Listed.{covered_by, takes, IsCheckedOf}
use Rattle.slub_object_layout.specs.Layout.{IsSized}
use Rattle.slub_core.specs.Fresh.{IsHeldRun, IsAtWork}
use Rattle.slub_core.specs.Coherent.{Stands}
use Rattle.slub_core.proofs.CheckedBytes.{length-set_slot, length-new_bytes}
use Rattle.slub_core.proofs.CheckedFree.{kept-of}
use Rattle.slub_core.proofs.CheckedStep.{the-slabs}
use Rattle.slub_core.proofs.Counts.{places-cons}
use Rattle.slub_core.proofs.Kind21.{no-values, nobody-covers, run-some}
use Rattle.slub_core.proofs.Knowns.{held-gets, known-set, here-set}
use Rattle.slub_core.proofs.OneSlab.{IsOneSlab, one_slab_step, new-here, run_at_slab}
use Rattle.slub_core.proofs.PoolSpots.{sized-small, put-pool, some-run}
use Rattle.slub_core.proofs.RemakeStep.{run-first, pow-some}
use Rattle.slub_core.proofs.UnderLock.{Makes, takes-node, pool_step, known-same, locks-same}
use Rattle.slub_core.proofs.Update.{term_le_sum}
use Rattle.slub_core.proofs.StepValues.{value-slab}
use Rattle.slub_core.proofs.ValueStep.{known-owned}

-- ---- there is no memory for the slab's bytes

refused-work : (w : World) (x : Worker) (n : ℕ) (v : LockValue) (kind : CallKind) → x.local.spot ≡ InChecked AddSlab kind → All (λ (k : Known). k.held ≡ true → k.cache ≡ cache_at (set_value w n v) k.frame) x.local.known
    → ((n : ℕ) → 1 ≤ takes n (record x { local = record x.local { run = None; spot = InChecked GiveRun Alloc } }) → w.lock n ≡ suc x.local.worker) → IsAtWork w x
    → IsAtWork (set_value w n v) (record x { local = record x.local { run = None; spot = InChecked GiveRun Alloc } })
refused-work w x n v kind is known locks ok = grind arith

pub refuses : (w : World) (x : Worker) (others : List Worker) (kind : CallKind) (run : FrameRun) → x.local.spot ≡ InChecked AddSlab kind → x.local.run ≡ Some run → Stands w (x ∷ others) → Makes w others (slab_refused w.value x.local (pool_of w) run)
refuses w x others kind run is has s =
    let ok = All-head (IsAtWork w) x others s.fresh.workers in
    let checked = ok.spot.checked (rw is refl) in
    let layout = s.fresh.setup.layout x.local.cache checked.1 in
    let seen : IsHeldRun w x.local.cache (Some run) 0 = rw (is, has) at ok.seen.run in
    let small = sized-small (record (w.setup.layout x.local.cache) { min_partial = 5; cpu_partial_slabs = 0 }) run.order run.objects layout seen.0.sized in
    let put = put-pool w x others run s has small seen.0 in
    let pool = with_put (pool_of w) run in
    let z : Worker = record x { local = record x.local { run = None; spot = InChecked GiveRun Alloc } } in
    let same : (k : ℕ) → takes k z ≡ takes k x = λ k. rw is refl in (
      z,
      refl,
      pool_step w x z others pool s (rw is refl) put.0 refl
          (λ f i. refl) (λ f. refl) (λ f. rw is refl) put.1 same
          (λ slabs. refused-work w x pool_lock (Pool pool) kind is (known-same w pool_lock (Pool pool) x slabs ok) (locks-same w x z refl same ok) ok),
    )

-- ---- the slab is added

added-work : (w : World) (x : Worker) (n : ℕ) (v : LockValue) (kind : CallKind) (k : Known) → x.local.spot ≡ InChecked AddSlab kind → length (set x.local.known x.local.place k) ≡ length x.local.known
    → get_or (set x.local.known x.local.place k) x.local.place nobody ≡ k → k.object ≡ (here x.local).object
    → All (λ (k : Known). k.held ≡ true → k.cache ≡ cache_at (set_value w n v) k.frame) (set x.local.known x.local.place k)
    → ((n : ℕ) → 1 ≤ takes n (record x { local = record x.local { known = set x.local.known x.local.place k; run = None; spot = InChecked GiveRun Alloc } }) → w.lock n ≡ suc x.local.worker) → IsAtWork w x
    → IsAtWork (set_value w n v) (record x { local = record x.local { known = set x.local.known x.local.place k; run = None; spot = InChecked GiveRun Alloc } })
added-work w x n v kind k is same now object known locks ok = grind arith

-- a slab has an object
has-some : (s : CheckedState) (f : ℕ) → IsSound s → Has s f → 1 ≤ objects_in (slab_of s f)
has-some s f sound has = some (slice_index_or s.slabs f None) has (sound.slab f)
  where
    some : (a : Option SlabState) → IsSome a → IfSome a (IsSlab s.layout) → 1 ≤ objects_in (unwrap_or a no_slab)
    some None has is = absurd (false≢true has)
    some (Some slab) has is = (run-some s.layout slab.order (objects_in slab) sound.layout.bounds is.sized).0

-- the shape of a slab
shape-is : (s : CheckedState) (f order objects : ℕ) → shape_at s f ≡ Some (order, objects) → ((slab_of s f).order ≡ order) × (objects_in (slab_of s f) ≡ objects)
shape-is s f order objects e = is (slice_index_or s.slabs f None) e
  where
    is : (a : Option SlabState) → option_map shape_of a ≡ Some (order, objects) → ((unwrap_or a no_slab).order ≡ order) × (objects_in (unwrap_or a no_slab) ≡ objects)
    is None e = absurd (none-some (order, objects) e)
    is (Some slab) e = let p = same_Some (shape_of slab) (order, objects) e in (ap (λ (p : ℕ × ℕ). p.0) p, ap (λ (p : ℕ × ℕ). p.1) p)

pub adds : (w : World) (x : Worker) (others : List Worker) (kind : CallKind) (run : FrameRun) (old : CheckedState) → x.local.spot ≡ InChecked AddSlab kind → x.local.run ≡ Some run → Stands w (x ∷ others) → w.value (node_lock x.local.cache) ≡ Checked old → IsCheckedOf w.setup x.local.cache old
    → Makes w others (slab_added w.setup w.value x.local old run)
adds w x others kind run old is has s was of =
    let ok = All-head (IsAtWork w) x others s.fresh.workers in
    let n = node_lock x.local.cache in
    let f = run.frame in
    let slot : Slot = record { frame = f; index = 0 } in
    let r : Run = record { frame = f; order = run.order } in
    let mid = with_new_slab old r run.objects in
    let new = with_given mid slot in
    let checked = ok.spot.checked (rw is refl) in
    let count = s.fresh.setup.locks in
    let frames = s.fresh.setup.frames in
    let below : n < w.setup.locks = let c = checked.0 in omega arith in
    let seen : IsHeldRun w x.local.cache (Some run) 0 = rw (is, has) at ok.seen.run in
    let sized : IsSized old.layout run.order run.objects = subst (λ l. IsSized l run.order run.objects) (sym of.layout) seen.0.sized in
    let some = run-some old.layout run.order run.objects of.sound.layout.bounds sized in
    let room = pow-some run.order in
    let first = seen.0.first in
    let inside = seen.0.inside in
    let within : f < w.setup.frames = omega arith in
    let covered : covered_by f x.local.run ≡ 1 = rw has (run-first f run.order) in
    let nothing = nobody-covers w x others f s within (omega arith) in
    let no_old : objects_in (slab_of old f) ≡ 0 = elim (cases_lt 0 (objects_in (slab_of old f))) [
      | inl l ↦ absurd (let z : size_in (w.value n) f ≡ objects_in (slab_of old f) = ap (λ v. size_in v f) was in let v = value-slab w s.chains n f s.listed.shaped below (omega arith) in let e = v.1 in omega arith)
      | inr g ↦ omega arith
    ] in
    let last : f < 4096 = omega arith in
    let fits : free_count old + used_count old + aside_count old + run.objects ≤ free_count old + used_count old + aside_count old + run.objects = omega arith in
    let kept = (new-kept old r run.objects of.sound (λ h. absurd (let a = has-some old f of.sound h in omega arith)) first last sized (length-new_bytes old.layout old.flags run.objects of.sound.layout.bounds) (kept-of old of.sound) fits) in
    let sound_mid : IsSound mid = kept.sound in
    let next = first-comes old r run.objects sound_mid last sized slot refl in
    let added = adds-given old r run.objects sound_mid last sized slot refl in
    let sound_new = given-sound mid slot sound_mid next (length-set_slot old.layout old.flags red_active (slab_of mid f).bytes 0 of.sound.layout.bounds (next-inside mid slot sound_mid next)) in
    let shape = shape-is new f run.order run.objects added.shape in
    let none_here = no-values w (x ∷ others) s f nothing in
    let one : IsOneSlab w n old new f = record {
      below = below;
      was = was;
      elsewhere = added.others.shape;
      unworded = seen.1;
      only = none_here ∙ sym (ap (λ a. one_if (nat_lt 0 a)) no_old ∙ refl);
      real = λ e. absurd (omega arith);
      within = within;
      aligned = λ more. subst (λ o. f % 2 ^ o ≡ 0) (sym shape.0) seen.0.aligned;
      either = inl no_old;
    } in
    let owning = ok.spot.awaits (rw is refl) in
    let k : Known = record { object = (here x.local).object; frame = f; index = 0; cache = x.local.cache; held = true } in
    let z : Worker = record x { local = record x.local { known = set x.local.known x.local.place k; run = None; spot = InChecked GiveRun Alloc } } in
    let same : (j : ℕ) → takes j z ≡ takes j x = λ j. rw is refl in
    let no_object : (j : ℕ) → object_at w f j ≡ 0 = λ j. ap (λ a. one_if (nat_lt j a)) nothing ∙ ap one_if (le-ltb j 0 (omega arith)) in
    let no_idle : (j : ℕ) → idle old f j ≡ 0
    = λ j.
    let p = places-cons w s.chains x others f j in
    let o = s.placed.once f j in
    let e = no_object j in
    let t = term_le_sum w.setup.locks (λ n. idle_in (w.value n) f j) n below in
    let u : idle_in (w.value n) f j ≡ idle old f j = ap (λ v. idle_in v f j) was in
    omega arith in (
      z,
      refl,
      one_slab_step w x z others n old new f s (takes-node x (rw is refl)) one
          (x.local.cache, refl, checked.1, checked.2, record { sound = sound_new; number = of.number; layout = of.layout })
          (λ g j d. let h = held-gets g j x.local x.local.cache f 0 owning.0 owning.1 in let a = added.others.objects g j d in let b : one_if (is_at f 0 g j) ≡ 0 = rw (ne_eqb f g (λ e. d (sym e))) refl in omega arith)
          (λ j. let h = held-gets f j x.local x.local.cache f 0 owning.0 owning.1 in let a = added.objects j in let b = no_idle j in
          let c : one_if (nat_lt j (objects_in (slab_of old f))) ≡ 0 = ap (λ a. one_if (nat_lt j a)) no_old ∙ ap one_if (le-ltb j 0 (omega arith)) in
          let e : one_if (nat_lt j (objects_in (slab_of new f))) ≡ one_if (nat_lt j run.objects) = ap (λ a. one_if (nat_lt j a)) shape.1 in
          omega arith)
          (λ g. refl) (λ g. rw is refl)
          (λ g.
          let a : run_at_slab old f g ≡ 0 = rw no_old refl in
          let b : run_at_slab new f g ≡ in_run g f run.order = rw (shape.1, lt-ltb 0 run.objects some.0, shape.0) refl in
          rw has (omega arith))
          same
          (λ caches.
          let owner : x.local.cache ≡ cache_at (set_value w n (Checked new)) f = sym (((new-here w n old new f one).1 (let e = shape.1 in let b = some.0 in omega arith)).0 ∙ (let c : n - 1 ≡ x.local.cache = omega arith in c)) in
          added-work w x n (Checked new) kind k is (length-set x.local.known x.local.place k) (here-set x.local k owning.0) refl
          (known-set (set_value w n (Checked new)) x.local.known x.local.place k (λ _. owner)
          (λ p d under is_held.
          let g = get_or x.local.known p d in
          let mine = known-owned x p d under is_held in
          ok.seen.known p d under is_held ∙ sym (caches g.frame (λ e. absurd (
          let at_f : 1 ≤ owned f g.index x = subst (λ h. 1 ≤ owned h g.index x) e mine in
          let q = places-cons w s.chains x others f g.index in
          let o = s.placed.once f g.index in
          let b = no_object g.index in
          omega arith)))))
          (locks-same w x z refl same ok) ok)
          (λ e. absurd (omega arith)),
    )

pub at_AddSlab : (w : World) (x : Worker) (others : List Worker) (refused : Bool) (kind : CallKind) → x.local.spot ≡ InChecked AddSlab kind → Stands w (x ∷ others)
    → Makes w others (checked_at_once w.setup refused w.value x.local AddSlab kind)
at_AddSlab w x others refused kind is s =
    let ok = All-head (IsAtWork w) x others s.fresh.workers in
    by_answer refused (run_of x.local) (some-run x.local.run (ok.spot.run (rw is refl)))
  where
    by_answer : (refused : Bool) (run : FrameRun) → x.local.run ≡ Some run → Makes w others (if refused then slab_refused w.value x.local (pool_of w) run else slab_added w.setup w.value x.local (slabs_of w.setup w.value x.local) run)
    by_answer true run has = refuses w x others kind run is has s
    by_answer false run has =
        let r = the-slabs w x others s (rw is refl) in
        let e : slabs_of w.setup w.value x.local ≡ r.0 = ap (slabs_in (w.setup.layout x.local.cache)) r.1 in
        subst (λ slabs. Makes w others (slab_added w.setup w.value x.local slabs run)) (sym e) (adds w x others kind run r.0 is has s r.1 r.2)
