-- What the spots of a call of a checked cache ask.
use Rattle.std.proofs.Common.{◌≡◌, ℕ, ◌+◌, ◌*◌, ◌<◌, ◌≤◌, true, Option, Some, None, List, ◌∷◌, refl, sym, ap, ◌∙◌, subst, arith, IsSome, IfSome, get_or}
use Rattle.std.specs.Prelude.{unwrap_or}
use Rattle.std.proofs.lemmas.Bool.{leb-true, not-false, false≢true}
use Rattle.std.proofs.lemmas.List.Elements.{All-head}
use Rattle.slub_object_layout.specs.declared.layout.Layout.{Layout}
use Rattle.slub_page_pool.specs.Block.{CanPut}
use Rattle.slub_red_zone.specs.State.{SlabState, CheckedState, Has, no_slab, slab_of, objects_in}
use Rattle.slub_red_zone.specs.Sound.{IsSound, IsSlab}
use Rattle.slub_object_layout.specs.Layout.{IsSized}
use Rattle.slub_core.specs.declared.call.CallKind.{CallKind}
use Rattle.slub_core.specs.declared.call.CallKind.TheVariants.{Alloc, Free, Write, Read, Poke, Trim, Flush}
use Rattle.slub_core.specs.declared.local.FrameRun.{FrameRun}
use Rattle.slub_core.specs.declared.spot.Spot.TheVariants.{InChecked}
use Rattle.slub_core.specs.declared.spot.CheckedSpot.{CheckedSpot}
use Rattle.slub_core.specs.declared.spot.CheckedSpot.TheVariants.{DoChecked, MoveRun, AddSlab}
use Rattle.slub_core.specs.Setup.{node_lock, pool_lock}
use Rattle.slub_core.specs.World.{World, LockValue, Checked, pool_in, size_in}
use Rattle.slub_core.specs.Local.{Worker, run_of, call_of}
use Rattle.slub_core.specs.Spots.{has_run, stored_in, uses_word}
use Rattle.slub_core.specs.Listed.{IsCheckedOf, covered_by}
use Rattle.slub_core.specs.Fresh.{IsHeldRun, IsAtWork}
use Rattle.slub_core.specs.Coherent.{Stands}
use Rattle.slub_core.proofs.CheckedSpots.{held-object}
use Rattle.slub_core.proofs.CheckedStep.{the-slabs}
use Rattle.slub_core.proofs.Kind21.{nobody-covers, run-some}
use Rattle.slub_core.proofs.PoolSpots.{can-put, sized-small, some-run}
use Rattle.slub_core.proofs.RemakeStep.{run-first, pow-some}
use Rattle.slub_core.proofs.StepValues.{value-slab}
use Rattle.slub_core.specs.declared.guarded.Guarded.{Guarded}
use Rattle.slub_core.specs.Calls.{call_word}
use Rattle.slub_core.specs.Values.{values_of}
use Rattle.slub_checked_paths.specs.Slabs.{IsCheckedValue, slabs_at}
use Rattle.slub_checked_paths.specs.Fits.{MayDo, MayPut, MayMove, MayAdd}
use Rattle.slub_turns.specs.Fits.{AtOnceFits, AreValues}
use Rattle.slub_turns.proofs.UseFits.{OwnKind}
use Rattle.slub_turns.proofs.Values.{pool-there}

-- ---- a call of the slabs

-- the word of a write or a read lies in the object
word-fits : (w : World) (x : Worker) (others : List Worker) (old : CheckedState) → uses_word x.local.spot ≡ true → IsCheckedOf w.setup x.local.cache old → Stands w (x ∷ others) → 8 * (call_word (call_of x.local) + 1) ≤ old.layout.object_size
word-fits w x others old word of s =
    let ok = All-head (IsAtWork w) x others s.fresh.workers in
    let size : old.layout.object_size ≡ (w.setup.layout x.local.cache).object_size = ap (λ (l : Layout). l.object_size) of.layout in
    let fits : 8 * (call_word (call_of x.local) + 1) ≤ (w.setup.layout x.local.cache).object_size = leb-true (8 * (call_word (call_of x.local) + 1)) (w.setup.layout x.local.cache).object_size (not-false _ (ok.spot.inside word)) in
    omega arith

may-do : (w : World) (x : Worker) (others : List Worker) (kind : CallKind) (old : CheckedState) → x.local.spot ≡ InChecked DoChecked kind → w.value (node_lock x.local.cache) ≡ Checked old → IsCheckedOf w.setup x.local.cache old → Stands w (x ∷ others) → OwnKind x.local → MayDo x.local old kind
may-do w x others Alloc old is was of s own = tt
may-do w x others Free old is was of s own = held-object w x others old s (rw is refl) (rw is refl) was
may-do w x others Write old is was of s own = (own Write (rw is refl), (held-object w x others old s (rw is refl) (rw is refl) was, word-fits w x others old (rw is refl) of s))
may-do w x others Read old is was of s own = (own Read (rw is refl), (held-object w x others old s (rw is refl) (rw is refl) was, word-fits w x others old (rw is refl) of s))
may-do w x others Poke old is was of s own = own Poke (rw is refl)
may-do w x others Trim old is was of s own = tt
may-do w x others Flush old is was of s own = tt

-- ---- a run in hand

-- what is so of it
run-held : (w : World) (x : Worker) (others : List Worker) (spot : CheckedSpot) (kind : CallKind) → x.local.spot ≡ InChecked spot kind → has_run (InChecked spot kind) ≡ true → Stands w (x ∷ others)
    → (x.local.run ≡ Some (run_of x.local)) × IsHeldRun w x.local.cache (Some (run_of x.local)) 0
run-held w x others spot kind is has s =
    let ok = All-head (IsAtWork w) x others s.fresh.workers in
    let some = some-run x.local.run (ok.spot.run (rw is has)) in
    let none : stored_in x.local.spot (run_of x.local).objects ≡ 0 = rw is refl in
    let seen = subst (λ (n : ℕ). IsHeldRun w x.local.cache x.local.run n) none ok.seen.run in
    (some, subst (λ (r : Option FrameRun). IsHeldRun w x.local.cache r 0) some seen)

may-put : (w : World) (x : Worker) (others : List Worker) (guarded : List Guarded) (spot : CheckedSpot) (kind : CallKind) → AreValues w.setup w.value guarded → x.local.spot ≡ InChecked spot kind → has_run (InChecked spot kind) ≡ true → Stands w (x ∷ others) → MayPut guarded x.local
may-put w x others guarded spot kind same is has s =
    let ok = All-head (IsAtWork w) x others s.fresh.workers in
    let checked = ok.spot.checked (rw is refl) in
    let layout = s.fresh.setup.layout x.local.cache checked.1 in
    let run = run_of x.local in
    let held = run-held w x others spot kind is has s in
    let small = sized-small (record (w.setup.layout x.local.cache) { min_partial = 5; cpu_partial_slabs = 0 }) run.order run.objects layout held.1.0.sized in
    let put = can-put w x others run s held.0 small held.1.0 in
    (pool-there w (x ∷ others) guarded s same, subst (λ (v : ℕ → LockValue). CanPut (pool_in (v pool_lock)) run.frame run.order) (sym same.values) put)

may-move : (w : World) (x : Worker) (others : List Worker) (guarded : List Guarded) (kind : CallKind) → AreValues w.setup w.value guarded → x.local.spot ≡ InChecked MoveRun kind → Stands w (x ∷ others) → MayMove guarded x.local kind
may-move w x others guarded Alloc same is s = pool-there w (x ∷ others) guarded s same
may-move w x others guarded Free same is s = may-put w x others guarded MoveRun Free same is refl s
may-move w x others guarded Write same is s = may-put w x others guarded MoveRun Write same is refl s
may-move w x others guarded Read same is s = may-put w x others guarded MoveRun Read same is refl s
may-move w x others guarded Poke same is s = may-put w x others guarded MoveRun Poke same is refl s
may-move w x others guarded Trim same is s = may-put w x others guarded MoveRun Trim same is refl s
may-move w x others guarded Flush same is s = may-put w x others guarded MoveRun Flush same is refl s

-- a slab has an object
has-some : (s : CheckedState) (f : ℕ) → IsSound s → Has s f → 1 ≤ objects_in (slab_of s f)
has-some s f sound has = some (get_or s.slabs f None) has (sound.slab f)
  where
    some : (a : Option SlabState) → IsSome a → IfSome a (IsSlab s.layout) → 1 ≤ objects_in (unwrap_or a no_slab)
    some None has is = absurd (false≢true has)
    some (Some slab) has is = (run-some s.layout slab.order (objects_in slab) sound.layout.bounds is.sized).0

-- no slab begins at a run in hand
may-add : (w : World) (x : Worker) (others : List Worker) (kind : CallKind) (old : CheckedState) → x.local.spot ≡ InChecked AddSlab kind → w.value (node_lock x.local.cache) ≡ Checked old → IsCheckedOf w.setup x.local.cache old → Stands w (x ∷ others) → MayAdd old x.local
may-add w x others kind old is was of s =
    let ok = All-head (IsAtWork w) x others s.fresh.workers in
    let n = node_lock x.local.cache in
    let run = run_of x.local in
    let f = run.frame in
    let checked = ok.spot.checked (rw is refl) in
    let count = s.fresh.setup.locks in
    let frames = s.fresh.setup.frames in
    let below : n < w.setup.locks = let c = checked.0 in omega arith in
    let held = run-held w x others AddSlab kind is refl s in
    let room = pow-some run.order in
    let first = held.1.0.first in
    let inside = held.1.0.inside in
    let covered : covered_by f x.local.run ≡ 1 = ap (covered_by f) held.0 ∙ run-first f run.order in
    let nothing = nobody-covers w x others f s (omega arith) (omega arith) in
    record {
      new = λ has. absurd (
          let some = has-some old f of.sound has in
          let z : size_in (w.value n) f ≡ objects_in (slab_of old f) = ap (λ (v : LockValue). size_in v f) was in
          let v = value-slab w s.chains n f s.listed.shaped below (omega arith) in
          let e = v.1 in
          omega arith);
      frame = (first, omega arith);
      sized = subst (λ (l : Layout). IsSized l run.order run.objects) (sym of.layout) held.1.0.sized;
    }

-- ---- spot by spot

pub checked_once : (w : World) (x : Worker) (others : List Worker) (guarded : List Guarded) (spot : CheckedSpot) (kind : CallKind) → x.local.spot ≡ InChecked spot kind → Stands w (x ∷ others) → OwnKind x.local → AreValues w.setup w.value guarded → AtOnceFits guarded x.local (InChecked spot kind)
checked_once w x others guarded DoChecked kind is s own values =
    let r = the-slabs w x others s (rw is refl) in
    let now : values_of guarded (node_lock x.local.cache) ≡ Checked r.0 = ap (λ (v : ℕ → LockValue). v (node_lock x.local.cache)) values.values ∙ r.1 in
    subst (λ (v : LockValue). IsCheckedValue v × MayDo x.local (slabs_at v) kind) (sym now) (tt, may-do w x others kind r.0 is r.1 r.2 s own)
checked_once w x others guarded MoveRun kind is s own values = may-move w x others guarded kind values is s
checked_once w x others guarded AddSlab kind is s own values =
    let r = the-slabs w x others s (rw is refl) in
    let now : values_of guarded (node_lock x.local.cache) ≡ Checked r.0 = ap (λ (v : ℕ → LockValue). v (node_lock x.local.cache)) values.values ∙ r.1 in
    let put = may-put w x others guarded AddSlab kind values is refl s in
    subst (λ (v : LockValue). IsCheckedValue v × MayAdd (slabs_at v) x.local × MayPut guarded x.local) (sym now) (tt, may-add w x others kind r.0 is r.1 r.2 s, put)
checked_once w x others guarded _ kind is s own values = tt
