-- Changes of a checked cache under its lock that make or unmake no slab, and what they rest on.
use Rattle.std.proofs.Common.{◌≡◌, ℕ, zero, suc, ◌+◌, ◌<◌, ◌≤◌, Bool, true, false, Option, Some, None, List, [], ◌∷◌, length, refl, sym, ap, ◌∙◌, arith, inl, inr}
use Rattle.std.specs.Prelude.{nat_lt, option_map, unwrap_or, slice_get, slice_index_or}
use Rattle.std.proofs.lemmas.Bool.{cases_lt, false≢true}
use Rattle.std.proofs.lemmas.List.Elements.{All-head}
use Rattle.slub_common.specs.Times.{times}
use Rattle.slub_red_zone.specs.declared.slab.ObjectState.{ObjectState}
use Rattle.slub_red_zone.specs.declared.slab.ObjectState.TheVariants.{Free, Used, Aside}
use Rattle.slub_red_zone.specs.State.{SlabState, CheckedState, no_slab, slab_of, objects_in, IsUsed}
use Rattle.slub_red_zone.specs.Sound.{IsSound}
use Rattle.slub_red_zone.specs.Objects.{KeepsSlabs, shape_of, shape_at, idle, is_idle}
use Rattle.slub_core.specs.declared.local.Known.{Known}
use Rattle.slub_core.specs.Setup.{node_lock, pool_lock}
use Rattle.slub_core.specs.World.{World, Checked, set_value, objects_at, cache_at, object_at, idle_in, size_in, frames_in, pool_in, pool_of, one_if}
use Rattle.slub_core.specs.Local.{Worker}
use Rattle.slub_core.specs.Spots.{has_node, in_checked}
use Rattle.slub_core.specs.Placed.{owned}
use Rattle.slub_core.specs.Listed.{home_of, marked_of, covered_by, takes, IsCheckedOf}
use Rattle.slub_core.specs.Fresh.{IsAtWork}
use Rattle.slub_core.specs.Coherent.{Stands}
use Rattle.slub_core.proofs.Counts.{places-cons}
use Rattle.slub_core.proofs.UnderLock.{HasSameSlabs, checked-is, same_step, takes-node}
use Rattle.slub_core.proofs.Update.{update_other, term_le_sum}
use Rattle.slub_core.proofs.StepValues.{word-cache, unworded-cache, unworded-objects, object-within, in-value, checked-value}

-- ---- slabs of the same shape

abbrev size_in_shape : Option (ℕ × ℕ) → ℕ
size_in_shape None = 0
size_in_shape (Some (order, objects)) = objects

abbrev order_in_shape : Option (ℕ × ℕ) → ℕ
order_in_shape None = 0
order_in_shape (Some (order, objects)) = order

size-by_shape : (a : Option SlabState) → objects_in (unwrap_or a no_slab) ≡ size_in_shape (option_map shape_of a)
size-by_shape None = refl
size-by_shape (Some slab) = refl

order-by_shape : (a : Option SlabState) → (unwrap_or a no_slab).order ≡ order_in_shape (option_map shape_of a)
order-by_shape None = refl
order-by_shape (Some slab) = refl

pub shape-size : (old new : CheckedState) (f : ℕ) → shape_at new f ≡ shape_at old f → objects_in (slab_of new f) ≡ objects_in (slab_of old f)
shape-size old new f e = size-by_shape (slice_index_or new.slabs f None) ∙ ap size_in_shape e ∙ sym (size-by_shape (slice_index_or old.slabs f None))

pub shape-order : (old new : CheckedState) (f : ℕ) → shape_at new f ≡ shape_at old f → (slab_of new f).order ≡ (slab_of old f).order
shape-order old new f e = order-by_shape (slice_index_or new.slabs f None) ∙ ap order_in_shape e ∙ sym (order-by_shape (slice_index_or old.slabs f None))

-- ---- the cache of the call

pub the-slabs : (w : World) (x : Worker) (others : List Worker) → Stands w (x ∷ others) → in_checked x.local.spot ≡ true
    → (old : CheckedState) × (w.value (node_lock x.local.cache) ≡ Checked old) × IsCheckedOf w.setup x.local.cache old
the-slabs w x others s is =
    let ok = All-head (IsAtWork w) x others s.fresh.workers in
    let checked = ok.spot.checked is in
    let count = s.fresh.setup.locks in
    let c = checked.0 in
    checked-is w.setup x.local.cache (w.value (node_lock x.local.cache)) checked (s.listed.shaped.guarded (node_lock x.local.cache) (omega arith))

-- What a change of a checked cache owes: the objects go between its slabs and the worker.
pub checked_step : (w : World) (x z : Worker) (others : List Worker) (old new : CheckedState) → Stands w (x ∷ others)
    → has_node x.local.spot ≡ true → in_checked x.local.spot ≡ true → w.value (node_lock x.local.cache) ≡ Checked old → IsCheckedOf w.setup x.local.cache old → IsSound new → KeepsSlabs old new
    → ((f i : ℕ) → owned f i z + idle new f i ≡ owned f i x + idle old f i)
    → ((f : ℕ) → home_of f z ≡ home_of f x) → ((f : ℕ) → marked_of f z ≡ marked_of f x) → ((g : ℕ) → covered_by g z.local.run ≡ covered_by g x.local.run)
    → ((k : ℕ) → takes k z ≡ takes k x)
    → (HasSameSlabs (w.value (node_lock x.local.cache)) (Checked new) → IsAtWork (set_value w (node_lock x.local.cache) (Checked new)) z)
    → Stands (set_value w (node_lock x.local.cache) (Checked new)) (z ∷ others)
checked_step w x z others old new s has plain is of sound keeps owned home marked covered locks work =
    let n = node_lock x.local.cache in
    let ok = All-head (IsAtWork w) x others s.fresh.workers in
    let checked = ok.spot.checked plain in
    let count = s.fresh.setup.locks in
    let below : n < w.setup.locks = let c = checked.0 in omega arith in
    let same : HasSameSlabs (w.value n) (Checked new) = rw is (record { size = λ f. shape-size old new f (keeps.shape f); order = λ f. shape-order old new f (keeps.shape f) }) in
    same_step w x z others n (Checked new) s below (takes-node x has) same
    (x.local.cache, refl, checked.1, checked.2, record { sound = sound; number = keeps.cache ∙ of.number; layout = rw keeps.layout of.layout })
    refl (λ k f e some. absurd (omega arith))
    (λ f i. let a = owned f i in let b : idle_in (w.value n) f i ≡ idle old f i = ap (λ v. idle_in v f i) is in omega arith)
    (λ f. let a = home f in let b : times f (frames_in (w.value n)) ≡ 0 = ap (λ v. times f (frames_in v)) is in let c : times f [] ≡ 0 = refl in omega arith)
    (λ f. let a = marked f in let b : times f (frames_in (w.value n)) ≡ 0 = ap (λ v. times f (frames_in v)) is in let c : times f [] ≡ 0 = refl in omega arith)
    (λ g. let a = covered g in let b : (pool_of (set_value w n (Checked new))).free ≡ (pool_of w).free = ap (λ v. (pool_in v).free) (update_other w.value n (Checked new) pool_lock (λ e. absurd (omega arith))) in let c = ap (λ p. times g p) b in omega arith)
    locks (work same)

-- ---- objects of a checked cache

-- an object that exists, of the call's cache, is in a slab of that cache
pub object-there : (w : World) (x : Worker) (others : List Worker) (old : CheckedState) (f i : ℕ) → Stands w (x ∷ others) → in_checked x.local.spot ≡ true → w.value (node_lock x.local.cache) ≡ Checked old
    → x.local.cache ≡ cache_at w f → 1 ≤ object_at w f i → (i < objects_in (slab_of old f)) × (objects_at w f ≡ objects_in (slab_of old f)) × ((w.slab f).objects ≡ 0)
object-there w x others old f i s plain is owner some =
    let ok = All-head (IsAtWork w) x others s.fresh.workers in
    let checked = ok.spot.checked plain in
    let within = object-within w f i some in
    let none : (w.slab f).objects ≡ 0 = elim (cases_lt 0 (w.slab f).objects) [
      | inl l ↦ absurd (false≢true (sym (s.listed.shaped.plain f (omega arith)).2 ∙ ap w.setup.checks (sym (owner ∙ word-cache w f (omega arith))) ∙ checked.2))
      | inr g ↦ omega arith
    ] in
    let o = unworded-objects w f none in
    let r = in-value w.value w.setup.locks f (omega arith) in
    let c = checked-value w.setup r.lock f (w.value r.lock) (s.listed.shaped.guarded r.lock r.below) r.some in
    let lock : r.lock ≡ node_lock x.local.cache = let a = c.3 in let b = r.cache in let d = unworded-cache w f none in omega arith in
    let size : size_in (w.value r.lock) f ≡ objects_in (slab_of old f) = ap (λ n. size_in (w.value n) f) lock ∙ ap (λ v. size_in v f) is in
    let b = r.objects in
    (omega arith, omega arith, none)

used-state : (states : List ObjectState) (i : ℕ) → i < length states → one_if (is_idle (slice_get states i)) ≡ 0 → slice_get states i ≡ Some Used
used-state [] i below none = absurd (omega arith)
used-state (Free ∷ states) zero below none = absurd (omega (arith, none))
used-state (Used ∷ states) zero below none = refl
used-state (Aside ∷ states) zero below none = absurd (omega (arith, none))
used-state (state ∷ states) (suc i) below none = used-state states i (omega arith) none

-- what the worker holds of the call's cache is used there
pub held-used : (w : World) (x : Worker) (others : List Worker) (old : CheckedState) (k : Known) → Stands w (x ∷ others) → in_checked x.local.spot ≡ true → w.value (node_lock x.local.cache) ≡ Checked old
    → k.cache ≡ x.local.cache → k.cache ≡ cache_at w k.frame → 1 ≤ owned k.frame k.index x → IsUsed old (record { frame = k.frame; index = k.index })
held-used w x others old k s plain is mine owner has =
    let f = k.frame in
    let i = k.index in
    let ok = All-head (IsAtWork w) x others s.fresh.workers in
    let checked = ok.spot.checked plain in
    let count = s.fresh.setup.locks in
    let p = places-cons w s.chains x others f i in
    let o = s.placed.once f i in
    let one = bit (nat_lt i (objects_at w f)) in
    let there = object-there w x others old f i s plain is (sym mine ∙ owner) (omega arith) in
    let t = term_le_sum w.setup.locks (λ n. idle_in (w.value n) f i) (node_lock x.local.cache) (let c = checked.0 in omega arith) in
    let z : idle_in (w.value (node_lock x.local.cache)) f i ≡ idle old f i = ap (λ v. idle_in v f i) is in
    used-state (slab_of old f).states i there.0 (omega arith)
  where
    bit : (b : Bool) → one_if b ≤ 1
    bit true = omega arith
    bit false = omega arith
