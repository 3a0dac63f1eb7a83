-- Changes of what a lock guards that make or unmake no slab: of a node list, of the pool, of the objects of a checked cache.
use Rattle.std.proofs.Common.{◌≡◌, ℕ, zero, suc, ◌+◌, ◌<◌, ◌≤◌, ◌⊎◌, true, false, List, [], ◌∷◌, get_or, refl, sym, ap, ◌∙◌, subst, arith, inl, inr}
use Rattle.std.specs.Prelude.{All, nat_lt}
use Rattle.std.proofs.lemmas.Bool.{cases_eq, cases_lt, false≢true}
use Rattle.std.proofs.lemmas.List.Elements.{All-head}
use Rattle.slub_common.specs.Times.{times}
use Rattle.slub_page_pool.specs.FreeFrames.{FreeFrames, IsPool}
use Rattle.slub_red_zone.specs.State.{CheckedState}
use Rattle.slub_core.specs.declared.local.Known.{Known}
use Rattle.slub_core.specs.Setup.{Setup, IsPlain, IsChecked, node_lock, pool_lock}
use Rattle.slub_core.specs.World.{World, Chains, LockValue, Nothing, Node, Checked, Pool, update, set_value, objects_at, cache_at, order_at, object_at, frames_in, pool_in, pool_of, size_in, order_in, idle_in, objects_in_values, cache_in_values, order_in_values, one_if, covers}
use Rattle.slub_core.specs.Local.{Worker, Change}
use Rattle.slub_core.specs.Alloc.{node_of}
use Rattle.slub_core.specs.Spots.{has_node, has_pool, in_plain}
use Rattle.slub_core.specs.Placed.{owned}
use Rattle.slub_core.specs.Listed.{home_of, marked_of, covered_by, takes, IsGuarded, IsCheckedOf, IsShaped, IsStocked}
use Rattle.slub_core.specs.Fresh.{IsAtWork}
use Rattle.slub_core.specs.Coherent.{Stands}
use Rattle.slub_core.proofs.Counts.{homes-cons}
use Rattle.slub_core.proofs.Homes.{live-most}
use Rattle.slub_core.proofs.Locks.{one-self}
use Rattle.slub_core.proofs.Pigeon.{length-below}
use Rattle.slub_core.proofs.Update.{update_same, update_other, update_at, sum_below_same, term_le_sum}
use Rattle.slub_core.proofs.StepValues.{word-objects}
use Rattle.slub_core.proofs.ValueStep.{value_step}

-- what is done at once leads a worker to this local and these values, and all stands after it
abbrev pub Makes : World → List Worker → Change → Type 0
Makes w others c = (z : Worker) × (z.local ≡ c.local) × Stands (record w { value = c.value }) (z ∷ others)

-- ---- what each lock guards

pub node-is : (m : Setup) (cache : ℕ) (v : LockValue) → IsPlain m cache → IsGuarded m (node_lock cache) v → v ≡ Node (frames_in v)
node-is m cache Nothing plain g = absurd (let e : cache ≡ g.0 = let a = g.1 in omega arith in false≢true (sym (subst (λ k. m.lives k ≡ false) (sym e) g.2) ∙ plain.1))
node-is m cache (Node frames) plain g = refl
node-is m cache (Checked slabs) plain g = absurd (let e : cache ≡ g.0 = let a = g.1 in omega arith in false≢true (sym plain.2 ∙ subst (λ k. m.checks k ≡ true) (sym e) g.3))
node-is m cache (Pool pool) plain g = absurd (let a = g.0 in omega arith)

pub pool-is : (m : Setup) (v : LockValue) → IsGuarded m pool_lock v → (v ≡ Pool (pool_in v)) × IsPool (pool_in v) × ((pool_in v).frames ≡ m.frames)
pool-is m Nothing g = absurd (let a = g.1 in omega arith)
pool-is m (Node frames) g = absurd (let a = g.1 in omega arith)
pool-is m (Checked slabs) g = absurd (let a = g.1 in omega arith)
pool-is m (Pool pool) g = (refl, g.1, g.2)

pub checked-is : (m : Setup) (cache : ℕ) (v : LockValue) → IsChecked m cache → IsGuarded m (node_lock cache) v → (slabs : CheckedState) × (v ≡ Checked slabs) × IsCheckedOf m cache slabs
checked-is m cache Nothing checked g = absurd (let e : cache ≡ g.0 = let a = g.1 in omega arith in false≢true (sym (subst (λ k. m.lives k ≡ false) (sym e) g.2) ∙ checked.1))
checked-is m cache (Node frames) checked g = absurd (let e : cache ≡ g.0 = let a = g.1 in omega arith in false≢true (sym (subst (λ k. m.checks k ≡ false) (sym e) g.3) ∙ checked.2))
checked-is m cache (Checked slabs) checked g = (slabs, refl, subst (λ k. IsCheckedOf m k slabs) (let a = g.1 in omega arith) g.4)
checked-is m cache (Pool pool) checked g = absurd (let a = g.0 in omega arith)

-- ---- values with the same slabs

pub record HasSameSlabs (u v : LockValue) : Type 0 where
  pub size : (f : ℕ) → size_in v f ≡ size_in u f
  pub order : (f : ℕ) → order_in v f ≡ order_in u f

same-each : (w : World) (n : ℕ) (v : LockValue) → HasSameSlabs (w.value n) v → (k : ℕ) → HasSameSlabs (w.value k) (update w.value n v k)
same-each w n v same k = elim (cases_eq k n) [
  | inl e ↦ rw (update_at w.value n v k e, e) same
  | inr d ↦ rw (update_other w.value n v k d) (record { size = λ f. refl; order = λ f. refl })
]

values-same : (old new : ℕ → LockValue) (f : ℕ) → ((k : ℕ) → HasSameSlabs (old k) (new k)) → (n : ℕ)
    → (objects_in_values new n f ≡ objects_in_values old n f) × (cache_in_values new n f ≡ cache_in_values old n f) × (order_in_values new n f ≡ order_in_values old n f)
values-same old new f same zero = (refl, refl, refl)
values-same old new f same (suc n) = let r = values-same old new f same n in (rw ((same n).size f, r.0) refl, rw ((same n).size f, r.1) refl, rw ((same n).size f, (same n).order f, r.2) refl)

pub objects-same_value : (w : World) (n : ℕ) (v : LockValue) → HasSameSlabs (w.value n) v → (f : ℕ) → objects_at (set_value w n v) f ≡ objects_at w f
objects-same_value w n v same f = let r = values-same w.value (update w.value n v) f (same-each w n v same) w.setup.locks in rw r.0 refl

pub cache-same_value : (w : World) (n : ℕ) (v : LockValue) → HasSameSlabs (w.value n) v → (f : ℕ) → cache_at (set_value w n v) f ≡ cache_at w f
cache-same_value w n v same f = let r = values-same w.value (update w.value n v) f (same-each w n v same) w.setup.locks in rw r.1 refl

pub order-same_value : (w : World) (n : ℕ) (v : LockValue) → HasSameSlabs (w.value n) v → (f : ℕ) → order_at (set_value w n v) f ≡ order_at w f
order-same_value w n v same f = let r = values-same w.value (update w.value n v) f (same-each w n v same) w.setup.locks in rw r.2 refl

-- What a change owes under a lock that makes or unmakes no slab.
pub same_step : (w : World) (x z : Worker) (others : List Worker) (n : ℕ) (v : LockValue) → Stands w (x ∷ others)
    → n < w.setup.locks → 1 ≤ takes n x → HasSameSlabs (w.value n) v → IsGuarded w.setup n v → times 0 (frames_in v) ≡ 0 → ((cache f : ℕ) → n ≡ node_lock cache → 1 ≤ times f (frames_in v) → IsStocked (w.slab f) cache)
    → ((f i : ℕ) → owned f i z + idle_in v f i ≡ owned f i x + idle_in (w.value n) f i)
    → ((f : ℕ) → home_of f z + times f (frames_in v) ≡ home_of f x + times f (frames_in (w.value n)))
    → ((f : ℕ) → marked_of f z + times f (frames_in v) ≡ marked_of f x + times f (frames_in (w.value n)))
    → ((g : ℕ) → covered_by g z.local.run + times g (pool_of (set_value w n v)).free ≡ covered_by g x.local.run + times g (pool_of w).free)
    → ((k : ℕ) → takes k z ≡ takes k x)
    → IsAtWork (set_value w n v) z
    → Stands (set_value w n v) (z ∷ others)
same_step w x z others n v s below has same guarded none stocked moved homed marked covered locks ok =
    let sh = s.listed.shaped in
    value_step w x z others n v s below has
    (record {
      guarded = guarded;
      keeps = λ f i some more. cache-same_value w n v same f;
      alone = λ f. let e = sum_below_same w.setup.locks (λ k. one_if (nat_lt 0 (size_in (w.value k) f))) (λ k. one_if (nat_lt 0 (size_in (update w.value n v k) f))) (λ k _. ap (λ a. one_if (nat_lt 0 a)) ((same-each w n v same k).size f)) in let a = sh.alone f in omega arith;
      aligned = λ f. rw (objects-same_value w n v same f, order-same_value w n v same f) (sh.aligned f);
      within = λ f. rw (objects-same_value w n v same f) (sh.within f);
      no_slab = objects-same_value w n v same 0 ∙ sh.no_slab;
      no_frame = none;
      node = stocked;
    })
    (λ f i. let a = moved f i in let b : object_at (set_value w n v) f i ≡ object_at w f i = ap (λ a. one_if (nat_lt i a)) (objects-same_value w n v same f) in omega arith)
    homed marked
    (λ g. let a = covered g in let b = sum_below_same w.setup.frames (λ f. covers w g f) (λ f. covers (set_value w n v) g f) (λ f _. rw (objects-same_value w n v same f, order-same_value w n v same f) refl) in omega arith)
    locks ok

-- ---- locks that a worker has

pub takes-node : (x : Worker) → has_node x.local.spot ≡ true → 1 ≤ takes (node_lock x.local.cache) x
takes-node x has = let one = one-self (node_lock x.local.cache) in rw has (omega arith)

pub takes-pool : (x : Worker) → has_pool x.local.spot ≡ true → 1 ≤ takes pool_lock x
takes-pool x has = rw has (omega arith)

-- the same locks
pub takes-same : (x z : Worker) → z.local.cache ≡ x.local.cache → has_node z.local.spot ≡ has_node x.local.spot → has_pool z.local.spot ≡ has_pool x.local.spot → (k : ℕ) → takes k z ≡ takes k x
takes-same x z cache node pool k = rw (cache, node, pool) refl

-- what a worker holds, and the locks that it has, are seen as before
pub known-same : (w : World) (n : ℕ) (v : LockValue) (x : Worker) → HasSameSlabs (w.value n) v → IsAtWork w x → All (λ (k : Known). k.held ≡ true → k.cache ≡ cache_at (set_value w n v) k.frame) x.local.known
known-same w n v x same ok = λ k d below is. ok.seen.known k d below is ∙ sym (cache-same_value w n v same (get_or x.local.known k d).frame)

pub locks-same : (w : World) (x z : Worker) → z.local.worker ≡ x.local.worker → ((k : ℕ) → takes k z ≡ takes k x) → IsAtWork w x → (n : ℕ) → 1 ≤ takes n z → w.lock n ≡ suc z.local.worker
locks-same w x z worker same ok n has = let e = same n in ok.seen.locks n (omega arith) ∙ ap suc (sym worker)

-- ---- node lists

-- a slab that is to be on a list lies among the frames
pub stocked-within : (w : World) (y : Chains) (f cache : ℕ) → IsShaped w y → IsStocked (w.slab f) cache → (1 ≤ (w.slab f).objects) × (f < w.setup.frames)
stocked-within w y f cache sh stocked =
    let some : 1 ≤ (w.slab f).objects = elim (cases_lt 0 (w.slab f).objects) [
      | inl l ↦ omega arith
      | inr g ↦ absurd (let u = (sh.unslabbed f (omega arith)).0 in let h = stocked.head in omega arith)
    ] in
    (some, sh.within f (let o = word-objects w f some in omega arith))

-- What a change of the node list owes: the slabs go between the list and the worker, with their marks.
pub node_step : (w : World) (x z : Worker) (others : List Worker) (frames : List ℕ) → Stands w (x ∷ others)
    → has_node x.local.spot ≡ true → in_plain x.local.spot ≡ true → times 0 frames ≡ 0 → ((f : ℕ) → 1 ≤ times f frames → IsStocked (w.slab f) x.local.cache)
    → ((f i : ℕ) → owned f i z ≡ owned f i x)
    → ((f : ℕ) → home_of f z + times f frames ≡ home_of f x + times f (node_of w.value x.local))
    → ((f : ℕ) → marked_of f z + times f frames ≡ marked_of f x + times f (node_of w.value x.local))
    → ((g : ℕ) → covered_by g z.local.run ≡ covered_by g x.local.run)
    → ((k : ℕ) → takes k z ≡ takes k x)
    → (HasSameSlabs (w.value (node_lock x.local.cache)) (Node frames) → IsAtWork (set_value w (node_lock x.local.cache) (Node frames)) z)
    → Stands (set_value w (node_lock x.local.cache) (Node frames)) (z ∷ others)
node_step w x z others frames s has plain none stocked owned homed marked covered locks work =
    let n = node_lock x.local.cache in
    let ok = All-head (IsAtWork w) x others s.fresh.workers in
    let cache = ok.spot.plain plain in
    let count = s.fresh.setup.locks in
    let below : n < w.setup.locks = let c = cache.0 in omega arith in
    let is = node-is w.setup x.local.cache (w.value n) cache (s.listed.shaped.guarded n below) in
    let same : HasSameSlabs (w.value n) (Node frames) = rw is (record { size = λ f. refl; order = λ f. refl }) in
    let room = s.fresh.setup.frames in
    let short = length-below w.setup.frames frames (omega arith) (λ f. most f (cases_eq f 0)) (λ f past. past-none f past (cases_eq f 0)) none in
    same_step w x z others n (Node frames) s below (takes-node x has) same
    (x.local.cache, refl, cache.1, cache.2, short) none
    (λ k f e some. rw (let c : k ≡ x.local.cache = omega arith in c) (stocked f some))
    (λ f i. let a = owned f i in let b : idle_in (w.value n) f i ≡ 0 = rw is refl in omega arith)
    homed marked
    (λ g. let a = covered g in let b = ap (λ p. times g p) (pool-same is) in omega arith)
    locks (work same)
  where
    most : (f : ℕ) → (f ≡ 0) ⊎ (f ≡ 0 → ⊥) → times f frames ≤ 1
    most f (inl e) = rw e (omega arith)
    most f (inr d) =
        let split = homes-cons w s.chains x others f in
        let once = s.listed.once f d in
        let one = live-most (w.slab f) in
        let h = homed f in
        let ok = All-head (IsAtWork w) x others s.fresh.workers in
        let t = term_le_sum w.setup.locks (λ k. times f (frames_in (w.value k))) (node_lock x.local.cache) (let c = (ok.spot.plain plain).0 in let l = s.fresh.setup.locks in omega arith) in
        omega arith

    past-none : (f : ℕ) → w.setup.frames ≤ f → (f ≡ 0) ⊎ (f ≡ 0 → ⊥) → times f frames ≡ 0
    past-none f past (inl e) = rw e none
    past-none f past (inr d) = elim (cases_lt 0 (times f frames)) [
      | inl l ↦ absurd (let w' = (stocked-within w s.chains f x.local.cache s.listed.shaped (stocked f (omega arith))).1 in omega arith)
      | inr g ↦ omega arith
    ]

    pool-same : w.value (node_lock x.local.cache) ≡ Node (frames_in (w.value (node_lock x.local.cache))) → (pool_of (set_value w (node_lock x.local.cache) (Node frames))).free ≡ (pool_of w).free
    pool-same is = ap (λ v. (pool_in v).free) (update_other w.value (node_lock x.local.cache) (Node frames) pool_lock (λ e. absurd (omega arith)))

-- ---- the pool

-- What a change of the pool owes: the frames go between the pool and the worker.
pub pool_step : (w : World) (x z : Worker) (others : List Worker) (pool : FreeFrames) → Stands w (x ∷ others)
    → has_pool x.local.spot ≡ true → IsPool pool → pool.frames ≡ (pool_of w).frames
    → ((f i : ℕ) → owned f i z ≡ owned f i x) → ((f : ℕ) → home_of f z ≡ home_of f x) → ((f : ℕ) → marked_of f z ≡ marked_of f x)
    → ((g : ℕ) → covered_by g z.local.run + times g pool.free ≡ covered_by g x.local.run + times g (pool_of w).free)
    → ((k : ℕ) → takes k z ≡ takes k x)
    → (HasSameSlabs (w.value pool_lock) (Pool pool) → IsAtWork (set_value w pool_lock (Pool pool)) z)
    → Stands (set_value w pool_lock (Pool pool)) (z ∷ others)
pool_step w x z others pool s has good frames owned home marked covered locks work =
    let count = s.fresh.setup.locks in
    let below : pool_lock < w.setup.locks = omega arith in
    let is = pool-is w.setup (w.value pool_lock) (s.listed.shaped.guarded pool_lock below) in
    let same : HasSameSlabs (w.value pool_lock) (Pool pool) = rw is.0 (record { size = λ f. refl; order = λ f. refl }) in
    same_step w x z others pool_lock (Pool pool) s below (takes-pool x has) same (refl, good, frames ∙ is.2) refl
    (λ k f e some. absurd (omega arith))
    (λ f i. let a = owned f i in let b : idle_in (w.value pool_lock) f i ≡ 0 = rw is.0 refl in omega arith)
    (λ f. let a = home f in let b : times f (frames_in (w.value pool_lock)) ≡ 0 = rw is.0 refl in let c : times f [] ≡ 0 = refl in omega arith)
    (λ f. let a = marked f in let b : times f (frames_in (w.value pool_lock)) ≡ 0 = rw is.0 refl in let c : times f [] ≡ 0 = refl in omega arith)
    (λ g. let a = covered g in let b : times g (pool_of (set_value w pool_lock (Pool pool))).free ≡ times g pool.free = ap (λ v. times g (pool_in v).free) (update_same w.value pool_lock (Pool pool)) in omega arith)
    locks (work same)
