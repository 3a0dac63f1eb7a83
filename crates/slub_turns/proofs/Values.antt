-- What the locks guard, as the bodies have it: the pool behind its lock, and node lists with room.
use Rattle.std.proofs.Common.{◌≡◌, ℕ, ◌+◌, ◌-◌, ◌≤◌, List, length, get_or, sym, ap, ◌∙◌, subst, arith}
use Rattle.std.proofs.Math.ListN.{get_or-map}
use Rattle.slub_page_pool.specs.FreeFrames.{FreeFrames}
use Rattle.slub_core.specs.Setup.{Setup, IsPlain, node_lock, pool_lock}
use Rattle.slub_core.specs.World.{World, LockValue, frames_in, pool_in, pool_of}
use Rattle.slub_core.specs.World as value
use Rattle.slub_core.specs.Local.{Worker, Change}
use Rattle.slub_core.specs.Alloc.{node_of}
use Rattle.slub_core.specs.Listed.{IsGuarded}
use Rattle.slub_core.specs.Coherent.{Stands}
use Rattle.slub_core.proofs.UnderLock.{Makes, node-is, pool-is}
use Rattle.slub_core.specs.declared.guarded.Guarded.{Guarded}
use Rattle.slub_core.specs.declared.guarded.Guarded.TheVariants.{Nothing, Node, Checked, Pool}
use Rattle.slub_core.specs.Values.{value_in, values_of, room_in, HasRoom, HasRoomAt, IsPoolValue, HasPool}
use Rattle.slub_turns.specs.Fits.{AreValues}

-- the value of a lock
pub value-at : (m : Setup) (v : ℕ → LockValue) (guarded : List Guarded) → AreValues m v guarded → (n : ℕ) → values_of guarded n ≡ v n
value-at m v guarded are n = ap (λ (g : ℕ → LockValue). g n) are.values

-- ---- the pool

is-pool : (g : Guarded) (pool : FreeFrames) → value_in g ≡ value.Pool pool → IsPoolValue g
is-pool Nothing pool e = let h : ⊥ = cc in absurd h
is-pool (Node list) pool e = let h : ⊥ = cc in absurd h
is-pool (Checked slabs) pool e = let h : ⊥ = cc in absurd h
is-pool (Pool frames) pool e = tt

pub pool-there : (w : World) (xs : List Worker) (guarded : List Guarded) → Stands w xs → AreValues w.setup w.value guarded → HasPool guarded
pool-there w xs guarded s are =
    let count = s.fresh.setup.locks in
    let is = (pool-is w.setup (w.value pool_lock) (s.listed.shaped.guarded pool_lock (omega arith))).0 in
    is-pool (get_or guarded pool_lock Nothing) (pool_of w) (value-at w.setup w.value guarded are pool_lock ∙ is)

-- ---- node lists

room-is : (m : Setup) (cache : ℕ) (g : Guarded) → IsPlain m cache → IsGuarded m (node_lock cache) (value_in g) → length (frames_in (value_in g)) + 2 ≤ m.frames → m.frames ≤ room_in g + 1 → HasRoom g
room-is m cache Nothing plain is short room = let e = node-is m cache value.Nothing plain is in let h : ⊥ = cc in absurd h
room-is m cache (Node list) plain is short room = omega arith
room-is m cache (Checked slabs) plain is short room = let e = node-is m cache (value.Checked slabs) plain is in let h : ⊥ = cc in absurd h
room-is m cache (Pool pool) plain is short room = let e = node-is m cache (value.Pool pool) plain is in let h : ⊥ = cc in absurd h

-- a lock of a plain cache guards its node list
pub node-guarded : (w : World) (xs : List Worker) (cache : ℕ) → Stands w xs → IsPlain w.setup cache → IsGuarded w.setup (node_lock cache) (w.value (node_lock cache))
node-guarded w xs cache s plain = let count = s.fresh.setup.locks in let below = plain.0 in s.listed.shaped.guarded (node_lock cache) (omega arith)

-- a list that the machine has after what is done at once is shorter than the frames are many
after-short : (w : World) (xs others : List Worker) (cache : ℕ) (c : Change) (frames : List ℕ) → Stands w xs → IsPlain w.setup cache → c.value (node_lock cache) ≡ value.Node frames → Makes w others c → length frames ≤ w.setup.frames - 1
after-short w xs others cache c frames s plain is makes =
    let count = s.fresh.setup.locks in
    let below = plain.0 in
    let guarded = makes.2.listed.shaped.guarded (node_lock cache) (omega arith) in
    let at : IsGuarded w.setup (node_lock cache) (value.Node frames) = rw is at guarded in
    at.4

-- so there is room for one slab more where that list is one longer
pub node-room : (w : World) (xs others : List Worker) (guarded : List Guarded) (cache : ℕ) (c : Change) (frames : List ℕ) → Stands w xs → AreValues w.setup w.value guarded → IsPlain w.setup cache
    → c.value (node_lock cache) ≡ value.Node frames → length frames ≡ length (frames_in (w.value (node_lock cache))) + 1 → Makes w others c → HasRoomAt guarded cache
node-room w xs others guarded cache c frames s are plain is more makes =
    let g = get_or guarded (node_lock cache) Nothing in
    let same : value_in g ≡ w.value (node_lock cache) = value-at w.setup w.value guarded are (node_lock cache) in
    let short = after-short w xs others cache c frames s plain is makes in
    let old : length (frames_in (value_in g)) ≡ length (frames_in (w.value (node_lock cache))) = ap (λ (v : LockValue). length (frames_in v)) same in
    let some = s.fresh.setup.frames in
    let room : w.setup.frames ≤ room_in g + 1 = subst (λ (n : ℕ). w.setup.frames ≤ n + 1) (get_or-map room_in guarded (node_lock cache) Nothing) (are.rooms cache plain) in
    room-is w.setup cache g plain (subst (IsGuarded w.setup (node_lock cache)) (sym same) (node-guarded w xs cache s plain)) (omega arith) room

-- the node list of a worker's cache
pub node-values : (w : World) (guarded : List Guarded) (x : Worker) → AreValues w.setup w.value guarded → node_of (values_of guarded) x.local ≡ node_of w.value x.local
node-values w guarded x are = ap frames_in (value-at w.setup w.value guarded are (node_lock x.local.cache))
