-- What is guarded, made of the values of the locks and of the room in the node lists.
use Rattle.std.proofs.Common.{◌≡◌, ℕ, ◌<◌, ◌≤◌, ◌⊎◌, List, length, get_or, refl, sym, ap, ◌∙◌, arith, inl, inr}
use Rattle.std.proofs.lemmas.Bool.{cases_lt}
use Rattle.std.proofs.lemmas.List.{length-map, get_or-map, get_or_past, same_lists, get_or_default}
use Rattle.std.proofs.lemmas.List.FromFn.{length-map-range_with_len, get_or-map-range_with_len}
use Rattle.slub_core.specs.World.{LockValue}
use Rattle.slub_core.specs.World as value
use Rattle.slub_core.specs.declared.guarded.Guarded.{Guarded}
use Rattle.slub_core.specs.declared.guarded.Guarded.TheVariants.{Nothing, Node, Checked, Pool}
use Rattle.slub_core.specs.Values.{value_in, values_of, room_in, rooms_of}
use Rattle.slub_workers.specs.Standing.{guarded_as, all_guarded}

-- ---- one

pub value-as : (room : ℕ) (v : LockValue) → value_in (guarded_as room v) ≡ v
value-as room value.Nothing = refl
value-as room (value.Node frames) = refl
value-as room (value.Checked slabs) = refl
value-as room (value.Pool pool) = refl

pub as-value : (g : Guarded) → guarded_as (room_in g) (value_in g) ≡ g
as-value Nothing = refl
as-value (Node list) = refl
as-value (Checked slabs) = refl
as-value (Pool pool) = refl

-- ---- all

pub length-all : (rooms : List ℕ) (v : ℕ → LockValue) → length (all_guarded rooms v) ≡ length rooms
length-all rooms v = length-map-range_with_len (λ (lock : ℕ). guarded_as (get_or rooms lock 0) (v lock)) 0 (length rooms)

pub all-at : (rooms : List ℕ) (v : ℕ → LockValue) (lock : ℕ) → lock < length rooms → get_or (all_guarded rooms v) lock Nothing ≡ guarded_as (get_or rooms lock 0) (v lock)
all-at rooms v lock below = get_or-map-range_with_len (λ (k : ℕ). guarded_as (get_or rooms k 0) (v k)) 0 (length rooms) lock lock Nothing below (omega arith)

-- of a list of what is guarded
pub room-at : (gs : List Guarded) (lock : ℕ) → lock < length gs → get_or (rooms_of gs) lock 0 ≡ room_in (get_or gs lock Nothing)
room-at gs lock below = get_or-map room_in gs lock Nothing 0 below

pub length-rooms : (gs : List Guarded) → length (rooms_of gs) ≡ length gs
length-rooms gs = length-map gs room_in

-- what the locks guard in one list, with the values that it has, or with others
pub as-new : (gs : List Guarded) (v : ℕ → LockValue) (lock : ℕ) → lock < length gs → get_or (all_guarded (rooms_of gs) v) lock Nothing ≡ guarded_as (room_in (get_or gs lock Nothing)) (v lock)
as-new gs v lock below =
    let long = length-rooms gs in
    all-at (rooms_of gs) v lock (omega arith) ∙ ap (λ (room : ℕ). guarded_as room (v lock)) (room-at gs lock below)

pub as-before : (gs : List Guarded) (v : ℕ → LockValue) (lock : ℕ) → lock < length gs → v lock ≡ values_of gs lock → get_or (all_guarded (rooms_of gs) v) lock Nothing ≡ get_or gs lock Nothing
as-before gs v lock below same =
    as-new gs v lock below ∙ ap (λ (x : LockValue). guarded_as (room_in (get_or gs lock Nothing)) x) same ∙ as-value (get_or gs lock Nothing)

-- the values of such a list
pub values-all : (gs : List Guarded) (v : ℕ → LockValue) → ((lock : ℕ) → length gs ≤ lock → v lock ≡ value.Nothing) → values_of (all_guarded (rooms_of gs) v) ≡ v
values-all gs v past i lock = at_lock lock (cases_lt lock (length gs)) i
  where
    at_lock : (lock : ℕ) → (lock < length gs) ⊎ (length gs ≤ lock) → values_of (all_guarded (rooms_of gs) v) lock ≡ v lock
    at_lock lock (inl below) = ap value_in (as-new gs v lock below) ∙ value-as (room_in (get_or gs lock Nothing)) (v lock)
    at_lock lock (inr over) =
        let long = length-all (rooms_of gs) v in
        let rooms = length-rooms gs in
        ap value_in (get_or_past (all_guarded (rooms_of gs) v) lock Nothing (omega arith)) ∙ sym (past lock over)

-- a list that has these values and these rooms is that list
pub all_guarded_is : (now : List Guarded) (rooms : List ℕ) (v : ℕ → LockValue) → values_of now ≡ v → rooms_of now ≡ rooms → all_guarded rooms v ≡ now
all_guarded_is now rooms v values are =
    ap (λ (r : List ℕ). all_guarded r v) (sym are) ∙ ap (λ (u : ℕ → LockValue). all_guarded (rooms_of now) u) (sym values) ∙ itself
  where
    itself : all_guarded (rooms_of now) (values_of now) ≡ now
    itself =
        let long = length-all (rooms_of now) (values_of now) in
        let rooms = length-rooms now in
        same_lists (all_guarded (rooms_of now) (values_of now)) now (long ∙ rooms) (λ k d below. at_place k d (omega arith))
      where
        at_place : (k : ℕ) (d : Guarded) → k < length now → get_or (all_guarded (rooms_of now) (values_of now)) k d ≡ get_or now k d
        at_place k d below =
            let long = length-all (rooms_of now) (values_of now) in
            let rooms = length-rooms now in
            get_or_default (all_guarded (rooms_of now) (values_of now)) k d Nothing (omega arith)
            ∙ as-before now (values_of now) k below refl ∙ get_or_default now k Nothing d below
