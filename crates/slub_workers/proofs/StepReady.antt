-- A machine whose workers may make their turns keeps the room of its node lists.
use Rattle.std.proofs.Common.{◌≡◌, ℕ, ◌<◌, ◌&&◌, not, cond, List, length, get_or, refl, sym, ap, ◌∙◌, arith, add-one}
use Rattle.std.proofs.lemmas.List.{same_lists, get_or-map}
use Rattle.std.proofs.lemmas.List.FromFn.{length-map-range_with_len, get_or-map-range_with_len}
use Rattle.slub_core.specs.Setup.{Setup, node_lock}
use Rattle.slub_core.specs.World.{World, LockValue, world_from, world_of}
use Rattle.slub_core.specs.World as value
use Rattle.slub_core.specs.Listed.{IsGuarded}
use Rattle.slub_core.specs.Run.{System}
use Rattle.slub_core.specs.Law.{IsCoherentSystem}
use Rattle.slub_core.specs.declared.guarded.Guarded.{Guarded}
use Rattle.slub_core.specs.declared.guarded.Guarded.TheVariants.{Nothing}
use Rattle.slub_core.specs.Values.{room_in, rooms_of}
use Rattle.slub_turns.specs.Ready.{room_for, rooms_for}
use Rattle.slub_workers.specs.Standing.{guarded_as, all_guarded}
use Rattle.slub_workers.proofs.StepValues.{length-all, all-at, length-rooms}

-- of a cache's lock
node_room : (m : Setup) (n cache : ℕ) → n ≡ node_lock cache → room_for m n ≡ cond (m.lives cache && not (m.checks cache)) 4095 0
node_room m n cache is = ap (λ (k : ℕ). room_for m k) (is ∙ add-one cache)

-- what a lock guards in a coherent machine has the room that it has in the machine
pub room-kept : (m : Setup) (n : ℕ) (v : LockValue) → IsGuarded m n v → room_in (guarded_as (room_for m n) v) ≡ room_for m n
room-kept m n value.Nothing (cache, is, dead) = sym (node_room m n cache is ∙ (rw dead refl))
room-kept m n (value.Node frames) guarded = refl
room-kept m n (value.Checked slabs) (cache, is, lives, checks, of) = sym (node_room m n cache is ∙ (rw (lives, checks) refl))
room-kept m n (value.Pool pool) (is, ok, frames) = sym (ap (λ (k : ℕ). room_for m k) is)

-- of the value of each lock of a coherent machine
pub guarded-value : (m : Setup) (opening : World) (s : System) → IsCoherentSystem m opening s → (n : ℕ) → n < 33 → IsGuarded m n (s.value n)
unfolding world_of world_from
guarded-value m opening s is n below =
    let locks = is.coherent.fresh.setup.locks in
    is.coherent.listed.shaped.guarded n (omega arith)

-- ---- of all locks

length-full : (m : Setup) → length (rooms_for m) ≡ 33
length-full m = length-map-range_with_len (room_for m) 0 33

pub many-guards : (m : Setup) (guards : List Guarded) → rooms_of guards ≡ rooms_for m → length guards ≡ 33
many-guards m guards full = sym (length-rooms guards) ∙ ap (λ (rooms : List ℕ). length rooms) full ∙ length-full m

-- the rooms stay, whatever the values are, where each is one that its lock guards
pub rooms-kept : (m : Setup) (guards : List Guarded) (v : ℕ → LockValue) → rooms_of guards ≡ rooms_for m → ((n : ℕ) → n < 33 → IsGuarded m n (v n))
    → rooms_of (all_guarded (rooms_of guards) v) ≡ rooms_for m
rooms-kept m guards v full guarded =
    let now = all_guarded (rooms_of guards) v in
    let long : length now ≡ 33 = length-all (rooms_of guards) v ∙ length-rooms guards ∙ many-guards m guards full in
    same_lists (rooms_of now) (rooms_for m) (length-rooms now ∙ long ∙ sym (length-full m)) (λ k d below. at_lock k d (let rooms = length-rooms now in omega arith))
  where
    at_lock : (k d : ℕ) → k < 33 → get_or (rooms_of (all_guarded (rooms_of guards) v)) k d ≡ get_or (rooms_for m) k d
    at_lock k d below =
        let now = all_guarded (rooms_of guards) v in
        let many = many-guards m guards full in
        let rooms = length-rooms guards in
        let long = length-all (rooms_of guards) v in
        let room : get_or (rooms_of guards) k 0 ≡ room_for m k = ap (λ (rs : List ℕ). get_or rs k 0) full ∙ get_or-map-range_with_len (room_for m) 0 33 k k 0 below (omega arith) in
        get_or-map room_in now k Nothing d (omega arith)
        ∙ ap room_in (all-at (rooms_of guards) v k (omega arith))
        ∙ ap (λ (r : ℕ). room_in (guarded_as r (v k))) room
        ∙ room-kept m k (v k) (guarded k below)
        ∙ sym (get_or-map-range_with_len (room_for m) 0 33 k k d below (omega arith))
