-- The locks that are taken and given back in a coherent machine are among its 33.
use Rattle.std.proofs.Common.{◌≡◌, ℕ, ◌<◌, ◌⊎◌, Bool, true, false, ◌||◌, List, [], ◌∷◌, ◌++◌, length, map, slice_index_or, Contains, refl, sym, ap, ◌∙◌, subst, arith, inl, inr}
use Rattle.std.proofs.lemmas.List.{length-map}
use Rattle.std.proofs.lemmas.List.Elements.{All-head}
use Rattle.slub_core.specs.declared.spot.Spot.TheVariants.{Between}
use Rattle.slub_core.specs.Setup.{Setup}
use Rattle.slub_core.specs.World.{World, LockValue, world_from, world_of}
use Rattle.slub_core.specs.Local.{Local, Worker}
use Rattle.slub_core.specs.Spots.{in_plain, in_checked}
use Rattle.slub_core.specs.Steps.{step_of, begun}
use Rattle.slub_core.specs.Fresh.{IsAtSpot, IsAtWork}
use Rattle.slub_core.specs.Coherent.{Stands}
use Rattle.slub_core.specs.Accounted.{IsAccounted}
use Rattle.slub_core.specs.Law.{TakesStep, IsCoherentSystem}
use Rattle.slub_core.specs.Run.{System, idle}
use Rattle.slub_core.proofs.Among.{to_front}
use Rattle.slub_core.proofs.Begin.{begin}
use Rattle.slub_core.proofs.MayBegin.{may_begin}
use Rattle.slub_core.proofs.TaleBegin.{accounted_to_front}
use Rattle.slub_core.proofs.Turns.{split}
use Rattle.slub_workers.specs.Locks.{Move, Stays, Takes, Gives, locks_of, move_of}
use Rattle.slub_workers.proofs.Locals.{begun_locks}
use Rattle.slub_workers.proofs.LockSorts.{in_call, IsLockFor, MovesLockFor, lock_is, has_lock_for}

-- ---- a worker of a coherent machine, once it has begun its call

middle_local : (front back : List Worker) (x : Worker) → slice_index_or (map (λ (x : Worker). x.local) (front ++ x ∷ back)) (length front) idle ≡ x.local
middle_local [] back x = refl
middle_local (y ∷ front) back x = middle_local front back x

local_is : (front back : List Worker) (x : Worker) (ls : List Local) (k : ℕ) → length front ≡ k → map (λ (x : Worker). x.local) (front ++ x ∷ back) ≡ ls → x.local ≡ slice_index_or ls k idle
local_is front back x ls k at is = sym (middle_local front back x) ∙ ap (λ j. slice_index_or (map (λ (x : Worker). x.local) (front ++ x ∷ back)) j idle) at ∙ ap (λ xs. slice_index_or xs k idle) is

abbrev pub StandsAt : Setup → Local → Type 0
StandsAt m l = (z : Worker) × (z.local ≡ l) × IsAtSpot m z

pub stands_at : (m : Setup) (tries : Bool) (opening : World) (s : System) (worker : ℕ) → IsCoherentSystem m opening s → worker < length s.locals → StandsAt m (begun m tries (slice_index_or s.locals worker idle))
unfolding world_of world_from
stands_at m tries opening s worker is below =
    let r = split is.workers worker (let e = ap (λ ls. length ls) is.locals in let g = length-map is.workers (λ (x : Worker). x.local) in omega arith) in
    let w = world_of m s.value s.words in
    let all : Stands w is.workers = record { chains = is.chains; placed = is.coherent.placed; listed = is.coherent.listed; fresh = is.coherent.fresh } in
    by_split r.0 r.2 r.1 r.4 (sym (ap (map (λ (x : Worker). x.local)) r.3) ∙ is.locals) (subst (Stands w) r.3 all) (subst (IsAccounted opening w) r.3 is.coherent.accounted)
  where
    by_split : (front back : List Worker) (x : Worker) → length front ≡ worker → map (λ (x : Worker). x.local) (front ++ x ∷ back) ≡ s.locals → Stands (world_of m s.value s.words) (front ++ x ∷ back) → IsAccounted opening (world_of m s.value s.words) (front ++ x ∷ back)
        → StandsAt m (begun m tries (slice_index_or s.locals worker idle))
    by_split front back x at locals all ac =
        let w = world_of m s.value s.words in
        let l = slice_index_or s.locals worker idle in
        let others = front ++ back in
        let mine : x.local ≡ l = local_is front back x s.locals worker at locals in
        let rest = subst (λ l. l.spot ≡ Between → TakesStep m l l.todo) (sym mine) (is.rested worker idle below) in
        let stood = to_front w front back x all in
        let agrees = accounted_to_front opening w front back x ac in
        let began = begin tries w x others stood (λ _. may_begin opening w x others agrees) rest in
        (began.0, began.1 ∙ ap (λ k. begun m tries k) mine, (All-head (IsAtWork w) began.0 others began.2.fresh.workers).spot)

-- ---- its cache, and its locks

or_cases : (a b : Bool) → (a || b) ≡ true → (a ≡ true) ⊎ (b ≡ true)
or_cases true b is = inl refl
or_cases false b is = inr is

cache_of : (m : Setup) (z : Worker) → IsAtSpot m z → in_call z.local.spot ≡ true → z.local.cache < 32
cache_of m z here call = elim (or_cases (in_plain z.local.spot) (in_checked z.local.spot) call) [
  | inl plain ↦ (here.plain plain).0
  | inr checked ↦ (here.checked checked).0
]

-- the cache of its call is one of the machine's
pub cache_below : (m : Setup) (l : Local) → StandsAt m l → in_call l.spot ≡ true → l.cache < 32
cache_below m l (z, is, here) call = subst (λ (k : Local). k.cache < 32) is (cache_of m z here (ap (λ (k : Local). in_call k.spot) is ∙ call))

lock_below : (m : Setup) (l : Local) (lock : ℕ) → StandsAt m l → IsLockFor l.spot l.cache lock → lock < 33
lock_below m l lock stands (inl (call, is)) = let below = cache_below m l stands call in omega arith
lock_below m l lock stands (inr is) = omega arith

abbrev pub MovesBelow : Move → ℕ → Type 0
MovesBelow Stays n = Unit {0}
MovesBelow (Takes lock) n = lock < n
MovesBelow (Gives lock) n = lock < n

by_move : (m : Setup) (l : Local) (move : Move) → StandsAt m l → MovesLockFor l move → MovesBelow move 33
by_move m l Stays stands for = tt
by_move m l (Takes lock) stands for = lock_below m l lock stands for
by_move m l (Gives lock) stands for = lock_below m l lock stands for

pub move_below : (m : Setup) (tries : Bool) (opening : World) (s : System) (worker found : ℕ) (v : ℕ → LockValue) → IsCoherentSystem m opening s → worker < length s.locals
    → let l = begun m tries (slice_index_or s.locals worker idle) in MovesBelow (move_of (step_of m v l) found) 33
move_below m tries opening s worker found v is below =
    let l = begun m tries (slice_index_or s.locals worker idle) in
    by_move m l (move_of (step_of m v l) found) (stands_at m tries opening s worker is below) (lock_is m v l found)

pub has_below : (m : Setup) (opening : World) (s : System) (worker lock : ℕ) → IsCoherentSystem m opening s → worker < length s.locals
    → Contains (locks_of (slice_index_or s.locals worker idle)) lock → lock < 33
has_below m opening s worker lock is below has =
    let l = begun m false (slice_index_or s.locals worker idle) in
    lock_below m l lock (stands_at m false opening s worker is below)
    (has_lock_for l lock (subst (λ ls. Contains ls lock) (sym (begun_locks m false (slice_index_or s.locals worker idle))) has))
