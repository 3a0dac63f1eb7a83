-- What a trace does with the objects of its caches.
use Rattle.std.specs.Prelude.{◌≡◌, ℕ, ◌+◌, ◌%◌, ◌==◌, Bool, true, not, ◌&&◌, ◌||◌, List, [], ◌∷◌, filter_map, slice_index_or, Option, None, Some, option_map, ⊤}
use Rattle.slub_recorded.specs.declared.pairing.Move.{Move}
use Rattle.slub_recorded.specs.declared.pairing.Move.TheVariants as move
use Rattle.slub_recorded.specs.declared.turns.Kept.{Kept}
use Rattle.slub_recorded.specs.declared.turns.Turn.{Turn}
use Rattle.slub_recorded.specs.declared.turns.Turn.TheVariants.{Alloc, Free}

-- objects, by the places that their caches have in the trace: those that have one are kept, and
-- numbered on from this count, in the order of their allocations
abbrev pub numbered : ℕ → List (Option ℕ) → List (Option Kept)
numbered count [] = []
numbered count (None ∷ places) = None ∷ numbered count places
numbered count (Some place ∷ places) =
    Some (record { place = place; number = count + 1 }) ∷ numbered (count + 1) places

-- how many objects are kept
abbrev pub count_kept : List (Option ℕ) → ℕ
count_kept [] = 0
count_kept (None ∷ places) = count_kept places
count_kept (Some place ∷ places) = count_kept places + 1

-- an object's cache and number, where it is kept
abbrev pub kept_at : List (Option Kept) → ℕ → Option Kept
kept_at kept object = slice_index_or kept object None

-- what the trace does of a move: nothing where the object isn't kept; CPU c is c modulo the CPUs
abbrev pub turn_of : List (Option Kept) → ℕ → Move → Option Turn
turn_of kept cpus (move.Alloc cpu object) =
    option_map (λ k. Alloc (cpu % cpus) k.place k.number) (kept_at kept object)
turn_of kept cpus (move.Free cpu object name) =
    option_map (λ k. Free (cpu % cpus) k.number) (kept_at kept object)

-- what the trace does: all moves of kept objects, in their order
abbrev pub turns_of : List (Option ℕ) → ℕ → List Move → List Turn
turns_of places cpus moves = filter_map (turn_of (numbered 0 places) cpus) moves

-- ---- who lives when

-- behind so many allocations, these objects living: an object is allocated under the next number,
-- and freed only while it lives
abbrev pub IsNext : (ℕ → Bool) → ℕ → Turn → Type 0
IsNext lives count (Alloc cpu cache object) = object ≡ count + 1
IsNext lives count (Free cpu object) = lives object ≡ true

-- which objects live behind a turn
abbrev pub lives_after : (ℕ → Bool) → Turn → ℕ → Bool
lives_after lives (Alloc cpu cache object) number = number == object || lives number
lives_after lives (Free cpu object) number = not (number == object) && lives number

-- how many were allocated behind a turn
abbrev pub count_after : ℕ → Turn → ℕ
count_after count (Alloc cpu cache object) = count + 1
count_after count (Free cpu object) = count

-- so is each of these turns behind those before it: objects are allocated under rising numbers, and
-- each is freed at most once, after it
abbrev pub AreNext : (ℕ → Bool) → ℕ → List Turn → Type 0
AreNext lives count [] = ⊤
AreNext lives count (turn ∷ turns) =
    IsNext lives count turn × AreNext (lives_after lives turn) (count_after count turn) turns
