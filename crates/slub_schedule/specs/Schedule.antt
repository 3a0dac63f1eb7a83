-- Whose turn a number draws: one of the workers that are unfinished (profile).
use Rattle.std.specs.Prelude.{◌≡◌, ℕ, suc, ◌%◌, ◌≤◌, Bool, true, false, ◌&&◌, not, cond, List, [], ◌∷◌, length, slice_index, map}
use Rattle.slub_core.specs.declared.call.Call.{Call}
use Rattle.slub_core.specs.declared.spot.Spot.{Spot}
use Rattle.slub_core.specs.declared.spot.Spot.TheVariants.{Between}
use Rattle.slub_core.specs.Setup.{Setup}
use Rattle.slub_core.specs.Local.{Local}
use Rattle.slub_core.specs.Run.{System, Pick, turn}
use Rattle.slub_schedule.specs.Draws.{next, number_from}

-- ---- the workers that are unfinished

abbrev pub is_between : Spot → Bool
is_between Between = true
is_between _ = false

abbrev pub has_none : List Call → Bool
has_none [] = true
has_none (call ∷ calls) = false

-- it is in no call, and each of its calls has a reply
abbrev pub is_finished : Local → Bool
is_finished l = is_between l.spot && has_none l.todo

-- by worker, whether it is unfinished
abbrev pub marks_of : List Local → List Bool
marks_of locals = map (λ (l : Local). not (is_finished l)) locals

-- the places that are marked, in rising number, where the first place has the number n
abbrev pub places_from : ℕ → List Bool → List ℕ
places_from n [] = []
places_from n (marked ∷ marks) =
    cond marked (n ∷ places_from (suc n) marks) (places_from (suc n) marks)

abbrev pub places_of : List Bool → List ℕ
places_of marks = places_from 0 marks

-- the unfinished workers, in rising number
abbrev pub unfinished : System → List ℕ
unfinished s = places_of (marks_of s.locals)

-- ---- the picks

-- a call that begins with the turn is no try: it goes on until it has its reply
abbrev pub IsCall : Pick → Type 0
IsCall pick = pick.tries ≡ false

-- of the u unfinished workers the one at place number mod u
abbrev pub chosen : System → ℕ → ℕ
chosen s number = slice_index (unfinished s) (number % length (unfinished s))

-- the picks are those that the generator draws from x on: before each turn a number, which chooses
-- among those that are unfinished then. No call is a try; whether memory is refused in a turn is
-- left open
abbrev pub AreDrawn : Setup → System → ℕ → List Pick → Type 0
AreDrawn m s x [] = Unit {0}
AreDrawn m s x (pick ∷ picks) =
    (1 ≤ length (unfinished s)) × (pick.worker ≡ chosen s (number_from x)) × IsCall pick
    × AreDrawn m (turn m s pick) (next x) picks

-- memory is refused in the same turns, as far as both go
abbrev pub AreRefusedAlike : List Pick → List Pick → Type 0
AreRefusedAlike (p ∷ ps) (q ∷ qs) = (p.refused ≡ q.refused) × AreRefusedAlike ps qs
AreRefusedAlike _ _ = Unit {0}

-- in turn n memory is refused exactly where `refused n` says so
abbrev pub AreRefusedBy : (ℕ → Bool) → ℕ → List Pick → Type 0
AreRefusedBy refused n [] = Unit {0}
AreRefusedBy refused n (p ∷ ps) = (p.refused ≡ refused n) × AreRefusedBy refused (suc n) ps
