-- The law: a turn of any worker leads from a machine that is coherent to such a machine.
use Rattle.std.specs.Prelude.{◌≡◌, List, [], ◌∷◌, length, map, slice_index_or, All, None}
use Rattle.slub_core.specs.declared.call.Call.{Call}
use Rattle.slub_core.specs.declared.local.Answered.{Answered}
use Rattle.slub_core.specs.declared.spot.Spot.TheVariants.{Between}
use Rattle.slub_core.specs.Calls.{call_kind, call_place}
use Rattle.slub_core.specs.Setup.{Setup}
use Rattle.slub_core.specs.Words.{word_count}
use Rattle.slub_core.specs.World.{World, Chains, world_of}
use Rattle.slub_core.specs.Local.{Local, Worker, nobody}
use Rattle.slub_core.specs.Steps.{told_at_once}
use Rattle.slub_core.specs.Run.{System, Pick, turn, run, IsFinished}
use Rattle.slub_core.specs.Coherent.{IsCoherent}
use Rattle.slub_core.specs.Opening.{IsOpening, opened}
use Rattle.slub_core.specs.Round.{IsRoundOnWords}

-- ---- machines that are coherent

-- of a worker between two calls: its next call, if there is one, takes a step
abbrev pub TakesStep : Setup → Local → List Call → Type 0
TakesStep m l [] = Unit {0}
TakesStep m l (call ∷ calls) =
    told_at_once m (slice_index_or l.known (call_place call) nobody) call (call_kind call) ≡ None

abbrev pub IsRested : Setup → Local → Type 0
IsRested m l = l.spot ≡ Between → TakesStep m l l.todo

-- the words, the values of the locks and the workers, with some chains and strings in hand, are
-- those of a machine that is coherent since it was in the state `opening`
pub record IsCoherentSystem (m : Setup) (opening : World) (s : System) : Type 0 where
  pub words : length s.words ≡ word_count m
  pub workers : List Worker
  pub locals : map (λ (x : Worker). x.local) workers ≡ s.locals
  pub chains : Chains
  pub coherent : IsCoherent opening (world_of m s.value s.words) chains workers
  pub rested : All (IsRested m) s.locals

-- ---- the law

-- whatever the other workers are at, the turn of any worker leads from a machine that is coherent
-- to one that is coherent since the same opening
abbrev pub TurnsKeepAll : Type 0
TurnsKeepAll =
    (m : Setup) (opening : World) (s : System) (pick : Pick)
    → IsCoherentSystem m opening s → IsCoherentSystem m opening (turn m s pick)

-- before each pick of a run and after the last one the machine is coherent
abbrev pub CoherentAlong : Setup → World → System → List Pick → Type 0
CoherentAlong m opening s [] = IsCoherentSystem m opening s
CoherentAlong m opening s (pick ∷ picks) =
    IsCoherentSystem m opening s × CoherentAlong m opening (turn m s pick) picks

-- it is so in every run, in whatever order the workers make their turns
abbrev pub RunsKeepAll : Type 0
RunsKeepAll =
    (m : Setup) (opening : World) (s : System) (picks : List Pick)
    → IsCoherentSystem m opening s → CoherentAlong m opening s picks

-- and a round begins with such a machine
abbrev pub RoundsKeepAll : Type 0
RoundsKeepAll =
    (m : Setup) (s : System) (picks : List Pick) → IsOpening m s
    → CoherentAlong m (world_of m s.value s.words) (opened m s) picks

-- the calls that its workers began with, and what each was answered
abbrev pub calls_to_come : System → List (List Call)
calls_to_come s = map (λ (l : Local). l.todo) s.locals

abbrev pub replies_of : System → List (List Answered)
replies_of s = map (λ (l : Local). l.done) s.locals

-- once every call has its reply, the replies and the board are those of a round
abbrev pub RoundsEnd : Type 0
RoundsEnd =
    (m : Setup) (s : System) (picks : List Pick) → IsOpening m s
    → let end = run m (opened m s) picks in All IsFinished end.locals
    → IsRoundOnWords m (world_of m s.value s.words) (world_of m end.value end.words) (calls_to_come s)
    (replies_of end)
