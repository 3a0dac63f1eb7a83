-- The memory of a round, as the crate's own functions have it. The promise doesn't speak of it.
use Rattle.std.specs.Prelude.{◌≡◌, ℕ, true, List, length, replicate, sum_by}
use Rattle.slub_trace.specs.declared.event.Act.{Act}
use Rattle.slub_trace.specs.declared.event.Act.TheVariants.{Trim, Flush}
use Rattle.slub_trace.specs.declared.event.Event.{Event}
use Rattle.slub_trace.specs.declared.event.Round.{Round}
use Rattle.slub_lists.specs.State.{State}
use Rattle.slub_core.specs.Setup.{Means}
use Rattle.slub_schedule.specs.Schedule.{places_of}
use Rattle.slub_schedule.specs.Turns.{turns_for}
use Rattle.slub_calls.specs.Calls.{workers_of}
use Rattle.slub_open_close.specs.Beside.{beside_of, IsBesideOf}
use Rattle.slub_rounds.specs.declared.room.Room.{Room}
use Rattle.slub_rounds.specs.Answers.{IsRoomFor}
use Rattle.slub_rounds.specs.Rounds.{StandsBeside}

-- as how many events the turns of a round count an act
abbrev pub weight_in : Act → ℕ
weight_in (Trim place) = 16
weight_in Flush = 16
weight_in _ = 1

abbrev pub weight_of : List Event → ℕ
weight_of events = sum_by (λ (e : Event). weight_in e.act) events

-- so many workers, none of which is finished
abbrev pub all_workers : ℕ → List ℕ
all_workers count = places_of (replicate count true)

-- the memory for a round on this machine, beside which these ids stand
pub record IsTakenFor (s : State) (ids : List ℕ) (round : Round) (room : Room) : Type 0 where
  pub beside : IsBesideOf s room.beside
  pub stands : (means : Means) → StandsBeside s ids (beside_of room.beside means)
  pub workers : room.workers.items ≡ workers_of s.table round
  pub order : room.order ≡ all_workers round.workers
  pub passed : room.passed.items ≡ replicate round.workers 0
  pub turns : room.turns ≡ turns_for (weight_of round.events) round.workers
  pub answers : IsRoomFor s (length round.events) round.workers room.answers
