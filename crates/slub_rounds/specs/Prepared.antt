-- A round on words before its first turn, as the crate's own functions have it. The promise doesn't
-- speak of it.
use Rattle.std.specs.Prelude.{◌≡◌, ℕ, List, length}
use Rattle.slub_trace.specs.declared.event.Round.{Round}
use Rattle.slub_trace.specs.declared.trace.Trace.{Trace}
use Rattle.slub_lists.specs.State.{State}
use Rattle.slub_schedule.specs.Schedule.{unfinished}
use Rattle.slub_schedule.specs.Turns.{turns_of}
use Rattle.slub_open_close.specs.declared.beside.Beside.{Beside}
use Rattle.slub_rounds.specs.declared.prepared.Prepared.{Prepared}
use Rattle.slub_rounds.specs.Answers.{IsRoomFor}
use Rattle.slub_rounds.specs.Machine.{MayRun, IsBegun, system_in}

pub record IsPrepared (s : State) (ids : List ℕ) (b : Beside) (trace : Trace) (round : Round)
    (p : Prepared) : Type 0 where
  pub may : MayRun s ids b trace round
  pub begun : IsBegun s b round p.machine p.rest
  pub order : p.order ≡ unfinished (system_in p.machine)
  pub turns : p.turns ≡ turns_of (system_in p.machine)
  pub room : IsRoomFor s (length round.events) round.workers p.answers
