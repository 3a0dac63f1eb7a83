-- A round at a table that threads may share, as the crate's own functions have it.
use Rattle.std.specs.Prelude.{◌≡◌, ℕ, List, length}
use Rattle.slub_trace.specs.declared.event.Round.{Round}
use Rattle.slub_trace.specs.declared.trace.Trace.{Trace}
use Rattle.slub_lists.specs.State.{State}
use Rattle.slub_open_close.specs.declared.beside.Beside.{Beside}
use Rattle.slub_turns.specs.declared.machine.StepMachine.{StepMachine}
use Rattle.slub_workers.specs.Begun.{Begun}
use Rattle.slub_workers.specs.Ends.{AreSeated}
use Rattle.slub_workers.specs.Round.{begun_by}
use Rattle.slub_workers.specs.Tables.{begun_at, table_of}
use Rattle.slub_rounds.specs.declared.seated.Seated.{Seated}
use Rattle.slub_rounds.specs.declared.seated.Waiting.{Waiting}
use Rattle.slub_rounds.specs.Answers.{IsRoomFor}
use Rattle.slub_rounds.specs.Machine.{MayRun, IsBegun}

-- the lists and the ids beside them open into this machine, whose workers have the events of the
-- round as their calls; this waits for its end
pub record OpensAt (s : State) (ids : List ℕ) (round : Round) (key : Begun)
    (waiting : Waiting) : Type 0 where
  pub beside : Beside
  pub trace : Trace
  pub may : MayRun s ids beside trace round
  pub machine : StepMachine
  pub begun : IsBegun s beside round machine waiting.rest
  pub key_is : key ≡ begun_by machine
  pub room : IsRoomFor s (length round.events) round.workers waiting.answers

-- a table with that machine, at which its workers have their seats
pub record IsSeatedFor (s : State) (ids : List ℕ) (round : Round) (seats : Seated)
    : Type 0 where
  pub opens : OpensAt s ids round (begun_at seats.shared) seats.waiting
  pub seated : AreSeated (begun_at seats.shared) (table_of seats.shared) seats.workers
