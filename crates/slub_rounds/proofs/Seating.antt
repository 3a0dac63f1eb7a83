-- A round at a table: that it opens, and into what it closes.
use Rattle.std.proofs.Common.{◌≡◌, ℕ, Bool, false, List, subst, All, Result, Ok, Err}
use Rattle.std.specs.Prelude.{IfOk, IfErr, MatchResult}
use Rattle.slub_trace.specs.declared.event.Round.{Round}
use Rattle.slub_lists.specs.State.{State}
use Rattle.slub_core.specs.Run.{IsFinished}
use Rattle.slub_turns.specs.declared.machine.StepMachine.{StepMachine}
use Rattle.slub_workers.specs.Begun.{Begun}
use Rattle.slub_workers.specs.Ends.{AreSeated}
use Rattle.slub_workers.specs.Round as table
use Rattle.slub_workers.specs.Round.{begun_by}
use Rattle.slub_workers.specs.Tables.{begun_at, table_of}
use Rattle.slub_rounds.specs.declared.ended.Ended.{Ended}
use Rattle.slub_rounds.specs.declared.seated.Seated.{Seated}
use Rattle.slub_rounds.specs.declared.seated.Waiting.{Waiting}
use Rattle.slub_rounds.specs.Machine.{HasClosed, HasEnded, IsDoneByThreads, beside_in, system_in}
use Rattle.slub_rounds.specs.Rounds.{Finishes}
use Rattle.slub_rounds.specs.Seated.{IsSeatedFor, OpensAt}
use Rattle.slub_rounds.proofs.Machines.{is-done}
use Rattle.slub_rounds.proofs.Threads.{finishes, has-worked}

-- ---- the begin

-- its workers have their seats, or the lists are as they were
module _ (s : State) (ids : List ℕ) (round : Round) where
  abbrev pub CameToSeats : Result Seated State → Type 0
  CameToSeats r = MatchResult r (λ seats. IsSeatedFor s ids round seats) (λ after. after ≡ s)

  pub opens-of : (r : Result Seated State) → CameToSeats r → IfOk r (λ seats. OpensAt s ids round (begun_at seats.shared) seats.waiting)
  opens-of (Ok seats) came = came.opens
  opens-of (Err after) came = tt

  pub seated-of : (r : Result Seated State) → CameToSeats r → IfOk r (λ seats. AreSeated (begun_at seats.shared) (table_of seats.shared) seats.workers)
  seated-of (Ok seats) came = came.seated
  seated-of (Err after) came = tt

  pub unopened-of : (r : Result Seated State) → CameToSeats r → IfErr r (λ after. after ≡ s)
  unopened-of (Ok seats) came = tt
  unopened-of (Err after) came = came

-- ---- the end

-- the table closes into this machine, no call was a try, and each worker is finished
module _ (s : State) (ids : List ℕ) (round : Round) (key : Begun) (waiting : Waiting) (opened : OpensAt s ids round key waiting) (tried : Bool) (n : StepMachine) (closed : table.HasClosed key tried (begun_by n)) (none : tried ≡ false) (done : All IsFinished n.locals.items) where
  shut-as : table.HasClosed (begun_by opened.machine) tried (begun_by n)
  shut-as = subst (λ (k : Begun). table.HasClosed k tried (begun_by n)) opened.key_is closed

  pub ends-at : HasEnded s ids opened.beside opened.trace round n waiting.rest waiting.answers
  ends-at =
      has-worked s ids opened.beside opened.trace round opened.machine n waiting.rest opened.may opened.begun tried shut-as none done waiting.answers opened.room

  pub done-at : (ended : Ended) → HasClosed s (beside_in opened.beside) round (system_in n) ended → IsDoneByThreads s ids round ended
  done-at ended into =
      is-done Finishes s ids opened.beside opened.trace round opened.machine n waiting.rest shut-as.picks ended opened.may opened.begun
      (finishes s ids opened.beside opened.trace round opened.machine n waiting.rest opened.may opened.begun tried shut-as none done) into
