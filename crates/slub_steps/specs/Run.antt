-- What a run promises.
use Rattle.std.specs.Prelude.{◌≡◌, ◌⊎◌, ℕ, List, [], if◌then◌else◌, Result, Ok, Err}
use Rattle.slub_trace.specs.declared.trace.Trace.{Trace}
use Rattle.slub_picks.specs.declared.status.Status.{Status}
use Rattle.slub_picks.specs.declared.status.Status.TheVariants as ends
use Rattle.slub_picks.specs.declared.words.Request.{Request}
use Rattle.slub_asked.specs.declared.asked.Asked.{Asked}
use Rattle.slub_asked.specs.declared.stop.Stop.{Stop}
use Rattle.slub_asked.specs.Asked.{Call, IsAsked}
use Rattle.slub_asked.specs.Ending.{Ends}
use Rattle.slub_round_log.specs.Log.{FailsAt, SinkState, Takes}
use Rattle.slub_steps.specs.Written.{Wanted, WritesLog}

-- the texts of a page before and behind its log
pub record PageTexts : Type 0 where
  pub front : List ℕ
  pub back : List ℕ

-- what a request wants to be shown
abbrev pub wanted_of : Request → Wanted
wanted_of request = record { way = request.way; only = request.round }

-- where no page is asked for there is no text around the log
abbrev pub front_of : PageTexts → Request → List ℕ
front_of page request = if request.page then page.front else []

abbrev pub back_of : PageTexts → Request → List ℕ
back_of page request = if request.page then page.back else []

-- the end of a run is written behind what it has written, and this is its status
abbrev pub IsEnded : SinkState → SinkState → List ℕ → Result Status Stop → Status → Type 0
IsEnded old new back end status =
    Ends old.taken new.taken (old.faults, new.faults) back end status

-- nothing was asked for, or no trace was read: the line that says why is all that is written, and
-- the status is that of the cause, but where a write fails
pub record Refused (c : Call) (old new : SinkState) (status : Status) : Type 0 where
  pub stop : Stop
  pub why : IsAsked c (Err stop)
  pub ends : IsEnded old new [] (Err stop) status

-- the front of the page couldn't be written
pub record FailsFront (front : List ℕ) (old new : SinkState) (status : Status) : Type 0 where
  pub failed : FailsAt old new front
  pub status_is : status ≡ ends.WriteFault

-- the front, then the log, or as much of it as came about; then, where no write failed, the line
-- that says why it ended early, and the back
pub record IsFramed (wanted : Wanted) (trace : Trace) (front back : List ℕ) (old new : SinkState)
    (status : Status) : Type 0 where
  pub begun : SinkState
  pub opens : Takes old begun front
  pub behind : SinkState
  pub end : Result Status Stop
  pub writes : WritesLog wanted trace begun behind end
  pub ends : IsEnded behind new back end status

-- what is written of what was asked for, and the status
abbrev pub IsLogOf : Asked → PageTexts → SinkState → SinkState → Status → Type 0
IsLogOf asked page old new status =
    FailsFront (front_of page asked.request) old new status
    ⊎ IsFramed (wanted_of asked.request) asked.trace (front_of page asked.request)
    (back_of page asked.request) old new status

-- this was asked for, and this trace was read: it was replayed, and its log was written
pub record Replayed (c : Call) (page : PageTexts) (old new : SinkState) (status : Status)
    : Type 0 where
  pub asked : Asked
  pub is_asked : IsAsked c (Ok asked)
  pub log : IsLogOf asked page old new status

-- what `run` promises of each call: what the sink tells before and after, and the status
abbrev pub IsRunOf : Call → PageTexts → SinkState → SinkState → Status → Type 0
IsRunOf c page old new status = Refused c old new status ⊎ Replayed c page old new status
