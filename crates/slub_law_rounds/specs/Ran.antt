-- A round of several workers that was run on words, in whatever order its workers made their turns.
use Rattle.std.specs.Prelude.{◌≡◌, List, All}
use Rattle.std.specs.List.{zip}
use Rattle.slub_trace.specs.declared.event.Round.{Round}
use Rattle.slub_lists.specs.State.{State}
use Rattle.slub_core.specs.Run.{System, Pick, run, IsFinished}
use Rattle.slub_core.specs.Opening.{opened}
use Rattle.slub_core.specs.Law.{replies_of}
use Rattle.slub_law_opening.specs.Opening.{Beside, IsBeside, setup_of}
use Rattle.slub_law_opening.specs.Table.{system_of}
use Rattle.slub_law_opening.specs.Closing.{Closes}
use Rattle.slub_calls.specs.Calls.{workers_of}
use Rattle.slub_slabinfo_text.specs.declared.journal.RoundResult.{RoundResult}
use Rattle.slub_slabinfo_text.specs.Lawful.{AreLedgers, found_in}
use Rattle.slub_calls.specs.Replies.{AreReplies}

-- ---- the round

-- the words of the lists, and each worker with its events to come, after these turns
abbrev pub system_after : State → Beside → Round → List Pick → System
system_after s b round picks =
    run (setup_of s b) (opened (setup_of s b) (system_of s b (workers_of s.table round))) picks

-- the lists open into words, the workers make their turns until each event has its reply, and the
-- words close into lists. Each worker's ledger counts the replies to its events, and what is told
-- of damages are the reports that came
pub record RunsRound (s : State) (round : Round) (result : RoundResult)
    (lists : State) : Type 0 where
  pub beside : Beside
  pub fits : IsBeside s beside
  pub picks : List Pick
  pub finished : All IsFinished (system_after s beside round picks).locals
  pub left : Beside
  pub closes : Closes s beside (system_after s beside round picks) lists left
  pub replies : AreReplies round.events
      (replies_of (system_after s beside round picks)) result.replies
  pub damages : result.damages ≡ found_in s lists
  pub ledgers : AreLedgers s (zip round.events result.replies) round.workers result.ledgers
