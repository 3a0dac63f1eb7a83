-- What holds of rounds of several workers.
use Rattle.std.specs.Prelude.{◌≡◌, ℕ, List, []}
use Rattle.std.specs.List.{zip}
use Rattle.slub_trace.specs.declared.event.Round.{Round}
use Rattle.slub_trace.specs.declared.trace.Trace.{Trace}
use Rattle.slub_lists.specs.State.{State}
use Rattle.slub_lists.specs.Coherent.{IsCoherent, all_on_board}
use Rattle.slub_core.specs.Law.{replies_of}
use Rattle.slub_core.specs.Run.{System, Pick}
use Rattle.slub_schedule.specs.Rounds.{EndsRound}
use Rattle.slub_law_opening.specs.Closing.{Closes}
use Rattle.slub_law_opening.specs.Opening.{Beside, IsBeside, IsLaidDown, setup_of}
use Rattle.slub_calls.specs.Laws.{MayDo}
use Rattle.slub_slabinfo_text.specs.declared.journal.RoundResult.{RoundResult}
use Rattle.slub_slabinfo_text.specs.Lawful.{AreLedgers, found_in}
use Rattle.slub_law_rounds.specs.Round.{IsRound}
use Rattle.slub_law_rounds.specs.Ran.{RunsRound, system_after}
use Rattle.slub_calls.specs.Replies.{AreReplies}

-- a round that can be done, and that was run from coherent lists whose objects are all on the
-- board, is lawful: in whatever order its workers made their turns
abbrev pub RoundsAreLawful : Type 0
RoundsAreLawful =
    (s : State) (trace : Trace) (round : Round) (result : RoundResult) (lists : State)
    → IsCoherent s → IsLaidDown s → MayDo s trace round → RunsRound s round result lists
    → IsRound s round result (all_on_board lists)

-- so is one whose turns a seed drew
abbrev pub DrawnRoundsAreLawful : Type 0
DrawnRoundsAreLawful =
    (s : State) (b : Beside) (seed : ℕ) (trace : Trace) (round : Round) (result : RoundResult)
    (picks : List Pick) (last : System) (lists after : State) (left : Beside)
    → IsCoherent s → IsLaidDown s → IsBeside s b → MayDo s trace round
    → EndsRound (setup_of s b) seed (system_after s b round []) picks last → Closes s b last lists left
    → AreReplies round.events (replies_of last) result.replies
    → result.damages ≡ found_in s lists
    → AreLedgers s (zip round.events result.replies) round.workers result.ledgers
    → after ≡ all_on_board lists → IsRound s round result after
