-- What holds of rounds in the order of the text.
use Rattle.std.specs.Prelude.{ℕ, List, Option}
use Rattle.slub_trace.specs.declared.event.Round.{Round}
use Rattle.slub_trace.specs.declared.trace.Trace.{Trace}
use Rattle.slub_lists.specs.State.{State}
use Rattle.slub_lists.specs.Coherent.{IsCoherent}
use Rattle.slub_calls.specs.Laws.{MayDo}
use Rattle.slub_open_close.specs.Ids.{AreIds}
use Rattle.slub_slabinfo_text.specs.Lawful.{IsAtRest}
use Rattle.slub_slabinfo_text.specs.declared.journal.RoundResult.{RoundResult}
use Rattle.slub_law_rounds.specs.Round.{IsRound}
use Rattle.slub_rounds.specs.ByText.{DoesRoundBeside, DoesByText}

-- a round of a trace that is done in the order of the text on a coherent machine at rest is lawful
abbrev pub RoundsByTextAreLawful : Type 0
RoundsByTextAreLawful =
    (s : State) (ids : Option (List ℕ)) (trace : Trace) (round : Round) (result : RoundResult)
    (after : State) (left : Option (List ℕ))
    → IsCoherent s → IsAtRest s → MayDo s trace round
    → DoesByText s ids round result after left → IsRound s round result after

-- ids that fit the machine fit it after a round, too
abbrev pub RoundsByTextKeepIds : Type 0
RoundsByTextKeepIds =
    (s : State) (ids : List ℕ) (trace : Trace) (round : Round) (result : RoundResult)
    (after : State) (ids_after : List ℕ)
    → IsCoherent s → IsAtRest s → MayDo s trace round → AreIds s ids
    → DoesRoundBeside s ids round result after ids_after → AreIds after ids_after
