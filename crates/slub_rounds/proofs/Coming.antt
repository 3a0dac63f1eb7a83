-- What came of a round on words, clause by clause.
use Rattle.std.proofs.Common.{ℕ, List, Result, Ok, Err}
use Rattle.std.specs.Prelude.{IfOk, IfErr, MatchResult}
use Rattle.slub_trace.specs.declared.event.Round.{Round}
use Rattle.slub_lists.specs.State.{State}
use Rattle.slub_lists.specs.Coherent.{IsCoherent}
use Rattle.slub_core.specs.Setup.{Setup}
use Rattle.slub_core.specs.Run.{System, Pick}
use Rattle.slub_law_opening.specs.Opening.{IsLaidDown}
use Rattle.slub_open_close.specs.Ids.{AreIds}
use Rattle.slub_slabinfo_text.specs.declared.journal.RoundResult.{RoundResult}
use Rattle.slub_law_rounds.specs.Round.{IsRound}
use Rattle.slub_rounds.specs.declared.ended.Ended.{Ended}
use Rattle.slub_rounds.specs.Machine.{IsDone}
use Rattle.slub_rounds.specs.Rounds.{DoesRoundBySteps}

-- it is done, or it stopped in one of these ways
module _ (Ending : Setup → System → List Pick → System → Type 0) (E : Type 0) (Stops : E → Type 0) (s : State) (ids : List ℕ) (round : Round) where
  abbrev pub Came : Result Ended E → Type 0
  Came r = MatchResult r (λ done. IsDone Ending s ids round done) Stops

  pub does-of : (r : Result Ended E) → Came r → IfOk r (λ done. DoesRoundBySteps Ending s ids round done.result done.lists done.ids)
  does-of (Ok done) came = came.does
  does-of (Err stopped) came = tt

  pub coherent-of : (r : Result Ended E) → Came r → IfOk r (λ done. IsCoherent done.lists)
  coherent-of (Ok done) came = came.coherent
  coherent-of (Err stopped) came = tt

  pub laid-of : (r : Result Ended E) → Came r → IfOk r (λ done. IsLaidDown done.lists)
  laid-of (Ok done) came = came.laid_down
  laid-of (Err stopped) came = tt

  pub ids-of : (r : Result Ended E) → Came r → IfOk r (λ done. AreIds done.lists done.ids)
  ids-of (Ok done) came = came.fit
  ids-of (Err stopped) came = tt

  pub stops-of : (r : Result Ended E) → Came r → IfErr r Stops
  stops-of (Ok done) came = tt
  stops-of (Err stopped) came = came

  pub lawful-of : (r : Result Ended E) → ((result : RoundResult) (after : State) (left : List ℕ) → DoesRoundBySteps Ending s ids round result after left → IsRound s round result after) → Came r → IfOk r (λ done. IsRound s round done.result done.lists)
  lawful-of (Ok done) lawful came = lawful done.result done.lists done.ids came.does
  lawful-of (Err stopped) lawful came = tt
