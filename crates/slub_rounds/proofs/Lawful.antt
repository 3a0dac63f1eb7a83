-- A round by whatever picks by which each worker is finished is lawful.
use Rattle.std.proofs.Common.{◌≡◌, ℕ, List, sym, subst}
use Rattle.slub_trace.specs.declared.event.Round.{Round}
use Rattle.slub_trace.specs.declared.trace.Trace.{Trace}
use Rattle.slub_lists.specs.State.{State}
use Rattle.slub_lists.specs.Coherent.{IsCoherent}
use Rattle.slub_core.specs.Setup.{Setup}
use Rattle.slub_core.specs.Law.{replies_of}
use Rattle.slub_core.specs.Run.{System, Pick, run}
use Rattle.slub_schedule.specs.Rounds.{IsFinishedSystem}
use Rattle.slub_law_opening.specs.Opening.{IsLaidDown}
use Rattle.slub_law_opening.specs.Closing.{Closes}
use Rattle.slub_calls.specs.Laws.{MayDo}
use Rattle.slub_slabinfo_text.specs.declared.journal.RoundResult.{RoundResult}
use Rattle.slub_law_rounds.specs.Round.{IsRound}
use Rattle.slub_law_rounds.specs.Laws.{RoundsAreLawful}
use Rattle.slub_calls.specs.Replies.{AreReplies}
use Rattle.slub_rounds.specs.InOrder.{EndsInOrder}
use Rattle.slub_rounds.specs.Laws.{RoundsByThreadsAreLawful, RoundsInOrderAreLawful}
use Rattle.slub_rounds.specs.Rounds.{DoesRoundBySteps, Finishes}

pub steps-lawful : RoundsAreLawful → (Ending : Setup → System → List Pick → System → Type 0)
    → ((m : Setup) (first : System) (picks : List Pick) (last : System) → Ending m first picks last → (last ≡ run m first picks) × IsFinishedSystem last)
    → (s : State) (ids : List ℕ) (trace : Trace) (round : Round) (result : RoundResult) (after : State) (left : List ℕ) → IsCoherent s → IsLaidDown s → MayDo s trace round
    → DoesRoundBySteps Ending s ids round result after left → IsRound s round result after
steps-lawful lawful Ending runs s ids trace round result after left coherent laid does done =
    let came = runs _ _ _ _ done.ends in
    subst (IsRound s round result) (sym done.after_is) (lawful s trace round result done.lists coherent laid does (record {
      beside = done.beside;
      fits = done.stands.fits;
      picks = done.picks;
      finished = subst IsFinishedSystem came.0 came.1;
      left = done.left;
      closes = subst (λ end. Closes s done.beside end done.lists done.left) came.0 done.closes;
      replies = subst (λ end. AreReplies round.events (replies_of end) result.replies) came.0 done.replies;
      damages = done.damages;
      ledgers = done.ledgers;
    }))

pub threads-lawful : RoundsAreLawful → RoundsByThreadsAreLawful
threads-lawful lawful = steps-lawful lawful Finishes (λ m first picks last ends. (ends.run, ends.finished))

pub orders-lawful : RoundsAreLawful → RoundsInOrderAreLawful
orders-lawful lawful s ids trace round = steps-lawful lawful (λ m first picks last. EndsInOrder m round.events first picks last) (λ m first picks last ends. (ends.run, ends.finished)) s ids trace round
