-- A round by the order of the text has one outcome.
use Rattle.std.proofs.Common.{◌≡◌, ℕ, ◌<◌, List, get_or, sym, ◌∙◌, ap, subst, arith}
use Rattle.std.proofs.lemmas.List.{same_lists, get_or_default}
use Rattle.std.specs.List.{zip}
use Rattle.slub_trace.specs.declared.event.Event.{Event}
use Rattle.slub_trace.specs.declared.event.Round.{Round}
use Rattle.slub_trace.specs.declared.ledger.Ledger.{Ledger}
use Rattle.slub_trace.specs.declared.reply.Reply.{Reply}
use Rattle.slub_lists.specs.State.{State}
use Rattle.slub_lists.specs.Coherent.{all_on_board}
use Rattle.slub_slabinfo_text.specs.declared.journal.RoundResult.{RoundResult}
use Rattle.slub_slabinfo_text.specs.Lawful.{AreLedgers, DoesRound, IsLedger, found_in}
use Rattle.slub_law_alone.specs.Rounds.{RoundsHaveOneOutcome, UncheckedRoundsHaveOneOutcome}
use Rattle.slub_law_alone.proofs.Events.{runs_one}
use Rattle.slub_law_alone.proofs.Quiet.{unchecked_runs_one}

-- a worker's ledger is one
ledger_same : (s : State) (answers : List (Event × Reply)) (worker : ℕ) (a b : Ledger) → IsLedger s answers worker a → IsLedger s answers worker b → a ≡ b
ledger_same s answers worker a b x y =
    let orders : a.no_frames ≡ b.no_frames =
    same_lists a.no_frames b.no_frames (x.orders ∙ sym y.orders) (λ k d inside.
    get_or_default a.no_frames k d 0 inside ∙ x.no_frames k (omega (arith, inside, x.orders)) ∙ sym (y.no_frames k (omega (arith, inside, x.orders)))
    ∙ get_or_default b.no_frames k 0 d (omega (arith, inside, x.orders, y.orders))) in
    λ i. record { given = (x.given ∙ sym y.given) i; freed = (x.freed ∙ sym y.freed) i; no_frames = orders i }

pub ledgers_same : (s : State) (answers : List (Event × Reply)) (workers : ℕ) (a b : List Ledger) → AreLedgers s answers workers a → AreLedgers s answers workers b → a ≡ b
ledgers_same s answers workers a b x y =
    same_lists a b (x.each ∙ sym y.each) (λ k d inside.
    let at : k < workers = omega (arith, inside, x.each) in
    ledger_same s answers k (get_or a k d) (get_or b k d) (x.counts k d at) (y.counts k d at))

result_same : (a b : RoundResult) → a.replies ≡ b.replies → a.damages ≡ b.damages → a.ledgers ≡ b.ledgers → a ≡ b
result_same a b replies damages ledgers = λ i. record { replies = replies i; damages = damages i; ledgers = ledgers i }

-- a round whose events have one outcome has one
round_same : (s : State) (round : Round) (one other : RoundResult) (left right : State)
    → (a : DoesRound s round one left) → (b : DoesRound s round other right) → (one.replies ≡ other.replies) × (a.last ≡ b.last) → (one ≡ other) × (left ≡ right)
round_same s round one other left right a b same =
    let damages : one.damages ≡ other.damages = a.damages ∙ ap (found_in s) same.1 ∙ sym b.damages in
    let counted : AreLedgers s (zip round.events other.replies) round.workers one.ledgers =
    subst (λ (replies : List Reply). AreLedgers s (zip round.events replies) round.workers one.ledgers) same.0 a.ledgers in
    let ledgers : one.ledgers ≡ other.ledgers = ledgers_same s (zip round.events other.replies) round.workers one.ledgers other.ledgers counted b.ledgers in
    (result_same one other same.0 damages ledgers, a.after_is ∙ ap all_on_board same.1 ∙ sym b.after_is)

pub rounds_one : RoundsHaveOneOutcome
rounds_one s round one other left right wants a b =
    round_same s round one other left right a b (runs_one s round.events one.replies other.replies a.last b.last wants a.runs b.runs)

pub unchecked_rounds_one : UncheckedRoundsHaveOneOutcome
unchecked_rounds_one s round quiet one other left right a b =
    round_same s round one other left right a b (unchecked_runs_one s round.events quiet one.replies other.replies a.last b.last a.runs b.runs)
