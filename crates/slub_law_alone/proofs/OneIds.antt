-- The ids that events leave beside the lists are one, as their replies are and the lists that they leave.
use Rattle.std.proofs.Common.{◌≡◌, List, [], ◌∷◌, refl, sym, ◌∙◌, subst}
use Rattle.slub_trace.specs.declared.reply.Reply.{Reply}
use Rattle.slub_trace.specs.declared.event.Event.{Event}
use Rattle.slub_lists.specs.State.{State}
use Rattle.slub_law_opening.specs.Opening.{Beside}
use Rattle.slub_slabinfo_text.specs.Lawful.{RunsEvents}
use Rattle.slub_calls.specs.Changes.{beside_after}
use Rattle.slub_calls.specs.Events.{RunsWithIds}
use Rattle.slub_law_alone.proofs.Events.{answers_one}

-- without the ids
pub without-ids : (s : State) (b : Beside) (events : List Event) (replies : List Reply) (after : State) (left : Beside) → RunsWithIds s b events replies after left → RunsEvents s events replies after
without-ids s b [] [] after left runs = runs.0
without-ids s b [] (reply ∷ replies) after left runs = absurd runs
without-ids s b (event ∷ events) [] after left runs = absurd runs
without-ids s b (event ∷ events) (reply ∷ replies) after left runs =
    (runs.0, runs.1, runs.2, without-ids runs.0 (beside_after s b event.worker event.cpu event.act reply) events replies after left runs.3)

pub ids-one : (s : State) (b : Beside) (events : List Event) (replies : List Reply) (one other : State) (left right : Beside) → RunsWithIds s b events replies one left → RunsWithIds s b events replies other right → left ≡ right
ids-one s b [] [] one other left right runs again = runs.1 ∙ sym again.1
ids-one s b [] (reply ∷ replies) one other left right runs again = absurd runs
ids-one s b (event ∷ events) [] one other left right runs again = absurd runs
ids-one s b (event ∷ events) (reply ∷ replies) one other left right runs again =
    let same = answers_one s event event.act reply reply runs.0 again.0 refl runs.1 again.1 in
    let next = beside_after s b event.worker event.cpu event.act reply in
    ids-one again.0 next events replies one other left right (subst (λ (mid : State). RunsWithIds mid next events replies one left) same.1 runs.3) again.3
