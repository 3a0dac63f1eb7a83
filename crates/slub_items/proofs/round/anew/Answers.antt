use Rattle.std.proofs.Common.{◌≡◌, ℕ, List, Some, ap, sym, subst, ◌∙◌}
use Rattle.slub_open_close.specs.Ids.{AreIds, first_ids}
use Rattle.slub_law_replay.specs.Ways.{DoesRoundBy, SpendsTurnsBy}
use Rattle.slub_items.specs.Stopped.{AreStepsStopped}
use Rattle.slub_items.proofs.Anew.{anew, anew_spent}
use Rattle.slub_items.proofs.Standing.{new_fit}
use Rattle.slub_items.proofs.round.anew.Goals as goal

pub by_steps-requires-clause-ids : goal.by_steps-requires-clause-ids
by_steps-requires-clause-ids g c = λ κs lives.
    let is : c.in-Ok.first ≡ first_ids 0 c.args.lists.cpus = c.in-Ok.ensures ∙ ap (λ (cpus : ℕ). first_ids 0 cpus) c.cpus.ensures in
    subst (AreIds c.args.lists) (sym is) (new_fit c.args.lists c.requires.coherent)

pub returns-in-Ok-by_steps-clause-does : goal.returns-in-Ok-by_steps-clause-does
returns-in-Ok-by_steps-clause-does g c =
    let is : c.in-Ok.first ≡ first_ids 0 c.args.lists.cpus = c.in-Ok.ensures ∙ ap (λ (cpus : ℕ). first_ids 0 cpus) c.cpus.ensures in
    let ended = c.in-Ok-by_steps.ended in
    anew c.args.way c.args.rounds c.args.lists c.args.round.now ended.result ended.lists ended.ids c.requires.several c.requires.steps
    (subst (λ (ids : List ℕ). DoesRoundBy c.args.way c.args.rounds c.args.lists (Some ids) c.args.round.now ended.result ended.lists (Some ended.ids)) is c.in-Ok-by_steps.ensures.does)

pub returns-clause-stopped : goal.returns-clause-stopped
returns-clause-stopped g c =
    let is : c.in-Ok.first ≡ first_ids 0 c.args.lists.cpus = c.in-Ok.ensures ∙ ap (λ (cpus : ℕ). first_ids 0 cpus) c.cpus.ensures in
    anew_spent c.args.way c.args.rounds c.args.lists c.args.round.now c.requires.several c.requires.steps
    (subst (λ (ids : List ℕ). SpendsTurnsBy c.args.way c.args.rounds c.args.lists (Some ids) c.args.round.now) is
    (subst (AreStepsStopped c.args.way c.args.rounds c.args.lists (Some c.in-Ok.first) c.args.round.now) c.in-Err-TurnsSpent.field-0-is c.in-Err-TurnsSpent.ensures.stopped))
