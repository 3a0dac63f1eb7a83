use Rattle.std.proofs.Common.{◌≡◌, ℕ, List, None, refl, ap, sym, subst, ◌∙◌}
use Rattle.slub_open_close.specs.Ids.{AreIds, first_ids}
use Rattle.slub_rounds.specs.Heap.{heap_of}
use Rattle.slub_rounds.specs.Rounds.{DoesRoundBySteps}
use Rattle.slub_rounds.specs.Watched.{EndsWatched, IsUnwatched}
use Rattle.slub_items.proofs.Standing.{new_fit}
use Rattle.slub_items.proofs.Unwatched.{halted_on, on_err, on_ok, spent_on}
use Rattle.slub_items.proofs.watched.anew.Goals as goal

pub watched-ran-requires-clause-ids : goal.watched-ran-requires-clause-ids
watched-ran-requires-clause-ids g c =
    let is : c.in-Ok.first ≡ first_ids 0 c.args.lists.cpus = c.in-Ok.ensures ∙ ap (λ (cpus : ℕ). first_ids 0 cpus) c.cpus.ensures in
    subst (AreIds c.args.lists) (sym is) (new_fit c.args.lists c.requires.coherent)

pub returns-in-Ok-ran-clause-does : goal.returns-in-Ok-ran-clause-does
returns-in-Ok-ran-clause-does g c =
    let w = g.W.Watch in
    let is : c.in-Ok.first ≡ first_ids 0 c.args.lists.cpus = c.in-Ok.ensures ∙ ap (λ (cpus : ℕ). first_ids 0 cpus) c.cpus.ensures in
    let ended = c.in-Ok-ran.ended in
    let Does : List ℕ → Type 0 = λ ids. DoesRoundBySteps (λ m first picks last. EndsWatched w.begins_round w.chooses w.hears w.is_done c.args.watch c.watched-ran.result.1 m first picks last) c.args.lists ids c.args.round.now ended.result ended.lists ended.ids in
    let does = on_ok c.watched-ran.result.0 ended (λ done. DoesRoundBySteps (λ m first picks last. EndsWatched w.begins_round w.chooses w.hears w.is_done c.args.watch c.watched-ran.result.1 m first picks last) c.args.lists c.in-Ok.first c.args.round.now done.result done.lists done.ids) c.in-Ok-ran.is c.watched-ran.ensures.does in
    (ended.ids, subst Does is does, (refl, refl))

pub returns-in-Err-TurnsSpent-clause-unwatched : goal.returns-in-Err-TurnsSpent-clause-unwatched
returns-in-Err-TurnsSpent-clause-unwatched g c =
    let w = g.W.Watch in
    let is : c.in-Ok.first ≡ first_ids 0 c.args.lists.cpus = c.in-Ok.ensures ∙ ap (λ (cpus : ℕ). first_ids 0 cpus) c.cpus.ensures in
    spent_on w.begins_round w.chooses w.hears w.halts (heap_of c.args.lists None) c.args.lists c.in-Ok.first (first_ids 0 c.args.lists.cpus) c.args.round.now c.args.watch c.watched-ran.result.1 c.in-Err-TurnsSpent.field-0 is c.in-Err-TurnsSpent.field-0-is (on_err c.watched-ran.result.0 c.in-Err-TurnsSpent.field-0 (IsUnwatched w.begins_round w.chooses w.hears w.halts c.args.lists c.in-Ok.first c.args.round.now c.args.watch c.watched-ran.result.1) c.in-Err-TurnsSpent.is c.watched-ran.ensures.unwatched)

pub returns-clause-unwatched : goal.returns-clause-unwatched
returns-clause-unwatched g c =
    let w = g.W.Watch in
    let is : c.in-Ok.first ≡ first_ids 0 c.args.lists.cpus = c.in-Ok.ensures ∙ ap (λ (cpus : ℕ). first_ids 0 cpus) c.cpus.ensures in
    halted_on w.begins_round w.chooses w.hears w.halts (heap_of c.args.lists None) c.args.lists c.in-Ok.first (first_ids 0 c.args.lists.cpus) c.args.round.now c.args.watch c.watched-ran.result.1 c.in-Err-Halted.field-0 c.in-Err-Halted.why is c.in-Err-Halted.field-0-is (on_err c.watched-ran.result.0 c.in-Err-Halted.field-0 (IsUnwatched w.begins_round w.chooses w.hears w.halts c.args.lists c.in-Ok.first c.args.round.now c.args.watch c.watched-ran.result.1) c.in-Err-Halted.is c.watched-ran.ensures.unwatched)
