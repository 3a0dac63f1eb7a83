use Rattle.std.proofs.Common.{◌≡◌, ℕ, ◌∙◌, List, length, sym, ap, subst}
use Rattle.std.proofs.lemmas.List.{length-reverse}
use Rattle.slub_core.specs.declared.local.Answered.{Answered}
use Rattle.slub_core.specs.Values.{values_of}
use Rattle.slub_turns.specs.Happenings.{Rests}
use Rattle.slub_turns.proofs.watched_turn.watched_rest.Goals as goal

pub returns-clause-told : goal.returns-clause-told
returns-clause-told g c =
    let P : ℕ → Type 0 = λ n. g.W.Watch.hears c.args.setup.now c.args.watch.now (Rests (values_of c.args.values.now) n c.rest.new.local) c.rested.new.self in
    let before : length c.answers-before.result.now ≡ length c.args.local.now.done = sym (length-reverse c.answers-before.result.now) ∙ ap (λ (xs : List Answered). length xs) c.answers-before.ensures in
    subst P before c.rested.ensures
