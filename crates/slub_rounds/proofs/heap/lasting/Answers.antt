use Rattle.std.proofs.Common.{◌≡◌, ◌∙◌, List, ℕ, Some, ap, arith, inl, subst}
use Rattle.std.specs.Vec.{with_items}
use Rattle.std.proofs.lemmas.List.{with_items_is}
use Rattle.slub_rounds.specs.ByText.{DoesRoundOnLists}
use Rattle.slub_rounds.proofs.heap.lasting.Goals as goal

pub returns-in-Ok-clause-does : goal.returns-in-Ok-clause-does
returns-in-Ok-clause-does c =
    let was : c.deref_mut.result.now ≡ c.args.ids = c.deref_mut.ensures.value ∙ c.ids.view_is in
    let now : (with_items c.ids.inside.by_word c.on_lists.new.words).items ≡ c.on_lists.new.words = with_items_is c.ids.inside.by_word c.on_lists.new.words (omega (arith, c.on_lists.auto.words, c.deref_mut.ensures.len)) in (
      c.on_lists.new.words,
      inl (c.requires.last, subst (λ (ids : List ℕ). DoesRoundOnLists c.args.lists ids c.args.round.now c.in-Ok.result c.on_lists.new.lists c.on_lists.new.words) was c.in-Ok.ensures.does),
      ap (λ (ids : List ℕ). Some ids) now,
    )
