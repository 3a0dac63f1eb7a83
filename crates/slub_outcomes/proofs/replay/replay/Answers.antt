use Rattle.std.proofs.Common.{◌++◌, ◌∙◌, ap, List, ℕ}
use Rattle.slub_outcomes.proofs.replay.replay.Goals as goal

pub returns : goal.returns
returns g c =
    (c.do_items.new.text.items, c.in_ok-is_spent.ensures, c.of.ensures ∙ c.in_ok-extend_from_slice.ensures.items ∙ ap (λ (text : List ℕ). c.do_items.new.text.items ++ text) c.end_text.ensures)
