use Rattle.std.proofs.Common.{ap, sym, ◌∙◌, length}
use Rattle.std.proofs.lemmas.List.{length-reverse}
use Rattle.slub_rounds.proofs.in_order.replies.Goals as goal

pub returns : goal.returns
returns c = sym (length-reverse c.answers.result.now) ∙ ap length c.answers.ensures
