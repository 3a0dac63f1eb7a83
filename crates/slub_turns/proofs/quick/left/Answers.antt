use Rattle.std.proofs.Common.{ap, ◌∙◌}
use Rattle.slub_core.specs.Local.{Local}
use Rattle.slub_core.specs.Steps.{rested}
use Rattle.slub_core.specs.Facts.{setup_of}
use Rattle.slub_turns.proofs.quick.left.Goals as goal

pub returns : goal.returns
returns c = λ means. c.rest.ensures means ∙ ap (λ (k : Local). rested (setup_of c.args.setup.now means) k) c.at.ensures
