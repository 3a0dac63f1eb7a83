use Rattle.std.proofs.Common.{rules}
use Rattle.slub_command.proofs.Commands.{layout_refused, layout_unsaid}
use Rattle.slub_command.proofs.places.read_layout.Goals as goal

pub returns-in_err-places-clause-none : goal.returns-in_err-places-clause-none
returns-in_err-places-clause-none c = λ is. layout_refused _ (c.in_err-places.ensures.none (search rules))

pub returns-in_default-clause-none : goal.returns-in_default-clause-none
returns-in_default-clause-none c = λ is. layout_unsaid _ _ _ _ _ c.in_ok-places.ensures.places c.in_default.ensures
