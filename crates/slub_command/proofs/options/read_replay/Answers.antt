use Rattle.std.proofs.Common.{rules}
use Rattle.slub_command.proofs.Commands.{how_refused, replay_refused, seed_refused}
use Rattle.slub_command.proofs.options.read_replay.Goals as goal

pub returns-in_err-options-clause-none : goal.returns-in_err-options-clause-none
returns-in_err-options-clause-none c = λ is. replay_refused _ (c.in_err-options.ensures.none (search rules))

pub returns-in_default-clause-none : goal.returns-in_default-clause-none
returns-in_default-clause-none c = λ is. how_refused _ _ _ _ c.in_ok-options.ensures.only c.in_default.ensures

pub returns-in_default-seed_said-clause-none : goal.returns-in_default-seed_said-clause-none
returns-in_default-seed_said-clause-none c = λ is. seed_refused _ _ _ _ c.in_ok-options.ensures.only c.in_default-seed_said.ensures
