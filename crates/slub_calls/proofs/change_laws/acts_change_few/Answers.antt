use Rattle.slub_calls.proofs.ChangesFew.{alloc_few, free_few}
use Rattle.slub_calls.proofs.change_laws.acts_change_few.Goals as goal

pub returns-clause-alloc : goal.returns-clause-alloc
returns-clause-alloc c = alloc_few

pub returns-clause-free : goal.returns-clause-free
returns-clause-free c = free_few
