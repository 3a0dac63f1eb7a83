use Rattle.std.proofs.Common.{◌∙◌}
use Rattle.slub_rounds.proofs.in_order.run_events.Goals as goal

pub do_events-requires-clause-ready : goal.do_events-requires-clause-ready
do_events-requires-clause-ready c = c.requires.ready

pub do_events-requires-clause-few : goal.do_events-requires-clause-few
do_events-requires-clause-few c = c.requires.few

pub do_events-requires-clause-workers : goal.do_events-requires-clause-workers
do_events-requires-clause-workers c = c.requires.workers

pub do_events-requires-clause-awaits : goal.do_events-requires-clause-awaits
do_events-requires-clause-awaits c = c.requires.awaits

pub do_events-requires-clause-passed : goal.do_events-requires-clause-passed
do_events-requires-clause-passed c = c.as_mut_slice.ensures.value ∙ c.requires.passed

pub do_events-requires-clause-turns : goal.do_events-requires-clause-turns
do_events-requires-clause-turns c = c.requires.turns

pub returns-clause-ends : goal.returns-clause-ends
returns-clause-ends c = c.do_events.ensures.ends

pub returns-clause-spent : goal.returns-clause-spent
returns-clause-spent c = c.do_events.ensures.spent
