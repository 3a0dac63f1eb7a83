use Rattle.std.proofs.Common.{◌≡◌, ◌≤◌}
use Rattle.slub_core.specs.Facts.{setup_of}
use Rattle.slub_turns.specs.Means.{the_means}
use Rattle.slub_turns.specs.Ready.{IsReady}
use Rattle.slub_rounds.specs.Machine.{system_in}
use Rattle.slub_rounds.proofs.Doing.{HasDone}
use Rattle.slub_rounds.proofs.in_order.do_events.Given as goal

abbrev pub invariant-loop-event : goal.invariant-loop-event
invariant-loop-event l = record {
  ready : IsReady l.machine.setup l.machine.table l.machine.values.items l.machine.locals.items;
  setup : setup_of l.machine.setup the_means ≡ setup_of l.fn.machine.setup the_means;
  done : HasDone (setup_of l.fn.machine.setup the_means) l.events (system_in l.fn.machine) l.event-index l.made l.passed (system_in l.machine);
  within : l.made ≤ l.fn.turns;
}
