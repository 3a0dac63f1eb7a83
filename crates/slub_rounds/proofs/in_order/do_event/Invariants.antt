use Rattle.std.proofs.Common.{◌≡◌, ◌<◌, ◌≤◌, length}
use Rattle.slub_core.specs.Facts.{setup_of}
use Rattle.slub_turns.specs.Means.{the_means}
use Rattle.slub_turns.specs.Ready.{IsReady}
use Rattle.slub_rounds.specs.Doing.{HasTurned}
use Rattle.slub_rounds.specs.Machine.{system_in}
use Rattle.slub_rounds.proofs.in_order.do_event.Given as goal

abbrev pub invariant-loop-count : goal.invariant-loop-count
invariant-loop-count l = record {
  ready : IsReady l.machine.setup l.machine.table l.machine.values.items l.machine.locals.items;
  setup : setup_of l.machine.setup the_means ≡ setup_of l.fn.machine.setup the_means;
  turned : HasTurned (setup_of l.fn.machine.setup the_means) l.fn.worker l.fn.passed (system_in l.fn.machine) (system_in l.machine) l.fn.made l.count;
  worker : l.fn.worker < length l.machine.locals.items;
  counted : l.count ≤ l.fn.turns;
}
