use Rattle.std.proofs.Common.{◌≡◌, ◌≤◌}
use Rattle.slub_schedule.specs.Schedule.{unfinished}
use Rattle.slub_schedule.proofs.Making.{IsMade}
use Rattle.slub_schedule.proofs.machine.scheduled.Given as goal

abbrev pub invariant-loop : goal.invariant-loop
invariant-loop g l = let t = g.M.Machine in record {
  ready : t.is_ready l.machine;
  setup : t.setup l.machine ≡ t.setup l.fn.machine;
  made : IsMade t.setup t.system t.chooses t.notes l.fn.machine l.counter l.machine;
  order : l.order ≡ unfinished (t.system l.machine);
  counter : l.counter ≤ l.fn.turns;
}
