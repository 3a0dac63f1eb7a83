use Rattle.std.proofs.Common.{◌≡◌, ◌++◌, map, take, vec_capacity}
use Rattle.slub_engine.specs.Steps.{found_with}
use Rattle.slub_engine.proofs.found.push_reports.Given as goal

abbrev pub invariant-loop-report : goal.invariant-loop-report
invariant-loop-report l = record {
  found : l.damages.items ≡ l.initial.damages.items ++ map (found_with l.title) (take l.report-index l.reports);
  capacity : vec_capacity l.damages ≡ vec_capacity l.initial.damages;
}
