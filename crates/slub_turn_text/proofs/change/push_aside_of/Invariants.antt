use Rattle.std.proofs.Common.{◌≡◌, ◌++◌, take}
use Rattle.std.specs.Prelude.{flat_map}
use Rattle.slub_turn_text.specs.Changes.{aside_line}
use Rattle.slub_turn_text.proofs.change.push_aside_of.Given as goal

abbrev pub invariant-loop-report : goal.invariant-loop-report
invariant-loop-report l = l.text.items ≡ l.fn.text.items ++ flat_map (aside_line l.front l.slabs) (take l.report-index l.report-items)
