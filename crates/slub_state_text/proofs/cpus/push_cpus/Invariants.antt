use Rattle.std.proofs.Common.{◌≡◌, ◌++◌, flat_map}
use Rattle.std.specs.List.{range_with_len}
use Rattle.slub_state_text.specs.Cpus.{cpu_row}
use Rattle.slub_state_text.proofs.cpus.push_cpus.Given as goal

abbrev pub invariant-loop-cpu : goal.invariant-loop-cpu
invariant-loop-cpu l = l.text.items ≡ l.fn.text.items ++ flat_map (cpu_row l.lists l.first l.ids l.title l.cache) (range_with_len 0 l.cpu)
