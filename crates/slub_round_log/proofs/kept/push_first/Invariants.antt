use Rattle.std.proofs.Common.{◌≡◌, ◌++◌, take}
use Rattle.slub_round_log.specs.Log.{first_lines}
use Rattle.slub_round_log.proofs.kept.push_first.Given as goal

abbrev pub invariant-loop-local : goal.invariant-loop-local
invariant-loop-local l = l.lines.items ≡ l.initial.lines.items ++ first_lines l.labels (take l.local-index l.locals)
