use Rattle.std.proofs.Common.{◌≡◌, ◌++◌}
use Rattle.std.specs.Prelude.{flat_map}
use Rattle.std.specs.List.{range_with_len}
use Rattle.slub_turn_text.specs.Answers.{quiet_at}
use Rattle.slub_turn_text.proofs.answers.push_answers.Given as goal

abbrev pub invariant-loop-more : goal.invariant-loop-more
invariant-loop-more l = l.text.items ≡ l.fn.text.items ++ flat_map (quiet_at l.labels l.local l.from) (range_with_len 0 l.more)
