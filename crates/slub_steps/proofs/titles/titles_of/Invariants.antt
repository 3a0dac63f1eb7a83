use Rattle.std.proofs.Common.{◌≡◌, map}
use Rattle.std.specs.List.{range_with_len}
use Rattle.slub_steps.specs.Rounds.{title_at}
use Rattle.slub_steps.proofs.titles.titles_of.Given as goal

-- so many are there
abbrev pub invariant-loop-cache : goal.invariant-loop-cache
invariant-loop-cache l = l.titles.items ≡ map (title_at l.lists) (range_with_len 0 l.cache)
