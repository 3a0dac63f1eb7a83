use Rattle.std.proofs.Common.{◌≡◌, length, map, string_bytes}
use Rattle.slub_outcomes.specs.Words.{value_of}
use Rattle.slub_outcomes.proofs.words.value_of.Given as goal

abbrev pub invariant-options : goal.invariant-options
invariant-options l = value_of l.name (map string_bytes l.rest) ≡ value_of l.name (map string_bytes l.fn.options)

abbrev pub decreases-options : goal.decreases-options
decreases-options l = length l.rest
