use Rattle.std.proofs.Common.{◌≡◌, length, map, string_bytes}
use Rattle.slub_outcomes.specs.Words.{are_options}
use Rattle.slub_outcomes.proofs.words.are_options.Given as goal

abbrev pub invariant-options : goal.invariant-options
invariant-options l = are_options (map string_bytes l.rest) ≡ are_options (map string_bytes l.fn.options)

abbrev pub decreases-options : goal.decreases-options
decreases-options l = length l.rest
