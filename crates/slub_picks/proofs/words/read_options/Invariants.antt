use Rattle.std.proofs.Common.{length, map, string_bytes}
use Rattle.slub_picks.proofs.Asking.{IsAskedTo}
use Rattle.slub_picks.proofs.words.read_options.Given as goal

abbrev pub invariant-options : goal.invariant-options
invariant-options l = IsAskedTo (map string_bytes l.fn.words) (map string_bytes l.rest) l.asked

abbrev pub decreases-options : goal.decreases-options
decreases-options l = length l.rest
