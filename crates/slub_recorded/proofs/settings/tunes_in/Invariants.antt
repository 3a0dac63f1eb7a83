use Rattle.std.proofs.Common.{◌≡◌, ◌++◌, length, map, string_bytes}
use Rattle.slub_recorded.specs.Words.{tunes_in}
use Rattle.slub_recorded.proofs.settings.tunes_in.Given as goal

abbrev pub invariant-options : goal.invariant-options
invariant-options l = l.tunes.items ++ tunes_in (map string_bytes l.rest) ≡ tunes_in (map string_bytes l.fn.words)

abbrev pub decreases-options : goal.decreases-options
decreases-options l = length l.rest
