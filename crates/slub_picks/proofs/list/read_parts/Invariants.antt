use Rattle.std.proofs.Common.{length}
use Rattle.slub_picks.specs.List.{IsPart}
use Rattle.slub_picks.proofs.Saying.{IsReadTo}
use Rattle.slub_picks.proofs.list.read_parts.Given as goal

abbrev pub invariant-parts : goal.invariant-parts
invariant-parts l = IsReadTo IsPart 47 l.fn.text l.rest l.parts.items

abbrev pub decreases-parts : goal.decreases-parts
decreases-parts l = length l.rest
