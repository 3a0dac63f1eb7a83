use Rattle.std.proofs.Common.{length}
use Rattle.slub_picks.specs.List.{IsEntry}
use Rattle.slub_picks.proofs.Saying.{IsReadTo}
use Rattle.slub_picks.proofs.list.read_entries.Given as goal

abbrev pub invariant-entries : goal.invariant-entries
invariant-entries l = IsReadTo IsEntry 44 l.fn.text l.rest l.entries.items

abbrev pub decreases-entries : goal.decreases-entries
decreases-entries l = length l.rest
