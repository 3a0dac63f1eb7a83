use Rattle.std.proofs.Common.{◌≡◌, ℕ, ◌+◌, ◌*◌, ◌/◌, ◌%◌, ◌<◌, get_or}
use Rattle.slub_lists.specs.Alloc.{no_lists}
use Rattle.slub_open_close.specs.Reads.{lists_at}
use Rattle.slub_open_close.proofs.cpus.close_cpus.Given as goal

abbrev pub invariant-loop-place : goal.invariant-loop-place
invariant-loop-place l = (k : ℕ) → k < l.place → get_or l.all k no_lists ≡ lists_at l.setup l.table.words l.memory l.links (k / l.cpus * 16 + k % l.cpus)
