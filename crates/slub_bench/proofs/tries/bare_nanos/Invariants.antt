use Rattle.std.proofs.Common.{◌≡◌}
use Rattle.slub_bench.proofs.tries.bare_nanos.Given as goal

abbrev pub invariant-loop : goal.invariant-loop
invariant-loop g l = (l.seat.table_id ≡ l.words.shared.table_id) × (l.words.shared.table_id.words ≡ 2)
