use Rattle.std.proofs.Common.{◌≡◌, take}
use Rattle.std.specs.List.{filter_map}
use Rattle.slub_slabinfo_text.specs.Counts.{row_of}
use Rattle.slub_engine.proofs.counts.info_rows.Given as goal

abbrev pub invariant-loop-cache : goal.invariant-loop-cache
invariant-loop-cache l = l.rows.items ≡ filter_map (row_of l.lists) (take l.cache-index l.cache-items)
