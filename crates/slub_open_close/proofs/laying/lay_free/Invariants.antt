use Rattle.std.proofs.Common.{◌≡◌, drop, length}
use Rattle.slub_law_opening.specs.Opening.{head_of}
use Rattle.slub_open_close.specs.Laying.{free_row, laid_items}
use Rattle.slub_open_close.proofs.laying.lay_free.Given as goal

-- the pointers of the last objects stand there
abbrev pub invariant-loop-at : goal.invariant-loop-at
invariant-loop-at l = record {
  memory : l.memory ≡ laid_items (free_row l.setup l.cache l.frame l.free).place (free_row l.setup l.cache l.frame l.free).value (drop l.at l.free) l.fn.memory;
  count : length l.memory ≡ length l.fn.memory;
  next : l.next ≡ head_of (drop l.at l.free);
}
