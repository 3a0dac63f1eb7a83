use Rattle.std.proofs.Common.{◌≡◌, ℕ, ◌<◌, length, get_or, []}
use Rattle.slub_open_close.specs.Reads.{own_at}
use Rattle.slub_open_close.proofs.slabs.close_frees.Given as goal

abbrev pub invariant-loop-frame : goal.invariant-loop-frame
invariant-loop-frame l = record {
  walked : (k : ℕ) → k < l.frame → get_or l.frees k [] ≡ own_at l.setup l.table.words l.memory k;
  lists : length l.frees ≡ l.frames;
}
