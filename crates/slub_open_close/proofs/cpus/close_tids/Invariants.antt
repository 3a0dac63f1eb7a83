use Rattle.std.proofs.Common.{◌≡◌, ℕ, ◌<◌, get_or}
use Rattle.slub_open_close.specs.Reads.{cpu_word_in}
use Rattle.slub_open_close.proofs.cpus.close_tids.Given as goal

abbrev pub invariant-loop-number : goal.invariant-loop-number
invariant-loop-number l = (k : ℕ) → k < l.number → get_or l.tids k 0 ≡ (cpu_word_in l.table.words k).tid
