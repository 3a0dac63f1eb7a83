-- The marked frames below the place are written, and what lies beyond the room for all is as it was.
use Rattle.slub_page_pool.proofs.MarkedFrames.{Written}
use Rattle.slub_page_pool.proofs.marks.write_marked.Given as goal

abbrev pub invariant-loop-frame : goal.invariant-loop-frame
invariant-loop-frame l = Written l.marks l.initial.out l.out l.frame l.written
