-- A marked frame is written at the next place, for which there is room; another is skipped.
use Rattle.std.proofs.Common.{arith}
use Rattle.slub_page_pool.proofs.MarkedFrames.{Written-room, Written-more, Written-skip}
use Rattle.slub_page_pool.proofs.marks.write_marked.Goals as goal
use Rattle.slub_page_pool.proofs.marks.write_marked.Goals.{then-mark, else-mark}

pub bounds-out-written : goal.bounds-out-written
bounds-out-written c = omega (arith, Written-room c.loop-frame.invariant c.requires.room c.if-mark.true, c.loop-frame.invariant.long)

pub loop-frame-preserved : goal.loop-frame-preserved
loop-frame-preserved c =
    elim c.if-mark.branch [
      | then-mark w ↦ rw (w.out-is, w.written-is) (Written-more c.loop-frame.invariant c.requires.room w.if-mark.true)
      | else-mark w ↦ rw (w.out-is, w.written-is) (Written-skip c.loop-frame.invariant w.if-mark.false)
    ]
