use Rattle.std.proofs.Common.{◌≡◌, length, take}
use Rattle.slub_state_text.specs.Marks.{AreMarks}
use Rattle.slub_state_text.proofs.slabs.listed_marks.Given as goal

abbrev pub invariant-loop-frame : goal.invariant-loop-frame
invariant-loop-frame l = (length l.marks.items ≡ l.frames) × AreMarks (take l.frame-index l.node) l.marks.items
