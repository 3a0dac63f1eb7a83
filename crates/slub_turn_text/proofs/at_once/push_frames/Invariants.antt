use Rattle.std.proofs.Common.{◌≡◌, ◌++◌, take}
use Rattle.std.specs.Prelude.{flat_map}
use Rattle.slub_turn_text.specs.AtOnce.{frame_item}
use Rattle.slub_turn_text.proofs.at_once.push_frames.Given as goal

abbrev pub invariant-loop-frame : goal.invariant-loop-frame
invariant-loop-frame l = l.text.items ≡ l.fn.text.items ++ flat_map frame_item (take l.frame-index l.frames)
