use Rattle.std.proofs.Common.{◌≡◌, ◌++◌, flat_map, take}
use Rattle.slub_slabinfo_text.specs.Lines.{found_text}
use Rattle.slub_slabinfo_text.proofs.journal_text.push_damages.Given as goal

abbrev pub invariant-loop-found : goal.invariant-loop-found
invariant-loop-found l = l.text.items ≡ l.fn.text.items ++ flat_map found_text (take l.found-index l.damages)
