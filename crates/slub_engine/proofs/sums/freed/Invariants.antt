use Rattle.std.proofs.Common.{◌≡◌, take}
use Rattle.slub_slabinfo_text.specs.Lawful.{all_freed}
use Rattle.slub_engine.proofs.sums.freed.Given as goal

abbrev pub invariant-loop-done : goal.invariant-loop-done
invariant-loop-done l = l.freed ≡ all_freed (take l.done-index l.items)
