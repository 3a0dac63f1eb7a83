use Rattle.std.proofs.Common.{◌≡◌, take}
use Rattle.slub_slabinfo_text.specs.Lawful.{all_given}
use Rattle.slub_engine.proofs.sums.given.Given as goal

abbrev pub invariant-loop-done : goal.invariant-loop-done
invariant-loop-done l = l.given ≡ all_given (take l.done-index l.items)
