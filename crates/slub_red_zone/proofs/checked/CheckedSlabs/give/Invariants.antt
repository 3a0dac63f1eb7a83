use Rattle.std.proofs.Common.{length}
use Rattle.slub_red_zone.specs.declared.checked.CheckedGive.{CheckedGive}
use Rattle.slub_red_zone.specs.State.{CheckedState}
use Rattle.slub_red_zone.specs.Steps.{Gives}
use Rattle.slub_red_zone.specs.Objects.{GivesObject}
use Rattle.slub_red_zone.proofs.checked.CheckedSlabs.give.Given as goal

-- what gives from here gives from the beginning
abbrev pub invariant-loop-slot : goal.invariant-loop-slot
invariant-loop-slot l = record {
  gives : (answer : CheckedGive) (after : CheckedState) → Gives l.self answer after → Gives l.fn.self answer after;
  objects : (answer : CheckedGive) (after : CheckedState) → GivesObject l.self answer after → GivesObject l.fn.self answer after;
}

abbrev pub decreases-loop-slot : goal.decreases-loop-slot
decreases-loop-slot l = length l.self.listed
