use Rattle.std.proofs.Common.{ap, arith}
use Rattle.slub_red_zone.proofs.Opening.{opening-kept}
use Rattle.slub_red_zone.proofs.Sums.{same-state, kept-same}
use Rattle.slub_red_zone.proofs.checked.CheckedSlabs.open.Goals as goal

pub invariant_of-result : goal.invariant_of-result
invariant_of-result c =
    kept-same (same-state c.in_ok-open.ensures (ap (λ l. l.frames) c.in_ok-open-2.ensures) c.new.ensures.items) (ap (λ l. l.room) c.in_ok-open-2.ensures) (omega (arith, c.in_ok-with_capacity.ensures)) (omega arith)
    (opening-kept _ _ _ 4096 0 c.requires.cache c.requires.checked c.requires.layout (omega arith))

pub returns-clause-sound : goal.returns-clause-sound
returns-clause-sound c = (invariant_of-result c).sound
