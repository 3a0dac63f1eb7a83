use Rattle.std.proofs.Common.{◌≡◌, map, drop}
use Rattle.slub_red_zone.specs.Steps.{set_aside}
use Rattle.slub_red_zone.proofs.Asides.{AreFree}
use Rattle.slub_red_zone.proofs.slab.set_aside.Given as goal

-- what is left is free, and what was set aside was to be
abbrev pub invariant-loop-index : goal.invariant-loop-index
invariant-loop-index l = record { left : AreFree l.states (drop l.index-index l.free); same : map set_aside l.states ≡ map set_aside l.fn.states }
