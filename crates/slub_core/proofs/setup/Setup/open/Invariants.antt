use Rattle.std.proofs.Common.{◌≡◌, length}
use Rattle.slub_core.specs.Facts.{AreRandoms}
use Rattle.slub_core.proofs.setup.Setup.open.Given as goal

abbrev pub invariant-loop-cache : goal.invariant-loop-cache
invariant-loop-cache l = (length l.randoms.items ≡ l.cache) × AreRandoms l.randoms.items
