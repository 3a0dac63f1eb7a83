use Rattle.std.proofs.Common.{arith}
use Rattle.slub_cache_create.proofs.Sound.{no_room}
use Rattle.slub_cache_create.proofs.caches.Caches.unused_number.Goals as goal

-- each of the 32 numbers would have a live name
pub unreachable-requires : goal.unreachable-requires
unreachable-requires c = omega (arith, no_room c.args.self.now c.first_unused.ensures.sound c.in-None.ensures.unused)
