use Rattle.std.proofs.Common.{sym}
use Rattle.slub_cache_create.proofs.Oldest.{named_alive}
use Rattle.slub_cache_create.proofs.caches.Caches.drop_name.Goals as goal

pub names-requires : goal.names-requires
names-requires c = record { live = named_alive c.args.self.now c.args.name.now c.in-Some.cache c.find.ensures.sound (sym c.in-Some.ensures.named) }
