use Rattle.slub_cache_create.proofs.Unique.{creates_same}
use Rattle.slub_cache_create.proofs.laws.creation_is_unique.Goals as goal

pub returns : goal.returns
returns c = creates_same c.args.caches.now c.args.name.now c.args.spec.now c.args.cpus c.args.one c.args.other
