use Rattle.slub_cache_create.proofs.Oldest.{oldest, none_fits}
use Rattle.slub_cache_create.proofs.caches.Caches.find_mergeable.Goals as goal

pub returns-then-fits_at : goal.returns-then-fits_at
returns-then-fits_at c =
    oldest c.args.self.now c.args.spec.now c.deref-cache-items.result.now c.loop-cache.cache-index c.loop-cache.invariant.items c.loop-cache-test.true c.loop-cache.invariant.none (c.fits_at.ensures.0 c.if-fits_at.true)

pub returns : goal.returns
returns c = none_fits c.args.self.now c.args.spec.now c.deref-cache-items.result.now c.loop-cache.cache-index c.loop-cache.invariant.items c.loop-cache-test.false c.loop-cache.invariant.none
