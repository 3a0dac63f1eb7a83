-- The run is a slab of the cache, whose first object is given.
use Rattle.std.proofs.Common.{◌≡◌, ℕ, ◌+◌, ◌∙◌, ap, refl}
use Rattle.slub_red_zone.specs.Steps.{with_given, with_new_slab}
use Rattle.slub_core.specs.Setup.{node_lock}
use Rattle.slub_core.specs.World.{LockValue, Checked}
use Rattle.slub_core.specs.Facts.{cache_of}
use Rattle.slub_core.specs.Values.{values_of}
use Rattle.slub_core.proofs.Updates.{rooms_of-set}
use Rattle.slub_checked_paths.specs.Slabs.{slabs_at}
use Rattle.slub_checked_paths.proofs.Gifts.{slabs-same}
use Rattle.slub_checked_paths.proofs.Calls.{now-lock}
use Rattle.slub_checked_paths.proofs.checked.add_slab.Goals as goal

pub returns-in-Ok-clause-change : goal.returns-in-Ok-clause-change
returns-in-Ok-clause-change c = λ means.
    let run = c.run_or_none-run.result in
    let lock : c.from.result + 1 ≡ node_lock c.args.local.now.cache = ap (λ (k : ℕ). k + 1) (c.from.ensures ∙ c.cache-cache.ensures) in
    let same = slabs-same (cache_of c.args.setup.now c.args.local.now.cache).layout (values_of c.args.values.now (node_lock c.args.local.now.cache)) c.requires.0 in
    let now = now-lock c.args.values.now (c.from.result + 1) (node_lock c.args.local.now.cache) c.index-values-from.result c.add_slab.new.guarded lock c.requires.0 c.index-values-from.is
    (λ (v : LockValue). Checked (with_given (with_new_slab (slabs_at v) (record { frame = run.frame; order = run.order }) run.objects) (record { frame = run.frame; index = 0 }))) c.in-Ok.ensures.added in
    rw (same, ← c.run_or_none-run.ensures, c.at.ensures, c.set_run.ensures, c.gets.ensures, now, c.address.ensures.address, c.cache-cache.ensures) refl

pub returns-in-Ok-clause-rooms : goal.returns-in-Ok-clause-rooms
returns-in-Ok-clause-rooms c = rooms_of-set _ _ _ _ c.add_slab.ensures.room
