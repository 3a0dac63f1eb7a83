use Rattle.std.proofs.Common.{◌≡◌, List, ℕ, ◌++◌, subst, OnOk}
use Rattle.slub_cache_create.specs.declared.caches.Cache.{Cache}
use Rattle.slub_lists.specs.Alloc.{cache_of}
use Rattle.slub_state_text.proofs.Lives.{rows_of_live, of_same}
use Rattle.slub_state_text.proofs.caches.push_cache.Goals as goal

pub returns : goal.returns
returns c =
    let s = c.args.lists.now in
    let titled = of_same c.caches-caches.result.now s.table c.args.cache (λ (cache : Cache). c.title-title.result.now ≡ cache.title) c.caches-caches.ensures c.title-title.ensures.value in
    let laid = of_same c.caches-caches.result.now s.table c.args.cache (λ (cache : Cache). c.layout.result.now ≡ cache.layout) c.caches-caches.ensures c.layout.ensures.value in
    let same = rows_of_live s c.args.first c.args.ids.now c.args.live.now c.args.cache (cache_of s c.args.cache) c.title-title.result.now c.layout.result.now c.requires.live titled laid in
    subst (λ (rows : List ℕ). OnOk c.push_live.result (c.push_live.new.text.items ≡ c.args.text.now.items ++ rows)) same c.push_live.ensures
