-- Where an object that is on the board stands.
use Rattle.std.proofs.Common.{◌≡◌, ℕ, ◌<◌, Some, IfSome, subst, sym, ◌∙◌}
use Rattle.slub_object_layout.specs.declared.layout.Layout.{Layout}
use Rattle.slub_cache_create.specs.declared.caches.Cache.{Cache}
use Rattle.slub_lists.specs.declared.lists.Held.{Held}
use Rattle.slub_lists.specs.State.{State}
use Rattle.slub_lists.specs.Alloc.{HasLayout, cache_of}
use Rattle.slub_lists.specs.Coherent.{IsCoherent, held_under}
use Rattle.slub_lists.specs.Places.{layout_at}
use Rattle.slub_lists.proofs.CheckedFrees.{held-place}
use Rattle.slub_lists.proofs.CheckedGiving.{the-value}
use Rattle.slub_lists.proofs.CheckedSlabs.{at_some}
use Rattle.slub_lists.proofs.CheckedTaking.{held-slab}
use Rattle.slub_lists.proofs.Kept.{consistent-of}
use Rattle.slub_lists.proofs.Places.{layout-of}

-- its index is below the number of objects of its cache's layout
pub index-below : (s : State) (object : ℕ) (held : Held) (layout : Layout) → IsCoherent s → held_under s object ≡ Some held → IfSome (cache_of s held.cache) (λ live. layout ≡ live.layout) → held.index < layout.objects
index-below s object held layout coherent here is =
    let consistent = consistent-of s coherent in
    let slab = held-slab s object held here consistent in
    let has : HasLayout s held.cache (layout_at s held.cache) = subst (λ c. HasLayout s c (layout_at s c)) slab.2 (layout-of s held.frame slab.0 consistent slab.1) in
    let live = the-value (cache_of s held.cache) (λ (live : Cache). live.layout ≡ layout_at s held.cache) has in
    let mine : layout ≡ live.0.layout = at_some (cache_of s held.cache) live.0 (λ (live : Cache). layout ≡ live.layout) live.1 is in
    subst (λ (l : Layout). held.index < l.objects) (sym (mine ∙ live.2)) (held-place s object held consistent here (layout_at s held.cache) has).1
