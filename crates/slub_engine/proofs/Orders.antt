-- The least order of the cache that a name names.
use Rattle.std.proofs.Common.{◌≡◌, ℕ, ◌≤◌, List, refl, ◌∙◌, ap, subst, arith, Option, Some, None, IsSome, IfSome}
use Rattle.std.specs.Option.{option_and_then, option_map}
use Rattle.std.specs.Str.{bytes_eq}
use Rattle.std.proofs.lemmas.Map.Entries.{All-lookup}
use Rattle.slub_object_layout.specs.declared.layout.Layout.{Layout}
use Rattle.slub_cache_create.specs.declared.caches.Cache.{Cache}
use Rattle.slub_cache_create.specs.Table.{Table, cache_of as live_cache, number_of}
use Rattle.slub_cache_create.specs.Sound.{IsLiveCache, IsSound as IsSoundTable}
use Rattle.slub_lists.specs.Alloc.{cache_of, named}
use Rattle.slub_lists.specs.State.{State}
use Rattle.slub_slabinfo_text.specs.Lawful.{min_order_of}

-- what a name names is live
pub named_live : (table : Table) (name : List ℕ) (cache : ℕ) → IsSoundTable table → number_of table name ≡ Some cache → IsSome (live_cache table cache)
named_live table name cache sound is =
    subst (λ (found : Option ℕ). IfSome found (λ cache. IsSome (live_cache table cache))) is (All-lookup (λ cache. IsSome (live_cache table cache)) (bytes_eq name) table.live sound.alive)

order_in : (layout : Layout) (found : Option Cache) → IsSome found → IfSome found (λ live. layout ≡ live.layout) → Some layout.min_order ≡ option_map min_order_of found
order_in layout None some is = absurd (let never : ⊥ = cc in never)
order_in layout (Some live) some is = ap (λ (layout : Layout). Some layout.min_order) is

pub order_is : (s : State) (place cache : ℕ) (layout : Layout) → named s place ≡ Some cache → IsSome (cache_of s cache) → IfSome (cache_of s cache) (λ live. layout ≡ live.layout)
    → Some layout.min_order ≡ option_map min_order_of (option_and_then (cache_of s) (named s place))
order_is s place cache layout is some of_it = order_in layout (cache_of s cache) some of_it ∙ rw is refl

small_in : (table : Table) (cache : ℕ) (layout : Layout) (found : Option Cache) → IfSome found (IsLiveCache table cache) → IsSome found → IfSome found (λ live. layout ≡ live.layout) → layout.min_order ≤ 3
small_in table cache layout None sound some is = absurd (let never : ⊥ = cc in never)
small_in table cache layout (Some live) sound some is =
    omega (arith, ap (λ (layout : Layout). layout.min_order) is, sound.layout.made.order, sound.layout.made.min_order)

pub order_small : (table : Table) (cache : ℕ) (layout : Layout) → IsSoundTable table → IsSome (live_cache table cache) → IfSome (live_cache table cache) (λ live. layout ≡ live.layout) → layout.min_order ≤ 3
order_small table cache layout sound some is = small_in table cache layout (live_cache table cache) (sound.live cache) some is
