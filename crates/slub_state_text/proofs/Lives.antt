-- The rows of a cache that is live.
use Rattle.std.proofs.Common.{◌≡◌, ℕ, List, refl, Option, Some, None, IsSome, IfSome, subst}
use Rattle.slub_object_layout.specs.declared.layout.Layout.{Layout}
use Rattle.slub_cache_create.specs.declared.caches.Cache.{Cache}
use Rattle.slub_cache_create.specs.Table.{Table, cache_of as live_cache}
use Rattle.slub_lists.specs.State.{State}
use Rattle.slub_state_text.specs.Caches.{live_rows, rows_in}

pub rows_of_live : (s : State) (first : ℕ) (ids : List ℕ) (live : List (List ℕ × ℕ)) (number : ℕ) (found : Option Cache) (title : List ℕ) (layout : Layout)
    → IsSome found → IfSome found (λ cache. title ≡ cache.title) → IfSome found (λ cache. layout ≡ cache.layout)
    → live_rows s first ids live number title layout ≡ rows_in s first ids live number found
rows_of_live s first ids live number None title layout some titled laid = absurd (let never : ⊥ = cc in never)
rows_of_live s first ids live number (Some cache) title layout some titled laid = rw (titled, laid) refl

-- what holds of a live cache of a table, of an equal table, too
pub of_same : (table other : Table) (cache : ℕ) (P : Cache → Type 0) → table ≡ other → IfSome (live_cache table cache) P → IfSome (live_cache other cache) P
of_same table other cache P same holds = subst (λ (t : Table). IfSome (live_cache t cache) P) same holds
