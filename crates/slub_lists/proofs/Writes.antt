-- What holds of each slab after one is marked.
use Rattle.std.proofs.Common.{ℕ, Bool, List, get_or, set, Option, None, option_map, subst}
use Rattle.slub_lists.specs.declared.lists.Slab.{Slab}
use Rattle.slub_lists.specs.Alloc.{marked}
use Rattle.slub_common.proofs.Writes.{at_written}

-- what a frozen mark doesn't touch holds of each slab after one is marked
pub at_marked : (P : Option Slab → Type 0) (b : Bool) (slabs : List (Option Slab)) (frame f : ℕ)
    → ((x : Option Slab) → P x → P (option_map (marked b) x))
    → P (get_or slabs f None) → P (get_or (set slabs frame (option_map (marked b) (get_or slabs frame None))) f None)
at_marked P b slabs frame f closed old =
    at_written P slabs frame f (option_map (marked b) (get_or slabs frame None)) None
    (λ e. closed (get_or slabs frame None) (let Q : ℕ → Type 0 = λ n. P (get_or slabs n None) in subst Q e old)) old
