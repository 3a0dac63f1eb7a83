-- How many slabs of a cache go, where none comes.
use Rattle.std.proofs.Common.{◌≡◌, ℕ, suc, ◌+◌, ◌<◌, ◌≤◌, Bool, true, false, cond, List, [], ◌∷◌, length, get_or, count_by, Option, Some, None, IsSome, MatchOption, inl, inr, refl, ap, sym, subst, arith}
use Rattle.std.proofs.lemmas.Bool.Decides.{nat_tests}
use Rattle.std.proofs.lemmas.List.Sums.{sum_by-cons, count_by-le-length}
use Rattle.slub_trace.specs.declared.reply.Reply.{Reply}
use Rattle.slub_trace.specs.declared.reply.Reply.TheVariants.{NoSuchCache, Checked, Trimmed}
use Rattle.slub_cache_create.specs.Table.{name_at}
use Rattle.slub_cache_create.proofs.Oldest.{named_alive}
use Rattle.slub_red_zone.specs.State.{CheckedState}
use Rattle.slub_lists.specs.declared.lists.Slab.{Slab}
use Rattle.slub_lists.specs.State.{State}
use Rattle.slub_lists.specs.Alloc.{cache_of, checked_of, named}
use Rattle.slub_lists.specs.Coherent.{IsShaped}
use Rattle.slub_lists.specs.Leaving.{LeavesSlabs, StaysOrGoes}
use Rattle.slub_lists.specs.Shrink.{ShrinksCache, is_slab_of, slabs_of}
use Rattle.slub_lists.specs.Trim.{Trims, TrimsCache}
use Rattle.slub_lists.proofs.Coherence.{live-inside}

-- a slab that stays or goes counts no more than before
counts-less : (cache : ℕ) (x y : Option Slab) → StaysOrGoes cache x y → cond (is_slab_of cache y) 1 0 ≤ cond (is_slab_of cache x) 1 0
counts-less cache None y gone = let none : is_slab_of cache y ≡ false = ap (is_slab_of cache) gone in grind (arith, nat_tests, none)
counts-less cache (Some slab) y (inl same) = let e = ap (is_slab_of cache) same in grind (arith, nat_tests, e)
counts-less cache (Some slab) y (inr (own, inl same)) = let e : is_slab_of cache y ≡ is_slab_of cache (Some slab) = ap (is_slab_of cache) same in grind (arith, nat_tests, e)
counts-less cache (Some slab) y (inr (own, inr gone)) = let none : is_slab_of cache y ≡ false = ap (is_slab_of cache) gone in grind (arith, nat_tests, none)

count-less : (cache : ℕ) (xs ys : List (Option Slab)) → length ys ≡ length xs → ((f : ℕ) → StaysOrGoes cache (get_or xs f None) (get_or ys f None)) → count_by (is_slab_of cache) ys ≤ count_by (is_slab_of cache) xs
count-less cache [] [] same leaves = omega arith
count-less cache [] (y ∷ ys) same leaves = absurd (omega arith)
count-less cache (x ∷ xs) [] same leaves = absurd (omega arith)
count-less cache (x ∷ xs) (y ∷ ys) same leaves =
    let one : ◌≤◌ (cond (is_slab_of cache y) 1 0) (cond (is_slab_of cache x) 1 0) = counts-less cache x y (leaves 0) in
    let rest = count-less cache xs ys (omega (arith, same)) (λ f. leaves (suc f)) in
    omega (arith, one, rest, sum_by-cons (λ z. cond (is_slab_of cache z) 1 0) x xs, sum_by-cons (λ z. cond (is_slab_of cache z) 1 0) y ys)

-- the cache has no more slabs than before
pub slabs-fewer : (s after : State) (cache : ℕ) → IsShaped s → IsShaped after → after.frames ≡ s.frames → LeavesSlabs s cache after → slabs_of after cache ≤ slabs_of s cache
slabs-fewer s after cache shaped shaped_after frames leaves = count-less cache s.slabs after.slabs (omega (arith, shaped.slabs, shaped_after.slabs, frames)) leaves

-- each has a frame
pub slabs-most : (s : State) (cache : ℕ) → IsShaped s → slabs_of s cache ≤ 4096
slabs-most s cache shaped = omega (arith, count_by-le-length (is_slab_of cache) s.slabs, shaped.slabs, shaped.frames.1)

-- ---- the call

-- what a name names is live, and has a number below 32
pub place-live : (s : State) (place cache : ℕ) → IsShaped s → named s place ≡ Some cache → IsSome (cache_of s cache)
place-live s place cache shaped is = named_alive s.table (name_at s.table place) cache shaped.table is

pub live-below : (s : State) (cache : ℕ) → IsShaped s → IsSome (cache_of s cache) → cache < 32
live-below s cache shaped live = omega (arith, live-inside s.table.caches cache live, shaped.table.numbers)

trims-cache : (s after : State) (place cache : ℕ) (reply : Reply) → named s place ≡ Some cache
    → MatchOption (checked_of s cache) (TrimsCache s cache reply after) (λ slabs. (reply ≡ Checked) × (after ≡ s)) → Trims s place reply after
trims-cache s after place cache reply is done =
    subst (λ (x : Option ℕ). MatchOption x ((reply ≡ NoSuchCache) × (after ≡ s)) (λ cache. MatchOption (checked_of s cache) (TrimsCache s cache reply after) (λ slabs. (reply ≡ Checked) × (after ≡ s)))) (sym is) done

pub trims-checked : (s : State) (place cache : ℕ) → named s place ≡ Some cache → IsSome (checked_of s cache) → Trims s place Checked s
trims-checked s place cache is checked = trims-cache s s place cache Checked is (by (checked_of s cache) checked)
  where
    by : (x : Option CheckedState) → IsSome x → MatchOption x (TrimsCache s cache Checked s) (λ slabs. (Checked ≡ Checked) × (s ≡ s))
    by None some = absurd (let never : ⊥ = cc in never)
    by (Some slabs) some = (refl, refl)

pub trims-unchecked : (s after : State) (place cache discarded : ℕ) → named s place ≡ Some cache → checked_of s cache ≡ None → ShrinksCache s cache after → slabs_of s cache ≡ discarded + slabs_of after cache
    → Trims s place (Trimmed discarded) after
trims-unchecked s after place cache discarded is unchecked shrinks counted =
    trims-cache s after place cache (Trimmed discarded) is
    (subst (λ (x : Option CheckedState). MatchOption x (TrimsCache s cache (Trimmed discarded) after) (λ slabs. (Trimmed discarded ≡ Checked) × (after ≡ s))) (sym unchecked) (discarded, refl, shrinks, counted))
