-- Shrinking, flushing and tuning want no frames.
use Rattle.std.proofs.Common.{◌≡◌, ℕ, ◌++◌, Bool, cond, List, [], ◌∷◌, length, fold, nat_lt, eqb, refl, ◌∙◌, ap, Option, Some, None, MatchOption}
use Rattle.std.specs.List.{range_with_len}
use Rattle.std.specs.Option.{option_map_or}
use Rattle.slub_red_zone.specs.State.{CheckedState}
use Rattle.slub_red_zone.specs.Steps.{without_slab as without_checked}
use Rattle.slub_cache_create.specs.declared.caches.Cache.{Cache}
use Rattle.slub_lists.specs.State.{State}
use Rattle.slub_lists.specs.Alloc.{cache_of, checked_of, lists_of, node_of, own_free, with_node}
use Rattle.slub_lists.specs.Checked.{with_checked}
use Rattle.slub_lists.specs.Free.{discarded, inuse_of, is_spare, moved, with_partial, without_slab}
use Rattle.slub_lists.specs.Shrink.{ShrinksByKind, ShrinksChecked, ShrinksUnchecked, all_free, flushed, flushed_below, moved_partial, put_away, put_away_slab, put_on_node, put_where, swept, swept_checked, swept_checked_slab, swept_slab, taken_down}
use Rattle.slub_lists.proofs.Moving.{pick}

-- the counts of wanted frames are as before
abbrev pub KeepsDry : State → State → Type 0
KeepsDry s after = after.pool.dry ≡ s.pool.dry

-- what is there
pub match_some : {A : Type 0} (found : Option A) (P : A → Type 0) (Q : Type 0) → MatchOption found ⊥ P → ((x : A) → P x → Q) → Q
match_some None P Q matches some = absurd matches
match_some (Some x) P Q matches some = some x matches

-- what each step keeps, all steps keep
folded-dry : (f : State → ℕ → State) → ((s : State) (n : ℕ) → KeepsDry s (f s n)) → (s : State) (ns : List ℕ) → KeepsDry s (fold f s ns)
folded-dry f keeps s [] = refl
folded-dry f keeps s (n ∷ ns) = folded-dry f keeps (f s n) ns ∙ keeps s n

-- ---- a CPU is flushed

on-node-dry : (s : State) (cache frame : ℕ) (own : List ℕ) → KeepsDry s (put_on_node s cache frame own)
on-node-dry s cache frame [] = refl
on-node-dry s cache frame (index ∷ own) = refl

put_where-dry : (s : State) (min_partial cache frame : ℕ) (own : List ℕ) → KeepsDry s (put_where s min_partial cache frame own)
put_where-dry s min_partial cache frame own =
    let has : Bool = nat_lt 0 (length (own_free s frame)) in
    pick (is_spare s min_partial cache frame) (discarded s frame) (cond has (put_on_node s cache frame own) s) (KeepsDry s) refl
    (pick has (put_on_node s cache frame own) s (KeepsDry s) (on-node-dry s cache frame own) refl)

put_away-dry : (s : State) (min_partial cache cpu : ℕ) → KeepsDry s (put_away s min_partial cache cpu)
put_away-dry s min_partial cache cpu = by (lists_of s cache cpu).current
  where
    by : (x : Option ℕ) → KeepsDry s (option_map_or (put_away_slab s min_partial cache cpu) x s)
    by None = refl
    by (Some frame) = put_where-dry (taken_down s cache cpu frame) min_partial cache frame (own_free s frame)

moved-dry : (min_partial cache : ℕ) (s : State) (frame : ℕ) → KeepsDry s (moved min_partial cache s frame)
moved-dry min_partial cache s frame =
    pick (is_spare s min_partial cache frame) (discarded s frame) (with_node s cache (node_of s cache ++ frame ∷ [])) (KeepsDry s) refl refl

moved_partial-dry : (s : State) (min_partial cache cpu : ℕ) → KeepsDry s (moved_partial s min_partial cache cpu)
moved_partial-dry s min_partial cache cpu =
    folded-dry (moved min_partial cache) (moved-dry min_partial cache) (with_partial s cache cpu []) (lists_of s cache cpu).partial

flushed-dry : (min_partial cache : ℕ) (s : State) (cpu : ℕ) → KeepsDry s (flushed min_partial cache s cpu)
flushed-dry min_partial cache s cpu = moved_partial-dry (put_away s min_partial cache cpu) min_partial cache cpu ∙ put_away-dry s min_partial cache cpu

pub flushed_below-dry : (s : State) (min_partial cache cpus : ℕ) → KeepsDry s (flushed_below s min_partial cache cpus)
flushed_below-dry s min_partial cache cpus = folded-dry (flushed min_partial cache) (flushed-dry min_partial cache) s (range_with_len 0 cpus)

-- ---- slabs go

swept_slab-dry : (cache : ℕ) (s : State) (frame : ℕ) → KeepsDry s (swept_slab cache s frame)
swept_slab-dry cache s frame = pick (eqb (inuse_of s frame) 0) (discarded (without_slab s cache frame) frame) s (KeepsDry s) refl refl

swept-dry : (s : State) (cache : ℕ) → KeepsDry s (swept s cache)
swept-dry s cache = folded-dry (swept_slab cache) (swept_slab-dry cache) s (node_of s cache)

swept_checked_slab-dry : (cache : ℕ) (s : State) (frame : ℕ) → KeepsDry s (swept_checked_slab cache s frame)
swept_checked_slab-dry cache s frame = by (checked_of s cache)
  where
    by : (x : Option CheckedState) → KeepsDry s (option_map_or (λ slabs. cond (all_free slabs frame) (discarded (with_checked s cache (without_checked slabs frame)) frame) s) x s)
    by None = refl
    by (Some slabs) = pick (all_free slabs frame) (discarded (with_checked s cache (without_checked slabs frame)) frame) s (KeepsDry s) refl refl

swept_checked-dry : (s : State) (cache : ℕ) (slabs : CheckedState) → KeepsDry s (swept_checked s cache slabs)
swept_checked-dry s cache slabs = folded-dry (swept_checked_slab cache) (swept_checked_slab-dry cache) s slabs.listed

-- ---- a cache is shrunk

unchecked-dry : (s : State) (min_partial cache : ℕ) (after : State) → ShrinksUnchecked s min_partial cache after → KeepsDry s after
unchecked-dry s min_partial cache after shrinks =
    ap (λ (t : State). t.pool.dry) shrinks.2 ∙ swept-dry (flushed_below s min_partial cache s.cpus) cache ∙ flushed_below-dry s min_partial cache s.cpus

checked-dry : (s : State) (cache : ℕ) (slabs : CheckedState) (after : State) → ShrinksChecked s cache slabs after → KeepsDry s after
checked-dry s cache slabs after shrinks =
    match_some (checked_of (swept_checked s cache slabs) cache) _ (KeepsDry s after) shrinks
    (λ rest promotes. ap (λ (t : State). t.pool.dry) promotes.2 ∙ swept_checked-dry s cache slabs)

pub by_kind-dry : (s : State) (cache : ℕ) (after : State) → ShrinksByKind s cache after → KeepsDry s after
by_kind-dry s cache after shrinks = match_some (cache_of s cache) _ (KeepsDry s after) shrinks (λ live shrinks. by live (checked_of s cache) shrinks)
  where
    by : (live : Cache) (x : Option CheckedState) → MatchOption x (ShrinksUnchecked s live.layout.min_partial cache after) (λ slabs. ShrinksChecked s cache slabs after) → KeepsDry s after
    by live None shrinks = unchecked-dry s live.layout.min_partial cache after shrinks
    by live (Some slabs) shrinks = checked-dry s cache slabs after shrinks
