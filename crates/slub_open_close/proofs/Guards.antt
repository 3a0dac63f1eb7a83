-- What is moved behind the locks is what they are to guard.
use Rattle.std.proofs.Common.{◌≡◌, ℕ, zero, suc, ◌+◌, ◌-◌, ◌<◌, ◌≤◌, ◌++◌, ◌&&◌, Bool, true, false, List, [], ◌∷◌, length, drop, get_or, map, reverse, Option, Some, None, inl, inr, refl, ap, sym, ◌∙◌, subst, arith, length-append}
use Rattle.std.specs.Prelude.{is_some, not}
use Rattle.std.specs.List.{range_with_len}
use Rattle.std.proofs.lemmas.Bool.{cases_lt}
use Rattle.std.proofs.lemmas.List.{get_or_past, get_or_append_left, get_or-append_right, drop_more, reverse-append}
use Rattle.std.proofs.lemmas.List.FromFn.{get_or-map-range_with_len, length-map-range_with_len}
use Rattle.slub_common.specs.Times.{times}
use Rattle.slub_common.proofs.Times.{times-cons}
use Rattle.slub_cache_create.specs.Table.{Table}
use Rattle.slub_red_zone.specs.State.{CheckedState}
use Rattle.slub_lists.specs.State.{State}
use Rattle.slub_lists.specs.Alloc.{slab_of, cache_of, checked_of, node_of}
use Rattle.slub_lists.specs.Coherent.{IsConsistent}
use Rattle.slub_lists.proofs.CheckedSlabs.{at_some, was-checked}
use Rattle.slub_lists.proofs.CheckedGiving.{the-value}
use Rattle.slub_lists.proofs.Listed.{node-counted}
use Rattle.slub_lists.proofs.Places.{listed-is, layout-of}
use Rattle.slub_lists.proofs.Times.{current-same}
use Rattle.slub_core.specs.World.{LockValue}
use Rattle.slub_core.specs.World as value
use Rattle.slub_core.specs.declared.guarded.Guarded.{Guarded}
use Rattle.slub_core.specs.declared.guarded.Guarded.TheVariants.{Nothing}
use Rattle.slub_core.specs.Values.{value_in, values_of}
use Rattle.slub_law_opening.specs.Opening.{node_value, value_of}
use Rattle.slub_open_close.specs.declared.opened.KeptNode.{KeptNode}
use Rattle.slub_open_close.specs.declared.opened.KeptNode.TheVariants.{Whole, Counts}
use Rattle.slub_open_close.specs.Values.{value_at, has_node, IsKeptOf, AreKept}
use Rattle.slub_open_close.proofs.Laid.{same-functions}
use Rattle.slub_open_close.proofs.Setups.{past-dead}

get_or-map_any : {A B : Type 0} (f : A → B) (xs : List A) (n : ℕ) (d : A) → f (get_or xs n d) ≡ get_or (map f xs) n (f d)
get_or-map_any f [] n d = refl
get_or-map_any f (x ∷ xs) zero d = refl
get_or-map_any f (x ∷ xs) (suc n) d = get_or-map_any f xs n d

-- ---- one node list is taken out

-- the last of a reversed list
pub last-of : {A : Type 0} (xs rest : List A) (i : ℕ) (y d : A) → i < length xs → reverse (drop i xs) ≡ rest ++ y ∷ [] → (y ≡ get_or xs i d) × (rest ≡ reverse (drop (i + 1) xs))
last-of xs rest i y d inside e =
    let more : drop i xs ≡ get_or xs i d ∷ drop (i + 1) xs = drop_more xs i d inside in
    let turned : reverse (get_or xs i d ∷ drop (i + 1) xs) ≡ reverse (drop (i + 1) xs) ++ get_or xs i d ∷ [] = reverse-append (get_or xs i d ∷ []) (drop (i + 1) xs) in
    pushed rest (reverse (drop (i + 1) xs)) y (get_or xs i d) (sym e ∙ ap reverse more ∙ turned)
  where
    pushed : {A : Type 0} (xs ys : List A) (x y : A) → xs ++ x ∷ [] ≡ ys ++ y ∷ [] → (x ≡ y) × (xs ≡ ys)
    pushed [] [] x y e = (cc, refl)
    pushed [] (z ∷ []) x y e = absurd (cc e)
    pushed [] (z ∷ (w ∷ ws)) x y e = absurd (cc e)
    pushed (z ∷ []) [] x y e = absurd (cc e)
    pushed (z ∷ (w ∷ ws)) [] x y e = absurd (cc e)
    pushed (z ∷ zs) (w ∷ ws) x y e =
        let first : z ≡ w = cc in
        let rest : zs ++ x ∷ [] ≡ ws ++ y ∷ [] = cc in
        let r = pushed zs ws x y rest in
        (r.0, ap (λ a. a ∷ zs) first ∙ ap (λ l. w ∷ l) r.1)

-- what is left of one more
pub kept-more : (table : Table) (nodes : List (List ℕ)) (checked : List (Option CheckedState)) (kept : List KeptNode) (left : KeptNode) → AreKept table nodes checked kept
    → IsKeptOf (has_node table checked (length kept)) (get_or nodes (length kept) []) left → AreKept table nodes checked (kept ++ left ∷ [])
kept-more table nodes checked kept left before is = λ k d below. elim (cases_lt k (length kept)) [
  | inl l ↦ subst (IsKeptOf (has_node table checked k) (get_or nodes k [])) (sym (get_or_append_left kept (left ∷ []) d k l)) (before k d l)
  | inr g ↦
      let count : length (kept ++ left ∷ []) ≡ length kept + 1 = length-append kept (left ∷ []) in
      let e : k ≡ length kept = omega arith in
      let at : get_or (kept ++ left ∷ []) k d ≡ left = get_or-append_right kept (left ∷ []) (length kept) k d refl g ∙ ap (λ n. get_or (left ∷ []) n d) (let q : k - length kept ≡ 0 = omega arith in q) in
      subst (λ n. IsKeptOf (has_node table checked n) (get_or nodes n []) (get_or (kept ++ left ∷ []) k d)) (sym e) (subst (IsKeptOf (has_node table checked (length kept)) (get_or nodes (length kept) [])) (sym at) is)
]

-- ---- the whole

pub values-whole : (s : State) (vs : List Guarded) → IsConsistent s → map value_in vs ≡ (value.Pool s.pool ∷ []) ++ map (value_at s.table s.nodes s.checked) (range_with_len 0 32) → values_of vs ≡ value_of s
values-whole s vs consistent e = same-functions (λ n. get_or-map_any value_in vs n Nothing ∙ ap (λ (l : List LockValue). get_or l n value.Nothing) e ∙ at n)
  where
    nowhere : (k : ℕ) → 32 ≤ k → value.Nothing ≡ value_of s (suc k)
    nowhere k past =
        let unchecked : checked_of s k ≡ None = get_or_past s.checked k None (omega (arith, past, consistent.shaped.checked.numbers)) in
        sym (ap (λ o. node_value (is_some (cache_of s k)) o (node_of s k)) unchecked ∙ ap (λ b. node_value b None (node_of s k)) (past-dead s consistent k past))

    at : (n : ℕ) → get_or ((value.Pool s.pool ∷ []) ++ map (value_at s.table s.nodes s.checked) (range_with_len 0 32)) n value.Nothing ≡ value_of s n
    at zero = refl
    at (suc k) = elim (cases_lt k 32) [
      | inl l ↦ get_or-map-range_with_len (value_at s.table s.nodes s.checked) 0 32 k k value.Nothing l (let q : 0 + k ≡ k = omega arith in q)
      | inr g ↦ get_or_past (map (value_at s.table s.nodes s.checked) (range_with_len 0 32)) k value.Nothing (omega (arith, g, length-map-range_with_len (value_at s.table s.nodes s.checked) 0 32)) ∙ nowhere k g
    ]

empty-list : (xs : List ℕ) → ((i : ℕ) → times i xs ≡ 0) → xs ≡ []
empty-list [] none = refl
empty-list (x ∷ xs) none = absurd (omega (arith, none x, times-cons x x xs, current-same x x 1 refl))

-- a cache whose lock guards no node list has no slab on one
pub bare-node : (s : State) (k : ℕ) → IsConsistent s → has_node s.table s.checked k ≡ false → node_of s k ≡ []
bare-node s k consistent none = go (checked_of s k) refl
  where
    dead : checked_of s k ≡ None → is_some (cache_of s k) ≡ false
    dead e = both (is_some (cache_of s k)) (is_some (checked_of s k)) (ap is_some e) none
      where
        both : (a b : Bool) → b ≡ false → a && not b ≡ false → a ≡ false
        both true true e f = absurd (cc e)
        both true false e f = f
        both false b e f = refl

    no-slab : is_some (cache_of s k) ≡ false → (f : ℕ) → times f (node_of s k) ≡ 0
    no-slab gone f = elim (cases_lt 0 (times f (node_of s k))) [
      | inl some ↦
          let x = listed-is s f consistent (omega (arith, node-counted s f k)) in
          let own : x.0.cache ≡ k = at_some (slab_of s f) x.0 (λ slab. slab.cache ≡ k) x.1 (consistent.listed.of_node k f some) in
          let live = the-value (cache_of s x.0.cache) _ (layout-of s f x.0 consistent x.1) in
          absurd (let l : is_some (cache_of s k) ≡ true = ap (λ n. is_some (cache_of s n)) (sym own) ∙ ap is_some live.1 in cc)
      | inr le ↦ omega arith
    ]

    go : (o : Option CheckedState) → checked_of s k ≡ o → node_of s k ≡ []
    go None e = empty-list (node_of s k) (no-slab (dead e))
    go (Some c) e = (was-checked s k c c e consistent.shaped.checked).off_node

pub kept-bare : (s : State) (kept : List KeptNode) → IsConsistent s → AreKept s.table s.nodes s.checked kept → length kept ≡ 32 → (k : ℕ) (d : KeptNode) → k < 32 → IsKeptOf (has_node s.table s.checked k) [] (get_or kept k d)
kept-bare s kept consistent are count k d below = go (get_or kept k d) (are k d (omega arith))
  where
    go : (x : KeptNode) → IsKeptOf (has_node s.table s.checked k) (node_of s k) x → IsKeptOf (has_node s.table s.checked k) [] x
    go (Whole node) is = (is.0, is.1 ∙ bare-node s k consistent is.0)
    go (Counts counts) is = is
