-- The live names after a creation and after a destruction.
use Rattle.std.proofs.Common.{◌≡◌, ℕ, List, [], ◌∷◌, length, nat_lt, suc, ◌+◌, inl, inr, refl, sym, ap, ◌∙◌, arith, take_all, append-nil, ◌≤◌, Bool, Option, Some, None, MatchOption}
use Rattle.std.specs.List.{position, position_or_len, remove}
use Rattle.std.proofs.lemmas.Bool.{cases_Bool}
use Rattle.std.proofs.lemmas.Bool.Decides.{nat_tests}
use Rattle.std.proofs.lemmas.List.{drop_all}
use Rattle.std.specs.Map.{remove_entry}
use Rattle.std.specs.Str.{bytes_eq}
use Rattle.slub_cache_create.specs.declared.caches.Cache.{Cache}
use Rattle.slub_cache_create.specs.declared.caches.Created.TheVariants.{New, Merged}
use Rattle.slub_cache_create.specs.Table.{Table, cache_of as live_cache, number_of}
use Rattle.slub_trace.specs.declared.destroy.Destroyed.TheVariants.{NameDropped, Gone}
use Rattle.slub_lists.specs.State.{State}
use Rattle.slub_lists.specs.Create.{with_new}
use Rattle.slub_lists.specs.Destroy.{DropsName, Goes}
use Rattle.slub_state_text.specs.Laws.{CreationsAddNames, DestructionsTakeNames}

new_table : (s : State) (table : Table) (cache : ℕ) (found : Option Cache) (after : State)
    → MatchOption found ⊥ (λ live. after ≡ with_new s table cache live) → after.table ≡ table
new_table s table cache None after made = absurd made
new_table s table cache (Some live) after made = ap (λ (m : State). m.table) made

pub creations_add : CreationsAddNames
creations_add s after name spec (New cache) creates =
    let same : after.table ≡ creates.0 = new_table s creates.0 cache (live_cache creates.0 cache) after creates.2 in
    ap (λ (t : Table). t.live) same ∙ ap (λ (t : Table). t.live) creates.1.4
creations_add s after name spec (Merged cache) creates =
    ap (λ (m : State). m.table.live) creates.2 ∙ ap (λ (t : Table). t.live) creates.1.1

dropped : (s : State) (name : List ℕ) (found : Option ℕ) (after : State) → MatchOption found ⊥ (λ cache. DropsName s name cache after)
    → after.table.live ≡ remove_entry (bytes_eq name) s.table.live
dropped s name None after drops = absurd drops
dropped s name (Some cache) after drops = ap (λ (m : State). m.table.live) drops.1

gone : (s : State) (name : List ℕ) (found : Option ℕ) (after : State) → MatchOption found ⊥ (λ cache. Goes s name cache after)
    → after.table.live ≡ remove_entry (bytes_eq name) s.table.live
gone s name None after goes = absurd goes
gone s name (Some cache) after goes =
    ap (λ (m : State). m.table.live) goes.5 ∙ ap (λ (t : Table). remove_entry (bytes_eq name) t.live) goes.3.held.table

pub destructions_take : DestructionsTakeNames
destructions_take s after name NameDropped destroys = dropped s name (number_of s.table name) after destroys
destructions_take s after name Gone destroys = gone s name (number_of s.table name) after destroys

-- what is taken out is what stands at the name's place
pub removed : {K X : Type 0} (test : K → Bool) (es : List (K × X)) → remove_entry test es ≡ remove es (position_or_len (λ (e : K × X). test e.0) es)
removed test [] = refl
removed {K = K} {X = X} test (e ∷ es) =
    elim (cases_Bool (test e.0)) [
      | inl here ↦ rw here refl
      | inr later ↦
          let n = position_or_len (λ (e : K × X). test e.0) es in
          let one : 1 + n ≡ suc n = omega arith in
          rw (later, one) (ap (λ rest. e ∷ rest) (removed test es))
    ]

place_is : {A : Type 0} (p : A → Bool) (xs : List A) (i : ℕ) → position p xs ≡ Some i → position_or_len p xs ≡ i
place_is p xs i is =
    elim (cases_Bool (nat_lt (position_or_len p xs) (length xs))) [
      | inl within ↦ cc (rw within at is)
      | inr past ↦ absurd (let never : ⊥ = cc (rw past at is) in never)
    ]

pub removed_some : {K X : Type 0} (test : K → Bool) (es : List (K × X)) (place : ℕ) → position (λ (e : K × X). test e.0) es ≡ Some place → remove es place ≡ remove_entry test es
removed_some {K = K} {X = X} test es place is = sym (removed test es ∙ ap (remove es) (place_is (λ (e : K × X). test e.0) es place is))

whole : {A : Type 0} (n : ℕ) (xs : List A) → length xs ≤ n → remove xs n ≡ xs
whole n xs far = rw (take_all n xs far, drop_all (suc n) xs (omega arith)) (append-nil xs)

pub removed_none : {K X : Type 0} (test : K → Bool) (es : List (K × X)) → position (λ (e : K × X). test e.0) es ≡ None → es ≡ remove_entry test es
removed_none {K = K} {X = X} test es is =
    let n = position_or_len (λ (e : K × X). test e.0) es in
    elim (cases_Bool (nat_lt n (length es))) [
      | inl within ↦ absurd (let never : ⊥ = cc (rw within at is) in never)
      | inr past ↦ let far : length es ≤ n = grind (arith, nat_tests, past) in sym (removed test es ∙ whole n es far)
    ]
