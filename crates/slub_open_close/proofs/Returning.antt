-- What was behind the locks of the last caches is back.
use Rattle.std.proofs.Common.{◌≡◌, ℕ, suc, ◌+◌, ◌-◌, ◌<◌, ◌≤◌, List, [], ◌∷◌, ◌++◌, length, take, get_or, set, Option, Some, None, ap, sym, ◌∙◌, subst, arith, inl, inr}
use Rattle.std.proofs.lemmas.Bool.{cases_eq}
use Rattle.std.proofs.lemmas.List.{get_or_push, get_or_append_left, get_or-set_same, get_or-set_other}
use Rattle.slub_red_zone.specs.State.{CheckedState}
use Rattle.slub_core.specs.World.{frames_in}
use Rattle.slub_core.specs.declared.guarded.Guarded.{Guarded}
use Rattle.slub_core.specs.declared.guarded.Guarded.TheVariants.{Nothing}
use Rattle.slub_core.specs.Values.{value_in, values_of}
use Rattle.slub_law_opening.specs.Closing.{checked_in}
use Rattle.slub_open_close.specs.declared.opened.KeptNode.{KeptNode}
use Rattle.slub_open_close.specs.Joins.{Joins}
use Rattle.slub_open_close.proofs.Knows.{take-past}
use Rattle.slub_open_close.proofs.Taking.{last-taken, length-take-all, length-push, less-taken}

-- of the first n caches the values and what was kept stand there still, after the pool; the others
-- have their node lists and checked slabs back, the node list of the last cache first
pub record IsBack (values : List Guarded) (kept : List KeptNode) (n : ℕ) (vs : List Guarded) (ks : List KeptNode) (nodes : List (List ℕ)) (checked : List (Option CheckedState)) : Type 0 where
  pub left : vs ≡ take (suc n) values
  pub left_kept : ks ≡ take n kept
  pub count : length nodes + n ≡ 32
  pub node : (k : ℕ) → n ≤ k → k < 32 → get_or nodes (31 - k) [] ≡ frames_in (values_of values (suc k))
  pub slabs : (k : ℕ) → n ≤ k → k < 32 → get_or checked k None ≡ checked_in (values_of values (suc k))

pub back-none : (values : List Guarded) (kept : List KeptNode) (nodes : List (List ℕ)) (checked : List (Option CheckedState)) → length values ≡ 33 → length kept ≡ 32 → nodes ≡ [] → IsBack values kept 32 values kept nodes checked
back-none values kept nodes checked long as_long none = record {
  left = sym (take-past values 33 (omega arith));
  left_kept = sym (take-past kept 32 (omega arith));
  count = ap (λ xs. length xs + 32) none;
  node = λ k past below. absurd (omega arith);
  slabs = λ k past below. absurd (omega arith);
}

module _ (values : List Guarded) (kept : List KeptNode) (n : ℕ) (vs : List Guarded) (ks : List KeptNode) (nodes : List (List ℕ)) (checked : List (Option CheckedState)) (long : length values ≡ 33) (as_long : length kept ≡ 32)
    (some : 0 < n) (most : n ≤ 32) (back : IsBack values kept n vs ks nodes checked) where
  again : suc (n - 1) ≡ n
  again = omega arith

  pub values-left : length vs ≡ suc n
  values-left = ap length back.left ∙ length-take-all values (suc n) (omega arith)

  pub kept-left : length ks ≡ n
  kept-left = ap length back.left_kept ∙ length-take-all kept n (omega arith)

  last-value : (len : ℕ) (v : Guarded) → len ≡ length vs → Some v ≡ Some (get_or vs (len - 1) Nothing) → v ≡ get_or values n Nothing
  last-value len v size last = last-taken values vs n len Nothing v back.left (omega arith) size last

  -- the last value goes to what was kept of the last cache
  pub last-joins : (len kept_len : ℕ) (v : Guarded) (k : KeptNode) → len ≡ length vs → kept_len ≡ length ks → Some v ≡ Some (get_or vs (len - 1) Nothing) → Some k ≡ Some (get_or ks (kept_len - 1) k)
      → ((cache : ℕ) (otherwise : KeptNode) → cache < 32 → Joins (get_or values (suc cache) Nothing) (get_or kept cache otherwise)) → Joins v k
  last-joins len kept_len v k size kept_size last last_kept joins =
      let left : k ≡ get_or kept (n - 1) k = last-taken kept ks (n - 1) kept_len k k (back.left_kept ∙ ap (λ j. take j kept) (sym again)) (omega arith) kept_size last_kept in
      let j = joins (n - 1) k (omega arith) in
      subst (λ v. Joins v k) (ap (λ j. get_or values j Nothing) again ∙ sym (last-value len v size last)) (subst (λ z. Joins (get_or values (suc (n - 1)) Nothing) z) (sym left) j)

  -- one cache more
  pub back-more : (len kept_len : ℕ) (v : Guarded) (us : List Guarded) (js : List KeptNode) (more : List (List ℕ)) (node : List ℕ) (slabs : Option CheckedState) → len ≡ length vs → kept_len ≡ length ks → length checked ≡ 32
      → Some v ≡ Some (get_or vs (len - 1) Nothing) → us ≡ take (len - 1) vs → js ≡ take (kept_len - 1) ks → more ≡ nodes ++ node ∷ [] → node ≡ frames_in (value_in v) → slabs ≡ checked_in (value_in v)
      → IsBack values kept (n - 1) us js more (set checked (n - 1) slabs)
  back-more len kept_len v us js more node slabs size kept_size checks last left left_kept pushed is are =
      let value = last-value len v size last in
      let here : node ≡ frames_in (values_of values n) = is ∙ ap (λ v. frames_in (value_in v)) value in
      let there : slabs ≡ checked_in (values_of values n) = are ∙ ap (λ v. checked_in (value_in v)) value in
      let count : length nodes ≡ 32 - n = (let i = back.count in omega arith) in
      record {
        left = less-taken values vs us n len back.left (omega arith) size left ∙ ap (λ k. take k values) (sym again);
        left_kept = less-taken kept ks js (n - 1) kept_len (back.left_kept ∙ ap (λ k. take k kept) (sym again)) (omega arith) kept_size left_kept;
        count = (let p = ap length pushed in let o = length-push nodes node in omega arith);
        node = λ k past below. elim (cases_eq k (n - 1)) [
          | inl e ↦ (
              let p : length nodes ≡ 31 - k = omega arith in
              ap (λ xs. get_or xs (31 - k) []) pushed ∙ get_or_push nodes node [] (31 - k) p ∙ here ∙ ap (λ j. frames_in (values_of values j)) (let q : n ≡ suc k = omega arith in q))
          | inr d ↦ ap (λ xs. get_or xs (31 - k) []) pushed ∙ get_or_append_left nodes (node ∷ []) [] (31 - k) (omega (arith, d)) ∙ back.node k (omega (arith, d)) below
        ];
        slabs = λ k past below. elim (cases_eq k (n - 1)) [
          | inl e ↦ ap (λ j. get_or (set checked (n - 1) slabs) j None) e ∙ get_or-set_same checked (n - 1) slabs None (omega arith) ∙ there ∙ ap (λ j. checked_in (values_of values j)) (let q : n ≡ suc k = omega arith in q)
          | inr d ↦ get_or-set_other checked (n - 1) k slabs None d ∙ back.slabs k (omega (arith, d)) below
        ];
      }
