-- What the locks guard, where one cache has another node list.
use Rattle.std.proofs.Common.{◌≡◌, ℕ, zero, suc, ◌<◌, cond, true, List, [], length, set, Option, Some, None, inl, inr, refl, ap, sym, ◌∙◌, subst, arith}
use Rattle.std.specs.Prelude.{is_some, nat_lt}
use Rattle.std.proofs.lemmas.Bool.{cases_eq}
use Rattle.std.proofs.lemmas.List.{get_or-set_same, get_or-set_other}
use Rattle.slub_lists.specs.declared.lists.Slab.{Slab}
use Rattle.slub_lists.specs.State.{State}
use Rattle.slub_lists.specs.Alloc.{cache_of, checked_of, node_of}
use Rattle.slub_core.specs.Setup.{node_lock}
use Rattle.slub_core.specs.World.{World, LockValue, Nothing, Node, update, set_value, frames_in, objects_at, cache_at, order_at}
use Rattle.slub_core.proofs.UnderLock.{HasSameSlabs, objects-same_value, cache-same_value, order-same_value}
use Rattle.slub_core.proofs.Update.{update_at, update_other}
use Rattle.slub_law_opening.specs.Opening.{node_value, value_of}
use Rattle.slub_law_opening.specs.Rests.{slab_at}

-- no slab comes or goes with it
pub node_slabs : (w : World) (j : ℕ) (before after : List ℕ) → w.value j ≡ Node before → (f : ℕ) → slab_at (set_value w j (Node after)) f ≡ slab_at w f
node_slabs w j before after was f =
    ap (λ o. by_slab o (cache_at v f) (order_at v f)) (objects-same_value w j (Node after) same f)
    ∙ ap (λ k. by_slab (objects_at w f) k (order_at v f)) (cache-same_value w j (Node after) same f)
    ∙ ap (by_slab (objects_at w f) (cache_at w f)) (order-same_value w j (Node after) same f)
  where
    v : World
    v = set_value w j (Node after)

    by_slab : ℕ → ℕ → ℕ → Option Slab
    by_slab o k r = cond (nat_lt 0 o) (Some (record { cache = k; order = r; objects = o; frozen = (w.slab f).frozen })) None

    same : HasSameSlabs (w.value j) (Node after)
    same = subst (λ u. HasSameSlabs u (Node after)) (sym was) (record { size = λ f. refl; order = λ f. refl })

pub lock_of : (k : ℕ) → node_lock k ≡ suc k
lock_of k = omega arith

-- the lock of a live unchecked cache guards its node list
pub node_guarded : (s : State) (k : ℕ) → is_some (cache_of s k) ≡ true → checked_of s k ≡ None → value_of s (node_lock k) ≡ Node (node_of s k)
node_guarded s k lives plain =
    ap (value_of s) (lock_of k) ∙ ap (λ o. node_value (is_some (cache_of s k)) o (node_of s k)) plain ∙ ap (λ h. cond {A = LockValue} h (Node (node_of s k)) Nothing) lives

module _ (s : State) (k : ℕ) (fs : List ℕ) (inside : k < length s.nodes) (lives : is_some (cache_of s k) ≡ true) (plain : checked_of s k ≡ None) where
  abbrev pub t : State
  t = record s { nodes = set s.nodes k fs }

  node_here : node_of t k ≡ fs
  node_here = get_or-set_same s.nodes k fs [] inside

  pub node_other : (i : ℕ) → (i ≡ k → ⊥) → node_of t i ≡ node_of s i
  node_other i away = get_or-set_other s.nodes k i fs [] away

  value_here : value_of t (node_lock k) ≡ Node fs
  value_here = node_guarded t k lives plain ∙ ap Node node_here

  value_other : (i : ℕ) → (i ≡ k → ⊥) → value_of t (suc i) ≡ value_of s (suc i)
  value_other i away = ap (node_value (is_some (cache_of s i)) (checked_of s i)) (node_other i away)

  pub values_set : (value : ℕ → LockValue) → ((i : ℕ) → i < 33 → value i ≡ value_of s i) → (i : ℕ) → i < 33 → update value (node_lock k) (Node fs) i ≡ value_of t i
  values_set value is zero below = update_other value (node_lock k) (Node fs) 0 (λ e. absurd (omega (arith, e))) ∙ is 0 below
  values_set value is (suc i) below = elim (cases_eq i k) [
    | inl same ↦ update_at value (node_lock k) (Node fs) (suc i) (omega (arith, same)) ∙ sym value_here ∙ ap (value_of t) (lock_of k ∙ ap suc (sym same))
    | inr away ↦ update_other value (node_lock k) (Node fs) (suc i) (λ e. away (omega (arith, e))) ∙ is (suc i) below ∙ sym (value_other i away)
  ]

  pub nodes_set : ((i : ℕ) → node_of s i ≡ frames_in (value_of s (node_lock i))) → (i : ℕ) → node_of t i ≡ frames_in (value_of t (node_lock i))
  nodes_set is i = elim (cases_eq i k) [
    | inl same ↦ ap (node_of t) same ∙ node_here ∙ sym (ap frames_in (ap (λ i. value_of t (node_lock i)) same ∙ value_here))
    | inr away ↦ node_other i away ∙ is i ∙ ap frames_in (ap (value_of s) (lock_of i) ∙ sym (value_other i away) ∙ sym (ap (value_of t) (lock_of i)))
  ]
