-- A machine rests in lists from which a slab of a node list is gone, whose frames are free again.
use Rattle.std.proofs.Common.{◌≡◌, ℕ, zero, suc, ◌<◌, ◌≤◌, true, false, eqb, cond, List, [], ◌+◌, length, filter, Option, Some, None, inl, inr, refl, ap, sym, ◌∙◌, subst, arith}
use Rattle.std.specs.Prelude.{nat_lt, not, is_some}
use Rattle.std.proofs.lemmas.Bool.{cases_eq, eq-eqb, ne_eqb}
use Rattle.std.proofs.lemmas.List.{get_or-set_same, get_or-set_other}
use Rattle.slub_common.specs.Times.{times}
use Rattle.slub_common.proofs.Times.{times-filter_pass, times-filter_fail}
use Rattle.slub_page_pool.specs.FreeFrames.{FreeFrames}
use Rattle.slub_page_pool.specs.Block.{with_run}
use Rattle.slub_words.specs.declared.slab.SlabWord.{SlabWord}
use Rattle.slub_lists.specs.declared.lists.Slab.{Slab}
use Rattle.slub_lists.specs.State.{State}
use Rattle.slub_lists.specs.Alloc.{cache_of, checked_of, node_of, own_free, slab_of}
use Rattle.slub_lists.specs.Free.{discarded, order_of, without_slab}
use Rattle.slub_core.specs.Setup.{node_lock, pool_lock}
use Rattle.slub_core.specs.Words.{no_slab_word}
use Rattle.slub_core.specs.World.{World, LockValue, Nothing, Node, Pool, update, set_value, frames_in, objects_at, cache_at, order_at, objects_in_values, cache_in_values, order_in_values, pointer, IsChain}
use Rattle.slub_core.specs.Fresh.{IsWorded}
use Rattle.slub_core.specs.Local.{Local}
use Rattle.slub_core.proofs.UnderLock.{HasSameSlabs, objects-same_value, cache-same_value, order-same_value}
use Rattle.slub_core.proofs.Update.{update_same, update_other, update_at, each_updated}
use Rattle.slub_law_opening.specs.Opening.{Beside, node_value, value_of as value_in}
use Rattle.slub_law_opening.specs.Rests.{IsFreelistOf, Rests, slab_at}
use Rattle.slub_law_alone.proofs.Changed.{slab_as_it_was}
use Rattle.slub_law_alone.proofs.NewSlabMade.{by_word}

-- a lock guards another value: no slab comes or goes with it
pub value_slabs : (w : World) (j : ℕ) (v : LockValue) → HasSameSlabs (w.value j) v → (f : ℕ) → slab_at (set_value w j v) f ≡ slab_at w f
value_slabs w j v same f =
    ap (λ o. by_slab o (cache_at (set_value w j v) f) (order_at (set_value w j v) f)) (objects-same_value w j v same f)
    ∙ ap (λ k. by_slab (objects_at w f) k (order_at (set_value w j v) f)) (cache-same_value w j v same f)
    ∙ ap (by_slab (objects_at w f) (cache_at w f)) (order-same_value w j v same f)
  where
    by_slab : ℕ → ℕ → ℕ → Option Slab
    by_slab o k r = cond (nat_lt 0 o) (Some (record { cache = k; order = r; objects = o; frozen = (w.slab f).frozen })) None

-- where no value has the slab, a word that is 0 says that none is there
no_word_no_slab : (w : World) (f : ℕ) → objects_in_values w.value w.setup.locks f ≡ 0 → by_word w f no_slab_word ≡ None
no_word_no_slab w f none = ap by_objects none
  where
    by_objects : ℕ → Option Slab
    by_objects o = cond {A = Option Slab} (nat_lt 0 o) (Some (record { cache = cache_in_values w.value w.setup.locks f; order = order_in_values w.value w.setup.locks f; objects = o; frozen = false })) None

module _ (s : State) (b : Beside) (w : World) (ls : List Local) (k f : ℕ) (rests : Rests s b w ls) (inside : k < 32) (lives : is_some (cache_of s k) ≡ true) (plain : checked_of s k ≡ None)
    (slabs_below : f < length s.slabs) (frees_below : f < length s.frees) (nodes_below : k < length s.nodes) (unvalued : objects_in_values w.value w.setup.locks f ≡ 0) (off_others : (i : ℕ) → (i ≡ k → ⊥) → times f (node_of s i) ≡ 0) where
  abbrev frames : List ℕ
  frames = filter (λ other. not (eqb other f)) (node_of s k)

  abbrev j : ℕ
  j = node_lock k

  abbrev pool : FreeFrames
  pool = record s.pool { free = with_run s.pool.free f (order_of s f) }

  abbrev t : State
  t = discarded (without_slab s k f) f

  abbrev bare : World
  bare = record w { slab = update w.slab f no_slab_word }

  abbrev unlisted : World
  unlisted = set_value bare j (Node frames)

  abbrev v : World
  v = set_value unlisted pool_lock (Pool pool)

  at_suc : (i : ℕ) → node_lock i ≡ suc i
  at_suc i = omega arith

  -- ---- what the locks guard

  node_here : node_of t k ≡ frames
  node_here = get_or-set_same s.nodes k frames [] nodes_below

  node_other : (i : ℕ) → (i ≡ k → ⊥) → node_of t i ≡ node_of s i
  node_other i away = get_or-set_other s.nodes k i frames [] away

  listed_value : (frames : List ℕ) → node_value (is_some (cache_of s k)) (checked_of s k) frames ≡ Node frames
  listed_value frames = ap (λ o. node_value (is_some (cache_of s k)) o frames) plain ∙ ap (λ h. cond {A = LockValue} h (Node frames) Nothing) lives

  value_here : value_in t (suc k) ≡ Node frames
  value_here = ap (node_value (is_some (cache_of s k)) (checked_of s k)) node_here ∙ listed_value frames

  value_other : (i : ℕ) → (i ≡ k → ⊥) → value_in t (suc i) ≡ value_in s (suc i)
  value_other i away = ap (node_value (is_some (cache_of s i)) (checked_of s i)) (node_other i away)

  node_there : w.value j ≡ Node (node_of s k)
  node_there = rests.values j (omega (arith, inside)) ∙ ap (value_in s) (at_suc k) ∙ listed_value (node_of s k)

  pool_there : update w.value j (Node frames) pool_lock ≡ Pool s.pool
  pool_there = update_other w.value j (Node frames) pool_lock (λ e. absurd (omega (arith, e))) ∙ rests.values 0 (omega arith)

  values_are : (i : ℕ) → i < 33 → v.value i ≡ value_in t i
  values_are zero below = update_same (update w.value j (Node frames)) pool_lock (Pool pool)
  values_are (suc i) below = update_other (update w.value j (Node frames)) pool_lock (Pool pool) (suc i) (λ e. absurd (omega (arith, e))) ∙ elim (cases_eq i k) [
    | inl same ↦ update_at w.value j (Node frames) (suc i) (omega (arith, same)) ∙ sym value_here ∙ ap (λ i. value_in t (suc i)) (sym same)
    | inr away ↦ update_other w.value j (Node frames) (suc i) (λ e. away (omega (arith, e))) ∙ rests.values (suc i) below ∙ sym (value_other i away)
  ]

  nodes_are : (i : ℕ) → node_of t i ≡ frames_in (value_in t (node_lock i))
  nodes_are i = elim (cases_eq i k) [
    | inl same ↦ ap (node_of t) same ∙ node_here ∙ sym (ap frames_in (ap (value_in t) (at_suc i) ∙ ap (λ i. value_in t (suc i)) same ∙ value_here))
    | inr away ↦ node_other i away ∙ rests.nodes i ∙ ap frames_in (ap (value_in s) (at_suc i) ∙ sym (value_other i away) ∙ sym (ap (value_in t) (at_suc i)))
  ]

  -- ---- slabs

  slabs_there : (g : ℕ) → slab_of t g ≡ slab_at bare g
  slabs_there g = elim (cases_eq g f) [
    | inl same ↦ subst (λ g. slab_of t g ≡ slab_at bare g) (sym same) (get_or-set_same s.slabs f None None slabs_below ∙ sym (ap (by_word bare f) (update_same w.slab f no_slab_word) ∙ no_word_no_slab bare f unvalued))
    | inr other ↦ get_or-set_other s.slabs f g None None other ∙ rests.slab g ∙ sym (slab_as_it_was w bare g refl refl (update_other w.slab f no_slab_word g other))
  ]

  slabs_are : (g : ℕ) → slab_of t g ≡ slab_at v g
  slabs_are g = slabs_there g ∙ sym (value_slabs unlisted pool_lock (Pool pool) (subst (λ u. HasSameSlabs u (Pool pool)) (sym pool_there) (record { size = λ f. refl; order = λ f. refl })) g
      ∙ value_slabs bare j (Node frames) (subst (λ u. HasSameSlabs u (Node frames)) (sym node_there) (record { size = λ f. refl; order = λ f. refl })) g)

  own_ends : (g : ℕ) → IsFreelistOf v g (own_free t g)
  own_ends g = elim (cases_eq g f) [
    | inl same ↦ subst (λ g. IsFreelistOf v g (own_free t g)) (sym same) (subst (IsFreelistOf v f) (sym (get_or-set_same s.frees f [] [] frees_below)) (record {
      chain = ap (λ (c : SlabWord). c.head) (update_same w.slab f no_slab_word);
      in_use = subst (λ (c : SlabWord). c.inuse + 0 ≡ c.objects) (sym (update_same w.slab f no_slab_word)) refl;
    }))
    | inr other ↦ subst (IsFreelistOf v g) (sym (get_or-set_other s.frees f g [] [] other)) (let r = rests.own g in record {
      chain = subst (λ (c : SlabWord). IsChain (pointer v c.cache g) c.head (own_free s g)) (sym (update_other w.slab f no_slab_word g other)) r.chain;
      in_use = subst (λ (c : SlabWord). c.inuse + length (own_free s g) ≡ c.objects) (sym (update_other w.slab f no_slab_word g other)) r.in_use;
    })
  ]

  -- the slab is on no node list, and every other as it was
  gone : (i : ℕ) → times f (node_of t i) ≡ 0
  gone i = elim (cases_eq i k) [
    | inl same ↦ ap (λ i. times f (node_of t i)) same ∙ ap (times f) node_here ∙ times-filter_fail f (λ other. not (eqb other f)) (node_of s k) (ap not (eq-eqb f f refl))
    | inr away ↦ ap (times f) (node_other i away) ∙ off_others i away
  ]

  marks_same : (g i : ℕ) → (g ≡ f → ⊥) → times g (node_of t i) ≡ times g (node_of s i)
  marks_same g i away = elim (cases_eq i k) [
    | inl same ↦ ap (λ i. times g (node_of t i)) same ∙ ap (times g) node_here ∙ times-filter_pass g (λ other. not (eqb other f)) (node_of s k) (ap not (ne_eqb g f away)) ∙ ap (λ i. times g (node_of s i)) (sym same)
    | inr apart ↦ ap (times g) (node_other i apart)
  ]

  pub rests_discarded : IsWorded v → Rests t b v ls
  rests_discarded worded = record {
    setup = rests.setup;
    words = worded;
    workers = rests.workers;
    locks = rests.locks;
    values = values_are;
    nodes = nodes_are;
    cpu = λ n below. let c = rests.cpu n below in record { tid = c.tid; current = c.current; free = c.free; count = c.count; partial = c.partial };
    slab = slabs_are;
    unchecked = each_updated w.slab f no_slab_word (λ g (c : SlabWord). 1 ≤ c.objects → checked_of s c.cache ≡ None) (λ some. absurd (omega (arith, some))) (λ g d. rests.unchecked g);
    unslabbed = each_updated w.slab f no_slab_word (λ g (c : SlabWord). c.objects ≡ 0 → c.frozen ≡ false) (λ none. refl) (λ g d. rests.unslabbed g);
    own = own_ends;
    listed = each_updated w.slab f no_slab_word (λ g (c : SlabWord). c.listed ≡ nat_lt 0 (times g (node_of t c.cache))) (sym (ap (nat_lt 0) (gone 0))) (λ g away. rests.listed g ∙ ap (nat_lt 0) (sym (marks_same g (w.slab g).cache away)));
    named = rests.named;
    once = rests.once;
    no_zero = rests.no_zero;
    contents = rests.contents;
  }
