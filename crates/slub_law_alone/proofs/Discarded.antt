-- A slab that is discarded: its word is that of no slab, its frames are the pool's again, and all else rests as it did.
use Rattle.std.proofs.Common.{◌≡◌, ℕ, zero, suc, ◌+◌, ◌<◌, ◌≤◌, cond, false, List, [], length, get_or, set, Option, Some, None, inl, inr, refl, ap, sym, ◌∙◌, subst, arith}
use Rattle.std.specs.Prelude.{nat_lt}
use Rattle.std.specs.Option.{option_map_or}
use Rattle.std.proofs.lemmas.Bool.{cases_eq, cond-true, cond-false, lt-ltb}
use Rattle.std.proofs.lemmas.List.{get_or-set_same, get_or-set_other}
use Rattle.slub_common.specs.Times.{times}
use Rattle.slub_page_pool.specs.FreeFrames.{FreeFrames}
use Rattle.slub_page_pool.specs.Block.{with_run}
use Rattle.slub_words.specs.declared.slab.SlabWord.{SlabWord}
use Rattle.slub_lists.specs.declared.lists.Slab.{Slab}
use Rattle.slub_lists.specs.State.{State}
use Rattle.slub_lists.specs.Alloc.{checked_of, node_of, own_free}
use Rattle.slub_lists.specs.Free.{discarded, order_of}
use Rattle.slub_core.specs.Local.{Local}
use Rattle.slub_core.specs.Setup.{Setup, node_lock, pool_lock}
use Rattle.slub_object_layout.specs.Layout.{order_for}
use Rattle.slub_core.specs.Words.{no_slab_word}
use Rattle.slub_core.specs.World.{World, LockValue, Pool, update, pointer, IsChain, frames_in, size_in, order_in, objects_in_values, objects_at, cache_at, order_at}
use Rattle.slub_core.proofs.Packed.{IsSlabFit}
use Rattle.slub_core.proofs.Update.{update_same, update_other, update_at, each_updated}
use Rattle.slub_core.proofs.StepValues.{word-objects, word-order}
use Rattle.slub_law_opening.specs.Opening.{Beside, value_of}
use Rattle.slub_law_opening.specs.Rests.{Rests, IsFreelistOf, slab_at}
use Rattle.slub_law_alone.proofs.MovedLists.{IsKept, slab_same}

-- what locks guard has no slab at the frame
objects_none : (value : ℕ → LockValue) (f : ℕ) → (n : ℕ) → ((k : ℕ) → k < n → size_in (value k) f ≡ 0) → objects_in_values value n f ≡ 0
objects_none value f zero none = refl
objects_none value f (suc n) none =
    cond-false {A = ℕ} (nat_lt 0 (size_in (value n) f)) (size_in (value n) f) (objects_in_values value n f) (ap (nat_lt 0) (none n (omega arith)))
    ∙ objects_none value f n (λ k below. none k (omega arith))

-- a slab with a word is of the order of a slab of so many objects
pub order_is : (s : State) (b : Beside) (w : World) (ls : List Local) → Rests s b w ls → (f : ℕ) → 1 ≤ (w.slab f).objects → order_of s f ≡ order_for (w.setup.layout (w.slab f).cache) (w.slab f).objects
order_is s b w ls rests f some =
    ap (λ o. option_map_or (λ (y : Slab). y.order) o 0) (rests.slab f ∙ cond-true {A = Option Slab} (nat_lt 0 (objects_at w f)) (Some it) None (lt-ltb 0 (objects_at w f) (let n = word-objects w f some in omega arith)))
    ∙ word-order w f some
  where
    it : Slab
    it = record { cache = cache_at w f; order = order_at w f; objects = objects_at w f; frozen = (w.slab f).frozen }

module _ (s : State) (b : Beside) (w : World) (ls : List Local) (f : ℕ) where
  abbrev pub pool : FreeFrames
  pool = record s.pool { free = with_run s.pool.free f (order_of s f) }

  abbrev pub t : State
  t = discarded s f

  abbrev pub v : World
  v = record w { slab = update w.slab f no_slab_word; value = update w.value pool_lock (Pool pool) }

  -- what is guarded, but for the pool, is the same
  value_after : (n : ℕ) → (n ≡ 0 → ⊥) → value_of s n ≡ value_of t n
  value_after zero away = absurd (away refl)
  value_after (suc k) away = refl

  module _ (rests : Rests s b w ls) (slabs : f < length s.slabs) (frees : f < length s.frees) (off_values : (n : ℕ) → size_in (value_of s n) f ≡ 0) (off_node : (k : ℕ) → times f (node_of s k) ≡ 0) where
    values_are : (n : ℕ) → n < 33 → v.value n ≡ value_of t n
    values_are n below = elim (cases_eq n 0) [
      | inl q ↦ update_at w.value 0 (Pool pool) n q ∙ ap (value_of t) (sym q)
      | inr away ↦ update_other w.value 0 (Pool pool) n away ∙ rests.values n below ∙ value_after n away
    ]

    nodes_are : (cache : ℕ) → node_of t cache ≡ frames_in (value_of t (node_lock cache))
    nodes_are cache = rests.nodes cache ∙ ap frames_in (value_after (node_lock cache) (λ q. absurd (omega (arith, q))))

    size_is : (g n : ℕ) → size_in (v.value n) g ≡ size_in (w.value n) g
    size_is g n = elim (cases_eq n 0) [
      | inl q ↦ ap (λ x. size_in x g) (update_at w.value 0 (Pool pool) n q) ∙ sym (ap (λ x. size_in x g) (ap w.value q ∙ rests.values 0 (omega arith)))
      | inr away ↦ ap (λ x. size_in x g) (update_other w.value 0 (Pool pool) n away)
    ]

    order_is_same : (g n : ℕ) → order_in (v.value n) g ≡ order_in (w.value n) g
    order_is_same g n = elim (cases_eq n 0) [
      | inl q ↦ ap (λ x. order_in x g) (update_at w.value 0 (Pool pool) n q) ∙ sym (ap (λ x. order_in x g) (ap w.value q ∙ rests.values 0 (omega arith)))
      | inr away ↦ ap (λ x. order_in x g) (update_other w.value 0 (Pool pool) n away)
    ]

    -- no slab is at the frame any more
    none_here : objects_at v f ≡ 0
    none_here =
        ap (λ (c : SlabWord). cond {A = ℕ} (nat_lt 0 c.objects) c.objects (objects_in_values v.value w.setup.locks f)) (update_same w.slab f no_slab_word)
        ∙ objects_none v.value f w.setup.locks (λ n below. size_is f n ∙ ap (λ x. size_in x f) (rests.values n (let locks = ap (λ (m : Setup). m.locks) rests.setup in omega (arith, locks, below))) ∙ off_values n)

    slab_is : (g : ℕ) → get_or (set s.slabs f None) g None ≡ slab_at v g
    slab_is g = elim (cases_eq g f) [
      | inl q ↦ subst (λ g. get_or (set s.slabs f None) g None ≡ slab_at v g) (sym q)
          (get_or-set_same s.slabs f None None slabs ∙ sym (cond-false {A = Option Slab} (nat_lt 0 (objects_at v f)) _ None (ap (nat_lt 0) none_here)))
      | inr away ↦ get_or-set_other s.slabs f g None None away ∙ rests.slab g
          ∙ sym (slab_same w v g refl (subst (IsKept (w.slab g)) (sym (update_other w.slab f no_slab_word g away)) (record { head = refl; inuse = refl; objects = refl; cache = refl; frozen = refl })) (size_is g) (order_is_same g))
    ]

    own_is : (g : ℕ) → IsFreelistOf v g (get_or (set s.frees f []) g [])
    own_is g = elim (cases_eq g f) [
      | inl q ↦ subst (λ g. IsFreelistOf v g (get_or (set s.frees f []) g [])) (sym q) (subst (IsFreelistOf v f) (sym (get_or-set_same s.frees f [] [] frees)) at_it)
      | inr away ↦ subst (IsFreelistOf v g) (sym (get_or-set_other s.frees f g [] [] away)) (record {
        chain = subst (λ (c : SlabWord). IsChain (pointer w c.cache g) c.head (own_free s g)) (sym (update_other w.slab f no_slab_word g away)) (rests.own g).chain;
        in_use = subst (λ (c : SlabWord). c.inuse + length (own_free s g) ≡ c.objects) (sym (update_other w.slab f no_slab_word g away)) (rests.own g).in_use;
      })
    ]
      where
        at_it : IsFreelistOf v f []
        at_it = record {
          chain = ap (λ (c : SlabWord). c.head) (update_same w.slab f no_slab_word);
          in_use = subst (λ (c : SlabWord). c.inuse + 0 ≡ c.objects) (sym (update_same w.slab f no_slab_word)) refl;
        }

    pub rests_discarded : Rests t b v ls
    rests_discarded = record {
      setup = rests.setup;
      words = record {
        cpu = rests.words.cpu;
        slab = each_updated w.slab f no_slab_word (λ _ (d : SlabWord). IsSlabFit d) (omega arith, omega arith, omega arith, omega arith) (λ i d. rests.words.slab i);
        list = rests.words.list;
        link = rests.words.link;
        room = rests.words.room;
        remainder = rests.words.remainder;
      };
      workers = rests.workers;
      locks = rests.locks;
      values = values_are;
      nodes = nodes_are;
      cpu = λ n below. let c = rests.cpu n below in record { tid = c.tid; current = c.current; free = c.free; count = c.count; partial = c.partial };
      slab = slab_is;
      unchecked = each_updated w.slab f no_slab_word (λ _ (c : SlabWord). 1 ≤ c.objects → checked_of s c.cache ≡ None) (λ some. absurd (omega (arith, some))) (λ g d. rests.unchecked g);
      unslabbed = each_updated w.slab f no_slab_word (λ _ (c : SlabWord). c.objects ≡ 0 → c.frozen ≡ false) (λ none. refl) (λ g d. rests.unslabbed g);
      own = own_is;
      listed = each_updated w.slab f no_slab_word (λ g (c : SlabWord). c.listed ≡ nat_lt 0 (times g (node_of s c.cache))) (sym (ap (nat_lt 0) (off_node 0))) (λ g d. rests.listed g);
      named = rests.named;
      once = rests.once;
      no_zero = rests.no_zero;
      contents = rests.contents;
    }
