-- A slab that comes to a node list, at whatever place, or goes from it: its word is marked so, and all else rests as it did.
use Rattle.std.proofs.Common.{◌≡◌, ℕ, ◌<◌, ◌≤◌, Bool, true, List, [], length, get_or, None, inl, inr, refl, ap, sym, ◌∙◌, subst, arith}
use Rattle.std.specs.Prelude.{nat_lt, is_some}
use Rattle.std.proofs.lemmas.Bool.{cases_eq}
use Rattle.std.proofs.lemmas.List.{get_or-set_same}
use Rattle.slub_common.specs.Times.{times}
use Rattle.slub_words.specs.declared.slab.SlabWord.{SlabWord}
use Rattle.slub_lists.specs.State.{State}
use Rattle.slub_lists.specs.Alloc.{cache_of, checked_of, node_of, with_node}
use Rattle.slub_core.specs.Local.{Local}
use Rattle.slub_core.specs.Setup.{node_lock}
use Rattle.slub_core.specs.World.{World, Node, update, set_value, pointer, IsChain}
use Rattle.slub_core.proofs.Packed.{IsSlabFit}
use Rattle.slub_core.proofs.Update.{update_same, update_other, each_updated}
use Rattle.slub_law_opening.specs.Opening.{Beside}
use Rattle.slub_law_opening.specs.Rests.{Rests}
use Rattle.slub_law_alone.proofs.MovedLists.{IsKept, slab_same}
use Rattle.slub_law_alone.proofs.NodeLists.{node_guarded, node_other, node_slabs, nodes_set, values_set}

module _ (s : State) (b : Beside) (w : World) (ls : List Local) (k e : ℕ) (fs : List ℕ) (mark : Bool) where
  abbrev pub t : State
  t = with_node s k fs

  abbrev pub marked : SlabWord
  marked = record (w.slab e) { listed = mark }

  abbrev bare : World
  bare = record w { slab = update w.slab e marked }

  abbrev pub v : World
  v = set_value bare (node_lock k) (Node fs)

  kept : (f : ℕ) → IsKept (w.slab f) (update w.slab e marked f)
  kept = each_updated w.slab e marked (λ f (d : SlabWord). IsKept (w.slab f) d) (record { head = refl; inuse = refl; objects = refl; cache = refl; frozen = refl }) (λ f away. record { head = refl; inuse = refl; objects = refl; cache = refl; frozen = refl })

  module _ (rests : Rests s b w ls) (inside : k < length s.nodes) (lock_inside : k < 32) (lives : is_some (cache_of s k) ≡ true) (plain : checked_of s k ≡ None) (own_cache : (w.slab e).cache ≡ k)
      (on : nat_lt 0 (times e fs) ≡ mark) (others : (g : ℕ) → (g ≡ e → ⊥) → times g fs ≡ times g (node_of s k)) where
    node_t : node_of t k ≡ fs
    node_t = get_or-set_same s.nodes k fs [] inside

    node_was : w.value (node_lock k) ≡ Node (node_of s k)
    node_was = rests.values (node_lock k) (omega (arith, lock_inside)) ∙ node_guarded s k lives plain

    abbrev is_on : ℕ → ℕ → Bool
    is_on f j = nat_lt 0 (times f (node_of t j))

    listed_is : (f : ℕ) → (update w.slab e marked f).listed ≡ is_on f (update w.slab e marked f).cache
    listed_is f = elim (cases_eq f e) [
      | inl q ↦ subst (λ f. (update w.slab e marked f).listed ≡ is_on f (update w.slab e marked f).cache) (sym q)
          (ap (λ (z : SlabWord). z.listed) (update_same w.slab e marked) ∙ sym (ap (is_on e) ((kept e).cache ∙ own_cache) ∙ ap (λ xs. nat_lt 0 (times e xs)) node_t ∙ on))
      | inr away ↦ ap (λ (z : SlabWord). z.listed) (update_other w.slab e marked f away) ∙ rests.listed f ∙ nodes_f away ∙ ap (is_on f) (sym (kept f).cache)
    ]
      where
        nodes_f : (f ≡ e → ⊥) → nat_lt 0 (times f (node_of s (w.slab f).cache)) ≡ is_on f (w.slab f).cache
        nodes_f away = elim (cases_eq (w.slab f).cache k) [
          | inl q ↦ ap (λ j. nat_lt 0 (times f (node_of s j))) q ∙ ap (nat_lt 0) (sym (others f away)) ∙ sym (ap (λ xs. nat_lt 0 (times f xs)) node_t) ∙ ap (is_on f) (sym q)
          | inr elsewhere ↦ ap (λ xs. nat_lt 0 (times f xs)) (sym (node_other s k fs inside lives plain (w.slab f).cache elsewhere))
        ]

    pub rests_placed : Rests t b v ls
    rests_placed = record {
      setup = rests.setup;
      words = record {
        cpu = rests.words.cpu;
        slab = each_updated w.slab e marked (λ _ (d : SlabWord). IsSlabFit d) (rests.words.slab e) (λ i d. rests.words.slab i);
        list = rests.words.list;
        link = rests.words.link;
        room = rests.words.room;
        remainder = rests.words.remainder;
      };
      workers = rests.workers;
      locks = rests.locks;
      values = values_set s k fs inside lives plain w.value rests.values;
      nodes = nodes_set s k fs inside lives plain rests.nodes;
      cpu = λ n below. let c = rests.cpu n below in record { tid = c.tid; current = c.current; free = c.free; count = c.count; partial = c.partial };
      slab = λ f. rests.slab f ∙ sym (node_slabs bare (node_lock k) (node_of s k) fs node_was f ∙ slab_same w bare f refl (kept f) (λ n. refl) (λ n. refl));
      unchecked = λ f some. ap (checked_of s) (kept f).cache ∙ rests.unchecked f (subst (λ n. 1 ≤ n) (kept f).objects some);
      unslabbed = λ f none. (kept f).frozen ∙ rests.unslabbed f (sym (kept f).objects ∙ none);
      own = λ f. record {
        chain = subst (λ j. IsChain (pointer w j f) (update w.slab e marked f).head (get_or s.frees f [])) (sym (kept f).cache) (subst (λ h. IsChain (pointer w (w.slab f).cache f) h (get_or s.frees f [])) (sym (kept f).head) (rests.own f).chain);
        in_use = (let u = (rests.own f).in_use in omega (arith, u, (kept f).inuse, (kept f).objects));
      };
      listed = listed_is;
      named = rests.named;
      once = rests.once;
      no_zero = rests.no_zero;
      contents = rests.contents;
    }
