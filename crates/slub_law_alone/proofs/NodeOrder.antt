-- A node list in another order: all else rests as it did.
use Rattle.std.proofs.Common.{◌≡◌, ℕ, ◌<◌, List, [], length, None, true, inl, inr, ap, sym, ◌∙◌, arith}
use Rattle.std.specs.Prelude.{is_some, nat_lt}
use Rattle.std.proofs.lemmas.Bool.{cases_eq}
use Rattle.std.proofs.lemmas.List.{get_or-set_same}
use Rattle.slub_common.specs.Times.{times}
use Rattle.slub_lists.specs.State.{State}
use Rattle.slub_lists.specs.Alloc.{cache_of, checked_of, node_of, with_node}
use Rattle.slub_core.specs.Local.{Local}
use Rattle.slub_core.specs.Setup.{node_lock}
use Rattle.slub_core.specs.World.{World, Node, set_value}
use Rattle.slub_law_opening.specs.Opening.{Beside}
use Rattle.slub_law_opening.specs.Rests.{Rests}
use Rattle.slub_law_alone.proofs.NodeLists.{node_guarded, node_other, node_slabs, nodes_set, values_set}

pub rests_ordered : (s : State) (b : Beside) (w : World) (ls : List Local) (k : ℕ) (fs : List ℕ) → Rests s b w ls → k < length s.nodes → k < 32 → is_some (cache_of s k) ≡ true → checked_of s k ≡ None → ((g : ℕ) → times g fs ≡ times g (node_of s k)) → Rests (with_node s k fs) b (set_value w (node_lock k) (Node fs)) ls
rests_ordered s b w ls k fs rests inside lock_inside lives plain same = record {
  setup = rests.setup;
  words = record { cpu = rests.words.cpu; slab = rests.words.slab; list = rests.words.list; link = rests.words.link; room = rests.words.room; remainder = rests.words.remainder };
  workers = rests.workers;
  locks = rests.locks;
  values = values_set s k fs inside lives plain w.value rests.values;
  nodes = nodes_set s k fs inside lives plain rests.nodes;
  cpu = λ n below. let c = rests.cpu n below in record { tid = c.tid; current = c.current; free = c.free; count = c.count; partial = c.partial };
  slab = λ f. rests.slab f ∙ sym (node_slabs w (node_lock k) (node_of s k) fs (rests.values (node_lock k) (omega (arith, lock_inside)) ∙ node_guarded s k lives plain) f);
  unchecked = rests.unchecked;
  unslabbed = rests.unslabbed;
  own = λ f. record { chain = (rests.own f).chain; in_use = (rests.own f).in_use };
  listed = λ f. rests.listed f ∙ ap (nat_lt 0) (sym (each f (w.slab f).cache));
  named = rests.named;
  once = rests.once;
  no_zero = rests.no_zero;
  contents = rests.contents;
}
  where
    each : (f c : ℕ) → times f (node_of (with_node s k fs) c) ≡ times f (node_of s c)
    each f c = elim (cases_eq c k) [
      | inl e ↦ ap (λ c. times f (node_of (with_node s k fs) c)) e ∙ ap (times f) (get_or-set_same s.nodes k fs [] inside) ∙ same f ∙ ap (λ c. times f (node_of s c)) (sym e)
      | inr away ↦ ap (times f) (node_other s k fs inside lives plain c away)
    ]
