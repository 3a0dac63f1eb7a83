-- Slabs stay or go: what the steps of shrinking leave of them.
use Rattle.std.proofs.Common.{◌≡◌, ℕ, ◌<◌, ◌++◌, Bool, true, false, cond, List, [], ◌∷◌, length, get_or, set, Option, Some, None, IsSome, option_map, inl, inr, refl, ap, sym, subst, arith, nat_lt}
use Rattle.std.specs.Option.{option_map_or}
use Rattle.slub_common.specs.Times.{times}
use Rattle.slub_red_zone.specs.State.{CheckedState, SlabState}
use Rattle.slub_red_zone.specs.Objects.{shape_of}
use Rattle.slub_lists.specs.declared.lists.Slab.{Slab}
use Rattle.slub_lists.specs.State.{State}
use Rattle.slub_lists.specs.Alloc.{checked_of, lists_of, marked, node_of, own_free, slab_of, with_node}
use Rattle.slub_lists.specs.Checked.{with_checked}
use Rattle.slub_lists.specs.Coherent.{Agrees, IsCoherent, IsConsistent}
use Rattle.slub_lists.specs.Free.{discarded, is_spare, moved, with_partial, without_slab}
use Rattle.slub_lists.specs.Leaving.{LeavesSlabs, StaysOrGoes}
use Rattle.slub_lists.specs.Shrink.{put_away, put_away_slab, put_on_node, put_where, taken_down}
use Rattle.slub_lists.specs.Shrinking.{listed_of}
use Rattle.slub_lists.specs.Steps.{MovesFront}
use Rattle.slub_lists.proofs.CheckedSlabs.{was-checked}
use Rattle.slub_lists.proofs.Flushing.{down-live}
use Rattle.slub_lists.proofs.Coherence.{current-live}
use Rattle.slub_lists.proofs.Moving.{pick, popped-listable}
use Rattle.slub_lists.proofs.Listed.{live-from, node-counted}
use Rattle.slub_lists.proofs.Shaped.{IsLiveOf}
use Rattle.slub_lists.proofs.SweepingChecked.{listed-has}
use Rattle.slub_common.proofs.Writes.{at_written}

-- ---- one slab

stays : (cache : ℕ) (x : Option Slab) → StaysOrGoes cache x x
stays cache None = refl
stays cache (Some slab) = inl refl

goes : (cache : ℕ) (x : Option Slab) → IsLiveOf cache x → StaysOrGoes cache x None
goes cache None own = absurd own
goes cache (Some slab) own = inr (own, inr refl)

unfrozen : (cache : ℕ) (x : Option Slab) → IsLiveOf cache x → StaysOrGoes cache x (option_map (marked false) x)
unfrozen cache None own = absurd own
unfrozen cache (Some slab) own = inr (own, inl refl)

-- what stays or goes twice stays or goes
twice : (cache : ℕ) (x y z : Option Slab) → StaysOrGoes cache x y → StaysOrGoes cache y z → StaysOrGoes cache x z
twice cache None y z first second = let none : StaysOrGoes cache None z = subst (λ (w : Option Slab). StaysOrGoes cache w z) first second in none
twice cache (Some slab) y z (inl e) second = subst (λ (w : Option Slab). StaysOrGoes cache w z) e second
twice cache (Some slab) y z (inr (own, inl e)) second = by (subst (λ (w : Option Slab). StaysOrGoes cache w z) e second)
  where
    by : StaysOrGoes cache (Some (marked false slab)) z → StaysOrGoes cache (Some slab) z
    by (inl same) = inr (own, inl same)
    by (inr (also, rest)) = inr (own, rest)
twice cache (Some slab) y z (inr (own, inr e)) second =
    let none : StaysOrGoes cache None z = subst (λ (w : Option Slab). StaysOrGoes cache w z) e second in inr (own, inr none)

-- ---- all slabs

-- nothing was done to them
pub leaves-same : (s after : State) (cache : ℕ) → after.slabs ≡ s.slabs → LeavesSlabs s cache after
leaves-same s after cache same f = subst (λ (xs : List (Option Slab)). StaysOrGoes cache (slab_of s f) (get_or xs f None)) (sym same) (stays cache (slab_of s f))

pub leaves-both : (a b c : State) (cache : ℕ) → LeavesSlabs a cache b → LeavesSlabs b cache c → LeavesSlabs a cache c
leaves-both a b c cache first second f = twice cache (slab_of a f) (slab_of b f) (slab_of c f) (first f) (second f)

-- one was written
leaves-set : (s : State) (cache frame : ℕ) (v : Option Slab) → StaysOrGoes cache (slab_of s frame) v → (f : ℕ) → StaysOrGoes cache (slab_of s f) (get_or (set s.slabs frame v) f None)
leaves-set s cache frame v written f =
    at_written (StaysOrGoes cache (slab_of s f)) s.slabs frame f v None
    (λ e. subst (λ (n : ℕ). StaysOrGoes cache (slab_of s n) v) (sym e) written) (stays cache (slab_of s f))

-- a slab of the cache goes
pub leaves-discarded : (s : State) (cache frame : ℕ) → IsLiveOf cache (slab_of s frame) → LeavesSlabs s cache (discarded s frame)
leaves-discarded s cache frame own f = leaves-set s cache frame None (goes cache (slab_of s frame) own) f

-- or is taken down
leaves-down : (s : State) (cache cpu frame : ℕ) → IsLiveOf cache (slab_of s frame) → LeavesSlabs s cache (taken_down s cache cpu frame)
leaves-down s cache cpu frame own f = leaves-set s cache frame (option_map (marked false) (slab_of s frame)) (unfrozen cache (slab_of s frame) own) f

-- ---- the steps

leaves-on-node : (s : State) (cache frame : ℕ) (own : List ℕ) → LeavesSlabs s cache (put_on_node s cache frame own)
leaves-on-node s cache frame [] = leaves-same s (put_on_node s cache frame []) cache refl
leaves-on-node s cache frame (index ∷ own) = leaves-same s (put_on_node s cache frame (index ∷ own)) cache refl

leaves-put_where : (s : State) (min_partial cache frame : ℕ) (own : List ℕ) → IsLiveOf cache (slab_of s frame) → LeavesSlabs s cache (put_where s min_partial cache frame own)
leaves-put_where s min_partial cache frame own live =
    let has : Bool = nat_lt 0 (length (own_free s frame)) in
    pick (is_spare s min_partial cache frame) (discarded s frame) (cond has (put_on_node s cache frame own) s) (λ t. LeavesSlabs s cache t) (leaves-discarded s cache frame live)
    (pick has (put_on_node s cache frame own) s (λ t. LeavesSlabs s cache t) (leaves-on-node s cache frame own) (leaves-same s s cache refl))

pub leaves-put_away : (s : State) (min_partial cache cpu : ℕ) → IsConsistent s → cache < 32 → cpu < s.cpus → LeavesSlabs s cache (put_away s min_partial cache cpu)
leaves-put_away s min_partial cache cpu consistent within cpu_within = by (lists_of s cache cpu).current refl
  where
    by : (x : Option ℕ) → (lists_of s cache cpu).current ≡ x → LeavesSlabs s cache (option_map_or (put_away_slab s min_partial cache cpu) x s)
    by None current = leaves-same s s cache refl
    by (Some frame) current =
        let down : State = taken_down s cache cpu frame in
        leaves-both s down (put_where down min_partial cache frame (own_free s frame)) cache
        (leaves-down s cache cpu frame (current-live s cache cpu consistent within cpu_within frame current))
        (leaves-put_where down min_partial cache frame (own_free s frame) (down-live s cache cpu consistent within cpu_within frame current))

-- the front of a partial list is moved
pub leaves-front : (s after : State) (min_partial cache cpu : ℕ) (found : Bool) → IsConsistent s → cache < 32 → cpu < s.cpus → MovesFront s min_partial cache cpu found after → LeavesSlabs s cache after
leaves-front s after min_partial cache cpu false consistent within cpu_within moves = leaves-same s after cache (ap (λ (t : State). t.slabs) moves.1)
leaves-front s after min_partial cache cpu true consistent within cpu_within (frame, rest, first, is) =
    let t : State = with_partial s cache cpu rest in
    let listable = popped-listable s cache cpu consistent within cpu_within frame rest first in
    let leaves : LeavesSlabs t cache (moved min_partial cache t frame) =
    pick (is_spare t min_partial cache frame) (discarded t frame) (with_node t cache (node_of t cache ++ frame ∷ [])) (λ u. LeavesSlabs t cache u) (leaves-discarded t cache frame listable.live)
    (leaves-same t (with_node t cache (node_of t cache ++ frame ∷ [])) cache refl) in
    subst (λ (u : State). LeavesSlabs s cache u) (sym is) (leaves-both s t (moved min_partial cache t frame) cache (leaves-same s t cache refl) leaves)

-- a slab of the node list goes
pub leaves-swept : (s : State) (cache frame : ℕ) → IsConsistent s → 0 < times frame (node_of s cache) → LeavesSlabs s cache (discarded (without_slab s cache frame) frame)
leaves-swept s cache frame consistent there =
    let t : State = without_slab s cache frame in
    let live = live-from cache (slab_of s frame) (consistent.listed.live frame (omega (arith, there, node-counted s frame cache))) (consistent.listed.of_node cache frame there) in
    leaves-both s t (discarded t frame) cache (leaves-same s t cache refl) (leaves-discarded t cache frame live)

-- a listed slab of a checked cache goes
pub leaves-swept-checked : (s : State) (cache frame : ℕ) (slabs left : CheckedState) → IsCoherent s → checked_of s cache ≡ Some slabs → 0 < times frame (listed_of s cache)
    → LeavesSlabs s cache (discarded (with_checked s cache left) frame)
leaves-swept-checked s cache frame slabs left coherent was there =
    let t : State = with_checked s cache left in
    let of = was-checked s cache slabs slabs was coherent.shaped.checked in
    leaves-both s t (discarded t frame) cache (leaves-same s t cache refl)
    (leaves-discarded t cache frame (live (slab_of s frame) (get_or slabs.slabs frame None) (listed-has s cache frame slabs coherent was there) (of.agrees frame)))
  where
    live : (x : Option Slab) (y : Option SlabState) → IsSome y → Agrees cache x (option_map shape_of y) → IsLiveOf cache x
    live (Some slab) (Some its) has agrees = agrees.0
    live (Some slab) None has agrees = cc
    live None None has agrees = cc
    live None (Some its) has agrees = absurd agrees
