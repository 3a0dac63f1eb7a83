-- What a free leaves as it was.
use Rattle.std.proofs.Common.{◌≡◌, ℕ, ◌++◌, ◌&&◌, Bool, true, false, List, [], ◌∷◌, length, get_or, Option, Some, None, Result, Ok, Err, MatchOption, refl, ap, ◌∙◌, nat_le, nat_lt}
use Rattle.std.specs.Prelude.{MatchBool}
use Rattle.slub_common.specs.Times.{times}
use Rattle.slub_object_layout.specs.declared.layout.Layout.{Layout}
use Rattle.slub_cache_create.specs.declared.caches.Cache.{Cache}
use Rattle.slub_lists.specs.declared.lists.Held.{Held}
use Rattle.slub_trace.specs.declared.reply.Reply.{Reply}
use Rattle.slub_trace.specs.declared.reply.Reply.TheVariants.{NotHeld}
use Rattle.slub_lists.specs.State.{State}
use Rattle.slub_lists.specs.Alloc.{cache_of, checked_of, lists_of, node_of, own_free, with_node}
use Rattle.slub_lists.specs.Coherent.{KeepsOthers}
use Rattle.slub_lists.specs.Free.{FreesUnchecked, discarded, drained, freed, freed_here, freed_there, is_current, is_freeable, is_frozen, is_spare, moved, moved_all, put_partial, settled, without_spare, with_freed, with_gone, with_partial, with_taken, without_slab}
use Rattle.slub_lists.specs.Freeing.{Frees, FreesHeld}
use Rattle.slub_lists.specs.Checked.{FreesChecked, IsFreedOrKept, kept_by, with_checked}
use Rattle.slub_lists.specs.Steps.{KeepsFound}
use Rattle.slub_red_zone.specs.State.{CheckedState}
use Rattle.slub_trace.specs.declared.damage.Damage.{Damage}
use Rattle.slub_lists.proofs.Found.{found-same}
use Rattle.slub_lists.proofs.Keeps.{IsSame, KeepsBoard, keeps-board, keeps-others, keeps-written}
use Rattle.slub_lists.proofs.Moving.{pick}

-- one change after the other
same_trans : (a b c : State) → IsSame a b → IsSame b c → IsSame a c
same_trans a b c ab bc = (bc.0 ∙ ab.0, bc.1 ∙ ab.1, bc.2 ∙ ab.2, bc.3 ∙ ab.3, bc.4 ∙ ab.4)

-- a slab is moved
same_moved : (min_partial cache frame : ℕ) (s : State) → IsSame s (moved min_partial cache s frame)
same_moved min_partial cache frame s =
    pick (is_spare s min_partial cache frame) (discarded s frame) (with_node s cache (node_of s cache ++ frame ∷ [])) (IsSame s) (refl, refl, refl, refl, refl) (refl, refl, refl, refl, refl)

-- and so is a set
same_moved_all : (min_partial cache : ℕ) (s : State) (frames : List ℕ) → IsSame s (moved_all s min_partial cache frames)
same_moved_all min_partial cache s [] = (refl, refl, refl, refl, refl)
same_moved_all min_partial cache s (frame ∷ frames) =
    same_trans s (moved min_partial cache s frame) (moved_all (moved min_partial cache s frame) min_partial cache frames) (same_moved min_partial cache frame s) (same_moved_all min_partial cache (moved min_partial cache s frame) frames)

-- a partial list that is full is moved
same_drained : (s : State) (layout : Layout) (cache cpu : ℕ) → IsSame s (drained s layout cache cpu)
same_drained s layout cache cpu =
    pick (nat_le layout.cpu_partial_slabs (length (lists_of s cache cpu).partial)) (moved_all (with_partial s cache cpu []) layout.min_partial cache (lists_of s cache cpu).partial) s (IsSame s)
    (same_moved_all layout.min_partial cache (with_partial s cache cpu []) (lists_of s cache cpu).partial) (refl, refl, refl, refl, refl)

-- a spare slab goes
same_without_spare : (s : State) (min_partial cache frame : ℕ) → IsSame s (without_spare s min_partial cache frame)
same_without_spare s min_partial cache frame =
    pick (is_spare s min_partial cache frame && nat_lt 0 (times frame (node_of s cache))) (discarded (without_slab s cache frame) frame) s (IsSame s) (refl, refl, refl, refl, refl) (refl, refl, refl, refl, refl)

-- whatever follows on the slab's own freelist
pub same_settled : (s : State) (layout : Layout) (cache cpu frame : ℕ) (own : List ℕ) → IsSame s (settled s layout cache cpu frame own)
same_settled s layout cache cpu frame [] = pick (is_frozen s frame) s (put_partial s layout cache cpu frame) (IsSame s) (refl, refl, refl, refl, refl) (same_drained s layout cache cpu)
same_settled s layout cache cpu frame (index ∷ free) = pick (is_frozen s frame) s (without_spare s layout.min_partial cache frame) (IsSame s) (refl, refl, refl, refl, refl) (same_without_spare s layout.min_partial cache frame)

-- so a freed object changes slabs, freelists, lists and pool alone
same_freed : (s : State) (layout : Layout) (cache cpu frame index : ℕ) → IsSame s (freed s layout cache cpu frame index)
same_freed s layout cache cpu frame index =
    pick (is_current frame (lists_of s cache cpu).current) (freed_here s cache cpu index) (freed_there s layout cache cpu frame index) (IsSame s) (refl, refl, refl, refl, refl)
    (same_settled (with_freed s frame index) layout cache cpu frame (own_free s frame))

-- the object of a cache that is not checked
unchecked_keeps : (s after : State) (layout : Layout) (cpu worker object : ℕ) (held : Held) (reply : Reply) → FreesUnchecked s layout cpu worker object held reply after → KeepsBoard s object after
unchecked_keeps s after layout cpu worker object held reply done =
    let t : State = freed (with_taken s object held.cache) layout held.cache cpu held.frame held.index in
    let same = same_freed (with_taken s object held.cache) layout held.cache cpu held.frame held.index in
    keeps-written s (with_gone t object worker held) after object None same.0 same.1 same.2 same.4 done.1

pub unchecked_found : (s after : State) (layout : Layout) (cpu worker object : ℕ) (held : Held) (reply : Reply) → FreesUnchecked s layout cpu worker object held reply after → KeepsFound s after
unchecked_found s after layout cpu worker object held reply done =
    found-same s after (ap (λ (m : State). m.checked) done.1 ∙ (same_freed (with_taken s object held.cache) layout held.cache cpu held.frame held.index).3)

-- the object of a checked cache
taken_keeps : (s after : State) (layout : Layout) (rest : CheckedState) (worker object : ℕ) (held : Held) (answer : Result (Unit {0}) Damage) (reply : Reply)
    → IsFreedOrKept s layout rest worker object held answer reply after → KeepsBoard s object after
taken_keeps s after layout rest worker object held (Err damage) reply done =
    keeps-written s (kept_by s object worker held) after object (Some (record held { worker = Some worker })) refl refl refl refl done.1
taken_keeps s after layout rest worker object held (Ok x) reply (said, None, last, empty, is) =
    let t : State = with_checked (with_taken s object held.cache) held.cache last in
    keeps-written s (with_gone t object worker held) after object None refl refl refl refl is
taken_keeps s after layout rest worker object held (Ok x) reply (said, Some run, last, empty, is) =
    let t : State = with_checked (with_taken s object held.cache) held.cache last in
    keeps-written s (with_gone (discarded t held.frame) object worker held) after object None refl refl refl refl is

checked_keeps : (s after : State) (layout : Layout) (slabs : CheckedState) (worker object : ℕ) (held : Held) (reply : Reply) → FreesChecked s layout slabs worker object held reply after → KeepsBoard s object after
checked_keeps s after layout slabs worker object held reply done = taken_keeps s after layout done.1 worker object held done.0 reply done.3

-- the cases of what a free answers, from the innermost on
from_keeps : (s after : State) (x : Option CheckedState) (layout : Layout) (cpu worker object : ℕ) (held : Held) (reply : Reply)
    → MatchOption x (FreesUnchecked s layout cpu worker object held reply after) (λ slabs. FreesChecked s layout slabs worker object held reply after) → KeepsBoard s object after
from_keeps s after None layout cpu worker object held reply done = unchecked_keeps s after layout cpu worker object held reply done
from_keeps s after (Some slabs) layout cpu worker object held reply done = checked_keeps s after layout slabs worker object held reply done

held_keeps : (s after : State) (x : Option Cache) (cpu worker object : ℕ) (held : Held) (reply : Reply)
    → MatchOption x ⊥ (λ live. MatchOption (checked_of s held.cache) (FreesUnchecked s live.layout cpu worker object held reply after) (λ slabs. FreesChecked s live.layout slabs worker object held reply after)) → KeepsBoard s object after
held_keeps s after None cpu worker object held reply done = absurd done
held_keeps s after (Some live) cpu worker object held reply done = from_keeps s after (checked_of s held.cache) live.layout cpu worker object held reply done

-- a number that isn't held changes nothing
unheld_keeps : (s after : State) (object : ℕ) (reply : Reply) → (reply ≡ NotHeld) × (after ≡ s) → KeepsBoard s object after
unheld_keeps s after object reply none = keeps-board s s after object refl refl refl refl none.1

able_keeps : (s after : State) (b : Bool) (cpu worker object : ℕ) (held : Held) (reply : Reply) → MatchBool b (FreesHeld s cpu worker object held reply after) ((reply ≡ NotHeld) × (after ≡ s)) → KeepsBoard s object after
able_keeps s after true cpu worker object held reply done = held_keeps s after (cache_of s held.cache) cpu worker object held reply done
able_keeps s after false cpu worker object held reply done = unheld_keeps s after object reply done

number_keeps : (s after : State) (x : Option Held) (cpu worker object : ℕ) (reply : Reply)
    → MatchOption x ((reply ≡ NotHeld) × (after ≡ s)) (λ held. MatchBool (is_freeable worker held.worker) (FreesHeld s cpu worker object held reply after) ((reply ≡ NotHeld) × (after ≡ s))) → KeepsBoard s object after
number_keeps s after None cpu worker object reply done = unheld_keeps s after object reply done
number_keeps s after (Some held) cpu worker object reply done = able_keeps s after (is_freeable worker held.worker) cpu worker object held reply done

-- what a free leaves
pub frees_keeps : (s after : State) (cpu worker object : ℕ) (reply : Reply) → Frees s cpu worker object reply after → KeepsFound s after → KeepsOthers s object after
frees_keeps s after cpu worker object reply done found = keeps-others s object after (number_keeps s after (get_or s.board object None) cpu worker object reply done) found
