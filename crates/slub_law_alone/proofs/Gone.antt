-- What operations on lists note as freed.
use Rattle.std.proofs.Common.{◌≡◌, ℕ, ◌++◌, ◌&&◌, inl, inr, Bool, true, false, List, [], ◌∷◌, length, set, Option, Some, None, Result, Ok, Err, MatchBool, MatchOption, MatchResult, refl, ap, sym, ◌∙◌, nat_le, nat_lt}
use Rattle.slub_common.specs.Times.{times}
use Rattle.slub_object_layout.specs.declared.layout.Layout.{Layout}
use Rattle.slub_trace.specs.declared.reply.Reply.{Reply}
use Rattle.slub_trace.specs.declared.reply.Reply.TheVariants.{Checked, NoSuchCache, NotHeld}
use Rattle.slub_cache_create.specs.declared.caches.Cache.{Cache}
use Rattle.slub_red_zone.specs.State.{CheckedState}
use Rattle.slub_red_zone.specs.declared.checked.CheckedGive.{CheckedGive}
use Rattle.slub_red_zone.specs.declared.checked.CheckedGive.TheVariants as give
use Rattle.slub_trace.specs.declared.damage.Damage.{Damage}
use Rattle.slub_lists.specs.declared.lists.Held.{Held}
use Rattle.slub_lists.specs.State.{State}
use Rattle.slub_lists.specs.Alloc.{Allocates, AllocatesNew, Gives, batch_of, cache_of, checked_of, from_current, from_free, from_node, from_partial, from_slabs, lists_of, named, node_of, own_free, retired, with_node}
use Rattle.slub_lists.specs.Checked.{AllocatesChecked, AllocatesNewChecked, FreesChecked, GivesOrMakes, IsFreedOrKept, with_checked}
use Rattle.slub_lists.specs.Coherent.{held_under}
use Rattle.slub_lists.specs.Flush.{Flushes}
use Rattle.slub_lists.specs.Free.{FreesUnchecked, discarded, drained, freed, freed_here, freed_there, is_current, is_freeable, is_frozen, is_spare, moved, moved_all, put_partial, settled, with_freed, with_partial, with_taken, without_slab, without_spare}
use Rattle.slub_lists.specs.Freeing.{Frees, FreesHeld}
use Rattle.slub_lists.specs.Named.{AllocatesFrom, AllocatesNamed}
use Rattle.slub_lists.specs.Trim.{Trims, TrimsCache}
use Rattle.slub_lists.proofs.KeepsFreed.{same_settled}
use Rattle.slub_lists.proofs.Moving.{pick}
use Rattle.slub_law_alone.proofs.Emptying.{rest-fold}

-- nothing is noted
abbrev pub IsNoted : State → State → Type 0
IsNoted s t = t.gone ≡ s.gone

-- ---- allocations

node-noted : (s : State) (cache cpu batch : ℕ) (frames : List ℕ) → MatchResult (from_node s cache cpu batch frames) (IsNoted s) (IsNoted s)
node-noted s cache cpu batch [] = refl
node-noted s cache cpu batch (frame ∷ frames) = refl

partial-noted : (s : State) (cache cpu batch : ℕ) (frames : List ℕ) → MatchResult (from_partial s cache cpu batch frames) (IsNoted s) (IsNoted s)
partial-noted s cache cpu batch [] = node-noted s cache cpu batch (node_of s cache)
partial-noted s cache cpu batch (frame ∷ frames) = refl

current-noted : (s : State) (cache cpu batch frame : ℕ) (free : List ℕ) → MatchResult (from_current s cache cpu batch frame free) (IsNoted s) (IsNoted s)
current-noted s cache cpu batch frame [] = partial-noted (retired s cache cpu frame) cache cpu batch (lists_of (retired s cache cpu frame) cache cpu).partial
current-noted s cache cpu batch frame (index ∷ free) = refl

slabs-noted : (s : State) (cache cpu batch : ℕ) (current : Option ℕ) → MatchResult (from_slabs s cache cpu batch current) (IsNoted s) (IsNoted s)
slabs-noted s cache cpu batch None = partial-noted s cache cpu batch (lists_of s cache cpu).partial
slabs-noted s cache cpu batch (Some frame) = current-noted s cache cpu batch frame (own_free s frame)

stock-noted : (s : State) (cache cpu batch : ℕ) (free : List ℕ) → MatchResult (from_free s cache cpu batch free) (IsNoted s) (IsNoted s)
stock-noted s cache cpu batch [] = slabs-noted s cache cpu batch (lists_of s cache cpu).current
stock-noted s cache cpu batch (index ∷ free) = refl

module _ (s : State) (layout : Layout) (cache cpu worker object : ℕ) (reply : Reply) (after : State) where
  new-noted : (t : State) → IsNoted s t → AllocatesNew t layout cache cpu worker object reply after → IsNoted s after
  new-noted t same (None, left, found, none) = ap (λ (t : State). t.gone) none.1 ∙ same
  new-noted t same (Some run, left, found, gives) = ap (λ (t : State). t.gone) gives.given ∙ same

  result-noted : (r : Result State State) → MatchResult r (IsNoted s) (IsNoted s) → MatchResult r (λ t. Gives t layout cache cpu worker object reply after) (λ t. AllocatesNew t layout cache cpu worker object reply after) → IsNoted s after
  result-noted (Ok t) same gives = ap (λ (t : State). t.gone) gives.given ∙ same
  result-noted (Err t) same new = new-noted t same new

  unchecked-noted : Allocates s layout cache cpu worker object reply after → IsNoted s after
  unchecked-noted done = result-noted (from_free s cache cpu (batch_of layout) (lists_of s cache cpu).free) (stock-noted s cache cpu (batch_of layout) (lists_of s cache cpu).free) done

  new-checked-noted : (t : State) (slabs : CheckedState) → IsNoted s t → AllocatesNewChecked t layout cache slabs worker object reply after → IsNoted s after
  new-checked-noted t slabs same (None, left, found, none) = ap (λ (t : State). t.gone) none.1 ∙ same
  new-checked-noted t slabs same (Some run, left, found, inl none) = ap (λ (t : State). t.gone) none.1 ∙ same
  new-checked-noted t slabs same (Some run, left, found, inr gives) = ap (λ (t : State). t.gone) gives.given ∙ same

  makes-noted : (t : State) (slabs : CheckedState) (answer : CheckedGive) → IsNoted s t → GivesOrMakes t layout cache slabs worker object answer reply after → IsNoted s after
  makes-noted t slabs (give.Given slot) same done = ap (λ (t : State). t.gone) done.given ∙ same
  makes-noted t slabs give.Empty same done = new-checked-noted t slabs same done

  checked-noted : (slabs : CheckedState) → AllocatesChecked s layout cache slabs worker object reply after → IsNoted s after
  checked-noted slabs done = makes-noted (with_checked s cache done.1) done.1 done.0 refl done.3

module _ (s : State) (place cpu worker object : ℕ) (reply : Reply) (after : State) where
  either-noted : (layout : Layout) (cache : ℕ) (x : Option CheckedState) → MatchOption x (Allocates s layout cache cpu worker object reply after) (λ slabs. AllocatesChecked s layout cache slabs worker object reply after) → IsNoted s after
  either-noted layout cache None done = unchecked-noted s layout cache cpu worker object reply after done
  either-noted layout cache (Some slabs) done = checked-noted s layout cache cpu worker object reply after slabs done

  live-noted : (cache : ℕ) (x : Option Cache) → MatchOption x ⊥ (λ live. AllocatesFrom s live.layout cache cpu worker object reply after) → IsNoted s after
  live-noted cache None none = absurd none
  live-noted cache (Some live) done = either-noted live.layout cache (checked_of s cache) done

  name-noted : (x : Option ℕ) → MatchOption x ((reply ≡ NoSuchCache) × (after ≡ s)) (λ cache. MatchOption (cache_of s cache) ⊥ (λ live. AllocatesFrom s live.layout cache cpu worker object reply after)) → IsNoted s after
  name-noted None none = ap (λ (t : State). t.gone) none.1
  name-noted (Some cache) done = live-noted cache (cache_of s cache) done

  pub alloc-noted : AllocatesNamed s place cpu worker object reply after → IsNoted s after
  alloc-noted done = name-noted (named s place) done

-- ---- frees

both-noted : (a b c : State) → IsNoted a b → IsNoted b c → IsNoted a c
both-noted a b c first second = second ∙ first

moved-noted : (min_partial cache : ℕ) (s : State) (frame : ℕ) → IsNoted s (moved min_partial cache s frame)
moved-noted min_partial cache s frame = pick (is_spare s min_partial cache frame) (discarded s frame) (with_node s cache (node_of s cache ++ frame ∷ [])) (IsNoted s) refl refl

all-noted : (min_partial cache : ℕ) (s : State) (frames : List ℕ) → IsNoted s (moved_all s min_partial cache frames)
all-noted min_partial cache s [] = refl
all-noted min_partial cache s (frame ∷ frames) = both-noted s (moved min_partial cache s frame) (moved_all (moved min_partial cache s frame) min_partial cache frames) (moved-noted min_partial cache s frame) (all-noted min_partial cache (moved min_partial cache s frame) frames)

drained-noted : (s : State) (layout : Layout) (cache cpu : ℕ) → IsNoted s (drained s layout cache cpu)
drained-noted s layout cache cpu =
    pick (nat_le layout.cpu_partial_slabs (length (lists_of s cache cpu).partial)) (moved_all (with_partial s cache cpu []) layout.min_partial cache (lists_of s cache cpu).partial) s (IsNoted s)
    (all-noted layout.min_partial cache (with_partial s cache cpu []) (lists_of s cache cpu).partial) refl

spare-noted : (s : State) (min_partial cache frame : ℕ) → IsNoted s (without_spare s min_partial cache frame)
spare-noted s min_partial cache frame = pick (is_spare s min_partial cache frame && nat_lt 0 (times frame (node_of s cache))) (discarded (without_slab s cache frame) frame) s (IsNoted s) refl refl

settled-noted : (s : State) (layout : Layout) (cache cpu frame : ℕ) (own : List ℕ) → IsNoted s (settled s layout cache cpu frame own)
settled-noted s layout cache cpu frame [] = pick (is_frozen s frame) s (put_partial s layout cache cpu frame) (IsNoted s) refl (drained-noted s layout cache cpu)
settled-noted s layout cache cpu frame (index ∷ free) = pick (is_frozen s frame) s (without_spare s layout.min_partial cache frame) (IsNoted s) refl (spare-noted s layout.min_partial cache frame)

freed-noted : (s : State) (layout : Layout) (cache cpu frame index : ℕ) → IsNoted s (freed s layout cache cpu frame index)
freed-noted s layout cache cpu frame index =
    pick (is_current frame (lists_of s cache cpu).current) (freed_here s cache cpu index) (freed_there s layout cache cpu frame index) (IsNoted s) refl
    (settled-noted (with_freed s frame index) layout cache cpu frame (own_free s frame))

freed-board : (s : State) (layout : Layout) (cache cpu frame index : ℕ) → (freed s layout cache cpu frame index).board ≡ s.board
freed-board s layout cache cpu frame index =
    pick (is_current frame (lists_of s cache cpu).current) (freed_here s cache cpu index) (freed_there s layout cache cpu frame index) (λ t. t.board ≡ s.board) refl
    (same_settled (with_freed s frame index) layout cache cpu frame (own_free s frame)).4

-- what a free under a number does: nothing, or the object stays the worker's, or it is noted as freed by it
pub data IsFree (s : State) (worker object : ℕ) (after : State) : Type 0 where
  nothing : after ≡ s → ((held : Held) → held_under s object ≡ Some held → is_freeable worker held.worker ≡ false) → IsFree s worker object after
  kept : (held : Held) → held_under s object ≡ Some held → is_freeable worker held.worker ≡ true → after.gone ≡ s.gone → after.board ≡ set s.board object (Some (record held { worker = Some worker })) → IsFree s worker object after
  gone : (held : Held) → held_under s object ≡ Some held → is_freeable worker held.worker ≡ true → after.gone ≡ set s.gone object (Some (record held { worker = Some worker })) → after.board ≡ set s.board object None → IsFree s worker object after

module _ (s : State) (cpu worker object : ℕ) (reply : Reply) (after : State) where
  same-some : {x y : Held} → Some x ≡ Some y → x ≡ y
  same-some e = cc

  module _ (held : Held) (there : held_under s object ≡ Some held) (may : is_freeable worker held.worker ≡ true) where
    taken-noted : (layout : Layout) (rest : CheckedState) (answer : Result (Unit {0}) Damage) → IsFreedOrKept s layout rest worker object held answer reply after → IsFree s worker object after
    taken-noted layout rest (Err damage) done = kept held there may (ap (λ (t : State). t.gone) done.1) (ap (λ (t : State). t.board) done.1)
    taken-noted layout rest (Ok x) (said, None, last, empty, is) = gone held there may (ap (λ (t : State). t.gone) is) (ap (λ (t : State). t.board) is)
    taken-noted layout rest (Ok x) (said, Some run, last, empty, is) = gone held there may (ap (λ (t : State). t.gone) is) (ap (λ (t : State). t.board) is)

    plain-noted : (layout : Layout) → FreesUnchecked s layout cpu worker object held reply after → IsFree s worker object after
    plain-noted layout done =
        let t = with_taken s object held.cache in
        gone held there may
        (ap (λ (t : State). t.gone) done.1 ∙ ap (λ gone. set gone object (Some (record held { worker = Some worker }))) (freed-noted t layout held.cache cpu held.frame held.index))
        (ap (λ (t : State). t.board) done.1 ∙ freed-board t layout held.cache cpu held.frame held.index)

    kind-noted : (layout : Layout) (x : Option CheckedState) → MatchOption x (FreesUnchecked s layout cpu worker object held reply after) (λ slabs. FreesChecked s layout slabs worker object held reply after) → IsFree s worker object after
    kind-noted layout None done = plain-noted layout done
    kind-noted layout (Some slabs) done = taken-noted layout done.1 done.0 done.3

    held-noted : (x : Option Cache) → MatchOption x ⊥ (λ live. MatchOption (checked_of s held.cache) (FreesUnchecked s live.layout cpu worker object held reply after) (λ slabs. FreesChecked s live.layout slabs worker object held reply after)) → IsFree s worker object after
    held-noted None none = absurd none
    held-noted (Some live) done = kind-noted live.layout (checked_of s held.cache) done

  able-noted : (held : Held) → held_under s object ≡ Some held → (b : Bool) → is_freeable worker held.worker ≡ b → MatchBool b (FreesHeld s cpu worker object held reply after) ((reply ≡ NotHeld) × (after ≡ s)) → IsFree s worker object after
  able-noted held there true may done = held-noted held there may (cache_of s held.cache) done
  able-noted held there false may none = nothing none.1 (λ other also. ap (λ (h : Held). is_freeable worker h.worker) (same-some (sym also ∙ there)) ∙ may)

  number-noted : (x : Option Held) → held_under s object ≡ x → MatchOption x ((reply ≡ NotHeld) × (after ≡ s)) (λ held. MatchBool (is_freeable worker held.worker) (FreesHeld s cpu worker object held reply after) ((reply ≡ NotHeld) × (after ≡ s))) → IsFree s worker object after
  number-noted None there none = nothing none.1 (λ held also. absurd (let both = sym there ∙ also in cc both))
  number-noted (Some held) there done = able-noted held there (is_freeable worker held.worker) refl done

  pub free-noted : Frees s cpu worker object reply after → IsFree s worker object after
  free-noted done = number-noted (held_under s object) refl done

-- ---- trims and flushes

pub flush-noted : (s : State) (cpu : ℕ) (reply : Reply) (after : State) → Flushes s cpu reply after → IsNoted s after × (after.board ≡ s.board)
flush-noted s cpu reply after done =
    let rest = rest-fold cpu s s.table.ages in
    (ap (λ (t : State). t.gone) done.steps ∙ rest.held.gone, ap (λ (t : State). t.board) done.steps ∙ rest.held.board)

module _ (s : State) (reply : Reply) (after : State) where
  cache-noted : (cache : ℕ) (y : Option CheckedState) → MatchOption y (TrimsCache s cache reply after) (λ slabs. (reply ≡ Checked) × (after ≡ s)) → IsNoted s after × (after.board ≡ s.board)
  cache-noted cache None done = (done.2.held.gone, done.2.held.board)
  cache-noted cache (Some slabs) done = (ap (λ (t : State). t.gone) done.1, ap (λ (t : State). t.board) done.1)

  trims-noted : (x : Option ℕ) → MatchOption x ((reply ≡ NoSuchCache) × (after ≡ s)) (λ cache. MatchOption (checked_of s cache) (TrimsCache s cache reply after) (λ slabs. (reply ≡ Checked) × (after ≡ s))) → IsNoted s after × (after.board ≡ s.board)
  trims-noted None none = (ap (λ (t : State). t.gone) none.1, ap (λ (t : State). t.board) none.1)
  trims-noted (Some cache) done = cache-noted cache (checked_of s cache) done

  pub trim-noted : (place : ℕ) → Trims s place reply after → IsNoted s after × (after.board ≡ s.board)
  trim-noted place done = trims-noted (named s place) done
