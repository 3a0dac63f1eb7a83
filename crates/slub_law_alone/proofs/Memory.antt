-- Allocations and frees neither read nor change the words of the frames: over other words they do the same.
use Rattle.std.proofs.Common.{◌≡◌, ◌≢◌, ℕ, zero, suc, ◌&&◌, Bool, true, false, cond, List, [], ◌∷◌, ◌++◌, length, get_or, set, Option, Some, None, Result, Ok, Err, MatchOption, MatchResult, MatchBool, refl, ap, sym, ◌∙◌, subst, inl, inr}
use Rattle.std.specs.Prelude.{fold, nat_le, nat_lt}
use Rattle.std.proofs.lemmas.Bool.{cases_eq}
use Rattle.std.proofs.lemmas.List.{get_or-set_other}
use Rattle.slub_common.specs.Times.{times}
use Rattle.slub_object_layout.specs.declared.layout.Layout.{Layout}
use Rattle.slub_trace.specs.declared.reply.Reply.{Reply}
use Rattle.slub_trace.specs.declared.reply.Reply.TheVariants.{NoSuchCache, NotHeld}
use Rattle.slub_cache_create.specs.declared.caches.Cache.{Cache}
use Rattle.slub_red_zone.specs.State.{CheckedState}
use Rattle.slub_red_zone.specs.declared.checked.CheckedGive.{CheckedGive}
use Rattle.slub_red_zone.specs.declared.checked.CheckedGive.TheVariants as give
use Rattle.slub_red_zone.specs.declared.checked.Slot.{Slot}
use Rattle.slub_trace.specs.declared.damage.Damage.{Damage}
use Rattle.slub_lists.specs.declared.lists.Held.{Held}
use Rattle.slub_lists.specs.State.{State}
use Rattle.slub_lists.specs.Alloc.{Allocates, AllocatesNew, Gives, batch_of, cache_of, checked_of, from_current, from_free, from_node, from_partial, from_slabs, lists_of, named, node_of, own_free, retired, with_new_slab, with_node}
use Rattle.slub_lists.specs.Checked.{AllocatesChecked, AllocatesNewChecked, FreesChecked, GivesOrMakes, GivesSlot, IsFreedOrKept, first_slot, kept_by, with_checked, with_checked_slab}
use Rattle.slub_lists.specs.Coherent.{held_under}
use Rattle.slub_lists.specs.Free.{FreesUnchecked, discarded, drained, freed, freed_here, freed_there, is_current, is_freeable, is_frozen, is_spare, moved, moved_all, put_partial, settled, with_freed, with_gone, with_partial, with_taken, without_slab, without_spare}
use Rattle.slub_lists.specs.Freeing.{Frees, FreesHeld}
use Rattle.slub_lists.specs.Named.{AllocatesFrom, AllocatesNamed}
use Rattle.slub_lists.proofs.Keeps.{IsSame, checked_keeps, unchecked_keeps}
use Rattle.slub_lists.proofs.KeepsFreed.{same_settled}

-- the same lists over these words
abbrev pub over : List ℕ → State → State
over memory s = record s { memory = memory }

-- what an operation under a number leaves: the words, the caches and what the other numbers name
pub record IsMoved (s : State) (memory : List ℕ) (object : ℕ) (after : State) : Type 0 where
  pub memory_is : after.memory ≡ memory
  pub table : after.table ≡ s.table
  pub others : (other : ℕ) → other ≢ object → held_under after other ≡ held_under s other

nothing-moved : (s after : State) (memory : List ℕ) (object : ℕ) → after ≡ over memory s → IsMoved s memory object after
nothing-moved s after memory object is = record {
  memory_is = ap (λ (t : State). t.memory) is;
  table = ap (λ (t : State). t.table) is;
  others = λ other apart. ap (λ (t : State). held_under t other) is;
}

-- ---- allocations

abbrev either_over : List ℕ → Result State State → Result State State
either_over memory (Ok s) = Ok (over memory s)
either_over memory (Err s) = Err (over memory s)

node-over : (memory : List ℕ) (s : State) (cache cpu batch : ℕ) (frames : List ℕ) → from_node (over memory s) cache cpu batch frames ≡ either_over memory (from_node s cache cpu batch frames)
node-over memory s cache cpu batch [] = refl
node-over memory s cache cpu batch (frame ∷ frames) = refl

partial-over : (memory : List ℕ) (s : State) (cache cpu batch : ℕ) (frames : List ℕ) → from_partial (over memory s) cache cpu batch frames ≡ either_over memory (from_partial s cache cpu batch frames)
partial-over memory s cache cpu batch [] = node-over memory s cache cpu batch (node_of s cache)
partial-over memory s cache cpu batch (frame ∷ frames) = refl

current-over : (memory : List ℕ) (s : State) (cache cpu batch frame : ℕ) (free : List ℕ) → from_current (over memory s) cache cpu batch frame free ≡ either_over memory (from_current s cache cpu batch frame free)
current-over memory s cache cpu batch frame [] = partial-over memory (retired s cache cpu frame) cache cpu batch (lists_of (retired s cache cpu frame) cache cpu).partial
current-over memory s cache cpu batch frame (index ∷ free) = refl

slabs-over : (memory : List ℕ) (s : State) (cache cpu batch : ℕ) (current : Option ℕ) → from_slabs (over memory s) cache cpu batch current ≡ either_over memory (from_slabs s cache cpu batch current)
slabs-over memory s cache cpu batch None = partial-over memory s cache cpu batch (lists_of s cache cpu).partial
slabs-over memory s cache cpu batch (Some frame) = current-over memory s cache cpu batch frame (own_free s frame)

stock-over : (memory : List ℕ) (s : State) (cache cpu batch : ℕ) (free : List ℕ) → from_free (over memory s) cache cpu batch free ≡ either_over memory (from_free s cache cpu batch free)
stock-over memory s cache cpu batch [] = slabs-over memory s cache cpu batch (lists_of s cache cpu).current
stock-over memory s cache cpu batch (index ∷ free) = refl

module _ (old new : List ℕ) (layout : Layout) (cache cpu worker object : ℕ) (reply : Reply) (after : State) where
  gives-over : (s : State) → Gives (over new s) layout cache cpu worker object reply after → Gives (over old s) layout cache cpu worker object reply (over old after) × (after.memory ≡ new)
  gives-over s g = (
    record { frame = g.frame; index = g.index; rest = g.rest; current = g.current; first = g.first; unheld = g.unheld; address = g.address; given = ap (over old) g.given },
    ap (λ (t : State). t.memory) g.given,
  )

  new-over : (s : State) → AllocatesNew (over new s) layout cache cpu worker object reply after → AllocatesNew (over old s) layout cache cpu worker object reply (over old after) × (after.memory ≡ new)
  new-over s (None, left, found, none) = ((None, left, found, (none.0, ap (over old) none.1)), ap (λ (t : State). t.memory) none.1)
  new-over s (Some run, left, found, gives) = let g = gives-over (with_new_slab s cache cpu left run) gives in ((Some run, left, found, g.0), g.1)

  result-over : (r : Result State State) → MatchResult (either_over new r) (λ t. Gives t layout cache cpu worker object reply after) (λ t. AllocatesNew t layout cache cpu worker object reply after)
      → MatchResult (either_over old r) (λ t. Gives t layout cache cpu worker object reply (over old after)) (λ t. AllocatesNew t layout cache cpu worker object reply (over old after)) × (after.memory ≡ new)
  result-over (Ok s) gives = gives-over s gives
  result-over (Err s) new = new-over s new

  allocates-over : (s : State) → Allocates (over new s) layout cache cpu worker object reply after → Allocates (over old s) layout cache cpu worker object reply (over old after) × (after.memory ≡ new)
  allocates-over s done =
      let free = (lists_of s cache cpu).free in
      let r = result-over (from_free s cache cpu (batch_of layout) free)
      (subst (λ r. MatchResult r (λ t. Gives t layout cache cpu worker object reply after) (λ t. AllocatesNew t layout cache cpu worker object reply after)) (stock-over new s cache cpu (batch_of layout) free) done) in
      (subst (λ r. MatchResult r (λ t. Gives t layout cache cpu worker object reply (over old after)) (λ t. AllocatesNew t layout cache cpu worker object reply (over old after))) (sym (stock-over old s cache cpu (batch_of layout) free)) r.0, r.1)

-- of a checked cache
module _ (old new : List ℕ) (layout : Layout) (cache worker object : ℕ) (reply : Reply) (after : State) where
  slot-over : (s : State) (slot : Slot) → GivesSlot (over new s) layout cache worker object slot reply after → GivesSlot (over old s) layout cache worker object slot reply (over old after) × (after.memory ≡ new)
  slot-over s slot g = (record { unheld = g.unheld; address = g.address; given = ap (over old) g.given }, ap (λ (t : State). t.memory) g.given)

  new-checked-over : (s : State) (slabs : CheckedState) → AllocatesNewChecked (over new s) layout cache slabs worker object reply after → AllocatesNewChecked (over old s) layout cache slabs worker object reply (over old after) × (after.memory ≡ new)
  new-checked-over s slabs (None, left, found, none) = ((None, left, found, (none.0, ap (over old) none.1)), ap (λ (t : State). t.memory) none.1)
  new-checked-over s slabs (Some run, left, found, inl none) = ((Some run, left, found, inl (none.0, ap (over old) none.1)), ap (λ (t : State). t.memory) none.1)
  new-checked-over s slabs (Some run, left, found, inr gives) = let g = slot-over (with_checked_slab s cache left run slabs) (first_slot run) gives in ((Some run, left, found, inr g.0), g.1)

  makes-over : (s : State) (slabs : CheckedState) (answer : CheckedGive) → GivesOrMakes (over new s) layout cache slabs worker object answer reply after → GivesOrMakes (over old s) layout cache slabs worker object answer reply (over old after) × (after.memory ≡ new)
  makes-over s slabs (give.Given slot) done = slot-over s slot done
  makes-over s slabs give.Empty done = new-checked-over s slabs done

  checked-over : (s : State) (slabs : CheckedState) → AllocatesChecked (over new s) layout cache slabs worker object reply after → AllocatesChecked (over old s) layout cache slabs worker object reply (over old after) × (after.memory ≡ new)
  checked-over s slabs done = let r = makes-over (with_checked s cache done.1) done.1 done.0 done.3 in ((done.0, done.1, done.2, r.0), r.1)

module _ (s : State) (old new : List ℕ) (cpu worker object : ℕ) (reply : Reply) (after : State) where
  -- an allocation of the cache that a name names
  either-alloc : (cache : ℕ) (layout : Layout) (x : Option CheckedState) → MatchOption x (Allocates (over new s) layout cache cpu worker object reply after) (λ slabs. AllocatesChecked (over new s) layout cache slabs worker object reply after)
      → MatchOption x (Allocates (over old s) layout cache cpu worker object reply (over old after)) (λ slabs. AllocatesChecked (over old s) layout cache slabs worker object reply (over old after)) × IsMoved s new object after
  either-alloc cache layout None done =
      let moved = allocates-over old new layout cache cpu worker object reply after s done in
      let keeps = unchecked_keeps (over new s) layout cache cpu worker object reply after done in
      (moved.0, record { memory_is = moved.1; table = keeps.0.table; others = keeps.0.board })
  either-alloc cache layout (Some slabs) done =
      let moved = checked-over old new layout cache worker object reply after s slabs done in
      let keeps = checked_keeps (over new s) layout cache slabs worker object reply after done in
      (moved.0, record { memory_is = moved.1; table = keeps.table; others = keeps.board })

  live-alloc : (cache : ℕ) (x : Option Cache) → MatchOption x ⊥ (λ live. AllocatesFrom (over new s) live.layout cache cpu worker object reply after)
      → MatchOption x ⊥ (λ live. AllocatesFrom (over old s) live.layout cache cpu worker object reply (over old after)) × IsMoved s new object after
  live-alloc cache None none = absurd none
  live-alloc cache (Some live) done = either-alloc cache live.layout (checked_of s cache) done

  named-alloc : (x : Option ℕ) → MatchOption x ((reply ≡ NoSuchCache) × (after ≡ over new s)) (λ cache. MatchOption (cache_of s cache) ⊥ (λ live. AllocatesFrom (over new s) live.layout cache cpu worker object reply after))
      → MatchOption x ((reply ≡ NoSuchCache) × (over old after ≡ over old s)) (λ cache. MatchOption (cache_of s cache) ⊥ (λ live. AllocatesFrom (over old s) live.layout cache cpu worker object reply (over old after))) × IsMoved s new object after
  named-alloc None none = ((none.0, ap (over old) none.1), nothing-moved s after new object none.1)
  named-alloc (Some cache) done = live-alloc cache (cache_of s cache) done

  pub alloc-over : (place : ℕ) → AllocatesNamed (over new s) place cpu worker object reply after → AllocatesNamed (over old s) place cpu worker object reply (over old after) × IsMoved s new object after
  alloc-over place done = named-alloc (named s place) done

-- ---- frees

pub if-over : (memory : List ℕ) (b : Bool) (s t : State) → cond b (over memory s) (over memory t) ≡ over memory (cond b s t)
if-over memory true s t = refl
if-over memory false s t = refl

moved-over : (memory : List ℕ) (min_partial cache : ℕ) (s : State) (frame : ℕ) → moved min_partial cache (over memory s) frame ≡ over memory (moved min_partial cache s frame)
moved-over memory min_partial cache s frame = if-over memory (is_spare s min_partial cache frame) (discarded s frame) (with_node s cache (node_of s cache ++ frame ∷ []))

pub all-over : (memory : List ℕ) (s : State) (min_partial cache : ℕ) (frames : List ℕ) → moved_all (over memory s) min_partial cache frames ≡ over memory (moved_all s min_partial cache frames)
all-over memory s min_partial cache [] = refl
all-over memory s min_partial cache (frame ∷ frames) = ap (λ t. fold (moved min_partial cache) t frames) (moved-over memory min_partial cache s frame) ∙ all-over memory (moved min_partial cache s frame) min_partial cache frames

drained-over : (memory : List ℕ) (s : State) (layout : Layout) (cache cpu : ℕ) → drained (over memory s) layout cache cpu ≡ over memory (drained s layout cache cpu)
drained-over memory s layout cache cpu =
    let partial = (lists_of s cache cpu).partial in
    let long = nat_le layout.cpu_partial_slabs (length partial) in
    ap (λ t. cond long t (over memory s)) (all-over memory (with_partial s cache cpu []) layout.min_partial cache partial)
    ∙ if-over memory long (moved_all (with_partial s cache cpu []) layout.min_partial cache partial) s

put-over : (memory : List ℕ) (s : State) (layout : Layout) (cache cpu frame : ℕ) → put_partial (over memory s) layout cache cpu frame ≡ over memory (put_partial s layout cache cpu frame)
put-over memory s layout cache cpu frame = ap (λ rest. with_partial rest cache cpu (frame ∷ (lists_of rest cache cpu).partial)) (drained-over memory s layout cache cpu)

settled-over : (memory : List ℕ) (s : State) (layout : Layout) (cache cpu frame : ℕ) (own : List ℕ) → settled (over memory s) layout cache cpu frame own ≡ over memory (settled s layout cache cpu frame own)
settled-over memory s layout cache cpu frame [] =
    ap (cond (is_frozen s frame) (over memory s)) (put-over memory s layout cache cpu frame) ∙ if-over memory (is_frozen s frame) s (put_partial s layout cache cpu frame)
settled-over memory s layout cache cpu frame (index ∷ free) =
    ap (cond (is_frozen s frame) (over memory s)) (if-over memory (is_spare s layout.min_partial cache frame && nat_lt 0 (times frame (node_of s cache))) (discarded (without_slab s cache frame) frame) s) ∙ if-over memory (is_frozen s frame) s (without_spare s layout.min_partial cache frame)

freed-over : (memory : List ℕ) (s : State) (layout : Layout) (cache cpu frame index : ℕ) → freed (over memory s) layout cache cpu frame index ≡ over memory (freed s layout cache cpu frame index)
freed-over memory s layout cache cpu frame index =
    let here = is_current frame (lists_of s cache cpu).current in
    ap (cond here (over memory (freed_here s cache cpu index))) (settled-over memory (with_freed s frame index) layout cache cpu frame (own_free s frame))
    ∙ if-over memory here (freed_here s cache cpu index) (freed_there s layout cache cpu frame index)

-- slabs, freelists, lists and pool alone are changed
freed-same : (s : State) (layout : Layout) (cache cpu frame index : ℕ) → IsSame s (freed s layout cache cpu frame index)
freed-same s layout cache cpu frame index = by (is_current frame (lists_of s cache cpu).current)
  where
    by : (here : Bool) → IsSame s (cond here (freed_here s cache cpu index) (freed_there s layout cache cpu frame index))
    by true = (refl, refl, refl, refl, refl)
    by false = same_settled (with_freed s frame index) layout cache cpu frame (own_free s frame)

set-some : (xs : List (Option Held)) (i : ℕ) (h k : Held) → get_or (set xs i (Some h)) i None ≡ Some k → h ≡ k
set-some [] i h k e = absurd (cc e)
set-some (x ∷ xs) zero h k e = cc
set-some (x ∷ xs) (suc i) h k e = set-some xs i h k e

pub set-none : (xs : List (Option Held)) (i : ℕ) → get_or (set xs i None) i None ≡ None
set-none [] i = refl
set-none (x ∷ xs) zero = refl
set-none (x ∷ xs) (suc i) = set-none xs i

-- what a free, a trim or a flush leaves: a number that names something named it before, but for a damaged object of a checked cache
pub record IsFreed (s : State) (memory : List ℕ) (after : State) : Type 0 where
  pub memory_is : after.memory ≡ memory
  pub table : after.table ≡ s.table
  pub named : (other : ℕ) (held : Held) → held_under after other ≡ Some held → checked_of s held.cache ≡ None → held_under s other ≡ Some held

module _ (s : State) (old new : List ℕ) (cpu worker object : ℕ) (reply : Reply) (after : State) where
  nothing-freed : after ≡ over new s → IsFreed s new after
  nothing-freed is = record {
    memory_is = ap (λ (t : State). t.memory) is;
    table = ap (λ (t : State). t.table) is;
    named = λ other held there plain. sym (ap (λ (t : State). held_under t other) is) ∙ there;
  }

  -- the number names nothing any more
  taken-freed : after.memory ≡ new → after.table ≡ s.table → after.board ≡ set s.board object None → IsFreed s new after
  taken-freed memory_is table board = record {
    memory_is = memory_is;
    table = table;
    named = λ other h there plain. elim (cases_eq other object) [
      | inl e ↦ absurd (let none = sym (ap (λ b. get_or b other None) board ∙ ap (λ i. get_or (set s.board object None) i None) e ∙ set-none s.board object) ∙ there in cc none)
      | inr apart ↦ sym (ap (λ b. get_or b other None) board ∙ get_or-set_other s.board object other None None apart) ∙ there
    ];
  }

  -- or it names the same object, and that is of a checked cache
  kept-freed : (held : Held) (slabs : CheckedState) → checked_of s held.cache ≡ Some slabs → after ≡ kept_by (over new s) object worker held → IsFreed s new after
  kept-freed held slabs checked is = record {
    memory_is = ap (λ (t : State). t.memory) is;
    table = ap (λ (t : State). t.table) is;
    named = λ other h there plain. elim (cases_eq other object) [
      | inl e ↦ absurd (
          let now = sym (ap (λ (t : State). held_under t other) is ∙ ap (λ i. get_or (set s.board object (Some (record held { worker = Some worker }))) i None) e) ∙ there in
          let same = ap (λ (h : Held). h.cache) (set-some s.board object (record held { worker = Some worker }) h now) in
          let both = sym checked ∙ ap (checked_of s) same ∙ plain in
          cc both)
      | inr apart ↦ sym (ap (λ (t : State). held_under t other) is ∙ get_or-set_other s.board object other (Some (record held { worker = Some worker })) None apart) ∙ there
    ];
  }

  module _ (layout : Layout) (held : Held) (done : FreesUnchecked (over new s) layout cpu worker object held reply after) where
    abbrev rest : State
    rest = freed (with_taken s object held.cache) layout held.cache cpu held.frame held.index

    now : after ≡ with_gone (over new rest) object worker held
    now = done.1 ∙ ap (λ t. with_gone t object worker held) (freed-over new (with_taken s object held.cache) layout held.cache cpu held.frame held.index)

    unchecked-over : FreesUnchecked (over old s) layout cpu worker object held reply (over old after)
    unchecked-over = (done.0, ap (over old) now ∙ sym (ap (λ t. with_gone t object worker held) (freed-over old (with_taken s object held.cache) layout held.cache cpu held.frame held.index)))

    unchecked-freed : IsFreed s new after
    unchecked-freed =
        let same = freed-same (with_taken s object held.cache) layout held.cache cpu held.frame held.index in
        taken-freed (ap (λ (t : State). t.memory) now) (ap (λ (t : State). t.table) now ∙ same.2) (ap (λ (t : State). t.board) now ∙ same.4)

  -- of a checked cache
  kept-over : (layout : Layout) (now_has slabs : CheckedState) (held : Held) (answer : Result (Unit {0}) Damage) → checked_of s held.cache ≡ Some slabs → IsFreedOrKept (over new s) layout now_has worker object held answer reply after
      → IsFreedOrKept (over old s) layout now_has worker object held answer reply (over old after) × IsFreed s new after
  kept-over layout now_has slabs held (Err damage) checked done = ((done.0, ap (over old) done.1), kept-freed held slabs checked done.1)
  kept-over layout now_has slabs held (Ok x) checked (said, None, last, empty, is) =
      ((said, None, last, empty, ap (over old) is), taken-freed (ap (λ (t : State). t.memory) is) (ap (λ (t : State). t.table) is) (ap (λ (t : State). t.board) is))
  kept-over layout now_has slabs held (Ok x) checked (said, Some run, last, empty, is) =
      ((said, Some run, last, empty, ap (over old) is), taken-freed (ap (λ (t : State). t.memory) is) (ap (λ (t : State). t.table) is) (ap (λ (t : State). t.board) is))

  either-free : (layout : Layout) (held : Held) (x : Option CheckedState) → checked_of s held.cache ≡ x → MatchOption x (FreesUnchecked (over new s) layout cpu worker object held reply after) (λ slabs. FreesChecked (over new s) layout slabs worker object held reply after)
      → MatchOption x (FreesUnchecked (over old s) layout cpu worker object held reply (over old after)) (λ slabs. FreesChecked (over old s) layout slabs worker object held reply (over old after)) × IsFreed s new after
  either-free layout held None is done = (unchecked-over layout held done, unchecked-freed layout held done)
  either-free layout held (Some slabs) is done = let r = kept-over layout done.1 slabs held done.0 is done.3 in ((done.0, done.1, done.2, r.0), r.1)

  live-free : (held : Held) (x : Option Cache) → MatchOption x ⊥ (λ live. MatchOption (checked_of s held.cache) (FreesUnchecked (over new s) live.layout cpu worker object held reply after) (λ slabs. FreesChecked (over new s) live.layout slabs worker object held reply after))
      → MatchOption x ⊥ (λ live. MatchOption (checked_of s held.cache) (FreesUnchecked (over old s) live.layout cpu worker object held reply (over old after)) (λ slabs. FreesChecked (over old s) live.layout slabs worker object held reply (over old after))) × IsFreed s new after
  live-free held None none = absurd none
  live-free held (Some live) done = either-free live.layout held (checked_of s held.cache) refl done

  able-free : (held : Held) (b : Bool) → MatchBool b (FreesHeld (over new s) cpu worker object held reply after) ((reply ≡ NotHeld) × (after ≡ over new s))
      → MatchBool b (FreesHeld (over old s) cpu worker object held reply (over old after)) ((reply ≡ NotHeld) × (over old after ≡ over old s)) × IsFreed s new after
  able-free held true done = live-free held (cache_of s held.cache) done
  able-free held false none = ((none.0, ap (over old) none.1), nothing-freed none.1)

  named-free : (x : Option Held) → MatchOption x ((reply ≡ NotHeld) × (after ≡ over new s)) (λ held. MatchBool (is_freeable worker held.worker) (FreesHeld (over new s) cpu worker object held reply after) ((reply ≡ NotHeld) × (after ≡ over new s)))
      → MatchOption x ((reply ≡ NotHeld) × (over old after ≡ over old s)) (λ held. MatchBool (is_freeable worker held.worker) (FreesHeld (over old s) cpu worker object held reply (over old after)) ((reply ≡ NotHeld) × (over old after ≡ over old s))) × IsFreed s new after
  named-free None none = ((none.0, ap (over old) none.1), nothing-freed none.1)
  named-free (Some held) done = able-free held (is_freeable worker held.worker) done

  pub free-over : Frees (over new s) cpu worker object reply after → Frees (over old s) cpu worker object reply (over old after) × IsFreed s new after
  free-over done = named-free (get_or s.board object None) done
