-- What an allocation leaves as it was.
use Rattle.std.proofs.Common.{◌≡◌, ◌≢◌, ℕ, ◌+◌, ◌-◌, ◌<◌, ◌≤◌, List, [], ◌∷◌, length, Some, None, Ok, Err, Result, refl, ap, ◌∙◌, inl, inr, arith, get_or, set, get_or-set_other, length-set}
use Rattle.std.specs.Prelude.{Option, MatchOption, MatchResult}
use Rattle.std.specs.List.{All, range_with_len}
use Rattle.std.proofs.lemmas.List.FromFn.{length-range_with_len}
use Rattle.std.proofs.lemmas.List.FromFn.{get_or-range_with_len}
use Rattle.slub_page_pool.specs.FreeFrames as pool
use Rattle.slub_common.proofs.Lists.{IsStrictlyIncreasing-range_with_len}
use Rattle.slub_object_layout.specs.declared.layout.Layout.{Layout}
use Rattle.slub_cache_create.specs.declared.caches.Cache.{Cache}
use Rattle.slub_trace.specs.declared.reply.Reply.{Reply}
use Rattle.slub_trace.specs.declared.reply.Reply.TheVariants.{NoSuchCache}
use Rattle.slub_lists.specs.State.{State}
use Rattle.slub_lists.specs.Alloc.{Allocates, AllocatesNew, Gives, batch_of, cache_of, checked_of, from_current, from_free, from_node, from_partial, from_slabs, lists_of, named, node_of, own_free, retired, stocked, with_given, with_new_slab, with_held}
use Rattle.slub_lists.specs.Checked.{AllocatesChecked, AllocatesNewChecked, GivesOrMakes, GivesSlot, first_slot, put_back, with_checked, with_checked_slab}
use Rattle.slub_lists.specs.Named.{AllocatesFrom, AllocatesNamed}
use Rattle.slub_lists.specs.Coherent.{KeepsOthers}
use Rattle.slub_lists.specs.Steps.{KeepsFound}
use Rattle.slub_red_zone.specs.State.{CheckedState}
use Rattle.slub_red_zone.specs.declared.checked.CheckedGive.{CheckedGive}
use Rattle.slub_red_zone.specs.declared.checked.CheckedGive.TheVariants as give
use Rattle.slub_red_zone.specs.declared.checked.Slot.{Slot}
use Rattle.slub_lists.specs.declared.lists.Held.{Held}
use Rattle.slub_lists.proofs.Found.{found-same}

-- but for slabs, freelists, lists and pool, the machine is the same
abbrev pub IsSame : State → State → Type 0
IsSame s after = (after.frames ≡ s.frames) × (after.cpus ≡ s.cpus) × (after.table ≡ s.table) × (after.checked ≡ s.checked) × (after.board ≡ s.board)

-- but for what an event under a number may change, it is
pub record KeepsBoard (s : State) (object : ℕ) (after : State) : Type 0 where
  pub frames : after.frames ≡ s.frames
  pub cpus : after.cpus ≡ s.cpus
  pub table : after.table ≡ s.table
  pub board_length : length after.board ≡ length s.board
  pub board : (other : ℕ) → other ≢ object → get_or after.board other None ≡ get_or s.board other None

-- with the reports that is all
pub keeps-others : (s : State) (object : ℕ) (after : State) → KeepsBoard s object after → KeepsFound s after → KeepsOthers s object after
keeps-others s object after kept found = record {
  frames = kept.frames;
  cpus = kept.cpus;
  table = kept.table;
  board_length = kept.board_length;
  board = kept.board;
  reports = found.reports;
  findable = found.findable;
}

-- what is under the number alone is written
pub keeps-written : (s t after : State) (object : ℕ) (held : Option Held) → t.frames ≡ s.frames → t.cpus ≡ s.cpus → t.table ≡ s.table → t.board ≡ set s.board object held → after ≡ t → KeepsBoard s object after
keeps-written s t after object held frames cpus table board is = record {
  frames = ap (λ (m : State). m.frames) is ∙ frames;
  cpus = ap (λ (m : State). m.cpus) is ∙ cpus;
  table = ap (λ (m : State). m.table) is ∙ table;
  board_length = ap (λ (m : State). length m.board) is ∙ ap length board ∙ length-set s.board object held;
  board = λ other apart. ap (λ (m : State). get_or m.board other None) is ∙ ap (λ b. get_or b other None) board ∙ get_or-set_other s.board object other held None apart;
}

-- or nothing is
pub keeps-board : (s t after : State) (object : ℕ) → t.frames ≡ s.frames → t.cpus ≡ s.cpus → t.table ≡ s.table → t.board ≡ s.board → after ≡ t → KeepsBoard s object after
keeps-board s t after object frames cpus table board is = record {
  frames = ap (λ (m : State). m.frames) is ∙ frames;
  cpus = ap (λ (m : State). m.cpus) is ∙ cpus;
  table = ap (λ (m : State). m.table) is ∙ table;
  board_length = ap (λ (m : State). length m.board) is ∙ ap length board;
  board = λ other apart. ap (λ (m : State). get_or m.board other None) is ∙ ap (λ b. get_or b other None) board;
}

same_node : (s : State) (cache cpu batch : ℕ) (frames : List ℕ) → MatchResult (from_node s cache cpu batch frames) (IsSame s) (IsSame s)
same_node s cache cpu batch [] = (refl, refl, refl, refl, refl)
same_node s cache cpu batch (frame ∷ frames) = (refl, refl, refl, refl, refl)

same_partial : (s : State) (cache cpu batch : ℕ) (frames : List ℕ) → MatchResult (from_partial s cache cpu batch frames) (IsSame s) (IsSame s)
same_partial s cache cpu batch [] = same_node s cache cpu batch (node_of s cache)
same_partial s cache cpu batch (frame ∷ frames) = (refl, refl, refl, refl, refl)

same_current : (s : State) (cache cpu batch frame : ℕ) (free : List ℕ) → MatchResult (from_current s cache cpu batch frame free) (IsSame s) (IsSame s)
same_current s cache cpu batch frame [] =
    same_partial (retired s cache cpu frame) cache cpu batch (lists_of (retired s cache cpu frame) cache cpu).partial
same_current s cache cpu batch frame (index ∷ free) = (refl, refl, refl, refl, refl)

same_slabs : (s : State) (cache cpu batch : ℕ) (current : Option ℕ) → MatchResult (from_slabs s cache cpu batch current) (IsSame s) (IsSame s)
same_slabs s cache cpu batch None = same_partial s cache cpu batch (lists_of s cache cpu).partial
same_slabs s cache cpu batch (Some frame) = same_current s cache cpu batch frame (own_free s frame)

same_free : (s : State) (cache cpu batch : ℕ) (free : List ℕ) → MatchResult (from_free s cache cpu batch free) (IsSame s) (IsSame s)
same_free s cache cpu batch [] = same_slabs s cache cpu batch (lists_of s cache cpu).current
same_free s cache cpu batch (index ∷ free) = (refl, refl, refl, refl, refl)

-- what an allocation leaves: one number of the board may be another, and the checked caches are as before
abbrev pub IsGiven : State → ℕ → State → Type 0
IsGiven s object after = KeepsBoard s object after × (after.checked ≡ s.checked)

gives_keeps : (s t : State) (layout : Layout) (cache cpu worker object : ℕ) (reply : Reply) (after : State) → IsSame s t → Gives t layout cache cpu worker object reply after → IsGiven s object after
gives_keeps s t layout cache cpu worker object reply after same gives =
    let held : Held = record { frame = gives.frame; index = gives.index; cache = cache; worker = Some worker } in
    let given : State = with_given t cache cpu (record { current = Some gives.frame; free = gives.rest; partial = (lists_of t cache cpu).partial }) object held in (
      keeps-written s given after object (Some held) same.0 same.1 same.2 (ap (λ (b : List (Option Held)). set b object (Some held)) same.4) gives.given,
      ap (λ (m : State). m.checked) gives.given ∙ same.3,
    )

new_keeps : (s t : State) (layout : Layout) (cache cpu worker object : ℕ) (reply : Reply) (after : State) → IsSame s t → AllocatesNew t layout cache cpu worker object reply after → IsGiven s object after
new_keeps s t layout cache cpu worker object reply after same (None, left, found, none) =
    (keeps-board s (record t { pool = left }) after object same.0 same.1 same.2 same.4 none.1, ap (λ (m : State). m.checked) none.1 ∙ same.3)
new_keeps s t layout cache cpu worker object reply after same (Some run, left, found, gives) =
    gives_keeps s (with_new_slab t cache cpu left run) layout cache cpu worker object reply after same gives

result_keeps : (s : State) (r : Result State State) (layout : Layout) (cache cpu worker object : ℕ) (reply : Reply) (after : State) → MatchResult r (IsSame s) (IsSame s)
    → MatchResult r (λ t. Gives t layout cache cpu worker object reply after) (λ t. AllocatesNew t layout cache cpu worker object reply after) → IsGiven s object after
result_keeps s (Ok t) layout cache cpu worker object reply after same gives = gives_keeps s t layout cache cpu worker object reply after same gives
result_keeps s (Err t) layout cache cpu worker object reply after same new = new_keeps s t layout cache cpu worker object reply after same new

-- an allocation from a cache that is not checked
pub unchecked_keeps : (s : State) (layout : Layout) (cache cpu worker object : ℕ) (reply : Reply) (after : State) → Allocates s layout cache cpu worker object reply after → IsGiven s object after
unchecked_keeps s layout cache cpu worker object reply after done =
    result_keeps s (stocked s layout cache cpu) layout cache cpu worker object reply after (same_free s cache cpu (batch_of layout) (lists_of s cache cpu).free) done

pub unchecked_found : (s : State) (layout : Layout) (cache cpu worker object : ℕ) (reply : Reply) (after : State) → Allocates s layout cache cpu worker object reply after → KeepsFound s after
unchecked_found s layout cache cpu worker object reply after done = found-same s after (unchecked_keeps s layout cache cpu worker object reply after done).1

-- an allocation from a checked cache
slot_keeps : (s t : State) (layout : Layout) (cache worker object : ℕ) (slot : Slot) (reply : Reply) (after : State) → t.frames ≡ s.frames → t.cpus ≡ s.cpus → t.table ≡ s.table → t.board ≡ s.board
    → GivesSlot t layout cache worker object slot reply after → KeepsBoard s object after
slot_keeps s t layout cache worker object slot reply after frames cpus table board gives =
    let held : Held = record { frame = slot.frame; index = slot.index; cache = cache; worker = Some worker } in
    keeps-written s (with_held t object held) after object (Some held) frames cpus table (ap (λ (b : List (Option Held)). set b object (Some held)) board) gives.given

made_keeps : (s t : State) (layout : Layout) (cache : ℕ) (slabs : CheckedState) (worker object : ℕ) (reply : Reply) (after : State) → t.frames ≡ s.frames → t.cpus ≡ s.cpus → t.table ≡ s.table → t.board ≡ s.board
    → AllocatesNewChecked t layout cache slabs worker object reply after → KeepsBoard s object after
made_keeps s t layout cache slabs worker object reply after frames cpus table board (None, left, found, none) = keeps-board s (record t { pool = left }) after object frames cpus table board none.1
made_keeps s t layout cache slabs worker object reply after frames cpus table board (Some run, left, found, inl none) =
    keeps-board s (record t { pool = put_back left run }) after object frames cpus table board none.1
made_keeps s t layout cache slabs worker object reply after frames cpus table board (Some run, left, found, inr gives) =
    slot_keeps s (with_checked_slab t cache left run slabs) layout cache worker object (first_slot run) reply after frames cpus table board gives

answer_keeps : (s t : State) (layout : Layout) (cache : ℕ) (slabs : CheckedState) (worker object : ℕ) (answer : CheckedGive) (reply : Reply) (after : State)
    → t.frames ≡ s.frames → t.cpus ≡ s.cpus → t.table ≡ s.table → t.board ≡ s.board
    → GivesOrMakes t layout cache slabs worker object answer reply after → KeepsBoard s object after
answer_keeps s t layout cache slabs worker object (give.Given slot) reply after frames cpus table board done = slot_keeps s t layout cache worker object slot reply after frames cpus table board done
answer_keeps s t layout cache slabs worker object give.Empty reply after frames cpus table board done = made_keeps s t layout cache slabs worker object reply after frames cpus table board done

pub checked_keeps : (s : State) (layout : Layout) (cache : ℕ) (slabs : CheckedState) (worker object : ℕ) (reply : Reply) (after : State) → AllocatesChecked s layout cache slabs worker object reply after → KeepsBoard s object after
checked_keeps s layout cache slabs worker object reply after done =
    answer_keeps s (with_checked s cache done.1) layout cache done.1 worker object done.0 reply after refl refl refl refl done.3

-- from any cache
from_keeps : (s : State) (x : Option CheckedState) (layout : Layout) (cache cpu worker object : ℕ) (reply : Reply) (after : State)
    → MatchOption x (Allocates s layout cache cpu worker object reply after) (λ slabs. AllocatesChecked s layout cache slabs worker object reply after) → KeepsBoard s object after
from_keeps s None layout cache cpu worker object reply after done = (unchecked_keeps s layout cache cpu worker object reply after done).0
from_keeps s (Some slabs) layout cache cpu worker object reply after done = checked_keeps s layout cache slabs worker object reply after done

cache_keeps : (s : State) (live : Option Cache) (cache cpu worker object : ℕ) (reply : Reply) (after : State)
    → MatchOption live ⊥ (λ c. AllocatesFrom s c.layout cache cpu worker object reply after) → KeepsBoard s object after
cache_keeps s None cache cpu worker object reply after none = absurd none
cache_keeps s (Some live) cache cpu worker object reply after done = from_keeps s (checked_of s cache) live.layout cache cpu worker object reply after done

name_keeps : (s : State) (name : Option ℕ) (cpu worker object : ℕ) (reply : Reply) (after : State)
    → MatchOption name ((reply ≡ NoSuchCache) × (after ≡ s)) (λ cache. MatchOption (cache_of s cache) ⊥ (λ c. AllocatesFrom s c.layout cache cpu worker object reply after)) → KeepsBoard s object after
name_keeps s None cpu worker object reply after none = keeps-board s s after object refl refl refl refl none.1
name_keeps s (Some cache) cpu worker object reply after done = cache_keeps s (cache_of s cache) cache cpu worker object reply after done

-- an allocation of the cache of a name keeps the rest
pub named_keeps : (s : State) (place cpu worker object : ℕ) (reply : Reply) (after : State) → AllocatesNamed s place cpu worker object reply after → KeepsFound s after → KeepsOthers s object after
named_keeps s place cpu worker object reply after done found = keeps-others s object after (name_keeps s (named s place) cpu worker object reply after done) found

-- the frames of a range lie in it
range_usable : (a n most : ℕ) → 1 ≤ a → a + n ≤ most → All (λ frame. (1 ≤ frame) × (frame < most)) (range_with_len a n)
range_usable a n most one within k d below =
    let inside : k < n = omega (arith, length-range_with_len a n) in
    let is : get_or (range_with_len a n) k d ≡ a + k = get_or-range_with_len a n k d inside in
    rw is (omega arith, omega arith)

-- the pool of a machine before its first item
pub opening_pool : (frames : ℕ) → 2 ≤ frames → frames ≤ 4096 → pool.IsPool (pool.opening frames)
opening_pool frames least most = record {
  least = least;
  most = most;
  rising = IsStrictlyIncreasing-range_with_len 1 (frames - 1);
  usable = range_usable 1 (frames - 1) frames (omega arith) (omega arith);
  orders = refl;
}
