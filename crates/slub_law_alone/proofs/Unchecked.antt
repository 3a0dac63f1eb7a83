-- No event makes a checked cache of one that is not, and none changes the names.
use Rattle.std.proofs.Common.{◌≡◌, ℕ, zero, suc, ℤ, Bool, true, false, eqb, List, [], ◌∷◌, get_or, set, fold, Option, Some, None, Result, Ok, Err, MatchOption, refl, sym, ◌∙◌, ap}
use Rattle.std.specs.Prelude.{IfSome, MatchBool, nat_lt}
use Rattle.std.specs.List.{range_with_len}
use Rattle.std.specs.Option.{option_map_or}
use Rattle.slub_object_layout.specs.declared.layout.Layout.{Layout}
use Rattle.slub_cache_create.specs.declared.caches.Cache.{Cache}
use Rattle.slub_trace.specs.declared.damage.Damage.{Damage}
use Rattle.slub_red_zone.specs.State.{CheckedState, objects_in, slab_of as checked_slab}
use Rattle.slub_red_zone.specs.Steps.{with_byte, with_word as slab_word}
use Rattle.slub_trace.specs.declared.reply.Reply.{Reply}
use Rattle.slub_trace.specs.declared.reply.Reply.TheVariants.{Checked, NoSuchCache, NotChecked, NotHeld, OutOfObject, Poked, Wrote}
use Rattle.slub_lists.specs.declared.lists.Held.{Held}
use Rattle.slub_lists.specs.State.{State}
use Rattle.slub_lists.specs.Alloc.{Allocates, cache_of, checked_of, lists_of, named, node_of, own_free}
use Rattle.slub_lists.specs.Checked.{AllocatesChecked, FreesChecked, IsFreedOrKept, kept_by, slot_of_held, with_checked}
use Rattle.slub_lists.specs.Flush.{Flushes, flushed_cpu, flushed_of}
use Rattle.slub_lists.specs.Free.{FreesUnchecked, discarded, freed, freed_here, freed_there, is_current, is_freeable, with_freed, with_gone, with_taken, without_slab, inuse_of}
use Rattle.slub_lists.specs.Freeing.{Frees, FreesHeld}
use Rattle.slub_lists.specs.Named.{AllocatesFrom, AllocatesNamed}
use Rattle.slub_lists.specs.Shrink.{ShrinksChecked, ShrinksUnchecked, flushed, flushed_below, swept, swept_slab}
use Rattle.slub_lists.specs.Shrinking.{KeepsChecked}
use Rattle.slub_lists.specs.Trim.{Trims, TrimsCache}
use Rattle.slub_lists.specs.Words.{Pokes, PokesChecked, Writes, WritesHeld, held_by, inside, is_word, known_to, outside, with_word, word_at}
use Rattle.slub_lists.proofs.Flushing.{rest-both, rest-flushed, same-all}
use Rattle.slub_lists.proofs.FlushingCpu.{rest-flushed_of}
use Rattle.slub_lists.proofs.Keeps.{IsSame, unchecked_keeps}
use Rattle.slub_lists.proofs.KeepsFreed.{same_settled}
use Rattle.slub_lists.proofs.Moving.{pick}
use Rattle.slub_lists.proofs.Sweeping.{gone-rest}

-- the names and caches are as before, and what is not checked stays so
pub record KeepsUnchecked (s after : State) : Type 0 where
  pub table : after.table ≡ s.table
  pub unchecked : (cache : ℕ) → checked_of s cache ≡ None → checked_of after cache ≡ None

-- what is nowhere stays nowhere where something else is written over
none_set : (xs : List (Option CheckedState)) (place at : ℕ) (slabs : CheckedState) (x : Option CheckedState) → get_or xs place None ≡ Some slabs → get_or xs at None ≡ None → get_or (set xs place x) at None ≡ None
none_set [] place at slabs x was none = none
none_set (y ∷ ys) zero zero slabs x was none = absurd (let e : Some slabs ≡ None = sym was ∙ none in cc)
none_set (y ∷ ys) zero (suc at) slabs x was none = none
none_set (y ∷ ys) (suc place) zero slabs x was none = none
none_set (y ∷ ys) (suc place) (suc at) slabs x was none = none_set ys place at slabs x was none

module _ (s : State) where
  -- the slabs of all checked caches are as before
  of_same : (t after : State) → t.table ≡ s.table → t.checked ≡ s.checked → after ≡ t → KeepsUnchecked s after
  of_same t after table checked is = record {
    table = ap (λ (m : State). m.table) is ∙ table;
    unchecked = λ cache none. ap (λ (m : State). checked_of m cache) is ∙ ap (λ (xs : List (Option CheckedState)). get_or xs cache None) checked ∙ none;
  }

  -- nothing has changed
  of_none : (after : State) → after ≡ s → KeepsUnchecked s after
  of_none after is = of_same s after refl refl is

  -- those of one are others
  of_set : (t after : State) (cache : ℕ) (slabs : CheckedState) (x : Option CheckedState) → checked_of s cache ≡ Some slabs → t.table ≡ s.table → t.checked ≡ set s.checked cache x → after ≡ t → KeepsUnchecked s after
  of_set t after cache slabs x was table checked is = record {
    table = ap (λ (m : State). m.table) is ∙ table;
    unchecked = λ other none. ap (λ (m : State). checked_of m other) is ∙ ap (λ (xs : List (Option CheckedState)). get_or xs other None) checked ∙ none_set s.checked cache other slabs x was none;
  }

  -- ---- allocations

  alloc_from : (slabs : Option CheckedState) (layout : Layout) (cache cpu worker object : ℕ) (reply : Reply) (after : State) → slabs ≡ None
      → MatchOption slabs (Allocates s layout cache cpu worker object reply after) (λ slabs. AllocatesChecked s layout cache slabs worker object reply after) → KeepsUnchecked s after
  alloc_from None layout cache cpu worker object reply after none done =
      let kept = unchecked_keeps s layout cache cpu worker object reply after done in of_same after after kept.0.table kept.1 refl
  alloc_from (Some slabs) layout cache cpu worker object reply after none done = absurd cc

  alloc_live : (live : Option Cache) (cache cpu worker object : ℕ) (reply : Reply) (after : State) → checked_of s cache ≡ None
      → MatchOption live ⊥ (λ live. AllocatesFrom s live.layout cache cpu worker object reply after) → KeepsUnchecked s after
  alloc_live None cache cpu worker object reply after none done = absurd done
  alloc_live (Some live) cache cpu worker object reply after none done = alloc_from (checked_of s cache) live.layout cache cpu worker object reply after none done

  alloc_named : (name : Option ℕ) (cpu worker object : ℕ) (reply : Reply) (after : State) → IfSome name (λ cache. checked_of s cache ≡ None)
      → MatchOption name ((reply ≡ NoSuchCache) × (after ≡ s)) (λ cache. MatchOption (cache_of s cache) ⊥ (λ live. AllocatesFrom s live.layout cache cpu worker object reply after)) → KeepsUnchecked s after
  alloc_named None cpu worker object reply after none done = of_none after done.1
  alloc_named (Some cache) cpu worker object reply after none done = alloc_live (cache_of s cache) cache cpu worker object reply after none done

  pub alloc_keeps : (place cpu worker object : ℕ) (reply : Reply) (after : State) → IfSome (named s place) (λ cache. checked_of s cache ≡ None) → AllocatesNamed s place cpu worker object reply after → KeepsUnchecked s after
  alloc_keeps place cpu worker object reply after none done = alloc_named (named s place) cpu worker object reply after none done

  -- ---- frees

  free_unchecked : (layout : Layout) (cpu worker object : ℕ) (held : Held) (reply : Reply) (after : State) → FreesUnchecked s layout cpu worker object held reply after → KeepsUnchecked s after
  free_unchecked layout cpu worker object held reply after done =
      let t : State = with_taken s object held.cache in
      let u : State = freed t layout held.cache cpu held.frame held.index in
      let same : IsSame t u =
      pick (is_current held.frame (lists_of t held.cache cpu).current) (freed_here t held.cache cpu held.index) (freed_there t layout held.cache cpu held.frame held.index) (IsSame t) (refl, refl, refl, refl, refl)
      (same_settled (with_freed t held.frame held.index) layout held.cache cpu held.frame (own_free t held.frame)) in
      of_same (with_gone u object worker held) after same.2 same.3 done.1

  free_taken : (layout : Layout) (slabs rest : CheckedState) (worker object : ℕ) (held : Held) (answer : Result (Unit {0}) Damage) (reply : Reply) (after : State) → checked_of s held.cache ≡ Some slabs
      → IsFreedOrKept s layout rest worker object held answer reply after → KeepsUnchecked s after
  free_taken layout slabs rest worker object held (Err damage) reply after was done = of_same (kept_by s object worker held) after refl refl done.1
  free_taken layout slabs rest worker object held (Ok x) reply after was (said, None, last, empty, is) =
      of_set (with_gone (with_checked (with_taken s object held.cache) held.cache last) object worker held) after held.cache slabs (Some last) was refl refl is
  free_taken layout slabs rest worker object held (Ok x) reply after was (said, Some run, last, empty, is) =
      of_set (with_gone (discarded (with_checked (with_taken s object held.cache) held.cache last) held.frame) object worker held) after held.cache slabs (Some last) was refl refl is

  free_from : (x : Option CheckedState) (layout : Layout) (cpu worker object : ℕ) (held : Held) (reply : Reply) (after : State) → checked_of s held.cache ≡ x
      → MatchOption x (FreesUnchecked s layout cpu worker object held reply after) (λ slabs. FreesChecked s layout slabs worker object held reply after) → KeepsUnchecked s after
  free_from None layout cpu worker object held reply after is done = free_unchecked layout cpu worker object held reply after done
  free_from (Some slabs) layout cpu worker object held reply after is done = free_taken layout slabs done.1 worker object held done.0 reply after is done.3

  free_live : (live : Option Cache) (cpu worker object : ℕ) (held : Held) (reply : Reply) (after : State)
      → MatchOption live ⊥ (λ live. MatchOption (checked_of s held.cache) (FreesUnchecked s live.layout cpu worker object held reply after) (λ slabs. FreesChecked s live.layout slabs worker object held reply after)) → KeepsUnchecked s after
  free_live None cpu worker object held reply after done = absurd done
  free_live (Some live) cpu worker object held reply after done = free_from (checked_of s held.cache) live.layout cpu worker object held reply after refl done

  free_able : (able : Bool) (cpu worker object : ℕ) (held : Held) (reply : Reply) (after : State) → MatchBool able (FreesHeld s cpu worker object held reply after) ((reply ≡ NotHeld) × (after ≡ s)) → KeepsUnchecked s after
  free_able true cpu worker object held reply after done = free_live (cache_of s held.cache) cpu worker object held reply after done
  free_able false cpu worker object held reply after done = of_none after done.1

  free_number : (x : Option Held) (cpu worker object : ℕ) (reply : Reply) (after : State)
      → MatchOption x ((reply ≡ NotHeld) × (after ≡ s)) (λ held. MatchBool (is_freeable worker held.worker) (FreesHeld s cpu worker object held reply after) ((reply ≡ NotHeld) × (after ≡ s))) → KeepsUnchecked s after
  free_number None cpu worker object reply after done = of_none after done.1
  free_number (Some held) cpu worker object reply after done = free_able (is_freeable worker held.worker) cpu worker object held reply after done

  pub free_keeps : (cpu worker object : ℕ) (reply : Reply) (after : State) → Frees s cpu worker object reply after → KeepsUnchecked s after
  free_keeps cpu worker object reply after done = free_number (get_or s.board object None) cpu worker object reply after done

  -- ---- writes and pokes

  word_keeps : (x : Option CheckedState) (layout : Layout) (held : Held) (word value : ℕ) (after : State) → checked_of s held.cache ≡ x
      → after ≡ option_map_or (λ slabs. with_checked s held.cache (slab_word slabs (slot_of_held held) word value)) x (record s { memory = set s.memory (word_at layout held word) value }) → KeepsUnchecked s after
  word_keeps None layout held word value after is done = of_same (record s { memory = set s.memory (word_at layout held word) value }) after refl refl done
  word_keeps (Some slabs) layout held word value after is done =
      of_set (with_checked s held.cache (slab_word slabs (slot_of_held held) word value)) after held.cache slabs (Some (slab_word slabs (slot_of_held held) word value)) is refl refl done

  write_within : (b : Bool) (layout : Layout) (held : Held) (word value : ℕ) (reply : Reply) (after : State)
      → MatchBool b ((reply ≡ Wrote) × (after ≡ with_word s layout held word value)) ((reply ≡ OutOfObject) × (after ≡ s)) → KeepsUnchecked s after
  write_within true layout held word value reply after done = word_keeps (checked_of s held.cache) layout held word value after refl done.1
  write_within false layout held word value reply after done = of_none after done.1

  write_live : (live : Option Cache) (held : Held) (word value : ℕ) (reply : Reply) (after : State) → MatchOption live ⊥ (λ live. WritesHeld s live.layout held word value reply after) → KeepsUnchecked s after
  write_live None held word value reply after done = absurd done
  write_live (Some live) held word value reply after done = write_within (is_word live.layout word) live.layout held word value reply after done

  write_held : (x : Option Held) (word value : ℕ) (reply : Reply) (after : State)
      → MatchOption x ((reply ≡ NotHeld) × (after ≡ s)) (λ held. MatchOption (cache_of s held.cache) ⊥ (λ live. WritesHeld s live.layout held word value reply after)) → KeepsUnchecked s after
  write_held None word value reply after done = of_none after done.1
  write_held (Some held) word value reply after done = write_live (cache_of s held.cache) held word value reply after done

  pub write_keeps : (worker object word value : ℕ) (reply : Reply) (after : State) → Writes s worker object word value reply after → KeepsUnchecked s after
  write_keeps worker object word value reply after done = write_held (held_by s worker object) word value reply after done

  poke_slot : (b : Bool) (slabs : CheckedState) (held : Held) (offset : ℤ) (byte : ℕ) (reply : Reply) (after : State) → checked_of s held.cache ≡ Some slabs
      → MatchBool b ((reply ≡ Poked) × (after ≡ with_checked s held.cache (with_byte slabs (slot_of_held held) offset byte))) ((reply ≡ NotHeld) × (after ≡ s)) → KeepsUnchecked s after
  poke_slot true slabs held offset byte reply after was done =
      of_set (with_checked s held.cache (with_byte slabs (slot_of_held held) offset byte)) after held.cache slabs (Some (with_byte slabs (slot_of_held held) offset byte)) was refl refl done.1
  poke_slot false slabs held offset byte reply after was done = of_none after done.1

  poke_checked : (x : Option CheckedState) (held : Held) (offset : ℤ) (byte : ℕ) (reply : Reply) (after : State) → checked_of s held.cache ≡ x
      → MatchOption x ((reply ≡ NotChecked) × (after ≡ s)) (λ slabs. PokesChecked s slabs held offset byte reply after) → KeepsUnchecked s after
  poke_checked None held offset byte reply after is done = of_none after done.1
  poke_checked (Some slabs) held offset byte reply after is (outside out said now) = of_none after now
  poke_checked (Some slabs) held offset byte reply after is (inside within done) =
      poke_slot (nat_lt held.index (objects_in (checked_slab slabs held.frame))) slabs held offset byte reply after is done

  poke_known : (x : Option Held) (offset : ℤ) (byte : ℕ) (reply : Reply) (after : State)
      → MatchOption x ((reply ≡ NotHeld) × (after ≡ s)) (λ held. MatchOption (checked_of s held.cache) ((reply ≡ NotChecked) × (after ≡ s)) (λ slabs. PokesChecked s slabs held offset byte reply after)) → KeepsUnchecked s after
  poke_known None offset byte reply after done = of_none after done.1
  poke_known (Some held) offset byte reply after done = poke_checked (checked_of s held.cache) held offset byte reply after refl done

  pub poke_keeps : (worker object : ℕ) (offset : ℤ) (byte : ℕ) (reply : Reply) (after : State) → Pokes s worker object offset byte reply after → KeepsUnchecked s after
  poke_keeps worker object offset byte reply after done = poke_known (known_to s worker object) offset byte reply after done

-- ---- trims and flushes

-- what keeps the checked caches one by one keeps them all along
rest_fold : (f : State → ℕ → State) → ((s : State) (x : ℕ) → KeepsChecked s (f s x)) → (s : State) (xs : List ℕ) → KeepsChecked s (fold f s xs)
rest_fold f keeps s [] = same-all s
rest_fold f keeps s (x ∷ xs) = rest-both s (f s x) (fold f (f s x) xs) (keeps s x) (rest_fold f keeps (f s x) xs)

rest_swept_slab : (cache : ℕ) (s : State) (frame : ℕ) → KeepsChecked s (swept_slab cache s frame)
rest_swept_slab cache s frame = pick (eqb (inuse_of s frame) 0) (discarded (without_slab s cache frame) frame) s (KeepsChecked s) (gone-rest s cache frame) (same-all s)

module _ (s : State) where
  -- a cache that is not checked is shrunk
  rest_shrunk : (min_partial cache : ℕ) (after : State) → ShrinksUnchecked s min_partial cache after → after.checked ≡ s.checked
  rest_shrunk min_partial cache after done =
      let t : State = flushed_below s min_partial cache s.cpus in
      let u : State = swept t cache in
      let first : KeepsChecked s t = rest_fold (flushed min_partial cache) (rest-flushed min_partial cache) s (range_with_len 0 s.cpus) in
      let second : KeepsChecked t u = rest_fold (swept_slab cache) (rest_swept_slab cache) t (node_of t cache) in
      ap (λ (m : State). m.checked) done.2 ∙ second.checked ∙ first.checked

  shrunk_kind : (x : Option CheckedState) (min_partial cache : ℕ) (after : State) → x ≡ None → MatchOption x (ShrinksUnchecked s min_partial cache after) (λ slabs. ShrinksChecked s cache slabs after) → after.checked ≡ s.checked
  shrunk_kind None min_partial cache after none done = rest_shrunk min_partial cache after done
  shrunk_kind (Some slabs) min_partial cache after none done = absurd cc

  shrunk_live : (live : Option Cache) (cache : ℕ) (after : State) → checked_of s cache ≡ None
      → MatchOption live ⊥ (λ live. MatchOption (checked_of s cache) (ShrinksUnchecked s live.layout.min_partial cache after) (λ slabs. ShrinksChecked s cache slabs after)) → after.checked ≡ s.checked
  shrunk_live None cache after none done = absurd done
  shrunk_live (Some live) cache after none done = shrunk_kind (checked_of s cache) live.layout.min_partial cache after none done

  trim_checked : (x : Option CheckedState) (cache : ℕ) (reply : Reply) (after : State) → checked_of s cache ≡ x
      → MatchOption x (TrimsCache s cache reply after) (λ slabs. (reply ≡ Checked) × (after ≡ s)) → KeepsUnchecked s after
  trim_checked None cache reply after none done = of_same s after after done.2.held.table (shrunk_live (cache_of s cache) cache after none done.2.steps) refl
  trim_checked (Some slabs) cache reply after was done = of_none s after done.1

  trim_named : (name : Option ℕ) (reply : Reply) (after : State)
      → MatchOption name ((reply ≡ NoSuchCache) × (after ≡ s)) (λ cache. MatchOption (checked_of s cache) (TrimsCache s cache reply after) (λ slabs. (reply ≡ Checked) × (after ≡ s))) → KeepsUnchecked s after
  trim_named None reply after done = of_none s after done.1
  trim_named (Some cache) reply after done = trim_checked (checked_of s cache) cache reply after refl done

  pub trim_keeps : (place : ℕ) (reply : Reply) (after : State) → Trims s place reply after → KeepsUnchecked s after
  trim_keeps place reply after done = trim_named (named s place) reply after done

  pub flush_keeps : (cpu : ℕ) (reply : Reply) (after : State) → Flushes s cpu reply after → KeepsUnchecked s after
  flush_keeps cpu reply after done =
      let kept : KeepsChecked s (flushed_cpu s cpu) = rest_fold (flushed_of cpu) (rest-flushed_of cpu) s s.table.ages in
      of_same s (flushed_cpu s cpu) after kept.held.table kept.checked done.steps

  pub read_keeps : (after : State) → after ≡ s → KeepsUnchecked s after
  read_keeps after is = of_none s after is
