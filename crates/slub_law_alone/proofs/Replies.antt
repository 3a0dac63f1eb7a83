-- Replies of a worker alone: memory is never refused.
use Rattle.std.proofs.Common.{◌≡◌, ℕ, Bool, true, false, get_or, Option, Some, None, Result, Ok, Err, MatchOption, MatchBool, refl, ap, sym}
use Rattle.slub_trace.specs.declared.reply.Reply.{Reply}
use Rattle.slub_trace.specs.declared.reply.Reply.TheVariants.{NoFrames, NotHeld, OutOfObject, Value, Wrote}
use Rattle.slub_trace.specs.declared.reply.Kind.{Kind}
use Rattle.slub_trace.specs.declared.reply.Kind.TheVariants.{LacksMemory}
use Rattle.slub_trace.specs.Kinds.{gives, is_given, is_no_memory, kind_of, lacks_memory}
use Rattle.slub_object_layout.specs.declared.layout.Layout.{Layout}
use Rattle.slub_cache_create.specs.declared.caches.Cache.{Cache}
use Rattle.slub_red_zone.specs.State.{CheckedState}
use Rattle.slub_trace.specs.declared.damage.Damage.{Damage}
use Rattle.slub_lists.specs.declared.lists.Held.{Held}
use Rattle.slub_lists.specs.State.{State}
use Rattle.slub_lists.specs.Alloc.{cache_of, checked_of}
use Rattle.slub_lists.specs.Checked.{FreesChecked, IsFreedOrKept}
use Rattle.slub_lists.specs.Free.{FreesUnchecked, is_freeable}
use Rattle.slub_lists.specs.Freeing.{Frees, FreesHeld}
use Rattle.slub_lists.specs.Words.{Reads, ReadsHeld, Writes, WritesHeld, held_by, is_word, with_word, word_of}

-- ---- allocations

given-memory : (kind : Kind) → gives kind ≡ true → lacks_memory kind ≡ false
given-memory LacksMemory is = sym is
given-memory _ is = refl

pub alloc-memory : (reply : Reply) (given : Bool) → is_given reply ≡ given → (given ≡ false → reply ≡ NoFrames) → is_no_memory reply ≡ false
alloc-memory reply true is lacks = given-memory (kind_of reply) is
alloc-memory reply false is lacks = ap is_no_memory (lacks refl)

-- ---- frees

module _ (s after : State) (cpu worker object : ℕ) (reply : Reply) where
  kept-memory : (layout : Layout) (rest : CheckedState) (held : Held) (answer : Result (Unit {0}) Damage) → IsFreedOrKept s layout rest worker object held answer reply after → is_no_memory reply ≡ false
  kept-memory layout rest held (Err damage) done = ap is_no_memory done.0
  kept-memory layout rest held (Ok x) done = ap is_no_memory done.0

  either-memory : (layout : Layout) (held : Held) (x : Option CheckedState) → MatchOption x (FreesUnchecked s layout cpu worker object held reply after) (λ slabs. FreesChecked s layout slabs worker object held reply after) → is_no_memory reply ≡ false
  either-memory layout held None done = ap is_no_memory done.0
  either-memory layout held (Some slabs) done = kept-memory layout done.1 held done.0 done.3

  live-memory : (held : Held) (x : Option Cache) → MatchOption x ⊥ (λ live. MatchOption (checked_of s held.cache) (FreesUnchecked s live.layout cpu worker object held reply after) (λ slabs. FreesChecked s live.layout slabs worker object held reply after)) → is_no_memory reply ≡ false
  live-memory held None none = absurd none
  live-memory held (Some live) done = either-memory live.layout held (checked_of s held.cache) done

  able-memory : (held : Held) (b : Bool) → MatchBool b (FreesHeld s cpu worker object held reply after) ((reply ≡ NotHeld) × (after ≡ s)) → is_no_memory reply ≡ false
  able-memory held true done = live-memory held (cache_of s held.cache) done
  able-memory held false none = ap is_no_memory none.0

  named-memory : (x : Option Held) → MatchOption x ((reply ≡ NotHeld) × (after ≡ s)) (λ held. MatchBool (is_freeable worker held.worker) (FreesHeld s cpu worker object held reply after) ((reply ≡ NotHeld) × (after ≡ s))) → is_no_memory reply ≡ false
  named-memory None none = ap is_no_memory none.0
  named-memory (Some held) done = able-memory held (is_freeable worker held.worker) done

  pub free-memory : Frees s cpu worker object reply after → is_no_memory reply ≡ false
  free-memory done = named-memory (get_or s.board object None) done

-- ---- words

module _ (s after : State) (worker object word value : ℕ) (reply : Reply) where
  in-memory : (held : Held) (live : Cache) (b : Bool) → MatchBool b ((reply ≡ Wrote) × (after ≡ with_word s live.layout held word value)) ((reply ≡ OutOfObject) × (after ≡ s)) → is_no_memory reply ≡ false
  in-memory held live true done = ap is_no_memory done.0
  in-memory held live false done = ap is_no_memory done.0

  cache-memory : (held : Held) (x : Option Cache) → MatchOption x ⊥ (λ live. WritesHeld s live.layout held word value reply after) → is_no_memory reply ≡ false
  cache-memory held None none = absurd none
  cache-memory held (Some live) done = in-memory held live (is_word live.layout word) done

  by-memory : (x : Option Held) → MatchOption x ((reply ≡ NotHeld) × (after ≡ s)) (λ held. MatchOption (cache_of s held.cache) ⊥ (λ live. WritesHeld s live.layout held word value reply after)) → is_no_memory reply ≡ false
  by-memory None none = ap is_no_memory none.0
  by-memory (Some held) done = cache-memory held (cache_of s held.cache) done

  pub write-memory : Writes s worker object word value reply after → is_no_memory reply ≡ false
  write-memory done = by-memory (held_by s worker object) done

module _ (s : State) (worker object word : ℕ) (reply : Reply) where
  read-in : (held : Held) (live : Cache) (b : Bool) → MatchBool b (reply ≡ Value (word_of s live.layout held word)) (reply ≡ OutOfObject) → is_no_memory reply ≡ false
  read-in held live true done = ap is_no_memory done
  read-in held live false done = ap is_no_memory done

  read-cache : (held : Held) (x : Option Cache) → MatchOption x ⊥ (λ live. ReadsHeld s live.layout held word reply) → is_no_memory reply ≡ false
  read-cache held None none = absurd none
  read-cache held (Some live) done = read-in held live (is_word live.layout word) done

  read-by : (x : Option Held) → MatchOption x (reply ≡ NotHeld) (λ held. MatchOption (cache_of s held.cache) ⊥ (λ live. ReadsHeld s live.layout held word reply)) → is_no_memory reply ≡ false
  read-by None none = ap is_no_memory none
  read-by (Some held) done = read-cache held (cache_of s held.cache) done

  pub read-memory : Reads s worker object word reply → is_no_memory reply ≡ false
  read-memory done = read-by (held_by s worker object) done
