-- A free has one outcome.
use Rattle.std.proofs.Common.{◌≡◌, ℕ, get_or, Option, None, Result, Ok, Err, sym, ◌∙◌, MatchOption}
use Rattle.std.specs.Prelude.{MatchBool}
use Rattle.slub_object_layout.specs.declared.layout.Layout.{Layout}
use Rattle.slub_object_layout.specs.Layout.{address_of}
use Rattle.slub_cache_create.specs.declared.caches.Cache.{Cache}
use Rattle.slub_red_zone.specs.declared.checked.Run.{Run as SlabRun}
use Rattle.slub_trace.specs.declared.damage.Damage.{Damage}
use Rattle.slub_red_zone.specs.State.{CheckedState}
use Rattle.slub_red_zone.specs.Steps.{TakesBack}
use Rattle.slub_trace.specs.declared.reply.Reply.{Reply}
use Rattle.slub_trace.specs.declared.reply.Reply.TheVariants.{Freed, NotHeld}
use Rattle.slub_lists.specs.declared.lists.Held.{Held}
use Rattle.slub_lists.specs.State.{State}
use Rattle.slub_lists.specs.Alloc.{cache_of, checked_of}
use Rattle.slub_lists.specs.Checked.{FreesChecked, IsFreedOrKept, discarded_where, slot_of_held, with_checked}
use Rattle.slub_lists.specs.Free.{FreesUnchecked, freed, is_freeable, with_gone, with_taken}
use Rattle.slub_lists.specs.Freeing.{FreesHeld}
use Rattle.slub_law_alone.specs.Outcome.{HasOneOutcome}
use Rattle.slub_law_alone.specs.Events.{FreesHaveOneOutcome}
use Rattle.slub_law_alone.proofs.Steps.{exact, never, by_option, by_bool, through}
use Rattle.slub_law_alone.proofs.CheckedSlabs.{taken_back_one, taken_out_one}

unchecked_one : (s : State) (layout : Layout) (cpu worker object : ℕ) (held : Held) → HasOneOutcome Reply State (FreesUnchecked s layout cpu worker object held)
unchecked_one s layout cpu worker object held =
    exact Reply State (Freed (address_of held.frame held.index layout))
    (with_gone (freed (with_taken s object held.cache) layout held.cache cpu held.frame held.index) object worker held)

-- the machine where the object of a checked cache is free, and its slab maybe gone
abbrev freed_checked : State → ℕ → ℕ → Held → Option SlabRun → CheckedState → State
freed_checked s worker object held run last =
    with_gone (discarded_where (with_checked (with_taken s object held.cache) held.cache last) held.frame run) object worker held

taken_one : (s : State) (layout : Layout) (rest : CheckedState) (worker object : ℕ) (held : Held) (answer : Result (Unit {0}) Damage)
    → HasOneOutcome Reply State (IsFreedOrKept s layout rest worker object held answer)
taken_one s layout rest worker object held (Err damage) one other left right a b = (a.0 ∙ sym b.0, a.1 ∙ sym b.1)
taken_one s layout rest worker object held (Ok x) one other left right a b =
    let same = taken_out_one rest held.frame layout.min_partial a.1 b.1 a.2 b.2 a.3 b.3 in
    (a.0 ∙ sym b.0, a.4 ∙ (λ i. freed_checked s worker object held (same.0 i) (same.1 i)) ∙ sym b.4)

checked_one : (s : State) (layout : Layout) (slabs : CheckedState) (worker object : ℕ) (held : Held) → HasOneOutcome Reply State (FreesChecked s layout slabs worker object held)
checked_one s layout slabs worker object held =
    through Reply State (Result (Unit {0}) Damage) CheckedState (TakesBack slabs (slot_of_held held))
    (λ answer rest reply after. IsFreedOrKept s layout rest worker object held answer reply after)
    (taken_back_one slabs (slot_of_held held))
    (λ answer rest. taken_one s layout rest worker object held answer)

held_one : (s : State) (cpu worker object : ℕ) (held : Held) → HasOneOutcome Reply State (FreesHeld s cpu worker object held)
held_one s cpu worker object held =
    by_option Reply State Cache (cache_of s held.cache) (λ reply after. ⊥)
    (λ live reply after. MatchOption (checked_of s held.cache) (FreesUnchecked s live.layout cpu worker object held reply after)
    (λ slabs. FreesChecked s live.layout slabs worker object held reply after))
    (never Reply State)
    (λ live. by_option Reply State CheckedState (checked_of s held.cache) (FreesUnchecked s live.layout cpu worker object held)
    (λ slabs. FreesChecked s live.layout slabs worker object held) (unchecked_one s live.layout cpu worker object held)
    (λ slabs. checked_one s live.layout slabs worker object held))

pub frees_one : FreesHaveOneOutcome
frees_one s cpu worker object =
    by_option Reply State Held (get_or s.board object None) (λ reply after. (reply ≡ NotHeld) × (after ≡ s))
    (λ held reply after. MatchBool (is_freeable worker held.worker) (FreesHeld s cpu worker object held reply after) ((reply ≡ NotHeld) × (after ≡ s)))
    (exact Reply State NotHeld s)
    (λ held. by_bool Reply State (is_freeable worker held.worker) (FreesHeld s cpu worker object held) (λ reply after. (reply ≡ NotHeld) × (after ≡ s))
    (held_one s cpu worker object held) (exact Reply State NotHeld s))
