-- An allocation has one outcome where memory is wanting both times or neither time.
use Rattle.std.proofs.Common.{◌≡◌, ℕ, ◌⊎◌, inl, inr, false, List, ◌∷◌, get_or, drop, Option, Some, None, Result, Ok, Err, refl, sym, ◌∙◌, ap, MatchOption, MatchResult}
use Rattle.std.specs.Prelude.{IfSome}
use Rattle.std.proofs.lemmas.Bool.{false≢true}
use Rattle.slub_page_pool.specs.FreeFrames.{FreeFrames}
use Rattle.slub_object_layout.specs.declared.layout.Layout.{Layout}
use Rattle.slub_object_layout.specs.Layout.{address_of}
use Rattle.slub_cache_create.specs.declared.caches.Cache.{Cache}
use Rattle.slub_red_zone.specs.declared.checked.CheckedGive.{CheckedGive}
use Rattle.slub_red_zone.specs.declared.checked.CheckedGive.TheVariants as give
use Rattle.slub_red_zone.specs.declared.checked.Slot.{Slot}
use Rattle.slub_red_zone.specs.State.{CheckedState}
use Rattle.slub_red_zone.specs.Steps.{Gives as GivesObject}
use Rattle.slub_trace.specs.declared.reply.Reply.{Reply}
use Rattle.slub_trace.specs.declared.reply.Reply.TheVariants.{Given, NoFrames, NoMemory, NoSuchCache}
use Rattle.slub_trace.specs.Kinds.{is_no_memory}
use Rattle.slub_lists.specs.declared.lists.Run.{Run}
use Rattle.slub_lists.specs.State.{State}
use Rattle.slub_lists.specs.Alloc.{Allocates, AllocatesNew, FindsRun, Gives, cache_of, checked_of, lists_of, named, stocked, with_given, with_new_slab}
use Rattle.slub_lists.specs.Checked.{AllocatesChecked, AllocatesNewChecked, GivesOrMakes, GivesSlot, LacksMemory, LacksRun, first_slot, with_checked, with_checked_slab}
use Rattle.slub_lists.specs.Named.{AllocatesFrom}
use Rattle.slub_law_alone.specs.Outcome.{HasOneOutcome, HasOneOutcomeByMemory}
use Rattle.slub_law_alone.specs.Events.{AllocationsHaveOneOutcome, UncheckedAllocationsHaveOneOutcome}
use Rattle.slub_law_alone.proofs.Steps.{exact, never, by_option, through}
use Rattle.slub_law_alone.proofs.Pool.{searches_one}
use Rattle.slub_law_alone.proofs.CheckedSlabs.{gives_one}

-- ---- from a cache that is not checked

-- the machine that gave an object of the CPU freelist
abbrev given_at : State → ℕ → ℕ → ℕ → ℕ → ℕ → ℕ → List ℕ → State
given_at s cache cpu worker object frame index rest =
    with_given s cache cpu (record { current = Some frame; free = rest; partial = (lists_of s cache cpu).partial }) object
    (record { frame = frame; index = index; cache = cache; worker = Some worker })

given_one : (s : State) (layout : Layout) (cache cpu worker object : ℕ) → HasOneOutcome Reply State (Gives s layout cache cpu worker object)
given_one s layout cache cpu worker object one other left right a b =
    let current : Some a.frame ≡ Some b.frame = sym a.current ∙ b.current in
    let frames : a.frame ≡ b.frame = cc in
    let first : a.index ∷ a.rest ≡ b.index ∷ b.rest = sym a.first ∙ b.first in
    let indexes : a.index ≡ b.index = ap (λ (xs : List ℕ). get_or xs 0 0) first in
    let rests : a.rest ≡ b.rest = ap (λ (xs : List ℕ). drop 1 xs) first in (
      a.address ∙ (λ i. Given (address_of (frames i) (indexes i) layout)) ∙ sym b.address,
      a.given ∙ (λ i. given_at s cache cpu worker object (frames i) (indexes i) (rests i)) ∙ sym b.given,
    )

new_one : (s : State) (layout : Layout) (cache cpu worker object : ℕ) → HasOneOutcome Reply State (AllocatesNew s layout cache cpu worker object)
new_one s layout cache cpu worker object =
    through Reply State (Option Run) FreeFrames (FindsRun s.pool layout)
    (λ run pool reply after. MatchOption run ((reply ≡ NoFrames) × (after ≡ record s { pool = pool })) (λ found. Gives (with_new_slab s cache cpu pool found) layout cache cpu worker object reply after))
    (searches_one s.pool layout)
    (λ run pool. by_option Reply State Run run (λ reply after. (reply ≡ NoFrames) × (after ≡ record s { pool = pool }))
    (λ found reply after. Gives (with_new_slab s cache cpu pool found) layout cache cpu worker object reply after)
    (exact Reply State NoFrames (record s { pool = pool }))
    (λ found. given_one (with_new_slab s cache cpu pool found) layout cache cpu worker object))

unchecked_one : (s : State) (layout : Layout) (cache cpu worker object : ℕ) → HasOneOutcome Reply State (Allocates s layout cache cpu worker object)
unchecked_one s layout cache cpu worker object = by_stock (stocked s layout cache cpu)
  where
    by_stock : (stock : Result State State) → HasOneOutcome Reply State (λ reply after. MatchResult stock (λ there. Gives there layout cache cpu worker object reply after) (λ bare. AllocatesNew bare layout cache cpu worker object reply after))
    by_stock (Ok there) one other left right a b = given_one there layout cache cpu worker object one other left right a b
    by_stock (Err bare) one other left right a b = new_one bare layout cache cpu worker object one other left right a b

-- ---- where memory may be wanting

-- what has one outcome has one
whatever : (Does : Reply → State → Type 0) → HasOneOutcome Reply State Does → HasOneOutcomeByMemory Does
whatever Does is one other left right memory a b = is one other left right a b

-- a reply that memory was wanting, and another
apart : (one other : Reply) → is_no_memory one ≡ is_no_memory other → one ≡ NoMemory → is_no_memory other ≡ false → ⊥
apart one other memory lacks there = false≢true (sym there ∙ sym memory ∙ ap is_no_memory lacks)

-- what is there decides
by_option_too : (X : Type 0) (x : Option X) (P : Reply → State → Type 0) (Q : X → Reply → State → Type 0) → HasOneOutcomeByMemory P → ((v : X) → HasOneOutcomeByMemory (Q v))
    → HasOneOutcomeByMemory (λ one left. MatchOption x (P one left) (λ v. Q v one left))
by_option_too X None P Q p q one other left right memory a b = p one other left right memory a b
by_option_too X (Some v) P Q p q one other left right memory a b = q v one other left right memory a b

-- a step before has one outcome
through_too : (X Y : Type 0) (D : X → Y → Type 0) (E : X → Y → Reply → State → Type 0) → HasOneOutcome X Y D → ((x : X) (y : Y) → HasOneOutcomeByMemory (E x y))
    → HasOneOutcomeByMemory (λ one left. (x : X) × (y : Y) × D x y × E x y one left)
through_too X Y D E d e one other left right memory a b =
    through Reply State X Y D (λ x y reply after. (is_no_memory reply ≡ is_no_memory other) × E x y reply after) d
    (λ x y r q t u c f. e x y r q t u (c.0 ∙ sym f.0) c.1 f.1) one other left right (a.0, a.1, a.2, (memory, a.3)) (b.0, b.1, b.2, (refl, b.3))

-- ---- from a checked cache

slot_one : (s : State) (layout : Layout) (cache worker object : ℕ) (slot : Slot) → HasOneOutcome Reply State (GivesSlot s layout cache worker object slot)
slot_one s layout cache worker object slot one other left right a b = (a.address ∙ sym b.address, a.given ∙ sym b.given)

made_one : (s : State) (layout : Layout) (cache worker object : ℕ) (slabs : CheckedState) (pool : FreeFrames) (run : Run)
    → HasOneOutcomeByMemory (λ reply after. LacksMemory s pool run reply after ⊎ GivesSlot (with_checked_slab s cache pool run slabs) layout cache worker object (first_slot run) reply after)
made_one s layout cache worker object slabs pool run one other left right memory (inl a) (inl b) = (a.0 ∙ sym b.0, a.1 ∙ sym b.1)
made_one s layout cache worker object slabs pool run one other left right memory (inl a) (inr b) = absurd (apart one other memory a.0 (ap is_no_memory b.address))
made_one s layout cache worker object slabs pool run one other left right memory (inr a) (inl b) = absurd (apart other one (sym memory) b.0 (ap is_no_memory a.address))
made_one s layout cache worker object slabs pool run one other left right memory (inr a) (inr b) =
    slot_one (with_checked_slab s cache pool run slabs) layout cache worker object (first_slot run) one other left right a b

new_checked_one : (s : State) (layout : Layout) (cache : ℕ) (slabs : CheckedState) (worker object : ℕ) → HasOneOutcomeByMemory (AllocatesNewChecked s layout cache slabs worker object)
new_checked_one s layout cache slabs worker object =
    through_too (Option Run) FreeFrames (FindsRun s.pool layout)
    (λ run pool reply after. MatchOption run (LacksRun s pool reply after)
    (λ found. LacksMemory s pool found reply after ⊎ GivesSlot (with_checked_slab s cache pool found slabs) layout cache worker object (first_slot found) reply after))
    (searches_one s.pool layout)
    (λ run pool. by_option_too Run run (LacksRun s pool)
    (λ found reply after. LacksMemory s pool found reply after ⊎ GivesSlot (with_checked_slab s cache pool found slabs) layout cache worker object (first_slot found) reply after)
    (whatever (LacksRun s pool) (exact Reply State NoFrames (record s { pool = pool })))
    (made_one s layout cache worker object slabs pool))

or_made_one : (s : State) (layout : Layout) (cache : ℕ) (slabs : CheckedState) (worker object : ℕ) (answer : CheckedGive)
    → HasOneOutcomeByMemory (GivesOrMakes s layout cache slabs worker object answer)
or_made_one s layout cache slabs worker object (give.Given slot) one other left right memory a b = slot_one s layout cache worker object slot one other left right a b
or_made_one s layout cache slabs worker object give.Empty one other left right memory a b = new_checked_one s layout cache slabs worker object one other left right memory a b

checked_one : (s : State) (layout : Layout) (cache : ℕ) (slabs : CheckedState) (worker object : ℕ) → HasOneOutcomeByMemory (AllocatesChecked s layout cache slabs worker object)
checked_one s layout cache slabs worker object =
    through_too CheckedGive CheckedState (GivesObject slabs)
    (λ answer rest reply after. GivesOrMakes (with_checked s cache rest) layout cache rest worker object answer reply after)
    (gives_one slabs)
    (λ answer rest. or_made_one (with_checked s cache rest) layout cache rest worker object answer)

-- ---- from the cache that a name names

from_one : (s : State) (layout : Layout) (cache cpu worker object : ℕ) → HasOneOutcomeByMemory (AllocatesFrom s layout cache cpu worker object)
from_one s layout cache cpu worker object =
    by_option_too CheckedState (checked_of s cache) (Allocates s layout cache cpu worker object)
    (λ slabs. AllocatesChecked s layout cache slabs worker object)
    (whatever (Allocates s layout cache cpu worker object) (unchecked_one s layout cache cpu worker object))
    (λ slabs. checked_one s layout cache slabs worker object)

-- no cache has the number
nobody : HasOneOutcomeByMemory (λ reply after. ⊥)
nobody = whatever (λ reply after. ⊥) (never Reply State)

pub allocations_one : AllocationsHaveOneOutcome
allocations_one s place cpu worker object =
    by_option_too ℕ (named s place) (λ reply after. (reply ≡ NoSuchCache) × (after ≡ s))
    (λ cache reply after. MatchOption (cache_of s cache) ⊥ (λ live. AllocatesFrom s live.layout cache cpu worker object reply after))
    (whatever (λ reply after. (reply ≡ NoSuchCache) × (after ≡ s)) (exact Reply State NoSuchCache s))
    (λ cache. by_option_too Cache (cache_of s cache) (λ reply after. ⊥) (λ live. AllocatesFrom s live.layout cache cpu worker object) nobody
    (λ live. from_one s live.layout cache cpu worker object))

-- where the cache is not checked
unchecked_from : (s : State) (layout : Layout) (cache cpu worker object : ℕ) (slabs : Option CheckedState) → slabs ≡ None
    → HasOneOutcome Reply State (λ reply after. MatchOption slabs (Allocates s layout cache cpu worker object reply after) (λ slabs. AllocatesChecked s layout cache slabs worker object reply after))
unchecked_from s layout cache cpu worker object None none one other left right a b = unchecked_one s layout cache cpu worker object one other left right a b
unchecked_from s layout cache cpu worker object (Some slabs) none one other left right a b = absurd cc

unchecked_named : (s : State) (name : Option ℕ) (cpu worker object : ℕ) → IfSome name (λ cache. checked_of s cache ≡ None)
    → HasOneOutcome Reply State (λ reply after. MatchOption name ((reply ≡ NoSuchCache) × (after ≡ s))
    (λ cache. MatchOption (cache_of s cache) ⊥ (λ live. AllocatesFrom s live.layout cache cpu worker object reply after)))
unchecked_named s None cpu worker object none = exact Reply State NoSuchCache s
unchecked_named s (Some cache) cpu worker object none =
    by_option Reply State Cache (cache_of s cache) (λ reply after. ⊥) (λ live. AllocatesFrom s live.layout cache cpu worker object) (never Reply State)
    (λ live. unchecked_from s live.layout cache cpu worker object (checked_of s cache) none)

pub unchecked_allocations_one : UncheckedAllocationsHaveOneOutcome
unchecked_allocations_one s place cpu worker object none = unchecked_named s (named s place) cpu worker object none
