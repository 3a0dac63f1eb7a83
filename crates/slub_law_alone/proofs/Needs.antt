-- What an event needs of the transaction ids that it finds, and ids before a round that are enough for each of its events.
use Rattle.std.proofs.Common.{◌≡◌, ℕ, ◌+◌, ◌*◌, ◌^◌, ◌<◌, ◌≤◌, ◌&&◌, ◌==◌, List, ◌∷◌, length, None, Some, arith}
use Rattle.std.specs.Prelude.{IsSome, is_some}
use Rattle.slub_trace.specs.declared.reply.Reply.{Reply}
use Rattle.slub_cache_create.specs.Table.{Table}
use Rattle.slub_trace.specs.declared.event.Act.{Act}
use Rattle.slub_trace.specs.declared.event.Act.TheVariants as act
use Rattle.slub_trace.specs.declared.event.Event.{Event}
use Rattle.slub_trace.specs.declared.event.Round.{Round}
use Rattle.slub_lists.specs.declared.lists.Held.{Held}
use Rattle.slub_lists.specs.State.{State}
use Rattle.slub_lists.specs.Alloc.{cache_of, checked_of, lists_of}
use Rattle.slub_lists.specs.Coherent.{held_under}
use Rattle.slub_core.specs.Run.{System}
use Rattle.slub_core.specs.Setup.{cpu_number}
use Rattle.slub_core.specs.World.{World}
use Rattle.slub_law_opening.specs.Opening.{Beside, tid_of}
use Rattle.slub_calls.specs.Calls.{cache_named}
use Rattle.slub_law_alone.specs.Calls.{HasIdsFor}
use Rattle.slub_calls.specs.Changes.{changes_before_giving}
use Rattle.slub_calls.specs.Events.{changes_of, most_changes}
use Rattle.slub_law_alone.proofs.Acts.{cpus-alloc, cpus-free, event_of, lives-alloc, lives-free, once, one-most, plain-first, twice}
use Rattle.slub_law_alone.proofs.Ids.{has-ids}
use Rattle.slub_law_alone.proofs.Middle.{IsInText}

-- no id is spent before the last change of an allocation, or before that of a free
abbrev pub Needs : Table → State → Beside → ℕ → Act → Type 0
Needs table t d cpu (act.Alloc place object) = (cache : ℕ) → cache_named table place ≡ Some cache → HasIdsFor t d cache cpu (1 + changes_before_giving t cache cpu)
Needs table t d cpu (act.Free object) = (held : Held) → held_under t object ≡ Some held → HasIdsFor t d held.cache cpu 1
Needs table t d cpu _ = Unit {0}

-- the ids of the unchecked caches' words are enough for so many changes of each
abbrev pub AreEnough : State → Beside → (ℕ → ℕ) → Type 0
AreEnough s b most = (cache cpu : ℕ) → cpu < s.cpus → IsSome (cache_of s cache) → checked_of s cache ≡ None → tid_of b (cpu_number cache cpu) + (most (cpu_number cache cpu) + 1) * b.step < 2 ^ 32

module _ (s0 : State) (b0 : Beside) (round : Round) (opening : World) (most : ℕ → ℕ) (ids : AreEnough s0 b0 most) where
  pub needed : (line worker cpu : ℕ) (a : Act) (events past : List Event) (told : ℕ → List Reply) (s t : State) (d : Beside) (system : System) → IsInText s0 b0 round opening (event_of line worker cpu a ∷ events) past told s t d system → worker < round.workers
      → ((n : ℕ) → changes_of s0.table past n + most_changes s0.table n cpu a ≤ most n) → Needs s0.table t d cpu a
  needed line worker cpu (act.Alloc place object) events past told s t d system is below few = λ cache live unchecked.
      let word = cpu_number cache cpu in
      let fits = few word in
      let two = twice s0 b0 round opening line worker cpu place object events past told s t d system is below cache live in
      let before = one-most ((length (lists_of t cache cpu).free == 0) && is_some (lists_of t cache cpu).current) in
      has-ids (changes_of s0.table past) most (1 + changes_before_giving t cache cpu) word (2 ^ 32) b0 d is.grown (omega (arith, fits, two, before))
      (ids cache cpu (cpus-alloc s0 b0 round opening line worker cpu place object events past told s t d system is below cache live).0 (lives-alloc s0 b0 round opening line worker cpu place object events past told s t d system is below cache live)
      (plain-first s0 b0 round opening line worker cpu (act.Alloc place object) events past told s t d system is below cache unchecked))
  needed line worker cpu (act.Free object) events past told s t d system is below few = λ held found unchecked.
      let word = cpu_number held.cache cpu in
      let fits = few word in
      let one = once s0 b0 round opening line worker cpu object events past told s t d system is below held.cache in
      has-ids (changes_of s0.table past) most 1 word (2 ^ 32) b0 d is.grown (omega (arith, fits, one))
      (ids held.cache cpu (cpus-free s0 b0 round opening line worker cpu object events past told s t d system is below).0 (lives-free s0 b0 round opening line worker cpu object events past told s t d system is below held found)
      (plain-first s0 b0 round opening line worker cpu (act.Free object) events past told s t d system is below held.cache unchecked))
  needed line worker cpu (act.Write word object value) events past told s t d system is below few = tt
  needed line worker cpu (act.Read word object) events past told s t d system is below few = tt
  needed line worker cpu (act.Poke object offset byte) events past told s t d system is below few = tt
  needed line worker cpu (act.Trim place) events past told s t d system is below few = tt
  needed line worker cpu act.Flush events past told s t d system is below few = tt
