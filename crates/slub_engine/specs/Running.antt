-- A round in the order of the text while it is under way.
use Rattle.std.specs.Prelude.{◌≡◌, ℕ, ◌+◌, ◌^◌, ◌<◌, ◌≤◌, List, [], ◌∷◌, length, vec_capacity, All}
use Rattle.std.specs.List.{zip}
use Rattle.slub_trace.specs.declared.event.Event.{Event}
use Rattle.slub_trace.specs.declared.reply.Reply.{Reply}
use Rattle.slub_lists.specs.State.{State}
use Rattle.slub_lists.specs.Alloc.{checked_of}
use Rattle.slub_lists.specs.Coherent.{AddsReportsOf, IsCoherent, findable_in}
use Rattle.slub_trace.specs.Sound.{objects_of}
use Rattle.slub_slabinfo_text.specs.Lawful.{AreLedgers, IsUnheld, RunsEvents}
use Rattle.slub_engine.specs.Steps.{IsKnown, KeepsCaches, KeepsUnheld, most_found, told_in}
use Rattle.slub_engine.specs.declared.running.Running.{Running}

-- the replies so far, the first one first
abbrev pub replies_in : Running → List Reply
replies_in running = running.replies.items

-- room for the replies to so many events and for all that can be found damaged meanwhile, and what
-- was found before the round
pub record HasRoom (s : State) (most : ℕ) (running : Running) : Type 0 where
  pub few : most < 2 ^ 63
  pub replies : vec_capacity running.replies ≡ most
  pub damages : (running.damages.items ≡ []) × (vec_capacity running.damages ≡ most_found s most)
  pub told : running.told.items ≡ told_in s

-- a round of so many workers with at most so many events began on the machine `s`, these events
-- were answered one after the other, and the machine is now the last one; the replies are kept, and
-- the ledgers count them
pub record HasRun (s : State) (workers most : ℕ) (done : List Event) (running : Running)
    (now : State) : Type 0 where
  pub before : IsCoherent s
  pub coherent : IsCoherent now
  pub runs : RunsEvents s done (replies_in running) now
  pub answered : length (replies_in running) ≡ length done
  pub within : length done ≤ most
  pub counted : AreLedgers s (zip done (replies_in running)) workers running.ledgers.items
  pub caches : KeepsCaches s now
  pub reports : (cache : ℕ) → AddsReportsOf (checked_of s cache) (checked_of now cache)
  pub findable : findable_in now ≤ findable_in s + length done
  pub unheld : KeepsUnheld s (objects_of done) now
  pub room : HasRoom s most running

-- such a round may answer this event next
pub record MayAnswer (s : State) (workers most : ℕ) (done : List Event) (running : Running)
    (now : State) (event : Event) : Type 0 where
  pub run : HasRun s workers most done running now
  pub left : length done < most
  pub known : IsKnown now workers event
  pub unheld : All (IsUnheld now) (objects_of (event ∷ []))
