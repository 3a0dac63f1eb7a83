-- A round whose events are made one after the other, in the order of the text: each to its end,
-- with no turn of another worker in between.
use Rattle.std.specs.Prelude.{◌≡◌, ◌≢◌, ℕ, ◌<◌, ◌≤◌, ◌⊎◌, true, List, [], ◌∷◌, length, Some, All}
use Rattle.slub_trace.specs.declared.event.Event.{Event}
use Rattle.slub_trace.specs.declared.event.Round.{Round}
use Rattle.slub_trace.specs.declared.reply.Reply.{Reply}
use Rattle.slub_cache_create.specs.Table.{Table}
use Rattle.slub_trace.specs.Sound.{allocated, is_written}
use Rattle.slub_lists.specs.declared.lists.Held.{Held}
use Rattle.slub_lists.specs.State.{State}
use Rattle.slub_lists.specs.Coherent.{held_under}
use Rattle.slub_core.specs.declared.call.Call.{Call}
use Rattle.slub_core.specs.Setup.{Setup}
use Rattle.slub_core.specs.Run.{System}
use Rattle.slub_calls.specs.Calls.{call_for, events_by, rooms_for}
use Rattle.slub_law_alone.specs.Alone.{alone, worker_at, HasReply, HasWord}

-- ---- turns in the order of the text

-- what an event of the round calls for
abbrev pub call_of : Table → Round → Event → Call
call_of table round event =
    call_for table (rooms_for (events_by event.worker round.events)) event.cpu event.act

-- in so many turns of the worker alone its call has its reply, where it has more calls to make than
-- the `left` ones to its later events. In none, where the reply takes no step: it was given at once
-- after an earlier call, and the worker has no more calls to make than those
abbrev pub IsMade : Setup → System → ℕ → Call → ℕ → ℕ → Type 0
IsMade m system worker call left turns =
    ((turns ≡ 0) × (length (worker_at system worker).todo ≤ left))
    ⊎ ((left < length (worker_at system worker).todo)
    × ((reply : Reply) × HasReply m (worker_at system worker) call reply
    (worker_at (alone m worker turns system) worker)))

-- the events are made one after the other, each by turns of its worker alone
abbrev pub RunsInText : Setup → (Event → Call) → List Event → System → System → Type 0
RunsInText m calls [] first last = last ≡ first
RunsInText m calls (event ∷ events) first last =
    (turns : ℕ)
    × IsMade m first event.worker (calls event) (length (events_by event.worker events)) turns
    × RunsInText m calls events (alone m event.worker turns first) last

-- ---- words that were written

-- the same lists over other words of the frames, after these events, the last one first. What is in
-- an object of an unchecked cache when it is given, nobody knows
pub record IsSameWritten (events : List Event) (s t : State) : Type 0 where
  pub lists : t ≡ record s { memory = t.memory }
  pub sized : length t.memory ≡ length s.memory
  -- each word of an object that the events don't allocate is the same
  pub old : (object word : ℕ) (held : Held) → held_under s object ≡ Some held
      → All (λ event. allocated event.act ≢ Some object) events → HasWord s t held word
  -- and each that the holder of an object wrote since it was given
  pub words : (worker object word : ℕ) (held : Held) → held_under s object ≡ Some held
      → held.worker ≡ Some worker → is_written events worker object word ≡ true
      → HasWord s t held word
