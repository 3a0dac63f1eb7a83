-- A round whose events are made one after the other, up to where a transaction id is spent.
use Rattle.std.specs.Prelude.{◌≡◌, ℕ, ◌<◌, ◌⊎◌, true, List, [], ◌∷◌, length, slice_index_or, None, IsSome}
use Rattle.slub_trace.specs.declared.event.Event.{Event}
use Rattle.slub_trace.specs.declared.event.Round.{Round}
use Rattle.slub_trace.specs.declared.trace.Trace.{Trace}
use Rattle.slub_lists.specs.State.{State}
use Rattle.slub_lists.specs.Alloc.{cache_of, checked_of}
use Rattle.slub_core.specs.declared.call.Call.{Call}
use Rattle.slub_core.specs.Setup.{Setup, cpu_number}
use Rattle.slub_core.specs.World.{world_of}
use Rattle.slub_core.specs.Alloc.{is_spent}
use Rattle.slub_core.specs.Run.{System}
use Rattle.slub_law_opening.specs.Laws.{MayOpen}
use Rattle.slub_law_opening.specs.Opening.{Beside, setup_of}
use Rattle.slub_calls.specs.Calls.{events_by}
use Rattle.slub_calls.specs.Laws.{MayDo}
use Rattle.slub_law_alone.specs.Alone.{alone, worker_at}
use Rattle.slub_law_alone.specs.Busy.{IsInCall}
use Rattle.slub_law_alone.specs.SerialLaws.{RunsAsLists, begun}
use Rattle.slub_law_alone.specs.Serial.{call_of, IsMade}

-- the worker has more calls to make than the `left` ones to its later events, and makes so many
-- turns of the first of them, after each of which it is in the call
pub record IsUnderWay (m : Setup) (system : System) (worker left turns : ℕ) : Type 0 where
  pub more : left < length (worker_at system worker).todo
  pub busy : IsInCall m system worker turns

-- turns in the order of the text come to this machine before the last event has its reply: some
-- events are made one after the other, each by turns of its worker alone, and the next one is under
-- way
abbrev pub ComesInText : Setup → (Event → Call) → List Event → System → System → Type 0
ComesInText m calls [] first here = ⊥
ComesInText m calls (event ∷ events) first here =
    ((turns : ℕ)
    × IsUnderWay m first event.worker (length (events_by event.worker events)) turns
    × (here ≡ alone m event.worker turns first))
    ⊎ ((turns : ℕ)
    × IsMade m first event.worker (calls event) (length (events_by event.worker events)) turns
    × ComesInText m calls events (alone m event.worker turns first) here)

-- they begin with a machine in which the id of an unchecked cache's word on one of the CPUs is
-- spent, or come to one: an allocation that loads the word gets no object by it, and a free goes to
-- the slab word
pub record SpendsAnId (s : State) (b : Beside) (round : Round) : Type 0 where
  pub here : System
  pub comes : ComesInText (setup_of s b) (call_of s.table round) round.events (begun s b round)
      here
  pub cache : ℕ
  pub cpu : ℕ
  pub cpu_there : cpu < s.cpus
  pub lives : IsSome (cache_of s cache)
  pub unchecked : checked_of s cache ≡ None
  pub spent : is_spent (setup_of s b)
      ((world_of (setup_of s b) here.value here.words).cpu (cpu_number cache cpu)) ≡ true

-- a round whose events are made one after the other gives what they give on lists, however near to
-- their end the ids are, or one is spent at its begin or on the way, before its last event has its
-- reply
abbrev pub RoundsInTextAreThoseOfListsOrSpend : Type 0
RoundsInTextAreThoseOfListsOrSpend =
    (s : State) (b : Beside) (trace : Trace) (round : Round) → MayOpen s b → MayDo s trace round
    → ((object : ℕ) → slice_index_or s.gone object None ≡ None)
    → RunsAsLists s b round ⊎ SpendsAnId s b round
