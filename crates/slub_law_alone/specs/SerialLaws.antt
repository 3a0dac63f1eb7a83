-- A round in the order of the text gives what the lists give.
use Rattle.std.specs.Prelude.{◌≡◌, ℕ, ◌+◌, ◌*◌, ◌^◌, ◌<◌, false, List, reverse, All, None, IsSome, slice_index_or}
use Rattle.slub_trace.specs.declared.event.Event.{Event}
use Rattle.slub_trace.specs.declared.event.Round.{Round}
use Rattle.slub_trace.specs.declared.reply.Reply.{Reply}
use Rattle.slub_trace.specs.Kinds.{is_no_memory}
use Rattle.slub_trace.specs.declared.trace.Trace.{Trace}
use Rattle.slub_lists.specs.State.{State}
use Rattle.slub_lists.specs.Alloc.{cache_of, checked_of}
use Rattle.slub_core.specs.Setup.{cpu_number}
use Rattle.slub_core.specs.World.{World, world_of}
use Rattle.slub_core.specs.Law.{replies_of}
use Rattle.slub_core.specs.Opening.{opened}
use Rattle.slub_core.specs.Run.{System, IsFinished}
use Rattle.slub_law_opening.specs.Laws.{MayOpen}
use Rattle.slub_law_opening.specs.Opening.{Beside, setup_of, tid_of}
use Rattle.slub_law_opening.specs.Table.{system_of}
use Rattle.slub_calls.specs.Calls.{workers_of}
use Rattle.slub_calls.specs.Laws.{MayDo}
use Rattle.slub_slabinfo_text.specs.Lawful.{RunsEvents}
use Rattle.slub_law_alone.specs.Alone.{IsAtRest}
use Rattle.slub_law_alone.specs.Serial.{call_of, RunsInText, IsSameWritten}
use Rattle.slub_calls.specs.Replies.{AreReplies}
use Rattle.slub_calls.specs.Events.{changes_of, IsGrown, RunsWithIds}

-- ---- which rounds

-- nothing is noted as freed in an earlier round, and no transaction id of an unchecked cache's word
-- comes to its end
pub record IsSimple (s : State) (b : Beside) (events : List Event) : Type 0 where
  pub forgotten : (object : ℕ) → slice_index_or s.gone object None ≡ None
  pub ids : (cache cpu : ℕ) → cpu < s.cpus → IsSome (cache_of s cache) → checked_of s cache ≡ None
      → let n = cpu_number cache cpu in
      tid_of b n + (changes_of s.table events n + 1) * b.step < 2 ^ 32

-- ---- what it gives

-- the machine before the first turn of the round
abbrev pub begun : State → Beside → Round → System
begun s b round = opened (setup_of s b) (system_of s b (workers_of s.table round))

-- what the machine was before the round
abbrev pub before : State → Beside → Round → World
before s b round =
    let system = system_of s b (workers_of s.table round) in
    world_of (setup_of s b) system.value system.words

-- the events are answered on the lists one after the other, and by the workers' turns in the same
-- order each worker is answered the same; the machine comes to rest in the lists that are left, but
-- for words that nobody wrote
pub record RunsAsLists (s : State) (b : Beside) (round : Round) : Type 0 where
  pub replies : List Reply
  pub after : State
  pub runs : RunsEvents s round.events replies after
  -- memory was there for each
  pub memory : All (λ reply. is_no_memory reply ≡ false) replies
  pub last : System
  pub turns : RunsInText (setup_of s b) (call_of s.table round) round.events (begun s b round) last
  pub finished : All IsFinished last.locals
  pub told : AreReplies round.events (replies_of last) replies
  pub given : State
  pub words : IsSameWritten (reverse round.events) after given
  pub table : given.table ≡ s.table
  pub beside : Beside
  pub ids : RunsWithIds s b round.events replies after beside
  pub grown : IsGrown (changes_of s.table round.events) b beside
  pub rest : IsAtRest (before s b round) given beside last

-- a round whose events are made one after the other, each to its end, gives what they give on lists
abbrev pub RoundsInTextAreThoseOfLists : Type 0
RoundsInTextAreThoseOfLists =
    (s : State) (b : Beside) (trace : Trace) (round : Round) → MayOpen s b → MayDo s trace round
    → IsSimple s b round.events → RunsAsLists s b round
