-- What a round answers, as the crate's own functions have it. The promise doesn't speak of it.
use Rattle.std.specs.Prelude.{◌≡◌, ℕ, ◌+◌, ◌≤◌, List, [], length, map, replicate, reverse, slice_index_or, vec_capacity, All}
use Rattle.std.specs.List.{zip}
use Rattle.slub_trace.specs.declared.event.Event.{Event}
use Rattle.slub_trace.specs.declared.event.Round.{Round}
use Rattle.slub_trace.specs.declared.reply.Reply.{Reply}
use Rattle.slub_core.specs.declared.local.Answered.{Answered}
use Rattle.slub_lists.specs.State.{State}
use Rattle.slub_lists.specs.Alloc.{checked_of}
use Rattle.slub_lists.specs.Coherent.{IsCoherent, AddsReportsOf, findable_in}
use Rattle.slub_core.specs.Local.{Local}
use Rattle.slub_core.specs.Run.{idle}
use Rattle.slub_calls.specs.Calls.{events_by}
use Rattle.slub_slabinfo_text.specs.Lawful.{AreLedgers, found_in}
use Rattle.slub_slabinfo_text.specs.declared.journal.RoundResult.{RoundResult}
use Rattle.slub_engine.specs.Steps.{IsBlank, IsKnown, most_found, told_in}
use Rattle.slub_rounds.specs.declared.answers.Answers.{Answers}
use Rattle.slub_calls.specs.Replies.{AreReplies}

-- room for the answers to so many events of so many workers, on a machine before their round
pub record IsRoomFor (s : State) (events workers : ℕ) (a : Answers) : Type 0 where
  pub replies : (a.replies.items ≡ []) × (events ≤ vec_capacity a.replies)
  pub cursors : a.cursors.items ≡ replicate workers 0
  pub ledgers : (length a.ledgers.items ≡ workers) × All IsBlank a.ledgers.items
  pub told : a.told.items ≡ told_in s
  pub damages : (a.damages.items ≡ []) × (vec_capacity a.damages ≡ most_found s events)

-- each worker has as many replies as events
abbrev pub AreAnswered : List Event → List Local → Type 0
AreAnswered events locals = (worker : ℕ) →
    length (events_by worker events) ≡ length (slice_index_or locals worker idle).done

-- the replies of a worker, the first one first
abbrev pub told_by : Local → List Reply
told_by l = map (λ (d : Answered). d.reply) (reverse l.done)

-- what each worker was answered, the last reply first
abbrev pub dones_of : List Local → List (List Answered)
dones_of locals = map (λ (l : Local). l.done) locals

-- the round leaves the machine t of s, and all its events have replies
pub record MayTell (s t : State) (round : Round) (locals : List Local)
    (a : Answers) : Type 0 where
  pub before : IsCoherent s
  pub coherent : IsCoherent t
  pub room : IsRoomFor s (length round.events) round.workers a
  pub known : All (IsKnown t round.workers) round.events
  pub workers : length locals ≡ round.workers
  pub answered : AreAnswered round.events locals
  pub table : t.table ≡ s.table
  pub reports : (cache : ℕ) → AddsReportsOf (checked_of s cache) (checked_of t cache)
  pub findable : findable_in t ≤ findable_in s + length round.events

-- its replies, damages and ledgers
pub record IsTold (s t : State) (round : Round) (locals : List Local)
    (result : RoundResult) : Type 0 where
  pub replies : AreReplies round.events (dones_of locals) result.replies
  pub damages : result.damages ≡ found_in s t
  pub ledgers : AreLedgers s (zip round.events result.replies) round.workers result.ledgers
