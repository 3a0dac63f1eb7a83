-- The replies to a round's events, in the order of the text, and what each worker was answered.
use Rattle.std.specs.Prelude.{◌≡◌, ℕ, List, [], length, map, filter, reverse, slice_index_or}
use Rattle.std.specs.List.{zip}
use Rattle.slub_trace.specs.declared.event.Event.{Event}
use Rattle.slub_trace.specs.declared.reply.Reply.{Reply}
use Rattle.slub_core.specs.declared.local.Answered.{Answered}
use Rattle.slub_slabinfo_text.specs.Lawful.{is_by}

-- of the events and their replies, the replies to the events of this worker
abbrev pub replies_by : ℕ → List (Event × Reply) → List Reply
replies_by worker answers = map (λ one. one.1) (filter (is_by worker) answers)

-- what a worker was answered, the first reply first
abbrev pub told_to : ℕ → List (List Answered) → List Reply
told_to worker dones =
    reverse (map (λ (d : Answered). d.reply) (slice_index_or dones worker []))

-- each event has a reply, and those to the events of a worker are what it was answered
pub record AreReplies (events : List Event) (dones : List (List Answered))
    (replies : List Reply) : Type 0 where
  pub each : length replies ≡ length events
  pub own : (worker : ℕ) → replies_by worker (zip events replies) ≡ told_to worker dones
