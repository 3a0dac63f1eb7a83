-- Where a read is answered with a value, its worker put each byte of the word there.
use Rattle.std.specs.Prelude.{◌≡◌, ℕ, ◌<◌, ◌⊎◌, List, count_by, IsSome}
use Rattle.std.specs.List.{zip}
use Rattle.slub_trace.specs.declared.event.Act.TheVariants.{Read}
use Rattle.slub_trace.specs.declared.event.Round.{Round}
use Rattle.slub_trace.specs.declared.reply.Reply.TheVariants as reply
use Rattle.slub_trace.specs.declared.trace.Trace.{Trace}
use Rattle.slub_trace.specs.Sound.{IsSoundRound}
use Rattle.slub_lists.specs.State.{State}
use Rattle.slub_lists.specs.Coherent.{held_under}
use Rattle.slub_slabinfo_text.specs.declared.journal.RoundResult.{RoundResult}
use Rattle.slub_law_rounds.specs.Answered.{Answered, IsAfter, found_bad, last_put}
use Rattle.slub_law_rounds.specs.Round.{IsRound}

-- the worker put each byte of the word there since the object was given
abbrev pub IsPut : ℕ → ℕ → List Answered → Type 0
IsPut object word own = (place : ℕ) → IsSome (last_put object word place own)

-- the object was on the board before the round, and the worker took it from there by a free, which
-- found it damaged: it could ask for a write before, which is answered that it isn't held
abbrev pub WasTaken : State → ℕ → List Answered → Type 0
WasTaken before object own =
    IsSome (held_under before object) × (0 < count_by (found_bad object) own)

-- so it is of each value that a lawful round of a sound trace reads
abbrev pub ReadsFollowWrites : Type 0
ReadsFollowWrites =
    (before : State) (trace : Trace) (round : Round) (result : RoundResult) (after : State)
    → IsSoundRound trace round → IsRound before round result after
    → (worker : ℕ) (own : List Answered) (one : Answered)
    → IsAfter (zip round.events result.replies) worker own one
    → (object word value : ℕ) → one.0.act ≡ Read word object → one.1 ≡ reply.Value value
    → IsPut object word own ⊎ WasTaken before object own
