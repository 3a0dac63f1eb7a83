-- For proofs and private clauses: what one item adds to a replay.
use Rattle.std.specs.Prelude.{◌≡◌, ℕ, ◌+◌, false, List, ◌++◌}
use Rattle.slub_trace.specs.declared.trace.Trace.{Trace}
use Rattle.slub_slabinfo_text.specs.declared.journal.Done.{Done}
use Rattle.slub_law_replay.specs.declared.way.Way.TheVariants.{Schedule}
use Rattle.slub_law_replay.specs.Runs.{DoesAt, IsReadyMachine, MachineState}
use Rattle.slub_outcomes.specs.declared.span.Span.{Span}
use Rattle.slub_outcomes.specs.Replies.{counted_text, lacks_memory}

-- the item of this number is done, and its text is put behind the one before
pub record Adds (seed : ℕ) (m : MachineState) (trace : Trace) (span : Span) (number : ℕ)
    (old new : List ℕ) (after : MachineState) : Type 0 where
  pub answer : Done
  pub does : DoesAt (Schedule seed) m trace number answer after
  pub ready : IsReadyMachine after trace (number + 1)
  pub memory : lacks_memory answer ≡ false
  pub text_is : new ≡ old ++ counted_text span trace number answer
