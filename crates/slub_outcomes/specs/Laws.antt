-- What follows of replays with one seed.
use Rattle.std.specs.Prelude.{◌≡◌, ℕ}
use Rattle.slub_trace.specs.declared.trace.Trace.{Trace}
use Rattle.slub_law_replay.specs.Journals.{TellAsMuch}
use Rattle.slub_outcomes.specs.declared.replay.Replayed.{Replayed}
use Rattle.slub_outcomes.specs.declared.span.Span.{Span}
use Rattle.slub_outcomes.specs.Replays.{IsReplayed}

-- two of them that do as many items have one outcome
abbrev pub OutcomesAreOne : Type 0
OutcomesAreOne =
    (trace : Trace) (span : Span) (seed : ℕ) (one other : Replayed)
    → (left : IsReplayed trace span seed one) → (right : IsReplayed trace span seed other)
    → TellAsMuch left.1.journal right.1.journal → one ≡ other
