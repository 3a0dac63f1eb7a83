-- What a replay of a recording's trace answers: what one of a paired trace does, and the trace is paired.
use Rattle.std.proofs.Common.{◌≡◌, ℕ, List, length, Option, Some, None, ap, ◌∙◌}
use Rattle.std.specs.Prelude.{IfSome}
use Rattle.slub_slabinfo_text.specs.declared.journal.Total.{Total}
use Rattle.slub_trace_reader.proofs.Soundness.{trace_sound}
use Rattle.slub_law_recorded.specs.Recorded.{RecordedTracesReplay}
use Rattle.slub_law_recorded.proofs.RecordedTraces.{recorded_paired}
use Rattle.slub_law_recorded.proofs.Replayed.{paired-replay}

-- the sums of a total are as long as other lists
sums-as : (found : Option Total) (xs ys us vs : List ℕ) → xs ≡ us → ys ≡ vs → IfSome found (λ total. (total.given ≡ length xs) × (total.freed ≡ length ys)) → IfSome found (λ total. (total.given ≡ length us) × (total.freed ≡ length vs))
sums-as None xs ys us vs one two sums = tt
sums-as (Some total) xs ys us vs one two sums = (sums.0 ∙ ap length one, sums.1 ∙ ap length two)

pub recorded-replay : RecordedTracesReplay
recorded-replay recording options tunes notes text trace way journal conv is lawful ample =
    let of = recorded_paired recording options tunes notes text trace conv is in
    let done = paired-replay way trace journal (trace_sound text trace is) of.paired lawful ample in
    record {
      all_freed = done.frees;
      sums = sums-as journal.total _ _ _ _ of.allocs_are of.frees_are done.sums;
    }
