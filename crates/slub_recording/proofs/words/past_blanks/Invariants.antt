use Rattle.std.proofs.Common.{◌≡◌, ◌≤◌, length}
use Rattle.slub_recording.specs.Words.{words}
use Rattle.slub_recording.proofs.words.past_blanks.Given as goal

abbrev pub invariant-loop-c : goal.invariant-loop-c
invariant-loop-c l = (words l.rest ≡ words l.fn.bytes) × (length l.rest ≤ length l.fn.bytes)

abbrev pub decreases-loop-c : goal.decreases-loop-c
decreases-loop-c l = length l.rest
