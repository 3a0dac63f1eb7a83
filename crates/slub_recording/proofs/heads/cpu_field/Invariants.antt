use Rattle.std.proofs.Common.{◌≡◌, length}
use Rattle.slub_recording.specs.Heads.{cpu_at}
use Rattle.slub_recording.specs.Words.{words}
use Rattle.slub_recording.proofs.heads.cpu_field.Given as goal

abbrev pub invariant-loop-word : goal.invariant-loop-word
invariant-loop-word l = cpu_at (words l.fn.bytes) ≡ cpu_at (words l.rest)

abbrev pub decreases-loop-word : goal.decreases-loop-word
decreases-loop-word l = length l.rest
