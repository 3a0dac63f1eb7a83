use Rattle.std.proofs.Common.{◌≡◌, length}
use Rattle.slub_recording.specs.Words.{words, field_of}
use Rattle.slub_recording.proofs.words.field.Given as goal

abbrev pub invariant-loop-word : goal.invariant-loop-word
invariant-loop-word l = field_of l.fn.key (words l.fn.bytes) ≡ field_of l.fn.key (words l.rest)

abbrev pub decreases-loop-word : goal.decreases-loop-word
decreases-loop-word l = length l.rest
