use Rattle.std.proofs.Common.{◌≡◌, length}
use Rattle.slub_recording.specs.Words.{strip}
use Rattle.slub_recording.proofs.words.after.Given as goal

abbrev pub invariant-loop-t : goal.invariant-loop-t
invariant-loop-t l = strip l.fn.text l.fn.bytes ≡ strip l.ahead l.rest

abbrev pub decreases-loop-t : goal.decreases-loop-t
decreases-loop-t l = length l.ahead
