use Rattle.std.proofs.Common.{◌≡◌, length}
use Rattle.slub_recording.specs.Acts.{has_flag}
use Rattle.slub_recording.proofs.acts.is_flag.Given as goal

abbrev pub invariant-loop-part : goal.invariant-loop-part
invariant-loop-part l = has_flag l.fn.flag l.fn.flags ≡ has_flag l.fn.flag l.rest

abbrev pub decreases-loop-part : goal.decreases-loop-part
decreases-loop-part l = length l.rest
