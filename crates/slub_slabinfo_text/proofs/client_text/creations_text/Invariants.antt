use Rattle.std.proofs.Common.{◌≡◌, length, take, flat_map}
use Rattle.std.specs.List.{zip}
use Rattle.slub_slabinfo_text.specs.ClientText.{creation_text}
use Rattle.slub_slabinfo_text.proofs.client_text.creations_text.Given as goal

abbrev pub invariant-loop-name : goal.invariant-loop-name
invariant-loop-name l = l.text.items ≡ flat_map (creation_text l.replies) (take (length l.yielded) (zip l.names l.answers))
