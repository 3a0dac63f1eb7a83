use Rattle.std.proofs.Common.{◌≡◌, take, flat_map}
use Rattle.slub_slabinfo_text.specs.Lines.{found_text}
use Rattle.slub_slabinfo_text.proofs.client_text.rounds_text.Given as goal

abbrev pub invariant-loop-round : goal.invariant-loop-round
invariant-loop-round l = l.text.items ≡ flat_map (λ round. flat_map found_text round.result.damages) (take l.round-index l.rounds)
