use Rattle.std.proofs.Common.{◌≡◌, take}
use Rattle.slub_slabinfo_text.specs.Lawful.{given_by}
use Rattle.slub_engine.proofs.sums.given_by.Given as goal

abbrev pub invariant-loop-round : goal.invariant-loop-round
invariant-loop-round l = l.given ≡ given_by (take l.round-index l.rounds)
