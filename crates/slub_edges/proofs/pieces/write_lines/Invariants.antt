use Rattle.std.proofs.Common.{◌≡◌, ℕ, List, ◌++◌, length}
use Rattle.std.specs.Io.KnownBytes.{Appends}
use Rattle.slub_edges.specs.Pieces.{Gives}
use Rattle.slub_edges.proofs.Offers.{IsGivenUpTo}
use Rattle.slub_edges.proofs.pieces.write_lines.Given as goal

abbrev pub invariant-loop-rest : goal.invariant-loop-rest
invariant-loop-rest g l =
    (done : List ℕ) × (l.fn.text ≡ done ++ l.rest) × Appends (g.K.Sink.taken l.fn.sink) (g.K.Sink.taken l.sink) done × (g.K.Sink.faults l.sink ≡ g.K.Sink.faults l.fn.sink)
    × Gives (g.K.Sink.pieces l.fn.sink) (g.K.Sink.pieces l.sink) (IsGivenUpTo l.fn.text l.rest)

abbrev pub decreases-loop-rest : goal.decreases-loop-rest
decreases-loop-rest g l = length l.rest
