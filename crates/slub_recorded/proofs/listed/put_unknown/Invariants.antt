use Rattle.std.proofs.Common.{[]}
use Rattle.std.specs.Prelude.{All}
use Rattle.slub_recorded.specs.Told.{IsOfLeft}
use Rattle.slub_recorded.proofs.listed.put_unknown.Given as goal

abbrev pub invariant-loop-place : goal.invariant-loop-place
invariant-loop-place l = All (IsOfLeft []) l.initial.notes.items → All (IsOfLeft []) l.notes.items
