use Rattle.std.proofs.Common.{[]}
use Rattle.std.specs.Prelude.{All}
use Rattle.slub_recorded.specs.Told.{IsOfLeft}
use Rattle.slub_recorded.proofs.listed.put_letters.Given as goal

abbrev pub invariant-loop-row : goal.invariant-loop-row
invariant-loop-row l = All (IsOfLeft []) l.initial.notes.items → All (IsOfLeft []) l.notes.items
