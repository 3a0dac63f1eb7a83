use Rattle.std.proofs.Common.{◌≡◌, map, take}
use Rattle.std.specs.Prelude.{All}
use Rattle.slub_recorded.specs.Groups.{row_of}
use Rattle.slub_recorded.specs.Lines.{IsRow}
use Rattle.slub_recorded.proofs.convert.rows_of.Given as goal

abbrev pub invariant-loop-one : goal.invariant-loop-one
invariant-loop-one l = record {
  fit : All IsRow l.rows.items;
  rows : l.rows.items ≡ map row_of (take l.one-index l.chosen);
}
