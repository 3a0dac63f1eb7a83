use Rattle.std.proofs.Common.{◌≡◌, ◌++◌, take}
use Rattle.std.specs.Prelude.{flat_map}
use Rattle.slub_recorded.specs.Tunes.{tunes_text}
use Rattle.slub_recorded.proofs.tunes.push_tunes.Given as goal

abbrev pub invariant-loop-row : goal.invariant-loop-row
invariant-loop-row l = l.text.items ≡ l.initial.text.items ++ flat_map (tunes_text l.tunes) (take l.row-index l.rows)
