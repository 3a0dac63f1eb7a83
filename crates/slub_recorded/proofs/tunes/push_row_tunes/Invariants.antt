use Rattle.std.proofs.Common.{◌≡◌, ◌++◌, take}
use Rattle.std.specs.Prelude.{flat_map}
use Rattle.slub_recorded.specs.Tunes.{tune_text}
use Rattle.slub_recorded.proofs.tunes.push_row_tunes.Given as goal

abbrev pub invariant-loop-tune : goal.invariant-loop-tune
invariant-loop-tune l = l.text.items ≡ l.initial.text.items ++ flat_map (tune_text l.name) (take l.tune-index l.tunes)
