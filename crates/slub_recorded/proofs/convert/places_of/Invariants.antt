use Rattle.std.proofs.Common.{◌≡◌, take, map}
use Rattle.slub_recorded.specs.Converted.{place_of}
use Rattle.slub_recorded.proofs.convert.places_of.Given as goal

abbrev pub invariant-loop-title : goal.invariant-loop-title
invariant-loop-title l = l.places.items ≡ map (place_of l.rows) (take l.title-index l.titles)
