use Rattle.std.proofs.Common.{◌≡◌, take}
use Rattle.slub_rounds.specs.BulkLines.{places_under}
use Rattle.slub_bulk.specs.Places.{places_of}
use Rattle.slub_bulk.proofs.serve.places.Given as goal

abbrev pub invariant-loop-number : goal.invariant-loop-number
invariant-loop-number l = places_of l.places.items ≡ places_under l.heap.lists (take l.number-index l.numbers)
