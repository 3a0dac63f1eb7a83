-- Where objects stand, as pairs of a number and a frame.
use Rattle.std.specs.Prelude.{ℕ, List, map}
use Rattle.slub_bulk.specs.declared.order.ObjectAt.{ObjectAt}

abbrev pub places_of : List ObjectAt → List (ℕ × ℕ)
places_of places = map (λ place. (place.object, place.frame)) places
