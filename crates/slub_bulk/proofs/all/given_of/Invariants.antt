use Rattle.std.proofs.Common.{◌≡◌, length, take}
use Rattle.std.specs.List.{filter_map, zip}
use Rattle.slub_bulk.proofs.Bulking.{number_given}
use Rattle.slub_bulk.proofs.all.given_of.Given as goal

abbrev pub invariant-loop-number : goal.invariant-loop-number
invariant-loop-number l = l.given.items ≡ filter_map number_given (take (length l.yielded) (zip l.numbers l.replies))
