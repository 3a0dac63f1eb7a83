use Rattle.std.proofs.Common.{◌≡◌, ◌==◌, take}
use Rattle.std.specs.List.{list_all}
use Rattle.slub_red_zone.proofs.zones.are_all.Given as goal

abbrev pub invariant-loop-byte : goal.invariant-loop-byte
invariant-loop-byte l = l.same ≡ list_all (λ byte. byte == l.wanted) (take l.byte-index l.bytes)
