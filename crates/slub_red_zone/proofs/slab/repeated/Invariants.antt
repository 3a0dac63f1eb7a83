use Rattle.std.proofs.Common.{◌≡◌, ◌*◌, length, replicate}
use Rattle.std.specs.List.{concat}
use Rattle.slub_red_zone.proofs.slab.repeated.Given as goal

-- so many copies are there
abbrev pub invariant-loop : goal.invariant-loop
invariant-loop l = record { copies : l.all.items ≡ concat (replicate l.counter l.bytes); length : length l.all.items ≡ l.counter * length l.bytes }
