use Rattle.std.proofs.Common.{◌/◌, cond, eqb}
use Rattle.slub_open_close.specs.Ids.{first_id}
use Rattle.slub_open_close.proofs.Settling.{AreWritten}
use Rattle.slub_open_close.proofs.growth.begin.Given as goal

-- the first words are written
abbrev pub invariant-loop-number : goal.invariant-loop-number
invariant-loop-number l = AreWritten (λ n id. cond (eqb (n / 16) l.cache) (first_id l.first l.cpus n) id) l.fn.words l.words l.number
