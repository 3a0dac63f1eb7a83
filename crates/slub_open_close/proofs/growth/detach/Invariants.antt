use Rattle.std.proofs.Common.{◌+◌, ◌/◌, ◌%◌, ◌&&◌, false, cond, eqb, get_or}
use Rattle.slub_open_close.proofs.Settling.{AreWritten}
use Rattle.slub_open_close.proofs.growth.detach.Given as goal

-- the first words are written
abbrev pub invariant-loop-number : goal.invariant-loop-number
invariant-loop-number l = AreWritten (λ n id. cond (eqb (n / 16) l.cache && get_or l.current (n % 16) false) (id + l.step) id) l.fn.words l.words l.number
