use Rattle.slub_workers.proofs.InPlace.{Turns, Exchanges}
use Rattle.slub_workers.proofs.cell.rearrange.Given as goal

abbrev pub invariant-loop-number : goal.invariant-loop-number
invariant-loop-number l = Turns l.number l.fn.words l.words

abbrev pub invariant-loop-lock : goal.invariant-loop-lock
invariant-loop-lock l = Exchanges l.lock l.fn.words l.words
