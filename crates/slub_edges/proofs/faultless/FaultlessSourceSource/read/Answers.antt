use Rattle.std.proofs.Common.{arith, drop}
use Rattle.slub_edges.proofs.Told.{read_at}
use Rattle.slub_edges.proofs.faultless.FaultlessSourceSource.read.Goals as goal

pub returns-then-n-gt0-clause-bytes : goal.returns-then-n-gt0-clause-bytes
returns-then-n-gt0-clause-bytes c =
    rw (← c.self.view_is)
    (read_at c.self.inside.bytes.items (drop c.min-n.result c.args.buf.now) c.copy_from_slice.new.self c.self.inside.at c.min-n.result (omega (arith, c.deref.ensures.len)) (grind (arith, c.copy_from_slice.ensures.after)), λ none _. absurd (omega (arith, none)))
