use Rattle.std.proofs.Common.{arith}
use Rattle.slub_edges.proofs.Windows.{kept}
use Rattle.slub_edges.proofs.window.Window.keep.Goals as goal

pub returns-clause-kept : goal.returns-clause-kept
returns-clause-kept c =
    let w = c.args.self.now in
    kept w.bytes.items w.start w.end c.args.last (omega (arith, w.ordered)) (omega (arith, w.within, w.bytes.ok.0)) (omega (arith, c.requires))
