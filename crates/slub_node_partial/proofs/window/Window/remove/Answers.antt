use Rattle.std.proofs.Common.{ℕ, List, sym, subst}
use Rattle.slub_node_partial.specs.PartialList.{IsTakenOut}
use Rattle.slub_node_partial.specs.Window.{frames_of}
use Rattle.slub_node_partial.proofs.Gaps.{taken_out}
use Rattle.slub_node_partial.proofs.window.Window.remove.Goals as goal

-- the first place of the frame parts the list
pub returns-clause-taken : goal.returns-clause-taken
returns-clause-taken c = λ _.
    let found = rw c.frames.ensures at c.in-Some.ensures in
    subst (λ (after : List ℕ). IsTakenOut (frames_of c.args.self.now) c.args.frame after) (sym c.close_gap.ensures.frames) (taken_out (frames_of c.args.self.now) c.in-Some.place c.args.frame found.0 found.1 found.2)
