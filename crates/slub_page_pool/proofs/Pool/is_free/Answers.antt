-- A frame is free where its mark is set.
use Rattle.std.proofs.Common.{false, arith, sym, ◌∙◌}
use Rattle.std.proofs.lemmas.Bool.{le-ltb}
use Rattle.std.proofs.lemmas.List.{get_or_read, get_or_past}
use Rattle.slub_page_pool.proofs.MarkedFrames.{IsPool-marks, Contains-tested}
use Rattle.slub_page_pool.proofs.Pool.is_free.Goals as goal

pub returns-then-frame-len-clause-free : goal.returns-then-frame-len-clause-free
returns-then-frame-len-clause-free c =
    rw (← c.self.view_is) (Contains-tested c.self.inside.marks.items c.args.frame c.index.result.now
    (get_or_read c.self.inside.marks.items c.args.frame c.index.result.now (omega (arith, c.self.inside.marks.ok.0)) c.index.ensures false))

pub returns-then-frame-len-clause-pool : goal.returns-then-frame-len-clause-pool
returns-then-frame-len-clause-pool c = rw (← c.self.view_is) (IsPool-marks c.self.inside.marks.items c.self.inside.dry c.self.invariant.marks_kept)

pub returns-else-frame-len-clause-free : goal.returns-else-frame-len-clause-free
returns-else-frame-len-clause-free c =
    rw (← c.self.view_is) (Contains-tested c.self.inside.marks.items c.args.frame _
    (le-ltb c.args.frame c.len.result c.if-frame-len.false
    ∙ sym (get_or_past c.self.inside.marks.items c.args.frame false (omega (arith, c.self.inside.marks.ok.0)))))

pub returns-else-frame-len-clause-pool : goal.returns-else-frame-len-clause-pool
returns-else-frame-len-clause-pool c = rw (← c.self.view_is) (IsPool-marks c.self.inside.marks.items c.self.inside.dry c.self.invariant.marks_kept)
