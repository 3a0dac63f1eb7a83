-- A put leaves the free frames with the run that comes back.
use Rattle.std.proofs.Common.{◌≡◌, ◌+◌, ◌^◌, ◌≤◌, true, length, arith, ◌∙◌, ap, subst}
use Rattle.std.specs.Vec.{with_items}
use Rattle.std.proofs.lemmas.List.{with_items_is}
use Rattle.slub_page_pool.specs.FreeFrames.{FreeFrames}
use Rattle.slub_page_pool.proofs.MarkedFrames.{IsPool-marks, AreMarks-with_run, with_marks, length-with_marks, shown-with_run}
use Rattle.slub_page_pool.proofs.Pool.put.Goals as goal
use Rattle.slub_page_pool.proofs.Pool.put.Goals.{After-self, After-set_run}

-- the run lies within the machine
inside : (c : After-self) → c.args.frame + 2 ^ c.args.order ≤ length c.self.inside.marks.items
inside c = let frames : length c.self.inside.marks.items ≡ c.args.self.now.frames = ap (λ (p : FreeFrames). p.frames) c.self.view_is in omega (arith, frames, c.requires.inside)

-- the marks afterwards
marks : (c : After-set_run) → c.args.frame + 2 ^ c.args.order ≤ length c.self.inside.marks.items
    → (with_items c.self.inside.marks c.set_run.new.marks).items ≡ with_marks c.self.inside.marks.items c.args.frame (2 ^ c.args.order) true
marks c within =
    let is = subst (λ s. c.set_run.new.marks ≡ with_marks s c.args.frame (2 ^ c.args.order) true) c.deref_mut.ensures.value c.set_run.ensures.marks in
    let long = length-with_marks c.self.inside.marks.items c.args.frame (2 ^ c.args.order) true within in
    with_items_is c.self.inside.marks c.set_run.new.marks (omega (arith, ap length is, long, c.self.inside.marks.ok.0)) ∙ is

pub returns-clause-puts : goal.returns-clause-puts
returns-clause-puts c =
    let within = inside (goal.at.returns-clause-puts c).After-self in
    rw (marks (goal.at.returns-clause-puts c).After-set_run within, ← c.self.view_is) (shown-with_run c.self.inside.marks.items c.self.inside.dry c.args.frame c.args.order within)

pub returns-clause-pool : goal.returns-clause-pool
returns-clause-pool c =
    let within = inside (goal.at.returns-clause-pool c).After-self in
    rw (marks (goal.at.returns-clause-pool c).After-set_run within)
    (IsPool-marks _ _ (AreMarks-with_run c.self.inside.marks.items c.self.inside.dry c.self.invariant.marks_kept c.args.frame (2 ^ c.args.order) within c.requires.positive))
