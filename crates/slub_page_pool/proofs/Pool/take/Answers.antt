-- A take leaves the free frames without the run that it gives.
use Rattle.std.proofs.Common.{◌≡◌, ◌+◌, ◌^◌, ◌≤◌, false, length, arith, ◌∙◌, ap, subst, sym}
use Rattle.std.proofs.lemmas.List.{with_items_is}
use Rattle.std.specs.Vec.{with_items}
use Rattle.slub_page_pool.specs.Block.{IsTaken}
use Rattle.slub_page_pool.specs.Marks.{free_of, AreMarks}
use Rattle.slub_page_pool.specs.Orders.{IsIndex}
use Rattle.slub_page_pool.proofs.MarkedFrames.{IsPool-marks, IsTaken-inside, IsTaken-positive, AreMarks-less_run, with_marks, length-with_marks, shown-less_run}
use Rattle.slub_page_pool.proofs.Pool.take.Goals as goal
use Rattle.slub_page_pool.proofs.Pool.take.Goals.{In_ok-frame, After-set_run}

pub returns-in_err-frame-clause-pool : goal.returns-in_err-frame-clause-pool
returns-in_err-frame-clause-pool c = rw (← c.self.view_is) (IsPool-marks c.self.inside.marks.items c.self.inside.dry c.self.invariant.marks_kept)

-- the run that is chosen among the fields' marks
taken : (c : In_ok-frame) → IsTaken (free_of c.self.inside.marks.items) c.args.order c.in_ok-frame.frame
taken c = subst (λ s. IsTaken (free_of s) c.args.order c.in_ok-frame.frame) c.deref.ensures.value c.in_ok-frame.ensures.taken

-- it lies within the machine
inside : (c : In_ok-frame) → c.in_ok-frame.frame + 2 ^ c.args.order ≤ length c.self.inside.marks.items
inside c = IsTaken-inside c.self.inside.marks.items c.in_ok-frame.frame c.args.order (taken c)

-- the marks afterwards
marks : (c : After-set_run) → c.in_ok-frame.frame + 2 ^ c.args.order ≤ length c.self.inside.marks.items → (with_items c.self.inside.marks c.set_run.new.marks).items ≡ with_marks c.self.inside.marks.items c.in_ok-frame.frame (2 ^ c.args.order) false
marks c within =
    let is = subst (λ s. c.set_run.new.marks ≡ with_marks s c.in_ok-frame.frame (2 ^ c.args.order) false) c.deref_mut.ensures.value c.set_run.ensures.marks in
    let long = length-with_marks c.self.inside.marks.items c.in_ok-frame.frame (2 ^ c.args.order) false within in
    with_items_is c.self.inside.marks c.set_run.new.marks (omega (arith, ap length is, long, c.self.inside.marks.ok.0)) ∙ is

pub set_run-requires-clause-inside : goal.set_run-requires-clause-inside
set_run-requires-clause-inside c = rw c.deref_mut.ensures.value (inside (goal.at.set_run-requires-clause-inside c).In_ok-frame)

pub invariant_of-self : goal.invariant_of-self
invariant_of-self c =
    let within = inside (goal.at.invariant_of-self c).In_ok-frame in
    let after = marks (goal.at.invariant_of-self c).After-set_run within in
    let same_marks : (with_items c.self.inside.marks c.set_run.new.marks).items ≡ c.set_run.new.marks =
    with_items_is c.self.inside.marks c.set_run.new.marks (omega (arith, c.set_run.auto.marks, c.deref_mut.ensures.len)) in
    let same_orders : (with_items c.self.inside.orders c.set_run.new.orders).items ≡ c.set_run.new.orders =
    with_items_is c.self.inside.orders c.set_run.new.orders (omega (arith, c.set_run.auto.orders, c.deref_mut-2.ensures.len)) in
    record {
      marks_kept = subst (λ s. AreMarks s c.self.inside.dry) (sym after) (AreMarks-less_run c.self.inside.marks.items c.self.inside.dry c.self.invariant.marks_kept c.in_ok-frame.frame (2 ^ c.args.order) within);
      index = subst (λ s. IsIndex s (with_items c.self.inside.orders c.set_run.new.orders).items) (sym same_marks) (subst (λ s. IsIndex c.set_run.new.marks s) (sym same_orders) c.set_run.ensures.index);
    }

pub overflow_cast-result : goal.overflow_cast-result
overflow_cast-result c = omega (arith, inside (goal.at.overflow_cast-result c).In_ok-frame, c.self.invariant.marks_kept.most)

pub returns-clause-takes : goal.returns-clause-takes
returns-clause-takes c =
    let here = (goal.at.returns-clause-takes c).In_ok-frame in
    rw (marks (goal.at.returns-clause-takes c).After-set_run (inside here), ← c.self.view_is) (taken here, shown-less_run c.self.inside.marks.items c.self.inside.dry c.in_ok-frame.frame c.args.order (inside here))

pub returns-clause-inside : goal.returns-clause-inside
returns-clause-inside c =
    let here = (goal.at.returns-clause-inside c).In_ok-frame in
    rw (← c.self.view_is) (IsTaken-positive c.self.inside.marks.items c.self.inside.dry c.self.invariant.marks_kept c.in_ok-frame.frame c.args.order (taken here), inside here)

pub returns-clause-pool : goal.returns-clause-pool
returns-clause-pool c =
    let here = (goal.at.returns-clause-pool c).In_ok-frame in
    rw (marks (goal.at.returns-clause-pool c).After-set_run (inside here)) (IsPool-marks _ _ (AreMarks-less_run c.self.inside.marks.items c.self.inside.dry c.self.invariant.marks_kept c.in_ok-frame.frame (2 ^ c.args.order) (inside here)))
