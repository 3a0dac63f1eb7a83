-- All frames are marked, and then frame 0 isn't.
use Rattle.std.proofs.Common.{◌≡◌, replicate, true, arith}
use Rattle.slub_page_pool.proofs.MarkedFrames.{IsPool-marks, shown-opening, AreMarks-opening}
use Rattle.std.proofs.Common.{◌-◌, length, set, false, sym, subst, ap, arith}
use Rattle.std.specs.Vec.{with_items}
use Rattle.std.proofs.lemmas.List.{with_items_is, length-set, length-replicate}
use Rattle.slub_page_pool.specs.Orders.{IsIndex}
use Rattle.slub_page_pool.proofs.Refreshes.{IsIndexOutside-zeros}
use Rattle.slub_page_pool.proofs.Pool.open.Goals as goal
use Rattle.slub_page_pool.proofs.Pool.open.Goals.{In_ok-marks, In_ok-orders}

-- every frame is marked at first
marked : (c : In_ok-marks) → c.in_ok-marks.marks.items ≡ replicate c.args.frames true
marked c = c.in_ok-marks.ensures.items_if_clones_equal (λ y same. same)

-- no run has a block in the tree at first
unjoined : (c : In_ok-orders) → c.in_ok-orders.orders.items ≡ replicate 4096 0
unjoined c = c.in_ok-orders.ensures.items_if_clones_equal (λ y same. same)

pub refresh-requires-clause-outside : goal.refresh-requires-clause-outside
refresh-requires-clause-outside c =
    let frames = ap length (marked (goal.at.refresh-requires-clause-outside c).In_ok-marks) in
    rw (c.deref.ensures.value, c.deref_mut.ensures.value)
    (IsIndexOutside-zeros (set c.in_ok-marks.marks.items 0 false) c.in_ok-orders.orders.items (c.args.frames - 1) (unjoined (goal.at.refresh-requires-clause-outside c).In_ok-orders)
    (omega (arith, length-set c.in_ok-marks.marks.items 0 false, frames, length-replicate c.args.frames true)))

pub invariant_of-result : goal.invariant_of-result
invariant_of-result c =
    let same : (with_items c.in_ok-orders.orders c.refresh.new.orders).items ≡ c.refresh.new.orders = with_items_is c.in_ok-orders.orders c.refresh.new.orders (omega (arith, c.refresh.auto.orders, c.deref_mut.ensures.len)) in
    record {
      marks_kept = rw (marked (goal.at.invariant_of-result c).In_ok-marks) (AreMarks-opening c.args.frames c.requires.least c.requires.most);
      index = subst (λ s. IsIndex (set c.in_ok-marks.marks.items 0 false) s) (sym same) (subst (λ s. IsIndex s c.refresh.new.orders) c.deref.ensures.value c.refresh.ensures);
    }

pub returns-clause-opened : goal.returns-clause-opened
returns-clause-opened c = rw (marked (goal.at.returns-clause-opened c).In_ok-marks) (shown-opening c.args.frames (omega arith))

pub returns-clause-pool : goal.returns-clause-pool
returns-clause-pool c = rw (marked (goal.at.returns-clause-pool c).In_ok-marks) (IsPool-marks _ _ (AreMarks-opening c.args.frames c.requires.least c.requires.most))
