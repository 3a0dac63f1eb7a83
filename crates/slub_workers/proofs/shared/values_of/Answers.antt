use Rattle.std.proofs.Common.{◌≡◌, ◌++◌, ◌∷◌, [], List, sym, ap, ◌∙◌, arith}
use mathlib.Core.Option.{some}
use lib.ListN.{get_elem?}
use Rattle.std.specs.Mem.Slots.{slots_items, slots_filled, slots_counts}
use Rattle.slub_core.specs.declared.guarded.Guarded.{Guarded}
use Rattle.slub_workers.proofs.Copies.{take_one, taken_more, there_still}
use Rattle.slub_workers.proofs.shared.values_of.Goals as goal

pub take-requires : goal.take-requires
take-requires c = let n = c.loop-lock.invariant.count in let low = c.loop-lock-test.true in (omega arith, c.loop-lock.invariant.there c.loop-lock.lock (omega arith) low)

pub loop-lock-preserved : goal.loop-lock-preserved
loop-lock-preserved c =
    let inv = c.loop-lock.invariant in
    let i = c.loop-lock.lock in
    let t = c.take.ensures in
    let n = inv.count in
    let m = slots_counts c.loop-lock.closed.slots in
    let low = c.loop-lock-test.true in
    let here : get_elem? (slots_items c.args.closed.now.slots) i ≡ some c.take.result = ap (λ (xs : List Guarded). get_elem? xs i) (sym inv.slots) ∙ t.value in
    record {
      items = c.push_reserved.ensures.items ∙ ap (λ (xs : List Guarded). xs ++ c.take.result ∷ []) inv.items ∙ sym (take_one (slots_items c.args.closed.now.slots) i c.take.result here);
      slots = t.others.0 ∙ inv.slots;
      count = t.others.2 ∙ inv.count;
      taken = taken_more (slots_filled c.loop-lock.closed.slots) _ i t.others.1 (omega arith) inv.taken;
      there = there_still (slots_filled c.loop-lock.closed.slots) _ i t.others.1 inv.there;
      capacity = c.push_reserved.ensures.capacity ∙ inv.capacity;
    }
