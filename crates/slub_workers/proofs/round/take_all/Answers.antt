use Rattle.std.proofs.Common.{◌≡◌, ◌+◌, ◌||◌, List, length, sym, ap, ◌∙◌, subst, arith}
use Rattle.atomic_table.specs.Table.{Me}
use Rattle.slub_core.specs.Local.{Local}
use Rattle.slub_core.specs.declared.guarded.Guarded.{Guarded}
use Rattle.slub_workers.specs.Standing.{Fork}
use Rattle.slub_workers.specs.Ranks.{IsBack, AreBack}
use Rattle.slub_workers.specs.Ends.{IsIdleAt, HasNotTried}
use Rattle.slub_workers.proofs.Backs.{back-snoc, back_weaker}
use Rattle.slub_workers.proofs.Ended.{or_left, or_right, both_false, risen}
use Rattle.slub_workers.proofs.Ranks.{all_last, all_front, length_snoc, number_back}
use Rattle.slub_workers.proofs.round.take_all.Goals as goal

pub loop-worker-preserved : goal.loop-worker-preserved
loop-worker-preserved c =
    let inv = c.loop-worker.invariant in
    let table = c.args.shared.now.words.shared.table_id in
    let w = c.in-Some.worker in
    let popped = c.in-Some.ensures.items in
    let t = c.take_back-local.ensures in
    let p = c.push_reserved.ensures in
    let worked = all_last (IsIdleAt table) _ _ w popped inv.list in
    let a = length_snoc _ _ w popped in
    let b = length_snoc _ _ c.take_back-local.result.0 p.items in
    let back : List Local = c.loop-worker.locals.items in
    let now = c.one_tried-tried.result in
    let tried : now ≡ (c.loop-worker.tried || c.take_back-local.result.1) = c.one_tried-tried.ensures in
    let number = number_back _ _ (length back) _ _ w b popped inv.numbers in
    let n = inv.count in
    let r = inv.room in
    let k = p.capacity in
    let e : 0 + length back ≡ length back = omega arith in
    let is : IsBack now (0 + length back) t.root.1 c.take_back-local.result.0 = record {
      refused = t.root.0;
      stands = t.root.2;
      untried = λ none. sym t.root.3 ∙ or_right c.loop-worker.tried c.take_back-local.result.1 (sym tried ∙ none);
      number = ap (λ (l : Local). l.worker) t.worker.0 ∙ number.0 ∙ sym e;
      between = ap (λ (l : Local). l.spot) t.worker.0 ∙ worked.1;
    } in
    let earlier = back_weaker c.loop-worker.tried now (λ none. or_left c.loop-worker.tried c.take_back-local.result.1 (sym tried ∙ none)) 0 c.loop-worker.root.me.0 back inv.back in
    record {
      table = t.table ∙ inv.table;
      slots = ap (λ (m : Me Guarded (List Fork)). m.1) t.root.4 ∙ inv.slots;
      list = all_front (IsIdleAt table) _ _ w popped inv.list;
      numbers = number.1;
      back = subst (λ (y : List Fork × List Local). AreBack now 0 y.0 y.1) (λ i. (ap (λ (m : Me Guarded (List Fork)). m.0) (sym t.root.4) i, sym p.items i))
          (back-snoc now 0 c.loop-worker.root.me.0 back t.root.1 c.take_back-local.result.0 earlier is);
      count = omega arith;
      room = omega arith;
      locals = risen c.loop-worker.list.items c.pop.new.self.items w back c.push_reserved.new.self.items c.take_back-local.result.0 popped p.items t.worker.0 ∙ inv.locals;
      untried = λ none.
          let u = inv.untried none in
          (tried ∙ both_false c.loop-worker.tried c.take_back-local.result.1 u.0 (t.worker.1 ∙ all_last HasNotTried _ _ w popped u.1), all_front HasNotTried _ _ w popped u.1);
    }
