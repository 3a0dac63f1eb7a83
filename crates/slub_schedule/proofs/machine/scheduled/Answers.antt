use Rattle.std.proofs.Common.{◌≡◌, ◌≤◌, sym, ap, ◌∙◌, subst, arith, length}
use Rattle.slub_schedule.proofs.Making.{made_concluded, some_left, none_left, nothing_left, turn_made, turn_kept, turn_less, worker_at}
use Rattle.slub_schedule.specs.Schedule.{unfinished}
use Rattle.slub_schedule.proofs.machine.scheduled.Goals as goal
use Rattle.slub_schedule.proofs.machine.scheduled.Goals.{then-turn, else-turn}

pub returns-then-is_empty-clause-ends : goal.returns-then-is_empty-clause-ends
returns-then-is_empty-clause-ends g c =
    let t = g.M.Machine in
    let i = c.loop.invariant in
    let none = none_left (length c.loop.order) (sym c.if-is_empty.true ∙ c.is_empty.ensures) in
    made_concluded t.setup t.system t.chooses t.notes t.is_done t.halts _ c.loop.counter _ _ _ i.made (omega (arith, c.loop-test.true, c.requires.turns)) (ap (λ ws. length ws) (sym i.order) ∙ none) c.ended.ensures.system c.ended.ensures.ends

pub returns-then-is_empty-2-clause-ends : goal.returns-then-is_empty-2-clause-ends
returns-then-is_empty-2-clause-ends g c =
    let t = g.M.Machine in
    let i = c.loop.invariant in
    let none = none_left (length c.loop.order) (sym c.if-is_empty-2.true ∙ c.is_empty-2.ensures) in
    let e = c.ended-then-is_empty-2.ensures in
    made_concluded t.setup t.system t.chooses t.notes t.is_done t.halts _ c.loop.counter _ _ _ i.made (omega (arith, i.counter, c.requires.turns)) (ap (λ ws. length ws) (sym i.order) ∙ none) e.system e.ends

pub ended-requires-clause-finished : goal.ended-requires-clause-finished
ended-requires-clause-finished g c = nothing_left c.loop.order _ c.loop.invariant.order (sym c.if-is_empty.true ∙ c.is_empty.ensures)

pub ended-requires-then-is_empty-2-clause-finished : goal.ended-requires-then-is_empty-2-clause-finished
ended-requires-then-is_empty-2-clause-finished g c = nothing_left c.loop.order _ c.loop.invariant.order (sym c.if-is_empty-2.true ∙ c.is_empty-2.ensures)

pub turn-requires-clause-worker : goal.turn-requires-clause-worker
turn-requires-clause-worker g c =
    let chose = c.in-Ok.ensures in
    (worker_at _ _ c.loop.order c.in-Ok.place _ c.loop.invariant.order chose.place c.worker-worker.ensures chose.system).0

pub loop-preserved : goal.loop-preserved
loop-preserved g c =
    let m = g.M.Machine in
    let k = m.setup c.choose.new.self in
    let s = m.system c.choose.new.self in
    let t = m.system c.turn.new.self in
    let i = c.loop.invariant in
    let chose = c.in-Ok.ensures in
    let worker = c.worker-worker.result in
    let some = subst (λ ws. 1 ≤ length ws) i.order (some_left (length c.loop.order) (sym c.if-is_empty.false ∙ c.is_empty.ensures)) in
    let at = worker_at _ s c.loop.order c.in-Ok.place worker i.order chose.place c.worker-worker.ensures chose.system in
    let order : c.loop.order ≡ unfinished s = i.order ∙ ap unfinished (sym chose.system) in
    let (refused, made) = c.turn.ensures.turned in
    let turned = made.0 in
    record {
      ready = c.turn.ensures.ready;
      setup = c.turn.ensures.setup ∙ chose.setup ∙ i.setup;
      made = turn_made m.setup m.system m.chooses m.notes _ c.loop.machine c.choose.new.self _ c.loop.counter worker refused i.made some (subst (λ w. m.chooses c.loop.machine w c.choose.new.self) (sym c.worker-worker.ensures) chose.chooses) chose.setup chose.system c.turn.ensures.setup turned made.1;
      order = elim c.if-turn.branch [
        | then-turn w ↦ w.order-is
            ∙ turn_less k s t c.loop.order w.remove.new.self c.in-Ok.place worker refused turned at.0 (sym w.if-turn.true ∙ c.turn.ensures.finished) order c.worker-worker.ensures w.remove.ensures
        | else-turn w ↦ w.order-is ∙ turn_kept k s t c.loop.order worker refused turned at.0 at.1 (sym w.if-turn.false ∙ c.turn.ensures.finished) order
      ];
      counter = omega (arith, c.loop-test.true);
    }
