use Rattle.std.proofs.Common.{length, vec_len, rules, sym, ap, ◌∙◌, arith, length-append}
use Rattle.std.proofs.lemmas.Bool.{eqb-true}
use Rattle.slub_workers.specs.Workers.{HasWorkedAt, MayWorkAt}
use Rattle.slub_workers.proofs.Ranks.{all_last, all_front, all_pushed}
use Rattle.slub_workers.proofs.Worked.{worked_count, worked_alone}
use Rattle.slub_workers.proofs.round.+fn-work_all-join+arg2+work_all.Goals as goal

pub work_last-requires-clause-worker : goal.work_last-requires-clause-worker
work_last-requires-clause-worker g t c =
    let s = c.args.shared.now.words.shared in
    all_last (MayWorkAt s.key s.table_id) c.args.todo.items c.pop.new.self.items c.in-Some.worker c.in-Some.ensures.items c.requires.todo

pub work_last-requires-clause-room : goal.work_last-requires-clause-room
work_last-requires-clause-room g t c =
    let room = c.requires.room in
    let n = ap length c.in-Some.ensures.items ∙ length-append c.pop.new.self.items _ in
    omega (arith, room, n)

pub returns-then-is_empty-clause-numbers : goal.returns-then-is_empty-clause-numbers
returns-then-is_empty-clause-numbers g t c =
    let none = eqb-true (vec_len c.pop.new.self) 0 (sym c.is_empty.ensures ∙ c.if-is_empty.true) in
    worked_alone c.work_last.result.items c.args.done.items c.args.todo.items c.pop.new.self.items c.in-Some.worker c.in-Some.ensures.items (omega (arith, none, c.pop.new.self.ok.0)) c.work_last.ensures.numbers

pub join-done-requires-after_bounds : goal.join-done-requires-after_bounds
join-done-requires-after_bounds g t c κs within =
    let key = c.args.shared.now.words.shared.key in
    let z = c.args.shared.now.words.shared.table_id in
    let e = c.in-Some.ensures.items in
    let front = all_front (MayWorkAt key z) c.args.todo.items c.pop.new.self.items c.in-Some.worker e c.requires.todo in
    let last = all_last (MayWorkAt key z) c.args.todo.items c.pop.new.self.items c.in-Some.worker e c.requires.todo in
    let room = c.requires.room in
    let n = ap length e ∙ length-append c.pop.new.self.items _ in
    ((omega (arith, c.decreases, c.in-Some.ensures.cases), (λ a m. m, (λ a m. m, ((search rules, search rules, front, c.requires.done, omega (arith, room, n)), (search rules, search rules))))), (search rules, search rules, last))

pub push_reserved-requires : goal.push_reserved-requires
push_reserved-requires g t c =
    let f = c.join-done.ensures.first in
    let e = c.in-Some.ensures.items in
    let room = c.requires.room in
    let n = ap length e ∙ length-append c.pop.new.self.items _ in
    let m = worked_count c.join-done.result.0.items c.args.done.items c.pop.new.self.items f.1 in
    omega (arith, room, n, m, c.join-done.result.0.ok.0, f.2)

pub returns-clause-finished : goal.returns-clause-finished
returns-clause-finished g t c =
    let z = c.args.shared.now.words.shared.table_id in
    all_pushed (HasWorkedAt z) c.push_reserved.new.self.items c.join-done.result.0.items c.join-done.result.1 c.push_reserved.ensures.items c.join-done.ensures.first.0 c.join-done.ensures.second.0
