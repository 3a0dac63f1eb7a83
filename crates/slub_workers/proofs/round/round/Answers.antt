use Rattle.std.proofs.Common.{List, length, All, sym, ap, subst, arith}
use Rattle.atomic_table.specs.Seated.{TableId}
use Rattle.slub_core.specs.Local.{Local}
use Rattle.slub_core.specs.Run.{IsFinished}
use Rattle.slub_workers.specs.Standing.{Standing}
use Rattle.slub_workers.specs.Ends.{AreGathered, IsIdleAt, HasNotTried}
use Rattle.slub_workers.specs.Workers.{HasWorkedAt}
use Rattle.slub_workers.proofs.Worked.{seated_count, worked_numbers}
use Rattle.slub_workers.proofs.Ended.{all_weaker, all_risen}
use Rattle.slub_workers.proofs.round.round.Goals as goal

pub work_all-list-requires-clause-room : goal.work_all-list-requires-clause-room
work_all-list-requires-clause-room g c =
    let s = c.requires.seated in
    let many = seated_count c.args.workers.list.items _ s.numbers in
    let none = ap length s.room.done.0 in
    let room = s.room.done.1 in
    omega (arith, many, none, room)

pub take_all-requires-clause-list : goal.take_all-requires-clause-list
take_all-requires-clause-list g c =
    let table = c.args.shared.now.words.shared.table_id in
    all_weaker (HasWorkedAt table) (IsIdleAt table) c.work_all-list.result.items (λ w h. (h.0, h.1.between)) c.work_all-list.ensures.finished

pub take_all-requires-clause-numbers : goal.take_all-requires-clause-numbers
take_all-requires-clause-numbers g c =
    let s = c.requires.seated in
    (worked_numbers c.work_all-list.result.items c.args.workers.rest.done.items c.args.workers.list.items _ s.room.done.0 c.work_all-list.ensures.numbers s.numbers).0

pub take_all-requires-clause-room : goal.take_all-requires-clause-room
take_all-requires-clause-room g c =
    let s = c.requires.seated in
    let many = (worked_numbers c.work_all-list.result.items c.args.workers.rest.done.items c.args.workers.list.items _ s.room.done.0 c.work_all-list.ensures.numbers s.numbers).1 in
    let room = s.room.locals.1 in
    (s.room.locals.0, omega (arith, many, room))

pub returns-clause-ended : goal.returns-clause-ended
returns-clause-ended g c =
    let s = c.requires.seated in
    let table = c.args.shared.now.words.shared.table_id in
    let many = (worked_numbers c.work_all-list.result.items c.args.workers.rest.done.items c.args.workers.list.items _ s.room.done.0 c.work_all-list.ensures.numbers s.numbers).1 in
    subst (λ n. AreGathered table n c.take_all.result) many c.take_all.ensures.gathered

pub returns-clause-untried : goal.returns-clause-untried
returns-clause-untried g c =
    let table = c.args.shared.now.words.shared.table_id in
    c.take_all.ensures.untried (all_weaker (HasWorkedAt table) HasNotTried c.work_all-list.result.items (λ w h. h.2) c.work_all-list.ensures.finished)

pub returns-clause-finished : goal.returns-clause-finished
returns-clause-finished g c =
    let table = c.args.shared.now.words.shared.table_id in
    subst (λ (ls : List Local). All IsFinished ls) (sym c.take_all.ensures.locals)
    (all_risen IsFinished c.work_all-list.result.items (all_weaker (HasWorkedAt table) (λ (w : TableId × Standing). IsFinished w.1.local) c.work_all-list.result.items (λ w h. h.1) c.work_all-list.ensures.finished))
