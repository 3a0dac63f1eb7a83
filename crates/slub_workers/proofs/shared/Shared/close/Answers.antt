use Rattle.std.proofs.Common.{◌≡◌, List, ap, sym, ◌∙◌, subst, arith}
use Rattle.std.specs.Mem.Slots.{slots_items, slots_counts}
use Rattle.slub_core.specs.declared.guarded.Guarded.{Guarded}
use Rattle.slub_schedule.specs.Table.{WordTable}
use Rattle.slub_workers.specs.Cells.{by_number}
use Rattle.slub_workers.specs.Rule.{table_in}
use Rattle.slub_workers.specs.Round.{HasClosed}
use Rattle.slub_workers.proofs.Cells.{length-by_number}
use Rattle.slub_workers.proofs.Closing.{ends}
use Rattle.slub_workers.proofs.shared.Shared.close.Goals as goal

pub fill-requires : goal.fill-requires
fill-requires c =
    let words = slots_items c.close_with-closed.result.words in
    let n = slots_counts c.close_with-closed.result.words in
    let m = c.close_with-closed.ensures.counts.0 in
    let k = c.args.self.room in
    let long = length-by_number words in
    omega arith

pub returns-clause-closed : goal.returns-clause-closed
returns-clause-closed c =
    let self = c.args.self in
    let key = self.words.shared.key in
    let closed = c.close_with-closed in
    let words = slots_items closed.result.words in
    let xs = slots_items closed.result.slots in
    let n = slots_counts closed.result.slots in
    let m = closed.ensures.counts.1 in
    let k = self.slots in
    let stood : self.table ≡ key.table = sym self.stood in
    let table : c.fill.new.self ≡ table_in key (by_number words) = c.fill.ensures ∙ ap (λ (t : WordTable). record t { words = by_number words }) stood in
    subst (λ (guards : List Guarded). HasClosed key c.args.ended.tried record { facts = self.setup; table = c.fill.new.self; guards = guards; locals = c.args.ended.locals.items }) (sym c.values_of-values.ensures.values)
    (ends c.args.ended.tried key c.args.ended.root.id c.args.ended.root.me.0 c.args.ended.locals.items words xs c.requires.ended.back c.requires.ended.all closed.ensures.values.2 self.setup c.fill.new.self (omega arith) (sym self.facts) table)
