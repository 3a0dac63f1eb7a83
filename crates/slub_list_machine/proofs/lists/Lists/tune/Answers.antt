use Rattle.std.proofs.Common.{◌≡◌, Some, ap, sym, ◌∙◌}
use Rattle.slub_cache_create.specs.Table.{number_of}
use Rattle.slub_cache_create.proofs.Oldest.{named_alive}
use Rattle.slub_lists.specs.State.{State}
use Rattle.slub_list_machine.proofs.lists.Lists.tune.Goals as goal

pub set_min_partial-requires-clause-live : goal.set_min_partial-requires-clause-live
set_min_partial-requires-clause-live c =
    let s : State = c.args.self.now in
    let is : number_of s.table c.args.name.now ≡ Some c.in-Some.cache = ap (λ (t : State). number_of t.table c.args.name.now) (sym c.self.view_is) ∙ sym c.in-Some.ensures.named in
    named_alive s.table c.args.name.now c.in-Some.cache c.requires.coherent.shaped.table is

pub tune_cpu_partial-requires-clause-live : goal.tune_cpu_partial-requires-clause-live
tune_cpu_partial-requires-clause-live c =
    let s : State = c.args.self.now in
    let is : number_of s.table c.args.name.now ≡ Some c.in-Some.cache = ap (λ (t : State). number_of t.table c.args.name.now) (sym c.self.view_is) ∙ sym c.in-Some.ensures.named in
    named_alive s.table c.args.name.now c.in-Some.cache c.requires.coherent.shaped.table is
