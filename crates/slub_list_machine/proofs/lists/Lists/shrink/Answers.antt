use Rattle.std.proofs.Common.{◌≡◌, Some, ap, sym, ◌∙◌}
use Rattle.slub_cache_create.specs.Table.{number_of}
use Rattle.slub_cache_create.proofs.Oldest.{named_alive}
use Rattle.slub_lists.specs.State.{State}
use Rattle.slub_list_machine.proofs.lists.Lists.shrink.Goals as goal

-- the name names a live cache
named : (c : goal.After-shrink_cache-arg-1) → number_of c.args.self.now.table c.args.name.now ≡ Some c.in-Some.cache
named c = ap (λ (s : State). number_of s.table c.args.name.now) (sym c.self.view_is) ∙ sym c.in-Some.ensures.named

pub shrink_cache-requires-clause-live : goal.shrink_cache-requires-clause-live
shrink_cache-requires-clause-live c = named_alive c.args.self.now.table c.args.name.now c.in-Some.cache c.requires.coherent.shaped.table (named c)
