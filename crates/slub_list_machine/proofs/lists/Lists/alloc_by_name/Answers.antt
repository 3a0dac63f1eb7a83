use Rattle.std.proofs.Common.{◌≡◌, Option, Some, MatchOption, sym, subst, arith}
use Rattle.std.proofs.lemmas.Grind.{common_steps}
use Rattle.slub_cache_create.specs.Table.{name_at}
use Rattle.slub_cache_create.proofs.Oldest.{named_alive}
use Rattle.slub_trace.specs.declared.reply.Reply.TheVariants.{NoSuchCache}
use Rattle.slub_lists.specs.Alloc.{cache_of, named}
use Rattle.slub_lists.specs.Named.{AllocatesFrom}
use Rattle.slub_lists.proofs.Giving.{live-match}
use Rattle.slub_list_machine.proofs.lists.Lists.alloc_by_name.Goals as goal

-- a name that is live names a live cache
pub alloc_from-requires-clause-live : goal.alloc_from-requires-clause-live
alloc_from-requires-clause-live c =
    let is : named c.args.self.now c.args.place ≡ Some c.in-Some.cache = grind (arith, common_steps) in
    named_alive c.args.self.now.table (name_at c.args.self.now.table c.args.place) c.in-Some.cache c.requires.consistent.shaped.table is

pub returns-in-Some-clause-allocates : goal.returns-in-Some-clause-allocates
returns-in-Some-clause-allocates c =
    let s = c.args.self.now in
    let is : named s c.args.place ≡ Some c.in-Some.cache = grind (arith, common_steps) in
    let live = named_alive s.table (name_at s.table c.args.place) c.in-Some.cache c.requires.consistent.shaped.table is in
    subst (λ (x : Option _). MatchOption x ((c.alloc_from.result ≡ NoSuchCache) × (c.alloc_from.new.self ≡ s)) (λ cache. MatchOption (cache_of s cache) ⊥ (λ l. AllocatesFrom s l.layout cache c.args.cpu c.args.worker c.args.object c.alloc_from.result c.alloc_from.new.self))) (sym is)
    (live-match (cache_of s c.in-Some.cache) (λ l. AllocatesFrom s l.layout c.in-Some.cache c.args.cpu c.args.worker c.args.object c.alloc_from.result c.alloc_from.new.self) live c.alloc_from.ensures.allocates)
