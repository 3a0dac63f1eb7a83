use Rattle.std.proofs.Common.{◌≡◌, ap, subst, arith}
use Rattle.std.proofs.lemmas.Grind.{common_steps}
use Rattle.slub_cache_create.specs.Drop.{Drops, without_cache}
use Rattle.slub_cache_create.specs.Sound.{IsSound}
use Rattle.slub_cache_create.specs.Table.{Table}
use Rattle.slub_lists.specs.State.{State}
use Rattle.slub_lists.specs.Destroy.{without}
use Rattle.slub_lists.proofs.Destroying.{dropped-last, without-coherent, without-from}
use Rattle.slub_lists.proofs.SweepingChecked.{coherent-at}
use Rattle.slub_list_machine.proofs.lists.Lists.drop_last.Goals as goal

-- the table has the cache no more
table-is : (c : goal.Joined-index_mut) → c.drop_name-dropped.new.self ≡ without_cache c.args.self.now.table c.args.name.now c.args.cache
table-is c =
    let s : State = c.args.self.now in
    let same : c.self.inside.table ≡ s.table = ap (λ (t : State). t.table) c.self.view_is in
    dropped-last s.table c.drop_name-dropped.new.self c.args.name.now c.args.cache c.drop_name-dropped.result c.requires.named c.requires.last
    (subst (λ (t : Table). Drops t c.args.name.now c.drop_name-dropped.result c.drop_name-dropped.new.self) same c.drop_name-dropped.ensures.dropped)

pub returns-clause-dropped : goal.returns-clause-dropped
returns-clause-dropped c = without-from c.args.self.now _ c.drop_name-dropped.new.self c.args.name.now c.args.cache (table-is c) (grind (arith, common_steps))

pub returns-clause-coherent : goal.returns-clause-coherent
returns-clause-coherent c =
    let s : State = c.args.self.now in
    coherent-at (without s c.args.name.now c.args.cache) _ (returns-clause-dropped c)
    (without-coherent s c.args.name.now c.args.cache c.requires.coherent (subst IsSound (table-is c) c.drop_name-dropped.ensures.sound) c.requires.empty)
