use Rattle.std.proofs.Common.{◌≡◌, ap, subst, arith}
use Rattle.std.proofs.lemmas.Grind.{common_steps}
use Rattle.slub_cache_create.specs.Drop.{Drops, without_alias}
use Rattle.slub_cache_create.specs.Sound.{IsSound}
use Rattle.slub_cache_create.specs.Table.{Table}
use Rattle.slub_lists.specs.State.{State}
use Rattle.slub_lists.proofs.Destroying.{alias-coherent, alias-from, dropped-alias}
use Rattle.slub_lists.proofs.SweepingChecked.{coherent-at}
use Rattle.slub_list_machine.proofs.lists.Lists.drop_alias.Goals as goal

-- the table has a name less
table-is : (c : goal.After-drop_name-dropped) → c.drop_name-dropped.new.self ≡ without_alias c.args.self.now.table c.args.name.now c.args.cache
table-is c =
    let s : State = c.args.self.now in
    let same : c.self.inside.table ≡ s.table = ap (λ (t : State). t.table) c.self.view_is in
    dropped-alias s.table c.drop_name-dropped.new.self c.args.name.now c.args.cache c.drop_name-dropped.result c.requires.named c.requires.others
    (subst (λ (t : Table). Drops t c.args.name.now c.drop_name-dropped.result c.drop_name-dropped.new.self) same c.drop_name-dropped.ensures.dropped)

pub returns-clause-dropped : goal.returns-clause-dropped
returns-clause-dropped c = alias-from c.args.self.now _ c.drop_name-dropped.new.self c.args.name.now c.args.cache (table-is c) (grind (arith, common_steps))

pub returns-clause-coherent : goal.returns-clause-coherent
returns-clause-coherent c =
    let s : State = c.args.self.now in
    coherent-at (record s { table = without_alias s.table c.args.name.now c.args.cache }) _ (returns-clause-dropped c)
    (alias-coherent s c.args.name.now c.args.cache c.requires.coherent (subst IsSound (table-is c) c.drop_name-dropped.ensures.sound))
