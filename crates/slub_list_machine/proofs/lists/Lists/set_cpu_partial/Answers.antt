use Rattle.std.proofs.Common.{◌≡◌, ◌∙◌, ap, subst, arith}
use Rattle.std.proofs.lemmas.Grind.{common_steps}
use Rattle.slub_object_layout.specs.declared.layout.Setting.TheVariants.{CpuPartial}
use Rattle.slub_cache_create.specs.Sound.{IsSound}
use Rattle.slub_cache_create.specs.Table.{Table}
use Rattle.slub_cache_create.specs.Tune.{with_setting as table_with_setting}
use Rattle.slub_lists.specs.State.{State}
use Rattle.slub_lists.specs.Tune.{with_setting}
use Rattle.slub_lists.proofs.SweepingChecked.{coherent-at}
use Rattle.slub_lists.proofs.Tuning.{cpu_partial-coherent}
use Rattle.slub_list_machine.proofs.lists.Lists.set_cpu_partial.Goals as goal

pub returns-clause-coherent : goal.returns-clause-coherent
returns-clause-coherent c =
    let s : State = c.args.self.now in
    let same : c.self.inside.table ≡ s.table = ap (λ (t : State). t.table) c.self.view_is in
    let now : c.tune.new.self ≡ table_with_setting s.table c.args.cache (CpuPartial c.args.objects) =
    c.tune.ensures.tuned ∙ ap (λ (t : Table). table_with_setting t c.args.cache (CpuPartial c.args.objects)) same in
    coherent-at (with_setting s c.args.cache (CpuPartial c.args.objects)) _ (grind (arith, common_steps))
    (cpu_partial-coherent s c.args.cache c.args.objects c.requires.coherent c.requires.unchecked (subst IsSound now c.tune.ensures.sound))
