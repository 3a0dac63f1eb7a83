use Rattle.std.proofs.Common.{◌≡◌, None, arith}
use Rattle.std.proofs.lemmas.Grind.{common_steps}
use Rattle.slub_lists.specs.State.{State}
use Rattle.slub_lists.specs.Alloc.{checked_of}
use Rattle.slub_lists.specs.Shrink.{min_partial_of}
use Rattle.slub_lists.proofs.Tuning.{tunes-unchecked}
use Rattle.slub_list_machine.proofs.lists.Lists.tune_cpu_partial.Goals as goal

pub returns-clause-tunes : goal.returns-clause-tunes
returns-clause-tunes c =
    let s : State = c.args.self.now in
    let none : checked_of s c.args.cache ≡ None = grind (arith, common_steps) in
    let least : c.layout.result.now.min_partial ≡ min_partial_of s c.args.cache = grind (arith, common_steps) in
    let done = c.flush_cpus.ensures in
    tunes-unchecked s c.flush_cpus.new.self c.set_cpu_partial.new.self c.args.cache c.args.objects c.layout.result.now.min_partial c.requires.coherent c.set_cpu_partial.ensures.coherent
    none least done.flushed done.slabs done.rest c.set_cpu_partial.ensures.set
