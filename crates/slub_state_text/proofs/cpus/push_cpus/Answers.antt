use Rattle.slub_state_text.specs.Cpus.{cpu_row}
use Rattle.slub_state_text.proofs.Takes.{text_next}
use Rattle.slub_state_text.proofs.cpus.push_cpus.Goals as goal

pub loop-cpu-preserved : goal.loop-cpu-preserved
loop-cpu-preserved c =
    text_next (cpu_row c.args.lists.now c.args.first c.args.ids.now c.args.title.now c.args.cache) c.loop-cpu.cpu c.args.text.now.items c.loop-cpu.text.items c.push_cpu.new.text.items c.loop-cpu.invariant c.in_ok-push_cpu.ensures
