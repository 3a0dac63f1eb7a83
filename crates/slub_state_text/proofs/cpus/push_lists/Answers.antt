use Rattle.slub_state_text.specs.Cpus.{list_row}
use Rattle.slub_state_text.proofs.Takes.{text_next}
use Rattle.slub_state_text.proofs.cpus.push_lists.Goals as goal

pub loop-cpu-preserved : goal.loop-cpu-preserved
loop-cpu-preserved c =
    text_next (list_row c.args.lists.now c.args.title.now c.args.cache) c.loop-cpu.cpu c.args.text.now.items c.loop-cpu.text.items c.push_list.new.text.items c.loop-cpu.invariant c.in_ok-push_list.ensures
