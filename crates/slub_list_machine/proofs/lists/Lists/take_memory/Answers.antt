use Rattle.slub_list_machine.proofs.Opening.{is-opening}
use Rattle.slub_list_machine.proofs.lists.Lists.take_memory.Goals as goal

-- each part is the opening one
pub returns : goal.returns
returns c =
    is-opening c.args.frames c.args.cpus c.args.objects c.args.names.now c.in_ok-open.field-0 c.in_ok-open_slabs.field-0.items c.in_ok-open-2.field-0 c.in_ok-open-3.field-0
    c.in_ok-open_cpu_lists.field-0.items c.in_ok-open_nodes.field-0.items c.in_ok-open_checked.field-0.items c.in_ok-open-4.field-0 c.in_ok-open_board.field-0.items c.in_ok-open_board-2.field-0.items c.in_ok-zeros.field-0.items
    c.in_ok-open.ensures.opened c.in_ok-open_slabs.ensures c.in_ok-open-2.ensures c.in_ok-open-3.ensures.opened c.in_ok-open_cpu_lists.ensures c.in_ok-open_nodes.ensures c.in_ok-open_checked.ensures
    c.in_ok-open-4.ensures c.in_ok-open_board.ensures c.in_ok-open_board-2.ensures c.in_ok-zeros.ensures
