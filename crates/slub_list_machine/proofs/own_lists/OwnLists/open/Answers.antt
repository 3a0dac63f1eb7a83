use Rattle.slub_list_machine.proofs.Places.{lists-opened}
use Rattle.slub_list_machine.proofs.own_lists.OwnLists.open.Goals as goal

pub returns : goal.returns
returns c = lists-opened c.in_ok-with_capacity.field-0.items c.in_ok-zeros.field-0.items c.args.frames c.in_ok-zeros.ensures
