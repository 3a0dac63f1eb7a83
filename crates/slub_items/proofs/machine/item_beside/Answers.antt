use Rattle.slub_items.proofs.machine.item_beside.Goals as goal

pub settle-requires-clause-fits : goal.settle-requires-clause-fits
settle-requires-clause-fits c = (c.args.lists.now, c.of-due.ensures, c.requires.ready.cpus, c.requires.ids)
