use Rattle.std.proofs.Common.{rules}
use Rattle.slub_rounds.specs.Heap.{HeapState}
use Rattle.slub_rounds.proofs.Created.{create-stays}
use Rattle.slub_rounds.proofs.create.create.Goals as goal

pub returns-clause-stays : goal.returns-clause-stays
returns-clause-stays c =
    let after : HeapState = record { lists = c.create.new.lists; ids = c.match-ids-2.ids } in
    create-stays c.args.heap c.args.trace.now c.args.name.now c.args.spec.now c.in_ok-made.made after c.requires.sound (search rules) (search rules) (search rules)
