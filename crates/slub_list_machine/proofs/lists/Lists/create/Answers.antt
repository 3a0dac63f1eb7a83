use Rattle.slub_lists.proofs.Creating.{answered-coherent}
use Rattle.slub_list_machine.proofs.lists.Lists.create.Goals as goal

pub returns-clause-coherent : goal.returns-clause-coherent
returns-clause-coherent c =
    let done = c.create_or_undo.ensures in
    answered-coherent c.args.self.now c.args.name.now c.args.spec.now c.create_or_undo.result c.create_or_undo.new.self c.requires.coherent done.created (λ ok. (done.accepted ok).1) done.unchanged done.sound
