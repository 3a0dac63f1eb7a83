use Rattle.std.proofs.Common.{arith}
use Rattle.std.proofs.lemmas.Grind.{common_steps}
use Rattle.slub_lists.specs.Free.{with_gone}
use Rattle.slub_lists.proofs.Coherence.{consistent-at}
use Rattle.slub_lists.proofs.Taking.{with_gone-consistent}
use Rattle.slub_list_machine.proofs.lists.Lists.note_gone.Goals as goal

pub returns-clause-consistent : goal.returns-clause-consistent
returns-clause-consistent c =
    consistent-at (with_gone c.args.self.now c.args.object c.args.worker c.args.held.now) _ (grind (arith, common_steps))
    (with_gone-consistent c.args.self.now c.args.object c.args.worker c.args.held.now c.requires.consistent)
