use Rattle.std.proofs.lemmas.Grind.{common_steps}
use Rattle.std.proofs.Common.{sym, subst, arith}
use Rattle.slub_lists.specs.Coherent.{IsConsistent}
use Rattle.slub_lists.proofs.Coherence.{current-inside, retired-consistent}
use Rattle.slub_list_machine.proofs.lists.Lists.retire.Goals as goal

pub set_frozen-requires : goal.set_frozen-requires
set_frozen-requires c =
    omega (arith, current-inside c.args.self.now c.args.cache c.args.cpu c.requires.consistent c.requires.cache c.requires.cpu c.args.frame c.requires.current, c.requires.consistent.shaped.slabs)

pub returns-clause-retired : goal.returns-clause-retired
returns-clause-retired c = grind (arith, common_steps)

pub returns-clause-consistent : goal.returns-clause-consistent
returns-clause-consistent c =
    subst IsConsistent (sym (returns-clause-retired c)) (retired-consistent c.args.self.now c.args.cache c.args.cpu c.requires.consistent c.requires.cache c.requires.cpu c.args.frame c.requires.current c.requires.free)
