use Rattle.slub_list_machine.proofs.lists.Lists.poke.Goals as goal

-- whatever number it was
pub returns-in-Some-clause-others : goal.returns-in-Some-clause-others
returns-in-Some-clause-others c = c.poke_known.ensures.others c.args.object
