use Rattle.slub_list_machine.proofs.lists.Lists.write.Goals as goal

-- an object's words are no others'
pub returns-clause-others : goal.returns-clause-others
returns-clause-others c = c.set_word.ensures.others c.args.object
