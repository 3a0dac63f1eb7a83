use Rattle.slub_lists.proofs.ObjectWords.{swaps-coherent, swaps-others}
use Rattle.slub_list_machine.proofs.lists.Lists.poke_known.Goals as goal

-- only a byte of a slab is another
pub returns-in-Ok-clause-others : goal.returns-in-Ok-clause-others
returns-in-Ok-clause-others c = swaps-others c.args.self.now c.poke_slab.new.self c.args.held.now.cache c.poke_slab.ensures.slabs c.poke_slab.ensures.rest c.poke_slab.ensures.swaps c.poke_slab.ensures.objects

pub returns-in-Ok-clause-coherent : goal.returns-in-Ok-clause-coherent
returns-in-Ok-clause-coherent c = swaps-coherent c.args.self.now c.poke_slab.new.self c.args.held.now.cache c.poke_slab.ensures.slabs c.poke_slab.ensures.rest c.poke_slab.ensures.swaps c.poke_slab.ensures.objects c.requires.coherent
