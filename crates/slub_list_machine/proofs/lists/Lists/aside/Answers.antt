use Rattle.std.proofs.Common.{arith}
use Rattle.slub_lists.proofs.Busy.{aside-most}
use Rattle.slub_list_machine.proofs.lists.Lists.aside.Goals as goal

-- a slab has 512 objects at most
pub returns-in-Some-clause-most : goal.returns-in-Some-clause-most
returns-in-Some-clause-most c = omega (arith, c.aside.ensures.aside, aside-most _ c.aside.ensures.sound)
