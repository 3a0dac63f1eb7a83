use Rattle.std.proofs.Common.{◌≡◌, get_or, arith}
use Rattle.std.proofs.lemmas.Grind.{common_steps}
use Rattle.slub_lists.proofs.Busy.{live-most}
use Rattle.slub_list_machine.proofs.lists.Lists.busy.Goals as goal

-- the count that is read is the cache's
read : (c : goal.After-row_known-1) → c.index.result.now ≡ get_or c.args.self.now.live c.args.cache 0
read c = grind (arith, common_steps)

read-then : (c : goal.After-aside) → c.index.result.now ≡ get_or c.args.self.now.live c.args.cache 0
read-then c = grind (arith, common_steps)

pub overflow_cast-result : goal.overflow_cast-result
overflow_cast-result c = omega (arith, read c, live-most c.args.self.now c.requires.coherent c.args.cache)

-- no more than the objects of 4096 slabs are held, and no more are set aside
pub overflow_add-result : goal.overflow_add-result
overflow_add-result c = omega (arith, read-then c, live-most c.args.self.now c.requires.coherent c.args.cache, c.aside.ensures.most)

pub returns : goal.returns
returns c = omega (arith, read-then c, c.aside.ensures.aside)
