use Rattle.std.proofs.lemmas.Grind.{common_steps}
use Rattle.std.proofs.Common.{arith}
use Rattle.slub_list_machine.proofs.lists.Lists.give_in.Goals as goal

-- only the cache's slabs are others
pub returns : goal.returns
returns c = record {
  slabs = c.in-Some.slabs;
  rest = c.give.new.self;
  swaps = record { was = grind (arith, common_steps); now = grind (arith, common_steps); sound = c.give.ensures.sound };
  gives = c.give.ensures.gives;
  objects = c.give.ensures.objects;
}
