use Rattle.std.proofs.Common.{rules, w32, ◌≡◌, ◌<◌, get_or, subst, arith}
use Rattle.std.specs.Prelude.{ℤ}
use Rattle.std.proofs.lemmas.Int.{to_z-of_z}
use Rattle.std.proofs.lemmas.Grind.{common_steps}
use Rattle.slub_red_zone.specs.State.{objects_in, slab_of as checked_slab}
use Rattle.slub_red_zone.specs.Steps.{Pokes}
use Rattle.slub_lists.specs.State.{State}
use Rattle.slub_lists.proofs.CheckedReplies.{read-slabs}
use Rattle.slub_list_machine.proofs.lists.Lists.poke_slab.Goals as goal

-- only the cache's slabs are others
pub returns : goal.returns
returns c = record {
  slabs = c.in-Some.slabs;
  rest = c.poke.new.self;
  swaps = record {
    was = read-slabs c.args.self.now c.args.cache c.index_mut-slabs.result.now c.in-Some.slabs (λ slabs. c.args.slot.index < objects_in (checked_slab slabs c.args.slot.frame)) c.requires
        (subst (λ (s : State). c.index_mut-slabs.result.now ≡ get_or s.checked c.args.cache c.index_mut-slabs.result.now) c.self.view_is c.index_mut-slabs.ensures.value) c.in-Some.is;
    now = grind (arith, common_steps);
    sound = c.poke.ensures.sound;
  };
  pokes = subst (λ (z : ℤ). Pokes c.in-Some.slabs c.args.slot z c.args.byte c.poke.result c.poke.new.self) (to_z-of_z w32 c.args.offset (search rules)) c.poke.ensures.pokes;
  objects = c.poke.ensures.objects;
}
