use Rattle.std.proofs.Common.{◌≡◌, ◌+◌, ◌*◌, ◌≤◌, get_or, subst, arith}
use Rattle.std.proofs.lemmas.Grind.{common_steps}
use Rattle.slub_red_zone.specs.State.{IsUsed}
use Rattle.slub_lists.specs.State.{State}
use Rattle.slub_lists.proofs.CheckedReplies.{read-slabs}
use Rattle.slub_list_machine.proofs.lists.Lists.set_slab_word.Goals as goal

-- only the cache's slabs are others
pub returns : goal.returns
returns c = record {
  slabs = c.in-Some.slabs;
  rest = c.set_word.new.self;
  swaps = record {
    was = read-slabs c.args.self.now c.args.cache c.index_mut-slabs.result.now c.in-Some.slabs (λ slabs. IsUsed slabs c.args.slot × (8 * (c.args.word + 1) ≤ slabs.layout.object_size)) c.requires
        (subst (λ (s : State). c.index_mut-slabs.result.now ≡ get_or s.checked c.args.cache c.index_mut-slabs.result.now) c.self.view_is c.index_mut-slabs.ensures.value) c.in-Some.is;
    now = grind (arith, common_steps);
    sound = c.set_word.ensures.sound;
  };
  written = c.set_word.ensures.written;
  objects = c.set_word.ensures.objects;
}
