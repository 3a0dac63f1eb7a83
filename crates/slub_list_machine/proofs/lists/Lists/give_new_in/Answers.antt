use Rattle.std.proofs.Common.{◌≡◌, IfOk, get_or, subst, arith}
use Rattle.std.proofs.lemmas.Grind.{common_steps}
use Rattle.slub_red_zone.specs.declared.checked.Run.{Run}
use Rattle.slub_red_zone.specs.Objects.{AddsGivenSlab}
use Rattle.slub_object_layout.specs.Layout.{IsSized}
use Rattle.slub_red_zone.specs.State.{Has}
use Rattle.slub_red_zone.specs.Steps.{GivesNew}
use Rattle.slub_lists.specs.State.{State}
use Rattle.slub_lists.proofs.CheckedReplies.{read-slabs}
use Rattle.slub_list_machine.proofs.lists.Lists.give_new_in.Goals as goal

-- only the cache's slabs are others
pub returns : goal.returns
returns c = record {
  slabs = c.in-Some.slabs;
  rest = c.give_new.new.self;
  swaps = record {
    was = read-slabs c.args.self.now c.args.cache c.index_mut-slabs.result.now c.in-Some.slabs (λ slabs. (¬ Has slabs c.args.run.now.frame) × IsSized slabs.layout c.args.run.now.order c.args.run.now.objects) c.requires.slab
        (subst (λ (s : State). c.index_mut-slabs.result.now ≡ get_or s.checked c.args.cache c.index_mut-slabs.result.now) c.self.view_is c.index_mut-slabs.ensures.value) c.in-Some.is;
    now = grind (arith, common_steps);
    sound = c.give_new.ensures.sound;
  };
  gives = subst (λ (r : Run). GivesNew c.in-Some.slabs r c.args.run.now.objects c.give_new.result c.give_new.new.self) c.run_of.ensures c.give_new.ensures.gives;
  slab = subst (λ (r : Run). IfOk c.give_new.result (λ slot. AddsGivenSlab c.in-Some.slabs r c.args.run.now.objects slot c.give_new.new.self)) c.run_of.ensures c.give_new.ensures.slab;
}
