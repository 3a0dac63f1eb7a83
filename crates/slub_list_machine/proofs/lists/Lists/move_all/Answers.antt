use Rattle.std.proofs.Common.{true, refl, ◌∙◌, arith}
use Rattle.slub_lists.proofs.Coherence.{place-inside}
use Rattle.slub_lists.proofs.Leaving.{leaves-both, leaves-front, leaves-same}
use Rattle.slub_lists.proofs.Moving.{set_moved-step, front-cpus}
use Rattle.slub_list_machine.proofs.lists.Lists.move_all.Goals as goal

pub loop-init : goal.loop-init
loop-init c = record {
  consistent = c.requires.consistent;
  cpu = c.requires.cpu;
  slabs = leaves-same c.args.self.now c.args.self.now c.args.cache refl;
  moved = refl;
}

pub loop-preserved : goal.loop-preserved
loop-preserved c =
    let front = c.loop-test.ensures.moved in
    let inside = place-inside c.loop.self c.args.cache c.args.cpu c.loop.invariant.consistent.shaped c.requires.cache c.loop.invariant.cpu in
    record {
      consistent = c.loop-test.ensures.consistent;
      cpu = omega (arith, c.loop.invariant.cpu, front-cpus c.loop.self c.move_front.new.self c.args.min_partial c.args.cache c.args.cpu front.0 front.1 front.3);
      slabs = leaves-both c.args.self.now c.loop.self c.move_front.new.self c.args.cache c.loop.invariant.slabs
          (leaves-front c.loop.self c.move_front.new.self c.args.min_partial c.args.cache c.args.cpu true c.loop.invariant.consistent c.requires.cache c.loop.invariant.cpu front);
      moved = set_moved-step c.loop.self c.move_front.new.self c.args.min_partial c.args.cache c.args.cpu front.0 front.1 inside front.2 front.3 ∙ c.loop.invariant.moved;
    }
