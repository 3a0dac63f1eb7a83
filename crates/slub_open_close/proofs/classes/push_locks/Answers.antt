use Rattle.std.proofs.Common.{◌∙◌, arith, refl, vec_capacity}
use Rattle.slub_open_close.specs.Classes.{no_lock}
use Rattle.slub_open_close.proofs.Pushes.{class-more, class-room}
use Rattle.slub_open_close.proofs.classes.push_locks.Goals as goal

pub push_reserved-requires : goal.push_reserved-requires
push_reserved-requires c =
    let r = class-room c.args.words.now.items c.loop.words.items no_lock 0 c.loop.counter 33 (vec_capacity c.args.words.now) c.loop.invariant.words c.requires.room c.loop-test.true in
    omega (arith, r, c.loop.invariant.capacity)

pub loop-preserved : goal.loop-preserved
loop-preserved c = record {
  words = c.push_reserved.ensures.items ∙ class-more c.args.words.now.items c.loop.words.items no_lock 0 c.loop.counter c.loop.counter 0 (omega arith) c.loop.invariant.words refl;
  capacity = c.push_reserved.ensures.capacity ∙ c.loop.invariant.capacity;
}
