use Rattle.std.proofs.Common.{◌∙◌, arith, vec_capacity}
use Rattle.slub_list_machine.specs.Parts.{state_of}
use Rattle.slub_open_close.specs.Classes.{slab_number}
use Rattle.slub_open_close.proofs.Pushes.{class-more, class-room}
use Rattle.slub_open_close.proofs.classes.push_slabs.Goals as goal

pub push_reserved-requires : goal.push_reserved-requires
push_reserved-requires c =
    let r = class-room c.args.words.now.items c.loop-frame.words.items (slab_number (state_of c.args.parts.now)) 0 (c.loop-frame.frame) c.args.parts.now.frames (vec_capacity c.args.words.now) c.loop-frame.invariant.words c.requires.room (c.loop-frame-test.true) in
    omega (arith, r, c.loop-frame.invariant.capacity)

pub loop-frame-preserved : goal.loop-frame-preserved
loop-frame-preserved c = record {
  words = c.push_reserved.ensures.items ∙ class-more c.args.words.now.items c.loop-frame.words.items (slab_number (state_of c.args.parts.now)) 0 (c.loop-frame.frame) (c.loop-frame.frame) _ (omega arith) c.loop-frame.invariant.words (c.slab_number.ensures);
  capacity = c.push_reserved.ensures.capacity ∙ c.loop-frame.invariant.capacity;
}
