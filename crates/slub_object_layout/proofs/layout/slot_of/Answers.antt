use Rattle.std.proofs.Common.{◌≡◌, rules}
use Rattle.slub_object_layout.specs.Layout.{slot_of, used_of}
use Rattle.slub_object_layout.proofs.Slots.{slot_is}
use Rattle.slub_object_layout.proofs.layout.slot_of.Goals as goal

slot : (c : goal.After-align_up) → c.align_up.result ≡ slot_of c.args.spec.now
unfolding slot_of used_of
slot c = search rules

pub returns-clause-from_a_word : goal.returns-clause-from_a_word
returns-clause-from_a_word c = rw (slot c) (slot_is c.args.spec.now c.requires).from_a_word

pub returns-clause-to_six_frames : goal.returns-clause-to_six_frames
returns-clause-to_six_frames c = rw (slot c) (slot_is c.args.spec.now c.requires).to_six_frames
