use Rattle.slub_object_layout.specs.Layout.{slot_of, left_pad_of}
use Rattle.slub_object_layout.proofs.Slots.{alignment_is, address-mod, align_up-mod, pad-mod}
use Rattle.slub_object_layout.proofs.laws.objects_are_aligned.Goals as goal

pub returns : goal.returns
unfolding slot_of left_pad_of
returns c =
    let spec = c.args.spec.now in
    let is = c.requires.solved in
    λ index. rw (is.align, is.size, is.left_pad)
    (address-mod c.args.frame index _ _ _ (alignment_is spec c.requires.accepted).divides_frame (align_up-mod _ _) (pad-mod spec.flags.zones _))
