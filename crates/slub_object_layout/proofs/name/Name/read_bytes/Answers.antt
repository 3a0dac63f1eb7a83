use Rattle.std.proofs.Common.{refl}
use Rattle.slub_object_layout.proofs.Names.{filled}
use Rattle.slub_object_layout.proofs.name.Name.read_bytes.Goals as goal

pub invariant_of-result : goal.invariant_of-result
invariant_of-result c =
    filled c.args.text.now _ _ c.copy_from_slice.ensures.after refl (c.is_name.ensures.0 c.if-not-is_name.false)
