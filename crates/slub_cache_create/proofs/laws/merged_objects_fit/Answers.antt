use Rattle.std.proofs.Common.{◌≡◌, ◌≤◌, ◌%◌, arith}
use Rattle.slub_object_layout.specs.Layout.{alignment_of, align_up}
use Rattle.slub_object_layout.proofs.Slots.{alignment_is, address-mod}
use Rattle.slub_cache_create.specs.Merging.{wanted_of}
use Rattle.slub_cache_create.proofs.Layouts.{align_up-le, no_zones}
use Rattle.slub_cache_create.proofs.laws.merged_objects_fit.Goals as goal

pub returns-clause-within : goal.returns-clause-within
returns-clause-within c =
    let spec = c.args.spec.now in
    let live = c.args.live.now in
    let slot = alignment_is spec c.requires.accepted in
    let none : live.layout.left_pad ≡ 0 = c.requires.layout.unpadded (no_zones live.flags c.requires.fits.unchecked) in
    let words : spec.size ≤ align_up spec.size 8 = align_up-le spec.size 8 (omega arith) in
    let wanted : align_up spec.size 8 ≤ wanted_of spec = align_up-le (align_up spec.size 8) (alignment_of spec) (omega (arith, slot.from_word)) in
    omega (arith, none, words, wanted, c.requires.fits.holds)

pub returns-clause-aligned : goal.returns-clause-aligned
returns-clause-aligned c =
    let spec = c.args.spec.now in
    let live = c.args.live.now in
    let slot = alignment_is spec c.requires.accepted in
    let none : live.layout.left_pad ≡ 0 = c.requires.layout.unpadded (no_zones live.flags c.requires.fits.unchecked) in
    let nothing : live.layout.left_pad % alignment_of spec ≡ 0 = rw none (omega (arith, slot.from_word)) in
    λ index. address-mod c.args.frame index live.layout.size live.layout.left_pad (alignment_of spec) slot.divides_frame c.requires.fits.aligned nothing
