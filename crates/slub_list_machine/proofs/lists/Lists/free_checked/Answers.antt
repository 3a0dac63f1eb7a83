use Rattle.std.proofs.Common.{◌∙◌, ap, arith}
use Rattle.slub_object_layout.specs.Layout.{address_of}
use Rattle.slub_lists.proofs.CheckedGiving.{layout-live}
use Rattle.slub_lists.proofs.CheckedFrees.{back-inside, back-is-consistent, back-there, back-used, damaged-consistent, damaged-found, damaged-frees, damaged-inside, freed-found, freed-frees, gone-inside, held-place}
use Rattle.slub_list_machine.proofs.lists.Lists.free_checked.Goals as goal

-- the object is used, since it is held
pub take_back_in-requires : goal.take_back_in-requires
take_back_in-requires c = back-used c.args.self.now c.args.object c.args.held.now c.requires.consistent c.requires.held c.requires.checked

-- a damaged one
pub keep-requires : goal.keep-requires
keep-requires c = damaged-inside c.args.self.now c.args.object c.args.held.now c.requires.consistent c.requires.held c.take_back_in.new.self c.args.layout.now c.args.worker c.in-Err.damage c.in-Err.ensures

pub returns-in-Err-clause-frees : goal.returns-in-Err-clause-frees
returns-in-Err-clause-frees c = damaged-frees c.args.self.now c.args.object c.args.held.now c.requires.consistent c.requires.held c.take_back_in.new.self c.args.layout.now c.args.worker c.in-Err.damage c.in-Err.ensures c.keep.new.self c.keep.ensures

pub returns-in-Err-clause-found : goal.returns-in-Err-clause-found
returns-in-Err-clause-found c = damaged-found c.args.self.now c.args.object c.args.held.now c.requires.consistent c.requires.held c.take_back_in.new.self c.args.layout.now c.args.worker c.in-Err.damage c.in-Err.ensures c.keep.new.self c.keep.ensures

pub returns-in-Err-clause-consistent : goal.returns-in-Err-clause-consistent
returns-in-Err-clause-consistent c = damaged-consistent c.args.self.now c.args.object c.args.held.now c.requires.consistent c.requires.held c.take_back_in.new.self c.args.layout.now c.args.worker c.in-Err.damage c.in-Err.ensures c.keep.new.self c.keep.ensures

-- a whole one
pub take_off-requires-clause-object : goal.take_off-requires-clause-object
take_off-requires-clause-object c = (back-inside c.args.self.now c.args.object c.args.held.now c.requires.consistent c.requires.held c.take_back_in.new.self c.args.layout.now c.args.worker tt c.in-Ok.ensures).0

pub take_off-requires-clause-cache : goal.take_off-requires-clause-cache
take_off-requires-clause-cache c = (back-inside c.args.self.now c.args.object c.args.held.now c.requires.consistent c.requires.held c.take_back_in.new.self c.args.layout.now c.args.worker tt c.in-Ok.ensures).1

pub take_off-requires-clause-counted : goal.take_off-requires-clause-counted
take_off-requires-clause-counted c = (back-inside c.args.self.now c.args.object c.args.held.now c.requires.consistent c.requires.held c.take_back_in.new.self c.args.layout.now c.args.worker tt c.in-Ok.ensures).2

pub discard_spare-requires-clause-consistent : goal.discard_spare-requires-clause-consistent
discard_spare-requires-clause-consistent c = back-is-consistent c.args.self.now c.args.object c.args.held.now c.requires.consistent c.requires.held c.take_back_in.new.self c.args.layout.now c.args.worker tt c.in-Ok.ensures c.take_off.new.self c.take_off.ensures

pub discard_spare-requires-clause-slab : goal.discard_spare-requires-clause-slab
discard_spare-requires-clause-slab c = back-there c.args.self.now c.args.object c.args.held.now c.requires.consistent c.requires.held c.take_back_in.new.self c.args.layout.now c.args.worker tt c.in-Ok.ensures c.take_off.new.self c.take_off.ensures

pub note_gone-requires-clause-object : goal.note_gone-requires-clause-object
note_gone-requires-clause-object c = gone-inside c.args.self.now c.args.object c.args.held.now c.requires.consistent c.requires.held c.take_back_in.new.self c.args.layout.now c.args.worker tt c.in-Ok.ensures c.take_off.new.self c.take_off.ensures c.discard_spare.new.self c.discard_spare.ensures.discards

pub address-requires-clause-frame : goal.address-requires-clause-frame
address-requires-clause-frame c = omega (arith, c.from.ensures, (held-place c.args.self.now c.args.object c.args.held.now c.requires.consistent c.requires.held c.args.layout.now c.requires.live).0)

pub address-requires-clause-index : goal.address-requires-clause-index
address-requires-clause-index c = omega (arith, c.from-in-Ok.ensures, (held-place c.args.self.now c.args.object c.args.held.now c.requires.consistent c.requires.held c.args.layout.now c.requires.live).1)

pub address-requires-clause-small : goal.address-requires-clause-small
address-requires-clause-small c = (layout-live c.args.self.now c.args.held.now.cache c.args.layout.now c.requires.live c.requires.consistent.shaped).1.made.within_eight_frames

pub address-requires-clause-left_pad : goal.address-requires-clause-left_pad
address-requires-clause-left_pad c = (layout-live c.args.self.now c.args.held.now.cache c.args.layout.now c.requires.live c.requires.consistent.shaped).1.made.left_pad

pub returns-in-Ok-clause-frees : goal.returns-in-Ok-clause-frees
returns-in-Ok-clause-frees c =
    freed-frees c.args.self.now c.args.object c.args.held.now c.requires.consistent c.requires.held c.take_back_in.new.self c.args.layout.now c.args.worker tt c.in-Ok.ensures c.take_off.new.self c.take_off.ensures c.discard_spare.new.self c.discard_spare.ensures.discards c.note_gone.new.self c.note_gone.ensures.noted c.address.result (c.address.ensures ∙ ap (λ f. address_of f c.from-in-Ok.result c.args.layout.now) c.from.ensures ∙ ap (λ i. address_of c.args.held.now.frame i c.args.layout.now) c.from-in-Ok.ensures)

pub returns-in-Ok-clause-found : goal.returns-in-Ok-clause-found
returns-in-Ok-clause-found c = freed-found c.args.self.now c.args.object c.args.held.now c.requires.consistent c.requires.held c.take_back_in.new.self c.args.layout.now c.args.worker tt c.in-Ok.ensures c.take_off.new.self c.take_off.ensures c.discard_spare.new.self c.discard_spare.ensures.discards c.note_gone.new.self c.note_gone.ensures.noted
