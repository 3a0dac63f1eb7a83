use Rattle.std.proofs.Common.{◌≡◌, true, sym, ◌∙◌, subst}
use Rattle.std.specs.Prelude.{ℤ, nat_lt}
use Rattle.std.specs.Int.{w32}
use Rattle.std.proofs.lemmas.Int.{to_z-of_z}
use Rattle.slub_red_zone.specs.State.{slab_of, objects_in}
use Rattle.slub_red_zone.specs.Steps.{Pokes}
use Rattle.slub_core.specs.Checked.{is_offset}
use Rattle.slub_checked_paths.proofs.Offsets.{poked}
use Rattle.slub_checked_paths.proofs.slabs.poke_slot.Goals as goal

pub returns-clause-after : goal.returns-clause-after
returns-clause-after c =
    let same = to_z-of_z w32 c.args.offset c.ranges.offset in
    let inside : is_offset c.args.slabs.now.layout c.args.offset ≡ true = subst (λ (z : ℤ). is_offset c.args.slabs.now.layout z ≡ true) same (sym c.is_offset.ensures ∙ c.if-not-is_offset.false) in
    let there : nat_lt c.args.slot.index (objects_in (slab_of c.args.slabs.now c.args.slot.frame)) ≡ true = sym c.has_object.ensures ∙ c.if-not-has_object.false in
    let pokes : Pokes c.args.slabs.now c.args.slot c.args.offset c.args.byte c.poke-done.result c.poke-done.new.self = subst (λ (z : ℤ). Pokes c.args.slabs.now c.args.slot z c.args.byte c.poke-done.result c.poke-done.new.self) same c.poke-done.ensures.pokes in
    rw (inside, there) (poked c.args.slabs.now c.args.slot c.args.offset c.args.byte c.poke-done.result c.poke-done.new.self inside pokes)
