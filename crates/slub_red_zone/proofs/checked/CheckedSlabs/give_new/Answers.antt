use Rattle.std.proofs.Common.{◌∙◌, sym, subst, ap, refl}
use Rattle.slub_red_zone.specs.State.{CheckedState}
use Rattle.slub_red_zone.specs.Sound.{IsSound}
use Rattle.slub_red_zone.specs.Steps.{IsNext, first_of, with_given}
use Rattle.slub_red_zone.specs.Objects.{AddsGivenSlab}
use Rattle.slub_red_zone.proofs.Objects.{first-comes, adds-given}
use Rattle.slub_red_zone.proofs.checked.CheckedSlabs.give_new.Goals as goal

pub give_next-requires : goal.give_next-requires
give_next-requires c =
    let P : CheckedState → Type 0 = λ s. IsNext s (first_of c.args.run) in
    let added = c.in_ok-add_slab.ensures.added in
    record { next = subst P (sym added) (first-comes _ c.args.run c.args.objects (subst IsSound added c.add_slab.ensures.sound) c.requires.frame.1 c.requires.sized (first_of c.args.run) refl) }

pub returns-clause-slab : goal.returns-clause-slab
returns-clause-slab c =
    let P : CheckedState → Type 0 = AddsGivenSlab c.args.self.now c.args.run c.args.objects (first_of c.args.run) in
    let added = c.in_ok-add_slab.ensures.added in
    let after = c.give_next.ensures.given ∙ ap (λ s. with_given s (first_of c.args.run)) added in
    subst P (sym after) (adds-given _ c.args.run c.args.objects (subst IsSound added c.add_slab.ensures.sound) c.requires.frame.1 c.requires.sized (first_of c.args.run) refl)
