use Rattle.std.proofs.Common.{◌∙◌, sym, subst}
use Rattle.slub_red_zone.specs.declared.checked.CheckedGive.TheVariants.{Given}
use Rattle.slub_red_zone.specs.State.{CheckedState}
use Rattle.slub_red_zone.specs.Steps.{Gives, nothing_listed, next_is_whole, next_is_damaged}
use Rattle.slub_red_zone.specs.Objects.{GivesObject}
use Rattle.slub_red_zone.proofs.Given.{next-object}
use Rattle.slub_red_zone.proofs.Objects.{given-object, given-later, none-given}
use Rattle.slub_red_zone.proofs.checked.CheckedSlabs.give.Goals as goal

pub damage_of_free-requires : goal.damage_of_free-requires
damage_of_free-requires c = record { object = next-object _ c.in-Some.slot c.in-Some.ensures.sound c.in-Some.ensures.next }

pub returns-in-None-clause-gives : goal.returns-in-None-clause-gives
returns-in-None-clause-gives c =
    let P : CheckedState → Type 0 = λ after. Gives c.loop-slot.self (Given c.in-Some.slot) after in
    c.loop-slot.invariant.gives _ _ (subst P (sym c.give_next.ensures.given) (next_is_whole _ c.in-Some.slot c.in-Some.ensures.next (sym c.damage_of_free.ensures.damage ∙ c.in-None.is)))

pub returns-in-None-clause-objects : goal.returns-in-None-clause-objects
returns-in-None-clause-objects c =
    let P : CheckedState → Type 0 = λ after. GivesObject c.loop-slot.self (Given c.in-Some.slot) after in
    c.loop-slot.invariant.objects _ _ (subst P (sym c.give_next.ensures.given) (given-object _ c.in-Some.slot c.in-Some.ensures.sound c.in-Some.ensures.next))

pub loop-slot-preserved : goal.loop-slot-preserved
loop-slot-preserved c = record {
  gives = λ answer after gives.
      let P : CheckedState → Type 0 = λ s. Gives s answer after in
      c.loop-slot.invariant.gives answer after (next_is_damaged _ c.in-Some.slot c.in-Some-damage_of_free.damage answer after c.in-Some.ensures.next (sym c.damage_of_free.ensures.damage ∙ c.in-Some-damage_of_free.is) (subst P c.set_aside_next.ensures gives));
  objects = λ answer after gives.
      let P : CheckedState → Type 0 = λ s. GivesObject s answer after in
      c.loop-slot.invariant.objects answer after (given-later _ c.in-Some.slot c.in-Some.ensures.sound c.in-Some.ensures.next c.in-Some-damage_of_free.damage answer after (subst P c.set_aside_next.ensures gives));
}

pub returns-clause-gives : goal.returns-clause-gives
returns-clause-gives c = c.loop-slot.invariant.gives _ _ (nothing_listed _ c.in_default.ensures.next)

pub returns-clause-objects : goal.returns-clause-objects
returns-clause-objects c = c.loop-slot.invariant.objects _ _ (none-given _)
