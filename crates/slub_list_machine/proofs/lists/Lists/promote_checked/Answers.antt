use Rattle.std.proofs.Common.{◌≡◌, Some, arith}
use Rattle.std.proofs.lemmas.Grind.{common_steps}
use Rattle.slub_red_zone.specs.State.{CheckedState}
use Rattle.slub_lists.specs.State.{State}
use Rattle.slub_lists.specs.Alloc.{checked_of}
use Rattle.slub_lists.specs.Checked.{with_checked}
use Rattle.slub_lists.proofs.Kept.{coherent-of}
use Rattle.slub_lists.proofs.SweepingChecked.{coherent-at, ordered-consistent, promotes-from}
use Rattle.slub_list_machine.proofs.lists.Lists.promote_checked.Goals as goal

was : (c : goal.After-self-1) → checked_of c.args.self.now c.args.cache ≡ Some c.in-Some.slabs
was c = grind (arith, common_steps)

pub returns-clause-promotes : goal.returns-clause-promotes
returns-clause-promotes c =
    promotes-from c.args.self.now _ c.args.cache c.in-Some.slabs c.promote.new.self (was c) c.promote.ensures.promoted c.promote.ensures.rest (grind (arith, common_steps))

pub returns-clause-coherent : goal.returns-clause-coherent
returns-clause-coherent c =
    let s : State = c.args.self.now in
    let new : CheckedState = c.promote.new.self in
    coherent-at (with_checked s c.args.cache new) _ (grind (arith, common_steps))
    (coherent-of (with_checked s c.args.cache new) (ordered-consistent s c.args.cache c.in-Some.slabs new c.requires.coherent (was c) c.promote.ensures.objects c.promote.ensures.sound) c.requires.coherent.kept)
