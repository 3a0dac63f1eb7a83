use Rattle.std.proofs.Common.{◌≡◌, Option, MatchOption, sym, subst, arith}
use Rattle.slub_red_zone.specs.State.{CheckedState}
use Rattle.slub_lists.specs.State.{State}
use Rattle.slub_lists.specs.Alloc.{checked_of}
use Rattle.slub_lists.specs.Shrink.{PromotesChecked, ShrinksChecked, swept_checked}
use Rattle.slub_lists.proofs.CheckedSlabs.{at_match}
use Rattle.slub_lists.proofs.Leaving.{leaves-both, leaves-same}
use Rattle.slub_lists.proofs.SweepingChecked.{checked-emptied, held-both, ordered-busy, ordered-checked, ordered-held, ordered-in-use, ordered-slabs, the-checked}
use Rattle.slub_list_machine.proofs.lists.Lists.shrink_checked.Goals as goal

pub returns-clause-shrinks : goal.returns-clause-shrinks
returns-clause-shrinks c =
    let s : State = c.args.self.now in
    let after : State = c.promote_checked.new.self in
    let own = the-checked (checked_of s c.args.cache) c.requires.checked in
    let swept = at_match (checked_of s c.args.cache) own.0 (λ slabs. c.sweep_checked.new.self ≡ swept_checked s c.args.cache slabs) own.1 c.sweep_checked.ensures.swept in
    subst (λ (x : Option CheckedState). MatchOption x ⊥ (λ slabs. ShrinksChecked s c.args.cache slabs after)) (sym own.1)
    (subst (λ (t : State). PromotesChecked t c.args.cache after) swept c.promote_checked.ensures.promotes)

pub returns-clause-emptied : goal.returns-clause-emptied
returns-clause-emptied c = λ busy.
    let s : State = c.sweep_checked.new.self in
    let after : State = c.promote_checked.new.self in
    let cache = c.args.cache in
    let own = the-checked (checked_of s cache) c.sweep_checked.ensures.checked in
    let coherent = c.sweep_checked.ensures.coherent in
    let done = c.promote_checked.ensures.promotes in
    checked-emptied after cache c.promote_checked.ensures.coherent (ordered-checked s after cache own.0 coherent own.1 done) (ordered-in-use s after cache own.0 coherent own.1 done c.sweep_checked.ensures.used)
    (omega (arith, busy, c.sweep_checked.ensures.busy, ordered-busy s after cache own.0 coherent own.1 done))

pub returns-clause-kept : goal.returns-clause-kept
returns-clause-kept c =
    let s : State = c.sweep_checked.new.self in
    let own = the-checked (checked_of s c.args.cache) c.sweep_checked.ensures.checked in
    held-both c.args.self.now s c.promote_checked.new.self c.sweep_checked.ensures.kept
    (ordered-held s c.promote_checked.new.self c.args.cache own.0 c.sweep_checked.ensures.coherent own.1 c.promote_checked.ensures.promotes)

pub returns-clause-slabs : goal.returns-clause-slabs
returns-clause-slabs c =
    let s : State = c.sweep_checked.new.self in
    let own = the-checked (checked_of s c.args.cache) c.sweep_checked.ensures.checked in
    leaves-both c.args.self.now s c.promote_checked.new.self c.args.cache c.sweep_checked.ensures.slabs
    (leaves-same s c.promote_checked.new.self c.args.cache (ordered-slabs s c.promote_checked.new.self c.args.cache own.0 c.sweep_checked.ensures.coherent own.1 c.promote_checked.ensures.promotes))
