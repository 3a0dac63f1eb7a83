use Rattle.std.proofs.Common.{◌≡◌, List, Option, None, MatchOption, length, get_or, ap, sym, ◌∙◌, subst, arith}
use Rattle.std.specs.Option.{is_some}
use Rattle.std.specs.Prelude.{not}
use Rattle.std.proofs.lemmas.List.{get_or_default}
use Rattle.slub_red_zone.specs.State.{CheckedState, Has}
use Rattle.slub_lists.specs.declared.lists.Slab.{Slab}
use Rattle.slub_lists.specs.State.{State}
use Rattle.slub_lists.specs.Alloc.{checked_of, slab_of}
use Rattle.slub_lists.specs.Coherent.{IsKept}
use Rattle.slub_lists.proofs.Kept.{coherent-of}
use Rattle.slub_lists.proofs.SweepingChecked.{all-free-is, inside-after, listed-has, listed-slab, not-flip, swept-slab, swept_checked-kept, the-checked}
use Rattle.slub_list_machine.proofs.lists.Lists.sweep_checked_slab.Goals as goal

pub discard_spare-requires-clause-slab : goal.discard_spare-requires-clause-slab
discard_spare-requires-clause-slab c =
    let s : State = c.args.self.now in
    let own = the-checked (checked_of s c.args.cache) c.requires.checked in
    subst (λ (x : Option CheckedState). MatchOption x ⊥ (λ slabs. Has slabs c.args.frame)) (sym own.1) (listed-has s c.args.cache c.args.frame own.0 c.requires.coherent own.1 c.requires.there)

pub index-requires : goal.index-requires
index-requires c =
    let s : State = c.args.self.now in
    let t : State = c.discard_spare.new.self in
    let own = the-checked (checked_of s c.args.cache) c.requires.checked in
    let live = listed-slab s c.args.cache c.args.frame own.0 c.requires.coherent own.1 c.requires.there in
    let now = (swept-slab s c.args.cache c.args.frame own.0 c.requires.coherent own.1 c.requires.there t c.discard_spare.ensures.discards).0 in
    let same : length c.self.inside.slabs.items ≡ length t.slabs = ap (λ (u : State). length u.slabs) c.self.view_is in
    omega (arith, inside-after s t c.args.cache c.args.frame c.requires.coherent.shaped c.discard_spare.ensures.consistent.shaped live now, same)

-- the slab that is looked at
looked : (c : goal.After-is_none) → c.index.result.now ≡ slab_of c.discard_spare.new.self c.args.frame
looked c =
    let s : State = c.args.self.now in
    let t : State = c.discard_spare.new.self in
    let own = the-checked (checked_of s c.args.cache) c.requires.checked in
    let live = listed-slab s c.args.cache c.args.frame own.0 c.requires.coherent own.1 c.requires.there in
    let now = (swept-slab s c.args.cache c.args.frame own.0 c.requires.coherent own.1 c.requires.there t c.discard_spare.ensures.discards).0 in
    let same : c.self.inside.slabs.items ≡ t.slabs = ap (λ (u : State). u.slabs) c.self.view_is in
    let inside = inside-after s t c.args.cache c.args.frame c.requires.coherent.shaped c.discard_spare.ensures.consistent.shaped live now in
    c.index.ensures ∙ get_or_default c.self.inside.slabs.items c.args.frame c.index.result.now None (omega (arith, inside, ap length same)) ∙ ap (λ (l : List (Option Slab)). get_or l c.args.frame None) same

pub returns-clause-gone : goal.returns-clause-gone
returns-clause-gone c =
    let s : State = c.args.self.now in
    let t : State = c.discard_spare.new.self in
    let own = the-checked (checked_of s c.args.cache) c.requires.checked in
    let done = swept-slab s c.args.cache c.args.frame own.0 c.requires.coherent own.1 c.requires.there t c.discard_spare.ensures.discards in
    let some : is_some (slab_of t c.args.frame) ≡ not c.is_none.result = sym (ap is_some (looked c)) ∙ c.is_none.ensures in
    not-flip (is_some (slab_of t c.args.frame)) c.is_none.result some ∙ done.1 ∙ sym (all-free-is s c.args.cache c.args.frame own.0 c.requires.coherent own.1)

pub returns-clause-swept : goal.returns-clause-swept
returns-clause-swept c =
    let s : State = c.args.self.now in
    let own = the-checked (checked_of s c.args.cache) c.requires.checked in
    (swept-slab s c.args.cache c.args.frame own.0 c.requires.coherent own.1 c.requires.there c.discard_spare.new.self c.discard_spare.ensures.discards).0

pub returns-clause-coherent : goal.returns-clause-coherent
returns-clause-coherent c =
    let s : State = c.args.self.now in
    coherent-of c.discard_spare.new.self c.discard_spare.ensures.consistent (subst IsKept (sym (returns-clause-swept c)) (swept_checked-kept s c.args.cache c.args.frame c.requires.coherent.kept))
