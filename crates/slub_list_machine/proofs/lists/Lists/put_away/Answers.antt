use Rattle.std.proofs.Common.{◌≡◌, ℕ, ◌==◌, Option, Some, length, ap, sym, ◌∙◌, subst, arith}
use Rattle.std.proofs.lemmas.Grind.{common_steps}
use Rattle.std.specs.Option.{option_map_or}
use Rattle.slub_lists.specs.State.{State}
use Rattle.slub_lists.specs.Alloc.{lists_of, own_free, slab_of}
use Rattle.slub_lists.specs.Coherent.{IsKept}
use Rattle.slub_lists.specs.Shrink.{put_away_slab, put_where}
use Rattle.slub_lists.proofs.Shaped.{IsLiveOf}
use Rattle.slub_lists.proofs.Flushing.{down-live, put_away-kept}
use Rattle.slub_lists.proofs.Kept.{coherent-of, consistent-of}
use Rattle.slub_list_machine.proofs.lists.Lists.put_away.Goals as goal

pub put_where-requires-clause-live : goal.put_where-requires-clause-live
put_where-requires-clause-live c =
    let current : (lists_of c.args.self.now c.args.cache c.args.cpu).current ≡ Some c.in-Some.frame = grind (arith, common_steps) in
    subst (λ (t : State). IsLiveOf c.args.cache (slab_of t c.in-Some.frame)) (sym c.take_down.ensures.taken)
    (down-live c.args.self.now c.args.cache c.args.cpu (consistent-of c.args.self.now c.requires.coherent) c.requires.cache c.requires.cpu c.in-Some.frame current)

pub returns-clause-away : goal.returns-clause-away
returns-clause-away c =
    let s : State = c.args.self.now in
    let current : (lists_of s c.args.cache c.args.cpu).current ≡ Some c.in-Some.frame = grind (arith, common_steps) in
    let own = own_free s c.in-Some.frame in
    c.put_where.ensures.put own (c.is_empty_at-was_full.ensures.value ∙ ap (λ (t : State). length (own_free t c.in-Some.frame) == 0) c.self.view_is)
    ∙ ap (λ (t : State). put_where t c.args.min_partial c.args.cache c.in-Some.frame own) c.take_down.ensures.taken
    ∙ sym (ap (λ (x : Option ℕ). option_map_or (put_away_slab s c.args.min_partial c.args.cache c.args.cpu) x s) current)

pub returns-clause-coherent : goal.returns-clause-coherent
returns-clause-coherent c =
    let s : State = c.args.self.now in
    coherent-of c.put_where.new.self c.put_where.ensures.consistent
    (subst IsKept (sym (returns-clause-away c)) (put_away-kept s c.args.min_partial c.args.cache c.args.cpu (consistent-of s c.requires.coherent) c.requires.cache c.requires.cpu c.requires.coherent.kept))
