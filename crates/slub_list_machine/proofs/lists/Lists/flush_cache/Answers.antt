use Rattle.std.proofs.Common.{ap, sym, ◌∙◌, subst, arith}
use Rattle.slub_lists.specs.State.{State}
use Rattle.slub_lists.specs.Coherent.{IsKept}
use Rattle.slub_lists.specs.Leaving.{LeavesSlabs}
use Rattle.slub_lists.proofs.Flushing.{moved_partial-kept, rest-put_away}
use Rattle.slub_lists.proofs.Kept.{coherent-of, consistent-of}
use Rattle.slub_lists.proofs.Leaving.{leaves-both, leaves-put_away}
use Rattle.slub_list_machine.proofs.lists.Lists.flush_cache.Goals as goal

pub returns-clause-coherent : goal.returns-clause-coherent
returns-clause-coherent c =
    let t : State = c.put_away.new.self in
    let before = c.put_away.ensures.coherent in
    let cpus = ap (λ (u : State). u.cpus) c.put_away.ensures.away ∙ (rest-put_away c.args.self.now c.args.min_partial c.args.cache c.args.cpu).held.cpus in
    coherent-of c.move_all.new.self c.move_all.ensures.consistent
    (subst IsKept (sym c.move_all.ensures.moved) (moved_partial-kept t c.args.min_partial c.args.cache c.args.cpu before.shaped c.requires.cache (omega (arith, c.requires.cpu, cpus)) before.kept))

pub returns-clause-slabs : goal.returns-clause-slabs
returns-clause-slabs c =
    let s : State = c.args.self.now in
    leaves-both s c.put_away.new.self c.move_all.new.self c.args.cache
    (subst (λ (t : State). LeavesSlabs s c.args.cache t) (sym c.put_away.ensures.away) (leaves-put_away s c.args.min_partial c.args.cache c.args.cpu (consistent-of s c.requires.coherent) c.requires.cache c.requires.cpu))
    c.move_all.ensures.slabs
