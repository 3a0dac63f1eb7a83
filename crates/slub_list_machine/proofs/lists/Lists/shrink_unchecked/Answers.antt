use Rattle.std.proofs.Common.{◌≡◌, ℕ, ◌*◌, ◌+◌, List, Option, None, get_or, refl, ap, sym, ◌∙◌, subst, arith}
use Rattle.slub_lists.specs.declared.lists.CpuLists.{CpuLists}
use Rattle.slub_lists.specs.State.{State}
use Rattle.slub_lists.specs.Alloc.{checked_of, no_lists, with_node}
use Rattle.slub_lists.specs.Leaving.{LeavesSlabs}
use Rattle.slub_lists.specs.Shrink.{Promotes, swept}
use Rattle.slub_lists.specs.Shrinking.{IsSwept, KeepsChecked}
use Rattle.slub_red_zone.specs.State.{CheckedState}
use Rattle.slub_lists.proofs.Emptied.{unchecked-emptied}
use Rattle.slub_lists.proofs.Flushing.{rest-both, rest-with_node}
use Rattle.slub_lists.proofs.Leaving.{leaves-both, leaves-same}
use Rattle.slub_lists.proofs.Sweeping.{promoted-swept}
use Rattle.slub_list_machine.proofs.lists.Lists.shrink_unchecked.Goals as goal

pub returns-clause-shrinks : goal.returns-clause-shrinks
returns-clause-shrinks c =
    subst (λ (t : State). Promotes t c.args.cache c.promote.new.self) (c.sweep.ensures.swept ∙ ap (λ (t : State). swept t c.args.cache) c.flush_cpus.ensures.flushed) c.promote.ensures.promotes

-- no CPU has anything of the cache, and what is on its node list is in use
swept-now : (c : goal.After-promote) → IsSwept c.promote.new.self c.args.cache
swept-now c =
    let s : State = c.flush_cpus.new.self in
    let t : State = c.sweep.new.self in
    let cache = c.args.cache in
    let cpus = c.sweep.ensures.rest.held.cpus in
    let before : IsSwept t cache = record {
      bare = λ cpu within.
          ap (λ n. get_or t.cpu_lists (cache * n + cpu) no_lists) cpus ∙ ap (λ (l : List CpuLists). get_or l (cache * s.cpus + cpu) no_lists) c.sweep.ensures.lists
          ∙ c.flush_cpus.ensures.bare cpu (omega (arith, within, cpus));
      used = c.sweep.ensures.used;
    } in
    let promoted = c.promote.ensures.promotes in
    subst (λ (u : State). IsSwept u cache) (sym promoted.2) (promoted-swept t cache promoted.0 promoted.1 (omega (arith, c.sweep.ensures.coherent.shaped.nodes, c.requires.cache)) before)

pub returns-clause-rest : goal.returns-clause-rest
returns-clause-rest c =
    let t : State = c.sweep.new.self in
    let promoted = c.promote.ensures.promotes in
    rest-both c.args.self.now t c.promote.new.self (rest-both c.args.self.now c.flush_cpus.new.self t c.flush_cpus.ensures.rest c.sweep.ensures.rest)
    (subst (λ (u : State). KeepsChecked t u) (sym promoted.2) (rest-with_node t c.args.cache promoted.0))

pub returns-clause-emptied : goal.returns-clause-emptied
returns-clause-emptied c = λ busy.
    let t : State = c.promote.new.self in
    let rest = returns-clause-rest c in
    let unchecked : checked_of t c.args.cache ≡ None = ap (λ (xs : List (Option CheckedState)). get_or xs c.args.cache None) rest.checked ∙ c.requires.unchecked in
    let live : get_or t.live c.args.cache 0 ≡ 0 = ap (λ (xs : List ℕ). get_or xs c.args.cache 0) rest.held.live ∙ omega (arith, busy) in
    unchecked-emptied t c.args.cache c.promote.ensures.coherent unchecked (swept-now c) live

pub returns-clause-slabs : goal.returns-clause-slabs
returns-clause-slabs c =
    let s : State = c.args.self.now in
    let t : State = c.sweep.new.self in
    let cache = c.args.cache in
    let promoted = c.promote.ensures.promotes in
    leaves-both s t c.promote.new.self cache (leaves-both s c.flush_cpus.new.self t cache c.flush_cpus.ensures.slabs c.sweep.ensures.slabs)
    (subst (λ (u : State). LeavesSlabs t cache u) (sym promoted.2) (leaves-same t (with_node t cache promoted.0) cache refl))
