use Rattle.std.proofs.Common.{Some, None, length, ap, subst, arith}
use Rattle.std.proofs.lemmas.Grind.{common_steps}
use Rattle.slub_page_pool.specs.FreeFrames.{FreeFrames}
use Rattle.slub_lists.specs.State.{State}
use Rattle.slub_lists.specs.Alloc.{FindsRun, with_new_slab}
use Rattle.slub_lists.proofs.Coherence.{consistent-at, place-inside}
use Rattle.slub_lists.proofs.Giving.{cache-within, lists-with_new_slab, run-objects, run-slot, with_new_slab-consistent, with_pool-consistent, stocked-at}
use Rattle.slub_list_machine.proofs.lists.Lists.new_slab.Goals as goal

-- where no run is there, a count of the pool rises
pub returns-in_default-clause-consistent : goal.returns-in_default-clause-consistent
returns-in_default-clause-consistent c =
    let found = subst (λ (p : FreeFrames). FindsRun p c.args.layout.now None c.find_run.new.pool) (ap (λ (s : State). s.pool) c.self.view_is) c.in_default.ensures.found in
    consistent-at (let s : State = c.args.self.now in record s { pool = c.find_run.new.pool }) _ (grind (arith, common_steps))
    (with_pool-consistent c.args.self.now c.args.cache c.args.layout.now c.requires.consistent c.requires.live c.find_run.new.pool c.in_default.ensures.pool found)

-- the run begins at a frame of the machine
pub index_mut-requires : goal.index_mut-requires
index_mut-requires c =
    let found = subst (λ (p : FreeFrames). FindsRun p c.args.layout.now (Some c.in-Some.run') c.find_run.new.pool) (ap (λ (s : State). s.pool) c.self.view_is) c.in-Some.ensures.found in
    omega (arith, run-slot c.args.self.now c.args.cache c.args.layout.now c.requires.consistent c.requires.live c.in-Some.run' c.find_run.new.pool found, c.requires.consistent.shaped.slabs, ap (λ (s : State). length s.slabs) c.self.view_is, c.self.inside.slabs.ok)

-- the machine is the one with the new slab
pub returns-clause-made : goal.returns-clause-made
returns-clause-made c =
    let found = subst (λ (p : FreeFrames). FindsRun p c.args.layout.now (Some c.in-Some.run') c.find_run.new.pool) (ap (λ (s : State). s.pool) c.self.view_is) c.in-Some.ensures.found in
    (c.in-Some.run', c.find_run.new.pool, found, grind (arith, common_steps))

pub returns-clause-stocked : goal.returns-clause-stocked
unfolding returns-clause-made
returns-clause-stocked c =
    let s = c.args.self.now in
    let found = subst (λ (p : FreeFrames). FindsRun p c.args.layout.now (Some c.in-Some.run') c.find_run.new.pool) (ap (λ (s : State). s.pool) c.self.view_is) c.in-Some.ensures.found in
    let within = cache-within s c.args.cache c.args.layout.now c.requires.consistent c.requires.live in
    let inside = place-inside s c.args.cache c.args.cpu c.requires.consistent.shaped within c.requires.cpu in
    let some = (run-objects s c.args.cache c.args.layout.now c.requires.consistent c.requires.live c.in-Some.run' c.find_run.new.pool found).0 in
    stocked-at (with_new_slab s c.args.cache c.args.cpu c.find_run.new.pool c.in-Some.run') _ c.args.cache c.args.cpu (returns-clause-made c).3
    (lists-with_new_slab s c.args.cache c.args.cpu c.find_run.new.pool c.in-Some.run' inside some)

pub returns-clause-consistent : goal.returns-clause-consistent
unfolding returns-clause-made
returns-clause-consistent c =
    let s = c.args.self.now in
    let found = subst (λ (p : FreeFrames). FindsRun p c.args.layout.now (Some c.in-Some.run') c.find_run.new.pool) (ap (λ (s : State). s.pool) c.self.view_is) c.in-Some.ensures.found in
    consistent-at (with_new_slab s c.args.cache c.args.cpu c.find_run.new.pool c.in-Some.run') _ (returns-clause-made c).3
    (with_new_slab-consistent s c.args.cache c.args.layout.now c.requires.consistent c.requires.live c.args.cpu c.in-Some.run' c.find_run.new.pool c.requires.unchecked c.requires.cpu c.requires.current c.in-Some.ensures.pool found)
