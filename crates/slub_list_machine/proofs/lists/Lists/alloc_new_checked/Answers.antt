use Rattle.std.proofs.Common.{Some, ap, sym, subst, arith}
use Rattle.slub_lists.specs.State.{State}
use Rattle.slub_lists.specs.Alloc.{checked_of}
use Rattle.slub_lists.specs.Coherent.{IsConsistent}
use Rattle.slub_red_zone.specs.State.{Has}
use Rattle.slub_object_layout.specs.Layout.{IsSized}
use Rattle.slub_lists.proofs.CheckedComing.{counted-consistent}
use Rattle.slub_lists.proofs.CheckedGiving.{layout-live}
use Rattle.slub_lists.proofs.CheckedReplies.{cache-live, found-first, found-new, lacking-allocates, lacking-can-put, lacking-consistent, lacking-found, live-room, made-allocates, made-consistent, made-found, made-inside, made-lengths, made-slot, none-allocates, of-slabs, some-slabs}
use Rattle.slub_lists.proofs.Found.{found-same}
use Rattle.slub_list_machine.proofs.lists.Lists.alloc_new_checked.Goals as goal

-- where no run is there
pub returns-in_default-clause-allocates : goal.returns-in_default-clause-allocates
returns-in_default-clause-allocates c = none-allocates c.args.self.now c.find_run_in.new.self c.args.cache c.args.layout.now c.requires.checked c.in_default.ensures c.args.worker c.args.object

pub returns-in_default-clause-found : goal.returns-in_default-clause-found
returns-in_default-clause-found c = found-same c.args.self.now c.find_run_in.new.self (ap (λ (t : State). t.checked) c.in_default.ensures.now)

pub returns-in_default-clause-consistent : goal.returns-in_default-clause-consistent
returns-in_default-clause-consistent c =
    subst IsConsistent (sym c.in_default.ensures.now)
    (counted-consistent c.args.self.now c.args.layout.now c.in_default.ensures.pool c.in_default.ensures.good c.in_default.ensures.found c.requires.consistent)

-- the run that is found
pub find_run_in-requires : goal.find_run_in-requires
find_run_in-requires c = record { pool = c.requires.consistent.shaped.pool; layout = layout-live c.args.self.now c.args.cache c.args.layout.now c.requires.live c.requires.consistent.shaped }

pub give_new_in-requires-clause-frame : goal.give_new_in-requires-clause-frame
give_new_in-requires-clause-frame c = found-first c.args.self.now c.find_run_in.new.self c.args.cache c.args.layout.now c.in-Some.run' c.requires.consistent c.requires.live c.in-Some.ensures

pub give_new_in-requires-clause-slab : goal.give_new_in-requires-clause-slab
give_new_in-requires-clause-slab c =
    let slabs = some-slabs c.args.self.now c.find_run_in.new.self c.args.cache c.args.layout.now (Some c.in-Some.run') c.in-Some.ensures c.requires.checked in
    of-slabs (checked_of c.find_run_in.new.self c.args.cache) slabs.0 (λ slabs. (¬ Has slabs c.in-Some.run'.frame) × IsSized slabs.layout c.in-Some.run'.order c.in-Some.run'.objects) slabs.1
    (found-new c.args.self.now c.find_run_in.new.self c.args.cache c.args.layout.now c.in-Some.run' c.requires.consistent c.requires.live c.in-Some.ensures slabs.0 slabs.1)

-- a slab is made of it
pub enter-requires : goal.enter-requires
enter-requires c = made-inside c.args.self.now c.find_run_in.new.self c.args.cache c.args.layout.now c.in-Some.run' c.requires.consistent c.requires.live c.in-Some.ensures c.give_new_in.new.self c.in-Ok.slot c.in-Ok.ensures

pub hold-requires-clause-object : goal.hold-requires-clause-object
hold-requires-clause-object c = omega (arith, c.requires.object.1, (made-lengths c.args.self.now c.find_run_in.new.self c.args.cache c.args.layout.now c.in-Some.run' c.requires.consistent c.requires.live c.in-Some.ensures c.give_new_in.new.self c.enter.new.self c.in-Ok.slot c.in-Ok.ensures c.enter.ensures).0)

pub hold-requires-clause-cache : goal.hold-requires-clause-cache
hold-requires-clause-cache c = omega (arith, cache-live c.args.self.now c.args.cache c.args.layout.now c.requires.live c.requires.consistent, (made-lengths c.args.self.now c.find_run_in.new.self c.args.cache c.args.layout.now c.in-Some.run' c.requires.consistent c.requires.live c.in-Some.ensures c.give_new_in.new.self c.enter.new.self c.in-Ok.slot c.in-Ok.ensures c.enter.ensures).1)

pub hold-requires-clause-room : goal.hold-requires-clause-room
hold-requires-clause-room c = omega (arith, live-room c.args.self.now c.args.cache c.requires.consistent, (made-lengths c.args.self.now c.find_run_in.new.self c.args.cache c.args.layout.now c.in-Some.run' c.requires.consistent c.requires.live c.in-Some.ensures c.give_new_in.new.self c.enter.new.self c.in-Ok.slot c.in-Ok.ensures c.enter.ensures).2)

pub hold-requires-clause-inside : goal.hold-requires-clause-inside
hold-requires-clause-inside c = made-slot c.args.self.now c.find_run_in.new.self c.args.cache c.args.layout.now c.in-Some.run' c.requires.consistent c.requires.live c.in-Some.ensures c.give_new_in.new.self c.in-Ok.slot c.in-Ok.ensures

pub hold-requires-clause-layout : goal.hold-requires-clause-layout
hold-requires-clause-layout c = layout-live c.args.self.now c.args.cache c.args.layout.now c.requires.live c.requires.consistent.shaped

pub returns-in-Ok-clause-allocates : goal.returns-in-Ok-clause-allocates
returns-in-Ok-clause-allocates c = made-allocates c.args.self.now c.find_run_in.new.self c.args.cache c.args.layout.now c.in-Some.run' c.requires.consistent c.requires.live c.in-Some.ensures c.give_new_in.new.self c.enter.new.self c.in-Ok.slot c.in-Ok.ensures c.enter.ensures c.hold.new.self c.args.worker c.args.object c.hold.result c.requires.object c.requires.unused c.hold.ensures.held c.hold.ensures.address

pub returns-in-Ok-clause-found : goal.returns-in-Ok-clause-found
returns-in-Ok-clause-found c = made-found c.args.self.now c.find_run_in.new.self c.args.cache c.args.layout.now c.in-Some.run' c.requires.consistent c.requires.live c.in-Some.ensures c.give_new_in.new.self c.enter.new.self c.in-Ok.slot c.in-Ok.ensures c.enter.ensures c.hold.new.self c.args.worker c.args.object c.hold.result c.requires.object c.requires.unused c.hold.ensures.held

pub returns-in-Ok-clause-consistent : goal.returns-in-Ok-clause-consistent
returns-in-Ok-clause-consistent c = made-consistent c.args.self.now c.find_run_in.new.self c.args.cache c.args.layout.now c.in-Some.run' c.requires.consistent c.requires.live c.in-Some.ensures c.give_new_in.new.self c.enter.new.self c.in-Ok.slot c.in-Ok.ensures c.enter.ensures c.hold.new.self c.args.worker c.args.object c.hold.result c.requires.object c.requires.unused c.hold.ensures.held

-- it is put back where no memory is there
pub put_run-requires : goal.put_run-requires
put_run-requires c = lacking-can-put c.args.self.now c.find_run_in.new.self c.args.cache c.args.layout.now c.in-Some.run' c.requires.consistent c.requires.live c.in-Some.ensures c.give_new_in.new.self c.in-Err.field-0 c.in-Err.ensures

pub returns-in-Err-clause-allocates : goal.returns-in-Err-clause-allocates
returns-in-Err-clause-allocates c = lacking-allocates c.args.self.now c.find_run_in.new.self c.args.cache c.args.layout.now c.in-Some.run' c.requires.consistent c.requires.live c.in-Some.ensures c.give_new_in.new.self c.put_run.new.self c.in-Err.field-0 c.in-Err.ensures c.put_run.ensures.put c.put_run.ensures.pool c.args.worker c.args.object

pub returns-in-Err-clause-found : goal.returns-in-Err-clause-found
returns-in-Err-clause-found c = lacking-found c.args.self.now c.find_run_in.new.self c.args.cache c.args.layout.now c.in-Some.run' c.requires.consistent c.requires.live c.in-Some.ensures c.give_new_in.new.self c.put_run.new.self c.in-Err.field-0 c.in-Err.ensures c.put_run.ensures.put c.put_run.ensures.pool

pub returns-in-Err-clause-consistent : goal.returns-in-Err-clause-consistent
returns-in-Err-clause-consistent c = lacking-consistent c.args.self.now c.find_run_in.new.self c.args.cache c.args.layout.now c.in-Some.run' c.requires.consistent c.requires.live c.in-Some.ensures c.give_new_in.new.self c.put_run.new.self c.in-Err.field-0 c.in-Err.ensures c.put_run.ensures.put c.put_run.ensures.pool
