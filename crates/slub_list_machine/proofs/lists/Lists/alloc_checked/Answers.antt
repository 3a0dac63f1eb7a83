use Rattle.std.proofs.Common.{arith}
use Rattle.slub_lists.proofs.CheckedGiving.{layout-live}
use Rattle.slub_lists.proofs.CheckedReplies.{cache-live, listed-allocates, listed-consistent, listed-found, listed-lengths, listed-slot, live-room, spent-allocates, spent-consistent, spent-found}
use Rattle.slub_list_machine.proofs.lists.Lists.alloc_checked.Goals as goal

-- an object of a listed slab
pub hold-requires-clause-object : goal.hold-requires-clause-object
hold-requires-clause-object c = omega (arith, c.requires.object.1, (listed-lengths c.args.self.now c.give_in.new.self c.args.cache c.args.layout.now c.requires.consistent c.requires.live c.in-Given.slot c.in-Given.ensures).0)

pub hold-requires-clause-cache : goal.hold-requires-clause-cache
hold-requires-clause-cache c = omega (arith, cache-live c.args.self.now c.args.cache c.args.layout.now c.requires.live c.requires.consistent, (listed-lengths c.args.self.now c.give_in.new.self c.args.cache c.args.layout.now c.requires.consistent c.requires.live c.in-Given.slot c.in-Given.ensures).1)

pub hold-requires-clause-room : goal.hold-requires-clause-room
hold-requires-clause-room c = omega (arith, live-room c.args.self.now c.args.cache c.requires.consistent, (listed-lengths c.args.self.now c.give_in.new.self c.args.cache c.args.layout.now c.requires.consistent c.requires.live c.in-Given.slot c.in-Given.ensures).2)

pub hold-requires-clause-inside : goal.hold-requires-clause-inside
hold-requires-clause-inside c = listed-slot c.args.self.now c.give_in.new.self c.args.cache c.args.layout.now c.requires.consistent c.requires.live c.in-Given.slot c.in-Given.ensures

pub hold-requires-clause-layout : goal.hold-requires-clause-layout
hold-requires-clause-layout c = layout-live c.args.self.now c.args.cache c.args.layout.now c.requires.live c.requires.consistent.shaped

pub returns-in-Given-clause-allocates : goal.returns-in-Given-clause-allocates
returns-in-Given-clause-allocates c = listed-allocates c.args.self.now c.give_in.new.self c.args.cache c.args.layout.now c.requires.consistent c.requires.live c.in-Given.slot c.in-Given.ensures c.hold.new.self c.args.worker c.args.object c.hold.result c.requires.object c.requires.unused c.hold.ensures.held c.hold.ensures.address

pub returns-in-Given-clause-found : goal.returns-in-Given-clause-found
returns-in-Given-clause-found c = listed-found c.args.self.now c.give_in.new.self c.args.cache c.args.layout.now c.requires.consistent c.requires.live c.in-Given.slot c.in-Given.ensures c.hold.new.self c.args.worker c.args.object c.hold.result c.requires.object c.requires.unused c.hold.ensures.held

pub returns-in-Given-clause-consistent : goal.returns-in-Given-clause-consistent
returns-in-Given-clause-consistent c = listed-consistent c.args.self.now c.give_in.new.self c.args.cache c.args.layout.now c.requires.consistent c.requires.live c.in-Given.slot c.in-Given.ensures c.hold.new.self c.args.worker c.args.object c.hold.result c.requires.object c.requires.unused c.hold.ensures.held

-- none of them has one
pub alloc_new_checked-requires-clause-consistent : goal.alloc_new_checked-requires-clause-consistent
alloc_new_checked-requires-clause-consistent c = spent-consistent c.args.self.now c.give_in.new.self c.args.cache c.args.layout.now c.requires.consistent c.requires.live c.in-Empty.ensures

pub returns-in-Empty-clause-allocates : goal.returns-in-Empty-clause-allocates
returns-in-Empty-clause-allocates c = spent-allocates c.args.self.now c.give_in.new.self c.args.cache c.args.layout.now c.requires.consistent c.requires.live c.in-Empty.ensures c.alloc_new_checked.new.self c.args.worker c.args.object c.alloc_new_checked.result c.alloc_new_checked.ensures.allocates

pub returns-in-Empty-clause-found : goal.returns-in-Empty-clause-found
returns-in-Empty-clause-found c = spent-found c.args.self.now c.give_in.new.self c.args.cache c.args.layout.now c.requires.consistent c.requires.live c.in-Empty.ensures c.alloc_new_checked.new.self c.alloc_new_checked.ensures.found
