use Rattle.std.proofs.Common.{refl, arith}
use Rattle.slub_list_machine.specs.Parts.{state_of}
use Rattle.slub_open_close.proofs.Whole.{counted}
use Rattle.slub_open_close.proofs.opening.push_front.Goals as goal

pub push_cpus-requires-clause-room : goal.push_cpus-requires-clause-room
push_cpus-requires-clause-room c =
    let s = state_of c.args.parts.now in
    let n = (counted s c.args.tids.now c.args.words.now.items c.push_locks.new.words.items c.push_lists.new.words.items _ _ _ c.requires.empty c.push_locks.ensures.words c.push_lists.ensures.words refl refl refl).0 in
    omega (arith, n.lists, c.push_locks.ensures.capacity, c.push_lists.ensures.capacity, c.requires.room)

pub push_slabs-requires-clause-room : goal.push_slabs-requires-clause-room
push_slabs-requires-clause-room c =
    let s = state_of c.args.parts.now in
    let n = (counted s c.args.tids.now c.args.words.now.items c.push_locks.new.words.items c.push_lists.new.words.items c.push_cpus.new.words.items _ _ c.requires.empty c.push_locks.ensures.words c.push_lists.ensures.words c.push_cpus.ensures.words refl refl).0 in
    omega (arith, n.cpus, c.push_locks.ensures.capacity, c.push_lists.ensures.capacity, c.push_cpus.ensures.capacity, c.requires.room, c.requires.objects)

pub push_board-requires-clause-room : goal.push_board-requires-clause-room
push_board-requires-clause-room c =
    let s = state_of c.args.parts.now in
    let n = (counted s c.args.tids.now c.args.words.now.items c.push_locks.new.words.items c.push_lists.new.words.items c.push_cpus.new.words.items c.push_slabs.new.words.items _ c.requires.empty c.push_locks.ensures.words c.push_lists.ensures.words c.push_cpus.ensures.words c.push_slabs.ensures.words refl).0 in
    omega (arith, n.slabs, c.push_locks.ensures.capacity, c.push_lists.ensures.capacity, c.push_cpus.ensures.capacity, c.push_slabs.ensures.capacity, c.requires.room, c.requires.objects)

pub returns-clause-words : goal.returns-clause-words
returns-clause-words c =
    (counted (state_of c.args.parts.now) c.args.tids.now c.args.words.now.items c.push_locks.new.words.items c.push_lists.new.words.items c.push_cpus.new.words.items c.push_slabs.new.words.items c.push_board.new.words.items
    c.requires.empty c.push_locks.ensures.words c.push_lists.ensures.words c.push_cpus.ensures.words c.push_slabs.ensures.words c.push_board.ensures.words).1
