use Rattle.std.proofs.Common.{rules, arith}
use Rattle.slub_lists.specs.Shrink.{ShrinksByKind}
use Rattle.slub_lists.proofs.ComingFree.{shrinks-cache}
use Rattle.slub_lists.proofs.Trimming.{slabs-fewer}
use Rattle.slub_list_machine.proofs.lists.Lists.trim_cache.Goals as goal

pub overflow_sub-result : goal.overflow_sub-result
overflow_sub-result c =
    let done = c.shrink_unchecked.ensures in
    let fewer = slabs-fewer c.args.self.now c.shrink_unchecked.new.self c.args.cache c.requires.coherent.shaped done.coherent.shaped done.rest.held.frames done.slabs in
    omega (arith, fewer, c.count_slabs-before.ensures, c.count_slabs.ensures)

pub returns-clause-shrinks : goal.returns-clause-shrinks
returns-clause-shrinks c =
    let steps : ShrinksByKind c.args.self.now c.args.cache c.shrink_unchecked.new.self = search rules in
    let done = c.shrink_unchecked.ensures in
    shrinks-cache c.args.self.now c.shrink_unchecked.new.self c.args.cache c.requires.coherent done.coherent steps done.rest.held done.slabs done.emptied

pub returns-clause-discarded : goal.returns-clause-discarded
returns-clause-discarded c = omega (arith, overflow_sub-result c, c.count_slabs-before.ensures, c.count_slabs.ensures)
