use Rattle.std.proofs.Common.{rules}
use Rattle.slub_lists.specs.Shrink.{ShrinksByKind}
use Rattle.slub_lists.proofs.ComingFree.{shrinks-cache}
use Rattle.slub_list_machine.proofs.lists.Lists.shrink_cache.Goals as goal

pub returns-then-is_some-clause-shrinks : goal.returns-then-is_some-clause-shrinks
returns-then-is_some-clause-shrinks c =
    let steps : ShrinksByKind c.args.self.now c.args.cache c.shrink_checked.new.self = search rules in
    let done = c.shrink_checked.ensures in
    shrinks-cache c.args.self.now c.shrink_checked.new.self c.args.cache c.requires.coherent done.coherent steps done.kept done.slabs done.emptied

pub returns-else-is_some-clause-shrinks : goal.returns-else-is_some-clause-shrinks
returns-else-is_some-clause-shrinks c =
    let steps : ShrinksByKind c.args.self.now c.args.cache c.shrink_unchecked.new.self = search rules in
    let done = c.shrink_unchecked.ensures in
    shrinks-cache c.args.self.now c.shrink_unchecked.new.self c.args.cache c.requires.coherent done.coherent steps done.rest.held done.slabs done.emptied
