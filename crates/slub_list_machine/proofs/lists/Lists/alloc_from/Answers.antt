use Rattle.std.proofs.Common.{◌≡◌, None, arith}
use Rattle.std.proofs.lemmas.Grind.{common_steps}
use Rattle.slub_object_layout.specs.declared.layout.Layout.{Layout}
use Rattle.slub_red_zone.specs.State.{CheckedState}
use Rattle.slub_lists.specs.Alloc.{Allocates, cache_of, checked_of}
use Rattle.slub_lists.specs.Checked.{AllocatesChecked}
use Rattle.slub_lists.specs.Named.{AllocatesFrom}
use Rattle.slub_lists.proofs.Giving.{from-checked, from-unchecked, layout-of}
use Rattle.slub_lists.proofs.Keeps.{unchecked_found}
use Rattle.slub_list_machine.proofs.lists.Lists.alloc_from.Goals as goal

pub returns-then-is_some-clause-allocates : goal.returns-then-is_some-clause-allocates
returns-then-is_some-clause-allocates c =
    let s = c.args.self.now in
    let layout = c.layout-layout.result in
    let reply = c.alloc_checked.result in
    let after = c.alloc_checked.new.self in
    layout-of (cache_of s c.args.cache) layout (λ (l : Layout). AllocatesFrom s l c.args.cache c.args.cpu c.args.worker c.args.object reply after) c.layout-layout.ensures
    (from-checked (checked_of s c.args.cache) (Allocates s layout c.args.cache c.args.cpu c.args.worker c.args.object reply after)
    (λ (slabs : CheckedState). AllocatesChecked s layout c.args.cache slabs c.args.worker c.args.object reply after) c.alloc_checked.ensures.allocates)

pub returns-else-is_some-clause-allocates : goal.returns-else-is_some-clause-allocates
returns-else-is_some-clause-allocates c =
    let s = c.args.self.now in
    let layout = c.layout-layout.result in
    let reply = c.alloc.result in
    let after = c.alloc.new.self in
    let none : checked_of s c.args.cache ≡ None = grind (arith, common_steps) in
    layout-of (cache_of s c.args.cache) layout (λ (l : Layout). AllocatesFrom s l c.args.cache c.args.cpu c.args.worker c.args.object reply after) c.layout-layout.ensures
    (from-unchecked (checked_of s c.args.cache) (Allocates s layout c.args.cache c.args.cpu c.args.worker c.args.object reply after)
    (λ (slabs : CheckedState). AllocatesChecked s layout c.args.cache slabs c.args.worker c.args.object reply after) none c.alloc.ensures.allocates)

-- the checked caches are as before
pub returns-else-is_some-clause-found : goal.returns-else-is_some-clause-found
returns-else-is_some-clause-found c =
    unchecked_found c.args.self.now c.layout-layout.result c.args.cache c.args.cpu c.args.worker c.args.object c.alloc.result c.alloc.new.self c.alloc.ensures.allocates
