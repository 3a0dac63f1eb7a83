use Rattle.std.proofs.Common.{◌≡◌, None, MatchOption, arith}
use Rattle.std.proofs.lemmas.Grind.{common_steps}
use Rattle.slub_object_layout.specs.declared.layout.Layout.{Layout}
use Rattle.slub_red_zone.specs.State.{CheckedState}
use Rattle.slub_lists.specs.Alloc.{cache_of, checked_of}
use Rattle.slub_lists.specs.Checked.{FreesChecked}
use Rattle.slub_lists.specs.Free.{FreesUnchecked}
use Rattle.slub_lists.proofs.Giving.{from-checked, from-unchecked, layout-match}
use Rattle.slub_lists.proofs.KeepsFreed.{unchecked_found}
use Rattle.slub_list_machine.proofs.lists.Lists.free_held.Goals as goal

pub returns-then-is_some-clause-frees : goal.returns-then-is_some-clause-frees
returns-then-is_some-clause-frees c =
    let s = c.args.self.now in
    let held = c.args.held.now in
    let layout = c.layout-layout.result in
    let reply = c.free_checked.result in
    let after = c.free_checked.new.self in
    layout-match (cache_of s held.cache) layout
    (λ (l : Layout). MatchOption (checked_of s held.cache) (FreesUnchecked s l c.args.cpu c.args.worker c.args.object held reply after) (λ slabs. FreesChecked s l slabs c.args.worker c.args.object held reply after)) c.layout-layout.ensures
    (from-checked (checked_of s held.cache) (FreesUnchecked s layout c.args.cpu c.args.worker c.args.object held reply after)
    (λ (slabs : CheckedState). FreesChecked s layout slabs c.args.worker c.args.object held reply after) c.free_checked.ensures.frees)

pub returns-else-is_some-clause-frees : goal.returns-else-is_some-clause-frees
returns-else-is_some-clause-frees c =
    let s = c.args.self.now in
    let held = c.args.held.now in
    let layout = c.layout-layout.result in
    let reply = c.free_unchecked.result in
    let after = c.free_unchecked.new.self in
    let none : checked_of s held.cache ≡ None = grind (arith, common_steps) in
    layout-match (cache_of s held.cache) layout
    (λ (l : Layout). MatchOption (checked_of s held.cache) (FreesUnchecked s l c.args.cpu c.args.worker c.args.object held reply after) (λ slabs. FreesChecked s l slabs c.args.worker c.args.object held reply after)) c.layout-layout.ensures
    (from-unchecked (checked_of s held.cache) (FreesUnchecked s layout c.args.cpu c.args.worker c.args.object held reply after)
    (λ (slabs : CheckedState). FreesChecked s layout slabs c.args.worker c.args.object held reply after) none c.free_unchecked.ensures.frees)

-- the checked caches are as before
pub returns-else-is_some-clause-found : goal.returns-else-is_some-clause-found
returns-else-is_some-clause-found c =
    unchecked_found c.args.self.now c.free_unchecked.new.self c.layout-layout.result c.args.cpu c.args.worker c.args.object c.args.held.now c.free_unchecked.result c.free_unchecked.ensures.frees
