use Rattle.std.proofs.Common.{◌≡◌, true, IfSome, ap, sym, ◌∙◌, subst, arith}
use Rattle.std.proofs.lemmas.Grind.{common_steps}
use Rattle.slub_object_layout.specs.Layout.{is_checked}
use Rattle.slub_cache_create.specs.Table.{Table, cache_of as live_cache}
use Rattle.slub_lists.specs.State.{State}
use Rattle.slub_lists.specs.Alloc.{cache_of}
use Rattle.slub_lists.specs.Checked.{with_checked}
use Rattle.slub_lists.proofs.Creating.{with_new-checked}
use Rattle.slub_list_machine.proofs.lists.Lists.open_if_checked.Goals as goal
use Rattle.slub_list_machine.proofs.lists.Lists.open_if_checked.Goals.{in-Some-1, in-None-1}

pub returns-in_ok-slabs-clause-opened : goal.returns-in_ok-slabs-clause-opened
returns-in_ok-slabs-clause-opened c =
    let s = c.args.self.now in
    let own = c.in_ok-slabs.slabs in
    let flags = c.flags-flags.result in
    let written : c.match-index_mut.self ≡ with_checked s c.args.cache own = elim c.match-index_mut.branch [
      | in-Some-1 w ↦ grind (arith, common_steps)
      | in-None-1 w ↦ grind (arith, common_steps)
    ] in
    let same : IfSome (cache_of s c.args.cache) (λ live. flags ≡ live.flags) =
    subst (λ (t : Table). IfSome (live_cache t c.args.cache) (λ live. flags ≡ live.flags)) (ap (λ (m : State). m.table) c.self.view_is) c.flags-flags.ensures.value in
    let checked : is_checked flags ≡ true = sym c.is_checked.ensures ∙ c.if-is_checked.true in
    with_new-checked s c.args.cache (cache_of s c.args.cache) c.layout-layout.result flags c.match-index_mut.self c.layout-layout.ensures same checked
    (written ∙ ap (with_checked s c.args.cache) c.in_ok-slabs.ensures.opened)
