use Rattle.std.proofs.Common.{rules, ◌≡◌, ℕ, Some, MatchOption, ap, sym, ◌∙◌, subst}
use Rattle.slub_cache_create.specs.Table.{names_of, number_of}
use Rattle.slub_cache_create.proofs.Oldest.{named_alive}
use Rattle.slub_lists.specs.State.{State}
use Rattle.slub_lists.specs.Destroy.{Goes}
use Rattle.slub_lists.specs.Leaving.{FreesAll}
use Rattle.slub_lists.specs.Shrink.{busy_of}
use Rattle.slub_list_machine.proofs.lists.Lists.destroy.Goals as goal

-- the name names a live cache
pub names-requires : goal.names-requires
names-requires c = record { live = named_alive c.self.inside.table c.args.name.now c.in-Some.cache c.in-Some.ensures.sound (sym c.in-Some.ensures.named) }

-- nothing of the cache is held or set aside, so each of its frames is free
pub returns-clause-destroys : goal.returns-clause-destroys
returns-clause-destroys c =
    let s : State = c.args.self.now in
    let cache = c.in-Some.cache in
    let after : State = c.drop_last.new.self in
    let named : number_of s.table c.args.name.now ≡ Some cache = ap (λ (t : State). number_of t.table c.args.name.now) (sym c.self.view_is) ∙ sym c.in-Some.ensures.named in
    let last : names_of s.table cache ≡ 1 = search rules in
    let busy : busy_of s cache ≡ 0 = search rules in
    let shrinks = c.shrink_cache.ensures.shrinks in
    let emptied = shrinks.emptied busy in
    subst (λ x. MatchOption x ⊥ (λ (cache : ℕ). Goes s c.args.name.now cache after)) (sym named)
    (last, busy, c.shrink_cache.new.self, shrinks, emptied.0, c.drop_last.ensures.dropped, subst (λ (t : State). FreesAll s cache t) (sym c.drop_last.ensures.dropped) emptied.1)
