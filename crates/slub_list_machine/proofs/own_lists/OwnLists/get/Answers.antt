use Rattle.std.proofs.Common.{List, ℕ, ◌+◌, ◌-◌, ◌*◌, vec_capacity, ◌∙◌, ap, sym}
use Rattle.std.specs.Prelude.{slice_get}
use Rattle.slub_list_machine.proofs.Places.{got, got-none}
use Rattle.slub_list_machine.proofs.own_lists.OwnLists.get.Goals as goal

pub returns-then-at-count : goal.returns-then-at-count
returns-then-at-count c =
    c.place_at.ensures ∙ ap (λ (xs : List ℕ). slice_get xs (512 * c.args.frame + (c.len_of-count.result - 1 - c.args.at))) c.deref.ensures.value
    ∙ sym (got c.self.inside.room.items c.self.inside.counts.items (vec_capacity c.self.inside.room) c.args.self.now c.self.invariant c.self.view_is c.args.frame c.len_of-count.result c.len_of-count.ensures.value c.args.at c.if-at-count.true)

pub returns-else-at-count : goal.returns-else-at-count
returns-else-at-count c =
    sym (got-none c.self.inside.room.items c.self.inside.counts.items (vec_capacity c.self.inside.room) c.args.self.now c.self.invariant c.self.view_is c.args.frame c.len_of-count.result c.len_of-count.ensures.value c.args.at c.if-at-count.false)
