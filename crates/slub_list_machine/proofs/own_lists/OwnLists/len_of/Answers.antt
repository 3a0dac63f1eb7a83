use Rattle.std.proofs.Common.{List, ℕ, get_or, vec_capacity, ap, ◌∙◌, sym}
use Rattle.slub_list_machine.proofs.Places.{counted}
use Rattle.slub_list_machine.proofs.own_lists.OwnLists.len_of.Goals as goal

pub returns-clause-value : goal.returns-clause-value
returns-clause-value c =
    c.count_at.ensures ∙ ap (λ (xs : List ℕ). get_or xs c.args.frame 0) c.deref.ensures.value
    ∙ sym (counted c.self.inside.room.items c.self.inside.counts.items (vec_capacity c.self.inside.room) c.args.self.now c.self.invariant c.self.view_is c.args.frame)
