use Rattle.std.proofs.Common.{vec_capacity, ◌+◌, ◌*◌, ℕ, List, set, subst, ap, sym, ◌∙◌, arith}
use Rattle.slub_list_machine.specs.Places.{IsStored, own_lists}
use Rattle.slub_list_machine.proofs.Places.{as-many, pushed, pushed-stored}
use Rattle.slub_list_machine.proofs.own_lists.OwnLists.push.Goals as goal

pub store_up_to-requires : goal.store_up_to-requires
store_up_to-requires c =
    let many = as-many c.self.inside.room.items c.self.inside.counts.items (vec_capacity c.self.inside.room) c.args.self.now c.self.invariant c.self.view_is in
    record { room = omega (arith, many, c.requires.frame, c.requires.room, c.len_of-count.ensures.value, c.self.invariant.all) }

pub index_mut-requires-2 : goal.index_mut-requires-2
index_mut-requires-2 c =
    let many = as-many c.self.inside.room.items c.self.inside.counts.items (vec_capacity c.self.inside.room) c.args.self.now c.self.invariant c.self.view_is in
    omega (arith, many, c.requires.frame, c.self.inside.counts.ok.0)

pub invariant_of-self : goal.invariant_of-self
invariant_of-self c =
    let at = 512 * c.args.frame + c.len_of-count.result in
    let counts = set c.self.inside.counts.items c.args.frame (c.len_of-count.result + 1) in
    let stored = pushed-stored c.self.inside.room.items c.self.inside.counts.items (vec_capacity c.self.inside.room) c.args.self.now c.self.invariant c.self.view_is c.args.frame c.len_of-count.result c.len_of-count.ensures.value c.args.item (omega (arith, c.requires.room, c.len_of-count.ensures.value)) in
    subst (λ (room : List ℕ). IsStored (set room at c.args.item) counts (vec_capacity c.store_up_to.new.items)) (sym c.store_up_to.ensures.stored)
    (subst (IsStored _ counts) (sym c.store_up_to.ensures.capacity) stored)

pub returns : goal.returns
returns c =
    let at = 512 * c.args.frame + c.len_of-count.result in
    let more = c.len_of-count.result + 1 in
    ap (λ (room : List ℕ). own_lists (set room at c.args.item) (set c.self.inside.counts.items c.args.frame more)) c.store_up_to.ensures.stored
    ∙ pushed c.self.inside.room.items c.self.inside.counts.items (vec_capacity c.self.inside.room) c.args.self.now c.self.invariant c.self.view_is c.args.frame c.len_of-count.result c.len_of-count.ensures.value c.args.item (omega (arith, c.requires.room, c.len_of-count.ensures.value)) c.requires.frame
