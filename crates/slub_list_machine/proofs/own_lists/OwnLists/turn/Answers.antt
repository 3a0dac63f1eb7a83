use Rattle.std.proofs.Common.{vec_capacity, length, take, drop, reverse, ◌++◌, ◌+◌, ◌*◌, ℕ, List, ap, ◌∙◌, arith}
use Rattle.std.proofs.lemmas.List.{with_items_is}
use Rattle.slub_list_machine.specs.Places.{own_lists}
use Rattle.slub_list_machine.proofs.Places.{first-inside, turned-around}
use Rattle.slub_list_machine.proofs.own_lists.OwnLists.turn.Goals as goal

pub reverse_part-requires : goal.reverse_part-requires
reverse_part-requires c =
    let inside = first-inside c.self.inside.room.items c.self.inside.counts.items (vec_capacity c.self.inside.room) c.args.self.now c.self.invariant c.self.view_is c.args.frame c.len_of-count.result c.len_of-count.ensures.value c.if-count-gt0.true in
    omega (arith, inside, ap length c.deref_mut.ensures.value)

pub returns-then-count-gt0 : goal.returns-then-count-gt0
returns-then-count-gt0 c =
    let first = 512 * c.args.frame in
    let count = c.len_of-count.result in
    let turned : List ℕ → List ℕ = λ room. take first room ++ reverse (take count (drop first room)) ++ drop (first + count) room in
    let now = with_items_is c.self.inside.room c.reverse_part.new.room (omega (arith, c.reverse_part.auto.room, c.deref_mut.ensures.len)) in
    ap (λ (room : List ℕ). own_lists room c.self.inside.counts.items) (now ∙ c.reverse_part.ensures ∙ ap turned c.deref_mut.ensures.value)
    ∙ turned-around c.self.inside.room.items c.self.inside.counts.items (vec_capacity c.self.inside.room) c.args.self.now c.self.invariant c.self.view_is c.args.frame count c.len_of-count.ensures.value c.if-count-gt0.true c.requires
