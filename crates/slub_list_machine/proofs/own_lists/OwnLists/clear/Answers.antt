use Rattle.std.proofs.Common.{vec_capacity, length, [], get_or, refl, arith}
use Rattle.slub_list_machine.proofs.Places.{as-many, cleared}
use Rattle.slub_list_machine.proofs.own_lists.OwnLists.clear.Goals as goal

pub index_mut-requires : goal.index_mut-requires
index_mut-requires c =
    let many = as-many c.self.inside.room.items c.self.inside.counts.items (vec_capacity c.self.inside.room) c.args.self.now c.self.invariant c.self.view_is in
    omega (arith, many, c.requires, c.self.inside.counts.ok.0)

pub returns : goal.returns
returns c =
    cleared c.self.inside.room.items c.self.inside.counts.items (vec_capacity c.self.inside.room) c.args.self.now c.self.invariant c.self.view_is c.args.frame (length (get_or c.args.self.now c.args.frame [])) refl c.requires
