use Rattle.std.proofs.Common.{◌≡◌, ◌∙◌, List, subst, ℕ}
use Rattle.slub_engine.specs.Steps.{found_since}
use Rattle.slub_engine.proofs.UnderWay.{does_round, found_room, told_each, told_grown}
use Rattle.slub_engine.proofs.running.Running.end.Goals as goal

pub push_found-requires-clause-coherent : goal.push_found-requires-clause-coherent
push_found-requires-clause-coherent c = c.requires.4.coherent

pub push_found-requires-clause-each : goal.push_found-requires-clause-each
push_found-requires-clause-each c = rw c.deref.ensures.value (told_each _ _ _ _ _ _ c.requires.4)

pub push_found-requires-clause-grown : goal.push_found-requires-clause-grown
push_found-requires-clause-grown c = rw c.deref.ensures.value (told_grown _ _ _ _ _ _ c.requires.4)

pub push_found-requires-clause-empty : goal.push_found-requires-clause-empty
push_found-requires-clause-empty c = c.requires.4.room.damages.0

pub push_found-requires-clause-room : goal.push_found-requires-clause-room
push_found-requires-clause-room c = rw c.deref.ensures.value (found_room _ _ _ _ _ _ c.requires.4)

pub end_round-requires : goal.end_round-requires
end_round-requires c = record { coherent = c.requires.4.coherent }

pub returns-clause-round : goal.returns-clause-round
returns-clause-round c = λ s most round run.
    let found : c.push_found.new.damages.items ≡ found_since c.args.self.told.items c.args.lists.now =
    subst (λ (told : List ℕ). c.push_found.new.damages.items ≡ found_since told c.args.lists.now) c.deref.ensures.value c.push_found.ensures in
    does_round s most round _ _ _ _ run c.end_round.ensures.on_board c.from_vec.ensures (c.from_vec-2.ensures ∙ found) c.from_vec-3.ensures
