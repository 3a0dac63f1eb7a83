-- A machine whose workers may make their turns is one after each turn.
use Rattle.std.proofs.Common.{[], All, sym, subst}
use Rattle.slub_lists.specs.State.{State}
use Rattle.slub_lists.specs.Coherent.{all_on_board}
use Rattle.slub_lists.specs.Coherent as plain
use Rattle.slub_core.specs.Setup.{Setup}
use Rattle.slub_core.specs.World.{world_of}
use Rattle.slub_core.specs.Run.{System, IsFinished}
use Rattle.slub_core.proofs.Opens.{rounds_keep}
use Rattle.slub_core.proofs.Turns.{turn_keeps}
use Rattle.slub_law_opening.specs.Opening.{Beside, setup_of}
use Rattle.slub_law_opening.specs.Closing.{Closes}
use Rattle.slub_law_opening.specs.Laws.{MayOpen}
use Rattle.slub_law_opening.specs.Table.{system_of}
use Rattle.slub_law_opening.proofs.Systems.{opened-rest}
use Rattle.slub_law_opening.specs.BoundLaws.{TurnsKeepBounds, BoundedCountsFit, RoundsBeginBounded, RoundsCloseIntoLists, flags_of}
use Rattle.slub_turns.proofs.Turns.{turns}
use Rattle.slub_turns.specs.Laws.{RoundsBeginReady, TurnsKeepReady, PicksFit, RoundsBySeedClose}

pub keeps_ready : TurnsKeepBounds → TurnsKeepReady
keeps_ready keep m s pick may = record {
  opening = may.opening;
  coherent = turn_keeps m may.opening s pick may.coherent;
  flags = may.flags;
  bounded = keep m may.flags may.opening s pick may.coherent may.bounded;
}

pub picks_are_fit : BoundedCountsFit → PicksFit
picks_are_fit fit m s pick may within =
    let room = fit m may.flags may.opening s pick.worker pick.tries may.coherent may.bounded within in
    turns m may.opening s pick may.coherent within (record { put = room.put; count = room.count })

-- a round begins with such a machine
pub begins_ready : RoundsBeginBounded → RoundsBeginReady
begins_ready bounded s b ls may_open may_begin numbers =
    let opening = (opened-rest s b ls may_open may_begin).1 in
    let m : Setup = setup_of s b in
    let first : System = system_of s b ls in
    record {
      opening = world_of m first.value first.words;
      coherent = rounds_keep m first [] opening;
      flags = flags_of s;
      bounded = bounded s b ls may_open may_begin numbers;
    }

-- and what it ends with closes
pub seeds_close : RoundsCloseIntoLists → RoundsBySeedClose
seeds_close closes s b ls seed picks last may_open may_begin numbers ends =
    let m : Setup = setup_of s b in
    let P : System → Type 0 = λ e. (t : State) × (d : Beside) × Closes s b e t d × plain.IsCoherent t × MayOpen (all_on_board t) d in
    let Q : System → Type 0 = λ e. All IsFinished e.locals in
    subst P (sym ends.run) (closes s b ls picks may_open may_begin numbers (subst Q ends.run ends.finished))
