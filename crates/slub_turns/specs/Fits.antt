-- What the bodies of the paths ask of a worker and of what the locks guard, in one turn: of its
-- step, of what is done at once after it, and of the replies.
use Rattle.std.specs.Prelude.{◌≡◌, ℕ, ◌+◌, ◌<◌, ◌≤◌, ◌^◌, Bool, List, [], ◌∷◌, length, slice_index_or, Option, IfSome}
use Rattle.slub_trace.specs.declared.reply.Reply.{Reply}
use Rattle.slub_core.specs.declared.call.Call.{Call}
use Rattle.slub_core.specs.declared.call.CallKind.TheVariants.{Write, Read}
use Rattle.slub_core.specs.declared.spot.Spot.{Spot}
use Rattle.slub_core.specs.declared.spot.Spot.TheVariants.{Between, InAlloc, InPutAway, InDiscard, InPutOnList, InFree, InMoveSet, InOffline, InTrim, WriteWord, ReadWord, InChecked}
use Rattle.slub_core.specs.Setup.{Setup, IsPlain, node_lock}
use Rattle.slub_core.specs.Words.{number_of, answer_of}
use Rattle.slub_core.specs.World.{LockValue}
use Rattle.slub_core.specs.Local.{Local, Turn, Change, noted}
use Rattle.slub_core.specs.Steps.{step_of, advance_at, changed, begun}
use Rattle.slub_core.specs.Run.{System, Pick, idle}
use Rattle.slub_core.specs.Law.{IsRested}
use Rattle.slub_core.specs.declared.guarded.Guarded.{Guarded}
use Rattle.slub_core.specs.Calls.{call_cpu}
use Rattle.slub_core.specs.Values.{values_of, rooms_of}
use Rattle.slub_alloc_paths.specs.Fits.{AllocFits}
use Rattle.slub_alloc_paths.specs.Fits as alloc
use Rattle.slub_free_paths.specs.Fits.{FreeFits, PutOnListFits, PutAwayFits, DiscardFits, MoveSetFits, UseFits, PutsRun, PutsAway, PutsTail, TakesOff}
use Rattle.slub_offline.specs.Fits.{OfflineFits, OfflineRoom, TrimFits, MayScan}
use Rattle.slub_checked_paths.specs.Fits.{CheckedFits}

-- ---- a step, and the answer to it

-- where each change adds `step` to a transaction id
abbrev pub StepFits : ℕ → Local → Spot → Type 0
StepFits step l Between = Unit {0}
StepFits step l (InAlloc s) = AllocFits step l s
StepFits step l (InPutAway s away) = PutAwayFits l s
StepFits step l (InDiscard s discard) = DiscardFits l s discard
StepFits step l (InPutOnList s put) = PutOnListFits l s put
StepFits step l (InFree s) = FreeFits step l s × (length l.hands < 2)
StepFits step l (InMoveSet s move) = MoveSetFits l s
StepFits step l (InOffline s sweep) = OfflineFits step l s × OfflineRoom l s
StepFits step l (InTrim s) = TrimFits l s
StepFits step l WriteWord = UseFits l Write
StepFits step l ReadWord = UseFits l Read
StepFits step l (InChecked s kind) = Unit {0}

-- ---- what is done at once

abbrev pub AtOnceFits : List Guarded → Local → Spot → Type 0
AtOnceFits guarded l Between = Unit {0}
AtOnceFits guarded l (InAlloc s) = alloc.AtOnceFits guarded l s
AtOnceFits guarded l (InPutAway s away) = PutsAway guarded l s
AtOnceFits guarded l (InDiscard s discard) = PutsRun guarded l s
AtOnceFits guarded l (InPutOnList s put) = Unit {0}
AtOnceFits guarded l (InFree s) = (length l.hands < 2) × TakesOff guarded l s
AtOnceFits guarded l (InMoveSet s move) = MoveSetFits l s × PutsTail guarded l s
AtOnceFits guarded l (InOffline s sweep) = Unit {0}
AtOnceFits guarded l (InTrim s) = MayScan (values_of guarded) l s
AtOnceFits guarded l WriteWord = Unit {0}
AtOnceFits guarded l ReadWord = Unit {0}
AtOnceFits guarded l (InChecked s kind) = CheckedFits guarded l s kind

-- each node list of a plain cache has room for as many slabs as there are frames but frame 0
abbrev pub HasRooms : Setup → List ℕ → Type 0
HasRooms m rooms =
    (cache : ℕ) → IsPlain m cache → m.frames ≤ slice_index_or rooms (node_lock cache) 0 + 1

-- what the locks guard, as the bodies have it: these values, with room in the node lists
pub record AreValues (m : Setup) (value : ℕ → LockValue) (guarded : List Guarded) : Type 0 where
  pub values : values_of guarded ≡ value
  pub rooms : HasRooms m (rooms_of guarded)

-- ---- a turn

-- a worker that has a reply has a call without one
abbrev pub HasCallFor : Local → Option Reply → Type 0
HasCallFor l reply = IfSome reply (λ _. 1 ≤ length l.todo)

-- the reply that comes with a change is noted, and what is done at once at the spot that it leads
-- to fits what the locks guard
pub record ChangeFits (m : Setup) (c : Change) : Type 0 where
  pub call : HasCallFor c.local c.reply
  pub at_once : (guarded : List Guarded) → AreValues m c.value guarded
      → AtOnceFits guarded (noted c.local c.reply) (noted c.local c.reply).spot

-- where the answer to its step leads a worker, before anything is done at once
abbrev pub change_of : Turn → (ℕ → LockValue) → Change
change_of turn value = record { value = value; local = turn.local; reply = turn.reply }

abbrev pub after_answer : Setup → System → Local → Change
after_answer m s l =
    let step = step_of m s.value l in
    let x = slice_index_or s.words (number_of m step.place) 0 in
    change_of (advance_at m s.value l l.spot (answer_of step.op x)) s.value

-- all that the turn of a worker asks that has begun its call: of its step, and of the two changes
-- that may be done at once after it. `refused`: memory is refused in it
pub record TurnFits (m : Setup) (refused : Bool) (s : System) (l : Local) : Type 0 where
  pub step : StepFits m.step l l.spot
  pub first : ChangeFits m (after_answer m s l)
  pub second : ChangeFits m (changed m refused (after_answer m s l))
  pub last : let c = changed m refused (changed m refused (after_answer m s l)) in
      HasCallFor c.local c.reply

-- the worker whose turn it is
abbrev pub picked : System → Pick → Local
picked s pick = slice_index_or s.locals pick.worker idle

-- a worker between two calls begins one whose CPU has a number of eight bits
abbrev pub CallsFit : List Call → Type 0
CallsFit [] = Unit {0}
CallsFit (call ∷ calls) = call_cpu call < 256

abbrev pub BeginFits : Local → Spot → Type 0
BeginFits l Between = CallsFit l.todo
BeginFits l _ = Unit {0}

-- of a pick, whether memory is refused or not: its worker's next call takes a step, and its turn is
-- one that the bodies can make, be the call a try or not
pub record PickFits (m : Setup) (s : System) (pick : Pick) : Type 0 where
  pub begin : BeginFits (picked s pick) (picked s pick).spot
  pub rested : IsRested m (picked s pick)
  pub turn : (refused : Bool) → TurnFits m refused s (begun m pick.tries (picked s pick))

-- ---- what is counted

-- what a worker counts leaves room: the slabs that an allocation puts on the CPU's partial list,
-- and what a trim or a flush is to tell, by one slab or by those of a list
pub record LeavesRoom (l : Local) : Type 0 where
  pub put : l.put + 1 < 2 ^ 32
  pub count : l.count + 2 ^ 16 ≤ 2 ^ 32
