-- The lines of a change that is done at once.
use Rattle.std.specs.Prelude.{ℕ, Bool, true, false, if◌then◌else◌, List, [], ◌∷◌, ◌++◌, length, drop, flat_map, codes, Option}
use Rattle.slub_trace.specs.declared.damage.Report.{Report}
use Rattle.slub_trace.specs.declared.reply.Reply.{Reply}
use Rattle.slub_red_zone.specs.State.{CheckedState}
use Rattle.slub_core.specs.declared.spot.Spot.{Spot}
use Rattle.slub_core.specs.declared.spot.Spot.TheVariants.{InAlloc, InPutAway, InDiscard, InFree, InMoveSet, InTrim, InChecked}
use Rattle.slub_core.specs.declared.spot.AllocSpot.TheVariants.{PopNode, TakeRun}
use Rattle.slub_core.specs.declared.spot.PutAwaySpot.TheVariants.{PutNode}
use Rattle.slub_core.specs.declared.spot.DiscardSpot.TheVariants.{PutRun}
use Rattle.slub_core.specs.declared.spot.FreeSpot.TheVariants.{TakeOff}
use Rattle.slub_core.specs.declared.spot.MoveSetSpot.TheVariants.{ChooseFront, PutTail}
use Rattle.slub_core.specs.declared.spot.TrimSpot.TheVariants.{ScanNode, DropScanned}
use Rattle.slub_core.specs.declared.spot.CheckedSpot.TheVariants.{DoChecked, MoveRun, AddSlab}
use Rattle.slub_core.specs.Setup.{node_lock}
use Rattle.slub_core.specs.Facts.{Facts}
use Rattle.slub_core.specs.World.{LockValue, Nothing, Node, Checked, Pool}
use Rattle.slub_core.specs.Local.{Local, hand_of, run_of}
use Rattle.slub_core.specs.Alloc.{node_of}
use Rattle.slub_turn_text.specs.declared.change.Before.{Before}
use Rattle.slub_turn_text.specs.Columns.{cell, front}
use Rattle.slub_turn_text.specs.Labels.{RoundLabels, event_number, label_at, title_of}
use Rattle.slub_turn_text.specs.Turns.{lane_of, spot_cells}
use Rattle.slub_turn_text.specs.AtOnce.{change_says}
use Rattle.slub_turn_text.specs.Checked.{aside_text}

-- ---- before it

-- what a checked cache has told of damages; none behind another lock
abbrev pub reports_in : LockValue → List Report
reports_in Nothing = []
reports_in (Node frames) = []
reports_in (Checked slabs) = slabs.reports
reports_in (Pool pool) = []

-- where the worker stands and in which event it is, the slab that it works on, the string and the
-- run in its hand, and how many damages its cache has told
abbrev pub before_of : (ℕ → LockValue) → Local → Before
before_of value l = record {
  spot = l.spot;
  event = event_number l;
  frame = (hand_of l).frame;
  string = l.string;
  run = run_of l;
  reports = length (reports_in (value (node_lock l.cache)));
}

-- ---- which spots, and what is changed there

-- of a spot the value that is changed at once there: `node TITLE`, `pool`, `string`, `checked TITLE`
unfoldable pub value_text : List ℕ → Spot → List ℕ
value_text title (InAlloc PopNode) = codes "node " ++ title
value_text title (InAlloc TakeRun) = codes "pool"
value_text title (InPutAway PutNode away) = codes "node " ++ title
value_text title (InDiscard PutRun discard) = codes "pool"
value_text title (InFree TakeOff) = codes "node " ++ title
value_text title (InMoveSet ChooseFront move) = codes "string"
value_text title (InMoveSet PutTail move) = codes "node " ++ title
value_text title (InTrim ScanNode) = codes "node " ++ title
value_text title (InTrim DropScanned) = codes "node " ++ title
value_text title (InChecked DoChecked kind) = codes "checked " ++ title
value_text title (InChecked MoveRun kind) = codes "pool"
value_text title (InChecked AddSlab kind) = codes "checked " ++ title
value_text title _ = []

unfoldable pub is_at_once : Spot → Bool
is_at_once (InAlloc PopNode) = true
is_at_once (InAlloc TakeRun) = true
is_at_once (InPutAway PutNode away) = true
is_at_once (InDiscard PutRun discard) = true
is_at_once (InFree TakeOff) = true
is_at_once (InMoveSet ChooseFront move) = true
is_at_once (InMoveSet PutTail move) = true
is_at_once (InTrim ScanNode) = true
is_at_once (InTrim DropScanned) = true
is_at_once (InChecked DoChecked kind) = true
is_at_once (InChecked MoveRun kind) = true
is_at_once (InChecked AddSlab kind) = true
is_at_once _ = false

-- ---- the lines

-- all that stands before what a line says
unfoldable pub change_front : RoundLabels → Before → Local → List ℕ
change_front labels before l =
    front (codes "+") (lane_of labels l.worker)
    ++ spot_cells (label_at labels l.worker before.event) before.spot
    ++ cell 16 (value_text (title_of labels l.cache) before.spot) ++ cell 13 (codes "at once")

-- a line of a slab that was set aside, since a free object of it was found damaged
abbrev pub aside_line : List ℕ → CheckedState → Report → List ℕ
aside_line front s report = front ++ aside_text s report ++ 10 ∷ []

-- one for each damage but the first so many
unfoldable pub aside_lines : List ℕ → ℕ → LockValue → List ℕ
aside_lines front before Nothing = []
aside_lines front before (Node frames) = []
aside_lines front before (Checked s) = flat_map (aside_line front s) (drop before s.reports)
aside_lines front before (Pool pool) = []

-- the lines of a change: the worker before it, the values and the worker after it, and the reply
-- that came of it, which isn't noted yet. None where nothing is done at once
abbrev pub change_lines
    : RoundLabels → Facts → (ℕ → LockValue) → Before → Local → Option Reply → List ℕ
change_lines labels m value before l reply =
    let columns = change_front labels before l in
    if is_at_once before.spot
    then aside_lines columns before.reports (value (node_lock l.cache)) ++ columns
    ++ change_says m (node_of value l) before l before.spot reply ++ 10 ∷ []
    else []
