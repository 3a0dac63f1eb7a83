-- What a change says that is done at once.
use Rattle.std.specs.Prelude.{ℕ, ◌==◌, if◌then◌else◌, List, [], ◌∷◌, ◌++◌, length, slice_index_or, flat_map, codes, Option, Some, None}
use Rattle.std.specs.Fmt.{decimal}
use Rattle.slub_trace.specs.declared.reply.Reply.{Reply}
use Rattle.slub_core.specs.declared.call.CallKind.{CallKind}
use Rattle.slub_core.specs.declared.call.CallKind.TheVariants as kind
use Rattle.slub_core.specs.declared.local.FrameRun.{FrameRun}
use Rattle.slub_core.specs.declared.local.PartialString.{PartialString}
use Rattle.slub_core.specs.declared.spot.Spot.{Spot}
use Rattle.slub_core.specs.declared.spot.Spot.TheVariants.{InAlloc, InPutAway, InDiscard, InFree, InMoveSet, InTrim, InChecked}
use Rattle.slub_core.specs.declared.spot.AllocSpot.{AllocSpot}
use Rattle.slub_core.specs.declared.spot.AllocSpot.TheVariants.{LoadPopped, PopNode, TakeRun}
use Rattle.slub_core.specs.declared.spot.PutAwaySpot.TheVariants.{PutNode}
use Rattle.slub_core.specs.declared.spot.DiscardSpot.TheVariants.{PutRun}
use Rattle.slub_core.specs.declared.spot.FreeSpot.TheVariants.{TakeOff}
use Rattle.slub_core.specs.declared.spot.MoveSetSpot.{MoveSetSpot}
use Rattle.slub_core.specs.declared.spot.MoveSetSpot.TheVariants.{ChooseFront, PutTail}
use Rattle.slub_core.specs.declared.spot.TrimSpot.{TrimSpot}
use Rattle.slub_core.specs.declared.spot.TrimSpot.TheVariants.{LoadScanned, ScanNode, DropScanned}
use Rattle.slub_core.specs.declared.spot.CheckedSpot.{CheckedSpot}
use Rattle.slub_core.specs.declared.spot.CheckedSpot.TheVariants.{DoChecked, MoveRun, AddSlab}
use Rattle.slub_core.specs.Facts.{Facts, cache_of}
use Rattle.slub_core.specs.Local.{Local, here, hand_of, run_of, call_of}
use Rattle.slub_turn_text.specs.declared.change.Before.{Before}
use Rattle.slub_turn_text.specs.Fields.{run_text}
use Rattle.slub_turn_text.specs.Checked.{add_says, do_says}

-- ---- the node list; `l` is the worker after the change, and `frames` the list

-- `takes slab F off`
unfoldable pub off_says : ℕ → List ℕ
off_says frame = codes "takes slab " ++ decimal frame ++ codes " off"

-- where no slab is taken, the list is empty or the CPU's has enough (`get_partial_node`)
unfoldable pub none_says : List ℕ → List ℕ
none_says frames = if length frames == 0 then codes "takes none, it is empty"
    else codes "takes none, it has enough"

unfoldable pub pop_says : List ℕ → Local → Spot → List ℕ
pop_says frames l (InAlloc LoadPopped) = off_says (hand_of l).frame
pop_says frames l _ = none_says frames

unfoldable pub head_says : ℕ → List ℕ
head_says frame = codes "puts slab " ++ decimal frame ++ codes " at the head"

unfoldable pub tail_says : ℕ → List ℕ
tail_says frame = codes "puts slab " ++ decimal frame ++ codes " at the tail"

-- to the head, or to the tail where the slab's own freelist wasn't empty (`deactivate_slab`)
unfoldable pub put_says : ℕ → Local → List ℕ
put_says frame l = if l.slab_word.head == 0 then head_says frame else tail_says frame

-- (`remove_partial`)
unfoldable pub take_off_says : Local → Spot → List ℕ
take_off_says l (InDiscard s discard) = off_says (here l).frame
take_off_says l _ = codes "keeps slab " ++ decimal (here l).frame

-- a frame of a list
abbrev pub frame_item : ℕ → List ℕ
frame_item frame = 32 ∷ decimal frame

-- `orders F G ..`
unfoldable pub order_says : List ℕ → List ℕ
order_says frames =
    codes "orders" ++ (if length frames == 0 then codes " none" else flat_map frame_item frames)

-- the slab that the scan has come to
abbrev pub scanned_of : List ℕ → Local → ℕ
scanned_of frames l = slice_index_or frames (length l.scanned) 0

-- (`__kmem_cache_do_shrink`)
unfoldable pub scan_says : List ℕ → Local → Spot → List ℕ
scan_says frames l (InTrim LoadScanned) = codes "comes to slab " ++ decimal (scanned_of frames l)
scan_says frames l _ = order_says frames

-- ---- the pool

-- no run of the least order, whose want is counted
unfoldable pub dry_says : ℕ → List ℕ
dry_says order = codes "has no run of order " ++ decimal order

unfoldable pub found_says : FrameRun → List ℕ
found_says run = codes "takes frames " ++ run_text run.frame run.order

-- (`allocate_slab`); no run begins at frame 0
unfoldable pub take_says : Facts → Local → FrameRun → List ℕ
take_says m l run = if run.frame == 0 then dry_says (cache_of m l.cache).layout.min_order
    else found_says run

-- (`__free_pages`)
unfoldable pub back_says : FrameRun → List ℕ
back_says run = codes "puts frames " ++ run_text run.frame run.order ++ codes " back"

-- ---- a string in hand before it (`__unfreeze_partials`)

unfoldable pub front_says : Option PartialString → List ℕ
front_says None = codes "is at its end"
front_says (Some string) = if string.count == 1
    then codes "gives slab " ++ decimal string.front ++ codes ", its last"
    else codes "leads on behind slab " ++ decimal string.front

-- ---- spot by spot: how the worker was, the node list of its cache and the worker after the change

unfoldable pub alloc_change : Facts → List ℕ → Local → AllocSpot → List ℕ
alloc_change m frames l PopNode = pop_says frames l l.spot
alloc_change m frames l TakeRun = take_says m l (run_of l)
alloc_change m frames l s = []

unfoldable pub move_change : Before → MoveSetSpot → List ℕ
move_change before ChooseFront = front_says before.string
move_change before PutTail = tail_says before.frame
move_change before s = []

unfoldable pub trim_change : List ℕ → Local → TrimSpot → List ℕ
trim_change frames l ScanNode = scan_says frames l l.spot
trim_change frames l DropScanned = off_says (hand_of l).frame
trim_change frames l s = []

-- a run is taken by an allocation, and put back by a free
unfoldable pub run_change : Facts → Before → Local → CallKind → List ℕ
run_change m before l kind.Alloc = take_says m l (run_of l)
run_change m before l _ = back_says before.run

unfoldable pub checked_change : Facts → Before → Local → CheckedSpot → CallKind → Option Reply → List ℕ
checked_change m before l DoChecked kind reply = do_says l (call_of l) reply
checked_change m before l MoveRun kind reply = run_change m before l kind
checked_change m before l AddSlab kind reply = add_says before.run reply
checked_change m before l s kind reply = []

unfoldable pub change_says : Facts → List ℕ → Before → Local → Spot → Option Reply → List ℕ
change_says m frames before l (InAlloc s) reply = alloc_change m frames l s
change_says m frames before l (InPutAway PutNode away) reply = put_says before.frame l
change_says m frames before l (InDiscard PutRun discard) reply = back_says before.run
change_says m frames before l (InFree TakeOff) reply = take_off_says l l.spot
change_says m frames before l (InMoveSet s move) reply = move_change before s
change_says m frames before l (InTrim s) reply = trim_change frames l s
change_says m frames before l (InChecked s kind) reply = checked_change m before l s kind reply
change_says m frames before l s reply = []
