-- What clients' lines leave of the board along a journal, and rounds that end with a trim.
use Rattle.std.specs.Prelude.{◌≡◌, ℕ, ◌*◌, ◌<◌, ◌⊎◌, false, List, [], ◌∷◌, ◌++◌, length, take, None, Some, IfSome, IsSome, ⊤}
use Rattle.std.specs.List.{range_with_len}
use Rattle.slub_trace.specs.declared.event.Act.TheVariants.{Trim}
use Rattle.slub_trace.specs.declared.event.Event.{Event}
use Rattle.slub_trace.specs.declared.event.Round.{Round}
use Rattle.slub_lists.specs.State.{State}
use Rattle.slub_lists.specs.Alloc.{checked_of, named}
use Rattle.slub_lists.specs.Coherent.{held_under}
use Rattle.slub_lists.specs.Shrink.{busy_of, has_slab}
use Rattle.slub_trace.specs.declared.trace.Client.{Client as Asked}
use Rattle.slub_trace.specs.declared.trace.Client.TheVariants as line
use Rattle.slub_trace.specs.declared.trace.Item.{Item}
use Rattle.slub_trace.specs.declared.trace.Item.TheVariants as item
use Rattle.slub_trace.specs.declared.trace.Trace.{Trace}
use Rattle.slub_slabinfo_text.specs.declared.client.ClientAnswer.{ClientAnswer}
use Rattle.slub_slabinfo_text.specs.declared.client.ClientAnswer.TheVariants as answer
use Rattle.slub_slabinfo_text.specs.declared.client.ClientDone.{ClientDone}
use Rattle.slub_slabinfo_text.specs.declared.journal.Done.{Done}
use Rattle.slub_slabinfo_text.specs.declared.journal.Done.TheVariants as done
use Rattle.slub_slabinfo_text.specs.declared.journal.Journal.{Journal}
use Rattle.slub_law_rounds.specs.Round.{NamesChecked}
use Rattle.slub_rounds.specs.BulkLines.{AddsNumbers, DropsNumbers, IsEven, LeavesBulkFree, address_under}
use Rattle.slub_rounds.specs.ByText.{IdsLast}
use Rattle.slub_rounds.specs.Heap.{HeapState}
use Rattle.slub_rounds.specs.Reserves.{Reserve, kept_in, times_in}
use Rattle.slub_bulk.specs.Taking.{IdsLastFor}
use Rattle.slub_law_replay.specs.declared.way.Way.{Way}
use Rattle.slub_law_replay.specs.OfSteps.{IsInText}
use Rattle.slub_law_replay.specs.Runs.{IsLawful, MachineState, RunsItems, heap_of, machine_of}
use Rattle.slub_items.specs.Leaves.{LeavesClasses}

-- every number names what it named
abbrev pub SameBoard : State → State → Type 0
SameBoard s after = (object : ℕ) → held_under after object ≡ held_under s object

-- ---- all or nothing (`bulk`, `mempool`)

-- what a refused line was given is freed again: the cache isn't checked, or no transaction id
-- beside the lists can be spent by so many events
abbrev pub CanTakeBack : HeapState → ℕ → List ℕ → Type 0
CanTakeBack h place numbers =
    (¬ NamesChecked h.lists place) ⊎ IdsLastFor h (2 * length numbers)

-- so after none the board is as it was, and the rounds gave as many as they freed
abbrev pub TakesBack : HeapState → ℕ → List ℕ → ClientDone → HeapState → Type 0
TakesBack h place numbers done after =
    CanTakeBack h place numbers → SameBoard h.lists after.lists × IsEven done.rounds

-- after all the numbers are there besides
abbrev pub LeavesBulkLine
    : HeapState → ℕ → List ℕ → ClientDone → HeapState → ClientAnswer → Type 0
LeavesBulkLine h place numbers done after answer.All = AddsNumbers h.lists numbers after.lists
LeavesBulkLine h place numbers done after (answer.Nothing why) =
    TakesBack h place numbers done after
LeavesBulkLine h place numbers done after _ = ⊥

-- ---- reserves

-- a number that stood in a reserve is lent: it is on the board, at this address
pub record LendsNumber (s : State) (reserves : List Reserve) (number address : ℕ)
    (after : State) : Type 0 where
  pub reserved : 0 < times_in number (kept_in s reserves)
  pub there : IsSome (held_under after number)
  pub at : address_under after number ≡ address
  pub board : SameBoard s after

-- after a `mempool` that was made its numbers are there besides
abbrev pub LeavesMempool
    : HeapState → ℕ → List ℕ → ClientDone → HeapState → ClientAnswer → Type 0
LeavesMempool h place numbers done after answer.Made = AddsNumbers h.lists numbers after.lists
LeavesMempool h place numbers done after (answer.Nothing why) =
    TakesBack h place numbers done after
LeavesMempool h place numbers done after _ = SameBoard h.lists after.lists

-- after an address an `mget`'s number is there besides; what is lent was there
abbrev pub LeavesMget : State → List Reserve → ℕ → State → ClientAnswer → Type 0
LeavesMget s reserves object after (answer.Given address) =
    AddsNumbers s (object ∷ []) after × (address_under after object ≡ address)
LeavesMget s reserves object after (answer.Lent number address) =
    LendsNumber s reserves number address after
LeavesMget s reserves object after _ = SameBoard s after

-- after an address an `mput`'s number is gone, and no other one
abbrev pub LeavesMput : State → ℕ → State → ClientAnswer → Type 0
LeavesMput s object after (answer.Freed address) = DropsNumbers s (object ∷ []) after
LeavesMput s object after _ = SameBoard s after

-- ---- a line

abbrev pub LeavesLine : MachineState → Asked → ClientDone → MachineState → Type 0
LeavesLine m (line.Bulk cpu place first count) done after =
    LeavesBulkLine (heap_of m) place (range_with_len first count) done (heap_of after) done.answer
LeavesLine m (line.Bulkfree cpu first count) done after =
    LeavesBulkFree (heap_of m) (range_with_len first count) done (heap_of after) done.answer
LeavesLine m (line.Mempool pool place min first) done after =
    LeavesMempool (heap_of m) place (range_with_len first min) done (heap_of after) done.answer
LeavesLine m (line.Mget cpu pool object) done after =
    LeavesMget m.lists m.reserves object after.lists done.answer
LeavesLine m (line.Mput cpu pool object) done after =
    LeavesMput m.lists object after.lists done.answer
LeavesLine m client done after = LeavesClasses m.lists client after.lists done.answer

-- ---- a round that ends with a trim

-- the last event trims a cache that isn't checked, and then no object of it is held or on the board
pub record TrimsLast (round : Round) (cache : ℕ) (after : State) : Type 0 where
  pub first : List Event
  pub last : Event
  pub place : ℕ
  pub events : round.events ≡ first ++ last ∷ []
  pub trims : last.act ≡ Trim place
  pub of_cache : named after place ≡ Some cache
  pub unchecked : checked_of after cache ≡ None
  pub idle : busy_of after cache ≡ 0

-- then the cache has no slab: after a round in the order of the text that spends no transaction id
abbrev pub LeavesTrimmed : Way → MachineState → Round → MachineState → Type 0
LeavesTrimmed way m round after =
    IsInText way round → IfSome m.ids (λ ids. IdsLast m.lists ids round)
    → (cache : ℕ) → TrimsLast round cache after.lists → has_slab after.lists cache ≡ false

-- ---- a journal

abbrev pub LeavesItem : Way → MachineState → Item → Done → MachineState → Type 0
LeavesItem way m (item.Round round) (done.Round result) after = LeavesTrimmed way m round after
LeavesItem way m (item.Client client) (done.Client outcome) after =
    LeavesLine m client outcome after
LeavesItem way m _ _ after = ⊤

-- from each machine of a run of items to the next
abbrev pub LeavesAlong : (way : Way) (m : MachineState) (trace : Trace) (items : List Item)
    (dones : List Done) (after : MachineState) → RunsItems way m trace items dones after → Type 0
LeavesAlong way m trace [] [] after run = ⊤
LeavesAlong way m trace [] (done ∷ dones) after run = ⊥
LeavesAlong way m trace (item ∷ items) [] after run = ⊥
LeavesAlong way m trace (item ∷ items) (done ∷ dones) after run =
    LeavesItem way m item done run.0 × LeavesAlong way run.0 trace items dones after run.3

-- by whichever machines the journal is lawful, each client's line leaves the board as its answer
-- says along them, and no trim that comes last leaves an empty slab
abbrev pub HasLines : Way → Trace → Journal → Type 0
HasLines way trace journal =
    (lawful : IsLawful way trace journal) → LeavesAlong way (machine_of trace) trace
    (take (length journal.items) trace.items) journal.items lawful.machine lawful.run
