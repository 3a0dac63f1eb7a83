-- Runs of items: the machine, what each item does to it by a way, and which journals are lawful.
use Rattle.std.specs.Prelude.{◌≡◌, ◌≢◌, ℕ, ◌+◌, ◌^◌, ◌≤◌, ◌⊎◌, ◌==◌, if◌then◌else◌, List, [], ◌∷◌, length, take, Option, Some, None, MatchOption, ⊤, slice_get, slice_index}
use Rattle.std.specs.Option.{option_map}
use Rattle.slub_lists.specs.State.{State}
use Rattle.slub_lists.specs.Coherent.{IsCoherent}
use Rattle.slub_trace.specs.declared.trace.Client.{Client as Asked}
use Rattle.slub_trace.specs.declared.trace.Item.{Item}
use Rattle.slub_trace.specs.declared.trace.Item.TheVariants as item
use Rattle.slub_trace.specs.declared.trace.Trace.{Trace}
use Rattle.slub_slabinfo_text.specs.declared.client.ClientDone.{ClientDone}
use Rattle.slub_slabinfo_text.specs.declared.journal.Done.{Done}
use Rattle.slub_slabinfo_text.specs.declared.journal.Done.TheVariants as done
use Rattle.slub_slabinfo_text.specs.declared.journal.Journal.{Journal}
use Rattle.slub_slabinfo_text.specs.Lawful.{DoesPlain, IsReady, IsTotal, coming, opening_of}
use Rattle.slub_rounds.specs.Heap.{HeapState}
use Rattle.slub_rounds.specs.BulkLines.{ServesBulkLines, SpendsBulkLines}
use Rattle.slub_rounds.specs.Kmalloc.{ServesClasses, SpendsClasses}
use Rattle.slub_rounds.specs.Reserves.{AreReserves, AreSoundReserves, Reserve, ServesReserves, SpendsReserves}
use Rattle.slub_law_replay.specs.declared.way.Way.{Way}
use Rattle.slub_open_close.specs.Ids.{AreIds, first_ids}
use Rattle.slub_open_close.specs.Growth.{ids_after}
use Rattle.slub_law_replay.specs.Ways.{DoesRoundBy, SpendsTurnsBy}

-- ---- the machine

-- what contracts see of the machine between two items: its lists, beside them the transaction ids
-- of its CPU words, where the first one of the trace isn't 0, the reserves of its clients, and how
-- many `round` lines were done
pub record MachineState : Type 0 where
  pub lists : State
  pub ids : Option (List ℕ)
  pub reserves : List Reserve
  pub rounds : ℕ

-- what its clients allocate from
abbrev pub heap_of : MachineState → HeapState
heap_of m = record { lists = m.lists; ids = m.ids }

-- the reserves are as they were
abbrev pub KeepsReserves : MachineState → MachineState → Type 0
KeepsReserves m after = after.reserves ≡ m.reserves

-- no `round` line was done
abbrev pub KeepsRounds : MachineState → MachineState → Type 0
KeepsRounds m after = after.rounds ≡ m.rounds

-- the ids before the first item of a trace; that its CPUs begin at 0 is as if it gave none
abbrev pub opening_ids : Trace → Option (List ℕ)
opening_ids trace = if trace.tid == 0 then None else Some (first_ids trace.tid trace.cpus)

-- before the first item of a trace there is no reserve, and no round was done
abbrev pub machine_of : Trace → MachineState
machine_of trace =
    record { lists = opening_of trace; ids = opening_ids trace; reserves = []; rounds = 0 }

-- ids stand beside the lists of a trace whose first one isn't 0, and fit them
abbrev pub AreIdsFor : Trace → State → Option (List ℕ) → Type 0
AreIdsFor trace s None = trace.tid ≡ 0
AreIdsFor trace s (Some ids) = (trace.tid ≢ 0) × AreIds s ids

-- the machine stands before the item of this number
pub record IsReadyMachine (m : MachineState) (trace : Trace) (number : ℕ) : Type 0 where
  pub lists : IsReady m.lists trace number
  pub ids : AreIdsFor trace m.lists m.ids
  pub reserves : AreSoundReserves trace m.reserves
  pub rounds : m.rounds ≤ number
  -- each count of wanted frames stays below 2^62, even if every number that is still to be
  -- allocated wants frames
  pub dry : (order : ℕ) →
      slice_index m.lists.pool.dry order + length (coming trace number) ≤ 2 ^ 62

-- ---- clients' lines

-- a line is served as one of its request: of kmalloc's classes, of many objects at once, or of
-- reserves. Only the last of them change reserves, and then each number in one is on the board
abbrev pub Serves : MachineState → Trace → Asked → ClientDone → MachineState → Type 0
Serves m trace client done after =
    (ServesClasses (heap_of m) trace client done (heap_of after) × KeepsReserves m after)
    ⊎ (ServesBulkLines (heap_of m) client done (heap_of after) × KeepsReserves m after)
    ⊎ (ServesReserves (heap_of m) m.reserves client done (heap_of after) after.reserves
    × AreReserves after.lists trace after.reserves)

-- ---- items

-- an item is done, by an answer of its kind: a `round` line by the way, every other one as in
-- every way
unfoldable pub Does : Way → MachineState → Trace → Item → Done → MachineState → Type 0
Does way m trace (item.Round round) (done.Round result) after =
    DoesRoundBy way m.rounds m.lists m.ids round result after.lists after.ids
    × KeepsReserves m after × (after.rounds ≡ m.rounds + 1)
Does way m trace (item.Client client) (done.Client outcome) after =
    Serves m trace client outcome after × KeepsRounds m after
Does way m trace item done after =
    DoesPlain m.lists trace item done after.lists
    × (after.ids ≡ option_map (ids_after trace m.lists item done) m.ids)
    × KeepsReserves m after × KeepsRounds m after

-- the item of this number is done
abbrev pub DoesAt : Way → MachineState → Trace → ℕ → Done → MachineState → Type 0
DoesAt way m trace number done after =
    MatchOption (slice_get trace.items number) ⊥ (λ item. Does way m trace item done after)

-- the items are done one after the other, and the machine is coherent after each
abbrev pub RunsItems
    : Way → MachineState → Trace → List Item → List Done → MachineState → Type 0
RunsItems way m trace [] [] after = after ≡ m
RunsItems way m trace (item ∷ items) (done ∷ dones) after =
    (mid : MachineState) × Does way m trace item done mid × IsCoherent mid.lists
    × RunsItems way mid trace items dones after
RunsItems way m trace _ _ after = ⊥

-- no round of several workers
abbrev pub IsAlone : Item → Type 0
IsAlone (item.Round round) = round.workers ≤ 1
IsAlone _ = ⊤

-- ---- turns that are spent

-- a line spends the turns of a round of its own, as one of its request: of kmalloc's classes, of
-- many objects at once, or of reserves
abbrev pub SpendsLine : MachineState → Trace → Asked → Type 0
SpendsLine m trace client =
    SpendsClasses (heap_of m) trace client
    ⊎ SpendsBulkLines (heap_of m) client
    ⊎ SpendsReserves (heap_of m) m.reserves client

-- the item is a round whose turns are all made, and a worker of it is unfinished; or a client's
-- line that makes such a round
abbrev pub ItemSpendsTurns : Way → MachineState → Trace → Item → Type 0
ItemSpendsTurns way m trace (item.Round round) =
    SpendsTurnsBy way m.rounds m.lists m.ids round
ItemSpendsTurns way m trace (item.Client client) = SpendsLine m trace client
ItemSpendsTurns way m trace _ = ⊥

-- so is the item of this number
abbrev pub SpendsAt : Way → MachineState → Trace → ℕ → Type 0
SpendsAt way m trace number =
    MatchOption (slice_get trace.items number) ⊥ (λ item. ItemSpendsTurns way m trace item)

-- ---- the journal

-- the journal's items answer the trace's first items, one each in their order, from the opening
-- machine on; each machine on the way is coherent; a total is there where all is done, with the
-- sums of the last
pub record IsLawful (way : Way) (trace : Trace) (journal : Journal) : Type 0 where
  pub frames : journal.frames ≡ trace.frames
  pub cpus : journal.cpus ≡ trace.cpus
  pub tid : journal.tid ≡ trace.tid
  pub machine : MachineState
  pub coherent : IsCoherent (opening_of trace)
  pub within : length journal.items ≤ length trace.items
  pub run : RunsItems way (machine_of trace) trace (take (length journal.items) trace.items)
      journal.items machine
  pub total : MatchOption journal.total ⊤
      (λ total. IsTotal machine.lists journal.items total
      × (length journal.items ≡ length trace.items))

-- the item after the journal's last is one whose turns are spent, on a machine that the journal's
-- items leave
abbrev pub EndsSpent : Way → Trace → Journal → Type 0
EndsSpent way trace journal =
    (lawful : IsLawful way trace journal)
    × SpendsAt way lawful.machine trace (length journal.items)
