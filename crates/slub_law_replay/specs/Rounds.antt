-- The rounds of a journal, from heap to heap.
use Rattle.std.specs.Prelude.{◌≡◌, ℕ, List, [], ◌∷◌, length, take, ⊤}
use Rattle.slub_lists.specs.Coherent.{IsCoherent}
use Rattle.slub_trace.specs.declared.trace.Item.{Item}
use Rattle.slub_trace.specs.declared.trace.Item.TheVariants as item
use Rattle.slub_trace.specs.declared.trace.Trace.{Trace}
use Rattle.slub_slabinfo_text.specs.declared.client.ClientRound.{ClientRound}
use Rattle.slub_slabinfo_text.specs.declared.journal.Done.{Done}
use Rattle.slub_slabinfo_text.specs.declared.journal.Journal.{Journal}
use Rattle.slub_law_rounds.specs.Round.{IsRound}
use Rattle.slub_rounds.specs.Heap.{HeapState}
use Rattle.slub_law_replay.specs.declared.way.Way.{Way}
use Rattle.slub_law_replay.specs.declared.way.Way.TheVariants.{Serial}
use Rattle.slub_law_replay.specs.Ways.{DoesRoundBy}
use Rattle.slub_law_replay.specs.OfSteps.{IsOfSteps}
use Rattle.slub_law_replay.specs.Runs.{IsLawful, MachineState, RunsItems, heap_of, machine_of}
use Rattle.slub_law_replay.specs.Freed.{rounds_of}

-- ---- a round

-- a round leads from a heap to a heap: it is done by the way, after so many `round` lines, and the
-- lists are coherent then; it is lawful by its events and replies alone; and it is a run of atomic
-- steps
pub record Leads (way : Way) (number : ℕ) (h : HeapState) (round : ClientRound) (after : HeapState)
    : Type 0 where
  pub does : DoesRoundBy way number h.lists h.ids round.asked round.result after.lists after.ids
  pub coherent : IsCoherent after.lists
  pub lawful : IsRound h.lists round.asked round.result after.lists
  pub steps : IsOfSteps way h.lists h.ids round.asked round.result after.lists after.ids

-- rounds do, one after the other
abbrev pub LeadOn : Way → ℕ → HeapState → List ClientRound → HeapState → Type 0
LeadOn way number h [] after = after ≡ h
LeadOn way number h (round ∷ rounds) after =
    (mid : HeapState) × Leads way number h round mid × LeadOn way number mid rounds after

-- ---- an item

-- the rounds of a client's line are in the order of the text in every way
abbrev pub way_for : Way → Item → Way
way_for way (item.Client client) = Serial
way_for way _ = way

-- these rounds of an item lead from the heap before it to the heap after it; nothing is said of an
-- item without a round
abbrev pub LeadThrough : Way → ℕ → HeapState → List ClientRound → HeapState → Type 0
LeadThrough way number h [] after = ⊤
LeadThrough way number h (round ∷ rounds) after = LeadOn way number h (round ∷ rounds) after

-- ---- a run

-- so do the rounds of each item of a run of items, from each machine of the run to the next
abbrev pub LeadAlong : (way : Way) (m : MachineState) (trace : Trace) (items : List Item)
    (dones : List Done) (after : MachineState) → RunsItems way m trace items dones after → Type 0
LeadAlong way m trace [] [] after run = ⊤
LeadAlong way m trace [] (done ∷ dones) after run = ⊥
LeadAlong way m trace (item ∷ items) [] after run = ⊥
LeadAlong way m trace (item ∷ items) (done ∷ dones) after run =
    LeadThrough (way_for way item) m.rounds (heap_of m) (rounds_of item done) (heap_of run.0)
    × LeadAlong way run.0 trace items dones after run.3

-- by whichever machines the journal is lawful, its rounds lead along them: each of them is lawful,
-- and, want of memory aside, a run of atomic steps
abbrev pub HasRounds : Way → Trace → Journal → Type 0
HasRounds way trace journal =
    (lawful : IsLawful way trace journal) → LeadAlong way (machine_of trace) trace
    (take (length journal.items) trace.items) journal.items lawful.machine lawful.run
