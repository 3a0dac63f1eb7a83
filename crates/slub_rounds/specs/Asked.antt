-- The rounds that clients of the allocator make.
use Rattle.std.specs.Prelude.{◌≡◌, ◌≢◌, ℕ, ◌+◌, ◌^◌, ◌≤◌, false, List, [], length, All, Option, Some, None, slice_index}
use Rattle.slub_trace.specs.declared.event.Act.{Act}
use Rattle.slub_trace.specs.Kinds.{is_no_memory}
use Rattle.slub_lists.specs.Coherent.{IsCoherent}
use Rattle.slub_trace.specs.declared.trace.Client.{Client as Asked}
use Rattle.slub_trace.specs.declared.trace.Trace.{Trace}
use Rattle.slub_trace.specs.Sound.{IsSound, IsSoundClient, asked_objects}
use Rattle.slub_slabinfo_text.specs.declared.client.ClientAnswer.{ClientAnswer}
use Rattle.slub_slabinfo_text.specs.declared.client.ClientDone.{ClientDone}
use Rattle.slub_slabinfo_text.specs.declared.client.ClientRound.{ClientRound}
use Rattle.slub_slabinfo_text.specs.Asked.{round_of}
use Rattle.slub_slabinfo_text.specs.Lawful.{IsAtRest, IsUnheld}
use Rattle.slub_rounds.specs.Heap.{HeapState, IsSoundHeap, DoesRoundOf, SpendsRoundOf}

-- ---- rounds

-- the round of one worker that does these acts on one CPU is done, and none of its replies is that
-- no memory was there
pub record DoesAsked (h : HeapState) (cpu : ℕ) (acts : List Act) (round : ClientRound)
    (after : HeapState) : Type 0 where
  pub asked : round.asked ≡ round_of cpu acts
  pub does : DoesRoundOf h (round_of cpu acts) round.result after
  pub coherent : IsCoherent after.lists
  pub memory : All (λ reply. is_no_memory reply ≡ false) round.result.replies

-- an answer without a round, which leaves the machine as it was
abbrev pub AnswersAtOnce : HeapState → ClientAnswer → ClientDone → HeapState → Type 0
AnswersAtOnce h answer done after =
    (done.rounds ≡ []) × (done.answer ≡ answer) × (after ≡ h)

-- ---- what a line finds

-- ids stand beside the lists where the first one of the trace isn't 0
abbrev pub AreGiven : Trace → Option (List ℕ) → Type 0
AreGiven trace None = trace.tid ≡ 0
AreGiven trace (Some ids) = trace.tid ≢ 0

-- a heap of the trace, at rest between two rounds, of which so many objects more may be asked:
-- its frames, CPUs, numbers and names are the trace's, and no count of wanted frames comes to its
-- end
pub record IsOpenTo (h : HeapState) (trace : Trace) (more : ℕ) : Type 0 where
  pub sound : IsSoundHeap h
  pub rest : IsAtRest h.lists
  pub given : AreGiven trace h.ids
  pub frames : h.lists.frames ≡ trace.frames
  pub cpus : h.lists.cpus ≡ trace.cpus
  pub objects : length h.lists.board ≡ trace.objects + 1
  pub numbers : trace.objects ≤ 1048576
  pub names : h.lists.table.kept ≡ trace.names
  pub dry : (order : ℕ) → slice_index h.lists.pool.dry order + more ≤ 2 ^ 62

-- of a heap these objects were asked: what it was open to besides it is open to after
abbrev pub StaysOpen : HeapState → Trace → ℕ → HeapState → Type 0
StaysOpen h trace asked after =
    (more : ℕ) → IsOpenTo h trace (asked + more) → IsOpenTo after trace more

-- a client's line can be served: what it may allocate may be asked of the heap, and no object has
-- a number of these
pub record IsServable (h : HeapState) (trace : Trace) (client : Asked) : Type 0 where
  pub heap : IsOpenTo h trace (length (asked_objects client))
  pub whole : IsSound trace
  pub sound : IsSoundClient trace client
  pub unheld : All (IsUnheld h.lists) (asked_objects client)

-- ---- turns that are spent

-- the round of one worker that does these acts on one CPU has made all its turns, and the worker is
-- unfinished
abbrev pub SpendsAsked : HeapState → ℕ → List Act → Type 0
SpendsAsked h cpu acts = SpendsRoundOf h (round_of cpu acts)
