-- What clients of the allocator allocate from.
use Rattle.std.specs.Prelude.{ℕ, List, Option, IfSome}
use Rattle.slub_trace.specs.declared.event.Round.{Round}
use Rattle.slub_lists.specs.State.{State}
use Rattle.slub_lists.specs.Coherent.{IsCoherent}
use Rattle.slub_open_close.specs.Ids.{AreIds}
use Rattle.slub_slabinfo_text.specs.declared.journal.RoundResult.{RoundResult}
use Rattle.slub_rounds.specs.ByText.{DoesByText, SpendsByText}

-- the machine's lists between two rounds, and beside them the transaction ids of its CPU words,
-- where the first one of the trace isn't 0
pub record HeapState : Type 0 where
  pub lists : State
  pub ids : Option (List ℕ)

abbrev pub heap_of : State → Option (List ℕ) → HeapState
heap_of lists ids = record { lists = lists; ids = ids }

-- its lists are coherent, and the ids fit them
pub record IsSoundHeap (h : HeapState) : Type 0 where
  pub coherent : IsCoherent h.lists
  pub ids : IfSome h.ids (AreIds h.lists)

-- a round is done in the order of the text
abbrev pub DoesRoundOf : HeapState → Round → RoundResult → HeapState → Type 0
DoesRoundOf h round result after = DoesByText h.lists h.ids round result after.lists after.ids

-- or its turns are spent
abbrev pub SpendsRoundOf : HeapState → Round → Type 0
SpendsRoundOf h round = SpendsByText h.lists h.ids round
