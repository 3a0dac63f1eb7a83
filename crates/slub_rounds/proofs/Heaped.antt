-- What a round in the order of the text leaves of a heap.
use Rattle.std.proofs.Common.{ℕ, List, Option, Some, None, IfSome, IfOk, sym, subst}
use Rattle.std.specs.Prelude.{Result, Ok, Err}
use Rattle.slub_trace.specs.declared.event.Round.{Round}
use Rattle.slub_trace.specs.declared.trace.Trace.{Trace}
use Rattle.slub_lists.specs.State.{State}
use Rattle.slub_calls.specs.Laws.{MayDo}
use Rattle.slub_slabinfo_text.specs.Lawful.{IsAtRest}
use Rattle.slub_slabinfo_text.specs.declared.journal.RoundResult.{RoundResult}
use Rattle.slub_open_close.specs.Ids.{AreIds}
use Rattle.slub_law_rounds.specs.Round.{IsRound}
use Rattle.slub_rounds.specs.ByText.{DoesByText}
use Rattle.slub_rounds.specs.Heap.{DoesRoundOf, HeapState, IsSoundHeap}
use Rattle.slub_rounds.specs.TextLaws.{RoundsByTextAreLawful, RoundsByTextKeepIds}

-- what holds where a round was done
pub map-ok : {A E : Type 0} (r : Result A E) (P Q : A → Type 0) → ((x : A) → P x → Q x) → IfOk r P → IfOk r Q
map-ok (Ok x) P Q f holds = f x holds
map-ok (Err e) P Q f holds = tt

module _ (h : HeapState) (trace : Trace) (round : Round) (law : RoundsByTextAreLawful) (keep : RoundsByTextKeepIds) (sound : IsSoundHeap h) (rest : IsAtRest h.lists) (may : MayDo h.lists trace round) where
  pub lawful-after : (result : RoundResult) (after : HeapState) → DoesRoundOf h round result after → IsRound h.lists round result after.lists
  lawful-after result after does = law h.lists h.ids trace round result after.lists after.ids sound.coherent rest may does

  ids-after : (result : RoundResult) (after : State) (before left : Option (List ℕ)) → IfSome before (AreIds h.lists) → DoesByText h.lists before round result after left → IfSome left (AreIds after)
  ids-after result after None left are does = subst (λ (x : Option (List ℕ)). IfSome x (AreIds after)) (sym does.1) tt
  ids-after result after (Some ids) left are does =
      subst (λ (x : Option (List ℕ)). IfSome x (AreIds after)) (sym does.2) (keep h.lists ids trace round result after does.0 sound.coherent rest may are does.1)

  pub sound-after : (result : RoundResult) (after : HeapState) → DoesRoundOf h round result after → IsSoundHeap after
  sound-after result after does = record { coherent = (lawful-after result after does).coherent; ids = ids-after result after.lists h.ids after.ids sound.ids does }

  pub rest-after : (result : RoundResult) (after : HeapState) → DoesRoundOf h round result after → IsAtRest after.lists
  rest-after result after does = (lawful-after result after does).rest
