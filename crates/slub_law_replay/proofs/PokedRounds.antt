-- A round that is done by any way tells only of damages that were poked, and leaves a machine of which the same is so.
use Rattle.std.proofs.Common.{ℕ, List, Option, Some, None, inl, inr}
use Rattle.slub_trace.specs.declared.event.Round.{Round}
use Rattle.slub_trace.specs.declared.trace.Trace.{Trace}
use Rattle.slub_lists.specs.State.{State}
use Rattle.slub_lists.specs.Coherent.{IsCoherent}
use Rattle.slub_calls.specs.Laws.{MayDo}
use Rattle.slub_slabinfo_text.specs.Lawful.{IsAtRest}
use Rattle.slub_slabinfo_text.specs.declared.journal.RoundResult.{RoundResult}
use Rattle.slub_law_rounds.specs.Answered.{Answered}
use Rattle.slub_law_rounds.proofs.Poked.{IsTold}
use Rattle.slub_law_rounds.proofs.Telling.{TellsPoked, round-told}
use Rattle.slub_law_replay.proofs.PokeRounds.{order-told, seed-told, threads-told}
use Rattle.slub_rounds.specs.ByText.{DoesByText}
use Rattle.slub_rounds.proofs.TextLawful.{fits}
use Rattle.slub_law_replay.specs.declared.way.Way.{Way}
use Rattle.slub_law_replay.specs.declared.way.Way.TheVariants.{Serial, Schedule, Threads}
use Rattle.slub_law_replay.specs.Ways.{DoesRoundBy, ids_before, seed_after}

module _ (told : List Answered) (s : State) (trace : Trace) (round : Round) (result : RoundResult) (after : State) (coherent : IsCoherent s) (rest : IsAtRest s) (may : MayDo s trace round) (is_told : IsTold told s) where
  -- one in the order of the text, on the lists or by steps
  pub text-told : (ids left : Option (List ℕ)) → DoesByText s ids round result after left → TellsPoked told round result after
  text-told None left does = round-told told s round result after coherent rest (fits s trace round may) does.0 is_told
  text-told (Some ids) left (ids_after, inl (last, does), is) = round-told told s round result after coherent rest (fits s trace round may) does.does is_told
  text-told (Some ids) left (ids_after, inr (spent, does), is) = order-told told s ids trace round result after ids_after coherent rest.laid_down may is_told does

  -- one by any way
  pub way-told : (way : Way) (rounds : ℕ) (ids left : Option (List ℕ)) → DoesRoundBy way rounds s ids round result after left → TellsPoked told round result after
  way-told Serial rounds ids left does = text-told ids left does
  way-told (Schedule seed) rounds ids left (inl (few, does)) = text-told ids left does
  way-told (Schedule seed) rounds ids left (inr (several, does)) = seed-told told s (ids_before s ids) (seed_after seed rounds) trace round result after does.0 coherent rest.laid_down may is_told does.1
  way-told Threads rounds ids left (inl (few, does)) = text-told ids left does
  way-told Threads rounds ids left (inr (several, does)) = threads-told told s (ids_before s ids) trace round result after does.0 coherent rest.laid_down may is_told does.1
