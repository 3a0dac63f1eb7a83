-- A heap whose ids last does its rounds on its lists.
use Rattle.std.proofs.Common.{◌≡◌, ℕ, ◌+◌, ◌*◌, ◌^◌, ◌<◌, ◌≤◌, List, length, get_or, All, Option, Some, None, IfSome, inl, inr, sym, ap, ◌∙◌, subst, arith, add-mul, mul-le-mul_right}
use Rattle.std.proofs.lemmas.List.{get_or_default}
use Rattle.slub_trace.specs.declared.event.Round.{Round}
use Rattle.slub_lists.specs.Coherent.{IsCoherent}
use Rattle.slub_trace.specs.Ranges.{step_of}
use Rattle.slub_slabinfo_text.specs.declared.journal.RoundResult.{RoundResult}
use Rattle.slub_slabinfo_text.specs.Lawful.{DoesRound}
use Rattle.slub_open_close.proofs.Steps.{step-is}
use Rattle.slub_rounds.specs.ByText.{DoesByText, DoesRoundOnLists}
use Rattle.slub_rounds.specs.Heap.{DoesRoundOf, HeapState}
use Rattle.slub_rounds.proofs.Growing.{not-grown, runs-grow, runs-long}
use Rattle.slub_bulk.specs.Taking.{IdsLastFor}

module _ (h : HeapState) (round : Round) (result : RoundResult) (after : HeapState) (all more : ℕ) (coherent : IsCoherent h.lists) (cpus : after.lists.cpus ≡ h.lists.cpus) (few : length round.events + more ≤ all) where
  abbrev step : ℕ
  step = step_of h.lists.cpus

  -- each id has grown by two steps for each event at most
  left-last : (ids ids_after : List ℕ) → All (λ id. id + (2 * all + 1) * step < 2 ^ 32) ids → DoesRoundOnLists h.lists ids round result after.lists ids_after → All (λ id. id + (2 * more + 1) * step_of after.lists.cpus < 2 ^ 32) ids_after
  left-last ids ids_after last does k d inside =
      let b = does.beside in
      let grown = (runs-grow 0 (2 * length round.events) h.lists b b round.events result.replies does.does.last does.left (omega arith) (not-grown b) does.runs).tids k in
      let long : length ids_after ≡ length ids =
      ap (λ (xs : List ℕ). length xs) does.ids_are ∙ runs-long h.lists b round.events result.replies does.does.last does.left does.runs ∙ ap (λ (xs : List ℕ). length xs) does.stands.tids in
      let step_is : b.step ≡ step = step-is h.lists.cpus b.step does.stands.step coherent.shaped.cpus.0 coherent.shaped.cpus.1 in
      let now : get_or ids_after k d ≡ get_or does.left.tids k 0 = ap (λ (xs : List ℕ). get_or xs k d) does.ids_are ∙ get_or_default does.left.tids k d 0 (omega (arith, inside, ap (λ (xs : List ℕ). length xs) does.ids_are)) in
      let was : get_or b.tids k 0 ≡ get_or ids k 0 = ap (λ (xs : List ℕ). get_or xs k 0) does.stands.tids in
      let steps : grown.0 * b.step ≡ grown.0 * step = ap (λ n. grown.0 * n) step_is in
      let room : get_or ids k 0 + (2 * all + 1) * step < 2 ^ 32 = last k 0 (omega (arith, inside, long)) in
      let most : (grown.0 + (2 * more + 1)) * step ≤ (2 * all + 1) * step = mul-le-mul_right step (omega (arith, grown.1, few)) in
      let same : (2 * more + 1) * step_of after.lists.cpus ≡ (2 * more + 1) * step = ap (λ n. (2 * more + 1) * step_of n) cpus in
      omega (arith, now, grown.2, was, steps, room, most, add-mul grown.0 (2 * more + 1) step, same)

  -- such a round is done on the lists, and the ids that it leaves last for the rest of the events
  pub lasts-on : IdsLastFor h all → DoesRoundOf h round result after → DoesRound h.lists round result after.lists × IdsLastFor after more
  lasts-on last does = by h.ids after.ids last does
    where
      by : (ids left : Option (List ℕ)) → IfSome ids (All (λ id. id + (2 * all + 1) * step < 2 ^ 32)) → DoesByText h.lists ids round result after.lists left
          → DoesRound h.lists round result after.lists × IfSome left (All (λ id. id + (2 * more + 1) * step_of after.lists.cpus < 2 ^ 32))
      by None left last does = (does.0, subst (λ (x : Option (List ℕ)). IfSome x (All (λ id. id + (2 * more + 1) * step_of after.lists.cpus < 2 ^ 32))) (sym does.1) tt)
      by (Some ids) left last does = elim does.1 [
        | inl on ↦ (on.1.does, subst (λ (x : Option (List ℕ)). IfSome x (All (λ id. id + (2 * more + 1) * step_of after.lists.cpus < 2 ^ 32))) (sym does.2) (left-last ids does.0 last on.1))
        | inr by_steps ↦ absurd (by_steps.0 (λ k d inside.
            let room = last k d inside in
            let most : (2 * length round.events + 1) * step ≤ (2 * all + 1) * step = mul-le-mul_right step (omega (arith, few)) in
            omega (arith, room, most)))
      ]
