-- The transaction ids that a round leaves fit the lists that it leaves, whatever the way.
use Rattle.std.proofs.Common.{◌≡◌, ℕ, List, Option, Some, None, sym, ap, subst, inl, inr}
use Rattle.std.specs.Prelude.{IfSome}
use Rattle.slub_trace.specs.declared.event.Round.{Round}
use Rattle.slub_trace.specs.declared.trace.Trace.{Trace}
use Rattle.slub_lists.specs.State.{State}
use Rattle.slub_lists.specs.Coherent.{IsCoherent, all_on_board}
use Rattle.slub_core.specs.Setup.{Setup}
use Rattle.slub_core.specs.Run.{Pick, System, run}
use Rattle.slub_law_opening.specs.Closing.{Closes}
use Rattle.slub_law_opening.specs.Laws.{MayOpen}
use Rattle.slub_law_opening.specs.Opening.{setup_of}
use Rattle.slub_law_opening.proofs.Systems.{rounds-keep}
use Rattle.slub_calls.specs.Calls.{workers_of}
use Rattle.slub_calls.specs.Laws.{MayDo}
use Rattle.slub_calls.proofs.Fitting.{may_begin}
use Rattle.slub_slabinfo_text.specs.declared.journal.RoundResult.{RoundResult}
use Rattle.slub_slabinfo_text.specs.Lawful.{IsAtRest}
use Rattle.slub_open_close.specs.Ids.{AreIds, IsStepOf}
use Rattle.slub_rounds.specs.ByText.{DoesByText}
use Rattle.slub_rounds.specs.Rounds.{DoesRoundBySteps, system_begun}
use Rattle.slub_rounds.proofs.TextLawful.{keep-ids}
use Rattle.slub_law_replay.specs.declared.way.Way.{Way}
use Rattle.slub_law_replay.specs.declared.way.Way.TheVariants.{Serial, Schedule, Threads}
use Rattle.slub_law_replay.specs.Ways.{AreLeft, DoesRoundBy, ids_before}

-- by steps, whichever picks there were
steps-fit : (Ending : Setup → System → List Pick → System → Type 0) (s : State) (ids : List ℕ) (trace : Trace) (round : Round) (result : RoundResult) (after : State) (ids_after : List ℕ) → IsCoherent s → IsAtRest s → MayDo s trace round
    → (does : DoesRoundBySteps Ending s ids round result after ids_after) → does.last ≡ run (setup_of s does.beside) (system_begun s does.beside round) does.picks → AreIds after ids_after
steps-fit Ending s ids trace round result after ids_after coherent rest may does ran =
    let b = does.beside in
    let d = does.left in
    let opens : MayOpen s b = record { coherent = coherent; laid_down = rest.laid_down; beside = does.stands.fits } in
    let closes = subst (λ (last : System). Closes s b last does.lists d) ran does.closes in
    let fits = (rounds-keep s does.lists b d (workers_of s.table round) does.picks opens (may_begin s b trace round opens may) closes).1.beside in
    let step : d.step ≡ b.step = ap (λ (m : Setup). m.step) does.closes.stays in
    let cpus : does.lists.cpus ≡ s.cpus = ap (λ (m : Setup). m.cpus) does.closes.stays in
    let P : ℕ × ℕ → Type 0 = λ p. IsStepOf p.0 p.1 in
    let left : AreIds (all_on_board does.lists) d.tids = record {
      step = d.step;
      least = subst P (λ i. (sym cpus i, sym step i)) does.stands.step;
      count = fits.tids;
      below = fits.tid;
      room = fits.room;
      remainder = fits.remainder;
    } in
    subst (λ (x : State). AreIds x ids_after) (sym does.after_is) (subst (λ (xs : List ℕ). AreIds (all_on_board does.lists) xs) (sym does.ids_are) left)

left-fit : (after : State) (ids : Option (List ℕ)) (ids_after : List ℕ) (left : Option (List ℕ)) → AreIds after ids_after → AreLeft ids ids_after left → IfSome left (AreIds after)
left-fit after None ids_after left are is = subst (λ (x : Option (List ℕ)). IfSome x (AreIds after)) (sym is) tt
left-fit after (Some ids) ids_after left are is = subst (λ (x : Option (List ℕ)). IfSome x (AreIds after)) (sym is) are

-- in the order of the text
pub text-fit : (s : State) (ids : Option (List ℕ)) (trace : Trace) (round : Round) (result : RoundResult) (after : State) (left : Option (List ℕ)) → IsCoherent s → IsAtRest s → MayDo s trace round → IfSome ids (AreIds s)
    → DoesByText s ids round result after left → IfSome left (AreIds after)
text-fit s None trace round result after left coherent rest may are does = subst (λ (x : Option (List ℕ)). IfSome x (AreIds after)) (sym does.1) tt
text-fit s (Some ids) trace round result after left coherent rest may are does =
    subst (λ (x : Option (List ℕ)). IfSome x (AreIds after)) (sym does.2) (keep-ids s ids trace round result after does.0 coherent rest may are does.1)

-- by any way
pub round-fit : (way : Way) (rounds : ℕ) (s : State) (ids : Option (List ℕ)) (trace : Trace) (round : Round) (result : RoundResult) (after : State) (left : Option (List ℕ)) → IsCoherent s → IsAtRest s → MayDo s trace round → IfSome ids (AreIds s)
    → DoesRoundBy way rounds s ids round result after left → IfSome left (AreIds after)
round-fit Serial rounds s ids trace round result after left coherent rest may are does = text-fit s ids trace round result after left coherent rest may are does
round-fit (Schedule seed) rounds s ids trace round result after left coherent rest may are (inl (few, does)) = text-fit s ids trace round result after left coherent rest may are does
round-fit (Schedule seed) rounds s ids trace round result after left coherent rest may are (inr (several, does)) =
    left-fit after ids does.0 left (steps-fit _ s (ids_before s ids) trace round result after does.0 coherent rest may does.1 does.1.ends.run) does.2
round-fit Threads rounds s ids trace round result after left coherent rest may are (inl (few, does)) = text-fit s ids trace round result after left coherent rest may are does
round-fit Threads rounds s ids trace round result after left coherent rest may are (inr (several, does)) =
    left-fit after ids does.0 left (steps-fit _ s (ids_before s ids) trace round result after does.0 coherent rest may does.1 does.1.ends.run) does.2
