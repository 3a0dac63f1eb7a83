-- A round has one outcome, by every way but threads.
use Rattle.std.proofs.Common.{◌≡◌, ℕ, ◌≤◌, ◌⊎◌, List, [], ◌∷◌, Option, Some, None, All, refl, sym, ap, ◌∙◌, subst, arith, inl, inr}
use Rattle.std.specs.List.{zip}
use Rattle.slub_trace.specs.declared.event.Event.{Event}
use Rattle.slub_trace.specs.declared.event.Round.{Round}
use Rattle.slub_trace.specs.declared.reply.Reply.{Reply}
use Rattle.slub_lists.specs.State.{State}
use Rattle.slub_core.specs.Run.{System, Pick, run}
use Rattle.slub_core.specs.Setup.{Setup}
use Rattle.slub_schedule.specs.Rounds.{EndsRound, IsFinishedSystem}
use Rattle.slub_law_opening.specs.Opening.{Beside, setup_of}
use Rattle.slub_slabinfo_text.specs.declared.journal.RoundResult.{RoundResult}
use Rattle.slub_slabinfo_text.specs.Lawful.{AreLedgers, DoesRound}
use Rattle.slub_law_alone.specs.Rounds.{HasMemory}
use Rattle.slub_law_alone.proofs.Events.{answers_one, same_wants}
use Rattle.slub_law_alone.proofs.Rounds.{ledgers_same, rounds_one}
use Rattle.slub_calls.specs.Events.{RunsWithIds}
use Rattle.slub_rounds.specs.InOrder.{EndsInOrder}
use Rattle.slub_rounds.specs.Laws.{AreOneRound}
use Rattle.slub_rounds.specs.Rounds.{DoesRoundBySteps, system_begun}
use Rattle.slub_rounds.proofs.One.{beside-one, one-round, same-beside}
use Rattle.slub_law_replay.proofs.Refused.{AllHad, all-had, none-refused}
use Rattle.slub_law_replay.proofs.SameEnd.{same_end}
use Rattle.slub_rounds.specs.ByText.{DoesRoundBeside, DoesRoundOnLists}
use Rattle.slub_law_replay.specs.declared.way.Way.TheVariants.{Serial, Schedule, Threads}
use Rattle.slub_law_replay.specs.Ways.{AreLeft, DoesAlone, DoesBySeed, DoesByThreads, IsOfSeveral, ids_before, seed_after}
use Rattle.slub_law_replay.specs.OneTextRounds.{AreOne, RoundsBySeedHaveOneOutcome, RoundsByTextHaveOneOutcome, RoundsInOrderHaveOneOutcome, RoundsOfAWayHaveOneOutcome}
use Rattle.slub_law_replay.proofs.Drawn.{drawn-end}
use Rattle.slub_calls.specs.Changes.{beside_after}

-- ---- results

-- two rounds by steps that are one have the same ledgers
are-one : (Ending : Setup → System → List Pick → System → Type 0) (s : State) (ids : List ℕ) (round : Round) (one other : RoundResult) (t u : State) (those these : List ℕ)
    → DoesRoundBySteps Ending s ids round one t those → DoesRoundBySteps Ending s ids round other u these → AreOneRound one other t u those these → AreOne (List ℕ) one other t u those these
are-one Ending s ids round one other t u those these does again same =
    let counted : AreLedgers s (zip round.events other.replies) round.workers one.ledgers =
    subst (λ (replies : List Reply). AreLedgers s (zip round.events replies) round.workers one.ledgers) same.replies does.ledgers in
    let ledgers : one.ledgers ≡ other.ledgers = ledgers_same s (zip round.events other.replies) round.workers one.ledgers other.ledgers counted again.ledgers in
    record {
      result = λ i. record { replies = same.replies i; damages = same.damages i; ledgers = ledgers i };
      machine = same.left;
      ids = same.ids;
    }

-- ---- by a seed

abbrev EndsBy : ℕ → Setup → System → List Pick → System → Type 0
EndsBy seed m first picks last = EndsRound m seed first picks last

pub seeds-one : RoundsBySeedHaveOneOutcome
seeds-one s ids seed round one other left right kept later memory also does again =
    let beside = beside-one (EndsBy seed) s ids round one other left right kept later does again in
    let ends : EndsRound (setup_of s again.beside) seed (system_begun s again.beside round) does.picks does.last =
    subst (λ (b : Beside). EndsRound (setup_of s b) seed (system_begun s b round) does.picks does.last) beside does.ends in
    let last = drawn-end (setup_of s again.beside) seed (system_begun s again.beside round) does.picks again.picks does.last again.last ends again.ends
    (all-had round.events one.replies does.last does.replies memory) (all-had round.events other.replies again.last again.replies also) in
    are-one (EndsBy seed) s ids round one other left right kept later does again (one-round (EndsBy seed) s ids round one other left right kept later does again last)

-- ---- by steps in the order of the text

abbrev EndsFor : List Event → Setup → System → List Pick → System → Type 0
EndsFor es m first picks last = EndsInOrder m es first picks last

pub orders-one : RoundsInOrderHaveOneOutcome
orders-one s ids round one other left right kept later memory also does again =
    let beside = beside-one (EndsFor round.events) s ids round one other left right kept later does again in
    let m = setup_of s again.beside in
    let first = system_begun s again.beside round in
    let ends : EndsInOrder m round.events first does.picks does.last =
    subst (λ (b : Beside). EndsInOrder (setup_of s b) round.events (system_begun s b round) does.picks does.last) beside does.ends in
    let ended = again.ends in
    let a = none-refused m round.events first does.picks ends.in_order (subst AllHad ends.run (all-had round.events one.replies does.last does.replies memory)) in
    let b = none-refused m round.events first again.picks ended.in_order (subst AllHad ended.run (all-had round.events other.replies again.last again.replies also)) in
    let x : does.last ≡ run m first a.picks = ends.run ∙ a.run_is in
    let y : again.last ≡ run m first b.picks = ended.run ∙ b.run_is in
    let last : does.last ≡ again.last = x ∙ same_end m round.events first a.picks b.picks a.in_order b.in_order a.kept b.kept (subst IsFinishedSystem x ends.finished) (subst IsFinishedSystem y ended.finished) ∙ sym y in
    are-one (EndsFor round.events) s ids round one other left right kept later does again (one-round (EndsFor round.events) s ids round one other left right kept later does again last)

-- ---- on the lists

pub lists-one : (s : State) (round : Round) (one other : RoundResult) (left right : State) → All HasMemory one.replies → All HasMemory other.replies → DoesRound s round one left → DoesRound s round other right → (one ≡ other) × (left ≡ right)
lists-one s round one other left right memory also does again =
    rounds_one s round one other left right (same_wants s round.events one.replies other.replies does.last again.last memory also does.runs again.runs) does again

-- the ids grow with the replies
ids-grow : (s : State) (b : Beside) (es : List Event) (replies : List Reply) (last end : State) (d e : Beside) → RunsWithIds s b es replies last d → RunsWithIds s b es replies end e → d ≡ e
ids-grow s b [] [] last end d e runs again = runs.1 ∙ sym again.1
ids-grow s b [] (reply ∷ replies) last end d e runs again = absurd runs
ids-grow s b (event ∷ es) [] last end d e runs again = absurd runs
ids-grow s b (event ∷ es) (reply ∷ replies) last end d e runs again =
    let first = answers_one s event event.act reply reply runs.0 again.0 refl runs.1 again.1 in
    let after = beside_after s b event.worker event.cpu event.act reply in
    ids-grow again.0 after es replies last end d e (subst (λ (mid : State). RunsWithIds mid after es replies last d) first.1 runs.3) again.3

beside-lists : (s : State) (ids : List ℕ) (round : Round) (one other : RoundResult) (left right : State) (kept later : List ℕ) → All HasMemory one.replies → All HasMemory other.replies
    → DoesRoundOnLists s ids round one left kept → DoesRoundOnLists s ids round other right later → AreOne (List ℕ) one other left right kept later
beside-lists s ids round one other left right kept later memory also does again =
    let same = lists-one s round one other left right memory also does.does again.does in
    let beside = same-beside s ids does.beside again.beside does.stands again.stands does.means again.means in
    let moved : RunsWithIds s again.beside round.events other.replies does.does.last does.left =
    subst (λ (b : Beside). RunsWithIds s b round.events other.replies does.does.last does.left) beside
    (subst (λ (r : RoundResult). RunsWithIds s does.beside round.events r.replies does.does.last does.left) same.0 does.runs) in
    let grown = ids-grow s again.beside round.events other.replies does.does.last again.does.last does.left again.left moved again.runs in
    record { result = same.0; machine = same.1; ids = does.ids_are ∙ ap (λ (b : Beside). b.tids) grown ∙ sym again.ids_are }

beside-one-end : (s : State) (ids : List ℕ) (round : Round) (one other : RoundResult) (left right : State) (kept later : List ℕ) → All HasMemory one.replies → All HasMemory other.replies
    → DoesRoundBeside s ids round one left kept → DoesRoundBeside s ids round other right later → AreOne (List ℕ) one other left right kept later
beside-one-end s ids round one other left right kept later memory also (inl does) (inl again) = beside-lists s ids round one other left right kept later memory also does.1 again.1
beside-one-end s ids round one other left right kept later memory also (inl does) (inr again) = absurd (again.0 does.0)
beside-one-end s ids round one other left right kept later memory also (inr does) (inl again) = absurd (does.0 again.0)
beside-one-end s ids round one other left right kept later memory also (inr does) (inr again) = orders-one s ids round one other left right kept later memory also does.1 again.1

-- ---- in the order of the text

pub texts-one : RoundsByTextHaveOneOutcome
texts-one s None round one other left right kept later memory also does again =
    let same = lists-one s round one other left right memory also does.0 again.0 in
    record { result = same.0; machine = same.1; ids = does.1 ∙ sym again.1 }
texts-one s (Some ids) round one other left right kept later memory also does again =
    let same = beside-one-end s ids round one other left right does.0 again.0 memory also does.1 again.1 in
    record { result = same.result; machine = same.machine; ids = does.2 ∙ ap (λ (ids : List ℕ). Some ids) same.ids ∙ sym again.2 }

-- ---- by a way

left-one : (ids : Option (List ℕ)) (those these : List ℕ) (kept later : Option (List ℕ)) → those ≡ these → AreLeft ids those kept → AreLeft ids these later → kept ≡ later
left-one None those these kept later same one other = one ∙ sym other
left-one (Some ids) those these kept later same one other = one ∙ ap (λ (ids : List ℕ). Some ids) same ∙ sym other

module _ (s : State) (ids : Option (List ℕ)) (round : Round) (one other : RoundResult) (left right : State) (kept later : Option (List ℕ)) (memory : All HasMemory one.replies) (also : All HasMemory other.replies) where
  alone-one : DoesAlone s ids round one left kept → DoesAlone s ids round other right later → AreOne (Option (List ℕ)) one other left right kept later
  alone-one does again = texts-one s ids round one other left right kept later memory also does.1 again.1

  drawn-one : (seed : ℕ) → DoesBySeed seed s ids round one left kept → DoesBySeed seed s ids round other right later → AreOne (Option (List ℕ)) one other left right kept later
  drawn-one seed does again =
      let same = seeds-one s (ids_before s ids) seed round one other left right does.0 again.0 memory also does.1 again.1 in
      record { result = same.result; machine = same.machine; ids = left-one ids does.0 again.0 kept later same.ids does.2 again.2 }

  schedule-one : (seed : ℕ) → DoesAlone s ids round one left kept ⊎ (IsOfSeveral round × DoesBySeed seed s ids round one left kept)
      → DoesAlone s ids round other right later ⊎ (IsOfSeveral round × DoesBySeed seed s ids round other right later) → AreOne (Option (List ℕ)) one other left right kept later
  schedule-one seed (inl does) (inl again) = alone-one does again
  schedule-one seed (inl does) (inr again) = absurd (let never : ⊥ = omega (arith, does.0, again.0) in never)
  schedule-one seed (inr does) (inl again) = absurd (let never : ⊥ = omega (arith, does.0, again.0) in never)
  schedule-one seed (inr does) (inr again) = drawn-one seed does.1 again.1

  threads-one : round.workers ≤ 1 → DoesAlone s ids round one left kept ⊎ (IsOfSeveral round × DoesByThreads s ids round one left kept)
      → DoesAlone s ids round other right later ⊎ (IsOfSeveral round × DoesByThreads s ids round other right later) → AreOne (Option (List ℕ)) one other left right kept later
  threads-one few (inl does) (inl again) = alone-one does again
  threads-one few (inl does) (inr again) = absurd (let never : ⊥ = omega (arith, few, again.0) in never)
  threads-one few (inr does) again = absurd (let never : ⊥ = omega (arith, few, does.0) in never)

pub ways-one : RoundsOfAWayHaveOneOutcome
ways-one Serial rounds s ids round fixed one other left right kept later memory also does again = texts-one s ids round one other left right kept later memory also does again
ways-one (Schedule seed) rounds s ids round fixed one other left right kept later memory also does again = schedule-one s ids round one other left right kept later memory also (seed_after seed rounds) does again
ways-one Threads rounds s ids round fixed one other left right kept later memory also does again = threads-one s ids round one other left right kept later memory also fixed does again
