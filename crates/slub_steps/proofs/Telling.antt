-- What a log has told of a round that it watched.
use Rattle.std.proofs.Common.{◌≡◌, ◌≤◌, ℕ, ◌+◌, Bool, true, false, List, [], ◌∷◌, ◌++◌, length, length-append, Option, Some, None, Result, Ok, Err, refl, ap, sym, subst, ◌∙◌, append_assoc, append-nil, arith, inl, inr}
use Rattle.std.specs.Prelude.{◌⊎◌}
use Rattle.slub_trace.specs.declared.event.Round.{Round}
use Rattle.slub_trace.specs.declared.trace.Trace.{Trace}
use Rattle.slub_lists.specs.State.{State}
use Rattle.slub_slabinfo_text.specs.declared.journal.Done.{Done}
use Rattle.slub_slabinfo_text.specs.declared.journal.Done.TheVariants as done
use Rattle.slub_slabinfo_text.specs.declared.journal.RoundResult.{RoundResult}
use Rattle.slub_slabinfo_text.specs.Text.{text_at}
use Rattle.slub_core.specs.Facts.{Facts, setup_of}
use Rattle.slub_core.specs.Setup.{Setup}
use Rattle.slub_core.specs.Law.{CoherentAlong}
use Rattle.slub_core.specs.Run.{Pick, System, run, turn}
use Rattle.slub_core.specs.World.{World}
use Rattle.slub_law_opening.specs.Opening as opening
use Rattle.slub_schedule.specs.Schedule.{unfinished}
use Rattle.slub_schedule.specs.Turns.{turns_of}
use Rattle.slub_turns.specs.Means.{the_means}
use Rattle.slub_law_rounds.specs.Round.{IsRound}
use Rattle.slub_rounds.specs.Rounds.{DoesRoundBySteps, IsCoherentRun, SpendsTurnsBySteps, StandsBeside, system_begun, world_before}
use Rattle.slub_rounds.specs.Watched.{EndsWatched, HaltsWatched, SpendsWatched}
use Rattle.slub_law_replay.specs.Runs.{KeepsReserves, MachineState}
use Rattle.slub_law_replay.specs.Ways.{AreLeft, ids_before}
use Rattle.slub_items.specs.declared.watched.Unwatched.{Unwatched}
use Rattle.slub_items.specs.declared.watched.Unwatched.TheVariants as unwatched
use Rattle.slub_items.specs.Watched.{AreGiven, DoesWatched, IsUnwatched}
use Rattle.slub_turn_text.specs.Labels.{RoundLabels}
use Rattle.slub_picks.specs.declared.faults.Bad.TheVariants.{InRound}
use Rattle.slub_picks.specs.declared.walk.Misfit.{Misfit}
use Rattle.slub_picks.specs.Faults.{bad_line}
use Rattle.slub_picks.specs.Made.{IsMade}
use Rattle.slub_asked.specs.declared.stop.Stop.{Stop}
use Rattle.slub_asked.specs.declared.stop.Stop.TheVariants as stops
use Rattle.slub_round_log.specs.declared.choice.Choice.{Choice}
use Rattle.slub_round_log.specs.declared.kept.Fault.{Fault}
use Rattle.slub_round_log.specs.declared.kept.Fault.TheVariants as fault
use Rattle.slub_round_log.specs.declared.kept.Halt.{Halt}
use Rattle.slub_round_log.specs.declared.kept.Halt.TheVariants.{Failed, Unfit}
use Rattle.slub_round_log.specs.declared.kept.Kept.{Kept}
use Rattle.slub_round_log.specs.Choices.{Refuses}
use Rattle.slub_round_log.specs.Log.{FailsAt, SinkState, Takes}
use Rattle.slub_round_log.specs.Told.{Context}
use Rattle.slub_steps.specs.declared.round.ToldRound.{ToldRound}
use Rattle.slub_steps.specs.Inner.{ClosesRound, IsFirstKept, OpensAs, StopsBy, WritesText, due_of, ids_among, stop_by}
use Rattle.slub_steps.specs.Live.{Named}
use Rattle.slub_steps.specs.Rounds.{AreTold, IsClosing, IsOpening, IsRoundTold, RoundDue, StopsRound, Telling, WritesRound, if_shown, labels_of}
use Rattle.slub_steps.specs.Sayers.{EndsSaid, GoesSaid, MisfitsSaid, Sayer, SpendsSaid}
use Rattle.slub_steps.proofs.Following.{are_all_said, are_said, misfits}
use Rattle.slub_steps.proofs.Falling.{some_is}
use Rattle.slub_steps.proofs.Texts.{fails_after, shown_both, takes_as, takes_both, takes_nothing}
use Rattle.slub_steps.proofs.Watching.{BeginsLog, ChoosesLog, DoneLog, HaltsLog, HasMade, HearsLog, Leaves, Went, fell, state, went}

-- ---- turns that were made

-- the machine was coherent before each of the first of them, too
coherent_front : (m : Setup) (o : World) (s : System) (xs ys : List Pick) → CoherentAlong m o s (xs ++ ys) → CoherentAlong m o s xs
coherent_front m o s [] [] coherent = coherent
coherent_front m o s [] (y ∷ ys) coherent = coherent.0
coherent_front m o s (x ∷ xs) ys coherent = (coherent.0, coherent_front m o (turn m s x) xs ys coherent.1)

-- a round has come so far in its turns
abbrev Going : Sayer → RoundLabels → Telling → State → List ℕ → Round → Type 0
Going sayer labels tells s ids round =
    SpendsTurnsBySteps (λ k first picks last. GoesSaid sayer round.workers k first picks last × AreTold labels tells k first picks) s ids round

gone_so : (Ending : Setup → System → List Pick → System → Type 0) (sayer : Sayer) (labels : RoundLabels) (tells : Telling) (s : State) (ids : List ℕ) (round : Round)
    → ((k : Setup) (first : System) (picks : List Pick) (last : System) → Ending k first picks last → GoesSaid sayer round.workers k first picks last)
    → SpendsTurnsBySteps (λ k first picks last. Ending k first picks last × AreTold labels tells k first picks) s ids round → Going sayer labels tells s ids round
gone_so Ending sayer labels tells s ids round so spends = record {
  beside = spends.beside;
  stands = spends.stands;
  means = spends.means;
  picks = spends.picks;
  last = spends.last;
  coherent = spends.coherent;
  spent = (so (opening.setup_of s spends.beside) (system_begun s spends.beside round) spends.picks spends.last spends.spent.0, spends.spent.1);
}

-- what a fault leaves written of a round's turns
abbrev FellTo : Fault → State → List ℕ → Round → RoundLabels → Sayer → Bool → SinkState → SinkState → Type 0
FellTo fault.NoMemory s ids round labels sayer is_shown old new =
    (new ≡ old) ⊎ ((tells : Telling) × Going sayer labels tells s ids round × Takes old new (if_shown is_shown tells.text))
FellTo fault.Write s ids round labels sayer is_shown old new =
    (tells : Telling) × Going sayer labels tells s ids round × FailsAt old new (if_shown is_shown tells.text)

fell_to : (f : Fault) (s : State) (ids : List ℕ) (round : Round) (labels : RoundLabels) (c : Choice) (sayer : Sayer) (is_shown : Bool) (old new : SinkState)
    (beside : opening.Beside) → StandsBeside s ids beside → beside.means ≡ the_means → (picks : List Pick) → IsCoherentRun s beside round picks
    → (facts : Facts) → opening.setup_of s beside ≡ setup_of facts the_means → length picks ≤ turns_of (system_begun s beside round) → OpensAs sayer round.workers c
    → Leaves f labels c is_shown facts (system_begun s beside round) picks old new → FellTo f s ids round labels sayer is_shown old new
fell_to f s ids round labels c sayer is_shown old new beside stands means picks coherent facts setup within opens leaves = by f leaves
  where
    first : System
    first = system_begun s beside round

    going : (made : HasMade labels c facts first picks) → Going sayer labels made.tells s ids round
    going made =
        let k : Setup = setup_of facts the_means in
        let long : length picks ≡ length made.fewer + length made.more = ap length made.picks_are ∙ length-append made.fewer made.more in
        let P : Setup → Type 0 = λ k. GoesSaid sayer round.workers k first made.fewer (run (opening.setup_of s beside) first made.fewer) × AreTold labels made.tells k first made.fewer in
        let at : P k = (
          record {
            run = ap (λ (x : Setup). run x first made.fewer) setup;
            within = omega (arith, within, long);
            said = are_said sayer round.workers k c first made.fewer made.after opens made.chosen;
          },
          made.told,
        ) in
        record {
          beside = beside;
          stands = stands;
          means = means;
          picks = made.fewer;
          last = run (opening.setup_of s beside) first made.fewer;
          coherent = coherent_front (opening.setup_of s beside) (world_before s beside round) first made.fewer made.more (subst (λ (ps : List Pick). IsCoherentRun s beside round ps) made.picks_are coherent);
          spent = subst P (sym setup) at;
        }

    by : (f : Fault) → Leaves f labels c is_shown facts first picks old new → FellTo f s ids round labels sayer is_shown old new
    by fault.NoMemory leaves = elim leaves [
      | inl same ↦ inl same
      | inr some ↦ inr (some.0.tells, going some.0, some.1)
    ]
    by fault.Write leaves = (leaves.0.tells, going leaves.0, leaves.1)

-- so the round stops
fault_stops : (place : ToldRound) (trace : Trace) (round : Round) (sayer : Sayer) (live : List Named) (m : MachineState) (head : List ℕ) (old mid new : SinkState) (fault : Fault)
    → IsOpening (due_of place trace round sayer live) m head → Takes old mid (if_shown place.is_shown head)
    → FellTo fault m.lists (ids_before m.lists m.ids) round (labels_of trace m.lists round) sayer place.is_shown mid new
    → StopsRound (due_of place trace round sayer live) place.is_shown m old new (stop_by fault)
fault_stops place trace round sayer live m head old mid new fault.NoMemory opened took fell = elim fell [
  | inl same ↦ (head, inl (inr opened), subst (λ (x : SinkState). Takes old x (if_shown place.is_shown head)) (sym same) took)
  | inr some ↦ (
    head ++ some.0.text,
    inr (inl (some.0, record { spends = some.1; opening = head; is_opening = opened; text_is = refl })),
    takes_as old new _ _ (shown_both place.is_shown head some.0.text) (takes_both old mid new (if_shown place.is_shown head) (if_shown place.is_shown some.0.text) took some.2),
  )
]
fault_stops place trace round sayer live m head old mid new fault.Write opened took fell = (
  head ++ fell.0.text,
  inr (inl (fell.0, record { spends = fell.1; opening = head; is_opening = opened; text_is = refl })),
  subst (λ (x : List ℕ). FailsAt old new x) (shown_both place.is_shown head fell.0.text) (fails_after old mid new (if_shown place.is_shown head) (if_shown place.is_shown fell.0.text) took fell.2),
)

-- ---- the turns

-- what a log has told of turns, by what it keeps behind them
pub record HasTold (Told : Telling → Type 0) (is_shown : Bool) (k : Kept) (old new : SinkState) : Type 0 where
  pub tells : Telling
  pub told : Told tells
  pub takes : Takes old new (if_shown is_shown tells.text)
  pub context : tells.context ≡ k.context
  pub made : IsMade k.made tells.made

module _ {W S : Type 0} (kept : W → Kept) (sink : W → S) (taken : S → Option (List ℕ)) (faults : S → ℕ) where
  abbrev now : W → SinkState
  now w = state kept sink taken faults w

  abbrev Ended : W → W → Setup → System → List Pick → System → Type 0
  Ended w v m first picks last = EndsWatched (BeginsLog kept sink taken faults) (ChoosesLog kept sink taken faults) (HearsLog kept sink taken faults) (DoneLog kept sink taken faults) w v m first picks last

  abbrev Spent : W → W → Setup → System → List Pick → System → Type 0
  Spent w v m first picks last = SpendsWatched (BeginsLog kept sink taken faults) (ChoosesLog kept sink taken faults) (HearsLog kept sink taken faults) w v m first picks last

  abbrev Halted : W → Halt → W → Setup → System → List Pick → System → Type 0
  Halted w why v m first picks last = HaltsWatched (BeginsLog kept sink taken faults) (ChoosesLog kept sink taken faults) (HearsLog kept sink taken faults) (HaltsLog kept sink taken faults) w why v m first picks last

  now_same : (w v : W) → sink v ≡ sink w → now v ≡ now w
  now_same w v same = ap (λ (x : S). record { taken = taken x; faults = faults x }) same

  pub told_round : (s : State) (ids : List ℕ) (round : Round) (result : RoundResult) (t : State) (ids_after : List ℕ) (labels : RoundLabels) (c : Choice) (is_shown : Bool) (sayer : Sayer) (w v : W)
      → IsFirstKept (kept w) labels c is_shown → OpensAs sayer round.workers c
      → DoesRoundBySteps (λ m first picks last. Ended w v m first picks last) s ids round result t ids_after
      → HasTold (λ tells. DoesRoundBySteps (λ k first picks last. EndsSaid sayer round.workers k first picks last × AreTold labels tells k first picks) s ids round result t ids_after) is_shown (kept v) (now w) (now v)
  told_round s ids round result t ids_after labels c is_shown sayer w v first_kept opens does =
      let first : System = system_begun s does.beside round in
      let e : Ended w v (opening.setup_of s does.beside) first does.picks does.last = does.ends in
      let g : Went kept sink taken faults labels c is_shown e.facts w first does.picks e.told =
      went kept sink taken faults labels c is_shown e.facts w first does.picks does.last e.told first_kept e.watched e.done.0.fault in
      let P : Setup → Type 0 = λ k. EndsSaid sayer round.workers k first does.picks does.last × AreTold labels g.tells k first does.picks in
      let at : P (setup_of e.facts the_means) = (
        record {
          run = e.watched.run;
          within = e.watched.within;
          said = are_said sayer round.workers (setup_of e.facts the_means) c first does.picks (kept e.told).choice opens g.chosen;
          all = are_all_said sayer round.workers (setup_of e.facts the_means) c first does.picks (kept e.told).choice opens g.chosen e.done.0.choice;
          finished = e.finished;
        },
        g.told,
      ) in
      let ends : P (opening.setup_of s does.beside) = subst P (sym e.setup) at in
      record {
        tells = g.tells;
        told = record {
          beside = does.beside;
          stands = does.stands;
          means = does.means;
          picks = does.picks;
          last = does.last;
          coherent = does.coherent;
          ends = ends;
          lists = does.lists;
          left = does.left;
          closes = does.closes;
          words = does.words;
          after_is = does.after_is;
          ids_are = does.ids_are;
          replies = does.replies;
          damages = does.damages;
          ledgers = does.ledgers;
        };
        takes = subst (λ (x : SinkState). Takes (now w) x (if_shown is_shown g.tells.text)) (sym (now_same e.told v e.done.1)) g.takes;
        context = g.context ∙ ap (λ (x : Kept). x.context) (sym e.done.0.rest);
        made = subst (λ (x : Kept). IsMade x.made g.tells.made) (sym e.done.0.rest) g.made;
      }

  pub told_spent : (s : State) (ids : List ℕ) (round : Round) (labels : RoundLabels) (c : Choice) (is_shown : Bool) (sayer : Sayer) (w v : W)
      → IsFirstKept (kept w) labels c is_shown → OpensAs sayer round.workers c → (kept v).fault ≡ None
      → SpendsTurnsBySteps (λ m first picks last. Spent w v m first picks last) s ids round
      → HasTold (λ tells. SpendsTurnsBySteps (λ k first picks last. SpendsSaid sayer round.workers k first picks last × AreTold labels tells k first picks) s ids round) is_shown (kept v) (now w) (now v)
  told_spent s ids round labels c is_shown sayer w v first_kept opens fine spends =
      let first : System = system_begun s spends.beside round in
      let e : Spent w v (opening.setup_of s spends.beside) first spends.picks spends.last = spends.spent in
      let g : Went kept sink taken faults labels c is_shown e.facts w first spends.picks v =
      went kept sink taken faults labels c is_shown e.facts w first spends.picks spends.last v first_kept e.watched fine in
      let P : Setup → Type 0 = λ k. SpendsSaid sayer round.workers k first spends.picks spends.last × AreTold labels g.tells k first spends.picks in
      let at : P (setup_of e.facts the_means) = (
        record {
          run = e.watched.run;
          all = e.all;
          said = are_said sayer round.workers (setup_of e.facts the_means) c first spends.picks (kept v).choice opens g.chosen;
          unfinished = e.unfinished;
        },
        g.told,
      ) in
      let spent : P (opening.setup_of s spends.beside) = subst P (sym e.setup) at in
      record {
        tells = g.tells;
        told = record {
          beside = spends.beside;
          stands = spends.stands;
          means = spends.means;
          picks = spends.picks;
          last = spends.last;
          coherent = spends.coherent;
          spent = spent;
        };
        takes = g.takes;
        context = g.context;
        made = g.made;
      }

  pub told_unfit : (s : State) (ids : List ℕ) (round : Round) (labels : RoundLabels) (c : Choice) (is_shown : Bool) (sayer : Sayer) (misfit : Misfit) (w v : W)
      → IsFirstKept (kept w) labels c is_shown → OpensAs sayer round.workers c
      → SpendsTurnsBySteps (λ m first picks last. Halted w (Unfit misfit) v m first picks last) s ids round
      → HasTold (λ tells. SpendsTurnsBySteps (λ k first picks last. MisfitsSaid sayer round.workers misfit k first picks last × AreTold labels tells k first picks) s ids round) is_shown (kept v) (now w) (now v)
  told_unfit s ids round labels c is_shown sayer misfit w v first_kept opens spends =
      let first : System = system_begun s spends.beside round in
      let e : Halted w (Unfit misfit) v (opening.setup_of s spends.beside) first spends.picks spends.last = spends.spent in
      let why : ((kept e.told).fault ≡ None) × Refuses (kept e.told).choice (unfinished spends.last) misfit = e.halted.0.halt_is in
      let g : Went kept sink taken faults labels c is_shown e.facts w first spends.picks e.told =
      went kept sink taken faults labels c is_shown e.facts w first spends.picks spends.last e.told first_kept e.watched why.0 in
      let k : Setup = setup_of e.facts the_means in
      let P : Setup → Type 0 = λ k. MisfitsSaid sayer round.workers misfit k first spends.picks spends.last × AreTold labels g.tells k first spends.picks in
      let at : P k = (
        record {
          run = e.watched.run;
          within = e.watched.within;
          said = are_said sayer round.workers k c first spends.picks (kept e.told).choice opens g.chosen;
          misfits = misfits sayer round.workers k c first spends.last spends.picks (kept e.told).choice misfit opens g.chosen e.watched.run why.1;
        },
        g.told,
      ) in
      let spent : P (opening.setup_of s spends.beside) = subst P (sym e.setup) at in
      record {
        tells = g.tells;
        told = record {
          beside = spends.beside;
          stands = spends.stands;
          means = spends.means;
          picks = spends.picks;
          last = spends.last;
          coherent = spends.coherent;
          spent = spent;
        };
        takes = subst (λ (x : SinkState). Takes (now w) x (if_shown is_shown g.tells.text)) (sym (now_same e.told v e.halted.1)) g.takes;
        context = g.context ∙ ap (λ (x : Kept). x.context) (sym e.halted.0.rest);
        made = subst (λ (x : Kept). IsMade x.made g.tells.made) (sym e.halted.0.rest) g.made;
      }

  -- ---- a round that isn't done

  abbrev Unended : MachineState → Round → W → W → Unwatched MachineState Halt → Type 0
  Unended m round w v why = IsUnwatched (BeginsLog kept sink taken faults) (ChoosesLog kept sink taken faults) (HearsLog kept sink taken faults) (HaltsLog kept sink taken faults) m m.lists (ids_before m.lists m.ids) round w v why

  -- what its log has written where something failed in it
  pub fallen : (m : MachineState) (round : Round) (labels : RoundLabels) (c : Choice) (is_shown : Bool) (sayer : Sayer) (w v : W) (why : Unwatched MachineState Halt) (fault : Fault)
      → IsFirstKept (kept w) labels c is_shown → OpensAs sayer round.workers c → (kept v).fault ≡ Some fault → Unended m round w v why
      → FellTo fault m.lists (ids_before m.lists m.ids) round labels sayer is_shown (now w) (now v)
  fallen m round labels c is_shown sayer w v (unwatched.NoMemory left) fault first_kept opens failed ended =
      absurd (some_is (kept v).fault fault failed (ap (λ (x : W). (kept x).fault) ended.1 ∙ first_kept.fault))
  fallen m round labels c is_shown sayer w v unwatched.TurnsSpent fault first_kept opens failed ended =
      let first : System = system_begun m.lists ended.beside round in
      let e : Spent w v (opening.setup_of m.lists ended.beside) first ended.picks ended.last = ended.spent in
      fell_to fault m.lists (ids_before m.lists m.ids) round labels c sayer is_shown (now w) (now v) ended.beside ended.stands ended.means ended.picks ended.coherent e.facts e.setup e.watched.within opens
      (fell kept sink taken faults labels c is_shown e.facts w first ended.picks ended.last v fault first_kept e.watched failed)
  fallen m round labels c is_shown sayer w v (unwatched.Halted why) fault first_kept opens failed ended =
      let first : System = system_begun m.lists ended.beside round in
      let e : Halted w why v (opening.setup_of m.lists ended.beside) first ended.picks ended.last = ended.spent in
      let same : (kept v).fault ≡ (kept e.told).fault = ap (λ (x : Kept). x.fault) e.halted.0.rest in
      let to : FellTo fault m.lists (ids_before m.lists m.ids) round labels sayer is_shown (now w) (now e.told) =
      fell_to fault m.lists (ids_before m.lists m.ids) round labels c sayer is_shown (now w) (now e.told) ended.beside ended.stands ended.means ended.picks ended.coherent e.facts e.setup e.watched.within opens
      (fell kept sink taken faults labels c is_shown e.facts w first ended.picks ended.last e.told fault first_kept e.watched (sym same ∙ failed)) in
      subst (λ (x : SinkState). FellTo fault m.lists (ids_before m.lists m.ids) round labels sayer is_shown (now w) x) (sym (now_same e.told v e.halted.1)) to

  -- what stops a round is why it wasn't done, and its text so far is written
  pub cut_round : (place : ToldRound) (trace : Trace) (round : Round) (sayer : Sayer) (live : List Named) (m : MachineState) (c : Choice) (why : Unwatched MachineState Halt) (stop : Stop) (head : List ℕ) (old : SinkState) (w v : W) (o : Option Fault)
      → (kept v).fault ≡ o → IsFirstKept (kept w) (labels_of trace m.lists round) c place.is_shown → OpensAs sayer round.workers c
      → IsOpening (due_of place trace round sayer live) m head → Takes old (now w) (if_shown place.is_shown head)
      → Unended m round w v why → StopsBy o why place.round (kept v).context.turns stop
      → StopsRound (due_of place trace round sayer live) place.is_shown m old (now v) stop
  cut_round place trace round sayer live m c why stop head old w v (Some fault) is first_kept opens opened took ended stopped =
      subst (λ (x : Stop). StopsRound (due_of place trace round sayer live) place.is_shown m old (now v) x) (sym stopped)
      (fault_stops place trace round sayer live m head old (now w) (now v) fault opened took (fallen m round (labels_of trace m.lists round) c place.is_shown sayer w v why fault first_kept opens is ended))
  cut_round place trace round sayer live m c (unwatched.NoMemory left) stop head old w v None is first_kept opens opened took ended stopped =
      subst (λ (x : Stop). StopsRound (due_of place trace round sayer live) place.is_shown m old (now v) x) (sym stopped)
      (head, inl (inr opened), subst (λ (x : W). Takes old (now x) (if_shown place.is_shown head)) (sym ended.1) took)
  cut_round place trace round sayer live m c unwatched.TurnsSpent stop head old w v None is first_kept opens opened took ended stopped =
      let t = told_spent m.lists (ids_before m.lists m.ids) round (labels_of trace m.lists round) c place.is_shown sayer w v first_kept opens is ended in
      subst (λ (x : Stop). StopsRound (due_of place trace round sayer live) place.is_shown m old (now v) x) (sym stopped) (
        head ++ t.tells.text,
        (t.tells, record { spends = t.told; opening = head; is_opening = opened; text_is = refl }),
        takes_as old (now v) _ _ (shown_both place.is_shown head t.tells.text) (takes_both old (now w) (now v) (if_shown place.is_shown head) (if_shown place.is_shown t.tells.text) took t.takes),
      )
  cut_round place trace round sayer live m c (unwatched.Halted (Failed f)) stop head old w v None is first_kept opens opened took ended stopped =
      let e : Halted w (Failed f) v (opening.setup_of m.lists ended.beside) (system_begun m.lists ended.beside round) ended.picks ended.last = ended.spent in
      let some : (kept e.told).fault ≡ Some f = e.halted.0.halt_is in
      let same : (kept v).fault ≡ (kept e.told).fault = ap (λ (x : Kept). x.fault) e.halted.0.rest in
      absurd (some_is (kept v).fault f (same ∙ some) is)
  cut_round place trace round sayer live m c (unwatched.Halted (Unfit misfit)) stop head old w v None is first_kept opens opened took ended stopped =
      let d : RoundDue = due_of place trace round sayer live in
      let t = told_unfit m.lists (ids_before m.lists m.ids) round (labels_of trace m.lists round) c place.is_shown sayer misfit w v first_kept opens ended in
      let takes : Takes old (now v) (if_shown place.is_shown (head ++ t.tells.text)) =
      takes_as old (now v) _ _ (shown_both place.is_shown head t.tells.text) (takes_both old (now w) (now v) (if_shown place.is_shown head) (if_shown place.is_shown t.tells.text) took t.takes) in
      elim stopped [
        | inl lacking ↦ subst (λ (x : Stop). StopsRound d place.is_shown m old (now v) x) (sym lacking) (
          head ++ t.tells.text,
          inr (inl (
            t.tells,
            record {
              spends = gone_so (λ k first picks last. MisfitsSaid sayer round.workers misfit k first picks last) sayer (labels_of trace m.lists round) t.tells m.lists (ids_before m.lists m.ids) round (λ k first picks last misfits. record { run = misfits.run; within = misfits.within; said = misfits.said }) t.told;
              opening = head;
              is_opening = opened;
              text_is = refl;
            },
          )),
          takes,
        )
        | inr said ↦ subst (λ (x : Stop). StopsRound d place.is_shown m old (now v) x) (sym said.1) (
          head ++ t.tells.text,
          record {
            misfit = misfit;
            tells = t.tells;
            cut = record { spends = t.told; opening = head; is_opening = opened; text_is = refl };
            line_is = said.2 ∙ ap (λ (x : Context). bad_line (InRound misfit place.round x.turns)) (sym t.context);
          },
          takes,
        )
      ]

  -- ---- a round that is done

  left_of : (ids : Option (List ℕ)) (ids_after : List ℕ) (left others : Option (List ℕ)) → AreGiven ids ids_after left others → AreLeft ids ids_after left × (ids_among left others ≡ ids_after)
  left_of None ids_after left others given = (given.0, ap (λ (x : Option (List ℕ)). ids_among x others) given.0 ∙ ap (λ (x : Option (List ℕ)). ids_among None x) given.1)
  left_of (Some ids) ids_after left others given = (given.0, ap (λ (x : Option (List ℕ)). ids_among x others) given.0)

  -- the end of a round that was told is written behind its turns
  pub closed_round : (place : ToldRound) (trace : Trace) (round : Round) (sayer : Sayer) (live : List Named) (m after : MachineState) (c : Choice) (result : RoundResult) (others : Option (List ℕ)) (head : List ℕ) (old new : SinkState) (w v : W)
      (r : Result (MachineState × Done) Stop)
      → IsFirstKept (kept w) (labels_of trace m.lists round) c place.is_shown → OpensAs sayer round.workers c
      → IsOpening (due_of place trace round sayer live) m head → Takes old (now w) (if_shown place.is_shown head)
      → DoesWatched (BeginsLog kept sink taken faults) (ChoosesLog kept sink taken faults) (HearsLog kept sink taken faults) (DoneLog kept sink taken faults) w v m.lists m.ids round result after.lists after.ids others
      → IsRound m.lists round result after.lists → KeepsReserves m after → after.rounds ≡ m.rounds + 1
      → ClosesRound place trace round live after others result (kept v) (now v) new r
      → WritesRound (due_of place trace round sayer live) place.is_shown m old new r
  closed_round place trace round sayer live m after c result others head old new w v (Ok done) first_kept opens opened took does lawful reserves counted closes =
      let d : RoundDue = due_of place trace round sayer live in
      let t = told_round m.lists (ids_before m.lists m.ids) round result after.lists does.0 (labels_of trace m.lists round) c place.is_shown sayer w v first_kept opens does.1 in
      let left = left_of m.ids does.0 after.ids others does.2 in
      let closing : List ℕ = closes.2 in
      let is_closing : IsClosing d after.lists does.0 t.tells closing =
      subst (λ (ids : List ℕ). IsClosing d after.lists ids t.tells closing) left.1 (closes.3 sayer t.tells t.context t.made) in
      let end : List ℕ = text_at true trace place.number done.1 in
      let told : IsRoundTold d m (head ++ t.tells.text ++ closing ++ end) done.1 after = record {
        result = result;
        outcome = closes.1;
        lawful = lawful;
        tells = t.tells;
        ids_after = does.0;
        does = t.told;
        left = left.0;
        reserves = reserves;
        counted = counted;
        opening = head;
        is_opening = opened;
        closing = closing;
        is_closing = is_closing;
        text_is = refl;
      } in
      let b : Bool = place.is_shown in
      let front : List ℕ = head ++ t.tells.text in
      let begun : Takes old (now v) (if_shown b front) =
      takes_as old (now v) (if_shown b head ++ if_shown b t.tells.text) (if_shown b front) (shown_both b head t.tells.text) (takes_both old (now w) (now v) (if_shown b head) (if_shown b t.tells.text) took t.takes) in
      let takes : Takes old new (if_shown b front ++ if_shown b (closing ++ end)) = takes_both old (now v) new (if_shown b front) (if_shown b (closing ++ end)) begun closes.4 in
      let is : if_shown b front ++ if_shown b (closing ++ end) ≡ if_shown b (head ++ t.tells.text ++ closing ++ end) =
      shown_both b front (closing ++ end) ∙ ap (λ (x : List ℕ). if_shown b x) (sym (append_assoc front closing end)) in (
        head ++ t.tells.text ++ closing ++ end,
        subst (λ (x : MachineState). IsRoundTold d m (head ++ t.tells.text ++ closing ++ end) done.1 x) (sym closes.0) told,
        takes_as old new _ _ is takes,
      )
  closed_round place trace round sayer live m after c result others head old new w v (Err stops.NoMemory) first_kept opens opened took does lawful reserves counted closes =
      let t = told_round m.lists (ids_before m.lists m.ids) round result after.lists does.0 (labels_of trace m.lists round) c place.is_shown sayer w v first_kept opens does.1 in
      let b : Bool = place.is_shown in
      let all : Takes old new (if_shown b head ++ (if_shown b t.tells.text ++ [])) = takes_both old (now w) new (if_shown b head) (if_shown b t.tells.text ++ []) took (takes_both (now w) (now v) new (if_shown b t.tells.text) [] t.takes closes) in (
        head ++ t.tells.text,
        inr (inl (
          t.tells,
          record {
            spends = record {
              beside = t.told.beside;
              stands = t.told.stands;
              means = t.told.means;
              picks = t.told.picks;
              last = t.told.last;
              coherent = t.told.coherent;
              spent = (record { run = t.told.ends.0.run; within = t.told.ends.0.within; said = t.told.ends.0.said }, t.told.ends.1);
            };
            opening = head;
            is_opening = opened;
            text_is = refl;
          },
        )),
        takes_as old new _ _ (ap (λ (x : List ℕ). if_shown b head ++ x) (append-nil (if_shown b t.tells.text)) ∙ shown_both b head t.tells.text) all,
      )
  closed_round place trace round sayer live m after c result others head old new w v (Err stops.WriteFault) first_kept opens opened took does lawful reserves counted closes =
      let d : RoundDue = due_of place trace round sayer live in
      let t = told_round m.lists (ids_before m.lists m.ids) round result after.lists does.0 (labels_of trace m.lists round) c place.is_shown sayer w v first_kept opens does.1 in
      let left = left_of m.ids does.0 after.ids others does.2 in
      let closing : List ℕ = closes.0 in
      let is_closing : IsClosing d after.lists does.0 t.tells closing =
      subst (λ (ids : List ℕ). IsClosing d after.lists ids t.tells closing) left.1 (closes.1 sayer t.tells t.context t.made) in
      let end : List ℕ = text_at true trace place.number (done.Round result) in
      let told : IsRoundTold d m (head ++ t.tells.text ++ closing ++ end) (done.Round result) after = record {
        result = result;
        outcome = refl;
        lawful = lawful;
        tells = t.tells;
        ids_after = does.0;
        does = t.told;
        left = left.0;
        reserves = reserves;
        counted = counted;
        opening = head;
        is_opening = opened;
        closing = closing;
        is_closing = is_closing;
        text_is = refl;
      } in
      let b : Bool = place.is_shown in
      let front : List ℕ = head ++ t.tells.text in
      let begun : Takes old (now v) (if_shown b front) =
      takes_as old (now v) (if_shown b head ++ if_shown b t.tells.text) (if_shown b front) (shown_both b head t.tells.text) (takes_both old (now w) (now v) (if_shown b head) (if_shown b t.tells.text) took t.takes) in
      let fails : FailsAt old new (if_shown b front ++ if_shown b (closing ++ end)) = fails_after old (now v) new (if_shown b front) (if_shown b (closing ++ end)) begun closes.2 in
      let is : if_shown b front ++ if_shown b (closing ++ end) ≡ if_shown b (head ++ t.tells.text ++ closing ++ end) =
      shown_both b front (closing ++ end) ∙ ap (λ (x : List ℕ). if_shown b x) (sym (append_assoc front closing end)) in
      (head ++ t.tells.text ++ closing ++ end, inr (inr (done.Round result, after, told)), subst (λ (x : List ℕ). FailsAt old new x) is fails)
  closed_round place trace round sayer live m after c result others head old new w v (Err stops.TurnsSpent) first_kept opens opened took does lawful reserves counted closes = absurd closes
  closed_round place trace round sayer live m after c result others head old new w v (Err (stops.BadPicks line)) first_kept opens opened took does lawful reserves counted closes = absurd closes
  closed_round place trace round sayer live m after c result others head old new w v (Err stops.BadWords) first_kept opens opened took does lawful reserves counted closes = absurd closes
  closed_round place trace round sayer live m after c result others head old new w v (Err (stops.BadLine line)) first_kept opens opened took does lawful reserves counted closes = absurd closes
  closed_round place trace round sayer live m after c result others head old new w v (Err stops.TooLong) first_kept opens opened took does lawful reserves counted closes = absurd closes
  closed_round place trace round sayer live m after c result others head old new w v (Err stops.ReadFault) first_kept opens opened took does lawful reserves counted closes = absurd closes

-- the same of a log as it stands before and after
module _ {W S : Type 0} (v w : W) (kept : W → Kept) (sink : W → S) (taken : S → Option (List ℕ)) (faults : S → ℕ) where
  pub closed_for : (place : ToldRound) (trace : Trace) (round : Round) (sayer : Sayer) (live : List Named) (m after : MachineState) (c : Choice) (result : RoundResult) (others : Option (List ℕ)) (head : List ℕ) (old new : SinkState)
      (r : Result (MachineState × Done) Stop)
      → IsFirstKept (kept w) (labels_of trace m.lists round) c place.is_shown → OpensAs sayer round.workers c
      → IsOpening (due_of place trace round sayer live) m head → Takes old (state kept sink taken faults w) (if_shown place.is_shown head)
      → DoesWatched (BeginsLog kept sink taken faults) (ChoosesLog kept sink taken faults) (HearsLog kept sink taken faults) (DoneLog kept sink taken faults) w v m.lists m.ids round result after.lists after.ids others
      → IsRound m.lists round result after.lists → KeepsReserves m after → after.rounds ≡ m.rounds + 1
      → ClosesRound place trace round live after others result (kept v) (state kept sink taken faults v) new r
      → WritesRound (due_of place trace round sayer live) place.is_shown m old new r
  closed_for place trace round sayer live m after c result others head old new r first_kept opens opened took does lawful reserves counted closes =
      closed_round kept sink taken faults place trace round sayer live m after c result others head old new w v r first_kept opens opened took does lawful reserves counted closes

  pub cut_for : (place : ToldRound) (trace : Trace) (round : Round) (sayer : Sayer) (live : List Named) (m : MachineState) (c : Choice) (why : Unwatched MachineState Halt) (stop : Stop) (head : List ℕ) (turns : ℕ) (old : SinkState)
      → IsFirstKept (kept w) (labels_of trace m.lists round) c place.is_shown → OpensAs sayer round.workers c
      → IsOpening (due_of place trace round sayer live) m head → Takes old (state kept sink taken faults w) (if_shown place.is_shown head)
      → IsUnwatched (BeginsLog kept sink taken faults) (ChoosesLog kept sink taken faults) (HearsLog kept sink taken faults) (HaltsLog kept sink taken faults) m m.lists (ids_before m.lists m.ids) round w v why
      → turns ≡ (kept v).context.turns → StopsBy (kept v).fault why place.round turns stop
      → StopsRound (due_of place trace round sayer live) place.is_shown m old (state kept sink taken faults v) stop
  cut_for place trace round sayer live m c why stop head turns old first_kept opens opened took ended counted stopped =
      cut_round kept sink taken faults place trace round sayer live m c why stop head old w v (kept v).fault refl first_kept opens opened took ended
      (subst (λ (n : ℕ). StopsBy (kept v).fault why place.round n stop) counted stopped)

-- ---- a round that stops before its turns

-- of which nothing is written
pub nothing_stops : (d : RoundDue) (is_shown : Bool) (m : MachineState) (s : SinkState) → StopsRound d is_shown m s s stops.NoMemory
nothing_stops d true m s = ([], inl (inl refl), takes_nothing s)
nothing_stops d false m s = ([], inl (inl refl), takes_nothing s)

-- or what stands before its turns
pub opening_stops : (d : RoundDue) (is_shown : Bool) (m : MachineState) (old new : SinkState) (text : List ℕ) → IsOpening d m text → Takes old new (if_shown is_shown text) → StopsRound d is_shown m old new stops.NoMemory
opening_stops d is_shown m old new text opened took = (text, inl (inr opened), took)

-- which isn't written
pub text_stops : (A : Type 0) (d : RoundDue) (is_shown : Bool) (m : MachineState) (old new : SinkState) (text : List ℕ) (stop : Stop) → IsOpening d m text → WritesText {A = A} old new (if_shown is_shown text) (Err stop) → StopsRound d is_shown m old new stop
text_stops A d true m old new text stops.NoMemory opened wrote = ([], inl (inl refl), wrote)
text_stops A d false m old new text stops.NoMemory opened wrote = ([], inl (inl refl), wrote)
text_stops A d is_shown m old new text stops.WriteFault opened wrote = (text, inl (inr opened), wrote)
text_stops A d is_shown m old new text stops.TurnsSpent opened wrote = absurd wrote
text_stops A d is_shown m old new text (stops.BadPicks line) opened wrote = absurd wrote
text_stops A d is_shown m old new text stops.BadWords opened wrote = absurd wrote
text_stops A d is_shown m old new text (stops.BadLine line) opened wrote = absurd wrote
text_stops A d is_shown m old new text stops.TooLong opened wrote = absurd wrote
text_stops A d is_shown m old new text stops.ReadFault opened wrote = absurd wrote
