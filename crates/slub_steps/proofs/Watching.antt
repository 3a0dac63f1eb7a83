-- What becomes of a log that watches a round.
use Rattle.std.proofs.Common.{◌≡◌, ◌≤◌, ℕ, ◌+◌, Bool, List, [], ◌∷◌, ◌++◌, append_assoc, append-nil, length, length-append, Option, Some, None, IfSome, refl, ap, sym, subst, ◌∙◌, arith, inl, inr}
use Rattle.std.specs.Prelude.{◌⊎◌}
use Rattle.std.specs.List.{FoldsTo, fold}
use Rattle.slub_core.specs.Facts.{Facts, setup_of}
use Rattle.slub_core.specs.Setup.{Setup}
use Rattle.slub_core.specs.Local.{Local}
use Rattle.slub_core.specs.Run.{Pick, System, run, turn}
use Rattle.slub_schedule.specs.Schedule.{IsCall, unfinished}
use Rattle.slub_turns.specs.Happenings.{Happening, happenings_of}
use Rattle.slub_turns.specs.Means.{the_means}
use Rattle.slub_rounds.specs.Watched.{AreWatched, IsWatchedTurn, WasWatched}
use Rattle.slub_turn_text.specs.Labels.{RoundLabels}
use Rattle.slub_picks.specs.declared.walk.Ended.{Ended}
use Rattle.slub_picks.specs.Made.{IsMade}
use Rattle.slub_round_log.specs.declared.choice.Choice.{Choice}
use Rattle.slub_round_log.specs.declared.kept.Fault.{Fault}
use Rattle.slub_round_log.specs.declared.kept.Fault.TheVariants.{NoMemory, Write}
use Rattle.slub_round_log.specs.declared.kept.Halt.{Halt}
use Rattle.slub_round_log.specs.declared.kept.Kept.{Kept}
use Rattle.slub_round_log.specs.Choices.{Chooses, Goes}
use Rattle.slub_round_log.specs.Laws.{AreHeard, AreWritten, Heard, IsOneTurn, LogState, told_by}
use Rattle.slub_round_log.specs.Log.{Begun, FailsAt, FailsBy, Halts, Hears, IsOverAll, AreLinesWritten, Picks, SinkState, Takes, Writes, first_lines, made_after, shown}
use Rattle.slub_round_log.specs.Told.{Context, context_behind, first_context, turns_text}
use Rattle.slub_round_log.proofs.OneTurn.{one_turn}
use Rattle.slub_round_log.proofs.Written.{rounds_written, turns_written}
use Rattle.slub_steps.specs.Inner.{IsFirstKept}
use Rattle.slub_steps.specs.Rounds.{AreTold, Telling, come_about, if_shown}
use Rattle.slub_steps.specs.Sayers.{ended_of}
use Rattle.slub_steps.proofs.Falling.{goes_somewhere, some_is, text_of_both, turn_failed, turn_unwritten}
use Rattle.slub_steps.proofs.Following.{AreChosen, ended_is}
use Rattle.slub_steps.proofs.Texts.{fails_after, shown_both, takes_as, takes_both}

-- ---- several turns

-- what comes about in a turn more
come_about_more : (m : Setup) (s : System) (picks : List Pick) (pick : Pick)
    → come_about m s (picks ++ pick ∷ []) ≡ come_about m s picks ++ happenings_of m pick.refused (run m s picks) pick.worker
come_about_more m s [] pick = append-nil (happenings_of m pick.refused s pick.worker)
come_about_more m s (first ∷ picks) pick =
    let hs : List Happening = happenings_of m first.refused s first.worker in
    let next : System = turn m s first in
    ap (λ (xs : List Happening). hs ++ xs) (come_about_more m next picks pick)
    ∙ sym (append_assoc hs (come_about m next picks) (happenings_of m pick.refused (run m next picks) pick.worker))

-- these turns were chosen, and then one more is
chosen_more : (m : Setup) (c : Choice) (s : System) (picks : List Pick) (mid : Choice) (pick : Pick) (chosen next : Choice) → AreChosen m c s picks mid
    → 1 ≤ length (unfinished (run m s picks)) → IsCall pick → Chooses mid (unfinished (run m s picks)) pick.worker chosen
    → Goes chosen (ended_of (happenings_of m pick.refused (run m s picks) pick.worker)) next → AreChosen m c s (picks ++ pick ∷ []) next
chosen_more m c s [] mid pick chosen next chose some call chooses goes =
    let C : Choice → Type 0 = λ x. Chooses x (unfinished s) pick.worker chosen in
    (chosen, next, some, call, subst C chose chooses, goes, refl)
chosen_more m c s (first ∷ picks) mid pick chosen next chose some call chooses goes =
    (chose.0, chose.1, chose.2, chose.3, chose.4, chose.5, chosen_more m chose.1 (turn m s first) picks mid pick chosen next chose.6 some call chooses goes)

-- the first of some turns, which are told and were chosen
pub record HasMade (labels : RoundLabels) (c : Choice) (m : Facts) (first : System) (picks : List Pick) : Type 0 where
  pub fewer : List Pick
  pub more : List Pick
  pub picks_are : picks ≡ fewer ++ more
  pub tells : Telling
  pub told : AreTold labels tells (setup_of m the_means) first fewer
  pub after : Choice
  pub chosen : AreChosen (setup_of m the_means) c first fewer after

-- what a fault leaves written of turns: where memory lacks nothing, or the lines of the first of them
abbrev pub Leaves : Fault → RoundLabels → Choice → Bool → Facts → System → List Pick → SinkState → SinkState → Type 0
Leaves NoMemory labels c is_shown m first picks old new =
    (new ≡ old) ⊎ ((made : HasMade labels c m first picks) × Takes old new (if_shown is_shown made.tells.text))
Leaves Write labels c is_shown m first picks old new =
    (made : HasMade labels c m first picks) × FailsAt old new (if_shown is_shown made.tells.text)

-- ---- a log as a watcher

module _ {W S : Type 0} (kept : W → Kept) (sink : W → S) (taken : S → Option (List ℕ)) (faults : S → ℕ) where
  abbrev pub state : W → SinkState
  state w = record { taken = taken (sink w); faults = faults (sink w) }

  abbrev pub view : W → LogState
  view w = record { kept = kept w; sink = state w }

  abbrev pub BeginsLog : Facts → W → List Local → W → Type 0
  BeginsLog m w locals v = Begun (kept w) locals (kept v) (state w) (state v)

  abbrev pub ChoosesLog : Facts → W → System → ℕ → W → Type 0
  ChoosesLog m w s worker v = Picks (kept w) (unfinished s) worker (kept v) × (sink v ≡ sink w)

  abbrev pub HaltsLog : Facts → W → System → Halt → W → Type 0
  HaltsLog m w s halt v = Halts (kept w) (unfinished s) halt (kept v) × (sink v ≡ sink w)

  abbrev pub DoneLog : Facts → W → System → W → Type 0
  DoneLog m w s v = IsOverAll (kept w) (kept v) × (sink v ≡ sink w)

  abbrev pub HearsLog : Facts → W → Happening → W → Type 0
  HearsLog m w h v = Hears m (kept w) (state w) h (kept v) (state v)

  state_same : (w v : W) → sink v ≡ sink w → state v ≡ state w
  state_same w v same = ap (λ (x : S). record { taken = taken x; faults = faults x }) same

  -- ---- where nothing has failed

  fine_at : (m : Facts) (w : W) (s : System) (picks : List Pick) (v : W) → AreWatched ChoosesLog HearsLog m w s picks v → (kept v).fault ≡ None → (kept w).fault ≡ None
  fine_at m w s [] v watched fine = ap (λ (x : W). (kept x).fault) (sym watched) ∙ fine
  fine_at m w s (pick ∷ picks) v watched fine = watched.1.choice.0.fault

  heard_all : (m : Facts) (w : W) (hs : List Happening) (v : W) → FoldsTo (HearsLog m) w hs v → FoldsTo (Heard m) (view w) hs (view v)
  heard_all m w [] v heard = ap view heard
  heard_all m w (h ∷ hs) v heard = (view heard.0, heard.1, heard_all m heard.0 hs v heard.2)

  are_heard : (m : Facts) (w : W) (s : System) (picks : List Pick) (v : W) → AreWatched ChoosesLog HearsLog m w s picks v → AreHeard m (view w) (told_by (setup_of m the_means) s picks) (view v)
  are_heard m w s [] v watched = ap view watched
  are_heard m w s (pick ∷ picks) v watched =
      let k : Setup = setup_of m the_means in
      let one : IsWatchedTurn ChoosesLog HearsLog m w s pick watched.0 = watched.1 in (
        view one.chosen,
        view watched.0,
        record { kept = one.choice.0.rest; sink = state_same w one.chosen one.choice.1 },
        one_turn k pick.refused s pick.worker,
        heard_all m one.chosen (happenings_of k pick.refused s pick.worker) watched.0 one.heard,
        are_heard m watched.0 (turn k s pick) picks v watched.2,
      )

  are_chosen : (m : Facts) (w : W) (s : System) (picks : List Pick) (v : W) → AreWatched ChoosesLog HearsLog m w s picks v → (kept w).lines.items ≡ [] → (kept v).fault ≡ None
      → AreChosen (setup_of m the_means) (kept w).choice s picks (kept v).choice
  are_chosen m w s [] v watched empty fine = ap (λ (x : W). (kept x).choice) watched
  are_chosen m w s (pick ∷ picks) v watched empty fine =
      let k : Setup = setup_of m the_means in
      let one : IsWatchedTurn ChoosesLog HearsLog m w s pick watched.0 = watched.1 in
      let hs : List Happening = happenings_of k pick.refused s pick.worker in
      let is_one : IsOneTurn hs = one_turn k pick.refused s pick.worker in
      let lines : (kept one.chosen).lines.items ≡ [] = ap (λ (x : Kept). x.lines.items) one.choice.0.rest ∙ empty in
      let next : (kept watched.0).fault ≡ None = fine_at m watched.0 (turn k s pick) picks v watched.2 fine in
      let wrote = turns_written m (view one.chosen) hs (view watched.0) is_one (heard_all m one.chosen hs watched.0 one.heard) lines next in
      let G : Ended → Type 0 = λ e. Goes (kept one.chosen).choice e (kept watched.0).choice in (
        (kept one.chosen).choice,
        (kept watched.0).choice,
        one.some,
        one.call,
        one.choice.0.choice,
        subst G (ended_is k pick.refused s pick.worker (kept one.chosen).waits is_one) wrote.1,
        are_chosen m watched.0 (turn k s pick) picks v watched.2 wrote.0.lines fine,
      )

  -- so much is known of a round's turns
  pub record Went (labels : RoundLabels) (c : Choice) (is_shown : Bool) (m : Facts) (w : W) (first : System) (picks : List Pick) (v : W) : Type 0 where
    pub tells : Telling
    pub told : AreTold labels tells (setup_of m the_means) first picks
    pub chosen : AreChosen (setup_of m the_means) c first picks (kept v).choice
    pub takes : Takes (state w) (state v) (if_shown is_shown tells.text)
    pub context : tells.context ≡ (kept v).context
    pub made : IsMade (kept v).made tells.made
    pub text : tells.text ≡ first_lines labels first.locals ++ turns_text labels m first_context (come_about (setup_of m the_means) first picks)
    pub labels_are : (kept v).labels ≡ labels
    pub shown_is : (kept v).is_shown ≡ is_shown
    pub lines : (kept v).lines.items ≡ []

  pub went : (labels : RoundLabels) (c : Choice) (is_shown : Bool) (m : Facts) (w : W) (first : System) (picks : List Pick) (last : System) (v : W)
      → IsFirstKept (kept w) labels c is_shown → WasWatched BeginsLog ChoosesLog HearsLog m w first picks last v → (kept v).fault ≡ None
      → Went labels c is_shown m w first picks v
  went labels c is_shown m w first picks last v first_kept was fine =
      let k : Setup = setup_of m the_means in
      let b : W = was.begun in
      let hs : List Happening = come_about k first picks in
      let fine_b : (kept b).fault ≡ None = fine_at m b first picks v was.turns fine in
      let writes : Writes (kept w) ((kept w).lines.items ++ first_lines (kept w).labels first.locals) (kept b) (state w) (state b) = was.begins.writes first_kept.fault in
      let one : AreLinesWritten (kept w) ((kept w).lines.items ++ first_lines (kept w).labels first.locals) (kept b) (state w) (state b) = writes.written fine_b in
      let all : AreWritten m (view b) hs (view v) = rounds_written m (view b) (told_by k first picks) (view v) (are_heard m b first picks v was.turns) one.lines fine in
      let front : List ℕ = first_lines labels first.locals in
      let back : List ℕ = turns_text labels m first_context hs in
      let labels_b : (kept b).labels ≡ labels = writes.alike.labels ∙ first_kept.labels_are in
      let shown_b : (kept b).is_shown ≡ is_shown = writes.alike.is_shown ∙ first_kept.shown in
      let context_b : (kept b).context ≡ first_context = one.context ∙ first_kept.context in
      let is_front : shown (kept w) ((kept w).lines.items ++ first_lines (kept w).labels first.locals) ≡ if_shown is_shown front =
      ap (λ (x : Bool). if_shown x ((kept w).lines.items ++ first_lines (kept w).labels first.locals)) first_kept.shown
      ∙ ap (λ (x : List ℕ). if_shown is_shown (x ++ first_lines (kept w).labels first.locals)) first_kept.lines
      ∙ ap (λ (x : RoundLabels). if_shown is_shown (first_lines x first.locals)) first_kept.labels_are in
      let is_back : shown (kept b) (turns_text (kept b).labels m (kept b).context hs) ≡ if_shown is_shown back =
      ap (λ (x : Bool). if_shown x (turns_text (kept b).labels m (kept b).context hs)) shown_b
      ∙ ap (λ (x : RoundLabels). if_shown is_shown (turns_text x m (kept b).context hs)) labels_b
      ∙ ap (λ (x : Context). if_shown is_shown (turns_text labels m x hs)) context_b in
      let takes : Takes (state w) (state v) (if_shown is_shown front ++ if_shown is_shown back) =
      takes_both (state w) (state b) (state v) (if_shown is_shown front) (if_shown is_shown back)
      (takes_as (state w) (state b) _ _ is_front one.taken) (takes_as (state b) (state v) _ _ is_back all.taken) in
      record {
        tells = record { text = front ++ back; context = context_behind first_context hs; made = fold made_after [] hs };
        told = record { facts = m; setup = refl; text = refl; context = refl; made = refl };
        chosen = subst (λ (x : Choice). AreChosen k x first picks (kept v).choice) (was.begins.choice ∙ first_kept.choice_is) (are_chosen m b first picks v was.turns one.lines fine);
        takes = takes_as (state w) (state v) _ _ (shown_both is_shown front back) takes;
        context = sym (all.context ∙ ap (λ (x : Context). context_behind x hs) context_b);
        made = all.made [] (one.made [] first_kept.made);
        text = refl;
        labels_are = all.alike.labels ∙ labels_b;
        shown_is = all.alike.is_shown ∙ shown_b;
        lines = all.lines;
      }

  -- ---- where something has

  -- no turn is made behind it
  ends_there : (m : Facts) (w : W) (s : System) (picks : List Pick) (v : W) (fault : Fault) → (kept w).fault ≡ Some fault → AreWatched ChoosesLog HearsLog m w s picks v → v ≡ w × (picks ≡ [])
  ends_there m w s [] v fault failed watched = (watched, refl)
  ends_there m w s (pick ∷ picks) v fault failed watched = absurd (some_is (kept w).fault fault failed watched.1.choice.0.fault)

  -- so it came about in the last turn
  record FellAt (m : Facts) (w : W) (s : System) (picks : List Pick) (v : W) : Type 0 where
    pub fewer : List Pick
    pub last : Pick
    pub picks_are : picks ≡ fewer ++ last ∷ []
    pub at : W
    pub before : AreWatched ChoosesLog HearsLog m w s fewer at
    pub one : IsWatchedTurn ChoosesLog HearsLog m at (run (setup_of m the_means) s fewer) last v

  fell_at : (m : Facts) (w : W) (s : System) (picks : List Pick) (v : W) (fault : Fault) → AreWatched ChoosesLog HearsLog m w s picks v → (kept w).fault ≡ None → (kept v).fault ≡ Some fault → FellAt m w s picks v
  fell_at m w s [] v fault watched fine failed = absurd (some_is (kept v).fault fault failed (ap (λ (x : W). (kept x).fault) watched ∙ fine))
  fell_at m w s (pick ∷ picks) v fault watched fine failed =
      by (kept watched.0).fault refl (λ is. fell_at m watched.0 (turn (setup_of m the_means) s pick) picks v fault watched.2 is failed)
    where
      by : (o : Option Fault) → (kept watched.0).fault ≡ o → ((kept watched.0).fault ≡ None → FellAt m watched.0 (turn (setup_of m the_means) s pick) picks v) → FellAt m w s (pick ∷ picks) v
      by None is more =
          let rest : FellAt m watched.0 (turn (setup_of m the_means) s pick) picks v = more is in
          record {
            fewer = pick ∷ rest.fewer;
            last = rest.last;
            picks_are = ap (λ (ps : List Pick). pick ∷ ps) rest.picks_are;
            at = rest.at;
            before = (watched.0, watched.1, rest.before);
            one = rest.one;
          }
      by (Some other) is more =
          let over = ends_there m watched.0 (turn (setup_of m the_means) s pick) picks v other is watched.2 in
          record {
            fewer = [];
            last = pick;
            picks_are = ap (λ (ps : List Pick). pick ∷ ps) over.1;
            at = w;
            before = refl;
            one = subst (λ (x : W). IsWatchedTurn ChoosesLog HearsLog m w s pick x) (sym over.0) watched.1;
          }

  -- the turns before it
  went_before : (labels : RoundLabels) (c : Choice) (is_shown : Bool) (m : Facts) (w : W) (first : System) (picks : List Pick) (last : System) (v : W)
      → IsFirstKept (kept w) labels c is_shown → (was : WasWatched BeginsLog ChoosesLog HearsLog m w first picks last v) → (fell : FellAt m was.begun first picks v)
      → Went labels c is_shown m w first fell.fewer fell.at
  went_before labels c is_shown m w first picks last v first_kept was fell =
      let k : Setup = setup_of m the_means in
      let long : length picks ≡ length fell.fewer + 1 = ap length fell.picks_are ∙ length-append fell.fewer (fell.last ∷ []) in
      let before : WasWatched BeginsLog ChoosesLog HearsLog m w first fell.fewer (run k first fell.fewer) fell.at = record {
        begun = was.begun;
        begins = was.begins;
        turns = fell.before;
        run = refl;
        within = omega (arith, was.within, long);
      } in
      went labels c is_shown m w first fell.fewer (run k first fell.fewer) fell.at first_kept before fell.one.choice.0.fault

  -- what came of the begin of the round
  begun_failed : (m : Facts) (w : W) (first : System) (picks : List Pick) (v : W) (labels : RoundLabels) (c : Choice) (is_shown : Bool) (b : W) (fault : Fault)
      → IsFirstKept (kept w) labels c is_shown → BeginsLog m w first.locals b → (kept b).fault ≡ Some fault → v ≡ b → Leaves fault labels c is_shown m first picks (state w) (state v)
  begun_failed m w first picks v labels c is_shown b fault first_kept begun failed same =
      subst (λ (x : W). Leaves fault labels c is_shown m first picks (state w) (state x)) (sym same) (by fault (subst (λ (x : Option Fault). IfSome x (λ fault. FailsBy fault (shown (kept w) text) (state w) (state b))) failed writes.failed))
    where
      text : List ℕ
      text = (kept w).lines.items ++ first_lines (kept w).labels first.locals

      writes : Writes (kept w) text (kept b) (state w) (state b)
      writes = begun.writes first_kept.fault

      front : List ℕ
      front = first_lines labels first.locals

      is : shown (kept w) text ≡ if_shown is_shown (front ++ [])
      is =
          ap (λ (x : Bool). if_shown x text) first_kept.shown
          ∙ ap (λ (x : List ℕ). if_shown is_shown (x ++ first_lines (kept w).labels first.locals)) first_kept.lines
          ∙ ap (λ (x : RoundLabels). if_shown is_shown (first_lines x first.locals)) first_kept.labels_are
          ∙ ap (λ (x : List ℕ). if_shown is_shown x) (sym (append-nil front))

      by : (fault : Fault) → FailsBy fault (shown (kept w) text) (state w) (state b) → Leaves fault labels c is_shown m first picks (state w) (state b)
      by NoMemory fails = inl fails
      by Write fails = (
        record {
          fewer = [];
          more = picks;
          picks_are = refl;
          tells = record { text = front ++ []; context = first_context; made = [] };
          told = record { facts = m; setup = refl; text = refl; context = refl; made = refl };
          after = c;
          chosen = refl;
        },
        subst (λ (x : List ℕ). FailsAt (state w) (state b) x) is fails,
      )

  -- what came of the turn in which it came about
  fell_so : (labels : RoundLabels) (c : Choice) (is_shown : Bool) (m : Facts) (w : W) (first : System) (picks : List Pick) (v : W) (fault : Fault) (b : W) (fell : FellAt m b first picks v)
      → Went labels c is_shown m w first fell.fewer fell.at → (kept v).fault ≡ Some fault → Leaves fault labels c is_shown m first picks (state w) (state v)
  fell_so labels c is_shown m w first picks v NoMemory b fell before failed =
      let k : Setup = setup_of m the_means in
      let one : IsWatchedTurn ChoosesLog HearsLog m fell.at (run k first fell.fewer) fell.last v = fell.one in
      let hs : List Happening = happenings_of k fell.last.refused (run k first fell.fewer) fell.last.worker in
      let same : state v ≡ state fell.at = turn_unwritten m (view one.chosen) hs (view v) (one_turn k fell.last.refused (run k first fell.fewer) fell.last.worker) (heard_all m one.chosen hs v one.heard) failed ∙ state_same fell.at one.chosen one.choice.1 in
      inr (
        record {
          fewer = fell.fewer;
          more = fell.last ∷ [];
          picks_are = fell.picks_are;
          tells = before.tells;
          told = before.told;
          after = (kept fell.at).choice;
          chosen = before.chosen;
        },
        subst (λ (x : SinkState). Takes (state w) x (if_shown is_shown before.tells.text)) (sym same) before.takes,
      )
  fell_so labels c is_shown m w first picks v Write b fell before failed =
      let k : Setup = setup_of m the_means in
      let at : W = fell.at in
      let s : System = run k first fell.fewer in
      let one : IsWatchedTurn ChoosesLog HearsLog m at s fell.last v = fell.one in
      let hs : List Happening = happenings_of k fell.last.refused s fell.last.worker in
      let lines : (kept one.chosen).lines.items ≡ [] = ap (λ (x : Kept). x.lines.items) one.choice.0.rest ∙ before.lines in
      let fine : (kept one.chosen).fault ≡ None = ap (λ (x : Kept). x.fault) one.choice.0.rest ∙ one.choice.0.fault in
      let fails : FailsAt (state one.chosen) (state v) (shown (kept one.chosen) (turns_text (kept one.chosen).labels m (kept one.chosen).context hs)) =
      turn_failed m (view one.chosen) hs (view v) (one_turn k fell.last.refused s fell.last.worker) (heard_all m one.chosen hs v one.heard) fine lines failed in
      let c_before : Context = context_behind first_context (come_about k first fell.fewer) in
      let text : List ℕ = turns_text labels m c_before hs in
      let context : (kept one.chosen).context ≡ c_before = ap (λ (x : Kept). x.context) one.choice.0.rest ∙ sym before.context ∙ before.told.context in
      let labels_are : (kept one.chosen).labels ≡ labels = ap (λ (x : Kept). x.labels) one.choice.0.rest ∙ before.labels_are in
      let shown_is : (kept one.chosen).is_shown ≡ is_shown = ap (λ (x : Kept). x.is_shown) one.choice.0.rest ∙ before.shown_is in
      let is : shown (kept one.chosen) (turns_text (kept one.chosen).labels m (kept one.chosen).context hs) ≡ if_shown is_shown text =
      ap (λ (x : Bool). if_shown x (turns_text (kept one.chosen).labels m (kept one.chosen).context hs)) shown_is
      ∙ ap (λ (x : RoundLabels). if_shown is_shown (turns_text x m (kept one.chosen).context hs)) labels_are
      ∙ ap (λ (x : Context). if_shown is_shown (turns_text labels m x hs)) context in
      let from : FailsAt (state at) (state v) (if_shown is_shown text) =
      subst (λ (x : SinkState). FailsAt x (state v) (if_shown is_shown text)) (state_same at one.chosen one.choice.1) (subst (λ (x : List ℕ). FailsAt (state one.chosen) (state v) x) is fails) in
      let both : FailsAt (state w) (state v) (if_shown is_shown before.tells.text ++ if_shown is_shown text) = fails_after (state w) (state at) (state v) (if_shown is_shown before.tells.text) (if_shown is_shown text) before.takes from in
      let front : List ℕ = first_lines labels first.locals in
      let more : List Pick = fell.fewer ++ fell.last ∷ [] in
      let is_text : before.tells.text ++ text ≡ front ++ turns_text labels m first_context (come_about k first more) =
      ap (λ (x : List ℕ). x ++ text) before.text
      ∙ append_assoc front (turns_text labels m first_context (come_about k first fell.fewer)) text
      ∙ ap (λ (x : List ℕ). front ++ x) (sym (text_of_both labels m first_context (come_about k first fell.fewer) hs))
      ∙ ap (λ (xs : List Happening). front ++ turns_text labels m first_context xs) (sym (come_about_more k first fell.fewer fell.last)) in
      let next = goes_somewhere (kept one.chosen).choice (ended_of hs) in (
        record {
          fewer = more;
          more = [];
          picks_are = fell.picks_are ∙ sym (append-nil more);
          tells = record {
            text = front ++ turns_text labels m first_context (come_about k first more);
            context = context_behind first_context (come_about k first more);
            made = fold made_after [] (come_about k first more);
          };
          told = record { facts = m; setup = refl; text = refl; context = refl; made = refl };
          after = next.0;
          chosen = chosen_more k c first fell.fewer (kept at).choice fell.last (kept one.chosen).choice next.0 before.chosen one.some one.call one.choice.0.choice next.1;
        },
        subst (λ (x : List ℕ). FailsAt (state w) (state v) x) (shown_both is_shown before.tells.text text ∙ ap (λ (x : List ℕ). if_shown is_shown x) is_text) both,
      )

  pub fell : (labels : RoundLabels) (c : Choice) (is_shown : Bool) (m : Facts) (w : W) (first : System) (picks : List Pick) (last : System) (v : W) (fault : Fault)
      → IsFirstKept (kept w) labels c is_shown → WasWatched BeginsLog ChoosesLog HearsLog m w first picks last v → (kept v).fault ≡ Some fault
      → Leaves fault labels c is_shown m first picks (state w) (state v)
  fell labels c is_shown m w first picks last v fault first_kept was failed = by (kept was.begun).fault refl
    where
      by : (o : Option Fault) → (kept was.begun).fault ≡ o → Leaves fault labels c is_shown m first picks (state w) (state v)
      by None fine =
          let at : FellAt m was.begun first picks v = fell_at m was.begun first picks v fault was.turns fine failed in
          fell_so labels c is_shown m w first picks v fault was.begun at (went_before labels c is_shown m w first picks last v first_kept was at) failed
      by (Some other) is =
          let over = ends_there m was.begun first picks v other is was.turns in
          let same : Some fault ≡ Some other = sym failed ∙ ap (λ (x : W). (kept x).fault) over.0 ∙ is in
          begun_failed m w first picks v labels c is_shown was.begun fault first_kept was.begins (sym (ap (λ (x : W). (kept x).fault) over.0) ∙ failed) over.0
