-- The turns of a machine that is watched are told to its watcher.
use Rattle.std.specs.Prelude.{MatchResult}
use Rattle.std.specs.List.{FoldsTo}
use Rattle.std.proofs.Common.{◌≡◌, ◌≤◌, ℕ, List, [], ◌∷◌, refl, sym, ap, ◌∙◌, subst, length, arith, Result, Ok, Err}
use Rattle.slub_core.specs.Setup.{Setup}
use Rattle.slub_core.specs.Local.{Local}
use Rattle.slub_core.specs.Facts.{Facts, setup_of}
use Rattle.slub_core.specs.Run.{System, Pick, run}
use Rattle.slub_schedule.specs.Turns.{turns_of}
use Rattle.slub_schedule.specs.Made.{AreMade, EndsBy, SpendsBy, HaltsBy, IsUnended}
use Rattle.slub_schedule.specs.declared.machine.Unended.{Unended}
use Rattle.slub_schedule.specs.declared.machine.Unended.TheVariants.{TurnsSpent, Halted}
use Rattle.slub_schedule.proofs.Drawn.{made_run}
use Rattle.slub_turns.specs.declared.machine.StepMachine.{StepMachine}
use Rattle.slub_turns.specs.declared.watched.Watched.{Watched}
use Rattle.slub_turns.specs.Happenings.{Happening, happenings_of}
use Rattle.slub_turns.specs.Means.{the_means}
use Rattle.slub_rounds.specs.Machine.{system_in}
use Rattle.slub_rounds.specs.Watched.{AreWatched, WasWatched, EndsWatched, SpendsWatched, HaltsWatched, IsUnendedWatched}

module _ {W : Type 0} (begins_round : Facts → W → List Local → W → Type 0) (chooses : Facts → W → System → ℕ → W → Type 0) (hears : Facts → W → Happening → W → Type 0) where
  -- as a machine that is watched has it
  abbrev setup_at : Watched W → Setup
  setup_at a = setup_of a.machine.setup the_means

  abbrev system_at : Watched W → System
  system_at a = system_in a.machine

  abbrev chooses_at : Watched W → ℕ → Watched W → Type 0
  chooses_at a worker b = (b.machine ≡ a.machine) × chooses a.machine.setup a.watch (system_in a.machine) worker b.watch

  abbrev notes_at : Watched W → Pick → Watched W → Type 0
  notes_at a pick b = (b.machine.setup ≡ a.machine.setup) × FoldsTo (hears a.machine.setup) a.watch (happenings_of (setup_of a.machine.setup the_means) pick.refused (system_in a.machine) pick.worker) b.watch

  abbrev Made : Watched W → List Pick → Watched W → Type 0
  Made a picks b = AreMade setup_at system_at chooses_at notes_at a picks b

  made_watched : (a : Watched W) (ps : List Pick) (b : Watched W) → Made a ps b → AreWatched chooses hears a.machine.setup a.watch (system_in a.machine) ps b.watch × (b.machine.setup ≡ a.machine.setup)
  made_watched a [] b is = (ap (λ (w : Watched W). w.watch) is, ap (λ (w : Watched W). w.machine.setup) is)
  made_watched a (p ∷ ps) b (next, first, rest) =
      let r = made_watched next ps b rest in
      let c : Watched W = first.chosen in
      let same : c.machine ≡ a.machine = first.choice.0 in
      let kept : next.machine.setup ≡ a.machine.setup = first.noted.0 ∙ ap (λ (m : StepMachine). m.setup) same in
      let P : StepMachine → Type 0 = λ m. FoldsTo (hears m.setup) c.watch (happenings_of (setup_of m.setup the_means) p.refused (system_in m) p.worker) next.watch in
      let Q : Facts × System → Type 0 = λ q. AreWatched chooses hears q.0 next.watch q.1 ps b.watch in (
        (next.watch, record { some = first.some; chosen = c.watch; choice = first.choice.1; call = first.call; heard = subst P same first.noted.1 }, subst Q (λ i. (kept i, first.turned i)) r.0),
        r.1 ∙ kept,
      )

  was_watched : (watch : W) (a : Watched W) (ps : List Pick) (b : Watched W) (last : System) → begins_round a.machine.setup watch a.machine.locals.items a.watch → Made a ps b → length ps ≤ turns_of (system_in a.machine) → last ≡ system_in b.machine
      → WasWatched begins_round chooses hears a.machine.setup watch (system_in a.machine) ps last b.watch
  was_watched watch a ps b last begins made within same = record {
    begun = a.watch;
    begins = begins;
    turns = (made_watched a ps b made).0;
    run = same ∙ (made_run setup_at system_at chooses_at notes_at a ps b made).0;
    within = within;
  }

  pub ends_watched : (is_done : Facts → W → System → W → Type 0) (watch : W) (a b : Watched W) → begins_round a.machine.setup watch a.machine.locals.items a.watch
      → (ends : EndsBy setup_at system_at chooses_at notes_at (λ x y. (y.machine ≡ x.machine) × is_done x.machine.setup x.watch (system_in x.machine) y.watch) a b)
      → EndsWatched begins_round chooses hears is_done watch b.watch (setup_of a.machine.setup the_means) (system_in a.machine) ends.picks (system_in b.machine)
  ends_watched is_done watch a b begins ends =
      let by : Watched W = ends.by in
      let kept = (made_watched a ends.picks by ends.made).1 in
      let P : Facts × System → Type 0 = λ q. is_done q.0 by.watch q.1 b.watch in
      record {
        facts = a.machine.setup;
        setup = refl;
        told = by.watch;
        watched = was_watched watch a ends.picks by (system_in b.machine) begins ends.made ends.within ends.same;
        done = subst P (λ i. (kept i, sym ends.same i)) ends.done.1;
        finished = ends.finished;
      }

  pub spent_watched : (watch : W) (a b : Watched W) → begins_round a.machine.setup watch a.machine.locals.items a.watch → (spends : SpendsBy setup_at system_at chooses_at notes_at a b)
      → SpendsWatched begins_round chooses hears watch b.watch (setup_of a.machine.setup the_means) (system_in a.machine) spends.picks (system_in b.machine)
  spent_watched watch a b begins spends = record {
    facts = a.machine.setup;
    setup = refl;
    watched = was_watched watch a spends.picks b (system_in b.machine) begins spends.made (let e = spends.all in omega arith) refl;
    all = spends.all;
    unfinished = spends.unfinished;
  }

  pub halted_watched : {H : Type 0} (halts : Facts → W → System → H → W → Type 0) (watch : W) (a b : Watched W) (why : H) → begins_round a.machine.setup watch a.machine.locals.items a.watch
      → (stops : HaltsBy setup_at system_at chooses_at notes_at (λ x h y. (y.machine ≡ x.machine) × halts x.machine.setup x.watch (system_in x.machine) h y.watch) a why b)
      → HaltsWatched begins_round chooses hears halts watch why b.watch (setup_of a.machine.setup the_means) (system_in a.machine) stops.picks (system_in b.machine)
  halted_watched halts watch a b why begins stops =
      let by : Watched W = stops.by in
      let kept = (made_watched a stops.picks by stops.made).1 in
      let P : Facts × System → Type 0 = λ q. halts q.0 by.watch q.1 why b.watch in
      record {
        facts = a.machine.setup;
        setup = refl;
        told = by.watch;
        watched = was_watched watch a stops.picks by (system_in b.machine) begins stops.made stops.within stops.same;
        halted = subst P (λ i. (kept i, sym stops.same i)) stops.halted.1;
      }

  pub came_watched : {H : Type 0} (is_done : Facts → W → System → W → Type 0) (halts : Facts → W → System → H → W → Type 0) (watch : W) (a b : Watched W) (result : Result Unit (Unended H)) → begins_round a.machine.setup watch a.machine.locals.items a.watch
      → MatchResult result (λ _. EndsBy setup_at system_at chooses_at notes_at (λ x y. (y.machine ≡ x.machine) × is_done x.machine.setup x.watch (system_in x.machine) y.watch) a b)
      (λ why. IsUnended setup_at system_at chooses_at notes_at (λ x h y. (y.machine ≡ x.machine) × halts x.machine.setup x.watch (system_in x.machine) h y.watch) a why b)
      → MatchResult result (λ _. (picks : List Pick) × EndsWatched begins_round chooses hears is_done watch b.watch (setup_of a.machine.setup the_means) (system_in a.machine) picks (system_in b.machine))
      (λ why. (picks : List Pick) × IsUnendedWatched begins_round chooses hears halts watch why b.watch (setup_of a.machine.setup the_means) (system_in a.machine) picks (system_in b.machine))
  came_watched is_done halts watch a b (Ok _) begins ends = (ends.picks, ends_watched is_done watch a b begins ends)
  came_watched is_done halts watch a b (Err TurnsSpent) begins spends = (spends.picks, spent_watched watch a b begins spends)
  came_watched is_done halts watch a b (Err (Halted why)) begins stops = (stops.picks, halted_watched halts watch a b why begins stops)

  -- what came of it, by the reason
  pub spent_came : {H : Type 0} (halts : Facts → W → System → H → W → Type 0) (watch after : W) (why : Unended H) (m : Setup) (first : System) (picks : List Pick) (last : System) → why ≡ TurnsSpent
      → IsUnendedWatched begins_round chooses hears halts watch why after m first picks last → SpendsWatched begins_round chooses hears watch after m first picks last
  spent_came {H} halts watch after why m first picks last is came =
      let U : Unended H → Type 0 = λ u. IsUnendedWatched begins_round chooses hears halts watch u after m first picks last in
      subst U is came

  pub halted_came : {H : Type 0} (halts : Facts → W → System → H → W → Type 0) (watch after : W) (why : Unended H) (said : H) (m : Setup) (first : System) (picks : List Pick) (last : System) → why ≡ Halted said
      → IsUnendedWatched begins_round chooses hears halts watch why after m first picks last → HaltsWatched begins_round chooses hears halts watch said after m first picks last
  halted_came {H} halts watch after why said m first picks last is came =
      let U : Unended H → Type 0 = λ u. IsUnendedWatched begins_round chooses hears halts watch u after m first picks last in
      subst U is came
