-- Turns that a machine chooses by the numbers that it draws are those that the seed draws.
use Rattle.std.proofs.Common.{◌≡◌, ℕ, List, [], ◌∷◌, ap, ◌∙◌, subst}
use Rattle.slub_core.specs.Setup.{Setup}
use Rattle.slub_core.specs.Run.{System, Pick, run}
use Rattle.slub_schedule.specs.Draws.{next}
use Rattle.slub_schedule.specs.Schedule.{AreDrawn}
use Rattle.slub_schedule.specs.Rounds.{EndsRound, IsSpent}
use Rattle.slub_schedule.specs.Made.{AreMade, EndsBy, SpendsBy, IsDrawn}

module _ {M : Type 0} (setup : M → Setup) (system : M → System) (chooses : M → ℕ → M → Type 0) (notes : M → Pick → M → Type 0) where
  -- whoever chooses, the turns lead where their picks do, and the setup stays
  pub made_run : (a : M) (ps : List Pick) (b : M) → AreMade setup system chooses notes a ps b → (system b ≡ run (setup a) (system a) ps) × (setup b ≡ setup a)
  made_run a [] b is = (ap system is, ap setup is)
  made_run a (p ∷ ps) b (next, first, rest) =
      let r = made_run next ps b rest in
      (r.0 ∙ (λ i. run (first.stays i) (first.turned i) ps), r.1 ∙ first.stays)

  -- the number that is drawn chooses, and the turn draws none
  module _ (draws : M → ℕ) (draw : (a : M) (w : ℕ) (b : M) → chooses a w b → IsDrawn (system a) (draws a) w (draws b)) (leave : (a : M) (p : Pick) (b : M) → notes a p b → draws b ≡ draws a) where
    pub made_drawn : (a : M) (ps : List Pick) (b : M) → AreMade setup system chooses notes a ps b → AreDrawn (setup a) (system a) (draws a) ps
    made_drawn a [] b is = tt
    made_drawn a (p ∷ ps) b (then, first, rest) =
        let r = made_drawn then ps b rest in
        let d = draw a p.worker first.chosen first.choice in
        let x : draws then ≡ next (draws a) = leave first.chosen p then first.noted ∙ d.1 in
        (first.some, d.0, first.call, subst (λ (q : Setup × System × ℕ). AreDrawn q.0 q.1 q.2 ps) (λ i. (first.stays i, first.turned i, x i)) r)

    pub ends_drawn : (is_done : M → M → Type 0) (a b : M) → EndsBy setup system chooses notes is_done a b → (picks : List Pick) × EndsRound (setup a) (draws a) (system a) picks (system b)
    ends_drawn is_done a b ends = (
      ends.picks,
      record {
        drawn = made_drawn a ends.picks ends.by ends.made;
        run = ends.same ∙ (made_run a ends.picks ends.by ends.made).0;
        within = ends.within;
        finished = ends.finished;
      },
    )

    pub spent_drawn : (a b : M) → SpendsBy setup system chooses notes a b → (picks : List Pick) × IsSpent (setup a) (draws a) (system a) picks (system b)
    spent_drawn a b spends = (
      spends.picks,
      record {
        drawn = made_drawn a spends.picks b spends.made;
        run = (made_run a spends.picks b spends.made).0;
        all = spends.all;
        unfinished = spends.unfinished;
      },
    )
