-- Whose turn comes next by a part of a list of picks.
use Rattle.std.proofs.Common.{◌≡◌, ◌≢◌, ℕ, List, [], Result, Ok, Err, IfOk, IfErr, MatchResult, sym, subst}
use Rattle.slub_picks.specs.declared.walk.Misfit.{Misfit}
use Rattle.slub_picks.specs.declared.walk.Misfit.TheVariants.{PicksEnd}
use Rattle.slub_picks.specs.declared.walk.Walk.{Walk}
use Rattle.slub_picks.specs.Misfits.{IsMisfit}
use Rattle.slub_picks.specs.Turns.{Say, Turn}
use Rattle.slub_picks.specs.Walks.{IsAlong}
use Rattle.slub_round_log.specs.declared.choice.Choice.{Choice}
use Rattle.slub_round_log.specs.declared.choice.Choice.TheVariants.{Part}
use Rattle.slub_round_log.specs.Choices.{IsOver, Refuses}

module _ {U : Type 0} (choice : Choice) (walk : Walk) (is : choice ≡ Part walk) where
  pub over : (r : Result U Misfit) → ((turns : List Turn) → IsAlong walk turns []
      → MatchResult r (λ _. Say walk.workers walk.entries.now turns []) (λ misfit. IsMisfit walk.workers walk.entries.now turns [] misfit))
      → IfOk r (λ _. IsOver choice)
  over (Ok x) ends = subst IsOver (sym is) ends
  over (Err misfit) ends = tt

  pub refused : (r : Result U Misfit) (unfinished : List ℕ) (Told : List Turn → Type 0) → ((turns : List Turn) → IsAlong walk turns unfinished
      → MatchResult r (λ _. Told turns) (λ misfit. IsMisfit walk.workers walk.entries.now turns unfinished misfit))
      → IfErr r (λ misfit. misfit ≢ PicksEnd)
      → IfErr r (λ misfit. Refuses choice unfinished misfit)
  refused (Ok x) unfinished Told ends short = tt
  refused (Err misfit) unfinished Told ends short =
      let P : Choice → Type 0 = λ x. Refuses x unfinished misfit in
      subst P (sym is) (ends, λ early. absurd (short early))
