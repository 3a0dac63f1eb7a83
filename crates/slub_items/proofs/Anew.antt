-- A round of several workers by steps where no ids stand beside the lists: it begins with new ones, which aren't kept.
use Rattle.std.proofs.Common.{ℕ, ◌≡◌, List, refl, arith, Some, None, inl, inr}
use Rattle.slub_trace.specs.declared.event.Round.{Round}
use Rattle.slub_lists.specs.State.{State}
use Rattle.slub_open_close.specs.Ids.{first_ids}
use Rattle.slub_slabinfo_text.specs.declared.journal.RoundResult.{RoundResult}
use Rattle.slub_law_replay.specs.declared.way.Way.{Way}
use Rattle.slub_law_replay.specs.declared.way.Way.TheVariants.{Serial, Schedule, Threads}
use Rattle.slub_law_replay.specs.Ways.{DoesRoundBy, IsOfSeveral, SpendsTurnsBy}

-- it is done
pub anew : (way : Way) (rounds : ℕ) (s : State) (round : Round) (result : RoundResult) (after : State) (kept : List ℕ) → IsOfSeveral round → (way ≡ Serial → ⊥) → DoesRoundBy way rounds s (Some (first_ids 0 s.cpus)) round result after (Some kept)
    → DoesRoundBy way rounds s None round result after None
anew Serial rounds s round result after kept several steps does = absurd (steps refl)
anew (Schedule seed) rounds s round result after kept several steps (inl (few, does)) = absurd (let never : ⊥ = omega (arith, several, few) in never)
anew (Schedule seed) rounds s round result after kept several steps (inr (more, does)) = inr (several, (does.0, does.1, refl))
anew Threads rounds s round result after kept several steps (inl (few, does)) = absurd (let never : ⊥ = omega (arith, several, few) in never)
anew Threads rounds s round result after kept several steps (inr (more, does)) = inr (several, (does.0, does.1, refl))

-- its turns are spent
pub anew_spent : (way : Way) (rounds : ℕ) (s : State) (round : Round) → IsOfSeveral round → (way ≡ Serial → ⊥) → SpendsTurnsBy way rounds s (Some (first_ids 0 s.cpus)) round → SpendsTurnsBy way rounds s None round
anew_spent Serial rounds s round several steps spent = absurd (steps refl)
anew_spent (Schedule seed) rounds s round several steps (inl (few, spent)) = absurd (let never : ⊥ = omega (arith, several, few) in never)
anew_spent (Schedule seed) rounds s round several steps (inr (more, spent)) = inr (several, spent)
anew_spent Threads rounds s round several steps (few, spent) = absurd (let never : ⊥ = omega (arith, several, few) in never)
