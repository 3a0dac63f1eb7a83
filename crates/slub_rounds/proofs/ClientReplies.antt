-- The replies of a client's round.
use Rattle.std.proofs.Common.{◌≡◌, ℕ, List, [], ◌∷◌, length, refl, ap, arith}
use Rattle.slub_trace.specs.declared.event.Act.{Act}
use Rattle.slub_trace.specs.declared.reply.Reply.{Reply}
use Rattle.slub_lists.specs.State.{State}
use Rattle.slub_slabinfo_text.specs.declared.journal.RoundResult.{RoundResult}
use Rattle.slub_slabinfo_text.specs.Asked.{round_of}
use Rattle.slub_law_rounds.specs.Round.{IsRound}

-- one act has one reply
pub one_reply : (s : State) (cpu : ℕ) (act : Act) (result : RoundResult) (after : State) → IsRound s (round_of cpu (act ∷ [])) result after → (told : Reply) × (result.replies ≡ told ∷ [])
one_reply s cpu act result after law = by result.replies refl
  where
    one : length result.replies ≡ 1
    one = law.replies

    by : (replies : List Reply) → result.replies ≡ replies → (told : Reply) × (result.replies ≡ told ∷ [])
    by [] is = absurd (let long = ap (λ (l : List Reply). length l) is in let never : ⊥ = omega (arith, long, one) in never)
    by (told ∷ []) is = (told, is)
    by (told ∷ more ∷ replies) is = absurd (let long = ap (λ (l : List Reply). length l) is in let never : ⊥ = omega (arith, long, one) in never)
