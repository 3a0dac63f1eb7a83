-- What a free of an object that is on the board is answered.
use Rattle.std.proofs.Common.{◌≡◌, ℕ, ◌&&◌, ◌||◌, cond, eqb, Bool, true, false, List, [], ◌∷◌, refl, sym, subst, arith, IsSome, inl, inr}
use Rattle.std.specs.List.{zip}
use Rattle.std.proofs.lemmas.List.Sums.{sum_by-cons}
use Rattle.slub_trace.specs.declared.event.Act.TheVariants.{Free}
use Rattle.slub_trace.specs.declared.reply.Reply.{Reply}
use Rattle.slub_trace.specs.declared.reply.Reply.TheVariants as reply
use Rattle.slub_lists.specs.State.{State}
use Rattle.slub_lists.specs.Coherent.{held_under}
use Rattle.slub_slabinfo_text.specs.declared.journal.RoundResult.{RoundResult}
use Rattle.slub_slabinfo_text.specs.Asked.{event_of, round_of}
use Rattle.slub_law_rounds.specs.Answered.{Answered, did_free, found_bad, times_taken}
use Rattle.slub_law_rounds.specs.Round.{FreeCause, HaveCauses, IsRound}
use Rattle.slub_rounds.proofs.ClientReplies.{one_reply}
use Rattle.slub_rounds.proofs.Staying.{held-or-none}
use Rattle.slub_mempool.specs.Serving.{FreesHeld, IsFreeOfHeld}

-- that it isn't held is no answer that takes it
none-taken : (cpu object : ℕ) → times_taken object ((event_of cpu (Free object), reply.NotHeld) ∷ []) ≡ 0
none-taken cpu object =
    omega (arith, sum_by-cons (λ (one : Answered). cond (did_free object one || found_bad object one) 1 0) (event_of cpu (Free object), reply.NotHeld) [], by (eqb object object))
  where
    by : (b : Bool) → ◌≡◌ {A = ℕ} (cond ((b && false) || (b && false)) 1 0) 0
    by true = refl
    by false = refl

free-told : (before : State) (cpu object : ℕ) (told : Reply) → IsSome (held_under before object) → FreeCause before ((event_of cpu (Free object), told) ∷ []) [] object told → IsFreeOfHeld told
free-told before cpu object (reply.Freed address) some cause = tt
free-told before cpu object (reply.Corrupt damage) some cause = tt
free-told before cpu object reply.NotHeld some cause = elim cause.1 [
  | inl none ↦ absurd (held-or-none before object some none)
  | inr taken ↦ absurd (let never : ⊥ = omega (arith, taken, none-taken cpu object) in never)
]
free-told before cpu object told some cause = absurd cause

pub frees-held : (s : State) (cpu object : ℕ) (result : RoundResult) (after : State) → IsRound s (round_of cpu (Free object ∷ [])) result after → IsSome (held_under s object) → FreesHeld result.replies
frees-held s cpu object result after law some =
    let one = one_reply s cpu (Free object) result after law in
    let causes : HaveCauses s ((event_of cpu (Free object), one.0) ∷ []) = subst (λ (l : List Reply). HaveCauses s (zip (round_of cpu (Free object ∷ [])).events l)) one.1 law.causes in
    subst FreesHeld (sym one.1) (free-told s cpu object one.0 some (causes 0 [] (event_of cpu (Free object), one.0) (record { later = []; split = refl })))
