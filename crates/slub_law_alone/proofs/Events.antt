-- Each event has one outcome, and so have events that are made one after the other.
use Rattle.std.proofs.Common.{◌≡◌, false, Bool, All, List, [], ◌∷◌, get_or, drop, refl, sym, ◌∙◌, ap, subst}
use Rattle.std.proofs.lemmas.List.Elements.{All-head, All-tail}
use Rattle.slub_trace.specs.declared.event.Act.{Act}
use Rattle.slub_trace.specs.declared.event.Act.TheVariants.{Alloc, Free, Write, Read, Poke, Trim, Flush}
use Rattle.slub_trace.specs.declared.event.Event.{Event}
use Rattle.slub_trace.specs.declared.reply.Reply.{Reply}
use Rattle.slub_trace.specs.Kinds.{is_no_memory}
use Rattle.slub_lists.specs.State.{State}
use Rattle.slub_slabinfo_text.specs.Lawful.{Answers, RunsEvents}
use Rattle.slub_law_alone.specs.Outcome.{HasOneOutcome}
use Rattle.slub_law_alone.specs.Events.{AnswersHaveOneOutcome}
use Rattle.slub_law_alone.specs.Rounds.{HasMemory, RunsHaveOneOutcome, RunsWithMemoryHaveOneOutcome, TakesNoMemory, wants_of}
use Rattle.slub_law_alone.proofs.Allocations.{allocations_one, unchecked_allocations_one}
use Rattle.slub_law_alone.proofs.OutcomeFrees.{frees_one}
use Rattle.slub_law_alone.proofs.Words.{writes_one, reads_one, pokes_one}
use Rattle.slub_law_alone.proofs.Shrinks.{trims_one, flushes_one}

-- an act that takes no memory
pub quiet_one : (s : State) (event : Event) (act : Act) → TakesNoMemory s act → HasOneOutcome Reply State (Answers s event act)
quiet_one s event (Alloc place object) quiet one other left right a b = unchecked_allocations_one s place event.cpu event.worker object quiet one other left right a b
quiet_one s event (Free object) quiet one other left right a b = frees_one s event.cpu event.worker object one other left right a b
quiet_one s event (Write word object value) quiet one other left right a b = writes_one s event.worker object word value one other left right a b
quiet_one s event (Read word object) quiet one other left right a b = (reads_one s event.worker object word one other a.0 b.0, a.1 ∙ sym b.1)
quiet_one s event (Poke object offset byte) quiet one other left right a b = pokes_one s event.worker object offset byte one other left right a b
quiet_one s event (Trim place) quiet one other left right a b = trims_one s place one other left right a b
quiet_one s event Flush quiet one other left right a b = flushes_one s event.cpu one other left right a b

pub answers_one : AnswersHaveOneOutcome
answers_one s event (Alloc place object) one other left right memory a b = allocations_one s place event.cpu event.worker object one other left right memory a b
answers_one s event (Free object) one other left right memory a b = quiet_one s event (Free object) tt one other left right a b
answers_one s event (Write word object value) one other left right memory a b = quiet_one s event (Write word object value) tt one other left right a b
answers_one s event (Read word object) one other left right memory a b = quiet_one s event (Read word object) tt one other left right a b
answers_one s event (Poke object offset byte) one other left right memory a b = quiet_one s event (Poke object offset byte) tt one other left right a b
answers_one s event (Trim place) one other left right memory a b = quiet_one s event (Trim place) tt one other left right a b
answers_one s event Flush one other left right memory a b = quiet_one s event Flush tt one other left right a b

-- ---- one after the other

pub runs_one : RunsHaveOneOutcome
runs_one s [] [] [] left right memory a b = (refl, a ∙ sym b)
runs_one s [] [] (other ∷ others) left right memory a b = absurd b
runs_one s [] (one ∷ ones) others left right memory a b = absurd a
runs_one s (event ∷ events) [] others left right memory a b = absurd a
runs_one s (event ∷ events) (one ∷ ones) [] left right memory a b = absurd b
runs_one s (event ∷ events) (one ∷ ones) (other ∷ others) left right memory a b =
    let here : is_no_memory one ≡ is_no_memory other = ap (λ (xs : List Bool). get_or xs 0 false) memory in
    let there : wants_of ones ≡ wants_of others = ap (λ (xs : List Bool). drop 1 xs) memory in
    let first = answers_one s event event.act one other a.0 b.0 here a.1 b.1 in
    let rest = runs_one b.0 events ones others left right there (subst (λ (mid : State). RunsEvents mid events ones left) first.1 a.3) b.3 in
    ((λ i. first.0 i ∷ rest.0 i), rest.1)

-- where memory is always there, it is wanting nowhere
pub same_wants : (s : State) (events : List Event) (ones others : List Reply) (left right : State) → All HasMemory ones → All HasMemory others → RunsEvents s events ones left → RunsEvents s events others right
    → wants_of ones ≡ wants_of others
same_wants s [] [] [] left right x y a b = refl
same_wants s [] [] (other ∷ others) left right x y a b = absurd b
same_wants s [] (one ∷ ones) others left right x y a b = absurd a
same_wants s (event ∷ events) [] others left right x y a b = absurd a
same_wants s (event ∷ events) (one ∷ ones) [] left right x y a b = absurd b
same_wants s (event ∷ events) (one ∷ ones) (other ∷ others) left right x y a b =
    let here : is_no_memory one ≡ is_no_memory other = All-head HasMemory one ones x ∙ sym (All-head HasMemory other others y) in
    let first = answers_one s event event.act one other a.0 b.0 here a.1 b.1 in
    let there : wants_of ones ≡ wants_of others =
    same_wants b.0 events ones others left right (All-tail HasMemory one ones x) (All-tail HasMemory other others y) (subst (λ (mid : State). RunsEvents mid events ones left) first.1 a.3) b.3 in
    λ i. here i ∷ there i

pub runs_with_memory_one : RunsWithMemoryHaveOneOutcome
runs_with_memory_one s events ones others left right x y a b = runs_one s events ones others left right (same_wants s events ones others left right x y a b) a b
