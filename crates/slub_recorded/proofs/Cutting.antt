-- A loop over turns makes their steps.
use Rattle.std.proofs.Common.{◌≡◌, ℕ, suc, ◌+◌, ◌<◌, ◌≤◌, Bool, List, [], ◌∷◌, ◌++◌, length, drop, get_or, append_assoc, refl, sym, ap, subst, ◌∙◌, Option, arith, drop-cons}
use Rattle.std.proofs.Math.ListN.{drop_of_length-le}
use Rattle.std.proofs.lemmas.List.{append-nil}
use Rattle.slub_recorded.specs.declared.rounds.Plan.{Plan}
use Rattle.slub_recorded.specs.declared.rounds.Step.{Step}
use Rattle.slub_recorded.specs.declared.rounds.Step.TheVariants.{Does}
use Rattle.slub_recorded.specs.declared.turns.Turn.{Turn}
use Rattle.slub_recorded.specs.Rounds.{Holders, cut_at, cuts_of, doer, holders_behind, holders_in, left_behind, steps_from}

step : (plan : Plan) (turn : Turn) (turns : List Turn) (place left : ℕ) (holders : Holders) → (let cut = cut_at plan place left holders turn in steps_from plan place left holders (turn ∷ turns)
    ≡ (cuts_of cut ++ Does (doer plan.workers (holders_in cut holders) turn) turn ∷ []) ++ steps_from plan (place + 1) (left_behind cut left) (holders_behind plan.workers (holders_in cut holders) turn) turns)
unfolding steps_from
step plan turn turns place left holders = refl

regroup : (a b c d : List Step) → (a ++ b ++ c) ++ d ≡ a ++ ((b ++ c) ++ d)
regroup a b c d = simp append_assoc

pub one_turn : (plan : Plan) (turns : List Turn) (i : ℕ) (d turn : Turn) (place left behind : ℕ) (holders held : Holders) (cut : Option Bool) (old new all : List Step) → i < length turns → get_or turns i d ≡ turn
    → cut ≡ cut_at plan place left holders turn → behind ≡ left_behind cut left → held ≡ holders_behind plan.workers (holders_in cut holders) turn
    → new ≡ old ++ cuts_of cut ++ Does (doer plan.workers (holders_in cut holders) turn) turn ∷ []
    → old ++ steps_from plan place left holders (drop i turns) ≡ all → new ++ steps_from plan (place + 1) behind held (drop (i + 1) turns) ≡ all
one_turn plan turns i d turn place left behind holders held cut old new all low at is less holds more was =
    let next : drop i turns ≡ get_or turns i d ∷ drop (suc i) turns = drop-cons turns i d low in
    let same : suc i ≡ i + 1 = omega arith in
    let here : drop i turns ≡ turn ∷ drop (i + 1) turns = next ∙ ap (λ t. t ∷ drop (suc i) turns) at ∙ ap (λ n. turn ∷ drop n turns) same in
    let tail : List Turn = drop (i + 1) turns in
    let one : List Step = cuts_of cut in
    let two : List Step = Does (doer plan.workers (holders_in cut holders) turn) turn ∷ [] in
    let rest : List Step = steps_from plan (place + 1) behind held tail in
    let C : Option Bool → Type 0 = λ c. steps_from plan place left holders (turn ∷ tail) ≡ (cuts_of c ++ Does (doer plan.workers (holders_in c holders) turn) turn ∷ []) ++ steps_from plan (place + 1) (left_behind c left) (holders_behind plan.workers (holders_in c holders) turn) tail in
    let split : steps_from plan place left holders (turn ∷ tail) ≡ (one ++ two) ++ rest =
    subst C (sym is) (step plan turn tail place left holders)
    ∙ ap (λ n. (one ++ two) ++ steps_from plan (place + 1) n (holders_behind plan.workers (holders_in cut holders) turn) tail) (sym less)
    ∙ ap (λ h. (one ++ two) ++ steps_from plan (place + 1) behind h tail) (sym holds) in
    ap (λ xs. xs ++ rest) more ∙ regroup old one two rest ∙ ap (λ xs. old ++ xs) (sym split) ∙ ap (λ ts. old ++ steps_from plan place left holders ts) (sym here) ∙ was

-- where no turn is left, all steps are there
pub all_done : (plan : Plan) (turns : List Turn) (i place left : ℕ) (holders : Holders) (old all : List Step) → length turns ≤ i → old ++ steps_from plan place left holders (drop i turns) ≡ all → old ≡ all
unfolding steps_from
all_done plan turns i place left holders old all low was =
    let none : drop i turns ≡ [] = drop_of_length-le turns low in
    sym (append-nil old) ∙ ap (λ ts. old ++ steps_from plan place left holders ts) (sym none) ∙ was
