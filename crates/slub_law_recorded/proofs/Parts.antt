-- Lists in parts, and the events of answers.
use Rattle.std.proofs.Common.{◌≡◌, ℕ, ◌≤◌, Bool, true, false, cond, List, [], ◌∷◌, ◌++◌, append_assoc, length, map, filter, count_by, refl, sym, ◌∙◌, ap, arith, All}
use Rattle.std.specs.List.{zip}
use Rattle.std.proofs.lemmas.List.Elements.{All-cons, All-head, All-nil, All-tail}
use Rattle.std.proofs.lemmas.List.Sums.{sum_by-cons}
use Rattle.slub_calls.specs.Calls.{events_by}
use Rattle.slub_trace.specs.declared.event.Event.{Event}
use Rattle.slub_trace.specs.declared.reply.Reply.{Reply}
use Rattle.slub_slabinfo_text.specs.Lawful.{is_by}
use Rattle.slub_law_rounds.specs.Answered.{Answered, of_worker}

-- what holds of each element, by those before it, holds of all
pub all-by : {A : Type 0} (P : A → Type 0) (whole : List A) → ((past : List A) (one : A) (rest : List A) → whole ≡ past ++ one ∷ rest → P one) → (past rest : List A) → whole ≡ past ++ rest → All P rest
all-by P whole step past [] parts = All-nil P
all-by P whole step past (one ∷ rest) parts =
    All-cons P one rest (step past one rest parts) (all-by P whole step (past ++ one ∷ []) rest (parts ∙ sym (append_assoc past (one ∷ []) rest)))

-- the first part of a list, and the other
pub all-front : {A : Type 0} (P : A → Type 0) (xs ys : List A) → All P (xs ++ ys) → All P xs
all-front P [] ys all = All-nil P
all-front P (x ∷ xs) ys all = All-cons P x xs (All-head P x (xs ++ ys) all) (all-front P xs ys (All-tail P x (xs ++ ys) all))

pub all-back : {A : Type 0} (P : A → Type 0) (xs ys : List A) → All P (xs ++ ys) → All P ys
all-back P [] ys all = all
all-back P (x ∷ xs) ys all = all-back P xs ys (All-tail P x (xs ++ ys) all)

-- what is sifted is counted no more often
pub count-sifted : {A : Type 0} (p q : A → Bool) (xs : List A) → count_by p (filter q xs) ≤ count_by p xs
count-sifted p q [] = omega arith
count-sifted {A} p q (x ∷ xs) = by (q x) (count-sifted p q xs)
  where
    by : (b : Bool) → count_by p (filter q xs) ≤ count_by p xs → count_by p (cond b (x ∷ filter q xs) (filter q xs)) ≤ count_by p (x ∷ xs)
    by true less = omega (arith, less, sum_by-cons (λ (x : A). cond (p x) 1 0) x (filter q xs), sum_by-cons (λ (x : A). cond (p x) 1 0) x xs)
    by false less = omega (arith, less, sum_by-cons (λ (x : A). cond (p x) 1 0) x xs)

-- ---- answers

-- the events that were answered
abbrev pub asked : List Answered → List Event
asked answers = map (λ (one : Answered). one.0) answers

pub asked-all : (events : List Event) (replies : List Reply) → length replies ≡ length events → asked (zip events replies) ≡ events
asked-all [] replies same = refl
asked-all (event ∷ events) [] same = absurd (let never : ⊥ = omega (arith, same) in never)
asked-all (event ∷ events) (answer ∷ replies) same = ap (λ (rest : List Event). event ∷ rest) (asked-all events replies (omega (arith, same)))

-- what holds of events holds of those that were answered
pub zip-all : (P : Event → Type 0) (events : List Event) (replies : List Reply) → All P events → All (λ (one : Answered). P one.0) (zip events replies)
zip-all P [] replies all = All-nil (λ (one : Answered). P one.0)
zip-all P (event ∷ events) [] all = All-nil (λ (one : Answered). P one.0)
zip-all P (event ∷ events) (answer ∷ replies) all = All-cons (λ (one : Answered). P one.0) (event, answer) (zip events replies) (All-head P event events all) (zip-all P events replies (All-tail P event events all))

-- those of a worker
pub asked-by : (worker : ℕ) (past : List Answered) → events_by worker (asked past) ≡ asked (of_worker worker past)
asked-by worker [] = refl
asked-by worker (one ∷ past) = by (is_by worker one) (asked-by worker past)
  where
    by : (b : Bool) → events_by worker (asked past) ≡ asked (of_worker worker past)
        → cond b (one.0 ∷ events_by worker (asked past)) (events_by worker (asked past)) ≡ asked (cond b (one ∷ of_worker worker past) (of_worker worker past))
    by true same = ap (λ (rest : List Event). one.0 ∷ rest) same
    by false same = same
