-- Sums over workers.
use Rattle.std.proofs.Common.{◌≡◌, ◌≢◌, ℕ, zero, suc, ◌+◌, ◌<◌, ◌≤◌, eqb, Bool, true, false, cond, List, [], ◌∷◌, length, get_or, sum_by, refl, ◌∙◌, ap, arith, All}
use Rattle.std.specs.Prelude.{count_by}
use Rattle.std.specs.List.{range_with_len, zip}
use Rattle.std.proofs.lemmas.Bool.Decides.{nat_tests}
use Rattle.std.proofs.lemmas.List.Elements.{All-nil, All-cons, All-head, All-tail}
use Rattle.std.proofs.lemmas.List.Sums.{sum_by-cons}
use Rattle.slub_common.proofs.Sums.{sum_by-same}
use Rattle.slub_trace.specs.declared.event.Event.{Event}
use Rattle.slub_trace.specs.declared.reply.Reply.{Reply}
use Rattle.slub_law_rounds.specs.Answered.{Answered, of_worker}

pub sum-nil : {X : Type 0} (f : X → ℕ) → sum_by f [] ≡ 0
sum-nil f = refl

-- each is at most the sum
pub at-most : {X : Type 0} (f : X → ℕ) (xs : List X) (i : ℕ) (d : X) → i < length xs → f (get_or xs i d) ≤ sum_by f xs
at-most f [] i d inside = absurd (omega (arith, inside))
at-most f (x ∷ xs) zero d inside = omega (arith, sum_by-cons f x xs)
at-most f (x ∷ xs) (suc i) d inside = omega (arith, sum_by-cons f x xs, at-most f xs i d (omega (arith, inside)))

-- and so are two of them
pub two-at-most : {X : Type 0} (f : X → ℕ) (xs : List X) (i j : ℕ) (d : X) → i ≢ j → i < length xs → j < length xs → f (get_or xs i d) + f (get_or xs j d) ≤ sum_by f xs
two-at-most f [] i j d differ one other = absurd (omega (arith, one))
two-at-most f (x ∷ xs) zero zero d differ one other = absurd (differ refl)
two-at-most f (x ∷ xs) zero (suc j) d differ one other = omega (arith, sum_by-cons f x xs, at-most f xs j d (omega (arith, other)))
two-at-most f (x ∷ xs) (suc i) zero d differ one other = omega (arith, sum_by-cons f x xs, at-most f xs i d (omega (arith, one)))
two-at-most f (x ∷ xs) (suc i) (suc j) d differ one other =
    omega (arith, sum_by-cons f x xs, two-at-most f xs i j d (λ same. differ (ap suc same)) (omega (arith, one)) (omega (arith, other)))

pub sum-below : {X : Type 0} (f g : X → ℕ) (xs : List X) → ((x : X) → f x ≤ g x) → sum_by f xs ≤ sum_by g xs
sum-below f g [] each = omega arith
sum-below f g (x ∷ xs) each = omega (arith, sum_by-cons f x xs, sum_by-cons g x xs, each x, sum-below f g xs each)

pub sum-add : {X : Type 0} (f g : X → ℕ) (xs : List X) → sum_by (λ x. f x + g x) xs ≡ sum_by f xs + sum_by g xs
sum-add f g [] = refl
sum-add f g (x ∷ xs) = sum_by-cons (λ x. f x + g x) x xs ∙ omega (arith, sum-add f g xs, sum_by-cons f x xs, sum_by-cons g x xs)

-- ---- one number among many

abbrev one_at : ℕ → ℕ → ℕ → ℕ
one_at worker c w = cond (eqb worker w) c 0

none-in : (worker c from n : ℕ) → worker < from → sum_by (one_at worker c) (range_with_len from n) ≡ 0
none-in worker c from zero below = refl
none-in worker c from (suc n) below =
    let other : eqb worker from ≡ false = grind (arith, nat_tests, below) in
    let rest = none-in worker c (from + 1) n (omega (arith, below)) in
    sum_by-cons (one_at worker c) from (range_with_len (from + 1) n) ∙ ap (λ b. cond b c 0 + sum_by (one_at worker c) (range_with_len (from + 1) n)) other ∙ omega (arith, rest)

one-in : (worker c from n : ℕ) → from ≤ worker → worker < from + n → sum_by (one_at worker c) (range_with_len from n) ≡ c
one-in worker c from zero above below = absurd (let never : ⊥ = omega (arith, above, below) in never)
one-in worker c from (suc n) above below =
    sum_by-cons (one_at worker c) from (range_with_len (from + 1) n) ∙ by (eqb worker from) refl (λ past. one-in worker c (from + 1) n past (omega (arith, below)))
  where
    by : (b : Bool) → eqb worker from ≡ b → (from + 1 ≤ worker → sum_by (one_at worker c) (range_with_len (from + 1) n) ≡ c) → cond (eqb worker from) c 0 + sum_by (one_at worker c) (range_with_len (from + 1) n) ≡ c
    by true is again =
        let same : worker ≡ from = grind (arith, nat_tests, is) in
        let rest = none-in worker c (from + 1) n (omega (arith, same)) in
        ap (λ b. cond b c 0 + sum_by (one_at worker c) (range_with_len (from + 1) n)) is ∙ omega (arith, rest)
    by false is again =
        let other : from + 1 ≤ worker = grind (arith, nat_tests, is, above) in
        let rest = again other in
        ap (λ b. cond b c 0 + sum_by (one_at worker c) (range_with_len (from + 1) n)) is ∙ omega (arith, rest)

-- ---- a count over each worker's events

share : (Answered → Bool) → List Answered → ℕ → ℕ
share p answers worker = count_by p (of_worker worker answers)

share-more : (p : Answered → Bool) (one : Answered) (answers : List Answered) (worker : ℕ) → share p (one ∷ answers) worker ≡ one_at one.0.worker (cond (p one) 1 0) worker + share p answers worker
unfolding share
share-more p one answers worker = by (eqb one.0.worker worker)
  where
    by : (b : Bool) → count_by p (cond b (one ∷ of_worker worker answers) (of_worker worker answers)) ≡ cond b (cond (p one) 1 0) 0 + count_by p (of_worker worker answers)
    by true = sum_by-cons (λ one. cond (p one) 1 0) one (of_worker worker answers)
    by false = omega arith

abbrev pub IsBelow : ℕ → Answered → Type 0
IsBelow workers one = one.0.worker < workers

-- over all workers it is the count over the answers
pub shares : (p : Answered → Bool) (answers : List Answered) (workers : ℕ) → All (IsBelow workers) answers → sum_by (λ w. count_by p (of_worker w answers)) (range_with_len 0 workers) ≡ count_by p answers
unfolding share
shares p [] workers within = none (range_with_len 0 workers)
  where
    none : (xs : List ℕ) → sum_by (λ w. count_by p (of_worker w [])) xs ≡ 0
    none [] = refl
    none (x ∷ xs) = let rest = none xs in sum_by-cons (λ w. count_by p (of_worker w [])) x xs ∙ omega (arith, rest)
shares p (one ∷ answers) workers within =
    let rest = shares p answers workers (All-tail (IsBelow workers) one answers within) in
    let mine = one-in one.0.worker (cond (p one) 1 0) 0 workers (omega arith) (let below = All-head (IsBelow workers) one answers within in omega (arith, below)) in
    sum_by-same (share p (one ∷ answers)) (λ w. one_at one.0.worker (cond (p one) 1 0) w + share p answers w) (range_with_len 0 workers) (share-more p one answers)
    ∙ sum-add (one_at one.0.worker (cond (p one) 1 0)) (share p answers) (range_with_len 0 workers)
    ∙ omega (arith, rest, mine, sum_by-cons (λ one. cond (p one) 1 0) one answers)

-- no worker beyond has an event
pub none-beyond : (workers worker : ℕ) (answers : List Answered) → All (IsBelow workers) answers → workers ≤ worker → of_worker worker answers ≡ []
none-beyond workers worker [] within past = refl
none-beyond workers worker (one ∷ answers) within past =
    let below = All-head (IsBelow workers) one answers within in
    let other : eqb one.0.worker worker ≡ false = grind (arith, nat_tests, below, past) in
    ap (λ b. cond b (one ∷ of_worker worker answers) (of_worker worker answers)) other ∙ none-beyond workers worker answers (All-tail (IsBelow workers) one answers within) past

pub all-below : (workers : ℕ) (events : List Event) (replies : List Reply) → All (λ (event : Event). event.worker < workers) events → All (IsBelow workers) (zip events replies)
all-below workers [] replies within = All-nil (IsBelow workers)
all-below workers (event ∷ events) [] within = All-nil (IsBelow workers)
all-below workers (event ∷ events) (answer ∷ replies) within =
    All-cons (IsBelow workers) (event, answer) (zip events replies) (All-head (λ (event : Event). event.worker < workers) event events within)
    (all-below workers events replies (All-tail (λ (event : Event). event.worker < workers) event events within))

abbrev one_where : Bool → ℕ
one_where b = cond b 1 0

-- what is so of all answers is so of a worker's
pub count-less : (p q : Answered → Bool) (answers : List Answered) → ((one : Answered) → p one ≡ true → q one ≡ true) → count_by p answers ≤ count_by q answers
count-less p q answers each = sum-below (λ one. cond (p one) 1 0) (λ one. cond (q one) 1 0) answers (λ one. by (p one) (q one) (each one))
  where
    by : (b c : Bool) → (b ≡ true → c ≡ true) → cond b 1 0 ≤ cond c 1 0
    by false c more = omega arith
    by true c more = let is : one_where c ≡ 1 = ap one_where (more refl) in omega (arith, is)
