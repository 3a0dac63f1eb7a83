-- The events of a round, by their workers.
use Rattle.std.proofs.Common.{◌≡◌, ℕ, zero, suc, ◌+◌, ◌<◌, ◌≤◌, Bool, true, false, cond, List, [], ◌∷◌, sum_by, refl, sym, ◌∙◌, ap, arith, eqb, All}
use Rattle.std.proofs.lemmas.Bool.Decides.{nat_tests}
use Rattle.std.specs.List.{range_with_len}
use Rattle.std.proofs.lemmas.List.Elements.{All-head, All-tail}
use Rattle.std.proofs.lemmas.List.Sums.{sum_by-cons}
use Rattle.slub_common.proofs.Sums.{sum_by-same}
use Rattle.slub_trace.specs.declared.event.Event.{Event}
use Rattle.slub_calls.specs.Calls.{events_by}

-- ---- one number among many

abbrev one_at : ℕ → ℕ → ℕ → ℕ
one_at worker c w = cond (eqb worker w) c 0

none_in : (worker c from n : ℕ) → worker < from → sum_by (one_at worker c) (range_with_len from n) ≡ 0
none_in worker c from zero below = refl
none_in worker c from (suc n) below =
    let other : eqb worker from ≡ false = grind (arith, nat_tests, below) in
    let rest = none_in worker c (from + 1) n (omega (arith, below)) in
    sum_by-cons (one_at worker c) from (range_with_len (from + 1) n) ∙ ap (λ b. cond b c 0 + sum_by (one_at worker c) (range_with_len (from + 1) n)) other ∙ omega (arith, rest)

one_in : (worker c from n : ℕ) → from ≤ worker → worker < from + n → sum_by (one_at worker c) (range_with_len from n) ≡ c
one_in worker c from zero above below = absurd (let never : ⊥ = omega (arith, above, below) in never)
one_in worker c from (suc n) above below =
    sum_by-cons (one_at worker c) from (range_with_len (from + 1) n) ∙ by (eqb worker from) refl (one_in worker c (from + 1) n)
  where
    by : (b : Bool) → eqb worker from ≡ b → (from + 1 ≤ worker → worker < from + 1 + n → sum_by (one_at worker c) (range_with_len (from + 1) n) ≡ c)
        → cond (eqb worker from) c 0 + sum_by (one_at worker c) (range_with_len (from + 1) n) ≡ c
    by true is more =
        let same : worker ≡ from = grind (arith, nat_tests, is) in
        let rest = none_in worker c (from + 1) n (omega (arith, same)) in
        ap (λ b. cond b c 0 + sum_by (one_at worker c) (range_with_len (from + 1) n)) is ∙ omega (arith, rest)
    by false is more =
        let other : from < worker = grind (arith, nat_tests, is, above) in
        let rest = more (omega (arith, other)) (omega (arith, below)) in
        ap (λ b. cond b c 0 + sum_by (one_at worker c) (range_with_len (from + 1) n)) is ∙ omega (arith, rest)

-- ---- a sum over each worker's events

abbrev pub share : (Event → ℕ) → List Event → ℕ → ℕ
share g events worker = sum_by g (events_by worker events)

sum_add : (f g : ℕ → ℕ) (xs : List ℕ) → sum_by (λ x. f x + g x) xs ≡ sum_by f xs + sum_by g xs
sum_add f g [] = refl
sum_add f g (x ∷ xs) = sum_by-cons (λ x. f x + g x) x xs ∙ omega (arith, sum_add f g xs, sum_by-cons f x xs, sum_by-cons g x xs)

share_more : (g : Event → ℕ) (event : Event) (events : List Event) (worker : ℕ) → share g (event ∷ events) worker ≡ one_at event.worker (g event) worker + share g events worker
share_more g event events worker = by (eqb event.worker worker)
  where
    zero_add : (n : ℕ) → 0 + n ≡ n
    zero_add n = omega arith

    by : (b : Bool) → sum_by g (cond b (event ∷ events_by worker events) (events_by worker events)) ≡ cond b (g event) 0 + share g events worker
    by true = sum_by-cons g event (events_by worker events)
    by false = sym (zero_add (share g events worker))

-- over all workers it is the sum over the events
pub shares : (g : Event → ℕ) (events : List Event) (workers : ℕ) → All (λ (event : Event). event.worker < workers) events → sum_by (share g events) (range_with_len 0 workers) ≡ sum_by g events
shares g [] workers within = none (range_with_len 0 workers)
  where
    none : (xs : List ℕ) → sum_by (share g []) xs ≡ 0
    none [] = refl
    none (x ∷ xs) = let rest = none xs in sum_by-cons (share g []) x xs ∙ omega (arith, rest)
shares g (event ∷ events) workers within =
    let rest = shares g events workers (All-tail (λ (event : Event). event.worker < workers) event events within) in
    let mine = one_in event.worker (g event) 0 workers (omega arith) (let below = All-head (λ (event : Event). event.worker < workers) event events within in omega (arith, below)) in
    sum_by-same (share g (event ∷ events)) (λ w. one_at event.worker (g event) w + share g events w) (range_with_len 0 workers) (share_more g event events)
    ∙ sum_add (one_at event.worker (g event)) (share g events) (range_with_len 0 workers)
    ∙ omega (arith, rest, mine, sum_by-cons g event events)
