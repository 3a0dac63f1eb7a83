-- Sums over workers, and over caches.
use Rattle.std.proofs.Common.{◌≡◌, ℕ, zero, suc, ◌+◌, ◌<◌, ◌≤◌, ◌&&◌, Bool, true, false, cond, eqb, List, [], ◌∷◌, sum_by, count_by, refl, sym, ◌∙◌, arith}
use Rattle.std.specs.Prelude.{⊤}
use Rattle.std.specs.List.{range_with_len}
use Rattle.std.proofs.lemmas.Bool.Decides.{nat_tests}
use Rattle.std.proofs.lemmas.List.Sums.{sum_by-cons}
use Rattle.slub_trace.specs.declared.event.Event.{Event}
use Rattle.slub_trace.specs.declared.reply.Reply.{Reply}
use Rattle.slub_slabinfo_text.specs.Lawful.{is_by}

-- ---- ledgers

pub sums_add : (f g : ℕ → ℕ) (xs : List ℕ) → sum_by (λ x. f x + g x) xs ≡ sum_by f xs + sum_by g xs
sums_add f g [] = refl
sums_add f g (x ∷ xs) = omega (arith, sums_add f g xs, sum_by-cons (λ x. f x + g x) x xs, sum_by-cons f x xs, sum_by-cons g x xs)

pub sums_same : (f g : ℕ → ℕ) (xs : List ℕ) → ((x : ℕ) → f x ≡ g x) → sum_by f xs ≡ sum_by g xs
sums_same f g [] same = refl
sums_same f g (x ∷ xs) same = omega (arith, same x, sums_same f g xs same, sum_by-cons f x xs, sum_by-cons g x xs)

pub sum_none : (xs : List ℕ) → sum_by (λ x. 0) xs ≡ 0
sum_none [] = refl
sum_none (x ∷ xs) = omega (arith, sum_none xs, sum_by-cons (λ (x : ℕ). 0) x xs)

-- one of the numbers from a on
sum_before : (f : ℕ → ℕ) (one a n : ℕ) → one < a → sum_by (λ x. cond (eqb one x) (f x) 0) (range_with_len a n) ≡ 0
sum_before f one a zero before = refl
sum_before f one a (suc n) before =
    let rest = sum_before f one (a + 1) n (omega arith) in
    let split = sum_by-cons (λ x. cond (eqb one x) (f x) 0) a (range_with_len (a + 1) n) in
    let here : cond (eqb one a) (f a) 0 ≡ 0 = grind (arith, nat_tests) in
    split ∙ (let e : cond (eqb one a) (f a) 0 + sum_by (λ x. cond (eqb one x) (f x) 0) (range_with_len (a + 1) n) ≡ 0 = omega (arith, here, rest) in e)

pub sum_one : (f : ℕ → ℕ) (one a n : ℕ) → a ≤ one → (a + n ≤ one → f one ≡ 0) → sum_by (λ x. cond (eqb one x) (f x) 0) (range_with_len a n) ≡ f one
sum_one f one a zero from past = sym (past (omega arith))
sum_one f one a (suc n) from past = by (eqb one a) refl (λ differ. sum_one f one (a + 1) n differ (λ beyond. past (omega (arith, beyond))))
  where
    split : sum_by (λ x. cond (eqb one x) (f x) 0) (a ∷ range_with_len (a + 1) n) ≡ cond (eqb one a) (f a) 0 + sum_by (λ x. cond (eqb one x) (f x) 0) (range_with_len (a + 1) n)
    split = sum_by-cons (λ x. cond (eqb one x) (f x) 0) a (range_with_len (a + 1) n)

    by : (b : Bool) → eqb one a ≡ b → (a + 1 ≤ one → sum_by (λ x. cond (eqb one x) (f x) 0) (range_with_len (a + 1) n) ≡ f one) → sum_by (λ x. cond (eqb one x) (f x) 0) (range_with_len a (suc n)) ≡ f one
    by true is later =
        let same : one ≡ a = grind (arith, nat_tests, is) in
        let rest = sum_before f one (a + 1) n (omega (arith, same)) in
        let here : cond (eqb one a) (f a) 0 ≡ f one = rw (is, ← same) refl in
        split ∙ (let e : cond (eqb one a) (f a) 0 + sum_by (λ x. cond (eqb one x) (f x) 0) (range_with_len (a + 1) n) ≡ f one = omega (arith, here, rest) in e)
    by false is later =
        let differ : a + 1 ≤ one = grind (arith, nat_tests, is, from) in
        let rest = later differ in
        let here : cond (eqb one a) (f a) 0 ≡ 0 = rw is refl in
        split ∙ (let e : cond (eqb one a) (f a) 0 + sum_by (λ x. cond (eqb one x) (f x) 0) (range_with_len (a + 1) n) ≡ f one = omega (arith, here, rest) in e)

abbrev pub AreWithin : ℕ → List (Event × Reply) → Type 0
AreWithin workers [] = ⊤
AreWithin workers (one ∷ answers) = (one.0.worker < workers) × AreWithin workers answers

-- each answer is one of one worker
pub by_workers : (p : Event × Reply → Bool) (workers : ℕ) (answers : List (Event × Reply)) → AreWithin workers answers
    → sum_by (λ worker. count_by (λ one. is_by worker one && p one) answers) (range_with_len 0 workers) ≡ count_by p answers
by_workers p workers [] within = sum_none (range_with_len 0 workers)
by_workers p workers (one ∷ answers) within =
    let rest = by_workers p workers answers within.1 in
    let mine = λ (worker : ℕ). cond (is_by worker one && p one) 1 0 in
    let others = λ (worker : ℕ). count_by (λ one. is_by worker one && p one) answers in
    let split = sums_same (λ worker. count_by (λ one. is_by worker one && p one) (one ∷ answers)) (λ worker. mine worker + others worker) (range_with_len 0 workers)
    (λ worker. sum_by-cons (λ (one : Event × Reply). cond (is_by worker one && p one) 1 0) one answers) in
    let form = sums_same mine (λ worker. cond (eqb one.0.worker worker) (cond (p one) 1 0) 0) (range_with_len 0 workers) (λ worker. both (eqb one.0.worker worker) (p one)) in
    let own = sum_one (λ worker. cond (p one) 1 0) one.0.worker 0 workers (omega arith) (λ beyond. absurd (let never : ⊥ = omega (arith, beyond, within.0) in never)) in
    omega (arith, split, sums_add mine others (range_with_len 0 workers), form, own, rest, sum_by-cons (λ (one : Event × Reply). cond (p one) 1 0) one answers)
  where
    both : (b c : Bool) → ◌≡◌ {A = ℕ} (cond (b && c) 1 0) (cond b (cond c 1 0) 0)
    both true c = refl
    both false c = refl
