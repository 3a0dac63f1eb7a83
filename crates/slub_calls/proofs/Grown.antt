-- A transaction id grows by the step for each change of its word.
use Rattle.std.proofs.Common.{◌≡◌, ℕ, ◌+◌, ◌*◌, ◌≤◌, get_or, set, length, ap, sym, ◌∙◌, arith, inl, inr, add-mul}
use Rattle.std.proofs.lemmas.Bool.{cases_eq, cases_lt}
use Rattle.std.proofs.lemmas.List.{get_or-set_same, get_or-set_other, get_or_past, length-set}
use Rattle.slub_law_opening.specs.Opening.{Beside, tid_of}
use Rattle.slub_calls.specs.Changes.{grown}
use Rattle.slub_calls.specs.Events.{IsGrown}

-- one word was changed so many times more
pub grows-by : (few most : ℕ → ℕ) (times n : ℕ) (b d : Beside) → ((k : ℕ) → few k ≤ most k) → few n + times ≤ most n → IsGrown few b d → IsGrown most b (grown d n times)
grows-by few most times n b d each below is = record {
  step = is.step;
  means = is.means;
  links = is.links;
  tids = λ k. elim (cases_eq k n) [
    | inl e ↦ elim (cases_lt n (length d.tids)) [
      | inl inside ↦
          let t = is.tids n in
          let now : tid_of (grown d n times) k ≡ tid_of d n + times * d.step = ap (λ k. get_or (set d.tids n (tid_of d n + times * d.step)) k 0) e ∙ get_or-set_same d.tids n (tid_of d n + times * d.step) 0 inside in
          let step : times * d.step ≡ times * b.step = ap (λ c. times * c) is.step in
          let same : tid_of b k ≡ tid_of b n = ap (tid_of b) e in
          let most_is : most k ≡ most n = ap most e in
          (t.0 + times, omega (arith, below, t.1, most_is), (let more = add-mul t.0 times b.step in omega (arith, now, t.2, step, more, same)))
      | inr past ↦
          let t = is.tids k in
          let now : tid_of (grown d n times) k ≡ 0 = ap (λ k. get_or (set d.tids n (tid_of d n + times * d.step)) k 0) e ∙ get_or_past (set d.tids n (tid_of d n + times * d.step)) n 0 (omega (arith, past, length-set d.tids n (tid_of d n + times * d.step))) in
          let was : tid_of d k ≡ 0 = ap (tid_of d) e ∙ get_or_past d.tids n 0 (omega (arith, past)) in
          (t.0, omega (arith, each k, t.1), now ∙ sym was ∙ t.2)
    ]
    | inr apart ↦
        let t = is.tids k in
        (t.0, omega (arith, each k, t.1), get_or-set_other d.tids n k (tid_of d n + times * d.step) 0 apart ∙ t.2)
  ];
}
