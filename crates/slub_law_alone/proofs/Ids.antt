-- Transaction ids grow by the step for each change of their word.
use Rattle.std.proofs.Common.{◌≡◌, ℕ, zero, suc, ◌+◌, ◌*◌, ◌/◌, ◌%◌, ◌<◌, ◌≤◌, Bool, true, false, cond, List, [], ◌∷◌, get_or, length, refl, ap, sym, ◌∙◌, arith, add-mul, mul-le-mul_right}
use Rattle.std.specs.List.{range_with_len}
use Rattle.std.proofs.lemmas.List.{length-map, same_lists}
use Rattle.std.proofs.lemmas.List.FromFn.{get_or-map-range_with_len, length-range_with_len}
use Rattle.slub_core.specs.Setup.{cpu_number}
use Rattle.slub_law_opening.specs.Opening.{Beside, tid_of}
use Rattle.slub_calls.specs.Changes.{grown, grown_where}
use Rattle.slub_law_alone.specs.Away.{AreChangedOnce}
use Rattle.slub_calls.specs.Events.{IsGrown}

-- what stands in a list doesn't hang on what stands past it
get_or_inside : (xs : List ℕ) (i a b : ℕ) → i < length xs → get_or xs i a ≡ get_or xs i b
get_or_inside [] i a b below = absurd (omega (arith, below))
get_or_inside (x ∷ xs) zero a b below = refl
get_or_inside (x ∷ xs) (suc i) a b below = get_or_inside xs i a b (omega (arith, below))

-- or each of these words was changed once more
module _ (changed : ℕ → Bool) (b d : Beside) (is : AreChangedOnce changed b d) where
  pub grows-where : (few most : ℕ → ℕ) (a : Beside) → ((n : ℕ) → few n + cond (changed n) 1 0 ≤ most n) → IsGrown few a b → IsGrown most a d
  grows-where few most a below grown = record {
    step = ap (λ (b : Beside). b.step) is.same ∙ grown.step;
    means = ap (λ (b : Beside). b.means) is.same ∙ grown.means;
    links = ap (λ (b : Beside). b.links) is.same ∙ grown.links;
    tids = λ n. let t = grown.tids n in by n (changed n) t.0 t.1 t.2 (below n) (is.ids n);
  }
    where
      by : (n : ℕ) (now : Bool) (times : ℕ) → times ≤ few n → tid_of b n ≡ tid_of a n + times * a.step → few n + cond now 1 0 ≤ most n → tid_of d n ≡ tid_of b n + cond now b.step 0
          → (times : ℕ) × (times ≤ most n) × (tid_of d n ≡ tid_of a n + times * a.step)
      by n true times less was under ids = (times + 1, omega (arith, less, under), (let more = add-mul times 1 a.step in omega (arith, was, ids, more, grown.step)))
      by n false times less was under ids = (times, omega (arith, less, under), omega (arith, was, ids))

  -- nothing else is changed
  pub where-grown : length d.tids ≡ length b.tids → d ≡ grown_where b changed
  where-grown sized = is.same ∙ ap (λ tids. record b { tids = tids }) (same_lists d.tids (grown_where b changed).tids (sized ∙ sym long) at)
    where
      long : length (grown_where b changed).tids ≡ length b.tids
      long = length-map (range_with_len 0 (length b.tids)) (λ n. tid_of b n + cond (changed n) b.step 0) ∙ length-range_with_len 0 (length b.tids)

      at : (k c : ℕ) → k < length d.tids → get_or d.tids k c ≡ get_or (grown_where b changed).tids k c
      at k c below =
          get_or_inside d.tids k c 0 below ∙ is.ids k
          ∙ sym (get_or-map-range_with_len (λ n. tid_of b n + cond (changed n) b.step 0) 0 (length b.tids) k k c (omega (arith, below, sized)) (omega arith))

-- ids that are enough for so many changes, of which some were made, are enough for those that are left
pub has-ids : (few most : ℕ → ℕ) (times n limit : ℕ) (b d : Beside) → IsGrown few b d → few n + times ≤ most n → tid_of b n + (most n + 1) * b.step < limit → tid_of d n + (times + 1) * d.step < limit
has-ids few most times n limit b d is below under =
    let t = is.tids n in
    let left : (times + 1) * d.step ≡ (times + 1) * b.step = ap (λ c. (times + 1) * c) is.step in
    let sum = add-mul t.0 (times + 1) b.step in
    let most_of : (t.0 + (times + 1)) * b.step ≤ (most n + 1) * b.step = mul-le-mul_right b.step (omega (arith, below, t.1)) in
    omega (arith, t.2, left, sum, most_of, under)

-- a word's number tells its cache and its CPU
pub of-cpu : (cache cpu : ℕ) → cpu < 16 → cpu_number cache cpu % 16 ≡ cpu
of-cpu cache cpu below = omega (arith, below)

pub of-cache : (cache cpu : ℕ) → cpu < 16 → cpu_number cache cpu / 16 ≡ cache
of-cache cache cpu below = omega (arith, below)
