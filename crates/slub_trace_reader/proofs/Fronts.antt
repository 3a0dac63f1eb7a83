-- Numbers in front of bytes, digit by digit.
use Rattle.std.proofs.Common.{◌≡◌, ℕ, ◌+◌, ◌-◌, ◌*◌, ◌<◌, ◌≤◌, ◌^◌, true, false, Some, List, [], ◌∷◌, ◌++◌, refl, sym, ap, ◌∙◌, arith, append_assoc, eqb}
use Rattle.std.specs.List.{list_all}
use Rattle.std.specs.Char.{digit_value}
use Rattle.std.specs.Str.Parse.{digits_value}
use Rattle.std.proofs.lemmas.Bool.{ne_eqb}
use Rattle.std.proofs.lemmas.Int.Digits.{digits_value_push}
use Rattle.std.proofs.lemmas.List.{append-nil}
use Rattle.std.proofs.lemmas.List.Folds.{list_all-append}
use Rattle.std.proofs.lemmas.Bool.Decides.{nat_tests}
use Rattle.std.proofs.lemmas.Str.{digit_value_digit}
use Rattle.slub_common.specs.Numbers.{cut_number, is_digit, is_number, number_of}
use Rattle.slub_common.proofs.Digits.{digit_within, number_found}
use Rattle.slub_trace_reader.specs.Digits.{IsFront}
use Rattle.slub_trace_reader.specs.Forms.{number_at}
use Rattle.slub_trace_reader.proofs.WordTexts.{number_at_found}

-- digits behind a first one, up to what is left, and the number of all
abbrev pub Run : ℕ → List ℕ → List ℕ → ℕ → Type 0
Run first bytes rest n = (ds : List ℕ) × (bytes ≡ ds ++ rest) × (list_all is_digit ds ≡ true) × (n ≡ digits_value 10 (first ∷ ds))

-- the value of a digit
value_of : (c : ℕ) → 48 ≤ c → c ≤ 57 → digit_value c ≡ c - 48
value_of c low high = omega (arith, digit_value_digit c (low, high))

pub run_start : (first : ℕ) (bytes : List ℕ) (n : ℕ) → 49 ≤ first → first ≤ 57 → n ≡ first - 48 → Run first bytes bytes n
run_start first bytes n low high is =
    let value : digits_value 10 (first ∷ []) ≡ first - 48 = omega (arith, value_of first (omega arith) high) in
    ([], refl, refl, is ∙ sym value)

pub run_more : (first : ℕ) (bytes : List ℕ) (c : ℕ) (more : List ℕ) (n m : ℕ) → Run first bytes (c ∷ more) n → is_digit c ≡ true → m ≡ 10 * n + (c - 48) → Run first bytes more m
run_more first bytes c more n m run is next =
    let ds : List ℕ = run.0 in
    let range = digit_within c is in
    let here = value_of c range.0 range.1 in
    let push : digits_value 10 (first ∷ (ds ++ c ∷ [])) ≡ digits_value 10 (first ∷ ds) * 10 + digit_value c = digits_value_push 10 (first ∷ ds) c in
    let value : m ≡ digits_value 10 (first ∷ (ds ++ c ∷ [])) = omega (arith, next, run.3, here, push) in
    (ds ++ c ∷ [], run.1 ∙ sym (append_assoc ds (c ∷ []) more), list_all-append is_digit ds (c ∷ []) ∙ rw (run.2, is) refl, value)

number_with : (first : ℕ) (ds : List ℕ) → 49 ≤ first → first ≤ 57 → list_all is_digit ds ≡ true → is_number (first ∷ ds) ≡ true
number_with first [] low high all = grind (arith, nat_tests)
number_with first (d ∷ ds) low high all =
    let one : is_digit first ≡ true = grind (arith, nat_tests) in
    let apart : eqb first 48 ≡ false = ne_eqb first 48 (λ same. absurd (let never : ⊥ = omega arith in never)) in
    rw (apart, one) all

pub run_front : (first : ℕ) (bytes rest : List ℕ) (n : ℕ) → 49 ≤ first → first ≤ 57 → Run first bytes rest n → IsFront (first ∷ bytes) n rest
run_front first bytes rest n low high run =
    (first ∷ run.0, ap (λ bs. first ∷ bs) run.1, record { form = number_with first run.0 low high run.2; value = run.3 })

-- a zero is a number
pub zero_front : (bytes : List ℕ) (c : ℕ) (rest : List ℕ) → bytes ≡ c ∷ rest → c ≡ 48 → IsFront bytes 0 rest
zero_front bytes c rest whole zero = (48 ∷ [], whole ∙ ap (λ d. d ∷ rest) zero, record { form = refl; value = refl })

-- a number that is all of a word is read
pub front_number : (word : List ℕ) (n : ℕ) (rest : List ℕ) → IsFront word n rest → rest ≡ [] → n < 2 ^ 64 → number_of word ≡ Some n
front_number word n rest is none low =
    let cut : cut_number n ≡ n = omega arith in
    ap (λ w. number_of w) (is.1 ∙ ap (λ r. is.0 ++ r) none ∙ append-nil is.0) ∙ number_found is.0 n is.2 ∙ ap (λ m. Some m) cut

-- and one with a space behind it is read
pub front_field : (bytes : List ℕ) (n : ℕ) (behind : List ℕ) (c : ℕ) (rest : List ℕ) → IsFront bytes n behind → behind ≡ c ∷ rest → c ≡ 32 → n < 2 ^ 64 → number_at bytes ≡ Some (n, rest)
front_field bytes n behind c rest is whole space low =
    let cut : cut_number n ≡ n = omega arith in
    ap (λ b. number_at b) (is.1 ∙ ap (λ r. is.0 ++ r) (whole ∙ ap (λ d. d ∷ rest) space)) ∙ number_at_found is.0 n rest is.2 ∙ ap (λ m. Some (m, rest)) cut
