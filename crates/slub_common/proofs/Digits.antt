-- Digits, and the numbers that they spell.
use Rattle.std.proofs.Common.{◌≡◌, ◌≢◌, ℕ, zero, suc, ◌+◌, ◌<◌, ◌≤◌, ◌^◌, true, false, not, ◌&&◌, min, Result, Ok, Err, Some, None, List, [], ◌∷◌, length, get_or, refl, sym, ap, ◌∙◌, arith, eqb, inl, inr, leb, subst}
use Rattle.std.specs.Prelude.{MatchResult, IsUtf8}
use Rattle.std.specs.Fmt.{decimal}
use Rattle.std.specs.List.{list_all}
use Rattle.std.specs.Str.Parse.{AllDigits, digits_value, ParsesUnsigned, IsNumeral, without_leading_plus}
use Rattle.std.proofs.lemmas.Bool.{cases_Bool, false≢true, and_parts, and_from, leb-true, le-leb, eqb-true, ne_eqb}
use Rattle.std.proofs.lemmas.Bool.Decides.{nat_tests}
use Rattle.std.proofs.lemmas.Fmt.{IsAscii-from_digits, decimal-digits_value, decimal_nonempty, digits_decimal, digits_value-decimal, first_decimal, decimal_digit}
use Rattle.std.proofs.lemmas.Str.{IsUtf8-from_ascii}
use Rattle.std.proofs.lemmas.Str.Parse.{IsNumeralModel, numerals_by_value, tells_digits, parse_plain, digit_at}
use Rattle.slub_common.specs.Numbers.{Writes, cut_number, is_digit, is_number, number_of}

-- decimal digits, and the number that they write
digits : IsNumeralModel (AllDigits 10) (digits_value 10)
digits = numerals_by_value (AllDigits 10) tells_digits

-- a digit by its test
pub digit_within : (c : ℕ) → is_digit c ≡ true → (48 ≤ c) × (c ≤ 57)
digit_within c is = let parts = and_parts (leb 48 c) (leb c 57) is in (leb-true 48 c parts.0, leb-true c 57 parts.1)

-- digits by their tests
pub all_digits : (cs : List ℕ) → list_all is_digit cs ≡ true → AllDigits 10 cs
all_digits [] is = tt
all_digits (c ∷ cs) is =
    let parts = and_parts (is_digit c) (list_all is_digit cs) is in
    tells_digits.more c cs (digit_within c parts.0) (all_digits cs parts.1)

-- a number has digits alone, and some
pub number_digits : (word : List ℕ) → is_number word ≡ true → AllDigits 10 word × (0 < length word)
number_digits [] is = absurd (false≢true is)
number_digits (c ∷ []) is = (tells_digits.more c [] (digit_within c is) tt, omega arith)
number_digits (c ∷ d ∷ cs) is = (all_digits (c ∷ d ∷ cs) (and_parts (not (eqb c 48)) (list_all is_digit (c ∷ d ∷ cs)) is).1, omega arith)

-- no plus stands in front of digits
no_plus : (word : List ℕ) → AllDigits 10 word → 0 < length word → get_or word 0 0 ≢ 43
no_plus word all some plus = let range = digit_at word 0 all some in absurd (omega arith)

-- what is parsed of a number, cut at 2 ^ 64
pub parsed : {E : Type 0} (word : List ℕ) (r : Result ℕ E) → is_number word ≡ true → ParsesUnsigned 64 10 word r
    → MatchResult r (λ n. Some n ≡ number_of word) (λ _. Some (2 ^ 64) ≡ number_of word)
unfolding number_of
parsed {E} word (Ok n) is parses =
    let all = number_digits word is in
    let means = parse_plain digits {E = E} 64 word (Ok n) parses (no_plus word all.0 all.1) in
    let cut : min (digits_value 10 word) (2 ^ 64) ≡ n = omega (arith, means.0.2, means.1) in
    rw (is, cut) refl
parsed {E} word (Err e) is parses =
    let all = number_digits word is in
    let means = parse_plain digits {E = E} 64 word (Err e) parses (no_plus word all.0 all.1) in
    let great : (digits_value 10 word < 2 ^ 64) → ⊥ = λ low. means (all.0, all.1, low) in
    let cut : min (digits_value 10 word) (2 ^ 64) ≡ 2 ^ 64 = omega (arith, great) in
    rw (is, cut) refl

-- the same of the code's answer where it is an error
pub great : (word text : List ℕ) → text ≡ word → is_number word ≡ true
    → ((IsNumeral 10 (without_leading_plus text) × (digits_value 10 (without_leading_plus text) < 2 ^ 64)) → ⊥) → Some 18446744073709551616 ≡ number_of word
great word text same is none =
    let P : List ℕ → Type 0 = λ t. (IsNumeral 10 (without_leading_plus t) × (digits_value 10 (without_leading_plus t) < 2 ^ 64)) → ⊥ in
    parsed {E = ℕ} word (Err 0) is (subst P same none)

-- a number is text
pub number_utf8 : (word : List ℕ) → is_number word ≡ true → IsUtf8 word
number_utf8 word is = IsUtf8-from_ascii word (IsAscii-from_digits word (number_digits word is).0)

-- ---- the decimal text

-- digits have their tests
digit_tests : (cs : List ℕ) → AllDigits 10 cs → list_all is_digit cs ≡ true
digit_tests [] all = refl
digit_tests (c ∷ cs) all =
    let here = digit_at (c ∷ cs) 0 all (omega arith) in
    and_from (is_digit c) (list_all is_digit cs) (and_from (leb 48 c) (leb c 57) (le-leb 48 c (omega arith)) (le-leb c 57 (omega arith))) (digit_tests cs (tells_digits.parts c cs all).1)

-- no needless zero stands in front of a number
no_zero : (word : List ℕ) → is_number word ≡ true → get_or word 0 0 ≡ 48 → length word ≡ 1
no_zero [] is front = absurd (false≢true is)
no_zero (c ∷ []) is front = refl
no_zero (c ∷ d ∷ cs) is front =
    let apart = (and_parts (not (eqb c 48)) (list_all is_digit (c ∷ d ∷ cs)) is).0 in
    absurd (grind (arith, nat_tests, apart, front))

-- digits with no needless zero in front are a number
front_number : (word : List ℕ) → AllDigits 10 word → 0 < length word → (1 < length word → get_or word 0 0 ≢ 48) → is_number word ≡ true
front_number [] all some front = absurd (let never : ⊥ = omega arith in never)
front_number (c ∷ []) all some front = (and_parts (is_digit c) true (digit_tests (c ∷ []) all)).0
front_number (c ∷ d ∷ cs) all some front =
    let apart : eqb c 48 ≡ false = ne_eqb c 48 (front (omega arith)) in
    rw apart (digit_tests (c ∷ d ∷ cs) all)

-- a number is its decimal text
pub written_decimal : (word : List ℕ) (n : ℕ) → Writes word n → n < 2 ^ 64 → word ≡ decimal n
written_decimal word n is low =
    let all = number_digits word is.form in
    let small : digits_value 10 word < 2 ^ 64 = omega (arith, is.value) in
    sym (ap decimal is.value ∙ decimal-digits_value digits word all.0 all.1 (no_zero word is.form) small)

-- a decimal text of more than one digit has no zero in front
front_decimal : (n : ℕ) → n < 2 ^ 64 → 1 < length (decimal n) → get_or (decimal n) 0 0 ≢ 48
front_decimal zero low long zero_front = (let one = ap length (decimal_digit 0 (omega arith)) in absurd (let never : ⊥ = omega (arith, one, long) in never))
front_decimal (suc n) low long zero_front = (let above = first_decimal (suc n) (omega arith) low in absurd (let never : ⊥ = omega (arith, above, zero_front) in never))

-- the decimal text is a number
pub decimal_written : (word : List ℕ) (n : ℕ) → word ≡ decimal n → n < 2 ^ 64 → Writes word n
decimal_written word n is low =
    subst (λ (w : List ℕ). Writes w n) (sym is) (record {
      form = front_number (decimal n) (digits_decimal digits n low) (decimal_nonempty n low) (front_decimal n low);
      value = sym (digits_value-decimal digits n low);
    })

-- ---- what is read

-- what a word spells is read, cut at 2 ^ 64
pub number_found : (word : List ℕ) (n : ℕ) → Writes word n → number_of word ≡ Some (cut_number n)
unfolding number_of
number_found word n is = rw (is.form, is.value) refl

-- what is read is spelled
pub number_some : (word : List ℕ) (k : ℕ) → number_of word ≡ Some k → (n : ℕ) × Writes word n × (k ≡ cut_number n)
unfolding number_of
number_some word k is =
    elim (cases_Bool (is_number word)) [
      | inl form ↦
          (let read : Some (cut_number (digits_value 10 word)) ≡ Some k = rw form at is in
          let same : cut_number (digits_value 10 word) ≡ k = cc read in
          (digits_value 10 word, record { form = form; value = refl }, sym same))
      | inr none ↦ (let never : None ≡ Some k = rw none at is in cc)
    ]

-- a word that is read as none spells none
pub none_spelled : (word : List ℕ) (n : ℕ) → None ≡ number_of word → Writes word n → ⊥
none_spelled word n none is = (let never : None ≡ Some (cut_number n) = none ∙ number_found word n is in cc)

-- a number that was not cut is the one that is spelled
pub small_spelled : (word : List ℕ) (k : ℕ) → Some k ≡ number_of word → k < 2 ^ 64 → Writes word k
small_spelled word k read low =
    let some = number_some word k (sym read) in
    let same : some.0 ≡ k = omega (arith, some.2) in
    subst (λ (n : ℕ). Writes word n) same some.1

-- where the number was cut, none of 64 bits is spelled
pub great_spelled : (word : List ℕ) (k n : ℕ) → Some k ≡ number_of word → 2 ^ 64 ≤ k → Writes word n → n < 2 ^ 64 → ⊥
great_spelled word k n read high is low =
    let both : Some k ≡ Some (cut_number n) = read ∙ number_found word n is in
    let same : k ≡ cut_number n = cc both in
    omega (arith, same)
