-- Numbers that digits write.
use Rattle.std.proofs.Common.{◌≡◌, ℕ, zero, suc, ◌+◌, ◌*◌, ◌^◌, ◌<◌, ◌≤◌, true, false, Some, None, List, [], ◌∷◌, length, take, get_or, refl, sym, ap, ◌∙◌, arith, ltb}
use Rattle.std.proofs.lemmas.Int.Digits.{digits_value_more}
use Rattle.std.proofs.lemmas.Str.Parse.{digits_value-take-le}
use Rattle.std.specs.Char.{digit_value}
use Rattle.std.specs.Str.Parse.{digits_value}
use Rattle.slub_recording.specs.Words.{within}
use Rattle.std.proofs.lemmas.Bool.{le-ltb, lt-ltb, and_parts}
use Rattle.std.specs.List.{list_all}
use Rattle.slub_recording.specs.Words.{is_hex}
use Rattle.std.proofs.lemmas.List.{take_all}
use Rattle.std.proofs.lemmas.Bool.{and_from}
use Rattle.slub_common.specs.Numbers.{is_digit}

-- digits whose front, with one digit more, is too great write too great a number
pub too_great : (radix : ℕ) (word : List ℕ) (i n : ℕ) → 1 ≤ radix → i < length word → n ≡ digits_value radix (take i word) → 2 ^ 64 ≤ n * radix + digit_value (get_or word i 0) → within 64 (digits_value radix word) ≡ None
too_great radix word i n some inside is great =
    let more = digits_value_more radix word i inside in
    let le = digits_value-take-le radix word (i + 1) some in
    let front : n * radix ≡ digits_value radix (take i word) * radix = ap (λ x. x * radix) is in
    let high : 2 ^ 64 ≤ digits_value radix word = omega (arith, more, le, front) in
    let is_great : ltb (digits_value radix word) (2 ^ 64) ≡ false = le-ltb (digits_value radix word) (2 ^ 64) high in
    rw is_great refl

-- a number that is small enough
pub small_enough : (bits n : ℕ) → n < 2 ^ bits → within bits n ≡ Some n
small_enough bits n low = let is : ltb n (2 ^ bits) ≡ true = lt-ltb n (2 ^ bits) low in rw is refl

-- a byte of hexadecimal digits is one
pub digit_of : (word : List ℕ) (i : ℕ) → list_all is_hex word ≡ true → i < length word → is_hex (get_or word i 0) ≡ true
digit_of [] i all inside = absurd (let never : ⊥ = omega arith in never)
digit_of (c ∷ cs) zero all inside = (and_parts (is_hex c) (list_all is_hex cs) all).0
digit_of (c ∷ cs) (suc i) all inside = digit_of cs i (and_parts (is_hex c) (list_all is_hex cs) all).1 (omega arith)

-- all digits were passed
pub value_whole : (radix : ℕ) (word : List ℕ) (i n : ℕ) → length word ≤ i → n ≡ digits_value radix (take i word) → n < 2 ^ 64 → Some n ≡ within 64 (digits_value radix word)
value_whole radix word i n past is low =
    let whole : take i word ≡ word = take_all i word past in
    let same : n ≡ digits_value radix word = is ∙ ap (digits_value radix) whole in
    sym (rw (← same) (small_enough 64 n low))

-- decimal digits are hexadecimal ones
pub hex_digits : (word : List ℕ) → list_all is_digit word ≡ true → list_all is_hex word ≡ true
hex_digits [] all = refl
hex_digits (c ∷ cs) all =
    let both = and_parts (is_digit c) (list_all is_digit cs) all in
    let here : is_hex c ≡ true = rw both.0 refl in
    and_from (is_hex c) (list_all is_hex cs) here (hex_digits cs both.1)
