-- Names by their test.
use Rattle.std.proofs.Common.{◌≡◌, ℕ, true, false, ◌&&◌, Option, Some, None, List, [], ◌∷◌, length, refl, arith, leb, All, ◌⊎◌}
use Rattle.std.specs.Prelude.{IsSome, SomeIff}
use Rattle.std.specs.List.{list_all}
use Rattle.std.proofs.lemmas.Bool.{false≢true, and_parts, and_from, leb-true, le-leb}
use Rattle.std.proofs.lemmas.List.Elements.{All-cons, All-nil, All-tail}
use Rattle.std.proofs.lemmas.Bool.Decides.{nat_tests}
use Rattle.slub_object_layout.specs.Name.{IsName, IsLetterOrDigit, IsNameByte}
use Rattle.slub_common.specs.Names.{is_letter_or_digit, is_name_byte}
use Rattle.slub_trace.specs.Names.{is_name}

-- a letter or a digit by its test
letter_tells : (c : ℕ) → (is_letter_or_digit c ≡ true → IsLetterOrDigit c) × (IsLetterOrDigit c → is_letter_or_digit c ≡ true)
letter_tells c = (λ is. grind (arith, nat_tests), λ is. grind (arith, nat_tests))

-- a byte of a name by its test
byte_tells : (c : ℕ) → (is_name_byte c ≡ true → IsNameByte c) × (IsNameByte c → is_name_byte c ≡ true)
byte_tells c = (λ is. grind (arith, nat_tests), λ is. grind (arith, nat_tests))

name_bytes : (cs : List ℕ) → list_all is_name_byte cs ≡ true → All IsNameByte cs
name_bytes [] is = All-nil IsNameByte
name_bytes (c ∷ cs) is =
    let parts = and_parts (is_name_byte c) (list_all is_name_byte cs) is in
    All-cons IsNameByte c cs ((byte_tells c).0 parts.0) (name_bytes cs parts.1)

are_name_bytes : (cs : List ℕ) → All IsNameByte cs → list_all is_name_byte cs ≡ true
are_name_bytes [] is = refl
are_name_bytes (c ∷ cs) is =
    and_from (is_name_byte c) (list_all is_name_byte cs) ((byte_tells c).1 (is 0 0 (omega arith))) (are_name_bytes cs (All-tail IsNameByte c cs is))

-- a name by its test
pub name_tells : (word : List ℕ) → (is_name word ≡ true → IsName word) × (IsName word → is_name word ≡ true)
name_tells [] = (λ is. false≢true is, λ is. absurd is)
name_tells (c ∷ cs) = (
  λ is.
      (let parts = and_parts (is_letter_or_digit c && list_all is_name_byte cs) (leb (length cs) 30) is in
      let front = and_parts (is_letter_or_digit c) (list_all is_name_byte cs) parts.0 in
      ((letter_tells c).0 front.0, name_bytes cs front.1, leb-true (length cs) 30 parts.1)),
  λ is. and_from (is_letter_or_digit c && list_all is_name_byte cs) (leb (length cs) 30)
      (and_from (is_letter_or_digit c) (list_all is_name_byte cs) ((letter_tells c).1 is.0) (are_name_bytes cs is.1)) (le-leb (length cs) 30 is.2),
)

-- a text that passes the test is a name
pub names_some : (word : List ℕ) (r : Option (List ℕ)) → is_name word ≡ true → SomeIff r (IsName word) word → IsSome r
names_some word None is some = absurd (some ((name_tells word).0 is))
names_some word (Some x) is some = refl
