-- What a title is turned into is a name.
use Rattle.std.proofs.Common.{◌≡◌, ℕ, ◌+◌, ◌<◌, ◌≤◌, true, ◌&&◌, Option, Some, None, List, [], ◌∷◌, ◌++◌, length, take, set, get_or, map, refl, sym, ap, ◌∙◌, subst, arith, inl, inr, All, eqb, leb, lit≤}
use Rattle.std.specs.Prelude.{SomeIff}
use Rattle.std.proofs.lemmas.Bool.{cases_Bool, and_parts, leb-true, eqb-true}
use Rattle.std.proofs.lemmas.List.{length-map, map-append, take_all, take_more, take_more_set}
use Rattle.std.proofs.lemmas.List.Elements.{All-cons, All-nil}
use Rattle.slub_common.specs.Numbers.{is_digit}
use Rattle.slub_object_layout.specs.Name.{IsName, IsLetterOrDigit, IsNameByte}
use Rattle.slub_common.specs.Names.{is_letter_or_digit, is_name_byte}
use Rattle.slub_recording.specs.Names.{first_of, later_of}

-- ---- bytes of names

letter_tells : (c : ℕ) → is_letter_or_digit c ≡ true → IsLetterOrDigit c
letter_tells c is = elim (cases_Bool (leb 65 c && leb c 90)) [
  | inl great ↦ (let p = and_parts (leb 65 c) (leb c 90) great in inl (leb-true 65 c p.0, leb-true c 90 p.1))
  | inr other ↦ elim (cases_Bool (leb 97 c && leb c 122)) [
    | inl small ↦ (let p = and_parts (leb 97 c) (leb c 122) small in inr (inl (leb-true 97 c p.0, leb-true c 122 p.1)))
    | inr none ↦
        (let digit : is_digit c ≡ true = rw (other, none) at is in
        let p = and_parts (leb 48 c) (leb c 57) digit in
        inr (inr (leb-true 48 c p.0, leb-true c 57 p.1)))
  ]
]

byte_tells : (c : ℕ) → is_name_byte c ≡ true → IsNameByte c
byte_tells c is = elim (cases_Bool (is_letter_or_digit c)) [
  | inl letter ↦ inl (letter_tells c letter)
  | inr other ↦ elim (cases_Bool (eqb c 95)) [
    | inl low ↦ inr (inl (eqb-true c 95 low))
    | inr none ↦ elim (cases_Bool (eqb c 46)) [
      | inl dot ↦ inr (inr (inl (eqb-true c 46 dot)))
      | inr not ↦ (let dash : eqb c 45 ≡ true = rw (other, none, not) at is in inr (inr (inr (eqb-true c 45 dash))))
    ]
  ]
]

first_byte : (c : ℕ) → IsLetterOrDigit (first_of c)
first_byte c = elim (cases_Bool (is_letter_or_digit c)) [
  | inl is ↦ rw is (letter_tells c is)
  | inr other ↦ rw other (inr (inl (lit≤ tt, lit≤ tt)))
]

later_byte : (c : ℕ) → IsNameByte (later_of c)
later_byte c = elim (cases_Bool (is_name_byte c)) [
  | inl is ↦ rw is (byte_tells c is)
  | inr other ↦ rw other (inr (inl refl))
]

later_bytes : (cs : List ℕ) → All IsNameByte (map later_of cs)
later_bytes [] = All-nil IsNameByte
later_bytes (c ∷ cs) = All-cons IsNameByte (later_of c) (map later_of cs) (later_byte c) (later_bytes cs)

-- ---- the name

is_name : (c : ℕ) (cs : List ℕ) → length cs ≤ 30 → IsName (first_of c ∷ map later_of cs)
is_name c cs few =
    let short : length (map later_of cs) ≤ 30 = omega (arith, length-map cs later_of) in
    (first_byte c, later_bytes cs, short)

-- a byte more
pub name_more : (text cs : List ℕ) (i c : ℕ) → i + 1 < length text → i < length cs → take (i + 1) text ≡ c ∷ map later_of (take i cs) → take (i + 1 + 1) (set text (i + 1) (later_of (get_or cs i 0))) ≡ c ∷ map later_of (take (i + 1) cs)
name_more text cs i c room inside is =
    let more : take (i + 1) cs ≡ take i cs ++ get_or cs i 0 ∷ [] = take_more cs i 0 inside in
    take_more_set text (i + 1) (later_of (get_or cs i 0)) room ∙ (ap (λ l. l ++ later_of (get_or cs i 0) ∷ []) is ∙ ap (λ l. c ∷ l) (sym (ap (map later_of) more ∙ map-append later_of (take i cs) (get_or cs i 0 ∷ []))))

-- all bytes
pub named : (text cs whole : List ℕ) (c i : ℕ) (r : Option (List ℕ)) → length cs ≤ 30 → length cs ≤ i → i ≤ length cs → take (i + 1) text ≡ first_of c ∷ map later_of (take i cs) → whole ≡ take (length cs + 1) text → SomeIff r (IsName whole) whole → r ≡ Some (first_of c ∷ map later_of cs)
named text cs whole c i None few past within is same none =
    let count : i ≡ length cs = omega arith in
    let all : whole ≡ first_of c ∷ map later_of cs =
    same ∙ (ap (λ n. take (n + 1) text) (sym count) ∙ (is ∙ ap (λ l. first_of c ∷ map later_of l) (take_all i cs past))) in
    absurd (none (subst (λ l. IsName l) (sym all) (is_name c cs few)))
named text cs whole c i (Some name) few past within is same some =
    let count : i ≡ length cs = omega arith in
    let all : whole ≡ first_of c ∷ map later_of cs =
    same ∙ (ap (λ n. take (n + 1) text) (sym count) ∙ (is ∙ ap (λ l. first_of c ∷ map later_of l) (take_all i cs past))) in
    ap Some (some.1 ∙ all)
