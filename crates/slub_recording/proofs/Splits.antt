-- Texts cut at a mark: words, lines and parts.
use Rattle.std.proofs.Common.{◌≡◌, ◌≢◌, ℕ, ◌<◌, Bool, true, false, cond, Option, Some, None, Bor, List, [], ◌∷◌, ◌++◌, length, refl, sym, ap, ◌∙◌, arith, eqb, ◌||◌, inl, inr, ◌⊎◌, All, length-append}
use Rattle.std.specs.Prelude.{IfSome, IfNone}
use Rattle.std.proofs.lemmas.Bool.{cases_Bool, true≢false, eqb-true, eqb-false, ne_eqb, eq-eqb}
use Rattle.std.proofs.lemmas.List.Elements.{All-tail}
use Rattle.std.specs.Str.{bytes_eq}
use Rattle.slub_recording.specs.Acts.{has_flag}
use Rattle.slub_recording.specs.Heads.{cpu_of, cpu_at}
use Rattle.slub_recording.specs.Words.{Gives, is_blank, is_blank_front, with_front, words, parts, strip_last, split_at, value_in, field_of}
use Rattle.slub_common.specs.Lines.{cut_lines}
use Rattle.slub_recording.proofs.Fronts.{cases_Option, same_pair}

-- ---- words

-- a blank in front is no part of a word
pub words_blank : (bytes cs : List ℕ) (c : ℕ) → bytes ≡ c ∷ cs → is_blank c ≡ true → words bytes ≡ words cs
unfolding words
words_blank bytes cs c front is = rw (front, is) refl

-- nothing has no words
pub words_none : (bytes : List ℕ) → length bytes ≡ 0 → words bytes ≡ []
unfolding words
words_none [] is = refl
words_none (c ∷ cs) is = absurd (let never : ⊥ = omega arith in never)

-- bytes that are no blanks
abbrev pub IsWord : List ℕ → Type 0
IsWord word = All (λ c. is_blank c ≡ false) word

-- its first byte is no blank
first_byte : (c : ℕ) (word : List ℕ) → IsWord (c ∷ word) → is_blank c ≡ false
first_byte c word is = is 0 0 (omega arith)

-- a byte of a word, with more of it behind or not
words_more_of : (c : ℕ) (cs : List ℕ) → is_blank c ≡ false → is_blank_front cs ≡ false → words (c ∷ cs) ≡ with_front c (words cs)
unfolding words
words_more_of c cs here behind = rw (here, behind) refl

words_last : (c : ℕ) (cs : List ℕ) → is_blank c ≡ false → is_blank_front cs ≡ true → words (c ∷ cs) ≡ (c ∷ []) ∷ words cs
unfolding words
words_last c cs here behind = rw (here, behind) refl

-- a word with a blank or nothing behind it
words_word : (c : ℕ) (word rest : List ℕ) → IsWord (c ∷ word) → is_blank_front rest ≡ true → words ((c ∷ word) ++ rest) ≡ (c ∷ word) ∷ words rest
words_word c [] rest is behind = words_last c rest (first_byte c [] is) behind
words_word c (d ∷ ds) rest is behind =
    let more : IsWord (d ∷ ds) = All-tail (λ x. is_blank x ≡ false) c (d ∷ ds) is in
    words_more_of c ((d ∷ ds) ++ rest) (first_byte c (d ∷ ds) is) (first_byte d ds more) ∙ ap (with_front c) (words_word d ds rest more behind)

-- the first word of bytes that don't begin with a blank
pub words_first : (bytes word rest : List ℕ) → bytes ≡ word ++ rest → IsWord word → is_blank_front rest ≡ true → (bytes ≡ []) ⊎ (is_blank_front bytes ≡ false) → 0 < length bytes → words bytes ≡ word ∷ words rest
words_first bytes [] rest whole is behind (inl none) some = absurd (let zero : length bytes ≡ 0 = ap length none in let never : ⊥ = omega arith in never)
words_first bytes [] rest whole is behind (inr front) some = absurd (true≢false (sym behind ∙ (sym (ap is_blank_front whole) ∙ front)))
words_first bytes (c ∷ word) rest whole is behind front some = ap words whole ∙ words_word c word rest is behind

-- and what follows it is shorter
pub shorter_first : (bytes word rest : List ℕ) → bytes ≡ word ++ rest → is_blank_front rest ≡ true → (bytes ≡ []) ⊎ (is_blank_front bytes ≡ false) → 0 < length bytes → length rest < length bytes
shorter_first bytes [] rest whole behind (inl none) some = absurd (let zero : length bytes ≡ 0 = ap length none in let never : ⊥ = omega arith in never)
shorter_first bytes [] rest whole behind (inr front) some = absurd (true≢false (sym behind ∙ (sym (ap is_blank_front whole) ∙ front)))
shorter_first bytes (c ∷ word) rest whole behind front some =
    let same = ap length whole in
    omega (arith, same, length-append (c ∷ word) rest)

-- ---- a mark

-- no mark stands in a text
abbrev pub IsPlain : ℕ → List ℕ → Type 0
IsPlain mark text = All (λ c. c ≢ mark) text

apart : (mark c : ℕ) (text : List ℕ) → IsPlain mark (c ∷ text) → eqb c mark ≡ false
apart mark c text is = ne_eqb c mark (is 0 0 (omega arith))

split_found : (mark : ℕ) (text rest : List ℕ) → IsPlain mark text → split_at mark (text ++ mark ∷ rest) ≡ Some (text, rest)
unfolding split_at
split_found mark [] rest is = rw (eq-eqb mark mark refl) refl
split_found mark (c ∷ text) rest is =
    rw (apart mark c text is, split_found mark text rest (All-tail (λ x. x ≢ mark) c text is)) refl

split_none : (mark : ℕ) (text : List ℕ) → IsPlain mark text → split_at mark text ≡ None
unfolding split_at
split_none mark [] is = refl
split_none mark (c ∷ text) is =
    rw (apart mark c text is, split_none mark text (All-tail (λ x. x ≢ mark) c text is)) refl

-- what the code finds is what the definition says
pub splits : (mark : ℕ) (bytes : List ℕ) (r : Option (Bor (List ℕ) × Bor (List ℕ))) → IfSome r (λ x. (bytes ≡ x.0.now ++ mark ∷ x.1.now) × All (λ c. c ≢ mark) x.0.now) → IfNone r (All (λ c. c ≢ mark) bytes) → Gives (λ x. (x.0.now, x.1.now)) r (split_at mark bytes)
splits mark bytes None found none = split_none mark bytes none
splits mark bytes (Some x) found none = rw (found.0) (split_found mark x.0.now x.1.now found.1)

-- what a cut leaves is shorter
pub shorter_behind : (mark : ℕ) (bytes text rest : List ℕ) → split_at mark bytes ≡ Some (text, rest) → length rest < length bytes
unfolding split_at
shorter_behind mark [] text rest is = cc
shorter_behind mark (c ∷ cs) text rest is = elim (cases_Bool (eqb c mark)) [
  | inl same ↦
      (let at : Some ([], cs) ≡ Some (text, rest) = rw same at is in
      let pair = same_pair ([], cs) (text, rest) at in
      let behind = ap length pair.1 in
      omega (arith, behind))
  | inr other ↦ elim (cases_Option (split_at mark cs)) [
    | inl none ↦ (let never : None ≡ Some (text, rest) = rw (other, none) at is in cc)
    | inr found ↦
        (let at : Some (c ∷ found.0.0, found.0.1) ≡ Some (text, rest) = rw (other, found.1) at is in
        let pair = same_pair (c ∷ found.0.0, found.0.1) (text, rest) at in
        let behind = ap length pair.1 in
        let less = shorter_behind mark cs found.0.0 found.0.1 found.1 in
        omega (arith, behind, less))
  ]
]

-- the first line, and the others
pub lines_cut : (bytes text rest : List ℕ) → split_at 10 bytes ≡ Some (text, rest) → cut_lines bytes ≡ (text ∷ (cut_lines rest).0, (cut_lines rest).1)
unfolding split_at cut_lines
lines_cut [] text rest is = cc
lines_cut (c ∷ cs) text rest is = elim (cases_Bool (eqb c 10)) [
  | inl same ↦
      (let at : Some ([], cs) ≡ Some (text, rest) = rw same at is in
      let pair = same_pair ([], cs) (text, rest) at in
      rw (same, ← pair.0, ← pair.1) refl)
  | inr other ↦ elim (cases_Option (split_at 10 cs)) [
    | inl none ↦ (let never : None ≡ Some (text, rest) = rw (other, none) at is in cc)
    | inr found ↦
        (let at : Some (c ∷ found.0.0, found.0.1) ≡ Some (text, rest) = rw (other, found.1) at is in
        let pair = same_pair (c ∷ found.0.0, found.0.1) (text, rest) at in
        let more = lines_cut cs found.0.0 found.0.1 found.1 in
        rw (other, more, ← pair.0, ← pair.1) refl)
  ]
]

-- no line is finished
pub lines_none : (bytes : List ℕ) → split_at 10 bytes ≡ None → cut_lines bytes ≡ ([], bytes)
unfolding split_at cut_lines
lines_none [] is = refl
lines_none (c ∷ cs) is = elim (cases_Bool (eqb c 10)) [
  | inl same ↦ (let never : Some ([], cs) ≡ None = rw same at is in cc)
  | inr other ↦ elim (cases_Option (split_at 10 cs)) [
    | inl none ↦ rw (other, lines_none cs none) refl
    | inr found ↦ (let never : Some (c ∷ found.0.0, found.0.1) ≡ None = rw (other, found.1) at is in cc)
  ]
]

-- the first part, and the others
pub parts_cut : (mark : ℕ) (bytes text rest : List ℕ) → split_at mark bytes ≡ Some (text, rest) → parts mark bytes ≡ text ∷ parts mark rest
unfolding split_at parts
parts_cut mark [] text rest is = cc
parts_cut mark (c ∷ cs) text rest is = elim (cases_Bool (eqb c mark)) [
  | inl same ↦
      (let at : Some ([], cs) ≡ Some (text, rest) = rw same at is in
      let pair = same_pair ([], cs) (text, rest) at in
      rw (same, ← pair.0, ← pair.1) refl)
  | inr other ↦ elim (cases_Option (split_at mark cs)) [
    | inl none ↦ (let never : None ≡ Some (text, rest) = rw (other, none) at is in cc)
    | inr found ↦
        (let at : Some (c ∷ found.0.0, found.0.1) ≡ Some (text, rest) = rw (other, found.1) at is in
        let pair = same_pair (c ∷ found.0.0, found.0.1) (text, rest) at in
        let more = parts_cut mark cs found.0.0 found.0.1 found.1 in
        rw (other, more, ← pair.0, ← pair.1) refl)
  ]
]

-- the last part
pub parts_none : (mark : ℕ) (bytes : List ℕ) → split_at mark bytes ≡ None → parts mark bytes ≡ bytes ∷ []
unfolding split_at parts
parts_none mark [] is = refl
parts_none mark (c ∷ cs) is = elim (cases_Bool (eqb c mark)) [
  | inl same ↦ (let never : Some ([], cs) ≡ None = rw same at is in cc)
  | inr other ↦ elim (cases_Option (split_at mark cs)) [
    | inl none ↦ rw (other, parts_none mark cs none) refl
    | inr found ↦ (let never : Some (c ∷ found.0.0, found.0.1) ≡ None = rw (other, found.1) at is in cc)
  ]
]

-- ---- the last byte

pub last_is : (mark last : ℕ) (init : List ℕ) → strip_last mark (init ++ last ∷ []) ≡ cond (eqb last mark) (Some init) None
unfolding strip_last
last_is mark last [] = refl
last_is mark last (c ∷ []) = elim (cases_Bool (eqb last mark)) [ inl same ↦ rw same refl | inr other ↦ rw other refl ]
last_is mark last (c ∷ d ∷ ds) = elim (cases_Bool (eqb last mark)) [
  | inl same ↦ rw (last_is mark last (d ∷ ds), same) refl
  | inr other ↦ rw (last_is mark last (d ∷ ds), other) refl
]

-- a text that ends so, or doesn't
pub last_same : (mark last : ℕ) (bytes init : List ℕ) → bytes ≡ init ++ last ∷ [] → last ≡ mark → strip_last mark bytes ≡ Some init
last_same mark last bytes init whole same = ap (strip_last mark) whole ∙ (last_is mark last init ∙ (let is = eq-eqb last mark same in rw is refl))

pub last_other : (mark last : ℕ) (bytes init : List ℕ) → bytes ≡ init ++ last ∷ [] → last ≢ mark → strip_last mark bytes ≡ None
last_other mark last bytes init whole other = ap (strip_last mark) whole ∙ (last_is mark last init ∙ (let is = ne_eqb last mark other in rw is refl))

pub last_none : (mark : ℕ) (bytes : List ℕ) → length bytes ≡ 0 → strip_last mark bytes ≡ None
unfolding strip_last
last_none mark [] is = refl
last_none mark (c ∷ cs) is = absurd (let never : ⊥ = omega arith in never)

-- ---- values

pub field_here : (key value : List ℕ) (ws vs : List (List ℕ)) (w : List ℕ) → ws ≡ w ∷ vs → value_in key w ≡ Some value → field_of key ws ≡ Some value
unfolding field_of
field_here key value ws vs w front is = rw (front, is) refl

pub field_on : (key : List ℕ) (ws vs : List (List ℕ)) (w : List ℕ) → ws ≡ w ∷ vs → value_in key w ≡ None → field_of key ws ≡ field_of key vs
unfolding field_of
field_on key ws vs w front is = rw (front, is) refl

pub field_none : (key : List ℕ) (ws : List (List ℕ)) → ws ≡ [] → field_of key ws ≡ None
unfolding field_of
field_none key ws is = rw is refl

-- ---- flags

pub flag_found : (flag flags part rest : List ℕ) → split_at 124 flags ≡ Some (part, rest) → bytes_eq flag part ≡ true → has_flag flag flags ≡ true
unfolding has_flag
flag_found flag flags part rest cut same = let is = parts_cut 124 flags part rest cut in rw (is, same) refl

pub flag_on : (flag flags part rest : List ℕ) → split_at 124 flags ≡ Some (part, rest) → bytes_eq flag part ≡ false → has_flag flag flags ≡ has_flag flag rest
unfolding has_flag
flag_on flag flags part rest cut other = let is = parts_cut 124 flags part rest cut in rw (is, other) refl

or_none : (b : Bool) → (b || false) ≡ b
or_none true = refl
or_none false = refl

pub flag_last : (flag flags : List ℕ) → split_at 124 flags ≡ None → has_flag flag flags ≡ bytes_eq flag flags
unfolding has_flag
flag_last flag flags none = let is = parts_none 124 flags none in rw is (or_none (bytes_eq flag flags))

-- ---- CPUs

pub cpu_here : (ws vs : List (List ℕ)) (w : List ℕ) (n : ℕ) → ws ≡ w ∷ vs → Some n ≡ cpu_of w → cpu_at ws ≡ Some (n, vs)
unfolding cpu_at
cpu_here ws vs w n front is = rw (front, ← is) refl

pub cpu_on : (ws vs : List (List ℕ)) (w : List ℕ) → ws ≡ w ∷ vs → None ≡ cpu_of w → cpu_at ws ≡ cpu_at vs
unfolding cpu_at
cpu_on ws vs w front is = rw (front, ← is) refl

pub cpu_none : (ws : List (List ℕ)) → ws ≡ [] → cpu_at ws ≡ None
unfolding cpu_at
cpu_none ws is = rw is refl

-- ---- the code's tests

pub words_empty : (bytes : List ℕ) → true ≡ eqb (length bytes) 0 → words bytes ≡ []
words_empty bytes is = words_none bytes (eqb-true (length bytes) 0 (sym is))

pub words_more : (bytes word rest : List ℕ) → bytes ≡ word ++ rest → IsWord word → is_blank_front rest ≡ true → (bytes ≡ []) ⊎ (is_blank_front bytes ≡ false) → false ≡ eqb (length bytes) 0 → words bytes ≡ word ∷ words rest
words_more bytes word rest whole is behind front some =
    let apart = eqb-false (length bytes) 0 (sym some) in
    words_first bytes word rest whole is behind front (omega arith)
