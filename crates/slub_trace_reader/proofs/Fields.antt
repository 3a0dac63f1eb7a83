-- Words taken off the front, and what stands there.
use Rattle.std.proofs.Common.{◌≡◌, ◌≢◌, ℕ, true, false, Option, Some, None, Bor, List, [], ◌∷◌, ◌++◌, length, refl, sym, ap, arith, eq-eqb, eqb, inl, inr, subst, All, ◌⊎◌}
use Rattle.std.specs.Prelude.{IfSome, IfNone, MatchOption, SomeIff}
use Rattle.std.proofs.lemmas.Bool.{cases_Bool, eqb-true, eqb-false, ne_eqb, false_from_ne_true}
use Rattle.std.proofs.lemmas.List.Elements.{All-cons, All-nil, All-tail}
use Rattle.slub_object_layout.specs.Name.{IsName}
use Rattle.slub_trace.specs.Names.{is_name}
use Rattle.slub_trace.proofs.Names.{name_tells}
use Rattle.slub_trace_reader.specs.Forms.{Gives, strip, field, name_of}

-- ---- a fixed text in front

-- what follows the text
pub strip_found : (t rest : List ℕ) → strip t (t ++ rest) ≡ Some rest
unfolding strip
strip_found [] rest = refl
strip_found (c ∷ t) rest = rw (eq-eqb c c refl) (strip_found t rest)

-- where something follows the text, it stands in front
pub strip_some : (t bytes rest : List ℕ) → strip t bytes ≡ Some rest → bytes ≡ t ++ rest
unfolding strip
strip_some [] bytes rest is = cc
strip_some (c ∷ t) [] rest is = cc
strip_some (c ∷ t) (b ∷ bs) rest is =
    elim (cases_Bool (eqb c b)) [
      | inl same ↦
          let more : strip t bs ≡ Some rest = rw same at is in
          rw (eqb-true c b same, strip_some t bs rest more) refl
      | inr apart ↦ (let never : None ≡ Some rest = rw apart at is in cc)
    ]

-- an answer that is there, or isn't
pub cases_Option : {A : Type 0} (o : Option A) → (o ≡ None) ⊎ ((x : A) × (o ≡ Some x))
cases_Option None = inl refl
cases_Option (Some x) = inr (x, refl)

-- where the text is not in front, nothing follows it
pub strip_none : (t bytes : List ℕ) → ((rest : List ℕ) → bytes ≢ t ++ rest) → strip t bytes ≡ None
strip_none t bytes none = elim (cases_Option (strip t bytes)) [
  | inl is ↦ is
  | inr found ↦ absurd (none found.0 (strip_some t bytes found.0 found.1))
]

-- the same of the code's answer
pub strips : (t bytes : List ℕ) (r : Option (Bor (List ℕ))) → MatchOption r ((rest : List ℕ) → bytes ≢ t ++ rest) (λ x. bytes ≡ t ++ x.now) → Gives (λ rest. rest.now) r (strip t bytes)
strips t bytes None none = strip_none t bytes none
strips t bytes (Some x) is = rw is (strip_found t x.now)

-- byte by byte: the same byte in front of both, a byte apart, and none
pub strip_more : (text ts bytes bs : List ℕ) (t b : ℕ) → text ≡ t ∷ ts → bytes ≡ b ∷ bs → b ≡ t → strip text bytes ≡ strip ts bs
unfolding strip
strip_more text ts bytes bs t b front here same =
    let is : eqb t b ≡ true = eq-eqb t b (sym same) in
    rw (front, here, is) refl

pub strip_apart : (text ts bytes bs : List ℕ) (t b : ℕ) → text ≡ t ∷ ts → bytes ≡ b ∷ bs → b ≢ t → strip text bytes ≡ None
unfolding strip
strip_apart text ts bytes bs t b front here apart =
    let is : eqb t b ≡ false = ne_eqb t b (λ same. apart (sym same)) in
    rw (front, here, is) refl

pub strip_short : (text ts bytes : List ℕ) (t : ℕ) → text ≡ t ∷ ts → length bytes ≡ 0 → strip text bytes ≡ None
unfolding strip
strip_short text ts [] t front none = rw front refl
strip_short text ts (b ∷ bs) t front none = absurd (let never : ⊥ = omega arith in never)

pub strip_all : (text bytes : List ℕ) → length text ≡ 0 → strip text bytes ≡ Some bytes
unfolding strip
strip_all [] bytes none = refl
strip_all (t ∷ ts) bytes none = absurd (let never : ⊥ = omega arith in never)

-- ---- a word and a space in front

-- the parts of a pair that is there, or others
first_of_some : {A B : Type 0} → A → Option (A × B) → A
first_of_some a None = a
first_of_some a (Some p) = p.0

second_of_some : {A B : Type 0} → B → Option (A × B) → B
second_of_some b None = b
second_of_some b (Some p) = p.1

-- equal pairs have equal parts
pub same_pair : {A B : Type 0} (p q : A × B) → Some p ≡ Some q → (p.0 ≡ q.0) × (p.1 ≡ q.1)
unfolding first_of_some second_of_some
same_pair {A} {B} p q is = (ap (first_of_some {A = A} {B = B} p.0) is, ap (second_of_some {A = A} {B = B} p.1) is)

-- no space stands in a word
abbrev pub IsWord : List ℕ → Type 0
IsWord word = All (λ b. b ≢ 32) word

-- its first byte is no space
not_space : (b : ℕ) (word : List ℕ) → IsWord (b ∷ word) → eqb b 32 ≡ false
not_space b word is = ne_eqb b 32 (is 0 0 (omega arith))

-- a word up to the first space
pub field_found : (word rest : List ℕ) → IsWord word → field (word ++ 32 ∷ rest) ≡ Some (word, rest)
unfolding field
field_found [] rest is = refl
field_found (b ∷ word) rest is = rw (not_space b word is, field_found word rest (All-tail (λ c. c ≢ 32) b word is)) refl

-- a word without a space is no field
pub field_none : (word : List ℕ) → IsWord word → field word ≡ None
unfolding field
field_none [] is = refl
field_none (b ∷ word) is = rw (not_space b word is, field_none word (All-tail (λ c. c ≢ 32) b word is)) refl

-- a field is a word, a space and what follows
pub field_some : (bytes word rest : List ℕ) → field bytes ≡ Some (word, rest) → (bytes ≡ word ++ 32 ∷ rest) × IsWord word
unfolding field
field_some [] word rest is = cc
field_some (b ∷ bytes) word rest is =
    elim (cases_Bool (eqb b 32)) [
      | inl space ↦
          (let same : Some ([], bytes) ≡ Some (word, rest) = rw space at is in
          let parts = same_pair ([], bytes) (word, rest) same in
          rw (← parts.0, ← parts.1, eqb-true b 32 space) (refl, All-nil (λ c. c ≢ 32)))
      | inr apart ↦
          elim (cases_Option (field bytes)) [
            | inl none ↦ (let never : None ≡ Some (word, rest) = rw (apart, none) at is in cc)
            | inr found ↦
                (let same : Some (b ∷ found.0.0, found.0.1) ≡ Some (word, rest) = rw (apart, found.1) at is in
                let parts = same_pair (b ∷ found.0.0, found.0.1) (word, rest) same in
                let more = field_some bytes found.0.0 found.0.1 found.1 in
                let whole : b ∷ bytes ≡ (b ∷ found.0.0) ++ 32 ∷ found.0.1 = ap (λ bs. b ∷ bs) more.0 in
                let P : List ℕ → List ℕ → Type 0 = λ w r. (b ∷ bytes ≡ w ++ 32 ∷ r) × IsWord w in
                subst (λ r. P word r) parts.1 (subst (λ w. P w found.0.1) parts.0 (whole, All-cons (λ c. c ≢ 32) b found.0.0 (eqb-false b 32 apart) more.1)))
          ]
    ]

-- the same of the code's answer
pub fields : (bytes : List ℕ) (r : Option (Bor (List ℕ) × Bor (List ℕ))) → IfSome r (λ x. (bytes ≡ x.0.now ++ 32 ∷ x.1.now) × All (λ b. b ≢ 32) x.0.now) → IfNone r (All (λ b. b ≢ 32) bytes)
    → Gives (λ x. (x.0.now, x.1.now)) r (field bytes)
fields bytes None found none = field_none bytes none
fields bytes (Some x) found none = rw (found.0) (field_found x.0.now x.1.now found.1)

-- ---- names

-- the same of the code's answer
pub names : (word : List ℕ) (r : Option (List ℕ)) → SomeIff r (IsName word) word → r ≡ name_of word
unfolding name_of
names word None is = rw (false_from_ne_true (is_name word) (λ named. is ((name_tells word).0 named))) refl
names word (Some x) is = rw ((name_tells word).1 is.0) (ap (λ t. Some t) is.1)
