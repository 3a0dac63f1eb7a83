-- A fixed text in front, byte by byte.
use Rattle.std.proofs.Common.{◌≡◌, ◌≢◌, ℕ, true, false, Option, Some, None, List, [], ◌∷◌, length, refl, sym, ap, arith, eq-eqb, eqb, inl, inr, ◌⊎◌}
use Rattle.std.proofs.lemmas.Bool.{ne_eqb}
use Rattle.slub_recording.specs.Words.{strip}

-- an answer that is there, or isn't
pub cases_Option : {A : Type 0} (o : Option A) → (o ≡ None) ⊎ ((x : A) × (o ≡ Some x))
cases_Option None = inl refl
cases_Option (Some x) = inr (x, refl)

-- byte by byte: the same byte in front of both, a byte apart, and none
pub strip_more : (text ts bytes bs : List ℕ) (t b : ℕ) → text ≡ t ∷ ts → bytes ≡ b ∷ bs → b ≡ t → strip text bytes ≡ strip ts bs
unfolding strip
strip_more text ts bytes bs t b front here same =
    let is : eqb t b ≡ true = eq-eqb t b (sym same) in
    rw (front, here, is) refl

pub strip_apart : (text ts bytes bs : List ℕ) (t b : ℕ) → text ≡ t ∷ ts → bytes ≡ b ∷ bs → b ≢ t → strip text bytes ≡ None
unfolding strip
strip_apart text ts bytes bs t b front here apart =
    let is : eqb t b ≡ false = ne_eqb t b (λ same. apart (sym same)) in
    rw (front, here, is) refl

pub strip_short : (text ts bytes : List ℕ) (t : ℕ) → text ≡ t ∷ ts → length bytes ≡ 0 → strip text bytes ≡ None
unfolding strip
strip_short text ts [] t front none = rw front refl
strip_short text ts (b ∷ bs) t front none = absurd (let never : ⊥ = omega arith in never)

pub strip_all : (text bytes : List ℕ) → length text ≡ 0 → strip text bytes ≡ Some bytes
unfolding strip
strip_all [] bytes none = refl
strip_all (t ∷ ts) bytes none = absurd (let never : ⊥ = omega arith in never)

-- the parts of a pair that is there, or others
first_of_some : {A B : Type 0} → A → Option (A × B) → A
first_of_some a None = a
first_of_some a (Some p) = p.0

second_of_some : {A B : Type 0} → B → Option (A × B) → B
second_of_some b None = b
second_of_some b (Some p) = p.1

-- equal pairs have equal parts
pub same_pair : {A B : Type 0} (p q : A × B) → Some p ≡ Some q → (p.0 ≡ q.0) × (p.1 ≡ q.1)
unfolding first_of_some second_of_some
same_pair {A} {B} p q is = (ap (first_of_some {A = A} {B = B} p.0) is, ap (second_of_some {A = A} {B = B} p.1) is)
