-- Texts that a byte parts.
use Rattle.std.proofs.Common.{◌≡◌, ◌≢◌, ℕ, false, List, [], ◌∷◌, ◌++◌, refl, sym, ◌∙◌, arith, eqb, All}
use Rattle.std.proofs.lemmas.Bool.{true≢false, eq-eqb}
use Rattle.std.proofs.lemmas.List.Elements.{All-tail}

-- it has no such byte
abbrev pub HasNo : ℕ → List ℕ → Type 0
HasNo mark text = All (λ b. eqb b mark ≡ false) text

pub first_differs : {A : Type 0} (mark b : ℕ) (text : List ℕ) → HasNo mark (b ∷ text) → b ≡ mark → A
first_differs mark b text clean same =
    let here : eqb b mark ≡ false = clean 0 b (omega arith) in
    absurd (true≢false (sym (eq-eqb b mark same) ∙ here))

pub same_head : (a b : ℕ) (xs ys : List ℕ) → a ∷ xs ≡ b ∷ ys → a ≡ b
same_head a b xs ys is = cc

pub same_tail : (a b : ℕ) (xs ys : List ℕ) → a ∷ xs ≡ b ∷ ys → xs ≡ ys
same_tail a b xs ys is = cc

-- nor has what stands behind the first byte
pub less : (mark b : ℕ) (text : List ℕ) → HasNo mark (b ∷ text) → HasNo mark text
less mark b text clean = All-tail (λ x. eqb x mark ≡ false) b text clean

-- the first such byte parts a text in one way
pub same_parts : (mark : ℕ) (front behind other rest : List ℕ) → HasNo mark front → HasNo mark other → front ++ mark ∷ behind ≡ other ++ mark ∷ rest → (front ≡ other) × (behind ≡ rest)
same_parts mark [] behind [] rest clean none is = (refl, same_tail mark mark behind rest is)
same_parts mark [] behind (b ∷ other) rest clean none is = first_differs mark b other none (sym (same_head _ _ _ _ is))
same_parts mark (a ∷ front) behind [] rest clean none is = first_differs mark a front clean (same_head _ _ _ _ is)
same_parts mark (a ∷ front) behind (b ∷ other) rest clean none is =
    let more = same_parts mark front behind other rest (less mark a front clean) (less mark b other none) (same_tail _ _ _ _ is) in
    let first : a ≡ b = same_head _ _ _ _ is in
    (rw (first, more.0) refl, more.1)

-- a text without one isn't parted
pub not_parted : (mark : ℕ) (text front behind : List ℕ) → HasNo mark text → text ≢ front ++ mark ∷ behind
not_parted mark [] [] behind clean is = absurd (let never : ⊥ = cc in never)
not_parted mark [] (b ∷ front) behind clean is = absurd (let never : ⊥ = cc in never)
not_parted mark (a ∷ text) [] behind clean is = first_differs mark a text clean (same_head _ _ _ _ is)
not_parted mark (a ∷ text) (b ∷ front) behind clean is = not_parted mark text front behind (less mark a text clean) (same_tail _ _ _ _ is)
