-- A name fills the front of its field, and zeros the rest.
use Rattle.std.proofs.Common.{◌≡◌, ℕ, ◌-◌, ◌≤◌, List, [], ◌∷◌, ◌++◌, length, take, drop, replicate, sym, subst, ◌∙◌, arith, length-append, length-drop}
use Rattle.std.proofs.Math.Seq.{take-append_seam, drop-append_seam}
use Rattle.std.proofs.lemmas.List.{drop-replicate, length-replicate}
use Rattle.slub_object_layout.specs.Name.{IsName}

-- a name has at most 31 bytes
pub length-IsName : (text : List ℕ) → IsName text → length text ≤ 31
length-IsName [] named = absurd named
length-IsName (c ∷ cs) named = omega (arith, named.2)

-- a text before zeros is a name in its field
filled_by : (text : List ℕ) → IsName text
    → (length text ≤ 31) × (length (text ++ drop (length text) (replicate {A = ℕ} 31 0)) ≡ 31) × (drop (length text) (text ++ drop (length text) (replicate {A = ℕ} 31 0)) ≡ replicate {A = ℕ} (31 - length text) 0) × IsName (take (length text) (text ++ drop (length text) (replicate {A = ℕ} 31 0)))
filled_by text named =
    let zeros : List ℕ = replicate 31 0 in
    let rest = drop (length text) zeros in
    let short = length-IsName text named in
    let whole : length (text ++ rest) ≡ 31 = omega (arith, short, length-append text rest, length-drop (length text) zeros, length-replicate {A = ℕ} 31 0) in
    (short, whole, drop-append_seam text rest ∙ drop-replicate (length text) 31 0, subst (λ (t : List ℕ). IsName t) (sym (take-append_seam text rest)) named)

-- the same, at a text that was copied there
pub filled : (text front zeros : List ℕ) → front ≡ text → zeros ≡ replicate 31 0 → IsName text
    → (length text ≤ 31) × (length (front ++ drop (length text) zeros) ≡ 31) × (drop (length text) (front ++ drop (length text) zeros) ≡ replicate (31 - length text) 0) × IsName (take (length text) (front ++ drop (length text) zeros))
filled text front zeros same all named = rw (same, all) (filled_by text named)
