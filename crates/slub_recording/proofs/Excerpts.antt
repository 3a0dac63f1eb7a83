-- An excerpt fills the front of its field, and zeros the rest.
use Rattle.std.proofs.Common.{◌≡◌, ℕ, ◌-◌, ◌≤◌, List, ◌++◌, length, take, drop, replicate, ◌∙◌, arith, length-append, length-drop}
use Rattle.std.proofs.Math.Seq.{take-append_seam, drop-append_seam}
use Rattle.std.proofs.lemmas.List.{drop-replicate, length-replicate}

-- a text before zeros is an excerpt in its field
filled_by : (text : List ℕ) → length text ≤ 31
    → (length text ≤ 31) × (length (text ++ drop (length text) (replicate {A = ℕ} 31 0)) ≡ 31) × (drop (length text) (text ++ drop (length text) (replicate {A = ℕ} 31 0)) ≡ replicate {A = ℕ} (31 - length text) 0)
filled_by text short =
    let zeros : List ℕ = replicate 31 0 in
    let rest = drop (length text) zeros in
    let whole : length (text ++ rest) ≡ 31 = omega (arith, short, length-append text rest, length-drop (length text) zeros, length-replicate {A = ℕ} 31 0) in
    (short, whole, drop-append_seam text rest ∙ drop-replicate (length text) 31 0)

-- the same, at a text that was copied there
pub filled : (text front zeros : List ℕ) → front ≡ text → zeros ≡ replicate 31 0 → length text ≤ 31
    → (length text ≤ 31) × (length (front ++ drop (length text) zeros) ≡ 31) × (drop (length text) (front ++ drop (length text) zeros) ≡ replicate (31 - length text) 0)
filled text front zeros same all short = rw (same, all) (filled_by text short)

-- and is shown
pub shown : (text front zeros : List ℕ) → front ≡ text → take (length text) (front ++ drop (length text) zeros) ≡ text
shown text front zeros same = rw same (take-append_seam text (drop (length text) zeros))
