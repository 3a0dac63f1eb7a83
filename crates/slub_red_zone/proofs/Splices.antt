-- A run of a list is written, and the rest stays.
use Rattle.std.proofs.Common.{◌≡◌, ℕ, ◌+◌, ◌-◌, ◌<◌, ◌≤◌, ◌++◌, List, length, get_or, take, drop, ap, arith, ◌∙◌, append_assoc, length-append, length-take, length-drop}
use Rattle.std.proofs.lemmas.List.{get_or-take, get_or-drop, get_or_append_left, get_or-append_right}

module _ (xs new : List ℕ) (from to : ℕ) (rising : from ≤ to) (inside : to ≤ length xs) (wide : length new ≡ to - from) where
  whole-is : take from xs ++ new ++ drop to xs ≡ take from xs ++ (new ++ drop to xs)
  whole-is = append_assoc (take from xs) new (drop to xs)

  front : length (take from xs) ≡ from
  front = omega (arith, length-take from xs, inside, rising)

  pub spliced-long : length (take from xs ++ new ++ drop to xs) ≡ length xs
  spliced-long =
      let is = ap (λ (ys : List ℕ). length ys) whole-is in
      omega (arith, is, length-append (take from xs) (new ++ drop to xs), length-append new (drop to xs), wide, front, length-drop to xs, inside, rising)

  -- what was written
  pub spliced-in : (place : ℕ) → from ≤ place → place < to → get_or (take from xs ++ new ++ drop to xs) place 0 ≡ get_or new (place - from) 0
  spliced-in place past before =
      ap (λ (ys : List ℕ). get_or ys place 0) whole-is
      ∙ get_or-append_right (take from xs) (new ++ drop to xs) from place 0 front past
      ∙ get_or_append_left new (drop to xs) 0 (place - from) (omega (arith, wide, past, before))

  -- what stands before it, and behind it
  pub spliced-before : (place : ℕ) → place < from → get_or (take from xs ++ new ++ drop to xs) place 0 ≡ get_or xs place 0
  spliced-before place before =
      ap (λ (ys : List ℕ). get_or ys place 0) whole-is
      ∙ get_or_append_left (take from xs) (new ++ drop to xs) 0 place (omega (arith, front, before)) ∙ get_or-take from xs place 0 before

  pub spliced-behind : (place : ℕ) → to ≤ place → get_or (take from xs ++ new ++ drop to xs) place 0 ≡ get_or xs place 0
  spliced-behind place past =
      let back : to + (place - from - (to - from)) ≡ place = omega (arith, past, rising) in
      ap (λ (ys : List ℕ). get_or ys place 0) whole-is
      ∙ get_or-append_right (take from xs) (new ++ drop to xs) from place 0 front (omega (arith, past, rising))
      ∙ get_or-append_right new (drop to xs) (to - from) (place - from) 0 wide (omega (arith, past))
      ∙ get_or-drop to xs (place - from - (to - from)) 0 ∙ ap (λ (p : ℕ). get_or xs p 0) back
