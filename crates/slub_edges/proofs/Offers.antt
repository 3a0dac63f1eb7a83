-- Lemmas on the pieces that a sink is given.
use Rattle.std.proofs.Common.{◌≡◌, ℕ, ◌<◌, ◌⊎◌, ◌++◌, ◌==◌, Bool, true, false, List, [], ◌∷◌, length, take, drop, Option, None, Some, refl, sym, ◌∙◌, ap, subst, arith, append_assoc, append-nil, length-append, inl, inr, if◌then◌else◌}
use Rattle.std.specs.Io.BufRead.{take_through, drop_through}
use Rattle.std.proofs.Math.Seq.{take-append_seam, drop-append_seam}
use Rattle.std.proofs.lemmas.List.Elements.{All-nil, All-push}
use Rattle.slub_edges.specs.Pieces.{Gains, IsEndOf, AreOf, IsGiven, with_front, lines_of, AreOfLines, AreOfFirstLines}

-- pieces gained, and then more
pub Gains-trans : (a b c : Option (List (List ℕ))) (xs ys : List (List ℕ)) → Gains a b xs → Gains b c ys → Gains a c (xs ++ ys)
Gains-trans None b c xs ys p q = tt
Gains-trans (Some old) None c xs ys p q = absurd p
Gains-trans (Some old) (Some mid) None xs ys p q = absurd q
Gains-trans (Some old) (Some mid) (Some new) xs ys p q = q ∙ ap (λ l. l ++ ys) p ∙ append_assoc old xs ys

pub Gains-none : (a : Option (List (List ℕ))) → Gains a a []
Gains-none None = tt
Gains-none (Some old) = sym (append-nil old)

-- nothing was given yet and the text is what is left, or some was
abbrev pub IsBegun : List ℕ → List ℕ → List (List ℕ) → Type 0
IsBegun text rest pieces = ((pieces ≡ []) × (rest ≡ text)) ⊎ ((0 < length pieces) × (0 < length text))

-- one more end of the text is given
pub one_more : (text rest done : List ℕ) (pieces : List (List ℕ)) → text ≡ done ++ rest → AreOf text pieces → IsBegun text rest pieces → AreOf text (pieces ++ rest ∷ [])
one_more text rest done [] split of (inl (none, whole)) = (whole, All-nil (IsEndOf text))
one_more text rest done [] split of (inr (some, long)) = absurd (omega (arith, some))
one_more text rest done (piece ∷ ends) split of begun = (of.0, All-push (IsEndOf text) ends rest of.1 (done, split))

pub begun_more : (text rest after : List ℕ) (done : List ℕ) (pieces : List (List ℕ)) → text ≡ done ++ rest → 0 < length rest → IsBegun text after (pieces ++ rest ∷ [])
begun_more text rest after done pieces split some =
    let long = ap (λ (xs : List ℕ). length xs) split in
    inr (omega (arith, length-append pieces (rest ∷ [])), omega (arith, long, length-append done rest, some))

-- where nothing is left, all was given
pub all_given : (text rest : List ℕ) (pieces : List (List ℕ)) → length rest ≡ 0 → AreOf text pieces → IsBegun text rest pieces → IsGiven text pieces
all_given text rest pieces none of (inl (no_piece, whole)) =
    let a = ap (λ (xs : List ℕ). length xs) whole in
    let b = ap (λ (xs : List (List ℕ)). length xs) no_piece in
    (of, (λ long. omega (arith, long, a, none), λ some. omega (arith, some, b)))
all_given text rest pieces none of (inr (some, long)) = (of, (λ _. some, λ _. long))

-- ---- lines

-- a text is its first line and what stands behind it
through-split : (xs : List ℕ) → take_through 10 xs ++ drop_through 10 xs ≡ xs
through-split [] = refl
through-split (x ∷ xs) = by_feed (x == 10) (through-split xs)
  where
    by_feed : (feed : Bool) → take_through 10 xs ++ drop_through 10 xs ≡ xs → (if feed then x ∷ [] else x ∷ take_through 10 xs) ++ (if feed then xs else drop_through 10 xs) ≡ x ∷ xs
    by_feed true later = refl
    by_feed false later = ap (λ (ys : List ℕ). x ∷ ys) later

-- its first line is the first of its lines
first-line : (xs : List ℕ) → 0 < length xs → lines_of xs ≡ take_through 10 xs ∷ lines_of (drop_through 10 xs)
first-line [] some = absurd (omega (arith, some))
first-line (x ∷ []) some = by_feed (x == 10)
  where
    by_feed : (feed : Bool) → (if feed then (x ∷ []) ∷ [] else (x ∷ []) ∷ []) ≡ (if feed then x ∷ [] else x ∷ []) ∷ lines_of (if feed then [] else [])
    by_feed true = refl
    by_feed false = refl
first-line (x ∷ y ∷ ys) some = by_feed (x == 10) (first-line (y ∷ ys) (omega arith))
  where
    by_feed : (feed : Bool) → lines_of (y ∷ ys) ≡ take_through 10 (y ∷ ys) ∷ lines_of (drop_through 10 (y ∷ ys))
        → (if feed then (x ∷ []) ∷ lines_of (y ∷ ys) else with_front x (lines_of (y ∷ ys))) ≡ (if feed then x ∷ [] else x ∷ take_through 10 (y ∷ ys)) ∷ lines_of (if feed then y ∷ ys else drop_through 10 (y ∷ ys))
    by_feed true later = refl
    by_feed false later = ap (λ (lines : List (List ℕ)). with_front x lines) later

pub line-off : (rest line after : List ℕ) (n : ℕ) → 0 < length rest → n ≡ length (take_through 10 rest) → line ≡ take n rest → after ≡ drop n rest → lines_of rest ≡ line ∷ lines_of after
line-off rest line after n some is front back =
    let whole = through-split rest in
    let T : ℕ → List ℕ = λ n. take n rest in
    let D : ℕ → List ℕ = λ n. drop n rest in
    let line_is : line ≡ take_through 10 rest =
    front ∙ ap T is ∙ ap (take (length (take_through 10 rest))) (sym whole) ∙ take-append_seam (take_through 10 rest) (drop_through 10 rest) in
    let after_is : after ≡ drop_through 10 rest =
    back ∙ ap D is ∙ ap (drop (length (take_through 10 rest))) (sym whole) ∙ drop-append_seam (take_through 10 rest) (drop_through 10 rest) in
    rw (line_is, after_is) (first-line rest some)

-- lines are given, and one more
lines_more : (lines : List (List ℕ)) (line : List ℕ) (pieces first : List (List ℕ)) → AreOfLines lines pieces → IsGiven line first → AreOfLines (lines ++ line ∷ []) (pieces ++ first)
lines_more [] line pieces first none given = (first, [], ap (λ (xs : List (List ℕ)). xs ++ first) none ∙ sym (append-nil first), given, refl)
lines_more (l ∷ lines) line pieces first (front, rest, is, one, others) given =
    (front, rest ++ first, ap (λ (xs : List (List ℕ)). xs ++ first) is ∙ append_assoc front rest first, one, lines_more lines line rest first others given)

-- the lines of a text up to what is left of it were given
abbrev pub IsGivenUpTo : List ℕ → List ℕ → List (List ℕ) → Type 0
IsGivenUpTo text rest pieces = (lines : List (List ℕ)) × (lines_of text ≡ lines ++ lines_of rest) × AreOfLines lines pieces

module _ (text rest line after : List ℕ) (pieces : List (List ℕ)) (off : lines_of rest ≡ line ∷ lines_of after) where
  more-is : (lines : List (List ℕ)) → lines_of text ≡ lines ++ lines_of rest → lines_of text ≡ (lines ++ line ∷ []) ++ lines_of after
  more-is lines is = is ∙ ap (λ (xs : List (List ℕ)). lines ++ xs) off ∙ sym (append_assoc lines (line ∷ []) (lines_of after))

  pub line-given : (first : List (List ℕ)) → IsGiven line first → IsGivenUpTo text rest pieces → IsGivenUpTo text after (pieces ++ first)
  line-given first given (lines, is, before) = (lines ++ line ∷ [], more-is lines is, lines_more lines line pieces first before given)

  -- the line was begun, or not
  pub line-begun : (first : List (List ℕ)) → 0 < length line → AreOf line first → IsGivenUpTo text rest pieces → AreOfFirstLines (lines_of text) (pieces ++ first)
  line-begun [] some of (lines, is, before) = let P : List (List ℕ) → Type 0 = AreOfLines lines in (lines, lines_of rest, is, subst P (sym (append-nil pieces)) before)
  line-begun (piece ∷ ends) some of (lines, is, before) =
      (lines ++ line ∷ [], lines_of after, more-is lines is, lines_more lines line pieces (piece ∷ ends) before (of, (λ _. omega arith, λ _. some)))

-- nothing is left
pub lines-given : (text rest : List ℕ) (pieces : List (List ℕ)) → length rest ≡ 0 → IsGivenUpTo text rest pieces → AreOfLines (lines_of text) pieces
lines-given text [] pieces none (lines, is, before) = let P : List (List ℕ) → Type 0 = λ lines. AreOfLines lines pieces in subst P (sym (is ∙ append-nil lines)) before
lines-given text (x ∷ xs) pieces none given = absurd (omega (arith, none))
