-- Lemmas on lines that are given to a sink.
use Rattle.std.proofs.Common.{◌≡◌, ℕ, ◌⊎◌, ◌++◌, ◌==◌, Bool, true, false, List, [], ◌∷◌, Option, Result, Ok, Err, OnOk, OnErr, refl, sym, ◌∙◌, ap, subst, arith, append_assoc, append-nil, inl, inr, if◌then◌else◌, flat_map}
use Rattle.std.specs.Prelude.{All, ◌≢◌}
use Rattle.std.proofs.lemmas.List.Elements.{All-append, All-cons, All-head, All-nil, All-tail}
use Rattle.slub_edges.specs.Pieces.{AreOfLines, AreOfFirstLines, Gives, lines_of, with_front}
use Rattle.slub_edges.proofs.Offers.{Gains-trans, Gains-none}
use Rattle.slub_slabinfo_text.specs.Given.{IsLine, AreWholeLines}

-- ---- texts that end with a line feed

abbrev pub EndsLine : List ℕ → Type 0
EndsLine text = (front : List ℕ) × (text ≡ front ++ 10 ∷ [])

-- such a text, or none
abbrev pub AreLines : List ℕ → Type 0
AreLines text = (text ≡ []) ⊎ EndsLine text

pub feed : EndsLine (10 ∷ [])
feed = ([], refl)

pub ends-after : (c : ℕ) (text : List ℕ) → EndsLine text → EndsLine (c ∷ text)
ends-after c text (front, is) = (c ∷ front, ap (λ (l : List ℕ). c ∷ l) is)

pub ends-behind : (before text : List ℕ) → EndsLine text → EndsLine (before ++ text)
ends-behind before text (front, is) = (before ++ front, ap (λ (l : List ℕ). before ++ l) is ∙ sym (append_assoc before front (10 ∷ [])))

pub lines-both : (first second : List ℕ) → AreLines first → AreLines second → AreLines (first ++ second)
lines-both first second some (inl none) = subst AreLines (sym (ap (λ (l : List ℕ). first ++ l) none ∙ append-nil first)) some
lines-both first second some (inr ends) = inr (ends-behind first second ends)

pub lines-flat : {A : Type 0} (f : A → List ℕ) (xs : List A) → ((x : A) → AreLines (f x)) → AreLines (flat_map f xs)
lines-flat f [] each = inl refl
lines-flat f (x ∷ xs) each = lines-both (f x) (flat_map f xs) (each x) (lines-flat f xs each)

-- ---- their lines

-- a first line, and others
abbrev pub HasLines : List (List ℕ) → Type 0
HasLines lines = (line : List ℕ) × (others : List (List ℕ)) × (lines ≡ line ∷ others) × IsLine line × All IsLine others

-- a byte before the first line
line-longer : (c : ℕ) (line : List ℕ) → c ≢ 10 → IsLine line → IsLine (c ∷ line)
line-longer c line other (text, is, none) = (c ∷ text, ap (λ (l : List ℕ). c ∷ l) is, All-cons (λ (d : ℕ). d ≢ 10) c text other none)

lines-longer : (c : ℕ) (lines : List (List ℕ)) → c ≢ 10 → HasLines lines → HasLines (with_front c lines)
lines-longer c lines other (line, others, is, one, all) = (c ∷ line, others, ap (with_front c) is, line-longer c line other one, all)

one-more : (c : ℕ) (lines : List (List ℕ)) (is_feed : Bool) → (c == 10) ≡ is_feed → HasLines lines → HasLines (if is_feed then (c ∷ []) ∷ lines else with_front c lines)
one-more c lines true is (line, others, whole, one, all) =
    let ten : c ≡ 10 = grind (arith, is) in
    let mine : IsLine (c ∷ []) = ([], ap (λ (d : ℕ). d ∷ []) ten, All-nil (λ (d : ℕ). d ≢ 10)) in
    let rest : All IsLine lines = subst (λ (ls : List (List ℕ)). All IsLine ls) (sym whole) (All-cons IsLine line others one all) in
    (c ∷ [], lines, refl, mine, rest)
one-more c lines false is has =
    let other : c ≢ 10 = grind (arith, is) in
    lines-longer c lines other has

lines-in : (front : List ℕ) → HasLines (lines_of (front ++ 10 ∷ []))
lines-in [] = (10 ∷ [], [], refl, ([], refl, All-nil (λ (d : ℕ). d ≢ 10)), All-nil IsLine)
lines-in (c ∷ cs) = one-more c (lines_of (cs ++ 10 ∷ [])) (c == 10) refl (lines-in cs)

pub are-lines : (text : List ℕ) → AreLines text → All IsLine (lines_of text)
are-lines text (inl none) = subst (λ (t : List ℕ). All IsLine (lines_of t)) (sym none) (All-nil IsLine)
are-lines text (inr (front, is)) =
    let (line, others, whole, one, all) = lines-in front in
    let here : All IsLine (lines_of (front ++ 10 ∷ [])) = subst (λ (ls : List (List ℕ)). All IsLine ls) (sym whole) (All-cons IsLine line others one all) in
    subst (λ (t : List ℕ). All IsLine (lines_of t)) (sym is) here

-- ---- lines that are given

-- lines, and then more
lines-more : (lines more : List (List ℕ)) (pieces others : List (List ℕ)) → AreOfLines lines pieces → AreOfLines more others → AreOfLines (lines ++ more) (pieces ++ others)
lines-more [] more pieces others none of = subst (λ (ps : List (List ℕ)). AreOfLines more (ps ++ others)) (sym none) of
lines-more (line ∷ lines) more pieces others (first, rest, is, one, later) of =
    (first, rest ++ others, ap (λ (ps : List (List ℕ)). ps ++ others) is ∙ append_assoc first rest others, one, lines-more lines more rest others later of)

-- the lines up to one are lines
lines-front : (front back : List (List ℕ)) → All IsLine (front ++ back) → All IsLine front
lines-front [] back all = All-nil IsLine
lines-front (line ∷ front) back all = All-cons IsLine line front (All-head IsLine line (front ++ back) all) (lines-front front back (All-tail IsLine line (front ++ back) all))

-- nothing is given
pub given-none : (a : Option (List (List ℕ))) → Gives a a AreWholeLines
given-none a = ([], Gains-none a, ([], All-nil IsLine, refl))

-- lines are given, and then more
pub given-more : (a b c : Option (List (List ℕ))) → Gives a b AreWholeLines → Gives b c AreWholeLines → Gives a c AreWholeLines
given-more a b c (pieces, gained, (lines, are, of)) (others, more, (rest, are_too, of_too)) =
    (pieces ++ others, Gains-trans a b c pieces others gained more, (lines ++ rest, All-append IsLine lines rest are are_too, lines-more lines rest pieces others of of_too))

-- a text is written line by line, whole or up to a line that fails
pub text-given : {A E : Type 0} (a b : Option (List (List ℕ))) (r : Result A E) (text : List ℕ) → AreLines text
    → OnOk r (Gives a b (AreOfLines (lines_of text))) → OnErr r (Gives a b (AreOfFirstLines (lines_of text))) → Gives a b AreWholeLines
text-given a b (Ok x) text are (pieces, gained, of) begun = (pieces, gained, (lines_of text, are-lines text are, of))
text-given a b (Err e) text are whole (pieces, gained, (front, back, is, of)) =
    let all : All IsLine (front ++ back) = subst (λ (ls : List (List ℕ)). All IsLine ls) is (are-lines text are) in
    (pieces, gained, (front, lines-front front back all, of))
