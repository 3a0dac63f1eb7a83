-- Lemmas on told bytes and their fronts.
use Rattle.std.proofs.Common.{◌≡◌, ℕ, ◌+◌, ◌-◌, ◌≤◌, List, [], ◌++◌, sym, ap, ◌∙◌, append_assoc, append-nil, arith, length, take, drop, length-drop, length-append, zero-le}
use Rattle.std.proofs.lemmas.List.{take_at, drop-drop, take-append-drop, length-take-le, take_rest}
use Rattle.std.specs.Prelude.{Option, Some, None, IfSome, ◌<◌}
use Rattle.std.specs.Io.KnownBytes.{Appends, Consumes, IsAtEnd}
use Rattle.std.proofs.KnownBytes.{Appends-trans}
use Rattle.slub_edges.specs.Edges.{AppendsFront}

-- a read at a place takes what stands there
pub read_at : (xs back front : List ℕ) (at n : ℕ) → n ≤ length xs - at → front ≡ take n (drop at xs) → drop at xs ≡ take n (front ++ back) ++ drop (at + n) xs
read_at xs back front at n fits is =
    let long : length front ≡ n = ap length is ∙ length-take-le n (drop at xs) (omega (arith, length-drop at xs)) in
    sym (take-append-drop n (drop at xs)) ∙ ap (λ l. l ++ drop n (drop at xs)) (sym is) ∙ ap (λ l. front ++ l) (drop-drop n at xs)
    ∙ ap (λ l. l ++ drop (at + n) xs) (sym (take_at front back n long))

-- all of a text, and then a front of more
pub AppendsFront-after : (a b c : Option (List ℕ)) (n : ℕ) (xs ys : List ℕ) → Appends a b xs → AppendsFront b c n ys → AppendsFront a c (length xs + n) (xs ++ ys)
AppendsFront-after a b c n xs ys p (front, rest, is, long, some, q) =
    (xs ++ front, rest, ap (λ l. xs ++ l) is ∙ sym (append_assoc xs front rest), omega (arith, length-append xs front), some, Appends-trans a b c xs front p q)

-- a front of a text is a front of the text and more
pub AppendsFront-longer : (a b : Option (List ℕ)) (n : ℕ) (xs ys : List ℕ) → AppendsFront a b n xs → AppendsFront a b n (xs ++ ys)
AppendsFront-longer a b n xs ys (front, rest, is, long, some, q) =
    (front, rest ++ ys, ap (λ l. l ++ ys) is ∙ append_assoc front rest ys, long, omega (arith, length-append rest ys), q)

-- n more of the rest are done
pub front_moves : (all done rest : List ℕ) (n : ℕ) → all ≡ done ++ rest → all ≡ (done ++ take n rest) ++ take (length rest - n) (drop n rest)
front_moves all done rest n e =
    e ∙ ap (λ l. done ++ l) (sym (take-append-drop n rest)) ∙ sym (append_assoc done (take n rest) (drop n rest)) ∙ ap (λ l. (done ++ take n rest) ++ l) (sym (take_rest rest n))

-- all that is done, and then a front of the next piece
pub AppendsFront-within : (a b c : Option (List ℕ)) (all done piece after : List ℕ) → all ≡ done ++ (piece ++ after) → Appends a b done → AppendsFront b c 0 piece → AppendsFront a c 0 all
AppendsFront-within a b c all done piece after e p (front, rest, is, long, some, q) = (
  done ++ front,
  rest ++ after,
  e ∙ ap (λ l. done ++ (l ++ after)) is ∙ ap (λ l. done ++ l) (append_assoc front rest after) ∙ sym (append_assoc done front (rest ++ after)),
  zero-le,
  omega (arith, length-append rest after),
  Appends-trans a b c done front p q,
)

-- the two parts of a split
pub split_joins : (rest front back : List ℕ) (n : ℕ) → front ≡ take n rest → back ≡ drop n rest → rest ≡ front ++ back
split_joins rest front back n p q = rw (p, q) (sym (take-append-drop n rest))

-- a piece of the rest is done
pub piece_done : (all done rest piece after : List ℕ) → all ≡ done ++ rest → rest ≡ piece ++ after → all ≡ (done ++ piece) ++ after
piece_done all done rest piece after e p = e ∙ ap (λ l. done ++ l) p ∙ sym (append_assoc done piece after)

-- a front, and then nothing more
pub AppendsFront-then : (a b c : Option (List ℕ)) (n : ℕ) (xs : List ℕ) → AppendsFront a b n xs → Appends b c [] → AppendsFront a c n xs
AppendsFront-then a b c n xs (front, rest, is, long, some, q) none = (front, rest, is, long, some, (let p = Appends-trans a b c front [] q none in rw append-nil at p))

-- every front of nothing is the whole
pub AppendsFront-none : (a b : Option (List ℕ)) (n : ℕ) → AppendsFront a b n [] → ⊥
AppendsFront-none a b n (front, rest, is, long, some, q) = absurd (omega (arith, ap length is, length-append front rest))

-- of at least fewer bytes
pub AppendsFront-past : (a b : Option (List ℕ)) (m n : ℕ) (xs : List ℕ) → m ≤ n → AppendsFront a b n xs → AppendsFront a b m xs
AppendsFront-past a b m n xs less (front, rest, is, long, some, q) = (front, rest, is, omega arith, some, q)

-- of bytes that are read to their end, all were told
pub Consumes-whole : (a b : Option (List ℕ)) (bs : List ℕ) → Consumes a b bs → IsAtEnd b → IfSome a (λ xs. xs ≡ bs)
Consumes-whole None b bs p end = tt
Consumes-whole (Some xs) None bs p end = absurd p
Consumes-whole (Some xs) (Some ys) bs p end = p ∙ ap (λ l. bs ++ l) end ∙ append-nil bs

-- where more than n bytes were read, more than n were told
pub Consumes-longer : (a b : Option (List ℕ)) (n : ℕ) (bs : List ℕ) → Consumes a b bs → n < length bs → IfSome a (λ xs. n < length xs)
Consumes-longer None b n bs p more = tt
Consumes-longer (Some xs) None n bs p more = absurd p
Consumes-longer (Some xs) (Some ys) n bs p more = omega (arith, ap length p, length-append bs ys)
