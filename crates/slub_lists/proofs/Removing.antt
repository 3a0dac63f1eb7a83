-- A number that is taken out of a list in which it stands once at most.
use Rattle.std.proofs.Common.{◌≡◌, ℕ, ◌+◌, ◌≤◌, ◌++◌, Bool, true, false, eqb, List, [], ◌∷◌, filter, inl, inr, refl, ap, sym, ◌∙◌, arith, nat_lt, Contains}
use Rattle.std.specs.Prelude.{not, IsTrue, IsFalse, ◌↔◌}
use Rattle.std.proofs.lemmas.Bool.{cases_eq, cases_Bool}
use Rattle.std.proofs.lemmas.Bool.Decides.{nat_tests}
use Rattle.std.proofs.lemmas.List.Elements.{filter-append}
use Rattle.slub_common.specs.Times.{times}
use Rattle.slub_common.proofs.Times.{times-append, Contains-times, times-cons, times-contained}
use Rattle.slub_node_partial.specs.PartialList.{IsTakenOut}
use Rattle.slub_lists.proofs.Times.{current-same}

-- where the number doesn't stand there, nothing goes
pub filter-absent : (x : ℕ) (xs : List ℕ) → times x xs ≡ 0 → filter (λ y. not (eqb y x)) xs ≡ xs
filter-absent x [] absent = refl
filter-absent x (y ∷ ys) absent =
    let e = times-cons x y ys in
    elim (cases_eq x y) [
      | inl same ↦ absurd (omega (arith, absent, e, current-same x y 1 same))
      | inr other ↦
          let passes : not (eqb y x) ≡ true = grind (arith, nat_tests, other) in
          rw passes (ap (λ l. y ∷ l) (filter-absent x ys (omega (arith, absent, e))))
    ]

-- the head goes
filter-head : (x : ℕ) (xs : List ℕ) → filter (λ y. not (eqb y x)) (x ∷ xs) ≡ filter (λ y. not (eqb y x)) xs
filter-head x xs = let fails : not (eqb x x) ≡ false = grind (arith, nat_tests) in rw fails refl

-- the one that is there goes
pub taken_out : (frame : ℕ) (before after : List ℕ) → times frame before ≤ 1 → IsTakenOut before frame after → after ≡ filter (λ other. not (eqb other frame)) before
taken_out frame before after once taken =
    let front = taken.front in
    let rest = taken.rest in
    let parts : times frame before ≡ times frame front + times frame (frame ∷ rest) = ap (times frame) taken.was ∙ times-append frame front (frame ∷ rest) in
    let here = times-cons frame frame rest in
    let one = current-same frame frame 1 refl in
    let keeps : filter (λ other. not (eqb other frame)) (front ++ frame ∷ rest) ≡ front ++ rest =
    filter-append (λ other. not (eqb other frame)) front (frame ∷ rest)
    ∙ ap (λ l. l ++ filter (λ other. not (eqb other frame)) (frame ∷ rest)) (filter-absent frame front (omega (arith, once, parts, here, one)))
    ∙ ap (λ l. front ++ l) (filter-head frame rest ∙ filter-absent frame rest (omega (arith, once, parts, here, one))) in
    taken.is ∙ sym keeps ∙ sym (ap (filter (λ other. not (eqb other frame))) taken.was)

-- it was there where it stood there
pub found-times : (b : Bool) (frame : ℕ) (xs : List ℕ) → (IsTrue b ↔ Contains xs frame) → b ≡ nat_lt 0 (times frame xs)
found-times b frame xs there =
    elim (cases_Bool b) [
      | inl is ↦ let some = times-contained frame xs (there.0 is) in grind (arith, nat_tests, is, some)
      | inr isn ↦
          let none : times frame xs ≡ 0 = elim (cases_eq (times frame xs) 0) [
            | inl none ↦ none
            | inr some ↦ let found : b ≡ true = there.1 (Contains-times frame xs (omega arith)) in absurd (let e = sym found ∙ isn in cc)
          ] in
          grind (arith, nat_tests, isn, none)
    ]

-- and then it is out
pub removed : (b : Bool) (frame : ℕ) (before after : List ℕ) → times frame before ≤ 1 → (IsTrue b ↔ Contains before frame) → (IsTrue b → IsTakenOut before frame after) → (IsFalse b → after ≡ before)
    → after ≡ filter (λ other. not (eqb other frame)) before
removed true frame before after once there taken kept = taken_out frame before after once (taken refl)
removed false frame before after once there taken kept =
    let none : times frame before ≡ 0 = let e = found-times false frame before there in grind (arith, nat_tests, e) in
    kept refl ∙ sym (filter-absent frame before none)
