-- The writes of a round: what is found by the places of objects, and by the others.
use Rattle.std.proofs.Common.{◌≡◌, ◌≢◌, ℕ, Bool, true, false, ◌||◌, ◌&&◌, not, if◌then◌else◌, None, Some, List, [], ◌∷◌, ◌++◌, length, length-append, get_or, refl, sym, ap, ◌∙◌, arith, inl, inr, subst}
use Rattle.std.specs.Prelude.{nat_eq, slice_get, IsSome}
use Rattle.std.specs.List.{list_any}
use Rattle.std.proofs.lemmas.Bool.{cases_Bool, cases_eq, cases_order, false≢true}
use Rattle.std.proofs.lemmas.Bool.Decides.{nat_tests}
use Rattle.std.proofs.lemmas.List.{get_or_push, get_or_append_left}
use Rattle.std.proofs.lemmas.List.Folds.{list_any-append}
use Rattle.std.proofs.lemmas.Option.{slice_get_past, slice_get-get_or}
use Rattle.slub_trace_reader.specs.Above.{is_spot, with_one}
use Rattle.slub_trace_reader.specs.State.{AreNoted, when_of, is_noted, noted_of}

-- ---- a place, and one write more behind the others

at_end : (keys : List (ℕ × ℕ × ℕ)) (s : ℕ × ℕ × ℕ) (p : ℕ) → p ≡ length keys → slice_get (keys ++ s ∷ []) p ≡ Some s
at_end keys s p is = slice_get-get_or (keys ++ s ∷ []) p s (omega (arith, length-append keys (s ∷ []))) ∙ ap (λ x. Some x) (get_or_push keys s s p (sym is))

off_end : (keys : List (ℕ × ℕ × ℕ)) (s : ℕ × ℕ × ℕ) (p : ℕ) → p ≢ length keys → slice_get (keys ++ s ∷ []) p ≡ slice_get keys p
off_end keys s p off = elim (cases_order p (length keys)) [
  | inl is ↦ absurd (off is)
  | inr (inl low) ↦
      slice_get-get_or (keys ++ s ∷ []) p s (omega (arith, length-append keys (s ∷ [])))
      ∙ ap (λ x. Some x) (get_or_append_left keys (s ∷ []) s p low) ∙ sym (slice_get-get_or keys p s low)
  | inr (inr high) ↦ slice_get_past (keys ++ s ∷ []) p (omega (arith, length-append keys (s ∷ []))) ∙ sym (slice_get_past keys p (omega arith))
]

past_end : (keys : List (ℕ × ℕ × ℕ)) (p : ℕ) → p ≡ length keys → slice_get keys p ≡ None
past_end keys p is = slice_get_past keys p (omega arith)

-- a write of the same object, and of another
of_same : (o : ℕ) (s : ℕ × ℕ × ℕ) → s.1 ≡ o → when_of o (Some s) ≡ Some s
of_same o s is =
    let same : nat_eq s.1 o ≡ true = grind (arith, nat_tests, is) in
    ap (λ b. if b then Some s else None) same

of_other : (o : ℕ) (s : ℕ × ℕ × ℕ) → o ≢ s.1 → when_of o (Some s) ≡ None
of_other o s off =
    let apart : nat_eq s.1 o ≡ false = grind (arith, nat_tests, off) in
    ap (λ b. if b then Some s else None) apart

-- a write of one object hides no other's
apart_stays : (keys : List (ℕ × ℕ × ℕ)) (s : ℕ × ℕ × ℕ) (o p : ℕ) → o ≢ s.1 → when_of o (slice_get (keys ++ s ∷ []) p) ≡ when_of o (slice_get keys p)
apart_stays keys s o p off = elim (cases_eq p (length keys)) [
  | inl is ↦ ap (λ x. when_of o x) (at_end keys s p is) ∙ of_other o s off ∙ ap (λ x. when_of o x) (sym (past_end keys p is))
  | inr not ↦ ap (λ x. when_of o x) (off_end keys s p not)
]

-- nor the first of its own
known_stays : (keys : List (ℕ × ℕ × ℕ)) (s : ℕ × ℕ × ℕ) (o p : ℕ) → IsSome (when_of o (slice_get keys p)) → when_of o (slice_get (keys ++ s ∷ []) p) ≡ when_of o (slice_get keys p)
known_stays keys s o p known = elim (cases_eq p (length keys)) [
  | inl is ↦ (let none : when_of o (slice_get keys p) ≡ None = ap (λ x. when_of o x) (past_end keys p is) in absurd (false≢true (rw none at known)))
  | inr not ↦ ap (λ x. when_of o x) (off_end keys s p not)
]

noted_stays : (keys : List (ℕ × ℕ × ℕ)) (places : List ℕ) (s : ℕ × ℕ × ℕ) (o : ℕ) → IsSome (noted_of keys places s.1) → noted_of (keys ++ s ∷ []) places o ≡ noted_of keys places o
noted_stays keys places s o known = elim (cases_eq o s.1) [
  | inl is ↦ known_stays keys s o (get_or places o 0) (subst (λ n. IsSome (noted_of keys places n)) (sym is) known)
  | inr off ↦ apart_stays keys s o (get_or places o 0) off
]

-- ---- what is written

-- one write more
any_more : (keys : List (ℕ × ℕ × ℕ)) (s t : ℕ × ℕ × ℕ) → list_any (is_spot t) (keys ++ s ∷ []) ≡ (list_any (is_spot t) keys || is_spot t s)
any_more keys s t = list_any-append (is_spot t) keys (s ∷ []) ∙ last (list_any (is_spot t) keys) (is_spot t s)
  where
    last : (a b : Bool) → (a || (b || false)) ≡ (a || b)
    last true b = refl
    last false true = refl
    last false false = refl

-- a write of another object is another write
other_object : (s t : ℕ × ℕ × ℕ) → t.1 ≢ s.1 → is_spot t s ≡ false
other_object s t off =
    let apart : nat_eq t.1 s.1 ≡ false = grind (arith, nat_tests, off) in
    ap (λ b. (nat_eq t.0 s.0 && b) && nat_eq t.2 s.2) apart ∙ by (nat_eq t.0 s.0)
  where
    by : (a : Bool) → ((a && false) && nat_eq t.2 s.2) ≡ false
    by true = refl
    by false = refl

-- an object to whose writes no place leads has none
none_noted : (keys more : List (ℕ × ℕ × ℕ)) (places : List ℕ) (t : ℕ × ℕ × ℕ) → AreNoted keys places more → noted_of keys places t.1 ≡ None → list_any (is_spot t) keys ≡ false
none_noted keys more places t kept none = elim (cases_Bool (list_any (is_spot t) keys)) [
  | inl is ↦ absurd (false≢true (subst (λ x. IsSome x) none (kept.led t is)))
  | inr lacks ↦ lacks
]

none_more : (keys more : List (ℕ × ℕ × ℕ)) (places : List ℕ) (t : ℕ × ℕ × ℕ) → AreNoted keys places more → noted_of keys places t.1 ≡ None → list_any (is_spot t) more ≡ false
none_more keys more places t kept none =
    let each : list_any (is_spot t) keys ≡ list_any (is_spot t) more = subst (λ x. list_any (is_spot t) keys ≡ (is_noted t x || list_any (is_spot t) more)) none (kept.each t) in
    sym each ∙ none_noted keys more places t kept none

or_false : (a : Bool) → a ≡ (a || false)
or_false true = refl
or_false false = refl

-- the first write of an object
pub noted_first : (keys more : List (ℕ × ℕ × ℕ)) (places new : List ℕ) (s : ℕ × ℕ × ℕ) → AreNoted keys places more → noted_of keys places s.1 ≡ None
    → get_or new s.1 0 ≡ length keys → ((o : ℕ) → o ≢ s.1 → get_or new o 0 ≡ get_or places o 0) → AreNoted (keys ++ s ∷ []) new more
noted_first keys more places new s kept none here others = record { each = each; led = led }
  where
    is_first : (o : ℕ) → o ≡ s.1 → noted_of (keys ++ s ∷ []) new o ≡ Some s
    is_first o is = ap (λ x. when_of o x) (at_end keys s (get_or new o 0) (ap (λ n. get_or new n 0) is ∙ here)) ∙ of_same o s (sym is)

    still : (o : ℕ) → o ≢ s.1 → noted_of (keys ++ s ∷ []) new o ≡ noted_of keys places o
    still o off = ap (λ p. when_of o (slice_get (keys ++ s ∷ []) p)) (others o off) ∙ apart_stays keys s o (get_or places o 0) off

    nothing : (t : ℕ × ℕ × ℕ) → t.1 ≡ s.1 → noted_of keys places t.1 ≡ None
    nothing t is = ap (λ o. noted_of keys places o) is ∙ none

    each : (t : ℕ × ℕ × ℕ) → list_any (is_spot t) (keys ++ s ∷ []) ≡ (is_noted t (noted_of (keys ++ s ∷ []) new t.1) || list_any (is_spot t) more)
    each t = elim (cases_eq t.1 s.1) [
      | inl is ↦
          any_more keys s t ∙ ap (λ b. b || is_spot t s) (none_noted keys more places t kept (nothing t is)) ∙ or_false (is_spot t s)
          ∙ ap (λ b. is_spot t s || b) (sym (none_more keys more places t kept (nothing t is))) ∙ ap (λ x. is_noted t x || list_any (is_spot t) more) (sym (is_first t.1 is))
      | inr off ↦
          any_more keys s t ∙ ap (λ b. list_any (is_spot t) keys || b) (other_object s t off) ∙ sym (or_false (list_any (is_spot t) keys)) ∙ kept.each t
          ∙ ap (λ x. is_noted t x || list_any (is_spot t) more) (sym (still t.1 off))
    ]

    led : (t : ℕ × ℕ × ℕ) → list_any (is_spot t) (keys ++ s ∷ []) ≡ true → IsSome (noted_of (keys ++ s ∷ []) new t.1)
    led t is = elim (cases_eq t.1 s.1) [
      | inl same ↦ subst (λ x. IsSome x) (sym (is_first t.1 same)) refl
      | inr off ↦
          (let old : list_any (is_spot t) keys ≡ true = or_false (list_any (is_spot t) keys) ∙ ap (λ b. list_any (is_spot t) keys || b) (sym (other_object s t off)) ∙ sym (any_more keys s t) ∙ is in
          subst (λ x. IsSome x) (sym (still t.1 off)) (kept.led t old))
    ]

-- another write of an object
pub noted_more : (keys more : List (ℕ × ℕ × ℕ)) (places : List ℕ) (s : ℕ × ℕ × ℕ) → AreNoted keys places more → IsSome (noted_of keys places s.1) → AreNoted (keys ++ s ∷ []) places (more ++ s ∷ [])
noted_more keys more places s kept known = record { each = each; led = led }
  where
    or_or : (a b c : Bool) → ((a || b) || c) ≡ (a || (b || c))
    or_or true b c = refl
    or_or false b c = refl

    each : (t : ℕ × ℕ × ℕ) → list_any (is_spot t) (keys ++ s ∷ []) ≡ (is_noted t (noted_of (keys ++ s ∷ []) places t.1) || list_any (is_spot t) (more ++ s ∷ []))
    each t =
        any_more keys s t ∙ ap (λ b. b || is_spot t s) (kept.each t) ∙ or_or (is_noted t (noted_of keys places t.1)) (list_any (is_spot t) more) (is_spot t s)
        ∙ ap (λ b. is_noted t (noted_of keys places t.1) || b) (sym (any_more more s t)) ∙ ap (λ x. is_noted t x || list_any (is_spot t) (more ++ s ∷ [])) (sym (noted_stays keys places s t.1 known))

    led : (t : ℕ × ℕ × ℕ) → list_any (is_spot t) (keys ++ s ∷ []) ≡ true → IsSome (noted_of (keys ++ s ∷ []) places t.1)
    led t is = elim (cases_eq t.1 s.1) [
      | inl same ↦ subst (λ x. IsSome x) (sym (noted_stays keys places s t.1 known)) (subst (λ n. IsSome (noted_of keys places n)) (sym same) known)
      | inr off ↦
          (let old : list_any (is_spot t) keys ≡ true = or_false (list_any (is_spot t) keys) ∙ ap (λ b. list_any (is_spot t) keys || b) (sym (other_object s t off)) ∙ sym (any_more keys s t) ∙ is in
          subst (λ x. IsSome x) (sym (noted_stays keys places s t.1 known)) (kept.led t old))
    ]

-- a write that isn't among others goes behind them
pub fresh_one : (more : List (ℕ × ℕ × ℕ)) (s : ℕ × ℕ × ℕ) → true ≡ not (list_any (is_spot s) more) → with_one is_spot more s ≡ more ++ s ∷ []
fresh_one more s fresh = by (list_any (is_spot s) more) fresh
  where
    by : (b : Bool) → true ≡ not b → (if b then more else more ++ s ∷ []) ≡ more ++ s ∷ []
    by true is = absurd (false≢true (sym is))
    by false is = refl
