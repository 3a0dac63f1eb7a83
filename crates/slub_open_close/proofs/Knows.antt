-- What a worker holds among the first objects that it knows, and where what it knows ends.
use Rattle.std.proofs.Common.{◌≡◌, ℕ, zero, suc, ◌+◌, ◌<◌, ◌≤◌, ◌++◌, ◌&&◌, eqb, cond, Bool, true, false, List, [], ◌∷◌, length, take, get_or, map, Option, Some, None, inl, inr, refl, ap, sym, ◌∙◌, subst, arith}
use Rattle.std.specs.Prelude.{All}
use Rattle.std.specs.Option.{option_or}
use Rattle.std.proofs.lemmas.Bool.{cases_eq, cases_lt, cases_Bool, cond-true, cond-false, eq-eqb, ne_eqb}
use Rattle.std.proofs.lemmas.List.{take_more}
use Rattle.std.proofs.lemmas.List.Elements.{All-head, All-tail}
use Rattle.slub_common.specs.Times.{times}
use Rattle.slub_lists.specs.declared.lists.Held.{Held}
use Rattle.slub_core.specs.declared.local.Known.{Known}
use Rattle.slub_core.specs.Local.{Local, nobody}
use Rattle.slub_core.specs.World.{one_if}
use Rattle.slub_core.specs.Accounted.{place_of, AreDistinct}
use Rattle.slub_core.proofs.Lists.{times-first}
use Rattle.slub_core.proofs.Pigeon.{length-as_sum, sum_below-le}
use Rattle.slub_core.proofs.Walks.{times-two}
use Rattle.slub_law_opening.specs.Rests.{held_in, held_among}

or-none : {A : Type 0} (o : Option A) → option_or o None ≡ o
or-none None = refl
or-none (Some x) = refl

or-again : {A : Type 0} (a b c : Option A) → option_or (option_or a b) c ≡ option_or a (option_or b c)
or-again None b c = refl
or-again (Some x) b c = refl

-- ---- one worker

pub held-append : (worker o : ℕ) (ks js : List Known) → held_in worker (ks ++ js) o ≡ option_or (held_in worker ks o) (held_in worker js o)
held-append worker o [] js = refl
held-append worker o (k ∷ ks) js = elim (cases_Bool (k.held && eqb k.object o)) [
  | inl t ↦ cond-true {A = Option Held} (k.held && eqb k.object o) _ (held_in worker (ks ++ js) o) t
      ∙ sym (ap (λ h. option_or h (held_in worker js o)) (cond-true {A = Option Held} (k.held && eqb k.object o) _ (held_in worker ks o) t))
  | inr f ↦ cond-false {A = Option Held} (k.held && eqb k.object o) _ (held_in worker (ks ++ js) o) f
      ∙ held-append worker o ks js
      ∙ sym (ap (λ h. option_or h (held_in worker js o)) (cond-false {A = Option Held} (k.held && eqb k.object o) _ (held_in worker ks o) f))
]

-- what is beyond the end is nobody, and nobody holds nothing
held-nobody : (worker o : ℕ) → held_in worker (nobody ∷ []) o ≡ None
held-nobody worker o = refl

pub take-past : {A : Type 0} (xs : List A) (n : ℕ) → length xs ≤ n → take n xs ≡ xs
take-past [] zero le = refl
take-past [] (suc n) le = refl
take-past (x ∷ xs) zero le = absurd (omega (arith, (let l : length (x ∷ xs) ≡ suc (length xs) = refl in l)))
take-past (x ∷ xs) (suc n) le = ap (λ l. x ∷ l) (take-past xs n (let l : length (x ∷ xs) ≡ suc (length xs) = refl in omega arith))

-- one place more
pub held-place : (worker o : ℕ) (ks : List Known) (p : ℕ) (before : Option Held) → option_or (option_or before (held_in worker (take p ks) o)) (held_in worker (get_or ks p nobody ∷ []) o) ≡ option_or before (held_in worker (take (p + 1) ks) o)
held-place worker o ks p before =
    or-again before (held_in worker (take p ks) o) (held_in worker (get_or ks p nobody ∷ []) o)
    ∙ ap (option_or before) (elim (cases_lt p (length ks)) [
      | inl l ↦ sym (held-append worker o (take p ks) (get_or ks p nobody ∷ [])) ∙ ap (λ zs. held_in worker zs o) (sym (more p l))
      | inr g ↦ (
          let e : get_or ks p nobody ≡ nobody = get_or-past ks p g in
          ap (λ k. option_or (held_in worker (take p ks) o) (held_in worker (k ∷ []) o)) e
          ∙ or-none (held_in worker (take p ks) o)
          ∙ ap (λ zs. held_in worker zs o) (take-past ks p g ∙ sym (take-past ks (p + 1) (omega arith))))
    ])
  where
    get_or-past : (ks : List Known) (p : ℕ) → length ks ≤ p → get_or ks p nobody ≡ nobody
    get_or-past [] zero le = refl
    get_or-past [] (suc p) le = refl
    get_or-past (k ∷ ks) zero le = absurd (omega (arith, (let l : length (k ∷ ks) ≡ suc (length ks) = refl in l)))
    get_or-past (k ∷ ks) (suc p) le = get_or-past ks p (let l : length (k ∷ ks) ≡ suc (length ks) = refl in omega arith)

    more : (p : ℕ) → p < length ks → take (p + 1) ks ≡ take p ks ++ get_or ks p nobody ∷ []
    more p l = take_more ks p nobody l

-- all places
pub held-all : (worker o : ℕ) (ks : List Known) (p : ℕ) (before : Option Held) → length ks ≤ p → option_or before (held_in worker (take p ks) o) ≡ option_or before (held_in worker ks o)
held-all worker o ks p before le = ap (λ zs. option_or before (held_in worker zs o)) (take-past ks p le)

-- ---- how much it knows

away : (o : ℕ) (ks : List Known) → place_of ks o ≡ length ks → times o (map (λ (k : Known). k.object) ks) ≡ 0
away o [] e = refl
away o (k ∷ ks) e = go (eqb k.object o) refl e (times-first o k.object (map (λ (k : Known). k.object) ks)) (away o ks)
  where
    go : (b : Bool) → eqb k.object o ≡ b → cond b 0 (suc (place_of ks o)) ≡ suc (length ks) → times o (k.object ∷ map (λ (k : Known). k.object) ks) ≡ one_if (eqb k.object o) + times o (map (λ (k : Known). k.object) ks)
        → (place_of ks o ≡ length ks → times o (map (λ (k : Known). k.object) ks) ≡ 0) → times o (k.object ∷ map (λ (k : Known). k.object) ks) ≡ 0
    go true is e c more = absurd (omega arith)
    go false is e c more = let z : one_if (eqb k.object o) ≡ 0 = ap one_if is in let r = more (omega arith) in omega arith

known-once : (ks : List Known) → AreDistinct ks → (o : ℕ) → times o (map (λ (k : Known). k.object) ks) ≤ 1
known-once [] distinct o = omega arith
known-once (k ∷ ks) distinct o =
    let c = times-first o k.object (map (λ (k : Known). k.object) ks) in
    elim (cases_eq k.object o) [
      | inl e ↦ (let z = away o ks (ap (place_of ks) (sym e) ∙ distinct.0) in let h : one_if (eqb k.object o) ≡ 1 = ap one_if (eq-eqb k.object o e) in omega arith)
      | inr d ↦ (let r = known-once ks distinct.1 o in let h : one_if (eqb k.object o) ≡ 0 = ap one_if (ne_eqb k.object o d) in omega arith)
    ]

object-at : (ks : List Known) (p : ℕ) → p < length ks → get_or (map (λ (k : Known). k.object) ks) p 0 ≡ (get_or ks p nobody).object
object-at [] p below = absurd (omega arith)
object-at (k ∷ ks) zero below = refl
object-at (k ∷ ks) (suc p) below = object-at ks p (let l : length (k ∷ ks) ≡ suc (length ks) = refl in omega arith)

length-objects : (ks : List Known) → length (map (λ (k : Known). k.object) ks) ≡ length ks
length-objects [] = refl
length-objects (k ∷ ks) = ap suc (length-objects ks)

-- the second number 0 is past the end
pub second-zero : (ks : List Known) (p q : ℕ) → AreDistinct ks → p < q → (get_or ks p nobody).object ≡ 0 → (get_or ks q nobody).object ≡ 0 → length ks ≤ q
second-zero ks p q distinct less first second = elim (cases_lt q (length ks)) [
  | inl l ↦ absurd (
      let os = map (λ (k : Known). k.object) ks in
      let t = times-two 0 os p q less (let e = length-objects ks in omega arith) (object-at ks p (omega arith) ∙ first) (object-at ks q l ∙ second) in
      let o = known-once ks distinct 0 in
      omega arith)
  | inr g ↦ g
]

none-past : (ks : List Known) (n : ℕ) → All (λ (k : Known). k.object < n) ks → (j : ℕ) → n ≤ j → times j (map (λ (k : Known). k.object) ks) ≡ 0
none-past [] n are j past = refl
none-past (k ∷ ks) n are j past =
    let c = times-first j k.object (map (λ (k : Known). k.object) ks) in
    let h = All-head (λ (k : Known). k.object < n) k ks are in
    let r = none-past ks n (All-tail (λ (k : Known). k.object < n) k ks are) j past in
    let z : one_if (eqb k.object j) ≡ 0 = ap one_if (ne_eqb k.object j (λ e. absurd (omega arith))) in
    omega arith

-- it knows no more objects than there are numbers
pub knows-few : (ks : List Known) (n : ℕ) → AreDistinct ks → All (λ (k : Known). k.object < n) ks → length ks ≤ n
knows-few ks n distinct are =
    let os = map (λ (k : Known). k.object) ks in
    let a = length-as_sum n os (none-past ks n are) in
    let b = sum_below-le n (λ j. times j os) (known-once ks distinct) in
    let e = length-objects ks in
    subst (λ k. k ≤ n) (a ∙ e) b

-- ---- several workers

pub among-append : (ls ms : List Local) (o : ℕ) → held_among (ls ++ ms) o ≡ option_or (held_among ls o) (held_among ms o)
among-append [] ms o = refl
among-append (l ∷ ls) ms o = ap (option_or (held_in l.worker l.known o)) (among-append ls ms o) ∙ sym (or-again (held_in l.worker l.known o) (held_among ls o) (held_among ms o))

pub among-one : (l : Local) (o : ℕ) → held_among (l ∷ []) o ≡ held_in l.worker l.known o
among-one l o = or-none (held_in l.worker l.known o)

-- one worker more
pub among-place : (ls : List Local) (i : ℕ) (x : Local) (o : ℕ) (before : Option Held) → i < length ls → x ≡ get_or ls i x → option_or (option_or before (held_among (take i ls) o)) (held_in x.worker x.known o) ≡ option_or before (held_among (take (i + 1) ls) o)
among-place ls i x o before below is =
    or-again before (held_among (take i ls) o) (held_in x.worker x.known o)
    ∙ ap (λ h. option_or before (option_or (held_among (take i ls) o) h)) (sym (among-one x o))
    ∙ ap (option_or before) (sym (among-append (take i ls) (x ∷ []) o))
    ∙ ap (λ (z : Local). option_or before (held_among (take i ls ++ z ∷ []) o)) is
    ∙ ap (λ zs. option_or before (held_among zs o)) (sym (take_more ls i x below))
