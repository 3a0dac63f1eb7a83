-- What object numbers name, counted: on the board, and with workers.
use Rattle.std.proofs.Common.{◌≡◌, ℕ, zero, suc, ◌+◌, ◌<◌, ◌≤◌, ◌&&◌, ◌⊎◌, cond, eqb, Bool, true, false, List, [], ◌∷◌, Option, Some, None, refl, ap, sym, ◌∙◌, arith, inl, inr, sum_by, Contains}
use Rattle.std.specs.Prelude.{All, option_map, is_some}
use Rattle.std.specs.Option.{option_or}
use Rattle.std.proofs.lemmas.Bool.{cases_eq, cases_Bool, eq-eqb, ne_eqb, cond-true, cond-false}
use Rattle.std.proofs.lemmas.List.Elements.{All-head, All-tail}
use Rattle.std.proofs.lemmas.List.Sums.{sum_by-cons}
use Rattle.slub_words.specs.declared.board.BoardWord.{BoardWord}
use Rattle.slub_lists.specs.declared.lists.Held.{Held}
use Rattle.slub_lists.specs.Alloc.{held_here}
use Rattle.slub_core.specs.declared.local.Known.{Known}
use Rattle.slub_core.specs.Setup.{Setup}
use Rattle.slub_core.specs.Local.{Local}
use Rattle.slub_core.specs.World.{World, one_if, sum_below, is_at, on_board}
use Rattle.slub_core.specs.Placed.{held_as, held}
use Rattle.slub_core.proofs.Update.{sum_below_same}
use Rattle.slub_core.proofs.Pigeon.{sum_below-add, sum_below-none}
use Rattle.slub_law_opening.specs.Rests.{IsBetween, held_on, held_in, held_among, times_held, named, times_named}

-- what one number names, and how often: once at most; n tells whether it is the object (f, i)
record IsCounted (h : Option Held) (f i times n : ℕ) : Type 0 where
  pub none : times ≡ 0 → (h ≡ None) × (n ≡ 0)
  pub same : times ≤ 1 → held_here f i h ≡ n

or-none : (h : Option Held) → option_or h None ≡ h
or-none None = refl
or-none (Some x) = refl

or-counted : (a b : Option Held) (f i t u n m : ℕ) → IsCounted a f i t n → IsCounted b f i u m → IsCounted (option_or a b) f i (t + u) (n + m)
or-counted a b f i t u n m ca cb = record {
  none = λ z. let x = ca.none (omega arith) in let y = cb.none (omega arith) in (ap (λ h. option_or h b) x.0 ∙ y.0, omega (arith, x.1, y.1));
  same = λ one. elim (cases_eq t 0) [
    | inl z ↦ let x = ca.none z in ap (λ h. held_here f i (option_or h b)) x.0 ∙ cb.same (omega arith) ∙ (let e : m ≡ n + m = omega (arith, x.1) in e)
    | inr d ↦ let y = cb.none (omega arith) in ap (λ h. held_here f i (option_or a h)) y.0 ∙ ap (held_here f i) (or-none a) ∙ ca.same (omega arith) ∙ (let e : n ≡ n + m = omega (arith, y.1) in e)
  ];
}

-- the object that one known object is, where it is held under the number
abbrev pub held_of : ℕ → ℕ → ℕ → Known → ℕ
held_of f i o k = cond (eqb k.object o) (held_as f i k) 0

known-counted : (worker f i o : ℕ) (k : Known) → IsCounted (cond (k.held && eqb k.object o) (Some (record { frame = k.frame; index = k.index; cache = k.cache; worker = Some worker })) None) f i (one_if (k.held && eqb k.object o)) (held_of f i o k)
known-counted worker f i o k = by k.held (eqb k.object o)
  where
    by : (h e : Bool) → IsCounted (cond (h && e) (Some (record { frame = k.frame; index = k.index; cache = k.cache; worker = Some worker })) None) f i (one_if (h && e)) (cond e (one_if (h && is_at k.frame k.index f i)) 0)
    by true true = record { none = λ z. absurd (omega arith); same = λ one. refl }
    by true false = record { none = λ z. (refl, refl); same = λ one. refl }
    by false true = record { none = λ z. (refl, refl); same = λ one. refl }
    by false false = record { none = λ z. (refl, refl); same = λ one. refl }

first-or : (c : Bool) (x : Held) (rest : Option Held) → cond c (Some x) rest ≡ option_or (cond c (Some x) None) rest
first-or true x rest = refl
first-or false x rest = refl

counted-as : (a b : Option Held) (f i t u n m : ℕ) → a ≡ b → t ≡ u → n ≡ m → IsCounted b f i u m → IsCounted a f i t n
counted-as a b f i t u n m e p q c = record {
  none = λ z. let x = c.none (omega arith) in (e ∙ x.0, omega (arith, x.1));
  same = λ one. ap (held_here f i) e ∙ c.same (omega arith) ∙ sym q;
}

knowns-counted : (worker f i o : ℕ) (ks : List Known) → IsCounted (held_in worker ks o) f i (sum_by (λ (k : Known). one_if (k.held && eqb k.object o)) ks) (sum_by (held_of f i o) ks)
knowns-counted worker f i o [] = record { none = λ z. (refl, refl); same = λ one. refl }
knowns-counted worker f i o (k ∷ ks) =
    let x : Held = record { frame = k.frame; index = k.index; cache = k.cache; worker = Some worker } in
    let c = k.held && eqb k.object o in
    counted-as (held_in worker (k ∷ ks) o) (option_or (cond c (Some x) None) (held_in worker ks o)) f i _ _ _ _
    (first-or c x (held_in worker ks o)) (sum_by-cons (λ (k : Known). one_if (k.held && eqb k.object o)) k ks) (sum_by-cons (held_of f i o) k ks)
    (or-counted (cond c (Some x) None) (held_in worker ks o) f i _ _ _ _ (known-counted worker f i o k) (knowns-counted worker f i o ks))

abbrev pub held_by : ℕ → ℕ → ℕ → Local → ℕ
held_by f i o l = sum_by (held_of f i o) l.known

among-counted : (f i o : ℕ) (ls : List Local) → IsCounted (held_among ls o) f i (sum_by (times_held o) ls) (sum_by (held_by f i o) ls)
among-counted f i o [] = record { none = λ z. (refl, refl); same = λ one. refl }
among-counted f i o (l ∷ ls) =
    counted-as (held_among (l ∷ ls) o) (option_or (held_in l.worker l.known o) (held_among ls o)) f i _ _ _ _
    refl (sum_by-cons (times_held o) l ls) (sum_by-cons (held_by f i o) l ls)
    (or-counted (held_in l.worker l.known o) (held_among ls o) f i _ _ _ _ (knowns-counted l.worker f i o l.known) (among-counted f i o ls))

board-counted : (f i : ℕ) (b : Option BoardWord) → IsCounted (option_map held_on b) f i (one_if (is_some b)) (on_board b f i)
board-counted f i None = record { none = λ z. (refl, refl); same = λ one. refl }
board-counted f i (Some b) = record { none = λ z. absurd (omega arith); same = λ one. refl }

-- what a number names is on the board, or one worker holds it
pub named-here : (w : World) (ls : List Local) (f i o : ℕ) → times_named w ls o ≤ 1 → held_here f i (named w ls o) ≡ on_board (w.board o) f i + sum_by (held_by f i o) ls
named-here w ls f i o once =
    (or-counted (option_map held_on (w.board o)) (held_among ls o) f i _ _ _ _ (board-counted f i (w.board o)) (among-counted f i o ls)).same once

-- ---- over all numbers

one-number : (m x n : ℕ) → x < m → sum_below m (λ o. cond (eqb x o) n 0) ≡ n
one-number zero x n below = absurd (omega arith)
one-number (suc m) x n below =
    elim (cases_eq x m) [
      | inl e ↦
          let none = sum_below-none m (λ o. cond (eqb x o) n 0) (λ j under. rw (ne_eqb x j (λ h. absurd (omega arith))) refl) in
          let last : cond (eqb x m) n 0 ≡ n = rw (eq-eqb x m e) refl in
          omega arith
      | inr d ↦
          let r = one-number m x n (omega arith) in
          let last : cond (eqb x m) n 0 ≡ 0 = rw (ne_eqb x m d) refl in
          omega arith
    ]

abbrev pub AreNumbers : ℕ → List Known → Type 0
AreNumbers m ks = All (λ (k : Known). k.object < m) ks

knowns-sum : (m f i : ℕ) (ks : List Known) → AreNumbers m ks → sum_below m (λ o. sum_by (held_of f i o) ks) ≡ sum_by (held_as f i) ks
knowns-sum m f i [] are = sum_below-none m (λ o. 0) (λ o below. refl)
knowns-sum m f i (k ∷ ks) are =
    let here = All-head (λ (k : Known). k.object < m) k ks are in
    let r = knowns-sum m f i ks (All-tail (λ (k : Known). k.object < m) k ks are) in
    let s = sum_below_same m (λ o. held_of f i o k + sum_by (held_of f i o) ks) (λ o. sum_by (held_of f i o) (k ∷ ks)) (λ o _. sum_by-cons (held_of f i o) k ks) in
    let a = sum_below-add m (λ o. held_of f i o k) (λ o. sum_by (held_of f i o) ks) in
    let one = one-number m k.object (held_as f i k) here in
    let c = sum_by-cons (held_as f i) k ks in
    omega arith

pub workers-sum : (m : Setup) (f i : ℕ) (ls : List Local) → All (IsBetween m) ls → sum_below m.objects (λ o. sum_by (held_by f i o) ls) ≡ sum_by (held f i) ls
workers-sum m f i [] are = sum_below-none m.objects (λ o. 0) (λ o below. refl)
workers-sum m f i (l ∷ ls) are =
    let here = All-head (IsBetween m) l ls are in
    let r = workers-sum m f i ls (All-tail (IsBetween m) l ls are) in
    let s = sum_below_same m.objects (λ o. held_by f i o l + sum_by (held_by f i o) ls) (λ o. sum_by (held_by f i o) (l ∷ ls)) (λ o _. sum_by-cons (held_by f i o) l ls) in
    let a = sum_below-add m.objects (λ o. held_by f i o l) (λ o. sum_by (held_by f i o) ls) in
    let one = knowns-sum m.objects f i l.known here.numbers in
    let c = sum_by-cons (held f i) l ls in
    omega arith

-- the objects on the board and with workers are those that numbers name
pub named-sum : (w : World) (m : Setup) (ls : List Local) (f i : ℕ) → ((o : ℕ) → times_named w ls o ≤ 1) → All (IsBetween m) ls
    → sum_below m.objects (λ o. held_here f i (named w ls o)) ≡ sum_below m.objects (λ o. on_board (w.board o) f i) + sum_by (held f i) ls
named-sum w m ls f i once are =
    sum_below_same m.objects (λ o. on_board (w.board o) f i + sum_by (held_by f i o) ls) (λ o. held_here f i (named w ls o)) (λ o _. named-here w ls f i o (once o))
    ∙ sum_below-add m.objects (λ o. on_board (w.board o) f i) (λ o. sum_by (held_by f i o) ls)
    ∙ ap (λ n. sum_below m.objects (λ o. on_board (w.board o) f i) + n) (workers-sum m f i ls are)

-- ---- what a worker holds is what its number names

none-in : {X : Type 0} (x : X) → Contains [] x → ⊥
none-in x found = let short : found.0 < 0 = found.1 in omega arith

here-or_later : {X : Type 0} (y : X) (xs : List X) (x : X) → Contains (y ∷ xs) x → (y ≡ x) ⊎ Contains xs x
here-or_later y xs x (zero, short, is) = inl is
here-or_later y xs x (suc k, short, is) = inr (k, omega arith, is)

abbrev pub holds : ℕ → Known → ℕ
holds o k = one_if (k.held && eqb k.object o)

abbrev pub as_held : ℕ → Known → Held
as_held worker k = record { frame = k.frame; index = k.index; cache = k.cache; worker = Some worker }

holds-itself : (k : Known) → k.held ≡ true → k.held && eqb k.object k.object ≡ true
holds-itself k h = ap (λ b. b && eqb k.object k.object) h ∙ eq-eqb k.object k.object refl

in-knowns : (worker o : ℕ) (ks : List Known) (k : Known) → Contains ks k → k.held ≡ true → k.object ≡ o → sum_by (holds o) ks ≤ 1 → (held_in worker ks o ≡ Some (as_held worker k)) × (1 ≤ sum_by (holds o) ks)
in-knowns worker o [] k is held at once = absurd (none-in k is)
in-knowns worker o (x ∷ ks) k is held at once =
    let c = sum_by-cons (holds o) x ks in
    elim (here-or_later x ks k is) [
      | inl e ↦
          let here : x.held && eqb x.object o ≡ true = ap (λ (z : Known). z.held && eqb z.object o) e ∙ ap (λ n. k.held && eqb k.object n) (sym at) ∙ holds-itself k held in
          (cond-true (x.held && eqb x.object o) (Some (as_held worker x)) (held_in worker ks o) here ∙ ap (λ z. Some (as_held worker z)) e, (let one : holds o x ≡ 1 = ap one_if here in omega arith))
      | inr later ↦
          let r = in-knowns worker o ks k later held at (omega arith) in
          let none : x.held && eqb x.object o ≡ false = elim (cases_Bool (x.held && eqb x.object o)) [
            | inl t ↦ absurd (let one : holds o x ≡ 1 = ap one_if t in omega (arith, c, one, r.1, once))
            | inr f ↦ f
          ] in
          (cond-false (x.held && eqb x.object o) (Some (as_held worker x)) (held_in worker ks o) none ∙ r.0, omega (arith, c, r.1))
    ]

in-among : (o : ℕ) (ls : List Local) (l : Local) (k : Known) → Contains ls l → Contains l.known k → k.held ≡ true → k.object ≡ o → sum_by (times_held o) ls ≤ 1 → (held_among ls o ≡ Some (as_held l.worker k)) × (1 ≤ sum_by (times_held o) ls)
in-among o [] l k is has held at once = absurd (none-in l is)
in-among o (x ∷ ls) l k is has held at once =
    let c = sum_by-cons (times_held o) x ls in
    elim (here-or_later x ls l is) [
      | inl e ↦
          let same : times_held o x ≡ times_held o l = ap (times_held o) e in
          let r = in-knowns l.worker o l.known k has held at (omega arith) in
          let here : held_in x.worker x.known o ≡ Some (as_held l.worker k) = ap (λ (z : Local). held_in z.worker z.known o) e ∙ r.0 in
          (ap (λ h. option_or h (held_among ls o)) here, omega (arith, c, same, r.1))
      | inr later ↦
          let r = in-among o ls l k later has held at (omega arith) in
          let none = (knowns-counted x.worker 0 0 o x.known).none (omega (arith, c, r.1, once)) in
          (ap (λ h. option_or h (held_among ls o)) none.0 ∙ r.0, omega (arith, c, r.1))
    ]

pub held-named : (w : World) (ls : List Local) (l : Local) (k : Known) → Contains ls l → Contains l.known k → k.held ≡ true → times_named w ls k.object ≤ 1 → named w ls k.object ≡ Some (as_held l.worker k)
held-named w ls l k is has held once =
    let r = in-among k.object ls l k is has held refl (omega arith) in
    let none = (board-counted 0 0 (w.board k.object)).none (omega (arith, r.1, once)) in
    ap (λ h. option_or h (held_among ls k.object)) none.0 ∙ r.0
