-- A number stands in a list of different numbers once at most, and is given as often as it was to be allocated at most.
use Rattle.std.proofs.Common.{◌≡◌, ℕ, ◌+◌, ◌≤◌, ◌&&◌, Bool, true, false, cond, eqb, List, [], ◌∷◌, ◌++◌, count_by, refl, ◌∙◌, ap, arith, nat_eq, sym}
use Rattle.std.specs.List.{AllByRecursion, IsDistinct, zip}
use Rattle.std.proofs.lemmas.Bool.Decides.{nat_tests}
use Rattle.std.proofs.lemmas.List.Sums.{sum_by-append, sum_by-cons}
use Rattle.std.proofs.lemmas.Map.Keys.{IsDistinct-head, IsDistinct-tail}
use Rattle.slub_trace.specs.declared.event.Act.{Act}
use Rattle.slub_trace.specs.declared.event.Act.TheVariants.{Alloc, Free, Write, Read, Poke, Trim, Flush}
use Rattle.slub_trace.specs.declared.event.Event.{Event}
use Rattle.slub_common.specs.Times.{times}
use Rattle.slub_trace.specs.declared.reply.Reply.{Reply}
use Rattle.slub_trace.specs.Sound.{objects_of}
use Rattle.slub_trace.specs.Kinds.{is_given}
use Rattle.slub_law_rounds.specs.Answered.{gave, is_alloc_of}

-- 1 where it is so
abbrev pub one_where : Bool → ℕ
one_where b = cond b 1 0

-- ---- a list in which no number stands twice

-- a number that is another than each of a list doesn't stand in it
none_times : (x : ℕ) (xs : List ℕ) → AllByRecursion (λ y. eqb x y ≡ false) xs → times x xs ≡ 0
none_times x [] differ = refl
none_times x (y ∷ ys) differ =
    let split = sum_by-cons (λ z. cond (eqb z x) 1 0) y ys in
    let rest = none_times x ys differ.1 in
    grind (arith, nat_tests, split, rest, differ.0)

pub once_times : (x : ℕ) (xs : List ℕ) → IsDistinct nat_eq xs → times x xs ≤ 1
once_times x [] distinct = omega arith
once_times x (y ∷ ys) distinct = by (eqb y x) refl (once_times x ys (IsDistinct-tail eqb y ys distinct))
  where
    split : times x (y ∷ ys) ≡ cond (eqb y x) 1 0 + times x ys
    split = sum_by-cons (λ z. cond (eqb z x) 1 0) y ys

    by : (b : Bool) → eqb y x ≡ b → times x ys ≤ 1 → times x (y ∷ ys) ≤ 1
    by true is rest =
        let same : y ≡ x = grind (arith, nat_tests, is) in
        let none : times x ys ≡ 0 = ap (λ z. times z ys) (sym same) ∙ none_times y ys (IsDistinct-head eqb y ys distinct) in
        let here : one_where (eqb y x) ≡ 1 = rw is refl in
        omega (arith, split, none, here)
    by false is rest =
        let here : one_where (eqb y x) ≡ 0 = rw is refl in
        omega (arith, split, here, rest)

-- ---- events that were answered, in two parts

pub counted_append : (p : Event × Reply → Bool) (xs ys : List (Event × Reply)) → count_by p (xs ++ ys) ≡ count_by p xs + count_by p ys
counted_append p xs ys = sum_by-append (λ (one : Event × Reply). cond (p one) 1 0) xs ys

pub times_append : (x : ℕ) (xs ys : List ℕ) → times x (xs ++ ys) ≡ times x xs + times x ys
times_append x xs ys = sum_by-append (λ y. cond (eqb y x) 1 0) xs ys

-- ---- what is given was to be allocated

one_given : (object : ℕ) (act : Act) (line worker cpu : ℕ) (reply : Reply) (events : List Event)
    → cond (is_alloc_of object act && is_given reply) 1 0 + times object (objects_of events) ≤ times object (objects_of (record { line = line; worker = worker; cpu = cpu; act = act } ∷ events))
one_given object (Alloc place other) line worker cpu reply events =
    let split = sum_by-cons (λ z. cond (eqb z object) 1 0) other (objects_of events) in
    by (eqb other object) (is_given reply) split
  where
    by : (b c : Bool) → times object (other ∷ objects_of events) ≡ cond b 1 0 + times object (objects_of events) → cond (b && c) 1 0 + times object (objects_of events) ≤ times object (other ∷ objects_of events)
    by true true split = omega (arith, split)
    by true false split = omega (arith, split)
    by false c split = omega (arith, split)
one_given object (Free other) line worker cpu reply events = omega arith
one_given object (Write word other value) line worker cpu reply events = omega arith
one_given object (Read word other) line worker cpu reply events = omega arith
one_given object (Poke other offset byte) line worker cpu reply events = omega arith
one_given object (Trim place) line worker cpu reply events = omega arith
one_given object Flush line worker cpu reply events = omega arith

pub events_given : (object : ℕ) (events : List Event) (replies : List Reply) → count_by (gave object) (zip events replies) ≤ times object (objects_of events)
events_given object [] replies = omega arith
events_given object (event ∷ events) [] = omega arith
events_given object (event ∷ events) (reply ∷ replies) =
    omega (arith, sum_by-cons (λ (one : Event × Reply). cond (gave object one) 1 0) (event, reply) (zip events replies), events_given object events replies, one_given object event.act event.line event.worker event.cpu reply events)
