-- How often events allocate a number and free it, and how often it was given and taken.
use Rattle.std.proofs.Common.{◌≡◌, ℕ, ◌+◌, ◌<◌, ◌≤◌, ◌&&◌, ◌||◌, not, Bool, true, false, cond, eqb, List, [], ◌∷◌, length, fold, count_by, is_some, refl, arith, All, Option, Some, None, IfSome, inl, inr, ◌⊎◌}
use Rattle.std.specs.List.{cons_option}
use Rattle.std.proofs.lemmas.Bool.{and_parts, false≢true, or_cases}
use Rattle.std.proofs.lemmas.List.Elements.{All-head, All-tail}
use Rattle.std.proofs.lemmas.List.Sums.{sum_by-cons}
use Rattle.slub_common.specs.Times.{times}
use Rattle.slub_common.proofs.Times.{times-cons}
use Rattle.slub_trace.specs.declared.event.Act.{Act}
use Rattle.slub_trace.specs.declared.event.Act.TheVariants.{Alloc, Free, Write, Read, Poke, Trim, Flush}
use Rattle.slub_trace.specs.declared.reply.Reply.{Reply}
use Rattle.slub_trace.specs.declared.reply.Reply.TheVariants as reply
use Rattle.slub_trace.specs.Kinds.{is_freed, is_given}
use Rattle.slub_trace.specs.Sound.{allocated, objects_of}
use Rattle.slub_law_rounds.specs.Answered.{Answered, did_free, found_bad, gave, holds_after, is_alloc_of, is_corrupt, is_free_of, times_taken}
use Rattle.slub_law_recorded.specs.Paired.{IsPairingAct, freed, freed_of}
use Rattle.slub_law_recorded.specs.Replay.{IsAmple, IsFreed}
use Rattle.slub_law_recorded.proofs.Parts.{asked}

-- ---- what was given

gift-more : (object : ℕ) (act : Act) (answer : Reply) (numbers : List ℕ) → IfSome (allocated act) (λ object. is_given answer ≡ true) → times object (cons_option (allocated act) numbers) ≤ cond (is_alloc_of object act && is_given answer) 1 0 + times object numbers
gift-more object (Alloc place other) answer numbers given = by (eqb other object) (is_given answer) given (times-cons object other numbers)
  where
    by : (b g : Bool) → g ≡ true → times object (other ∷ numbers) ≡ cond b 1 0 + times object numbers → times object (other ∷ numbers) ≤ cond (b && g) 1 0 + times object numbers
    by true true given split = omega (arith, split)
    by true false given split = absurd (false≢true given)
    by false g given split = omega (arith, split)
gift-more object (Free other) answer numbers given = omega arith
gift-more object (Write word other value) answer numbers given = omega arith
gift-more object (Read word other) answer numbers given = omega arith
gift-more object (Poke other offset byte) answer numbers given = omega arith
gift-more object (Trim place) answer numbers given = omega arith
gift-more object Flush answer numbers given = omega arith

-- where each allocation was given, a number is given as often as it was to be allocated
pub gifts : (object : ℕ) (own : List Answered) → All IsAmple own → times object (objects_of (asked own)) ≤ count_by (gave object) own
gifts object [] ample = omega arith
gifts object (one ∷ own) ample =
    omega (arith, gift-more object one.0.act one.1 (objects_of (asked own)) (All-head IsAmple one own ample), gifts object own (All-tail IsAmple one own ample), sum_by-cons (λ (one : Answered). cond (gave object one) 1 0) one own)

-- ---- what was taken

take-more : (object : ℕ) (act : Act) (b : Bool) (numbers : List ℕ) → (b ≡ true → is_free_of object act ≡ true) → cond b 1 0 + times object numbers ≤ times object (cons_option (freed act) numbers)
take-more object act false numbers is = by act
  where
    by : (act : Act) → 0 + times object numbers ≤ times object (cons_option (freed act) numbers)
    by (Free other) = omega (arith, times-cons object other numbers)
    by (Alloc place other) = omega arith
    by (Write word other value) = omega arith
    by (Read word other) = omega arith
    by (Poke other offset byte) = omega arith
    by (Trim place) = omega arith
    by Flush = omega arith
take-more object (Free other) true numbers is =
    let mine : eqb other object ≡ true = is refl in
    let one : ◌≡◌ {A = ℕ} (cond (eqb other object) 1 0) 1 = rw mine refl in
    omega (arith, times-cons object other numbers, one)
take-more object (Alloc place other) true numbers is = absurd (false≢true (is refl))
take-more object (Write word other value) true numbers is = absurd (false≢true (is refl))
take-more object (Read word other) true numbers is = absurd (false≢true (is refl))
take-more object (Poke other offset byte) true numbers is = absurd (false≢true (is refl))
take-more object (Trim place) true numbers is = absurd (false≢true (is refl))
take-more object Flush true numbers is = absurd (false≢true (is refl))

-- frees of a number that pass a test are no more than its frees
pub takes : (object : ℕ) (p : Answered → Bool) → ((one : Answered) → p one ≡ true → is_free_of object one.0.act ≡ true) → (own : List Answered) → count_by p own ≤ times object (freed_of (asked own))
takes object p is [] = omega arith
takes object p is (one ∷ own) =
    omega (arith, take-more object one.0.act (p one) (freed_of (asked own)) (is one), takes object p is own, sum_by-cons (λ (one : Answered). cond (p one) 1 0) one own)

pub frees-freed : (object : ℕ) (own : List Answered) → count_by (did_free object) own ≤ times object (freed_of (asked own))
frees-freed object own = takes object (did_free object) (λ one did. (and_parts (is_free_of object one.0.act) (is_freed one.1) did).0) own

pub frees-taken : (object : ℕ) (own : List Answered) → times_taken object own ≤ times object (freed_of (asked own))
frees-taken object own = takes object (λ one. did_free object one || found_bad object one) mine own
  where
    mine : (one : Answered) → (did_free object one || found_bad object one) ≡ true → is_free_of object one.0.act ≡ true
    mine one did = elim (or_cases (did_free object one) (found_bad object one) did) [
      | inl freed ↦ (and_parts (is_free_of object one.0.act) (is_freed one.1) freed).0
      | inr bad ↦ (and_parts (is_free_of object one.0.act) (is_corrupt one.1) bad).0
    ]

-- ---- what is held

-- a worker that was given an object, and didn't free it, holds it
pub gift-held : (object : ℕ) (held : Bool) (own : List Answered) → count_by (did_free object) own ≡ 0 → (held ≡ true) ⊎ (0 < count_by (gave object) own) → fold (holds_after object) held own ≡ true
gift-held object held [] kept (inl has) = has
gift-held object held [] kept (inr some) = absurd (let never : ⊥ = omega (arith, some) in never)
gift-held object held (one ∷ own) kept has =
    gift-held object (holds_after object held one) own (omega (arith, kept, freed)) (by (gave object one) (found_bad object one) held (did_free object one) given freed has)
  where
    given : count_by (gave object) (one ∷ own) ≡ cond (gave object one) 1 0 + count_by (gave object) own
    given = sum_by-cons (λ (one : Answered). cond (gave object one) 1 0) one own

    freed : count_by (did_free object) (one ∷ own) ≡ cond (did_free object one) 1 0 + count_by (did_free object) own
    freed = sum_by-cons (λ (one : Answered). cond (did_free object one) 1 0) one own

    by : (g c h d : Bool) → count_by (gave object) (one ∷ own) ≡ cond g 1 0 + count_by (gave object) own → count_by (did_free object) (one ∷ own) ≡ cond d 1 0 + count_by (did_free object) own
        → (h ≡ true) ⊎ (0 < count_by (gave object) (one ∷ own)) → ((g || c || (h && not d)) ≡ true) ⊎ (0 < count_by (gave object) own)
    by true c h d given freed has = inl refl
    by false true h d given freed has = inl refl
    by false false h d given freed (inr some) = inr (omega (arith, some, given))
    by false false true true given freed (inl has) = absurd (let never : ⊥ = omega (arith, kept, freed) in never)
    by false false true false given freed (inl has) = inl refl
    by false false false d given freed (inl has) = absurd (false≢true has)

-- ---- numbers of all

one-all : (act : Act) (answer : Reply) → IsPairingAct act → IfSome (allocated act) (λ object. is_given answer ≡ true) → IfSome (freed act) (λ object. is_freed answer ≡ true)
    → (is_given answer ≡ is_some (allocated act)) × (is_freed answer ≡ is_some (freed act))
one-all (Alloc place object) (reply.Given address) pairing given done = (refl, refl)
one-all (Alloc place object) _ pairing given done = absurd (false≢true given)
one-all (Free object) (reply.Freed address) pairing given done = (refl, refl)
one-all (Free object) _ pairing given done = absurd (false≢true done)
one-all _ answer pairing given done = absurd pairing

count-given : (act : Act) (b : Bool) (numbers : List ℕ) → b ≡ is_some (allocated act) → length (cons_option (allocated act) numbers) ≡ cond b 1 0 + length numbers
count-given act b numbers same = rw same (by (allocated act))
  where
    by : (x : Option ℕ) → length (cons_option x numbers) ≡ cond (is_some x) 1 0 + length numbers
    by None = omega arith
    by (Some object) = omega arith

count-freed : (act : Act) (b : Bool) (numbers : List ℕ) → b ≡ is_some (freed act) → length (cons_option (freed act) numbers) ≡ cond b 1 0 + length numbers
count-freed act b numbers same = rw same (by (freed act))
  where
    by : (x : Option ℕ) → length (cons_option x numbers) ≡ cond (is_some x) 1 0 + length numbers
    by None = omega arith
    by (Some object) = omega arith

-- all that was given and all that was freed, where each allocation was given and each free was done
pub all-told : (answers : List Answered) → All (λ (one : Answered). IsPairingAct one.0.act) answers → All IsAmple answers → All IsFreed answers
    → (count_by (λ one. is_given one.1) answers ≡ length (objects_of (asked answers))) × (count_by (λ one. is_freed one.1) answers ≡ length (freed_of (asked answers)))
all-told [] pairing ample done = (refl, refl)
all-told (one ∷ answers) pairing ample done =
    let here = one-all one.0.act one.1 (All-head (λ (one : Answered). IsPairingAct one.0.act) one answers pairing) (All-head IsAmple one answers ample) (All-head IsFreed one answers done) in
    let rest = all-told answers (All-tail (λ (one : Answered). IsPairingAct one.0.act) one answers pairing) (All-tail IsAmple one answers ample) (All-tail IsFreed one answers done) in (
      omega (arith, sum_by-cons (λ (one : Answered). cond (is_given one.1) 1 0) one answers, count-given one.0.act (is_given one.1) (objects_of (asked answers)) here.0, rest.0),
      omega (arith, sum_by-cons (λ (one : Answered). cond (is_freed one.1) 1 0) one answers, count-freed one.0.act (is_freed one.1) (freed_of (asked answers)) here.1, rest.1),
    )
