-- What follows from a round that is lawful: of each number, and of all, what was given less what was freed is on the board.
use Rattle.std.proofs.Common.{◌≡◌, ℕ, zero, suc, ◌+◌, ◌<◌, ◌≤◌, ◌&&◌, ◌||◌, Bool, true, false, cond, eqb, List, [], ◌∷◌, ◌++◌, append_assoc, length, get_or, sum_by, count_by, is_some, refl, sym, ◌∙◌, ap, subst, arith, All, Option, Some, None, IsSome, inl, inr, ◌⊎◌}
use Rattle.std.specs.List.{zip, range_with_len}
use Rattle.std.proofs.lemmas.Bool.{cases_lt, eq-eqb}
use Rattle.std.proofs.lemmas.Bool.Decides.{nat_tests}
use Rattle.std.proofs.lemmas.List.Elements.{All-head, All-tail, filter-append}
use Rattle.std.proofs.lemmas.List.Sums.{sum_by-cons}
use Rattle.slub_common.specs.Times.{times}
use Rattle.slub_trace.specs.declared.event.Act.{Act}
use Rattle.slub_trace.specs.declared.event.Act.TheVariants.{Alloc, Free, Write, Read, Poke, Trim, Flush}
use Rattle.slub_trace.specs.declared.event.Event.{Event}
use Rattle.slub_trace.specs.declared.event.Round.{Round}
use Rattle.slub_trace.specs.declared.ledger.Ledger.{Ledger}
use Rattle.slub_trace.specs.declared.reply.Reply.{Reply}
use Rattle.slub_trace.specs.declared.reply.Reply.TheVariants as reply
use Rattle.slub_trace.specs.Kinds.{is_freed, is_given}
use Rattle.slub_lists.specs.declared.lists.Held.{Held}
use Rattle.slub_lists.specs.State.{State}
use Rattle.slub_lists.specs.Coherent.{IsCoherent, held_of, held_under}
use Rattle.slub_lists.proofs.CheckedSlabs.{counted-within}
use Rattle.slub_trace.specs.Sound.{objects_of}
use Rattle.slub_slabinfo_text.specs.declared.journal.RoundResult.{RoundResult}
use Rattle.slub_slabinfo_text.specs.Lawful.{freed_in, given_in, is_by}
use Rattle.slub_slabinfo_text.proofs.Numbers.{sum_from}
use Rattle.slub_common.proofs.Writes.{inside-of}
use Rattle.slub_law_rounds.specs.Answered.{Answered, did_free, found_bad, gave, holding, holds_after, is_alloc_of, is_corrupt, is_free_of, of_worker, times_freed, times_given}
use Rattle.slub_law_rounds.specs.Round.{ReplyCause, IsFreeable, IsRound}
use Rattle.slub_law_rounds.proofs.Runs.{fold-own, on_board}
use Rattle.slub_law_rounds.proofs.Tale.{some-object}
use Rattle.slub_law_rounds.proofs.Times.{counted_append, events_given, one_where, times_append}
use Rattle.slub_law_replay.proofs.Adding.{share_here, share_there, upto, upto_both, upto_list, upto_none, upto_one, upto_same, upto_sum_by, upto_times}
use Rattle.slub_law_replay.proofs.Tally.{AreWithin, by_workers}

-- ---- an event that has its cause

false-true : {A : Type 0} → false ≡ true → A
false-true e = absurd (let never : ⊥ = cc in never)

-- what is given was to be allocated
given_allocs : (before : State) (answers own : List Answered) (act : Act) (answer : Reply) → ReplyCause before answers own act answer → is_given answer ≡ true → (place : ℕ) × (object : ℕ) × (act ≡ Alloc place object)
given_allocs before answers own (Alloc place object) answer cause given = (place, object, refl)
given_allocs before answers own (Free object) (reply.Freed address) cause given = false-true given
given_allocs before answers own (Free object) (reply.Corrupt damage) cause given = false-true given
given_allocs before answers own (Free object) reply.NotHeld cause given = false-true given
given_allocs before answers own (Free object) _ cause given = absurd cause
given_allocs before answers own (Write word object value) (reply.Given address) cause given = absurd cause
given_allocs before answers own (Write word object value) _ cause given = false-true given
given_allocs before answers own (Read word object) (reply.Given address) cause given = absurd cause
given_allocs before answers own (Read word object) _ cause given = false-true given
given_allocs before answers own (Poke object offset byte) (reply.Given address) cause given = absurd cause
given_allocs before answers own (Poke object offset byte) _ cause given = false-true given
given_allocs before answers own (Trim place) (reply.Given address) cause given = absurd cause
given_allocs before answers own (Trim place) _ cause given = false-true given
given_allocs before answers own Flush (reply.Given address) cause given = absurd cause
given_allocs before answers own Flush _ cause given = false-true given

-- what is freed was to be freed
freed_frees : (before : State) (answers own : List Answered) (act : Act) (answer : Reply) → ReplyCause before answers own act answer → is_freed answer ≡ true → (object : ℕ) × (act ≡ Free object)
freed_frees before answers own (Free object) answer cause freed = (object, refl)
freed_frees before answers own (Alloc place object) (reply.Freed address) cause freed = absurd cause
freed_frees before answers own (Alloc place object) _ cause freed = false-true freed
freed_frees before answers own (Write word object value) (reply.Freed address) cause freed = absurd cause
freed_frees before answers own (Write word object value) _ cause freed = false-true freed
freed_frees before answers own (Read word object) (reply.Freed address) cause freed = absurd cause
freed_frees before answers own (Read word object) _ cause freed = false-true freed
freed_frees before answers own (Poke object offset byte) (reply.Freed address) cause freed = absurd cause
freed_frees before answers own (Poke object offset byte) _ cause freed = false-true freed
freed_frees before answers own (Trim place) (reply.Freed address) cause freed = absurd cause
freed_frees before answers own (Trim place) _ cause freed = false-true freed
freed_frees before answers own Flush (reply.Freed address) cause freed = absurd cause
freed_frees before answers own Flush _ cause freed = false-true freed

-- what a free takes, or finds damaged, its worker holds, or it was on the board
freeable : (before : State) (answers own : List Answered) (object : ℕ) (act : Act) (answer : Reply) → ReplyCause before answers own act answer → is_free_of object act ≡ true → (is_freed answer ≡ true) ⊎ (is_corrupt answer ≡ true) → IsFreeable before own object
freeable before answers own object (Free other) answer cause mine took =
    let same : other ≡ object = grind (arith, nat_tests, mine) in
    subst (IsFreeable before own) same (by answer cause took)
  where
    by : (answer : Reply) → ReplyCause before answers own (Free other) answer → (is_freed answer ≡ true) ⊎ (is_corrupt answer ≡ true) → IsFreeable before own other
    by (reply.Freed address) cause took = cause.0
    by (reply.Corrupt damage) cause took = cause.0
    by reply.NotHeld cause (inl freed) = false-true freed
    by reply.NotHeld cause (inr bad) = false-true bad
    by _ cause took = absurd cause
freeable before answers own object (Alloc place other) answer cause mine took = false-true mine
freeable before answers own object (Write word other value) answer cause mine took = false-true mine
freeable before answers own object (Read word other) answer cause mine took = false-true mine
freeable before answers own object (Poke other offset byte) answer cause mine took = false-true mine
freeable before answers own object (Trim place) answer cause mine took = false-true mine
freeable before answers own object Flush answer cause mine took = false-true mine

-- ---- tests

and-left : (a b : Bool) → (a && b) ≡ true → a ≡ true
and-left true b e = refl
and-left false b e = e

and-right : (a b : Bool) → (a && b) ≡ true → b ≡ true
and-right true b e = e
and-right false b e = false-true e

and-false : (a b : Bool) → b ≡ false → (a && b) ≡ false
and-false true b e = e
and-false false b e = refl

and-true : (a b : Bool) → b ≡ true → (a && b) ≡ a
and-true true b e = e
and-true false b e = refl

one-of : (a b c d : Bool) → (a || b || (c && d)) ≡ true → (a ≡ true) ⊎ ((b ≡ true) ⊎ (c ≡ true))
one-of true b c d e = inl refl
one-of false true c d e = inr (inl refl)
one-of false false true d e = inr (inr refl)
one-of false false false d e = false-true e

pub at-most : (b : Bool) → one_where b ≤ 1
at-most true = omega arith
at-most false = omega arith

-- a test that one number alone passes
share-one : (p : ℕ → Bool) (n object : ℕ) → object < n → ((i : ℕ) → p i ≡ eqb object i) → upto (λ i. one_where (p i)) n ≡ 1
share-one p n object within is =
    upto_same (λ i. one_where (p i)) (λ i. one_where (eqb object i)) n (λ i below. ap one_where (is i))
    ∙ upto_one (λ i. one_where (eqb object i)) n object within (λ i below other. share_there object i 1 (λ e. other (sym e)))
    ∙ share_here object 1

share-none : (p : ℕ → Bool) (n : ℕ) → ((i : ℕ) → p i ≡ false) → upto (λ i. one_where (p i)) n ≡ 0
share-none p n none = upto_none (λ i. one_where (p i)) n (λ i below. ap one_where (none i))

upto-less : (g h : ℕ → ℕ) (n : ℕ) → ((i : ℕ) → g i ≤ h i) → upto g n ≤ upto h n
upto-less g h zero less = omega arith
upto-less g h (suc n) less = omega (arith, less n, upto-less g h n less)

-- what is the same of each element is so of the sum; `past` are those before
sums-agree : (f g : Answered → ℕ) (all : List Answered) → ((past : List Answered) (one : Answered) (rest : List Answered) → all ≡ past ++ one ∷ rest → f one ≡ g one)
    → (past rest : List Answered) → all ≡ past ++ rest → sum_by f rest ≡ sum_by g rest
sums-agree f g all each past [] parts = refl
sums-agree f g all each past (one ∷ rest) parts =
    omega (arith, each past one rest parts, sums-agree f g all each (past ++ one ∷ []) rest (parts ∙ sym (append_assoc past (one ∷ []) rest)), sum_by-cons f one rest, sum_by-cons g one rest)

-- ---- what is on the board

-- how many objects are held, of all caches
abbrev pub live_in : State → ℕ
live_in s = sum_by (λ count. count) s.live

-- how many numbers have an object
abbrev pub board_size : State → ℕ
board_size s = upto (λ object. on_board object s) (length s.board)

-- the counts are those of the board
pub live_board : (s : State) → IsCoherent s → live_in s ≡ board_size s
live_board s coherent =
    let n = length s.live in
    upto_list (λ (count : ℕ). count) s.live 0
    ∙ upto_same (λ i. get_or s.live i 0) (λ i. sum_by (held_of i) s.board) n (λ i below. coherent.accounted i)
    ∙ upto_sum_by held_of s.board n
    ∙ upto_list (λ x. upto (λ i. held_of i x) n) s.board None
    ∙ upto_same (λ object. upto (λ i. held_of i (get_or s.board object None)) n) (λ object. on_board object s) (length s.board) (λ object below. each object (get_or s.board object None) refl)
  where
    each : (object : ℕ) (x : Option Held) → get_or s.board object None ≡ x → upto (λ i. held_of i x) (length s.live) ≡ one_where (is_some x)
    each object None is = upto_none (λ i. held_of i None) (length s.live) (λ i below. refl)
    each object (Some held) is =
        upto_one (λ i. held_of i (Some held)) (length s.live) held.cache (counted-within s object held is coherent.accounted) (λ i below other. share_there held.cache i 1 (λ e. other (sym e)))
        ∙ share_here held.cache 1

-- ---- the numbers to come

-- no number that is still to be allocated has an object, none stands twice, and each is the machine's
pub record HasRoom (s : State) (coming : List ℕ) : Type 0 where
  pub few : (object : ℕ) → on_board object s + times object coming ≤ 1
  pub within : (object : ℕ) → 0 < times object coming → object < length s.board

-- ---- a round

module _ (before : State) (round : Round) (result : RoundResult) (after : State) (is_round : IsRound before round result after) where
  abbrev answers : List Answered
  answers = zip round.events result.replies

  -- the number was on the board, or is given in the round
  abbrev IsThere : ℕ → Type 0
  IsThere object = IsSome (held_under before object) ⊎ (0 < times_given object answers)

  cause-at : (past : List Answered) (one : Answered) (rest : List Answered) → answers ≡ past ++ one ∷ rest → ReplyCause before answers (of_worker one.0.worker past) one.0.act one.1
  cause-at past one rest parts =
      let worker = one.0.worker in
      let mine : of_worker worker (one ∷ rest) ≡ one ∷ of_worker worker rest = rw (eq-eqb worker worker refl) refl in
      is_round.causes worker (of_worker worker past) one (record {
        later = of_worker worker rest;
        split = ap (of_worker worker) parts ∙ filter-append (is_by worker) past (one ∷ rest) ∙ ap (λ l. of_worker worker past ++ l) mine;
      })

  counts-one : (p : Answered → Bool) (past : List Answered) (one : Answered) (rest : List Answered) → answers ≡ past ++ one ∷ rest → p one ≡ true → 0 < count_by p answers
  counts-one p past one rest parts did =
      omega (arith, ap (count_by p) parts, counted_append p past (one ∷ rest), sum_by-cons (λ one. one_where (p one)) one rest, ap one_where did)

  -- what a worker holds by its answers is there
  abbrev Holds : ℕ → List Answered → Type 0
  Holds object past = (worker : ℕ) → holding object (of_worker worker past) ≡ true → IsThere object

  taken-there : (object : ℕ) (past : List Answered) (one : Answered) (rest : List Answered) → answers ≡ past ++ one ∷ rest → Holds object past → is_free_of object one.0.act ≡ true → (is_freed one.1 ≡ true) ⊎ (is_corrupt one.1 ≡ true) → IsThere object
  taken-there object past one rest parts holds mine took =
      elim (freeable before answers (of_worker one.0.worker past) object one.0.act one.1 (cause-at past one rest parts) mine took) [
        | inl has ↦ holds one.0.worker has
        | inr some ↦ inl some
      ]

  holds-more : (object : ℕ) (past : List Answered) (one : Answered) (rest : List Answered) → answers ≡ past ++ one ∷ rest → Holds object past → Holds object (past ++ one ∷ [])
  holds-more object past one rest parts holds = λ worker has. by worker (is_by worker one) (sym (fold-own (holds_after object) false worker past one) ∙ has)
    where
      own : (worker : ℕ) → (gave object one ≡ true) ⊎ ((found_bad object one ≡ true) ⊎ (holding object (of_worker worker past) ≡ true)) → IsThere object
      own worker (inl did) = inr (counts-one (gave object) past one rest parts did)
      own worker (inr (inl bad)) = taken-there object past one rest parts holds (and-left (is_free_of object one.0.act) (is_corrupt one.1) bad) (inr (and-right (is_free_of object one.0.act) (is_corrupt one.1) bad))
      own worker (inr (inr had)) = holds worker had

      by : (worker : ℕ) (b : Bool) → cond b (holds_after object (holding object (of_worker worker past)) one) (holding object (of_worker worker past)) ≡ true → IsThere object
      by worker true has = own worker (one-of (gave object one) (found_bad object one) (holding object (of_worker worker past)) _ has)
      by worker false had = holds worker had

  freed-there : (object : ℕ) (past rest : List Answered) → answers ≡ past ++ rest → Holds object past → 0 < times_freed object rest → IsThere object
  freed-there object past [] parts holds some = absurd (let never : ⊥ = omega (arith, some) in never)
  freed-there object past (one ∷ rest) parts holds some =
      by (did_free object one) refl
      (freed-there object (past ++ one ∷ []) rest (parts ∙ sym (append_assoc past (one ∷ []) rest)) (holds-more object past one rest parts holds))
    where
      by : (b : Bool) → did_free object one ≡ b → (0 < times_freed object rest → IsThere object) → IsThere object
      by true did later = taken-there object past one rest parts holds (and-left (is_free_of object one.0.act) (is_freed one.1) did) (inl (and-right (is_free_of object one.0.act) (is_freed one.1) did))
      by false kept later = later (omega (arith, some, sum_by-cons (λ one. one_where (did_free object one)) one rest, ap one_where kept))

  -- what is freed was on the board, or is given in the round
  was-there : (object : ℕ) → 0 < times_freed object answers → IsThere object
  was-there object some = freed-there object [] answers refl (λ worker holds. false-true holds) some

  there-counts : (object : ℕ) → IsThere object → 1 ≤ on_board object before + times_given object answers
  there-counts object (inl some) = omega (arith, some-object (held_under before object) some)
  there-counts object (inr given) = omega (arith, given)

  counts-there : (object : ℕ) → 1 ≤ on_board object before + times_given object answers → IsThere object
  counts-there object some = by (held_under before object) refl
    where
      by : (x : Option Held) → held_under before object ≡ x → IsThere object
      by None none = let off : on_board object before ≡ 0 = ap (λ (x : Option Held). one_where (is_some x)) none in inr (omega (arith, some, off))
      by (Some held) there = inl (ap is_some there)

  -- ---- one number

  -- what is freed was on the board, or was given
  pub round-moves : (object : ℕ) → on_board object after + times_freed object answers ≤ on_board object before + times_given object answers
  round-moves object = by (held_under after object) refl (times_freed object answers) refl
    where
      by : (x : Option Held) → held_under after object ≡ x → (n : ℕ) → times_freed object answers ≡ n → on_board object after + times_freed object answers ≤ on_board object before + times_given object answers
      by None none zero freed = let off : on_board object after ≡ 0 = ap (λ (x : Option Held). one_where (is_some x)) none in omega (arith, off, freed)
      by None none (suc n) freed =
          let off : on_board object after ≡ 0 = ap (λ (x : Option Held). one_where (is_some x)) none in
          omega (arith, off, is_round.board.once object, there-counts object (was-there object (omega (arith, freed))))
      by (Some held) there n freed =
          let now = (is_round.board.numbers object).0 (ap is_some there) in
          omega (arith, there-counts object now.0, now.1, at-most (is_some (held_under after object)))

  -- and what was on the board or is given, and is not freed, is on the board after
  stays-there : (object : ℕ) → on_board object before + times_given object answers ≤ 1 → on_board object before + times_given object answers ≤ on_board object after + times_freed object answers
  stays-there object once = by (times_freed object answers) refl (cases_lt 0 (on_board object before + times_given object answers))
    where
      by : (n : ℕ) → times_freed object answers ≡ n → (0 < on_board object before + times_given object answers) ⊎ (on_board object before + times_given object answers ≤ 0) → on_board object before + times_given object answers ≤ on_board object after + times_freed object answers
      by n freed (inr none) = omega (arith, none)
      by zero freed (inl some) =
          let now = (is_round.board.numbers object).1 (counts-there object (omega (arith, some)), freed) in
          omega (arith, some-object (held_under after object) now, once)
      by (suc n) freed (inl some) = omega (arith, freed, once)

  -- ---- all numbers

  given-alone : (past : List Answered) (one : Answered) (rest : List Answered) → answers ≡ past ++ one ∷ rest → HasRoom before (objects_of round.events) → upto (λ object. one_where (gave object one)) (length before.board) ≡ one_where (is_given one.1)
  given-alone past one rest parts room = by (is_given one.1) refl
    where
      by : (b : Bool) → is_given one.1 ≡ b → upto (λ object. one_where (gave object one)) (length before.board) ≡ one_where (is_given one.1)
      by false nothing = share-none (λ object. gave object one) (length before.board) (λ object. and-false (is_alloc_of object one.0.act) (is_given one.1) nothing) ∙ sym (ap one_where nothing)
      by true given =
          let asks = given_allocs before answers (of_worker one.0.worker past) one.0.act one.1 (cause-at past one rest parts) given in
          let object = asks.1 in
          let alone : (i : ℕ) → gave i one ≡ eqb asks.1 i = λ i. and-true (is_alloc_of i one.0.act) (is_given one.1) given ∙ ap (is_alloc_of i) asks.2 in
          let did : gave asks.1 one ≡ true = alone asks.1 ∙ eq-eqb asks.1 asks.1 refl in
          let within : asks.1 < length before.board = room.within asks.1 (omega (arith, counts-one (gave asks.1) past one rest parts did, events_given asks.1 round.events result.replies)) in
          share-one (λ i. gave i one) (length before.board) asks.1 within alone ∙ sym (ap one_where given)

  there-within : (object : ℕ) → HasRoom before (objects_of round.events) → IsThere object → object < length before.board
  there-within object room (inr given) = room.within object (omega (arith, given, events_given object round.events result.replies))
  there-within object room (inl some) = by (held_under before object) refl some
    where
      by : (x : Option Held) → held_under before object ≡ x → is_some x ≡ true → object < length before.board
      by None none some = false-true some
      by (Some held) there some = inside-of before.board object held there

  freed-alone : (past : List Answered) (one : Answered) (rest : List Answered) → answers ≡ past ++ one ∷ rest → HasRoom before (objects_of round.events) → upto (λ object. one_where (did_free object one)) (length before.board) ≡ one_where (is_freed one.1)
  freed-alone past one rest parts room = by (is_freed one.1) refl
    where
      by : (b : Bool) → is_freed one.1 ≡ b → upto (λ object. one_where (did_free object one)) (length before.board) ≡ one_where (is_freed one.1)
      by false nothing = share-none (λ object. did_free object one) (length before.board) (λ object. and-false (is_free_of object one.0.act) (is_freed one.1) nothing) ∙ sym (ap one_where nothing)
      by true freed =
          let asks = freed_frees before answers (of_worker one.0.worker past) one.0.act one.1 (cause-at past one rest parts) freed in
          let alone : (i : ℕ) → did_free i one ≡ eqb asks.0 i = λ i. and-true (is_free_of i one.0.act) (is_freed one.1) freed ∙ ap (is_free_of i) asks.1 in
          let did : did_free asks.0 one ≡ true = alone asks.0 ∙ eq-eqb asks.0 asks.0 refl in
          let within : asks.0 < length before.board = there-within asks.0 room (was-there asks.0 (counts-one (did_free asks.0) past one rest parts did)) in
          share-one (λ i. did_free i one) (length before.board) asks.0 within alone ∙ sym (ap one_where freed)

  all-given : HasRoom before (objects_of round.events) → upto (λ object. times_given object answers) (length before.board) ≡ count_by (λ one. is_given one.1) answers
  all-given room =
      upto_sum_by (λ object one. one_where (gave object one)) answers (length before.board)
      ∙ sums-agree (λ one. upto (λ object. one_where (gave object one)) (length before.board)) (λ one. one_where (is_given one.1)) answers (λ past one rest parts. given-alone past one rest parts room) [] answers refl

  all-freed : HasRoom before (objects_of round.events) → upto (λ object. times_freed object answers) (length before.board) ≡ count_by (λ one. is_freed one.1) answers
  all-freed room =
      upto_sum_by (λ object one. one_where (did_free object one)) answers (length before.board)
      ∙ sums-agree (λ one. upto (λ object. one_where (did_free object one)) (length before.board)) (λ one. one_where (is_freed one.1)) answers (λ past one rest parts. freed-alone past one rest parts room) [] answers refl

  -- ---- ledgers

  abbrev no-ledger : Ledger
  no-ledger = record { given = 0; freed = 0; no_frames = [] }

  module _ (workers : All (λ event. event.worker < round.workers) round.events) where
    answers-within : (events : List Event) (replies : List Reply) → All (λ event. event.worker < round.workers) events → AreWithin round.workers (zip events replies)
    answers-within [] replies sound = tt
    answers-within (event ∷ events) [] sound = tt
    answers-within (event ∷ events) (answer ∷ replies) sound =
        (All-head (λ (event : Event). event.worker < round.workers) event events sound, answers-within events replies (All-tail (λ (event : Event). event.worker < round.workers) event events sound))

    -- what each worker's ledger counts of its answers is counted of all answers in the sum
    all-counted : (p : Reply → Bool) (number : Ledger → ℕ) → ((worker : ℕ) → worker < round.workers → number (get_or result.ledgers worker no-ledger) ≡ count_by (λ one. is_by worker one && p one.1) answers)
        → sum_by number result.ledgers ≡ count_by (λ one. p one.1) answers
    all-counted p number counts =
        let mine = λ (worker : ℕ). count_by (λ (one : Event × Reply). is_by worker one && p one.1) answers in
        let each = is_round.ledgers.each in
        let places = sum_from mine number no-ledger 0 result.ledgers (λ i small. ap mine (let e : 0 + i ≡ i = omega arith in e) ∙ sym (counts i (omega (arith, each, small)))) in
        sym places ∙ ap (λ n. sum_by mine (range_with_len 0 n)) each ∙ by_workers (λ one. p one.1) round.workers answers (answers-within round.events result.replies workers)

    ledgers-given : given_in result.ledgers ≡ count_by (λ one. is_given one.1) answers
    ledgers-given = all-counted is_given (λ ledger. ledger.given) (λ worker small. (is_round.ledgers.counts worker no-ledger small).given)

    ledgers-freed : freed_in result.ledgers ≡ count_by (λ one. is_freed one.1) answers
    ledgers-freed = all-counted is_freed (λ ledger. ledger.freed) (λ worker small. (is_round.ledgers.counts worker no-ledger small).freed)

    -- ---- the whole

    module _ (coming : List ℕ) (room : HasRoom before (objects_of round.events ++ coming)) where
      split : (object : ℕ) → times object (objects_of round.events ++ coming) ≡ times object (objects_of round.events) + times object coming
      split object = times_append object (objects_of round.events) coming

      own-room : HasRoom before (objects_of round.events)
      own-room = record {
        few = λ object. omega (arith, room.few object, split object);
        within = λ object some. room.within object (omega (arith, some, split object));
      }

      -- there is room for what comes after it
      pub room-after : HasRoom after coming
      room-after = record {
        few = λ object. omega (arith, room.few object, split object, round-moves object, events_given object round.events result.replies);
        within = λ object some. omega (arith, room.within object (omega (arith, some, split object)), is_round.objects);
      }

      -- what it gives less what it frees comes on the board
      pub round-balanced : board_size after + freed_in result.ledgers ≡ board_size before + given_in result.ledgers
      round-balanced =
          let n = length before.board in
          let now = upto_both (λ object. on_board object after) (λ object. times_freed object answers) n in
          let was = upto_both (λ object. on_board object before) (λ object. times_given object answers) n in
          let same = upto_same (λ object. on_board object after + times_freed object answers) (λ object. on_board object before + times_given object answers) n (λ object below.
          let once : on_board object before + times_given object answers ≤ 1 = omega (arith, own-room.few object, events_given object round.events result.replies) in
          omega (arith, round-moves object, stays-there object once)) in
          let size : board_size after ≡ upto (λ object. on_board object after) n = ap (upto (λ object. on_board object after)) is_round.objects in
          omega (arith, now, was, same, size, all-given own-room, all-freed own-room, ledgers-given, ledgers-freed)

      -- and it gives no more than it may allocate
      pub round-few : given_in result.ledgers ≤ length (objects_of round.events)
      round-few =
          let n = length before.board in
          let less = upto-less (λ object. times_given object answers) (λ object. times object (objects_of round.events)) n (λ object. events_given object round.events result.replies) in
          let long = upto_times (objects_of round.events) n (λ object past. past-none object past (cases_lt 0 (times object (objects_of round.events)))) in
          omega (arith, less, long, all-given own-room, ledgers-given)
        where
          past-none : (object : ℕ) → length before.board ≤ object → (0 < times object (objects_of round.events)) ⊎ (times object (objects_of round.events) ≤ 0) → times object (objects_of round.events) ≡ 0
          past-none object past (inl some) = absurd (let never : ⊥ = omega (arith, past, own-room.within object some) in never)
          past-none object past (inr none) = omega (arith, none)
