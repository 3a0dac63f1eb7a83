-- The counts of a round over its answers are those over its workers.
use Rattle.std.proofs.Common.{◌≡◌, ℕ, ◌+◌, ◌≤◌, ◌<◌, ◌&&◌, ◌++◌, eqb, Bool, true, false, cond, List, [], ◌∷◌, length, get_or, map, sum_by, refl, sym, ap, subst, ◌∙◌, arith, All, Option, Some, None, is_some, inl, inr, ◌⊎◌}
use Rattle.std.specs.Prelude.{count_by, ◌||◌}
use Rattle.std.specs.Option.{option_map}
use Rattle.std.specs.List.{range_with_len, zip}
use Rattle.std.proofs.lemmas.Bool.{cases_lt, cases_eq, false≢true}
use Rattle.std.proofs.lemmas.List.Elements.{All-get_or}
use Rattle.std.proofs.lemmas.List.FromFn.{get_or-map-range_with_len, length-map-range_with_len}
use Rattle.slub_common.proofs.Sums.{sum_by-map, sum_by-same}
use Rattle.slub_trace.specs.declared.event.Event.{Event}
use Rattle.slub_trace.specs.declared.event.Round.{Round}
use Rattle.slub_trace.specs.declared.reply.Reply.{Reply}
use Rattle.slub_trace.specs.declared.reply.Reply.TheVariants as reply
use Rattle.slub_cache_create.specs.declared.caches.Cache.{Cache}
use Rattle.slub_lists.specs.declared.lists.Held.{Held}
use Rattle.slub_lists.specs.State.{State}
use Rattle.slub_lists.specs.Alloc.{cache_of, named as cache_named}
use Rattle.slub_lists.specs.Coherent.{IsCoherent, held_under}
use Rattle.slub_lists.proofs.Trimming.{place-live}
use Rattle.slub_slabinfo_text.specs.Lawful.{lacks}
use Rattle.slub_core.specs.declared.local.Known.{Known}
use Rattle.slub_core.specs.declared.local.Answered.{Answered as Done}
use Rattle.slub_core.specs.Calls.{call_object}
use Rattle.slub_core.specs.Local.{Local}
use Rattle.slub_core.specs.World.{World, one_if}
use Rattle.slub_core.specs.Accounted.{boarded}
use Rattle.slub_core.specs.Replies as core
use Rattle.slub_core.specs.Round.{freed_over, given_over, held_over, outcome}
use Rattle.slub_schedule.specs.Finished.{knowers}
use Rattle.slub_law_opening.specs.Opening.{Beside, board_word, setup_of}
use Rattle.slub_calls.specs.Calls.{events_by, rooms_for}
use Rattle.slub_law_rounds.specs.Answered.{Answered, did_free, found_bad, gave, holding, of_worker, times_freed, times_given, times_taken}
use Rattle.slub_calls.specs.Replies.{AreReplies}
use Rattle.slub_law_rounds.proofs.Split.{told, back, back-append, done_by, dones-are}
use Rattle.slub_law_rounds.proofs.Meeting.{IsMet, all-met}
use Rattle.slub_law_rounds.proofs.TellingRan.{holding-told, given-told, freed-told}
use Rattle.slub_law_rounds.proofs.Counting.{knows-told, holds-taken, dry-told}
use Rattle.slub_law_rounds.proofs.Sums.{IsBelow, at-most, two-at-most, sum-below, sum-add, shares, none-beyond, count-less}
use Rattle.slub_law_rounds.proofs.Ended.{Ended}

-- ---- one worker, from some of its replies to more

one-at_most : (h : Bool) → one_if h ≤ 1
one-at_most true = omega arith
one-at_most false = omega arith

more-step : (same : Bool) (r : Reply) (h : Bool) (f : ℕ) → one_if h + f ≤ one_if (cond same (core.holds_after r h) h) + (one_if (core.is_freed r && same) + f)
more-step true (reply.Given a) h f = let few = one-at_most h in omega (arith, few)
more-step false (reply.Given a) h f = omega arith
more-step true (reply.Freed a) h f = let few = one-at_most h in omega (arith, few)
more-step false (reply.Freed a) h f = omega arith
more-step true (reply.Corrupt d) h f = let few = one-at_most h in omega (arith, few)
more-step false (reply.Corrupt d) h f = omega arith
more-step true r h f = omega arith
more-step false r h f = omega arith

-- holding an object and having freed it are no less later
more-back : (s : State) (rooms : List Known) (o : ℕ) (own : List Answered) (ds : List Done)
    → one_if (core.holding ds o) + core.freed_in o ds ≤ one_if (core.holding (back s.table rooms own ds) o) + core.freed_in o (back s.table rooms own ds)
more-back s rooms o [] ds = omega arith
more-back s rooms o (one ∷ own) ds =
    let d = told s.table rooms one in
    omega (arith, more-step (eqb (call_object d.call) o) d.reply (core.holding ds o) (core.freed_in o ds), more-back s rooms o own (d ∷ ds))

some-of : {A : Type 0} (x : Option A) → is_some x ≡ true → (y : A) × (x ≡ Some y)
some-of None none = absurd (false≢true none)
some-of (Some y) some = (y, refl)

freed-taken : (o : ℕ) (answers : List Answered) → times_freed o answers ≤ times_taken o answers
freed-taken o answers = count-less (did_free o) (λ one. did_free o one || found_bad o one) answers (λ one. by (did_free o one) (found_bad o one))
  where
    by : (b c : Bool) → b ≡ true → (b || c) ≡ true
    by true c is = refl
    by false c is = absurd (false≢true is)

-- ---- a round that has ended

module _ (s : State) (b : Beside) (round : Round) (replies : List Reply) (opening w : World) (ls : List Local) (lists : State) (ended : Ended s b round opening w ls lists) (are : AreReplies round.events (map (λ (l : Local). l.done) ls) replies)
    (within : All (λ (event : Event). event.worker < round.workers) round.events) (below : All (IsBelow round.workers) (zip round.events replies)) (coherent : IsCoherent s) where
  abbrev answers : List Answered
  answers = zip round.events replies

  abbrev dones : List (List Done)
  dones = map (λ (l : Local). l.done) ls

  abbrev rooms : ℕ → List Known
  rooms k = rooms_for (events_by k round.events)

  abbrev pub its_done : ℕ → List Done
  its_done k = done_by s.table round.events replies k

  abbrev workers : List ℕ
  workers = range_with_len 0 round.workers

  pub dones-by : dones ≡ map its_done workers
  dones-by = dones-are s.table round replies dones ended.law.replies are

  over : (f : List Done → ℕ) → sum_by f dones ≡ sum_by (λ k. f (its_done k)) workers
  over f = ap (sum_by f) dones-by ∙ sum_by-map f its_done workers

  pub done-at : (k : ℕ) → k < round.workers → get_or dones k [] ≡ its_done k
  done-at k inside = ap (λ (xs : List (List Done)). get_or xs k []) dones-by ∙ get_or-map-range_with_len its_done 0 round.workers k k [] inside (omega arith)

  pub many : length dones ≡ round.workers
  many = ap length dones-by ∙ length-map-range_with_len its_done 0 round.workers

  pub caused-by : (k : ℕ) → core.Caused (setup_of s b) opening.board (outcome w dones) (its_done k)
  caused-by k = elim (cases_lt k round.workers) [
    | inl inside ↦ subst (core.Caused (setup_of s b) opening.board (outcome w dones)) (done-at k inside) (All-get_or (core.Caused (setup_of s b) opening.board (outcome w dones)) dones k [] (omega (arith, inside, many)) ended.law.causes)
    | inr past ↦ subst (λ own. core.Caused (setup_of s b) opening.board (outcome w dones) (back s.table (rooms k) own [])) (sym (none-beyond round.workers k answers below past)) tt
  ]

  pub met-by : (k : ℕ) → All (IsMet s.table) (of_worker k answers)
  met-by k = all-met s.table (rooms k) (setup_of s b) opening.board (outcome w dones) (of_worker k answers) [] (caused-by k)

  -- ---- counts

  pub given-is : (o : ℕ) → given_over o dones ≡ times_given o answers
  given-is o = over (core.given_in o) ∙ sum_by-same (λ k. core.given_in o (its_done k)) (λ k. times_given o (of_worker k answers)) workers (λ k. given-told s.table (rooms k) o (of_worker k answers) (met-by k)) ∙ shares (gave o) answers round.workers below

  pub freed-is : (o : ℕ) → freed_over o dones ≡ times_freed o answers
  freed-is o =
      over (core.freed_in o)
      ∙ sum_by-same (λ k. core.freed_in o (its_done k)) (λ k. times_freed o (of_worker k answers)) workers (λ k. let all = freed-told s.table (rooms k) o (of_worker k answers) [] (met-by k) in omega (arith, all))
      ∙ shares (did_free o) answers round.workers below

  lives : (k place : ℕ) → cache_named s place ≡ Some k → (live : Cache) × (cache_of s k ≡ Some live)
  lives k place is = some-of (cache_of s k) (place-live s place k coherent.shaped is)

  pub dry-is : (order : ℕ) → sum_by (core.dry_in (setup_of s b) order) dones ≡ count_by (lacks s order) answers
  dry-is order =
      over (core.dry_in (setup_of s b) order)
      ∙ sum_by-same (λ k. core.dry_in (setup_of s b) order (its_done k)) (λ k. count_by (lacks s order) (of_worker k answers)) workers (λ k. dry-told s b (rooms k) order lives (of_worker k answers) (met-by k))
      ∙ shares (lacks s order) answers round.workers below

  -- a worker that holds an object was given it or took it
  held-few : (o : ℕ) → held_over o dones ≤ times_given o answers + times_taken o answers
  held-few o =
      let each = sum-below (λ k. one_if (core.holding (its_done k) o)) (λ k. times_given o (of_worker k answers) + times_taken o (of_worker k answers)) workers (λ k. by k (holding o (of_worker k answers)) refl) in
      let two = sum-add (λ k. times_given o (of_worker k answers)) (λ k. times_taken o (of_worker k answers)) workers in
      omega (arith, over (λ (ds : List Done). one_if (core.holding ds o)), each, two, shares (gave o) answers round.workers below, shares (λ one. did_free o one || found_bad o one) answers round.workers below)
    where
      by : (k : ℕ) (h : Bool) → holding o (of_worker k answers) ≡ h → one_if (core.holding (its_done k) o) ≤ times_given o (of_worker k answers) + times_taken o (of_worker k answers)
      by k false is =
          let not_held : one_if (core.holding (its_done k) o) ≡ 0 = ap one_if (sym (holding-told s.table (rooms k) o (of_worker k answers) (met-by k)) ∙ is) in omega (arith, not_held)
      by k true is = elim (holds-taken o (of_worker k answers) false is) [
        | inl never ↦ absurd (false≢true never)
        | inr some ↦ (let few = one-at_most (core.holding (its_done k) o) in omega (arith, some, few))
      ]

  -- a number that is gone from the board was taken
  pub gone : (o : ℕ) → boarded (w.board o) ≡ 0 → (held_under s o ≡ None) ⊎ (0 < times_taken o answers)
  gone o off = by (held_under s o) refl
    where
      by : (x : Option Held) → held_under s o ≡ x → (held_under s o ≡ None) ⊎ (0 < times_taken o answers)
      by None is = inl is
      by (Some held) is =
          let on : boarded (opening.board o) ≡ 1 = ap boarded (ended.board o) ∙ ap (λ x. boarded (option_map board_word x)) is in
          inr (omega (arith, on, off, ended.law.count o, ended.law.once o, given-is o, freed-is o, held-few o, freed-taken o answers))

  -- what a worker holds it never freed
  pub kept-by : (k : ℕ) (own more : List Answered) (o : ℕ) → k < round.workers → of_worker k answers ≡ own ++ more → core.holding (back s.table (rooms k) own []) o ≡ true → core.freed_in o (back s.table (rooms k) own []) ≡ 0
  kept-by k own more o inside split holds =
      let done : its_done k ≡ back s.table (rooms k) more (back s.table (rooms k) own []) = ap (λ xs. back s.table (rooms k) xs []) split ∙ back-append s.table (rooms k) own more [] in
      let here : one_if (core.holding (back s.table (rooms k) own []) o) ≡ 1 = ap one_if holds in
      let more_so = more-back s (rooms k) o more (back s.table (rooms k) own []) in
      let last : one_if (core.holding (get_or dones k []) o) + core.freed_in o (get_or dones k []) ≡ one_if (core.holding (back s.table (rooms k) more (back s.table (rooms k) own [])) o) + core.freed_in o (back s.table (rooms k) more (back s.table (rooms k) own []))
      = ap (λ ds. one_if (core.holding ds o) + core.freed_in o ds) (done-at k inside ∙ done) in
      let mine = at-most (λ (ds : List Done). one_if (core.holding ds o) + core.freed_in o ds) dones k [] (omega (arith, inside, many)) in
      let all = sum-add (λ (ds : List Done). one_if (core.holding ds o)) (core.freed_in o) dones in
      omega (arith, here, more_so, last, mine, all, ended.law.count o, ended.law.once o)

  -- ---- one worker alone takes an object

  took-inside : (o k : ℕ) → 0 < times_taken o (of_worker k answers) → k < round.workers
  took-inside o k some = elim (cases_lt k round.workers) [
    | inl inside ↦ inside
    | inr past ↦ absurd (let none : times_taken o (of_worker k answers) ≡ times_taken o [] = ap (times_taken o) (none-beyond round.workers k answers below past) in let zero_taken : times_taken o [] ≡ 0 = refl in omega (arith, some, none, zero_taken))
  ]

  pub one-taker : (o one other : ℕ) → 0 < times_taken o (of_worker one answers) → 0 < times_taken o (of_worker other answers) → one ≡ other
  one-taker o one other first second = elim (cases_eq one other) [
    | inl same ↦ same
    | inr differ ↦ absurd (
        let here = took-inside o one first in
        let there = took-inside o other second in
        let know : (k : ℕ) → k < round.workers → 0 < times_taken o (of_worker k answers) → one_if (core.knows (get_or dones k []) o) ≡ 1 = λ k inside some.
        ap (λ ds. one_if (core.knows ds o)) (done-at k inside) ∙ ap one_if (knows-told s.table (rooms k) o (of_worker k answers) (met-by k) some) in
        let two = two-at-most (λ (ds : List Done). one_if (core.knows ds o)) dones one other [] differ (omega (arith, here, many)) (omega (arith, there, many)) in
        let all : sum_by (λ (ds : List Done). one_if (core.knows ds o)) dones ≡ knowers o ls = sum_by-map (λ (ds : List Done). one_if (core.knows ds o)) (λ (l : Local). l.done) ls in
        omega (arith, two, all, know one here first, know other there second, ended.counted.kept.one_worker o))
  ]
