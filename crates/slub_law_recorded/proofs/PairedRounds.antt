-- A lawful round of a paired trace: each free is done, the board has what was given and not freed, and ledgers count all events.
use Rattle.std.proofs.Common.{◌≡◌, ℕ, ◌+◌, ◌<◌, ◌≤◌, ◌&&◌, ◌||◌, Bool, true, false, cond, eqb, List, [], ◌∷◌, ◌++◌, count_by, get_or, length, sum_by, is_some, refl, sym, ◌∙◌, ap, subst, arith, All, Contains, None, IsSome, IfSome, inl, inr, ◌⊎◌}
use Rattle.std.specs.List.{range_with_len, zip}
use Rattle.std.proofs.lemmas.Bool.{eq-eqb, false≢true}
use Rattle.std.proofs.lemmas.List.{map-append}
use Rattle.std.proofs.lemmas.List.Elements.{All-filter, All-head, All-tail, filter-append, filter_map-append}
use Rattle.std.proofs.lemmas.List.Sums.{sum_by-cons}
use Rattle.slub_common.specs.Times.{times}
use Rattle.slub_common.proofs.Times.{times-append, times-cons_same, times-contained}
use Rattle.slub_calls.specs.Calls.{events_by}
use Rattle.slub_trace.specs.declared.event.Act.{Act}
use Rattle.slub_trace.specs.declared.event.Act.TheVariants.{Free}
use Rattle.slub_trace.specs.declared.event.Event.{Event}
use Rattle.slub_trace.specs.declared.event.Round.{Round}
use Rattle.slub_trace.specs.declared.ledger.Ledger.{Ledger}
use Rattle.slub_trace.specs.declared.reply.Reply.{Reply}
use Rattle.slub_trace.specs.declared.reply.Reply.TheVariants as reply
use Rattle.slub_trace.specs.Kinds.{is_freed, is_given}
use Rattle.slub_trace.specs.Sound.{objects_of}
use Rattle.slub_lists.specs.State.{State}
use Rattle.slub_lists.specs.Coherent.{held_under}
use Rattle.slub_slabinfo_text.specs.declared.journal.RoundResult.{RoundResult}
use Rattle.slub_slabinfo_text.specs.Lawful.{freed_in, given_in, is_by}
use Rattle.slub_slabinfo_text.proofs.Numbers.{sum_from}
use Rattle.slub_law_rounds.specs.Answered.{Answered, did_free, found_bad, gave, holding, is_corrupt, of_worker, times_taken}
use Rattle.slub_law_rounds.specs.Round.{ReplyCause, IsRound}
use Rattle.slub_law_rounds.proofs.Times.{counted_append}
use Rattle.slub_law_replay.proofs.Tally.{AreWithin, by_workers}
use Rattle.slub_law_recorded.specs.Paired.{IsPairingAct, freed, freed_of}
use Rattle.slub_law_recorded.specs.Replay.{IsAmple, IsFreed}
use Rattle.slub_law_recorded.proofs.Parts.{all-back, all-by, all-front, asked, asked-all, asked-by, count-sifted, zip-all}
use Rattle.slub_law_recorded.proofs.Tallies.{all-told, frees-freed, frees-taken, gift-held, gifts}

-- no free was told of a damage
abbrev pub IsUnharmed : Answered → Type 0
IsUnharmed one = (object : ℕ) → one.0.act ≡ Free object → is_corrupt one.1 ≡ false

-- what events free, in two parts
pub freed-append : (object : ℕ) (xs ys : List Event) → times object (freed_of (xs ++ ys)) ≡ times object (freed_of xs) + times object (freed_of ys)
freed-append object xs ys = ap (times object) (filter_map-append (λ (event : Event). freed event.act) xs ys) ∙ times-append object (freed_of xs) (freed_of ys)

-- one event that frees the object
pub freed-one : (object : ℕ) (event : Event) (events : List Event) → event.act ≡ Free object → times object (freed_of (event ∷ events)) ≡ 1 + times object (freed_of events)
freed-one object event events is =
    let step : freed_of (event ∷ events) ≡ object ∷ freed_of events = rw is refl in
    ap (times object) step ∙ times-cons_same object object (freed_of events) refl

module _ (before : State) (round : Round) (result : RoundResult) (after : State) (is_round : IsRound before round result after)
    (pairing : All (λ (event : Event). IsPairingAct event.act) round.events)
    (ample : All IsAmple (zip round.events result.replies))
    (unharmed : All IsUnharmed (zip round.events result.replies))
    (once : (object : ℕ) → times object (freed_of round.events) ≤ 1)
    (there : (earlier : List Event) (event : Event) (later : List Event) (object : ℕ) → round.events ≡ earlier ++ event ∷ later → event.act ≡ Free object → Contains (objects_of (events_by event.worker earlier)) object ⊎ IsSome (held_under before object)) where
  abbrev answers : List Answered
  answers = zip round.events result.replies

  all-asked : asked answers ≡ round.events
  all-asked = asked-all round.events result.replies is_round.replies

  -- ---- a free

  module _ (past : List Answered) (one : Answered) (rest : List Answered) (parts : answers ≡ past ++ one ∷ rest) where
    cause-at : ReplyCause before answers (of_worker one.0.worker past) one.0.act one.1
    cause-at =
        let worker = one.0.worker in
        let mine : of_worker worker (one ∷ rest) ≡ one ∷ of_worker worker rest = rw (eq-eqb worker worker refl) refl in
        is_round.causes worker (of_worker worker past) one (record {
          later = of_worker worker rest;
          split = ap (of_worker worker) parts ∙ filter-append (is_by worker) past (one ∷ rest) ∙ ap (λ l. of_worker worker past ++ l) mine;
        })

    split : round.events ≡ asked past ++ one.0 ∷ asked rest
    split = sym all-asked ∙ ap asked parts ∙ map-append (λ (one : Answered). one.0) past (one ∷ rest)

    ample-past : All IsAmple past
    ample-past = all-front IsAmple past (one ∷ rest) (subst (All IsAmple) parts ample)

    unharmed-one : IsUnharmed one
    unharmed-one = All-head IsUnharmed one rest (all-back IsUnharmed past (one ∷ rest) (subst (All IsUnharmed) parts unharmed))

    module _ (object : ℕ) (frees : one.0.act ≡ Free object) where
      -- no other event frees the object
      alone : times object (freed_of (asked past)) + times object (freed_of (asked rest)) ≡ 0
      alone = omega (arith, once object, ap (λ (events : List Event). times object (freed_of events)) split, freed-append object (asked past) (one.0 ∷ asked rest), freed-one object one.0 (asked rest) frees)

      -- so where this one doesn't, it wasn't taken
      untaken : one.1 ≡ reply.NotHeld → times_taken object answers ≡ 0
      untaken none =
          let nothing : ◌≡◌ {A = ℕ} (cond (did_free object one || found_bad object one) 1 0) 0 = rw (frees, none) (nothing-of (eqb object object)) in
          omega (arith, ap (times_taken object) parts, counted_append (λ one. did_free object one || found_bad object one) past (one ∷ rest), sum_by-cons (λ (one : Answered). cond (did_free object one || found_bad object one) 1 0) one rest, nothing, frees-taken object past, frees-taken object rest, alone)
        where
          nothing-of : (b : Bool) → ◌≡◌ {A = ℕ} (cond ((b && false) || (b && false)) 1 0) 0
          nothing-of true = refl
          nothing-of false = refl

      -- what the worker allocated it holds
      own-held : Contains (objects_of (events_by one.0.worker (asked past))) object → holding object (of_worker one.0.worker past) ≡ true
      own-held found =
          let worker = one.0.worker in
          let own = of_worker worker past in
          let some : 0 < times object (objects_of (asked own)) = subst (λ (events : List Event). 0 < times object (objects_of events)) (asked-by worker past) (times-contained object (objects_of (events_by worker (asked past))) found) in
          let given : 0 < count_by (gave object) own = omega (arith, some, gifts object own (All-filter (is_by worker) IsAmple past ample-past)) in
          let kept : count_by (did_free object) own ≡ 0 = omega (arith, count-sifted (did_free object) (is_by worker) past, frees-freed object past, alone) in
          gift-held object false own kept (inr given)

      -- it isn't told that the object isn't held
      held : one.1 ≡ reply.NotHeld → (holding object (of_worker one.0.worker past) ≡ false) × ((held_under before object ≡ None) ⊎ (0 < times_taken object answers)) → ⊥
      held none cause = elim (there (asked past) one.0 (asked rest) object split frees) [
        | inl own ↦ false≢true (sym cause.0 ∙ own-held own)
        | inr some ↦ elim cause.1 [
          | inl bare ↦ false≢true (sym (ap is_some bare) ∙ some)
          | inr taken ↦ (let never : ⊥ = omega (arith, taken, untaken none) in never)
        ]
      ]

      done : is_freed one.1 ≡ true
      done = by one.1 refl (subst (λ act. ReplyCause before answers (of_worker one.0.worker past) act one.1) frees cause-at)
        where
          by : (answer : Reply) → one.1 ≡ answer → ReplyCause before answers (of_worker one.0.worker past) (Free object) answer → is_freed answer ≡ true
          by (reply.Freed address) is cause = refl
          by (reply.Corrupt damage) is cause = absurd (false≢true (sym (unharmed-one object frees) ∙ ap is_corrupt is))
          by reply.NotHeld is cause = absurd (held is cause)
          by _ is cause = absurd cause

    is-freed : IsFreed one
    is-freed = by one.0.act refl
      where
        by : (act : Act) → one.0.act ≡ act → IfSome (freed act) (λ object. is_freed one.1 ≡ true)
        by (Free object) is = done object is
        by _ is = tt

  -- each free is done
  pub round-freed : All IsFreed answers
  round-freed = all-by IsFreed answers is-freed [] answers refl

  -- ---- the board

  -- what was there or is allocated, and isn't freed, is there after it
  pub round-board : (object : ℕ) → IsSome (held_under before object) ⊎ (0 < times object (objects_of round.events)) → times object (freed_of round.events) ≡ 0 → IsSome (held_under after object)
  round-board object had kept =
      (is_round.board.numbers object).1 (
        elim had [
          | inl some ↦ inl some
          | inr comes ↦ inr (omega (arith, comes, gifts object answers ample, ap (λ (events : List Event). times object (objects_of events)) all-asked))
        ],
        omega (arith, kept, frees-freed object answers, ap (λ (events : List Event). times object (freed_of events)) all-asked),
      )

  -- ---- ledgers

  abbrev no-ledger : Ledger
  no-ledger = record { given = 0; freed = 0; no_frames = [] }

  module _ (workers : All (λ (event : Event). event.worker < round.workers) round.events) where
    answers-within : (events : List Event) (replies : List Reply) → All (λ (event : Event). event.worker < round.workers) events → AreWithin round.workers (zip events replies)
    answers-within [] replies sound = tt
    answers-within (event ∷ events) [] sound = tt
    answers-within (event ∷ events) (answer ∷ replies) sound =
        (All-head (λ (event : Event). event.worker < round.workers) event events sound, answers-within events replies (All-tail (λ (event : Event). event.worker < round.workers) event events sound))

    -- what each worker's ledger counts of its answers is counted of all answers in the sum
    all-counted : (p : Reply → Bool) (number : Ledger → ℕ) → ((worker : ℕ) → worker < round.workers → number (get_or result.ledgers worker no-ledger) ≡ count_by (λ one. is_by worker one && p one.1) answers)
        → sum_by number result.ledgers ≡ count_by (λ one. p one.1) answers
    all-counted p number counts =
        let mine = λ (worker : ℕ). count_by (λ (one : Event × Reply). is_by worker one && p one.1) answers in
        let each = is_round.ledgers.each in
        let places = sum_from mine number no-ledger 0 result.ledgers (λ i small. ap mine (let e : 0 + i ≡ i = omega arith in e) ∙ sym (counts i (omega (arith, each, small)))) in
        sym places ∙ ap (λ n. sum_by mine (range_with_len 0 n)) each ∙ by_workers (λ one. p one.1) round.workers answers (answers-within round.events result.replies workers)

    told : (count_by (λ one. is_given one.1) answers ≡ length (objects_of (asked answers))) × (count_by (λ one. is_freed one.1) answers ≡ length (freed_of (asked answers)))
    told = all-told answers (zip-all (λ (event : Event). IsPairingAct event.act) round.events result.replies pairing) ample round-freed

    pub round-given : given_in result.ledgers ≡ length (objects_of round.events)
    round-given =
        all-counted is_given (λ ledger. ledger.given) (λ worker small. (is_round.ledgers.counts worker no-ledger small).given)
        ∙ told.0 ∙ ap (λ (events : List Event). length (objects_of events)) all-asked

    pub round-freed_count : freed_in result.ledgers ≡ length (freed_of round.events)
    round-freed_count =
        all-counted is_freed (λ ledger. ledger.freed) (λ worker small. (is_round.ledgers.counts worker no-ledger small).freed)
        ∙ told.1 ∙ ap (λ (events : List Event). length (freed_of events)) all-asked
