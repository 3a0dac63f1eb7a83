-- The events of a round one after the other, and the whole round.
use Rattle.std.proofs.Common.{◌≡◌, ◌≢◌, ℕ, zero, suc, get_or, Option, Some, None, ◌⊎◌, ◌+◌, ◌<◌, ◌≤◌, cond, eqb, Bool, true, false, List, [], ◌∷◌, ◌++◌, length, map, reverse, All, refl, ap, sym, ◌∙◌, subst, arith, inl, inr, append-nil, append_assoc}
use Rattle.std.specs.Prelude.{filter}
use Rattle.std.specs.List.{AllByRecursion, IsDistinct, range_with_len, zip}
use Rattle.std.specs.Option.{option_and_then}
use Rattle.std.proofs.lemmas.Bool.{cases_eq, cases_lt, eq-eqb, false≢true, ne_eqb}
use Rattle.std.proofs.lemmas.Map.Keys.{IsDistinct-head, IsDistinct-tail}
use Rattle.slub_common.specs.Times.{times}
use Rattle.slub_common.proofs.Times.{times-cons_other, times-cons_same}
use Rattle.std.proofs.lemmas.List.{get_or-map, get_or_past, length-map, reverse-append, reverse-reverse}
use Rattle.std.proofs.lemmas.List.Elements.{All-cons, All-from_get_or, All-nil, All-head, All-tail}
use Rattle.std.proofs.lemmas.List.FromFn.{get_or-map-range_with_len, length-range_with_len}
use Rattle.std.proofs.lemmas.List.Sums.{sum_by-cons}
use Rattle.slub_trace.specs.declared.reply.Reply.{Reply}
use Rattle.slub_trace.specs.Kinds.{is_no_memory}
use Rattle.slub_trace.specs.declared.event.Act.{Act}
use Rattle.slub_trace.specs.declared.event.Act.TheVariants as act
use Rattle.slub_trace.specs.declared.event.Event.{Event}
use Rattle.slub_trace.specs.declared.event.Round.{Round}
use Rattle.slub_trace.specs.declared.trace.Trace.{Trace}
use Rattle.slub_trace.specs.Sound.{AreReadable, IsReadable, IsSoundEvent, objects_of}
use Rattle.slub_lists.specs.declared.lists.Held.{Held}
use Rattle.slub_lists.specs.Coherent.{held_under}
use Rattle.slub_lists.specs.Words.{own as own_held}
use Rattle.slub_cache_create.specs.Table.{Table}
use Rattle.slub_lists.specs.State.{State}
use Rattle.slub_slabinfo_text.specs.Lawful.{RunsEvents, is_by}
use Rattle.slub_core.specs.declared.local.Answered.{Answered}
use Rattle.slub_core.specs.Law.{replies_of}
use Rattle.slub_core.specs.Accounted.{known_of, place_of}
use Rattle.slub_core.specs.Local.{Local, nobody}
use Rattle.slub_core.specs.Run.{System, IsFinished, idle}
use Rattle.slub_core.specs.Steps.{rested, rested_at, rested_with}
use Rattle.slub_core.specs.World.{World}
use Rattle.slub_law_opening.specs.Opening.{Beside, setup_of}
use Rattle.slub_law_opening.specs.Laws.{MayOpen}
use Rattle.slub_calls.specs.Calls.{events_by, numbers_in, room_for, rooms_for, worker_of, workers_of}
use Rattle.slub_calls.specs.Laws.{MayDo}
use Rattle.slub_calls.proofs.Fitting.{may_begin}
use Rattle.slub_law_alone.specs.Alone.{alone, worker_at}
use Rattle.slub_law_alone.specs.Calls.{AllAllocationsAreThoseOfLists, AllFreesAreThoseOfLists}
use Rattle.slub_law_alone.proofs.AnyCall.{all_allocated, all_freed}
use Rattle.slub_law_alone.proofs.DetachFirst.{detached_first}
use Rattle.slub_law_alone.specs.CheckedAlone.{held_known}
use Rattle.slub_law_alone.proofs.Begins.{begins_at_rest}
use Rattle.slub_law_alone.proofs.Workers.{rested_calls}
use Rattle.slub_law_alone.specs.SerialLaws.{RunsAsLists, RoundsInTextAreThoseOfLists, before, begun}
use Rattle.slub_law_alone.specs.OnTheWay.{RoundsInTextAreThoseOfListsOrSpend}
use Rattle.slub_law_alone.proofs.Events.{runs_with_memory_one}
use Rattle.slub_law_alone.specs.Only.{RunsAs, RunsOfListsAreRounds}
use Rattle.slub_law_alone.specs.Serial.{IsMade, IsSameWritten, RunsInText, call_of}
use Rattle.slub_calls.specs.Replies.{replies_by, told_to}
use Rattle.slub_law_alone.proofs.Acts.{alloc_steps, event_of, free_steps, read_steps, write_steps}
use Rattle.slub_law_alone.proofs.SerialAway.{flush_steps, trim_steps}
use Rattle.slub_law_alone.proofs.Knowing.{IsKnown, gone_under, there_is}
use Rattle.slub_law_alone.proofs.Middle.{IsInText, Stepped, grows-more, grows-none, m, same-coherent}
use Rattle.slub_law_alone.proofs.Needs.{Needs, needed}
use Rattle.slub_law_alone.proofs.OneIds.{ids-one, without-ids}
use Rattle.slub_law_alone.proofs.Pokes.{poke_steps}
use Rattle.slub_law_alone.proofs.Scripts.{script-spot, told_after}
use Rattle.slub_law_alone.proofs.Spends.{Spends, later, needed_or_spent}
use Rattle.slub_calls.specs.Events.{RunsWithIds, changes_of, most_changes}

-- ---- what has come to pass

-- the events that are past, the last one first, after these too
abbrev pub since : List Event → List Event → List Event
since past [] = past
since past (event ∷ events) = since (event ∷ past) events

-- what each worker was told, the last reply first, after these events and replies too
abbrev pub told_since : List Event → List Reply → (ℕ → List Reply) → ℕ → List Reply
told_since (event ∷ events) (reply ∷ replies) told = told_since events replies (told_after event reply told)
told_since _ _ told = told

turned : {X : Type 0} (x : X) (xs : List X) → reverse (x ∷ xs) ≡ reverse xs ++ x ∷ []
turned x xs = reverse-append (x ∷ []) xs

since-reverse : (past events : List Event) → since past events ≡ reverse events ++ past
since-reverse past [] = refl
since-reverse past (event ∷ events) =
    since-reverse (event ∷ past) events ∙ sym (ap (λ es. es ++ past) (turned event events) ∙ append_assoc (reverse events) (event ∷ []) past)

changes-since : (table : Table) (past events : List Event) (n : ℕ) → changes_of table (since past events) n ≡ changes_of table past n + changes_of table events n
changes-since table past [] n = let none : changes_of table past n ≡ changes_of table past n + changes_of table [] n = omega arith in none
changes-since table past (event ∷ events) n =
    let later = changes-since table (event ∷ past) events n in
    let now = sum_by-cons (λ (event : Event). most_changes table n event.cpu event.act) event past in
    let more = sum_by-cons (λ (event : Event). most_changes table n event.cpu event.act) event events in
    omega (arith, later, now, more)

told-reverse : (x : ℕ) (events : List Event) (replies : List Reply) (told : ℕ → List Reply) → length replies ≡ length events → told_since events replies told x ≡ reverse (replies_by x (zip events replies)) ++ told x
told-reverse x [] [] told same = refl
told-reverse x [] (reply ∷ replies) told same = absurd (omega (arith, same))
told-reverse x (event ∷ events) [] told same = absurd (omega (arith, same))
told-reverse x (event ∷ events) (reply ∷ replies) told same =
    told-reverse x events replies (told_after event reply told) (omega (arith, same)) ∙ by (eqb event.worker x)
  where
    by : (b : Bool) → reverse (replies_by x (zip events replies)) ++ cond b (reply ∷ told x) (told x) ≡ reverse (map (λ (one : Event × Reply). one.1) (cond b ((event, reply) ∷ filter (is_by x) (zip events replies)) (filter (is_by x) (zip events replies)))) ++ told x
    by true = sym (ap (λ rs. rs ++ told x) (turned reply (replies_by x (zip events replies))) ∙ append_assoc (reverse (replies_by x (zip events replies))) (reply ∷ []) (told x))
    by false = refl

-- a number that no worker of the round has was told nothing
none-by : (x workers : ℕ) (events : List Event) (replies : List Reply) → workers ≤ x → All (λ (event : Event). event.worker < workers) events → replies_by x (zip events replies) ≡ []
none-by x workers [] replies past within = refl
none-by x workers (event ∷ events) [] replies_past within = refl
none-by x workers (event ∷ events) (reply ∷ replies) past within =
    let here = All-head (λ (event : Event). event.worker < workers) event events within in
    let apart : event.worker ≢ x = λ e. absurd (omega (arith, here, e, past)) in
    ap (λ b. map (λ (one : Event × Reply). one.1) (cond b ((event, reply) ∷ filter (is_by x) (zip events replies)) (filter (is_by x) (zip events replies)))) (ne_eqb event.worker x apart)
    ∙ none-by x workers events replies past (All-tail (λ (event : Event). event.worker < workers) event events within)

-- ---- one event after the other

module _ (s0 : State) (b0 : Beside) (round : Round) (opening : World) where
  -- the events to come are made
  pub record Ran (events past : List Event) (told : ℕ → List Reply) (s : State) (d : Beside) (system : System) : Type 0 where
    pub replies : List Reply
    pub after : State
    pub runs : RunsEvents s events replies after
    pub memory : All (λ reply. is_no_memory reply ≡ false) replies
    pub last : System
    pub turns : RunsInText (m s0 b0 round opening) (call_of s0.table round) events system last
    pub each : length replies ≡ length events
    pub given : State
    pub beside : Beside
    pub grows : RunsWithIds s d events replies after beside
    pub ends : IsInText s0 b0 round opening [] (since past events) (told_since events replies told) after given beside last

  and-more : (event : Event) (events past : List Event) (told : ℕ → List Reply) (s : State) (d : Beside) (system : System) (st : Stepped s0 b0 round opening event events past told s d system)
      → Ran events (event ∷ past) (told_after event st.reply told) st.mid st.beside (alone (m s0 b0 round opening) event.worker st.turns system) → Ran (event ∷ events) past told s d system
  and-more event events past told s d system st r = record {
    replies = st.reply ∷ r.replies;
    after = r.after;
    runs = (st.mid, st.answers, same-coherent (event ∷ past) st.mid st.given st.next.same st.next.rest.lists, r.runs);
    memory = All-cons (λ reply. is_no_memory reply ≡ false) st.reply r.replies st.memory r.memory;
    last = r.last;
    turns = (st.turns, st.made, r.turns);
    each = ap suc r.each;
    given = r.given;
    beside = r.beside;
    grows = (st.mid, st.answers, same-coherent (event ∷ past) st.mid st.given st.next.same st.next.rest.lists, subst (λ d. RunsWithIds st.mid d events r.replies r.after r.beside) st.beside_is r.grows);
    ends = r.ends;
  }

-- `Stops`: from this machine, these events to come, the round comes no further on lists
module _ (alloc : AllAllocationsAreThoseOfLists) (free : AllFreesAreThoseOfLists) (s0 : State) (b0 : Beside) (round : Round) (opening : World) (most : ℕ → ℕ) (Stops : List Event → System → Type 0)
    -- each event finds the ids that it needs, or the round stops there
    (ids : (line worker cpu : ℕ) (a : Act) (events past : List Event) (told : ℕ → List Reply) (s t : State) (d : Beside) (system : System) → IsInText s0 b0 round opening (event_of line worker cpu a ∷ events) past told s t d system → worker < round.workers
    → ((n : ℕ) → changes_of s0.table past n + most_changes s0.table n cpu a ≤ most n) → Needs s0.table t d cpu a ⊎ Stops (event_of line worker cpu a ∷ events) system)
    (later : (event : Event) (events : List Event) (system : System) (turns : ℕ) → IsMade (m s0 b0 round opening) system event.worker (call_of s0.table round event) (length (events_by event.worker events)) turns → Stops events (alone (m s0 b0 round opening) event.worker turns system) → Stops (event ∷ events) system) where
  one : (line worker cpu : ℕ) (a : Act) (events past : List Event) (told : ℕ → List Reply) (s t : State) (d : Beside) (system : System) → IsInText s0 b0 round opening (event_of line worker cpu a ∷ events) past told s t d system
      → worker < round.workers → cpu < s0.cpus → IsReadable past (event_of line worker cpu a) a → Needs s0.table t d cpu a → Stepped s0 b0 round opening (event_of line worker cpu a) events past told s d system
  one line worker cpu (act.Alloc place object) events past told s t d system is below cpu_below reads has =
      alloc_steps alloc s0 b0 round opening line worker cpu place object events past told s t d system is below has
  one line worker cpu (act.Free object) events past told s t d system is below cpu_below reads has =
      free_steps free s0 b0 round opening line worker cpu object events past told s t d system is below has
  one line worker cpu (act.Write word object value) events past told s t d system is below cpu_below reads has =
      write_steps s0 b0 round opening line worker cpu object word value events past told s t d system is below
  one line worker cpu (act.Read word object) events past told s t d system is below cpu_below reads has =
      read_steps s0 b0 round opening line worker cpu object word events past told s t d system is below reads
  one line worker cpu (act.Poke object offset byte) events past told s t d system is below cpu_below reads has =
      poke_steps s0 b0 round opening line worker cpu object offset byte events past told s t d system is below
  one line worker cpu (act.Trim place) events past told s t d system is below cpu_below reads has =
      trim_steps s0 b0 round opening line worker cpu place events past told s t d system is below
  one line worker cpu act.Flush events past told s t d system is below cpu_below reads has =
      flush_steps s0 b0 round opening line worker cpu events past told s t d system is below cpu_below

  pub ran : (events past : List Event) (told : ℕ → List Reply) (s t : State) (d : Beside) (system : System) → IsInText s0 b0 round opening events past told s t d system → All (λ (event : Event). event.worker < round.workers) events → All (λ (event : Event). event.cpu < s0.cpus) events
      → AreReadable past events → ((n : ℕ) → changes_of s0.table past n + changes_of s0.table events n ≤ most n) → Ran s0 b0 round opening events past told s d system ⊎ Stops events system
  ran [] past told s t d system is within cpus reads few = inl (record {
    replies = [];
    after = s;
    runs = refl;
    memory = All-nil (λ reply. is_no_memory reply ≡ false);
    last = system;
    turns = refl;
    each = refl;
    given = t;
    beside = d;
    grows = (refl, refl);
    ends = is;
  })
  ran (event ∷ events) past told s t d system is within cpus reads few =
      elim (ids event.line event.worker event.cpu event.act events past told s t d system is worker (λ n. let fits = few n in let more = sum n in omega (arith, fits, more))) [
        | inl has ↦
            let st = one event.line event.worker event.cpu event.act events past told s t d system is worker (All-head (λ (event : Event). event.cpu < s0.cpus) event events cpus) reads.0 has in
            by st
            (ran events (event ∷ past) (told_after event st.reply told) st.mid st.given st.beside (alone (m s0 b0 round opening) event.worker st.turns system) st.next
            (All-tail (λ (event : Event). event.worker < round.workers) event events within) (All-tail (λ (event : Event). event.cpu < s0.cpus) event events cpus) reads.1
            (λ n. let fits = few n in let more = sum n in let here = now n in omega (arith, fits, more, here)))
        | inr stops ↦ inr stops
      ]
    where
      worker : event.worker < round.workers
      worker = All-head (λ (event : Event). event.worker < round.workers) event events within

      sum : (n : ℕ) → changes_of s0.table (event ∷ events) n ≡ most_changes s0.table n event.cpu event.act + changes_of s0.table events n
      sum n = sum_by-cons (λ (event : Event). most_changes s0.table n event.cpu event.act) event events

      now : (n : ℕ) → changes_of s0.table (event ∷ past) n ≡ most_changes s0.table n event.cpu event.act + changes_of s0.table past n
      now n = sum_by-cons (λ (event : Event). most_changes s0.table n event.cpu event.act) event past

      by : (st : Stepped s0 b0 round opening event events past told s d system)
          → Ran s0 b0 round opening events (event ∷ past) (told_after event st.reply told) st.mid st.beside (alone (m s0 b0 round opening) event.worker st.turns system) ⊎ Stops events (alone (m s0 b0 round opening) event.worker st.turns system)
          → Ran s0 b0 round opening (event ∷ events) past told s d system ⊎ Stops (event ∷ events) system
      by st (inl rest) = inl (and-more s0 b0 round opening event events past told s d system st rest)
      by st (inr stops) = inr (later event events system st.turns st.made stops)

-- ---- the end of a round

module _ (s0 : State) (b0 : Beside) (round : Round) (opening : World) (past : List Event) (told : ℕ → List Reply) (s t : State) (d : Beside) (last : System) (ends : IsInText s0 b0 round opening [] past told s t d last) where
  -- no event is to come
  at-end : (i : ℕ) → i < round.workers → ((worker_at last i).todo ≡ []) × (map (λ (d : Answered). d.reply) (worker_at last i).done ≡ told i)
  at-end i below =
      let has = ends.scripts i below in
      let same : worker_at last i ≡ has.base = has.rested_is ∙ ap (rested_at (m s0 b0 round opening) has.base) has.between ∙ ap (λ calls. rested_with (m s0 b0 round opening) calls has.base) has.todo in
      (ap (λ (l : Local). l.todo) same ∙ has.todo, ap (λ (l : Local). map (λ (d : Answered). d.reply) l.done) same ∙ has.told_is)

  all-finished : All IsFinished last.locals
  all-finished = All-from_get_or IsFinished last.locals idle (λ i below.
      let worker : i < round.workers = omega (arith, below, ends.count) in
      record { between = script-spot (m s0 b0 round opening) s0.table round i [] (told i) (worker_at last i) (ends.scripts i worker); none = (at-end i worker).0 })

  told-workers : (worker : ℕ) → worker < round.workers → told_to worker (replies_of last) ≡ reverse (told worker)
  told-workers worker below =
      ap (λ done. reverse (map (λ (d : Answered). d.reply) done)) (get_or-map (λ (l : Local). l.done) last.locals worker idle [] (omega (arith, below, ends.count)))
      ∙ ap reverse (at-end worker below).1

  told-others : (worker : ℕ) → round.workers ≤ worker → told_to worker (replies_of last) ≡ []
  told-others worker past = ap (λ done. reverse (map (λ (d : Answered). d.reply) done)) (get_or_past (map (λ (l : Local). l.done) last.locals) worker [] (omega (arith, past, ends.count, length-map last.locals (λ (l : Local). l.done))))

within : (trace : Trace) (workers : ℕ) (events : List Event) → All (IsSoundEvent trace workers) events → All (λ (event : Event). event.worker < workers) events
within trace workers events good k d below = (good k d below).worker

on-cpus : (trace : Trace) (workers cpus : ℕ) (events : List Event) → cpus ≡ trace.cpus → All (IsSoundEvent trace workers) events → All (λ (event : Event). event.cpu < cpus) events
on-cpus trace workers cpus events same good k d below = let inside = (good k d below).cpu in omega (arith, same, inside)

-- ---- the begin of a round

absent-times : (x : ℕ) (xs : List ℕ) → AllByRecursion (λ y. eqb x y ≡ false) xs → times x xs ≡ 0
absent-times x [] none = refl
absent-times x (y ∷ ys) none = times-cons_other x y ys (λ same. false≢true (sym none.0 ∙ eq-eqb x y (sym same))) ∙ absent-times x ys none.1

once-times : (x : ℕ) (xs : List ℕ) → IsDistinct eqb xs → times x xs ≤ 1
once-times x [] distinct = omega arith
once-times x (y ∷ ys) distinct = elim (cases_eq y x) [
  | inl same ↦
      let none : times x ys ≡ 0 = ap (λ z. times z ys) (sym same) ∙ absent-times y ys (IsDistinct-head eqb y ys distinct) in
      omega (arith, times-cons_same x y ys same, none)
  | inr other ↦ let few = once-times x ys (IsDistinct-tail eqb y ys distinct) in omega (arith, times-cons_other x y ys other, few)
]

-- what is held is not among the numbers that aren't
held-times : (s : State) (o : ℕ) (held : Held) (xs : List ℕ) → held_under s o ≡ Some held → All (λ (x : ℕ). held_under s x ≡ None) xs → times o xs ≡ 0
held-times s o held [] is none = refl
held-times s o held (x ∷ xs) is none =
    times-cons_other o x xs (λ same. let both = sym (All-head (λ (x : ℕ). held_under s x ≡ None) x xs none) ∙ ap (held_under s) same ∙ is in absurd (cc both))
    ∙ held-times s o held xs is (All-tail (λ (x : ℕ). held_under s x ≡ None) x xs none)

-- a room in which nothing is known yet
no-frame : (xs : List ℕ) (i : ℕ) → (get_or (map room_for xs) i nobody).frame ≡ 0
no-frame [] i = refl
no-frame (x ∷ xs) zero = refl
no-frame (x ∷ xs) (suc i) = no-frame xs i

module _ (s : State) (b : Beside) (trace : Trace) (round : Round) (may : MayOpen s b) (does : MayDo s trace round) (forgotten : (object : ℕ) → get_or s.gone object None ≡ None) where
  abbrev first : System
  first = begun s b round

  first-known : (x : ℕ) → x < round.workers → (worker_at first x).known ≡ rooms_for (events_by x round.events)
  first-known x below =
      ap (λ (l : Local). l.known) (get_or-map (rested (setup_of s b)) (workers_of s.table round) x idle idle (omega (arith, below, length-map (range_with_len 0 round.workers) (worker_of s.table round), length-range_with_len 0 round.workers))
      ∙ ap (rested (setup_of s b)) (get_or-map-range_with_len (worker_of s.table round) 0 round.workers x x idle below (omega arith))
      ∙ (rested_calls (setup_of s b) (worker_of s.table round x) refl).same)

  begins-known : IsKnown round.workers round.events s first
  begins-known = record {
    knows = λ x below o free.
        let k = known_of (worker_at first x).known o in
        let ks = rooms_for (events_by x round.events) in
        let none : k.frame ≡ 0 = ap (λ ks. (known_of ks o).frame) (first-known x below) ∙ no-frame (numbers_in (events_by x round.events)) (place_of ks o) in
        ap (option_and_then (own_held x)) (forgotten o) ∙ sym (ap (λ b. cond {A = Option Held} b None (Some (held_known x k))) (eq-eqb k.frame 0 none));
    once = λ o. by o (held_under s o) refl;
  }
    where
      by : (o : ℕ) (h : Option Held) → held_under s o ≡ h → there_is h + there_is (gone_under s o) + times o (objects_of round.events) ≤ 1
      by o None is = let none = ap there_is (forgotten o) in let few = once-times o (objects_of round.events) does.distinct in omega (arith, none, few)
      by o (Some held) is = let none = ap there_is (forgotten o) in let few = held-times s o held (objects_of round.events) is does.unheld in omega (arith, none, few)

begins : (s : State) (b : Beside) (trace : Trace) (round : Round) → MayOpen s b → MayDo s trace round → ((object : ℕ) → get_or s.gone object None ≡ None) → IsInText s b round (before s b round) round.events [] (λ x. []) s s b (begun s b round)
begins s b trace round may does forgotten = record {
  same = record { lists = refl; sized = refl; old = λ o at held under none unchecked inside. refl; words = λ w o at held under its written unchecked inside. refl };
  rest = begins_at_rest s b (workers_of s.table round) may (may_begin s b trace round may does);
  setup = refl;
  table = refl;
  grown = grows-none b;
  known = begins-known s b trace round may does forgotten;
  count = length-map (workers_of s.table round) (rested (setup_of s b)) ∙ length-map (range_with_len 0 round.workers) (worker_of s.table round) ∙ length-range_with_len 0 round.workers;
  scripts = λ x below. record {
    base = worker_of s.table round x;
    rested_is = get_or-map (rested (setup_of s b)) (workers_of s.table round) x idle idle (omega (arith, below, length-map (range_with_len 0 round.workers) (worker_of s.table round), length-range_with_len 0 round.workers))
        ∙ ap (rested (setup_of s b)) (get_or-map-range_with_len (worker_of s.table round) 0 round.workers x x idle below (omega arith));
    between = refl;
    number = refl;
    rooms = refl;
    todo = refl;
    told_is = refl;
  };
}

-- ---- the whole

module _ (s : State) (b : Beside) (round : Round) (inside : All (λ (event : Event). event.worker < round.workers) round.events) (r : Ran s b round (before s b round) round.events [] (λ x. []) s b (begun s b round)) where
  own : (worker : ℕ) → replies_by worker (zip round.events r.replies) ≡ told_to worker (replies_of r.last)
  own worker = elim (cases_lt worker round.workers) [
    | inl below ↦
        sym (told-workers s b round (before s b round) (since [] round.events) (told_since round.events r.replies (λ x. [])) r.after r.given r.beside r.last r.ends worker below
        ∙ ap reverse (told-reverse worker round.events r.replies (λ x. []) r.each ∙ append-nil (reverse (replies_by worker (zip round.events r.replies))))
        ∙ reverse-reverse (replies_by worker (zip round.events r.replies)))
    | inr past ↦
        none-by worker round.workers round.events r.replies past inside
        ∙ sym (told-others s b round (before s b round) (since [] round.events) (told_since round.events r.replies (λ x. [])) r.after r.given r.beside r.last r.ends worker past)
  ]

  as-lists : RunsAsLists s b round
  as-lists = record {
    replies = r.replies;
    after = r.after;
    runs = r.runs;
    memory = r.memory;
    last = r.last;
    turns = r.turns;
    finished = all-finished s b round (before s b round) (since [] round.events) (told_since round.events r.replies (λ x. [])) r.after r.given r.beside r.last r.ends;
    told = record { each = r.each; own = own };
    given = r.given;
    words = subst (λ past. IsSameWritten past r.after r.given) (since-reverse [] round.events ∙ append-nil (reverse round.events)) r.ends.same;
    table = r.ends.table;
    beside = r.beside;
    ids = r.grows;
    grown = grows-more (changes_of s.table (since [] round.events)) (changes_of s.table round.events) b r.beside (λ n. let all = changes-since s.table [] round.events n in omega (arith, all)) r.ends.grown;
    rest = r.ends.rest;
  }

-- where each event finds the ids that it needs, or the round stops there
module _ (s : State) (b : Beside) (trace : Trace) (round : Round) (may : MayOpen s b) (does : MayDo s trace round) (forgotten : (object : ℕ) → get_or s.gone object None ≡ None) (Stops : List Event → System → Type 0)
    (ids : (line worker cpu : ℕ) (a : Act) (events past : List Event) (told : ℕ → List Reply) (mid t : State) (d : Beside) (system : System) → IsInText s b round (before s b round) (event_of line worker cpu a ∷ events) past told mid t d system → worker < round.workers
    → ((n : ℕ) → changes_of s.table past n + most_changes s.table n cpu a ≤ changes_of s.table round.events n) → Needs s.table t d cpu a ⊎ Stops (event_of line worker cpu a ∷ events) system)
    (later : (event : Event) (events : List Event) (system : System) (turns : ℕ) → IsMade (setup_of s b) system event.worker (call_of s.table round event) (length (events_by event.worker events)) turns → Stops events (alone (setup_of s b) event.worker turns system) → Stops (event ∷ events) system) where
  inside : All (λ (event : Event). event.worker < round.workers) round.events
  inside = within trace round.workers round.events does.sound.events

  pub as_lists_or : RunsAsLists s b round ⊎ Stops round.events (begun s b round)
  as_lists_or = elim (ran all_allocated all_freed s b round (before s b round) (changes_of s.table round.events) Stops ids later round.events [] (λ x. []) s s b (begun s b round) (begins s b trace round may does forgotten) inside (on-cpus trace round.workers s.cpus round.events does.cpus does.sound.events) does.sound.readable (λ n. omega arith)) [
    | inl r ↦ inl (as-lists s b round inside r)
    | inr stops ↦ inr stops
  ]

-- the ids before the round are enough
pub rounds : RoundsInTextAreThoseOfLists
rounds s b trace round may does simple = by (as_lists_or s b trace round may does simple.forgotten (λ events system. ⊥)
    (λ line worker cpu a events past told mid t d system is below few. inl (needed s b round (before s b round) (changes_of s.table round.events) simple.ids line worker cpu a events past told mid t d system is below few))
    (λ event events system turns made none. none))
  where
    by : RunsAsLists s b round ⊎ ⊥ → RunsAsLists s b round
    by (inl r) = r
    by (inr none) = absurd none

-- or an id is spent on the way
pub rounds_or_spent : RoundsInTextAreThoseOfListsOrSpend
rounds_or_spent s b trace round may does forgotten = elim (as_lists_or s b trace round may does forgotten (Spends s b round)
    (λ line worker cpu a events past told mid t d system is below few. needed_or_spent detached_first s b round (before s b round) line worker cpu a events past told mid t d system is below)
    (later s b round)) [
      | inl r ↦ inl r
      | inr z ↦ inr (record {
        here = z.here;
        comes = z.comes;
        cache = z.cache;
        cpu = z.cpu;
        cpu_there = z.cpu_there;
        lives = z.lives;
        unchecked = z.unchecked;
        spent = z.spent;
      })
    ]

-- the lists have no other outcome
pub all_rounds : RunsOfListsAreRounds
all_rounds s b trace round replies after left may does simple runs memory = by (rounds s b trace round may does simple)
  where
    by : RunsAsLists s b round → RunsAs s b round replies after left
    by r =
        let same = runs_with_memory_one s round.events r.replies replies r.after after r.memory memory r.runs (without-ids s b round.events replies after left runs) in
        record {
          run = r;
          answered = same.0;
          lists = same.1;
          beside = ids-one s b round.events replies r.after after r.beside left (subst (λ (rs : List Reply). RunsWithIds s b round.events rs r.after r.beside) same.0 r.ids) runs;
        }
