-- The workers of a round that can be done may begin.
use Rattle.std.proofs.Common.{◌≡◌, ℕ, ◌+◌, ◌<◌, ◌≤◌, Bool, true, false, ◌||◌, cond, List, [], ◌∷◌, length, map, sum_by, refl, sym, ◌∙◌, ap, subst, arith, eqb, All, Option, Some, None, IfSome, IsSome, is_some}
use Rattle.std.proofs.lemmas.Bool.{false≢true}
use Rattle.std.proofs.lemmas.Bool.Decides.{nat_tests}
use Rattle.std.specs.List.{AllByRecursion, IsDistinct, cons_option, filter_map, list_any, range_with_len}
use Rattle.std.specs.Map.{lookup}
use Rattle.std.specs.Option.{option_map}
use Rattle.std.specs.Str.{bytes_eq}
use Rattle.std.proofs.lemmas.List.Elements.{All-cons, All-filter, All-head, All-map, All-nil, All-tail}
use Rattle.std.proofs.lemmas.Map.Keys.{IsDistinct-head, IsDistinct-tail}
use Rattle.std.proofs.lemmas.Option.{none-some}
use Rattle.std.proofs.lemmas.List.{length-map}
use Rattle.std.proofs.lemmas.List.Sums.{sum_by-cons}
use Rattle.slub_common.specs.Times.{times}
use Rattle.slub_common.proofs.Times.{times-cons, times-cons_other, times-cons_same}
use Rattle.slub_common.proofs.Sums.{sum_by-map, sum_by-same}
use Rattle.slub_trace.specs.declared.event.Act.{Act}
use Rattle.slub_trace.specs.declared.event.Act.TheVariants as act
use Rattle.slub_trace.specs.declared.event.Event.{Event}
use Rattle.slub_trace.specs.declared.event.Round.{Round}
use Rattle.slub_cache_create.specs.Table.{Table, cache_of, name_at}
use Rattle.slub_cache_create.specs.declared.caches.Cache.{Cache}
use Rattle.slub_cache_create.specs.Sound.{IsSound}
use Rattle.slub_trace.specs.declared.trace.Trace.{Trace}
use Rattle.slub_trace.specs.Sound.{AreReadable, IsSoundAct, IsSoundEvent, allocated, objects_of}
use Rattle.slub_lists.specs.declared.lists.Held.{Held}
use Rattle.slub_lists.specs.State.{State}
use Rattle.slub_lists.specs.Coherent.{held_under}
use Rattle.slub_core.specs.declared.call.Call.{Call}
use Rattle.slub_core.specs.declared.local.Known.{Known}
use Rattle.slub_core.specs.Accounted.{CallFits, boarded}
use Rattle.slub_core.specs.Local.{Local}
use Rattle.slub_core.specs.Opening.{IsNew, IsRoom}
use Rattle.slub_core.specs.Replies.{asked_in}
use Rattle.slub_law_opening.specs.Opening.{Beside, board_word, setup_of}
use Rattle.slub_law_opening.specs.Laws.{MayOpen}
use Rattle.slub_calls.specs.Calls.{cache_named, call_for, calls_for, events_by, numbers_in, object_named, room_for, rooms_for, worker_of, workers_of}
use Rattle.slub_calls.specs.Laws.{RoundsMayBegin, WorkersAreNumbered}
use Rattle.slub_calls.proofs.Numbers.{comes_all, distinct_all, each_all, place_inside, rooms}
use Rattle.slub_calls.proofs.Reading.{readable}
use Rattle.slub_calls.proofs.Shares.{shares}

-- ---- how often a number is allocated

abbrev allocates : ℕ → Act → ℕ
allocates o (act.Alloc place x) = cond (eqb x o) 1 0
allocates o _ = 0

asks_as : (table : Table) (ks : List Known) (o : ℕ) (events : List Event) → asked_in o (calls_for table ks events) ≡ sum_by (λ (e : Event). allocates o e.act) events
asks_as table ks o [] = refl
asks_as table ks o (event ∷ events) =
    one event.cpu event.act (calls_for table ks events) ∙ omega (arith, asks_as table ks o events, sum_by-cons (λ (e : Event). allocates o e.act) event events)
  where
    one : (cpu : ℕ) (a : Act) (cs : List Call) → asked_in o (call_for table ks cpu a ∷ cs) ≡ allocates o a + asked_in o cs
    one cpu (act.Alloc place x) cs = refl
    one cpu (act.Free x) cs = refl
    one cpu (act.Write at x value) cs = refl
    one cpu (act.Read at x) cs = refl
    one cpu (act.Poke x offset byte) cs = refl
    one cpu (act.Trim place) cs = refl
    one cpu act.Flush cs = refl

objects_as : (o : ℕ) (events : List Event) → times o (objects_of events) ≡ sum_by (λ (e : Event). allocates o e.act) events
objects_as o [] = refl
objects_as o (event ∷ events) = one event.act ∙ omega (arith, objects_as o events, sum_by-cons (λ (e : Event). allocates o e.act) event events)
  where
    zero_add : (n : ℕ) → n ≡ 0 + n
    zero_add n = omega arith

    one : (a : Act) → times o (cons_option (allocated a) (objects_of events)) ≡ allocates o a + times o (objects_of events)
    one (act.Alloc place x) = times-cons o x (objects_of events)
    one (act.Free x) = zero_add (times o (objects_of events))
    one (act.Write at x value) = zero_add (times o (objects_of events))
    one (act.Read at x) = zero_add (times o (objects_of events))
    one (act.Poke x offset byte) = zero_add (times o (objects_of events))
    one (act.Trim place) = zero_add (times o (objects_of events))
    one act.Flush = zero_add (times o (objects_of events))

-- no number stands twice among distinct ones
absent_times : (x : ℕ) (xs : List ℕ) → AllByRecursion (λ y. eqb x y ≡ false) xs → times x xs ≡ 0
absent_times x [] none = refl
absent_times x (y ∷ ys) none =
    let other : y ≡ x → ⊥ = λ same. let differs = none.0 in grind (arith, nat_tests, same, differs) in
    times-cons_other x y ys other ∙ absent_times x ys none.1

once_times : (x : ℕ) (xs : List ℕ) → IsDistinct eqb xs → times x xs ≤ 1
once_times x [] distinct = omega arith
once_times x (y ∷ ys) distinct = by (eqb y x) refl (once_times x ys (IsDistinct-tail eqb y ys distinct))
  where
    by : (b : Bool) → eqb y x ≡ b → times x ys ≤ 1 → times x (y ∷ ys) ≤ 1
    by true is few =
        let same : y ≡ x = grind (arith, nat_tests, is) in
        let none : times x ys ≡ 0 = ap (λ z. times z ys) (sym same) ∙ absent_times y ys (IsDistinct-head eqb y ys distinct) in
        omega (arith, times-cons_same x y ys same, none)
    by false is few =
        let other : y ≡ x → ⊥ = λ same. grind (arith, nat_tests, is, same) in
        omega (arith, times-cons_other x y ys other, few)

-- a number that isn't held stands among those that aren't only where it isn't held
held_times : (s : State) (o : ℕ) (held : Held) (xs : List ℕ) → held_under s o ≡ Some held → All (λ (x : ℕ). held_under s x ≡ None) xs → times o xs ≡ 0
held_times s o held [] is none = refl
held_times s o held (x ∷ xs) is none =
    let other : x ≡ o → ⊥ = λ same. none-some held (sym (All-head (λ (x : ℕ). held_under s x ≡ None) x xs none) ∙ ap (held_under s) same ∙ is) in
    times-cons_other o x xs other ∙ held_times s o held xs is (All-tail (λ (x : ℕ). held_under s x ≡ None) x xs none)

-- ---- what calls ask for

-- the object numbers that events name
abbrev named : List Event → List ℕ
named events = filter_map (λ (event : Event). object_named event.act) events

-- a name of the machine names a live cache, or none
cache_lives : (table : Table) (place : ℕ) → IsSound table → IfSome (cache_named table place) (λ k. is_some (cache_of table k) ≡ true)
cache_lives table place sound = among table.live sound.alive
  where
    lives : (c : Option Cache) → IsSome c → is_some c ≡ true
    lives (Some cache) some = refl
    lives None some = absurd (false≢true some)

    found : (b : Bool) (one : List ℕ × ℕ) (live : List (List ℕ × ℕ)) → is_some (cache_of table one.1) ≡ true
        → IfSome (lookup (bytes_eq (name_at table place)) live) (λ k. is_some (cache_of table k) ≡ true)
        → IfSome (cond b (Some one.1) (lookup (bytes_eq (name_at table place)) live)) (λ k. is_some (cache_of table k) ≡ true)
    found true one live here rest = here
    found false one live here rest = rest

    among : (live : List (List ℕ × ℕ)) → All (λ one. IsSome (cache_of table one.1)) live
        → IfSome (lookup (bytes_eq (name_at table place)) live) (λ k. is_some (cache_of table k) ≡ true)
    among [] alive = tt
    among (one ∷ live) alive = found (bytes_eq (name_at table place) one.0) one live (lives (cache_of table one.1) (All-head (λ one. IsSome (cache_of table one.1)) one live alive))
        (among live (All-tail (λ one. IsSome (cache_of table one.1)) one live alive))

module _ (s : State) (b : Beside) (trace : Trace) (opens : MayOpen s b) (cpus : s.cpus ≡ trace.cpus) (objects : length s.board ≡ trace.objects + 1) (names : s.table.kept ≡ trace.names) where
  abbrev pub IsGood : ℕ → Event → Type 0
  IsGood workers event = IsSoundEvent trace workers event

  some_cpu : 0 < s.cpus
  some_cpu = let some = opens.coherent.shaped.cpus.0 in omega (arith, some)

  -- a call of an object whose number is among these
  call_fits : (workers : ℕ) (numbers : List ℕ) (event : Event) (a : Act) → event.act ≡ a → IsGood workers event
      → ((o : ℕ) → object_named a ≡ Some o → list_any (eqb o) numbers ≡ true) → CallFits (setup_of s b) (rooms numbers) (call_for s.table (rooms numbers) event.cpu a)
  call_fits workers numbers event (act.Alloc place x) is good there =
      let sound = subst (IsSoundAct trace) is good.act in record {
        cpu = rw cpus good.cpu;
        object = λ _. (sound.1, omega (arith, sound.2, objects));
        place = λ _. refl;
        inside = λ _. place_inside numbers x (there x refl);
        cache = cache_lives s.table place opens.coherent.shaped.table;
      }
  call_fits workers numbers event (act.Free x) is good there =
      let sound = subst (IsSoundAct trace) is good.act in record {
        cpu = rw cpus good.cpu;
        object = λ _. (sound.0, omega (arith, sound.1, objects));
        place = λ _. refl;
        inside = λ _. place_inside numbers x (there x refl);
        cache = tt;
      }
  call_fits workers numbers event (act.Write at x value) is good there =
      let sound = subst (IsSoundAct trace) is good.act in record {
        cpu = some_cpu;
        object = λ _. (sound.0, omega (arith, sound.1, objects));
        place = λ _. refl;
        inside = λ _. place_inside numbers x (there x refl);
        cache = tt;
      }
  call_fits workers numbers event (act.Read at x) is good there =
      let sound = subst (IsSoundAct trace) is good.act in record {
        cpu = some_cpu;
        object = λ _. (sound.0, omega (arith, sound.1, objects));
        place = λ _. refl;
        inside = λ _. place_inside numbers x (there x refl);
        cache = tt;
      }
  call_fits workers numbers event (act.Poke x offset byte) is good there =
      let sound = subst (IsSoundAct trace) is good.act in record {
        cpu = some_cpu;
        object = λ _. (sound.0, omega (arith, sound.1, objects));
        place = λ _. refl;
        inside = λ _. place_inside numbers x (there x refl);
        cache = tt;
      }
  call_fits workers numbers event (act.Trim place) is good there = record {
    cpu = some_cpu;
    object = λ never. absurd (false≢true never);
    place = λ never. absurd (false≢true never);
    inside = λ never. absurd (false≢true never);
    cache = cache_lives s.table place opens.coherent.shaped.table;
  }
  call_fits workers numbers event act.Flush is good there = record {
    cpu = rw cpus good.cpu;
    object = λ never. absurd (false≢true never);
    place = λ never. absurd (false≢true never);
    inside = λ never. absurd (false≢true never);
    cache = tt;
  }

  -- what an event names is among what the events name
  first_named : (a : Act) (o : ℕ) (more : List ℕ) → object_named a ≡ Some o → list_any (eqb o) (cons_option (object_named a) more) ≡ true
  first_named a o more is = subst (λ n. list_any (eqb o) (cons_option n more) ≡ true) (sym is) (ap (λ b. b || list_any (eqb o) more) (let same : eqb o o ≡ true = grind (arith, nat_tests) in same))

  later_named : (n : Option ℕ) (o : ℕ) (more : List ℕ) → list_any (eqb o) more ≡ true → list_any (eqb o) (cons_option n more) ≡ true
  later_named None o more is = is
  later_named (Some x) o more is = ap (λ b. eqb o x || b) is ∙ last (eqb o x)
    where
      last : (b : Bool) → (b || true) ≡ true
      last true = refl
      last false = refl

  all_fit : (workers : ℕ) (numbers : List ℕ) (events : List Event) → All (IsGood workers) events
      → ((o : ℕ) → list_any (eqb o) (named events) ≡ true → list_any (eqb o) numbers ≡ true) → All (CallFits (setup_of s b) (rooms numbers)) (calls_for s.table (rooms numbers) events)
  all_fit workers numbers [] good there = All-nil (CallFits (setup_of s b) (rooms numbers))
  all_fit workers numbers (event ∷ events) good there = All-cons (CallFits (setup_of s b) (rooms numbers)) (call_for s.table (rooms numbers) event.cpu event.act) (calls_for s.table (rooms numbers) events)
      (call_fits workers numbers event event.act refl (All-head (IsGood workers) event events good) (λ o is. there o (first_named event.act o (named events) is)))
      (all_fit workers numbers events (All-tail (IsGood workers) event events good) (λ o is. there o (later_named (object_named event.act) o (named events) is)))

  -- the numbers are the machine's
  all_rooms : (workers : ℕ) (events : List Event) → All (IsGood workers) events → All (λ (o : ℕ). o < length s.board) (named events)
  all_rooms workers [] good = All-nil (λ (o : ℕ). o < length s.board)
  all_rooms workers (event ∷ events) good = one event.act (All-head (IsGood workers) event events good).act (all_rooms workers events (All-tail (IsGood workers) event events good))
    where
      put : (x : ℕ) → x ≤ trace.objects → All (λ (o : ℕ). o < length s.board) (named events) → All (λ (o : ℕ). o < length s.board) (x ∷ named events)
      put x few rest = All-cons (λ (o : ℕ). o < length s.board) x (named events) (omega (arith, few, objects)) rest

      one : (a : Act) → IsSoundAct trace a → All (λ (o : ℕ). o < length s.board) (named events) → All (λ (o : ℕ). o < length s.board) (cons_option (object_named a) (named events))
      one (act.Alloc place x) sound rest = put x sound.2 rest
      one (act.Free x) sound rest = put x sound.1 rest
      one (act.Write at x value) sound rest = put x sound.1 rest
      one (act.Read at x) sound rest = put x sound.1 rest
      one (act.Poke x offset byte) sound rest = put x sound.1 rest
      one (act.Trim place) sound rest = rest
      one act.Flush sound rest = rest

  -- ---- one worker

  is_new : (round : Round) (worker : ℕ) → All (IsGood round.workers) round.events → AreReadable [] round.events → IsNew (setup_of s b) (worker_of s.table round worker)
  is_new round worker good reads =
      let mine = events_by worker round.events in
      let fine : All (IsGood round.workers) mine = All-filter (λ (event : Event). eqb event.worker worker) (IsGood round.workers) round.events good in
      let numbers = numbers_in mine in record {
        between = refl;
        cpu = some_cpu;
        packed = record {
          cpu_word = (omega arith, omega arith, omega arith);
          slab_word = (omega arith, omega arith, omega arith, omega arith);
          list_word = (omega arith, omega arith);
          next = omega arith;
        };
        hands = refl;
        string = refl;
        run = refl;
        done = refl;
        known = All-map (IsRoom (setup_of s b)) room_for numbers (each_room numbers (each_all (λ (o : ℕ). o < length s.board) (named mine) [] (All-nil (λ (o : ℕ). o < length s.board)) (all_rooms round.workers mine fine)));
        distinct = distinct_all (named mine) [] tt;
        fits = all_fit round.workers numbers mine fine (λ o is. comes_all (named mine) [] o is);
        readable = readable s.table (rooms numbers) worker [] round.events reads;
      }
    where
      each_room : (xs : List ℕ) → All (λ (o : ℕ). o < length s.board) xs → All (λ (o : ℕ). IsRoom (setup_of s b) (room_for o)) xs
      each_room [] all = All-nil (λ (o : ℕ). IsRoom (setup_of s b) (room_for o))
      each_room (x ∷ xs) all = All-cons (λ (o : ℕ). IsRoom (setup_of s b) (room_for o)) x xs (All-head (λ (o : ℕ). o < length s.board) x xs all, refl, refl) (each_room xs (All-tail (λ (o : ℕ). o < length s.board) x xs all))

-- ---- the law

within : (trace : Trace) (workers : ℕ) (events : List Event) → All (IsSoundEvent trace workers) events → All (λ (event : Event). event.worker < workers) events
within trace workers [] good = All-nil (λ (event : Event). event.worker < workers)
within trace workers (event ∷ events) good =
    All-cons (λ (event : Event). event.worker < workers) event events (All-head (IsSoundEvent trace workers) event events good).worker
    (within trace workers events (All-tail (IsSoundEvent trace workers) event events good))

asked_once : (s : State) (o : ℕ) (xs : List ℕ) (held : Option Held) → held_under s o ≡ held → All (λ (x : ℕ). held_under s x ≡ None) xs → IsDistinct eqb xs
    → boarded (option_map board_word held) + times o xs ≤ 1
asked_once s o xs None is none distinct = let few = once_times o xs distinct in omega (arith, few)
asked_once s o xs (Some held) is none distinct = omega (arith, held_times s o held xs is none)

pub may_begin : RoundsMayBegin
may_begin s b trace round opens does =
    let good = does.sound.events in
    let inside = within trace round.workers round.events good in
    record {
      new = each_new (range_with_len 0 round.workers);
      once = λ o.
          let asked : sum_by (λ (l : Local). asked_in o l.todo) (workers_of s.table round) ≡ times o (objects_of round.events) =
          sum_by-map (λ (l : Local). asked_in o l.todo) (worker_of s.table round) (range_with_len 0 round.workers)
          ∙ sum_by-same (λ w. asked_in o (worker_of s.table round w).todo) (λ w. sum_by (λ (e : Event). allocates o e.act) (events_by w round.events)) (range_with_len 0 round.workers)
          (λ w. asks_as s.table (rooms_for (events_by w round.events)) o (events_by w round.events))
          ∙ shares (λ (e : Event). allocates o e.act) round.events round.workers inside
          ∙ sym (objects_as o round.events) in
          subst (λ n. boarded (option_map board_word (held_under s o)) + n ≤ 1) (sym asked) (asked_once s o (objects_of round.events) (held_under s o) refl does.unheld does.distinct);
      few =
          let long : sum_by (λ (l : Local). length l.todo) (workers_of s.table round) ≡ length round.events =
          sum_by-map (λ (l : Local). length l.todo) (worker_of s.table round) (range_with_len 0 round.workers)
          ∙ sum_by-same (λ w. length (worker_of s.table round w).todo) (λ w. sum_by (λ (e : Event). 1) (events_by w round.events)) (range_with_len 0 round.workers)
          (λ w. length-map (events_by w round.events) (λ (event : Event). call_for s.table (rooms_for (events_by w round.events)) event.cpu event.act) ∙ each_one (events_by w round.events))
          ∙ shares (λ (e : Event). 1) round.events round.workers inside
          ∙ sym (each_one round.events) in
          let most = does.few in omega (arith, long, most);
      dry = does.dry;
    }
  where
    each_one : (events : List Event) → length events ≡ sum_by (λ (e : Event). 1) events
    each_one [] = refl
    each_one (event ∷ events) = let rest = each_one events in omega (arith, rest, sum_by-cons (λ (e : Event). 1) event events)

    each_new : (ws : List ℕ) → All (IsNew (setup_of s b)) (map (worker_of s.table round) ws)
    each_new [] = All-nil (IsNew (setup_of s b))
    each_new (w ∷ ws) = All-cons (IsNew (setup_of s b)) (worker_of s.table round w) (map (worker_of s.table round) ws)
        (is_new s b trace opens does.cpus does.objects does.names round w does.sound.events does.sound.readable) (each_new ws)

pub numbered : WorkersAreNumbered
numbered table round = each (range_with_len 0 round.workers)
  where
    each : (ws : List ℕ) → map (λ (l : Local). l.worker) (map (worker_of table round) ws) ≡ ws
    each [] = refl
    each (w ∷ ws) = ap (λ rest. w ∷ rest) (each ws)
