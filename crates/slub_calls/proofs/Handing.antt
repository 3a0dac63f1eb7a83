-- A number, an event and a worker more, where events are handed out one by one.
use Rattle.std.proofs.Common.{◌≡◌, ℕ, suc, ◌+◌, ◌<◌, ◌≤◌, Bool, true, false, ◌||◌, cond, List, [], ◌∷◌, ◌++◌, length, map, get_or, set, take, refl, sym, ◌∙◌, ap, arith, eqb, Option, Some, None, if◌then◌else◌}
use Rattle.std.specs.List.{cons_option, list_any, position_or_len, range_with_len}
use Rattle.std.proofs.lemmas.Bool.{false≢true}
use Rattle.std.proofs.lemmas.Bool.Decides.{nat_tests}
use Rattle.std.proofs.lemmas.List.{ext_get_or, get_or-set_other, get_or-set_same, get_or_default, length-set, length-take-le}
use Rattle.std.proofs.lemmas.List.Folds.{position_or_len_push}
use Rattle.std.proofs.lemmas.List.FromFn.{get_or-map-range_with_len, length-map-range_with_len}
use Rattle.indexmap.specs.IndexSet.{insert_key}
use Rattle.slub_trace.specs.declared.event.Act.{Act}
use Rattle.slub_trace.specs.declared.event.Act.TheVariants as act
use Rattle.slub_trace.specs.declared.event.Event.{Event}
use Rattle.slub_cache_create.specs.Table.{Table}
use Rattle.slub_core.specs.declared.call.Call.{Call}
use Rattle.slub_core.specs.declared.local.Known.{Known}
use Rattle.slub_core.specs.Accounted.{place_of}
use Rattle.slub_core.specs.Local.{Local}
use Rattle.slub_core.specs.Run.{idle}
use Rattle.slub_calls.specs.Calls.{call_at, call_for, calls_for, events_by, numbers_in, object_named, rooms_for, worker_with}
use Rattle.slub_calls.proofs.Numbers.{comes_all, rooms, same_number}
use Rattle.slub_calls.proofs.Walks.{call_more, named, number_more, number_same, other_more, own_more, place_is}

-- ---- the numbers and the place after an act

abbrev pub inserted : List ℕ → Option ℕ → List ℕ
inserted ks (Some o) = insert_key eqb ks o
inserted ks None = ks

-- where the number of the act stands then
abbrev pub inserted_at : List ℕ → Option ℕ → ℕ
inserted_at ks (Some o) = position_or_len (eqb o) ks
inserted_at ks None = 0

abbrev named_at : List Known → Option ℕ → ℕ
named_at rooms (Some o) = place_of rooms o
named_at rooms None = 0

-- what is there already keeps its place
place_push : (ks : List ℕ) (o x : ℕ) → list_any (eqb o) ks ≡ true → place_of (rooms (ks ++ x ∷ [])) o ≡ place_of (rooms ks) o
place_push [] o x there = absurd (false≢true there)
place_push (y ∷ ys) o x there = by (eqb y o) refl (place_push ys o x)
  where
    by : (b : Bool) → eqb y o ≡ b → (list_any (eqb o) ys ≡ true → place_of (rooms (ys ++ x ∷ [])) o ≡ place_of (rooms ys) o)
        → cond b 0 (suc (place_of (rooms (ys ++ x ∷ [])) o)) ≡ cond b 0 (suc (place_of (rooms ys) o))
    by true is more = refl
    by false is more =
        let not_it : eqb o y ≡ false = grind (arith, nat_tests, is) in
        ap suc (more (sym (ap (λ b. b || list_any (eqb o) ys) not_it) ∙ there))

place_key : (ks : List ℕ) (o x : ℕ) → list_any (eqb o) ks ≡ true → place_of (rooms (insert_key eqb ks x)) o ≡ place_of (rooms ks) o
place_key ks o x there = by (list_any (eqb x) ks)
  where
    by : (b : Bool) → place_of (rooms (if b then ks else ks ++ x ∷ [])) o ≡ place_of (rooms ks) o
    by true = refl
    by false = place_push ks o x there

place_inserted : (ks : List ℕ) (o : ℕ) (n : Option ℕ) → list_any (eqb o) ks ≡ true → place_of (rooms (inserted ks n)) o ≡ place_of (rooms ks) o
place_inserted ks o (Some x) there = place_key ks o x there
place_inserted ks o None there = refl

-- a number is where its insertion says
first_push : (ks : List ℕ) (o : ℕ) → position_or_len (eqb o) (ks ++ o ∷ []) ≡ position_or_len (eqb o) ks
first_push ks o = position_or_len_push (eqb o) ks o ∙ by (eqb (position_or_len (eqb o) ks) (length ks)) refl
  where
    at_end : length ks + cond (eqb o o) 0 1 ≡ length ks
    at_end = ap (λ b. length ks + cond b 0 1) (same_number o) ∙ (omega arith)

    by : (b : Bool) → eqb (position_or_len (eqb o) ks) (length ks) ≡ b
        → cond b (length ks + cond (eqb o o) 0 1) (position_or_len (eqb o) ks) ≡ position_or_len (eqb o) ks
    by true is = at_end ∙ (let same : position_or_len (eqb o) ks ≡ length ks = grind (arith, nat_tests, is) in sym same)
    by false is = refl

at_inserted : (ks : List ℕ) (n : Option ℕ) → inserted_at ks n ≡ named_at (rooms (inserted ks n)) n
at_inserted ks None = refl
at_inserted ks (Some o) = by (list_any (eqb o) ks) ∙ sym (place_is o (insert_key eqb ks o))
  where
    by : (b : Bool) → position_or_len (eqb o) ks ≡ position_or_len (eqb o) (if b then ks else ks ++ o ∷ [])
    by true = refl
    by false = sym (first_push ks o)

numbers_more : (events : List Event) (event : Event) (n : Option ℕ) → object_named event.act ≡ n → numbers_in (events ++ event ∷ []) ≡ inserted (numbers_in events) n
numbers_more events event (Some o) is = number_more events event o is
numbers_more events event None is = number_same events event is

-- ---- the calls after an event

placed : (table : Table) (ks : List Known) (cpu : ℕ) (a : Act) → call_for table ks cpu a ≡ call_at table (named_at ks (object_named a)) cpu a
placed table ks cpu (act.Alloc place o) = refl
placed table ks cpu (act.Free o) = refl
placed table ks cpu (act.Write word o value) = refl
placed table ks cpu (act.Read word o) = refl
placed table ks cpu (act.Poke o offset byte) = refl
placed table ks cpu (act.Trim place) = refl
placed table ks cpu act.Flush = refl

abbrev AreIn : List ℕ → List Event → Type 0
AreIn ks events = (o : ℕ) → list_any (eqb o) (named events) ≡ true → list_any (eqb o) ks ≡ true

call_kept : (table : Table) (ks : List ℕ) (n : Option ℕ) (event : Event) (events : List Event) → AreIn ks (event ∷ events)
    → call_for table (rooms (inserted ks n)) event.cpu event.act ≡ call_for table (rooms ks) event.cpu event.act
call_kept table ks n event events there =
    placed table (rooms (inserted ks n)) event.cpu event.act
    ∙ ap (λ place. call_at table place event.cpu event.act) (by (object_named event.act) refl)
    ∙ sym (placed table (rooms ks) event.cpu event.act)
  where
    by : (m : Option ℕ) → object_named event.act ≡ m → named_at (rooms (inserted ks n)) m ≡ named_at (rooms ks) m
    by (Some o) is = place_inserted ks o n (there o (ap (λ m. list_any (eqb o) (cons_option m (named events))) is ∙ ap (λ b. b || list_any (eqb o) (named events)) (same_number o)))
    by None is = refl

calls_kept : (table : Table) (ks : List ℕ) (n : Option ℕ) (events : List Event) → AreIn ks events → calls_for table (rooms (inserted ks n)) events ≡ calls_for table (rooms ks) events
calls_kept table ks n [] there = refl
calls_kept table ks n (event ∷ events) there =
    ap (λ call. call ∷ calls_for table (rooms (inserted ks n)) events) (call_kept table ks n event events there)
    ∙ ap (λ calls. call_for table (rooms ks) event.cpu event.act ∷ calls) (calls_kept table ks n events (λ o one. there o (later (object_named event.act) o one)))
  where
    later : (m : Option ℕ) (o : ℕ) → list_any (eqb o) (named events) ≡ true → list_any (eqb o) (cons_option m (named events)) ≡ true
    later None o one = one
    later (Some x) o one = by (eqb o x)
      where
        by : (b : Bool) → (b || list_any (eqb o) (named events)) ≡ true
        by true = refl
        by false = one

calls_more : (table : Table) (events : List Event) (event : Event) (n : Option ℕ) → object_named event.act ≡ n
    → calls_for table (rooms (inserted (numbers_in events) n)) (events ++ event ∷ []) ≡ calls_for table (rooms_for events) events ++ call_at table (inserted_at (numbers_in events) n) event.cpu event.act ∷ []
calls_more table events event n is =
    call_more table ks events event
    ∙ ap (λ calls. calls ++ call_for table ks event.cpu event.act ∷ []) (calls_kept table (numbers_in events) n events (comes_all (named events) []))
    ∙ ap (λ call. calls_for table (rooms_for events) events ++ call ∷ [])
    (placed table ks event.cpu event.act ∙ ap (λ place. call_at table place event.cpu event.act) (ap (named_at ks) is ∙ sym (at_inserted (numbers_in events) n)))
  where
    ks : List Known
    ks = rooms (inserted (numbers_in events) n)

-- ---- a share after an event

numbers_back : (ks : List ℕ) → map (λ (k : Known). k.object) (rooms ks) ≡ ks
numbers_back [] = refl
numbers_back (k ∷ ks) = ap (λ rest. k ∷ rest) (numbers_back ks)

abbrev pub with : ℕ → List Known → List Call → Local
with worker known todo = record idle { worker = worker; known = known; todo = todo }

-- it is the worker with one event more
share_more : (table : Table) (worker : ℕ) (events : List Event) (event : Event) (n : Option ℕ) (w : ℕ) (ks : List ℕ) (calls : List Call) → object_named event.act ≡ n
    → with w (rooms ks) calls ≡ worker_with table worker events
    → with w (rooms (inserted ks n)) (calls ++ call_at table (inserted_at ks n) event.cpu event.act ∷ []) ≡ worker_with table worker (events ++ event ∷ [])
share_more table worker events event n w ks calls named_is is =
    ap (λ w. with w (rooms (inserted ks n)) (calls ++ call_at table (inserted_at ks n) event.cpu event.act ∷ [])) (ap (λ (l : Local). l.worker) is)
    ∙ ap (λ ks. with worker (rooms (inserted ks n)) (calls ++ call_at table (inserted_at ks n) event.cpu event.act ∷ [])) same
    ∙ ap (λ calls. with worker (rooms (inserted (numbers_in events) n)) (calls ++ call_at table (inserted_at (numbers_in events) n) event.cpu event.act ∷ [])) (ap (λ (l : Local). l.todo) is)
    ∙ ap (with worker (rooms (inserted (numbers_in events) n))) (sym (calls_more table events event n named_is))
    ∙ ap (λ ks. with worker (rooms ks) (calls_for table (rooms ks) (events ++ event ∷ []))) (sym (numbers_more events event n named_is))
  where
    same : ks ≡ numbers_in events
    same = sym (numbers_back ks) ∙ ap (λ (l : Local). map (λ (k : Known). k.object) l.known) is ∙ numbers_back (numbers_in events)

pub pushed : (table : Table) (event : Event) (worker : ℕ) (events : List Event) (n : Option ℕ) (w w2 : ℕ) (ks ks2 : List ℕ) (calls calls2 : List Call) (one : Call) (place : ℕ)
    → object_named event.act ≡ n → w2 ≡ w → ks2 ≡ inserted ks n → place ≡ inserted_at ks n → calls2 ≡ calls ++ one ∷ [] → one ≡ call_at table place event.cpu event.act
    → with w (rooms ks) calls ≡ worker_with table worker events
    → with w2 (rooms ks2) calls2 ≡ worker_with table worker (events ++ event ∷ [])
pushed table event worker events n w w2 ks ks2 calls calls2 one place named_is same_worker numbers_are place_is calls_are call_is is =
    ap (λ w. with w (rooms ks2) calls2) same_worker
    ∙ ap (λ ks. with w (rooms ks) calls2) numbers_are
    ∙ ap (with w (rooms (inserted ks n))) (calls_are ∙ ap (λ call. calls ++ call ∷ []) (call_is ∙ ap (λ place. call_at table place event.cpu event.act) place_is))
    ∙ share_more table worker events event n w ks calls named_is is

-- ---- the next event

abbrev blank : Event
blank = record { line = 0; worker = 0; cpu = 0; act = act.Alloc 0 0 }

abbrev pub event_at : List Event → ℕ → Event
event_at events i = get_or events i blank

-- what a worker has of the first i events
abbrev pub first_by : List Event → ℕ → ℕ → List Event
first_by events i worker = events_by worker (take i events)

module _ (events : List Event) (i : ℕ) (within : i < length events) where
  pub others_same : (worker : ℕ) → (worker ≡ (event_at events i).worker → ⊥) → first_by events i worker ≡ first_by events (i + 1) worker
  others_same worker other =
      let not_it : eqb (event_at events i).worker worker ≡ false = grind (arith, nat_tests, other) in
      sym (other_more events i (event_at events i) worker within (get_or_default events i blank (event_at events i) within) not_it)

  pub own_next : first_by events (i + 1) (event_at events i).worker ≡ first_by events i (event_at events i).worker ++ event_at events i ∷ []
  own_next = own_more events i (event_at events i) (event_at events i).worker within (get_or_default events i blank (event_at events i) within) (same_number (event_at events i).worker)

-- ---- how many events a worker has

few_by : (worker : ℕ) (events : List Event) → length (events_by worker events) ≤ length events
few_by worker [] = omega arith
few_by worker (event ∷ events) = by (eqb event.worker worker) (few_by worker events)
  where
    by : (b : Bool) → length (events_by worker events) ≤ length events → length (cond b (event ∷ events_by worker events) (events_by worker events)) ≤ suc (length events)
    by true rest = omega (arith, rest)
    by false rest = omega (arith, rest)

pub few_first : (events : List Event) (i worker : ℕ) → i < length events → length (first_by events i worker) ≤ i
few_first events i worker within = omega (arith, few_by worker (take i events), length-take-le i events (omega (arith, within)))

-- ---- one worker among all

-- what all of n have, by f so far and by g then; w alone has something else
module _ {X : Type 0} (f g : ℕ → X) (n w : ℕ) (others : (k : ℕ) → (k ≡ w → ⊥) → f k ≡ g k) (all : List X) (is : all ≡ map f (range_with_len 0 n)) where
  long : (h : ℕ → X) → length (map h (range_with_len 0 n)) ≡ n
  long h = length-map-range_with_len h 0 n

  at : (h : ℕ → X) (d : X) (k : ℕ) → k < n → get_or (map h (range_with_len 0 n)) k d ≡ h k
  at h d k few = get_or-map-range_with_len h 0 n k k d few (omega arith)

  pub all_long : length all ≡ n
  all_long = ap length is ∙ long f

  pub had : (x : X) → w < n → x ≡ get_or all w x → x ≡ f w
  had x within here = here ∙ ap (λ xs. get_or xs w x) is ∙ at f x w within

  -- it is one of them
  pub one_changed : (x : X) → w < n → x ≡ g w → set all w x ≡ map g (range_with_len 0 n)
  one_changed x within new =
      ext_get_or x (set all w x) (map g (range_with_len 0 n)) (length-set all w x ∙ all_long ∙ sym (long g)) (λ k below. by k (few k below) (eqb k w) refl)
    where
      few : (k : ℕ) → k < length (set all w x) → k < n
      few k below = omega (arith, below, length-set all w x, all_long)

      by : (k : ℕ) → k < n → (b : Bool) → eqb k w ≡ b → get_or (set all w x) k x ≡ get_or (map g (range_with_len 0 n)) k x
      by k below true same_is =
          let same : k ≡ w = grind (arith, nat_tests, same_is) in
          ap (λ k. get_or (set all w x) k x) same ∙ get_or-set_same all w x x (omega (arith, within, all_long)) ∙ new ∙ ap g (sym same) ∙ sym (at g x k below)
      by k below false same_is =
          let other : k ≡ w → ⊥ = λ same. grind (arith, nat_tests, same_is, same) in
          get_or-set_other all w k x x other ∙ ap (λ xs. get_or xs k x) is ∙ at f x k below ∙ others k other ∙ sym (at g x k below)

  -- it is none of them
  pub none_changed : (d : X) → (w < n → ⊥) → all ≡ map g (range_with_len 0 n)
  none_changed d past =
      is ∙ ext_get_or d (map f (range_with_len 0 n)) (map g (range_with_len 0 n)) (long f ∙ sym (long g)) (λ k below. by k (few k below))
    where
      few : (k : ℕ) → k < length (map f (range_with_len 0 n)) → k < n
      few k below = omega (arith, below, long f)

      by : (k : ℕ) → k < n → get_or (map f (range_with_len 0 n)) k d ≡ get_or (map g (range_with_len 0 n)) k d
      by k below = at f d k below ∙ others k (λ same. past (omega (arith, below, same))) ∙ sym (at g d k below)
