-- What is read was written: what the lines so far say of the events of a round that isn't ended.
use Rattle.std.proofs.Common.{◌≡◌, ℕ, Bool, true, false, ◌&&◌, ◌||◌, if◌then◌else◌, List, [], ◌∷◌, ◌++◌, refl, sym, ap, ◌∙◌, subst, All, eqb, arith, ◌+◌}
use Rattle.std.specs.Prelude.{nat_eq}
use Rattle.std.specs.List.{list_any}
use Rattle.std.proofs.lemmas.Bool.{false≢true}
use Rattle.std.proofs.lemmas.Bool.Decides.{nat_tests}
use Rattle.std.proofs.lemmas.List.{append-nil}
use Rattle.std.proofs.lemmas.List.Elements.{All-cons, All-nil, All-head, All-tail, All-push}
use Rattle.slub_trace.specs.declared.event.Act.{Act}
use Rattle.slub_trace.specs.declared.event.Act.TheVariants as act
use Rattle.slub_trace.specs.declared.event.Event.{Event}
use Rattle.slub_trace_reader.specs.declared.line.Line.{Line}
use Rattle.slub_trace_reader.specs.declared.line.Line.TheVariants.{Passed, Slubtrace, Machine, Cache, Shrink, Destroy, Tune, Slabinfo, Client, Round, Alloc, Free, Write, Read, Poke, Trim, Flush, Done, End}
use Rattle.slub_trace_reader.specs.declared.place.Place.{Place}
use Rattle.slub_trace_reader.specs.declared.place.Place.TheVariants.{First, Second, Between, Within, After}
use Rattle.slub_trace_reader.specs.Above.{Above, after, is_spot, offset_of, place_of, with_one}
use Rattle.slub_trace_reader.specs.Grammar.{IsInRound, IsLine}
use Rattle.slub_trace.specs.Sound.{AreReadable, IsReadable, is_written, written_after}

-- ---- one event more

-- events before these, the last one first
pub past : List Event → List Event → List Event
past before [] = before
past before (event ∷ events) = past (event ∷ before) events

past_more : (before events : List Event) (e : Event) → past before (events ++ e ∷ []) ≡ e ∷ past before events
unfolding past
past_more before [] e = refl
past_more before (x ∷ events) e = past_more (x ∷ before) events e

readable_more : (before events : List Event) (e : Event) → AreReadable before events → IsReadable (past before events) e e.act → AreReadable before (events ++ e ∷ [])
unfolding past
readable_more before [] e reads more = (more, tt)
readable_more before (x ∷ events) e reads more = (reads.0, readable_more (x ∷ before) events e reads.1 more)

-- ---- what was written stays written

-- a worker, object and word that stand among the writes: that word was written, and the object is known
pub IsPut : List Event → List ℕ → ℕ × ℕ × ℕ → Type 0
IsPut events objects spot = (is_written (past [] events) spot.0 spot.1 spot.2 ≡ true) × (list_any (nat_eq spot.1) objects ≡ true)

-- an act allocates no object that is known
IsNewTo : List ℕ → Act → Type 0
IsNewTo objects (act.Alloc place x) = list_any (nat_eq x) objects ≡ false
IsNewTo objects _ = Unit {0}

stays : (objects : List ℕ) (a : Act) (same : Bool) (o t : ℕ) (was : Bool) → IsNewTo objects a → list_any (nat_eq o) objects ≡ true → was ≡ true → written_after a same o t was ≡ true
unfolding IsNewTo
stays objects (act.Alloc place x) same o t was new known is = by (eqb x o) refl
  where
    by : (b : Bool) → eqb x o ≡ b → (if b then false else was) ≡ true
    by true here =
        let equal : x ≡ o = grind (arith, nat_tests, here) in
        absurd (false≢true (sym (subst (λ k. list_any (nat_eq k) objects ≡ false) equal new) ∙ known))
    by false here = is
stays objects (act.Write at x value) same o t was new known is = ap (λ b. (same && eqb x o && eqb at t) || b) is ∙ last (same && eqb x o && eqb at t)
  where
    last : (b : Bool) → (b || true) ≡ true
    last true = refl
    last false = refl
stays objects (act.Free x) same o t was new known is = is
stays objects (act.Read at x) same o t was new known is = is
stays objects (act.Poke x offset byte) same o t was new known is = is
stays objects (act.Trim place) same o t was new known is = is
stays objects act.Flush same o t was new known is = is

any_more : (o : ℕ) (xs ys : List ℕ) → list_any (nat_eq o) xs ≡ true → list_any (nat_eq o) (xs ++ ys) ≡ true
any_more o [] ys is = absurd (false≢true is)
any_more o (x ∷ xs) ys is = by (nat_eq o x) (any_more o xs ys) is
  where
    by : (b : Bool) → (list_any (nat_eq o) xs ≡ true → list_any (nat_eq o) (xs ++ ys) ≡ true) → (b || list_any (nat_eq o) xs) ≡ true → (b || list_any (nat_eq o) (xs ++ ys)) ≡ true
    by true more is = refl
    by false more is = more is

put_stays : (events : List Event) (objects more : List ℕ) (e : Event) (spot : ℕ × ℕ × ℕ) → IsNewTo objects e.act → IsPut events objects spot → IsPut (events ++ e ∷ []) (objects ++ more) spot
unfolding IsPut
put_stays events objects more e spot new put = (
  ap (λ es. is_written es spot.0 spot.1 spot.2) (past_more [] events e) ∙ stays objects e.act (eqb e.worker spot.0) spot.1 spot.2 (is_written (past [] events) spot.0 spot.1 spot.2) new put.1 put.0,
  any_more spot.1 objects more put.1,
)

puts_stay : (events : List Event) (objects more : List ℕ) (e : Event) (spots : List (ℕ × ℕ × ℕ)) → IsNewTo objects e.act → All (IsPut events objects) spots → All (IsPut (events ++ e ∷ []) (objects ++ more)) spots
puts_stay events objects more e [] new puts = All-nil (IsPut (events ++ e ∷ []) (objects ++ more))
puts_stay events objects more e (spot ∷ spots) new puts =
    All-cons (IsPut (events ++ e ∷ []) (objects ++ more)) spot spots (put_stays events objects more e spot new (All-head (IsPut events objects) spot spots puts))
    (puts_stay events objects more e spots new (All-tail (IsPut events objects) spot spots puts))

same_number : (n : ℕ) → eqb n n ≡ true
same_number n = grind (arith, nat_tests)

-- one more is written
put_new : (events : List Event) (objects : List ℕ) (line worker cpu object word value : ℕ) → list_any (nat_eq object) objects ≡ true
    → IsPut (events ++ record { line = line; worker = worker; cpu = cpu; act = act.Write word object value } ∷ []) objects (worker, object, word)
unfolding IsPut
put_new events objects line worker cpu object word value known = (
  ap (λ es. is_written es worker object word) (past_more [] events (record { line = line; worker = worker; cpu = cpu; act = act.Write word object value }))
      ∙ ap (λ b. (b && eqb object object && eqb word word) || is_written (past [] events) worker object word) (same_number worker)
      ∙ ap (λ b. (true && b && eqb word word) || is_written (past [] events) worker object word) (same_number object)
      ∙ ap (λ b. (true && true && b) || is_written (past [] events) worker object word) (same_number word),
  known,
)

puts_with : (P : ℕ × ℕ × ℕ → Type 0) (spots : List (ℕ × ℕ × ℕ)) (spot : ℕ × ℕ × ℕ) → All P spots → P spot → All P (with_one is_spot spots spot)
puts_with P spots spot all one = by (list_any (is_spot spot) spots)
  where
    by : (b : Bool) → All P (if b then spots else spots ++ spot ∷ [])
    by true = all
    by false = All-push P spots spot all one

-- what stands among the writes was written
put_found : (events : List Event) (objects : List ℕ) (spots : List (ℕ × ℕ × ℕ)) (worker object word : ℕ) → All (IsPut events objects) spots → list_any (is_spot (worker, object, word)) spots ≡ true
    → is_written (past [] events) worker object word ≡ true
unfolding IsPut
put_found events objects [] worker object word puts found = absurd (false≢true found)
put_found events objects (spot ∷ spots) worker object word puts found =
    by (nat_eq worker spot.0) (nat_eq object spot.1) (nat_eq word spot.2) refl refl refl (All-head (IsPut events objects) spot spots puts)
    (put_found events objects spots worker object word (All-tail (IsPut events objects) spot spots puts)) found
  where
    there : worker ≡ spot.0 → object ≡ spot.1 → word ≡ spot.2 → IsPut events objects spot → is_written (past [] events) worker object word ≡ true
    there w o t put = ap (λ n. is_written (past [] events) n object word) w ∙ ap (λ n. is_written (past [] events) spot.0 n word) o ∙ ap (λ n. is_written (past [] events) spot.0 spot.1 n) t ∙ put.0

    by : (a b c : Bool) → nat_eq worker spot.0 ≡ a → nat_eq object spot.1 ≡ b → nat_eq word spot.2 ≡ c → IsPut events objects spot
        → (list_any (is_spot (worker, object, word)) spots ≡ true → is_written (past [] events) worker object word ≡ true)
        → (((a && b) && c) || list_any (is_spot (worker, object, word)) spots) ≡ true → is_written (past [] events) worker object word ≡ true
    by true true true w o t put more found = there (grind (arith, nat_tests, w)) (grind (arith, nat_tests, o)) (grind (arith, nat_tests, t)) put
    by true true false w o t put more found = more found
    by true false c w o t put more found = more found
    by false b c w o t put more found = more found

-- ---- the lines so far

-- of a round that isn't ended
unfoldable pub ReadAt : Place → Above → Type 0
ReadAt First a = Unit {0}
ReadAt Second a = Unit {0}
ReadAt Between a = Unit {0}
ReadAt (Within workers) a = AreReadable [] a.events × All (IsPut a.events a.objects) a.written
ReadAt After a = Unit {0}

abbrev pub IsRead : Above → Type 0
IsRead a = ReadAt a.place a

-- an event more, of no allocation or of a new object
read_more : (a b : Above) (e : Event) (more : List ℕ) (p : Place) → IsInRound p → b.events ≡ a.events ++ e ∷ [] → b.objects ≡ a.objects ++ more → b.written ≡ a.written
    → IsNewTo a.objects e.act → (All (IsPut a.events a.objects) a.written → IsReadable (past [] a.events) e e.act) → ReadAt p a → ReadAt p b
unfolding ReadAt
read_more a b e more First is events objects written new reads read = absurd is
read_more a b e more Second is events objects written new reads read = absurd is
read_more a b e more Between is events objects written new reads read = absurd is
read_more a b e more (Within workers) is events objects written new reads read = (
  subst (λ es. AreReadable [] es) (sym events) (readable_more [] a.events e read.0 (reads read.1)),
  subst (λ ws. All (IsPut b.events b.objects) ws) (sym written) (subst (λ es. All (IsPut es b.objects) a.written) (sym events)
      (subst (λ os. All (IsPut (a.events ++ e ∷ []) os) a.written) (sym objects) (puts_stay a.events a.objects more e a.written new read.1))),
)
read_more a b e more After is events objects written new reads read = absurd is

-- a write more
write_more : (a : Above) (worker object word value : ℕ) (p : Place) → IsInRound p → list_any (nat_eq object) a.objects ≡ true → ReadAt p a → ReadAt p (after a (Write worker object word value))
unfolding ReadAt IsNewTo
write_more a worker object word value First is known read = absurd is
write_more a worker object word value Second is known read = absurd is
write_more a worker object word value Between is known read = absurd is
write_more a worker object word value (Within workers) is known read =
    let e : Event = record { line = a.count + 1; worker = worker; cpu = 0; act = act.Write word object value } in (
      readable_more [] a.events e read.0 tt,
      puts_with (IsPut (a.events ++ e ∷ []) a.objects) a.written (worker, object, word)
          (subst (λ os. All (IsPut (a.events ++ e ∷ []) os) a.written) (append-nil a.objects) (puts_stay a.events a.objects [] e a.written tt read.1))
          (put_new a.events a.objects (a.count + 1) worker 0 object word value known),
    )
write_more a worker object word value After is known read = absurd is

-- no event
same_read : (a b : Above) (p : Place) → b.events ≡ a.events → b.objects ≡ a.objects → b.written ≡ a.written → ReadAt p a → ReadAt p b
unfolding ReadAt
same_read a b First events objects written read = tt
same_read a b Second events objects written read = tt
same_read a b Between events objects written read = tt
same_read a b (Within workers) events objects written read = (
  subst (λ es. AreReadable [] es) (sym events) read.0,
  subst (λ ws. All (IsPut b.events b.objects) ws) (sym written) (subst (λ es. All (IsPut es b.objects) a.written) (sym events) (subst (λ os. All (IsPut a.events os) a.written) (sym objects) read.1)),
)
same_read a b After events objects written read = tt

-- outside of rounds there is nothing to say
between_read : (a b : Above) → a.place ≡ Between → b.place ≡ a.place → ReadAt b.place b
unfolding ReadAt
between_read a b is same = subst (λ (p : Place). ReadAt p b) (sym (same ∙ is)) tt

head_known : (a : Above) (object : ℕ) → All (λ o. list_any (nat_eq o) a.objects ≡ true) (object ∷ []) → list_any (nat_eq object) a.objects ≡ true
head_known a object known = All-head (λ o. list_any (nat_eq o) a.objects ≡ true) object [] known

head_new : (a : Above) (object : ℕ) → All (λ o. list_any (nat_eq o) a.objects ≡ false) (object ∷ []) → list_any (nat_eq object) a.objects ≡ false
head_new a object new = All-head (λ o. list_any (nat_eq o) a.objects ≡ false) object [] new

pub read_after : (a : Above) (text : List ℕ) (line : Line) → IsRead a → IsLine a text line → IsRead (after a line)
unfolding ReadAt IsNewTo
read_after a text Passed read good = same_read a (after a Passed) a.place refl refl refl read
read_after a text (Slubtrace version) read good = tt
read_after a text (Machine frames cpus tid) read good = tt
read_after a text (Cache name size align flags) read good = between_read a (after a (Cache name size align flags)) good.stands refl
read_after a text (Shrink name) read good = between_read a (after a (Shrink name)) good.stands refl
read_after a text (Destroy name) read good = between_read a (after a (Destroy name)) good.stands refl
read_after a text (Tune name knob number) read good = between_read a (after a (Tune name knob number)) good.stands.1 refl
read_after a text Slabinfo read good = between_read a (after a Slabinfo) good.stands refl
read_after a text (Client line) read good = between_read a (after a (Client line)) good.stands.1 refl
read_after a text (Round workers) read good = (tt, All-nil (IsPut [] a.objects))
read_after a text (Alloc worker cpu name object) read good =
    read_more a (after a (Alloc worker cpu name object)) (record { line = a.count + 1; worker = worker; cpu = cpu; act = act.Alloc (place_of name a.names) object }) (object ∷ []) a.place good.stands refl refl refl
    (head_new a object good.fresh) (λ puts. tt) read
read_after a text (Free worker cpu object) read good =
    read_more a (after a (Free worker cpu object)) (record { line = a.count + 1; worker = worker; cpu = cpu; act = act.Free object }) [] a.place good.stands refl (sym (append-nil a.objects)) refl tt (λ puts. tt) read
read_after a text (Write worker object word value) read good = write_more a worker object word value a.place good.stands (head_known a object good.known) read
read_after a text (Read worker object word) read good =
    read_more a (after a (Read worker object word)) (record { line = a.count + 1; worker = worker; cpu = 0; act = act.Read word object }) [] a.place good.stands refl (sym (append-nil a.objects)) refl tt
    (λ puts. put_found a.events a.objects a.written worker object word puts good.written) read
read_after a text (Poke worker object negative offset byte) read good =
    read_more a (after a (Poke worker object negative offset byte)) (record { line = a.count + 1; worker = worker; cpu = 0; act = act.Poke object (offset_of negative offset) byte }) [] a.place good.stands refl (sym (append-nil a.objects)) refl tt (λ puts. tt) read
read_after a text (Trim worker name) read good =
    read_more a (after a (Trim worker name)) (record { line = a.count + 1; worker = worker; cpu = 0; act = act.Trim (place_of name a.names) }) [] a.place good.stands.1 refl (sym (append-nil a.objects)) refl tt (λ puts. tt) read
read_after a text (Flush worker cpu) read good =
    read_more a (after a (Flush worker cpu)) (record { line = a.count + 1; worker = worker; cpu = cpu; act = act.Flush }) [] a.place good.stands.1 refl (sym (append-nil a.objects)) refl tt (λ puts. tt) read
read_after a text Done read good = tt
read_after a text End read good = tt

-- the events of a round that ends are readable
round_read : (a : Above) (p : Place) → IsInRound p → ReadAt p a → AreReadable [] a.events
unfolding ReadAt
round_read a First is read = absurd is
round_read a Second is read = absurd is
round_read a Between is read = absurd is
round_read a (Within workers) is read = read.0
round_read a After is read = absurd is

pub ended_read : (a : Above) → IsInRound a.place → IsRead a → AreReadable [] a.events
ended_read a is read = round_read a a.place is read
