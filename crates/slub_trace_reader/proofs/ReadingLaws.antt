-- The reading as a function is the grammar: what it reads is a trace, and a fault is the first bad line.
use Rattle.std.proofs.Common.{◌≡◌, ◌≢◌, ℕ, ◌+◌, ◌<◌, ◌≤◌, Bool, true, false, not, ◌&&◌, Result, Ok, Err, Option, Some, None, List, [], ◌∷◌, ◌++◌, length, refl, sym, ap, ◌∙◌, arith, subst, inl, inr, All, eqb, leb, ltb}
use Rattle.std.specs.List.{list_all, list_any}
use Rattle.std.proofs.Common.{nat_eq}
use Rattle.std.proofs.lemmas.Bool.{false≢true, true≢false, cases_Bool, and_parts, and_from, eqb-true, eqb-false, not-true, not_from_false, false_from_ne_true, leb-true, le-leb}
use Rattle.std.proofs.lemmas.Bool.Decides.{nat_tests}
use Rattle.std.proofs.lemmas.List.Elements.{All-cons, All-nil, All-head, All-tail}
use Rattle.slub_trace_reader.specs.declared.client.ClientLine.{ClientLine}
use Rattle.slub_trace_reader.specs.declared.client.ClientLine.TheVariants.{Kmalloc, Kget, Krealloc, Bulk, Bulkfree, Mempool, Mget, Mput}
use Rattle.slub_trace_reader.specs.declared.line.Line.{Line}
use Rattle.slub_trace_reader.specs.declared.line.Line.TheVariants.{Passed, Slubtrace, Machine, Cache, Shrink, Destroy, Tune, Slabinfo, Client, Round, Alloc, Free, Write, Read, Poke, Trim, Flush, Done, End}
use Rattle.slub_trace_reader.specs.declared.place.Place.{Place}
use Rattle.slub_trace_reader.specs.declared.place.Place.TheVariants.{First, Second, Between, Within, After}
use Rattle.slub_trace_reader.specs.declared.reading.Why.{Why}
use Rattle.slub_trace_reader.specs.declared.reading.Why.TheVariants.{Unfinished, AfterEnd, Form, Range, TooManyRounds, UnknownCache, ObjectTwice, UnknownObject, ReadBeforeWrite, NoEnd}
use Rattle.slub_trace.specs.declared.trace.Trace.{Trace}
use Rattle.slub_trace_reader.specs.Above.{Above, start, after, workers_in}
use Rattle.slub_trace_reader.specs.Faults.{Finished, IsBad, IsFirstReason, IsFirstBad, rank}
use Rattle.slub_trace_reader.specs.Forms.{is_passed, line_of}
use Rattle.slub_trace.specs.Ranges.{IsTid}
use Rattle.slub_trace_reader.specs.Grammar.{MayStand, InRange, ClientInRange, IsObject, AreObjects, IsOffset, IsInRound, HasRoom, HasCache, HasSource, IsFresh, IsKnown, IsWritten, IsLine, IsOneLine, IsTrace}
use Rattle.slub_trace_reader.specs.Lines.{IsPassed}
use Rattle.slub_trace_reader.specs.Numbers.{allocates, needs}
use Rattle.slub_trace_reader.specs.Reading.{is_first, is_second, is_between, is_in_round, is_after, may_stand, is_tid, is_object, are_objects, is_offset, client_in_range, in_range, has_room, has_source, has_cache, are_fresh, are_known, is_written, first_of, lack_of, good_or, judged, judge, end_of, read_from, reading}
use Rattle.slub_common.specs.Lines.{with_byte, cut_lines}
use Rattle.slub_trace_reader.specs.State.{IsModest, Lacks}
use Rattle.slub_trace_reader.proofs.LinesBelow.{Went, went_start, went_modest, leads_more, went_bad, went_unfinished, went_no_end, went_all, tells_trace, trace_once, bad_no_trace, bad_once}
use Rattle.slub_trace_reader.proofs.Reasons.{first_form, first_reason, fit_line, none_said}
use Rattle.slub_trace_reader.proofs.Texts.{passed_test, test_passed}

-- ---- tests

-- the test tells whether it holds
abbrev pub Tells : Bool → Type 0 → Type 0
Tells t P = (t ≡ true → P) × (P → t ≡ true)

first_tells : (place : Place) → Tells (is_first place) (place ≡ First)
first_tells First = (λ is. refl, λ is. refl)
first_tells Second = (λ is. absurd (false≢true is), λ is. cc)
first_tells Between = (λ is. absurd (false≢true is), λ is. cc)
first_tells (Within n) = (λ is. absurd (false≢true is), λ is. cc)
first_tells After = (λ is. absurd (false≢true is), λ is. cc)

second_tells : (place : Place) → Tells (is_second place) (place ≡ Second)
second_tells First = (λ is. absurd (false≢true is), λ is. cc)
second_tells Second = (λ is. refl, λ is. refl)
second_tells Between = (λ is. absurd (false≢true is), λ is. cc)
second_tells (Within n) = (λ is. absurd (false≢true is), λ is. cc)
second_tells After = (λ is. absurd (false≢true is), λ is. cc)

between_tells : (place : Place) → Tells (is_between place) (place ≡ Between)
between_tells First = (λ is. absurd (false≢true is), λ is. cc)
between_tells Second = (λ is. absurd (false≢true is), λ is. cc)
between_tells Between = (λ is. refl, λ is. refl)
between_tells (Within n) = (λ is. absurd (false≢true is), λ is. cc)
between_tells After = (λ is. absurd (false≢true is), λ is. cc)

after_tells : (place : Place) → Tells (is_after place) (place ≡ After)
after_tells First = (λ is. absurd (false≢true is), λ is. cc)
after_tells Second = (λ is. absurd (false≢true is), λ is. cc)
after_tells Between = (λ is. absurd (false≢true is), λ is. cc)
after_tells (Within n) = (λ is. absurd (false≢true is), λ is. cc)
after_tells After = (λ is. refl, λ is. refl)

round_tells : (place : Place) → Tells (is_in_round place) (IsInRound place)
round_tells First = (λ is. absurd (false≢true is), λ is. absurd is)
round_tells Second = (λ is. absurd (false≢true is), λ is. absurd is)
round_tells Between = (λ is. absurd (false≢true is), λ is. absurd is)
round_tells (Within n) = (λ is. tt, λ is. refl)
round_tells After = (λ is. absurd (false≢true is), λ is. absurd is)

both_tell : (s t : Bool) (P Q : Type 0) → Tells s P → Tells t Q → Tells (s && t) (P × Q)
both_tell s t P Q p q = (λ is. (let parts = and_parts s t is in (p.0 parts.0, q.0 parts.1)), λ is. and_from s t (p.1 is.0) (q.1 is.1))

least_tells : (least n : ℕ) → Tells (leb least n) (least ≤ n)
least_tells least n = (λ is. leb-true least n is, λ is. le-leb least n is)

stand_tells : (line : Line) (version : ℕ) (place : Place) → Tells (may_stand line version place) (MayStand line version place)
unfolding may_stand
stand_tells Passed version place = (λ is. tt, λ is. refl)
stand_tells (Slubtrace named) version place = first_tells place
stand_tells (Machine frames cpus tid) version place = second_tells place
stand_tells (Cache name size align flags) version place = between_tells place
stand_tells (Shrink name) version place = between_tells place
stand_tells (Destroy name) version place = between_tells place
stand_tells (Tune name knob number) version place = both_tell _ _ _ _ (least_tells 2 version) (between_tells place)
stand_tells Slabinfo version place = between_tells place
stand_tells (Client line) version place = both_tell _ _ _ _ (least_tells 3 version) (between_tells place)
stand_tells (Round workers) version place = between_tells place
stand_tells (Alloc worker cpu name object) version place = round_tells place
stand_tells (Free worker cpu object) version place = round_tells place
stand_tells (Write worker object word value) version place = round_tells place
stand_tells (Read worker object word) version place = round_tells place
stand_tells (Poke worker object negative offset byte) version place = round_tells place
stand_tells (Trim worker name) version place = both_tell _ _ _ _ (least_tells 4 version) (round_tells place)
stand_tells (Flush worker cpu) version place = both_tell _ _ _ _ (least_tells 4 version) (round_tells place)
stand_tells Done version place = round_tells place
stand_tells End version place = between_tells place

object_tells : (object : ℕ) → Tells (is_object object) (IsObject object)
object_tells object = (λ is. grind (arith, nat_tests), λ is. grind (arith, nat_tests))

tid_tells : (cpus : ℕ) (tid : Option ℕ) → Tells (is_tid cpus tid) (IsTid cpus tid)
tid_tells cpus None = (λ is. tt, λ is. refl)
tid_tells cpus (Some tid) = (λ is. grind (arith, nat_tests), λ is. grind (arith, nat_tests))

offset_tells : (negative : Bool) (size : ℕ) → Tells (is_offset negative size) (IsOffset negative size)
offset_tells true size = (λ is. grind (arith, nat_tests), λ is. grind (arith, nat_tests))
offset_tells false size = (λ is. grind (arith, nat_tests), λ is. grind (arith, nat_tests))

objects_tell : (most first count : ℕ) → Tells (are_objects most first count) (AreObjects most first count)
objects_tell most first count = (λ is. grind (arith, nat_tests), λ is. grind (arith, nat_tests))

below_tells : (n most : ℕ) → Tells (ltb n most) (n < most)
below_tells n most = (λ is. grind (arith, nat_tests), λ is. grind (arith, nat_tests))

client_range_tells : (a : Above) (line : ClientLine) → Tells (client_in_range a line) (ClientInRange a line)
unfolding client_in_range
client_range_tells a Kmalloc = (λ is. tt, λ is. refl)
client_range_tells a (Kget cpu size object) = (λ is. grind (arith, nat_tests), λ is. grind (arith, nat_tests))
client_range_tells a (Krealloc cpu object size fresh) = (λ is. grind (arith, nat_tests), λ is. grind (arith, nat_tests))
client_range_tells a (Bulk cpu name first count) = both_tell _ _ _ _ (below_tells cpu a.cpus) (objects_tell 1024 first count)
client_range_tells a (Bulkfree cpu first count) = both_tell _ _ _ _ (below_tells cpu a.cpus) (objects_tell 1024 first count)
client_range_tells a (Mempool pool name min first) = objects_tell 64 first min
client_range_tells a (Mget cpu pool object) = (λ is. grind (arith, nat_tests), λ is. grind (arith, nat_tests))
client_range_tells a (Mput cpu pool object) = (λ is. grind (arith, nat_tests), λ is. grind (arith, nat_tests))

range_tells : (a : Above) (line : Line) → Tells (in_range a line) (InRange a line)
unfolding in_range
range_tells a Passed = (λ is. tt, λ is. refl)
range_tells a (Slubtrace version) = (λ is. tt, λ is. refl)
range_tells a (Machine frames cpus tid) =
    let t = tid_tells cpus tid in (
      λ is.
          (let parts = and_parts _ (is_tid cpus tid) is in
          let low : (2 ≤ frames) × (frames ≤ 4096) × (1 ≤ cpus) × (cpus ≤ 16) = (let all = parts.0 in grind (arith, nat_tests, all)) in
          (low.0, low.1, low.2, low.3, t.0 parts.1)),
      λ is. (let last = t.1 is.4 in and_from _ (is_tid cpus tid) (grind (arith, nat_tests, is)) last),
    )
range_tells a (Cache name size align flags) = (λ is. grind (arith, nat_tests), λ is. grind (arith, nat_tests))
range_tells a (Shrink name) = (λ is. tt, λ is. refl)
range_tells a (Destroy name) = (λ is. tt, λ is. refl)
range_tells a (Tune name knob number) = (λ is. grind (arith, nat_tests), λ is. grind (arith, nat_tests))
range_tells a Slabinfo = (λ is. tt, λ is. refl)
range_tells a (Client line) = client_range_tells a line
range_tells a (Round workers) = (λ is. grind (arith, nat_tests), λ is. grind (arith, nat_tests))
range_tells a (Alloc worker cpu name object) = (λ is. grind (arith, nat_tests), λ is. grind (arith, nat_tests))
range_tells a (Free worker cpu object) = (λ is. grind (arith, nat_tests), λ is. grind (arith, nat_tests))
range_tells a (Write worker object word value) = (λ is. grind (arith, nat_tests), λ is. grind (arith, nat_tests))
range_tells a (Read worker object word) = (λ is. grind (arith, nat_tests), λ is. grind (arith, nat_tests))
range_tells a (Poke worker object negative offset byte) =
    let t = offset_tells negative offset in (
      λ is.
          (let parts = and_parts _ (is_offset negative offset) is in
          let low : (worker < workers_in a.place) × IsObject object = (let all = parts.0 in grind (arith, nat_tests, all)) in
          (low.0, low.1, t.0 parts.1)),
      λ is. (let last = t.1 is.2 in and_from _ (is_offset negative offset) (grind (arith, nat_tests, is)) last),
    )
range_tells a (Trim worker name) = (λ is. grind (arith, nat_tests), λ is. grind (arith, nat_tests))
range_tells a (Flush worker cpu) = (λ is. grind (arith, nat_tests), λ is. grind (arith, nat_tests))
range_tells a Done = (λ is. tt, λ is. refl)
range_tells a End = (λ is. tt, λ is. refl)

room_tells : (a : Above) (line : Line) → Tells (has_room a line) (HasRoom a line)
unfolding has_room
room_tells a Passed = (λ is. tt, λ is. refl)
room_tells a (Slubtrace version) = (λ is. tt, λ is. refl)
room_tells a (Machine frames cpus tid) = (λ is. tt, λ is. refl)
room_tells a (Cache name size align flags) = (λ is. tt, λ is. refl)
room_tells a (Shrink name) = (λ is. tt, λ is. refl)
room_tells a (Destroy name) = (λ is. tt, λ is. refl)
room_tells a (Tune name knob number) = (λ is. tt, λ is. refl)
room_tells a Slabinfo = (λ is. tt, λ is. refl)
room_tells a (Client line) = (λ is. grind (arith, nat_tests), λ is. grind (arith, nat_tests))
room_tells a (Round workers) = (λ is. grind (arith, nat_tests), λ is. grind (arith, nat_tests))
room_tells a (Alloc worker cpu name object) = (λ is. tt, λ is. refl)
room_tells a (Free worker cpu object) = (λ is. tt, λ is. refl)
room_tells a (Write worker object word value) = (λ is. tt, λ is. refl)
room_tells a (Read worker object word) = (λ is. tt, λ is. refl)
room_tells a (Poke worker object negative offset byte) = (λ is. tt, λ is. refl)
room_tells a (Trim worker name) = (λ is. tt, λ is. refl)
room_tells a (Flush worker cpu) = (λ is. tt, λ is. refl)
room_tells a Done = (λ is. tt, λ is. refl)
room_tells a End = (λ is. tt, λ is. refl)

source_tells : (a : Above) (line : ClientLine) → Tells (has_source a line) (HasSource a line)
unfolding has_source
source_tells a Kmalloc = (λ is. tt, λ is. refl)
source_tells a (Kget cpu size object) = (λ is. is, λ is. is)
source_tells a (Krealloc cpu object size fresh) = (λ is. is, λ is. is)
source_tells a (Bulk cpu name first count) = (λ is. is, λ is. is)
source_tells a (Bulkfree cpu first count) = (λ is. tt, λ is. refl)
source_tells a (Mempool pool name min first) = (λ is. is, λ is. is)
source_tells a (Mget cpu pool object) = (λ is. is, λ is. is)
source_tells a (Mput cpu pool object) = (λ is. is, λ is. is)

cache_tells : (a : Above) (line : Line) → Tells (has_cache a line) (HasCache a line)
unfolding has_cache
cache_tells a Passed = (λ is. tt, λ is. refl)
cache_tells a (Slubtrace version) = (λ is. tt, λ is. refl)
cache_tells a (Machine frames cpus tid) = (λ is. tt, λ is. refl)
cache_tells a (Cache name size align flags) = (λ is. tt, λ is. refl)
cache_tells a (Shrink name) = (λ is. is, λ is. is)
cache_tells a (Destroy name) = (λ is. is, λ is. is)
cache_tells a (Tune name knob number) = (λ is. is, λ is. is)
cache_tells a Slabinfo = (λ is. tt, λ is. refl)
cache_tells a (Client line) = source_tells a line
cache_tells a (Round workers) = (λ is. tt, λ is. refl)
cache_tells a (Alloc worker cpu name object) = (λ is. is, λ is. is)
cache_tells a (Free worker cpu object) = (λ is. tt, λ is. refl)
cache_tells a (Write worker object word value) = (λ is. tt, λ is. refl)
cache_tells a (Read worker object word) = (λ is. tt, λ is. refl)
cache_tells a (Poke worker object negative offset byte) = (λ is. tt, λ is. refl)
cache_tells a (Trim worker name) = (λ is. is, λ is. is)
cache_tells a (Flush worker cpu) = (λ is. tt, λ is. refl)
cache_tells a Done = (λ is. tt, λ is. refl)
cache_tells a End = (λ is. tt, λ is. refl)

written_tells : (a : Above) (line : Line) → Tells (is_written a line) (IsWritten a line)
unfolding is_written
written_tells a Passed = (λ is. tt, λ is. refl)
written_tells a (Slubtrace version) = (λ is. tt, λ is. refl)
written_tells a (Machine frames cpus tid) = (λ is. tt, λ is. refl)
written_tells a (Cache name size align flags) = (λ is. tt, λ is. refl)
written_tells a (Shrink name) = (λ is. tt, λ is. refl)
written_tells a (Destroy name) = (λ is. tt, λ is. refl)
written_tells a (Tune name knob number) = (λ is. tt, λ is. refl)
written_tells a Slabinfo = (λ is. tt, λ is. refl)
written_tells a (Client line) = (λ is. tt, λ is. refl)
written_tells a (Round workers) = (λ is. tt, λ is. refl)
written_tells a (Alloc worker cpu name object) = (λ is. tt, λ is. refl)
written_tells a (Free worker cpu object) = (λ is. tt, λ is. refl)
written_tells a (Write worker object word value) = (λ is. tt, λ is. refl)
written_tells a (Read worker object word) = (λ is. is, λ is. is)
written_tells a (Poke worker object negative offset byte) = (λ is. tt, λ is. refl)
written_tells a (Trim worker name) = (λ is. tt, λ is. refl)
written_tells a (Flush worker cpu) = (λ is. tt, λ is. refl)
written_tells a Done = (λ is. tt, λ is. refl)
written_tells a End = (λ is. tt, λ is. refl)

-- a test of each element
each_tells : {X : Type 0} (p : X → Bool) (P : X → Type 0) → ((x : X) → Tells (p x) (P x)) → (xs : List X) → Tells (list_all p xs) (All P xs)
each_tells p P tells [] = (λ is. All-nil P, λ is. refl)
each_tells p P tells (x ∷ xs) =
    let more = each_tells p P tells xs in (
      λ is. (let parts = and_parts (p x) (list_all p xs) is in All-cons P x xs ((tells x).0 parts.0) (more.0 parts.1)),
      λ is. and_from (p x) (list_all p xs) ((tells x).1 (All-head P x xs is)) (more.1 (All-tail P x xs is)),
    )

fresh_tells : (a : Above) (objects : List ℕ) → Tells (are_fresh a objects) (All (λ object. list_any (nat_eq object) a.objects ≡ false) objects)
fresh_tells a objects =
    each_tells _ _ (λ object. (λ is. not-true (list_any (nat_eq object) a.objects) is, λ is. not_from_false (list_any (nat_eq object) a.objects) is)) objects

known_tells : (a : Above) (objects : List ℕ) → Tells (are_known a objects) (All (λ object. list_any (nat_eq object) a.objects ≡ true) objects)
known_tells a objects = each_tells _ _ (λ object. (λ is. is, λ is. is)) objects

-- ---- one line

choose : (a : Above) (line : Line) (s r m n f k w : Bool) → Tells s (MayStand line a.version a.place) → Tells r (InRange a line) → Tells m (HasRoom a line) → Tells n (HasCache a line)
    → Tells f (IsFresh a line) → Tells k (IsKnown a line) → Tells w (IsWritten a line) → Lacks a line (first_of s r m n f k w)
choose a line false r m n f k w ts tr tm tn tf tk tw = λ is. false≢true (ts.1 is)
choose a line true false m n f k w ts tr tm tn tf tk tw = (ts.0 refl, λ is. false≢true (tr.1 is))
choose a line true true false n f k w ts tr tm tn tf tk tw = (ts.0 refl, tr.0 refl, λ is. false≢true (tm.1 is))
choose a line true true true false f k w ts tr tm tn tf tk tw = (ts.0 refl, tr.0 refl, tm.0 refl, λ is. false≢true (tn.1 is))
choose a line true true true true false k w ts tr tm tn tf tk tw = (ts.0 refl, tr.0 refl, tm.0 refl, tn.0 refl, λ is. false≢true (tf.1 is))
choose a line true true true true true false w ts tr tm tn tf tk tw = (ts.0 refl, tr.0 refl, tm.0 refl, tn.0 refl, tf.0 refl, λ is. false≢true (tk.1 is))
choose a line true true true true true true false ts tr tm tn tf tk tw = (ts.0 refl, tr.0 refl, tm.0 refl, tn.0 refl, tf.0 refl, tk.0 refl, λ is. false≢true (tw.1 is))
choose a line true true true true true true true ts tr tm tn tf tk tw = record {
  stands = ts.0 refl;
  range = tr.0 refl;
  room = tm.0 refl;
  named = tn.0 refl;
  fresh = tf.0 refl;
  known = tk.0 refl;
  written = tw.0 refl;
}

lack_tells : (a : Above) (line : Line) → Lacks a line (lack_of a line)
unfolding lack_of
lack_tells a line =
    choose a line _ _ _ _ _ _ _ (stand_tells line a.version a.place) (range_tells a line) (room_tells a line) (cache_tells a line)
    (fresh_tells a (allocates line)) (known_tells a (needs line)) (written_tells a line)

-- what judging says is so
abbrev pub Judges : Above → List ℕ → Result Line Why → Type 0
Judges a text (Ok line) = IsLine a text line
Judges a text (Err why) = IsFirstReason a (Finished text) why

good_tells : (a : Above) (text : List ℕ) (line : Line) (lack : Option Why) → IsModest a → ((a.place ≡ After) × ¬ IsPassed text → ⊥) → line_of text ≡ Some line → Lacks a line lack → Judges a text (good_or line lack)
good_tells a text line None modest on is lacks = fit_line a text line modest is lacks
good_tells a text line (Some why) modest on is lacks = first_reason a text line why modest on is lacks

judged_tells : (a : Above) (text : List ℕ) (o : Option Line) → IsModest a → ((a.place ≡ After) × ¬ IsPassed text → ⊥) → line_of text ≡ o → Judges a text (judged a o)
judged_tells a text None modest on is = first_form a text on (λ line says _. none_said text line (sym is) says)
judged_tells a text (Some line) modest on is = good_tells a text line (lack_of a line) modest on is (lack_tells a line)

-- a text after `end` is bad for that first
first_after : (a : Above) (text : List ℕ) → (a.place ≡ After) × ¬ IsPassed text → IsFirstReason a (Finished text) AfterEnd
first_after a text off = record {
  holds = off;
  first = λ other. elim other as (λ w. rank w < 1 → IsBad a text w → ⊥) [
    | Unfinished ↦ λ low bad. bad
    | AfterEnd ↦ λ low bad. absurd (let never : ⊥ = omega arith in never)
    | Form ↦ λ low bad. absurd (let never : ⊥ = omega arith in never)
    | Range ↦ λ low bad. absurd (let never : ⊥ = omega arith in never)
    | TooManyRounds ↦ λ low bad. absurd (let never : ⊥ = omega arith in never)
    | UnknownCache ↦ λ low bad. absurd (let never : ⊥ = omega arith in never)
    | ObjectTwice ↦ λ low bad. absurd (let never : ⊥ = omega arith in never)
    | UnknownObject ↦ λ low bad. absurd (let never : ⊥ = omega arith in never)
    | ReadBeforeWrite ↦ λ low bad. absurd (let never : ⊥ = omega arith in never)
    | NoEnd ↦ λ low bad. absurd (let never : ⊥ = omega arith in never)
  ];
}

judge_tells : (a : Above) (text : List ℕ) → IsModest a → Judges a text (judge a text)
unfolding judge
judge_tells a text modest = elim (cases_Bool (is_after a.place && not (is_passed text))) [
  | inl off ↦
      (let parts = and_parts (is_after a.place) (not (is_passed text)) off in
      rw off (first_after a text ((after_tells a.place).0 parts.0, λ passed. true≢false (sym (passed_test text passed) ∙ not-true (is_passed text) parts.1))))
  | inr on ↦
      rw on (judged_tells a text (line_of text) modest
      (λ off. false≢true (sym on ∙ and_from (is_after a.place) (not (is_passed text)) ((after_tells a.place).1 off.0)
      (not_from_false (is_passed text) (false_from_ne_true (is_passed text) (λ t. off.1 (test_passed text t)))))) refl)
]

-- ---- all lines

-- finished lines and what follows them, as bytes
spell : List (List ℕ) → List ℕ → List ℕ
spell [] rest = rest
spell (text ∷ texts) rest = text ++ 10 ∷ spell texts rest

AreOne : List (List ℕ) → Type 0
AreOne [] = Unit {0}
AreOne (text ∷ texts) = IsOneLine text × AreOne texts

byte_tells : (b : ℕ) (lines : List (List ℕ)) (rest : List ℕ) → b ≢ 10 → AreOne lines → IsOneLine rest
    → (b ∷ spell lines rest ≡ spell (with_byte b lines rest).0 (with_byte b lines rest).1) × AreOne (with_byte b lines rest).0 × IsOneLine (with_byte b lines rest).1
unfolding spell AreOne
byte_tells b [] rest apart ones one = (refl, tt, All-cons (λ c. c ≢ 10) b rest apart one)
byte_tells b (line ∷ lines) rest apart ones one = (refl, (All-cons (λ c. c ≢ 10) b line apart ones.0, ones.1), one)

-- cutting bytes into lines loses nothing
cut_tells : (bytes : List ℕ) → (bytes ≡ spell (cut_lines bytes).0 (cut_lines bytes).1) × AreOne (cut_lines bytes).0 × IsOneLine (cut_lines bytes).1
unfolding cut_lines spell AreOne
cut_tells [] = (refl, tt, All-nil (λ c. c ≢ 10))
cut_tells (b ∷ bs) =
    let more = cut_tells bs in
    elim (cases_Bool (eqb b 10)) [
      | inl feed ↦ rw feed (ap (λ c. c ∷ bs) (eqb-true b 10 feed) ∙ ap (λ t. 10 ∷ t) more.0, (All-nil (λ c. c ≢ 10), more.1), more.2)
      | inr apart ↦
          (let step = byte_tells b (cut_lines bs).0 (cut_lines bs).1 (eqb-false b 10 apart) more.1 more.2 in
          rw apart (ap (λ t. b ∷ t) more.0 ∙ step.0, step.1, step.2))
    ]

-- what is read is so
abbrev pub Agrees : List ℕ → Result Trace (ℕ × Why) → Type 0
Agrees bytes (Ok trace) = IsTrace bytes trace
Agrees bytes (Err fault) = IsFirstBad bytes fault.0 fault.1

end_tells : (bytes : List ℕ) (a : Above) (rest : List ℕ) → Went bytes rest a → IsOneLine rest → length bytes ≤ 16777216 → Agrees bytes (end_of a rest)
end_tells bytes a [] went one short = elim (cases_Bool (is_after a.place)) [
  | inl ended ↦ rw ended (tells_trace bytes a short (went_all bytes [] a went refl ((after_tells a.place).0 ended)))
  | inr on ↦ rw on (went_no_end bytes [] a (a.count + 1) went refl (λ ended. false≢true (sym on ∙ (after_tells a.place).1 ended)) refl)
]
end_tells bytes a (b ∷ rest) went one short = went_unfinished bytes (b ∷ rest) a (a.count + 1) went one (λ none. cc) refl

read_step : (bytes : List ℕ) (a : Above) (text : List ℕ) (texts : List (List ℕ)) (rest : List ℕ) (r : Result Line Why) → Went bytes (text ++ 10 ∷ spell texts rest) a → IsOneLine text → Judges a text r
    → ((line : Line) → Went bytes (spell texts rest) (after a line) → Agrees bytes (read_from (after a line) texts rest))
    → Agrees bytes (elim r [ Ok line ↦ read_from (after a line) texts rest | Err why ↦ Err (a.count + 1, why) ])
read_step bytes a text texts rest (Ok line) went one judges more =
    more line (leads_more start bytes (text ++ 10 ∷ spell texts rest) text (spell texts rest) a (after a line) went refl one (line, judges, refl))
read_step bytes a text texts rest (Err why) went one judges more =
    went_bad bytes (text ++ 10 ∷ spell texts rest) a (Finished text) (a.count + 1) why went (spell texts rest, refl, one) refl judges

read_tells : (bytes : List ℕ) (a : Above) (texts : List (List ℕ)) (rest : List ℕ) → Went bytes (spell texts rest) a → AreOne texts → IsOneLine rest → length bytes ≤ 16777216 → Agrees bytes (read_from a texts rest)
unfolding read_from spell AreOne
read_tells bytes a [] rest went ones one short = end_tells bytes a rest went one short
read_tells bytes a (text ∷ texts) rest went ones one short =
    read_step bytes a text texts rest (judge a text) went ones.0 (judge_tells a text (went_modest bytes (text ++ 10 ∷ spell texts rest) a went))
    (λ line w. read_tells bytes (after a line) texts rest w ones.1 one short)

reading_tells : (bytes : List ℕ) → length bytes ≤ 16777216 → Agrees bytes (reading bytes)
unfolding reading
reading_tells bytes short =
    let cut = cut_tells bytes in
    let went : Went bytes (spell (cut_lines bytes).0 (cut_lines bytes).1) start = subst (λ (b : List ℕ). Went bytes b start) cut.0 (went_start bytes start refl) in
    read_tells bytes start (cut_lines bytes).0 (cut_lines bytes).1 went cut.1 cut.2 short

-- ---- both ways

trace_is : (bytes : List ℕ) (r : Result Trace (ℕ × Why)) (trace : Trace) → Agrees bytes r → (r ≡ Ok trace → IsTrace bytes trace) × (IsTrace bytes trace → r ≡ Ok trace)
trace_is bytes (Ok found) trace agrees =
    (λ is. (let same : found ≡ trace = cc is in subst (λ (t : Trace). IsTrace bytes t) same agrees), λ is. ap (λ t. Ok t) (trace_once bytes trace found is agrees))
trace_is bytes (Err fault) trace agrees = (λ is. cc is, λ is. absurd (bad_no_trace bytes fault.0 fault.1 trace agrees is))

fault_is : (bytes : List ℕ) (r : Result Trace (ℕ × Why)) (number : ℕ) (why : Why) → Agrees bytes r → (r ≡ Err (number, why) → IsFirstBad bytes number why) × (IsFirstBad bytes number why → r ≡ Err (number, why))
fault_is bytes (Ok found) number why agrees = (λ is. cc is, λ is. absurd (bad_no_trace bytes number why found is agrees))
fault_is bytes (Err fault) number why agrees = (
  λ is. (let same : fault ≡ (number, why) = cc is in subst (λ (f : ℕ × Why). IsFirstBad bytes f.0 f.1) same agrees),
  λ is.
      (let once = bad_once bytes number fault.0 why fault.1 is agrees in
      ap (λ n. Err (n, fault.1)) once.0 ∙ ap (λ w. Err (number, w)) once.1),
)

-- the function reads a trace exactly where the bytes spell it
pub reads_trace : (bytes : List ℕ) → length bytes ≤ 16777216 → (trace : Trace) → (reading bytes ≡ Ok trace → IsTrace bytes trace) × (IsTrace bytes trace → reading bytes ≡ Ok trace)
reads_trace bytes short trace = trace_is bytes (reading bytes) trace (reading_tells bytes short)

-- and it finds a fault exactly where that is the first bad line
pub reads_fault : (bytes : List ℕ) → length bytes ≤ 16777216 → (number : ℕ) (why : Why) → (reading bytes ≡ Err (number, why) → IsFirstBad bytes number why) × (IsFirstBad bytes number why → reading bytes ≡ Err (number, why))
reads_fault bytes short number why = fault_is bytes (reading bytes) number why (reading_tells bytes short)
