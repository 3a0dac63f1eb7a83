-- Reading as a function on lists of bytes, which says the trace or the first fault.
use Rattle.std.specs.Prelude.{ℕ, ◌+◌, ◌-◌, ◌%◌, ◌==◌, Bool, true, false, not, ◌&&◌, List, [], ◌∷◌, Option, None, Some, Result, Ok, Err, nat_eq, nat_le, nat_lt, if◌then◌else◌}
use Rattle.std.specs.List.{list_all, list_any}
use Rattle.std.specs.Str.{bytes_eq}
use Rattle.slub_trace_reader.specs.declared.client.ClientLine.{ClientLine}
use Rattle.slub_trace_reader.specs.declared.client.ClientLine.TheVariants.{Kmalloc, Kget, Krealloc, Bulk, Bulkfree, Mempool, Mget, Mput}
use Rattle.slub_trace_reader.specs.declared.line.Line.{Line}
use Rattle.slub_trace_reader.specs.declared.line.Line.TheVariants.{Passed, Slubtrace, Machine, Cache, Shrink, Destroy, Tune, Slabinfo, Client, Round, Alloc, Free, Write, Read, Poke, Trim, Flush, Done, End}
use Rattle.slub_trace_reader.specs.declared.place.Place.{Place}
use Rattle.slub_trace_reader.specs.declared.place.Place.TheVariants.{First, Second, Between, Within, After}
use Rattle.slub_trace_reader.specs.declared.reading.Why.{Why}
use Rattle.slub_trace_reader.specs.declared.reading.Why.TheVariants.{Unfinished, AfterEnd, Form, Range, TooManyRounds, UnknownCache, ObjectTwice, UnknownObject, ReadBeforeWrite, NoEnd}
use Rattle.slub_trace.specs.declared.trace.Trace.{Trace}
use Rattle.slub_trace_reader.specs.Above.{Above, start, after, trace_of, workers_in, is_spot}
use Rattle.slub_trace_reader.specs.Forms.{is_passed, line_of}
use Rattle.slub_trace.specs.Ranges.{step_of}
use Rattle.slub_trace_reader.specs.Numbers.{allocates, needs}
use Rattle.slub_common.specs.Lines.{with_byte, cut_lines}

-- ---- tests

abbrev pub is_first : Place → Bool
is_first First = true
is_first Second = false
is_first Between = false
is_first (Within workers) = false
is_first After = false

abbrev pub is_second : Place → Bool
is_second First = false
is_second Second = true
is_second Between = false
is_second (Within workers) = false
is_second After = false

abbrev pub is_between : Place → Bool
is_between First = false
is_between Second = false
is_between Between = true
is_between (Within workers) = false
is_between After = false

abbrev pub is_in_round : Place → Bool
is_in_round First = false
is_in_round Second = false
is_in_round Between = false
is_in_round (Within workers) = true
is_in_round After = false

abbrev pub is_after : Place → Bool
is_after First = false
is_after Second = false
is_after Between = false
is_after (Within workers) = false
is_after After = true

unfoldable pub may_stand : Line → ℕ → Place → Bool
may_stand Passed version place = true
may_stand (Slubtrace named) version place = is_first place
may_stand (Machine frames cpus tid) version place = is_second place
may_stand (Cache name size align flags) version place = is_between place
may_stand (Shrink name) version place = is_between place
may_stand (Destroy name) version place = is_between place
may_stand (Tune name knob number) version place = nat_le 2 version && is_between place
may_stand Slabinfo version place = is_between place
may_stand (Client line) version place = nat_le 3 version && is_between place
may_stand (Round workers) version place = is_between place
may_stand (Alloc worker cpu name object) version place = is_in_round place
may_stand (Free worker cpu object) version place = is_in_round place
may_stand (Write worker object word value) version place = is_in_round place
may_stand (Read worker object word) version place = is_in_round place
may_stand (Poke worker object negative offset byte) version place = is_in_round place
may_stand (Trim worker name) version place = nat_le 4 version && is_in_round place
may_stand (Flush worker cpu) version place = nat_le 4 version && is_in_round place
may_stand Done version place = is_in_round place
may_stand End version place = is_between place

abbrev pub is_tid : ℕ → Option ℕ → Bool
is_tid cpus None = true
is_tid cpus (Some tid) = (tid % step_of cpus == 0) && nat_le (tid + step_of cpus) 4294967296

abbrev pub is_object : ℕ → Bool
is_object object = nat_le 1 object && nat_le object 1048576

abbrev pub is_offset : Bool → ℕ → Bool
is_offset true size = nat_le size 32768
is_offset false size = nat_le size 32767

abbrev pub are_objects : ℕ → ℕ → ℕ → Bool
are_objects most first count =
    is_object first && nat_le 1 count && nat_le count most && nat_le (first + count - 1) 1048576

abbrev pub is_asked_size : ℕ → Bool
is_asked_size size = nat_le 1 size && nat_le size 4294967295

unfoldable pub client_in_range : Above → ClientLine → Bool
client_in_range a Kmalloc = true
client_in_range a (Kget cpu size object) =
    nat_lt cpu a.cpus && is_asked_size size && is_object object
client_in_range a (Krealloc cpu object size fresh) =
    nat_lt cpu a.cpus && is_object object && is_asked_size size && is_object fresh
client_in_range a (Bulk cpu name first count) = nat_lt cpu a.cpus && are_objects 1024 first count
client_in_range a (Bulkfree cpu first count) = nat_lt cpu a.cpus && are_objects 1024 first count
client_in_range a (Mempool pool name min first) = are_objects 64 first min
client_in_range a (Mget cpu pool object) = nat_lt cpu a.cpus && is_object object
client_in_range a (Mput cpu pool object) = nat_lt cpu a.cpus && is_object object

unfoldable pub in_range : Above → Line → Bool
in_range a Passed = true
in_range a (Slubtrace version) = true
in_range a (Machine frames cpus tid) =
    nat_le 2 frames && nat_le frames 4096 && nat_le 1 cpus && nat_le cpus 16 && is_tid cpus tid
in_range a (Cache name size align flags) = nat_le size 4294967295 && nat_le align 4294967295
in_range a (Shrink name) = true
in_range a (Destroy name) = true
in_range a (Tune name knob number) = nat_le number 4096
in_range a Slabinfo = true
in_range a (Client line) = client_in_range a line
in_range a (Round workers) = nat_le 1 workers && nat_le workers 16
in_range a (Alloc worker cpu name object) =
    nat_lt worker (workers_in a.place) && nat_lt cpu a.cpus && is_object object
in_range a (Free worker cpu object) =
    nat_lt worker (workers_in a.place) && nat_lt cpu a.cpus && is_object object
in_range a (Write worker object word value) =
    nat_lt worker (workers_in a.place) && is_object object && nat_le word 4095
    && nat_le value 18446744073709551615
in_range a (Read worker object word) =
    nat_lt worker (workers_in a.place) && is_object object && nat_le word 4095
in_range a (Poke worker object negative offset byte) =
    nat_lt worker (workers_in a.place) && is_object object && is_offset negative offset
in_range a (Trim worker name) = nat_lt worker (workers_in a.place)
in_range a (Flush worker cpu) = nat_lt worker (workers_in a.place) && nat_lt cpu a.cpus
in_range a Done = true
in_range a End = true

unfoldable pub has_room : Above → Line → Bool
has_room a (Round workers) = nat_le (a.rounds + 1) 256
has_room a (Client line) = nat_le (a.rounds + 2) 256
has_room a _ = true

abbrev pub is_named : List ℕ → List (List ℕ) → Bool
is_named name names = list_any (bytes_eq name) names

unfoldable pub has_source : Above → ClientLine → Bool
has_source a Kmalloc = true
has_source a (Kget cpu size object) = a.kmalloc
has_source a (Krealloc cpu object size fresh) = a.kmalloc
has_source a (Bulk cpu name first count) = is_named name a.names
has_source a (Bulkfree cpu first count) = true
has_source a (Mempool pool name min first) = is_named name a.names
has_source a (Mget cpu pool object) = is_named pool a.pools
has_source a (Mput cpu pool object) = is_named pool a.pools

unfoldable pub has_cache : Above → Line → Bool
has_cache a (Shrink name) = is_named name a.names
has_cache a (Destroy name) = is_named name a.names
has_cache a (Tune name knob number) = is_named name a.names
has_cache a (Client line) = has_source a line
has_cache a (Alloc worker cpu name object) = is_named name a.names
has_cache a (Trim worker name) = is_named name a.names
has_cache a _ = true

-- none of these numbers is allocated above
abbrev pub are_fresh : Above → List ℕ → Bool
are_fresh a objects = list_all (λ object. not (list_any (nat_eq object) a.objects)) objects

-- each of these numbers is
abbrev pub are_known : Above → List ℕ → Bool
are_known a objects = list_all (λ object. list_any (nat_eq object) a.objects) objects

unfoldable pub is_written : Above → Line → Bool
is_written a (Read worker object word) = list_any (is_spot (worker, object, word)) a.written
is_written a _ = true

-- ---- one line

-- the first reason of those whose tests fail
abbrev pub first_of : Bool → Bool → Bool → Bool → Bool → Bool → Bool → Option Why
first_of stands range room named fresh known written =
    if not stands then Some Form
    else (if not range then Some Range
    else (if not room then Some TooManyRounds
    else (if not named then Some UnknownCache
    else (if not fresh then Some ObjectTwice
    else (if not known then Some UnknownObject
    else (if not written then Some ReadBeforeWrite else None))))))

-- the first thing that a line lacks
unfoldable pub lack_of : Above → Line → Option Why
lack_of a line =
    first_of (may_stand line a.version a.place) (in_range a line) (has_room a line)
    (has_cache a line) (are_fresh a (allocates line))
    (are_known a (needs line)) (is_written a line)

abbrev pub good_or : Line → Option Why → Result Line Why
good_or line None = Ok line
good_or line (Some why) = Err why

abbrev pub judged : Above → Option Line → Result Line Why
judged a None = Err Form
judged a (Some line) = good_or line (lack_of a line)

-- the line that a text says below lines that say this, or its first reason
unfoldable pub judge : Above → List ℕ → Result Line Why
judge a text =
    if is_after a.place && not (is_passed text) then Err AfterEnd else judged a (line_of text)

-- ---- all lines

-- what is read of the bytes behind the last line feed
abbrev pub end_of : Above → List ℕ → Result Trace (ℕ × Why)
end_of a [] = if is_after a.place then Ok (trace_of a) else Err (a.count + 1, NoEnd)
end_of a (b ∷ bs) = Err (a.count + 1, Unfinished)

-- what is read of lines and of the bytes behind them
unfoldable pub read_from : Above → List (List ℕ) → List ℕ → Result Trace (ℕ × Why)
read_from a [] rest = end_of a rest
read_from a (text ∷ texts) rest = elim (judge a text) [
  | Ok line ↦ read_from (after a line) texts rest
  | Err why ↦ Err (a.count + 1, why)
]

-- the trace that the bytes spell, or the first bad line and the first reason that it is bad for
unfoldable pub reading : List ℕ → Result Trace (ℕ × Why)
reading bytes = read_from start (cut_lines bytes).0 (cut_lines bytes).1
