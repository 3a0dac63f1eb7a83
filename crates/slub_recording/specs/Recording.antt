-- The recording that bytes spell.
use Rattle.std.specs.Prelude.{ℕ, ◌+◌, ◌-◌, ◌^◌, ◌==◌, Bool, true, false, ◌&&◌, ◌||◌, nat_lt, min, max, List, [], ◌∷◌, ◌++◌, Option, Some, None, Result, Ok, Err, is_some, if◌then◌else◌, codes, count_by}
use Rattle.std.specs.List.{list_any, position_or_len}
use Rattle.std.specs.Str.{bytes_eq}
use Rattle.slub_recording.specs.declared.event.KmemAct.{KmemAct}
use Rattle.slub_recording.specs.declared.event.KmemAct.TheVariants as act
use Rattle.slub_recording.specs.declared.event.KmemEvent.{KmemEvent}
use Rattle.slub_recording.specs.declared.fault.LineFault.{LineFault}
use Rattle.slub_recording.specs.declared.fault.LineFault.TheVariants.{Unfinished}
use Rattle.slub_recording.specs.declared.fault.RecordingFault.{RecordingFault}
use Rattle.slub_recording.specs.declared.fault.RecordingFault.TheVariants.{TraceDat, PerfData, BadLine, NoKmemEvent}
use Rattle.slub_recording.specs.declared.line.Time.{Time}
use Rattle.slub_recording.specs.declared.line.SaidAct.{SaidAct}
use Rattle.slub_recording.specs.declared.line.SaidAct.TheVariants as said
use Rattle.slub_recording.specs.declared.line.Said.{Said}
use Rattle.slub_recording.specs.declared.line.Said.TheVariants.{Passed, Cpus, Buffer, Lost, Other, Kmem}
use Rattle.slub_recording.specs.declared.recording.Recording.{Recording}
use Rattle.slub_recording.specs.Says.{says}
use Rattle.slub_recording.specs.Words.{strip}
use Rattle.slub_common.specs.Lines.{cut_lines}

-- ---- texts at places

-- the place of a text among texts that are each there once, or how many they are
abbrev pub place_of : List ℕ → List (List ℕ) → ℕ
place_of text texts = position_or_len (bytes_eq text) texts

-- the texts with this one: at the end, unless it is among them
abbrev pub with_text : List (List ℕ) → List ℕ → List (List ℕ)
with_text texts text = if list_any (bytes_eq text) texts then texts else texts ++ text ∷ []

-- ---- what lines say together

-- what a caller sees of a recording
pub record Recorded : Type 0 where
  pub events : List KmemEvent
  pub sites : List (List ℕ)
  pub names : List (List ℕ)
  pub told_cpus : Option ℕ
  pub greatest_cpu : ℕ
  pub overwritten : ℕ
  pub lost : ℕ
  pub back : ℕ
  pub others : ℕ

-- what it holds
unfoldable pub recorded : Recording → Recorded
recorded r = record {
  events = r.events;
  sites = r.sites.keys;
  names = r.names.keys;
  told_cpus = r.told_cpus;
  greatest_cpu = r.greatest_cpu;
  overwritten = r.overwritten;
  lost = r.lost;
  back = r.back;
  others = r.others;
}

-- nothing is recorded
abbrev pub empty : Recorded
empty = record {
  events = [];
  sites = [];
  names = [];
  told_cpus = None;
  greatest_cpu = 0;
  overwritten = 0;
  lost = 0;
  back = 0;
  others = 0;
}

-- a sum of 64 bits, or the greatest number of them
abbrev pub capped_sum : ℕ → ℕ → ℕ
capped_sum a b = min (a + b) (2 ^ 64 - 1)

-- one time is before another
abbrev pub is_before : Time → Time → Bool
is_before t u = nat_lt t.whole u.whole || (t.whole == u.whole && nat_lt t.part u.part)

-- 1 where an event is before the one above it
abbrev pub steps_back : Time → Option Time → ℕ
steps_back t None = 0
steps_back t (Some last) = if is_before t last then 1 else 0

-- the sites with that of an act
abbrev pub sites_after : List (List ℕ) → SaidAct → List (List ℕ)
sites_after sites (said.CacheAlloc asked slot site) = with_text sites site
sites_after sites (said.Kmalloc slot kind) = sites
sites_after sites (said.CacheFree name) = sites
sites_after sites said.Kfree = sites

-- the names with that of an act
abbrev pub names_after : List (List ℕ) → SaidAct → List (List ℕ)
names_after names (said.CacheAlloc asked slot site) = names
names_after names (said.Kmalloc slot kind) = names
names_after names (said.CacheFree None) = names
names_after names (said.CacheFree (Some name)) = with_text names name
names_after names said.Kfree = names

-- an act, by the places that its texts have or get
abbrev pub act_of : List (List ℕ) → List (List ℕ) → SaidAct → KmemAct
act_of sites names (said.CacheAlloc asked slot site) =
    act.CacheAlloc asked slot (place_of site sites)
act_of sites names (said.Kmalloc slot kind) = act.Kmalloc slot kind
act_of sites names (said.CacheFree None) = act.CacheFree None
act_of sites names (said.CacheFree (Some name)) = act.CacheFree (Some (place_of name names))
act_of sites names said.Kfree = act.Kfree

-- the event that is recorded next
abbrev pub event_of : Recorded → ℕ → ℕ → SaidAct → KmemEvent
event_of r cpu pointer act =
    record { pointer = pointer; cpu = cpu; act = act_of r.sites r.names act }

-- what is recorded after one event more
abbrev pub with_event : Recorded → ℕ → ℕ → SaidAct → Recorded
with_event r cpu pointer act = record r {
  events = r.events ++ event_of r cpu pointer act ∷ [];
  sites = sites_after r.sites act;
  names = names_after r.names act;
  greatest_cpu = max r.greatest_cpu cpu;
}

-- what some lines say: how many there are, the time of the last event among them, and what is
-- recorded
pub record Above : Type 0 where
  pub lines : ℕ
  pub time : Option Time
  pub recorded : Recorded

-- no lines
abbrev pub start : Above
start = record { lines = 0; time = None; recorded = empty }

-- what is recorded after one line more
unfoldable pub recorded_after : Above → Said → Recorded
recorded_after a Passed = a.recorded
recorded_after a (Cpus cpus) = record a.recorded { told_cpus = Some cpus }
recorded_after a (Buffer overwritten cpus) = record a.recorded {
  told_cpus = Some cpus;
  overwritten = capped_sum a.recorded.overwritten overwritten;
}
recorded_after a (Lost count) = record a.recorded { lost = capped_sum a.recorded.lost count }
recorded_after a (Other time) = record a.recorded {
  back = a.recorded.back + steps_back time a.time;
  others = a.recorded.others + 1;
}
recorded_after a (Kmem cpu time pointer act) =
    record (with_event a.recorded cpu pointer act) {
      back = a.recorded.back + steps_back time a.time;
    }

-- the time of the last event after one line more
abbrev pub time_after : Option Time → Said → Option Time
time_after last Passed = last
time_after last (Cpus cpus) = last
time_after last (Buffer overwritten cpus) = last
time_after last (Lost count) = last
time_after last (Other time) = Some time
time_after last (Kmem cpu time pointer act) = Some time

-- what is said after one line more
abbrev pub after : Above → Said → Above
after a s = record {
  lines = a.lines + 1;
  time = time_after a.time s;
  recorded = recorded_after a s;
}

-- ---- all bytes

-- a recording has events
abbrev pub with_some : Recorded → List KmemEvent → Result Recorded RecordingFault
with_some r [] = Err NoKmemEvent
with_some r (e ∷ es) = Ok r

-- what is read of the bytes behind the last line feed: there may be none
abbrev pub end_of : Above → List ℕ → Result Recorded RecordingFault
end_of a [] = with_some a.recorded a.recorded.events
end_of a (b ∷ bs) = Err (BadLine (a.lines + 1) Unfinished)

-- what is read of lines below others, and of the bytes behind them: the first bad line and its
-- first reason, or what is recorded
unfoldable pub read_from : Above → List (List ℕ) → List ℕ → Result Recorded RecordingFault
read_from a [] rest = end_of a rest
read_from a (text ∷ texts) rest = elim (says text) [
  | Ok s ↦ read_from (after a s) texts rest
  | Err why ↦ Err (BadLine (a.lines + 1) why)
]

-- how the file of `trace-cmd record` begins
abbrev pub trace_dat : List ℕ
trace_dat = 23 ∷ 8 ∷ 68 ∷ codes "tracing"

-- how the file of `perf record` begins
abbrev pub perf_data : List ℕ
perf_data = codes "PERFILE2"

-- the recording that the bytes spell, or why they spell none
unfoldable pub reading : List ℕ → Result Recorded RecordingFault
reading bytes =
    if is_some (strip trace_dat bytes) then Err TraceDat
    else (if is_some (strip perf_data bytes) then Err PerfData
    else read_from start (cut_lines bytes).0 (cut_lines bytes).1)

-- ---- for the law on counts

-- a line is an event of the four kinds
abbrev pub is_kmem : Result Said LineFault → Bool
is_kmem (Err why) = false
is_kmem (Ok Passed) = false
is_kmem (Ok (Cpus cpus)) = false
is_kmem (Ok (Buffer overwritten cpus)) = false
is_kmem (Ok (Lost count)) = false
is_kmem (Ok (Other time)) = false
is_kmem (Ok (Kmem cpu time pointer act)) = true

-- how many lines are
abbrev pub kmem_lines : List (List ℕ) → ℕ
kmem_lines texts = count_by (λ text. is_kmem (says text)) texts
