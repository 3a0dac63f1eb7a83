-- Events are counted by the lines that say them.
use Rattle.std.proofs.Common.{◌≡◌, ℕ, ◌+◌, cond, Result, Ok, Err, List, [], ◌∷◌, length, refl, ap, ◌∙◌, arith, inl, inr, length-append, is_some}
use Rattle.std.proofs.lemmas.Bool.{cases_Bool}
use Rattle.std.proofs.lemmas.List.Sums.{sum_by-cons}
use Rattle.slub_recording.specs.declared.event.KmemEvent.{KmemEvent}
use Rattle.slub_recording.specs.declared.fault.LineFault.{LineFault}
use Rattle.slub_recording.specs.declared.fault.RecordingFault.TheVariants.{TraceDat, PerfData, BadLine}
use Rattle.slub_recording.specs.declared.line.Said.{Said}
use Rattle.slub_recording.specs.declared.line.Said.TheVariants.{Passed, Cpus, Buffer, Lost, Other, Kmem}
use Rattle.slub_recording.specs.Recording.{Above, Recorded, start, after, recorded_after, with_some, read_from, reading, is_kmem, kmem_lines, trace_dat, perf_data}
use Rattle.slub_common.specs.Lines.{cut_lines}
use Rattle.slub_recording.specs.Says.{says}
use Rattle.slub_recording.specs.Words.{strip}

-- how many events a line is
events_of : Result Said LineFault → ℕ
events_of s = cond (is_kmem s) 1 0

event_more : (a : Above) (s : Said) → length (recorded_after a s).events ≡ length a.recorded.events + events_of (Ok s)
unfolding recorded_after events_of
event_more a Passed = omega arith
event_more a (Cpus cpus) = omega arith
event_more a (Buffer overwritten cpus) = omega arith
event_more a (Lost count) = omega arith
event_more a (Other time) = omega arith
event_more a (Kmem cpu time pointer act) = simp length-append (omega arith)

-- a line more
lines_more : (text : List ℕ) (texts : List (List ℕ)) (s : Said) → says text ≡ Ok s → kmem_lines (text ∷ texts) ≡ events_of (Ok s) + kmem_lines texts
unfolding events_of
lines_more text texts s is =
    sum_by-cons (λ t. cond (is_kmem (says t)) 1 0) text texts ∙ ap (λ v. cond (is_kmem v) 1 0 + kmem_lines texts) is

pub some_is : (r s : Recorded) (events : List KmemEvent) → with_some r events ≡ Ok s → r ≡ s
some_is r s [] is = cc
some_is r s (e ∷ es) is = cc

counted : (a : Above) (texts : List (List ℕ)) (rest : List ℕ) (r : Recorded) → read_from a texts rest ≡ Ok r → length r.events ≡ length a.recorded.events + kmem_lines texts
unfolding read_from
counted a [] [] r is =
    let same = some_is a.recorded r a.recorded.events is in
    let events = ap (λ x. length x.events) same in
    omega (arith, events)
counted a [] (b ∷ bs) r is = cc
counted a (text ∷ texts) rest r is = by (says text) refl (λ b h. counted b texts rest r h)
  where
    by : (said : Result Said LineFault) → says text ≡ said → ((b : Above) → read_from b texts rest ≡ Ok r → length r.events ≡ length b.recorded.events + kmem_lines texts) → length r.events ≡ length a.recorded.events + kmem_lines (text ∷ texts)
    by (Err why) says_is behind = (let never : Err (BadLine (a.lines + 1) why) ≡ Ok r = rw (says_is, read_from) at is in cc)
    by (Ok s) says_is behind =
        let more : read_from (after a s) texts rest ≡ Ok r = rw (says_is, read_from) at is in
        let counts = behind (after a s) more in
        omega (arith, counts, event_more a s, lines_more text texts s says_is)

-- where a recording is read, its lines are
pub lines_read : (bytes : List ℕ) (r : Recorded) → reading bytes ≡ Ok r → read_from start (cut_lines bytes).0 (cut_lines bytes).1 ≡ Ok r
unfolding reading
lines_read bytes r is = elim (cases_Bool (is_some (strip trace_dat bytes))) [
  | inl dat ↦ (let never : Err TraceDat ≡ Ok r = rw dat at is in cc)
  | inr other ↦ elim (cases_Bool (is_some (strip perf_data bytes))) [
    | inl dat ↦ (let never : Err PerfData ≡ Ok r = rw (other, dat) at is in cc)
    | inr text ↦ rw (other, text) at is
  ]
]

pub events_counted : (bytes : List ℕ) (r : Recorded) → reading bytes ≡ Ok r → length r.events ≡ kmem_lines (cut_lines bytes).0
events_counted bytes r is =
    let all = counted start (cut_lines bytes).0 (cut_lines bytes).1 r (lines_read bytes r is) in
    omega (arith, all)
