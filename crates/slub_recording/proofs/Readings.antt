-- What comes of lines, and of the end of them.
use Rattle.std.proofs.Common.{◌≡◌, ℕ, ◌+◌, ◌<◌, ◌≤◌, Result, Ok, Err, Option, Some, None, List, [], ◌∷◌, length, refl, sym, subst, arith, inl, inr, length-append}
use Rattle.std.proofs.lemmas.Bool.{cases_Bool}
use Rattle.std.specs.List.{list_any}
use Rattle.std.specs.Str.{bytes_eq}
use Rattle.slub_recording.specs.declared.event.KmemEvent.{KmemEvent}
use Rattle.slub_recording.specs.declared.fault.LineFault.TheVariants.{Unfinished}
use Rattle.slub_recording.specs.declared.fault.RecordingFault.{RecordingFault}
use Rattle.slub_recording.specs.declared.fault.RecordingFault.TheVariants.{ReadFault, TooLong, TraceDat, PerfData, BadLine, NoKmemEvent, NoMemory}
use Rattle.slub_recording.specs.declared.line.Said.{Said}
use Rattle.slub_recording.specs.declared.line.Said.TheVariants.{Passed, Cpus, Buffer, Lost, Other, Kmem}
use Rattle.slub_recording.specs.declared.line.SaidAct.{SaidAct}
use Rattle.slub_recording.specs.declared.line.SaidAct.TheVariants as said
use Rattle.slub_recording.specs.declared.line.Time.{Time}
use Rattle.slub_recording.specs.declared.recording.Recording.{Recording}
use Rattle.slub_recording.specs.Recording.{Above, Recorded, recorded, start, after, recorded_after, with_text, sites_after, names_after, steps_back, is_before, with_some, end_of, read_from}
use Rattle.slub_recording.specs.State.{IsModest, read_below, IsFault, IsAnswer, Takes, Stops}
use Rattle.slub_recording.specs.Words.{split_at}
use Rattle.slub_recording.proofs.Splits.{lines_cut, lines_none}

-- ---- counts stay within the lines

pub modest_start : IsModest start
modest_start = record { few = omega arith; events = omega arith; sites = omega arith; names = omega arith; back = omega arith; others = omega arith }

-- a text more is one text more at most
text_more : (texts : List (List ℕ)) (text : List ℕ) → length (with_text texts text) ≤ length texts + 1
text_more texts text = elim (cases_Bool (list_any (bytes_eq text) texts)) [
  | inl there ↦ rw there (omega arith)
  | inr absent ↦ rw absent (omega (arith, length-append texts (text ∷ [])))
]

sites_more : (sites : List (List ℕ)) (act : SaidAct) → length (sites_after sites act) ≤ length sites + 1
sites_more sites (said.CacheAlloc asked slot site) = text_more sites site
sites_more sites (said.Kmalloc slot kind) = omega arith
sites_more sites (said.CacheFree name) = omega arith
sites_more sites said.Kfree = omega arith

names_more : (names : List (List ℕ)) (act : SaidAct) → length (names_after names act) ≤ length names + 1
names_more names (said.CacheAlloc asked slot site) = omega arith
names_more names (said.Kmalloc slot kind) = omega arith
names_more names (said.CacheFree None) = omega arith
names_more names (said.CacheFree (Some name)) = text_more names name
names_more names said.Kfree = omega arith

back_more : (time : Time) (last : Option Time) → steps_back time last ≤ 1
back_more time None = omega arith
back_more time (Some t) = elim (cases_Bool (is_before time t)) [
  | inl is ↦ rw is (omega arith)
  | inr is ↦ rw is (omega arith)
]

pub modest_after : (a : Above) (s : Said) → IsModest a → a.lines < 268435456 → IsModest (after a s)
unfolding recorded_after
modest_after a Passed modest room = record { few = omega arith; events = omega (arith, modest.events); sites = omega (arith, modest.sites); names = omega (arith, modest.names); back = omega (arith, modest.back); others = omega (arith, modest.others) }
modest_after a (Cpus cpus) modest room = record { few = omega arith; events = omega (arith, modest.events); sites = omega (arith, modest.sites); names = omega (arith, modest.names); back = omega (arith, modest.back); others = omega (arith, modest.others) }
modest_after a (Buffer overwritten cpus) modest room = record { few = omega arith; events = omega (arith, modest.events); sites = omega (arith, modest.sites); names = omega (arith, modest.names); back = omega (arith, modest.back); others = omega (arith, modest.others) }
modest_after a (Lost count) modest room = record { few = omega arith; events = omega (arith, modest.events); sites = omega (arith, modest.sites); names = omega (arith, modest.names); back = omega (arith, modest.back); others = omega (arith, modest.others) }
modest_after a (Other time) modest room = record { few = omega arith; events = omega (arith, modest.events); sites = omega (arith, modest.sites); names = omega (arith, modest.names); back = omega (arith, modest.back, back_more time a.time); others = omega (arith, modest.others) }
modest_after a (Kmem cpu time pointer act) modest room = record {
  few = omega arith;
  events = simp length-append (omega (arith, modest.events));
  sites = omega (arith, modest.sites, sites_more a.recorded.sites act);
  names = omega (arith, modest.names, names_more a.recorded.names act);
  back = omega (arith, modest.back, back_more time a.time);
  others = omega (arith, modest.others);
}

-- ---- lines

-- a good line in front leads on
pub takes_on : (a b : Above) (bytes text rest : List ℕ) → split_at 10 bytes ≡ Some (text, rest) → Takes a text b → read_below a bytes ≡ read_below b rest
unfolding read_from
takes_on a b bytes text rest cut takes =
    let lines = lines_cut bytes text rest cut in
    rw (lines, takes.1, read_from, takes.2) refl

-- a bad line in front is what is read
pub stops_at : (a : Above) (bytes text rest : List ℕ) (fault : RecordingFault) → split_at 10 bytes ≡ Some (text, rest) → Stops a text fault → IsFault (read_below a bytes) fault
unfolding read_from
stops_at a bytes text rest ReadFault cut stops = absurd stops
stops_at a bytes text rest TooLong cut stops = absurd stops
stops_at a bytes text rest TraceDat cut stops = absurd stops
stops_at a bytes text rest PerfData cut stops = absurd stops
stops_at a bytes text rest (BadLine line why) cut stops =
    let lines = lines_cut bytes text rest cut in
    rw (lines, stops.0, read_from, stops.1) refl
stops_at a bytes text rest NoKmemEvent cut stops = absurd stops
stops_at a bytes text rest NoMemory cut stops = tt

-- where no line is finished, the end is read
pub ends_below : (a : Above) (bytes : List ℕ) → split_at 10 bytes ≡ None → read_below a bytes ≡ end_of a bytes
unfolding read_from
ends_below a bytes none = let lines = lines_none bytes none in rw lines refl

-- a fault stays one of what is read
pub fault_from : (read other : Result Recorded RecordingFault) (fault : RecordingFault) → read ≡ other → IsFault other fault → IsFault read fault
fault_from read other fault same is = subst (λ r. IsFault r fault) (sym same) is

-- ---- the end

-- the events that are recorded
pub events_recorded : (r : Recording) → (recorded r).events ≡ r.events
unfolding recorded
events_recorded r = refl

pub end_cut : (a : Above) (rest : List ℕ) → (length rest ≡ 0 → ⊥) → end_of a rest ≡ Err (BadLine (a.lines + 1) Unfinished)
end_cut a [] some = absurd (some refl)
end_cut a (b ∷ bs) some = refl

some_events : (r : Recorded) (events : List KmemEvent) → (events ≡ [] → ⊥) → with_some r events ≡ Ok r
some_events r [] some = absurd (some refl)
some_events r (e ∷ es) some = refl

pub end_empty : (a : Above) (rest : List ℕ) → length rest ≡ 0 → a.recorded.events ≡ [] → end_of a rest ≡ Err NoKmemEvent
end_empty a [] none empty = rw empty refl
end_empty a (b ∷ bs) none empty = absurd (let never : ⊥ = omega arith in never)

pub end_whole : (a : Above) (rest : List ℕ) → length rest ≡ 0 → (a.recorded.events ≡ [] → ⊥) → end_of a rest ≡ Ok a.recorded
end_whole a [] none some = some_events a.recorded a.recorded.events some
end_whole a (b ∷ bs) none some = absurd (let never : ⊥ = omega arith in never)

-- what a line more leaves stays modest
pub modest_parts : (a : Above) (s : Said) (lines : ℕ) (time : Option Time) (r : Recorded) → lines ≡ a.lines + 1 → r ≡ recorded_after a s → IsModest a → a.lines < 268435456 → IsModest (record { lines = lines; time = time; recorded = r })
modest_parts a s lines time r counted is modest room =
    let more = modest_after a s modest room in
    let P : ℕ → Recorded → Type 0 = λ n x. IsModest (record { lines = n; time = time; recorded = x }) in
    subst (λ n. P n r) (sym counted) (subst (λ x. P (a.lines + 1) x) (sym is) (record { few = more.few; events = more.events; sites = more.sites; names = more.names; back = more.back; others = more.others }))

-- an answer stays one of what is read
pub answer_from : (read other : Result Recorded RecordingFault) (r : Result Recording RecordingFault) → read ≡ other → IsAnswer other r → IsAnswer read r
answer_from read other r same is = subst (λ x. IsAnswer x r) (sym same) is
