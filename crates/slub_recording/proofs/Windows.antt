-- What comes of a source that is read by a window.
use Rattle.std.proofs.Common.{◌≡◌, ℕ, ◌+◌, ◌-◌, ◌≤◌, true, false, Result, Ok, Err, Option, Some, None, Bor, is_some, List, [], ◌∷◌, ◌++◌, length, drop, append_assoc, append-nil, length-append, refl, sym, ap, ◌∙◌, subst, arith, eqb, inl, inr}
use Rattle.std.specs.Prelude.{IfOk}
use Rattle.std.specs.Io.KnownBytes.{Consumes, IsAtEnd}
use Rattle.std.proofs.KnownBytes.{Consumes-nil, Consumes-trans}
use Rattle.std.proofs.lemmas.List.{drop_at}
use Rattle.std.proofs.lemmas.Bool.{cases_Bool, eqb-true, true≢false, false≢true}
use Rattle.slub_edges.specs.declared.reading.ReadAllFault.{ReadAllFault}
use Rattle.slub_edges.specs.declared.reading.ReadAllFault.TheVariants as all
use Rattle.slub_edges.specs.Edges.{Rose}
use Rattle.slub_edges.specs.Window.{Grows, StopsRead}
use Rattle.slub_edges.proofs.Told.{Consumes-whole, Consumes-longer}
use Rattle.slub_recording.specs.declared.fault.RecordingFault.{RecordingFault}
use Rattle.slub_recording.specs.declared.fault.RecordingFault.TheVariants.{ReadFault, TooLong, TraceDat, PerfData, BadLine, NoKmemEvent, NoMemory}
use Rattle.slub_recording.specs.declared.recording.Recording.{Recording}
use Rattle.slub_recording.specs.Reads.{Reads, Spells}
use Rattle.slub_recording.specs.Recording.{Above, Recorded, recorded, start, reading, trace_dat, perf_data}
use Rattle.slub_recording.specs.Sound.{IsSound}
use Rattle.slub_recording.specs.State.{IsAnswer, IsFault, Stops, Takes, read_below}
use Rattle.slub_recording.specs.Texts.{fault_of_source}
use Rattle.slub_recording.specs.Window.{EndsOn, Leads, Passes, ReadsOn, Refuses, Stands}
use Rattle.slub_recording.specs.Words.{Gives, split_at, strip}
use Rattle.slub_recording.proofs.Fronts.{cases_Option, same_pair}
use Rattle.slub_recording.proofs.Readings.{fault_from, stops_at, takes_on}
use Rattle.slub_recording.proofs.Soundness.{sound_reading}

-- ---- lines in front of bytes, whatever follows

-- a cut stays where it is
split_more : (bytes text rest more : List ℕ) → split_at 10 bytes ≡ Some (text, rest) → split_at 10 (bytes ++ more) ≡ Some (text, rest ++ more)
unfolding split_at
split_more [] text rest more is = absurd (let never : None ≡ Some (text, rest) = is in cc)
split_more (c ∷ cs) text rest more is = elim (cases_Bool (eqb c 10)) [
  | inl same ↦
      (let at : Some ([], cs) ≡ Some (text, rest) = rw same at is in
      let pair = same_pair ([], cs) (text, rest) at in
      rw (same, ← pair.0, ← pair.1) refl)
  | inr other ↦ elim (cases_Option (split_at 10 cs)) [
    | inl none ↦ (let never : None ≡ Some (text, rest) = rw (other, none) at is in cc)
    | inr found ↦
        (let at : Some (c ∷ found.0.0, found.0.1) ≡ Some (text, rest) = rw (other, found.1) at is in
        let pair = same_pair (c ∷ found.0.0, found.0.1) (text, rest) at in
        let on = split_more cs found.0.0 found.0.1 more found.1 in
        rw (other, on, ← pair.0, ← pair.1) refl)
  ]
]

-- a mark stands between a text and what follows it
split_whole : (bytes text rest : List ℕ) → split_at 10 bytes ≡ Some (text, rest) → bytes ≡ text ++ 10 ∷ rest
unfolding split_at
split_whole [] text rest is = absurd (let never : None ≡ Some (text, rest) = is in cc)
split_whole (c ∷ cs) text rest is = elim (cases_Bool (eqb c 10)) [
  | inl same ↦
      (let at : Some ([], cs) ≡ Some (text, rest) = rw same at is in
      let pair = same_pair ([], cs) (text, rest) at in
      rw (eqb-true c 10 same, ← pair.0, ← pair.1) refl)
  | inr other ↦ elim (cases_Option (split_at 10 cs)) [
    | inl none ↦ (let never : None ≡ Some (text, rest) = rw (other, none) at is in cc)
    | inr found ↦
        (let at : Some (c ∷ found.0.0, found.0.1) ≡ Some (text, rest) = rw (other, found.1) at is in
        let pair = same_pair (c ∷ found.0.0, found.0.1) (text, rest) at in
        rw (← pair.0, ← pair.1) (ap (λ b. c ∷ b) (split_whole cs found.0.0 found.0.1 found.1)))
  ]
]

pub leads_none : (a : Above) (bytes : List ℕ) → Leads a bytes bytes a
leads_none a bytes = record { front = []; whole = refl; reads = λ more. refl }

-- one line more
pub leads_line : (s a b : Above) (bytes rest text behind : List ℕ) → Leads s bytes rest a → split_at 10 rest ≡ Some (text, behind) → Takes a text b → Leads s bytes behind b
leads_line s a b bytes rest text behind leads cut takes = record {
  front = leads.front ++ (text ++ 10 ∷ []);
  whole = leads.whole ∙ ap (λ r. leads.front ++ r) (split_whole rest text behind cut ∙ sym (append_assoc text (10 ∷ []) behind)) ∙ sym (append_assoc leads.front (text ++ 10 ∷ []) behind);
  reads = λ more. leads.reads more ∙ takes_on a b (rest ++ more) text (behind ++ more) (split_more rest text behind more cut) takes;
}

-- the next one is bad
pub refuses_line : (s a : Above) (bytes rest text behind : List ℕ) (fault : RecordingFault) → Leads s bytes rest a → split_at 10 rest ≡ Some (text, behind) → Stops a text fault → Refuses (read_below s) bytes fault
refuses_line s a bytes rest text behind fault leads cut stops more =
    fault_from _ _ fault (leads.reads more) (stops_at a (rest ++ more) text (behind ++ more) fault (split_more rest text behind more cut) stops)

-- what is left is the last of the bytes
pub rest_kept : (s a : Above) (bytes rest : List ℕ) → Leads s bytes rest a → (length rest ≤ length bytes) × (drop (length bytes - length rest) bytes ≡ rest)
rest_kept s a bytes rest leads =
    let long = ap length leads.whole in
    let sum = length-append leads.front rest in
    let count : length bytes - length rest ≡ length leads.front = omega (arith, long, sum) in (
      omega (arith, long, sum),
      rw count (ap (drop (length leads.front)) leads.whole ∙ drop_at leads.front rest (length leads.front) refl),
    )

-- nothing follows
pub leads_whole : (a b : Above) (bytes rest : List ℕ) → Leads a bytes rest b → read_below a bytes ≡ read_below b rest
leads_whole a b bytes rest leads =
    ap (read_below a) (sym (append-nil bytes)) ∙ leads.reads [] ∙ ap (read_below b) (append-nil rest)

pub refuses_whole : (reads : List ℕ → Result Recorded RecordingFault) (bytes : List ℕ) (fault : RecordingFault) → Refuses reads bytes fault → IsFault (reads bytes) fault
refuses_whole reads bytes fault refuses = subst (λ (b : List ℕ). IsFault (reads b) fault) (append-nil bytes) (refuses [])

-- lines behind lines
leads_on : (s a b : Above) (bytes rest last : List ℕ) → Leads s bytes rest a → Leads a rest last b → Leads s bytes last b
leads_on s a b bytes rest last leads on = record {
  front = leads.front ++ on.front;
  whole = leads.whole ∙ ap (λ r. leads.front ++ r) on.whole ∙ sym (append_assoc leads.front on.front last);
  reads = λ more. leads.reads more ∙ on.reads more;
}

leads_longer : (s a : Above) (bytes rest more : List ℕ) → Leads s bytes rest a → Leads s (bytes ++ more) (rest ++ more) a
leads_longer s a bytes rest more leads = record {
  front = leads.front;
  whole = ap (λ b. b ++ more) leads.whole ∙ append_assoc leads.front rest more;
  reads = λ last. ap (read_below s) (append_assoc bytes more last) ∙ leads.reads (more ++ last) ∙ ap (read_below a) (sym (append_assoc rest more last));
}

-- ---- the files of the tools

strip_some : (front bytes rest more : List ℕ) → strip front bytes ≡ Some rest → strip front (bytes ++ more) ≡ Some (rest ++ more)
unfolding strip
strip_some [] bytes rest more is = let same : bytes ≡ rest = cc in ap (λ b. Some (b ++ more)) same
strip_some (t ∷ ts) [] rest more is = cc
strip_some (t ∷ ts) (b ∷ bs) rest more is = elim (cases_Bool (eqb t b)) [
  | inl same ↦ rw same (strip_some ts bs rest more (rw same at is))
  | inr other ↦ (let never : None ≡ Some rest = rw other at is in cc)
]

strip_none : (front bytes more : List ℕ) → length front ≤ length bytes → strip front bytes ≡ None → strip front (bytes ++ more) ≡ None
unfolding strip
strip_none [] bytes more long is = cc
strip_none (t ∷ ts) [] more long is = absurd (let never : ⊥ = omega arith in never)
strip_none (t ∷ ts) (b ∷ bs) more long is = elim (cases_Bool (eqb t b)) [
  | inl same ↦ rw same (strip_none ts bs more (omega arith) (rw same at is))
  | inr other ↦ rw other refl
]

-- what begins as the one doesn't begin as the other
perf_no_dat : (bytes rest : List ℕ) → strip perf_data bytes ≡ Some rest → strip trace_dat bytes ≡ None
unfolding strip
perf_no_dat [] rest is = refl
perf_no_dat (b ∷ bs) rest is = elim (cases_Bool (eqb 80 b)) [
  | inl same ↦ (let is_p : b ≡ 80 = sym (eqb-true 80 b same) in rw is_p refl)
  | inr other ↦ (let never : None ≡ Some rest = rw other at is in cc)
]

pub file_dat : (bytes : List ℕ) (r : Option (Bor (List ℕ))) → Gives (λ x. x.now) r (strip trace_dat bytes) → true ≡ is_some r → Refuses reading bytes TraceDat
unfolding reading
file_dat bytes None front is more = absurd (true≢false is)
file_dat bytes (Some x) front is more = rw (strip_some trace_dat bytes x.now more front) refl

pub file_perf : (bytes : List ℕ) (q : Option (Bor (List ℕ))) → Gives (λ x. x.now) q (strip perf_data bytes) → true ≡ is_some q → Refuses reading bytes PerfData
unfolding reading
file_perf bytes None front is more = absurd (true≢false is)
file_perf bytes (Some y) front is more =
    let perf = strip_some perf_data bytes y.now more front in
    rw (perf_no_dat (bytes ++ more) (y.now ++ more) perf, perf) refl

pub no_file : (front bytes : List ℕ) (r : Option (Bor (List ℕ))) → Gives (λ x. x.now) r (strip front bytes) → false ≡ is_some r → strip front bytes ≡ None
no_file front bytes None gives is = gives
no_file front bytes (Some x) gives is = absurd (false≢true is)

pub text_reads : (bytes : List ℕ) → strip trace_dat bytes ≡ None → strip perf_data bytes ≡ None → reading bytes ≡ read_below start bytes
unfolding reading
text_reads bytes dat perf = rw (dat, perf) refl

pub text_reads_on : (first more : List ℕ) → 65536 ≤ length first → strip trace_dat first ≡ None → strip perf_data first ≡ None → reading (first ++ more) ≡ read_below start (first ++ more)
text_reads_on first more long dat perf =
    text_reads (first ++ more) (strip_none trace_dat first more (omega arith) dat) (strip_none perf_data first more (omega arith) perf)

-- ---- answers

-- an answer of all bytes
pub answers_on : (reads : List ℕ → Result Recorded RecordingFault) (first : List ℕ) (told left : Option (List ℕ)) (old new : ℕ) (answer : Result Recording RecordingFault) → EndsOn reads first told left old new answer → ReadsOn reads first told left old new answer
answers_on reads first told left old new (Ok recording) ends = ends
answers_on reads first told left old new (Err ReadFault) ends = absurd ends.answers
answers_on reads first told left old new (Err TooLong) ends = absurd ends.answers
answers_on reads first told left old new (Err TraceDat) ends = ends
answers_on reads first told left old new (Err PerfData) ends = ends
answers_on reads first told left old new (Err (BadLine line why)) ends = ends
answers_on reads first told left old new (Err NoKmemEvent) ends = ends
answers_on reads first told left old new (Err NoMemory) ends = ends.still

-- why the source gave no more
pub stops_on : (reads : List ℕ → Result Recorded RecordingFault) (first more : List ℕ) (told mid left : Option (List ℕ)) (count old now new : ℕ) (fault : ReadAllFault) → Consumes told mid more → count ≡ length first + length more → now ≡ old → StopsRead 268435456 mid left count now new fault
    → ReadsOn reads first told left old new (Err (fault_of_source fault))
stops_on reads first more told mid left count old now new all.Failed read counted still stops = subst (λ n. Rose n new) still stops
stops_on reads first more told mid left count old now new all.TooLong read counted still stops = (
  record {
    more = more ++ stops.0.more;
    read = Consumes-trans told mid left more stops.0.more read stops.0.read;
    over = omega (arith, counted, stops.0.over, length-append more stops.0.more);
  },
  stops.1 ∙ still,
)
stops_on reads first more told mid left count old now new all.NoMemory read counted still stops = stops ∙ still

-- behind a fault the rest was read, or not
pub passes_on : (reads : List ℕ → Result Recorded RecordingFault) (first more : List ℕ) (told mid left : Option (List ℕ)) (count old now new : ℕ) (fault answer : RecordingFault) → Consumes told mid more → count ≡ length first + length more → now ≡ old → Refuses reads (first ++ more) fault → Passes fault mid left count now new answer
    → ReadsOn reads first told left old new (Err answer)
passes_on reads first more told mid left count old now new fault answer read counted still refuses (inl (is, passed)) =
    subst (λ (x : RecordingFault). ReadsOn reads first told left old new (Err x)) (sym is) (answers_on reads first told left old new (Err fault) ends)
  where
    ends : EndsOn reads first told left old new (Err fault)
    ends = record {
      more = more ++ passed.more;
      read = Consumes-trans told mid left more passed.more read passed.read;
      at_end = passed.at_end;
      within = omega (arith, counted, passed.within, length-append more passed.more);
      still = passed.still ∙ still;
      answers = subst (λ (b : List ℕ). IsFault (reads b) fault) (append_assoc first more passed.more) (refuses passed.more);
    }
passes_on reads first more told mid left count old now new fault answer read counted still refuses (inr (other, is, stops)) =
    subst (λ (x : RecordingFault). ReadsOn reads first told left old new (Err x)) (sym is) (stops_on reads first more told mid left count old now new other read counted still stops)

-- ---- where a reading stands

pub stands_none : (first : List ℕ) (told : Option (List ℕ)) (count : ℕ) (a : Above) → a ≡ start → count ≡ length first → Stands first told told first count a
stands_none first told count a is counted = record {
  more = [];
  read = Consumes-nil told;
  counted = omega (arith, counted);
  leads = subst (λ (w : List ℕ). Leads start w first a) (sym (append-nil first)) (subst (λ (x : Above). Leads start first first x) (sym is) (leads_none start first));
}

pub stands_on : (first : List ℕ) (told left : Option (List ℕ)) (rest last : List ℕ) (count now : ℕ) (a b : Above) → Stands first told left rest count a → Leads a rest last b → now ≡ count → Stands first told left last now b
stands_on first told left rest last count now a b stands leads same = record {
  more = stands.more;
  read = stands.read;
  counted = same ∙ stands.counted;
  leads = leads_on start a b (first ++ stands.more) rest last stands.leads leads;
}

pub stands_grown : (first : List ℕ) (told mid left : Option (List ℕ)) (rest last : List ℕ) (count now : ℕ) (a : Above) → Stands first told mid rest count a → Grows mid left rest last count now → Stands first told left last now a
stands_grown first told mid left rest last count now a stands grows = record {
  more = stands.more ++ grows.more;
  read = Consumes-trans told mid left stands.more grows.more stands.read grows.read;
  counted = omega (arith, stands.counted, grows.counted, length-append stands.more grows.more);
  leads = subst (λ (w : List ℕ). Leads start (first ++ (stands.more ++ grows.more)) w a) (sym grows.behind)
      (subst (λ (w : List ℕ). Leads start w (rest ++ grows.more) a) (append_assoc first stands.more grows.more) (leads_longer start a (first ++ stands.more) rest grows.more stands.leads));
}

-- what is refused of the rest is refused of all
pub refuses_on : (first : List ℕ) (told left : Option (List ℕ)) (rest : List ℕ) (count : ℕ) (a : Above) (fault : RecordingFault) (stands : Stands first told left rest count a) → Refuses (read_below a) rest fault → Refuses (read_below start) (first ++ stands.more) fault
refuses_on first told left rest count a fault stands refuses more = fault_from _ _ fault (stands.leads.reads more) (refuses more)

-- the end was read
pub ends_on : (first : List ℕ) (told left : Option (List ℕ)) (rest : List ℕ) (count old new : ℕ) (a : Above) (end : Result Recorded RecordingFault) (answer : Result Recording RecordingFault) → Stands first told left rest count a → read_below a rest ≡ end → IsAnswer end answer → IsAtEnd left → count ≤ 268435456 → new ≡ old
    → ReadsOn (read_below start) first told left old new answer
ends_on first told left rest count old new a end answer stands last answers at_end few still =
    answers_on (read_below start) first told left old new answer (record {
      more = stands.more;
      read = stands.read;
      at_end = at_end;
      within = omega (arith, stands.counted, few);
      still = still;
      answers = subst (λ (r : Result Recorded RecordingFault). IsAnswer r answer) (sym (leads_whole start a (first ++ stands.more) rest stands.leads ∙ last)) answers;
    })

-- ---- the whole source

-- the lines are those of a text
pub text_on : (first : List ℕ) (told left : Option (List ℕ)) (old new : ℕ) (answer : Result Recording RecordingFault) → 65536 ≤ length first → strip trace_dat first ≡ None → strip perf_data first ≡ None → ReadsOn (read_below start) first told left old new answer → ReadsOn reading first told left old new answer
text_on first told left old new (Ok recording) long dat perf ends = record { more = ends.more; read = ends.read; at_end = ends.at_end; within = ends.within; still = ends.still; answers = text_reads_on first ends.more long dat perf ∙ ends.answers }
text_on first told left old new (Err ReadFault) long dat perf ends = ends
text_on first told left old new (Err TooLong) long dat perf ends = ends
text_on first told left old new (Err TraceDat) long dat perf ends = record { more = ends.more; read = ends.read; at_end = ends.at_end; within = ends.within; still = ends.still; answers = text_reads_on first ends.more long dat perf ∙ ends.answers }
text_on first told left old new (Err PerfData) long dat perf ends = record { more = ends.more; read = ends.read; at_end = ends.at_end; within = ends.within; still = ends.still; answers = text_reads_on first ends.more long dat perf ∙ ends.answers }
text_on first told left old new (Err (BadLine line why)) long dat perf ends = record { more = ends.more; read = ends.read; at_end = ends.at_end; within = ends.within; still = ends.still; answers = text_reads_on first ends.more long dat perf ∙ ends.answers }
text_on first told left old new (Err NoKmemEvent) long dat perf ends = record { more = ends.more; read = ends.read; at_end = ends.at_end; within = ends.within; still = ends.still; answers = text_reads_on first ends.more long dat perf ∙ ends.answers }
text_on first told left old new (Err NoMemory) long dat perf ends = ends

-- from the first byte on
pub reads_on : (told mid left : Option (List ℕ)) (first : List ℕ) (old now new : ℕ) (answer : Result Recording RecordingFault) → Consumes told mid first → now ≡ old → ReadsOn reading first mid left now new answer → Reads told left old new answer
reads_on told mid left first old now new answer read still ends = by answer ends
  where
    whole : (answer : Result Recording RecordingFault) (ends : EndsOn reading first mid left now new answer) → (read_as : Result Recorded RecordingFault) → reading (first ++ ends.more) ≡ read_as → Spells told read_as × IsAtEnd left × (new ≡ old)
    whole answer ends read_as is =
        let all = Consumes-trans told mid left first ends.more read ends.read in
        (record { bytes = first ++ ends.more; all_told = Consumes-whole told left (first ++ ends.more) all ends.at_end; within = omega (arith, ends.within, length-append first ends.more); spells = is }, ends.at_end, ends.still ∙ still)

    by : (answer : Result Recording RecordingFault) → ReadsOn reading first mid left now new answer → Reads told left old new answer
    by (Ok recording) ends = whole (Ok recording) ends (Ok (recorded recording)) ends.answers
    by (Err ReadFault) ends = subst (λ n. Rose n new) still ends
    by (Err TooLong) ends = (Consumes-longer told left 268435456 (first ++ ends.0.more) (Consumes-trans told mid left first ends.0.more read ends.0.read) (omega (arith, ends.0.over, length-append first ends.0.more)), ends.1 ∙ still)
    by (Err TraceDat) ends = whole (Err TraceDat) ends (Err TraceDat) ends.answers
    by (Err PerfData) ends = whole (Err PerfData) ends (Err PerfData) ends.answers
    by (Err (BadLine line why)) ends = whole (Err (BadLine line why)) ends (Err (BadLine line why)) ends.answers
    by (Err NoKmemEvent) ends = whole (Err NoKmemEvent) ends (Err NoKmemEvent) ends.answers
    by (Err NoMemory) ends = ends ∙ still

pub sound_on : (told left : Option (List ℕ)) (first : List ℕ) (old new : ℕ) (answer : Result Recording RecordingFault) → ReadsOn reading first told left old new answer → IfOk answer (λ x. IsSound (recorded x))
sound_on told left first old new (Ok recording) ends = sound_reading (first ++ ends.more) (recorded recording) ends.answers
sound_on told left first old new (Err fault) ends = tt

-- the first bytes of a source
pub first_read : (told left : Option (List ℕ)) (none first : List ℕ) (before count : ℕ) → Grows told left none first before count → none ≡ [] → Consumes told left first
first_read told left none first before count grows empty =
    subst (λ (b : List ℕ). Consumes told left b) (sym (grows.behind ∙ ap (λ b. b ++ grows.more) empty)) grows.read

-- they are all
pub reads_first : (told left : Option (List ℕ)) (bytes none first : List ℕ) (before count old new : ℕ) (answer : Result Recording RecordingFault) → Grows told left none first before count → none ≡ [] → before ≡ 0 → bytes ≡ first → count ≤ 268435456 → IsAtEnd left → new ≡ old → IsAnswer (reading bytes) answer
    → Reads told left old new answer
reads_first told left bytes none first before count old new answer grows empty zero same few at_end still is =
    reads_on told left left first old new new answer (first_read told left none first before count grows empty) still
    (answers_on reading first left left new new answer (record {
      more = [];
      read = Consumes-nil left;
      at_end = at_end;
      within = omega (arith, grows.counted, zero, few, ap length grows.behind, ap length empty, length-append none grows.more);
      still = refl;
      answers = subst (λ (b : List ℕ). IsAnswer (reading b) answer) (same ∙ sym (append-nil first)) is;
    }))
