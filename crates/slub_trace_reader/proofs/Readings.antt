-- What comes of reading a source by a window, and what comes of its lines.
use Rattle.std.proofs.Common.{◌≡◌, ℕ, ◌≤◌, true, eqb, subst, Ok, Err, Option, List, [], ◌∷◌, ◌++◌, length, refl, sym, ap, ◌∙◌, arith, append_assoc, append-nil, length-append}
use Rattle.std.specs.Io.KnownBytes.{IsAtEnd}
use Rattle.std.proofs.KnownBytes.{Consumes-nil, Consumes-trans}
use Rattle.std.proofs.lemmas.Bool.{eqb-true}
use Rattle.slub_edges.specs.Edges.{Rose}
use Rattle.slub_edges.proofs.Told.{Consumes-whole, Consumes-longer}
use Rattle.slub_trace.specs.declared.trace.Trace.{Trace}
use Rattle.slub_trace_reader.specs.declared.line.Line.{Line}
use Rattle.slub_trace_reader.specs.declared.place.Place.TheVariants.{After}
use Rattle.slub_trace_reader.specs.declared.reading.TraceFault.{TraceFault}
use Rattle.slub_trace_reader.specs.declared.reading.TraceFault.TheVariants.{ReadFault, TooLong, BadLine, NoMemory}
use Rattle.slub_trace_reader.specs.declared.reading.Why.{Why}
use Rattle.slub_trace_reader.specs.Above.{Above, start, after, after_all, trace_of}
use Rattle.slub_trace_reader.specs.Faults.{Finished, GoesOn, IsFirstBad}
use Rattle.slub_trace_reader.specs.Grammar.{AreLines, IsOneLine, IsTrace}
use Rattle.slub_trace_reader.specs.Parsing.{StopsAt}
use Rattle.slub_trace_reader.specs.Reads.{Reads}
use Rattle.slub_trace_reader.specs.State.{IsModest}
use Rattle.slub_edges.specs.declared.reading.ReadAllFault.{ReadAllFault}
use Rattle.slub_edges.specs.declared.reading.ReadAllFault.TheVariants as end
use Rattle.slub_edges.specs.Window.{Grows, Counts, StopsRead}
use Rattle.slub_edges.proofs.Windows.{stops_from}
use Rattle.slub_trace_reader.specs.Window.{Leads, StopsBehind, fault_of, next_of, Stands, IsRead, StopsLines}
use Rattle.slub_trace_reader.proofs.LinesBelow.{modest_start, leads_modest, trace_once, bad_at, went_bad, went_all, tells_trace}

-- bytes that are none
pub none_left : (bytes : List ℕ) → true ≡ eqb (length bytes) 0 → bytes ≡ []
none_left [] is = refl
none_left (b ∷ bytes) is = absurd (let same : length (b ∷ bytes) ≡ 0 = eqb-true (length (b ∷ bytes)) 0 (sym is) in let never : ⊥ = omega arith in never)

-- ---- lines behind lines

lines_append : (a : Above) (front more : List ℕ) (lines others : List Line) → AreLines a front lines → AreLines (after_all a lines) more others → AreLines a (front ++ more) (lines ++ others)
lines_append a front more [] others are also = subst (λ (b : List ℕ). AreLines a b others) (sym (ap (λ f. f ++ more) are)) also
lines_append a front more (line ∷ lines) others are also = (
  are.0,
  are.1 ++ more,
  ap (λ b. b ++ more) are.2 ∙ append_assoc are.0 (10 ∷ are.1) more,
  are.3,
  are.4,
  lines_append (after a line) are.1 more lines others are.5 also,
)

after_append : (a : Above) (lines others : List Line) → after_all a (lines ++ others) ≡ after_all (after_all a lines) others
after_append a [] others = refl
after_append a (line ∷ lines) others = after_append (after a line) lines others

leads_on : (s : Above) (bytes rest more : List ℕ) (a b : Above) → Leads s bytes rest a → Leads a rest more b → Leads s bytes more b
leads_on s bytes rest more a b leads on =
    let good : AreLines (after_all s leads.lines) on.front on.lines = subst (λ (x : Above). AreLines x on.front on.lines) leads.says on.are in
    record {
      lines = leads.lines ++ on.lines;
      front = leads.front ++ on.front;
      whole = leads.whole ∙ ap (λ r. leads.front ++ r) on.whole ∙ sym (append_assoc leads.front on.front more);
      are = lines_append s leads.front on.front leads.lines on.lines leads.are good;
      says = on.says ∙ ap (λ x. after_all x on.lines) leads.says ∙ sym (after_append s leads.lines on.lines);
    }

-- lines in front of bytes are in front of those and more
leads_longer : (s : Above) (bytes rest more : List ℕ) (a : Above) → Leads s bytes rest a → Leads s (bytes ++ more) (rest ++ more) a
leads_longer s bytes rest more a leads = record {
  lines = leads.lines;
  front = leads.front;
  whole = ap (λ b. b ++ more) leads.whole ∙ append_assoc leads.front rest more;
  are = leads.are;
  says = leads.says;
}

-- ---- what was read

pub stands_none : (told : Option (List ℕ)) (a : Above) → a ≡ start → Stands told told [] 0 a
stands_none told a is = record { all = []; read = Consumes-nil told; counted = refl; leads = record { lines = []; front = []; whole = refl; are = refl; says = is } }

pub stands_grown : (a b c : Option (List ℕ)) (x y : List ℕ) (m n : ℕ) (s : Above) → Stands a b x m s → Grows b c x y m n → Stands a c y n s
stands_grown a b c x y m n s stands grows = record {
  all = stands.all ++ grows.more;
  read = Consumes-trans a b c stands.all grows.more stands.read grows.read;
  counted = omega (arith, stands.counted, grows.counted, length-append stands.all grows.more);
  leads = subst (λ (w : List ℕ). Leads start (stands.all ++ grows.more) w s) (sym grows.behind) (leads_longer start stands.all x grows.more s stands.leads);
}

pub stands_on : (a b : Option (List ℕ)) (x y : List ℕ) (n m : ℕ) (s t : Above) → Stands a b x n s → Leads s x y t → m ≡ n → Stands a b y m t
stands_on a b x y n m s t stands on same = record { all = stands.all; read = stands.read; counted = same ∙ stands.counted; leads = leads_on start stands.all x y s t stands.leads on }

pub stands_modest : (a b : Option (List ℕ)) (x : List ℕ) (n : ℕ) (s : Above) → Stands a b x n s → IsModest s
stands_modest a b x n s stands = leads_modest start stands.all x s modest_start stands.leads

stands_counts : (a b : Option (List ℕ)) (x : List ℕ) (n m : ℕ) (s : Above) → Stands a b x n s → m ≡ n → Counts a b 0 m
stands_counts a b x n m s stands same = record { more = stands.all; read = stands.read; counted = omega (arith, same, stands.counted) }

-- ---- ends

-- why reading stops is why no lines were read
pub read_stops : (a b c : Option (List ℕ)) (x : List ℕ) (n m old mid new : ℕ) (s : Above) (fault : ReadAllFault) → Stands a b x n s → m ≡ n → mid ≡ old → StopsRead 16777216 b c m mid new fault → StopsLines a c old new (fault_of fault)
read_stops a b c x n m old mid new s fault stands same still stops =
    by fault (stops_from 16777216 a b c 0 m old mid new fault (stands_counts a b x n m s stands same) still stops)
  where
    by : (fault : ReadAllFault) → StopsRead 16777216 a c 0 old new fault → StopsLines a c old new (fault_of fault)
    by end.NoMemory stops = stops
    by end.TooLong stops = stops
    by end.Failed stops = stops

-- what a window's first bad line is, whatever comes behind its bytes
stands_bad : (a b : Option (List ℕ)) (x more : List ℕ) (n line : ℕ) (why : Why) (s : Above) (stands : Stands a b x n s) → StopsBehind s x (BadLine line why) → IsFirstBad (stands.all ++ more) line why
stands_bad a b x more n line why s stands behind =
    let (text, rest, goes, one, at) = behind.stops in
    went_bad (stands.all ++ more) (behind.rest ++ more) behind.below (Finished text) line why
    (leads_longer start stands.all behind.rest more behind.below (leads_on start stands.all x behind.rest s behind.below stands.leads behind.good))
    (rest ++ more, ap (λ r. r ++ more) goes ∙ append_assoc text (10 ∷ rest) more, one) at.0 at.1

-- a line is bad, and the rest of the source was read
pub line_stops : (a b c : Option (List ℕ)) (x : List ℕ) (n m k old new : ℕ) (s : Above) (fault : TraceFault) → Stands a b x n s → StopsBehind s x fault → m ≡ n → Counts b c m k → IsAtEnd c → k ≤ 16777216 → new ≡ old → StopsLines a c old new fault
line_stops a b c x n m k old new s (BadLine line why) stands behind same counts end short still = (
  record {
    all = stands.all ++ counts.more;
    read = Consumes-trans a b c stands.all counts.more stands.read counts.read;
    at_end = end;
    short = omega (arith, same, stands.counted, counts.counted, length-append stands.all counts.more);
    bad = stands_bad a b x counts.more n line why s stands behind;
  },
  still,
)
line_stops a b c x n m k old new s NoMemory stands behind same counts end short still = still
line_stops a b c x n m k old new s TooLong stands behind same counts end short still = absurd behind.stops
line_stops a b c x n m k old new s ReadFault stands behind same counts end short still = absurd behind.stops

next_goes : (rest : List ℕ) → IsOneLine rest → GoesOn rest (next_of rest)
next_goes [] one = refl
next_goes (b ∷ rest) one = (refl, λ none. cc, one)

-- the bytes may not end here
pub end_stops : (a b : Option (List ℕ)) (x : List ℕ) (n old new : ℕ) (s : Above) (fault : TraceFault) → Stands a b x n s → IsOneLine x → StopsAt s (next_of x) fault → IsAtEnd b → n ≤ 16777216 → new ≡ old → StopsLines a b old new fault
end_stops a b x n old new s (BadLine line why) stands one stops end short still = (
  record {
    all = stands.all;
    read = stands.read;
    at_end = end;
    short = omega (arith, stands.counted);
    bad = went_bad stands.all x s (next_of x) line why stands.leads (next_goes x one) stops.0 stops.1;
  },
  still,
)
end_stops a b x n old new s NoMemory stands one stops end short still = still
end_stops a b x n old new s TooLong stands one stops end short still = absurd stops
end_stops a b x n old new s ReadFault stands one stops end short still = absurd stops

-- they may end here
pub all_read : (a b : Option (List ℕ)) (x : List ℕ) (n : ℕ) (s : Above) → Stands a b x n s → x ≡ [] → s.place ≡ After → IsAtEnd b → n ≤ 16777216 → IsRead a b s
all_read a b x n s stands none ended end short = record {
  all = stands.all;
  read = stands.read;
  at_end = end;
  short = omega (arith, stands.counted);
  tells = went_all stands.all x s stands.leads none ended;
}

-- ---- what comes of reading

-- what all lines say is a trace of the bytes
pub read_trace_is : (told left : Option (List ℕ)) (a : Above) (trace : Trace) (read : IsRead told left a) → trace ≡ trace_of a → IsTrace read.all trace
read_trace_is told left a trace read is = subst (λ (t : Trace). IsTrace read.all t) (sym is) (tells_trace read.all a read.short read.tells)

-- and it is the one that they spell
pub read_reads : (told left : Option (List ℕ)) (old new : ℕ) (a : Above) (trace : Trace) → IsRead told left a → trace ≡ trace_of a → new ≡ old → Reads told left old new (Ok trace)
read_reads told left old new a trace read is still =
    let spells = read_trace_is told left a trace read is in
    (record { bytes = read.all; all_told = Consumes-whole told left read.all read.read read.at_end; spells = spells; only = λ other also. trace_once read.all trace other spells also }, read.at_end, still)

-- why no lines were read is why no trace was
pub stop_reads : (told left : Option (List ℕ)) (old new : ℕ) (fault : TraceFault) → StopsLines told left old new fault → Reads told left old new (Err fault)
stop_reads told left old new (BadLine line why) stops =
    let bad = stops.0 in
    (record { bytes = bad.all; all_told = Consumes-whole told left bad.all bad.read bad.at_end; bad = bad_at bad.all line why bad.short bad.bad }, bad.at_end, stops.1)
stop_reads told left old new NoMemory stops = stops
stop_reads told left old new TooLong stops = (Consumes-longer told left 16777216 stops.0.more stops.0.read (omega (arith, stops.0.over)), stops.1)
stop_reads told left old new ReadFault stops = stops
