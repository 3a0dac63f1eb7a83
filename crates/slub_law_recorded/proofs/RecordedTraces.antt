-- The trace of steps is paired.
use Rattle.std.proofs.Common.{◌≡◌, ℕ, Bool, true, false, List, [], ◌∷◌, ◌++◌, length, append_assoc, refl, sym, ap, subst, ◌∙◌, None, nat_eq, true≢false}
use Rattle.std.specs.Prelude.{All, flat_map, map, replicate, if◌then◌else◌}
use Rattle.std.specs.List.{IsDistinct}
use Rattle.std.proofs.lemmas.List.Elements.{All-append, All-cons, All-head, All-nil, All-replicate, All-tail}
use Rattle.std.proofs.lemmas.List.Sums.{fold-append}
use Rattle.slub_recording.specs.declared.recording.Recording.{Recording}
use Rattle.slub_recorded.specs.declared.convert.Options.{Options}
use Rattle.slub_recorded.specs.declared.rounds.Step.{Step}
use Rattle.slub_recorded.specs.declared.text.Row.{Row}
use Rattle.slub_recorded.specs.declared.told.Note.{Note}
use Rattle.slub_recorded.specs.declared.tunes.Tune.{Tune}
use Rattle.slub_recorded.specs.declared.turns.Turn.{Turn}
use Rattle.slub_recorded.specs.Lines.{body_lines, row_line, round_lines, trace_lines}
use Rattle.slub_recorded.specs.Converted.{IsConverted, turns_by}
use Rattle.slub_recorded.specs.Rounds.{AreHeld, count_workers, turns_in}
use Rattle.slub_recorded.specs.Tunes.{is_for, tune_lines, tunes_lines, version_of}
use Rattle.slub_recorded.specs.Turns.{AreNext}
use Rattle.slub_trace.specs.declared.event.Event.{Event}
use Rattle.slub_trace.specs.declared.trace.Item.TheVariants as item
use Rattle.slub_trace.specs.declared.trace.Trace.{Trace}
use Rattle.slub_trace_reader.specs.declared.line.Line.{Line}
use Rattle.slub_trace_reader.specs.declared.line.Line.TheVariants.{Passed, Slubtrace, Machine, Cache, Tune as Set, Slabinfo, Round, End}
use Rattle.slub_trace_reader.specs.Above.{Above, start, after, after_all, trace_of}
use Rattle.slub_trace_reader.proofs.LinesBelow.{trace_once}
use Rattle.slub_law_recorded.specs.Paired.{IsPairingAct, IsPairingItem}
use Rattle.slub_law_recorded.specs.Recorded.{IsOfTurns, RecordedTracesArePaired}
use Rattle.slub_law_recorded.proofs.RecordedFrees.{frees_apart}
use Rattle.slub_law_recorded.proofs.RecordedRounds.{Are, Do, quiet_does, steps_do}
use Rattle.slub_law_recorded.proofs.RecordedThere.{there_in}

-- ---- above the first round

-- nothing was allocated yet
abbrev pub IsBare : Above → Type 0
IsBare a = Do a.items [] (λ _. false) [] []

-- a line that leaves it so
abbrev pub IsBareLine : Line → Type 0
IsBareLine Passed = Unit {0}
IsBareLine (Slubtrace version) = Unit {0}
IsBareLine (Machine frames cpus tid) = Unit {0}
IsBareLine (Cache name size align flags) = Unit {0}
IsBareLine (Set name knob number) = Unit {0}
IsBareLine _ = ⊥

one_bare : (line : Line) (a : Above) → IsBareLine line → IsBare a → IsBare (after a line)
one_bare Passed a is bare = bare
one_bare (Slubtrace version) a is bare = bare
one_bare (Machine frames cpus tid) a is bare = bare
one_bare (Cache name size align flags) a is bare = quiet_does a.items (λ _. false) [] (item.Cache _ _) tt refl bare
one_bare (Set name knob number) a is bare = quiet_does a.items (λ _. false) [] (item.Tune _ _) tt refl bare
one_bare _ a is bare = absurd is

all_bare : (lines : List Line) (a : Above) → All IsBareLine lines → IsBare a → IsBare (after_all a lines)
all_bare [] a are bare = bare
all_bare (line ∷ lines) a are bare = all_bare lines (after a line) (All-tail IsBareLine line lines are) (one_bare line a (All-head IsBareLine line lines are) bare)

tune_bare : (b : Bool) (name : List ℕ) (tune : Tune) → All IsBareLine (if b then Set name tune.knob tune.number ∷ [] else [])
tune_bare true name tune = All-cons IsBareLine (Set name tune.knob tune.number) [] tt (All-nil IsBareLine)
tune_bare false name tune = All-nil IsBareLine

row_bare : (row : Row) (tunes : List Tune) → All IsBareLine (tunes_lines tunes row)
row_bare row [] = All-nil IsBareLine
row_bare row (tune ∷ tunes) = All-append IsBareLine (tune_lines row.name tune) (tunes_lines tunes row) (tune_bare (is_for tune row.name) row.name tune) (row_bare row tunes)

tunes_bare : (tunes : List Tune) (rows : List Row) → All IsBareLine (flat_map (tunes_lines tunes) rows)
tunes_bare tunes [] = All-nil IsBareLine
tunes_bare tunes (row ∷ rows) = All-append IsBareLine (tunes_lines tunes row) (flat_map (tunes_lines tunes) rows) (row_bare row tunes) (tunes_bare tunes rows)

rows_bare : (rows : List Row) → All IsBareLine (map row_line rows)
rows_bare [] = All-nil IsBareLine
rows_bare (row ∷ rows) = All-cons IsBareLine (row_line row) (map row_line rows) tt (rows_bare rows)

-- the lines above the first round
abbrev pub head_lines : ℕ → ℕ → List Row → List Tune → List Line
head_lines comments cpus rows tunes = Slubtrace (version_of tunes) ∷ (replicate comments Passed ++ (Machine 4096 cpus None ∷ (map row_line rows ++ flat_map (tunes_lines tunes) rows)))

head_bare : (comments cpus : ℕ) (rows : List Row) (tunes : List Tune) → All IsBareLine (head_lines comments cpus rows tunes)
head_bare comments cpus rows tunes =
    let below : List Line = map row_line rows ++ flat_map (tunes_lines tunes) rows in
    All-cons IsBareLine (Slubtrace (version_of tunes)) (replicate comments Passed ++ (Machine 4096 cpus None ∷ below)) tt
    (All-append IsBareLine (replicate comments Passed) (Machine 4096 cpus None ∷ below) (All-replicate IsBareLine comments Passed tt)
    (All-cons IsBareLine (Machine 4096 cpus None) below tt
    (All-append IsBareLine (map row_line rows) (flat_map (tunes_lines tunes) rows) (rows_bare rows) (tunes_bare tunes rows))))

lines_are : (comments cpus : ℕ) (rows : List Row) (tunes : List Tune) (workers : ℕ) (steps : List Step)
    → trace_lines comments cpus rows tunes workers steps ≡ head_lines comments cpus rows tunes ++ round_lines rows workers steps (Slabinfo ∷ End ∷ [])
unfolding body_lines
lines_are comments cpus rows tunes workers steps = ap (λ l. Slubtrace (version_of tunes) ∷ l) (
    ap (λ l. replicate comments Passed ++ (Machine 4096 cpus None ∷ l)) (sym (append_assoc (map row_line rows) (flat_map (tunes_lines tunes) rows) (round_lines rows workers steps (Slabinfo ∷ End ∷ []))))
    ∙ sym (append_assoc (replicate comments Passed) (Machine 4096 cpus None ∷ (map row_line rows ++ flat_map (tunes_lines tunes) rows)) (round_lines rows workers steps (Slabinfo ∷ End ∷ []))))

-- ---- all lines

nothing_does : IsBare start
nothing_does = record {
  pairing = All-nil IsPairingItem;
  acts = All-nil (λ (e : Event). IsPairingAct e.act);
  before = tt;
  now = tt;
  known = λ n live. absurd (true≢false (sym live));
  allocs_are = refl;
  frees_are = refl;
}

trace_does : (comments cpus : ℕ) (rows : List Row) (tunes : List Tune) (workers : ℕ) (steps : List Step) → AreNext (λ _. false) 0 (turns_in steps) → AreHeld [] steps
    → Are (turns_in steps) (after_all start (trace_lines comments cpus rows tunes workers steps)).items
trace_does comments cpus rows tunes workers steps next held =
    let head : List Line = head_lines comments cpus rows tunes in
    let below : List Line = round_lines rows workers steps (Slabinfo ∷ End ∷ []) in
    let a : Above = after_all start head in
    let P : Above → Type 0 = λ b. Are (turns_in steps) b.items in
    let are : after_all start (trace_lines comments cpus rows tunes workers steps) ≡ after_all a below = ap (after_all start) (lines_are comments cpus rows tunes workers steps) ∙ fold-append after start head below in
    subst P (sym are) (steps_do rows workers steps (after a (Round workers)) (λ _. false) 0 [] [] next held (all_bare head start (head_bare comments cpus rows tunes) nothing_does))

-- ---- the trace

are_paired : (turns : List Turn) (trace : Trace) → AreNext (λ _. false) 0 turns → Are turns trace.items → IsOfTurns turns trace
are_paired turns trace next are =
    let apart = frees_apart turns (λ _. false) 0 next (λ n live. absurd (true≢false (sym live))) in
    let P : List ℕ → Type 0 = λ objects. IsDistinct nat_eq objects in
    record {
      paired = record { items = are.pairing; once = subst P (sym are.frees_are) apart.once; there = there_in trace are.there };
      allocs_are = are.allocs_are;
      frees_are = are.frees_are;
    }

-- the trace of a conversion's lines
spelled_paired : (recording : Recording) (options : Options) (tunes : List Tune) (notes : List Note) (text : List ℕ) (conv : IsConverted recording options tunes notes text) → IsOfTurns (turns_by recording conv.places conv.cpus) conv.spells.trace
spelled_paired recording options tunes notes text conv =
    let workers : ℕ = count_workers options.workers conv.cpus in
    let lines : List Line = trace_lines (length notes) conv.cpus conv.rows tunes workers conv.steps in
    let Next : List Turn → Type 0 = λ turns. AreNext (λ _. false) 0 turns in
    let are : Are (turns_in conv.steps) (after_all start lines).items = trace_does (length notes) conv.cpus conv.rows tunes workers conv.steps (subst Next (sym conv.done) conv.next) conv.held in
    let spelled : conv.spells.trace ≡ trace_of (after_all start lines) = conv.spells.is.gives ∙ ap (λ (ls : List Line). trace_of (after_all start ls)) conv.spells.has in
    let P : Trace → Type 0 = λ t. Are (turns_by recording conv.places conv.cpus) t.items in
    let Q : List Turn → Type 0 = λ turns. Are turns (after_all start lines).items in
    are_paired (turns_by recording conv.places conv.cpus) conv.spells.trace conv.next (subst P (sym spelled) (subst Q conv.done are))

-- a text spells one trace
pub recorded_paired : RecordedTracesArePaired
recorded_paired recording options tunes notes text trace conv is =
    let P : Trace → Type 0 = λ t. IsOfTurns (turns_by recording conv.places conv.cpus) t in
    subst P (sym (trace_once text conv.spells.trace trace conv.spells.is is)) (spelled_paired recording options tunes notes text conv)
