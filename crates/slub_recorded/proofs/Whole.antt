-- The bytes of a whole trace are a trace of its lines.
use Rattle.std.proofs.Common.{◌≡◌, ℕ, suc, ◌≤◌, true, false, List, [], ◌∷◌, ◌++◌, length, map, refl, sym, subst, ◌∙◌, arith, append_assoc, nat_eq, None}
use Rattle.std.specs.Prelude.{codes, flat_map, All, fold, replicate}
use Rattle.std.specs.Fmt.{decimal}
use Rattle.std.specs.List.{list_any}
use Rattle.std.proofs.lemmas.List.Elements.{All-nil}
use Rattle.slub_common.specs.Numbers.{Writes}
use Rattle.slub_recorded.specs.declared.rounds.Step.{Step}
use Rattle.slub_recorded.specs.declared.text.Row.{Row}
use Rattle.slub_recorded.specs.declared.tunes.Tune.{Tune}
use Rattle.slub_recorded.specs.Comments.{IsComment}
use Rattle.slub_recorded.specs.Converted.{IsTune}
use Rattle.slub_recorded.specs.Lines.{IsRow, IsTraceOf, body_lines, row_line, step_lines, trace_lines}
use Rattle.slub_recorded.specs.Rounds.{turns_in}
use Rattle.slub_recorded.specs.Text.{body_text, row_text, step_text}
use Rattle.slub_recorded.specs.Tunes.{head_text, tunes_lines, tunes_text, version_of}
use Rattle.slub_recorded.specs.Turns.{AreNext}
use Rattle.slub_recorded.proofs.Lines.{AreSteps, count_cuts, number_writes, one_more, one_number}
use Rattle.slub_recorded.proofs.Bodies.{Begins, parts_below, rows_below}
use Rattle.slub_trace_reader.specs.declared.line.Line.{Line}
use Rattle.slub_trace_reader.specs.declared.line.Line.TheVariants.{Passed, Slubtrace, Machine}
use Rattle.slub_trace_reader.specs.declared.place.Place.TheVariants.{Second, After}
use Rattle.slub_trace_reader.specs.Above.{Above, after, after_all, start, trace_of}
use Rattle.slub_trace_reader.specs.Grammar.{AreLines, IsLine, IsOneLine}

-- nothing stands above but the first line and comments
record IsHead (version : ℕ) (a : Above) : Type 0 where
  place : a.place ≡ Second
  version_is : a.version ≡ version
  rounds : a.rounds ≡ 0
  objects : a.objects ≡ []

-- ---- comments

comments_below : {N : Type 0} (version : ℕ) (words : N → List ℕ) (rest : List ℕ) (more : List Line) → ((b : Above) → IsHead version b → AreLines b rest more)
    → (notes : List N) (a : Above) → All (λ n. IsComment (words n)) notes → IsHead version a → AreLines a (flat_map (λ n. words n ++ 10 ∷ []) notes ++ rest) (replicate (length notes) Passed ++ more)
comments_below version words rest more below [] a are head = below a head
comments_below version words rest more below (n ∷ notes) a are head =
    let flat : List ℕ = flat_map (λ n. words n ++ 10 ∷ []) notes in
    let New : ℕ → Type 0 = λ n. list_any (nat_eq n) a.objects ≡ false in
    let Old : ℕ → Type 0 = λ n. list_any (nat_eq n) a.objects ≡ true in
    let is : IsComment (words n) = are 0 n (omega arith) in
    let line : IsLine a (words n) Passed = record { says = is.0; stands = tt; range = tt; room = tt; named = tt; fresh = All-nil New; known = All-nil Old; written = tt } in (
      words n,
      flat ++ rest,
      simp append_assoc,
      is.1,
      line,
      comments_below version words rest more below notes (after a Passed) (λ k d low. are (suc k) d (omega arith)) (record { place = head.place; version_is = head.version_is; rounds = head.rounds; objects = head.objects }),
    )

-- ---- the body

parts : (m cpus feed rows tunes r w turns d s : List ℕ) → (m ++ cpus ++ feed ++ rows) ++ tunes ++ (r ++ w ++ feed ++ turns ++ d) ++ s
    ≡ (m ++ cpus) ++ (feed ++ (rows ++ (tunes ++ ((r ++ w) ++ (feed ++ (turns ++ (d ++ s)))))))
parts m cpus feed rows tunes r w turns d s = simp append_assoc

body_parts : (cpus rows tunes w turns : List ℕ) → (codes "machine 4096 " ++ cpus ++ 10 ∷ [] ++ rows) ++ tunes ++ (codes "round " ++ w ++ 10 ∷ [] ++ turns ++ codes "done\n") ++ codes "slabinfo\nend\n"
    ≡ (codes "machine 4096 " ++ cpus) ++ 10 ∷ (rows ++ (tunes ++ ((codes "round " ++ w) ++ 10 ∷ (turns ++ (codes "done" ++ 10 ∷ (codes "slabinfo" ++ 10 ∷ (codes "end" ++ 10 ∷ [])))))))
body_parts cpus rows tunes w turns = parts (codes "machine 4096 ") cpus (10 ∷ []) rows tunes (codes "round ") w turns (codes "done\n") (codes "slabinfo\nend\n")

one_machine : (rest : List ℕ) → IsOneLine rest → IsOneLine (codes "machine 4096 " ++ rest)
one_machine rest one = one_more (codes "machine") (codes "4096" ++ 32 ∷ rest) (λ k d low is. grind arith) (one_more (codes "4096") rest (λ k d low is. grind arith) one)

body_below : (cpus version : ℕ) (rows : List Row) (tunes : List Tune) (workers : ℕ) (steps : List Step) (a : Above) → 1 ≤ cpus → cpus ≤ 16 → 1 ≤ workers → workers ≤ 16 → All IsRow rows → All IsTune tunes → (1 ≤ length tunes → 2 ≤ version)
    → AreSteps cpus rows workers steps → AreNext (λ _. false) 0 (turns_in steps) → count_cuts steps ≤ 255
    → IsHead version a → AreLines a (body_text cpus rows tunes workers steps) (body_lines cpus rows tunes workers steps)
unfolding body_text body_lines
body_below cpus version rows tunes workers steps a some few one least are fit two done next cuts head =
    let New : ℕ → Type 0 = λ n. list_any (nat_eq n) a.objects ≡ false in
    let Old : ℕ → Type 0 = λ n. list_any (nat_eq n) a.objects ≡ true in
    let frames : Writes (codes "4096") 4096 = record { form = refl; value = refl } in
    let line : IsLine a (codes "machine 4096 " ++ decimal cpus) (Machine 4096 cpus None) = record {
      says = (codes "4096", decimal cpus, [], frames, number_writes cpus (omega arith), refl, refl);
      stands = head.place;
      range = ((omega arith), (omega arith), some, few, tt);
      room = tt;
      named = tt;
      fresh = All-nil New;
      known = All-nil Old;
      written = tt;
    } in
    let begins : Begins cpus version (after a (Machine 4096 cpus None)) = record { place = refl; cpus_are = refl; version_is = head.version_is; rounds = head.rounds; objects = head.objects } in (
      codes "machine 4096 " ++ decimal cpus,
      _,
      body_parts (decimal cpus) (flat_map row_text rows) (flat_map (tunes_text tunes) rows) (decimal workers) (flat_map (step_text rows workers) steps),
      one_machine (decimal cpus) (one_number cpus (omega arith)),
      line,
      rows_below cpus version _ _ rows (after a (Machine 4096 cpus None)) are begins
          (λ b ready grows named. parts_below cpus version rows tunes workers steps b few one least are fit two done next cuts ready named),
    )

-- ---- the end

ends_in : (front back : List Line) (a : Above) → ((b : Above) → (fold after b back).place ≡ After) → (fold after a (front ++ back)).place ≡ After
ends_in [] back a ends = ends a
ends_in (line ∷ front) back a ends = ends_in front back (after a line) ends

lines_end : (comments cpus : ℕ) (rows : List Row) (tunes : List Tune) (workers : ℕ) (steps : List Step) → (after_all start (trace_lines comments cpus rows tunes workers steps)).place ≡ After
unfolding body_lines
lines_end comments cpus rows tunes workers steps =
    ends_in (replicate comments Passed) _ _
    (λ b. ends_in (map row_line rows) _ _ (λ c. ends_in (flat_map (tunes_lines tunes) rows) _ _ (λ d. ends_in (flat_map (step_lines rows workers) steps) _ _ (λ e. refl))))

-- ---- the first line

is_two : (tunes : List Tune) → 1 ≤ length tunes → 2 ≤ version_of tunes
is_two [] some = absurd (omega arith)
is_two (tune ∷ tunes) some = omega arith

-- what may stand below the first line
first_below : (tunes : List Tune) (rest : List ℕ) (more : List Line) → ((a : Above) → IsHead (version_of tunes) a → AreLines a rest more) → AreLines start (head_text tunes ++ rest) (Slubtrace (version_of tunes) ∷ more)
first_below [] rest more below =
    let New : ℕ → Type 0 = λ n. list_any (nat_eq n) start.objects ≡ false in
    let Old : ℕ → Type 0 = λ n. list_any (nat_eq n) start.objects ≡ true in
    let line : IsLine start (codes "slubtrace 1") (Slubtrace 1) = record { says = ((omega arith), (omega arith), refl); stands = refl; range = tt; room = tt; named = tt; fresh = All-nil New; known = All-nil Old; written = tt } in
    (codes "slubtrace 1", rest, refl, (λ k d low e. grind arith), line, below (after start (Slubtrace 1)) (record { place = refl; version_is = refl; rounds = refl; objects = refl }))
first_below (tune ∷ tunes) rest more below =
    let New : ℕ → Type 0 = λ n. list_any (nat_eq n) start.objects ≡ false in
    let Old : ℕ → Type 0 = λ n. list_any (nat_eq n) start.objects ≡ true in
    let line : IsLine start (codes "slubtrace 2") (Slubtrace 2) = record { says = ((omega arith), (omega arith), refl); stands = refl; range = tt; room = tt; named = tt; fresh = All-nil New; known = All-nil Old; written = tt } in
    (codes "slubtrace 2", rest, refl, (λ k d low e. grind arith), line, below (after start (Slubtrace 2)) (record { place = refl; version_is = refl; rounds = refl; objects = refl }))

-- ---- the trace

pub text_is_trace : {N : Type 0} (words : N → List ℕ) (notes : List N) (cpus : ℕ) (rows : List Row) (tunes : List Tune) (workers : ℕ) (steps : List Step) (bytes : List ℕ) → All (λ n. IsComment (words n)) notes
    → 1 ≤ cpus → cpus ≤ 16 → 1 ≤ workers → workers ≤ 16 → All IsRow rows → All IsTune tunes → AreSteps cpus rows workers steps → AreNext (λ _. false) 0 (turns_in steps) → count_cuts steps ≤ 255 → length bytes ≤ 16777216
    → bytes ≡ head_text tunes ++ flat_map (λ n. words n ++ 10 ∷ []) notes ++ body_text cpus rows tunes workers steps
    → IsTraceOf bytes (trace_lines (length notes) cpus rows tunes workers steps)
text_is_trace words notes cpus rows tunes workers steps bytes are some few one least rowed fit done next cuts short is =
    let flat : List ℕ = flat_map (λ n. words n ++ 10 ∷ []) notes in
    let body : List ℕ = body_text cpus rows tunes workers steps in
    let version : ℕ = version_of tunes in
    let lines : List Line = trace_lines (length notes) cpus rows tunes workers steps in
    let same : bytes ≡ head_text tunes ++ (flat ++ body) = is ∙ append_assoc (head_text tunes) flat body in
    let P : List ℕ → Type 0 = λ text. AreLines start text lines in
    let below : AreLines start bytes lines = subst P (sym same)
    (first_below tunes (flat ++ body) _
    (λ a head. comments_below version words _ _ (λ b ready. body_below cpus version rows tunes workers steps b some few one least rowed fit (is_two tunes) done next cuts ready) notes a are head)) in
    record {
      trace = trace_of (after_all start lines);
      is = record { short = short; lines = lines; are = below; ended = lines_end (length notes) cpus rows tunes workers steps; gives = refl };
      has = refl;
    }
