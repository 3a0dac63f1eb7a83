-- The text of a whole trace is its lines.
use Rattle.std.proofs.Common.{◌≡◌, ℕ, zero, suc, ◌<◌, ◌≤◌, Bool, true, false, List, [], ◌∷◌, ◌++◌, length, map, refl, sym, ap, ◌∙◌, subst, arith, append_assoc, nat_eq, true≢false}
use Rattle.std.specs.Prelude.{codes, flat_map, All, if◌then◌else◌}
use Rattle.std.specs.Fmt.{decimal}
use Rattle.std.specs.List.{list_any}
use Rattle.std.specs.Str.{bytes_eq}
use Rattle.std.proofs.lemmas.Cmp.{nat_list_eq_equiv}
use Rattle.std.proofs.lemmas.List.Elements.{All-nil}
use Rattle.std.proofs.lemmas.List.Folds.{list_any-append}
use Rattle.slub_common.specs.Numbers.{Writes}
use Rattle.slub_object_layout.specs.Name.{IsName}
use Rattle.slub_recorded.specs.declared.rounds.Step.{Step}
use Rattle.slub_recorded.specs.declared.text.Row.{Row}
use Rattle.slub_recorded.specs.declared.tunes.Tune.{Tune as TuneOf}
use Rattle.slub_recorded.specs.Converted.{IsTune}
use Rattle.slub_recorded.specs.Rounds.{turns_in}
use Rattle.slub_recorded.specs.Text.{name_at, row_text, step_text}
use Rattle.slub_recorded.specs.Tunes.{is_for, knob_words, tune_lines, tune_text, tunes_lines, tunes_text}
use Rattle.slub_recorded.specs.Turns.{AreNext}
use Rattle.slub_recorded.specs.Lines.{IsRow, row_line, step_lines}
use Rattle.slub_recorded.proofs.Lines.{AreSteps, Stands, begin_below, count_cuts, done_below, info_below, number_writes, one_more, one_name, one_number, steps_below}
use Rattle.slub_trace_reader.specs.declared.line.Knob.{Knob}
use Rattle.slub_trace_reader.specs.declared.line.Knob.TheVariants.{MinPartial, CpuPartial}
use Rattle.slub_trace_reader.specs.declared.line.Line.{Line}
use Rattle.slub_trace_reader.specs.declared.line.Line.TheVariants.{Tune, Slabinfo, Round, Done, End}
use Rattle.slub_trace_reader.specs.declared.place.Place.TheVariants.{Between, Within}
use Rattle.slub_trace_reader.specs.Above.{Above, after, with_name}
use Rattle.slub_trace_reader.specs.Grammar.{AreLines, IsLine, IsNamed, IsOneLine}
use Rattle.slub_trace_reader.specs.Lines.{knob_word}
use Rattle.slub_trace_reader.specs.Words.{WritesFlags, flags_in}

-- ---- names

self : (name : List ℕ) → bytes_eq name name ≡ true
self name = nat_list_eq_equiv.refl name

grown_by : (names : List (List ℕ)) (name x : List ℕ) (b : Bool) → IsNamed x names → IsNamed x (if b then names else names ++ name ∷ [])
grown_by names name x true is = is
grown_by names name x false is = list_any-append (bytes_eq x) names (name ∷ []) ∙ (rw is refl)

-- a name that was there is there with one more
grown : (names : List (List ℕ)) (name x : List ℕ) → IsNamed x names → IsNamed x (with_name names name)
grown names name x is = grown_by names name x (list_any (bytes_eq name) names) is

added_by : (names : List (List ℕ)) (name : List ℕ) (b : Bool) → list_any (bytes_eq name) names ≡ b → IsNamed name (if b then names else names ++ name ∷ [])
added_by names name true is = is
added_by names name false is = let me : bytes_eq name name ≡ true = self name in list_any-append (bytes_eq name) names (name ∷ []) ∙ (rw (is, me) refl)

-- and so is that one
added : (names : List (List ℕ)) (name : List ℕ) → IsNamed name (with_name names name)
added names name = added_by names name (list_any (bytes_eq name) names) refl

abbrev pub AllNamed : List (List ℕ) → List Row → Type 0
AllNamed names [] = Unit {0}
AllNamed names (row ∷ rows) = IsNamed row.name names × AllNamed names rows

named_at : (names : List (List ℕ)) (rows : List Row) → AllNamed names rows → All IsRow rows → (cache : ℕ) → cache < length rows → IsName (name_at rows cache) × IsNamed (name_at rows cache) names
named_at names [] named are cache low = absurd (let never : ⊥ = omega arith in never)
named_at names (row ∷ rows) named are zero low = ((are 0 row (omega arith)).0, named.0)
named_at names (row ∷ rows) named are (suc cache) low = named_at names rows named.1 (λ k d below. are (suc k) d (omega arith)) cache (omega arith)

-- ---- lines of caches

-- lines above that created caches alone
pub record Begins (cpus version : ℕ) (a : Above) : Type 0 where
  pub place : a.place ≡ Between
  pub cpus_are : a.cpus ≡ cpus
  pub version_is : a.version ≡ version
  pub rounds : a.rounds ≡ 0
  pub objects : a.objects ≡ []

eight : Writes (56 ∷ []) 8
eight = record { form = refl; value = refl }

flags_said : (r : Bool) → WritesFlags (if r then codes "R" else codes "-") (flags_in (if r then codes "R" else codes "-"))
flags_said true = record { form = refl; value = refl }
flags_said false = record { form = refl; value = refl }

one_flags : (r : Bool) → IsOneLine (56 ∷ 32 ∷ (if r then codes "R" else codes "-"))
one_flags true = λ k d low is. grind arith
one_flags false = λ k d low is. grind arith

one_cache : (rest : List ℕ) → IsOneLine rest → IsOneLine (codes "cache " ++ rest)
one_cache rest one = one_more (codes "cache") rest (λ k d low is. grind arith) one

row_parts : (r : Bool) (name s flat rest : List ℕ) → ((codes "cache " ++ name ++ 32 ∷ s ++ (if r then codes " 8 R" else codes " 8 -") ++ 10 ∷ []) ++ flat) ++ rest
    ≡ (codes "cache " ++ (name ++ 32 ∷ (s ++ 32 ∷ (56 ∷ 32 ∷ (if r then codes "R" else codes "-"))))) ++ 10 ∷ (flat ++ rest)
row_parts true name s flat rest = simp append_assoc
row_parts false name s flat rest = simp append_assoc

-- what may stand below caches may stand below these, too
pub rows_below : (cpus version : ℕ) (rest : List ℕ) (more : List Line) (rows : List Row) (a : Above) → All IsRow rows → Begins cpus version a
    → ((b : Above) → Begins cpus version b → ((name : List ℕ) → IsNamed name a.names → IsNamed name b.names) → AllNamed b.names rows → AreLines b rest more)
    → AreLines a (flat_map row_text rows ++ rest) (map row_line rows ++ more)
rows_below cpus version rest more [] a are begins below = below a begins (λ name is. is) tt
rows_below cpus version rest more (row ∷ rows) a are begins below =
    let flag : List ℕ = if row.reclaim then codes "R" else codes "-" in
    let text : List ℕ = codes "cache " ++ (row.name ++ 32 ∷ (decimal row.slot ++ 32 ∷ (56 ∷ 32 ∷ flag))) in
    let flat : List ℕ = flat_map row_text rows in
    let is : IsRow row = are 0 row (omega arith) in
    let one : IsOneLine text = one_cache _ (one_more _ _ (one_name row.name is.0) (one_more _ _ (one_number row.slot (omega arith)) (one_flags row.reclaim))) in
    let New : ℕ → Type 0 = λ n. list_any (nat_eq n) a.objects ≡ false in
    let Old : ℕ → Type 0 = λ n. list_any (nat_eq n) a.objects ≡ true in
    let line : IsLine a text (row_line row) = record {
      says = (decimal row.slot, 56 ∷ [], flag, is.0, number_writes row.slot (omega arith), eight, flags_said row.reclaim, refl);
      stands = begins.place;
      range = (is.1, (omega arith));
      room = tt;
      named = tt;
      fresh = All-nil New;
      known = All-nil Old;
      written = tt;
    } in (
      text,
      flat ++ rest,
      row_parts row.reclaim row.name (decimal row.slot) flat rest,
      one,
      line,
      rows_below cpus version rest more rows (after a (row_line row)) (λ k d low. are (suc k) d (omega arith))
          (record { place = begins.place; cpus_are = begins.cpus_are; version_is = begins.version_is; rounds = begins.rounds; objects = begins.objects })
          (λ b ready grows named. below b ready (λ name was. grows name (grown a.names row.name name was)) (grows row.name (added a.names row.name), named)),
    )

-- ---- settings

min_parts : (name d rest : List ℕ) → (codes "tune " ++ name ++ codes " min_partial " ++ d ++ 10 ∷ []) ++ rest ≡ (codes "tune " ++ (name ++ 32 ∷ (codes "min_partial" ++ 32 ∷ d))) ++ 10 ∷ rest
min_parts name d rest = simp append_assoc

cpu_parts : (name d rest : List ℕ) → (codes "tune " ++ name ++ codes " cpu_partial " ++ d ++ 10 ∷ []) ++ rest ≡ (codes "tune " ++ (name ++ 32 ∷ (codes "cpu_partial" ++ 32 ∷ d))) ++ 10 ∷ rest
cpu_parts name d rest = simp append_assoc

tune_parts : (knob : Knob) (name d rest : List ℕ) → (codes "tune " ++ name ++ knob_words knob ++ d ++ 10 ∷ []) ++ rest ≡ (codes "tune " ++ (name ++ 32 ∷ (knob_word knob ++ 32 ∷ d))) ++ 10 ∷ rest
tune_parts MinPartial name d rest = min_parts name d rest
tune_parts CpuPartial name d rest = cpu_parts name d rest

one_tune : (rest : List ℕ) → IsOneLine rest → IsOneLine (codes "tune " ++ rest)
one_tune rest one = one_more (codes "tune") rest (λ k d low is. grind arith) one

one_knob : (knob : Knob) → IsOneLine (knob_word knob)
one_knob MinPartial = λ k d low is. grind arith
one_knob CpuPartial = λ k d low is. grind arith

-- what may stand below a setting may stand below this one, whether it is for the cache or not
tune_by : (cpus version : ℕ) (name : List ℕ) (tune : TuneOf) (rest : List ℕ) (more : List Line) (a : Above) → IsName name → IsNamed name a.names → IsTune tune → 2 ≤ version → Begins cpus version a
    → ((b : Above) → Begins cpus version b → b.names ≡ a.names → AreLines b rest more) → (is : Bool)
    → AreLines a ((if is then codes "tune " ++ name ++ knob_words tune.knob ++ decimal tune.number ++ 10 ∷ [] else []) ++ rest) ((if is then Tune name tune.knob tune.number ∷ [] else []) ++ more)
tune_by cpus version name tune rest more a is named fits two begins below false = below a begins refl
tune_by cpus version name tune rest more a is named fits two begins below true =
    let text : List ℕ = codes "tune " ++ (name ++ 32 ∷ (knob_word tune.knob ++ 32 ∷ decimal tune.number)) in
    let New : ℕ → Type 0 = λ n. list_any (nat_eq n) a.objects ≡ false in
    let Old : ℕ → Type 0 = λ n. list_any (nat_eq n) a.objects ≡ true in
    let newer : a.version ≡ version = begins.version_is in
    let low : tune.number ≤ 4096 = fits in
    let one : IsOneLine text = one_tune _ (one_more _ _ (one_name name is) (one_more _ _ (one_knob tune.knob) (one_number tune.number (omega arith)))) in
    let line : IsLine a text (Tune name tune.knob tune.number) = record {
      says = (decimal tune.number, is, number_writes tune.number (omega arith), refl);
      stands = ((omega arith), begins.place);
      range = fits;
      room = tt;
      named = named;
      fresh = All-nil New;
      known = All-nil Old;
      written = tt;
    } in (
      text,
      rest,
      tune_parts tune.knob name (decimal tune.number) rest,
      one,
      line,
      below (after a (Tune name tune.knob tune.number)) (record { place = begins.place; cpus_are = begins.cpus_are; version_is = begins.version_is; rounds = begins.rounds; objects = begins.objects }) refl,
    )

-- all settings of a cache
row_tunes_below : (cpus version : ℕ) (name : List ℕ) (rest : List ℕ) (more : List Line) → IsName name → (tunes : List TuneOf) (a : Above) → IsNamed name a.names → All IsTune tunes → (1 ≤ length tunes → 2 ≤ version) → Begins cpus version a
    → ((b : Above) → Begins cpus version b → b.names ≡ a.names → AreLines b rest more)
    → AreLines a (flat_map (tune_text name) tunes ++ rest) (flat_map (tune_lines name) tunes ++ more)
row_tunes_below cpus version name rest more is [] a named fit two begins below = below a begins refl
row_tunes_below cpus version name rest more is (tune ∷ tunes) a named fit two begins below =
    let flat : List ℕ = flat_map (tune_text name) tunes in
    let lines : List Line = flat_map (tune_lines name) tunes in
    let newer : 2 ≤ version = two (omega arith) in
    let N : List (List ℕ) → Type 0 = λ names. IsNamed name names in
    let P : List ℕ → Type 0 = λ bytes. AreLines a bytes ((tune_lines name tune ++ lines) ++ more) in
    let Q : List Line → Type 0 = λ ls. AreLines a (tune_text name tune ++ (flat ++ rest)) ls in
    subst P (sym (append_assoc (tune_text name tune) flat rest))
    (subst Q (sym (append_assoc (tune_lines name tune) lines more))
    (tune_by cpus version name tune (flat ++ rest) (lines ++ more) a is named (fit 0 tune (omega arith)) newer begins
    (λ b ready same. row_tunes_below cpus version name rest more is tunes b (subst N (sym same) named) (λ k d low. fit (suc k) d (omega arith)) (λ _. newer) ready (λ c done also. below c done (also ∙ same)))
    (is_for tune name)))

named_in : (names more : List (List ℕ)) (rows : List Row) → more ≡ names → AllNamed names rows → AllNamed more rows
named_in names more rows same named = let P : List (List ℕ) → Type 0 = λ ns. AllNamed ns rows in subst P (sym same) named

-- all settings
tunes_below : (cpus version : ℕ) (tunes : List TuneOf) (rest : List ℕ) (more : List Line) → All IsTune tunes → (1 ≤ length tunes → 2 ≤ version) → (rows : List Row) (a : Above) → All IsRow rows → AllNamed a.names rows → Begins cpus version a
    → ((b : Above) → Begins cpus version b → b.names ≡ a.names → AreLines b rest more)
    → AreLines a (flat_map (tunes_text tunes) rows ++ rest) (flat_map (tunes_lines tunes) rows ++ more)
tunes_below cpus version tunes rest more fit two [] a are named begins below = below a begins refl
tunes_below cpus version tunes rest more fit two (row ∷ rows) a are named begins below =
    let flat : List ℕ = flat_map (tunes_text tunes) rows in
    let lines : List Line = flat_map (tunes_lines tunes) rows in
    let is : IsRow row = are 0 row (omega arith) in
    let P : List ℕ → Type 0 = λ bytes. AreLines a bytes ((tunes_lines tunes row ++ lines) ++ more) in
    let Q : List Line → Type 0 = λ ls. AreLines a (tunes_text tunes row ++ (flat ++ rest)) ls in
    subst P (sym (append_assoc (tunes_text tunes row) flat rest))
    (subst Q (sym (append_assoc (tunes_lines tunes row) lines more))
    (row_tunes_below cpus version row.name (flat ++ rest) (lines ++ more) is.0 tunes a named.0 fit two begins
    (λ b ready same. tunes_below cpus version tunes rest more fit two rows b (λ k d low. are (suc k) d (omega arith)) (named_in a.names b.names rows same named.1) ready (λ c done also. below c done (also ∙ same)))))

-- ---- the end

end_below : (workers : ℕ) (b : Above) → b.place ≡ Within workers → AreLines b (codes "done" ++ 10 ∷ (codes "slabinfo" ++ 10 ∷ (codes "end" ++ 10 ∷ []))) (Done ∷ Slabinfo ∷ End ∷ [])
end_below workers b place =
    let New : ℕ → Type 0 = λ n. list_any (nat_eq n) b.objects ≡ false in
    let Old : ℕ → Type 0 = λ n. list_any (nat_eq n) b.objects ≡ true in
    let end : IsLine (after (after b Done) Slabinfo) (codes "end") End = record { says = refl; stands = refl; range = tt; room = tt; named = tt; fresh = All-nil New; known = All-nil Old; written = tt } in
    let last : AreLines (after (after b Done) Slabinfo) (codes "end" ++ 10 ∷ []) (End ∷ []) = (codes "end", [], refl, (λ k d low is. grind arith), end, refl) in
    done_below b workers (codes "slabinfo" ++ 10 ∷ (codes "end" ++ 10 ∷ [])) (Slabinfo ∷ End ∷ []) place (info_below (after b Done) (codes "end" ++ 10 ∷ []) (End ∷ []) refl last)

-- ---- the rounds

rounds_below : (cpus version : ℕ) (rows : List Row) (workers : ℕ) (steps : List Step) (b : Above) → cpus ≤ 16 → 1 ≤ workers → workers ≤ 16 → All IsRow rows → AreSteps cpus rows workers steps
    → AreNext (λ _. false) 0 (turns_in steps) → count_cuts steps ≤ 255 → Begins cpus version b → AllNamed b.names rows
    → AreLines b ((codes "round " ++ decimal workers) ++ 10 ∷ (flat_map (step_text rows workers) steps ++ (codes "done" ++ 10 ∷ (codes "slabinfo" ++ 10 ∷ (codes "end" ++ 10 ∷ [])))))
    (Round workers ∷ (flat_map (step_lines rows workers) steps ++ (Done ∷ Slabinfo ∷ End ∷ [])))
rounds_below cpus version rows workers steps b few some least are done next cuts begins named =
    let none : b.rounds ≡ 0 = begins.rounds in
    let stands : Stands cpus rows workers (λ _. false) 0 (after b (Round workers)) = record {
      place = refl;
      cpus_are = begins.cpus_are;
      named = named_at b.names rows named are;
      known = λ n live. absurd (true≢false (sym live));
      some = λ n live. absurd (true≢false (sym live));
      fresh = λ n low. ap (list_any (nat_eq n)) begins.objects;
    } in
    begin_below cpus rows workers (λ _. false) 0 b _ _ some least begins.place (omega arith) stands
    (λ c rounds ready. steps_below cpus rows workers _ _ few some least (end_below workers) steps (λ _. false) 0 c done next (omega (arith, rounds, cuts, none)) ready)

-- ---- settings and rounds

pub parts_below : (cpus version : ℕ) (rows : List Row) (tunes : List TuneOf) (workers : ℕ) (steps : List Step) (b : Above) → cpus ≤ 16 → 1 ≤ workers → workers ≤ 16 → All IsRow rows → All IsTune tunes → (1 ≤ length tunes → 2 ≤ version)
    → AreSteps cpus rows workers steps → AreNext (λ _. false) 0 (turns_in steps) → count_cuts steps ≤ 255 → Begins cpus version b → AllNamed b.names rows
    → AreLines b (flat_map (tunes_text tunes) rows ++ ((codes "round " ++ decimal workers) ++ 10 ∷ (flat_map (step_text rows workers) steps ++ (codes "done" ++ 10 ∷ (codes "slabinfo" ++ 10 ∷ (codes "end" ++ 10 ∷ []))))))
    (flat_map (tunes_lines tunes) rows ++ (Round workers ∷ (flat_map (step_lines rows workers) steps ++ (Done ∷ Slabinfo ∷ End ∷ []))))
parts_below cpus version rows tunes workers steps b few some least are fit two done next cuts begins named =
    tunes_below cpus version tunes _ _ fit two rows b are named begins
    (λ c ready same. rounds_below cpus version rows workers steps c few some least are done next cuts ready (named_in b.names c.names rows same named))
