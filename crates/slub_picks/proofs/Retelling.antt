-- The part that is written of turns says them.
use Rattle.std.proofs.Common.{◌≡◌, ℕ, zero, suc, ◌<◌, ◌≤◌, ◌^◌, ◌==◌, true, false, not, List, [], ◌∷◌, ◌++◌, length, replicate, map, flat_map, refl, sym, ap, ◌∙◌, subst, arith, eqb, inl, inr, All, append-nil, codes}
use Rattle.std.specs.Fmt.{decimal}
use Rattle.std.specs.List.{list_all}
use Rattle.std.proofs.lemmas.Bool.{true≢false, and_parts, cases_Bool, eqb-true}
use Rattle.std.proofs.lemmas.List.Elements.{All-append, All-cons, All-head, All-nil, All-tail}
use Rattle.std.proofs.lemmas.List.Splits.{slice_split_at, slice_split_none}
use Rattle.slub_common.specs.Numbers.{Writes, is_digit, is_number}
use Rattle.slub_common.proofs.Digits.{decimal_written, digit_within}
use Rattle.slub_picks.specs.declared.list.Entry.{Entry}
use Rattle.slub_picks.specs.declared.list.Part.{Part}
use Rattle.slub_picks.specs.declared.list.Reach.TheVariants.{Turns, End}
use Rattle.slub_picks.specs.declared.made.Run.{Run}
use Rattle.slub_picks.specs.Laws.{AreOf, PartsSayTurns}
use Rattle.slub_picks.specs.List.{IsEntry, IsPart, Say as SayTexts, texts_of}
use Rattle.slub_picks.specs.Made.{AreShort, Fits, part_text, run_text, runs_of, turns_of}
use Rattle.slub_picks.specs.Spelling.{IsNumber, Word}
use Rattle.slub_picks.specs.Turns.{Go, Say, Turn}
use Rattle.slub_picks.proofs.Splits.{HasNo}

-- ---- the entries of runs

abbrev entry_of : Run → Entry
entry_of run = record { worker = run.worker; reach = Turns run.count }

-- a run of a worker that a list can name
pub record IsNamed (run : Run) : Type 0 where
  pub worker : run.worker ≤ 15
  pub fits : Fits run

-- ---- numbers have no comma

no_comma : (c : ℕ) → is_digit c ≡ true → eqb c 44 ≡ false
no_comma c is = elim (cases_Bool (eqb c 44)) [
  | inl same ↦
      let within = digit_within c is in
      let at : c ≡ 44 = eqb-true c 44 same in
      absurd (let never : ⊥ = omega (arith, within.0, at) in never)
  | inr other ↦ other
]

digits_plain : (cs : List ℕ) → list_all is_digit cs ≡ true → HasNo 44 cs
digits_plain [] is = All-nil (λ b. eqb b 44 ≡ false)
digits_plain (c ∷ cs) is =
    let both = and_parts (is_digit c) (list_all is_digit cs) is in
    All-cons (λ b. eqb b 44 ≡ false) c cs (no_comma c both.0) (digits_plain cs both.1)

number_plain : (word : Word) → is_number word ≡ true → HasNo 44 word
number_plain [] is = All-nil (λ b. eqb b 44 ≡ false)
number_plain (c ∷ []) is = All-cons (λ b. eqb b 44 ≡ false) c [] (no_comma c is) (All-nil (λ b. eqb b 44 ≡ false))
number_plain (c ∷ d ∷ cs) is = digits_plain (c ∷ d ∷ cs) (and_parts (not (eqb c 48)) (list_all is_digit (c ∷ d ∷ cs)) is).1

small : (n : ℕ) → n ≤ 4294967295 → n < 2 ^ 64
small n low = omega (arith, low)

written : (n : ℕ) → n ≤ 4294967295 → Writes (decimal n) n
written n low = decimal_written (decimal n) n refl (small n low)

-- ---- the text of a run is its entry

run_cases : (run : Run) (P : Word → Type 0) → (run.count ≡ 1 → P (decimal run.worker)) → P (decimal run.worker ++ 58 ∷ decimal run.count) → P (run_text run)
run_cases run P one several = elim (cases_Bool (eqb run.count 1)) [
  | inl is ↦ rw is (one (eqb-true run.count 1 is))
  | inr other ↦ rw other several
]

run_entry : (run : Run) → IsNamed run → IsEntry (run_text run) (entry_of run)
run_entry run named =
    let worker : IsNumber 0 15 (decimal run.worker) run.worker = record { writes = written run.worker (omega (arith, named.worker)); least_of = omega arith; most_of = named.worker } in
    run_cases run (λ text. IsEntry text (entry_of run))
    (λ one. record { front = decimal run.worker; worker = worker; reach = inl (refl, ap (λ (n : ℕ). Turns n) one) })
    (record { front = decimal run.worker; worker = worker; reach = inr (decimal run.count, refl, record { writes = written run.count named.fits.1; least_of = named.fits.0; most_of = named.fits.1 }) })

run_plain : (run : Run) → IsNamed run → HasNo 44 (run_text run)
run_plain run named =
    let worker = number_plain (decimal run.worker) (written run.worker (omega (arith, named.worker))).form in
    run_cases run (λ text. HasNo 44 text) (λ one. worker)
    (All-append (λ b. eqb b 44 ≡ false) (decimal run.worker) (58 ∷ decimal run.count) worker
    (All-cons (λ b. eqb b 44 ≡ false) 58 (decimal run.count) refl (number_plain (decimal run.count) (written run.count named.fits.1).form)))

-- ---- the text of runs is their entries

abbrev AreNamed : List Run → Type 0
AreNamed [] = Unit {0}
AreNamed (run ∷ runs) = IsNamed run × AreNamed runs

say_entries : (run : Run) (runs : List Run) → IsNamed run → AreNamed runs → SayTexts IsEntry (texts_of 44 (run_text run ++ flat_map (λ other. 44 ∷ run_text other) runs)) (map entry_of (run ∷ runs))
say_entries run [] named others =
    subst (λ (texts : List Word). SayTexts IsEntry texts (entry_of run ∷ []))
    (sym (ap (texts_of 44) (append-nil (run_text run)) ∙ slice_split_none (λ b. b == 44) (run_text run) (run_plain run named)))
    (run_entry run named, refl)
say_entries run (other ∷ runs) named others =
    subst (λ (texts : List Word). SayTexts IsEntry texts (entry_of run ∷ map entry_of (other ∷ runs)))
    (sym (slice_split_at (λ b. b == 44) (run_text run) 44 (run_text other ++ flat_map (λ other. 44 ∷ run_text other) runs) (run_plain run named) refl))
    (run_entry run named, say_entries other runs others.0 others.1)

some_text : (text : Word) (part : Part) → SayTexts IsEntry (texts_of 44 text) part.entries → (text ≡ [] → ⊥) → IsPart text part
some_text [] part say some = absurd (some refl)
some_text (c ∷ cs) part say some = say

-- ---- the entries of runs say turns

-- the turns of the first run
first_turns : (n worker : ℕ) (run : Run) (turns : List Turn) (more : List ℕ) → run.worker ≡ worker → map (λ (t : Turn). t.worker) turns ≡ replicate n worker ++ more
    → (front : List Turn) × (rest : List Turn) × (turns ≡ front ++ rest) × (length front ≡ n) × Go (entry_of run) front × (map (λ (t : Turn). t.worker) rest ≡ more)
first_turns zero worker run turns more same are = ([], turns, refl, refl, tt, are)
first_turns (suc n) worker run [] more same are = absurd (let no : ⊥ = cc in no)
first_turns (suc n) worker run (t ∷ turns) more same are =
    let head : t.worker ≡ worker = cc in
    let tail : map (λ (t : Turn). t.worker) turns ≡ replicate n worker ++ more = cc in
    let others = first_turns n worker run turns more same tail in
    (t ∷ others.0, others.1, ap (λ (ts : List Turn). t ∷ ts) others.2, ap suc others.3, (head ∙ sym same, refl, others.4), others.5)

say_turns : (workers : ℕ) (runs : List Run) (turns : List Turn) → All (λ (run : Run). run.worker < workers) runs → map (λ (t : Turn). t.worker) turns ≡ turns_of runs → Say workers (map entry_of runs) turns []
say_turns workers [] [] low are = refl
say_turns workers [] (t ∷ turns) low are = absurd (let no : ⊥ = cc in no)
say_turns workers (run ∷ runs) turns low are =
    let first = first_turns run.count run.worker run turns (turns_of runs) refl are in (
      first.0,
      first.1,
      first.2,
      All-head (λ (run : Run). run.worker < workers) run runs low,
      (first.4, first.3),
      say_turns workers runs first.1 (All-tail (λ (run : Run). run.worker < workers) run runs low) first.5,
    )

-- ---- the runs of a round's turns

-- the worker of the first run is one of the round, and so are those behind it
turns_low : (workers n worker : ℕ) (turns : List Turn) (more : List ℕ) → map (λ (t : Turn). t.worker) turns ≡ replicate n worker ++ more → AreOf workers turns
    → (1 ≤ n → worker < workers) × ((rest : List Turn) × (map (λ (t : Turn). t.worker) rest ≡ more) × AreOf workers rest)
turns_low workers zero worker turns more are of = (λ some. absurd (let no : ⊥ = omega (arith, some) in no), (turns, are, of))
turns_low workers (suc n) worker [] more are of = absurd (let no : ⊥ = cc in no)
turns_low workers (suc n) worker (t ∷ turns) more are of =
    let head : t.worker ≡ worker = cc in
    let tail : map (λ (t : Turn). t.worker) turns ≡ replicate n worker ++ more = cc in
    let others = turns_low workers n worker turns more tail (All-tail (λ (t : Turn). t.worker < workers) t turns of) in
    (λ some. subst (λ (w : ℕ). w < workers) head (All-head (λ (t : Turn). t.worker < workers) t turns of), others.1)

short_first : (run : Run) (runs : List Run) → AreShort (run ∷ runs) → Fits run
short_first run [] short = short
short_first run (other ∷ runs) short = short.0

short_rest : (run : Run) (runs : List Run) → AreShort (run ∷ runs) → AreShort runs
short_rest run [] short = tt
short_rest run (other ∷ runs) short = short.2

runs_low : (workers : ℕ) (runs : List Run) (turns : List Turn) → AreShort runs → map (λ (t : Turn). t.worker) turns ≡ turns_of runs → AreOf workers turns → All (λ (run : Run). run.worker < workers) runs
runs_low workers [] turns short are of = All-nil (λ (run : Run). run.worker < workers)
runs_low workers (run ∷ runs) turns short are of =
    let first = turns_low workers run.count run.worker turns (turns_of runs) are of in
    All-cons (λ (run : Run). run.worker < workers) run runs (first.0 (short_first run runs short).0) (runs_low workers runs first.1.0 (short_rest run runs short) first.1.1 first.1.2)

are_named : (workers : ℕ) (runs : List Run) → workers ≤ 16 → AreShort runs → All (λ (run : Run). run.worker < workers) runs → AreNamed runs
are_named workers [] few short low = tt
are_named workers (run ∷ runs) few short low =
    let first : run.worker < workers = All-head (λ (run : Run). run.worker < workers) run runs low in
    (record { worker = omega (arith, first, few); fits = short_first run runs short }, are_named workers runs few (short_rest run runs short) (All-tail (λ (run : Run). run.worker < workers) run runs low))

-- ---- no text of runs is empty

number_some : (word more : Word) → is_number word ≡ true → word ++ more ≡ [] → ⊥
number_some [] more is none = true≢false (sym is)
number_some (c ∷ cs) more is none = absurd (let no : ⊥ = cc in no)

joined_some : (word : Word) (c : ℕ) (cs more : Word) → (word ++ c ∷ cs) ++ more ≡ [] → ⊥
joined_some [] c cs more none = absurd (let no : ⊥ = cc in no)
joined_some (d ∷ word) c cs more none = absurd (let no : ⊥ = cc in no)

run_some : (run : Run) (more : Word) → IsNamed run → run_text run ++ more ≡ [] → ⊥
run_some run more named = run_cases run (λ text. text ++ more ≡ [] → ⊥)
    (λ one. number_some (decimal run.worker) more (written run.worker (omega (arith, named.worker))).form)
    (joined_some (decimal run.worker) 58 (decimal run.count) more)

-- ---- all

abbrev Retold : ℕ → List Turn → List Run → Type 0
Retold workers turns runs = (part : Part) × IsPart (part_text runs) part × Say workers part.entries turns []

-- `0:end`
end_part : Part
end_part = record { entries = record { worker = 0; reach = End } ∷ [] }

retold_none : (workers : ℕ) (turns : List Turn) → 1 ≤ workers → map (λ (t : Turn). t.worker) turns ≡ [] → Retold workers turns []
unfolding end_part
retold_none workers [] some are = (
  end_part,
  (record { front = codes "0"; worker = record { writes = record { form = refl; value = refl }; least_of = omega arith; most_of = omega arith }; reach = inr (codes "end", refl, refl) }, refl),
  ([], [], refl, some, inr (tt, refl), refl),
)
retold_none workers (t ∷ turns) some are = absurd (let no : ⊥ = cc in no)

retold : (workers : ℕ) (turns : List Turn) (runs : List Run) → 1 ≤ workers → workers ≤ 16 → AreOf workers turns → AreShort runs → map (λ (t : Turn). t.worker) turns ≡ turns_of runs → Retold workers turns runs
retold workers turns [] some few of short are = retold_none workers turns some are
retold workers turns (run ∷ runs) some few of short are =
    let low = runs_low workers (run ∷ runs) turns short are of in
    let named = are_named workers (run ∷ runs) few short low in
    let part : Part = record { entries = map entry_of (run ∷ runs) } in
    let text = run_text run ++ flat_map (λ other. 44 ∷ run_text other) runs in
    (part, some_text text part (say_entries run runs named.0 named.1) (run_some run (flat_map (λ other. 44 ∷ run_text other) runs) named.0), say_turns workers (run ∷ runs) turns low are)

pub parts_retell : PartsSayTurns
parts_retell workers turns made some few of is = retold workers turns (runs_of made) some few of is.short (sym is.turns_are)
