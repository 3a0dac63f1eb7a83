-- The text of a trace is its lines, each of which may stand below those before it.
use Rattle.std.proofs.Common.{◌≡◌, ◌≢◌, ℕ, ◌+◌, ◌<◌, ◌≤◌, ◌^◌, Bool, true, false, not, ◌&&◌, ◌||◌, List, [], ◌∷◌, ◌++◌, length, refl, sym, ◌∙◌, subst, arith, append_assoc, nat_eq, true≢false}
use Rattle.std.specs.Prelude.{codes, flat_map, if◌then◌else◌}
use Rattle.std.specs.Fmt.{decimal}
use Rattle.std.specs.List.{list_any}
use Rattle.std.proofs.lemmas.List.Elements.{All-append, All-cons, All-nil}
use Rattle.std.proofs.lemmas.Bool.{eqb-true, ne_eqb}
use Rattle.std.proofs.lemmas.List.Folds.{list_any-append}
use Rattle.slub_common.specs.Numbers.{Writes}
use Rattle.slub_common.proofs.Digits.{decimal_written}
use Rattle.slub_object_layout.specs.Name.{IsName}
use Rattle.slub_recorded.specs.declared.rounds.Step.{Step}
use Rattle.slub_recorded.specs.declared.rounds.Step.TheVariants.{Does, Cut}
use Rattle.slub_recorded.specs.declared.text.Row.{Row}
use Rattle.slub_recorded.specs.declared.turns.Turn.{Turn}
use Rattle.slub_recorded.specs.declared.turns.Turn.TheVariants as turn
use Rattle.slub_recorded.specs.Text.{cut_text, name_at, step_text}
use Rattle.slub_recorded.specs.Turns.{AreNext, lives_after}
use Rattle.slub_recorded.specs.Lines.{cut_lines, step_lines}
use Rattle.slub_recorded.specs.Rounds.{turns_in}
use Rattle.slub_trace_reader.specs.declared.line.Line.{Line}
use Rattle.slub_trace_reader.specs.declared.line.Line.TheVariants.{Slabinfo, Round, Alloc, Free, Done}
use Rattle.slub_trace_reader.specs.declared.place.Place.{Place}
use Rattle.slub_trace_reader.specs.declared.place.Place.TheVariants.{Between, Within}
use Rattle.slub_trace_reader.specs.Above.{Above, after, workers_in}
use Rattle.slub_trace_reader.specs.Grammar.{AreLines, IsInRound, IsLine, IsNamed, IsOneLine}
use Rattle.slub_trace_reader.proofs.WordTexts.{name_lacks, number_lacks}

-- ---- words

pub number_writes : (n : ℕ) → n < 2 ^ 64 → Writes (decimal n) n
number_writes n low = decimal_written (decimal n) n refl low

pub one_number : (n : ℕ) → n < 2 ^ 64 → IsOneLine (decimal n)
one_number n low = let writes = number_writes n low in number_lacks 10 (decimal n) (omega arith) writes.form

pub one_name : (name : List ℕ) → IsName name → IsOneLine name
one_name name is = name_lacks 10 name (omega arith) is

-- a word in front, with a space behind it
pub one_more : (word rest : List ℕ) → IsOneLine word → IsOneLine rest → IsOneLine (word ++ 32 ∷ rest)
one_more word rest one more = All-append (λ b. b ≢ 10) word (32 ∷ rest) one (All-cons (λ b. b ≢ 10) 32 rest (λ is. absurd (let never : ⊥ = omega arith in never)) more)

one_alloc : (rest : List ℕ) → IsOneLine rest → IsOneLine (codes "alloc " ++ rest)
one_alloc rest one = one_more (codes "alloc") rest (λ k d low is. grind arith) one

one_free : (rest : List ℕ) → IsOneLine rest → IsOneLine (codes "free " ++ rest)
one_free rest one = one_more (codes "free") rest (λ k d low is. grind arith) one

one_round : (rest : List ℕ) → IsOneLine rest → IsOneLine (codes "round " ++ rest)
one_round rest one = one_more (codes "round") rest (λ k d low is. grind arith) one

-- ---- object numbers

any_more : (n object : ℕ) (objects : List ℕ) → list_any (nat_eq n) (objects ++ object ∷ []) ≡ (list_any (nat_eq n) objects || (nat_eq n object || false))
any_more n object objects = list_any-append (nat_eq n) objects (object ∷ [])

known_by : (a b c : Bool) → (c ≡ true → a ≡ true) → (b || c) ≡ true → (a || (b || false)) ≡ true
known_by true b c old is = refl
known_by false true c old is = refl
known_by false false c old is = old is

fresh_by : (a b : Bool) → a ≡ false → b ≡ false → (a || (b || false)) ≡ false
fresh_by a b none other = rw (none, other) refl

lived : (a b : Bool) → (not a && b) ≡ true → b ≡ true
lived true b is = absurd (true≢false (sym is))
lived false b is = is

differs : (n m : ℕ) → m < n → nat_eq n m ≡ false
differs n m low = ne_eqb n m (λ is. let never : ⊥ = omega arith in never)

some_from : (t b : Bool) (n object : ℕ) → (t ≡ true → n ≡ object) → 1 ≤ object → (t || b) ≡ true → (b ≡ true → 1 ≤ n) → 1 ≤ n
some_from true b n object same low is old = let e = same refl in omega (arith, e)
some_from false b n object same low is old = old is

some_by : (n object : ℕ) → 1 ≤ object → (b : Bool) → (nat_eq n object || b) ≡ true → (b ≡ true → 1 ≤ n) → 1 ≤ n
some_by n object low b is old = some_from (nat_eq n object) b n object (eqb-true n object) low is old

-- ---- one turn

-- its numbers are in their ranges
abbrev pub IsTurn : ℕ → List Row → Turn → Type 0
IsTurn cpus rows (turn.Alloc cpu cache object) = (cpu < cpus) × (cache < length rows) × (object ≤ 1048576)
IsTurn cpus rows (turn.Free cpu object) = (cpu < cpus) × (object ≤ 1048576)

abbrev pub AreTurns : ℕ → List Row → List Turn → Type 0
AreTurns cpus rows [] = Unit {0}
AreTurns cpus rows (t ∷ turns) = IsTurn cpus rows t × AreTurns cpus rows turns

-- so is each turn of steps, and each worker is one of so many
abbrev pub AreSteps : ℕ → List Row → ℕ → List Step → Type 0
AreSteps cpus rows workers [] = Unit {0}
AreSteps cpus rows workers (Does worker t ∷ steps) = (worker < workers) × IsTurn cpus rows t × AreSteps cpus rows workers steps
AreSteps cpus rows workers (Cut slabinfo ∷ steps) = AreSteps cpus rows workers steps

-- how many rounds begin
abbrev pub count_cuts : List Step → ℕ
count_cuts [] = 0
count_cuts (Does worker t ∷ steps) = count_cuts steps
count_cuts (Cut slabinfo ∷ steps) = count_cuts steps + 1

-- lines above that begin a round of so many workers, and allocated so many objects
pub record Stands (cpus : ℕ) (rows : List Row) (workers : ℕ) (lives : ℕ → Bool) (count : ℕ) (a : Above) : Type 0 where
  pub place : a.place ≡ Within workers
  pub cpus_are : a.cpus ≡ cpus
  pub named : (cache : ℕ) → cache < length rows → IsName (name_at rows cache) × IsNamed (name_at rows cache) a.names
  pub known : (n : ℕ) → lives n ≡ true → list_any (nat_eq n) a.objects ≡ true
  pub some : (n : ℕ) → lives n ≡ true → 1 ≤ n
  pub fresh : (n : ℕ) → count < n → list_any (nat_eq n) a.objects ≡ false

in_round : (workers : ℕ) (place : Place) → place ≡ Within workers → IsInRound place
in_round workers place is = subst IsInRound (sym is) tt

has_worker : (workers worker : ℕ) (place : Place) → place ≡ Within workers → worker < workers → worker < workers_in place
has_worker workers worker place is low = let P : Place → Type 0 = λ p. worker < workers_in p in subst P (sym is) low

-- a worker and what follows it
worker_writes : (workers worker : ℕ) → worker < workers → workers ≤ 16 → Writes (decimal worker) worker
worker_writes workers worker low few = number_writes worker (omega arith)

alloc_line : (cpus : ℕ) (rows : List Row) (workers : ℕ) (lives : ℕ → Bool) (count : ℕ) (a : Above) (worker cpu cache object : ℕ) → Stands cpus rows workers lives count a → IsTurn cpus rows (turn.Alloc cpu cache object)
    → cpus ≤ 16 → worker < workers → workers ≤ 16 → object ≡ count + 1
    → IsLine a (codes "alloc " ++ (decimal worker ++ 32 ∷ (decimal cpu ++ 32 ∷ (name_at rows cache ++ 32 ∷ decimal object)))) (Alloc worker cpu (name_at rows cache) object)
alloc_line cpus rows workers lives count a worker cpu cache object s is few low least next =
    let New : ℕ → Type 0 = λ n. list_any (nat_eq n) a.objects ≡ false in
    let Old : ℕ → Type 0 = λ n. list_any (nat_eq n) a.objects ≡ true in
    let same : a.cpus ≡ cpus = s.cpus_are in
    let n = s.named cache is.1 in
    record {
      says = (decimal worker, decimal cpu, decimal object, worker_writes workers worker low least, number_writes cpu (omega arith), n.0, number_writes object (omega arith), refl);
      stands = in_round workers a.place s.place;
      range = (has_worker workers worker a.place s.place low, (omega arith), ((omega arith), is.2));
      room = tt;
      named = n.1;
      fresh = All-cons New object [] (s.fresh object (omega arith)) (All-nil New);
      known = All-nil Old;
      written = tt;
    }

free_line : (cpus : ℕ) (rows : List Row) (workers : ℕ) (lives : ℕ → Bool) (count : ℕ) (a : Above) (worker cpu object : ℕ) → Stands cpus rows workers lives count a → IsTurn cpus rows (turn.Free cpu object)
    → cpus ≤ 16 → worker < workers → workers ≤ 16 → lives object ≡ true
    → IsLine a (codes "free " ++ (decimal worker ++ 32 ∷ (decimal cpu ++ 32 ∷ decimal object))) (Free worker cpu object)
free_line cpus rows workers lives count a worker cpu object s is few low least live =
    let New : ℕ → Type 0 = λ n. list_any (nat_eq n) a.objects ≡ false in
    let Old : ℕ → Type 0 = λ n. list_any (nat_eq n) a.objects ≡ true in
    let same : a.cpus ≡ cpus = s.cpus_are in
    record {
      says = (decimal worker, decimal cpu, decimal object, worker_writes workers worker low least, number_writes cpu (omega arith), number_writes object (omega arith), refl);
      stands = in_round workers a.place s.place;
      range = (has_worker workers worker a.place s.place low, (omega arith), (s.some object live, is.1));
      room = tt;
      named = tt;
      fresh = All-nil New;
      known = All-cons Old object [] (s.known object live) (All-nil Old);
      written = tt;
    }

alloc_stands : (cpus : ℕ) (rows : List Row) (workers : ℕ) (lives : ℕ → Bool) (count : ℕ) (a : Above) (worker cpu cache object : ℕ) → Stands cpus rows workers lives count a → object ≡ count + 1
    → Stands cpus rows workers (lives_after lives (turn.Alloc cpu cache object)) (count + 1) (after a (Alloc worker cpu (name_at rows cache) object))
alloc_stands cpus rows workers lives count a worker cpu cache object s next = record {
  place = s.place;
  cpus_are = s.cpus_are;
  named = s.named;
  known = λ n live. any_more n object a.objects ∙ known_by (list_any (nat_eq n) a.objects) (nat_eq n object) (lives n) (s.known n) live;
  some = λ n live. some_by n object (omega arith) (lives n) live (s.some n);
  fresh = λ n low. any_more n object a.objects ∙ fresh_by (list_any (nat_eq n) a.objects) (nat_eq n object) (s.fresh n (omega arith)) (differs n object (omega arith));
}

free_stands : (cpus : ℕ) (rows : List Row) (workers : ℕ) (lives : ℕ → Bool) (count : ℕ) (a : Above) (worker cpu object : ℕ) → Stands cpus rows workers lives count a
    → Stands cpus rows workers (lives_after lives (turn.Free cpu object)) count (after a (Free worker cpu object))
free_stands cpus rows workers lives count a worker cpu object s = record {
  place = s.place;
  cpus_are = s.cpus_are;
  named = s.named;
  known = λ n live. s.known n (lived (nat_eq n object) (lives n) live);
  some = λ n live. s.some n (lived (nat_eq n object) (lives n) live);
  fresh = s.fresh;
}

alloc_parts : (w c name o flat rest : List ℕ) → ((codes "alloc " ++ w ++ 32 ∷ c ++ 32 ∷ name ++ 32 ∷ o ++ 10 ∷ []) ++ flat) ++ rest ≡ (codes "alloc " ++ (w ++ 32 ∷ (c ++ 32 ∷ (name ++ 32 ∷ o)))) ++ 10 ∷ (flat ++ rest)
alloc_parts w c name o flat rest = simp append_assoc

free_parts : (w c o flat rest : List ℕ) → ((codes "free " ++ w ++ 32 ∷ c ++ 32 ∷ o ++ 10 ∷ []) ++ flat) ++ rest ≡ (codes "free " ++ (w ++ 32 ∷ (c ++ 32 ∷ o))) ++ 10 ∷ (flat ++ rest)
free_parts w c o flat rest = simp append_assoc

-- ---- between rounds

-- where a round begins, what may stand within it may follow
pub begin_below : (cpus : ℕ) (rows : List Row) (workers : ℕ) (lives : ℕ → Bool) (count : ℕ) (a : Above) (flat : List ℕ) (more : List Line) → 1 ≤ workers → workers ≤ 16 → a.place ≡ Between → a.rounds + 1 ≤ 256
    → Stands cpus rows workers lives count (after a (Round workers))
    → ((b : Above) → b.rounds ≡ a.rounds + 1 → Stands cpus rows workers lives count b → AreLines b flat more)
    → AreLines a ((codes "round " ++ decimal workers) ++ 10 ∷ flat) (Round workers ∷ more)
begin_below cpus rows workers lives count a flat more some few place room stands below =
    let New : ℕ → Type 0 = λ n. list_any (nat_eq n) a.objects ≡ false in
    let Old : ℕ → Type 0 = λ n. list_any (nat_eq n) a.objects ≡ true in
    let line : IsLine a (codes "round " ++ decimal workers) (Round workers) = record {
      says = (decimal workers, number_writes workers (omega arith), refl);
      stands = place;
      range = (some, few);
      room = room;
      named = tt;
      fresh = All-nil New;
      known = All-nil Old;
      written = tt;
    } in (
      codes "round " ++ decimal workers,
      flat,
      refl,
      one_round (decimal workers) (one_number workers (omega arith)),
      line,
      below (after a (Round workers)) refl stands,
    )

again : (cpus : ℕ) (rows : List Row) (workers : ℕ) (lives : ℕ → Bool) (count : ℕ) (a b : Above) → Stands cpus rows workers lives count a → b.place ≡ Within workers → b.cpus ≡ a.cpus → b.names ≡ a.names → b.objects ≡ a.objects
    → Stands cpus rows workers lives count b
again cpus rows workers lives count a b s place cs names objects =
    let N : List (List ℕ) → Type 0 = λ ns. (cache : ℕ) → cache < length rows → IsName (name_at rows cache) × IsNamed (name_at rows cache) ns in
    let K : List ℕ → Type 0 = λ os. (n : ℕ) → lives n ≡ true → list_any (nat_eq n) os ≡ true in
    let F : List ℕ → Type 0 = λ os. (n : ℕ) → count < n → list_any (nat_eq n) os ≡ false in
    record {
      place = place;
      cpus_are = cs ∙ s.cpus_are;
      named = subst N (sym names) s.named;
      known = subst K (sym objects) s.known;
      some = s.some;
      fresh = subst F (sym objects) s.fresh;
    }

pub done_below : (a : Above) (workers : ℕ) (rest : List ℕ) (more : List Line) → a.place ≡ Within workers → AreLines (after a Done) rest more → AreLines a (codes "done" ++ 10 ∷ rest) (Done ∷ more)
done_below a workers rest more place below =
    let New : ℕ → Type 0 = λ n. list_any (nat_eq n) a.objects ≡ false in
    let Old : ℕ → Type 0 = λ n. list_any (nat_eq n) a.objects ≡ true in
    let line : IsLine a (codes "done") Done = record { says = refl; stands = in_round workers a.place place; range = tt; room = tt; named = tt; fresh = All-nil New; known = All-nil Old; written = tt } in
    (codes "done", rest, refl, (λ k d low is. grind arith), line, below)

pub info_below : (a : Above) (rest : List ℕ) (more : List Line) → a.place ≡ Between → AreLines (after a Slabinfo) rest more → AreLines a (codes "slabinfo" ++ 10 ∷ rest) (Slabinfo ∷ more)
info_below a rest more place below =
    let New : ℕ → Type 0 = λ n. list_any (nat_eq n) a.objects ≡ false in
    let Old : ℕ → Type 0 = λ n. list_any (nat_eq n) a.objects ≡ true in
    let line : IsLine a (codes "slabinfo") Slabinfo = record { says = refl; stands = place; range = tt; room = tt; named = tt; fresh = All-nil New; known = All-nil Old; written = tt } in
    (codes "slabinfo", rest, refl, (λ k d low is. grind arith), line, below)

cut_parts : (w flat : List ℕ) (b : Bool) → ((if b then codes "done\nslabinfo\nround " else codes "done\nround ") ++ w ++ 10 ∷ []) ++ flat
    ≡ (if b then codes "done" ++ 10 ∷ (codes "slabinfo" ++ 10 ∷ ((codes "round " ++ w) ++ 10 ∷ flat)) else codes "done" ++ 10 ∷ ((codes "round " ++ w) ++ 10 ∷ flat))
cut_parts w flat true = simp append_assoc
cut_parts w flat false = simp append_assoc

cut_by : (cpus : ℕ) (rows : List Row) (workers : ℕ) (lives : ℕ → Bool) (count : ℕ) (slabinfo : Bool) (flat : List ℕ) (more : List Line) (a : Above) → 1 ≤ workers → workers ≤ 16 → a.rounds + 1 ≤ 256
    → Stands cpus rows workers lives count a
    → ((b : Above) → b.rounds ≡ a.rounds + 1 → Stands cpus rows workers lives count b → AreLines b flat more)
    → AreLines a (if slabinfo then codes "done" ++ 10 ∷ (codes "slabinfo" ++ 10 ∷ ((codes "round " ++ decimal workers) ++ 10 ∷ flat)) else codes "done" ++ 10 ∷ ((codes "round " ++ decimal workers) ++ 10 ∷ flat))
    (cut_lines workers slabinfo ++ more)
cut_by cpus rows workers lives count true flat more a some few room s below =
    let rest : List ℕ = (codes "round " ++ decimal workers) ++ 10 ∷ flat in
    done_below a workers (codes "slabinfo" ++ 10 ∷ rest) (Slabinfo ∷ Round workers ∷ more) s.place (info_below (after a Done) rest (Round workers ∷ more) refl
    (begin_below cpus rows workers lives count (after (after a Done) Slabinfo) flat more some few refl room
    (again cpus rows workers lives count a _ s refl refl refl refl) below))
cut_by cpus rows workers lives count false flat more a some few room s below =
    done_below a workers ((codes "round " ++ decimal workers) ++ 10 ∷ flat) (Round workers ∷ more) s.place
    (begin_below cpus rows workers lives count (after a Done) flat more some few refl room
    (again cpus rows workers lives count a _ s refl refl refl refl) below)

cut_below : (cpus : ℕ) (rows : List Row) (workers : ℕ) (lives : ℕ → Bool) (count : ℕ) (slabinfo : Bool) (flat : List ℕ) (more : List Line) (a : Above) → 1 ≤ workers → workers ≤ 16 → a.rounds + 1 ≤ 256
    → Stands cpus rows workers lives count a
    → ((b : Above) → b.rounds ≡ a.rounds + 1 → Stands cpus rows workers lives count b → AreLines b flat more)
    → AreLines a (cut_text workers slabinfo ++ flat) (cut_lines workers slabinfo ++ more)
cut_below cpus rows workers lives count slabinfo flat more a some few room s below =
    let P : List ℕ → Type 0 = λ bytes. AreLines a bytes (cut_lines workers slabinfo ++ more) in
    subst P (sym (cut_parts (decimal workers) flat slabinfo)) (cut_by cpus rows workers lives count slabinfo flat more a some few room s below)

-- ---- all steps

-- what may stand below rounds may stand below these steps of them
pub steps_below : (cpus : ℕ) (rows : List Row) (workers : ℕ) (rest : List ℕ) (more : List Line) → cpus ≤ 16 → 1 ≤ workers → workers ≤ 16 → ((b : Above) → b.place ≡ Within workers → AreLines b rest more)
    → (steps : List Step) (lives : ℕ → Bool) (count : ℕ) (a : Above) → AreSteps cpus rows workers steps → AreNext lives count (turns_in steps) → a.rounds + count_cuts steps ≤ 256 → Stands cpus rows workers lives count a
    → AreLines a (flat_map (step_text rows workers) steps ++ rest) (flat_map (step_lines rows workers) steps ++ more)
steps_below cpus rows workers rest more few some least below [] lives count a are next room s = below a s.place
steps_below cpus rows workers rest more few some least below (Does worker (turn.Alloc cpu cache object) ∷ steps) lives count a are next room s =
    let name : List ℕ = name_at rows cache in
    let text : List ℕ = codes "alloc " ++ (decimal worker ++ 32 ∷ (decimal cpu ++ 32 ∷ (name ++ 32 ∷ decimal object))) in
    let flat : List ℕ = flat_map (step_text rows workers) steps in
    let low : worker < workers = are.0 in
    let t = are.1 in
    let is = s.named cache t.1 in
    let one : IsOneLine text = one_alloc _ (one_more _ _ (one_number worker (omega arith)) (one_more _ _ (one_number cpu (omega arith)) (one_more _ _ (one_name name is.0) (one_number object (omega arith))))) in (
      text,
      flat ++ rest,
      alloc_parts (decimal worker) (decimal cpu) name (decimal object) flat rest,
      one,
      alloc_line cpus rows workers lives count a worker cpu cache object s t few low least next.0,
      steps_below cpus rows workers rest more few some least below steps (lives_after lives (turn.Alloc cpu cache object)) (count + 1) (after a (Alloc worker cpu name object)) are.2 next.1 room
          (alloc_stands cpus rows workers lives count a worker cpu cache object s next.0),
    )
steps_below cpus rows workers rest more few some least below (Does worker (turn.Free cpu object) ∷ steps) lives count a are next room s =
    let text : List ℕ = codes "free " ++ (decimal worker ++ 32 ∷ (decimal cpu ++ 32 ∷ decimal object)) in
    let flat : List ℕ = flat_map (step_text rows workers) steps in
    let low : worker < workers = are.0 in
    let t = are.1 in
    let one : IsOneLine text = one_free _ (one_more _ _ (one_number worker (omega arith)) (one_more _ _ (one_number cpu (omega arith)) (one_number object (omega arith)))) in (
      text,
      flat ++ rest,
      free_parts (decimal worker) (decimal cpu) (decimal object) flat rest,
      one,
      free_line cpus rows workers lives count a worker cpu object s t few low least next.0,
      steps_below cpus rows workers rest more few some least below steps (lives_after lives (turn.Free cpu object)) count (after a (Free worker cpu object)) are.2 next.1 room
          (free_stands cpus rows workers lives count a worker cpu object s),
    )
steps_below cpus rows workers rest more few some least below (Cut slabinfo ∷ steps) lives count a are next room s =
    let flat : List ℕ = flat_map (step_text rows workers) steps in
    let lines : List Line = flat_map (step_lines rows workers) steps in
    let P : List ℕ → Type 0 = λ bytes. AreLines a bytes ((cut_lines workers slabinfo ++ lines) ++ more) in
    let Q : List Line → Type 0 = λ ls. AreLines a (cut_text workers slabinfo ++ (flat ++ rest)) ls in
    subst P (sym (append_assoc (cut_text workers slabinfo) flat rest))
    (subst Q (sym (append_assoc (cut_lines workers slabinfo) lines more))
    (cut_below cpus rows workers lives count slabinfo (flat ++ rest) (lines ++ more) a some least (omega (arith, room)) s
    (λ b rounds stands. steps_below cpus rows workers rest more few some least below steps lives count b are next (omega (arith, rounds, room)) stands)))
