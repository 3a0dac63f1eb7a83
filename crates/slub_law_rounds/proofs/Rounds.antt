-- A round that is done event by event is lawful.
use Rattle.std.proofs.Common.{◌<◌, ◌&&◌, Bool, false, ◌≡◌, ℕ, ◌+◌, ◌≤◌, true, List, [], ◌∷◌, ◌++◌, length, refl, sym, ◌∙◌, ap, subst, arith, All, Option, Some, None, is_some, length-set}
use Rattle.std.specs.List.{zip}
use Rattle.std.proofs.lemmas.List.{append_assoc, append-nil}
use Rattle.std.proofs.lemmas.Bool.Decides.{nat_tests}
use Rattle.std.proofs.lemmas.List.Elements.{All-cons, All-head, All-tail}
use Rattle.slub_trace.specs.declared.event.Act.TheVariants.{Alloc}
use Rattle.slub_trace.specs.declared.event.Act.{Act}
use Rattle.slub_trace.specs.declared.event.Event.{Event}
use Rattle.slub_lists.specs.declared.lists.Held.{Held}
use Rattle.slub_trace.specs.declared.reply.Reply.{Reply}
use Rattle.slub_lists.specs.State.{State}
use Rattle.slub_lists.specs.Coherent.{IsCoherent, held_under}
use Rattle.slub_trace.specs.Sound.{objects_of}
use Rattle.slub_trace.specs.Kinds.{is_given}
use Rattle.slub_slabinfo_text.specs.Lawful.{Answers, RunsEvents}
use Rattle.slub_law_rounds.specs.Answered.{Answered, is_alloc_of, gave, times_freed, times_given}
use Rattle.slub_law_rounds.proofs.Dry.{Dry, dry-step}
use Rattle.slub_law_rounds.proofs.Puts.{Gones, Puts, gones-step, puts-step}
use Rattle.slub_law_rounds.proofs.Reports.{Reports, event-told, reports-more}
use Rattle.slub_law_rounds.proofs.Runs.{Turn, on_board, turn}
use Rattle.slub_law_rounds.proofs.Slabs.{event-slabs}
use Rattle.slub_law_rounds.proofs.Steps.{Keeps, Step, event-step, flushes, frees, gives, keeps, lacks, nameless, pokes, pokes_not, reads, reads_none, reads_not, refuses, trims, trims_checked, trims_none, wants, word-keeps, writes, writes_none, writes_not}
use Rattle.slub_law_rounds.proofs.Tale.{Boards, Holdings, Spots, Takens, boards-step, count-step, holdings-step, no-object, spots-step, takens-step}
use Rattle.slub_law_rounds.proofs.Times.{counted_append, one_where}
use Rattle.slub_law_rounds.proofs.Values.{Values, values-step}

-- the sizes of the machine, its names and its caches are as before
pub record SameCaches (s after : State) : Type 0 where
  pub frames : after.frames ≡ s.frames
  pub cpus : after.cpus ≡ s.cpus
  pub table : after.table ≡ s.table
  pub board : length after.board ≡ length s.board

-- ---- how far a round has come

pub record Tale (before : State) (past : List Answered) (s : State) : Type 0 where
  pub coherent : IsCoherent s
  pub caches : SameCaches before s
  pub count : (object : ℕ) → on_board object s + times_freed object past ≡ on_board object before + times_given object past
  pub holds : Holdings past s
  pub spots : Spots before past s
  pub boards : Boards before past s
  pub takens : Takens before past s
  pub values : Values past s
  pub gones : Gones before past s
  pub puts : Puts before past s
  pub dry : Dry before past s
  pub reports : Reports before s

-- one more event
pub record Moves (before : State) (past : List Answered) (s : State) (one : Answered) (after : State) : Type 0 where
  pub answers : Answers s one.0 one.0.act one.1 after
  pub coherent : IsCoherent after
  pub inside : (object : ℕ) → gave object one ≡ true → object < length before.board
  -- what is given was never given before, and was not on the board
  pub new : (object : ℕ) → gave object one ≡ true → on_board object before + times_given object past ≡ 0

-- what a step leaves of the table and the sizes
step-caches : (before s : State) (event : Event) (answer : Reply) (after : State) → Step s event answer after → SameCaches before s → SameCaches before after
step-caches before s event answer after step caches = then_kept (by step)
  where
    then_kept : SameCaches s after → SameCaches before after
    then_kept kept = record { frames = kept.frames ∙ caches.frames; cpus = kept.cpus ∙ caches.cpus; table = kept.table ∙ caches.table; board = kept.board ∙ caches.board }

    still : after ≡ s → SameCaches s after
    still same = record { frames = ap (λ (t : State). t.frames) same; cpus = ap (λ (t : State). t.cpus) same; table = ap (λ (t : State). t.table) same; board = ap (λ (t : State). length t.board) same }

    of : Keeps s after → SameCaches s after
    of kept = record { frames = kept.frames; cpus = kept.cpus; table = kept.table; board = ap (λ (b : List (Option Held)). length b) kept.board }

    by : Step s event answer after → SameCaches s after
    by (gives place object live held asks names is_live mine is unheld board gone table memory cpus frames dry) = record { frames = frames; cpus = cpus; table = table; board = ap (λ (b : List (Option Held)). length b) board ∙ length-set s.board object (Some held) }
    by (lacks place object cache live asks names is_live is board gone table memory cpus frames dry) = record { frames = frames; cpus = cpus; table = table; board = ap (λ (b : List (Option Held)). length b) board }
    by (wants place object cache live slabs asks names is_live checked is kept) = of kept
    by (nameless place object asks none is now) = still now
    by (frees object live held asks was may is_live is board gone table memory cpus frames dry) = record { frames = frames; cpus = cpus; table = table; board = ap (λ (b : List (Option Held)). length b) board ∙ length-set s.board object None }
    by (keeps object damage held slabs asks was may checked taken is now) = record {
      frames = ap (λ (t : State). t.frames) now;
      cpus = ap (λ (t : State). t.cpus) now;
      table = ap (λ (t : State). t.table) now;
      board = ap (λ (t : State). length t.board) now ∙ length-set s.board object (Some (record held { worker = Some event.worker }));
    }
    by (refuses object asks why is now) = still now
    by (writes object word value live held asks holds within is now) =
        let kept = word-keeps s live.layout held word value in
        record { frames = ap (λ (t : State). t.frames) now ∙ kept.frames; cpus = ap (λ (t : State). t.cpus) now ∙ kept.cpus; table = ap (λ (t : State). t.table) now ∙ kept.table; board = ap (λ (t : State). length t.board) now ∙ ap (λ (b : List (Option Held)). length b) kept.board }
    by (writes_none object word value live held asks holds past is now) = still now
    by (writes_not object word value asks none is now) = still now
    by (reads object word live held asks holds within is now) = still now
    by (reads_none object word live held asks holds past is now) = still now
    by (reads_not object word asks none is now) = still now
    by (pokes object offset byte held slabs asks knows checked inside is now) = record { frames = ap (λ (t : State). t.frames) now; cpus = ap (λ (t : State). t.cpus) now; table = ap (λ (t : State). t.table) now; board = ap (λ (t : State). length t.board) now }
    by (pokes_not object offset byte asks why now) = still now
    by (trims place cache slabs asks names unchecked is kept same_slabs) = of kept
    by (trims_checked place cache slabs asks names checked is now) = still now
    by (trims_none place asks none is now) = still now
    by (flushes slabs asks is kept same_slabs) = of kept

module _ (before : State) (past : List Answered) (s : State) (one : Answered) (after : State) (moves : Moves before past s one after) (tale : Tale before past s) where
  pub step-of : Step s one.0 one.1 after
  step-of = event-step s one.0 one.1 after moves.answers

  -- what is given has no object yet
  pub new-unheld : (object : ℕ) → gave object one ≡ true → held_under s object ≡ None
  new-unheld object did = no-object (held_under s object) (let none : one_where (is_some (held_under s object)) ≡ 0 = omega (arith, moves.new object did, tale.count object) in none)

  pub turns-of : (object : ℕ) → Turn s one after object
  turns-of object = turn s one after object tale.coherent (new-unheld object) (λ did. omega (arith, moves.inside object did, tale.caches.board)) step-of

  pub tale-step : Tale before (past ++ one ∷ []) after
  tale-step =
      let caches = step-caches s s one.0 one.1 after step-of (record { frames = refl; cpus = refl; table = refl; board = refl }) in
      record {
        coherent = moves.coherent;
        caches = step-caches before s one.0 one.1 after step-of tale.caches;
        count = count-step before past s one after turns-of tale.count;
        holds = holdings-step past s one after turns-of tale.holds;
        spots = spots-step before past s one after tale.caches.table turns-of tale.spots;
        boards = boards-step before past s one after tale.caches.table moves.new turns-of tale.boards;
        takens = takens-step before past s one after moves.new tale.takens turns-of;
        values = values-step past s one after tale.coherent moves.coherent caches.table tale.values step-of turns-of;
        gones = gones-step before past s one after tale.count moves.new tale.spots tale.gones turns-of;
        puts = puts-step before past s one after tale.coherent moves.coherent tale.caches.table caches.table moves.answers turns-of tale.spots tale.gones tale.puts;
        dry = dry-step before past s one after tale.coherent tale.caches.table tale.dry step-of;
        reports = reports-more before s after tale.reports (event-told s one after tale.coherent (event-slabs s one.0 one.1 after moves.answers));
      }

-- ---- all events

-- the events are answered one after the other
abbrev pub Runs : State → List Answered → State → List Answered → State → Type 0
Runs before past s [] after = after ≡ s
Runs before past s (one ∷ answers) after = (mid : State) × Moves before past s one mid × Runs before (past ++ one ∷ []) mid answers after

-- each event after those before it
pub record Reaches (before : State) (past : List Answered) (one : Answered) : Type 0 where
  pub mid : State
  pub next : State
  pub tale : Tale before past mid
  pub moves : Moves before past mid one next

pub runs-reach : (before : State) (past : List Answered) (s : State) (front : List Answered) (one : Answered) (back : List Answered) (after : State) → Tale before past s
    → Runs before past s (front ++ one ∷ back) after → Reaches before (past ++ front) one
runs-reach before past s [] one back after tale runs =
    subst (λ (l : List Answered). Reaches before l one) (sym (append-nil past)) (record { mid = s; next = runs.0; tale = tale; moves = runs.1 })
runs-reach before past s (first ∷ front) one back after tale runs =
    subst (λ (l : List Answered). Reaches before l one) (append_assoc past (first ∷ []) front)
    (runs-reach before (past ++ first ∷ []) runs.0 front one back after (tale-step before past s first runs.0 runs.1 tale) runs.2)

pub runs-tale : (before : State) (past : List Answered) (s : State) (answers : List Answered) (after : State) → Tale before past s → Runs before past s answers after → Tale before (past ++ answers) after
runs-tale before past s [] after tale runs = subst (λ (l : List Answered). Tale before l after) (sym (append-nil past)) (subst (Tale before past) (sym runs) tale)
runs-tale before past s (one ∷ answers) after tale runs =
    subst (λ (l : List Answered). Tale before l after) (append_assoc past (one ∷ []) answers) (runs-tale before (past ++ one ∷ []) runs.0 answers after (tale-step before past s one runs.0 runs.1 tale) runs.2)

given-alloc : (object : ℕ) (one : Answered) → gave object one ≡ true → is_alloc_of object one.0.act ≡ true
given-alloc object one did = by (is_alloc_of object one.0.act) did
  where
    by : (b : Bool) → (b && is_given one.1) ≡ true → b ≡ true
    by true e = refl
    by false e = e

-- what was given more often than it could be wasn't
once-new : (before : State) (past : List Answered) (one : Answered) (rest : List Answered) → ((object : ℕ) → on_board object before + times_given object (past ++ one ∷ rest) ≤ 1)
    → (object : ℕ) → gave object one ≡ true → on_board object before + times_given object past ≡ 0
once-new before past one rest once object did =
    omega (arith, once object, counted_append (gave object) past (one ∷ rest), counted_append (gave object) (one ∷ []) rest, ap one_where did)

-- the numbers that an event allocates are the machine's
abbrev Within : State → Event → Type 0
Within before event = (object : ℕ) → is_alloc_of object event.act ≡ true → object < length before.board

pub all-within : (before : State) (events : List Event) → All (λ object. object < length before.board) (objects_of events) → All (Within before) events
all-within before [] within = λ k d past. absurd (omega (arith, past))
all-within before (event ∷ events) within =
    All-cons (Within before) event events (by event.act refl) (all-within before events (λ k d inside. rest event.act refl k d inside))
  where
    by : (act : Act) → event.act ≡ act → Within before event
    by (Alloc place other) is object did =
        let same : other ≡ object = grind (arith, nat_tests, subst (λ a. is_alloc_of object a ≡ true) is did) in
        let all : objects_of (event ∷ events) ≡ other ∷ objects_of events = rw is refl in
        subst (λ n. n < length before.board) same (subst (All (λ object. object < length before.board)) all within 0 other (omega arith))
    by _ is object did = absurd (let never : false ≡ true = subst (λ a. is_alloc_of object a ≡ true) is did in cc)

    rest : (act : Act) → event.act ≡ act → All (λ object. object < length before.board) (objects_of events)
    rest (Alloc place other) is =
        let all : objects_of (event ∷ events) ≡ other ∷ objects_of events = rw is refl in
        All-tail (λ object. object < length before.board) other (objects_of events) (subst (All (λ object. object < length before.board)) all within)
    rest _ is = let all : objects_of (event ∷ events) ≡ objects_of events = rw is refl in subst (All (λ object. object < length before.board)) all within

pub runs-of : (before : State) (past : List Answered) (s : State) (events : List Event) (replies : List Reply) (after : State) → All (Within before) events
    → ((object : ℕ) → on_board object before + times_given object (past ++ zip events replies) ≤ 1) → RunsEvents s events replies after → Runs before past s (zip events replies) after
runs-of before past s [] [] after known once runs = runs
runs-of before past s [] (answer ∷ replies) after known once runs = absurd runs
runs-of before past s (event ∷ events) [] after known once runs = absurd runs
runs-of before past s (event ∷ events) (answer ∷ replies) after known once runs =
    let first = All-head (Within before) event events known in (
      runs.0,
      record { answers = runs.1; coherent = runs.2; inside = λ object did. first object (given-alloc object (event, answer) did); new = once-new before past (event, answer) (zip events replies) once },
      runs-of before (past ++ (event, answer) ∷ []) runs.0 events replies after (All-tail (Within before) event events known)
          (λ object. subst (λ (l : List Answered). on_board object before + times_given object l ≤ 1) (sym (append_assoc past ((event, answer) ∷ []) (zip events replies))) (once object)) runs.3,
    )

pub runs-even : (s : State) (events : List Event) (replies : List Reply) (after : State) → RunsEvents s events replies after → length replies ≡ length events
runs-even s [] [] after runs = refl
runs-even s [] (answer ∷ replies) after runs = absurd runs
runs-even s (event ∷ events) [] after runs = absurd runs
runs-even s (event ∷ events) (answer ∷ replies) after runs = let rest = runs-even runs.0 events replies after runs.3 in omega (arith, rest)
