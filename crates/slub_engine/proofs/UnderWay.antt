-- A round that is under way: how it begins, one event more, and its end.
use Rattle.std.proofs.Common.{◌≡◌, ℕ, ◌+◌, ◌-◌, ◌^◌, ◌<◌, ◌≤◌, List, [], ◌∷◌, ◌++◌, length, take, drop, get_or, refl, sym, ◌∙◌, ap, subst, arith, All, nat_eq, vec_capacity}
use Rattle.std.specs.List.{IsDistinct, zip}
use Rattle.std.proofs.lemmas.List.{drop_more, length-map, length-take-le, take-append-drop, take_all, take_more}
use Rattle.std.proofs.lemmas.List.Elements.{filter_map-append}
use Rattle.slub_trace.specs.declared.event.Act.{Act}
use Rattle.slub_trace.specs.declared.event.Act.TheVariants.{Alloc, Free, Write, Read, Poke, Trim, Flush}
use Rattle.slub_trace.specs.declared.event.Event.{Event}
use Rattle.slub_trace.specs.declared.event.Round.{Round}
use Rattle.slub_cache_create.specs.Table.{Table}
use Rattle.slub_trace.specs.declared.reply.Reply.{Reply}
use Rattle.slub_lists.specs.State.{State}
use Rattle.slub_lists.specs.Alloc.{checked_of}
use Rattle.slub_lists.specs.Coherent.{IsCoherent, KeepsOthers, all_on_board}
use Rattle.slub_trace.specs.Sound.{allocated, objects_of}
use Rattle.slub_slabinfo_text.specs.Lawful.{Answers, AreLedgers, DoesRound, IsUnheld, RunsEvents, reports_of}
use Rattle.slub_slabinfo_text.specs.declared.journal.RoundResult.{RoundResult}
use Rattle.slub_slabinfo_text.proofs.Zips.{length-snoc, zip-snoc}
use Rattle.slub_engine.specs.Running.{HasRoom, HasRun, MayAnswer}
use Rattle.slub_engine.specs.Steps.{IsBelow, IsBlank, IsKnown, IsKnownAct, KeepsSizes, KeepsUnheld, NotesOwn, found_since, object_of}
use Rattle.slub_engine.specs.declared.running.Running.{Running}
use Rattle.slub_engine.proofs.Damages.{found_few, found_is, still_told}
use Rattle.slub_engine.proofs.Parts.{All-back, All-front}
use Rattle.slub_engine.proofs.Reports.{adds_none, adds_then}
use Rattle.slub_engine.proofs.Rounds.{blank_ledgers, ledgers_below, ledgers_more}
use Rattle.slub_engine.proofs.Unheld.{keeps_laid, keeps_then, still_unheld}

-- ---- how it begins

pub has_begun : (s : State) (workers most : ℕ) (running : Running) → IsCoherent s → HasRoom s most running
    → running.replies.items ≡ [] → length running.ledgers.items ≡ workers → All IsBlank running.ledgers.items → HasRun s workers most [] running s
has_begun s workers most running coherent room none each blank = record {
  before = coherent;
  coherent = coherent;
  runs = rw none refl;
  answered = ap (λ (replies : List Reply). length replies) none;
  within = omega arith;
  counted = subst (λ (workers : ℕ). AreLedgers s [] workers running.ledgers.items) each (blank_ledgers s running.ledgers.items blank);
  caches = record { frames = refl; cpus = refl; table = refl; board = refl };
  reports = λ cache. adds_none (checked_of s cache);
  findable = omega arith;
  unheld = λ object unheld out. unheld;
  room = room;
}

-- ---- one event more

-- one more event is answered
runs_more : (s : State) (events : List Event) (replies : List Reply) (mid after : State) (event : Event) (reply : Reply)
    → RunsEvents s events replies mid → Answers mid event event.act reply after → IsCoherent after
    → RunsEvents s (events ++ event ∷ []) (replies ++ reply ∷ []) after
runs_more s [] [] mid after event reply runs answers coherent =
    (after, subst (λ now. Answers now event event.act reply after) runs answers, coherent, refl)
runs_more s [] (first ∷ replies) mid after event reply runs answers coherent = absurd runs
runs_more s (first ∷ events) [] mid after event reply runs answers coherent = absurd runs
runs_more s (first ∷ events) (answer ∷ replies) mid after event reply runs answers coherent =
    (runs.0, runs.1, runs.2, runs_more runs.0 events replies mid after event reply runs.3 answers coherent)

-- what an act names is still there
pub known_kept : (s now : State) (act : Act) → length now.table.kept ≡ length s.table.kept → length now.board ≡ length s.board → IsKnownAct s act → IsKnownAct now act
known_kept s now (Alloc place object) names board known = (omega (arith, known.0), known.1, omega (arith, known.2))
known_kept s now (Free object) names board known = omega (arith, known)
known_kept s now (Write word object value) names board known = (omega (arith, known.0), known.1)
known_kept s now (Read word object) names board known = (omega (arith, known.0), known.1)
known_kept s now (Poke object offset byte) names board known = omega (arith, known)
known_kept s now (Trim place) names board known = omega (arith, known)
known_kept s now Flush names board known = known

-- so is it after an event
pub known_after : (now after : State) (event : Event) → IsKnownAct now event.act → KeepsOthers now (object_of event.act) after → IsKnownAct after event.act
known_after now after event known others = known_kept now after event.act (ap (λ (table : Table). length table.kept) others.table) others.board_length known

-- there is room in the ledgers
pub ledgers_room : (s : State) (workers most : ℕ) (done : List Event) (running : Running) (now : State) (event : Event)
    → MayAnswer s workers most done running now event → All (IsBelow (2 ^ 64 - 1)) running.ledgers.items
ledgers_room s workers most done running now event may =
    ledgers_below s done running.replies.items workers running.ledgers.items (2 ^ 64 - 1) (omega (arith, may.run.answered, may.left, may.run.room.few)) may.run.counted

-- the event's worker is one of the round
pub worker_within : (s : State) (workers most : ℕ) (done : List Event) (running : Running) (now : State) (event : Event)
    → MayAnswer s workers most done running now event → event.worker < length running.ledgers.items
worker_within s workers most done running now event may = omega (arith, may.known.worker, may.run.counted.each)

pub has_run_more : (s : State) (workers most : ℕ) (done : List Event) (running : Running) (now : State) (event : Event) (reply : Reply) (after : State) (next : Running)
    → MayAnswer s workers most done running now event
    → Answers now event event.act reply after → IsCoherent after → KeepsOthers now (object_of event.act) after → KeepsUnheld now (objects_of (event ∷ [])) after
    → NotesOwn after event reply running.ledgers.items next.ledgers.items → next.replies.items ≡ running.replies.items ++ reply ∷ []
    → vec_capacity next.replies ≡ vec_capacity running.replies → next.told ≡ running.told → next.damages ≡ running.damages
    → HasRun s workers most (done ++ event ∷ []) next after
has_run_more s workers most done running now event reply after next may answers coherent others unheld noted replies capacity told damages =
    let run = may.run in
    let table : after.table ≡ s.table = others.table ∙ run.caches.table in
    let objects : objects_of (done ++ event ∷ []) ≡ objects_of done ++ objects_of (event ∷ []) = filter_map-append (λ event. allocated event.act) done (event ∷ []) in
    let long = length-snoc done event in
    record {
      before = run.before;
      coherent = coherent;
      runs = rw replies (runs_more s done running.replies.items now after event reply run.runs answers coherent);
      answered = ap (λ (replies : List Reply). length replies) replies ∙ length-snoc running.replies.items reply ∙ ap (λ n. n + 1) run.answered ∙ sym long;
      within = omega (arith, long, may.left);
      counted = rw (replies, zip-snoc done running.replies.items event reply (sym run.answered))
          (ledgers_more s after (zip done running.replies.items) workers event reply running.ledgers.items next.ledgers.items table may.known.worker run.counted noted);
      caches = record { frames = others.frames ∙ run.caches.frames; cpus = others.cpus ∙ run.caches.cpus; table = table; board = others.board_length ∙ run.caches.board };
      reports = λ cache. adds_then (checked_of s cache) (checked_of now cache) (checked_of after cache) (run.reports cache) (others.reports cache);
      findable = omega (arith, others.findable, run.findable, long);
      unheld = subst (λ (objects : List ℕ). KeepsUnheld s objects after) (sym objects) (keeps_then s now after _ _ run.unheld unheld);
      room = record { few = run.room.few; replies = capacity ∙ run.room.replies; damages = rw damages run.room.damages; told = rw told run.room.told };
    }

-- ---- a loop over the events of a round

-- the events are those that were answered, the next, and the others
objects_split : (events : List Event) (done : ℕ) (event : Event) → done < length events → event ≡ get_or events done event
    → objects_of events ≡ objects_of (take done events) ++ (objects_of (event ∷ []) ++ objects_of (drop (done + 1) events))
objects_split events done event within is =
    let rest = drop (done + 1) events in
    let parts : events ≡ take done events ++ event ∷ rest =
    sym (take-append-drop done events) ∙ ap (λ (others : List Event). take done events ++ others) (drop_more events done event within ∙ ap (λ (first : Event). first ∷ rest) (sym is)) in
    ap (λ (all : List Event). objects_of all) parts
    ∙ filter_map-append (λ event. allocated event.act) (take done events) (event ∷ rest)
    ∙ ap (λ (others : List ℕ). objects_of (take done events) ++ others) (filter_map-append (λ event. allocated event.act) (event ∷ []) rest)

-- the next event of such a loop may be answered
pub may_answer : (s : State) (workers most : ℕ) (events : List Event) (done : ℕ) (running : Running) (now : State) (event : Event)
    → HasRun s workers most (take done events) running now → All (IsKnown s workers) events → All (IsUnheld s) (objects_of events) → IsDistinct nat_eq (objects_of events)
    → length events ≤ most → done < length events → event ≡ get_or events done event → MayAnswer s workers most (take done events) running now event
may_answer s workers most events done running now event run known unheld distinct room within is =
    let mine = objects_of (event ∷ []) in
    let rest = objects_of (drop (done + 1) events) in
    let before = objects_of (take done events) in
    let split : objects_of events ≡ before ++ (mine ++ rest) = objects_split events done event within is in
    let others : All (IsUnheld s) (mine ++ rest) = All-back (IsUnheld s) before (mine ++ rest) (subst (All (IsUnheld s)) split unheld) in
    let here : IsKnown s workers event = subst (IsKnown s workers) (sym is) (known done event within) in
    record {
      run = run;
      left = omega (arith, length-take-le done events (omega arith));
      known = record {
        worker = here.worker;
        cpu = omega (arith, run.caches.cpus, here.cpu);
        act = known_kept s now event.act (ap (λ (table : Table). length table.kept) run.caches.table) run.caches.board here.act;
      };
      unheld = All-front (IsUnheld now) mine rest (still_unheld s now before (mine ++ rest) run.unheld (subst (IsDistinct nat_eq) split distinct) others);
    }

-- it was answered
pub has_run_next : (s : State) (workers most : ℕ) (events : List Event) (done : ℕ) (running : Running) (now : State) (event : Event)
    → HasRun s workers most (take done events ++ event ∷ []) running now → done < length events → event ≡ get_or events done event
    → HasRun s workers most (take (done + 1) events) running now
has_run_next s workers most events done running now event run within is =
    let more : take (done + 1) events ≡ take done events ++ event ∷ [] = take_more events done event within ∙ ap (λ (e : Event). take done events ++ e ∷ []) (sym is) in
    subst (λ (events : List Event). HasRun s workers most events running now) (sym more) run

-- all were answered
pub has_run_all : (s : State) (workers most : ℕ) (events : List Event) (done : ℕ) (running : Running) (now : State)
    → HasRun s workers most (take done events) running now → length events ≤ done → HasRun s workers most events running now
has_run_all s workers most events done running now run all =
    subst (λ (events : List Event). HasRun s workers most events running now) (take_all done events all) run

-- ---- its end

-- what was told before is a count of each cache, and of none were more told than are found now
pub told_each : (s : State) (workers most : ℕ) (done : List Event) (running : Running) (now : State) → HasRun s workers most done running now → length running.told.items ≡ 32
told_each s workers most done running now run = ap (λ (told : List ℕ). length told) run.room.told ∙ length-map s.checked _ ∙ run.before.shaped.checked.numbers

pub told_grown : (s : State) (workers most : ℕ) (done : List Event) (running : Running) (now : State) → HasRun s workers most done running now
    → (cache : ℕ) → get_or running.told.items cache 0 ≤ length (reports_of now cache)
told_grown s workers most done running now run cache = rw run.room.told (still_told s now cache (run.reports cache))

-- there is room for what was found
pub found_room : (s : State) (workers most : ℕ) (done : List Event) (running : Running) (now : State) → HasRun s workers most done running now
    → length (found_since running.told.items now) ≤ vec_capacity running.damages
found_room s workers most done running now run =
    let few = found_few s now most run.before.shaped.checked.numbers run.coherent.shaped.checked.numbers run.reports (omega (arith, run.findable, run.within)) in
    let same = ap (λ (counts : List ℕ). length (found_since counts now)) run.room.told in
    omega (arith, same, few, run.room.damages.1)

pub does_round : (s : State) (most : ℕ) (round : Round) (running : Running) (now : State) (result : RoundResult) (after : State)
    → HasRun s round.workers most round.events running now → after ≡ all_on_board now
    → result.replies ≡ running.replies.items → result.damages ≡ found_since running.told.items now → result.ledgers ≡ running.ledgers.items → DoesRound s round result after
does_round s most round running now result after run board replies damages ledgers = record {
  last = now;
  runs = rw replies run.runs;
  after_is = board;
  damages = damages ∙ ap (λ (counts : List ℕ). found_since counts now) run.room.told ∙ found_is s now;
  ledgers = rw (replies, ledgers) run.counted;
}

-- what it leaves as it was
pub ended_sizes : (s : State) (workers most : ℕ) (done : List Event) (running : Running) (now after : State) → HasRun s workers most done running now → after ≡ all_on_board now → KeepsSizes s after
ended_sizes s workers most done running now after run board = rw board (record {
  frames = run.caches.frames;
  cpus = run.caches.cpus;
  kept = ap (λ (table : Table). table.kept) run.caches.table;
  board = length-map now.board _ ∙ run.caches.board;
})

pub ended_unheld : (s : State) (workers most : ℕ) (done : List Event) (running : Running) (now after : State) → HasRun s workers most done running now → after ≡ all_on_board now
    → KeepsUnheld s (objects_of done) after
ended_unheld s workers most done running now after run board = rw board (keeps_laid s now (objects_of done) run.unheld)
