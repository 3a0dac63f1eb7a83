-- Replies are put into the order of the text, event by event.
use Rattle.std.proofs.Common.{true, false, ◌≡◌, ◌≢◌, ℕ, zero, suc, ◌+◌, ◌<◌, ◌≤◌, Bool, cond, ◌&&◌, count_by, eqb, List, [], ◌∷◌, ◌++◌, length, map, take, get_or, set, filter, replicate, reverse, refl, sym, ◌∙◌, ap, subst, arith, All, inl, inr}
use Rattle.std.specs.List.{zip}
use Rattle.std.proofs.lemmas.Bool.{cases_Bool, cases_eq, eq-eqb, eqb-true, ne_eqb}
use Rattle.std.proofs.lemmas.List.{append-nil, get_or-replicate, get_or-set_other, get_or-set_same, length-replicate, length-reverse, length-set, length-take-le, map-append, length-map, take_all, take_more}
use Rattle.std.proofs.lemmas.List.Elements.{filter-append}
use Rattle.indexmap.proofs.ReorderLemmas.{map-reverse}
use Rattle.std.proofs.Math.ListN.{get_or-map}
use Rattle.slub_trace.specs.declared.event.Event.{Event}
use Rattle.slub_trace.specs.declared.reply.Reply.{Reply}
use Rattle.slub_trace.specs.declared.ledger.Ledger.{Ledger}
use Rattle.slub_lists.specs.State.{State}
use Rattle.slub_core.specs.declared.local.Answered.{Answered}
use Rattle.slub_core.specs.Local.{Local}
use Rattle.slub_core.specs.Run.{idle}
use Rattle.slub_calls.specs.Calls.{events_by}
use Rattle.slub_slabinfo_text.specs.Lawful.{AreLedgers, is_by, lacks}
use Rattle.slub_slabinfo_text.proofs.Zips.{length-snoc, zip-snoc}
use Rattle.slub_engine.specs.Steps.{IsBelow, IsBlank, IsKnown, NotesOwn}
use Rattle.slub_engine.proofs.Rounds.{blank_ledgers, lacks_kept, ledgers_below, ledgers_more}
use Rattle.slub_calls.specs.Replies.{replies_by, told_to, AreReplies}
use Rattle.slub_rounds.specs.Answers.{AreAnswered, dones_of, told_by}

-- how many events of a worker are among the first so many
abbrev share : ℕ → ℕ → List Event → ℕ
share worker done events = length (events_by worker (take done events))

-- the first so many events have their replies
pub record HasPut (t : State) (events : List Event) (locals : List Local) (done : ℕ) (cursors : List ℕ) (replies : List Reply) (ledgers : List Ledger) : Type 0 where
  pub answered : length replies ≡ done
  pub each : length cursors ≡ length locals
  pub moved : (worker : ℕ) → worker < length locals → get_or cursors worker 0 ≡ share worker done events
  pub own : (worker : ℕ) → replies_by worker (zip (take done events) replies) ≡ take (share worker done events) (told_by (get_or locals worker idle))
  pub counted : AreLedgers t (zip (take done events) replies) (length locals) ledgers

-- ---- what a worker was answered

told_is : (locals : List Local) (worker : ℕ) → told_to worker (dones_of locals) ≡ told_by (get_or locals worker idle)
told_is locals worker = ap (λ (ds : List Answered). reverse (map (λ (d : Answered). d.reply) ds)) (get_or-map (λ (l : Local). l.done) locals worker idle) ∙ sym (map-reverse (λ (d : Answered). d.reply) (get_or locals worker idle).done)

length-told : (l : Local) → length (told_by l) ≡ length l.done
length-told l = length-map (reverse l.done) (λ (d : Answered). d.reply) ∙ length-reverse l.done

-- ---- one event more

events_more : (worker : ℕ) (events : List Event) (done : ℕ) (event : Event) → done < length events → event ≡ get_or events done event
    → events_by worker (take (done + 1) events) ≡ events_by worker (take done events) ++ cond (eqb event.worker worker) (event ∷ []) []
events_more worker events done event within is =
    ap (events_by worker) (take_more events done event within ∙ ap (λ (e : Event). take done events ++ e ∷ []) (sym is))
    ∙ filter-append (λ (e : Event). eqb e.worker worker) (take done events) (event ∷ [])

share_more : (worker : ℕ) (events : List Event) (done : ℕ) (event : Event) (b : Bool) → eqb event.worker worker ≡ b → done < length events → event ≡ get_or events done event
    → share worker (done + 1) events ≡ share worker done events + cond b 1 0
share_more worker events done event true mine within is =
    let more : events_by worker (take (done + 1) events) ≡ events_by worker (take done events) ++ event ∷ [] = rw mine at (events_more worker events done event within is) in
    ap (λ (es : List Event). length es) more ∙ length-snoc (events_by worker (take done events)) event
share_more worker events done event false mine within is =
    let more : events_by worker (take (done + 1) events) ≡ events_by worker (take done events) ++ [] = rw mine at (events_more worker events done event within is) in
    ap (λ (es : List Event). length es) (more ∙ append-nil (events_by worker (take done events))) ∙ omega arith

replies_more : (worker : ℕ) (answers : List (Event × Reply)) (event : Event) (reply : Reply) (b : Bool) → eqb event.worker worker ≡ b
    → replies_by worker (answers ++ (event, reply) ∷ []) ≡ replies_by worker answers ++ cond b (reply ∷ []) []
replies_more worker answers event reply true mine =
    let split : filter (is_by worker) (answers ++ (event, reply) ∷ []) ≡ filter (is_by worker) answers ++ (event, reply) ∷ [] = rw mine at (filter-append (is_by worker) answers ((event, reply) ∷ [])) in
    ap (map (λ (one : Event × Reply). one.1)) split ∙ map-append (λ (one : Event × Reply). one.1) (filter (is_by worker) answers) ((event, reply) ∷ [])
replies_more worker answers event reply false mine =
    let split : filter (is_by worker) (answers ++ (event, reply) ∷ []) ≡ filter (is_by worker) answers ++ [] = rw mine at (filter-append (is_by worker) answers ((event, reply) ∷ [])) in
    ap (map (λ (one : Event × Reply). one.1)) (split ∙ append-nil (filter (is_by worker) answers)) ∙ sym (append-nil (replies_by worker answers))

-- ---- the loop

shares_grow : (worker : ℕ) (events : List Event) (n : ℕ) → share worker n events ≤ length (events_by worker events)
shares_grow worker [] zero = omega arith
shares_grow worker [] (suc n) = omega arith
shares_grow worker (e ∷ es) zero = omega arith
shares_grow worker (e ∷ es) (suc n) = let r = shares_grow worker es n in elim (cases_Bool (eqb e.worker worker)) [ inl y ↦ rw y (omega (arith, r)) | inr y ↦ rw y r ]

-- a worker has a reply for its next event
pub share_below : (worker : ℕ) (events : List Event) (locals : List Local) (done : ℕ) (event : Event) → AreAnswered events locals → event.worker ≡ worker → done < length events → event ≡ get_or events done event
    → share worker done events < length (get_or locals worker idle).done
share_below worker events locals done event answered mine within is =
    let more : share worker (done + 1) events ≡ share worker done events + 1 = share_more worker events done event true (eq-eqb event.worker worker mine) within is in
    omega (arith, more, shares_grow worker events (done + 1), answered worker)

-- before the first event
pub put_none : (t : State) (events : List Event) (locals : List Local) (cursors : List ℕ) (replies : List Reply) (ledgers : List Ledger)
    → cursors ≡ replicate (length locals) 0 → replies ≡ [] → length ledgers ≡ length locals → All IsBlank ledgers → HasPut t events locals 0 cursors replies ledgers
put_none t events locals cursors replies ledgers zeros none each blank = rw none (record {
  answered = refl;
  each = ap (λ (xs : List ℕ). length xs) zeros ∙ length-replicate (length locals) 0;
  moved = λ worker within. ap (λ (xs : List ℕ). get_or xs worker 0) zeros ∙ get_or-replicate (length locals) worker 0 0 within;
  own = λ worker. refl;
  counted = subst (λ n. AreLedgers t [] n ledgers) each (blank_ledgers t ledgers blank);
})

-- one event more
pub put_more : (t : State) (events : List Event) (locals : List Local) (done : ℕ) (cursors : List ℕ) (replies : List Reply) (before : List Ledger) (event : Event) (reply : Reply) (after : List ℕ) (ledgers : List Ledger)
    → HasPut t events locals done cursors replies before → event.worker < length locals → AreAnswered events locals → done < length events → event ≡ get_or events done event
    → reply ≡ get_or (told_by (get_or locals event.worker idle)) (get_or cursors event.worker 0) reply → after ≡ set cursors event.worker (get_or cursors event.worker 0 + 1) → NotesOwn t event reply before ledgers
    → HasPut t events locals (done + 1) after (replies ++ reply ∷ []) ledgers
put_more t events locals done cursors replies before event reply after ledgers put mine answered within is next moved noted =
    let more : take (done + 1) events ≡ take done events ++ event ∷ [] = take_more events done event within ∙ ap (λ (e : Event). take done events ++ e ∷ []) (sym is) in
    let even : length (take done events) ≡ length replies = length-take-le done events (omega arith) ∙ sym put.answered in
    let zipped : zip (take (done + 1) events) (replies ++ reply ∷ []) ≡ zip (take done events) replies ++ (event, reply) ∷ [] = rw more (zip-snoc (take done events) replies event reply even) in
    record {
      answered = length-snoc replies reply ∙ ap (λ n. n + 1) put.answered;
      each = ap (λ (xs : List ℕ). length xs) moved ∙ length-set cursors event.worker (get_or cursors event.worker 0 + 1) ∙ put.each;
      moved = λ worker inside. ap (λ (xs : List ℕ). get_or xs worker 0) moved ∙ elim (cases_eq worker event.worker) [ inl same ↦ at_own worker same inside | inr differ ↦ at_other worker differ inside ];
      own = λ worker. ap (replies_by worker) zipped ∙ elim (cases_Bool (eqb event.worker worker)) [ inl same ↦ own_here worker same | inr differ ↦ own_there worker differ ];
      counted = subst (λ (answers : List (Event × Reply)). AreLedgers t answers (length locals) ledgers) (sym zipped) (ledgers_more t t (zip (take done events) replies) (length locals) event reply before ledgers refl mine put.counted noted);
    }
  where
    at_own : (worker : ℕ) → worker ≡ event.worker → worker < length locals → get_or (set cursors event.worker (get_or cursors event.worker 0 + 1)) worker 0 ≡ share worker (done + 1) events
    at_own worker same inside =
        let grown : share worker (done + 1) events ≡ share worker done events + 1 = share_more worker events done event true (eq-eqb event.worker worker (sym same)) within is in
        let set_here : get_or (set cursors event.worker (get_or cursors event.worker 0 + 1)) worker 0 ≡ get_or cursors event.worker 0 + 1 =
        ap (λ w. get_or (set cursors event.worker (get_or cursors event.worker 0 + 1)) w 0) same ∙ get_or-set_same cursors event.worker (get_or cursors event.worker 0 + 1) 0 (omega (arith, put.each, mine)) in
        set_here ∙ ap (λ n. n + 1) (ap (λ w. get_or cursors w 0) (sym same) ∙ put.moved worker inside) ∙ sym grown

    at_other : (worker : ℕ) → worker ≢ event.worker → worker < length locals → get_or (set cursors event.worker (get_or cursors event.worker 0 + 1)) worker 0 ≡ share worker (done + 1) events
    at_other worker differ inside =
        let grown : share worker (done + 1) events ≡ share worker done events + 0 = share_more worker events done event false (ne_eqb event.worker worker (λ same. differ (sym same))) within is in
        get_or-set_other cursors event.worker worker (get_or cursors event.worker 0 + 1) 0 differ ∙ put.moved worker inside ∙ omega (arith, grown)

    own_here : (worker : ℕ) → eqb event.worker worker ≡ true → replies_by worker (zip (take done events) replies ++ (event, reply) ∷ []) ≡ take (share worker (done + 1) events) (told_by (get_or locals worker idle))
    own_here worker same =
        let equal : event.worker ≡ worker = eqb-true event.worker worker same in
        let told = told_by (get_or locals worker idle) in
        let count = share worker done events in
        let grown : share worker (done + 1) events ≡ count + 1 = share_more worker events done event true same within is in
        let below : count < length told = omega (arith, length-told (get_or locals worker idle), share_below worker events locals done event answered equal within is) in
        let cursor : get_or cursors event.worker 0 ≡ count = put.moved event.worker mine ∙ ap (λ w. share w done events) equal in
        let reply_is : reply ≡ get_or told count reply = next ∙ ap (λ w. get_or (told_by (get_or locals w idle)) (get_or cursors event.worker 0) reply) equal ∙ ap (λ n. get_or told n reply) cursor in
        let front : take (count + 1) told ≡ take count told ++ reply ∷ [] = take_more told count reply below ∙ ap (λ (r : Reply). take count told ++ r ∷ []) (sym reply_is) in
        replies_more worker (zip (take done events) replies) event reply true same ∙ ap (λ (rs : List Reply). rs ++ reply ∷ []) (put.own worker) ∙ sym front ∙ ap (λ n. take n told) (sym grown)

    own_there : (worker : ℕ) → eqb event.worker worker ≡ false → replies_by worker (zip (take done events) replies ++ (event, reply) ∷ []) ≡ take (share worker (done + 1) events) (told_by (get_or locals worker idle))
    own_there worker differ =
        let told = told_by (get_or locals worker idle) in
        let grown : share worker (done + 1) events ≡ share worker done events + 0 = share_more worker events done event false differ within is in
        let same : share worker (done + 1) events ≡ share worker done events = omega (arith, grown) in
        replies_more worker (zip (take done events) replies) event reply false differ ∙ append-nil (replies_by worker (zip (take done events) replies)) ∙ put.own worker ∙ ap (λ n. take n told) (sym same)

-- the next event has a worker, of whom a reply is left
pub next_left : (t : State) (events : List Event) (locals : List Local) (done : ℕ) (cursors : List ℕ) (replies : List Reply) (ledgers : List Ledger) (event : Event)
    → HasPut t events locals done cursors replies ledgers → event.worker < length locals → AreAnswered events locals → done < length events → event ≡ get_or events done event
    → get_or cursors event.worker 0 < length (get_or locals event.worker idle).done
next_left t events locals done cursors replies ledgers event put mine answered within is =
    omega (arith, put.moved event.worker mine, share_below event.worker events locals done event answered refl within is)

pub next_known : (t : State) (workers : ℕ) (events : List Event) (done : ℕ) (event : Event) → All (IsKnown t workers) events → done < length events → event ≡ get_or events done event → IsKnown t workers event
next_known t workers events done event known within is = subst (IsKnown t workers) (sym is) (known done event within)

-- the ledgers have room for one reply more
pub ledgers_room : (t : State) (events : List Event) (locals : List Local) (done : ℕ) (cursors : List ℕ) (replies : List Reply) (ledgers : List Ledger) (limit : ℕ)
    → HasPut t events locals done cursors replies ledgers → done < limit → All (IsBelow limit) ledgers
ledgers_room t events locals done cursors replies ledgers limit put few = ledgers_below t (take done events) replies (length locals) ledgers limit (omega (arith, put.answered)) put.counted

-- after the last event
pub put_all : (t : State) (events : List Event) (locals : List Local) (done : ℕ) (cursors : List ℕ) (replies : List Reply) (ledgers : List Ledger)
    → HasPut t events locals done cursors replies ledgers → AreAnswered events locals → done ≡ length events
    → AreReplies events (dones_of locals) replies × AreLedgers t (zip events replies) (length locals) ledgers
put_all t events locals done cursors replies ledgers put answered all =
    let whole : take done events ≡ events = take_all done events (omega (arith, all)) in (
      record {
        each = omega (arith, put.answered, all);
        own = λ worker.
            let told = told_by (get_or locals worker idle) in
            let count : share worker done events ≡ length told = ap (λ (es : List Event). length (events_by worker es)) whole ∙ answered worker ∙ sym (length-told (get_or locals worker idle)) in
            ap (λ (es : List Event). replies_by worker (zip es replies)) (sym whole) ∙ put.own worker ∙ take_all (share worker done events) told (omega (arith, count)) ∙ sym (told_is locals worker);
      },
      subst (λ (es : List Event). AreLedgers t (zip es replies) (length locals) ledgers) whole put.counted,
    )

-- ---- on the machine before the round

-- the names and caches decide what a ledger counts
pub ledgers_before : (s t : State) (answers : List (Event × Reply)) (workers : ℕ) (ledgers : List Ledger) → t.table ≡ s.table → AreLedgers t answers workers ledgers → AreLedgers s answers workers ledgers
ledgers_before s t answers workers ledgers table are = record {
  each = are.each;
  counts = λ worker other within.
      let mine = are.counts worker other within in
      record {
        given = mine.given;
        freed = mine.freed;
        orders = mine.orders;
        no_frames = λ order small. mine.no_frames order small ∙ ap (λ (p : Event × Reply → Bool). count_by (λ one. is_by worker one && p one) answers) (same order);
      };
}
  where
    same : (order : ℕ) → lacks t order ≡ lacks s order
    same order = λ i. λ one. lacks_kept s t order one.0 one.1 table i
