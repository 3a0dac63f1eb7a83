-- What a round begins with on coherent lists, and what can be told of the lists that it leaves.
use Rattle.std.proofs.Common.{◌≡◌, ℕ, zero, suc, ◌+◌, ◌<◌, ◌≤◌, Bool, true, false, eqb, Option, Some, None, is_some, List, [], ◌∷◌, ◌++◌, length, map, get_or, sum_by, refl, sym, ap, ◌∙◌, subst, arith, All, inl, inr}
use Rattle.std.specs.List.{range_with_len}
use Rattle.std.specs.Option.{option_map_or}
use Rattle.std.proofs.lemmas.Bool.{cases_lt, false≢true, ne_eqb}
use Rattle.std.proofs.lemmas.List.{length-map}
use Rattle.std.proofs.lemmas.List.Elements.{All-head, All-tail, All-map}
use Rattle.std.proofs.lemmas.List.FromFn.{get_or-map-range_with_len, get_or-range_with_len, length-range_with_len}
use Rattle.std.proofs.lemmas.List.Sums.{sum_by-cons}
use Rattle.std.proofs.Math.ListN.{get_or-map}
use Rattle.slub_common.proofs.Sums.{sum_by-map, sum_by-same}
use Rattle.slub_trace.specs.declared.event.Act.{Act}
use Rattle.slub_trace.specs.declared.event.Act.TheVariants as act
use Rattle.slub_trace.specs.declared.event.Event.{Event}
use Rattle.slub_trace.specs.declared.event.Round.{Round}
use Rattle.slub_cache_create.specs.Table.{Table}
use Rattle.slub_red_zone.specs.State.{CheckedState}
use Rattle.slub_red_zone.specs.Objects.{findable}
use Rattle.slub_trace.specs.declared.damage.Report.{Report}
use Rattle.slub_trace.specs.declared.trace.Trace.{Trace}
use Rattle.slub_trace.specs.Sound.{IsSoundAct, IsSoundEvent}
use Rattle.slub_lists.specs.State.{State}
use Rattle.std.proofs.lemmas.Option.{none-some}
use Rattle.slub_lists.specs.Alloc.{cache_of, checked_of, node_of}
use Rattle.slub_lists.specs.Coherent.{IsCoherent, AddsReportsOf, findable_in}
use Rattle.slub_core.specs.declared.call.Call.{Call}
use Rattle.slub_core.specs.declared.local.Answered.{Answered}
use Rattle.slub_core.specs.Setup.{Setup, node_lock}
use Rattle.slub_core.specs.Local.{Local}
use Rattle.slub_core.specs.World.{sum_below, world_from, world_of}
use Rattle.slub_core.specs.Checked.{slabs_in}
use Rattle.slub_core.specs.Run.{System, Pick, idle, run, IsFinished}
use Rattle.slub_core.specs.Opening.{IsOpening, opened as begun}
use Rattle.slub_core.specs.Round.{in_order, IsRoundOnWords}
use Rattle.slub_core.specs.Law.{replies_of, calls_to_come}
use Rattle.slub_core.proofs.Opens.{opens}
use Rattle.slub_core.proofs.RoundEnds.{rounds_end}
use Rattle.slub_core.proofs.Update.{sum_below_same}
use Rattle.slub_law_opening.specs.Opening.{Beside, IsLaidDown, IsBeside, setup_of, node_value, value_of}
use Rattle.slub_law_opening.specs.Closing.{Closes}
use Rattle.slub_law_opening.specs.Laws.{MayOpen}
use Rattle.slub_law_opening.proofs.Systems.{opened-rest}
use Rattle.slub_law_opening.specs.BoundLaws.{AreNumbered}
use Rattle.slub_law_opening.proofs.Turns.{get_or-beyond}
use Rattle.slub_calls.specs.Calls.{events_by, worker_of, workers_of}
use Rattle.slub_calls.specs.Laws.{MayDo}
use Rattle.slub_calls.proofs.Fitting.{may_begin, numbered}
use Rattle.slub_calls.proofs.Shares.{share, shares}
use Rattle.slub_law_rounds.proofs.Turns.{rounds_end as contents_end}
use Rattle.slub_engine.specs.Steps.{IsKnown, IsKnownAct}
use Rattle.slub_rounds.specs.Rounds.{system_before, system_begun, world_before}
use Rattle.slub_rounds.specs.Answers.{AreAnswered, IsRoomFor, MayTell}
use Rattle.slub_rounds.specs.declared.answers.Answers.{Answers}
use Rattle.slub_rounds.proofs.Found.{found_at, found_behind, run-found, opened-fewer}

-- ---- its workers

pub are-numbered : (table : Table) (round : Round) → AreNumbered (workers_of table round)
are-numbered table round = record {
  numbers = λ k below.
      let ls = workers_of table round in
      let n = round.workers in
      let long : length ls ≡ n = length-map (range_with_len 0 n) (worker_of table round) ∙ length-range_with_len 0 n in
      sym (get_or-map (λ (l : Local). l.worker) ls k idle) ∙ ap (λ (xs : List ℕ). get_or xs k 0) (numbered table round) ∙ get_or-range_with_len 0 n k 0 (omega (arith, long)) ∙ omega arith;
  put = each (λ (l : Local). l.put ≡ 0) (λ w. refl) (range_with_len 0 round.workers);
  count = each (λ (l : Local). l.count ≡ 0) (λ w. refl) (range_with_len 0 round.workers);
}
  where
    each : (P : Local → Type 0) → ((w : ℕ) → P (worker_of table round w)) → (ws : List ℕ) → All P (map (worker_of table round) ws)
    each P one ws = All-map P (worker_of table round) ws (λ k d below. one (get_or ws k d))

-- ---- its opening

pub may-open : (s : State) (b : Beside) → IsCoherent s → IsLaidDown s → IsBeside s b → MayOpen s b
may-open s b coherent laid beside = record { coherent = coherent; laid_down = laid; beside = beside }

pub begins : (s : State) (b : Beside) (trace : Trace) (round : Round) → MayOpen s b → MayDo s trace round → IsOpening (setup_of s b) (system_before s b round)
begins s b trace round may does = (opened-rest s b (workers_of s.table round) may (may_begin s b trace round may does)).1

-- ---- sums over locks

sum-cons : (n : ℕ) (g : ℕ → ℕ) → sum_below (suc n) g ≡ g 0 + sum_below n (λ k. g (suc k))
sum-cons zero g = omega arith
sum-cons (suc n) g = let r = sum-cons n g in omega arith

sum-list : {A : Type 0} (f : A → ℕ) (d : A) (xs : List A) (n : ℕ) → length xs ≡ n → sum_below n (λ c. f (get_or xs c d)) ≡ sum_by f xs
sum-list f d [] zero long = refl
sum-list f d [] (suc n) long = absurd (let never : ⊥ = omega arith in never)
sum-list f d (x ∷ xs) zero long = absurd (let never : ⊥ = omega arith in never)
sum-list f d (x ∷ xs) (suc n) long =
    omega (arith, sum-cons n (λ c. f (get_or (x ∷ xs) c d)), sum-list f d xs n (omega arith), sum_by-cons f x xs)

found-in : (lives : Bool) (slabs : Option CheckedState) (frames : List ℕ) → found_at (node_value lives slabs frames) ≡ option_map_or findable slabs 0
found-in true None frames = refl
found-in false None frames = refl
found-in lives (Some slabs) frames = refl

-- what can be found on lists is what can be found behind their locks
pub found-lists : (s : State) → length s.checked ≡ 32 → found_behind (value_of s) ≡ findable_in s
found-lists s long =
    let f : Option CheckedState → ℕ = λ slabs. option_map_or findable slabs 0 in
    let one = sum-cons 32 (λ n. found_at (value_of s n)) in
    let each : sum_below 32 (λ c. found_at (value_of s (suc c))) ≡ sum_below 32 (λ c. f (get_or s.checked c None)) =
    sum_below_same 32 (λ c. f (get_or s.checked c None)) (λ c. found_at (value_of s (suc c))) (λ c below. found-in (is_some (cache_of s c)) (checked_of s c) _) in
    omega (arith, one, each, sum-list f None s.checked 32 long)

-- ---- its events

-- each event makes one call
calls-long : (table : Table) (round : Round) → All (λ (e : Event). e.worker < round.workers) round.events → sum_by (λ (l : Local). length l.todo) (workers_of table round) ≡ length round.events
calls-long table round inside =
    let ws = range_with_len 0 round.workers in
    let one : (w : ℕ) → length (worker_of table round w).todo ≡ share (λ e. 1) round.events w = λ w. length-map (events_by w round.events) _ ∙ sym (ones (events_by w round.events)) in
    sum_by-map (λ (l : Local). length l.todo) (worker_of table round) ws ∙ sum_by-same (λ w. length (worker_of table round w).todo) (share (λ e. 1) round.events) ws one
    ∙ shares (λ e. 1) round.events round.workers inside ∙ ones round.events
  where
    ones : (es : List Event) → sum_by (λ (e : Event). 1) es ≡ length es
    ones [] = refl
    ones (e ∷ es) = let r = ones es in omega (arith, sum_by-cons (λ (e : Event). 1) e es)

pub inside-round : (trace : Trace) (s : State) (round : Round) → MayDo s trace round → All (λ (e : Event). e.worker < round.workers) round.events
inside-round trace s round does = λ k d below. (does.sound.events k d below).worker

-- a worker that there isn't has no event
pub none-by : (worker workers : ℕ) (es : List Event) → workers ≤ worker → All (λ (e : Event). e.worker < workers) es → events_by worker es ≡ []
none-by worker workers [] past inside = refl
none-by worker workers (e ∷ es) past inside =
    let below = All-head (λ (e : Event). e.worker < workers) e es inside in
    let other : eqb e.worker worker ≡ false = ne_eqb e.worker worker (λ same. absurd (omega arith)) in
    rw other (none-by worker workers es past (All-tail (λ (e : Event). e.worker < workers) e es inside))

pub in_order-length : (ds : List Answered) (todo : List Call) → length (in_order ds todo) ≡ length ds + length todo
in_order-length [] todo = omega arith
in_order-length (d ∷ ds) todo = in_order-length ds (d.call ∷ todo) ∙ omega arith

-- ---- the locks

-- the lists into which a machine closes have what its locks guard
values-at : (s t : State) (b d : Beside) (system : System) → Closes s b system t d → (n : ℕ) → n < 33 → system.value n ≡ value_of t n
unfolding world_of world_from
values-at s t b d system closes n below = closes.rests.rests.values n below

-- reports of a checked cache stay
reports-stay : (m : Setup) (s : System) (picks : List Pick) (cache : ℕ) → IsOpening m s → m.checks cache ≡ true
    → (found : List Report) × ((slabs_in (m.layout cache) ((run m (begun m s) picks).value (suc cache))).reports ≡ (slabs_in (m.layout cache) (s.value (suc cache))).reports ++ found)
unfolding world_of world_from
reports-stay m s picks cache opening checks = let kept = (contents_end m s picks opening).slabs cache checks in
    let next : node_lock cache ≡ suc cache = omega arith in
    let P : ℕ → Type 0 = λ n. (slabs_in (m.layout cache) ((run m (begun m s) picks).value n)).reports ≡ (slabs_in (m.layout cache) (s.value n)).reports ++ kept.found in
    (kept.found, subst P next kept.added)

-- ---- what can be told

known-act : (s t : State) (trace : Trace) (act : Act) → length t.table.kept ≡ length trace.names → length t.board ≡ trace.objects + 1 → IsSoundAct trace act → IsKnownAct t act
known-act s t trace (act.Alloc place object) names board sound = (omega (arith, sound.0), sound.1, omega (arith, sound.2))
known-act s t trace (act.Free object) names board sound = omega (arith, sound.1)
known-act s t trace (act.Write word object value) names board sound = (omega (arith, sound.1), sound.2)
known-act s t trace (act.Read word object) names board sound = (omega (arith, sound.1), sound.2)
known-act s t trace (act.Poke object offset byte) names board sound = omega (arith, sound.1)
known-act s t trace (act.Trim place) names board sound = omega (arith, sound)
known-act s t trace act.Flush names board sound = tt

-- after the last reply
pub may-tell : (s t : State) (b d : Beside) (trace : Trace) (round : Round) (picks : List Pick) (answers : Answers)
    → MayOpen s b → MayDo s trace round → let last = run (setup_of s b) (system_begun s b round) picks in
    All IsFinished last.locals → Closes s b last t d → IsCoherent t → IsRoomFor s (length round.events) round.workers answers → MayTell s t round last.locals answers
may-tell s t b d trace round picks answers may does finished closes coherent room = record {
  before = may.coherent;
  coherent = coherent;
  room = room;
  known = λ k e below. known (does.sound.events k e below);
  workers = sym (length-map last.locals (λ (l : Local). l.done)) ∙ sym (length-map (replies_of last) (λ (ds : List Answered). in_order ds [])) ∙ ap (λ (cs : List (List Call)). length cs) ends.replies
      ∙ length-map ls (λ (l : Local). l.todo) ∙ long;
  answered = answered;
  table = closes.table;
  reports = reports;
  findable = few;
}
  where
    m : Setup
    m = setup_of s b

    ls : List Local
    ls = workers_of s.table round

    last : System
    last = run m (system_begun s b round) picks

    opening : IsOpening m (system_before s b round)
    opening = begins s b trace round may does

    ends : IsRoundOnWords m (world_before s b round) (world_of m last.value last.words) (calls_to_come (system_before s b round)) (replies_of last)
    ends = rounds_end m (system_before s b round) picks opening finished

    long : length ls ≡ round.workers
    long = length-map (range_with_len 0 round.workers) (worker_of s.table round) ∙ length-range_with_len 0 round.workers

    known : {e : Event} → IsSoundEvent trace round.workers e → IsKnown t round.workers e
    known {e} sound = record {
      worker = sound.worker;
      cpu = let same : t.cpus ≡ s.cpus = ap (λ (m : Setup). m.cpus) closes.stays in omega (arith, sound.cpu, same, does.cpus);
      act = known-act s t trace e.act (ap (λ (table : Table). length table.kept) closes.table ∙ ap (λ names. length names) does.names)
          (ap (λ (m : Setup). m.objects) closes.stays ∙ does.objects) sound.act;
    }

    events : (worker : ℕ) → length (get_or ls worker idle).todo ≡ length (events_by worker round.events)
    events worker = elim (cases_lt worker round.workers) [
      | inl below ↦
          let there : get_or ls worker idle ≡ worker_of s.table round worker =
          get_or-map-range_with_len (worker_of s.table round) 0 round.workers worker worker idle below (omega arith) in
          ap (λ (l : Local). length l.todo) there ∙ length-map (events_by worker round.events) _
      | inr past ↦
          let gone : get_or ls worker idle ≡ idle = get_or-beyond ls worker idle (omega (arith, long)) in
          ap (λ (l : Local). length l.todo) gone ∙ sym (ap (λ (es : List Event). length es) (none-by worker round.workers round.events past (inside-round trace s round does)))
    ]

    answered : AreAnswered round.events last.locals
    answered worker =
        let order : get_or (map (λ (ds : List Answered). in_order ds []) (replies_of last)) worker [] ≡ get_or (calls_to_come (system_before s b round)) worker [] = ap (λ (cs : List (List Call)). get_or cs worker []) ends.replies in
        let one : in_order (get_or last.locals worker idle).done [] ≡ (get_or ls worker idle).todo =
        ap (λ (ds : List Answered). in_order ds []) (sym (get_or-map (λ (l : Local). l.done) last.locals worker idle)) ∙ sym (get_or-map (λ (ds : List Answered). in_order ds []) (replies_of last) worker [])
        ∙ order ∙ get_or-map (λ (l : Local). l.todo) ls worker idle in
        let done : length (get_or last.locals worker idle).done ≡ length (get_or ls worker idle).todo = omega (arith, in_order-length (get_or last.locals worker idle).done [], ap (λ (cs : List Call). length cs) one) in
        sym (done ∙ events worker)

    reports : (cache : ℕ) → AddsReportsOf (checked_of s cache) (checked_of t cache)
    reports cache =
        let checks : is_some (checked_of t cache) ≡ is_some (checked_of s cache) = ap (λ (m : Setup). m.checks cache) closes.stays in
        by_checked (checked_of s cache) (checked_of t cache) refl refl checks
      where
        within : (cache : ℕ) (old : CheckedState) → checked_of s cache ≡ Some old → cache < 32
        within cache old was = elim (cases_lt cache 32) [
          | inl below ↦ below
          | inr past ↦ absurd (none-some old (sym (get_or-beyond s.checked cache None (omega (arith, may.coherent.shaped.checked.numbers))) ∙ was))
        ]

        by_checked : (old new : Option CheckedState) → checked_of s cache ≡ old → checked_of t cache ≡ new → is_some new ≡ is_some old → AddsReportsOf (checked_of s cache) (checked_of t cache)
        by_checked None None was is same = rw (was, is) tt
        by_checked None (Some new) was is same = absurd (false≢true (sym same))
        by_checked (Some old) None was is same = absurd (false≢true same)
        by_checked (Some old) (Some new) was is same =
            let kept = reports-stay m (system_before s b round) picks cache opening (rw was refl) in
            let below : cache < 32 = within cache old was in
            let first : slabs_in (m.layout cache) (value_of s (suc cache)) ≡ old = ap (λ (slabs : Option CheckedState). slabs_in (m.layout cache) (node_value (is_some (cache_of s cache)) slabs (node_of s cache))) was in
            let end : slabs_in (m.layout cache) (last.value (suc cache)) ≡ new =
            ap (slabs_in (m.layout cache)) (values-at s t b d last closes (suc cache) (omega arith)) ∙ ap (λ (slabs : Option CheckedState). slabs_in (m.layout cache) (node_value (is_some (cache_of t cache)) slabs (node_of t cache))) is in
            rw (was, is) (kept.0, ap (λ (x : CheckedState). x.reports) (sym end) ∙ kept.1 ∙ ap (λ (x : CheckedState). x.reports ++ kept.0) first)

    few : findable_in t ≤ findable_in s + length round.events
    few =
        let first = system_begun s b round in
        let runs = run-found m (world_before s b round) first picks (opens m (system_before s b round) opening) in
        let same : found_behind last.value ≡ found_behind (value_of t) =
        sum_below_same 33 (λ n. found_at (value_of t n)) (λ n. found_at (last.value n)) (λ n below. ap found_at (values-at s t b d last closes n below)) in
        omega (
          arith,
          runs,
          same,
          found-lists t coherent.shaped.checked.numbers,
          found-lists s may.coherent.shaped.checked.numbers,
          opened-fewer m (system_before s b round),
          calls-long s.table round (inside-round trace s round does),
        )
