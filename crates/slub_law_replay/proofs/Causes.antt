-- The causes that replies have on the step machine are those of the text, of pokes and of ids that are spent.
use Rattle.std.proofs.Common.{◌≡◌, ℕ, ◌+◌, ◌*◌, ◌<◌, ◌≤◌, ◌&&◌, ◌||◌, eqb, Bool, true, false, cond, List, [], ◌∷◌, ◌++◌, map, refl, sym, ap, subst, ◌∙◌, arith, All, Option, Some, None, IsSome, MatchOption, is_some, inl, inr, ℤ}
use Rattle.std.specs.Option.{option_and_then, option_map, option_map_or, option_or}
use Rattle.std.specs.List.{zip}
use Rattle.std.proofs.lemmas.Bool.{cases_lt, false≢true}
use Rattle.std.proofs.lemmas.List.Elements.{All-cons, All-filter, All-get_or, All-head, All-map, All-nil, All-tail, All-weaker}
use Rattle.std.proofs.lemmas.Option.{none-some}
use Rattle.slub_trace.specs.declared.event.Act.{Act}
use Rattle.slub_trace.specs.declared.event.Act.TheVariants.{Alloc, Poke}
use Rattle.slub_trace.specs.declared.event.Event.{Event}
use Rattle.slub_trace.specs.declared.event.Round.{Round}
use Rattle.slub_trace.specs.declared.reply.Reply.{Reply}
use Rattle.slub_trace.specs.declared.reply.Reply.TheVariants as reply
use Rattle.slub_trace.specs.Kinds as kinds
use Rattle.slub_words.specs.declared.board.BoardWord.{BoardWord}
use Rattle.slub_trace.specs.declared.trace.Trace.{Trace}
use Rattle.slub_trace.specs.Sound.{IsSoundEvent}
use Rattle.slub_cache_create.specs.declared.caches.Cache.{Cache}
use Rattle.slub_cache_create.specs.Table.{Table}
use Rattle.slub_lists.specs.declared.lists.Held.{Held}
use Rattle.slub_lists.specs.State.{State}
use Rattle.slub_lists.specs.Alloc.{cache_of, checked_of}
use Rattle.slub_lists.specs.Places.{layout_at}
use Rattle.slub_object_layout.specs.Layout.{no_layout}
use Rattle.slub_red_zone.specs.State.{CheckedState}
use Rattle.slub_lists.specs.Coherent.{IsCacheOf, IsCheckedOf, IsCoherent, all_on_board, held_under}
use Rattle.slub_lists.proofs.CheckedSlabs.{at_some}
use Rattle.slub_lists.proofs.Trimming.{live-below, place-live}
use Rattle.slub_slabinfo_text.specs.declared.journal.RoundResult.{RoundResult}
use Rattle.slub_slabinfo_text.specs.Lawful.{is_by}
use Rattle.slub_core.specs.declared.local.Known.{Known}
use Rattle.slub_core.specs.declared.local.Answered.{Answered as Done}
use Rattle.slub_core.specs.Calls.{call_object}
use Rattle.slub_core.specs.Setup.{Setup, pool_lock}
use Rattle.slub_page_pool.specs.Block.{HasNoBlock}
use Rattle.slub_core.specs.Local.{Local}
use Rattle.slub_core.specs.World.{World, LockValue, pool_in, pool_of, world_of}
use Rattle.slub_core.specs.Accounted.{AreDistinct, IsTold as IsWorkerTold, public}
use Rattle.slub_core.specs.Checked.{is_offset}
use Rattle.slub_core.specs.Replies as core
use Rattle.slub_core.specs.Law.{replies_of}
use Rattle.slub_core.specs.Run.{System, Pick, run}
use Rattle.slub_core.specs.Opening.{IsNew, IsOpening, IsRoom, opened as begun}
use Rattle.slub_core.specs.Round as core_law
use Rattle.slub_core.proofs.StepWords.{setup_of as core_setup_of, value_of as core_value_of}
use Rattle.slub_core.proofs.Turns.{run_both}
use Rattle.slub_core.proofs.Opens.{opens}
use Rattle.slub_core.proofs.RoundEnds.{rounds_end}
use Rattle.slub_schedule.specs.Finished.{IsQuiet, empty_handed}
use Rattle.slub_schedule.specs.Rounds.{IsFinishedSystem}
use Rattle.slub_schedule.proofs.Finished.{Counted, all_workers, finished_well}
use Rattle.slub_law_opening.specs.Opening.{IsLaidDown, board_word, setup_of}
use Rattle.slub_law_opening.specs.Closing.{Closes}
use Rattle.slub_law_opening.specs.Rests.{Rests, held_among, held_in, held_on}
use Rattle.slub_law_opening.specs.Table.{RestsIn, system_of}
use Rattle.slub_law_opening.specs.Laws.{MayBegin, MayOpen}
use Rattle.slub_law_opening.proofs.Systems.{opened-rest, rounds-keep}
use Rattle.slub_calls.specs.Calls.{call_for, events_by, rooms_for, workers_of}
use Rattle.slub_calls.specs.Laws.{MayDo}
use Rattle.slub_calls.proofs.Fitting.{may_begin}
use Rattle.slub_open_close.specs.Ids.{IsStepOf, id_at}
use Rattle.slub_law_rounds.specs.Answered.{Answered, holding, is_alloc_of, is_corrupt, is_free_of, of_worker}
use Rattle.slub_law_rounds.specs.Ran.{RunsRound, system_after}
use Rattle.slub_calls.specs.Replies.{AreReplies}
use Rattle.slub_law_rounds.specs.Round.{IsOfChecked, Spot, layout_of, spot_by}
use Rattle.slub_law_rounds.proofs.CausesRan.{spot-here}
use Rattle.slub_law_rounds.proofs.Counts.{caused-by, done-at, its_done, many}
use Rattle.slub_law_rounds.proofs.Ended.{Ended}
use Rattle.slub_law_rounds.proofs.Meeting.{IsMet, IsStill, Meets, all-met, caused-first, fold-back, found, freed, gave, lacked, poked, quiet, quiet-still, wrote}
use Rattle.slub_law_rounds.proofs.Split.{back, back-append, told}
use Rattle.slub_law_rounds.proofs.Sums.{IsBelow, all-below, none-beyond}
use Rattle.slub_law_rounds.proofs.TellingRan.{holding-told, same-either, spot_from, spot-told}
use Rattle.slub_rounds.specs.Rounds.{DoesRoundBySteps, Finishes}
use Rattle.slub_law_replay.proofs.Unheld.{AreRight, IsLost, IsRight, round_right}
use Rattle.slub_law_replay.proofs.Wants.{AreWants, IsWant, round_wants}
use Rattle.slub_law_replay.specs.Causes.{HaveRightCauses, HaveWants, IsOfPlain, IsPokeAnswer, LacksBlock, LacksSlab, RightCause, SpentCause, WantCause, in_slot, knowing, knows_after}

-- ---- what a worker knows, by the text and by its calls

module _ (table : Table) (rooms : List Known) (o : ℕ) where
  still-knows : (p q k : Bool) (r : Reply) → IsStill r → ((p && kinds.is_given r) || ((q && kinds.is_freed r) || (q && is_corrupt r)) || k) ≡ k
  still-knows p q k (reply.Given a) still = absurd still
  still-knows p q k (reply.Freed a) still = absurd still
  still-knows p q k (reply.Corrupt d) still = absurd still
  still-knows p q k r still = none p q
    where
      none : (p q : Bool) → ((p && false) || ((q && false) || (q && false)) || k) ≡ k
      none true true = refl
      none true false = refl
      none false true = refl
      none false false = refl

  still-known : (r : Reply) (k : Bool) → IsStill r → core.knows_after r k ≡ k
  still-known (reply.Given a) k still = absurd still
  still-known (reply.Freed a) k still = absurd still
  still-known (reply.Corrupt d) k still = absurd still
  still-known r k still = refl

  by-gift : (b k : Bool) → ((b && true) || ((false && false) || (false && false)) || k) ≡ cond b true k
  by-gift true k = refl
  by-gift false k = refl

  by-free : (b k : Bool) → ((false && false) || ((b && true) || (b && false)) || k) ≡ cond b true k
  by-free true k = refl
  by-free false k = refl

  by-find : (b k : Bool) → ((false && false) || ((b && false) || (b && true)) || k) ≡ cond b true k
  by-find true k = refl
  by-find false k = refl

  knows-step : (ds : List Done) (event : Event) (a : Act) (r : Reply) → event.act ≡ a → Meets table a r → knows_after o (core.knows ds o) (event, r) ≡ core.knows (told table rooms (event, r) ∷ ds) o
  knows-step ds event _ _ is (gave place x address) = rw is (by-gift (eqb x o) (core.knows ds o))
  knows-step ds event _ _ is (lacked place x k is_k) = rw is (still-knows (eqb x o) false (core.knows ds o) reply.NoFrames tt ∙ sym (same-either (eqb x o) (core.knows ds o)))
  knows-step ds event _ _ is (freed x address) = rw is (by-free (eqb x o) (core.knows ds o))
  knows-step ds event _ _ is (found x damage) = rw is (by-find (eqb x o) (core.knows ds o))
  knows-step ds event _ _ is (wrote x word value) = rw is (still-knows false false (core.knows ds o) reply.Wrote tt ∙ sym (same-either (eqb x o) (core.knows ds o)))
  knows-step ds event _ _ is (poked x offset byte) = rw is (still-knows false false (core.knows ds o) reply.Poked tt ∙ sym (same-either (eqb x o) (core.knows ds o)))
  knows-step ds event a r is (quiet _ _ none) =
      let still = quiet-still r none in
      let k = core.knows ds o in
      let b = eqb (call_object (call_for table rooms event.cpu event.act)) o in
      still-knows (is_alloc_of o event.act) (is_free_of o event.act) k r still ∙ sym (same-either b k) ∙ ap (λ x. cond b x k) (sym (still-known r k still))

  knowing-told : (own : List Answered) → All (IsMet table) own → knowing o own ≡ core.knows (back table rooms own []) o
  knowing-told own met = fold-back table rooms (λ ds. core.knows ds o) (knows_after o) knows-step own [] met

-- ---- where an object stands

some-of : {A : Type 0} (x : Option A) → is_some x ≡ true → (y : A) × (x ≡ Some y)
some-of None none = absurd (false≢true none)
some-of (Some y) some = (y, refl)

none-of : {A : Type 0} (x : Option A) → is_some x ≡ false → x ≡ None
none-of None none = refl
none-of (Some y) some = absurd (false≢true (sym some))

-- what has a cache by the replies has an address
addressed : (m : Setup) (before : ℕ → Option BoardWord) (ds : List Done) (o k : ℕ) → core.cache_by before ds o ≡ Some k → (a : ℕ) × (core.address_by m before ds o ≡ Some a)
addressed m before [] o k is = by (before o) is
  where
    by : (x : Option BoardWord) → option_map (λ (b : BoardWord). b.cache) x ≡ Some k → (a : ℕ) × (core.address_on m x ≡ Some a)
    by None is = absurd (none-some k is)
    by (Some b) is = (_, refl)
addressed m before (d ∷ ds) o k is = by (addressed m before ds o k) (eqb (call_object d.call) o) d.reply is
  where
    by : (core.cache_by before ds o ≡ Some k → (a : ℕ) × (core.address_by m before ds o ≡ Some a)) → (same : Bool) (r : Reply) → cond same (core.cache_after d.call r (core.cache_by before ds o)) (core.cache_by before ds o) ≡ Some k
        → (a : ℕ) × (cond same (core.address_after r (core.address_by m before ds o)) (core.address_by m before ds o) ≡ Some a)
    by again false r is = again is
    by again true (reply.Given a) is = (a, refl)
    by again true r is = again is

-- those before the last ones were right
right-first : (table : Table) (rooms : List Known) (m : Setup) (lost : ℕ → ℕ → Type 0) (before : ℕ → Option BoardWord) (own : List Answered) (ds : List Done) → AreRight m lost before (back table rooms own ds) → AreRight m lost before ds
right-first table rooms m lost before [] ds right = right
right-first table rooms m lost before (one ∷ own) ds right = (right-first table rooms m lost before own (told table rooms one ∷ ds) right).1

-- and so are the first of what holds of all
all-first : (P : Done → Type 0) (table : Table) (rooms : List Known) (own : List Answered) (ds : List Done) → All P (back table rooms own ds) → All P ds
all-first P table rooms [] ds all = all
all-first P table rooms (one ∷ own) ds all = All-tail P (told table rooms one) ds (all-first P table rooms own (told table rooms one ∷ ds) all)

-- the event is one of the round
one-of : (P : Answered → Type 0) (front : List Answered) (one : Answered) (back : List Answered) → All P (front ++ one ∷ back) → P one
one-of P [] one back all = All-head P one back all
one-of P (first ∷ front) one back all = one-of P front one back (All-tail P first (front ++ one ∷ back) all)

on-cpus : (cpus : ℕ) (events : List Event) (replies : List Reply) → All (λ (event : Event). event.cpu < cpus) events → All (λ (one : Answered). one.0.cpu < cpus) (zip events replies)
on-cpus cpus [] replies all = All-nil (λ (one : Answered). one.0.cpu < cpus)
on-cpus cpus (event ∷ events) [] all = All-nil (λ (one : Answered). one.0.cpu < cpus)
on-cpus cpus (event ∷ events) (told ∷ replies) all =
    All-cons (λ (one : Answered). one.0.cpu < cpus) (event, told) (zip events replies) (All-head (λ (event : Event). event.cpu < cpus) event events all) (on-cpus cpus events replies (All-tail (λ (event : Event). event.cpu < cpus) event events all))

-- ---- a round that was run

-- a new worker holds nothing
none-in : (m : Setup) (worker : ℕ) (ks : List Known) (o : ℕ) → All (IsRoom m) ks → held_in worker ks o ≡ None
none-in m worker [] o rooms = refl
none-in m worker (k ∷ ks) o rooms = by k.held (All-head (IsRoom m) k ks rooms).2 (none-in m worker ks o (All-tail (IsRoom m) k ks rooms))
  where
    by : (held : Bool) → held ≡ false → held_in worker ks o ≡ None → cond (held && eqb k.object o) (Some (record { frame = k.frame; index = k.index; cache = k.cache; worker = Some worker })) (held_in worker ks o) ≡ None
    by true is rest = absurd (false≢true (sym is))
    by false is rest = rest

none-among : (m : Setup) (ls : List Local) (o : ℕ) → All (IsNew m) ls → held_among ls o ≡ None
none-among m [] o new = refl
none-among m (l ∷ ls) o new = ap (λ x. option_or x (held_among ls o)) (none-in m l.worker l.known o (All-head (IsNew m) l ls new).known) ∙ none-among m ls o (All-tail (IsNew m) l ls new)

module _ (s : State) (trace : Trace) (round : Round) (result : RoundResult) (lists : State) (coherent : IsCoherent s) (down : IsLaidDown s) (does : MayDo s trace round) (ran : RunsRound s round result lists) where
  -- ---- the opening

  may : MayOpen s ran.beside
  may = record { coherent = coherent; laid_down = down; beside = ran.fits }

  abbrev first_workers : List Local
  first_workers = workers_of s.table round

  begin : MayBegin s ran.beside first_workers
  begin = may_begin s ran.beside trace round may does

  abbrev first : System
  first = system_of s ran.beside first_workers

  abbrev last : System
  last = system_after s ran.beside round ran.picks

  abbrev m : Setup
  m = setup_of s ran.beside

  abbrev opening : World
  opening = world_of (setup_of s ran.beside) first.value first.words

  abbrev w : World
  w = world_of (setup_of s ran.beside) last.value last.words

  is-open : RestsIn s ran.beside first × IsOpening (setup_of s ran.beside) first
  is-open = opened-rest s ran.beside first_workers may begin

  -- what a number names before the round is on the board
  board-is : (o : ℕ) → opening.board o ≡ option_map board_word (held_under s o)
  board-is o =
      sym (worded (opening.board o)) ∙ ap (option_map board_word)
      (sym (ap (option_or (option_map held_on (opening.board o))) (none-among (setup_of s ran.beside) first_workers o begin.new) ∙ or-none (option_map held_on (opening.board o))) ∙ sym (is-open.0.rests.named o))
    where
      worded : (x : Option BoardWord) → option_map board_word (option_map held_on x) ≡ x
      worded None = refl
      worded (Some b) = refl

      or-none : (x : Option Held) → option_or x None ≡ x
      or-none None = refl
      or-none (Some held) = refl

  -- ---- the end

  ends : core_law.IsRoundOnWords (setup_of s ran.beside) opening w (map (λ (l : Local). l.todo) first_workers) (map (λ (l : Local). l.done) last.locals)
  ends = rounds_end (setup_of s ran.beside) first ran.picks is-open.1 ran.finished

  ended-well : IsQuiet (setup_of s ran.beside) opening last × Counted opening w last.locals
  ended-well = finished_well (setup_of s ran.beside) opening last (run_both (setup_of s ran.beside) opening (begun (setup_of s ran.beside) first) ran.picks (opens (setup_of s ran.beside) first is-open.1)).0 ran.finished

  closed : IsCoherent lists × MayOpen (all_on_board lists) ran.left
  closed = rounds-keep s lists ran.beside ran.left first_workers ran.picks may begin ran.closes

  resting : Rests lists ran.left w last.locals
  resting = subst (λ m. Rests lists ran.left (world_of m last.value last.words) last.locals) ran.closes.stays ran.closes.rests.rests

  pool-is : (m : Setup) (value : ℕ → LockValue) (words : List ℕ) → pool_of (world_of m value words) ≡ pool_in (value 0)
  pool-is m value words = ap (λ (v : ℕ → LockValue). pool_in (v 0)) (core_value_of m value words)

  ended : Ended s ran.beside round opening w last.locals lists
  ended = record {
    board = board-is;
    law = ends;
    setup = core_setup_of (setup_of s ran.beside) last.value last.words;
    counted = ended-well.1;
    distinct = (All-weaker (IsWorkerTold w.setup opening.board (public w (map empty_handed last.locals))) (λ (l : Local). AreDistinct l.known) (λ l t. t.distinct) last.locals
        (all_workers (IsWorkerTold w.setup opening.board (public w (map empty_handed last.locals))) last.locals ended-well.0.coherent.accounted.told));
    names = resting.named;
    pool = pool-is (setup_of s ran.beside) first.value first.words;
    left = ap pool_in (resting.values 0 (omega arith));
  }

  -- ---- the law

  abbrev answers : List Answered
  answers = zip round.events result.replies

  inside : All (λ (event : Event). event.worker < round.workers) round.events
  inside = All-weaker (IsSoundEvent trace round.workers) (λ (event : Event). event.worker < round.workers) (λ event is. is.worker) round.events does.sound.events

  below : All (IsBelow round.workers) (zip round.events result.replies)
  below = all-below round.workers round.events result.replies inside

  -- what was lost in the round
  abbrev lost : ℕ → ℕ → Type 0
  lost = IsLost (setup_of s ran.beside) (begun (setup_of s ran.beside) first) ran.picks

  -- what a worker's pokes were answered
  right-by : (k : ℕ) → AreRight (setup_of s ran.beside) lost opening.board (its_done s ran.beside round result.replies opening w last.locals lists ended ran.replies inside below coherent k)
  right-by k = elim (cases_lt k round.workers) [
    | inl under ↦ subst (AreRight (setup_of s ran.beside) lost opening.board) (done-at s ran.beside round result.replies opening w last.locals lists ended ran.replies inside below coherent k under)
        (All-get_or (AreRight (setup_of s ran.beside) lost opening.board) (map (λ (l : Local). l.done) last.locals) k []
        (omega (arith, under, many s ran.beside round result.replies opening w last.locals lists ended ran.replies inside below coherent))
        (All-map (AreRight (setup_of s ran.beside) lost opening.board) (λ (l : Local). l.done) last.locals (round_right (setup_of s ran.beside) first ran.picks is-open.1)))
    | inr past ↦ subst (λ own. AreRight (setup_of s ran.beside) lost opening.board (back s.table (rooms_for (events_by k round.events)) own [])) (sym (none-beyond round.workers k answers below past)) tt
  ]

  -- a moment of the round
  abbrev seen : (ℕ → LockValue) → Type 0
  seen value = (front : List Pick) × (rest : List Pick) × (ran.picks ≡ front ++ rest) × (value ≡ (run (setup_of s ran.beside) (begun (setup_of s ran.beside) first) front).value)

  -- what a worker was told of want of frames
  wants-by : (k : ℕ) → AreWants (setup_of s ran.beside) seen (its_done s ran.beside round result.replies opening w last.locals lists ended ran.replies inside below coherent k)
  wants-by k = elim (cases_lt k round.workers) [
    | inl under ↦ subst (AreWants (setup_of s ran.beside) seen) (done-at s ran.beside round result.replies opening w last.locals lists ended ran.replies inside below coherent k under)
        (All-get_or (AreWants (setup_of s ran.beside) seen) (map (λ (l : Local). l.done) last.locals) k []
        (omega (arith, under, many s ran.beside round result.replies opening w last.locals lists ended ran.replies inside below coherent))
        (All-map (AreWants (setup_of s ran.beside) seen) (λ (l : Local). l.done) last.locals (round_wants (setup_of s ran.beside) seen first ran.picks is-open.1 (λ front rest split. (front, rest, split, refl)))))
    | inr past ↦ subst (λ own. AreWants (setup_of s ran.beside) seen (back s.table (rooms_for (events_by k round.events)) own [])) (sym (none-beyond round.workers k answers below past)) (All-nil (IsWant (setup_of s ran.beside) seen))
  ]

  -- ---- one event

  -- the ids that the words of CPUs have after the round
  id-left : (n : ℕ) → n < 512 → (w.cpu n).tid ≡ id_at ran.left.tids n
  id-left n few = (resting.cpu n few).tid

  cpus-few : s.cpus ≤ 16
  cpus-few = coherent.shaped.cpus.1

  module _ (worker : ℕ) (own : List Answered) (one : Answered) (later : List Answered) (split : of_worker worker answers ≡ own ++ one ∷ later) where
    abbrev rooms : List Known
    rooms = rooms_for (events_by worker round.events)

    abbrev p : core.Public
    p = core_law.outcome w (map (λ (l : Local). l.done) last.locals)

    abbrev ds : List Done
    ds = back s.table (rooms_for (events_by worker round.events)) own []

    caused : core.Caused (setup_of s ran.beside) opening.board p (told s.table rooms one ∷ ds)
    caused =
        let all : core.Caused (setup_of s ran.beside) opening.board p (back s.table rooms later (told s.table rooms one ∷ ds)) =
        subst (core.Caused (setup_of s ran.beside) opening.board p) (ap (λ xs. back s.table rooms xs []) split ∙ back-append s.table rooms own (one ∷ later) [])
        (caused-by s ran.beside round result.replies opening w last.locals lists ended ran.replies inside below coherent worker) in
        caused-first s.table rooms (setup_of s ran.beside) opening.board p later (told s.table rooms one ∷ ds) all

    rights : AreRight (setup_of s ran.beside) lost opening.board (told s.table rooms one ∷ ds)
    rights = right-first s.table rooms (setup_of s ran.beside) lost opening.board later (told s.table rooms one ∷ ds)
        (subst (AreRight (setup_of s ran.beside) lost opening.board) (ap (λ xs. back s.table rooms xs []) split ∙ back-append s.table rooms own (one ∷ later) []) (right-by worker))

    wants : IsWant (setup_of s ran.beside) seen (told s.table rooms one)
    wants = All-head (IsWant (setup_of s ran.beside) seen) (told s.table rooms one) ds (all-first (IsWant (setup_of s ran.beside) seen) s.table rooms later (told s.table rooms one ∷ ds)
        (subst (AreWants (setup_of s ran.beside) seen) (ap (λ xs. back s.table rooms xs []) split ∙ back-append s.table rooms own (one ∷ later) []) (wants-by worker)))

    met : All (IsMet s.table) own
    met = all-met s.table rooms (setup_of s ran.beside) opening.board p own [] caused.1

    held-told : (o : ℕ) → holding o own ≡ core.holding ds o
    held-told o = holding-told s.table rooms o own met

    knew-told : (o : ℕ) → knowing o own ≡ core.knows ds o
    knew-told o = knowing-told s.table rooms o own met

    spot-at : (o k a : ℕ) → core.cache_by opening.board ds o ≡ Some k → core.address_by (setup_of s ran.beside) opening.board ds o ≡ Some a → spot_by s o own ≡ Some (record { cache = k; address = a })
    spot-at o k a cache address =
        spot-told s rooms (setup_of s ran.beside) opening.board o own met (spot-here s ran.beside rooms opening.board p board-is coherent ran.fits.step.1 o) ∙ ap (λ x. spot_from x (core.address_by (setup_of s ran.beside) opening.board ds o)) cache
        ∙ ap (spot_from (Some k)) address

    spot-with : (o k : ℕ) → core.cache_by opening.board ds o ≡ Some k → (a : ℕ) × (spot_by s o own ≡ Some (record { cache = k; address = a }))
    spot-with o k cache = let at = addressed (setup_of s ran.beside) opening.board ds o k cache in (at.0, spot-at o k at.0 cache at.1)

    -- what lacked after some of the turns
    block-cause : (place o : ℕ) → IsWant (setup_of s ran.beside) seen (record { call = call_for s.table rooms one.0.cpu (Alloc place o); reply = reply.NoFrames }) → LacksBlock s ran.beside round ran.picks place
    block-cause place o want =
        let lacked = want refl in
        record {
          cache = lacked.0;
          name = lacked.1;
          front = lacked.2.there.0;
          rest = lacked.2.there.1;
          split = lacked.2.there.2;
          none = subst (λ (value : ℕ → LockValue). HasNoBlock (pool_in (value pool_lock)).free (layout_at s lacked.0).min_order) lacked.2.there.3 lacked.2.none;
        }

    slab-cause : (o : ℕ) (offset : ℤ) (byte : ℕ) → IsRight (setup_of s ran.beside) lost opening.board ds (record { call = call_for s.table rooms one.0.cpu (Poke o offset byte); reply = reply.NotHeld }) → knowing o own ≡ true
        → MatchOption (spot_by s o own) ⊥ (λ spot. LacksSlab s ran.beside round ran.picks spot)
    slab-cause o offset byte poke known =
        let at = poke refl refl (sym (knew-told o) ∙ known) in
        let gone = at.4.2 in
        subst (λ x. MatchOption x ⊥ (λ spot. LacksSlab s ran.beside round ran.picks spot)) (sym (spot-at o at.0 at.4.0 at.1 at.4.1))
        (record { slot = gone.slot; stands = gone.is; early = gone.early; late = gone.late; rest = gone.rest; split = gone.split; used = gone.used; gone = gone.gone })

    want-cause : (a : Act) (r : Reply) → IsWant (setup_of s ran.beside) seen (record { call = call_for s.table rooms one.0.cpu a; reply = r })
        → IsRight (setup_of s ran.beside) lost opening.board ds (record { call = call_for s.table rooms one.0.cpu a; reply = r }) → WantCause s ran.beside round ran.picks own a r
    want-cause (Alloc place o) reply.NoFrames want poke = block-cause place o want
    want-cause (Poke o offset byte) reply.NotHeld want poke = slab-cause o offset byte poke
    want-cause a r want poke = tt

    -- its cache is checked or not, and the byte lies in the slot or not
    checked-told : (o k : ℕ) → core.cache_by opening.board ds o ≡ Some k → is_some (checked_of s k) ≡ true → IsOfChecked s o own
    checked-told o k cache checked = let at = spot-with o k cache in subst (λ x. MatchOption x ⊥ (λ (spot : Spot). IsSome (checked_of s spot.cache))) (sym at.1) checked

    plain-told : (o k : ℕ) → core.cache_by opening.board ds o ≡ Some k → is_some (checked_of s k) ≡ false → IsOfPlain s o own
    plain-told o k cache plain = let at = spot-with o k cache in subst (λ x. MatchOption x ⊥ (λ (spot : Spot). checked_of s spot.cache ≡ None)) (sym at.1) (none-of (checked_of s k) plain)

    slot-told : (o k : ℕ) (offset : ℤ) → core.cache_by opening.board ds o ≡ Some k → is_some (checked_of s k) ≡ true → in_slot s o own offset ≡ is_offset (layout_at s k) offset
    slot-told o k offset cache checked =
        let at = spot-with o k cache in
        let live = some-of (cache_of s k) (checked-live k checked) in
        ap (λ x. option_map_or (λ layout. is_offset layout offset) (option_and_then (layout_of s) x) false) at.1
        ∙ ap (λ x. option_map_or (λ layout. is_offset layout offset) (option_map (λ (live : Cache). live.layout) x) false) live.1
        ∙ ap (λ x. is_offset (option_map_or (λ (live : Cache). live.layout) x no_layout) offset) (sym live.1)
      where
        checked-live : (k : ℕ) → is_some (checked_of s k) ≡ true → is_some (cache_of s k) ≡ true
        checked-live k checked =
            let slabs = some-of (checked_of s k) checked in
            let of : IsCheckedOf s k slabs.0 = at_some (checked_of s k) slabs.0 (IsCheckedOf s k) slabs.1 (coherent.shaped.checked.those k) in
            by slabs.0 (cache_of s k) of.live
          where
            by : (slabs : CheckedState) (x : Option Cache) → MatchOption x ⊥ (λ live. IsCacheOf slabs live.layout live.flags) → is_some x ≡ true
            by slabs None none = absurd none
            by slabs (Some live) some = refl

    poke-cause : (o : ℕ) (offset : ℤ) (byte : ℕ) (r : Reply) → core.Cause (setup_of s ran.beside) opening.board p ds (call_for s.table rooms one.0.cpu (Poke o offset byte)) r
        → IsRight (setup_of s ran.beside) lost opening.board ds (record { call = call_for s.table rooms one.0.cpu (Poke o offset byte); reply = r }) → IsPokeAnswer s own o offset r
    poke-cause o offset byte reply.Poked cause poke =
        (knew-told o ∙ cause.1, checked-told o cause.2.0 cause.2.1 cause.2.2, slot-told o cause.2.0 offset cause.2.1 cause.2.2 ∙ cause.2.3)
    poke-cause o offset byte reply.OutOfSlot cause poke =
        (knew-told o ∙ cause.1, checked-told o cause.2.0 cause.2.1 cause.2.2, slot-told o cause.2.0 offset cause.2.1 cause.2.2 ∙ cause.2.3)
    poke-cause o offset byte reply.NotChecked cause poke = (knew-told o ∙ cause.1, plain-told o cause.2.0 cause.2.1 cause.2.2)
    poke-cause o offset byte reply.NotHeld cause poke = (
      held-told o ∙ cause.2,
      λ known. let at = poke refl refl (sym (knew-told o) ∙ known) in (checked-told o at.0 at.1 at.2, slot-told o at.0 offset at.1 at.2 ∙ at.3),
    )
    poke-cause o offset byte (reply.Given a) cause poke = absurd (let k = cause.0 in cc)
    poke-cause o offset byte reply.NoFrames cause poke = absurd (let k = cause.0 in cc)
    poke-cause o offset byte reply.NoSuchCache cause poke = elim cause.0 [ inl k ↦ absurd (cc) | inr k ↦ absurd (cc) ]
    poke-cause o offset byte reply.NoMemory cause poke = absurd (let k = cause.0 in cc)
    poke-cause o offset byte (reply.IdsSpent t) cause poke = absurd (let k = cause.0 in cc)
    poke-cause o offset byte (reply.Freed a) cause poke = absurd (let k = cause.0 in cc)
    poke-cause o offset byte (reply.Corrupt d) cause poke = absurd (let k = cause.0 in cc)
    poke-cause o offset byte reply.Wrote cause poke = absurd (let k = cause.0 in cc)
    poke-cause o offset byte (reply.Value v) cause poke = absurd (let k = cause.0 in cc)
    poke-cause o offset byte reply.OutOfObject cause poke = elim cause.0 [ inl k ↦ absurd (cc) | inr k ↦ absurd (cc) ]
    poke-cause o offset byte (reply.Trimmed n) cause poke = absurd (let k = cause.0 in cc)
    poke-cause o offset byte reply.Checked cause poke = absurd (let k = cause.0 in cc)
    poke-cause o offset byte (reply.Flushed n) cause poke = absurd (let k = cause in cc)

    spent-cause : (place o t : ℕ) → one.0.cpu < s.cpus → IsStepOf s.cpus ran.beside.step → core.Cause (setup_of s ran.beside) opening.board p ds (call_for s.table rooms one.0.cpu (Alloc place o)) (reply.IdsSpent t) → SpentCause s ran.left.tids place one.0.cpu t
    spent-cause place o t on_cpu least cause =
        let k = cause.2.0 in
        let few : k < 32 = live-below s k coherent.shaped (place-live s place k coherent.shaped cause.2.1) in
        record {
          cache = k;
          name = cause.2.1;
          plain = none-of (checked_of s k) cause.2.2;
          step = ran.beside.step;
          least = least;
          spent = omega (arith, cause.1, ran.fits.step.1);
          reached = omega (arith, cause.2.3, id-left (16 * k + one.0.cpu) (omega (arith, few, on_cpu, cpus-few)));
        }

    right : (a : Act) (r : Reply) → one.0.cpu < s.cpus → IsStepOf s.cpus ran.beside.step → core.Cause (setup_of s ran.beside) opening.board p ds (call_for s.table rooms one.0.cpu a) r
        → IsRight (setup_of s ran.beside) lost opening.board ds (record { call = call_for s.table rooms one.0.cpu a; reply = r }) → RightCause s ran.left.tids own one.0.cpu a r
    right (Alloc place o) (reply.IdsSpent t) on_cpu least cause poke = spent-cause place o t on_cpu least cause
    right (Alloc place o) r on_cpu least cause poke = tt
    right (Poke o offset byte) r on_cpu least cause poke = poke-cause o offset byte r cause poke
    right a r on_cpu least cause poke = tt

  on-cpu : All (λ (one : Answered). one.0.cpu < s.cpus) (zip round.events result.replies)
  on-cpu = on-cpus s.cpus round.events result.replies (λ k d within. omega (arith, (does.sound.events k d within).cpu, does.cpus))

  right-causes : IsStepOf s.cpus ran.beside.step → HaveRightCauses s ran.left.tids (zip round.events result.replies)
  right-causes least worker own one is =
      right worker own one is.later is.split one.0.act one.1
      (one-of (λ (one : Answered). one.0.cpu < s.cpus) own one is.later (subst (All (λ (one : Answered). one.0.cpu < s.cpus)) is.split (All-filter (is_by worker) (λ (one : Answered). one.0.cpu < s.cpus) (zip round.events result.replies) on-cpu)))
      least (caused worker own one is.later is.split).0 (rights worker own one is.later is.split).0

  pub have-wants : HaveWants s ran.beside round ran.picks (zip round.events result.replies)
  have-wants worker own one is = want-cause worker own one is.later is.split one.0.act one.1 (wants worker own one is.later is.split) (rights worker own one is.later is.split).0

-- ---- a round by steps

-- its workers ran it on words
abbrev ran_so : (Ending : Setup → System → List Pick → System → Type 0) → ((m : Setup) (first : System) (picks : List Pick) (last : System) → Ending m first picks last → Finishes m first picks last)
    → (s : State) (ids : List ℕ) (round : Round) (result : RoundResult) (after : State) (left : List ℕ) → (done : DoesRoundBySteps Ending s ids round result after left) → RunsRound s round result done.lists
ran_so Ending runs s ids round result after left done =
    let came = runs _ _ _ _ done.ends in
    record {
      beside = done.beside;
      fits = done.stands.fits;
      picks = done.picks;
      finished = subst IsFinishedSystem came.run came.finished;
      left = done.left;
      closes = subst (λ end. Closes s done.beside end done.lists done.left) came.run done.closes;
      replies = subst (λ end. AreReplies round.events (replies_of end) result.replies) came.run done.replies;
      damages = done.damages;
      ledgers = done.ledgers;
    }

pub steps-right : (Ending : Setup → System → List Pick → System → Type 0) → ((m : Setup) (first : System) (picks : List Pick) (last : System) → Ending m first picks last → Finishes m first picks last)
    → (s : State) (ids : List ℕ) (trace : Trace) (round : Round) (result : RoundResult) (after : State) (left : List ℕ) → IsCoherent s → IsLaidDown s → MayDo s trace round
    → DoesRoundBySteps Ending s ids round result after left → HaveRightCauses s left (zip round.events result.replies)
steps-right Ending runs s ids trace round result after left coherent down may done =
    subst (λ (left : List ℕ). HaveRightCauses s left (zip round.events result.replies)) (sym done.ids_are)
    (right-causes s trace round result done.lists coherent down may (ran_so Ending runs s ids round result after left done) done.stands.step)

pub steps-wants : (Ending : Setup → System → List Pick → System → Type 0) → ((m : Setup) (first : System) (picks : List Pick) (last : System) → Ending m first picks last → Finishes m first picks last)
    → (s : State) (ids : List ℕ) (trace : Trace) (round : Round) (result : RoundResult) (after : State) (left : List ℕ) → IsCoherent s → IsLaidDown s → MayDo s trace round
    → (done : DoesRoundBySteps Ending s ids round result after left) → HaveWants s done.beside round done.picks (zip round.events result.replies)
steps-wants Ending runs s ids trace round result after left coherent down may done = have-wants s trace round result done.lists coherent down may (ran_so Ending runs s ids round result after left done)
