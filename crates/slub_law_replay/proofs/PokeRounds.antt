-- A round by steps, from lists to lists: each damage that it tells of was poked, and so was each byte that is off after it.
use Rattle.std.proofs.Common.{◌≡◌, ℕ, zero, suc, ◌+◌, ◌<◌, ◌&&◌, eqb, Bool, true, false, cond, List, [], ◌∷◌, ◌++◌, length, drop, get_or, map, refl, sym, ap, subst, ◌∙◌, arith, All, Option, Some, None, IfSome, IsSome, is_some, inl, inr, ◌⊎◌, ℤ}
use Rattle.std.specs.Option.{option_map, option_map_or, option_or}
use Rattle.std.specs.List.{zip}
use Rattle.std.proofs.Math.Seq.{drop-append-add}
use Rattle.std.proofs.lemmas.Bool.{false≢true}
use Rattle.std.proofs.lemmas.List.Elements.{All-head, All-map, All-tail, All-weaker, Contains-append_right}
use Rattle.slub_common.proofs.Writes.{inside-of}
use Rattle.slub_trace.specs.declared.event.Event.{Event}
use Rattle.slub_trace.specs.declared.event.Round.{Round}
use Rattle.slub_object_layout.specs.declared.layout.Layout.{Layout}
use Rattle.slub_object_layout.specs.Layout.{address_of}
use Rattle.slub_trace.specs.declared.damage.Report.{Report}
use Rattle.slub_red_zone.specs.State.{CheckedState}
use Rattle.slub_words.specs.declared.board.BoardWord.{BoardWord}
use Rattle.slub_trace.specs.declared.trace.Trace.{Trace}
use Rattle.slub_trace.specs.Sound.{IsSoundEvent}
use Rattle.slub_lists.specs.declared.lists.Held.{Held}
use Rattle.slub_lists.specs.State.{State}
use Rattle.slub_lists.specs.Alloc.{cache_of, checked_of, node_of}
use Rattle.slub_lists.specs.Coherent.{IsCoherent, all_on_board, held_under}
use Rattle.slub_slabinfo_text.specs.declared.journal.Found.{Found}
use Rattle.slub_slabinfo_text.specs.declared.journal.RoundResult.{RoundResult}
use Rattle.slub_slabinfo_text.specs.Lawful.{cache_numbers, found_in, found_of, reports_of, title_of}
use Rattle.slub_core.specs.declared.local.Known.{Known}
use Rattle.slub_core.specs.Setup.{Setup, node_lock}
use Rattle.slub_core.specs.Local.{Local}
use Rattle.slub_core.specs.World.{World, LockValue, pool_in, pool_of, world_of}
use Rattle.slub_core.specs.Accounted.{AreDistinct, IsTold as IsWorkerTold, public}
use Rattle.slub_core.specs.Checked.{slabs_in}
use Rattle.slub_core.specs.Law.{replies_of}
use Rattle.slub_core.specs.Run.{System, Pick, run}
use Rattle.slub_core.specs.Opening.{IsNew, IsOpening, IsRoom, opened as begun}
use Rattle.slub_core.specs.Round as core_law
use Rattle.slub_core.proofs.StepWords.{setup_of as core_setup_of, value_of as core_value_of}
use Rattle.slub_core.proofs.Turns.{run_both}
use Rattle.slub_core.proofs.Opens.{opens}
use Rattle.slub_core.proofs.RoundEnds.{rounds_end}
use Rattle.slub_schedule.specs.Finished.{IsQuiet, empty_handed}
use Rattle.slub_schedule.specs.Rounds.{EndsRound, IsFinishedSystem}
use Rattle.slub_schedule.proofs.Finished.{Counted, all_workers, finished_well}
use Rattle.slub_law_opening.specs.Opening.{IsLaidDown, board_word, node_value, setup_of, value_of}
use Rattle.slub_law_opening.specs.Closing.{Closes}
use Rattle.slub_law_opening.specs.Rests.{Rests, held_among, held_in, held_on}
use Rattle.slub_law_opening.specs.Table.{RestsIn, system_of}
use Rattle.slub_law_opening.specs.Laws.{MayBegin, MayOpen}
use Rattle.slub_law_opening.proofs.Systems.{opened-rest, rounds-keep}
use Rattle.slub_calls.specs.Calls.{workers_of}
use Rattle.slub_calls.specs.Laws.{MayDo}
use Rattle.slub_calls.proofs.Fitting.{may_begin}
use Rattle.slub_law_rounds.specs.Contents.{IsReport, KeepsSlabs, slabs_at}
use Rattle.slub_law_rounds.specs.Answered.{Answered}
use Rattle.slub_law_rounds.specs.Pokes.{IsPokedReport, WasGiven, WasPoked}
use Rattle.slub_law_rounds.specs.Round.{IsRound, Spot, WasGivenAt}
use Rattle.slub_law_rounds.proofs.Cleaning.{Clean, ToldPoked}
use Rattle.slub_law_rounds.proofs.Poked.{AddsTold, IsTold, given-later}
use Rattle.slub_law_rounds.proofs.Reports.{all-flat, drop-none}
use Rattle.slub_law_rounds.proofs.Runs.{gone_under}
use Rattle.slub_law_rounds.proofs.Tale.{injected}
use Rattle.slub_law_rounds.proofs.Telling.{TellsPoked}
use Rattle.slub_law_rounds.specs.Ran.{RunsRound, system_after}
use Rattle.slub_calls.specs.Replies.{AreReplies}
use Rattle.slub_law_rounds.proofs.Ended.{Ended}
use Rattle.slub_law_rounds.proofs.Sums.{IsBelow, all-below}
use Rattle.slub_law_rounds.proofs.WholeRan.{rounds-lawful}
use Rattle.slub_rounds.specs.InOrder.{EndsInOrder}
use Rattle.slub_rounds.specs.Rounds.{DoesRoundBySeed, DoesRoundBySteps, DoesRoundByThreads, DoesRoundInOrder, Finishes}
use Rattle.slub_law_replay.proofs.Grows.{Has, Put, clean-later, keeps-later}
use Rattle.slub_law_replay.proofs.Turns.{round_ends}
use Rattle.slub_law_replay.proofs.Spots.{checked-spot, gift-given, given-among}
use Rattle.slub_law_replay.proofs.Told.{before_poked, frees-told, put-told}

-- ---- the reports of a round

module _ (poked : ℤ → ℕ → Type 0) (before last : State) (adds : (cache : ℕ) → AddsTold poked (checked_of before cache) (checked_of last cache)) where
  abbrev since : ℕ → List Report
  since cache = drop (length (reports_of before cache)) (reports_of last cache)

  dropped : (xs ys : List Report) → drop (length xs) (xs ++ ys) ≡ ys
  dropped xs ys = ap (λ n. drop n (xs ++ ys)) (let e : length xs ≡ length xs + 0 = omega arith in e) ∙ drop-append-add xs ys 0

  since-told : (cache : ℕ) → All (ToldPoked poked) (since cache)
  since-told cache = by (checked_of before cache) refl (checked_of last cache) refl (adds cache)
    where
      by : (x : Option CheckedState) → checked_of before cache ≡ x → (y : Option CheckedState) → checked_of last cache ≡ y → AddsTold poked x y → All (ToldPoked poked) (since cache)
      by None is None now told =
          let none : since cache ≡ [] = ap (λ x. drop (length (reports_of before cache)) (option_map_or (λ (slabs : CheckedState). slabs.reports) x [])) now ∙ drop-none (length (reports_of before cache)) [] refl in
          subst (All (ToldPoked poked)) (sym none) (λ k d within. absurd (omega (arith, within)))
      by None is (Some new) now told = absurd told
      by (Some old) is None now told = absurd told
      by (Some old) is (Some new) now told =
          let same : since cache ≡ told.0 =
          ap (λ x. drop (length (option_map_or (λ (slabs : CheckedState). slabs.reports) x [])) (reports_of last cache)) is ∙ ap (λ x. drop (length old.reports) (option_map_or (λ (slabs : CheckedState). slabs.reports) x [])) now
          ∙ ap (drop (length old.reports)) told.1 ∙ dropped old.reports told.0 in
          subst (All (ToldPoked poked)) (sym same) told.2

  found-told : All (λ (found : Found). ToldPoked poked found.report) (found_in before last)
  found-told = all-flat (λ (found : Found). ToldPoked poked found.report) (found_of before last) cache_numbers (λ cache.
      All-map (λ (found : Found). ToldPoked poked found.report) (λ report. record { title = title_of last cache; report = report }) (since cache) (since-told cache))

-- ---- small things

abbrev no_held : Option Held → Option Held
no_held h = None

gone-none : (freed : List (Option Held)) (o : ℕ) → get_or (map no_held freed) o None ≡ None
gone-none [] o = refl
gone-none (h ∷ freed) zero = refl
gone-none (h ∷ freed) (suc o) = gone-none freed o

-- a new worker holds nothing
none-in : (m : Setup) (worker : ℕ) (ks : List Known) (o : ℕ) → All (IsRoom m) ks → held_in worker ks o ≡ None
none-in m worker [] o rooms = refl
none-in m worker (k ∷ ks) o rooms = by k.held (All-head (IsRoom m) k ks rooms).2 (none-in m worker ks o (All-tail (IsRoom m) k ks rooms))
  where
    by : (held : Bool) → held ≡ false → held_in worker ks o ≡ None → cond (held && eqb k.object o) (Some (record { frame = k.frame; index = k.index; cache = k.cache; worker = Some worker })) (held_in worker ks o) ≡ None
    by true is rest = absurd (false≢true (sym is))
    by false is rest = rest

none-among : (m : Setup) (ls : List Local) (o : ℕ) → All (IsNew m) ls → held_among ls o ≡ None
none-among m [] o new = refl
none-among m (l ∷ ls) o new = ap (λ x. option_or x (held_among ls o)) (none-in m l.worker l.known o (All-head (IsNew m) l ls new).known) ∙ none-among m ls o (All-tail (IsNew m) l ls new)

module _ (told : List Answered) (s : State) (trace : Trace) (round : Round) (result : RoundResult) (lists : State) (coherent : IsCoherent s) (down : IsLaidDown s) (does : MayDo s trace round) (ran : RunsRound s round result lists) (is_told : IsTold told s) where
  -- ---- the opening

  may : MayOpen s ran.beside
  may = record { coherent = coherent; laid_down = down; beside = ran.fits }

  abbrev first_workers : List Local
  first_workers = workers_of s.table round

  begin : MayBegin s ran.beside first_workers
  begin = may_begin s ran.beside trace round may does

  abbrev first : System
  first = system_of s ran.beside first_workers

  abbrev last : System
  last = system_after s ran.beside round ran.picks

  abbrev m : Setup
  m = setup_of s ran.beside

  abbrev opening : World
  opening = world_of (setup_of s ran.beside) first.value first.words

  abbrev w : World
  w = world_of (setup_of s ran.beside) last.value last.words

  is-open : RestsIn s ran.beside first × IsOpening (setup_of s ran.beside) first
  is-open = opened-rest s ran.beside first_workers may begin

  -- what a number names before the round is on the board
  board-is : (o : ℕ) → opening.board o ≡ option_map board_word (held_under s o)
  board-is o =
      sym (worded (opening.board o)) ∙ ap (option_map board_word)
      (sym (ap (option_or (option_map held_on (opening.board o))) (none-among (setup_of s ran.beside) first_workers o begin.new) ∙ or-none (option_map held_on (opening.board o))) ∙ sym (is-open.0.rests.named o))
    where
      worded : (x : Option BoardWord) → option_map board_word (option_map held_on x) ≡ x
      worded None = refl
      worded (Some b) = refl

      or-none : (x : Option Held) → option_or x None ≡ x
      or-none None = refl
      or-none (Some held) = refl

  -- ---- the end

  ends : core_law.IsRoundOnWords (setup_of s ran.beside) opening w (map (λ (l : Local). l.todo) first_workers) (map (λ (l : Local). l.done) last.locals)
  ends = rounds_end (setup_of s ran.beside) first ran.picks is-open.1 ran.finished

  quiet : IsQuiet (setup_of s ran.beside) opening last × Counted opening w last.locals
  quiet = finished_well (setup_of s ran.beside) opening last (run_both (setup_of s ran.beside) opening (begun (setup_of s ran.beside) first) ran.picks (opens (setup_of s ran.beside) first is-open.1)).0 ran.finished

  closed : IsCoherent lists × MayOpen (all_on_board lists) ran.left
  closed = rounds-keep s lists ran.beside ran.left first_workers ran.picks may begin ran.closes

  resting : Rests lists ran.left w last.locals
  resting = subst (λ m. Rests lists ran.left (world_of m last.value last.words) last.locals) ran.closes.stays ran.closes.rests.rests

  pool-is : (m : Setup) (value : ℕ → LockValue) (words : List ℕ) → pool_of (world_of m value words) ≡ pool_in (value 0)
  pool-is m value words = ap (λ (v : ℕ → LockValue). pool_in (v 0)) (core_value_of m value words)

  ended : Ended s ran.beside round opening w last.locals lists
  ended = record {
    board = board-is;
    law = ends;
    setup = core_setup_of (setup_of s ran.beside) last.value last.words;
    counted = quiet.1;
    distinct = (All-weaker (IsWorkerTold w.setup opening.board (public w (map empty_handed last.locals))) (λ (l : Local). AreDistinct l.known) (λ l t. t.distinct) last.locals
        (all_workers (IsWorkerTold w.setup opening.board (public w (map empty_handed last.locals))) last.locals quiet.0.coherent.accounted.told));
    names = resting.named;
    pool = pool-is (setup_of s ran.beside) first.value first.words;
    left = ap pool_in (resting.values 0 (omega arith));
  }

  -- ---- the law

  abbrev answers : List Answered
  answers = zip round.events result.replies

  abbrev all_told : List Answered
  all_told = told ++ answers

  inside : All (λ (event : Event). event.worker < round.workers) round.events
  inside = All-weaker (IsSoundEvent trace round.workers) (λ (event : Event). event.worker < round.workers) (λ event is. is.worker) round.events does.sound.events

  below : All (IsBelow round.workers) (zip round.events result.replies)
  below = all-below round.workers round.events result.replies inside

  lawful : IsRound s round result (all_on_board lists)
  lawful = rounds-lawful s trace round result lists coherent down does ran

  -- ---- the slabs of checked caches

  first-values : opening.value ≡ value_of s
  first-values = core_value_of (setup_of s ran.beside) first.value first.words

  last-values : (n : ℕ) → n < 33 → last.value n ≡ value_of lists n
  last-values n few = ap (λ (v : ℕ → LockValue). v n) (sym (core_value_of (setup_of s ran.beside) last.value last.words)) ∙ resting.values n few

  checks : (cache : ℕ) → is_some (checked_of lists cache) ≡ is_some (checked_of s cache)
  checks cache = ap (λ (m : Setup). m.checks cache) ran.closes.stays

  slabs-of : (t : State) (layout : Layout) (cache : ℕ) (slabs : CheckedState) → checked_of t cache ≡ Some slabs → slabs_in layout (value_of t (suc cache)) ≡ slabs
  slabs-of t layout cache slabs is = ap (λ x. slabs_in layout (node_value (is_some (cache_of t cache)) x (node_of t cache))) is

  next : (cache : ℕ) → node_lock cache ≡ suc cache
  next cache = omega arith

  first-slabs : (cache : ℕ) (old : CheckedState) → checked_of s cache ≡ Some old → slabs_at (setup_of s ran.beside) (value_of s) cache ≡ old
  first-slabs cache old is = ap (λ n. slabs_in ((setup_of s ran.beside).layout cache) (value_of s n)) (next cache) ∙ slabs-of s ((setup_of s ran.beside).layout cache) cache old is

  last-slabs : (cache : ℕ) (old new : CheckedState) → checked_of s cache ≡ Some old → checked_of lists cache ≡ Some new → slabs_at (setup_of s ran.beside) last.value cache ≡ new
  last-slabs cache old new is now =
      let few : cache < 32 = omega (arith, inside-of s.checked cache old is, coherent.shaped.checked.numbers) in
      let layout = (setup_of s ran.beside).layout cache in
      ap (slabs_in layout) (last-values (node_lock cache) (omega (arith, few))) ∙ ap (λ n. slabs_in layout (value_of lists n)) (next cache) ∙ slabs-of lists layout cache new now

  -- each byte that is off before the round was poked
  starts : (cache : ℕ) → (setup_of s ran.beside).checks cache ≡ true → Clean (before_poked told cache) (slabs_at (setup_of s ran.beside) first.value cache)
  starts cache checked = by (checked_of s cache) refl checked
    where
      by : (x : Option CheckedState) → checked_of s cache ≡ x → is_some x ≡ true → Clean (before_poked told cache) (slabs_at (setup_of s ran.beside) first.value cache)
      by None is some = absurd (false≢true some)
      by (Some old) is some = subst (Clean (WasPoked told)) (sym (first-slabs cache old is)) (is_told.clean cache old is)

  has : Has (before_poked told) (setup_of s ran.beside) opening last.value (replies_of last)
  has = round_ends (before_poked told) (setup_of s ran.beside) first ran.picks is-open.1 starts

  put-poked : (cache : ℕ) (at : ℤ) (byte : ℕ) → IsSome (checked_of s cache) → Put (before_poked told) (setup_of s ran.beside) opening (replies_of last) cache at byte → WasPoked all_told at byte
  put-poked cache at byte checked put = put-told told s ran.beside round result.replies opening w last.locals lists ended ran.replies inside below coherent ran.fits.step.1 is_told cache at byte checked put

  -- what is so of the slabs of a checked cache before and after
  record Kept (old new : CheckedState) : Type 0 where
    layout : new.layout ≡ old.layout
    clean : Clean (WasPoked all_told) new
    adds : AddsTold (WasPoked all_told) (Some old) (Some new)

  goes : (cache : ℕ) (old new : CheckedState) → checked_of s cache ≡ Some old → checked_of lists cache ≡ Some new → Kept old new
  goes cache old new is now =
      let checked : IsSome (checked_of s cache) = ap is_some is in
      let m = setup_of s ran.beside in
      let came : ℤ → ℕ → Type 0 = λ at byte. Put (before_poked told) m opening (replies_of last) cache at byte in
      let later : (at : ℤ) (byte : ℕ) → came at byte → WasPoked all_told at byte = λ at byte put. put-poked cache at byte checked put in
      let before : slabs_at m opening.value cache ≡ old = ap (λ (v : ℕ → LockValue). slabs_at m v cache) first-values ∙ first-slabs cache old is in
      let after : slabs_at m last.value cache ≡ new = last-slabs cache old new is now in
      let keeps : KeepsSlabs (WasPoked all_told) old new =
      keeps-later came (WasPoked all_told) old new later (subst (λ x. KeepsSlabs came x new) before (subst (λ x. KeepsSlabs came (slabs_at m opening.value cache) x) after (has.slabs cache checked))) in
      record {
        layout = keeps.layout;
        clean = clean-later came (WasPoked all_told) new later (subst (Clean came) after (has.bytes cache checked));
        adds = (keeps.found, keeps.added, All-weaker (IsReport (WasPoked all_told) new) (ToldPoked (WasPoked all_told)) (λ report told. told.bad.there) keeps.found keeps.told);
      }

  -- a checked cache was one before
  was-there : (cache : ℕ) (new : CheckedState) → checked_of lists cache ≡ Some new → (old : CheckedState) × (checked_of s cache ≡ Some old)
  was-there cache new now = by (checked_of s cache) refl
    where
      by : (x : Option CheckedState) → checked_of s cache ≡ x → (old : CheckedState) × (checked_of s cache ≡ Some old)
      by None is = absurd (false≢true (sym (ap is_some is) ∙ sym (checks cache) ∙ ap is_some now))
      by (Some old) is = (old, is)

  adds : (cache : ℕ) → AddsTold (WasPoked all_told) (checked_of s cache) (checked_of lists cache)
  adds cache = by (checked_of s cache) refl (checked_of lists cache) refl
    where
      by : (x : Option CheckedState) → checked_of s cache ≡ x → (y : Option CheckedState) → checked_of lists cache ≡ y → AddsTold (WasPoked all_told) x y
      by None is None now = tt
      by None is (Some new) now = absurd (false≢true (sym (ap is_some is) ∙ sym (checks cache) ∙ ap is_some now))
      by (Some old) is None now = absurd (false≢true (sym (ap is_some now) ∙ checks cache ∙ ap is_some is))
      by (Some old) is (Some new) now = (goes cache old new is now).adds

  -- ---- the board

  known : (object : ℕ) (held : Held) (slabs : CheckedState) → (held_under (all_on_board lists) object ≡ Some held) ⊎ (gone_under (all_on_board lists) object ≡ Some held) → checked_of (all_on_board lists) held.cache ≡ Some slabs
      → WasGiven all_told object (address_of held.frame held.index slabs.layout)
  known object held slabs (inr there) now = absurd (let never : None ≡ Some held = sym (gone-none lists.gone object) ∙ there in cc)
  known object held slabs (inl there) now =
      let was = was-there held.cache slabs now in
      let layout = (goes held.cache was.0 slabs was.1 now).layout in
      by (held_under s object) refl was.0 was.1 layout
    where
      by : (x : Option Held) → held_under s object ≡ x → (old : CheckedState) → checked_of s held.cache ≡ Some old → slabs.layout ≡ old.layout → WasGiven all_told object (address_of held.frame held.index slabs.layout)
      by (Some before) is old was layout = stayed (subst (λ x. IfSome x (λ h. (held_under (all_on_board lists) object ≡ Some h) ⊎ (held_under (all_on_board lists) object ≡ None))) is (lawful.board.stays object))
        where
          stayed : (held_under (all_on_board lists) object ≡ Some before) ⊎ (held_under (all_on_board lists) object ≡ None) → WasGiven all_told object (address_of held.frame held.index slabs.layout)
          stayed (inr none) = absurd (let never : None ≡ Some held = sym none ∙ there in cc)
          stayed (inl same) =
              let one : before ≡ held = (let e : Some before ≡ Some held = sym same ∙ there in injected e) in
              subst (λ (l : Layout). WasGiven all_told object (address_of held.frame held.index l)) (sym layout)
              (given-later told answers object (address_of held.frame held.index old.layout) (is_told.known object held old (inl (is ∙ ap (λ (h : Held). Some h) one)) was))
      by None is old was layout =
          let spot : Spot = record { cache = held.cache; address = address_of held.frame held.index slabs.layout } in
          let gift : WasGivenAt s answers object spot = subst (λ x. IfSome x (WasGivenAt s answers object)) (checked-spot (all_on_board lists) object held slabs lawful.coherent there now) (lawful.board.comes object is) in
          given-among answers all_told object spot.address (λ one among. Contains-append_right told answers one among) (gift-given s answers object spot gift.0.0 gift.0.1 gift.1 gift.2)

  -- ---- the round

  pub tells : TellsPoked told round result (all_on_board lists)
  tells = record {
    then = record {
      known = known;
      clean = λ cache slabs now. let was = was-there cache slabs now in (goes cache was.0 slabs was.1 now).clean;
    };
    damages = subst (All (λ (found : Found). IsPokedReport all_told found.report)) (sym ran.damages) (found-told (WasPoked all_told) s lists adds);
    frees_told = frees-told told s ran.beside round result.replies opening w last.locals lists ended ran.replies inside below coherent ran.fits.step.1 is_told lawful.causes has.told;
  }

-- ---- a round whose turns are any by which each worker is finished

pub steps-told : (told : List Answered) (Ending : Setup → System → List Pick → System → Type 0) → ((m : Setup) (first : System) (picks : List Pick) (last : System) → Ending m first picks last → (last ≡ run m first picks) × IsFinishedSystem last)
    → (s : State) (ids : List ℕ) (trace : Trace) (round : Round) (result : RoundResult) (after : State) (left : List ℕ) → IsCoherent s → IsLaidDown s → MayDo s trace round → IsTold told s
    → DoesRoundBySteps Ending s ids round result after left → TellsPoked told round result after
steps-told told Ending runs s ids trace round result after left coherent down may is_told done =
    let came = runs _ _ _ _ done.ends in
    subst (TellsPoked told round result) (sym done.after_is) (tells told s trace round result done.lists coherent down may (record {
      beside = done.beside;
      fits = done.stands.fits;
      picks = done.picks;
      finished = subst IsFinishedSystem came.0 came.1;
      left = done.left;
      closes = subst (λ end. Closes s done.beside end done.lists done.left) came.0 done.closes;
      replies = subst (λ end. AreReplies round.events (replies_of end) result.replies) came.0 done.replies;
      damages = done.damages;
      ledgers = done.ledgers;
    }) is_told)

-- in turns that a seed draws, by threads, and in the order of the text
pub seed-told : (told : List Answered) (s : State) (ids : List ℕ) (seed : ℕ) (trace : Trace) (round : Round) (result : RoundResult) (after : State) (left : List ℕ) → IsCoherent s → IsLaidDown s → MayDo s trace round → IsTold told s
    → DoesRoundBySeed s ids seed round result after left → TellsPoked told round result after
seed-told told s ids seed trace round = steps-told told (λ m first picks last. EndsRound m seed first picks last) (λ m first picks last ends. (ends.run, ends.finished)) s ids trace round

pub threads-told : (told : List Answered) (s : State) (ids : List ℕ) (trace : Trace) (round : Round) (result : RoundResult) (after : State) (left : List ℕ) → IsCoherent s → IsLaidDown s → MayDo s trace round → IsTold told s
    → DoesRoundByThreads s ids round result after left → TellsPoked told round result after
threads-told told s ids trace round = steps-told told Finishes (λ m first picks last ends. (ends.run, ends.finished)) s ids trace round

pub order-told : (told : List Answered) (s : State) (ids : List ℕ) (trace : Trace) (round : Round) (result : RoundResult) (after : State) (left : List ℕ) → IsCoherent s → IsLaidDown s → MayDo s trace round → IsTold told s
    → DoesRoundInOrder s ids round result after left → TellsPoked told round result after
order-told told s ids trace round = steps-told told (λ m first picks last. EndsInOrder m round.events first picks last) (λ m first picks last ends. (ends.run, ends.finished)) s ids trace round
