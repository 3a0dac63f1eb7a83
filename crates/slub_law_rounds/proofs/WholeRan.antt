-- A round of several workers that was run is lawful.
use Rattle.std.proofs.Common.{◌≡◌, ◌≢◌, ℕ, zero, suc, ◌+◌, ◌<◌, ◌&&◌, eqb, Bool, true, false, cond, inl, inr, List, [], ◌∷◌, ◌++◌, length, get_or, map, refl, sym, ap, subst, ◌∙◌, arith, All, Option, Some, None, is_some}
use Rattle.std.specs.Prelude.{count_by, slice_index}
use Rattle.std.specs.Option.{option_map, option_or}
use Rattle.std.specs.List.{Contains, zip}
use Rattle.std.proofs.lemmas.Bool.{cases_lt, false≢true}
use Rattle.std.proofs.lemmas.List.{length-map, length-append}
use Rattle.std.proofs.lemmas.List.Elements.{All-head, All-tail, All-weaker}
use Rattle.slub_trace.specs.declared.event.Event.{Event}
use Rattle.slub_trace.specs.declared.event.Round.{Round}
use Rattle.slub_trace.specs.declared.trace.Trace.{Trace}
use Rattle.slub_trace.specs.Sound.{IsSoundEvent}
use Rattle.slub_lists.specs.declared.lists.Held.{Held}
use Rattle.slub_lists.specs.State.{State}
use Rattle.slub_lists.specs.Coherent.{IsCoherent, all_on_board, held_under, laid_down}
use Rattle.slub_words.specs.declared.board.BoardWord.{BoardWord}
use Rattle.slub_page_pool.specs.FreeFrames.{FreeFrames}
use Rattle.slub_slabinfo_text.specs.declared.journal.RoundResult.{RoundResult}
use Rattle.slub_slabinfo_text.specs.Lawful.{lacks}
use Rattle.slub_core.specs.declared.local.Known.{Known}
use Rattle.slub_core.specs.Setup.{Setup}
use Rattle.slub_core.specs.Local.{Local}
use Rattle.slub_core.specs.World.{World, LockValue, pool_in, pool_of, world_of}
use Rattle.slub_core.specs.Accounted.{AreDistinct, IsTold, public}
use Rattle.slub_core.specs.Run.{System}
use Rattle.slub_core.specs.Opening.{IsNew, IsOpening, IsRoom, opened as begun}
use Rattle.slub_core.specs.Replies as core
use Rattle.slub_core.specs.Round.{outcome}
use Rattle.slub_core.specs.Round as core_law
use Rattle.slub_core.proofs.StepWords.{setup_of as core_setup_of, value_of as core_value_of}
use Rattle.slub_core.proofs.Turns.{run_both}
use Rattle.slub_core.proofs.Opens.{opens}
use Rattle.slub_core.proofs.RoundEnds.{rounds_end}
use Rattle.slub_schedule.specs.Finished.{IsQuiet, empty_handed}
use Rattle.slub_schedule.proofs.Finished.{Counted, all_workers, finished_well}
use Rattle.slub_law_opening.specs.Opening.{IsLaidDown, board_word, setup_of, value_of}
use Rattle.slub_law_opening.specs.Rests.{Rests, held_among, held_in, held_on}
use Rattle.slub_law_opening.specs.Table.{RestsIn, system_of}
use Rattle.slub_law_opening.specs.Laws.{MayBegin, MayOpen}
use Rattle.slub_law_opening.proofs.Systems.{opened-rest, rounds-keep}
use Rattle.slub_calls.specs.Calls.{events_by, rooms_for, workers_of}
use Rattle.slub_calls.specs.Laws.{MayDo}
use Rattle.slub_calls.proofs.Fitting.{may_begin}
use Rattle.slub_law_rounds.specs.Answered.{Answered}
use Rattle.slub_law_rounds.specs.Round.{CountsWant, HaveCauses, IsOfSlab, IsRound}
use Rattle.slub_law_rounds.specs.Ran.{RunsRound, system_after}
use Rattle.slub_calls.specs.Replies.{AreReplies}
use Rattle.slub_law_rounds.specs.Laws.{DrawnRoundsAreLawful, RoundsAreLawful}
use Rattle.slub_law_rounds.proofs.Split.{told, back, back-append}
use Rattle.slub_law_rounds.proofs.Meeting.{all-met, caused-first}
use Rattle.slub_law_opening.specs.Closing.{Closes}
use Rattle.slub_schedule.specs.Rounds.{IsFinishedSystem}
use Rattle.slub_law_rounds.proofs.BytesRan.{reads-own}
use Rattle.slub_law_rounds.proofs.CausesRan.{cause-told}
use Rattle.slub_law_rounds.proofs.Places.{round-from}
use Rattle.slub_law_rounds.proofs.DamagesRan.{found-aside, found-differ}
use Rattle.slub_law_rounds.specs.Contents as holds
use Rattle.slub_law_rounds.proofs.Turns.{rounds_end as contents_end}
use Rattle.slub_slabinfo_text.specs.declared.journal.Found.{Found}
use Rattle.slub_lists.specs.Alloc.{checked_of}
use Rattle.slub_core.specs.Law.{replies_of}
use Rattle.slub_law_rounds.proofs.Sums.{IsBelow, all-below, none-beyond}
use Rattle.slub_law_rounds.proofs.Ended.{Ended}
use Rattle.slub_law_rounds.proofs.Counts.{caused-by, dry-is, freed-is, gone, kept-by}
use Rattle.slub_law_rounds.proofs.Board.{board-after}

-- ---- small things

abbrev no_held : Option Held → Option Held
no_held h = None

gone-none : (freed : List (Option Held)) (o : ℕ) → get_or (map no_held freed) o None ≡ None
gone-none [] o = refl
gone-none (h ∷ freed) zero = refl
gone-none (h ∷ freed) (suc o) = gone-none freed o

events-below : (trace : Trace) (workers : ℕ) (events : List Event) → All (IsSoundEvent trace workers) events → All (λ (event : Event). event.worker < workers) events
events-below trace workers events sound = All-weaker (IsSoundEvent trace workers) (λ (event : Event). event.worker < workers) (λ event is. is.worker) events sound

-- a new worker holds nothing
none-in : (m : Setup) (worker : ℕ) (ks : List Known) (o : ℕ) → All (IsRoom m) ks → held_in worker ks o ≡ None
none-in m worker [] o rooms = refl
none-in m worker (k ∷ ks) o rooms = by k.held (All-head (IsRoom m) k ks rooms).2 (none-in m worker ks o (All-tail (IsRoom m) k ks rooms))
  where
    by : (held : Bool) → held ≡ false → held_in worker ks o ≡ None → cond (held && eqb k.object o) (Some (record { frame = k.frame; index = k.index; cache = k.cache; worker = Some worker })) (held_in worker ks o) ≡ None
    by true is rest = absurd (false≢true (sym is))
    by false is rest = rest

none-among : (m : Setup) (ls : List Local) (o : ℕ) → All (IsNew m) ls → held_among ls o ≡ None
none-among m [] o new = refl
none-among m (l ∷ ls) o new = ap (λ x. option_or x (held_among ls o)) (none-in m l.worker l.known o (All-head (IsNew m) l ls new).known) ∙ none-among m ls o (All-tail (IsNew m) l ls new)

module _ (s : State) (trace : Trace) (round : Round) (result : RoundResult) (lists : State) (coherent : IsCoherent s) (down : IsLaidDown s) (does : MayDo s trace round) (ran : RunsRound s round result lists) where
  -- ---- the opening

  may : MayOpen s ran.beside
  may = record { coherent = coherent; laid_down = down; beside = ran.fits }

  abbrev first_workers : List Local
  first_workers = workers_of s.table round

  begin : MayBegin s ran.beside first_workers
  begin = may_begin s ran.beside trace round may does

  abbrev first : System
  first = system_of s ran.beside first_workers

  abbrev last : System
  last = system_after s ran.beside round ran.picks

  abbrev m : Setup
  m = setup_of s ran.beside

  abbrev opening : World
  opening = world_of (setup_of s ran.beside) first.value first.words

  abbrev w : World
  w = world_of (setup_of s ran.beside) last.value last.words

  is-open : RestsIn s ran.beside first × IsOpening (setup_of s ran.beside) first
  is-open = opened-rest s ran.beside first_workers may begin

  -- what a number names before the round is on the board
  board-is : (o : ℕ) → opening.board o ≡ option_map board_word (held_under s o)
  board-is o =
      sym (worded (opening.board o)) ∙ ap (option_map board_word)
      (sym (ap (option_or (option_map held_on (opening.board o))) (none-among (setup_of s ran.beside) first_workers o begin.new) ∙ or-none (option_map held_on (opening.board o))) ∙ sym (is-open.0.rests.named o))
    where
      worded : (x : Option BoardWord) → option_map board_word (option_map held_on x) ≡ x
      worded None = refl
      worded (Some b) = refl

      or-none : (x : Option Held) → option_or x None ≡ x
      or-none None = refl
      or-none (Some held) = refl

  -- ---- the end

  ends : core_law.IsRoundOnWords (setup_of s ran.beside) opening w (map (λ (l : Local). l.todo) first_workers) (map (λ (l : Local). l.done) last.locals)
  ends = rounds_end (setup_of s ran.beside) first ran.picks is-open.1 ran.finished

  quiet : IsQuiet (setup_of s ran.beside) opening last × Counted opening w last.locals
  quiet = finished_well (setup_of s ran.beside) opening last (run_both (setup_of s ran.beside) opening (begun (setup_of s ran.beside) first) ran.picks (opens (setup_of s ran.beside) first is-open.1)).0 ran.finished

  closed : IsCoherent lists × MayOpen (all_on_board lists) ran.left
  closed = rounds-keep s lists ran.beside ran.left first_workers ran.picks may begin ran.closes

  resting : Rests lists ran.left w last.locals
  resting = subst (λ m. Rests lists ran.left (world_of m last.value last.words) last.locals) ran.closes.stays ran.closes.rests.rests

  pool-is : (m : Setup) (value : ℕ → LockValue) (words : List ℕ) → pool_of (world_of m value words) ≡ pool_in (value 0)
  pool-is m value words = ap (λ (v : ℕ → LockValue). pool_in (v 0)) (core_value_of m value words)

  ended : Ended s ran.beside round opening w last.locals lists
  ended = record {
    board = board-is;
    law = ends;
    setup = core_setup_of (setup_of s ran.beside) last.value last.words;
    counted = quiet.1;
    distinct = (All-weaker (IsTold w.setup opening.board (public w (map empty_handed last.locals))) (λ (l : Local). AreDistinct l.known) (λ l t. t.distinct) last.locals
        (all_workers (IsTold w.setup opening.board (public w (map empty_handed last.locals))) last.locals quiet.0.coherent.accounted.told));
    names = resting.named;
    pool = pool-is (setup_of s ran.beside) first.value first.words;
    left = ap pool_in (resting.values 0 (omega arith));
  }

  -- ---- the law

  abbrev answers : List Answered
  answers = zip round.events result.replies

  inside : All (λ (event : Event). event.worker < round.workers) round.events
  inside = events-below trace round.workers round.events does.sound.events

  below : All (IsBelow round.workers) (zip round.events result.replies)
  below = all-below round.workers round.events result.replies inside

  contents : holds.KeepsContents (setup_of s ran.beside) opening last.value (replies_of last)
  contents = contents_end (setup_of s ran.beside) first ran.picks is-open.1

  has-causes : HaveCauses s (zip round.events result.replies)
  has-causes worker own one is = elim (cases_lt worker round.workers) [
    | inr past ↦ absurd (let none : own ++ one ∷ is.later ≡ [] = sym is.split ∙ none-beyond round.workers worker answers below past in
        let long : length (own ++ one ∷ is.later) ≡ length own + suc (length is.later) = length-append own (one ∷ is.later) in let nil : length (own ++ one ∷ is.later) ≡ 0 = ap length none in omega (arith, long, nil))
    | inl here ↦ (
        let rooms = rooms_for (events_by worker round.events) in
        let p = outcome w (map (λ (l : Local). l.done) last.locals) in
        let ds = back s.table rooms own [] in
        let all : core.Caused (setup_of s ran.beside) opening.board p (back s.table rooms is.later (told s.table rooms one ∷ ds)) =
        subst (core.Caused (setup_of s ran.beside) opening.board p) (ap (λ xs. back s.table rooms xs []) is.split ∙ back-append s.table rooms own (one ∷ is.later) [])
        (caused-by s ran.beside round result.replies opening w last.locals lists ended ran.replies inside below coherent worker) in
        let mine = caused-first s.table rooms (setup_of s ran.beside) opening.board p is.later (told s.table rooms one ∷ ds) all in
        cause-told s ran.beside rooms opening.board p board-is coherent ran.fits.step.1 own (all-met s.table rooms (setup_of s ran.beside) opening.board p own [] mine.1) mine.1 answers one.0.cpu
        (λ o. freed-is s ran.beside round result.replies opening w last.locals lists ended ran.replies inside below coherent o)
        (λ o off. gone s ran.beside round result.replies opening w last.locals lists ended ran.replies inside below coherent o off)
        (λ o holds. kept-by s ran.beside round result.replies opening w last.locals lists ended ran.replies inside below coherent worker own (one ∷ is.later) o here is.split holds)
        one.0.act one.1 (λ x word value asks told checked. reads-own s ran.beside round result.replies opening w last.locals lists ended ran.replies inside below coherent ran.fits.step.1 contents.told worker own one x word value is asks told checked) mine.0)
  ]

  wants : CountsWant s (zip round.events result.replies) (all_on_board lists)
  wants order few room =
      ap (λ (pool : FreeFrames). slice_index pool.dry order) (sym ended.left) ∙ ended.law.dry order
      ∙ ap (λ n. slice_index (pool_of opening).dry order + n) (dry-is s ran.beside round result.replies opening w last.locals lists ended ran.replies inside below coherent order)
      ∙ ap (λ (pool : FreeFrames). slice_index pool.dry order + count_by (lacks s order) answers) ended.pool

  -- ---- checked caches

  last-values : (n : ℕ) → n < 33 → last.value n ≡ value_of lists n
  last-values n few = ap (λ (v : ℕ → LockValue). v n) (sym (core_value_of (setup_of s ran.beside) last.value last.words)) ∙ resting.values n few

  checks : (cache : ℕ) → is_some (checked_of lists cache) ≡ is_some (checked_of s cache)
  checks cache = ap (λ (m : Setup). m.checks cache) ran.closes.stays

  pub lawful : IsRound s round result (all_on_board lists)
  lawful = record {
    replies = ran.replies.each;
    causes = has-causes;
    coherent = closed.1.coherent;
    rest = record { laid_down = closed.1.laid_down; forgotten = λ o. gone-none lists.gone o };
    frames = ap (λ (m : Setup). m.frames) ran.closes.stays;
    cpus = ap (λ (m : Setup). m.cpus) ran.closes.stays;
    objects = length-map lists.board (option_map laid_down) ∙ ap (λ (m : Setup). m.objects) ran.closes.stays;
    table = ran.closes.table;
    board = board-after s ran.beside round result.replies opening w last.locals lists ended ran.replies inside below coherent ran.fits.step.1 ran.closes.table down (round-from (setup_of s ran.beside) first ran.picks is-open.1);
    ledgers = ran.ledgers;
    dry = wants;
    damages = subst (All (λ (found : Found). found.report.damage.found ≢ found.report.damage.wanted)) (sym ran.damages)
        (found-differ s lists ran.beside opening last.value (replies_of last) (core_value_of (setup_of s ran.beside) first.value first.words) last-values checks coherent.shaped.checked.numbers closed.0 contents);
    aside = λ cache frame more. subst (λ damages. (found : Found) × Contains damages found × IsOfSlab lists cache frame found.report) (sym ran.damages)
        (found-aside s lists ran.beside opening last.value (replies_of last) (core_value_of (setup_of s ran.beside) first.value first.words) last-values checks coherent.shaped.checked.numbers closed.0 contents cache frame more);
  }

pub rounds-lawful : RoundsAreLawful
rounds-lawful s trace round result lists coherent down does ran = lawful s trace round result lists coherent down does ran

pub drawn-lawful : DrawnRoundsAreLawful
drawn-lawful s b seed trace round result picks end lists after left coherent down fits does ends closes replies damages ledgers is = subst (IsRound s round result) (sym is) (rounds-lawful s trace round result lists coherent down does (record {
  beside = b;
  fits = fits;
  picks = picks;
  finished = subst IsFinishedSystem ends.run ends.finished;
  left = left;
  closes = subst (λ end. Closes s b end lists left) ends.run closes;
  replies = subst (λ end. AreReplies round.events (replies_of end) result.replies) ends.run replies;
  damages = damages;
  ledgers = ledgers;
}))
