-- A round in the order of the text is one on plain lists.
use Rattle.std.proofs.Common.{◌≡◌, ℕ, ◌+◌, ◌-◌, ◌*◌, ◌<◌, ◌≤◌, List, length, get_or, All, Some, None, true, false, refl, sym, ap, ◌∙◌, subst, arith, inl, inr}
use Rattle.std.specs.List.{range_with_len}
use Rattle.std.specs.Option.{option_map_or}
use Rattle.std.proofs.lemmas.Bool.{cases_lt, ltb-true}
use Rattle.std.proofs.lemmas.List.{length-map}
use Rattle.std.proofs.lemmas.List.Elements.{All-get_or}
use Rattle.std.proofs.lemmas.List.FromFn.{length-range_with_len}
use Rattle.std.proofs.Math.ListN.{get_or-map}
use Rattle.slub_trace.specs.declared.event.Event.{Event}
use Rattle.slub_trace.specs.declared.event.Round.{Round}
use Rattle.slub_trace.specs.declared.trace.Trace.{Trace}
use Rattle.slub_trace.specs.declared.reply.Reply.{Reply}
use Rattle.slub_trace.specs.Kinds.{is_no_memory}
use Rattle.slub_lists.specs.State.{State}
use Rattle.slub_cache_create.specs.Table.{Table, cache_of as live_cache}
use Rattle.slub_lists.specs.declared.lists.Held.{Held}
use Rattle.slub_lists.specs.Alloc.{checked_of}
use Rattle.slub_lists.specs.Places.{layout_at}
use Rattle.slub_object_layout.specs.Layout.{no_layout}
use Rattle.slub_lists.specs.Words.{is_word, word_at}
use Rattle.slub_lists.specs.Coherent.{IsCoherent, all_on_board, held_under}
use Rattle.slub_core.specs.declared.call.Call.{Call}
use Rattle.slub_core.specs.Setup.{IsSetup, Setup, cpu_number}
use Rattle.slub_core.specs.Local.{Local}
use Rattle.slub_core.specs.Law.{IsCoherentSystem, replies_of}
use Rattle.slub_core.specs.Run.{System, Pick, IsFinished, idle, run}
use Rattle.slub_core.specs.Steps.{rested}
use Rattle.slub_core.specs.World.{LockValue, world_of, world_from}
use Rattle.slub_core.proofs.CallsStay.{rested_at-script}
use Rattle.slub_core.proofs.Turns.{run_both}
use Rattle.slub_law_opening.specs.Opening.{Beside, IsLaidDown, setup_of, tid_of}
use Rattle.slub_law_opening.specs.Laws.{MayOpen}
use Rattle.slub_law_opening.specs.Rests.{IsBetween}
use Rattle.slub_law_opening.specs.Table.{RestsIn}
use Rattle.slub_law_opening.proofs.Telling.{words-tell}
use Rattle.slub_law_opening.proofs.Turns.{get_or-beyond}
use Rattle.slub_calls.specs.Calls.{worker_of, workers_of}
use Rattle.slub_calls.specs.Laws.{MayDo}
use Rattle.slub_calls.proofs.Fitting.{may_begin}
use Rattle.slub_slabinfo_text.specs.Lawful.{RunsEvents, found_in}
use Rattle.slub_slabinfo_text.specs.declared.journal.RoundResult.{RoundResult}
use Rattle.slub_trace.specs.Ranges.{step_of}
use Rattle.slub_open_close.specs.Ids.{id_at}
use Rattle.slub_open_close.proofs.Steps.{step-is}
use Rattle.slub_law_alone.specs.Alone.{HasWord, IsAtRest}
use Rattle.slub_law_alone.proofs.Begins.{begins_at_rest}
use Rattle.slub_law_alone.specs.SerialLaws.{RunsAsLists, before, begun}
use Rattle.slub_law_alone.specs.OnTheWay.{SpendsAnId}
use Rattle.slub_law_alone.specs.Serial.{IsSameWritten, RunsInText, call_of}
use Rattle.slub_calls.specs.Replies.{told_to}
use Rattle.slub_law_alone.proofs.SerialRounds.{rounds_or_spent}
use Rattle.slub_rounds.specs.Doing.{AwaitsEvents}
use Rattle.slub_rounds.specs.InOrder.{AreInOrder}
use Rattle.slub_rounds.specs.Rounds.{DoesRoundInOrder}
use Rattle.slub_rounds.proofs.Doing.{events-each}
use Rattle.slub_rounds.proofs.One.{same-checked, same-found, same-ids, same-replies}
use Rattle.slub_rounds.proofs.Telling.{in_order-length, inside-round}
use Rattle.slub_law_replay.specs.InText.{IsRoundOnLists, RoundsInOrderAreThoseOfLists, SpendsNone}
use Rattle.slub_law_replay.proofs.InOrder.{ComesInOrder, Made, all-made, comes-in-order, none-made}
use Rattle.slub_law_replay.proofs.NeverFall.{never-falls}
use Rattle.slub_law_replay.proofs.Refused.{AllHad, RefusesNone, all-had, none-refused}
use Rattle.slub_law_replay.proofs.SameEnd.{goes_by, same_end}
use Rattle.slub_law_replay.proofs.Whole.{same-lists}
use Rattle.slub_calls.specs.Events.{RunsWithIds}

-- ---- the begin

module _ (s : State) (b : Beside) (trace : Trace) (round : Round) (may : MayOpen s b) (may_do : MayDo s trace round) where
  abbrev m : Setup
  m = setup_of s b

  abbrev first : System
  first = begun s b round

  rest-begun : IsAtRest (before s b round) s b first
  rest-begun = begins_at_rest s b (workers_of s.table round) may (may_begin s b trace round may may_do)

  many : length first.locals ≡ round.workers
  many = length-map (workers_of s.table round) (rested m) ∙ length-map (range_with_len 0 round.workers) (worker_of s.table round) ∙ length-range_with_len 0 round.workers

  awaits : AwaitsEvents round.events first.locals
  awaits = record {
    between = λ v. elim (cases_lt v (length first.locals)) [
      | inl below ↦ (All-get_or (IsBetween (world_of m first.value first.words).setup) first.locals v idle below rest-begun.rests.rests.workers).between
      | inr past ↦ ap (λ (l : Local). l.spot) (get_or-beyond first.locals v idle past)
    ];
    calls = λ v.
        let ls = workers_of s.table round in
        let own : get_or first.locals v idle ≡ rested m (get_or ls v idle) = get_or-map (rested m) ls v idle in
        let old : Local = get_or ls v idle in
        let new : Local = rested m old in
        ap (λ (l : Local). length l.done + length l.todo) own
        ∙ sym (in_order-length new.done new.todo) ∙ ap (λ (cs : List Call). length cs) (rested_at-script m old old.spot) ∙ in_order-length old.done old.todo
        ∙ events-each s.table round (inside-round trace s round may_do) v;
  }

  -- what comes of the events by turns in the order of the text does so by such picks
  pub turns-in_order : (last : System) → RunsInText m (call_of s.table round) round.events first last → (picks : List Pick) × AreInOrder m round.events first picks × (last ≡ run m first picks)
  turns-in_order last turns =
      let made = all-made m (before s b round) round.events (call_of s.table round) first rest-begun.coherent awaits round.workers many round.events 0 first last refl (inside-round trace s round may_do) turns
      (none-made m (before s b round) round.events (call_of s.table round) first rest-begun.coherent awaits round.workers many) in
      (made.1.picks, made.1.in_order, made.1.run_is)

-- ---- the end

-- the setup is that of the opening
pub setup-stays : (s t : State) (b d : Beside) (value : ℕ → LockValue) (words : List ℕ) (last : System) → IsCoherentSystem (setup_of t d) (world_of (setup_of s b) value words) last → setup_of t d ≡ setup_of s b
unfolding world_of world_from
setup-stays s t b d value words last is = is.coherent.accounted.setup

-- what is found is no word, and so is what a machine has in common with one that is alike
pub same-words : (past : List Event) (s after given : State) → IsSameWritten past after given → found_in s given ≡ found_in s after
same-words past s after given same = ap (found_in s) same.lists

-- lists in which one machine rests have the same words of an object of an unchecked cache
words-agree : (s t : State) (b d : Beside) (one other : System) → one ≡ other → setup_of s b ≡ setup_of t d → s.table ≡ t.table → ((cache : ℕ) → checked_of s cache ≡ checked_of t cache) → RestsIn s b one → RestsIn t d other
    → (object word : ℕ) (held : Held) → held_under s object ≡ Some held → held_under t object ≡ Some held → HasWord t s held word
words-agree s t b d one other same setup table checked rests also object word held here there none inside =
    let layout : layout_at s held.cache ≡ layout_at t held.cache = ap (λ (x : Table). option_map_or (λ live. live.layout) (live_cache x held.cache) no_layout) table in
    let w = world_of (setup_of s b) one.value one.words in
    let p = word_at (layout_at t held.cache) held word in
    let first : w.memory p ≡ get_or s.memory p 0 = subst (λ y. w.memory (word_at y held word) ≡ get_or s.memory (word_at y held word) 0) layout
    (rests.rests.contents object word held here (checked held.cache ∙ none) (ap (λ y. is_word y word) layout ∙ inside)) in
    sym first ∙ (λ i. (world_of (setup i) (same i).value (same i).words).memory p) ∙ also.rests.contents object word held there none inside

-- a word of an object of the lists s is the same in t and u
abbrev HasWordOf : State → State → State → Held → ℕ → Type 0
HasWordOf s t u held word = let p = word_at (layout_at s held.cache) held word in checked_of s held.cache ≡ None → is_word (layout_at s held.cache) word ≡ true → get_or u.memory p 0 ≡ get_or t.memory p 0

carried : (s t u : State) (held : Held) (word : ℕ) → t ≡ record s { memory = t.memory } → HasWord t u held word → HasWordOf s t u held word
carried s t u held word same has = subst (λ (x : State). HasWordOf x t u held word) same has

-- ---- the round

module _ (s : State) (ids : List ℕ) (trace : Trace) (round : Round) (result : RoundResult) (after : State) (ids_after : List ℕ) (coherent : IsCoherent s) (laid : IsLaidDown s) (may_do : MayDo s trace round) (does : DoesRoundInOrder s ids round result after ids_after)
    (kept : All (λ reply. is_no_memory reply ≡ false) result.replies) where
  abbrev b : Beside
  b = does.beside

  abbrev events : List Event
  events = round.events

  may : MayOpen s b
  may = record { coherent = coherent; laid_down = laid; beside = does.stands.fits }

  start : IsAtRest (before s b round) s b (begun s b round)
  start = rest-begun s b trace round may may_do

  waits : AwaitsEvents events (begun s b round).locals
  waits = awaits s b trace round may may_do

  each : length (begun s b round).locals ≡ round.workers
  each = many s b trace round may may_do

  nothing-made : Made (setup_of s b) (before s b round) events (call_of s.table round) (begun s b round) start.coherent waits round.workers each 0 (begun s b round)
  nothing-made = none-made (setup_of s b) (before s b round) events (call_of s.table round) (begun s b round) start.coherent waits round.workers each

  -- its turns, were memory refused in none
  none : RefusesNone (setup_of s b) events (begun s b round) (run (setup_of s b) (begun s b round) does.picks)
  none = none-refused (setup_of s b) events (begun s b round) does.picks does.ends.in_order (subst AllHad does.ends.run (all-had events result.replies does.last does.replies kept))

  ended : does.last ≡ run (setup_of s b) (begun s b round) none.picks
  ended = does.ends.run ∙ none.run_is

  finished : All IsFinished (run (setup_of s b) (begun s b round) none.picks).locals
  finished = subst (λ (t : System). All IsFinished t.locals) ended does.ends.finished

  -- the id of a CPU word
  abbrev id_in : System → ℕ → ℕ
  id_in system n = ((world_of (setup_of s b) system.value system.words).cpu n).tid

  -- after the round it stands beside the lists
  id-after : (n : ℕ) → n < 512 → id_in does.last n ≡ id_at ids_after n
  id-after n small =
      subst (λ m. ((world_of m does.last.value does.last.words).cpu n).tid ≡ tid_of does.left n) does.closes.stays (does.closes.rests.rests.cpu n small).tid
      ∙ ap (λ xs. get_or xs n 0) (sym does.ids_are)

  -- on the way it is no more than that
  id-before : (here : System) (n : ℕ) → n < 512 → ComesInOrder (setup_of s b) (before s b round) events (call_of s.table round) (begun s b round) start.coherent waits round.workers each here → id_in here n ≤ id_at ids_after n
  id-before here n small on =
      let goes = goes_by (setup_of s b) events (begun s b round) none.picks on.picks none.in_order on.in_order none.kept on.kept finished in
      let there : IsCoherentSystem (setup_of s b) (before s b round) here = subst (IsCoherentSystem (setup_of s b) (before s b round)) (sym on.run_is) (run_both (setup_of s b) (before s b round) (begun s b round) on.picks start.coherent).0 in
      let last : does.last ≡ run (setup_of s b) here goes.0 = ended ∙ goes.1 ∙ ap (λ (t : System). run (setup_of s b) t goes.0) (sym on.run_is) in
      subst (λ id. id_in here n ≤ id) (id-after n small) (subst (λ (t : System). id_in here n ≤ id_in t n) (sym last) (never-falls (setup_of s b) (before s b round) here goes.0 there n))

  -- so one that is spent on the way is spent after the round
  spent-after : SpendsAnId s b round → SpendsNone s ids_after → ⊥
  spent-after z spends_none =
      let n = cpu_number z.cache z.cpu in
      let setup : IsSetup (setup_of s b) = subst IsSetup start.rests.rests.setup start.coherent.coherent.fresh.setup in
      let small : n < 512 = omega (arith, setup.live z.cache z.lives, z.cpu_there, coherent.shaped.cpus.1) in
      let on = comes-in-order (setup_of s b) (before s b round) events (call_of s.table round) (begun s b round) start.coherent waits round.workers each events 0 (begun s b round) z.here refl (inside-round trace s round may_do) z.comes nothing-made in
      let more = id-before z.here n small on in
      let step : b.step ≡ step_of s.cpus = step-is s.cpus b.step does.stands.step coherent.shaped.cpus.0 coherent.shaped.cpus.1 in
      let room = spends_none z.cache z.cpu z.cpu_there z.lives z.unchecked in
      let spent = ltb-true (4294967295 - 2 * b.step) (id_in z.here n) z.spent in
      omega (arith, more, step, room, spent)

  by-lists : RunsAsLists s b round → IsRoundOnLists s b round result after ids_after
  by-lists r =
      let made = all-made (setup_of s b) (before s b round) events (call_of s.table round) (begun s b round) start.coherent waits round.workers each events 0 (begun s b round) r.last refl (inside-round trace s round may_do) r.turns nothing-made in
      let mine = made.1 in
      let same : does.last ≡ r.last = ended
      ∙ same_end (setup_of s b) events (begun s b round) none.picks mine.picks none.in_order mine.in_order none.kept mine.kept finished (subst (λ (t : System). All IsFinished t.locals) mine.run_is r.finished)
      ∙ sym mine.run_is in
      let stays = setup-stays s r.given b r.beside _ _ r.last r.rest.coherent in
      let alike = words-tell does.lists r.given does.left r.beside does.last (does.closes.stays ∙ sym stays) does.closes.rests (subst (RestsIn r.given r.beside) (sym same) r.rest.rests) in
      let checked = same-checked s does.lists r.given (does.closes.table ∙ sym r.table) alike does.closes.lengths.checked r.rest.lists.shaped.checked.numbers in
      let agrees : (object word : ℕ) (held : Held) → held_under r.after object ≡ Some held → HasWordOf r.after r.given after held word = λ object word held there unchecked inside.
      let found : held_under r.given object ≡ Some held = ap (λ (x : State). held_under x object) r.words.lists ∙ there in
      ap (λ (x : State). get_or x.memory (word_at (layout_at r.after held.cache) held word) 0) does.after_is
      ∙ carried r.after r.given does.lists held word r.words.lists (words-agree does.lists r.given does.left r.beside does.last r.last same (does.closes.stays ∙ sym stays) (does.closes.table ∙ sym r.table) checked does.closes.rests r.rest.rests object word held (alike.board object ∙ found) found) unchecked inside in
      let replies : result.replies ≡ r.replies = same-replies events result.replies r.replies does.replies.each r.told.each
      (λ worker. does.replies.own worker ∙ ap (λ (x : System). told_to worker (replies_of x)) same ∙ sym (r.told.own worker)) in
      record {
        lists = all_on_board r.after;
        does = record {
          last = r.after;
          runs = subst (λ (rs : List Reply). RunsEvents s events rs r.after) (sym replies) r.runs;
          after_is = refl;
          damages = does.damages ∙ same-found s does.lists r.given (does.closes.table ∙ sym r.table) alike does.closes.lengths.checked r.rest.lists.shaped.checked.numbers ∙ same-words _ s r.after r.given r.words;
          ledgers = does.ledgers;
        };
        left = subst (λ (x : State). x ≡ record (all_on_board r.after) { memory = x.memory }) (sym does.after_is)
            (same-lists does.lists r.given does.left r.beside (does.closes.stays ∙ sym stays) (does.closes.table ∙ sym r.table) alike does.closes.lengths r.rest.lists.shaped does.closes.live r.rest.lists.accounted
            ∙ ap (λ (u : State). record (all_on_board u) { memory = does.lists.memory }) r.words.lists);
        old = λ object word held there none unchecked inside. agrees object word held there unchecked inside ∙ r.words.old object word held there none unchecked inside;
        words = λ worker object at held there its written unchecked inside. agrees object at held there unchecked inside ∙ r.words.words worker object at held there its written unchecked inside;
        beside = r.beside;
        ids = subst (λ (rs : List Reply). RunsWithIds s b events rs r.after r.beside) (sym replies) r.ids;
        ids_are = does.ids_are ∙ same-ids does.lists r.given does.left r.beside does.last r.last same (does.closes.stays ∙ sym stays) does.closes.rests r.rest.rests does.closes.tids r.rest.beside.tids;
      }

pub in_order : RoundsInOrderAreThoseOfLists
in_order s ids trace round result after ids_after coherent rest may_do does kept spends_none =
    elim (rounds_or_spent s does.beside trace round (may s ids trace round result after ids_after coherent rest.laid_down may_do does kept) may_do rest.forgotten) [
      | inl r ↦ by-lists s ids trace round result after ids_after coherent rest.laid_down may_do does kept r
      | inr z ↦ absurd (spent-after s ids trace round result after ids_after coherent rest.laid_down may_do does kept z spends_none)
    ]
