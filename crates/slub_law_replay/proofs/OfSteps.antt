-- A round of any way is a run of atomic steps.
use Rattle.std.proofs.Common.{◌≡◌, ℕ, zero, suc, ◌+◌, ◌*◌, ◌%◌, ◌^◌, ◌<◌, ◌≤◌, nat_lt, List, [], ◌∷◌, length, map, reverse, get_or, replicate, All, Option, Some, None, MatchOption, IfSome, true, refl, sym, ap, ◌∙◌, subst, arith, inl, inr, mul-le-mul_right}
use Rattle.std.specs.List.{range_with_len}
use native.Mathlib.Nat.{zero-mod}
use Rattle.std.proofs.lemmas.Bool.{cases_lt, cond-false, le-ltb}
use Rattle.std.proofs.lemmas.List.{get_or_past, length-replicate}
use Rattle.std.proofs.lemmas.List.Elements.{All-cons, All-nil}
use Rattle.std.proofs.lemmas.List.FromFn.{get_or-map-range_with_len, length-map-range_with_len}
use Rattle.slub_red_zone.specs.State.{CheckedState}
use Rattle.slub_trace.specs.declared.event.Event.{Event}
use Rattle.slub_trace.specs.declared.event.Round.{Round}
use Rattle.slub_trace.specs.declared.reply.Reply.{Reply}
use Rattle.slub_trace.specs.declared.trace.Trace.{Trace}
use Rattle.slub_trace.specs.Ranges.{step_of}
use Rattle.slub_cache_create.specs.declared.caches.Cache.{Cache}
use Rattle.slub_lists.specs.declared.lists.Held.{Held}
use Rattle.slub_lists.specs.State.{State}
use Rattle.slub_lists.specs.Alloc.{cache_of, checked_of}
use Rattle.slub_lists.specs.Places.{layout_at}
use Rattle.slub_lists.specs.Words.{is_word, word_at}
use Rattle.slub_lists.specs.Coherent.{IsCacheOf, IsCheckedOf, IsCoherent, all_on_board, held_under}
use Rattle.slub_core.specs.Setup.{Setup}
use Rattle.slub_core.specs.Law.{replies_of}
use Rattle.slub_core.specs.Run.{System, Pick, run, turn}
use Rattle.slub_core.specs.World.{LockValue, World, word_in, world_from, world_of}
use Rattle.slub_core.specs.Opening.{IsOpening}
use Rattle.slub_core.proofs.Opens.{rounds_keep}
use Rattle.slub_schedule.specs.Rounds.{EndsRound}
use Rattle.slub_schedule.specs.Schedule.{AreDrawn, IsCall}
use Rattle.slub_law_opening.specs.Closing.{Closes, HasLengths}
use Rattle.slub_law_opening.specs.Laws.{MayOpen}
use Rattle.slub_law_opening.specs.Opening.{Beside, setup_of}
use Rattle.slub_law_opening.specs.Table.{RestsIn}
use Rattle.slub_calls.specs.Changes.{beside_after}
use Rattle.slub_calls.specs.Events.{RunsWithIds}
use Rattle.slub_calls.specs.Laws.{MayDo}
use Rattle.slub_slabinfo_text.specs.Lawful.{DoesRound, IsAtRest, RunsEvents, found_in}
use Rattle.slub_slabinfo_text.specs.declared.journal.RoundResult.{RoundResult}
use Rattle.slub_open_close.specs.Closing.{KeepsWords}
use Rattle.slub_open_close.specs.Ids.{AreIds, IsStepOf, first_ids, id_at}
use Rattle.slub_open_close.proofs.Firsts.{first-below, first-ids-fit, step-below}
use Rattle.slub_open_close.proofs.Steps.{is-step}
use Rattle.slub_law_alone.specs.Alone.{HasWord}
use Rattle.slub_law_alone.specs.Only.{RunsAs}
use Rattle.slub_law_alone.specs.Rounds.{HasMemory}
use Rattle.slub_law_alone.specs.SerialLaws.{RunsAsLists}
use Rattle.slub_law_alone.proofs.SerialRounds.{all_rounds}
use Rattle.slub_calls.specs.Replies.{AreReplies}
use Rattle.slub_law_rounds.proofs.Turns.{rounds_end}
use Rattle.slub_rounds.specs.ByText.{DoesByText, DoesRoundOnLists, IdsLast}
use Rattle.slub_rounds.specs.InOrder.{AreInOrder, EndsInOrder}
use Rattle.slub_rounds.specs.Rounds.{DoesRoundBySteps, Finishes, StandsBeside, system_before, system_begun}
use Rattle.slub_rounds.proofs.Standing.{beside_ids, stands}
use Rattle.slub_rounds.proofs.Telling.{begins}
use Rattle.slub_law_replay.specs.OfSteps.{AreLeftBut, EndsBy, HasContentsAlong, IsOfSteps, IsRunOfSteps}
use Rattle.slub_law_replay.proofs.Causes.{steps-right, steps-wants}
use Rattle.slub_law_replay.specs.Ways.{AreLeft, DoesRoundBy, IsOfSeveral, ids_before, seed_after}
use Rattle.slub_law_replay.specs.declared.way.Way.{Way}
use Rattle.slub_law_replay.specs.declared.way.Way.TheVariants.{Serial, Schedule, Threads}
use Rattle.slub_law_replay.proofs.InTextRounds.{same-words, setup-stays, turns-in_order}
use Rattle.slub_law_replay.proofs.Simple.{simple}
use Rattle.slub_law_replay.proofs.Whole.{blank}

-- ---- picks

-- in the order of the text none is a try
calls-in_order : (m : Setup) (events : List Event) (s : System) (picks : List Pick) → AreInOrder m events s picks → All IsCall picks
calls-in_order m events s [] are = All-nil IsCall
calls-in_order m events s (pick ∷ picks) are = All-cons IsCall pick picks are.1 (calls-in_order m events (turn m s pick) picks are.2)

-- nor where they are drawn
calls-drawn : (m : Setup) (s : System) (x : ℕ) (picks : List Pick) → AreDrawn m s x picks → All IsCall picks
calls-drawn m s x [] are = All-nil IsCall
calls-drawn m s x (pick ∷ picks) are = All-cons IsCall pick picks are.2 (calls-drawn m (turn m s pick) _ picks are.3)

abbrev Ending : Type 1
Ending = Setup → System → List Pick → System → Type 0

in-order-ends : (way : Way) (round : Round) (m : Setup) (first : System) (picks : List Pick) (last : System) → EndsInOrder m round.events first picks last → EndsBy way round m first picks last
in-order-ends way round m first picks last ends = record {
  finishes = record { calls = calls-in_order m round.events first picks ends.in_order; run = ends.run; finished = ends.finished };
  in_order = λ in_text. ends.in_order;
}

drawn-ends : (seed number : ℕ) (round : Round) → IsOfSeveral round → (m : Setup) (first : System) (picks : List Pick) (last : System) → EndsRound m number first picks last → EndsBy (Schedule seed) round m first picks last
drawn-ends seed number round several m first picks last ends = record {
  finishes = record { calls = calls-drawn m first number picks ends.drawn; run = ends.run; finished = ends.finished };
  in_order = λ in_text. absurd (let never : ⊥ = omega (arith, several, in_text) in never);
}

threads-end : (round : Round) → IsOfSeveral round → (m : Setup) (first : System) (picks : List Pick) (last : System) → Finishes m first picks last → EndsBy Threads round m first picks last
threads-end round several m first picks last ends = record {
  finishes = ends;
  in_order = λ in_text. absurd (let never : ⊥ = omega (arith, several, in_text) in never);
}

-- ---- a round by steps

-- by picks of one kind it is one by picks of another
abbrev with-ending : (One Other : Ending) → ((m : Setup) (first : System) (picks : List Pick) (last : System) → One m first picks last → Other m first picks last)
    → (s : State) (ids : List ℕ) (round : Round) (result : RoundResult) (after : State) (ids_after : List ℕ) → DoesRoundBySteps One s ids round result after ids_after → DoesRoundBySteps Other s ids round result after ids_after
with-ending One Other leads s ids round result after ids_after does = record {
  beside = does.beside;
  stands = does.stands;
  means = does.means;
  picks = does.picks;
  last = does.last;
  coherent = does.coherent;
  ends = leads (setup_of s does.beside) (system_begun s does.beside round) does.picks does.last does.ends;
  lists = does.lists;
  left = does.left;
  closes = does.closes;
  words = does.words;
  after_is = does.after_is;
  ids_are = does.ids_are;
  replies = does.replies;
  damages = does.damages;
  ledgers = does.ledgers;
}

-- it leaves its own lists
left-so : (round : Round) (lists after : State) → after ≡ all_on_board lists → AreLeftBut round lists after
left-so round lists after is = record {
  same = subst (λ (x : State). x ≡ record (all_on_board lists) { memory = x.memory }) (sym is) refl;
  sized = ap (λ (x : State). length x.memory) is;
  old = λ object word held there none unchecked inside. ap (λ (x : State). get_or x.memory (word_at (layout_at lists held.cache) held word) 0) is;
  words = λ worker object word held there its written unchecked inside. ap (λ (x : State). get_or x.memory (word_at (layout_at lists held.cache) held word) 0) is;
}

-- after any of its turns the bytes of checked caches come from where they may
contents-along : (s : State) (b : Beside) (round : Round) (picks : List Pick) → IsOpening (setup_of s b) (system_before s b round) → HasContentsAlong s b round picks
contents-along s b round picks opening front rest split = rounds_end (setup_of s b) (system_before s b round) front opening

-- a round by steps begins as one may
opens-so : (One : Ending) (s : State) (ids : List ℕ) (trace : Trace) (round : Round) (result : RoundResult) (after : State) (ids_after : List ℕ) → IsCoherent s → IsAtRest s → MayDo s trace round
    → (does : DoesRoundBySteps One s ids round result after ids_after) → IsOpening (setup_of s does.beside) (system_before s does.beside round)
opens-so One s ids trace round result after ids_after coherent rest may_do does = begins s does.beside trace round (record { coherent = coherent; laid_down = rest.laid_down; beside = does.stands.fits }) may_do

by-steps : (way : Way) (One : Ending) (s : State) (ids : Option (List ℕ)) (trace : Trace) (round : Round) (result : RoundResult) (after : State) (ids_after : List ℕ) (left : Option (List ℕ)) → IsCoherent s → IsAtRest s → MayDo s trace round
    → ((m : Setup) (first : System) (picks : List Pick) (last : System) → One m first picks last → EndsBy way round m first picks last)
    → DoesRoundBySteps One s (ids_before s ids) round result after ids_after → AreLeft ids ids_after left → IsRunOfSteps way s ids round result after left
by-steps way One s ids trace round result after ids_after left coherent rest may_do leads does are = record {
  boarded = after;
  ids_after = ids_after;
  steps = with-ending One (EndsBy way round) leads s (ids_before s ids) round result after ids_after does;
  contents = contents-along s does.beside round does.picks (opens-so One s (ids_before s ids) trace round result after ids_after coherent rest may_do does);
  causes = steps-right One (λ m first picks last ends. (leads m first picks last ends).finishes) s (ids_before s ids) trace round result after ids_after coherent rest.laid_down may_do does;
  wants = steps-wants One (λ m first picks last ends. (leads m first picks last ends).finishes) s (ids_before s ids) trace round result after ids_after coherent rest.laid_down may_do does;
  lists = left-so round does.lists after does.after_is;
  ids_are = are;
}

-- ---- small things

-- the flags of checked slabs are those of their cache
flags-by : (c : CheckedState) (o : Option Cache) → MatchOption o ⊥ (λ live. IsCacheOf c live.layout live.flags) → IfSome o (λ live. live.flags ≡ c.flags)
flags-by c None is = absurd is
flags-by c (Some live) is = is.1

flags-of : (s : State) (k : ℕ) (o : Option CheckedState) → IfSome o (IsCheckedOf s k) → IfSome o (λ slabs. IfSome (cache_of s k) (λ live. live.flags ≡ slabs.flags))
flags-of s k None is = tt
flags-of s k (Some c) is = flags-by c (cache_of s k) is.live

-- past the frames no word is
nothing-past : (m : Setup) (value : ℕ → LockValue) (words : List ℕ) (p : ℕ) → 512 * m.frames ≤ p → (world_of m value words).memory p ≡ 0
unfolding world_of world_from word_in
nothing-past m value words p past = cond-false (nat_lt p (512 * m.frames)) _ 0 (le-ltb p (512 * m.frames) past)

-- ids that stand beside the lists fit them
ids-stand : (s : State) (ids : List ℕ) (b : Beside) → StandsBeside s ids b → AreIds s ids
ids-stand s ids b stand = record {
  step = b.step;
  least = stand.step;
  count = ap (λ (xs : List ℕ). length xs) (sym stand.tids) ∙ stand.fits.tids;
  below = λ n. subst (λ (xs : List ℕ). id_at xs n < 2 ^ 32) stand.tids (stand.fits.tid n);
  room = λ n current. subst (λ (xs : List ℕ). id_at xs n + b.step < 2 ^ 32) stand.tids (stand.fits.room n current);
  remainder = λ n within there lives. ap (λ (xs : List ℕ). id_at xs n % b.step) (sym stand.tids) ∙ stand.fits.remainder n within there lives;
}

abbrev nobody : Option Held
nobody = None

-- ---- a round on the lists

module _ (s : State) (kept : Option (List ℕ)) (trace : Trace) (round : Round) (result : RoundResult) (after : State) (ids_after : List ℕ) (coherent : IsCoherent s) (rest : IsAtRest s) (may_do : MayDo s trace round) (last : IdsLast s (ids_before s kept) round)
    (does : DoesRoundOnLists s (ids_before s kept) round result after ids_after) (memory : All HasMemory result.replies) where
  abbrev b : Beside
  b = does.beside

  may : MayOpen s b
  may = record { coherent = coherent; laid_down = rest.laid_down; beside = does.stands.fits }

  ran : RunsAs s b round result.replies does.does.last does.left
  ran = all_rounds s b trace round result.replies does.does.last does.left may may_do (simple s (ids_before s kept) b round coherent rest (ids-stand s (ids_before s kept) b does.stands) last does.stands) does.runs memory

  abbrev r : RunsAsLists s b round
  r = ran.run

  turned : (picks : List Pick) × AreInOrder (setup_of s b) round.events (system_begun s b round) picks × (r.last ≡ run (setup_of s b) (system_begun s b round) picks)
  turned = turns-in_order s b trace round may may_do r.last r.turns

  stays : setup_of r.given r.beside ≡ setup_of s b
  stays = setup-stays s r.given b r.beside (system_before s b round).value (system_before s b round).words r.last r.rest.coherent

  -- the words in which the machine comes to rest
  abbrev w : World
  w = world_of (setup_of r.given r.beside) r.last.value r.last.words

  -- the lists into which it closes: each word of a frame is as it stands there, and nothing is noted as freed
  abbrev lists : State
  lists = record r.given { memory = map w.memory (range_with_len 0 (512 * r.given.frames)); gone = replicate (length r.given.board) nobody }

  memory-long : length lists.memory ≡ 512 * r.given.frames
  memory-long = length-map-range_with_len w.memory 0 (512 * r.given.frames)

  word-is : (p : ℕ) → get_or lists.memory p 0 ≡ w.memory p
  word-is p = elim (cases_lt p (512 * r.given.frames)) [
    | inl below ↦ get_or-map-range_with_len w.memory 0 (512 * r.given.frames) p p 0 below (let e : 0 + p ≡ p = omega arith in e)
    | inr past ↦ get_or_past lists.memory p 0 (omega (arith, past, memory-long)) ∙ sym (nothing-past (setup_of r.given r.beside) r.last.value r.last.words p past)
  ]

  rests-there : RestsIn lists r.beside r.last
  rests-there =
      let old = r.rest.rests.rests in
      record {
        count = r.rest.rests.count;
        rests = record {
          setup = old.setup;
          words = old.words;
          workers = old.workers;
          locks = old.locks;
          values = old.values;
          nodes = old.nodes;
          cpu = old.cpu;
          slab = old.slab;
          unchecked = old.unchecked;
          unslabbed = old.unslabbed;
          own = old.own;
          listed = old.listed;
          named = old.named;
          once = old.once;
          no_zero = old.no_zero;
          contents = λ object word held there unchecked inside. sym (word-is (word_at (layout_at r.given held.cache) held word));
        };
      }

  lengths-there : HasLengths lists
  lengths-there =
      let shaped = r.rest.lists.shaped in
      record {
        slabs = shaped.slabs;
        frees = shaped.frees;
        cpu_lists = shaped.cpu_lists;
        nodes = shaped.nodes;
        checked = shaped.checked.numbers;
        memory = memory-long;
        gone = length-replicate (length r.given.board) nobody;
        live = shaped.live;
      }

  closes-there : Closes s b r.last lists r.beside
  closes-there = record {
    stays = stays;
    table = r.table;
    lengths = lengths-there;
    rests = rests-there;
    tids = r.rest.beside.tids;
    links = r.rest.beside.links;
    link = r.rest.beside.link;
    live = r.rest.lists.accounted;
    flags = λ k. flags-of r.given k (checked_of r.given k) (r.rest.lists.shaped.checked.those k);
  }

  words-there : KeepsWords s b r.last lists
  words-there = record {
    memory = λ p. word-is p ∙ ap (λ (m : Setup). (world_of m r.last.value r.last.words).memory p) stays;
    gone = refl;
  }

  -- ---- what is left

  board-is : after ≡ all_on_board r.after
  board-is = does.does.after_is ∙ ap (λ (x : State). all_on_board x) (sym ran.lists)

  blank-gone : length lists.gone ≡ length r.given.gone
  blank-gone = length-replicate (length r.given.board) nobody ∙ sym r.rest.lists.shaped.gone

  boards-same : all_on_board r.after ≡ record (all_on_board lists) { memory = r.after.memory }
  boards-same =
      sym (ap (λ (x : State). record (all_on_board x) { memory = r.after.memory }) r.words.lists)
      ∙ sym (ap (λ (gone : List (Option Held)). record (all_on_board r.given) { memory = r.after.memory; gone = gone }) (blank lists.gone r.given.gone blank-gone))

  -- a word that the lists of the events have
  word-left : (object word : ℕ) (held : Held) → held_under r.given object ≡ Some held → HasWord r.after r.given held word → HasWord lists after held word
  word-left object word held there has unchecked inside =
      let p = word_at (layout_at r.given held.cache) held word in
      let alike : get_or r.given.memory p 0 ≡ get_or r.after.memory p 0 = subst
      (λ (x : State). checked_of x held.cache ≡ None → is_word (layout_at x held.cache) word ≡ true → get_or r.given.memory (word_at (layout_at x held.cache) held word) 0 ≡ get_or r.after.memory (word_at (layout_at x held.cache) held word) 0)
      (sym r.words.lists) has unchecked inside in
      ap (λ (x : State). get_or x.memory p 0) board-is ∙ sym alike ∙ sym (r.rest.rests.rests.contents object word held there unchecked inside) ∙ sym (word-is p)

  held-after : (object : ℕ) (held : Held) → held_under r.given object ≡ Some held → held_under r.after object ≡ Some held
  held-after object held there = sym (ap (λ (x : State). held_under x object) r.words.lists) ∙ there

  left-there : AreLeftBut round lists after
  left-there = record {
    same = subst (λ (x : State). x ≡ record (all_on_board lists) { memory = x.memory }) (sym board-is) boards-same;
    sized = ap (λ (x : State). length x.memory) board-is ∙ sym r.words.sized ∙ r.rest.lists.shaped.memory ∙ sym memory-long;
    old = λ object word held there none. word-left object word held there (r.words.old object word held (held-after object held there) none);
    words = λ worker object word held there its written. word-left object word held there (r.words.words worker object word held (held-after object held there) its written);
  }

  -- ---- the run

  told-there : AreReplies round.events (replies_of r.last) r.replies
  told-there = record { each = r.told.each; own = r.told.own }

  damages-there : result.damages ≡ found_in s lists
  damages-there = does.does.damages ∙ ap (λ (x : State). found_in s x) (sym ran.lists) ∙ sym (same-words (reverse round.events) s r.after r.given r.words)

  abbrev steps-there : (way : Way) → DoesRoundBySteps (EndsBy way round) s (ids_before s kept) round result (all_on_board lists) ids_after
  steps-there way = record {
    beside = b;
    stands = does.stands;
    means = does.means;
    picks = turned.0;
    last = r.last;
    coherent = rounds_keep (setup_of s b) (system_before s b round) turned.0 (begins s b trace round may may_do);
    ends = record {
      finishes = record { calls = calls-in_order (setup_of s b) round.events (system_begun s b round) turned.0 turned.1; run = turned.2; finished = r.finished };
      in_order = λ in_text. turned.1;
    };
    lists = lists;
    left = r.beside;
    closes = closes-there;
    words = words-there;
    after_is = refl;
    ids_are = does.ids_are ∙ ap (λ (d : Beside). d.tids) (sym ran.beside);
    replies = subst (λ (replies : List Reply). AreReplies round.events (replies_of r.last) replies) ran.answered told-there;
    damages = damages-there;
    ledgers = does.does.ledgers;
  }

  lists-steps : (way : Way) (left : Option (List ℕ)) → AreLeft kept ids_after left → IsRunOfSteps way s kept round result after left
  lists-steps way left are = record {
    boarded = all_on_board lists;
    ids_after = ids_after;
    steps = steps-there way;
    contents = contents-along s b round turned.0 (begins s b trace round may may_do);
    causes = steps-right (EndsBy way round) (λ m first picks last ends. ends.finishes) s (ids_before s kept) trace round result (all_on_board lists) ids_after coherent rest.laid_down may_do (steps-there way);
    wants = steps-wants (EndsBy way round) (λ m first picks last ends. ends.finishes) s (ids_before s kept) trace round result (all_on_board lists) ids_after coherent rest.laid_down may_do (steps-there way);
    lists = left-there;
    ids_are = are;
  }

-- ---- where no ids stand beside the lists

-- events that are answered on the lists are so with ids beside them
with-ids : (s : State) (b : Beside) (events : List Event) (replies : List Reply) (after : State) → RunsEvents s events replies after → (left : Beside) × RunsWithIds s b events replies after left
with-ids s b [] [] after runs = (b, (runs, refl))
with-ids s b [] (reply ∷ replies) after runs = absurd runs
with-ids s b (event ∷ events) [] after runs = absurd runs
with-ids s b (event ∷ events) (reply ∷ replies) after runs =
    let rest = with-ids runs.0 (beside_after s b event.worker event.cpu event.act reply) events replies after runs.3 in
    (rest.0, (runs.0, runs.1, runs.2, rest.1))

-- whatever stands for what isn't there
otherwise : (xs : List ℕ) (k d e : ℕ) → k < length xs → get_or xs k d ≡ get_or xs k e
otherwise [] k d e within = absurd (let never : ⊥ = omega (arith, within) in never)
otherwise (x ∷ xs) zero d e within = refl
otherwise (x ∷ xs) (suc k) d e within = otherwise xs k d e (omega (arith, within))

module _ (s : State) (trace : Trace) (round : Round) (coherent : IsCoherent s) (objects : trace.objects ≤ 1048576) (may_do : MayDo s trace round) (few : length round.events ≤ 2 ^ 24) where
  least : IsStepOf s.cpus (step_of s.cpus)
  least = is-step s.cpus coherent.shaped.cpus.0 coherent.shaped.cpus.1

  step-few : step_of s.cpus ≤ 16
  step-few = step-below s.cpus (step_of s.cpus) coherent.shaped.cpus.1 least

  -- first ids fit
  firsts-fit : AreIds s (first_ids 0 s.cpus)
  firsts-fit = first-ids-fit s 0 (step_of s.cpus) coherent.shaped.cpus.0 least (zero-mod (step_of s.cpus)) (omega (arith, step-few)) (λ n current. omega (arith, step-few))

  -- and last, since a trace has few events
  firsts-last : IdsLast s (first_ids 0 s.cpus) round
  firsts-last k d within =
      let same = otherwise (first_ids 0 s.cpus) k d 0 within in
      let most : (2 * length round.events + 1) * step_of s.cpus ≤ 33554433 * step_of s.cpus = mul-le-mul_right (step_of s.cpus) (omega (arith, few)) in
      omega (arith, same, most, step-few, first-below 0 s.cpus k coherent.shaped.cpus.0, coherent.shaped.cpus.1)

  firsts-stand : StandsBeside s (first_ids 0 s.cpus) (beside_ids s (first_ids 0 s.cpus))
  firsts-stand = stands s (first_ids 0 s.cpus) coherent firsts-fit (omega (arith, may_do.objects)) (omega (arith, may_do.objects, objects))

  module _ (result : RoundResult) (after : State) (does : DoesRound s round result after) where
    grown : (left : Beside) × RunsWithIds s (beside_ids s (first_ids 0 s.cpus)) round.events result.replies does.last left
    grown = with-ids s (beside_ids s (first_ids 0 s.cpus)) round.events result.replies does.last does.runs

    on-lists : DoesRoundOnLists s (first_ids 0 s.cpus) round result after grown.0.tids
    on-lists = record {
      does = does;
      beside = beside_ids s (first_ids 0 s.cpus);
      stands = firsts-stand;
      means = refl;
      left = grown.0;
      runs = grown.1;
      ids_are = refl;
    }

-- ---- rounds by any way

text-steps : (way : Way) (s : State) (ids : Option (List ℕ)) (trace : Trace) (round : Round) (result : RoundResult) (after : State) (left : Option (List ℕ)) → IsCoherent s → IsAtRest s → trace.objects ≤ 1048576 → MayDo s trace round → length round.events ≤ 2 ^ 24
    → All HasMemory result.replies → DoesByText s ids round result after left → IsRunOfSteps way s ids round result after left
text-steps way s None trace round result after left coherent rest objects may_do few memory (does, none) =
    lists-steps s None trace round result after (grown s trace round coherent objects may_do few result after does).0.tids coherent rest may_do (firsts-last s trace round coherent objects may_do few) (on-lists s trace round coherent objects may_do few result after does) memory way left none
text-steps way s (Some ids) trace round result after left coherent rest objects may_do few memory (ids_after, inl (last, does), are) = lists-steps s (Some ids) trace round result after ids_after coherent rest may_do last does memory way left are
text-steps way s (Some ids) trace round result after left coherent rest objects may_do few memory (ids_after, inr (spent, does), are) =
    by-steps way (λ m first picks last. EndsInOrder m round.events first picks last) s (Some ids) trace round result after ids_after left coherent rest may_do (in-order-ends way round) does are

pub steps-by : (way : Way) (rounds : ℕ) (s : State) (ids : Option (List ℕ)) (trace : Trace) (round : Round) (result : RoundResult) (after : State) (left : Option (List ℕ)) → IsCoherent s → IsAtRest s → trace.objects ≤ 1048576 → MayDo s trace round → length round.events ≤ 2 ^ 24
    → DoesRoundBy way rounds s ids round result after left → IsOfSteps way s ids round result after left
steps-by Serial rounds s ids trace round result after left coherent rest objects may_do few does memory = text-steps Serial s ids trace round result after left coherent rest objects may_do few (memory tt) does
steps-by (Schedule seed) rounds s ids trace round result after left coherent rest objects may_do few (inl (one, does)) memory = text-steps (Schedule seed) s ids trace round result after left coherent rest objects may_do few (memory one) does
steps-by (Schedule seed) rounds s ids trace round result after left coherent rest objects may_do few (inr (several, does)) memory =
    by-steps (Schedule seed) (λ m first picks last. EndsRound m (seed_after seed rounds) first picks last) s ids trace round result after does.0 left coherent rest may_do (drawn-ends seed (seed_after seed rounds) round several) does.1 does.2
steps-by Threads rounds s ids trace round result after left coherent rest objects may_do few (inl (one, does)) memory = text-steps Threads s ids trace round result after left coherent rest objects may_do few (memory one) does
steps-by Threads rounds s ids trace round result after left coherent rest objects may_do few (inr (several, does)) memory =
    by-steps Threads Finishes s ids trace round result after does.0 left coherent rest may_do (threads-end round several) does.1 does.2
