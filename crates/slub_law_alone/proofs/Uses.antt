-- A write and a read of a word of an object that the worker holds: one turn each.
use Rattle.std.proofs.Common.{◌≡◌, ℕ, ◌+◌, ◌*◌, ◌<◌, ◌≤◌, eqb, cond, Bool, true, false, List, length, get_or, set, Option, Some, None, inl, inr, refl, ap, sym, ◌∙◌, subst, arith}
use Rattle.std.specs.Prelude.{not, is_some, MatchOption, MatchBool}
use Rattle.std.specs.Option.{option_and_then, option_map, option_or}
use Rattle.std.proofs.lemmas.Bool.{cases_eq, false≢true, eq-eqb, not-false, cond-true}
use Rattle.std.proofs.lemmas.List.{get_or-set_same, get_or-set_other, set-get_or, length-set}
use Rattle.std.proofs.lemmas.List.Elements.{All-set, All-get_or}
use Rattle.slub_trace.specs.declared.reply.Reply.{Reply}
use Rattle.slub_trace.specs.declared.reply.Reply.TheVariants.{NotHeld, Wrote, Value, OutOfObject}
use Rattle.slub_cache_create.specs.declared.caches.Cache.{Cache}
use Rattle.slub_lists.specs.declared.lists.Held.{Held}
use Rattle.slub_lists.specs.State.{State}
use Rattle.slub_lists.specs.Alloc.{cache_of, checked_of}
use Rattle.slub_lists.specs.Coherent.{held_under}
use Rattle.slub_lists.specs.Places.{layout_at}
use Rattle.slub_lists.specs.Words.{Writes, Reads, WritesHeld, ReadsHeld, held_by, own, is_word, word_at, with_word, word_of}
use Rattle.slub_lists.proofs.ObjectWords.{memory-written, memory-read}
use Rattle.slub_core.specs.declared.call.Call.{Call}
use Rattle.slub_core.specs.declared.call.CallKind.TheVariants.{Write, Read}
use Rattle.slub_core.specs.declared.local.Known.{Known}
use Rattle.slub_core.specs.declared.spot.Spot.TheVariants.{Between, WriteWord, ReadWord}
use Rattle.slub_core.specs.declared.step.Answer.TheVariants.{Word, Done}
use Rattle.slub_core.specs.declared.step.Op.TheVariants.{Load, Store}
use Rattle.slub_core.specs.declared.step.Place.TheVariants.{MemoryOf}
use Rattle.slub_core.specs.Calls.{call_kind, call_cpu, call_object, call_place, call_word, call_value}
use Rattle.slub_core.specs.Setup.{Setup}
use Rattle.slub_core.specs.Words.{memory_base}
use Rattle.slub_core.specs.World.{World, update, set_memory, world_of}
use Rattle.slub_core.specs.Fresh.{IsWorded}
use Rattle.slub_core.specs.Local.{Local, at, answered, call_of, no_call}
use Rattle.slub_core.specs.Ops.{store_word, load_word}
use Rattle.slub_core.specs.Replies.{names_object}
use Rattle.slub_core.specs.Steps.{rested, is_outside, told_of_use, told_at_once}
use Rattle.slub_core.specs.Run.{System, idle}
use Rattle.slub_core.specs.Law.{TakesStep, IsRested, IsCoherentSystem}
use Rattle.slub_core.proofs.Update.{update_at, update_other}
use Rattle.slub_core.proofs.StepWords.{world_of-memory, memory-read as word-read}
use Rattle.slub_law_opening.specs.Opening.{Beside, setup_of}
use Rattle.slub_law_opening.specs.Rests.{IsBetween, KeepsWord, Rests, held_on, held_in, named as named_in, times_named}
use Rattle.slub_law_opening.specs.Closing.{HasLengths}
use Rattle.slub_law_opening.proofs.Names.{as_held}
use Rattle.slub_law_alone.specs.Alone.{alone, worker_at, known_at, IsAtRest, IsNext}
use Rattle.slub_law_alone.specs.Laws.{WritesAlone, ReadsAlone, WritesAreStores, ReadsAreLoads}
use Rattle.slub_law_alone.proofs.Apart.{IsOwn, word_own, word_inside, cpu_stands, own_stands}
use Rattle.slub_law_alone.proofs.Bits.{whole_memory}
use Rattle.slub_law_alone.proofs.Changed.{rests_changed, same_word}
use Rattle.slub_law_alone.proofs.Ended.{alone_keeps, ends_at_rest, replies_of}
use Rattle.slub_law_alone.proofs.Knows.{known_ends}
use Rattle.slub_law_alone.proofs.FastFree.{layout_of}
use Rattle.slub_law_alone.proofs.Names.{among_same}
use Rattle.slub_law_alone.proofs.Start.{IsStart, starts, HasObject, has_object, begin_held}
use Rattle.slub_law_alone.proofs.Turns.{machine, turn_goes, settle_tells, then_turn}
use Rattle.slub_law_alone.proofs.Workers.{at_front, once_named, IsWithCalls, rested_calls}

-- a use that takes a step is of an object that the worker holds, and the word lies in it
use_told : (h z : Bool) → cond {A = Option Reply} (not h) (Some NotHeld) (cond {A = Option Reply} z (Some OutOfObject) None) ≡ None → (h ≡ true) × (z ≡ false)
use_told true true e = absurd (cc e)
use_told true false e = (refl, refl)
use_told false z e = absurd (cc e)

pub takes : (opening : World) (s : State) (b : Beside) (system : System) (x : ℕ) (call : Call) → IsAtRest opening s b system → IsNext system x call → told_at_once (setup_of s b) (known_at (worker_at system x) call) call (call_kind call) ≡ None
takes opening s b system x call rest next =
    let m = setup_of s b in
    let l = worker_at system x in
    let begin = starts opening s b system x call rest next in
    let rested = All-get_or (IsRested m) system.locals x idle next.there rest.coherent.rested in
    subst (TakesStep m l) next.todo (rested begin.between.between)

pub used : (opening : World) (s : State) (b : Beside) (system : System) (x : ℕ) (call : Call) → IsAtRest opening s b system → IsNext system x call → told_at_once (setup_of s b) (known_at (worker_at system x) call) call (call_kind call) ≡ told_of_use (setup_of s b) (known_at (worker_at system x) call) (call_word call)
    → ((known_at (worker_at system x) call).held ≡ true) × (is_word (layout_at s (known_at (worker_at system x) call).cache) (call_word call) ≡ true)
used opening s b system x call rest next is =
    let k = known_at (worker_at system x) call in
    let r = use_told k.held (is_outside (layout_at s k.cache) (call_word call)) (sym is ∙ takes opening s b system x call rest next) in
    (r.0, not-false _ r.1)

-- what the number names is the worker's
pub held-by : (s : State) (worker object : ℕ) (k : Known) → held_under s object ≡ Some (as_held worker k) → held_by s worker object ≡ Some (as_held worker k)
held-by s worker object k named = ap (option_and_then (own worker)) named ∙ cond-true {A = Option Held} (eqb worker worker) (Some (as_held worker k)) None (eq-eqb worker worker refl)

pub live_match : (s : State) (k : ℕ) (P : Cache → Type 0) → is_some (cache_of s k) ≡ true → ((live : Cache) → cache_of s k ≡ Some live → P live) → MatchOption (cache_of s k) ⊥ P
live_match s k P lives there = by (cache_of s k) refl lives
  where
    by : (o : Option Cache) → cache_of s k ≡ o → is_some o ≡ true → MatchOption o ⊥ P
    by None e live = false≢true live
    by (Some live) e has_it = there live e

-- what ends a use
module _ (opening : World) (s : State) (b : Beside) (system : System) (x : ℕ) (call : Call) (rest : IsAtRest opening s b system) (next : IsNext system x call) (held_it : (known_at (worker_at system x) call).held ≡ true) (names : names_object (call_kind call) ≡ true)
    (plain : checked_of s (known_at (worker_at system x) call).cache ≡ None) (inside : is_word (layout_at s (known_at (worker_at system x) call).cache) (call_word call) ≡ true) where
  abbrev m : Setup
  m = setup_of s b

  abbrev w : World
  w = world_of m system.value system.words

  abbrev l : Local
  l = worker_at system x

  abbrev o : Known
  o = known_at l call

  abbrev held : Held
  held = as_held l.worker o

  begin : IsStart opening s b system x call
  begin = starts opening s b system x call rest next

  has : HasObject s system x call
  has = has_object opening s b system x call rest next names held_it

  resting : Rests s b w system.locals
  resting = rest.rests.rests

  abbrev p : ℕ
  p = word_at (layout_at s o.cache) held (call_word call)

  p_inside : p < 512 * s.frames
  p_inside = word_inside s (call_object call) (call_word call) held begin.consistent has.named inside

  call_is : call_of l ≡ call
  call_is = ap (λ todo. get_or todo 0 no_call) next.todo

  lengths : (memory : List ℕ) → length memory ≡ 512 * s.frames → HasLengths (record s { memory = memory })
  lengths memory long = record {
    slabs = rest.lists.shaped.slabs;
    frees = rest.lists.shaped.frees;
    cpu_lists = rest.lists.shaped.cpu_lists;
    nodes = rest.lists.shaped.nodes;
    checked = rest.lists.shaped.checked.numbers;
    memory = long;
    gone = rest.lists.shaped.gone;
    live = rest.lists.shaped.live;
  }

  -- a worker that knows what it knew, and has another reply
  module _ (told : Local) (between : told.spot ≡ Between) (worker : told.worker ≡ l.worker) (known : told.known ≡ l.known) (goes_on : IsBetween w.setup told) where
    calls : IsWithCalls told (rested m told)
    calls = rested_calls m told between

    worker_rests : IsBetween w.setup (rested m told)
    worker_rests = subst (IsBetween w.setup) (sym calls.same) (record {
      between = goes_on.between;
      hands = goes_on.hands;
      string = goes_on.string;
      run = goes_on.run;
      packed = record { cpu_word = goes_on.packed.cpu_word; slab_word = goes_on.packed.slab_word; list_word = goes_on.packed.list_word; next = goes_on.packed.next };
      cpu = goes_on.cpu;
      numbers = goes_on.numbers;
      some = goes_on.some;
    })

    names_are : (j : ℕ) → held_under s j ≡ named_in w (set system.locals x (rested m told)) j
    names_are j = resting.named j ∙ sym (ap (option_or (option_map held_on (w.board j))) (among_same j system.locals x (rested m told)
        (ap (λ (l : Local). held_in l.worker l.known j) calls.same ∙ ap (λ n. held_in n told.known j) worker ∙ ap (λ ks. held_in l.worker ks j) known)))

  -- ---- a write

  abbrev asked : Local
  asked = record l { spot = WriteWord; cache = o.cache; cpu = call_cpu call; place = call_place call; fast = false; turn = 0; count = 0 }

  abbrev wrote : Local
  wrote = answered (at asked Between) Wrote

  abbrev words : List ℕ
  words = set system.words (memory_base m + p) (call_value call)

  abbrev after : State
  after = record s { memory = set s.memory p (call_value call) }

  stored : call_kind call ≡ Write → alone m x 1 system ≡ machine words system.value (set system.locals x (rested m wrote))
  stored is = ap (alone m x 1) (ap (machine system.words system.value) (sym (set-get_or system.locals x idle)))
      ∙ then_turn m x 0 (machine system.words system.value (set system.locals x l)) (machine words system.value (set system.locals x (rested m wrote))) (machine words system.value (set system.locals x (rested m wrote)))
      (turn_goes m system.words words system.value system.locals x l asked (rested m wrote) (record { place = MemoryOf p; op = Store (call_value call) }) Done next.there
      (begin_held m l call next.calls Write WriteWord begin.between.between next.todo is refl refl (ap is_some plain) held_it refl) (ap (λ (c : Call). store_word m asked (call_word c) (call_value c)) call_is) refl refl
      (settle_tells m system.value asked (at asked Between) Done Wrote refl refl)) refl

  says : world_of m system.value words ≡ set_memory w p (call_value call)
  says = world_of-memory m system.value system.words p (call_value call) begin.table p_inside

  goes_on : IsBetween w.setup wrote
  goes_on = record {
    between = refl;
    hands = begin.between.hands;
    string = begin.between.string;
    run = begin.between.run;
    packed = record { cpu_word = begin.between.packed.cpu_word; slab_word = begin.between.packed.slab_word; list_word = begin.between.packed.list_word; next = begin.between.packed.next };
    cpu = subst (λ (m : Setup). call_cpu call < m.cpus) (sym resting.setup) begin.may.cpu;
    numbers = begin.between.numbers;
    some = begin.between.some;
  }

  write_ends : IsCoherentSystem m opening (machine words system.value (set system.locals x (rested m wrote))) → Rests after b (set_memory w p (call_value call)) (set system.locals x (rested m wrote))
  write_ends ended = rests_changed s b w system.locals s.frees s.cpu_lists (set s.memory p (call_value call)) s.board s.gone s.live b.tids w.cpu w.slab (update w.memory p (call_value call)) (set system.locals x (rested m wrote)) resting refl
      (let f = at_front m opening (machine words system.value (set system.locals x (rested m wrote))) x (omega (arith, next.there, length-set system.locals x (rested m wrote))) ended in subst IsWorded says f.stands.fresh.worded)
      (All-set (IsBetween w.setup) system.locals x (rested m wrote) (worker_rests wrote refl refl refl goes_on) resting.workers)
      (λ n below. let c = resting.cpu n below in record { tid = c.tid; current = c.current; free = cpu_stands s (call_object call) held begin.consistent has.named p mine b w system.locals resting w.cpu w.slab (call_value call) n below; count = c.count; partial = c.partial })
      (λ f. same_word (w.slab f)) (λ f. record { chain = own_stands s (call_object call) held begin.consistent has.named p mine b w system.locals resting w.cpu w.slab (call_value call) f; in_use = (resting.own f).in_use })
      (names_are wrote refl refl refl goes_on) (λ j. subst (λ w. times_named w (set system.locals x (rested m wrote)) j ≤ 1) says (once_named m opening (machine words system.value (set system.locals x (rested m wrote))) ended j))
      words_are
    where
      mine : IsOwn s held p
      mine = word_own s (call_object call) (call_word call) held begin.consistent has.named inside

      words_are : (j word : ℕ) (h : Held) → held_under s j ≡ Some h → KeepsWord after (set_memory w p (call_value call)) h word
      words_are j word h there unchecked is_inside = elim (cases_eq (word_at (layout_at s h.cache) h word) p) [
        | inl e ↦ update_at w.memory p (call_value call) (word_at (layout_at s h.cache) h word) e ∙ sym (ap (λ q. get_or (set s.memory p (call_value call)) q 0) e ∙ get_or-set_same s.memory p (call_value call) 0 (omega (arith, p_inside, rest.lists.shaped.memory)))
        | inr away ↦ update_other w.memory p (call_value call) (word_at (layout_at s h.cache) h word) away ∙ resting.contents j word h there unchecked is_inside ∙ sym (get_or-set_other s.memory p (word_at (layout_at s h.cache) h word) (call_value call) 0 away)
      ]

  writes : Writes s l.worker (call_object call) (call_word call) (call_value call) Wrote after
  writes = subst (λ o. MatchOption o ((Wrote ≡ NotHeld) × (after ≡ s)) (λ (held : Held). MatchOption (cache_of s held.cache) ⊥ (λ live. WritesHeld s live.layout held (call_word call) (call_value call) Wrote after))) (sym (held-by s l.worker (call_object call) o has.named))
      (live_match s o.cache (λ live. WritesHeld s live.layout held (call_word call) (call_value call) Wrote after) has.lives (λ live e.
      subst (λ z. MatchBool z ((Wrote ≡ Wrote) × (after ≡ with_word s live.layout held (call_word call) (call_value call))) ((Wrote ≡ OutOfObject) × (after ≡ s))) (sym (ap (λ layout. is_word layout (call_word call)) (sym (layout_of s o.cache live e)) ∙ inside))
      (refl, memory-written s (layout_at s o.cache) held (call_word call) (call_value call) plain ∙ ap (λ layout. with_word s layout held (call_word call) (call_value call)) (layout_of s o.cache live e))))

  write_alone : call_kind call ≡ Write → WritesAlone opening s b system x call 1
  write_alone is =
      let whole = stored is in
      let ended = subst (IsCoherentSystem m opening) whole (alone_keeps m opening x 1 system rest.coherent) in
      record {
        reply = Wrote;
        after = after;
        writes = writes;
        known = known_ends s b system x 1 wrote words system.value next.there whole refl;
        replies = replies_of opening s after b b system x 1 call Wrote wrote words system.value next whole refl refl refl refl refl
            (ends_at_rest opening (set_memory w p (call_value call)) s after b b system (machine words system.value (set system.locals x (rested m wrote))) rest refl refl refl (lengths (set s.memory p (call_value call)) (length-set s.memory p (call_value call) ∙ rest.lists.shaped.memory)) rest.lists.accounted rest.beside.tids refl refl ended says (write_ends ended)
            (whole_memory m system.words p (call_value call) refl begin.table.objects rest.whole));
      }

  -- ---- a read

  abbrev asks : Local
  asks = record l { spot = ReadWord; cache = o.cache; cpu = call_cpu call; place = call_place call; fast = false; turn = 0; count = 0 }

  abbrev found : ℕ
  found = get_or system.words (memory_base m + p) 0

  abbrev read_it : Local
  read_it = answered (at asks Between) (Value found)

  loaded : call_kind call ≡ Read → alone m x 1 system ≡ machine system.words system.value (set system.locals x (rested m read_it))
  loaded is = ap (alone m x 1) (ap (machine system.words system.value) (sym (set-get_or system.locals x idle)))
      ∙ then_turn m x 0 (machine system.words system.value (set system.locals x l)) (machine system.words system.value (set system.locals x (rested m read_it))) (machine system.words system.value (set system.locals x (rested m read_it)))
      (turn_goes m system.words system.words system.value system.locals x l asks (rested m read_it) (record { place = MemoryOf p; op = Load }) (Word found) next.there
      (begin_held m l call next.calls Read ReadWord begin.between.between next.todo is refl refl (ap is_some plain) held_it refl) (ap (λ (c : Call). load_word m asks (call_word c)) call_is) (set-get_or system.words (memory_base m + p) 0) refl
      (settle_tells m system.value asks (at asks Between) (Word found) (Value found) refl refl)) refl

  reads_on : IsBetween w.setup read_it
  reads_on = record {
    between = refl;
    hands = begin.between.hands;
    string = begin.between.string;
    run = begin.between.run;
    packed = record { cpu_word = begin.between.packed.cpu_word; slab_word = begin.between.packed.slab_word; list_word = begin.between.packed.list_word; next = begin.between.packed.next };
    cpu = subst (λ (m : Setup). call_cpu call < m.cpus) (sym resting.setup) begin.may.cpu;
    numbers = begin.between.numbers;
    some = begin.between.some;
  }

  read_ends : IsCoherentSystem m opening (machine system.words system.value (set system.locals x (rested m read_it))) → Rests s b w (set system.locals x (rested m read_it))
  read_ends ended = rests_changed s b w system.locals s.frees s.cpu_lists s.memory s.board s.gone s.live b.tids w.cpu w.slab w.memory (set system.locals x (rested m read_it)) resting refl resting.words
      (All-set (IsBetween w.setup) system.locals x (rested m read_it) (worker_rests read_it refl refl refl reads_on) resting.workers)
      resting.cpu (λ f. same_word (w.slab f)) resting.own
      (names_are read_it refl refl refl reads_on) (once_named m opening (machine system.words system.value (set system.locals x (rested m read_it))) ended) resting.contents

  found_is : found ≡ word_of s (layout_at s o.cache) held (call_word call)
  found_is = sym (word-read m system.value system.words p p_inside) ∙ resting.contents (call_object call) (call_word call) held has.named plain inside ∙ memory-read s (layout_at s o.cache) held (call_word call) plain

  reads : Reads s l.worker (call_object call) (call_word call) (Value found)
  reads = subst (λ o. MatchOption o (Value found ≡ NotHeld) (λ (held : Held). MatchOption (cache_of s held.cache) ⊥ (λ live. ReadsHeld s live.layout held (call_word call) (Value found)))) (sym (held-by s l.worker (call_object call) o has.named))
      (live_match s o.cache (λ live. ReadsHeld s live.layout held (call_word call) (Value found)) has.lives (λ live e.
      subst (λ z. MatchBool z (Value found ≡ Value (word_of s live.layout held (call_word call))) (Value found ≡ OutOfObject)) (sym (ap (λ layout. is_word layout (call_word call)) (sym (layout_of s o.cache live e)) ∙ inside))
      (ap Value found_is ∙ ap (λ layout. Value (word_of s layout held (call_word call))) (layout_of s o.cache live e))))

  read_alone : call_kind call ≡ Read → ReadsAlone opening s b system x call 1
  read_alone is =
      let whole = loaded is in
      let ended = subst (IsCoherentSystem m opening) whole (alone_keeps m opening x 1 system rest.coherent) in
      record {
        reply = Value found;
        reads = reads;
        known = known_ends s b system x 1 read_it system.words system.value next.there whole refl;
        replies = replies_of opening s s b b system x 1 call (Value found) read_it system.words system.value next whole refl refl refl refl refl
            (ends_at_rest opening w s s b b system (machine system.words system.value (set system.locals x (rested m read_it))) rest refl refl refl (lengths s.memory rest.lists.shaped.memory) rest.lists.accounted rest.beside.tids refl refl ended refl (read_ends ended) rest.whole);
      }

pub stores : WritesAreStores
stores opening s b system x call rest next is plain =
    let u = used opening s b system x call rest next (ap (told_at_once (setup_of s b) (known_at (worker_at system x) call) call) is) in
    write_alone opening s b system x call rest next u.0 (ap names_object is) plain u.1 is

pub loads : ReadsAreLoads
loads opening s b system x call rest next is plain =
    let u = used opening s b system x call rest next (ap (told_at_once (setup_of s b) (known_at (worker_at system x) call) call) is) in
    read_alone opening s b system x call rest next u.0 (ap names_object is) plain u.1 is
