-- An allocation that finds its CPU's current slab without a free object: the slab is taken off the CPU, and the allocation goes on as that of a CPU without a slab.
use Rattle.std.proofs.Common.{◌≡◌, ℕ, ◌+◌, ◌-◌, ◌*◌, ◌/◌, ◌<◌, ◌≤◌, eqb, cond, Bool, true, false, List, [], ◌∷◌, length, get_or, set, Option, Some, None, inl, inr, refl, ap, sym, ◌∙◌, subst, arith}
use Rattle.std.specs.Prelude.{if◌then◌else◌, nat_lt, drop, is_some, IfSome}
use Rattle.std.specs.Option.{option_map}
use Rattle.std.proofs.lemmas.Bool.{cases_eq, eq-eqb, le-ltb}
use Rattle.std.proofs.lemmas.List.{get_or-set_same, get_or-set_other, set-get_or, set-set, length-set}
use Rattle.std.proofs.lemmas.List.Elements.{All-set}
use Rattle.slub_trace.specs.Kinds.{is_given}
use Rattle.slub_common.specs.Times.{times}
use Rattle.slub_words.specs.declared.cpu.CpuWord.{CpuWord}
use Rattle.slub_words.specs.declared.slab.SlabWord.{SlabWord}
use Rattle.slub_words.specs.Words.{cpu_bits, slab_bits}
use Rattle.slub_lists.specs.declared.lists.Slab.{Slab}
use Rattle.slub_lists.specs.declared.lists.CpuLists.{CpuLists}
use Rattle.slub_lists.specs.State.{State}
use Rattle.slub_lists.specs.Alloc.{lists_of, node_of, checked_of, cpu_place, slab_of, own_free, marked, retired}
use Rattle.slub_lists.specs.Named.{AllocatesNamed}
use Rattle.slub_lists.specs.Coherent.{IsConsistent}
use Rattle.slub_lists.specs.Places.{IsCurrent}
use Rattle.slub_lists.proofs.Coherence.{place-inside}
use Rattle.slub_lists.proofs.Places.{objects-few, slab-inside}
use Rattle.slub_core.specs.declared.call.Call.{Call}
use Rattle.slub_core.specs.declared.local.Answered.{Answered}
use Rattle.slub_core.specs.declared.local.Known.{Known}
use Rattle.slub_core.specs.declared.spot.Spot.TheVariants.{Between, InAlloc}
use Rattle.slub_core.specs.declared.spot.AllocSpot.TheVariants.{LoadCpu, Detach, LoadTaken, MarkFull, TakeList}
use Rattle.slub_core.specs.declared.step.Answer.{Answer}
use Rattle.slub_core.specs.declared.step.Answer.TheVariants.{Word, Won, Lost}
use Rattle.slub_core.specs.declared.step.Op.TheVariants.{Load, Exchange}
use Rattle.slub_core.specs.declared.step.Place.TheVariants.{CpuOf, SlabOf}
use Rattle.slub_core.specs.Calls.{call_cpu, call_object, call_place}
use Rattle.slub_core.specs.Setup.{Setup, cpu_number}
use Rattle.slub_core.specs.Words.{cpu_in, slab_in, cpu_base, slab_base}
use Rattle.slub_core.specs.World.{World, update, set_cpu, set_slab, pointer, IsChain, world_of, objects_at, cache_at, order_at}
use Rattle.slub_core.specs.Local.{Local, Turn, nobody, hand_from, goes}
use Rattle.slub_core.specs.Ops.{load_slab, change_slab}
use Rattle.slub_core.specs.Alloc.{is_spent, way_of_word, told_of_word, way_of_taken}
use Rattle.slub_core.specs.Steps.{rested, advance_at, told_at_once, told_of_alloc}
use Rattle.slub_core.specs.Run.{System, idle, turn}
use Rattle.slub_core.specs.Law.{IsCoherentSystem, IsRested, TakesStep}
use Rattle.slub_core.specs.Fresh.{IsWorded}
use Rattle.slub_core.specs.Spots.{notes_cpu}
use Rattle.slub_core.proofs.Packed.{IsCpuFit, IsSlabFit, cpu_in-bits, slab_in-bits}
use Rattle.slub_core.proofs.Update.{update_same, update_other, each_updated}
use Rattle.slub_core.proofs.StepWords.{IsTable, world_of-cpu, world_of-slab, slab-read}
use Rattle.slub_law_opening.specs.Opening.{Beside, setup_of, tid_of, cpu_at}
use Rattle.slub_law_opening.specs.Rests.{IsBetween, IsCpuOf, IsFreelistOf, Rests, slab_at}
use Rattle.slub_law_opening.specs.Closing.{HasLengths}
use Rattle.slub_law_opening.proofs.Cpus.{current-at}
use Rattle.slub_law_opening.proofs.Words.{chain-empty}
use Rattle.slub_law_alone.specs.Alone.{own_pick, alone, worker_at, known_under, IsAtRest, IsNext, HasIds}
use Rattle.slub_law_alone.specs.Laws.{IsAlloc, AllocatesAlone}
use Rattle.slub_law_alone.specs.Spent.{recalled, TakesOff, SpentSlabsAreTakenOff}
use Rattle.slub_law_alone.proofs.Apart.{plain_word}
use Rattle.slub_law_alone.proofs.Bits.{current_frame, whole_cpu, whole_slab}
use Rattle.slub_law_alone.proofs.Changed.{slab_by, rests_relisted, slab_as_it_was}
use Rattle.slub_law_alone.proofs.CpuWords.{cpus_changed}
use Rattle.slub_law_alone.proofs.DetachFirst.{loads_word, takes_slab}
use Rattle.slub_law_alone.proofs.Ended.{alone_keeps, ends_at_rest}
use Rattle.slub_law_alone.proofs.FastAlloc.{begin_alloc}
use Rattle.slub_law_alone.proofs.Recalled.{recalled_coherent}
use Rattle.slub_law_alone.proofs.NewSlabFill.{alone_then}
use Rattle.slub_law_alone.proofs.Renoted.{renoted, rested_alike}
use Rattle.slub_law_alone.proofs.RenotedTurns.{SystemsAlike, system_renoted, alone_alike, rests_renoted, named_same, times_same}
use Rattle.slub_law_alone.proofs.SpentLists.{lists_off, allocated}
use Rattle.slub_law_alone.proofs.Start.{IsStart, starts}
use Rattle.slub_law_alone.proofs.Turns.{machine, turn_goes, settle_goes, then_turn}
use Rattle.slub_law_alone.proofs.Workers.{at_front}
use Rattle.slub_calls.specs.Changes.{grown}
use Rattle.slub_calls.proofs.ChangeNumbers.{cpu_here}

-- a slab that is frozen or unfrozen is the same slab, with that mark
pub slab_marked : (z : Bool) (w u : World) (f : ℕ) → u.setup ≡ w.setup → u.value ≡ w.value → (u.slab f).objects ≡ (w.slab f).objects → (u.slab f).cache ≡ (w.slab f).cache → (u.slab f).frozen ≡ z → slab_at u f ≡ option_map (marked z) (slab_at w f)
slab_marked z w u f setup value objects cache frozen =
    ap (λ o. slab_by u f o (u.slab f).cache (u.slab f).frozen) objects ∙ ap (λ k. slab_by u f (w.slab f).objects k (u.slab f).frozen) cache ∙ ap (slab_by u f (w.slab f).objects (w.slab f).cache) frozen
    ∙ ap (λ m. slab_by (record u { setup = m }) f (w.slab f).objects (w.slab f).cache z) setup ∙ ap (λ values. slab_by (record u { setup = w.setup; value = values }) f (w.slab f).objects (w.slab f).cache z) value
    ∙ by (nat_lt 0 (objects_at w f))
  where
    at_it : Bool → Slab
    at_it z = record { cache = cache_at w f; order = order_at w f; objects = objects_at w f; frozen = z }

    by : (some : Bool) → cond {A = Option Slab} some (Some (at_it z)) None ≡ option_map (marked z) (cond some (Some (at_it (w.slab f).frozen)) None)
    by true = refl
    by false = refl

module _ (opening : World) (s : State) (b : Beside) (system : System) (x : ℕ) (call : Call) (place k f : ℕ) (rest : IsAtRest opening s b system) (next : IsNext system x call) (is : IsAlloc s call place k)
    (ids : HasIds b (cpu_number k (call_cpu call)) 2) (empty : (lists_of s k (call_cpu call)).free ≡ []) (current : (lists_of s k (call_cpu call)).current ≡ Some f) (none : own_free s f ≡ []) where
  abbrev m : Setup
  m = setup_of s b

  abbrev w : World
  w = world_of m system.value system.words

  abbrev l : Local
  l = worker_at system x

  abbrev n : ℕ
  n = cpu_number k (call_cpu call)

  abbrev c : CpuWord
  c = w.cpu n

  abbrev z : SlabWord
  z = w.slab f

  abbrev lists : CpuLists
  lists = lists_of s k (call_cpu call)

  begin : IsStart opening s b system x call
  begin = starts opening s b system x call rest next

  consistent : IsConsistent s
  consistent = begin.consistent

  resting : Rests s b w system.locals
  resting = rest.rests.rests

  lives : m.lives k ≡ true
  lives = subst (λ o. IfSome o (λ k. m.lives k ≡ true)) is.asks begin.may.cache

  inside : k < 32
  inside = begin.setup.live k lives

  cpu : call_cpu call < s.cpus
  cpu = begin.may.cpu

  small : n < 512
  small = omega (arith, inside, cpu, begin.few)

  number : n / 16 ≡ k
  number = omega (arith, cpu, begin.few)

  here : cpu_at s n ≡ lists
  here = cpu_here s k (call_cpu call) cpu begin.few

  cpu_is : IsCpuOf b w n lists
  cpu_is = subst (IsCpuOf b w n) here (resting.cpu n small)

  frame : c.frame ≡ f
  frame = current_frame c.frame f (sym cpu_is.current ∙ current)

  -- ---- the slab

  at_cpu : IsCurrent s (n / 16) f
  at_cpu = current-at s n f consistent (ap (λ (x : CpuLists). x.current) here ∙ current)

  within : (0 < f) × (f < s.frames)
  within = slab-inside s f at_cpu.slab consistent at_cpu.there

  slab_some : 1 ≤ z.objects
  slab_some = plain_word s b w system.locals begin.front.stands.chains resting begin.front.stands.listed.shaped f 0 at_cpu.slab at_cpu.there (objects-few s f at_cpu.slab consistent at_cpu.there).0 (ap (checked_of s) at_cpu.own ∙ at_cpu.unchecked)

  head : z.head ≡ 0
  head = chain-empty (pointer w z.cache f) z.head (own_free s f) (resting.own f).chain (ap (length {A = ℕ}) none)

  -- ---- the turns

  abbrev asked : Local
  asked = record l { spot = InAlloc LoadCpu; cache = k; cpu = call_cpu call; place = call_place call; fast = false; turn = 0; count = 0 }

  abbrev loaded : Local
  loaded = record asked { cpu_word = c; spot = InAlloc Detach }

  abbrev detached : Local
  detached = record loaded { spot = InAlloc LoadTaken; hands = hand_from c.frame c.head ∷ l.hands }

  abbrev seen : Local
  seen = record detached { slab_word = z; spot = InAlloc MarkFull }

  abbrev searches : Local
  searches = record seen { spot = InAlloc TakeList; hands = l.hands }

  abbrev d : CpuWord
  d = record { tid = c.tid + b.step; frame = 0; head = 0 }

  abbrev e : SlabWord
  e = record z { frozen = false }

  abbrev r : ℕ
  r = get_or system.words (slab_base + f) 0

  abbrev words1 : List ℕ
  words1 = set system.words (cpu_base + n) (cpu_bits d)

  abbrev words2 : List ℕ
  words2 = set words1 (slab_base + f) (slab_bits e)

  slab_reads : z ≡ slab_in r
  slab_reads = slab-read m system.value system.words f within.1

  slab_there : get_or words1 (slab_base + f) 0 ≡ r
  slab_there = get_or-set_other system.words (cpu_base + n) (slab_base + f) (cpu_bits d) 0 (λ e. absurd (omega (arith, e, small)))

  slab_hit : eqb (get_or words1 (slab_base + f) 0) (slab_bits z) ≡ true
  slab_hit = eq-eqb (get_or words1 (slab_base + f) 0) (slab_bits z) (slab_there ∙ sym (rest.whole.slab f within.1) ∙ ap slab_bits (sym slab_reads))

  spent_again : is_spent m d ≡ false
  spent_again = le-ltb (4294967295 - 2 * b.step) (c.tid + b.step) (omega (arith, ids, cpu_is.tid, rest.beside.step.1))

  turn1 : turn m (machine system.words system.value (set system.locals x l)) (own_pick x) ≡ machine system.words system.value (set system.locals x loaded)
  turn1 = loads_word opening s b system x call place k f rest next is (omega (arith, ids)) empty current

  turn2 : turn m (machine system.words system.value (set system.locals x loaded)) (own_pick x) ≡ machine words1 system.value (set system.locals x detached)
  turn2 = takes_slab opening s b system x call place k f rest next is (omega (arith, ids)) empty current

  turn3 : turn m (machine words1 system.value (set system.locals x detached)) (own_pick x) ≡ machine words1 system.value (set system.locals x seen)
  turn3 = turn_goes m words1 words1 system.value system.locals x detached detached seen (record { place = SlabOf f; op = Load }) (Word (get_or words1 (slab_base + f) 0)) next.there refl (ap (λ f. load_slab f) frame) (set-get_or words1 (slab_base + f) 0) refl
      (settle_goes m system.value detached seen (Word (get_or words1 (slab_base + f) 0)) leads refl refl)
    where
      by_word : SlabWord → Turn
      by_word z = record { local = record detached { slab_word = z; spot = way_of_taken z }; reply = None }

      way : way_of_taken z ≡ InAlloc MarkFull
      way = rw (eq-eqb z.head 0 head) refl

      leads : advance_at m system.value detached (InAlloc LoadTaken) (Word (get_or words1 (slab_base + f) 0)) ≡ goes seen
      leads = ap (λ y. by_word (slab_in y)) slab_there ∙ ap by_word (sym slab_reads) ∙ (λ i. record { local = record detached { slab_word = z; spot = way i }; reply = None })

  turn4 : turn m (machine words1 system.value (set system.locals x seen)) (own_pick x) ≡ machine words2 system.value (set system.locals x searches)
  turn4 = turn_goes m words1 words2 system.value system.locals x seen seen searches (record { place = SlabOf f; op = Exchange (slab_bits z) (slab_bits e) }) Won next.there refl (ap (λ f. change_slab seen f e) frame)
      (ap (λ h. set words1 (slab_base + f) (cond {A = ℕ} h (slab_bits e) (get_or words1 (slab_base + f) 0))) slab_hit) (ap (λ h. cond {A = Answer} h Won (Lost (get_or words1 (slab_base + f) 0))) slab_hit) (settle_goes m system.value seen searches Won refl refl refl)

  -- the machine after them
  abbrev far : System
  far = machine words2 system.value (set system.locals x searches)

  four_turns : alone m x 4 system ≡ far
  four_turns =
      ap (λ ls. alone m x 4 (machine system.words system.value ls)) (sym (set-get_or system.locals x idle))
      ∙ then_turn m x 3 (machine system.words system.value (set system.locals x l)) (machine system.words system.value (set system.locals x loaded)) far turn1
      (then_turn m x 2 (machine system.words system.value (set system.locals x loaded)) (machine words1 system.value (set system.locals x detached)) far turn2
      (then_turn m x 1 (machine words1 system.value (set system.locals x detached)) (machine words1 system.value (set system.locals x seen)) far turn3
      (then_turn m x 0 (machine words1 system.value (set system.locals x seen)) far far turn4 refl)))

  -- ---- were the worker between two calls

  abbrev waits : Local
  waits = record searches { spot = Between }

  abbrev taken : System
  taken = machine words2 system.value (set system.locals x waits)

  coherent_far : IsCoherentSystem m opening far
  coherent_far = subst (IsCoherentSystem m opening) four_turns (alone_keeps m opening x 4 system rest.coherent)

  -- its next call takes a step
  takes_step : IsRested m waits
  takes_step _ = subst (TakesStep m waits) (sym next.todo) (ap (told_at_once m (get_or l.known (call_place call) nobody) call) is.kind ∙ ap told_of_alloc is.asks)

  coherent : IsCoherentSystem m opening taken
  coherent = recalled_coherent m opening words2 system.value system.locals x searches next.there refl takes_step coherent_far

  -- ---- the lists

  fit_d : IsCpuFit d
  fit_d = (omega (arith, ids, cpu_is.tid), omega arith, omega arith)

  fit_e : IsSlabFit e
  fit_e = ((resting.words.slab f).0, (resting.words.slab f).1, (resting.words.slab f).2, (resting.words.slab f).3)

  abbrev u : World
  u = record w { cpu = update w.cpu n d; slab = update w.slab f e }

  table1 : IsTable m words1
  table1 = record { length = length-set system.words (cpu_base + n) (cpu_bits d) ∙ begin.table.length; locks = refl; cpu_words = refl; frames = begin.table.frames; objects = begin.table.objects }

  says : world_of m system.value words2 ≡ u
  says = world_of-slab m system.value words1 f (slab_bits e) table1 within.1
      ∙ ap (λ w. set_slab w f (slab_in (slab_bits e))) (world_of-cpu m system.value system.words n (cpu_bits d) begin.table small ∙ ap (set_cpu w n) (cpu_in-bits d fit_d)) ∙ ap (set_slab (set_cpu w n d) f) (slab_in-bits e fit_e)

  abbrev left : CpuLists
  left = record { current = None; free = []; partial = lists.partial }

  abbrev t : State
  t = retired s k (call_cpu call) f

  abbrev b1 : Beside
  b1 = grown b n 1

  place_below : cpu_place s k (call_cpu call) < length s.cpu_lists
  place_below = place-inside s k (call_cpu call) rest.lists.shaped inside cpu

  worker_rests : IsBetween w.setup waits
  worker_rests = record {
    between = refl;
    hands = begin.between.hands;
    string = begin.between.string;
    run = begin.between.run;
    packed = record { cpu_word = resting.words.cpu n; slab_word = resting.words.slab f; list_word = begin.between.packed.list_word; next = begin.between.packed.next };
    cpu = subst (λ (m : Setup). call_cpu call < m.cpus) (sym resting.setup) begin.may.cpu;
    numbers = begin.between.numbers;
    some = begin.between.some;
  }

  at_word : (P : ℕ → SlabWord → Type 0) → P f e → ((g : ℕ) → P g (w.slab g)) → (g : ℕ) → P g (update w.slab f e g)
  at_word P here there = each_updated w.slab f e P here (λ g d. there g)

  own_ends : (g : ℕ) → IsFreelistOf u g (own_free s g)
  own_ends g = record {
    chain = at_word (λ g (c : SlabWord). IsChain (pointer w c.cache g) c.head (own_free s g)) (resting.own f).chain (λ g. (resting.own g).chain) g;
    in_use = at_word (λ g (c : SlabWord). c.inuse + length (own_free s g) ≡ c.objects) (resting.own f).in_use (λ g. (resting.own g).in_use) g;
  }

  slabs_are : (g : ℕ) → get_or (set s.slabs f (option_map (marked false) (slab_of s f))) g None ≡ slab_at u g
  slabs_are g = elim (cases_eq g f) [
    | inl same ↦ ap (λ g. get_or (set s.slabs f (option_map (marked false) (slab_of s f))) g None) same ∙ get_or-set_same s.slabs f (option_map (marked false) (slab_of s f)) None (omega (arith, within.1, rest.lists.shaped.slabs)) ∙ ap (option_map (marked false)) (resting.slab f)
        ∙ sym (slab_marked false w u f refl refl (ap (λ (c : SlabWord). c.objects) (update_same w.slab f e)) (ap (λ (c : SlabWord). c.cache) (update_same w.slab f e)) (ap (λ (c : SlabWord). c.frozen) (update_same w.slab f e))) ∙ ap (slab_at u) (sym same)
    | inr other ↦ get_or-set_other s.slabs f g (option_map (marked false) (slab_of s f)) None other ∙ resting.slab g ∙ sym (slab_as_it_was w u g refl refl (update_other w.slab f e g other))
  ]

  ends : Rests t b1 u (set system.locals x waits)
  ends = rests_relisted s b w system.locals (set s.slabs f (option_map (marked false) (slab_of s f))) s.frees (set s.cpu_lists (cpu_place s k (call_cpu call)) left) s.memory s.board s.gone s.live (set b.tids n (tid_of b n + 1 * b.step))
      (update w.cpu n d) w.list (update w.slab f e) w.link w.board w.memory (set system.locals x waits) resting
      refl
      (let front = at_front m opening taken x (omega (arith, next.there, length-set system.locals x waits)) coherent in subst IsWorded says front.stands.fresh.worded)
      (All-set (IsBetween w.setup) system.locals x waits worker_rests resting.workers)
      (cpus_changed s b w k (call_cpu call) left d (tid_of b n + 1 * b.step) (update w.slab f e) w.memory cpu begin.few place_below (omega (arith, small, rest.beside.tids)) resting.cpu (omega (arith, cpu_is.tid)) refl refl refl (λ n below away. (resting.cpu n below).free))
      slabs_are
      (at_word (λ g (c : SlabWord). 1 ≤ c.objects → checked_of s c.cache ≡ None) (resting.unchecked f) (λ g. resting.unchecked g))
      (at_word (λ g (c : SlabWord). c.objects ≡ 0 → c.frozen ≡ false) (λ _. refl) (λ g. resting.unslabbed g))
      (at_word (λ g (c : SlabWord). c.listed ≡ nat_lt 0 (times g (node_of s c.cache))) (resting.listed f) (λ g. resting.listed g))
      own_ends
      (λ o. resting.named o ∙ sym (named_same w system.locals x waits refl refl o))
      (λ o. let same = times_same w system.locals x waits next.there refl o in let once = resting.once o in omega (arith, same, once))
      (λ o word h there. resting.contents o word h there) resting.no_zero

  lengths : HasLengths t
  lengths = record {
    slabs = length-set s.slabs f (option_map (marked false) (slab_of s f)) ∙ rest.lists.shaped.slabs;
    frees = rest.lists.shaped.frees;
    cpu_lists = length-set s.cpu_lists (cpu_place s k (call_cpu call)) left ∙ rest.lists.shaped.cpu_lists;
    nodes = rest.lists.shaped.nodes;
    checked = rest.lists.shaped.checked.numbers;
    memory = rest.lists.shaped.memory;
    gone = rest.lists.shaped.gone;
    live = rest.lists.shaped.live;
  }

  taken_rests : IsAtRest opening t b1 taken
  taken_rests = ends_at_rest opening u s t b b1 system taken rest refl refl refl lengths rest.lists.accounted (length-set b.tids n (tid_of b n + 1 * b.step) ∙ rest.beside.tids) refl refl coherent says ends
      (whole_slab m words1 f e refl (omega (arith, table1.length, within.1)) fit_e (whole_cpu m system.words n (cpu_bits d) refl small rest.whole))

  has_id : HasIds b1 n 1
  has_id = let e = get_or-set_same b.tids n (tid_of b n + 1 * b.step) 0 (omega (arith, small, rest.beside.tids)) in omega (arith, e, ids)

  -- ---- the first turn from there

  abbrev searches_too : Local
  searches_too = record searches { cpu_word = d }

  abbrev near : System
  near = machine words2 system.value (set system.locals x searches_too)

  first_turn : turn m taken (own_pick x) ≡ near
  first_turn = turn_goes m words2 words2 system.value system.locals x waits (record searches { spot = InAlloc LoadCpu }) searches_too (record { place = CpuOf n; op = Load }) (Word y) next.there
      (begin_alloc m waits call next.calls k refl next.todo is.kind is.asks (ap is_some is.unchecked)) refl (set-get_or words2 (cpu_base + n) 0) refl
      (settle_goes m system.value (record searches { spot = InAlloc LoadCpu }) searches_too (Word y) leads refl refl)
    where
      y : ℕ
      y = get_or words2 (cpu_base + n) 0

      reads : d ≡ cpu_in (get_or words2 (cpu_base + n) 0)
      reads = sym (ap cpu_in (get_or-set_other words1 (slab_base + f) (cpu_base + n) (slab_bits e) 0 (λ e. absurd (omega (arith, e, small))) ∙ get_or-set_same system.words (cpu_base + n) (cpu_bits d) 0 (omega (arith, small, begin.table.length))) ∙ cpu_in-bits d fit_d)

      by_word : CpuWord → Turn
      by_word z = record { local = record searches { cpu_word = z; spot = way_of_word m false z }; reply = told_of_word m false z }

      way : way_of_word m false d ≡ InAlloc TakeList
      way = rw spent_again refl

      says : told_of_word m false d ≡ None
      says = rw spent_again refl

      leads : advance_at m system.value (record searches { spot = InAlloc LoadCpu }) (InAlloc LoadCpu) (Word (get_or words2 (cpu_base + n) 0)) ≡ goes searches_too
      leads = ap by_word (sym reads) ∙ (λ i. record { local = record searches { cpu_word = d; spot = way i }; reply = says i })

  -- the two machines differ in nothing but the CPU word that the worker has noted
  alike : SystemsAlike m c x near far
  alike = inr (
    sym (ap (λ l. machine words2 system.value (set (set system.locals x searches_too) x (renoted c l))) (get_or-set_same system.locals x searches_too idle next.there) ∙ ap (machine words2 system.value) (set-set system.locals x searches_too searches)),
    ap (λ (l : Local). notes_cpu l.spot) (get_or-set_same system.locals x searches_too idle next.there),
  )

  -- ---- as a CPU without a slab goes on

  same_worker : worker_at taken x ≡ waits
  same_worker = get_or-set_same system.locals x waits idle next.there

  module _ (turns : ℕ) (d1 : Beside) (allocates : AllocatesAlone opening t b1 taken x call place (1 + turns) d1) where
    -- where it comes to without the slab, and with it
    abbrev end : System
    end = alone m x turns near

    abbrev own_end : System
    own_end = alone m x turns far

    ran : alone m x (1 + turns) taken ≡ end
    ran = alone_then m x 1 turns (1 + turns) taken near end refl first_turn refl

    own_ran : alone m x (4 + turns) system ≡ own_end
    own_ran = alone_then m x 4 turns (4 + turns) system far own_end refl four_turns refl

    same_setup : setup_of allocates.given d1 ≡ m
    same_setup = allocates.replies.setup

    end_rests : IsAtRest opening allocates.given d1 end
    end_rests = subst (IsAtRest opening allocates.given d1) ran allocates.replies.rest

    end_others : end.locals ≡ set system.locals x (worker_at end x)
    end_others =
        subst (λ (r : System). r.locals ≡ set taken.locals x (worker_at r x)) ran allocates.replies.others
        ∙ set-set system.locals x waits (worker_at end x)

    abbrev told : Local
    told = allocates.replies.replied.told

    end_worker : worker_at end x ≡ rested m told
    end_worker = subst (λ (r : System). worker_at r x ≡ rested m told) ran allocates.replies.replied.rested

    done : told.done ≡ record { call = call; reply = allocates.reply } ∷ l.done
    done = allocates.replies.replied.done ∙ ap (λ (l : Local). to_done l.done) same_worker
      where
        to_done : List Answered → List Answered
        to_done ds = record { call = call; reply = allocates.reply } ∷ ds

    todo : told.todo ≡ drop 1 l.todo
    todo = allocates.replies.replied.todo ∙ ap (λ (l : Local). drop 1 l.todo) same_worker

    abbrev known_by : List Known → List Known
    known_by ks = if is_given allocates.reply then set ks (call_place call) (known_under allocates.after (call_object call)) else ks

    known : (worker_at end x).known ≡ known_by l.known
    known = subst (λ (r : System). (worker_at r x).known ≡ known_by (worker_at taken x).known) ran allocates.known ∙ ap (λ (l : Local). known_by l.known) same_worker

    abbrev GoesOn : Type 0
    GoesOn = (done : AllocatesAlone opening s b system x call place (4 + turns) d1) × (done.reply ≡ allocates.reply)

    -- with where it stands in the end, and what it was told
    ends_with : (r : System) (says : Local) → own_end ≡ r → worker_at r x ≡ rested m says → says.spot ≡ told.spot → says.worker ≡ told.worker → (worker_at r x).known ≡ (worker_at end x).known → says.done ≡ told.done → says.todo ≡ told.todo → IsAtRest opening allocates.given d1 r → r.locals ≡ set system.locals x (worker_at r x) → GoesOn
    ends_with r says comes stands same_spot same_number same_known same_done same_todo rests others =
        let whole = own_ran ∙ comes in (
          record {
            reply = allocates.reply;
            after = allocates.after;
            allocates = allocated s k (call_cpu call) f consistent inside cpu empty current none place l.worker (call_object call) allocates.reply allocates.after is.named is.unchecked
                (subst (λ (l : Local). AllocatesNamed t place (call_cpu call) l.worker (call_object call) allocates.reply allocates.after) same_worker allocates.allocates);
            given = allocates.given;
            words = allocates.words;
            replies = record {
              setup = same_setup;
              rest = subst (IsAtRest opening allocates.given d1) (sym whole) rests;
              replied = record { told = says; between = same_spot ∙ allocates.replies.replied.between; number = same_number ∙ allocates.replies.replied.number ∙ ap (λ (l : Local). l.worker) same_worker; done = same_done ∙ done; todo = same_todo ∙ todo; rested = ap (λ (r : System). worker_at r x) whole ∙ stands };
              others = ap (λ (r : System). r.locals) whole ∙ others ∙ ap (λ (r : System). set system.locals x (worker_at r x)) (sym whole);
            };
            known = ap (λ (r : System). (worker_at r x).known) whole ∙ same_known ∙ known;
          },
          refl,
        )

    -- a worker that has noted another CPU word
    below : x < length end.locals
    below = let a = ap (length {A = Local}) end_others in let e = length-set system.locals x (worker_at end x) in omega (arith, a, e, next.there)

    renoted_rests : own_end ≡ system_renoted m c x end → IsAtRest opening allocates.given d1 (system_renoted m c x end)
    renoted_rests is = record {
      lists = end_rests.lists;
      beside = end_rests.beside;
      rests = record {
        count = end_rests.rests.count;
        rests = rests_renoted allocates.given d1 (world_of (setup_of allocates.given d1) end.value end.words) end.locals x c (resting.words.cpu n) below end_rests.rests.rests;
      };
      whole = end_rests.whole;
      coherent = subst (λ m. IsCoherentSystem m opening (system_renoted m c x end)) (sym same_setup) (subst (IsCoherentSystem m opening) (own_ran ∙ is) (alone_keeps m opening x (4 + turns) system rest.coherent));
    }

    goes_on : GoesOn
    goes_on = elim (alone_alike m c x turns near far (let e = length-set system.locals x searches_too in omega (arith, e, next.there)) alike) [
      | inl e ↦ ends_with end told e end_worker refl refl refl refl refl end_rests end_others
      | inr e ↦
          let here = get_or-set_same end.locals x (renoted c (worker_at end x)) idle below in
          ends_with (system_renoted m c x end) (renoted c told) e.0 (here ∙ ap (renoted c) end_worker ∙ sym (rested_alike m c told).0) refl refl (ap (λ (l : Local). l.known) here) refl refl (renoted_rests e.0)
          (ap (λ ls. set ls x (renoted c (worker_at end x))) end_others ∙ set-set system.locals x (worker_at end x) (renoted c (worker_at end x)) ∙ ap (set system.locals x) (sym here))
    ]

  takes_off : TakesOff opening s b system x call place k f
  takes_off = record {
    taken = taken;
    ran = sym (ap (recalled x) four_turns ∙ back);
    rest = taken_rests;
    next = record { there = let e = length-set system.locals x waits in omega (arith, e, next.there); calls = next.calls; todo = ap (λ (l : Local). l.todo) same_worker ∙ next.todo };
    same = record {
      worker = ap (λ (l : Local). l.worker) same_worker;
      known = ap (λ (l : Local). l.known) same_worker;
      todo = ap (λ (l : Local). l.todo) same_worker;
      done = ap (λ (l : Local). l.done) same_worker;
    };
    others = ap (set system.locals x) (sym same_worker);
    alloc = record { kind = is.kind; named = is.named; asks = is.asks; unchecked = is.unchecked };
    ids = has_id;
    lists = lists_off s k (call_cpu call) f consistent inside cpu empty current none;
    goes_on = goes_on;
  }
    where
      back : recalled x far ≡ taken
      back = ap stands (get_or-set_same system.locals x searches idle next.there) ∙ ap (λ ls. record taken { locals = ls }) (set-set system.locals x searches waits)
        where
          stands : Local → System
          stands l = record far { locals = set far.locals x (record l { spot = Between }) }

pub taken_off : SpentSlabsAreTakenOff
taken_off opening s b system x call place k f rest next is ids empty current none = takes_off opening s b system x call place k f rest next is ids empty current none
