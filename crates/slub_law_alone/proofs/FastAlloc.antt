-- An allocation that finds an object in its CPU's freelist: the CPU word is loaded, then the object's free pointer, and the object is taken.
use Rattle.std.proofs.Common.{◌≡◌, ◌≢◌, ℕ, suc, ◌+◌, ◌-◌, ◌*◌, ◌/◌, ◌%◌, ◌^◌, ◌<◌, ◌≤◌, eqb, cond, Bool, true, false, List, ◌∷◌, length, get_or, set, Option, Some, None, inl, inr, refl, ap, sym, ◌∙◌, subst, arith}
use Rattle.std.specs.Prelude.{is_some, IfSome, MatchOption, MatchResult}
use Rattle.std.specs.Option.{option_map_or}
use Rattle.std.proofs.lemmas.Bool.{cases_eq, false≢true, eq-eqb, ne_eqb, le-ltb, cond-false}
use Rattle.std.proofs.lemmas.List.{get_or-set_same, get_or-set_other, set-get_or, length-set}
use Rattle.std.proofs.lemmas.List.Elements.{All-get_or, All-set}
use Rattle.slub_common.specs.Times.{times}
use Rattle.slub_trace.specs.Kinds.{is_given}
use Rattle.slub_trace.specs.declared.reply.Reply.{Reply}
use Rattle.slub_trace.specs.declared.reply.Reply.TheVariants.{Given, NoSuchCache}
use Rattle.slub_object_layout.specs.Layout.{address_of, no_layout}
use Rattle.slub_cache_create.specs.declared.caches.Cache.{Cache}
use Rattle.slub_words.specs.declared.cpu.CpuWord.{CpuWord}
use Rattle.slub_words.specs.Words.{cpu_bits}
use Rattle.slub_lists.specs.declared.lists.CpuLists.{CpuLists}
use Rattle.slub_lists.specs.declared.lists.Held.{Held}
use Rattle.slub_lists.specs.State.{State}
use Rattle.slub_lists.specs.Alloc.{lists_of, cache_of, checked_of, named, cpu_place, slab_of, with_given, with_lists, from_free, batch_of, AllocatesNew, Gives}
use Rattle.slub_lists.specs.Named.{AllocatesNamed, AllocatesFrom}
use Rattle.slub_lists.specs.Coherent.{IsConsistent, IsAccounted, held_under}
use Rattle.slub_lists.specs.Places.{layout_at}
use Rattle.slub_lists.proofs.Accounted.{accounted-with_held}
use Rattle.slub_lists.proofs.Coherence.{place-inside}
use Rattle.slub_lists.proofs.Giving.{from-unchecked}
use Rattle.slub_lists.proofs.Kept.{consistent-of}
use Rattle.slub_lists.proofs.Places.{objects-few}
use Rattle.slub_core.specs.declared.call.Call.{Call}
use Rattle.slub_core.specs.declared.call.CallKind.{CallKind}
use Rattle.slub_core.specs.declared.call.CallKind.TheVariants.{Alloc}
use Rattle.slub_core.specs.declared.local.Known.{Known}
use Rattle.slub_core.specs.declared.spot.Spot.TheVariants.{Between, InAlloc}
use Rattle.slub_core.specs.declared.spot.AllocSpot.TheVariants.{LoadCpu, LoadNext, Pop}
use Rattle.slub_core.specs.declared.step.Answer.{Answer}
use Rattle.slub_core.specs.declared.step.Answer.TheVariants.{Word, Won, Lost}
use Rattle.slub_core.specs.declared.step.Op.TheVariants.{Load, Exchange}
use Rattle.slub_core.specs.declared.step.Place.TheVariants.{CpuOf, MemoryOf}
use Rattle.slub_core.specs.Calls.{call_kind, call_cpu, call_cache, call_object, call_place}
use Rattle.slub_core.specs.Setup.{Setup, IsSetup, cpu_number, pointer_at, hardened}
use Rattle.slub_core.specs.Words.{cpu_in, cpu_base, memory_base}
use Rattle.slub_core.specs.World.{World, update, set_cpu, pointer, exists_at, IsChain, world_from, world_of, one_if}
use Rattle.slub_core.specs.Local.{Local, Turn, nobody, at, gets, answered, goes}
use Rattle.slub_core.specs.Alloc.{is_spent, way_of_word, told_of_word}
use Rattle.slub_core.specs.Replies.{names_object}
use Rattle.slub_core.specs.Steps.{begun, begun_at, begun_with, cache_for, first_spot, first_cpu, rested, advance_at}
use Rattle.slub_core.specs.Run.{System, idle, turn}
use Rattle.slub_core.specs.Law.{IsCoherentSystem}
use Rattle.slub_core.specs.Fresh.{IsWorded}
use Rattle.slub_core.proofs.Apart.{word-inside}
use Rattle.slub_core.proofs.Chains.{IsChain-first, Leads-small}
use Rattle.slub_core.proofs.Exists.{head-exists, head-slab}
use Rattle.slub_core.proofs.Lists.{times-first}
use Rattle.slub_core.proofs.MayBegin.{MayBegin}
use Rattle.slub_core.proofs.Packed.{IsCpuFit, cpu_in-bits}
use Rattle.slub_core.proofs.Slots.{IsWordOf, pointer-word}
use Rattle.slub_core.proofs.StepWords.{IsTable, world_of-cpu, cpu-read, memory-read}
use Rattle.slub_law_opening.specs.Opening.{Beside, setup_of, tid_of, cpu_at}
use Rattle.slub_law_opening.specs.Rests.{IsBetween, IsCpuOf, Rests, named as named_in, times_named}
use Rattle.slub_law_opening.specs.Closing.{HasLengths}
use Rattle.slub_law_opening.proofs.Cpus.{current-at, cpu-alone, cpu-object}
use Rattle.slub_law_opening.proofs.Words.{chain-some}
use Rattle.slub_law_alone.specs.Alone.{own_pick, alone, worker_at, IsAtRest, IsNext, HasIds}
use Rattle.slub_law_alone.specs.Laws.{IsAlloc, AllocatesAlone, FastAllocationsArePops}
use Rattle.slub_law_alone.proofs.Bits.{bits_in, keeps_small, object_once, memory_of, copied, copied_length, whole_cpu}
use Rattle.slub_law_alone.proofs.Changed.{rests_changed, setup_same, same_word}
use Rattle.slub_law_alone.proofs.CpuWords.{cpus_changed}
use Rattle.slub_law_alone.proofs.Ended.{alone_keeps, ends_at_rest, replies_of}
use Rattle.slub_law_alone.proofs.Knows.{known_ends, knows_given}
use Rattle.slub_law_alone.proofs.Names.{named_other, named_held, named_new}
use Rattle.slub_law_alone.proofs.Turns.{machine, turn_goes, settle_goes, settle_tells, then_turn}
use Rattle.slub_law_alone.proofs.Workers.{AtFront, at_front, may_call, once_named, IsWithCalls, rested_calls}
use Rattle.slub_calls.specs.Changes.{grown}
use Rattle.slub_calls.proofs.ChangeNumbers.{cpu_here}

-- the worker begins the call
pub begin_alloc : (m : Setup) (l : Local) (call : Call) (calls : List Call) (k : ℕ) → l.spot ≡ Between → l.todo ≡ call ∷ calls → call_kind call ≡ Alloc → call_cache call ≡ Some k → m.checks k ≡ false
    → begun m false l ≡ record l { spot = InAlloc LoadCpu; cache = k; cpu = call_cpu call; place = call_place call; fast = false; turn = 0; count = 0 }
begin_alloc m l call calls k between todo kind asks plain =
    ap (begun_at m false l) between ∙ ap (begun_with m false l) todo ∙ ap (λ kind. by kind (call_cache call)) kind ∙ ap (by Alloc) asks ∙ ap last plain
  where
    by : CallKind → Option ℕ → Local
    by kind named =
        let known = get_or l.known (call_place call) nobody in
        let cache = cache_for m known named kind in
        record l { spot = first_spot kind (m.checks cache) known.held; cache = cache; cpu = first_cpu kind (call_cpu call); place = call_place call; fast = false; turn = 0; count = 0 }

    last : Bool → Local
    last z = record l { spot = first_spot Alloc z (get_or l.known (call_place call) nobody).held; cache = k; cpu = call_cpu call; place = call_place call; fast = false; turn = 0; count = 0 }

module _ (opening : World) (s : State) (b : Beside) (system : System) (x : ℕ) (call : Call) (place k : ℕ) (rest : IsAtRest opening s b system) (next : IsNext system x call) (is : IsAlloc s call place k)
    (ids : HasIds b (cpu_number k (call_cpu call)) 1) (some : 0 < length (lists_of s k (call_cpu call)).free) where
  abbrev m : Setup
  m = setup_of s b

  abbrev w : World
  w = world_of m system.value system.words

  abbrev l : Local
  l = worker_at system x

  abbrev n : ℕ
  n = cpu_number k (call_cpu call)

  abbrev c : CpuWord
  c = w.cpu n

  abbrev lists : CpuLists
  lists = lists_of s k (call_cpu call)

  consistent : IsConsistent s
  consistent = consistent-of s rest.lists

  front : AtFront m opening system x
  front = at_front m opening system x next.there rest.coherent

  may : MayBegin m l call
  may = may_call m opening system x call next.calls front next.todo

  resting : Rests s b w system.locals
  resting = rest.rests.rests

  between : IsBetween w.setup l
  between = All-get_or (IsBetween w.setup) system.locals x idle next.there resting.workers

  setup : IsSetup m
  setup = subst IsSetup resting.setup front.stands.fresh.setup

  lives : m.lives k ≡ true
  lives = subst (λ o. IfSome o (λ k. m.lives k ≡ true)) is.asks may.cache

  inside : k < 32
  inside = setup.live k lives

  cpu : call_cpu call < s.cpus
  cpu = may.cpu

  few : s.cpus ≤ 16
  few = rest.lists.shaped.cpus.1

  small : n < 512
  small = omega (arith, inside, cpu, few)

  number : n / 16 ≡ k
  number = omega (arith, cpu, few)

  here : cpu_at s n ≡ lists
  here = cpu_here s k (call_cpu call) cpu few

  cpu_is : IsCpuOf b w n lists
  cpu_is = subst (IsCpuOf b w n) here (resting.cpu n small)

  table : IsTable m system.words
  table = record { length = rest.rests.count; locks = refl; cpu_words = refl; frames = omega (arith, setup.frames); objects = rest.beside.objects.0 }

  names : names_object (call_kind call) ≡ true
  names = ap names_object is.kind

  -- ---- the object

  chain : IsChain (pointer w k c.frame) c.head lists.free
  chain = subst (λ q. IsChain (pointer w q c.frame) c.head lists.free) number cpu_is.free

  head : 1 ≤ c.head
  head = chain-some (pointer w k c.frame) c.head lists.free chain some

  first : (ys : List ℕ) × (lists.free ≡ (c.head - 1) ∷ ys) × IsChain (pointer w k c.frame) (pointer w k c.frame (c.head - 1)) ys
  first = IsChain-first (pointer w k c.frame) c.head lists.free head chain

  words_below : n < w.setup.cpu_words
  words_below = omega (arith, small, ap (λ (m : Setup). m.cpu_words) resting.setup)

  exists : 1 ≤ exists_at w c.frame (c.head - 1)
  exists = (head-exists w front.stands.chains (front.worker ∷ front.others) n front.stands.placed front.stands.listed words_below head).1

  slab : (c.frame ≢ 0) × ((w.slab c.frame).cache ≡ n / 16)
  slab = head-slab w front.stands.chains (front.worker ∷ front.others) n front.stands.placed front.stands.listed words_below head

  current : lists.current ≡ Some c.frame
  current = cpu_is.current ∙ cond-false {A = Option ℕ} (eqb c.frame 0) None (Some c.frame) (ne_eqb c.frame 0 slab.0)

  current_at : (cpu_at s n).current ≡ Some c.frame
  current_at = ap (λ (x : CpuLists). x.current) here ∙ current

  abbrev p : ℕ
  p = pointer_at m k c.frame (c.head - 1)

  p_inside : p < 512 * m.frames
  unfolding world_of world_from
  p_inside = word-inside w (front.worker ∷ front.others) c.frame (c.head - 1) p front.stands exists (subst (λ q. IsWordOf (m.layout q) c.frame (c.head - 1) p) (sym (slab.1 ∙ number)) (pointer-word m k c.frame (c.head - 1) setup lives))

  abbrev follows : ℕ
  follows = hardened k p (get_or system.words (memory_base m + p) 0) % 2 ^ 16

  member : (j : ℕ) → 1 ≤ times j first.0 → suc j < 2 ^ 16
  member j has =
      let t = times-first j (c.head - 1) first.0 in
      let has' : 1 ≤ times j (cpu_at s n).free = subst (λ (x : CpuLists). 1 ≤ times j x.free) (sym here) (subst (λ free. 1 ≤ times j free) (sym first.1) (omega (arith, t, has))) in
      let o = cpu-object s n c.frame j consistent current_at has' in
      let at' = current-at s n c.frame consistent current_at in
      let few' = objects-few s c.frame at'.slab consistent at'.there in
      omega (arith, o, few'.1)

  follows_is : follows ≡ pointer w k c.frame (c.head - 1)
  unfolding world_of world_from
  follows_is = ap (λ q. hardened k p q % 2 ^ 16) (sym (memory-read m system.value system.words p p_inside))
      ∙ keeps_small (pointer w k c.frame (c.head - 1)) (Leads-small (pointer w k c.frame) (pointer w k c.frame (c.head - 1)) first.0 member first.2)

  -- ---- the turns

  abbrev asked : Local
  asked = record l { spot = InAlloc LoadCpu; cache = k; cpu = call_cpu call; place = call_place call; fast = false; turn = 0; count = 0 }

  abbrev loaded : Local
  loaded = record asked { cpu_word = c; spot = InAlloc LoadNext }

  abbrev followed : Local
  followed = record loaded { next = follows; spot = InAlloc Pop }

  abbrev known : Known
  known = record { object = (get_or l.known (call_place call) nobody).object; frame = c.frame; index = c.head - 1; cache = k; held = true }

  abbrev has : Local
  has = at (gets followed k c.frame (c.head - 1)) Between

  abbrev reply : Reply
  reply = Given (address_of c.frame (c.head - 1) (layout_at s k))

  abbrev told : Local
  told = answered has reply

  abbrev v : CpuWord
  v = record { tid = c.tid + b.step; frame = c.frame; head = follows }

  abbrev q : ℕ
  q = get_or system.words (cpu_base + n) 0

  abbrev words : List ℕ
  words = set system.words (cpu_base + n) (cpu_bits v)

  reads : c ≡ cpu_in q
  reads = cpu-read m system.value system.words n small

  hit : eqb q (cpu_bits c) ≡ true
  hit = eq-eqb q (cpu_bits c) (sym (bits_in q) ∙ ap cpu_bits (sym reads))

  spent : is_spent m c ≡ false
  spent = le-ltb (4294967295 - 2 * b.step) c.tid (omega (arith, ids, cpu_is.tid, rest.beside.step.1))

  begins : begun m false l ≡ asked
  begins = begin_alloc m l call next.calls k between.between next.todo is.kind is.asks (ap is_some is.unchecked)

  leads : advance_at m system.value asked (InAlloc LoadCpu) (Word q) ≡ goes loaded
  leads = ap by_word (sym reads) ∙ (λ i. record { local = record asked { cpu_word = c; spot = way i }; reply = says i })
    where
      by_word : CpuWord → Turn
      by_word z = record { local = record asked { cpu_word = z; spot = way_of_word m false z }; reply = told_of_word m false z }

      way : way_of_word m false c ≡ InAlloc LoadNext
      way = rw (spent, ne_eqb c.head 0 (λ z. absurd (omega (arith, z, head)))) refl

      says : told_of_word m false c ≡ None
      says = rw spent refl

  turn1 : turn m (machine system.words system.value (set system.locals x l)) (own_pick x) ≡ machine system.words system.value (set system.locals x loaded)
  turn1 = turn_goes m system.words system.words system.value system.locals x l asked loaded (record { place = CpuOf n; op = Load }) (Word q) next.there begins refl (set-get_or system.words (cpu_base + n) 0) refl
      (settle_goes m system.value asked loaded (Word q) leads refl refl)

  turn2 : turn m (machine system.words system.value (set system.locals x loaded)) (own_pick x) ≡ machine system.words system.value (set system.locals x followed)
  turn2 = turn_goes m system.words system.words system.value system.locals x loaded loaded followed (record { place = MemoryOf p; op = Load }) (Word (get_or system.words (memory_base m + p) 0)) next.there refl refl (set-get_or system.words (memory_base m + p) 0) refl
      (settle_goes m system.value loaded followed (Word (get_or system.words (memory_base m + p) 0)) refl refl refl)

  turn3 : turn m (machine system.words system.value (set system.locals x followed)) (own_pick x) ≡ machine words system.value (set system.locals x (rested m told))
  turn3 = turn_goes m system.words words system.value system.locals x followed followed (rested m told) (record { place = CpuOf n; op = Exchange (cpu_bits c) (cpu_bits v) }) Won next.there refl refl
      (ap (λ z. set system.words (cpu_base + n) (cond {A = ℕ} z (cpu_bits v) q)) hit) (ap (λ z. cond {A = Answer} z Won (Lost q)) hit) (settle_tells m system.value followed has Won reply refl refl)

  whole : alone m x 3 system ≡ machine words system.value (set system.locals x (rested m told))
  whole = ap (alone m x 3) (ap (machine system.words system.value) (sym (set-get_or system.locals x idle)))
      ∙ then_turn m x 2 (machine system.words system.value (set system.locals x l)) (machine system.words system.value (set system.locals x loaded)) (machine words system.value (set system.locals x (rested m told))) turn1
      (then_turn m x 1 (machine system.words system.value (set system.locals x loaded)) (machine system.words system.value (set system.locals x followed)) (machine words system.value (set system.locals x (rested m told))) turn2
      (then_turn m x 0 (machine system.words system.value (set system.locals x followed)) (machine words system.value (set system.locals x (rested m told))) (machine words system.value (set system.locals x (rested m told))) turn3 refl))

  -- ---- where they end

  ended : IsCoherentSystem m opening (machine words system.value (set system.locals x (rested m told)))
  ended = subst (IsCoherentSystem m opening) whole (alone_keeps m opening x 3 system rest.coherent)

  fit : IsCpuFit v
  fit = (omega (arith, ids, cpu_is.tid), (resting.words.cpu n).1, omega arith)

  says : world_of m system.value words ≡ set_cpu w n v
  says = world_of-cpu m system.value system.words n (cpu_bits v) table small ∙ ap (set_cpu w n) (cpu_in-bits v fit)

  abbrev left : CpuLists
  left = record { current = Some c.frame; free = first.0; partial = lists.partial }

  abbrev held : Held
  held = record { frame = c.frame; index = c.head - 1; cache = k; worker = Some l.worker }

  abbrev after : State
  after = with_given s k (call_cpu call) left (call_object call) held

  abbrev given : State
  given = record after { memory = memory_of w (512 * s.frames) }

  abbrev d : Beside
  d = grown b n 1

  calls : IsWithCalls told (rested m told)
  calls = rested_calls m told refl

  known_is : (rested m told).known ≡ set l.known (call_place call) known
  known_is = ap (λ (l : Local). l.known) calls.same

  worker_is : (rested m told).worker ≡ l.worker
  worker_is = ap (λ (l : Local). l.worker) calls.same

  object : known.object ≡ call_object call
  object = may.known names

  on_board : call_object call < length s.board
  on_board = (may.object names).1

  once : (o : ℕ) → times_named (set_cpu w n v) (set system.locals x (rested m told)) o ≤ 1
  once o = subst (λ w. times_named w (set system.locals x (rested m told)) o ≤ 1) says (once_named m opening (machine words system.value (set system.locals x (rested m told))) ended o)

  unused : held_under s (call_object call) ≡ None
  unused = resting.named (call_object call) ∙ named_new w system.locals x (call_place call) (rested m told) known next.there (may.place names) known_is refl (may.new is.kind) (call_object call) object (once (call_object call))

  place_below : cpu_place s k (call_cpu call) < length s.cpu_lists
  place_below = place-inside s k (call_cpu call) rest.lists.shaped inside cpu

  worker_rests : IsBetween w.setup (rested m told)
  worker_rests = subst (IsBetween w.setup) (sym calls.same) (record {
    between = refl;
    hands = between.hands;
    string = between.string;
    run = between.run;
    packed = record { cpu_word = resting.words.cpu n; slab_word = between.packed.slab_word; list_word = between.packed.list_word; next = omega arith };
    cpu = subst (λ (m : Setup). call_cpu call < m.cpus) (sym resting.setup) may.cpu;
    numbers = All-set (λ (k : Known). k.object < w.setup.objects) l.known (call_place call) known (subst (λ (m : Setup). known.object < m.objects) (sym resting.setup) (omega (arith, object, on_board))) between.numbers;
    some = All-set (λ (k : Known). k.held ≡ true → 1 ≤ k.object) l.known (call_place call) known (λ _. omega (arith, object, (may.object names).0)) between.some;
  })

  ends : Rests given d (set_cpu w n v) (set system.locals x (rested m told))
  ends = rests_changed s b w system.locals s.frees (set s.cpu_lists (cpu_place s k (call_cpu call)) left) (memory_of w (512 * s.frames)) (set s.board (call_object call) (Some held)) s.gone (set s.live k (get_or s.live k 0 + 1)) (set b.tids n (tid_of b n + 1 * b.step))
      (update w.cpu n v) w.slab w.memory (set system.locals x (rested m told)) resting
      (length-set s.board (call_object call) (Some held))
      (let f = at_front m opening (machine words system.value (set system.locals x (rested m told))) x (omega (arith, next.there, length-set system.locals x (rested m told))) ended in subst IsWorded says f.stands.fresh.worded)
      (All-set (IsBetween w.setup) system.locals x (rested m told) worker_rests resting.workers)
      (cpus_changed s b w k (call_cpu call) left v (tid_of b n + 1 * b.step) w.slab w.memory cpu few place_below (omega (arith, small, rest.beside.tids)) resting.cpu (omega (arith, cpu_is.tid)) (sym current ∙ cpu_is.current)
      (subst (λ h. IsChain (pointer w k c.frame) h first.0) (sym follows_is) first.2) refl (λ n below away. (resting.cpu n below).free))
      (λ f. same_word (w.slab f)) (λ f. record { chain = (resting.own f).chain; in_use = (resting.own f).in_use })
      names_are once (λ o word h there plain is_word. copied m system.value system.words _)
    where
      names_are : (o : ℕ) → get_or (set s.board (call_object call) (Some held)) o None ≡ named_in (set_cpu w n v) (set system.locals x (rested m told)) o
      names_are o = elim (cases_eq o (call_object call)) [
        | inl e ↦ ap (λ o. get_or (set s.board (call_object call) (Some held)) o None) e ∙ get_or-set_same s.board (call_object call) (Some held) None on_board ∙ ap (λ worker. Some (record { frame = c.frame; index = c.head - 1; cache = k; worker = Some worker })) (sym worker_is)
            ∙ sym (named_held (set_cpu w n v) system.locals x (call_place call) (rested m told) l.known known next.there (may.place names) known_is refl (once known.object)) ∙ ap (named_in (set_cpu w n v) (set system.locals x (rested m told))) (object ∙ sym e)
        | inr away ↦ get_or-set_other s.board (call_object call) o (Some held) None away ∙ resting.named o ∙ sym (named_other w system.locals x (call_place call) (rested m told) known worker_is known_is refl o (λ e. away (sym e ∙ object)))
      ]

  -- ---- on lists

  accounted : IsAccounted given
  accounted = accounted-with_held (with_lists s k (call_cpu call) left) (call_object call) held (omega (arith, inside, rest.lists.shaped.live)) on_board unused rest.lists.accounted

  lengths : HasLengths given
  lengths = record {
    slabs = rest.lists.shaped.slabs;
    frees = rest.lists.shaped.frees;
    cpu_lists = length-set s.cpu_lists (cpu_place s k (call_cpu call)) left ∙ rest.lists.shaped.cpu_lists;
    nodes = rest.lists.shaped.nodes;
    checked = rest.lists.shaped.checked.numbers;
    memory = copied_length w (512 * s.frames);
    gone = rest.lists.shaped.gone ∙ sym (length-set s.board (call_object call) (Some held));
    live = length-set s.live k (get_or s.live k 0 + 1) ∙ rest.lists.shaped.live;
  }

  gives : (live : Cache) → cache_of s k ≡ Some live → Gives s live.layout k (call_cpu call) l.worker (call_object call) reply after
  gives live e = record {
    frame = c.frame;
    index = c.head - 1;
    rest = first.0;
    current = current;
    first = first.1;
    unheld =
        let t = times-first (c.head - 1) (c.head - 1) first.0 in
        let o : one_if (eqb (c.head - 1) (c.head - 1)) ≡ 1 = ap one_if (eq-eqb (c.head - 1) (c.head - 1) refl) in
        let has' : 1 ≤ times (c.head - 1) (cpu_at s n).free = subst (λ (x : CpuLists). 1 ≤ times (c.head - 1) x.free) (sym here) (subst (λ free. 1 ≤ times (c.head - 1) free) (sym first.1) (omega (arith, t, o))) in
        let alone' = cpu-alone s n c.frame (c.head - 1) consistent current_at in
        omega (arith, has', alone', object_once (c.head - 1) (slab_of s c.frame));
    address = ap (λ layout. Given (address_of c.frame (c.head - 1) layout)) (layout_is (cache_of s k) e);
    given = refl;
  }
    where
      layout_is : (o : Option Cache) → o ≡ Some live → option_map_or (λ (live : Cache). live.layout) o no_layout ≡ live.layout
      layout_is o e = ap (λ o. option_map_or (λ (live : Cache). live.layout) o no_layout) e

  allocates : AllocatesNamed s place (call_cpu call) l.worker (call_object call) reply after
  allocates = subst (λ o. MatchOption o ((reply ≡ NoSuchCache) × (after ≡ s)) (λ cache. MatchOption (cache_of s cache) ⊥ (λ live. AllocatesFrom s live.layout cache (call_cpu call) l.worker (call_object call) reply after))) (sym is.named) (by (cache_of s k) refl lives)
    where
      by : (o : Option Cache) → cache_of s k ≡ o → is_some o ≡ true → MatchOption o ⊥ (λ live. AllocatesFrom s live.layout k (call_cpu call) l.worker (call_object call) reply after)
      by None e live = false≢true live
      by (Some live) e has_it = from-unchecked (checked_of s k) _ _ is.unchecked
          (subst (λ free. MatchResult (from_free s k (call_cpu call) (batch_of live.layout) free) (λ stocked. Gives stocked live.layout k (call_cpu call) l.worker (call_object call) reply after) (λ bare. AllocatesNew bare live.layout k (call_cpu call) l.worker (call_object call) reply after)) (sym first.1) (gives live e))

  pub pops : AllocatesAlone opening s b system x call place 3 d
  pops = record {
    reply = reply;
    after = after;
    allocates = allocates;
    given = given;
    words = record {
      lists = refl;
      sized = copied_length w (512 * s.frames) ∙ sym rest.lists.shaped.memory;
      words = λ other word h away there plain is_word. sym (copied m system.value system.words _) ∙ resting.contents other word h (sym (get_or-set_other s.board (call_object call) other (Some held) None away) ∙ there) plain is_word;
    };
    known = known_ends s b system x 3 told words system.value next.there whole refl ∙ knows_given l.known (call_place call) known.object (call_object call) s.board held after refl on_board object;
    replies = replies_of opening s given b d system x 3 call reply told words system.value next whole refl refl refl refl same
        (ends_at_rest opening (set_cpu w n v) s given b d system (machine words system.value (set system.locals x (rested m told))) rest same refl refl lengths accounted (length-set b.tids n (tid_of b n + 1 * b.step) ∙ rest.beside.tids) refl refl ended says ends (whole_cpu m system.words n (cpu_bits v) refl small rest.whole));
  }
    where
      same : setup_of given d ≡ setup_of s b
      same = setup_same s b w system.locals s.frees (set s.cpu_lists (cpu_place s k (call_cpu call)) left) (memory_of w (512 * s.frames)) (set s.board (call_object call) (Some held)) s.gone (set s.live k (get_or s.live k 0 + 1)) (set b.tids n (tid_of b n + 1 * b.step))
          (update w.cpu n v) w.slab w.memory (set system.locals x (rested m told)) (length-set s.board (call_object call) (Some held))

  pub pops_gives : is_given pops.reply ≡ true
  unfolding pops
  pops_gives = refl

pub fast_pops : FastAllocationsArePops
fast_pops opening s b system x call place k rest next is ids some = pops opening s b system x call place k rest next is ids some
