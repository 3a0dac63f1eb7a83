-- A free of an object of a full slab, where the CPU's partial list is full: up to the turn in which the worker has the list in hand and the node lock.
use Rattle.std.proofs.Common.{◌≡◌, ◌≢◌, ℕ, zero, suc, Option, ◌+◌, ◌-◌, ◌*◌, ◌<◌, ◌≤◌, ◌&&◌, eqb, cond, Bool, true, false, List, [], ◌∷◌, length, get_or, set, Some, None, inl, inr, refl, ap, sym, ◌∙◌, subst, arith}
use Rattle.std.specs.Prelude.{nat_le, not}
use Rattle.std.specs.Option.{option_map_or}
use Rattle.std.proofs.lemmas.Bool.{cases_eq, false≢true, eq-eqb, le-leb, lt-ltb, ne_eqb}
use Rattle.std.proofs.lemmas.List.{get_or-set_other, set-get_or, length-set}
use Rattle.slub_common.specs.Times.{times}
use Rattle.slub_trace.specs.declared.reply.Reply.{Reply}
use Rattle.slub_trace.specs.declared.reply.Reply.TheVariants.{Freed}
use Rattle.slub_object_layout.specs.Layout.{address_of}
use Rattle.slub_words.specs.declared.cpu.CpuWord.{CpuWord}
use Rattle.slub_words.specs.declared.slab.SlabWord.{SlabWord}
use Rattle.slub_words.specs.Words.{slab_bits}
use Rattle.slub_cpu_partial.specs.declared.words.ListWord.{ListWord}
use Rattle.slub_lists.specs.declared.lists.CpuLists.{CpuLists}
use Rattle.slub_lists.specs.declared.lists.Slab.{Slab}
use Rattle.slub_lists.specs.declared.lists.Held.{Held}
use Rattle.slub_lists.specs.State.{State}
use Rattle.slub_lists.specs.Alloc.{cpu_place, lists_of, own_free}
use Rattle.slub_lists.specs.Coherent.{times_partial}
use Rattle.slub_lists.specs.Free.{is_frozen}
use Rattle.slub_lists.specs.Places.{layout_at}
use Rattle.slub_lists.proofs.Coherence.{place-inside}
use Rattle.slub_lists.proofs.Places.{current-is}
use Rattle.slub_core.specs.declared.call.Call.{Call}
use Rattle.slub_core.specs.declared.local.Known.{Known}
use Rattle.slub_core.specs.declared.local.Hand.{Hand}
use Rattle.slub_core.specs.declared.spot.Spot.TheVariants.{InFree, InPutOnList, InMoveSet}
use Rattle.slub_core.specs.declared.spot.FreeSpot.TheVariants.{LoadSlab, LinkSlab, FreeSlab, LoadCount, TakeSet}
use Rattle.slub_core.specs.declared.spot.PutOnList.TheVariants.{OfFree}
use Rattle.slub_core.specs.declared.spot.PutOnListSpot.TheVariants.{LoadList}
use Rattle.slub_core.specs.declared.step.Answer.{Answer}
use Rattle.slub_core.specs.declared.step.Answer.TheVariants.{Word, Done, Won, Lost}
use Rattle.slub_core.specs.declared.step.Op.TheVariants.{Load, Store, Exchange, Swap}
use Rattle.slub_core.specs.declared.step.Place.TheVariants.{SlabOf, MemoryOf, ListOf}
use Rattle.slub_core.specs.Setup.{Setup, cpu_number, pointer_at, hardened, node_lock}
use Rattle.slub_core.specs.Words.{slab_base, list_base, memory_base, slab_in, list_in}
use Rattle.slub_core.specs.World.{World, update, set_slab, set_list, set_memory, pointer, world_of, set_lock, Links, size_in}
use Rattle.slub_core.specs.Alloc.{single_string, taken_string}
use Rattle.slub_core.specs.Local.{Local, Turn, at, loses, answered, goes, bare_hand, less_hand}
use Rattle.slub_core.specs.Free.{way_of_slab, way_of_freed, hands_of_freed, is_last_listed, was_full, is_long, count_loaded, set_taken}
use Rattle.slub_core.specs.Replies.{names_object}
use Rattle.slub_core.specs.Steps.{advance_at}
use Rattle.slub_core.specs.Run.{System, idle, turn}
use Rattle.slub_core.proofs.Packed.{slab_in-bits, IsSlabFit}
use Rattle.slub_core.proofs.StepWords.{IsTable, list-read, world_of-slab, world_of-memory, world_of-list, lock-read, world_of-lock}
use Rattle.slub_law_opening.specs.Opening.{Beside, setup_of, cpu_at, value_of as value_at}
use Rattle.slub_law_opening.specs.Rests.{IsFreelistOf, Rests}
use Rattle.slub_law_opening.specs.Closing.{HasLengths}
use Rattle.slub_law_opening.proofs.Cpus.{partial-one}
use Rattle.slub_law_opening.proofs.Names.{as_held}
use Rattle.slub_law_opening.proofs.Words.{chain-empty}
use Rattle.slub_law_alone.specs.Alone.{AreWhole, own_pick, alone, worker_at, known_at, IsNext}
use Rattle.slub_law_alone.specs.Ready.{IsReady}
use Rattle.slub_law_alone.specs.Laws.{IsFree}
use Rattle.slub_law_alone.specs.Sets.{HasNoRoom}
use Rattle.slub_law_alone.proofs.Freed as put_back
use Rattle.slub_law_alone.proofs.Movable.{AreMovable, list_movable, movable_in}
use Rattle.slub_law_alone.proofs.UnderLock.{RestsUnder, table_set, under_locked}
use Rattle.slub_law_alone.proofs.MoveTurns.{before, turn_locks}
use Rattle.slub_law_alone.proofs.Bits.{whole_memory, whole_slab, whole_list}
use Rattle.slub_law_alone.proofs.Changed.{setup_same}
use Rattle.slub_law_alone.proofs.InPlace as place
use Rattle.slub_law_alone.proofs.Ready.{IsReadyStart, ready_starts, ready_object}
use Rattle.slub_law_alone.proofs.Start.{HasObject}
use Rattle.slub_law_alone.proofs.Turns.{machine, turn_goes, settle_goes, settle_tells_once, then_turn}
use Rattle.slub_core.specs.declared.spot.MoveSet.TheVariants.{ForFree}
use Rattle.slub_core.specs.declared.spot.MoveSetSpot.TheVariants.{LockMove}
use Rattle.slub_core.specs.declared.local.FrameRun.{FrameRun}
use Rattle.slub_core.specs.Calls.{call_kind, call_cpu, call_object, call_place}
use Rattle.slub_law_alone.proofs.MovedLists.{no_head, list_zero, rests_emptied}

module _ (opening : World) (s : State) (b : Beside) (system : System) (x : ℕ) (call : Call) (rest : IsReady opening s b system x) (next : IsNext system x call) (is : IsFree s (worker_at system x) call)
    (unfrozen : is_frozen s (known_at (worker_at system x) call).frame ≡ false) (full : own_free s (known_at (worker_at system x) call).frame ≡ []) (long : HasNoRoom s (known_at (worker_at system x) call).cache (call_cpu call))
    (e : ℕ) (es : List ℕ) (front : (lists_of s (known_at (worker_at system x) call).cache (call_cpu call)).partial ≡ e ∷ es) where
  abbrev pub m : Setup
  m = setup_of s b

  abbrev pub w : World
  w = world_of m system.value system.words

  abbrev pub l : Local
  l = worker_at system x

  abbrev pub o : Known
  o = known_at l call

  abbrev pub f : ℕ
  f = o.frame

  abbrev pub n : ℕ
  n = cpu_number o.cache (call_cpu call)

  abbrev pub c : CpuWord
  c = w.cpu n

  abbrev pub z : SlabWord
  z = w.slab f

  abbrev pub g : ListWord
  g = w.list n

  abbrev pub held : Held
  held = as_held l.worker o

  abbrev pub p : ℕ
  p = pointer_at m o.cache f o.index

  pub begin : IsReadyStart opening s b system x call
  begin = ready_starts opening s b system x call rest next

  names : names_object (call_kind call) ≡ true
  names = ap names_object is.kind

  pub has : HasObject s system x call
  has = ready_object opening s b system x call rest next names is.held

  pub resting : Rests s b w system.locals
  resting = rest.rests.rests

  -- a slab that isn't frozen is current on no CPU
  pub away : (lists_of s o.cache (call_cpu call)).current ≢ Some f
  away current =
      let at = current-is s o.cache (call_cpu call) f begin.consistent begin.may.cpu current in
      false≢true (sym unfrozen ∙ ap (λ y. option_map_or (λ (y : Slab). y.frozen) y false) at.there ∙ at.frozen)

  pub small : n < 512
  small = place.small opening s b system x call rest next is away

  pub within : (0 < f) × (f < s.frames)
  within = place.within opening s b system x call rest next is away

  p_inside : p < 512 * m.frames
  p_inside = has.pointer

  own : IsFreelistOf w f (own_free s f)
  own = place.own opening s b system x call rest next is away

  in_use : 1 ≤ z.inuse
  in_use = let u = own.in_use in let some = place.some opening s b system x call rest next is away in let none = ap (length {A = ℕ}) full in omega (arith, u, some, none)

  head : z.head ≡ 0
  head = chain-empty (pointer w z.cache f) z.head (own_free s f) own.chain (ap (length {A = ℕ}) full)

  no_ice : z.frozen ≡ false
  no_ice = sym (place.frozen_is opening s b system x call rest next is away) ∙ unfrozen

  is_full : was_full z ≡ true
  is_full = rw (no_ice, eq-eqb z.head 0 head) refl

  not_last : is_last_listed z ≡ false
  not_last = no_head (not z.frozen) z.listed (not (eqb z.head 0)) (eqb z.inuse 1) (ap not (eq-eqb z.head 0 head))

  -- no list has the slab: those that are on one have a free object
  pub off_lists : (j : ℕ) → times f (cpu_at s j).partial ≡ 0
  off_lists j = elim (cases_eq (times_partial s f) 0) [
    | inl none ↦ (let le = partial-one s j f in omega (arith, le, none))
    | inr some ↦ absurd (let stocked = begin.consistent.listed.stocked f (omega (arith, some)) in let none = ap (length {A = ℕ}) full in omega (arith, stocked, none))
  ]

  -- ---- the CPU's list, and its slabs

  abbrev pub fs : List ℕ
  fs = e ∷ es

  string_is : (g.front ≡ e) × (g.count ≡ suc (length es)) × Links w.link g.front fs 0
  string_is =
      let cpu = place.cpu_is opening s b system x call rest next is away in
      let links = subst (λ fs. Links w.link g.front fs 0) front cpu.partial in
      (links.0, cpu.count ∙ ap (length {A = ℕ}) front, links)

  abbrev ge : ListWord
  ge = record { front = e; count = suc (length es) }

  list_is : g ≡ ge
  list_is = λ i. record { front = string_is.0 i; count = string_is.1 i }

  abbrev pub j : ℕ
  j = node_lock o.cache

  pub j_small : j < 33
  j_small = omega (arith, has.inside)

  -- ---- the worker, turn by turn

  abbrev loaded : Local
  loaded = record l { cache = o.cache; cpu = call_cpu call; place = call_place call; fast = false; turn = 0; count = 0; cpu_word = c; spot = InFree LoadSlab }

  abbrev seen : Local
  seen = record loaded { slab_word = z; spot = InFree LinkSlab }

  abbrev linked : Local
  linked = at seen (InFree FreeSlab)

  abbrev pub reply : Reply
  reply = Freed (address_of f o.index (layout_at s o.cache))

  abbrev frees_it : Local
  frees_it = record (loses linked) { hands = bare_hand f ∷ l.hands; spot = InFree LoadCount }

  abbrev counts : Local
  counts = answered frees_it reply

  -- it has the slab in hand, and knows how long the list is
  abbrev pub takes : Local
  takes = record counts { list_word = ge; spot = InFree TakeSet }

  abbrev locks : Local
  locks = record takes { string = Some (taken_string e (suc (length es))); spot = InMoveSet LockMove ForFree }

  abbrev pub moves : Local
  moves = before m system.locals x takes ForFree next.there z 0 fs

  abbrev pub none : ListWord
  none = record { front = 0; count = 0 }

  abbrev a : ℕ
  a = l.worker + 1

  abbrev v : SlabWord
  v = put_back.v opening s b system x call rest next is away

  abbrev r : ℕ
  r = get_or system.words (slab_base + f) 0

  abbrev q : ℕ
  q = get_or system.words (list_base + n) 0

  abbrev value : ℕ
  value = hardened o.cache p z.head

  abbrev words1 : List ℕ
  words1 = set system.words (memory_base m + p) value

  abbrev words2 : List ℕ
  words2 = set words1 (slab_base + f) (slab_bits v)

  abbrev words3 : List ℕ
  words3 = set words2 (list_base + n) 0

  abbrev pub words4 : List ℕ
  words4 = set words3 j a

  slab_reads : z ≡ slab_in r
  slab_reads = place.slab_reads opening s b system x call rest next is away

  list_reads : g ≡ list_in q
  list_reads = list-read m system.value system.words n small

  stays_word : get_or words1 (slab_base + f) 0 ≡ r
  stays_word = get_or-set_other system.words (memory_base m + p) (slab_base + f) value 0 (λ e. absurd (omega (arith, e, within.1, begin.table.objects)))

  slab_hit : eqb (get_or words1 (slab_base + f) 0) (slab_bits z) ≡ true
  slab_hit = eq-eqb (get_or words1 (slab_base + f) 0) (slab_bits z) (stays_word ∙ sym (rest.whole.slab f within.1) ∙ ap slab_bits (sym slab_reads))

  list_there : get_or words2 (list_base + n) 0 ≡ q
  list_there = get_or-set_other words1 (slab_base + f) (list_base + n) (slab_bits v) 0 (λ e. absurd (omega (arith, e, small))) ∙ get_or-set_other system.words (memory_base m + p) (list_base + n) value 0 (λ e. absurd (omega (arith, e, small)))

  table1 : IsTable m words1
  table1 = table_set m system.words (memory_base m + p) value begin.table

  table2 : IsTable m words2
  table2 = table_set m words1 (slab_base + f) (slab_bits v) table1

  table3 : IsTable m words3
  table3 = table_set m words2 (list_base + n) 0 table2

  lock_hit : eqb (get_or words3 j 0) 0 ≡ true
  lock_hit = eq-eqb (get_or words3 j 0) 0 (get_or-set_other words2 (list_base + n) j 0 0 (λ q. absurd (omega (arith, q, j_small))) ∙ get_or-set_other words1 (slab_base + f) j (slab_bits v) 0 (λ q. absurd (omega (arith, q, j_small))) ∙ get_or-set_other system.words (memory_base m + p) j value 0 (λ q. absurd (omega (arith, q, j_small)))
      ∙ sym (lock-read m system.value system.words j j_small) ∙ resting.locks j j_small)

  turn2 : turn m (machine system.words system.value (set system.locals x loaded)) (own_pick x) ≡ machine system.words system.value (set system.locals x seen)
  turn2 = turn_goes m system.words system.words system.value system.locals x loaded loaded seen (record { place = SlabOf f; op = Load }) (Word r) next.there refl refl (set-get_or system.words (slab_base + f) 0) refl
      (settle_goes m system.value loaded seen (Word r) leads refl refl)
    where
      by_word : SlabWord → Turn
      by_word z = record { local = record loaded { slab_word = z; spot = way_of_slab z }; reply = None }

      way : way_of_slab z ≡ InFree LinkSlab
      way = rw not_last refl

      leads : advance_at m system.value loaded (InFree LoadSlab) (Word r) ≡ goes seen
      leads = ap by_word (sym slab_reads) ∙ (λ i. record { local = record loaded { slab_word = z; spot = way i }; reply = None })

  turn3 : turn m (machine system.words system.value (set system.locals x seen)) (own_pick x) ≡ machine words1 system.value (set system.locals x linked)
  turn3 = turn_goes m system.words words1 system.value system.locals x seen seen linked (record { place = MemoryOf p; op = Store value }) Done next.there refl refl refl refl (settle_goes m system.value seen linked Done refl refl refl)

  turn4 : turn m (machine words1 system.value (set system.locals x linked)) (own_pick x) ≡ machine words2 system.value (set system.locals x counts)
  turn4 = turn_goes m words1 words2 system.value system.locals x linked linked counts (record { place = SlabOf f; op = Exchange (slab_bits z) (slab_bits v) }) Won next.there refl refl
      (ap (λ h. set words1 (slab_base + f) (cond {A = ℕ} h (slab_bits v) (get_or words1 (slab_base + f) 0))) slab_hit) (ap (λ h. cond {A = Answer} h Won (Lost (get_or words1 (slab_base + f) 0))) slab_hit)
      (settle_tells_once m system.value linked frees_it counts Won reply (λ i. record { local = record (loses linked) { hands = hands i; spot = way i }; reply = Some reply }) refl refl refl)
    where
      hands : hands_of_freed linked ≡ bare_hand f ∷ l.hands
      hands = ap (λ h. cond {A = List Hand} h (bare_hand f ∷ l.hands) l.hands) is_full

      way : way_of_freed z ≡ InFree LoadCount
      way = rw is_full refl

  turn5 : turn m (machine words2 system.value (set system.locals x counts)) (own_pick x) ≡ machine words2 system.value (set system.locals x takes)
  turn5 = turn_goes m words2 words2 system.value system.locals x counts counts takes (record { place = ListOf n; op = Load }) (Word (get_or words2 (list_base + n) 0)) next.there refl refl (set-get_or words2 (list_base + n) 0) refl
      (settle_goes m system.value counts takes (Word (get_or words2 (list_base + n) 0)) leads refl refl)
    where
      by_word : ListWord → Turn
      by_word y = goes (count_loaded m counts y)

      by_long : Bool → Turn
      by_long h = goes (cond {A = Local} h takes (record (less_hand counts) { list_word = ge; string = Some (single_string f); spot = InPutOnList LoadList OfFree }))

      most : (layout_at s o.cache).cpu_partial_slabs ≤ suc (length es)
      most = let full = long.full in let count = ap (length {A = ℕ}) front in omega (arith, full, count)

      is_so : is_long m counts ge ≡ true
      is_so = ap (λ h. h && nat_le (layout_at s o.cache).cpu_partial_slabs (suc (length es))) (lt-ltb 0 (suc (length es)) (omega arith)) ∙ le-leb (layout_at s o.cache).cpu_partial_slabs (suc (length es)) most

      leads : advance_at m system.value counts (InFree LoadCount) (Word (get_or words2 (list_base + n) 0)) ≡ goes takes
      leads = ap (λ y. by_word (list_in y)) list_there ∙ ap by_word (sym list_reads ∙ list_is) ∙ ap by_long is_so

  turn6 : turn m (machine words2 system.value (set system.locals x takes)) (own_pick x) ≡ machine words3 system.value (set system.locals x locks)
  turn6 = turn_goes m words2 words3 system.value system.locals x takes takes locks (record { place = ListOf n; op = Swap 0 }) (Word (get_or words2 (list_base + n) 0)) next.there refl refl refl refl
      (settle_goes m system.value takes locks (Word (get_or words2 (list_base + n) 0)) (ap (λ y. by_word (list_in y)) list_there ∙ ap by_word (sym list_reads ∙ list_is) ∙ ap by_none (ne_eqb (suc (length es)) 0 (λ e. absurd (omega (arith, e))))) refl refl)
    where
      by_word : ListWord → Turn
      by_word y = goes (set_taken takes y)

      by_none : Bool → Turn
      by_none h = goes (cond {A = Local} h (record (less_hand takes) { string = Some (single_string f); spot = InPutOnList LoadList OfFree }) locks)

  turn7 : turn m (machine words3 system.value (set system.locals x locks)) (own_pick x) ≡ machine words4 system.value (set system.locals x moves)
  turn7 = ap by_run begin.between.run ∙ turn_locks m system.locals x takes ForFree next.there words3 system.value z 0 fs lock_hit
    where
      by_run : Option FrameRun → System
      by_run run = turn m (machine words3 system.value (set system.locals x (record locks { run = run }))) (own_pick x)

  pub first_turns : alone m x 7 system ≡ machine words4 system.value (set system.locals x moves)
  first_turns = ap (alone m x 7) (ap (machine system.words system.value) (sym (set-get_or system.locals x idle)))
      ∙ then_turn m x 6 (machine system.words system.value (set system.locals x l)) (machine system.words system.value (set system.locals x loaded)) end (place.turn1 opening s b system x call rest next is away)
      (then_turn m x 5 (machine system.words system.value (set system.locals x loaded)) (machine system.words system.value (set system.locals x seen)) end turn2
      (then_turn m x 4 (machine system.words system.value (set system.locals x seen)) (machine words1 system.value (set system.locals x linked)) end turn3
      (then_turn m x 3 (machine words1 system.value (set system.locals x linked)) (machine words2 system.value (set system.locals x counts)) end turn4
      (then_turn m x 2 (machine words2 system.value (set system.locals x counts)) (machine words2 system.value (set system.locals x takes)) end turn5
      (then_turn m x 1 (machine words2 system.value (set system.locals x takes)) (machine words3 system.value (set system.locals x locks)) end turn6
      (then_turn m x 0 (machine words3 system.value (set system.locals x locks)) end end turn7 refl))))))
    where
      end : System
      end = machine words4 system.value (set system.locals x moves)

  -- ---- the lists in which the machine rests under the lock

  abbrev pub ends : List Local
  ends = put_back.ends opening s b system x call rest next is away

  abbrev put : World
  put = put_back.put opening s b system x call rest next is away

  abbrev freed : State
  freed = put_back.freed opening s b system x call rest next is away

  abbrev pub emptied : CpuLists
  emptied = record (lists_of s o.cache (call_cpu call)) { partial = [] }

  -- the object is freed, and the CPU's partial list taken
  abbrev pub bare : State
  bare = record freed { cpu_lists = set s.cpu_lists (cpu_place s o.cache (call_cpu call)) emptied }

  pub lists_inside : cpu_place s o.cache (call_cpu call) < length s.cpu_lists
  lists_inside = place-inside s o.cache (call_cpu call) rest.lists.shaped has.inside begin.may.cpu

  taken_says : world_of m system.value words3 ≡ set_list put n none
  taken_says = world_of-list m system.value words2 n 0 table2 small
      ∙ ap (λ w. set_list w n (list_in 0)) (world_of-slab m system.value words1 f (slab_bits v) table1 within.1
      ∙ ap (λ w. set_slab w f (slab_in (slab_bits v))) (world_of-memory m system.value system.words p value begin.table p_inside) ∙ ap (set_slab (set_memory w p value) f) (slab_in-bits v (place.fit opening s b system x call rest next is away)))
      ∙ ap (set_list put n) list_zero

  locked_says : world_of m system.value words4 ≡ set_lock (set_list put n none) j a
  locked_says = world_of-lock m system.value words3 j a table3 j_small ∙ ap (λ w. set_lock w j a) taken_says

  lengths : HasLengths bare
  lengths = record {
    slabs = rest.lists.shaped.slabs;
    frees = length-set s.frees f (o.index ∷ own_free s f) ∙ rest.lists.shaped.frees;
    cpu_lists = length-set s.cpu_lists (cpu_place s o.cache (call_cpu call)) emptied ∙ rest.lists.shaped.cpu_lists;
    nodes = rest.lists.shaped.nodes;
    checked = rest.lists.shaped.checked.numbers;
    memory = rest.lists.shaped.memory;
    gone = length-set s.gone (call_object call) (Some held) ∙ rest.lists.shaped.gone ∙ sym (length-set s.board (call_object call) None);
    live = length-set s.live o.cache (get_or s.live o.cache 0 - 1) ∙ rest.lists.shaped.live;
  }

  pub under : RestsUnder m b ends j bare words4 system.value
  under = under_locked m b ends j a bare words3 system.value j_small same lengths table3 are_whole
      (subst (λ (w : World). Rests bare b w ends) (sym taken_says) (rests_emptied freed b put ends o.cache (call_cpu call) (put_back.freed_rests opening s b system x call rest next is away in_use) begin.may.cpu begin.few lists_inside))
    where
      same : setup_of bare b ≡ m
      same = setup_same s b w system.locals (set s.frees f (o.index ∷ own_free s f)) (set s.cpu_lists (cpu_place s o.cache (call_cpu call)) emptied) s.memory (set s.board (call_object call) None) (set s.gone (call_object call) (Some held)) (set s.live o.cache (get_or s.live o.cache 0 - 1)) b.tids
          w.cpu (update w.slab f v) (update w.memory p value) ends (length-set s.board (call_object call) None)

      are_whole : AreWhole m words3
      are_whole = whole_list m words2 n refl small (omega (arith, table2.length, small)) (whole_slab m words1 f v refl (omega (arith, table1.length, within.1)) (place.fit opening s b system x call rest next is away)
          (whole_memory m system.words p value refl begin.table.objects rest.whole))

  pub linked_up : Links (world_of m system.value words4).link g.front fs 0
  linked_up = subst (λ (w : World). Links w.link g.front fs 0) (sym locked_says) string_is.2

  pub movable : AreMovable bare o.cache fs
  movable = movable_in s bare o.cache fs refl refl refl values free (subst (AreMovable s o.cache) front (list_movable s o.cache (call_cpu call) begin.consistent begin.may.cpu))
    where
      values : (n h : ℕ) → size_in (value_at bare n) h ≡ size_in (value_at s n) h
      values zero h = refl
      values (suc n) h = refl

      free : (h : ℕ) → 0 < length (own_free s h) → 0 < length (own_free bare h)
      free h some = elim (cases_eq h f) [
        | inl same ↦ absurd (let none = ap (length {A = ℕ}) (ap (own_free s) same ∙ full) in omega (arith, some, none))
        | inr away ↦ subst (λ (xs : List ℕ). 0 < length xs) (sym (get_or-set_other s.frees f h (o.index ∷ own_free s f) [] away)) some
      ]

  pub fit : IsSlabFit z
  fit = resting.words.slab f
