-- A free of the last object in use of a slab of a node list that is long enough: under the node lock the object is put on the slab's freelist, and the slab comes off the list and is discarded.
use Rattle.std.proofs.Common.{◌≡◌, ◌≢◌, ℕ, ◌+◌, ◌-◌, ◌<◌, ◌≤◌, ◌&&◌, eqb, cond, Bool, true, false, List, [], ◌∷◌, length, get_or, set, filter, Option, Some, None, inl, inr, refl, ap, sym, ◌∙◌, subst, arith}
use Rattle.std.specs.Prelude.{nat_lt, nat_le, not, IfSome}
use Rattle.std.specs.Option.{option_map_or}
use Rattle.std.proofs.lemmas.Bool.{cases_eq, false≢true, eq-eqb, cond-true, cond-false, le-leb, lt-ltb}
use Rattle.std.proofs.lemmas.List.{get_or-set_same, get_or-set_other, length-set}
use Rattle.std.proofs.lemmas.List.Elements.{All-set}
use Rattle.slub_common.specs.Times.{times}
use Rattle.slub_trace.specs.declared.reply.Reply.{Reply}
use Rattle.slub_trace.specs.declared.reply.Reply.TheVariants.{Freed}
use Rattle.slub_object_layout.specs.declared.layout.Layout.{Layout}
use Rattle.slub_object_layout.specs.Layout.{address_of, order_for}
use Rattle.slub_page_pool.specs.FreeFrames.{FreeFrames}
use Rattle.slub_page_pool.specs.Block.{with_run}
use Rattle.slub_cache_create.specs.declared.caches.Cache.{Cache}
use Rattle.slub_words.specs.declared.cpu.CpuWord.{CpuWord}
use Rattle.slub_words.specs.declared.slab.SlabWord.{SlabWord}
use Rattle.slub_words.specs.Words.{slab_bits}
use Rattle.slub_lists.specs.declared.lists.Slab.{Slab}
use Rattle.slub_lists.specs.declared.lists.Held.{Held}
use Rattle.slub_lists.specs.State.{State}
use Rattle.slub_lists.specs.Alloc.{cache_of, lists_of, node_of, own_free}
use Rattle.slub_lists.specs.Free.{is_frozen, is_spare, inuse_of, order_of, freed_here, freed_there, settled as settled_at, without_spare, without_slab, discarded, with_freed, with_taken, with_gone}
use Rattle.slub_lists.specs.Freeing.{Frees}
use Rattle.slub_lists.specs.Coherent.{IsAccounted}
use Rattle.slub_lists.specs.Places.{layout_at}
use Rattle.slub_lists.proofs.Places.{order-of-slab}
use Rattle.slub_lists.proofs.Taking.{taken-accounted}
use Rattle.slub_core.specs.declared.call.Call.{Call}
use Rattle.slub_core.specs.declared.local.FrameRun.{FrameRun}
use Rattle.slub_core.specs.declared.local.Known.{Known}
use Rattle.slub_core.specs.declared.spot.Spot.TheVariants.{Between, InFree, InDiscard}
use Rattle.slub_core.specs.declared.spot.FreeSpot.TheVariants.{LoadSlab, FreeLocked, TakeOff, GiveFree}
use Rattle.slub_core.specs.declared.spot.DiscardSpot.TheVariants.{Unmake, LockDiscard, PutRun, GiveDiscard}
use Rattle.slub_core.specs.declared.spot.Discard.TheVariants.{FromFree}
use Rattle.slub_core.specs.declared.step.Answer.{Answer}
use Rattle.slub_core.specs.declared.step.Answer.TheVariants.{Done, Won, Lost}
use Rattle.slub_core.specs.declared.step.Op.TheVariants.{Store, Exchange}
use Rattle.slub_core.specs.declared.step.Place.TheVariants.{SlabOf, LockOf}
use Rattle.slub_core.specs.Calls.{call_kind, call_cpu, call_object, call_place}
use Rattle.slub_core.specs.Setup.{Setup, cpu_number, node_lock, pool_lock, pointer_at, hardened}
use Rattle.slub_core.specs.Words.{no_slab_word, slab_in, slab_base, memory_base}
use Rattle.slub_core.specs.World.{World, LockValue, Node, Pool, update, set_lock, set_memory, set_slab, world_of, frames_in, pool_in, objects_in_values, one_if}
use Rattle.slub_core.specs.Fresh.{IsWorded}
use Rattle.slub_core.specs.Alloc.{node_of as node_in, with_node, pool_with}
use Rattle.slub_core.specs.Discard.{with_put}
use Rattle.slub_core.specs.Free.{without}
use Rattle.slub_core.specs.Local.{Local, nobody, Turn, Change, at, answered, loses, here, with_hand, bare_hand, tells, stays, noted}
use Rattle.slub_core.specs.Replies.{names_object}
use Rattle.slub_core.specs.Steps.{rested, advance_at, advance_of, at_once, settled, changed}
use Rattle.slub_core.specs.Run.{System, turn}
use Rattle.slub_core.specs.Law.{IsCoherentSystem}
use Rattle.slub_core.proofs.Packed.{IsSlabFit, slab_in-bits}
use Rattle.slub_core.proofs.RemakeStep.{no_value-objects}
use Rattle.slub_core.proofs.Update.{update_other, each_updated}
use Rattle.slub_core.proofs.StepWords.{IsTable, lock-read, value_of, world_of-lock, world_of-memory, world_of-slab, world_of-value}
use Rattle.slub_law_opening.specs.Opening.{Beside, setup_of}
use Rattle.slub_law_opening.specs.Rests.{IsBetween, Rests, times_named}
use Rattle.slub_law_opening.specs.Closing.{HasLengths}
use Rattle.slub_law_opening.proofs.Names.{as_held}
use Rattle.slub_law_alone.specs.Alone.{AreWhole, own_pick, alone, worker_at, known_at, IsNext}
use Rattle.slub_law_alone.specs.Discards.{LastOfListedAreDiscarded}
use Rattle.slub_law_alone.specs.Laws.{IsFree, FreesAlone}
use Rattle.slub_law_alone.specs.Ready.{IsReady}
use Rattle.slub_law_alone.proofs.Bits.{whole_lock, whole_memory, whole_slab}
use Rattle.slub_law_alone.proofs.Changed.{setup_same}
use Rattle.slub_law_alone.proofs.GoneSlabs.{rests_discarded}
use Rattle.slub_law_alone.proofs.Ended.{replies_of}
use Rattle.slub_law_alone.proofs.Knows.{known_ends, knows_freed}
use Rattle.slub_law_alone.proofs.FastFree.{frees_held, layout_of}
use Rattle.slub_law_alone.proofs.InPlace as place
use Rattle.slub_law_alone.proofs.NewSlabFill.{alone_then}
use Rattle.slub_law_alone.proofs.NewSlabSearch.{turn_changes, settle_does, change, lock_back}
use Rattle.slub_law_alone.proofs.OnNode.{node_away}
use Rattle.slub_law_alone.proofs.Ready.{IsReadyStart, ready_starts, ready_object, along, ends_ready}
use Rattle.slub_law_alone.proofs.Start.{HasObject}
use Rattle.slub_law_alone.proofs.Turns.{machine, turn_goes, settle_goes, settle_rests, then_turn}
use Rattle.slub_law_alone.proofs.Workers.{at_front, once_named, IsWithCalls, rested_calls}

-- a call has its reply, and something is done at once that changes what a lock guards
settle_tells_does : (m : Setup) (value later : ℕ → LockValue) (l next mid : Local) (a : Answer) (reply : Reply) → advance_at m value l l.spot a ≡ tells next reply → at_once m false value (answered next reply) next.spot ≡ stays later mid → at_once m false later mid mid.spot ≡ stays later mid
    → rested m mid ≡ mid → advance_of m false value l a ≡ stays later mid
settle_tells_does m value later l next mid a reply leads does waits rests =
    ap by_turn leads ∙ ap (λ c. end (changed m false c)) does ∙ ap end waits ∙ ap (stays later) rests
  where
    end : Change → Change
    end c = record { value = c.value; local = rested m (noted c.local c.reply); reply = None }

    by_turn : Turn → Change
    by_turn t = end (settled m false (record { value = value; local = t.local; reply = t.reply }))

module _ (opening : World) (s : State) (b : Beside) (system : System) (x : ℕ) (call : Call) (rest : IsReady opening s b system x) (next : IsNext system x call) (is : IsFree s (worker_at system x) call)
    (away : (lists_of s (known_at (worker_at system x) call).cache (call_cpu call)).current ≢ Some (known_at (worker_at system x) call).frame) (on_node : 1 ≤ times (known_at (worker_at system x) call).frame (node_of s (known_at (worker_at system x) call).cache))
    (one : inuse_of s (known_at (worker_at system x) call).frame ≡ 1) (enough : (layout_at s (known_at (worker_at system x) call).cache).min_partial ≤ length (node_of s (known_at (worker_at system x) call).cache)) where
  abbrev m : Setup
  m = setup_of s b

  abbrev w : World
  w = world_of m system.value system.words

  abbrev l : Local
  l = worker_at system x

  abbrev o : Known
  o = known_at l call

  abbrev k : ℕ
  k = o.cache

  abbrev f : ℕ
  f = o.frame

  abbrev n : ℕ
  n = cpu_number k (call_cpu call)

  abbrev c : CpuWord
  c = w.cpu n

  abbrev z : SlabWord
  z = w.slab f

  abbrev held : Held
  held = as_held l.worker o

  begin : IsReadyStart opening s b system x call
  begin = ready_starts opening s b system x call rest next

  names : names_object (call_kind call) ≡ true
  names = ap names_object is.kind

  has : HasObject s system x call
  has = ready_object opening s b system x call rest next names is.held

  resting : Rests s b w system.locals
  resting = rest.rests.rests

  within : (0 < f) × (f < s.frames)
  within = place.within opening s b system x call rest next is away

  some : 1 ≤ z.objects
  some = place.some opening s b system x call rest next is away

  fit : IsSlabFit (record z { head = o.index + 1; inuse = z.inuse - 1 })
  fit = place.fit opening s b system x call rest next is away

  -- ---- what the locks guard

  abbrev j : ℕ
  j = node_lock k

  abbrev a : ℕ
  a = l.worker + 1

  abbrev fs : List ℕ
  fs = filter (λ other. not (eqb other f)) (node_of s k)

  abbrev pool : FreeFrames
  pool = record s.pool { free = with_run s.pool.free f (order_of s f) }

  abbrev off : ℕ → LockValue
  off = update system.value j (Node fs)

  abbrev later : ℕ → LockValue
  later = update off pool_lock (Pool pool)

  abbrev run : FrameRun
  run = record { frame = f; order = order_for (layout_at s k) z.objects; objects = z.objects }

  j_small : j < 33
  j_small = omega (arith, has.inside)

  value_is : w.value ≡ system.value
  value_is = value_of m system.value system.words

  node_was : frames_in (system.value j) ≡ node_of s k
  node_was = ap (λ (value : ℕ → LockValue). frames_in (value j)) (sym value_is) ∙ ap frames_in (resting.values j j_small) ∙ sym (resting.nodes k)

  pool_was : pool_in (off pool_lock) ≡ s.pool
  pool_was = ap pool_in (update_other system.value j (Node fs) pool_lock (λ e. absurd (omega (arith, e)))) ∙ ap (λ (value : ℕ → LockValue). pool_in (value pool_lock)) (sym value_is) ∙ ap pool_in (resting.values pool_lock (omega arith))

  order_is : order_for (layout_at s k) z.objects ≡ order_of s f
  order_is =
      let y = place.slab_at_it opening s b system x call rest next is away in
      ap (λ i. order_for (layout_at s i) z.objects) (sym (place.cache opening s b system x call rest next is away) ∙ sym y.cache) ∙ ap (order_for (layout_at s y.slab.cache)) (sym y.objects) ∙ sym (order-of-slab s f y.slab begin.consistent y.there) ∙ sym (ap order_in y.there)
    where
      order_in : Option Slab → ℕ
      order_in o = option_map_or (λ (slab : Slab). slab.order) o 0

  puts_back : with_put (pool_in (off pool_lock)) run ≡ pool
  puts_back = ap (λ (p : FreeFrames). record p { free = with_run p.free f (order_for (layout_at s k) z.objects) }) pool_was ∙ ap (λ order. record s.pool { free = with_run s.pool.free f order }) order_is

  -- ---- the turns

  abbrev loaded : Local
  loaded = record l { spot = InFree LoadSlab; cache = k; cpu = call_cpu call; place = call_place call; fast = false; turn = 0; count = 0; cpu_word = c }

  abbrev stored : Local
  stored = record loaded { slab_word = z; spot = InFree FreeLocked }

  abbrev lost : Known
  lost = record o { held = false }

  abbrev reply : Reply
  reply = Freed (address_of f o.index (layout_at s k))

  abbrev taking : Local
  taking = answered (at (loses stored) (InFree TakeOff)) reply

  abbrev empty : Local
  empty = at (with_hand taking (bare_hand f)) (InDiscard Unmake FromFree)

  abbrev clear : Local
  clear = record taking { run = Some run; spot = InDiscard LockDiscard FromFree }

  abbrev puts : Local
  puts = at clear (InDiscard PutRun FromFree)

  abbrev gives : Local
  gives = record taking { run = None; spot = InDiscard GiveDiscard FromFree }

  abbrev giving : Local
  giving = at gives (InFree GiveFree)

  abbrev told : Local
  told = at giving Between

  abbrev v : SlabWord
  v = record z { head = o.index + 1; inuse = z.inuse - 1 }

  abbrev p : ℕ
  p = pointer_at m k f o.index

  abbrev value : ℕ
  value = hardened k p z.head

  abbrev words1 : List ℕ
  words1 = set system.words j a

  abbrev words2 : List ℕ
  words2 = set words1 (memory_base m + p) value

  abbrev words3 : List ℕ
  words3 = set words2 (slab_base + f) (slab_bits v)

  abbrev words4 : List ℕ
  words4 = set words3 (slab_base + f) (slab_bits no_slab_word)

  abbrev words5 : List ℕ
  words5 = set words4 pool_lock a

  abbrev words : List ℕ
  words = set words4 j 0

  abbrev end : System
  end = machine words later (set system.locals x (rested m told))

  slab_hit : eqb (get_or words2 (slab_base + f) 0) (slab_bits z) ≡ true
  slab_hit = place.slab_hit opening s b system x call rest next is away on_node one

  here_is : here taking ≡ lost
  here_is = get_or-set_same l.known (call_place call) lost nobody has.place

  long : nat_le (layout_at s k).min_partial (length (node_in system.value taking)) ≡ true
  long = le-leb (layout_at s k).min_partial (length (node_in system.value taking)) (let e = ap (length {A = ℕ}) node_was in omega (arith, e, enough))

  takes_off : at_once m false system.value taking (InFree TakeOff) ≡ stays off empty
  takes_off = ap by_length long ∙ ap by_frame (ap (λ (k : Known). k.frame) here_is) ∙ ap by_frames node_was
    where
      by_length : Bool → Change
      by_length h = record {
        value = cond {A = ℕ → LockValue} h (with_node system.value taking (without (node_in system.value taking) (here taking).frame)) system.value;
        local = cond {A = Local} h (at (with_hand taking (bare_hand (here taking).frame)) (InDiscard Unmake FromFree)) (at taking (InFree GiveFree));
        reply = None;
      }

      by_frame : ℕ → Change
      by_frame g = stays (with_node system.value taking (without (node_in system.value taking) g)) (at (with_hand taking (bare_hand g)) (InDiscard Unmake FromFree))

      by_frames : List ℕ → Change
      by_frames frames = stays (update system.value j (Node (without frames f))) empty

  turn6 : turn m (machine words2 system.value (set system.locals x stored)) (own_pick x) ≡ machine words3 off (set system.locals x empty)
  turn6 = turn_changes m words2 words3 system.value off system.locals x stored stored empty (record { place = SlabOf f; op = Exchange (slab_bits z) (slab_bits v) }) Won next.there refl refl
      (ap (λ h. set words2 (slab_base + f) (cond {A = ℕ} h (slab_bits v) (get_or words2 (slab_base + f) 0))) slab_hit) (ap (λ h. cond {A = Answer} h Won (Lost (get_or words2 (slab_base + f) 0))) slab_hit)
      (settle_tells_does m system.value off stored (at (loses stored) (InFree TakeOff)) empty Won reply refl takes_off refl refl)

  turn7 : turn m (machine words3 off (set system.locals x empty)) (own_pick x) ≡ machine words4 off (set system.locals x clear)
  turn7 = turn_goes m words3 words4 off system.locals x empty empty clear (record { place = SlabOf f; op = Store (slab_bits no_slab_word) }) Done next.there refl refl refl refl (settle_goes m off empty clear Done refl refl refl)

  pool_free : get_or words4 pool_lock 0 ≡ 0
  pool_free = get_or-set_other words3 (slab_base + f) pool_lock (slab_bits no_slab_word) 0 (λ e. absurd (omega (arith, e))) ∙ get_or-set_other words2 (slab_base + f) pool_lock (slab_bits v) 0 (λ e. absurd (omega (arith, e)))
      ∙ get_or-set_other words1 (memory_base m + p) pool_lock value 0 (λ e. absurd (omega (arith, e))) ∙ get_or-set_other system.words j pool_lock a 0 (λ e. absurd (omega (arith, e)))
      ∙ sym (lock-read m system.value system.words pool_lock (omega arith)) ∙ resting.locks pool_lock (omega arith)

  pool_hit : eqb (get_or words4 pool_lock 0) 0 ≡ true
  pool_hit = eq-eqb (get_or words4 pool_lock 0) 0 pool_free

  turn8 : turn m (machine words4 off (set system.locals x clear)) (own_pick x) ≡ machine words5 later (set system.locals x gives)
  turn8 = turn_changes m words4 words5 off later system.locals x clear clear gives (record { place = LockOf pool_lock; op = Exchange 0 a }) Won next.there refl refl
      (ap (λ h. set words4 pool_lock (cond {A = ℕ} h a (get_or words4 pool_lock 0))) pool_hit) (ap (λ h. cond {A = Answer} h Won (Lost (get_or words4 pool_lock 0))) pool_hit)
      (settle_does m off later clear puts gives Won None refl (ap (λ p. change (pool_with off p) gives None) puts_back) refl refl)

  turn9 : turn m (machine words5 later (set system.locals x gives)) (own_pick x) ≡ machine words4 later (set system.locals x giving)
  turn9 = turn_goes m words5 words4 later system.locals x gives gives giving (record { place = LockOf pool_lock; op = Store 0 }) Done next.there refl refl (lock_back words4 pool_lock a pool_free) refl (settle_goes m later gives giving Done refl refl refl)

  turn10 : turn m (machine words4 later (set system.locals x giving)) (own_pick x) ≡ end
  turn10 = turn_goes m words4 words later system.locals x giving giving (rested m told) (record { place = LockOf j; op = Store 0 }) Done next.there refl refl refl refl (settle_rests m later giving told Done refl refl)

  whole : alone m x 10 system ≡ end
  whole = alone_then m x 5 5 10 system (machine words2 system.value (set system.locals x stored)) end refl (place.locked_turns opening s b system x call rest next is away on_node one)
      (then_turn m x 4 (machine words2 system.value (set system.locals x stored)) (machine words3 off (set system.locals x empty)) end turn6
      (then_turn m x 3 (machine words3 off (set system.locals x empty)) (machine words4 off (set system.locals x clear)) end turn7
      (then_turn m x 2 (machine words4 off (set system.locals x clear)) (machine words5 later (set system.locals x gives)) end turn8
      (then_turn m x 1 (machine words5 later (set system.locals x gives)) (machine words4 later (set system.locals x giving)) end turn9
      (then_turn m x 0 (machine words4 later (set system.locals x giving)) end end turn10 refl)))))

  -- ---- where they end

  abbrev put : World
  put = set_slab (set_memory w p value) f v

  abbrev u : World
  u = record put { slab = update (update w.slab f v) f no_slab_word; value = update (update w.value j (Node fs)) pool_lock (Pool pool) }

  none_fit : IsSlabFit no_slab_word
  none_fit = (omega arith, omega arith, omega arith, omega arith)

  table1 : IsTable m words1
  table1 = place.ltable1 opening s b system x call rest next is away on_node one

  table2 : IsTable m words2
  table2 = place.ltable2 opening s b system x call rest next is away on_node one

  table3 : IsTable m words3
  table3 = record { length = length-set words2 (slab_base + f) (slab_bits v) ∙ table2.length; locks = refl; cpu_words = refl; frames = begin.table.frames; objects = begin.table.objects }

  table4 : IsTable m words4
  table4 = record { length = length-set words3 (slab_base + f) (slab_bits no_slab_word) ∙ table3.length; locks = refl; cpu_words = refl; frames = begin.table.frames; objects = begin.table.objects }

  says : world_of m later words ≡ u
  says = world_of-lock m later words4 j 0 table4 j_small
      ∙ ap (λ w. set_lock w j 0) (world_of-slab m later words3 f (slab_bits no_slab_word) table3 within.1
      ∙ ap (λ w. set_slab w f (slab_in (slab_bits no_slab_word))) (world_of-slab m later words2 f (slab_bits v) table2 within.1
      ∙ ap (λ w. set_slab w f (slab_in (slab_bits v))) (world_of-memory m later words1 p value table1 has.pointer ∙ ap (λ w. set_memory w p value) (world_of-lock m later system.words j a begin.table j_small)))
      ∙ ap (λ c. set_slab (set_slab (set_memory (set_lock (world_of m later system.words) j a) p value) f c) f (slab_in (slab_bits no_slab_word))) (slab_in-bits v fit)
      ∙ ap (set_slab (set_slab (set_memory (set_lock (world_of m later system.words) j a) p value) f v) f) (slab_in-bits no_slab_word none_fit))
      ∙ ap (λ w. set_lock (set_slab (set_slab (set_memory (set_lock w j a) p value) f v) f no_slab_word) j 0) (world_of-value m system.value later system.words)
      ∙ ap (λ g. by_locks g later) (place.update_back w.lock j a 0 (resting.locks j j_small)) ∙ ap (λ values. by_locks w.lock (update (update values j (Node fs)) pool_lock (Pool pool))) (sym value_is)
    where
      by_locks : (ℕ → ℕ) → (ℕ → LockValue) → World
      by_locks locks values = record put { slab = update (update w.slab f v) f no_slab_word; lock = locks; value = values }

  are_whole : AreWhole m words
  are_whole = whole_lock m words4 j 0 j_small (whole_slab m words3 f no_slab_word refl (omega (arith, table3.length, within.1)) none_fit
      (whole_slab m words2 f v refl (omega (arith, table2.length, within.1)) fit (whole_memory m words1 p value refl begin.table.objects (whole_lock m system.words j a j_small rest.whole))))

  ended : IsCoherentSystem m opening end
  ended = subst (IsCoherentSystem m opening) whole (along opening s b system x next.there rest 9)

  worded : IsWorded u
  worded = let front = at_front m opening end x (omega (arith, next.there, length-set system.locals x (rested m told))) ended in subst IsWorded says front.stands.fresh.worded

  once : (j : ℕ) → times_named put (set system.locals x (rested m told)) j ≤ 1
  once j = subst (λ w. times_named w (set system.locals x (rested m told)) j ≤ 1) says (once_named m opening end ended j)

  calls : IsWithCalls told (rested m told)
  calls = rested_calls m told refl

  worker_rests : IsBetween w.setup (rested m told)
  worker_rests = subst (IsBetween w.setup) (sym calls.same) (record {
    between = refl;
    hands = begin.between.hands;
    string = begin.between.string;
    run = refl;
    packed = record { cpu_word = resting.words.cpu n; slab_word = resting.words.slab f; list_word = begin.between.packed.list_word; next = begin.between.packed.next };
    cpu = subst (λ (m : Setup). call_cpu call < m.cpus) (sym resting.setup) begin.may.cpu;
    numbers = All-set (λ (k : Known). k.object < w.setup.objects) l.known (call_place call) lost (subst (λ (m : Setup). o.object < m.objects) (sym resting.setup) (omega (arith, has.object, has.on_board))) begin.between.numbers;
    some = All-set (λ (k : Known). k.held ≡ true → 1 ≤ k.object) l.known (call_place call) lost (λ e. absurd (false≢true e)) begin.between.some;
  })

  put_worded : IsWorded put
  put_worded = record { cpu = worded.cpu; slab = each_updated w.slab f v (λ _ (d : SlabWord). IsSlabFit d) fit (λ i d. resting.words.slab i); list = worded.list; link = worded.link; room = worded.room; remainder = worded.remainder }

  abbrev freed : State
  freed = with_gone (with_freed (with_taken s (call_object call) k) f o.index) (call_object call) l.worker held

  frees_below : f < length s.frees
  frees_below = place.frees_below opening s b system x call rest next is away

  freed_rests : Rests freed b put (set system.locals x (rested m told))
  freed_rests = place.freed_rests opening s b system x call rest next is away (rested m told) (ap (λ (l : Local). l.known) calls.same) (ap (λ (l : Local). l.worker) calls.same) worker_rests put_worded once (omega (arith, place.inuse_one opening s b system x call rest next is away on_node one))

  abbrev after : State
  after = with_gone (discarded (without_slab (with_freed (with_taken s (call_object call) k) f o.index) k f) f) (call_object call) l.worker held

  -- no checked cache has the slab, and no other cache has it on its list
  unvalued : objects_in_values w.value w.setup.locks f ≡ 0
  unvalued = no_value-objects w.value w.setup.locks f (let alone = begin.front.stands.listed.shaped.alone f in let live : one_if (nat_lt 0 z.objects) ≡ 1 = ap one_if (lt-ltb 0 z.objects some) in omega (arith, alone, live))

  off_others : (i : ℕ) → (i ≡ k → ⊥) → times f (node_of s i) ≡ 0
  off_others i apart = elim (cases_eq (times f (node_of s i)) 0) [
    | inl none ↦ none
    | inr there ↦ absurd (apart (sym (subst (λ o. IfSome o (λ (slab : Slab). slab.cache ≡ i)) has.slab.1 (begin.consistent.listed.of_node i f (omega (arith, there)))) ∙ has.slab.2))
  ]

  ends : Rests after b u (set system.locals x (rested m told))
  ends = rests_discarded freed b put (set system.locals x (rested m told)) k f freed_rests has.inside has.lives is.unchecked (omega (arith, within.1, rest.lists.shaped.slabs)) (omega (arith, frees_below, length-set s.frees f (o.index ∷ own_free s f)))
      (omega (arith, has.inside, rest.lists.shaped.nodes)) unvalued off_others worded

  -- ---- on lists

  accounted : IsAccounted after
  accounted = taken-accounted s (call_object call) held begin.consistent has.named

  lengths : HasLengths after
  lengths = record {
    slabs = length-set s.slabs f None ∙ rest.lists.shaped.slabs;
    frees = length-set (set s.frees f (o.index ∷ own_free s f)) f [] ∙ length-set s.frees f (o.index ∷ own_free s f) ∙ rest.lists.shaped.frees;
    cpu_lists = rest.lists.shaped.cpu_lists;
    nodes = length-set s.nodes k fs ∙ rest.lists.shaped.nodes;
    checked = rest.lists.shaped.checked.numbers;
    memory = rest.lists.shaped.memory;
    gone = length-set s.gone (call_object call) (Some held) ∙ rest.lists.shaped.gone ∙ sym (length-set s.board (call_object call) None);
    live = length-set s.live k (get_or s.live k 0 - 1) ∙ rest.lists.shaped.live;
  }

  abbrev bare : State
  bare = with_freed (with_taken s (call_object call) k) f o.index

  settles : (live : Cache) → cache_of s k ≡ Some live → settled_at bare live.layout k (call_cpu call) f (own_free s f) ≡ discarded (without_slab bare k f) f
  settles live e = go (own_free s f) (place.chain_some opening s b system x call rest next is away on_node one)
    where
      min_is : live.layout.min_partial ≡ (layout_at s k).min_partial
      min_is = ap (λ (y : Layout). y.min_partial) (sym (layout_of s k live e))

      nothing : inuse_of bare f ≡ 0
      nothing = let own = ap (length {A = ℕ}) (get_or-set_same s.frees f (o.index ∷ own_free s f) [] frees_below) in omega (arith, own, one)

      spare : is_spare bare live.layout.min_partial k f && nat_lt 0 (times f (node_of s k)) ≡ true
      spare = rw (eq-eqb (inuse_of bare f) 0 nothing, le-leb live.layout.min_partial (length (node_of s k)) (omega (arith, enough, min_is)), lt-ltb 0 (times f (node_of s k)) on_node) refl

      go : (free : List ℕ) → 0 < length free → settled_at bare live.layout k (call_cpu call) f free ≡ discarded (without_slab bare k f) f
      go [] none = absurd (omega (arith, none))
      go (i ∷ free) more =
          cond-false {A = State} (is_frozen s f) bare (without_spare bare live.layout.min_partial k f) (place.frozen_is opening s b system x call rest next is away ∙ (place.marks opening s b system x call rest next is away on_node one).1)
          ∙ cond-true {A = State} (is_spare bare live.layout.min_partial k f && nat_lt 0 (times f (node_of s k))) (discarded (without_slab bare k f) f) bare spare

  frees : Frees s (call_cpu call) l.worker (call_object call) reply after
  frees = frees_held s (call_cpu call) l.worker (call_object call) o after has.named has.lives is.unchecked (λ live e. (
    ap (λ layout. Freed (address_of f o.index layout)) (layout_of s k live e),
    sym (ap (λ h. with_gone (cond {A = State} h (freed_here (with_taken s (call_object call) k) k (call_cpu call) o.index) (freed_there (with_taken s (call_object call) k) live.layout k (call_cpu call) f o.index)) (call_object call) l.worker held) (place.not_current f (lists_of s k (call_cpu call)).current away)
        ∙ ap (λ t. with_gone t (call_object call) l.worker held) (settles live e)),
  ))

  discards : FreesAlone opening s b system x call 10 b
  discards = record {
    reply = reply;
    after = after;
    frees = frees;
    known = known_ends s b system x 10 told words later next.there whole refl ∙ knows_freed l.known (call_place call) o.object (call_object call) l.worker s after held has.named (eq-eqb l.worker l.worker refl) has.on_board refl has.object;
    replies = replies_of opening s after b b system x 10 call reply told words later next whole refl refl refl refl same
        (ends_ready opening u s after b b system end rest same refl refl lengths accounted rest.beside.tids refl refl ended says ends are_whole);
  }
    where
      same : setup_of after b ≡ setup_of s b
      same = setup_same s b w system.locals after.frees s.cpu_lists s.memory (set s.board (call_object call) None) (set s.gone (call_object call) (Some held)) (set s.live k (get_or s.live k 0 - 1)) b.tids
          w.cpu w.slab w.memory (set system.locals x (rested m told)) (length-set s.board (call_object call) None)

pub last_discarded : LastOfListedAreDiscarded
last_discarded opening s b system x call rest next is on_node one enough =
    let known = known_at (worker_at system x) call in
    let away = node_away s known.cache known.cache (call_cpu call) known.frame (ready_starts opening s b system x call rest next).consistent on_node in
    discards opening s b system x call rest next is away on_node one enough
