-- An allocation that finds no slab, and makes a new one of a run of frames: the run is taken under the pool's lock, the free pointers and the slab word are stored, and the slab becomes current.
use Rattle.std.proofs.Common.{◌≡◌, ℕ, zero, suc, ◌+◌, ◌-◌, ◌*◌, ◌/◌, ◌%◌, ◌^◌, ◌<◌, ◌≤◌, eqb, cond, true, false, List, [], ◌∷◌, length, get_or, set, Option, Some, None, inl, inr, refl, ap, sym, ◌∙◌, subst, arith}
use Rattle.std.specs.Prelude.{nat_lt, is_some, IfSome, MatchOption, MatchResult}
use Rattle.std.specs.List.{range_with_len}
use Rattle.std.proofs.lemmas.Bool.{cases_eq, false≢true, eq-eqb, ne_eqb, le-ltb, lt-ltb, cond-true, cond-false, cond_both}
use Rattle.std.proofs.lemmas.List.{get_or-set_same, get_or-set_other, set-set, length-set}
use Rattle.std.proofs.lemmas.List.Elements.{All-set}
use Rattle.slub_common.specs.Times.{times}
use Rattle.slub_trace.specs.Kinds.{is_given}
use Rattle.slub_trace.specs.declared.reply.Reply.{Reply}
use Rattle.slub_trace.specs.declared.reply.Reply.TheVariants.{Given, NoSuchCache}
use Rattle.slub_cache_create.specs.declared.caches.Cache.{Cache}
use Rattle.slub_object_layout.specs.declared.layout.Layout.{Layout}
use Rattle.slub_object_layout.specs.Layout.{address_of, order_for}
use Rattle.slub_page_pool.specs.FreeFrames.{FreeFrames, IsPool}
use Rattle.slub_page_pool.specs.Block.{Takes}
use Rattle.slub_page_pool.proofs.Steps.{IsPool-less_run, Takes-unique}
use Rattle.slub_words.specs.declared.cpu.CpuWord.{CpuWord}
use Rattle.slub_words.specs.declared.slab.SlabWord.{SlabWord}
use Rattle.slub_words.specs.Words.{cpu_bits, slab_bits}
use Rattle.slub_lists.specs.declared.lists.Slab.{Slab}
use Rattle.slub_lists.specs.declared.lists.CpuLists.{CpuLists}
use Rattle.slub_lists.specs.declared.lists.Held.{Held}
use Rattle.slub_lists.specs.declared.lists.Run.{Run}
use Rattle.slub_lists.specs.State.{State}
use Rattle.slub_lists.specs.Alloc.{lists_of, no_lists, cpu_place, cache_of, checked_of, node_of, slab_of, own_free, from_free, from_slabs, from_partial, from_node, batch_of, with_new_slab, HasLayout, FindsRun, AllocatesNew, Gives}
use Rattle.slub_lists.specs.Named.{AllocatesNamed, AllocatesFrom}
use Rattle.slub_lists.specs.Coherent.{IsConsistent, IsAccounted, has_object, held_under}
use Rattle.slub_lists.specs.Places.{layout_at, pointer_at as pointer_in}
use Rattle.slub_lists.specs.Words.{is_word, word_at}
use Rattle.slub_lists.proofs.Accounted.{accounted-with_held}
use Rattle.slub_lists.proofs.CheckedTaking.{held-slab}
use Rattle.slub_lists.proofs.Coherence.{place-inside}
use Rattle.slub_lists.proofs.Framed.{run-unused}
use Rattle.slub_lists.proofs.Giving.{from-unchecked, run-objects, run-slot, with_new_slab-consistent}
use Rattle.slub_lists.proofs.Places.{own-none, own-object, order-of-slab, pointer-inside, pointers-apart, slab-inside, words-apart}
use Rattle.slub_lists.proofs.Runs.{run-for}
use Rattle.slub_core.specs.declared.call.Call.{Call}
use Rattle.slub_core.specs.declared.local.FrameRun.{FrameRun}
use Rattle.slub_core.specs.declared.local.Known.{Known}
use Rattle.slub_core.specs.declared.spot.Spot.TheVariants.{Between, InAlloc}
use Rattle.slub_core.specs.declared.spot.AllocSpot.TheVariants.{TakeRun, GivePool, LinkNew, Make, LoadReady}
use Rattle.slub_core.specs.declared.step.Answer.{Answer}
use Rattle.slub_core.specs.declared.step.Answer.TheVariants.{Done, Won, Lost}
use Rattle.slub_core.specs.declared.step.Op.TheVariants.{Store, Exchange}
use Rattle.slub_core.specs.declared.step.Place.TheVariants.{LockOf, SlabOf}
use Rattle.slub_core.specs.Calls.{call_kind, call_cpu, call_object, call_place}
use Rattle.slub_core.specs.Setup.{Setup, cpu_number, node_lock, pool_lock, pool_after, pointer_at, hardened}
use Rattle.slub_core.specs.Words.{cpu_in, slab_in, cpu_base, slab_base, memory_base}
use Rattle.slub_core.specs.World.{World, LockValue, Pool, update, set_cpu, set_slab, set_value, pointer, IsChain, world_from, world_of, frames_in, pool_in, objects_in_values, cache_in_values, order_in_values}
use Rattle.slub_core.specs.Local.{Local, nobody, at, run_of, hand_from, answered}
use Rattle.slub_core.specs.Alloc.{is_spent, run_found, or_least, found_run, pool_with, run_taken, way_of_run}
use Rattle.slub_core.specs.Fresh.{IsWorded, IsHeldRun, rising_next}
use Rattle.slub_core.specs.Replies.{names_object}
use Rattle.slub_core.specs.Spots.{stored_in}
use Rattle.slub_core.specs.Steps.{rested}
use Rattle.slub_core.specs.Run.{System, idle, turn}
use Rattle.slub_core.specs.Law.{IsCoherentSystem}
use Rattle.slub_core.proofs.Chains.{Leads-same}
use Rattle.slub_core.proofs.Leads.{at_work}
use Rattle.slub_core.proofs.Packed.{IsCpuFit, IsSlabFit, cpu_in-bits, slab_in-bits}
use Rattle.slub_core.proofs.PoolSpots.{the-pool}
use Rattle.slub_core.proofs.Update.{update_same, update_other, each_updated}
use Rattle.slub_core.proofs.StepWords.{IsTable, cpu-read, lock-read, memory-read, value_of, world_of-cpu, world_of-slab, world_of-value}
use Rattle.slub_law_opening.specs.Opening.{Beside, setup_of, tid_of, cpu_at, value_of as value_in}
use Rattle.slub_law_opening.specs.Rests.{IsBetween, IsCpuOf, IsFreelistOf, Rests, slab_at, named as named_in, times_named}
use Rattle.slub_law_opening.specs.Closing.{HasLengths}
use Rattle.slub_law_opening.proofs.Cpus.{current-at, cpu-bare, cpu-object}
use Rattle.slub_law_alone.specs.Alone.{own_pick, alone, worker_at, IsAtRest, IsNext, HasIds}
use Rattle.slub_law_alone.specs.Laws.{IsAlloc, HasNoSlab, AllocatesAlone, NewSlabsAreMade}
use Rattle.slub_law_alone.proofs.Apart.{slab_word}
use Rattle.slub_law_alone.proofs.Bits.{bits_in, keeps_small, memory_of, copied, copied_length, whole_cpu, whole_slab}
use Rattle.slub_law_alone.proofs.Changed.{setup_same}
use Rattle.slub_law_alone.proofs.CpuWords.{cpus_changed}
use Rattle.slub_law_alone.proofs.Ended.{alone_keeps, ends_at_rest, replies_of}
use Rattle.slub_law_alone.proofs.Knows.{known_ends, knows_given}
use Rattle.slub_law_alone.proofs.FastFree.{layout_of}
use Rattle.slub_law_alone.proofs.Install.{install_turns}
use Rattle.slub_law_alone.proofs.Names.{named_other, named_held, named_new}
use Rattle.slub_law_alone.proofs.NewSlabDry.{values_there, pool_slabs}
use Rattle.slub_law_alone.proofs.NewSlabFill.{alone_then, filled, fill, fill_other, filled_other, filled_table, filled_whole, filled_world, fill_turns, rising_chain}
use Rattle.slub_law_alone.proofs.NewSlabSearch.{turn_changes, settle_does, no_frame, searched, lock_back, search_turns}
use Rattle.slub_law_alone.proofs.Start.{IsStart, starts}
use Rattle.slub_law_alone.proofs.Turns.{machine, turn_goes, settle_goes, then_turn}
use Rattle.slub_law_alone.proofs.Workers.{AtFront, at_front, once_named, IsWithCalls, rested_calls}
use Rattle.slub_calls.specs.Changes.{grown}
use Rattle.slub_calls.proofs.ChangeNumbers.{cpu_here}

-- ---- the run that is found

abbrev pub as_run : Run → FrameRun
as_run run = record { frame = run.frame; order = run.order; objects = run.objects }

pub takes_it : (old : FreeFrames) (layout : Layout) (run : Run) (new : FreeFrames) → FindsRun old layout (Some run) new → Takes old run.order (Some run.frame) new
takes_it old layout run new found = elim found [
  | inl wide ↦ subst (λ o. Takes old o (Some run.frame) new) (sym wide.0) wide.2
  | inr least ↦ subst (λ o. Takes old o (Some run.frame) new) (sym least.1) least.4
]

pub finds_it : (m : Setup) (old : FreeFrames) (layout : Layout) (run : Run) (new : FreeFrames) → IsPool old → layout.order ≤ 10 → layout.min_order ≤ 10 → FindsRun old layout (Some run) new → found_run m old layout ≡ Some (as_run run)
finds_it m old layout run new good most least found = elim found [
  | inl wide ↦
      ap (λ t. or_least m old layout (run_found layout layout.order t)) (Takes-unique old layout.order (m.means.take old layout.order) (Some run.frame) (pool_after old layout.order (m.means.take old layout.order)) new (m.means.takes old layout.order good most) wide.2).0
      ∙ same layout.order (sym wide.0) (cond-true {A = ℕ} (eqb layout.order layout.order) layout.objects layout.min_objects_slab (eq-eqb layout.order layout.order refl) ∙ sym wide.1)
  | inr few ↦
      ap (λ t. or_least m old layout (run_found layout layout.order t)) (Takes-unique old layout.order (m.means.take old layout.order) None (pool_after old layout.order (m.means.take old layout.order)) old (m.means.takes old layout.order good most) few.3).0
      ∙ ap (run_found layout layout.min_order) (Takes-unique old layout.min_order (m.means.take old layout.min_order) (Some run.frame) (pool_after old layout.min_order (m.means.take old layout.min_order)) new (m.means.takes old layout.min_order good least) few.4).0
      ∙ same layout.min_order (sym few.1) (cond-false {A = ℕ} (eqb layout.min_order layout.order) layout.objects layout.min_objects_slab (ne_eqb layout.min_order layout.order few.0) ∙ sym few.2)
]
  where
    same : (order : ℕ) → order ≡ run.order → cond {A = ℕ} (eqb order layout.order) layout.objects layout.min_objects_slab ≡ run.objects → run_found layout order (Some run.frame) ≡ Some (as_run run)
    same order o n = λ i. Some (record { frame = run.frame; order = o i; objects = n i })

some_length : (j : ℕ) (xs : List ℕ) → 1 ≤ times j xs → 1 ≤ length xs
some_length j [] some = absurd (omega (arith, some))
some_length j (x ∷ xs) some = omega arith

-- the slab of a word
abbrev pub by_word : World → ℕ → SlabWord → Option Slab
by_word w f c =
    let n = cond (nat_lt 0 c.objects) c.objects (objects_in_values w.value w.setup.locks f) in
    cond (nat_lt 0 n)
    (Some (record {
      cache = cond (nat_lt 0 c.objects) c.cache (cache_in_values w.value w.setup.locks f);
      order = cond (nat_lt 0 c.objects) (order_for (w.setup.layout c.cache) c.objects) (order_in_values w.value w.setup.locks f);
      objects = n;
      frozen = c.frozen;
    })) None

by_word-some : (w : World) (f : ℕ) (c : SlabWord) → 1 ≤ c.objects → by_word w f c ≡ Some (record { cache = c.cache; order = order_for (w.setup.layout c.cache) c.objects; objects = c.objects; frozen = c.frozen })
by_word-some w f c some = rw (lt-ltb 0 c.objects some) (cond-true {A = Option Slab} (nat_lt 0 c.objects) (Some (record { cache = c.cache; order = order_for (w.setup.layout c.cache) c.objects; objects = c.objects; frozen = c.frozen })) None (lt-ltb 0 c.objects some))

module _ (opening : World) (s : State) (b : Beside) (system : System) (x : ℕ) (call : Call) (place k : ℕ) (run : Run) (pool : FreeFrames) (rest : IsAtRest opening s b system) (next : IsNext system x call) (is : IsAlloc s call place k)
    (ids : HasIds b (cpu_number k (call_cpu call)) 1) (none : HasNoSlab s k (call_cpu call)) (finds : FindsRun s.pool (layout_at s k) (Some run) pool) where
  abbrev m : Setup
  m = setup_of s b

  abbrev w : World
  w = world_of m system.value system.words

  abbrev l : Local
  l = worker_at system x

  abbrev n : ℕ
  n = cpu_number k (call_cpu call)

  abbrev c : CpuWord
  c = w.cpu n

  abbrev lists : CpuLists
  lists = lists_of s k (call_cpu call)

  abbrev f : ℕ
  f = run.frame

  begin : IsStart opening s b system x call
  begin = starts opening s b system x call rest next

  consistent : IsConsistent s
  consistent = begin.consistent

  resting : Rests s b w system.locals
  resting = rest.rests.rests

  lives : m.lives k ≡ true
  lives = subst (λ o. IfSome o (λ k. m.lives k ≡ true)) is.asks begin.may.cache

  inside : k < 32
  inside = begin.setup.live k lives

  cpu : call_cpu call < s.cpus
  cpu = begin.may.cpu

  small : n < 512
  small = omega (arith, inside, cpu, begin.few)

  here : cpu_at s n ≡ lists
  here = cpu_here s k (call_cpu call) cpu begin.few

  cpu_is : IsCpuOf b w n lists
  cpu_is = subst (IsCpuOf b w n) here (resting.cpu n small)

  empty : lists.free ≡ []
  empty = sym (ap (λ (x : CpuLists). x.free) here) ∙ cpu-bare s n consistent (ap (λ (x : CpuLists). x.current) here ∙ none.current)

  frame : c.frame ≡ 0
  frame = no_frame c.frame (sym cpu_is.current ∙ none.current)

  names : names_object (call_kind call) ≡ true
  names = ap names_object is.kind

  -- ---- the run

  value_is : w.value ≡ system.value
  value_is = value_of m system.value system.words

  pool_there : w.value pool_lock ≡ Pool s.pool
  pool_there = resting.values pool_lock (omega arith)

  pool_was : pool_in (system.value pool_lock) ≡ s.pool
  pool_was = ap (λ (value : ℕ → LockValue). pool_in (value pool_lock)) (sym value_is) ∙ ap pool_in pool_there

  is_pool : IsPool s.pool
  is_pool = subst IsPool (ap pool_in pool_there) (the-pool w (begin.front.worker ∷ begin.front.others) begin.front.stands).0

  orders : ((layout_at s k).order ≤ 3) × ((layout_at s k).min_order ≤ (layout_at s k).order)
  orders = (let bounds = begin.setup.layout k lives in bounds.order, let bounds = begin.setup.layout k lives in bounds.min_order)

  found : found_run m (pool_in (system.value pool_lock)) (m.layout k) ≡ Some (as_run run)
  found = ap (λ pool. found_run m pool (m.layout k)) pool_was ∙ finds_it m s.pool (layout_at s k) run pool is_pool (omega (arith, orders.0)) (omega (arith, orders.0, orders.1)) finds

  pool_is : pool ≡ pool_after s.pool run.order (Some run.frame)
  pool_is = (takes_it s.pool (layout_at s k) run pool finds).1

  good_pool : IsPool pool
  good_pool = subst IsPool (sym pool_is) (IsPool-less_run is_pool run.frame run.order)

  has_layout : HasLayout s k (layout_at s k)
  has_layout = by (cache_of s k) refl lives
    where
      by : (o : Option Cache) → cache_of s k ≡ o → is_some o ≡ true → MatchOption o ⊥ (λ live. live.layout ≡ layout_at s k)
      by None e live = false≢true live
      by (Some live) e has_it = sym (layout_of s k live e)

  count : (1 ≤ run.objects) × (run.objects ≤ 512)
  count = run-objects s k (layout_at s k) consistent has_layout run pool finds

  abbrev few : ℕ
  few = run.objects - 1

  sum : suc few ≡ run.objects
  sum = omega (arith, count.0)

  within : f < s.frames
  within = run-slot s k (layout_at s k) consistent has_layout run pool finds

  slot : f < length s.slabs
  slot = omega (arith, within, rest.lists.shaped.slabs)

  no_slab : slab_of s f ≡ None
  no_slab = run-unused s k (call_cpu call) pool run (run-for s.pool (layout_at s k) run pool finds).all_free consistent.framed slot

  -- ---- the lists with the slab

  abbrev made : State
  made = with_new_slab s k (call_cpu call) pool run

  abbrev slab : Slab
  slab = record { cache = k; order = run.order; objects = run.objects; frozen = true }

  made_consistent : IsConsistent made
  made_consistent = with_new_slab-consistent s k (layout_at s k) consistent has_layout (call_cpu call) run pool is.unchecked cpu none.current good_pool finds

  slab_here : slab_of made f ≡ Some slab
  slab_here = get_or-set_same s.slabs f (Some slab) None slot

  first : 1 ≤ f
  first = (slab-inside made f slab made_consistent slab_here).0

  p_inside : (i : ℕ) → i < run.objects → pointer_at m k f i < 512 * m.frames
  p_inside i below = let e : pointer_at m k f i < length s.memory = pointer-inside made f i slab made_consistent slab_here below in omega (arith, e, rest.lists.shaped.memory)

  -- no free pointer of another slab is there, and no word of an object
  apart : (g j : ℕ) (y : Slab) → slab_of s g ≡ Some y → j < y.objects → (i : ℕ) → i < run.objects → pointer_in (layout_at s y.cache) g j ≡ pointer_at m k f i → ⊥
  apart g j y there below_y i below same =
      away (pointers-apart made g j f i y slab made_consistent (get_or-set_other s.slabs f g (Some slab) None away ∙ there) slab_here below_y below same).0
    where
      away : g ≡ f → ⊥
      away e = absurd (let same = ap (slab_of s) e in cc (there, same, no_slab))

  word_away : (o word : ℕ) (h : Held) → held_under s o ≡ Some h → is_word (layout_at s h.cache) word ≡ true → (i : ℕ) → i < run.objects → word_at (layout_at s h.cache) h word ≡ pointer_at m k f i → ⊥
  word_away o word h there is_inside i below same =
      let y = held-slab s o h there consistent in
      let r = words-apart made o word h f i slab made_consistent there is_inside slab_here below same in
      absurd (let e = ap (slab_of s) r.0 in let at_y = y.1 in cc (at_y, e, no_slab))

  -- ---- the turns

  abbrev a : ℕ
  a = l.worker + 1

  abbrev later : ℕ → LockValue
  later = pool_with system.value (pool_after (pool_in (system.value pool_lock)) run.order (Some run.frame))

  abbrev waits : Local
  waits = searched l call k c

  abbrev takes_run : Local
  takes_run = at waits (InAlloc TakeRun)

  abbrev has_run : Local
  has_run = record waits { spot = InAlloc GivePool; run = Some (as_run run) }

  abbrev links : Local
  links = record waits { run = Some (as_run run); spot = InAlloc (LinkNew 0) }

  abbrev makes : Local
  makes = record waits { run = Some (as_run run); spot = InAlloc Make }

  abbrev base : Local
  base = record waits { run = None }

  abbrev ready : Local
  ready = record base { spot = InAlloc LoadReady; hands = hand_from f 1 ∷ l.hands }

  abbrev e : SlabWord
  e = record { head = 0; inuse = run.objects; objects = run.objects; frozen = true; listed = false; cache = k }

  abbrev words1 : List ℕ
  words1 = set system.words pool_lock a

  abbrev words2 : List ℕ
  words2 = filled m k f run.objects 0 (suc few) system.words

  abbrev words3 : List ℕ
  words3 = set words2 (slab_base + f) (slab_bits e)

  lock_zero : get_or system.words pool_lock 0 ≡ 0
  lock_zero = sym (lock-read m system.value system.words pool_lock (omega arith)) ∙ resting.locks pool_lock (omega arith)

  lock_hit : eqb (get_or system.words pool_lock 0) 0 ≡ true
  lock_hit = eq-eqb (get_or system.words pool_lock 0) 0 lock_zero

  turn5 : turn m (machine system.words system.value (set system.locals x waits)) (own_pick x) ≡ machine words1 later (set system.locals x has_run)
  turn5 = turn_changes m system.words words1 system.value later system.locals x waits waits has_run (record { place = LockOf pool_lock; op = Exchange 0 a }) Won next.there refl refl
      (ap (λ h. set system.words pool_lock (cond {A = ℕ} h a (get_or system.words pool_lock 0))) lock_hit) (ap (λ h. cond {A = Answer} h Won (Lost (get_or system.words pool_lock 0))) lock_hit)
      (settle_does m system.value later waits takes_run has_run Won None refl
      (ap (λ (found : Option FrameRun). run_taken system.value (pool_in (system.value pool_lock)) (m.layout k) (at takes_run (way_of_run found)) found) found) refl refl)

  turn6 : turn m (machine words1 later (set system.locals x has_run)) (own_pick x) ≡ machine system.words later (set system.locals x links)
  turn6 = turn_goes m words1 system.words later system.locals x has_run has_run links (record { place = LockOf pool_lock; op = Store 0 }) Done next.there refl refl (lock_back system.words pool_lock a lock_zero) refl
      (settle_goes m later has_run links Done refl refl refl)

  -- up to the slab word
  filled_run : alone m x (6 + suc few) system ≡ machine words2 later (set system.locals x makes)
  filled_run =
      alone_then m x 4 (2 + suc few) (6 + suc few) system (machine system.words system.value (set system.locals x waits)) (machine words2 later (set system.locals x makes)) (omega arith) (search_turns opening s b system x call place k rest next is ids none)
      (alone_then m x 2 (suc few) (2 + suc few) (machine system.words system.value (set system.locals x waits)) (machine system.words later (set system.locals x links)) (machine words2 later (set system.locals x makes)) refl
      (then_turn m x 1 (machine system.words system.value (set system.locals x waits)) (machine words1 later (set system.locals x has_run)) (machine system.words later (set system.locals x links)) turn5
      (then_turn m x 0 (machine words1 later (set system.locals x has_run)) (machine system.words later (set system.locals x links)) (machine system.words later (set system.locals x links)) turn6 refl))
      (fill_turns m later system.locals x waits (as_run run) few 0 system.words next.there (omega (arith, sum))))

  -- ---- what is stored then

  abbrev mem : ℕ → ℕ
  mem = fill m k f run.objects 0 (suc few) w.memory

  abbrev filled_up : World
  filled_up = record w { value = update w.value pool_lock (Pool pool); memory = mem }

  later_says : world_of m later system.words ≡ set_value w pool_lock (Pool pool)
  later_says = world_of-value m system.value later system.words
      ∙ ap with_value (ap (λ (g : ℕ → LockValue). update g pool_lock (Pool (pool_after (pool_in (g pool_lock)) run.order (Some run.frame)))) (sym value_is)
      ∙ ap (λ p. update w.value pool_lock (Pool p)) (ap (λ p. pool_after p run.order (Some run.frame)) (ap pool_in pool_there) ∙ sym pool_is))
    where
      with_value : (ℕ → LockValue) → World
      with_value g = record w { value = g }

  filled_says : world_of m later words2 ≡ filled_up
  filled_says = filled_world m later k f run.objects 0 (suc few) system.words (set_value w pool_lock (Pool pool)) begin.table (λ i le lt. p_inside i (omega (arith, lt, sum))) later_says

  held_run : IsHeldRun (world_of m later words2) k (Some (as_run run)) run.objects
  held_run =
      let sys : System = machine words2 later (set system.locals x makes) in
      let coherent = subst (IsCoherentSystem m opening) filled_run (alone_keeps m opening x (6 + suc few) system rest.coherent) in
      let front : AtFront m opening sys x = at_front m opening sys x (omega (arith, next.there, length-set system.locals x makes)) coherent in
      let mine = front.local ∙ get_or-set_same system.locals x makes idle next.there in
      subst (λ (l : Local). IsHeldRun (world_of m later words2) l.cache l.run (stored_in l.spot (run_of l).objects)) mine (at_work (world_of m later words2) front.worker front.others front.stands).seen.run

  linked : (i : ℕ) → i < run.objects → pointer filled_up k f i ≡ rising_next run.objects i
  linked = subst (λ w. (i : ℕ) → i < run.objects → pointer w k f i ≡ rising_next run.objects i) filled_says held_run.2

  -- ---- the last turns

  table2 : IsTable m words2
  table2 = filled_table m k f run.objects 0 (suc few) system.words begin.table

  table3 : IsTable m words3
  table3 = record { length = length-set words2 (slab_base + f) (slab_bits e) ∙ table2.length; locks = refl; cpu_words = refl; frames = begin.table.frames; objects = begin.table.objects }

  abbrev p0 : ℕ
  p0 = pointer_at m k f 0

  abbrev follows : ℕ
  follows = hardened k p0 (get_or words3 (memory_base m + p0) 0) % 2 ^ 16

  follows_is : follows ≡ pointer filled_up k f 0
  unfolding world_of world_from
  follows_is =
      ap (λ y. hardened k p0 y % 2 ^ 16) (get_or-set_other words2 (slab_base + f) (memory_base m + p0) (slab_bits e) 0 (λ e. absurd (omega (arith, e, within, begin.table.objects)))
      ∙ sym (memory-read m later words2 p0 (p_inside 0 count.0)) ∙ ap (λ (w : World). w.memory p0) filled_says)
      ∙ keeps_small (pointer filled_up k f 0) (subst (λ n. n < 2 ^ 16) (sym (linked 0 count.0)) (cond_both (nat_lt (0 + 1) run.objects) (0 + 2) 0 (λ n. n < 2 ^ 16) (λ e. omega arith) (λ e. omega arith)))

  abbrev v : CpuWord
  v = record { tid = c.tid + b.step; frame = f; head = follows }

  abbrev words : List ℕ
  words = set words3 (cpu_base + n) (cpu_bits v)

  abbrev known : Known
  known = record { object = (get_or l.known (call_place call) nobody).object; frame = f; index = 0; cache = k; held = true }

  abbrev has : Local
  has = record base { spot = Between; hands = l.hands; cpu_word = c; known = set l.known (call_place call) known }

  abbrev reply : Reply
  reply = Given (address_of f 0 (layout_at s k))

  abbrev told : Local
  told = answered has reply

  turn_make : turn m (machine words2 later (set system.locals x makes)) (own_pick x) ≡ machine words3 later (set system.locals x ready)
  turn_make = turn_goes m words2 words3 later system.locals x makes makes ready (record { place = SlabOf f; op = Store (slab_bits e) }) Done next.there refl refl refl refl (settle_goes m later makes ready Done refl refl refl)

  whole : alone m x (10 + run.objects) system ≡ machine words later (set system.locals x (rested m told))
  whole = alone_then m x (6 + suc few) 4 (10 + run.objects) system (machine words2 later (set system.locals x makes)) (machine words later (set system.locals x (rested m told))) (omega (arith, sum)) filled_run
      (then_turn m x 3 (machine words2 later (set system.locals x makes)) (machine words3 later (set system.locals x ready)) (machine words later (set system.locals x (rested m told))) turn_make
      (install_turns m words3 later system.locals x base l.hands f 1 c next.there reads (resting.words.cpu n) frame spent))
    where
      reads : get_or words3 (cpu_base + n) 0 ≡ cpu_bits c
      reads = get_or-set_other words2 (slab_base + f) (cpu_base + n) (slab_bits e) 0 (λ e. absurd (omega (arith, e, small)))
          ∙ filled_other m k f run.objects 0 (suc few) system.words (cpu_base + n) (omega (arith, small, begin.table.objects))
          ∙ sym (bits_in (get_or system.words (cpu_base + n) 0)) ∙ ap cpu_bits (sym (cpu-read m system.value system.words n small))

      spent : is_spent m c ≡ false
      spent = le-ltb (4294967295 - 2 * b.step) c.tid (omega (arith, ids, cpu_is.tid, rest.beside.step.1))

  -- ---- where they end

  ended : IsCoherentSystem m opening (machine words later (set system.locals x (rested m told)))
  ended = subst (IsCoherentSystem m opening) whole (alone_keeps m opening x (10 + run.objects) system rest.coherent)

  fit : IsCpuFit v
  fit = (omega (arith, ids, cpu_is.tid), omega (arith, within, begin.setup.frames), omega arith)

  fit_e : IsSlabFit e
  fit_e = (omega arith, omega (arith, count.1), omega (arith, count.1), omega (arith, inside))

  abbrev u : World
  u = record w { cpu = update w.cpu n v; slab = update w.slab f e; value = update w.value pool_lock (Pool pool); memory = mem }

  says : world_of m later words ≡ u
  says = world_of-cpu m later words3 n (cpu_bits v) table3 small
      ∙ ap (λ w. set_cpu w n (cpu_in (cpu_bits v))) (world_of-slab m later words2 f (slab_bits e) table2 within ∙ ap (λ w. set_slab w f (slab_in (slab_bits e))) filled_says ∙ ap (set_slab filled_up f) (slab_in-bits e fit_e))
      ∙ ap (set_cpu (set_slab filled_up f e) n) (cpu_in-bits v fit)

  abbrev left : CpuLists
  left = record { current = Some f; free = range_with_len 1 few; partial = lists.partial }

  abbrev held : Held
  held = record { frame = f; index = 0; cache = k; worker = Some l.worker }

  abbrev after : State
  after = record s { pool = pool; slabs = set s.slabs f (Some slab); cpu_lists = set s.cpu_lists (cpu_place s k (call_cpu call)) left; board = set s.board (call_object call) (Some held); live = set s.live k (get_or s.live k 0 + 1) }

  abbrev given : State
  given = record after { memory = memory_of (world_of m later words) (512 * s.frames) }

  abbrev b1 : Beside
  b1 = grown b n 1

  calls : IsWithCalls told (rested m told)
  calls = rested_calls m told refl

  known_is : (rested m told).known ≡ set l.known (call_place call) known
  known_is = ap (λ (l : Local). l.known) calls.same

  worker_is : (rested m told).worker ≡ l.worker
  worker_is = ap (λ (l : Local). l.worker) calls.same

  object : known.object ≡ call_object call
  object = begin.may.known names

  on_board : call_object call < length s.board
  on_board = (begin.may.object names).1

  once : (o : ℕ) → times_named u (set system.locals x (rested m told)) o ≤ 1
  once o = subst (λ w. times_named w (set system.locals x (rested m told)) o ≤ 1) says (once_named m opening (machine words later (set system.locals x (rested m told))) ended o)

  unused : held_under s (call_object call) ≡ None
  unused = resting.named (call_object call) ∙ named_new w system.locals x (call_place call) (rested m told) known next.there (begin.may.place names) known_is refl (begin.may.new is.kind) (call_object call) object (once (call_object call))

  place_below : cpu_place s k (call_cpu call) < length s.cpu_lists
  place_below = place-inside s k (call_cpu call) rest.lists.shaped inside cpu

  worker_rests : IsBetween w.setup (rested m told)
  worker_rests = subst (IsBetween w.setup) (sym calls.same) (record {
    between = refl;
    hands = begin.between.hands;
    string = refl;
    run = refl;
    packed = record { cpu_word = resting.words.cpu n; slab_word = begin.between.packed.slab_word; list_word = begin.between.packed.list_word; next = begin.between.packed.next };
    cpu = subst (λ (m : Setup). call_cpu call < m.cpus) (sym resting.setup) begin.may.cpu;
    numbers = All-set (λ (k : Known). k.object < w.setup.objects) l.known (call_place call) known (subst (λ (m : Setup). known.object < m.objects) (sym resting.setup) (omega (arith, object, on_board))) begin.between.numbers;
    some = All-set (λ (k : Known). k.held ≡ true → 1 ≤ k.object) l.known (call_place call) known (λ _. omega (arith, object, (begin.may.object names).0)) begin.between.some;
  })

  -- ---- chains

  kept : (q g j : ℕ) → ((i : ℕ) → i < run.objects → pointer_in (layout_at s q) g j ≡ pointer_at m k f i → ⊥) → pointer u q g j ≡ pointer w q g j
  kept q g j away =
      let p = pointer_at w.setup q g j in
      ap (hardened q p) (fill_other m k f run.objects 0 (suc few) w.memory p (λ i le lt same. away i (omega (arith, lt, sum)) (sym (ap (λ (m : Setup). pointer_at m q g j) resting.setup) ∙ same)))

  cpu_stands : (j : ℕ) → j < 512 → IsChain (pointer u (j / 16) (w.cpu j).frame) (w.cpu j).head (cpu_at s j).free
  cpu_stands j below =
      let c = resting.cpu j below in
      Leads-same (pointer w (j / 16) (w.cpu j).frame) (pointer u (j / 16) (w.cpu j).frame) (w.cpu j).head (cpu_at s j).free 0 (λ o some. kept (j / 16) (w.cpu j).frame o (λ i under same. at_cpu o some i under same)) c.free
    where
      current : (o : ℕ) → 1 ≤ times o (cpu_at s j).free → (cpu_at s j).current ≡ Some (w.cpu j).frame
      current o some = elim (cases_eq (w.cpu j).frame 0) [
        | inl z ↦ absurd (
            let bare : (cpu_at s j).current ≡ None = (resting.cpu j below).current ∙ cond-true {A = Option ℕ} (eqb (w.cpu j).frame 0) None (Some (w.cpu j).frame) (eq-eqb (w.cpu j).frame 0 z) in
            let nothing : times o (cpu_at s j).free ≡ 0 = ap (times o) (cpu-bare s j consistent bare) in
            omega (arith, nothing, some))
        | inr away ↦ (resting.cpu j below).current ∙ cond-false {A = Option ℕ} (eqb (w.cpu j).frame 0) None (Some (w.cpu j).frame) (ne_eqb (w.cpu j).frame 0 away)
      ]

      at_cpu : (o : ℕ) → 1 ≤ times o (cpu_at s j).free → (i : ℕ) → i < run.objects → pointer_in (layout_at s (j / 16)) (w.cpu j).frame o ≡ pointer_at m k f i → ⊥
      at_cpu o some i under same =
          let there = current-at s j (w.cpu j).frame consistent (current o some) in
          apart (w.cpu j).frame o there.slab there.there (cpu-object s j (w.cpu j).frame o consistent (current o some) some) i under (ap (λ q. pointer_in (layout_at s q) (w.cpu j).frame o) there.own ∙ same)

  own_stands : (g : ℕ) → IsChain (pointer u (w.slab g).cache g) (w.slab g).head (own_free s g)
  own_stands g = Leads-same (pointer w (w.slab g).cache g) (pointer u (w.slab g).cache g) (w.slab g).head (own_free s g) 0 (λ o some. kept (w.slab g).cache g o (λ i under same. at_slab o some i under same)) (resting.own g).chain
    where
      at_slab : (o : ℕ) → 1 ≤ times o (own_free s g) → (i : ℕ) → i < run.objects → pointer_in (layout_at s (w.slab g).cache) g o ≡ pointer_at m k f i → ⊥
      at_slab o some i under same =
          let r = own-object s g o consistent some in
          let y = slab_word s b w system.locals resting g (omega (arith, (resting.own g).in_use, some_length o (own_free s g) some)) in
          let one : r.0 ≡ y.slab = injected (sym r.1 ∙ y.there) in
          apart g o r.0 r.1 r.2 i under (ap (λ (x : Slab). pointer_in (layout_at s x.cache) g o) one ∙ ap (λ q. pointer_in (layout_at s q) g o) y.cache ∙ same)
        where
          injected : {x y : Slab} → Some x ≡ Some y → x ≡ y
          injected e = cc

  own_ends : (g : ℕ) → IsFreelistOf u g (own_free s g)
  own_ends g = elim (cases_eq g f) [
    | inl same ↦ subst (λ g. IsFreelistOf u g (own_free s g)) (sym same) (subst (IsFreelistOf u f) (sym (own-none s f consistent no_slab)) (record {
      chain = ap (λ (c : SlabWord). c.head) (update_same w.slab f e);
      in_use = subst (λ (c : SlabWord). c.inuse + 0 ≡ c.objects) (sym (update_same w.slab f e)) (omega arith);
    }))
    | inr other ↦ record {
      chain = subst (λ (c : SlabWord). IsChain (pointer u c.cache g) c.head (own_free s g)) (sym (update_other w.slab f e g other)) (own_stands g);
      in_use = subst (λ (c : SlabWord). c.inuse + length (own_free s g) ≡ c.objects) (sym (update_other w.slab f e g other)) (resting.own g).in_use;
    }
  ]

  cpu_ends : (j : ℕ) → j < 512 → IsCpuOf b1 u j (cpu_at given j)
  cpu_ends j below =
      let chain : IsChain (pointer filled_up k f) (0 + 1) (range_with_len 0 (suc few)) = rising_chain (pointer filled_up k f) run.objects few 0 (omega (arith, sum)) linked in
      let r = cpus_changed s b w k (call_cpu call) left v (tid_of b n + 1 * b.step) (update w.slab f e) mem cpu begin.few place_below (omega (arith, small, rest.beside.tids)) resting.cpu (omega (arith, cpu_is.tid))
      (sym (cond-false {A = Option ℕ} (eqb f 0) None (Some f) (ne_eqb f 0 (λ z. absurd (omega (arith, z, first))))))
      (subst (λ h. IsChain (pointer filled_up k f) h (range_with_len 1 few)) (sym follows_is) chain.1) refl (λ j below away. cpu_stands j below) j below in
      record { tid = r.tid; current = r.current; free = r.free; count = r.count; partial = r.partial }

  -- ---- slabs

  slabs_are : (g : ℕ) → slab_of given g ≡ slab_at u g
  slabs_are g = elim (cases_eq g f) [
    | inl same ↦ subst (λ g. slab_of given g ≡ slab_at u g) (sym same) (slab_here ∙ sym at_it)
    | inr other ↦ get_or-set_other s.slabs f g (Some slab) None other ∙ resting.slab g ∙ sym (ap (by_word u g) (update_other w.slab f e g other) ∙ pool_slabs w s.pool pool pool_there g)
  ]
    where
      at_it : slab_at u f ≡ Some slab
      at_it = ap (by_word u f) (update_same w.slab f e) ∙ by_word-some u f e count.0
          ∙ ap (λ r. Some (record slab { order = r })) (ap (λ (m : Setup). order_for (m.layout k) run.objects) resting.setup ∙ sym (order-of-slab made f slab made_consistent slab_here))

  names_are : (o : ℕ) → get_or (set s.board (call_object call) (Some held)) o None ≡ named_in u (set system.locals x (rested m told)) o
  names_are o = elim (cases_eq o (call_object call)) [
    | inl e ↦ ap (λ o. get_or (set s.board (call_object call) (Some held)) o None) e ∙ get_or-set_same s.board (call_object call) (Some held) None on_board ∙ ap (λ worker. Some (record { frame = f; index = 0; cache = k; worker = Some worker })) (sym worker_is)
        ∙ sym (named_held u system.locals x (call_place call) (rested m told) l.known known next.there (begin.may.place names) known_is refl (once known.object)) ∙ ap (named_in u (set system.locals x (rested m told))) (object ∙ sym e)
    | inr away ↦ get_or-set_other s.board (call_object call) o (Some held) None away ∙ resting.named o ∙ sym (named_other u system.locals x (call_place call) (rested m told) known worker_is known_is refl o (λ e. away (sym e ∙ object)))
  ]

  values_are : (j : ℕ) → j < 33 → u.value j ≡ value_in given j
  values_are zero below = refl
  values_are (suc j) below = update_other w.value pool_lock (Pool pool) (suc j) (λ e. absurd (omega (arith, e))) ∙ resting.values (suc j) below

  words_copied : (p : ℕ) → u.memory p ≡ get_or given.memory p 0
  words_copied p = sym (ap (λ (w : World). w.memory p) says) ∙ copied m later words p

  ends : Rests given b1 u (set system.locals x (rested m told))
  ends = record {
    setup = resting.setup ∙ sym same_setup;
    words = let front = at_front m opening (machine words later (set system.locals x (rested m told))) x (omega (arith, next.there, length-set system.locals x (rested m told))) ended in subst IsWorded says front.stands.fresh.worded;
    workers = All-set (IsBetween w.setup) system.locals x (rested m told) worker_rests resting.workers;
    locks = resting.locks;
    values = values_are;
    nodes = λ j. resting.nodes j ∙ ap frames_in (sym (values_there s pool (node_lock j) (omega arith)));
    cpu = cpu_ends;
    slab = slabs_are;
    unchecked = each_updated w.slab f e (λ g (c : SlabWord). 1 ≤ c.objects → checked_of s c.cache ≡ None) (λ some. is.unchecked) (λ g d. resting.unchecked g);
    unslabbed = each_updated w.slab f e (λ g (c : SlabWord). c.objects ≡ 0 → c.frozen ≡ false) (λ zero. absurd (omega (arith, zero, count.0))) (λ g d. resting.unslabbed g);
    own = own_ends;
    listed = each_updated w.slab f e (λ g (c : SlabWord). c.listed ≡ nat_lt 0 (times g (node_of s c.cache))) (sym (ap (λ fs. nat_lt 0 (times f fs)) none.node)) (λ g d. resting.listed g);
    named = names_are;
    once = once;
    no_zero = resting.no_zero;
    contents = λ o word h there plain is_word. words_copied _;
  }
    where
      same_setup : setup_of given b1 ≡ setup_of s b
      same_setup = setup_same s b w system.locals s.frees (set s.cpu_lists (cpu_place s k (call_cpu call)) left) given.memory (set s.board (call_object call) (Some held)) s.gone (set s.live k (get_or s.live k 0 + 1)) (set b.tids n (tid_of b n + 1 * b.step))
          (update w.cpu n v) (update w.slab f e) mem (set system.locals x (rested m told)) (length-set s.board (call_object call) (Some held))

  -- ---- on lists

  accounted : IsAccounted given
  accounted = accounted-with_held s (call_object call) held (omega (arith, inside, rest.lists.shaped.live)) on_board unused rest.lists.accounted

  lengths : HasLengths given
  lengths = record {
    slabs = length-set s.slabs f (Some slab) ∙ rest.lists.shaped.slabs;
    frees = rest.lists.shaped.frees;
    cpu_lists = length-set s.cpu_lists (cpu_place s k (call_cpu call)) left ∙ rest.lists.shaped.cpu_lists;
    nodes = rest.lists.shaped.nodes;
    checked = rest.lists.shaped.checked.numbers;
    memory = copied_length (world_of m later words) (512 * s.frames);
    gone = rest.lists.shaped.gone ∙ sym (length-set s.board (call_object call) (Some held));
    live = length-set s.live k (get_or s.live k 0 + 1) ∙ rest.lists.shaped.live;
  }

  gives : Gives made (layout_at s k) k (call_cpu call) l.worker (call_object call) reply after
  gives = record {
    frame = f;
    index = 0;
    rest = range_with_len 1 few;
    current = ap (λ (x : CpuLists). x.current) made_lists;
    first = ap (λ (x : CpuLists). x.free) made_lists ∙ ap (range_with_len 0) (sym sum);
    unheld = let zero : has_object 0 (slab_of s f) ≡ 0 = ap (has_object 0) no_slab in omega (arith, consistent.placed f 0, zero);
    address = refl;
    given = λ i. record s { pool = pool; slabs = set s.slabs f (Some slab); cpu_lists = cpus_are i; board = set s.board (call_object call) (Some held); live = set s.live k (get_or s.live k 0 + 1) };
  }
    where
      made_lists : lists_of made k (call_cpu call) ≡ record { current = Some f; free = range_with_len 0 run.objects; partial = lists.partial }
      made_lists = get_or-set_same s.cpu_lists (cpu_place s k (call_cpu call)) (record { current = Some f; free = range_with_len 0 run.objects; partial = lists.partial }) no_lists place_below

      cpus_are : set s.cpu_lists (cpu_place s k (call_cpu call)) left ≡ set made.cpu_lists (cpu_place s k (call_cpu call)) (record { current = Some f; free = range_with_len 1 few; partial = (lists_of made k (call_cpu call)).partial })
      cpus_are = sym (set-set s.cpu_lists (cpu_place s k (call_cpu call)) (record { current = Some f; free = range_with_len 0 run.objects; partial = lists.partial }) left)
          ∙ ap (λ fs. set made.cpu_lists (cpu_place s k (call_cpu call)) (record { current = Some f; free = range_with_len 1 few; partial = fs })) (sym (ap (λ (x : CpuLists). x.partial) made_lists))

  bare : (live : Cache) → cache_of s k ≡ Some live → AllocatesNew s live.layout k (call_cpu call) l.worker (call_object call) reply after
  bare live e = subst (λ layout. AllocatesNew s layout k (call_cpu call) l.worker (call_object call) reply after) (layout_of s k live e) (Some run, pool, finds, gives)

  allocates : AllocatesNamed s place (call_cpu call) l.worker (call_object call) reply after
  allocates = subst (λ o. MatchOption o ((reply ≡ NoSuchCache) × (after ≡ s)) (λ cache. MatchOption (cache_of s cache) ⊥ (λ live. AllocatesFrom s live.layout cache (call_cpu call) l.worker (call_object call) reply after))) (sym is.named) (by (cache_of s k) refl lives)
    where
      by : (o : Option Cache) → cache_of s k ≡ o → is_some o ≡ true → MatchOption o ⊥ (λ live. AllocatesFrom s live.layout k (call_cpu call) l.worker (call_object call) reply after)
      by None e live = false≢true live
      by (Some live) e has_it = from-unchecked (checked_of s k) _ _ is.unchecked
          (subst (λ free. MatchResult (from_free s k (call_cpu call) (batch_of live.layout) free) (λ stocked. Gives stocked live.layout k (call_cpu call) l.worker (call_object call) reply after) (λ bare. AllocatesNew bare live.layout k (call_cpu call) l.worker (call_object call) reply after)) (sym empty)
          (subst (λ o. MatchResult (from_slabs s k (call_cpu call) (batch_of live.layout) o) (λ stocked. Gives stocked live.layout k (call_cpu call) l.worker (call_object call) reply after) (λ bare. AllocatesNew bare live.layout k (call_cpu call) l.worker (call_object call) reply after)) (sym none.current)
          (subst (λ fs. MatchResult (from_partial s k (call_cpu call) (batch_of live.layout) fs) (λ stocked. Gives stocked live.layout k (call_cpu call) l.worker (call_object call) reply after) (λ bare. AllocatesNew bare live.layout k (call_cpu call) l.worker (call_object call) reply after)) (sym none.list)
          (subst (λ fs. MatchResult (from_node s k (call_cpu call) (batch_of live.layout) fs) (λ stocked. Gives stocked live.layout k (call_cpu call) l.worker (call_object call) reply after) (λ bare. AllocatesNew bare live.layout k (call_cpu call) l.worker (call_object call) reply after)) (sym none.node) (bare live e)))))

  pub makes_one : AllocatesAlone opening s b system x call place (10 + run.objects) b1
  makes_one = record {
    reply = reply;
    after = after;
    allocates = allocates;
    given = given;
    words = record {
      lists = refl;
      sized = copied_length (world_of m later words) (512 * s.frames) ∙ sym rest.lists.shaped.memory;
      words = λ other word h away there plain is_inside.
          let before : held_under s other ≡ Some h = sym (get_or-set_other s.board (call_object call) other (Some held) None away) ∙ there in
          sym (words_copied (word_at (layout_at s h.cache) h word))
          ∙ fill_other m k f run.objects 0 (suc few) w.memory (word_at (layout_at s h.cache) h word) (λ i le lt same. word_away other word h before is_inside i (omega (arith, lt, sum)) same)
          ∙ resting.contents other word h before plain is_inside;
    };
    known = known_ends s b system x (10 + run.objects) told words later next.there whole refl ∙ knows_given l.known (call_place call) known.object (call_object call) s.board held after refl on_board object;
    replies = replies_of opening s given b b1 system x (10 + run.objects) call reply told words later next whole refl refl refl refl same
        (ends_at_rest opening u s given b b1 system (machine words later (set system.locals x (rested m told))) rest same refl refl lengths accounted (length-set b.tids n (tid_of b n + 1 * b.step) ∙ rest.beside.tids) refl refl ended says ends
        (whole_cpu m words3 n (cpu_bits v) refl small (whole_slab m words2 f e refl (omega (arith, table2.length, within)) fit_e (filled_whole m k f run.objects 0 (suc few) system.words refl begin.table.objects rest.whole))));
  }
    where
      same : setup_of given b1 ≡ setup_of s b
      same = setup_same s b w system.locals s.frees (set s.cpu_lists (cpu_place s k (call_cpu call)) left) given.memory (set s.board (call_object call) (Some held)) s.gone (set s.live k (get_or s.live k 0 + 1)) (set b.tids n (tid_of b n + 1 * b.step))
          (update w.cpu n v) (update w.slab f e) mem (set system.locals x (rested m told)) (length-set s.board (call_object call) (Some held))

  pub makes_one_gives : is_given makes_one.reply ≡ true
  unfolding makes_one
  makes_one_gives = refl

pub slabs_made : NewSlabsAreMade
slabs_made opening s b system x call place k run pool rest next is ids none finds = makes_one opening s b system x call place k run pool rest next is ids none finds
