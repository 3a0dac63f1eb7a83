-- An allocation that finds no slab and no run of frames: it is told so under the pool's lock, and the pool counts it.
use Rattle.std.proofs.Common.{◌≡◌, ℕ, zero, suc, ◌+◌, ◌<◌, ◌≤◌, eqb, cond, true, List, [], ◌∷◌, get_or, set, Option, Some, None, refl, ap, sym, ◌∙◌, subst, arith}
use Rattle.std.specs.Prelude.{nat_lt, is_some, IfSome, MatchOption, MatchResult}
use Rattle.std.specs.Option.{option_map, option_or}
use Rattle.std.proofs.lemmas.Bool.{false≢true, eq-eqb}
use Rattle.std.proofs.lemmas.List.{length-set}
use Rattle.std.proofs.lemmas.List.Elements.{All-set}
use Rattle.slub_trace.specs.declared.reply.Reply.TheVariants.{NoFrames, NoSuchCache}
use Rattle.slub_cache_create.specs.declared.caches.Cache.{Cache}
use Rattle.slub_object_layout.specs.declared.layout.Layout.{Layout}
use Rattle.slub_page_pool.specs.FreeFrames.{FreeFrames, IsPool}
use Rattle.slub_page_pool.specs.Block.{HasNoBlock, Takes}
use Rattle.slub_words.specs.declared.cpu.CpuWord.{CpuWord}
use Rattle.slub_lists.specs.declared.lists.Slab.{Slab}
use Rattle.slub_lists.specs.declared.lists.CpuLists.{CpuLists}
use Rattle.slub_lists.specs.State.{State}
use Rattle.slub_lists.specs.Alloc.{lists_of, cache_of, checked_of, from_free, from_slabs, from_partial, from_node, batch_of, AllocatesNew, Gives}
use Rattle.slub_lists.specs.Named.{AllocatesNamed, AllocatesFrom}
use Rattle.slub_lists.specs.Places.{layout_at}
use Rattle.slub_lists.proofs.Giving.{from-unchecked}
use Rattle.slub_core.specs.declared.call.Call.{Call}
use Rattle.slub_core.specs.declared.local.FrameRun.{FrameRun}
use Rattle.slub_core.specs.declared.spot.Spot.TheVariants.{Between, InAlloc}
use Rattle.slub_core.specs.declared.spot.AllocSpot.TheVariants.{TakeRun, GiveDry}
use Rattle.slub_core.specs.declared.step.Answer.{Answer}
use Rattle.slub_core.specs.declared.step.Answer.TheVariants.{Done, Won, Lost}
use Rattle.slub_core.specs.declared.step.Op.TheVariants.{Store, Exchange}
use Rattle.slub_core.specs.declared.step.Place.TheVariants.{LockOf}
use Rattle.slub_core.specs.Calls.{call_cpu, call_object}
use Rattle.slub_core.specs.Setup.{Setup, cpu_number, node_lock, pool_lock, pool_after}
use Rattle.slub_core.specs.World.{World, LockValue, Pool, update, set_value, world_of, frames_in, pool_in, objects_at, cache_at, order_at}
use Rattle.slub_core.specs.Local.{Local, at, answered}
use Rattle.slub_core.specs.Alloc.{run_found, or_least, found_run, noted_dry, pool_with, run_taken, way_of_run}
use Rattle.slub_core.specs.Fresh.{IsWorded}
use Rattle.slub_core.specs.Steps.{rested}
use Rattle.slub_core.specs.Run.{System, turn}
use Rattle.slub_core.specs.Law.{IsCoherentSystem}
use Rattle.slub_core.proofs.PoolSpots.{the-pool}
use Rattle.slub_core.proofs.UnderLock.{HasSameSlabs, objects-same_value, cache-same_value, order-same_value}
use Rattle.slub_core.proofs.Update.{update_other}
use Rattle.slub_core.proofs.StepWords.{lock-read, value_of, world_of-value}
use Rattle.slub_law_opening.specs.Opening.{Beside, setup_of, cpu_at, value_of as value_in}
use Rattle.slub_law_opening.specs.Rests.{IsBetween, Rests, slab_at, held_on, held_in, times_named}
use Rattle.slub_law_opening.specs.Closing.{HasLengths}
use Rattle.slub_law_opening.proofs.Cpus.{cpu-bare}
use Rattle.slub_law_alone.specs.Alone.{own_pick, alone, worker_at, IsAtRest, IsNext, HasIds}
use Rattle.slub_law_alone.specs.Laws.{IsAlloc, HasNoSlab, AllocatesAlone, LackOfFramesIsTold}
use Rattle.slub_calls.proofs.ChangeNumbers.{cpu_here}
use Rattle.slub_law_alone.proofs.Ended.{alone_keeps, ends_at_rest, replies_of}
use Rattle.slub_law_alone.proofs.Knows.{known_ends}
use Rattle.slub_law_alone.proofs.FastFree.{layout_of}
use Rattle.slub_law_alone.proofs.Names.{among_same}
use Rattle.slub_law_alone.proofs.NewSlabSearch.{turn_changes, settle_does, searched, lock_back, search_turns}
use Rattle.slub_law_alone.proofs.Start.{IsStart, starts}
use Rattle.slub_law_alone.proofs.Turns.{machine, turn_goes, settle_rests, then_turn}
use Rattle.slub_law_alone.proofs.Workers.{at_front, once_named, IsWithCalls, rested_calls}

-- ---- a pool without a run

none_taken : (pool : FreeFrames) (order : ℕ) (t : Option ℕ) → Takes pool order t (pool_after pool order t) → HasNoBlock pool.free order → t ≡ None
none_taken pool order None takes none = refl
none_taken pool order (Some f) takes none = absurd (none takes.0.found f takes.0.enough takes.0.block.small takes.0.block)

pub none_greater : (free : List ℕ) (least order : ℕ) → least ≤ order → HasNoBlock free least → HasNoBlock free order
none_greater free least order le none = λ p e enough small block. none p e (omega (arith, le, enough)) small block

pub none_found : (m : Setup) (pool : FreeFrames) (layout : Layout) → IsPool pool → layout.order ≤ 10 → layout.min_order ≤ layout.order → HasNoBlock pool.free layout.min_order → found_run m pool layout ≡ None
none_found m pool layout good small least none =
    ap (λ t. or_least m pool layout (run_found layout layout.order t)) (none_taken pool layout.order (m.means.take pool layout.order) (m.means.takes pool layout.order good small) (none_greater pool.free layout.min_order layout.order least none))
    ∙ ap (run_found layout layout.min_order) (none_taken pool layout.min_order (m.means.take pool layout.min_order) (m.means.takes pool layout.min_order good (omega (arith, small, least))) none)

-- ---- another pool

-- the lists have the value of each other lock as before
pub values_there : (s : State) (pool : FreeFrames) (n : ℕ) → 1 ≤ n → value_in (record s { pool = pool }) n ≡ value_in s n
values_there s pool zero some = absurd (omega arith)
values_there s pool (suc n) some = refl

-- no slab comes or goes with it
pub pool_slabs : (w : World) (before after : FreeFrames) → w.value pool_lock ≡ Pool before → (f : ℕ) → slab_at (set_value w pool_lock (Pool after)) f ≡ slab_at w f
pool_slabs w before after was f =
    ap (λ o. by_slab o (cache_at v f) (order_at v f)) (objects-same_value w pool_lock (Pool after) same f)
    ∙ ap (λ k. by_slab (objects_at w f) k (order_at v f)) (cache-same_value w pool_lock (Pool after) same f)
    ∙ ap (by_slab (objects_at w f) (cache_at w f)) (order-same_value w pool_lock (Pool after) same f)
  where
    v : World
    v = set_value w pool_lock (Pool after)

    by_slab : ℕ → ℕ → ℕ → Option Slab
    by_slab o k r = cond (nat_lt 0 o) (Some (record { cache = k; order = r; objects = o; frozen = (w.slab f).frozen })) None

    same : HasSameSlabs (w.value pool_lock) (Pool after)
    same = subst (λ u. HasSameSlabs u (Pool after)) (sym was) (record { size = λ f. refl; order = λ f. refl })

module _ (opening : World) (s : State) (b : Beside) (system : System) (x : ℕ) (call : Call) (place k : ℕ) (rest : IsAtRest opening s b system) (next : IsNext system x call) (is : IsAlloc s call place k)
    (ids : HasIds b (cpu_number k (call_cpu call)) 1) (none : HasNoSlab s k (call_cpu call)) (dry : HasNoBlock s.pool.free (layout_at s k).min_order) where
  abbrev m : Setup
  m = setup_of s b

  abbrev w : World
  w = world_of m system.value system.words

  abbrev l : Local
  l = worker_at system x

  abbrev n : ℕ
  n = cpu_number k (call_cpu call)

  abbrev c : CpuWord
  c = w.cpu n

  abbrev lists : CpuLists
  lists = lists_of s k (call_cpu call)

  begin : IsStart opening s b system x call
  begin = starts opening s b system x call rest next

  resting : Rests s b w system.locals
  resting = rest.rests.rests

  lives : m.lives k ≡ true
  lives = subst (λ o. IfSome o (λ k. m.lives k ≡ true)) is.asks begin.may.cache

  inside : k < 32
  inside = begin.setup.live k lives

  small : n < 512
  small = omega (arith, inside, begin.may.cpu, begin.few)

  here : cpu_at s n ≡ lists
  here = cpu_here s k (call_cpu call) begin.may.cpu begin.few

  empty : lists.free ≡ []
  empty = sym (ap (λ (x : CpuLists). x.free) here) ∙ cpu-bare s n begin.consistent (ap (λ (x : CpuLists). x.current) here ∙ none.current)

  -- ---- the pool

  abbrev least : ℕ
  least = (layout_at s k).min_order

  abbrev pool : FreeFrames
  pool = noted_dry s.pool least

  value_is : w.value ≡ system.value
  value_is = value_of m system.value system.words

  pool_there : w.value pool_lock ≡ Pool s.pool
  pool_there = resting.values pool_lock (omega arith)

  pool_was : pool_in (system.value pool_lock) ≡ s.pool
  pool_was = ap (λ (value : ℕ → LockValue). pool_in (value pool_lock)) (sym value_is) ∙ ap pool_in pool_there

  is_pool : IsPool s.pool
  is_pool = subst IsPool (ap pool_in pool_there) (the-pool w (begin.front.worker ∷ begin.front.others) begin.front.stands).0

  orders : ((layout_at s k).order ≤ 3) × (least ≤ (layout_at s k).order)
  orders = (let bounds = begin.setup.layout k lives in bounds.order, let bounds = begin.setup.layout k lives in bounds.min_order)

  no_run : found_run m (pool_in (system.value pool_lock)) (m.layout k) ≡ None
  no_run = ap (λ pool. found_run m pool (m.layout k)) pool_was ∙ none_found m s.pool (layout_at s k) is_pool (omega (arith, orders.0)) orders.1 dry

  abbrev later : ℕ → LockValue
  later = pool_with system.value (noted_dry (pool_in (system.value pool_lock)) least)

  -- ---- the turns

  abbrev a : ℕ
  a = l.worker + 1

  abbrev waits : Local
  waits = searched l call k c

  abbrev takes_run : Local
  takes_run = at waits (InAlloc TakeRun)

  abbrev dries : Local
  dries = at takes_run (InAlloc GiveDry)

  abbrev giving : Local
  giving = answered dries NoFrames

  abbrev told : Local
  told = at giving Between

  abbrev words1 : List ℕ
  words1 = set system.words pool_lock a

  lock_zero : get_or system.words pool_lock 0 ≡ 0
  lock_zero = sym (lock-read m system.value system.words pool_lock (omega arith)) ∙ resting.locks pool_lock (omega arith)

  lock_hit : eqb (get_or system.words pool_lock 0) 0 ≡ true
  lock_hit = eq-eqb (get_or system.words pool_lock 0) 0 lock_zero

  turn5 : turn m (machine system.words system.value (set system.locals x waits)) (own_pick x) ≡ machine words1 later (set system.locals x giving)
  turn5 = turn_changes m system.words words1 system.value later system.locals x waits waits giving (record { place = LockOf pool_lock; op = Exchange 0 a }) Won next.there refl refl
      (ap (λ h. set system.words pool_lock (cond {A = ℕ} h a (get_or system.words pool_lock 0))) lock_hit) (ap (λ h. cond {A = Answer} h Won (Lost (get_or system.words pool_lock 0))) lock_hit)
      (settle_does m system.value later waits takes_run dries Won (Some NoFrames) refl
      (ap (λ (found : Option FrameRun). run_taken system.value (pool_in (system.value pool_lock)) (m.layout k) (at takes_run (way_of_run found)) found) no_run) refl refl)

  turn6 : turn m (machine words1 later (set system.locals x giving)) (own_pick x) ≡ machine system.words later (set system.locals x (rested m told))
  turn6 = turn_goes m words1 system.words later system.locals x giving giving (rested m told) (record { place = LockOf pool_lock; op = Store 0 }) Done next.there refl refl (lock_back system.words pool_lock a lock_zero) refl
      (settle_rests m later giving told Done refl refl)

  whole : alone m x 6 system ≡ machine system.words later (set system.locals x (rested m told))
  whole = ap (alone m x 2) (search_turns opening s b system x call place k rest next is ids none)
      ∙ then_turn m x 1 (machine system.words system.value (set system.locals x waits)) (machine words1 later (set system.locals x giving)) (machine system.words later (set system.locals x (rested m told))) turn5
      (then_turn m x 0 (machine words1 later (set system.locals x giving)) (machine system.words later (set system.locals x (rested m told))) (machine system.words later (set system.locals x (rested m told))) turn6 refl)

  -- ---- where they end

  abbrev v : World
  v = set_value w pool_lock (Pool pool)

  abbrev after : State
  after = record s { pool = pool }

  says : world_of m later system.words ≡ v
  says = world_of-value m system.value later system.words
      ∙ ap with_value (ap (λ (g : ℕ → LockValue). update g pool_lock (Pool (noted_dry (pool_in (g pool_lock)) least))) (sym value_is) ∙ ap (λ pool. update w.value pool_lock (Pool (noted_dry pool least))) (ap pool_in pool_there))
    where
      with_value : (ℕ → LockValue) → World
      with_value g = record w { value = g }

  ended : IsCoherentSystem m opening (machine system.words later (set system.locals x (rested m told)))
  ended = subst (IsCoherentSystem m opening) whole (alone_keeps m opening x 6 system rest.coherent)

  calls : IsWithCalls told (rested m told)
  calls = rested_calls m told refl

  worker_rests : IsBetween w.setup (rested m told)
  worker_rests = subst (IsBetween w.setup) (sym calls.same) (record {
    between = refl;
    hands = begin.between.hands;
    string = refl;
    run = begin.between.run;
    packed = record { cpu_word = resting.words.cpu n; slab_word = begin.between.packed.slab_word; list_word = begin.between.packed.list_word; next = begin.between.packed.next };
    cpu = subst (λ (m : Setup). call_cpu call < m.cpus) (sym resting.setup) begin.may.cpu;
    numbers = begin.between.numbers;
    some = begin.between.some;
  })

  ends : Rests after b v (set system.locals x (rested m told))
  ends = record {
    setup = resting.setup;
    words = let front = at_front m opening (machine system.words later (set system.locals x (rested m told))) x (omega (arith, next.there, length-set system.locals x (rested m told))) ended in subst IsWorded says front.stands.fresh.worded;
    workers = All-set (IsBetween w.setup) system.locals x (rested m told) worker_rests resting.workers;
    locks = resting.locks;
    values = values_are;
    nodes = λ j. resting.nodes j ∙ ap frames_in (sym (values_there s pool (node_lock j) (omega arith)));
    cpu = λ n below. let c = resting.cpu n below in record { tid = c.tid; current = c.current; free = c.free; count = c.count; partial = c.partial };
    slab = λ f. resting.slab f ∙ sym (pool_slabs w s.pool pool pool_there f);
    unchecked = resting.unchecked;
    unslabbed = resting.unslabbed;
    own = λ f. record { chain = (resting.own f).chain; in_use = (resting.own f).in_use };
    listed = resting.listed;
    named = λ j. resting.named j ∙ sym (ap (option_or (option_map held_on (w.board j))) (among_same j system.locals x (rested m told) (ap (λ (l : Local). held_in l.worker l.known j) calls.same)));
    once = λ j. subst (λ w. times_named w (set system.locals x (rested m told)) j ≤ 1) says (once_named m opening (machine system.words later (set system.locals x (rested m told))) ended j);
    no_zero = resting.no_zero;
    contents = resting.contents;
  }
    where
      values_are : (j : ℕ) → j < 33 → v.value j ≡ value_in after j
      values_are zero below = refl
      values_are (suc j) below = update_other w.value pool_lock (Pool pool) (suc j) (λ e. absurd (omega (arith, e))) ∙ resting.values (suc j) below

  -- ---- on lists

  lengths : HasLengths after
  lengths = record {
    slabs = rest.lists.shaped.slabs;
    frees = rest.lists.shaped.frees;
    cpu_lists = rest.lists.shaped.cpu_lists;
    nodes = rest.lists.shaped.nodes;
    checked = rest.lists.shaped.checked.numbers;
    memory = rest.lists.shaped.memory;
    gone = rest.lists.shaped.gone;
    live = rest.lists.shaped.live;
  }

  bare : (live : Cache) → cache_of s k ≡ Some live → AllocatesNew s live.layout k (call_cpu call) l.worker (call_object call) NoFrames after
  bare live e = subst (λ layout. AllocatesNew s layout k (call_cpu call) l.worker (call_object call) NoFrames after) (layout_of s k live e)
      (None, pool, ((refl, none_greater s.pool.free least (layout_at s k).order orders.1 dry), (refl, dry)), (refl, refl))

  allocates : AllocatesNamed s place (call_cpu call) l.worker (call_object call) NoFrames after
  allocates = subst (λ o. MatchOption o ((NoFrames ≡ NoSuchCache) × (after ≡ s)) (λ cache. MatchOption (cache_of s cache) ⊥ (λ live. AllocatesFrom s live.layout cache (call_cpu call) l.worker (call_object call) NoFrames after))) (sym is.named) (by (cache_of s k) refl lives)
    where
      by : (o : Option Cache) → cache_of s k ≡ o → is_some o ≡ true → MatchOption o ⊥ (λ live. AllocatesFrom s live.layout k (call_cpu call) l.worker (call_object call) NoFrames after)
      by None e live = false≢true live
      by (Some live) e has_it = from-unchecked (checked_of s k) _ _ is.unchecked
          (subst (λ free. MatchResult (from_free s k (call_cpu call) (batch_of live.layout) free) (λ stocked. Gives stocked live.layout k (call_cpu call) l.worker (call_object call) NoFrames after) (λ bare. AllocatesNew bare live.layout k (call_cpu call) l.worker (call_object call) NoFrames after)) (sym empty)
          (subst (λ o. MatchResult (from_slabs s k (call_cpu call) (batch_of live.layout) o) (λ stocked. Gives stocked live.layout k (call_cpu call) l.worker (call_object call) NoFrames after) (λ bare. AllocatesNew bare live.layout k (call_cpu call) l.worker (call_object call) NoFrames after)) (sym none.current)
          (subst (λ fs. MatchResult (from_partial s k (call_cpu call) (batch_of live.layout) fs) (λ stocked. Gives stocked live.layout k (call_cpu call) l.worker (call_object call) NoFrames after) (λ bare. AllocatesNew bare live.layout k (call_cpu call) l.worker (call_object call) NoFrames after)) (sym none.list)
          (subst (λ fs. MatchResult (from_node s k (call_cpu call) (batch_of live.layout) fs) (λ stocked. Gives stocked live.layout k (call_cpu call) l.worker (call_object call) NoFrames after) (λ bare. AllocatesNew bare live.layout k (call_cpu call) l.worker (call_object call) NoFrames after)) (sym none.node) (bare live e)))))

  pub tells : AllocatesAlone opening s b system x call place 6 b
  tells = record {
    reply = NoFrames;
    after = after;
    allocates = allocates;
    given = after;
    words = record { lists = refl; sized = refl; words = λ other word h away there plain is_word. refl };
    known = known_ends s b system x 6 told system.words later next.there whole refl;
    replies = replies_of opening s after b b system x 6 call NoFrames told system.words later next whole refl refl refl refl refl
        (ends_at_rest opening v s after b b system (machine system.words later (set system.locals x (rested m told))) rest refl refl refl lengths rest.lists.accounted rest.beside.tids refl refl ended says ends rest.whole);
  }

  pub tells_lacks : tells.reply ≡ NoFrames
  unfolding tells
  tells_lacks = refl

pub lack_told : LackOfFramesIsTold
lack_told opening s b system x call place k rest next is ids none dry = tells opening s b system x call place k rest next is ids none dry
