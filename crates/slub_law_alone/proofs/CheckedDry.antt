-- An allocation from a checked cache that finds neither an object nor a run of frames: four turns.
use Rattle.std.proofs.Common.{◌≡◌, ℕ, ◌<◌, ◌≤◌, true, false, ◌∷◌, get_or, set, Option, Some, None, refl, ap, sym, ◌∙◌, subst, arith}
use Rattle.std.proofs.lemmas.List.{set-get_or, length-set}
use Rattle.slub_trace.specs.declared.reply.Reply.TheVariants.{NoFrames}
use Rattle.slub_page_pool.specs.FreeFrames.{FreeFrames, IsPool}
use Rattle.slub_page_pool.specs.Block.{HasNoBlock}
use Rattle.slub_red_zone.specs.declared.checked.CheckedGive.TheVariants as give
use Rattle.slub_red_zone.specs.State.{CheckedState}
use Rattle.slub_red_zone.specs.Objects.{GivesObject}
use Rattle.slub_red_zone.specs.Steps.{Gives}
use Rattle.slub_red_zone.proofs.Objects.{gives-object}
use Rattle.slub_lists.specs.State.{State}
use Rattle.slub_lists.specs.Checked.{with_checked}
use Rattle.slub_lists.specs.Named.{AllocatesNamed}
use Rattle.slub_lists.specs.Places.{layout_at}
use Rattle.slub_core.specs.declared.call.Call.{Call}
use Rattle.slub_core.specs.declared.call.CallKind.TheVariants.{Alloc}
use Rattle.slub_core.specs.declared.local.FrameRun.{FrameRun}
use Rattle.slub_core.specs.declared.spot.Spot.TheVariants.{Between, InChecked}
use Rattle.slub_core.specs.declared.spot.CheckedSpot.TheVariants.{LockChecked, DoChecked, LockRun, MoveRun, GiveRun}
use Rattle.slub_core.specs.declared.step.Answer.TheVariants.{Won}
use Rattle.slub_core.specs.Calls.{call_cpu, call_object}
use Rattle.slub_core.specs.Setup.{Setup, node_lock, pool_lock}
use Rattle.slub_core.specs.World.{World, LockValue, Checked, Pool, update, world_of, pool_in}
use Rattle.slub_core.specs.Local.{Local, Change, at, answered, stays}
use Rattle.slub_core.specs.Alloc.{found_run, noted_dry, run_taken}
use Rattle.slub_core.specs.Checked.{gave, do_checked, slabs_in, move_run, way_of_found}
use Rattle.slub_core.specs.Steps.{advance_of, rested}
use Rattle.slub_core.specs.Run.{System, idle}
use Rattle.slub_core.proofs.PoolSpots.{the-pool}
use Rattle.slub_law_opening.specs.Opening.{Beside, setup_of}
use Rattle.slub_law_opening.specs.Rests.{IsBetween, slab_at}
use Rattle.slub_law_opening.specs.Closing.{HasLengths}
use Rattle.slub_law_alone.specs.Alone.{alone, worker_at, IsAtRest, IsNext}
use Rattle.slub_law_alone.specs.Ready.{IsReady}
use Rattle.slub_law_alone.specs.Laws.{AllocatesAlone}
use Rattle.slub_law_alone.specs.CheckedAlone.{IsCheckedAlloc, LackOfCheckedFramesIsTold}
use Rattle.slub_law_alone.proofs.CheckedEnds.{rests_between, told_between, names_same, value_setup, value_rest, values_there, slabs_there}
use Rattle.slub_law_alone.proofs.CheckedGiven.{allocates_checked, alloc_lives, alloc_begins, alloc_sound}
use Rattle.slub_law_alone.proofs.CheckedRests.{checked_same, values_with, slabs_kept}
use Rattle.slub_law_alone.proofs.CheckedRuns.{four_turns, pool_values, pool_there}
use Rattle.slub_law_alone.proofs.CheckedTurns.{asking, lock_free, checked_few, slabs_guarded}
use Rattle.slub_law_alone.proofs.Ended.{keeps_with, replies_of}
use Rattle.slub_law_alone.proofs.Knows.{known_ends}
use Rattle.slub_law_alone.proofs.NewSlabDry.{none_found, none_greater, pool_slabs}
use Rattle.slub_law_alone.proofs.NewSlabSearch.{settle_does}
use Rattle.slub_law_alone.proofs.Ready.{rests_ready, IsReadyStart, ready_starts}
use Rattle.slub_law_alone.proofs.Turns.{machine}

-- the pool is one, and the orders of a live layout are small
pub pool_good : (opening : World) (s : State) (b : Beside) (system : System) (x : ℕ) (call : Call) → IsReady opening s b system x → IsNext system x call → IsPool s.pool
pool_good opening s b system x call rest next =
    let begin = ready_starts opening s b system x call rest next in
    subst IsPool (ap pool_in (rest.rests.rests.values pool_lock (omega arith))) (the-pool (world_of (setup_of s b) system.value system.words) (begin.front.worker ∷ begin.front.others) begin.front.stands).0

pub orders_few : (opening : World) (s : State) (b : Beside) (system : System) (x : ℕ) (call : Call) → IsReady opening s b system x → IsNext system x call → (k : ℕ) → (setup_of s b).lives k ≡ true → ((layout_at s k).order ≤ 3) × ((layout_at s k).min_order ≤ (layout_at s k).order)
orders_few opening s b system x call rest next k lives =
    let begin = ready_starts opening s b system x call rest next in
    (let bounds = begin.setup.layout k lives in bounds.order, let bounds = begin.setup.layout k lives in bounds.min_order)

module _ (opening : World) (s : State) (b : Beside) (system : System) (x : ℕ) (call : Call) (place k : ℕ) (rest : IsReady opening s b system x) (next : IsNext system x call) (c : CheckedState) (is : IsCheckedAlloc s call place k c) (empty : b.means.gave c ≡ give.Empty) where
  abbrev m : Setup
  m = setup_of s b

  abbrev w : World
  w = world_of m system.value system.words

  abbrev l : Local
  l = worker_at system x

  abbrev q : Local
  q = asking l call k

  -- what was found damaged is set aside
  abbrev pub slabs_left : CheckedState
  slabs_left = b.means.give c

  pub left_gives : Gives c give.Empty slabs_left
  left_gives = subst (λ answer. Gives c answer slabs_left) empty (b.means.gives c (alloc_sound opening s b system x call place k rest next c is))

  pub left_objects : GivesObject c give.Empty slabs_left
  left_objects = gives-object c give.Empty slabs_left (alloc_sound opening s b system x call place k rest next c is) left_gives

  abbrev pub left_value : ℕ → LockValue
  left_value = update system.value (node_lock k) (Checked slabs_left)

  -- no object is there, and the worker comes to the pool's lock
  pub left_leads : advance_of m false system.value (at q (InChecked LockChecked Alloc)) Won ≡ stays left_value (at q (InChecked LockRun Alloc))
  left_leads = settle_does m system.value left_value (at q (InChecked LockChecked Alloc)) (at q (InChecked DoChecked Alloc)) (at q (InChecked LockRun Alloc)) Won None refl
      (ap (λ v. do_checked m system.value (at q (InChecked DoChecked Alloc)) Alloc (slabs_in (m.layout k) v)) (slabs_guarded opening s b system rest k c is.checked) ∙ ap (gave m system.value (at q (InChecked DoChecked Alloc)) slabs_left) empty) refl refl

  -- ---- no run is there

  module _ (dry : HasNoBlock s.pool.free (layout_at s k).min_order) where
    begin : IsReadyStart opening s b system x call
    begin = ready_starts opening s b system x call rest next

    abbrev least : ℕ
    least = (layout_at s k).min_order

    abbrev pool : FreeFrames
    pool = noted_dry s.pool least

    orders : ((layout_at s k).order ≤ 3) × (least ≤ (layout_at s k).order)
    orders = orders_few opening s b system x call rest next k (alloc_lives opening s b system x call place k rest next c is)

    no_run : found_run m s.pool (m.layout k) ≡ None
    no_run = none_found m s.pool (layout_at s k) (pool_good opening s b system x call rest next) (omega (arith, orders.0)) orders.1 dry

    abbrev later : ℕ → LockValue
    later = update left_value pool_lock (Pool pool)

    abbrev told : Local
    told = answered (at q Between) NoFrames

    finds : advance_of m false left_value (at q (InChecked LockRun Alloc)) Won ≡ stays later (at (answered q NoFrames) (InChecked GiveRun Alloc))
    finds = settle_does m left_value later (at q (InChecked LockRun Alloc)) (at q (InChecked MoveRun Alloc)) (at q (InChecked GiveRun Alloc)) Won (Some NoFrames) refl
        (ap (λ v. move_run m left_value (at q (InChecked MoveRun Alloc)) Alloc (pool_in v)) (pool_there opening s b system rest k slabs_left) ∙ ap by_found no_run) refl refl
      where
        by_found : Option FrameRun → Change
        by_found found = run_taken left_value s.pool (m.layout k) (at (at q (InChecked MoveRun Alloc)) (way_of_found found)) found

    whole : alone m x 4 system ≡ machine system.words later (set system.locals x (rested m told))
    whole = ap (alone m x 4) (ap (machine system.words system.value) (sym (set-get_or system.locals x idle)))
        ∙ four_turns m system.words system.value left_value later system.locals x l q q (answered q NoFrames) Alloc next.there (alloc_begins opening s b system x call place k rest next c is)
        (lock_free opening s b system rest (node_lock k) (omega (arith, checked_few opening s b system rest k c is.checked))) (lock_free opening s b system rest pool_lock (omega arith)) refl left_leads finds

    abbrev after : State
    after = record (with_checked s k slabs_left) { pool = pool }

    lengths : HasLengths after
    lengths = record {
      slabs = rest.lists.shaped.slabs;
      frees = rest.lists.shaped.frees;
      cpu_lists = rest.lists.shaped.cpu_lists;
      nodes = rest.lists.shaped.nodes;
      checked = length-set s.checked k (Some slabs_left) ∙ rest.lists.shaped.checked.numbers;
      memory = rest.lists.shaped.memory;
      gone = rest.lists.shaped.gone;
      live = rest.lists.shaped.live;
    }

    between : IsBetween w.setup (rested m told)
    between = rests_between m w.setup told (told_between w.setup l call k NoFrames begin.between (subst (λ (m : Setup). call_cpu call < m.cpus) (sym rest.rests.rests.setup) begin.may.cpu))

    slabs_are : (f : ℕ) → get_or s.slabs f None ≡ slab_at (record w { value = later }) f
    slabs_are f = slabs_there opening s b system rest f ∙ sym (pool_slabs (record w { value = left_value }) s.pool pool (pool_there opening s b system rest k slabs_left) f
        ∙ slabs_kept (record w { value = system.value }) k c slabs_left (slabs_guarded opening s b system rest k c is.checked) left_objects.slabs.shape f)

    rests : IsAtRest opening after b (machine system.words later (set system.locals x (rested m told)))
    rests = value_rest opening s b system x rest next.there 3 later told whole pool s.slabs s.frees (set s.checked k (Some slabs_left)) s.board s.gone s.live refl (checked_same s k c slabs_left is.checked)
        (keeps_with s after k c slabs_left rest.lists is.checked left_objects.slabs.flags refl refl lengths rest.lists.accounted) between
        (pool_values (with_checked s k slabs_left) pool left_value (values_with s k c slabs_left is.checked s.slabs s.frees s.board s.gone s.live system.value (values_there opening s b system rest))) (λ f. refl) slabs_are
        (λ o. rest.rests.rests.named o ∙ sym (names_same m w system.locals x told refl refl refl o)) (λ o held there plain. there)

    allocates : AllocatesNamed s place (call_cpu call) l.worker (call_object call) NoFrames after
    allocates = allocates_checked s place (call_cpu call) l.worker (call_object call) k c NoFrames after is.named (alloc_lives opening s b system x call place k rest next c is) is.checked
        (give.Empty, slabs_left, left_gives, (None, pool, ((refl, none_greater s.pool.free least (layout_at s k).order orders.1 dry), (refl, dry)), (refl, refl)))

    tells : AllocatesAlone opening s b system x call place 4 b
    tells = record {
      reply = NoFrames;
      after = after;
      allocates = allocates;
      given = after;
      words = record { lists = refl; sized = refl; words = λ other word h away there plain is_word. refl };
      known = known_ends s b system x 4 told system.words later next.there whole refl;
      replies = replies_of opening s after b b system x 4 call NoFrames told system.words later next whole refl refl refl refl
          (value_setup opening s b system x rest next.there 3 later told whole pool s.slabs s.frees (set s.checked k (Some slabs_left)) s.board s.gone s.live refl (checked_same s k c slabs_left is.checked)) rests;
    }

    tells_lack : tells.reply ≡ NoFrames
    unfolding tells
    tells_lack = refl

pub checked_dry : LackOfCheckedFramesIsTold
checked_dry opening s b system x call place k c rest next is empty dry =
    let ready = rests_ready opening s b system x call rest next in
    (tells opening s b system x call place k ready next c is empty dry, tells_lack opening s b system x call place k ready next c is empty dry)
