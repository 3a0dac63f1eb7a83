-- An allocation from a checked cache that makes a new slab of a run of frames, and is given its first object: four turns.
use Rattle.std.proofs.Common.{◌≡◌, ℕ, ◌+◌, ◌%◌, ◌^◌, ◌<◌, ◌≤◌, true, false, List, ◌∷◌, length, get_or, set, Option, Some, None, IsSome, inl, inr, refl, ap, sym, ◌∙◌, subst, arith}
use Rattle.std.specs.Prelude.{nat_lt}
use Rattle.std.proofs.lemmas.Bool.{cases_eq, cases_lt}
use Rattle.std.proofs.lemmas.List.{get_or-set_same, get_or-set_other, set-get_or, set-set, length-set}
use Rattle.slub_object_layout.specs.Layout.{address_of, IsSized}
use Rattle.slub_trace.specs.declared.reply.Reply.TheVariants.{Given}
use Rattle.slub_trace.specs.declared.reply.Reply.{Reply}
use Rattle.slub_page_pool.specs.FreeFrames.{FreeFrames}
use Rattle.slub_red_zone.specs.declared.checked.CheckedGive.TheVariants as give
use Rattle.slub_red_zone.specs.declared.checked.Run.{Run as SlabRun}
use Rattle.slub_red_zone.specs.declared.checked.Slot.{Slot}
use Rattle.slub_red_zone.specs.State.{CheckedState, Has, slab_of as checked_slab, objects_in}
use Rattle.slub_red_zone.specs.Sound.{IsSound}
use Rattle.slub_red_zone.specs.Objects.{AddsGivenSlab, GivesObject}
use Rattle.slub_red_zone.specs.Steps.{with_new_slab, with_given}
use Rattle.slub_red_zone.proofs.NewSlabs.{with-new-sound}
use Rattle.slub_red_zone.proofs.Objects.{adds-given}
use Rattle.slub_red_zone.proofs.Whole.{slab-there}
use Rattle.slub_lists.specs.declared.lists.Held.{Held}
use Rattle.slub_lists.specs.declared.lists.Run.{Run}
use Rattle.slub_lists.specs.declared.lists.Slab.{Slab}
use Rattle.slub_lists.specs.State.{State}
use Rattle.slub_lists.specs.Alloc.{FindsRun, HasLayout, slab_of}
use Rattle.slub_lists.specs.Checked.{GivesSlot, first_slot, with_checked, with_checked_slab}
use Rattle.slub_lists.specs.Coherent.{IsConsistent, has_object}
use Rattle.slub_lists.specs.Named.{AllocatesNamed}
use Rattle.slub_lists.specs.Places.{layout_at}
use Rattle.slub_lists.proofs.CheckedComing.{run-slot, run-none, run-first, new-lacks, new-sized}
use Rattle.slub_lists.proofs.CheckedSlabs.{keeps-consistent}
use Rattle.slub_lists.proofs.Runs.{IsRunFor, run-for}
use Rattle.slub_core.specs.declared.call.Call.{Call}
use Rattle.slub_core.specs.declared.call.CallKind.TheVariants.{Alloc}
use Rattle.slub_core.specs.declared.local.FrameRun.{FrameRun}
use Rattle.slub_core.specs.declared.spot.Spot.TheVariants.{InChecked}
use Rattle.slub_core.specs.declared.spot.CheckedSpot.TheVariants.{LockRun, MoveRun, AddSlab, GiveRun}
use Rattle.slub_core.specs.declared.step.Answer.TheVariants.{Won}
use Rattle.slub_core.specs.Calls.{call_cpu, call_object}
use Rattle.slub_core.specs.Setup.{Setup, node_lock, pool_lock, pool_after}
use Rattle.slub_core.specs.World.{World, LockValue, Checked, Pool, update, world_of, pool_in, one_if, objects_at}
use Rattle.slub_core.specs.Local.{Local, Change, at, answered, stays}
use Rattle.slub_core.specs.Alloc.{found_run, run_taken}
use Rattle.slub_core.specs.Checked.{move_run, way_of_found, slab_added, slabs_in}
use Rattle.slub_core.specs.Steps.{advance_of, rested}
use Rattle.slub_core.specs.Run.{System, idle}
use Rattle.slub_core.proofs.Kind21.{no-values, run-some}
use Rattle.slub_core.proofs.OneSlab.{IsOneSlab}
use Rattle.slub_core.proofs.Update.{update_at, update_other, update_same}
use Rattle.slub_core.proofs.StepValues.{word-objects}
use Rattle.slub_core.proofs.StepWords.{value_of}
use Rattle.slub_law_opening.specs.Opening.{Beside, setup_of}
use Rattle.slub_law_opening.specs.Rests.{slab_at, times_named}
use Rattle.slub_law_opening.specs.Closing.{HasLengths}
use Rattle.slub_law_alone.specs.Alone.{alone, worker_at, IsAtRest, IsNext}
use Rattle.slub_law_alone.specs.Ready.{IsReady}
use Rattle.slub_law_alone.specs.Laws.{AllocatesAlone}
use Rattle.slub_law_alone.specs.CheckedAlone.{IsCheckedAlloc, CheckedSlabsAreMade}
use Rattle.slub_law_alone.proofs.CheckedDry.{pool_good, orders_few, slabs_left, left_gives, left_objects, left_value, left_leads}
use Rattle.slub_law_alone.proofs.CheckedEnds.{value_once, value_setup, value_rest, values_there}
use Rattle.slub_law_alone.proofs.CheckedGiven.{allocates_checked, alloc_lives, alloc_begins, given_reply, given_local, given_told, given_held, given_between, given_board, given_live, given_were, given_accounted, given_names, given_knows}
use Rattle.slub_law_alone.proofs.CheckedRests.{checked_here, checked_same, values_with}
use Rattle.slub_law_alone.proofs.CheckedRuns.{settle_twice, first_turn, four_turns, guards_sound, pool_values, pool_there, slabs_beside, slab_come, no_objects, shape_some}
use Rattle.slub_law_alone.proofs.CheckedTurns.{asking, lock_free, checked_few, slabs_guarded}
use Rattle.slub_law_alone.proofs.CheckedUses.{has_layout}
use Rattle.slub_law_alone.proofs.Ended.{keeps_with, replies_of}
use Rattle.slub_law_alone.proofs.Knows.{known_ends}
use Rattle.slub_law_alone.proofs.NewSlabMade.{as_run, takes_it, finds_it}
use Rattle.slub_law_alone.proofs.NewSlabSearch.{change}
use Rattle.slub_law_alone.proofs.Ready.{rests_ready, IsReadyStart, ready_starts}
use Rattle.slub_law_alone.proofs.Turns.{machine}

-- a value is changed again after another one
update_again : {A : Type 0} (g : ℕ → A) (p q : ℕ) (a d y : A) → (p ≡ q → ⊥) → update (update (update g p a) q y) p d ≡ update (update g p d) q y
update_again g p q a d y apart = same (λ n. elim (cases_eq n p) [
  | inl e ↦ update_at (update (update g p a) q y) p d n e ∙ sym (update_other (update g p d) q y n (λ z. apart (sym e ∙ z)) ∙ update_at g p d n e)
  | inr away ↦ update_other (update (update g p a) q y) p d n away ∙ elim (cases_eq n q) [
    | inl e ↦ update_at (update g p a) q y n e ∙ sym (update_at (update g p d) q y n e)
    | inr far ↦ update_other (update g p a) q y n far ∙ update_other g p a n away ∙ sym (update_other (update g p d) q y n far ∙ update_other g p d n away)
  ]
])
  where
    same : ((n : ℕ) → update (update (update g p a) q y) p d n ≡ update (update g p d) q y n) → update (update (update g p a) q y) p d ≡ update (update g p d) q y
    same h = λ i n. h n i

module _ (opening : World) (s : State) (b : Beside) (system : System) (x : ℕ) (call : Call) (place k : ℕ) (rest : IsReady opening s b system x) (next : IsNext system x call) (c : CheckedState) (is : IsCheckedAlloc s call place k c) (empty : b.means.gave c ≡ give.Empty)
    (run : Run) (pool : FreeFrames) (finds : FindsRun s.pool (layout_at s k) (Some run) pool) where
  abbrev m : Setup
  m = setup_of s b

  abbrev w : World
  w = world_of m system.value system.words

  abbrev l : Local
  l = worker_at system x

  abbrev q : Local
  q = asking l call k

  abbrev f : ℕ
  f = run.frame

  begin : IsReadyStart opening s b system x call
  begin = ready_starts opening s b system x call rest next

  abbrev left : CheckedState
  left = slabs_left opening s b system x call place k rest next c is empty

  abbrev first : ℕ → LockValue
  first = left_value opening s b system x call place k rest next c is empty

  abbrev frames : SlabRun
  frames = record { frame = run.frame; order = run.order }

  abbrev slot : Slot
  slot = record { frame = run.frame; index = 0 }

  abbrev e : CheckedState
  e = with_given (with_new_slab left frames run.objects) slot

  abbrev reply : Reply
  reply = given_reply opening s b system x call place k rest next c is f 0 None refl

  abbrev told : Local
  told = given_told opening s b system x call place k rest next c is f 0 None refl

  abbrev held : Held
  held = given_held opening s b system x call place k rest next c is f 0 None refl

  lives : m.lives k ≡ true
  lives = alloc_lives opening s b system x call place k rest next c is

  few : k < 32
  few = checked_few opening s b system rest k c is.checked

  -- ---- the turns

  orders : ((layout_at s k).order ≤ 3) × ((layout_at s k).min_order ≤ (layout_at s k).order)
  orders = orders_few opening s b system x call rest next k lives

  found : found_run m s.pool (m.layout k) ≡ Some (as_run run)
  found = finds_it m s.pool (layout_at s k) run pool (pool_good opening s b system x call rest next) (omega (arith, orders.0)) (omega (arith, orders.0, orders.1)) finds

  pool_is : pool ≡ pool_after s.pool run.order (Some run.frame)
  pool_is = (takes_it s.pool (layout_at s k) run pool finds).1

  abbrev got : ℕ → LockValue
  got = update first pool_lock (Pool pool)

  abbrev later : ℕ → LockValue
  later = update (update system.value (node_lock k) (Checked e)) pool_lock (Pool pool)

  abbrev adding : Local
  adding = record (at q (InChecked AddSlab Alloc)) { run = Some (as_run run) }

  abbrev added : Local
  added = at (given_local opening s b system x call place k rest next c is f 0 None refl) (InChecked GiveRun Alloc)

  abbrev r : Local
  r = answered (given_local opening s b system x call place k rest next c is f 0 None refl) reply

  got_slabs : got (node_lock k) ≡ Checked left
  got_slabs = update_other first pool_lock (Pool pool) (node_lock k) (λ e. absurd (omega (arith, e))) ∙ update_same system.value (node_lock k) (Checked left)

  makes : advance_of m false first (at q (InChecked LockRun Alloc)) Won ≡ stays later (at r (InChecked GiveRun Alloc))
  makes = settle_twice m first got later (at q (InChecked LockRun Alloc)) (at q (InChecked MoveRun Alloc)) adding added Won None (Some reply) refl
      (ap (λ v. move_run m first (at q (InChecked MoveRun Alloc)) Alloc (pool_in v)) (pool_there opening s b system rest k left) ∙ ap by_found found ∙ ap by_pool (sym pool_is))
      (ap (λ v. slab_added m got adding (slabs_in (m.layout k) v) (as_run run)) got_slabs ∙ ap by_value (update_again system.value (node_lock k) pool_lock (Checked left) (Checked e) (Pool pool) (λ e. absurd (omega (arith, e))))) refl
    where
      by_found : Option FrameRun → Change
      by_found found = run_taken first s.pool (m.layout k) (at (at q (InChecked MoveRun Alloc)) (way_of_found found)) found

      by_pool : FreeFrames → Change
      by_pool pool = change (update first pool_lock (Pool pool)) adding None

      by_value : (ℕ → LockValue) → Change
      by_value value = change value added (Some reply)

  from_start : machine system.words system.value (set system.locals x l) ≡ system
  from_start = ap (machine system.words system.value) (set-get_or system.locals x idle)

  node_free : get_or system.words (node_lock k) 0 ≡ 0
  node_free = lock_free opening s b system rest (node_lock k) (omega (arith, few))

  pool_free : get_or system.words pool_lock 0 ≡ 0
  pool_free = lock_free opening s b system rest pool_lock (omega arith)

  whole : alone m x 4 system ≡ machine system.words later (set system.locals x (rested m told))
  whole = ap (alone m x 4) (sym from_start)
      ∙ four_turns m system.words system.value first later system.locals x l q q r Alloc next.there (alloc_begins opening s b system x call place k rest next c is) node_free pool_free refl (left_leads opening s b system x call place k rest next c is empty) makes

  -- ---- the new slab

  sound_left : IsSound left
  sound_left = guards_sound opening s b system x 0 (set system.words (node_lock k) (q.worker + 1)) first (set system.locals x (at q (InChecked LockRun Alloc))) next.there rest
      (ap (alone m x 1) (sym from_start)
      ∙ first_turn m system.words system.value first later system.locals x l q q r Alloc next.there (alloc_begins opening s b system x call place k rest next c is) node_free pool_free refl (left_leads opening s b system x call place k rest next c is empty) makes)
      (omega (arith, next.there, length-set system.locals x (at q (InChecked LockRun Alloc)))) k left few (update_same system.value (node_lock k) (Checked left))

  objects_left : GivesObject c give.Empty left
  objects_left = left_objects opening s b system x call place k rest next c is empty

  abbrev s_left : State
  s_left = with_checked s k left

  consistent_left : IsConsistent s_left
  consistent_left = keeps-consistent s k c left is.checked objects_left.slabs sound_left objects_left.objects begin.consistent

  has_it : HasLayout s k (layout_at s k)
  has_it = has_layout s k lives

  is_run : IsRunFor s.pool (layout_at s k) run pool
  is_run = run-for s.pool (layout_at s k) run pool finds

  lacks : ¬ Has left f
  lacks = new-lacks s_left k (layout_at s k) left run pool (checked_here s k c left is.checked) has_it consistent_left is_run

  sized : IsSized left.layout run.order run.objects
  sized = new-sized s_left k (layout_at s k) left run pool (checked_here s k c left is.checked) has_it consistent_left is_run

  ends : (1 ≤ f) × (f < 4096)
  ends = run-first s (layout_at s k) run pool begin.consistent is_run

  slot_inside : f < length s.slabs
  slot_inside = run-slot s (layout_at s k) run pool begin.consistent is_run

  none_there : slab_of s f ≡ None
  none_there = run-none s (layout_at s k) run pool begin.consistent is_run

  some : 1 ≤ run.objects
  some = (run-some left.layout run.order run.objects sound_left.layout.bounds sized).0

  adds : AddsGivenSlab left frames run.objects slot e
  adds = adds-given left frames run.objects (with-new-sound left frames run.objects sound_left lacks ends.0 ends.1 sized) ends.1 sized slot refl

  shape : ((checked_slab e f).order ≡ run.order) × (objects_in (checked_slab e f) ≡ run.objects)
  shape = shape_some e f run.order run.objects adds.shape

  none_seen : objects_at w f ≡ 0
  none_seen = no_objects s b w system.locals rest.rests.rests f none_there

  none_was : objects_in (checked_slab c f) ≡ 0
  none_was = elim (cases_lt 0 (objects_in (checked_slab c f))) [
    | inl l ↦ absurd (new-lacks s k (layout_at s k) c run pool is.checked has_it begin.consistent is_run (subst (λ z. IsSome z) (sym (slab-there c.slabs f l)) refl))
    | inr g ↦ omega arith
  ]

  one : IsOneSlab w (node_lock k) c e f
  one = record {
    below = omega (arith, few, ap (λ (m : Setup). m.locks) rest.rests.rests.setup);
    was = ap (λ (value : ℕ → LockValue). value (node_lock k)) (value_of m system.value system.words) ∙ slabs_guarded opening s b system rest k c is.checked;
    elsewhere = λ g d. adds.others.shape g d ∙ objects_left.slabs.shape g;
    unworded = elim (cases_lt 0 (w.slab f).objects) [
      | inl l ↦ absurd (omega (arith, word-objects w f l, none_seen, l))
      | inr g ↦ omega arith
    ];
    only = no-values w (begin.front.worker ∷ begin.front.others) begin.front.stands f none_seen ∙ sym (ap (λ n. one_if (nat_lt 0 n)) none_was);
    real = λ z. absurd (omega (arith, z, ends.0));
    within = omega (arith, slot_inside, rest.lists.shaped.slabs, ap (λ (m : Setup). m.frames) rest.rests.rests.setup);
    aligned = λ more. subst (λ n. f % 2 ^ n ≡ 0) (sym shape.0) is_run.aligned;
    either = inl none_was;
  }

  -- ---- where they end

  once : (o : ℕ) → times_named w (set system.locals x (rested m told)) o ≤ 1
  once = value_once opening s b system x rest next.there 3 later told whole

  abbrev slab : Slab
  slab = record { cache = k; order = run.order; objects = run.objects; frozen = false }

  abbrev board : List (Option Held)
  board = given_board opening s b system x call place k rest next c is f 0 None refl

  abbrev live : List ℕ
  live = given_live opening s b system x call place k rest next c is f 0 None refl

  abbrev after : State
  after = record s { pool = pool; slabs = set s.slabs f (Some slab); checked = set s.checked k (Some e); board = board; live = live }

  lengths : HasLengths after
  lengths = record {
    slabs = length-set s.slabs f (Some slab) ∙ rest.lists.shaped.slabs;
    frees = rest.lists.shaped.frees;
    cpu_lists = rest.lists.shaped.cpu_lists;
    nodes = rest.lists.shaped.nodes;
    checked = length-set s.checked k (Some e) ∙ rest.lists.shaped.checked.numbers;
    memory = rest.lists.shaped.memory;
    gone = rest.lists.shaped.gone ∙ sym (length-set s.board (call_object call) (Some held));
    live = length-set s.live k _ ∙ rest.lists.shaped.live;
  }

  slabs_are : (g : ℕ) → get_or (set s.slabs f (Some slab)) g None ≡ slab_at (record w { value = later }) g
  slabs_are g = elim (cases_eq g f) [
    | inl z ↦ ap (λ g. get_or (set s.slabs f (Some slab)) g None) z ∙ get_or-set_same s.slabs f (Some slab) None slot_inside
        ∙ slab_come opening s b system rest k c e f pool one run.order run.objects shape.0 shape.1 some ∙ ap (slab_at (record w { value = later })) (sym z)
    | inr away ↦ get_or-set_other s.slabs f g (Some slab) None away ∙ slabs_beside opening s b system rest k c e f pool one g away
  ]

  rests : IsAtRest opening after b (machine system.words later (set system.locals x (rested m told)))
  rests = value_rest opening s b system x rest next.there 3 later told whole pool (set s.slabs f (Some slab)) s.frees (set s.checked k (Some e)) board s.gone live (length-set s.board (call_object call) (Some held)) (checked_same s k c e is.checked)
      (keeps_with s after k c e rest.lists is.checked (adds.others.flags ∙ objects_left.slabs.flags) refl refl lengths (given_accounted opening s b system x call place k rest next c is f 0 None refl once))
      (given_between opening s b system x call place k rest next c is f 0 None refl)
      (pool_values (record s { slabs = set s.slabs f (Some slab); checked = set s.checked k (Some e); board = board; live = live }) pool (update system.value (node_lock k) (Checked e)) (values_with s k c e is.checked (set s.slabs f (Some slab)) s.frees board s.gone live system.value (values_there opening s b system rest)))
      (λ g. refl) slabs_are (given_names opening s b system x call place k rest next c is f 0 None refl once) (given_were opening s b system x call place k rest next c is f 0 None refl)

  -- ---- on lists

  gives : GivesSlot (with_checked_slab s_left k pool run left) (layout_at s k) k l.worker (call_object call) (first_slot run) reply after
  gives = record {
    unheld = let zero : has_object 0 (slab_of s f) ≡ 0 = ap (has_object 0) none_there in omega (arith, begin.consistent.placed f 0, zero);
    address = refl;
    given = λ i. record s { pool = pool; slabs = set s.slabs f (Some slab); checked = twice i; board = board; live = live };
  }
    where
      twice : set s.checked k (Some e) ≡ set (set s.checked k (Some left)) k (Some e)
      twice = sym (set-set s.checked k (Some left) (Some e))

  allocates : AllocatesNamed s place (call_cpu call) l.worker (call_object call) reply after
  allocates = allocates_checked s place (call_cpu call) l.worker (call_object call) k c reply after is.named lives is.checked
      (give.Empty, left, left_gives opening s b system x call place k rest next c is empty, (Some run, pool, finds, inr gives))

  makes_one : AllocatesAlone opening s b system x call place 4 b
  makes_one = record {
    reply = reply;
    after = after;
    allocates = allocates;
    given = after;
    words = record { lists = refl; sized = refl; words = λ other word h away there plain is_word. refl };
    known = known_ends s b system x 4 told system.words later next.there whole refl ∙ given_knows opening s b system x call place k rest next c is f 0 None refl after refl;
    replies = replies_of opening s after b b system x 4 call reply told system.words later next whole refl refl refl refl
        (value_setup opening s b system x rest next.there 3 later told whole pool (set s.slabs f (Some slab)) s.frees (set s.checked k (Some e)) board s.gone live (length-set s.board (call_object call) (Some held)) (checked_same s k c e is.checked)) rests;
  }

  makes_is : makes_one.reply ≡ Given (address_of f 0 (layout_at s k))
  unfolding makes_one
  makes_is = refl

pub checked_made : CheckedSlabsAreMade
checked_made opening s b system x call place k c run pool rest next is empty finds =
    let ready = rests_ready opening s b system x call rest next in
    (makes_one opening s b system x call place k ready next c is empty run pool finds, makes_is opening s b system x call place k ready next c is empty run pool finds)
