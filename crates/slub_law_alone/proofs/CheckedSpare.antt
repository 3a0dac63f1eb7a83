-- A free of an object of a checked cache whose slab goes: its run is put back under the pool's lock, in four turns.
use Rattle.std.proofs.Common.{◌≡◌, ℕ, ◌<◌, Bool, false, List, [], get_or, set, Option, Some, None, IsSome, Ok, inl, inr, refl, ap, sym, ◌∙◌, subst, arith, if◌then◌else◌}
use Rattle.std.specs.Prelude.{nat_lt, is_some}
use Rattle.std.proofs.lemmas.Bool.{cases_eq, eq-eqb, lt-ltb}
use Rattle.std.proofs.lemmas.List.{get_or-set_same, get_or-set_other, set-get_or, length-set}
use Rattle.slub_trace.specs.declared.reply.Reply.{Reply}
use Rattle.slub_page_pool.specs.FreeFrames.{FreeFrames}
use Rattle.slub_page_pool.specs.Block.{with_run}
use Rattle.slub_red_zone.specs.declared.checked.Run.{Run as SlabRun}
use Rattle.slub_red_zone.specs.declared.checked.Slot.{Slot}
use Rattle.slub_red_zone.specs.Zones.{red_inactive}
use Rattle.slub_red_zone.specs.State.{CheckedState, Has, IsUsed, slab_of as checked_slab, objects_in}
use Rattle.slub_red_zone.specs.Sound.{IsSound}
use Rattle.slub_red_zone.specs.Objects.{TakesObject, TakesSlab}
use Rattle.slub_red_zone.specs.Steps.{damage_of_used, without_slab}
use Rattle.slub_red_zone.proofs.Objects.{takes-slab}
use Rattle.slub_red_zone.proofs.Taken.{used-some, used-inside, taken-sound}
use Rattle.slub_red_zone.proofs.Whole.{slab-there, frame-positive}
use Rattle.slub_lists.specs.declared.lists.Held.{Held}
use Rattle.slub_lists.specs.State.{State}
use Rattle.slub_lists.specs.Alloc.{own_free, checked_of}
use Rattle.slub_lists.specs.Checked.{with_checked}
use Rattle.slub_lists.specs.Free.{discarded, order_of, with_gone, with_taken}
use Rattle.slub_lists.specs.Freeing.{Frees}
use Rattle.slub_lists.specs.Places.{layout_at}
use Rattle.slub_lists.proofs.CheckedTaking.{held-has, going-slot, going-order, going-own}
use Rattle.slub_core.specs.declared.call.Call.{Call}
use Rattle.slub_core.specs.declared.call.CallKind.TheVariants.{Free}
use Rattle.slub_core.specs.declared.local.Known.{Known}
use Rattle.slub_core.specs.declared.local.FrameRun.{FrameRun}
use Rattle.slub_core.specs.declared.spot.Spot.TheVariants.{InChecked}
use Rattle.slub_core.specs.declared.spot.CheckedSpot.TheVariants.{LockChecked, DoChecked, LockRun, MoveRun, GiveRun, GiveChecked}
use Rattle.slub_core.specs.declared.step.Answer.TheVariants.{Won}
use Rattle.slub_core.specs.Calls.{call_cpu, call_object, call_place}
use Rattle.slub_core.specs.Setup.{Setup, node_lock, pool_lock}
use Rattle.slub_core.specs.World.{World, LockValue, Checked, Pool, update, world_of, pool_in, size_in, one_if}
use Rattle.slub_core.specs.Local.{Local, Change, at, answered, loses, stays}
use Rattle.slub_core.specs.Checked.{do_checked, slabs_in, move_run, run_at, took_back}
use Rattle.slub_core.specs.Steps.{advance_of, begun, rested}
use Rattle.slub_core.specs.Run.{System, idle}
use Rattle.slub_core.proofs.CheckedBytes.{length-set_slot}
use Rattle.slub_core.proofs.CheckedFree.{shape-none}
use Rattle.slub_core.proofs.CheckedStep.{shape-size, shape-order}
use Rattle.slub_core.proofs.OneSlab.{IsOneSlab, having}
use Rattle.slub_core.proofs.Update.{term_le_sum}
use Rattle.slub_core.proofs.StepWords.{value_of}
use Rattle.slub_law_opening.specs.Opening.{Beside, setup_of}
use Rattle.slub_law_opening.specs.Rests.{slab_at}
use Rattle.slub_law_opening.specs.Closing.{HasLengths}
use Rattle.slub_law_opening.proofs.Names.{as_held}
use Rattle.slub_law_alone.specs.Alone.{alone, worker_at, known_at, IsAtRest, IsNext}
use Rattle.slub_law_alone.specs.Ready.{IsReady}
use Rattle.slub_law_alone.specs.Laws.{FreesAlone}
use Rattle.slub_law_alone.specs.CheckedAlone.{IsCheckedFree, BecomesSpare, slot_known, SpareSlabsArePutBack}
use Rattle.slub_law_alone.proofs.CheckedEnds.{value_setup, value_rest, values_there}
use Rattle.slub_law_alone.proofs.CheckedFreed.{spare_true, frees_checked, free_has, free_spot, freed_reply, freed_local, freed_told, freed_between, freed_board, freed_names, freed_were, freed_gone, freed_live, freed_accounted, slabs_taken, taken_used, takes_it}
use Rattle.slub_law_alone.proofs.CheckedRests.{checked_same, values_with}
use Rattle.slub_law_alone.proofs.CheckedRuns.{four_turns, pool_values, pool_there, slabs_beside, slab_gone, no_word}
use Rattle.slub_law_alone.proofs.CheckedTurns.{asking, begin_checked, lock_free, checked_few, slabs_guarded}
use Rattle.slub_law_alone.proofs.CheckedUses.{sound}
use Rattle.slub_law_alone.proofs.Ended.{keeps_with, replies_of}
use Rattle.slub_law_alone.proofs.Knows.{known_ends, knows_freed}
use Rattle.slub_law_alone.proofs.NewSlabSearch.{settle_does, change}
use Rattle.slub_law_alone.proofs.Ready.{IsReadyStart, ready_starts}
use Rattle.slub_law_alone.proofs.Turns.{machine}

module _ (opening : World) (s : State) (b : Beside) (system : System) (x : ℕ) (call : Call) (rest : IsReady opening s b system x) (next : IsNext system x call) (c : CheckedState) (is : IsCheckedFree s (worker_at system x) call c)
    (whole_it : damage_of_used c (slot_known (known_at (worker_at system x) call)) ≡ None) (spare : BecomesSpare s c (known_at (worker_at system x) call)) where
  abbrev m : Setup
  m = setup_of s b

  abbrev w : World
  w = world_of m system.value system.words

  abbrev l : Local
  l = worker_at system x

  abbrev o : Known
  o = known_at l call

  abbrev k : ℕ
  k = o.cache

  abbrev f : ℕ
  f = o.frame

  abbrev slot : Slot
  slot = slot_known o

  abbrev q : Local
  q = asking l call k

  abbrev held : Held
  held = as_held l.worker o

  begin : IsReadyStart opening s b system x call
  begin = ready_starts opening s b system x call rest next

  abbrev mid : CheckedState
  mid = slabs_taken opening s b system x call rest next c is

  abbrev e : CheckedState
  e = without_slab mid f

  abbrev reply : Reply
  reply = freed_reply opening s b system x call rest next c is

  abbrev told : Local
  told = freed_told opening s b system x call rest next c is

  -- ---- the slab that goes

  sound_was : IsSound c
  sound_was = sound opening s b system x call rest next c is.checked

  used : IsUsed c slot
  used = taken_used opening s b system x call rest next c is

  took : TakesObject c slot (Ok tt) mid
  took = takes_it opening s b system x call rest next c is

  sound_mid : IsSound mid
  sound_mid = taken-sound c slot sound_was used (length-set_slot c.layout c.flags red_inactive (checked_slab c f).bytes o.index sound_was.layout.bounds (used-inside c slot sound_was used))

  some : 0 < objects_in (checked_slab c f)
  some = used-some c slot sound_was used

  some_mid : 0 < objects_in (checked_slab mid f)
  some_mid = omega (arith, some, shape-size c mid f (took.slabs.shape f))

  abbrev run : SlabRun
  run = record { frame = f; order = (checked_slab mid f).order }

  gone : TakesSlab mid f e
  gone = takes-slab mid f (layout_at s k).min_partial run e sound_mid (subst (λ z. IsSome z) (sym (slab-there mid.slabs f some_mid)) refl) (spare, refl, refl)

  there : Has c f
  there = held-has s (call_object call) held c (free_has opening s b system x call rest next c is).named is.checked begin.consistent

  order_is : (checked_slab mid f).order ≡ order_of s f
  order_is = shape-order c mid f (took.slabs.shape f) ∙ sym (going-order s k f c is.checked there begin.consistent)

  f_below : f < s.frames
  f_below = omega (arith, going-slot s k f c is.checked there begin.consistent, rest.lists.shaped.slabs)

  unworded : (w.slab f).objects ≡ 0
  unworded =
      let slab = (free_has opening s b system x call rest next c is).slab in
      no_word s b w system.locals rest.rests.rests f slab.0 c slab.1 (ap (checked_of s) slab.2 ∙ is.checked)

  one : IsOneSlab w (node_lock k) c e f
  one = record {
    below = below;
    was = was;
    elsewhere = λ g d. gone.others.shape g d ∙ took.slabs.shape g;
    unworded = unworded;
    only = only;
    real = λ z. absurd (omega (arith, z, frame-positive c f sound_was some));
    within = omega (arith, f_below, ap (λ (m : Setup). m.frames) rest.rests.rests.setup);
    aligned = λ more. absurd (omega (arith, more, shape-none e f gone.shape));
    either = inr (shape-none e f gone.shape);
  }
    where
      below : node_lock k < w.setup.locks
      below = omega (arith, checked_few opening s b system rest k c is.checked, ap (λ (m : Setup). m.locks) rest.rests.rests.setup)

      was : w.value (node_lock k) ≡ Checked c
      was = ap (λ (value : ℕ → LockValue). value (node_lock k)) (value_of m system.value system.words) ∙ slabs_guarded opening s b system rest k c is.checked

      only : having w.value w.setup.locks f ≡ one_if (nat_lt 0 (objects_in (checked_slab c f)))
      only =
          let most = begin.front.stands.listed.shaped.alone f in
          let here = term_le_sum w.setup.locks (λ n. one_if (nat_lt 0 (size_in (w.value n) f))) (node_lock k) below in
          let it : one_if (nat_lt 0 (objects_in (checked_slab c f))) ≡ 1 = ap one_if (lt-ltb 0 (objects_in (checked_slab c f)) some) in
          let same : one_if (nat_lt 0 (size_in (w.value (node_lock k)) f)) ≡ one_if (nat_lt 0 (objects_in (checked_slab c f))) = ap (λ v. one_if (nat_lt 0 (size_in v f))) was in
          omega arith

  -- ---- the turns

  abbrev run_in_hand : FrameRun
  run_in_hand = run_at mid f

  abbrev p : Local
  p = answered (record (loses q) { run = Some run_in_hand }) reply

  abbrev r : Local
  r = answered (freed_local opening s b system x call rest next c is) reply

  abbrev first : ℕ → LockValue
  first = update system.value (node_lock k) (Checked e)

  abbrev pool : FreeFrames
  pool = record s.pool { free = with_run s.pool.free f (order_of s f) }

  abbrev later : ℕ → LockValue
  later = update first pool_lock (Pool pool)

  begins : begun m false l ≡ at q (InChecked LockChecked Free)
  begins = begin_checked m l call next.calls Free k begin.between.between next.todo is.kind refl refl (ap is_some is.checked) (free_spot opening s b system x call rest next c is)

  leads : advance_of m false system.value (at q (InChecked LockChecked Free)) Won ≡ stays first (at p (InChecked LockRun Free))
  leads = settle_does m system.value first (at q (InChecked LockChecked Free)) (at q (InChecked DoChecked Free)) (at (record (loses q) { run = Some run_in_hand }) (InChecked LockRun Free)) Won (Some reply) refl
      (ap (λ v. do_checked m system.value (at q (InChecked DoChecked Free)) Free (slabs_in (m.layout k) v)) (slabs_guarded opening s b system rest k c is.checked)
      ∙ ap (took_back m system.value (at q (InChecked DoChecked Free)) c) whole_it ∙ ap by_spare (spare_true m mid k f spare)) refl refl
    where
      by_spare : Bool → Change
      by_spare spare = record {
        value = update system.value (node_lock k) (Checked (if spare then without_slab mid f else mid));
        local = record (loses (at q (InChecked DoChecked Free))) {
          run = (if spare then Some (run_at mid f) else None);
          spot = (if spare then InChecked LockRun Free else InChecked GiveChecked Free);
        };
        reply = Some reply;
      }

  finds : advance_of m false first (at p (InChecked LockRun Free)) Won ≡ stays later (at r (InChecked GiveRun Free))
  finds = settle_does m first later (at p (InChecked LockRun Free)) (at p (InChecked MoveRun Free)) (at r (InChecked GiveRun Free)) Won None refl
      (ap (λ v. move_run m first (at p (InChecked MoveRun Free)) Free (pool_in v)) (pool_there opening s b system rest k e) ∙ ap by_order order_is) refl refl
    where
      by_order : ℕ → Change
      by_order order = change (update first pool_lock (Pool (record s.pool { free = with_run s.pool.free f order }))) (at r (InChecked GiveRun Free)) None

  whole : alone m x 4 system ≡ machine system.words later (set system.locals x (rested m told))
  whole = ap (alone m x 4) (ap (machine system.words system.value) (sym (set-get_or system.locals x idle)))
      ∙ four_turns m system.words system.value first later system.locals x l q p r Free next.there begins
      (lock_free opening s b system rest (node_lock k) (omega (arith, checked_few opening s b system rest k c is.checked))) (lock_free opening s b system rest pool_lock (omega arith)) refl leads finds

  -- ---- where they end

  abbrev board : List (Option Held)
  board = freed_board opening s b system x call rest next c is

  abbrev gone_list : List (Option Held)
  gone_list = freed_gone opening s b system x call rest next c is

  abbrev live : List ℕ
  live = freed_live opening s b system x call rest next c is

  abbrev after : State
  after = with_gone (discarded (with_checked (with_taken s (call_object call) k) k e) f) (call_object call) l.worker held

  lengths : HasLengths after
  lengths = record {
    slabs = length-set s.slabs f None ∙ rest.lists.shaped.slabs;
    frees = length-set s.frees f [] ∙ rest.lists.shaped.frees;
    cpu_lists = rest.lists.shaped.cpu_lists;
    nodes = rest.lists.shaped.nodes;
    checked = length-set s.checked k (Some e) ∙ rest.lists.shaped.checked.numbers;
    memory = rest.lists.shaped.memory;
    gone = length-set s.gone (call_object call) (Some held) ∙ rest.lists.shaped.gone ∙ sym (length-set s.board (call_object call) None);
    live = length-set s.live k _ ∙ rest.lists.shaped.live;
  }

  own_are : (g : ℕ) → get_or (set s.frees f []) g [] ≡ own_free s g
  own_are g = elim (cases_eq g f) [
    | inl e ↦ ap (λ g. get_or (set s.frees f []) g []) e ∙ get_or-set_same s.frees f [] [] (omega (arith, f_below, rest.lists.shaped.frees)) ∙ sym (ap (own_free s) e ∙ going-own s k f c is.checked there begin.consistent)
    | inr away ↦ get_or-set_other s.frees f g [] [] away
  ]

  slabs_are : (g : ℕ) → get_or (set s.slabs f None) g None ≡ slab_at (record w { value = later }) g
  slabs_are g = elim (cases_eq g f) [
    | inl z ↦ ap (λ g. get_or (set s.slabs f None) g None) z ∙ get_or-set_same s.slabs f None None (omega (arith, f_below, rest.lists.shaped.slabs))
        ∙ slab_gone opening s b system rest k c e f pool one (shape-none e f gone.shape) ∙ ap (slab_at (record w { value = later })) (sym z)
    | inr away ↦ get_or-set_other s.slabs f g None None away ∙ slabs_beside opening s b system rest k c e f pool one g away
  ]

  rests : IsAtRest opening after b (machine system.words later (set system.locals x (rested m told)))
  rests = value_rest opening s b system x rest next.there 3 later told whole pool (set s.slabs f None) (set s.frees f []) (set s.checked k (Some e)) board gone_list live (length-set s.board (call_object call) None) (checked_same s k c e is.checked)
      (keeps_with s after k c e rest.lists is.checked (gone.others.flags ∙ took.slabs.flags) refl refl lengths (freed_accounted opening s b system x call rest next c is)) (freed_between opening s b system x call rest next c is)
      (pool_values (record s { slabs = set s.slabs f None; frees = set s.frees f []; checked = set s.checked k (Some e); board = board; gone = gone_list; live = live }) pool first (values_with s k c e is.checked (set s.slabs f None) (set s.frees f []) board gone_list live system.value (values_there opening s b system rest)))
      own_are slabs_are (freed_names opening s b system x call rest next c is) (λ j h there plain. freed_were opening s b system x call rest next c is j h there)

  frees : Frees s (call_cpu call) l.worker (call_object call) reply after
  frees =
      let has = free_has opening s b system x call rest next c is in
      frees_checked s (call_cpu call) l.worker (call_object call) o reply after c has.named has.lives is.checked (Ok tt, mid, (whole_it, refl), (refl, Some run, e, (spare, refl, refl), refl))

  put_back : FreesAlone opening s b system x call 4 b
  put_back = record {
    reply = reply;
    after = after;
    frees = frees;
    known = known_ends s b system x 4 told system.words later next.there whole refl ∙ (let has = free_has opening s b system x call rest next c is in knows_freed l.known (call_place call) o.object (call_object call) l.worker s after held has.named (eq-eqb l.worker l.worker refl) has.on_board refl has.object);
    replies = replies_of opening s after b b system x 4 call reply told system.words later next whole refl refl refl refl
        (value_setup opening s b system x rest next.there 3 later told whole pool (set s.slabs f None) (set s.frees f []) (set s.checked k (Some e)) board gone_list live (length-set s.board (call_object call) None) (checked_same s k c e is.checked)) rests;
  }

pub spare_goes : SpareSlabsArePutBack
spare_goes opening s b system x call c rest next is whole_it spare = put_back opening s b system x call rest next c is whole_it spare
