-- An allocation from a checked cache in which a listed slab has an object to give: two turns.
use Rattle.std.proofs.Common.{◌≡◌, ℕ, ◌+◌, ◌<◌, ◌≤◌, true, false, List, length, get_or, set, Option, Some, None, inl, inr, refl, ap, sym, ◌∙◌, subst, arith}
use Rattle.std.specs.Prelude.{is_some, IfSome, MatchOption, unwrap_or}
use Rattle.std.proofs.lemmas.Bool.{cases_eq}
use Rattle.std.proofs.lemmas.List.{get_or-set_same, get_or-set_other, set-get_or, length-set}
use Rattle.std.proofs.lemmas.List.Elements.{All-set}
use Rattle.slub_trace.specs.declared.reply.Reply.{Reply}
use Rattle.slub_trace.specs.declared.reply.Reply.TheVariants.{Given, NoSuchCache}
use Rattle.slub_object_layout.specs.Layout.{address_of}
use Rattle.slub_red_zone.specs.declared.checked.CheckedGive.TheVariants as give
use Rattle.slub_red_zone.specs.declared.checked.Slot.{Slot}
use Rattle.slub_red_zone.specs.State.{CheckedState}
use Rattle.slub_red_zone.specs.Sound.{IsSound}
use Rattle.slub_red_zone.specs.Objects.{GivesObject}
use Rattle.slub_red_zone.specs.Steps.{Gives}
use Rattle.slub_red_zone.proofs.Objects.{gives-object}
use Rattle.slub_lists.specs.declared.lists.Held.{Held}
use Rattle.slub_lists.specs.State.{State}
use Rattle.slub_lists.specs.Alloc.{Allocates, cache_of, checked_of, named, with_held}
use Rattle.slub_lists.specs.Checked.{AllocatesChecked, with_checked}
use Rattle.slub_lists.specs.Coherent.{IsAccounted, held_under}
use Rattle.slub_lists.specs.Named.{AllocatesNamed, AllocatesFrom}
use Rattle.slub_lists.specs.Places.{layout_at}
use Rattle.slub_lists.proofs.Accounted.{accounted-with_held}
use Rattle.slub_lists.proofs.CheckedGiving.{given-unheld}
use Rattle.slub_lists.proofs.CheckedSlabs.{was-checked}
use Rattle.slub_core.specs.declared.call.Call.{Call}
use Rattle.slub_core.specs.declared.call.CallKind.TheVariants.{Alloc}
use Rattle.slub_core.specs.declared.local.Known.{Known}
use Rattle.slub_core.specs.declared.local.FrameRun.{FrameRun}
use Rattle.slub_core.specs.declared.spot.Spot.TheVariants.{Between, InChecked}
use Rattle.slub_core.specs.declared.spot.CheckedSpot.TheVariants.{LockChecked, DoChecked}
use Rattle.slub_core.specs.Calls.{call_kind, call_cpu, call_object, call_place}
use Rattle.slub_core.specs.Setup.{Setup, node_lock}
use Rattle.slub_core.specs.World.{World, Checked, update, world_of}
use Rattle.slub_core.specs.Local.{Local, at, answered, gets}
use Rattle.slub_core.specs.Checked.{gave, do_checked, slabs_in}
use Rattle.slub_core.specs.Replies.{names_object}
use Rattle.slub_core.specs.Steps.{begun, rested}
use Rattle.slub_core.specs.Run.{System, idle}
use Rattle.slub_law_opening.specs.Opening.{Beside, setup_of}
use Rattle.slub_law_opening.specs.Rests.{IsBetween, named as named_in, times_named}
use Rattle.slub_law_alone.specs.Alone.{alone, worker_at, known_at, known_under, IsAtRest, IsNext}
use Rattle.slub_law_alone.specs.Ready.{IsReady}
use Rattle.slub_law_alone.specs.Laws.{AllocatesAlone}
use Rattle.slub_law_alone.specs.CheckedAlone.{IsCheckedAlloc, CheckedObjectsAreGiven}
use Rattle.slub_law_alone.proofs.CheckedEnds.{rests_between, value_once, locked_setup, locked_rest}
use Rattle.slub_law_alone.proofs.CheckedRests.{checked_here}
use Rattle.slub_law_alone.proofs.CheckedTurns.{asking, begin_checked, lock_free, checked_few, slabs_guarded, two_turns}
use Rattle.slub_law_alone.proofs.Ended.{replies_of}
use Rattle.slub_law_alone.proofs.Knows.{known_ends, knows_given}
use Rattle.slub_law_alone.proofs.FastFree.{layout_of}
use Rattle.slub_law_alone.proofs.Names.{named_other, named_held, named_new}
use Rattle.slub_law_alone.proofs.Ready.{rests_ready, IsReadyStart, ready_starts}
use Rattle.slub_law_alone.proofs.Turns.{machine}
use Rattle.slub_law_alone.proofs.Uses.{live_match}
use Rattle.slub_law_alone.proofs.Workers.{IsWithCalls, rested_calls}

-- the allocation from a checked cache is that of the lists
pub allocates_checked : (s : State) (place cpu worker object k : ℕ) (c : CheckedState) (reply : Reply) (after : State) → named s place ≡ Some k → is_some (cache_of s k) ≡ true → checked_of s k ≡ Some c
    → AllocatesChecked s (layout_at s k) k c worker object reply after → AllocatesNamed s place cpu worker object reply after
allocates_checked s place cpu worker object k c reply after names lives was allocates =
    subst (λ o. MatchOption o ((reply ≡ NoSuchCache) × (after ≡ s)) (λ cache. MatchOption (cache_of s cache) ⊥ (λ live. AllocatesFrom s live.layout cache cpu worker object reply after))) (sym names)
    (live_match s k (λ live. AllocatesFrom s live.layout k cpu worker object reply after) lives (λ live e.
    subst (λ o. MatchOption o (Allocates s live.layout k cpu worker object reply after) (λ slabs. AllocatesChecked s live.layout k slabs worker object reply after)) (sym was)
    (subst (λ layout. AllocatesChecked s layout k c worker object reply after) (layout_of s k live e) allocates)))

-- ---- a worker that is given an object of a checked cache

module _ (opening : World) (s : State) (b : Beside) (system : System) (x : ℕ) (call : Call) (place k : ℕ) (rest : IsReady opening s b system x) (next : IsNext system x call) (c : CheckedState) (is : IsCheckedAlloc s call place k c) where
  abbrev m : Setup
  m = setup_of s b

  abbrev w : World
  w = world_of m system.value system.words

  abbrev l : Local
  l = worker_at system x

  abbrev q : Local
  q = asking l call k

  begin : IsReadyStart opening s b system x call
  begin = ready_starts opening s b system x call rest next

  pub alloc_lives : is_some (cache_of s k) ≡ true
  alloc_lives = subst (λ o. IfSome o (λ k. m.lives k ≡ true)) is.asks begin.may.cache

  pub alloc_begins : begun m false l ≡ at q (InChecked LockChecked Alloc)
  alloc_begins = begin_checked m l call next.calls Alloc k begin.between.between next.todo is.kind (ap (λ n. unwrap_or n 0) is.asks) refl (ap is_some is.checked) refl

  pub alloc_sound : IsSound c
  alloc_sound = (was-checked s k c c is.checked rest.lists.shaped.checked).sound

  module _ (f i : ℕ) (run : Option FrameRun) (bare : run ≡ None) where
    abbrev pub got : Known
    got = record { object = (known_at l call).object; frame = f; index = i; cache = k; held = true }

    abbrev pub given_reply : Reply
    given_reply = Given (address_of f i (layout_at s k))

    abbrev pub given_local : Local
    given_local = record (gets q k f i) { run = run }

    abbrev pub given_told : Local
    given_told = answered (at given_local Between) given_reply

    abbrev pub given_held : Held
    given_held = record { frame = f; index = i; cache = k; worker = Some l.worker }

    names : names_object (call_kind call) ≡ true
    names = ap names_object is.kind

    object : got.object ≡ call_object call
    object = begin.may.known names

    on_board : call_object call < length s.board
    on_board = (begin.may.object names).1

    calls : IsWithCalls given_told (rested m given_told)
    calls = rested_calls m given_told refl

    known_is : (rested m given_told).known ≡ set l.known (call_place call) got
    known_is = ap (λ (l : Local). l.known) calls.same

    worker_is : (rested m given_told).worker ≡ l.worker
    worker_is = ap (λ (l : Local). l.worker) calls.same

    pub given_between : IsBetween w.setup (rested m given_told)
    given_between = rests_between m w.setup given_told (record {
      between = refl;
      hands = begin.between.hands;
      string = begin.between.string;
      run = bare;
      packed = record { cpu_word = begin.between.packed.cpu_word; slab_word = begin.between.packed.slab_word; list_word = begin.between.packed.list_word; next = begin.between.packed.next };
      cpu = subst (λ (m : Setup). call_cpu call < m.cpus) (sym rest.rests.rests.setup) begin.may.cpu;
      numbers = All-set (λ (k : Known). k.object < w.setup.objects) l.known (call_place call) got (subst (λ (m : Setup). got.object < m.objects) (sym rest.rests.rests.setup) (omega (arith, object, on_board))) begin.between.numbers;
      some = All-set (λ (k : Known). k.held ≡ true → 1 ≤ k.object) l.known (call_place call) got (λ _. omega (arith, object, (begin.may.object names).0)) begin.between.some;
    })

    abbrev pub given_board : List (Option Held)
    given_board = set s.board (call_object call) (Some given_held)

    -- what it knows then
    pub given_knows : (t : State) → t.board ≡ given_board → given_told.known ≡ set l.known (call_place call) (known_under t (call_object call))
    given_knows t is = knows_given l.known (call_place call) got.object (call_object call) s.board given_held t is on_board object

    abbrev pub given_live : List ℕ
    given_live = set s.live k (get_or s.live k 0 + 1)

    pub given_were : (o : ℕ) (h : Held) → get_or given_board o None ≡ Some h → checked_of s h.cache ≡ None → held_under s o ≡ Some h
    given_were o h there plain = elim (cases_eq o (call_object call)) [
      | inl e ↦ absurd (
          let here : Some given_held ≡ Some h = sym (get_or-set_same s.board (call_object call) (Some given_held) None on_board) ∙ ap (λ o. get_or given_board o None) (sym e) ∙ there in
          let same : k ≡ h.cache = ap (λ (o : Option Held). cache_in o) here in
          cc (is.checked, ap (checked_of s) same, plain))
      | inr away ↦ sym (get_or-set_other s.board (call_object call) o (Some given_held) None away) ∙ there
    ]
      where
        cache_in : Option Held → ℕ
        cache_in None = 0
        cache_in (Some h) = h.cache

    module _ (once : (o : ℕ) → times_named w (set system.locals x (rested m given_told)) o ≤ 1) where
      pub given_unused : held_under s (call_object call) ≡ None
      given_unused = rest.rests.rests.named (call_object call) ∙ named_new w system.locals x (call_place call) (rested m given_told) got next.there (begin.may.place names) known_is refl (begin.may.new is.kind) (call_object call) object (once (call_object call))

      pub given_accounted : IsAccounted (record s { board = given_board; live = given_live })
      given_accounted = accounted-with_held s (call_object call) given_held (omega (arith, checked_few opening s b system rest k c is.checked, rest.lists.shaped.live)) on_board given_unused rest.lists.accounted

      pub given_names : (o : ℕ) → get_or given_board o None ≡ named_in w (set system.locals x (rested m given_told)) o
      given_names o = elim (cases_eq o (call_object call)) [
        | inl e ↦ ap (λ o. get_or given_board o None) e ∙ get_or-set_same s.board (call_object call) (Some given_held) None on_board ∙ ap (λ worker. Some (record { frame = f; index = i; cache = k; worker = Some worker })) (sym worker_is)
            ∙ sym (named_held w system.locals x (call_place call) (rested m given_told) l.known got next.there (begin.may.place names) known_is refl (once got.object)) ∙ ap (named_in w (set system.locals x (rested m given_told))) (object ∙ sym e)
        | inr away ↦ get_or-set_other s.board (call_object call) o (Some given_held) None away ∙ rest.rests.rests.named o ∙ sym (named_other w system.locals x (call_place call) (rested m given_told) got worker_is known_is refl o (λ e. away (sym e ∙ object)))
      ]

  -- ---- an object of a listed slab

  module _ (slot : Slot) (gives_it : b.means.gave c ≡ give.Given slot) where
    abbrev e : CheckedState
    e = b.means.give c

    abbrev told : Local
    told = given_told slot.frame slot.index l.run begin.between.run

    abbrev reply : Reply
    reply = given_reply slot.frame slot.index l.run begin.between.run

    gives : Gives c (give.Given slot) e
    gives = subst (λ answer. Gives c answer e) gives_it (b.means.gives c alloc_sound)

    objects : GivesObject c (give.Given slot) e
    objects = gives-object c (give.Given slot) e alloc_sound gives

    whole : alone m x 2 system ≡ machine system.words (update system.value (node_lock k) (Checked e)) (set system.locals x (rested m told))
    whole = ap (alone m x 2) (ap (machine system.words system.value) (sym (set-get_or system.locals x idle)))
        ∙ two_turns m system.words system.value (update system.value (node_lock k) (Checked e)) system.locals x l q (gets q k slot.frame slot.index) Alloc reply next.there alloc_begins
        (lock_free opening s b system rest (node_lock k) (omega (arith, checked_few opening s b system rest k c is.checked))) refl
        (ap (λ v. do_checked m system.value (at q (InChecked DoChecked Alloc)) Alloc (slabs_in (m.layout k) v)) (slabs_guarded opening s b system rest k c is.checked) ∙ ap (gave m system.value (at q (InChecked DoChecked Alloc)) e) gives_it)

    once : (o : ℕ) → times_named w (set system.locals x (rested m told)) o ≤ 1
    once = value_once opening s b system x rest next.there 1 (update system.value (node_lock k) (Checked e)) told whole

    abbrev after : State
    after = with_held (with_checked s k e) (call_object call) (given_held slot.frame slot.index l.run begin.between.run)

    rests : IsAtRest opening after b (machine system.words (update system.value (node_lock k) (Checked e)) (set system.locals x (rested m told)))
    rests = locked_rest opening s b system x rest next.there k c e is.checked 1 told whole objects.slabs.shape objects.slabs.flags (given_board slot.frame slot.index l.run begin.between.run) s.gone (given_live slot.frame slot.index l.run begin.between.run)
        (length-set s.board (call_object call) _) refl (length-set s.live k _) (given_accounted slot.frame slot.index l.run begin.between.run once) (given_between slot.frame slot.index l.run begin.between.run) (given_names slot.frame slot.index l.run begin.between.run once) (given_were slot.frame slot.index l.run begin.between.run)

    sound_after : IsSound e
    sound_after = (was-checked after k e e (checked_here s k c e is.checked) rests.lists.shaped.checked).sound

    allocates : AllocatesNamed s place (call_cpu call) l.worker (call_object call) reply after
    allocates = allocates_checked s place (call_cpu call) l.worker (call_object call) k c reply after is.named alloc_lives is.checked
        (give.Given slot, e, gives, record { unheld = given-unheld s k slot c e is.checked objects sound_after begin.consistent; address = refl; given = refl })

    given : AllocatesAlone opening s b system x call place 2 b
    given = record {
      reply = reply;
      after = after;
      allocates = allocates;
      given = after;
      words = record { lists = refl; sized = refl; words = λ other word h away there plain is_word. refl };
      known = known_ends s b system x 2 told system.words (update system.value (node_lock k) (Checked e)) next.there whole refl ∙ given_knows slot.frame slot.index l.run begin.between.run after refl;
      replies = replies_of opening s after b b system x 2 call reply told system.words (update system.value (node_lock k) (Checked e)) next whole refl refl refl refl
          (locked_setup opening s b system x rest next.there k c e is.checked 1 told whole objects.slabs.shape objects.slabs.flags (given_board slot.frame slot.index l.run begin.between.run) s.gone (given_live slot.frame slot.index l.run begin.between.run)
          (length-set s.board (call_object call) _) refl (length-set s.live k _) (given_accounted slot.frame slot.index l.run begin.between.run once) (given_between slot.frame slot.index l.run begin.between.run) (given_names slot.frame slot.index l.run begin.between.run once) (given_were slot.frame slot.index l.run begin.between.run)) rests;
    }

    given_is : given.reply ≡ Given (address_of slot.frame slot.index (layout_at s k))
    unfolding given
    given_is = refl

pub objects_given : CheckedObjectsAreGiven
objects_given opening s b system x call place k c slot rest next is gives_it =
    let ready = rests_ready opening s b system x call rest next in
    (given opening s b system x call place k ready next c is slot gives_it, given_is opening s b system x call place k ready next c is slot gives_it)
