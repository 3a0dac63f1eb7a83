-- A free of an object that is on the board: it is taken from the board, and is then one that the worker holds.
use Rattle.std.proofs.Common.{◌≡◌, ℕ, suc, ◌+◌, ◌-◌, ◌<◌, ◌≤◌, Bool, true, false, cond, List, [], ◌∷◌, drop, length, get_or, set, Option, Some, None, inl, inr, refl, ap, sym, ◌∙◌, subst, arith, sum_by}
use Rattle.std.specs.Prelude.{MatchOption, MatchBool, Result, Ok, Err, IfSome, is_some}
use Rattle.std.specs.Option.{option_map, option_or}
use Rattle.std.proofs.lemmas.Bool.{cases_eq, eq-eqb}
use Rattle.std.proofs.lemmas.List.{get_or-set_same, get_or-set_other, set-get_or, length-set, set-set}
use Rattle.std.proofs.lemmas.List.Elements.{All-set}
use Rattle.std.proofs.lemmas.List.Sums.{sum_by-set}
use Rattle.slub_trace.specs.declared.reply.Reply.{Reply}
use Rattle.slub_trace.specs.declared.reply.Reply.TheVariants.{NotHeld}
use Rattle.slub_object_layout.specs.declared.layout.Layout.{Layout}
use Rattle.slub_cache_create.specs.declared.caches.Cache.{Cache}
use Rattle.slub_red_zone.specs.State.{CheckedState}
use Rattle.slub_trace.specs.declared.damage.Damage.{Damage}
use Rattle.slub_red_zone.specs.declared.checked.Run.{Run as SlabRun}
use Rattle.slub_words.specs.declared.board.BoardWord.{BoardWord}
use Rattle.slub_lists.specs.declared.lists.Held.{Held}
use Rattle.slub_lists.specs.State.{State}
use Rattle.slub_lists.specs.Alloc.{cache_of, checked_of, held_here}
use Rattle.slub_lists.specs.Checked.{kept_by as held_by, with_checked, discarded_where, IsFreedOrKept, FreesChecked}
use Rattle.slub_lists.specs.Free.{FreesUnchecked, is_freeable, freed, with_gone}
use Rattle.slub_lists.specs.Freeing.{Frees, FreesHeld}
use Rattle.slub_lists.specs.Coherent.{IsCoherent, IsShaped, held_of, held_under}
use Rattle.slub_lists.proofs.Unchecked.{checked-rest}
use Rattle.slub_common.proofs.Writes.{inside-of}
use Rattle.slub_core.specs.declared.call.Call.{Call}
use Rattle.slub_core.specs.declared.call.CallKind.{CallKind}
use Rattle.slub_core.specs.declared.call.CallKind.TheVariants.{Free}
use Rattle.slub_core.specs.declared.local.Answered.{Answered}
use Rattle.slub_core.specs.declared.local.Known.{Known}
use Rattle.slub_core.specs.declared.spot.Spot.{Spot}
use Rattle.slub_core.specs.declared.spot.Spot.TheVariants.{Between, InFree, InChecked}
use Rattle.slub_core.specs.declared.spot.FreeSpot.TheVariants.{TakeBoard, LoadOwn}
use Rattle.slub_core.specs.declared.spot.CheckedSpot.TheVariants.{LockChecked}
use Rattle.slub_core.specs.declared.step.Answer.TheVariants.{Word}
use Rattle.slub_core.specs.declared.step.Op.TheVariants.{Swap}
use Rattle.slub_core.specs.declared.step.Place.TheVariants.{BoardOf}
use Rattle.slub_core.specs.Calls.{call_kind, call_cpu, call_cache, call_object, call_place}
use Rattle.slub_core.specs.Setup.{Setup}
use Rattle.slub_core.specs.Words.{board_base, board_in, word_count}
use Rattle.slub_core.specs.World.{World, update, world_of}
use Rattle.slub_core.specs.Fresh.{IsWorded}
use Rattle.slub_core.specs.Local.{Local, nobody, stays}
use Rattle.slub_core.specs.Free.{board_taken}
use Rattle.slub_core.specs.Replies.{names_object}
use Rattle.slub_core.specs.Steps.{cache_for, first_spot, first_cpu, begun, rested, at_once}
use Rattle.slub_core.specs.Run.{System, idle, turn}
use Rattle.slub_core.specs.Law.{IsCoherentSystem}
use Rattle.slub_core.proofs.Update.{update_other}
use Rattle.slub_core.proofs.StepWords.{world_of-board, board-read}
use Rattle.slub_law_opening.specs.Opening.{Beside, IsBeside, setup_of, opened_words}
use Rattle.slub_law_opening.specs.Rests.{IsBetween, KeepsWord, Rests, named as named_in, times_named, held_on, held_among, times_held as held_times}
use Rattle.slub_law_alone.specs.Alone.{AreWhole, own_pick, alone, worker_at, known_at, known_as, IsAtRest, IsNext}
use Rattle.slub_law_alone.specs.Ready.{with_begun}
use Rattle.slub_law_alone.specs.Boards.{TakesFromBoard, BoardObjectsAreTaken, BoardFreesAreFrees}
use Rattle.slub_law_alone.proofs.Bits.{whole_board}
use Rattle.slub_law_alone.proofs.Changed.{setup_same}
use Rattle.slub_law_alone.proofs.Ended.{alone_keeps}
use Rattle.slub_law_alone.proofs.Knows.{known_freed}
use Rattle.slub_law_alone.proofs.Names.{named_other, named_held}
use Rattle.slub_law_alone.proofs.OnBoard.{on_board_it, board_unheld}
use Rattle.slub_law_alone.proofs.Ready.{same_turn, begun_next}
use Rattle.slub_law_alone.proofs.Start.{IsStart, starts}
use Rattle.slub_law_alone.proofs.Turns.{machine, turn_goes, settle_goes}
use Rattle.slub_law_alone.proofs.Unheld.{begin_board}
use Rattle.slub_law_alone.proofs.Workers.{at_front, once_named}

-- ---- on lists

-- what the number names is held by a worker
module _ (s : State) (object worker : ℕ) (held : Held) (there : held_under s object ≡ Some held) where
  abbrev h : Held
  h = record held { worker = Some worker }

  -- no more is held than was
  same_sum : (f : Option Held → ℕ) → f (Some h) ≡ f (Some held) → sum_by f (set s.board object (Some h)) ≡ sum_by f s.board
  same_sum f same =
      let e = sum_by-set f s.board object (Some h) None (inside-of s.board object held there) in
      let was = ap f there in
      omega (arith, e, was, same)

  shaped : IsShaped s → IsShaped (held_by s object worker held)
  shaped is = record {
    frames = is.frames;
    cpus = is.cpus;
    pool = is.pool;
    pool_frames = is.pool_frames;
    slabs = is.slabs;
    frees = is.frees;
    table = is.table;
    checked = checked-rest s s.pool s.memory (set s.board object (Some h)) s.gone s.live is.checked;
    cpu_lists = is.cpu_lists;
    nodes = is.nodes;
    memory = is.memory;
    live = is.live;
    board = omega (arith, is.board, length-set s.board object (Some h));
    gone = is.gone ∙ sym (length-set s.board object (Some h));
    slab = is.slab;
    aligned = is.aligned;
    held = λ o. elim (cases_eq o object) [
      | inl e ↦ subst (λ (x : Option Held). IfSome x (λ held. MatchOption (get_or s.slabs held.frame None) ⊥ (λ slab. slab.cache ≡ held.cache)))
          (sym (ap (λ o. get_or (set s.board object (Some h)) o None) e ∙ get_or-set_same s.board object (Some h) None (inside-of s.board object held there)))
          (subst (λ (x : Option Held). IfSome x (λ held. MatchOption (get_or s.slabs held.frame None) ⊥ (λ slab. slab.cache ≡ held.cache))) there (is.held object))
      | inr d ↦ subst (λ (x : Option Held). IfSome x (λ held. MatchOption (get_or s.slabs held.frame None) ⊥ (λ slab. slab.cache ≡ held.cache))) (sym (get_or-set_other s.board object o (Some h) None d)) (is.held o)
    ];
    no_zero = elim (cases_eq 0 object) [
      | inl e ↦ absurd (let z = is.no_zero in cc (e, there, z))
      | inr d ↦ get_or-set_other s.board object 0 (Some h) None d ∙ is.no_zero
    ];
    bare = is.bare;
  }

  pub held_coherent : IsCoherent s → IsCoherent (held_by s object worker held)
  held_coherent is = record {
    shaped = shaped is.shaped;
    placed = λ frame index. let e = same_sum (held_here frame index) refl in omega (arith, e, is.placed frame index);
    framed = is.framed;
    listed = record {
      once = is.listed.once;
      live = is.listed.live;
      stocked = is.listed.stocked;
      of_current = is.listed.of_current;
      of_partial = is.listed.of_partial;
      of_node = is.listed.of_node;
      frozen = is.listed.frozen;
    };
    accounted = λ cache. is.accounted cache ∙ sym (same_sum (held_of cache) refl);
    kept = is.kept;
  }

  pub held_beside : (b : Beside) → IsBeside s b → IsBeside (held_by s object worker held) b
  held_beside b is = record {
    step = is.step;
    objects = subst (λ n. (1 ≤ n) × (n ≤ 1048577)) (sym (length-set s.board object (Some h))) is.objects;
    tids = is.tids;
    links = is.links;
    tid = is.tid;
    room = is.room;
    remainder = is.remainder;
    link = is.link;
  }

  pub held_setup : (b : Beside) → setup_of (held_by s object worker held) b ≡ setup_of s b
  held_setup b =
      let w = opened_words s b in
      setup_same s b w [] s.frees s.cpu_lists s.memory (set s.board object (Some h)) s.gone s.live b.tids w.cpu w.slab w.memory [] (length-set s.board object (Some h))

  -- its free leaves what the free of the object on the board leaves
  freed_unchecked : (layout : Layout) (cpu : ℕ) (reply : Reply) (after : State) → FreesUnchecked (held_by s object worker held) layout cpu worker object h reply after → FreesUnchecked s layout cpu worker object held reply after
  freed_unchecked layout cpu reply after (told, is) = (told, is ∙ ap by_board (set-set s.board object (Some h) None))
    where
      by_board : List (Option Held) → State
      by_board board = with_gone (freed (record s { board = board; live = set s.live held.cache (get_or s.live held.cache 0 - 1) }) layout held.cache cpu held.frame held.index) object worker held

  freed_checked : (layout : Layout) (slabs : CheckedState) (reply : Reply) (after : State) → FreesChecked (held_by s object worker held) layout slabs worker object h reply after → FreesChecked s layout slabs worker object held reply after
  freed_checked layout slabs reply after (answer, left, takes, is) = (answer, left, takes, by answer is)
    where
      by_board : Option SlabRun → CheckedState → List (Option Held) → State
      by_board run last board = with_gone (discarded_where (with_checked (record s { board = board; live = set s.live held.cache (get_or s.live held.cache 0 - 1) }) held.cache last) held.frame run) object worker held

      by : (answer : Result (Unit {0}) Damage) → IsFreedOrKept (held_by s object worker held) layout left worker object h answer reply after → IsFreedOrKept s layout left worker object held answer reply after
      by (Err damage) (told, is) = (told, is ∙ ap (λ board. record s { board = board }) (set-set s.board object (Some h) (Some h)))
      by (Ok done) (told, run, last, empty, is) = (told, run, last, empty, is ∙ ap (by_board run last) (set-set s.board object (Some h) None))

  freed_held : (cpu : ℕ) (reply : Reply) (after : State) → FreesHeld (held_by s object worker held) cpu worker object h reply after → FreesHeld s cpu worker object held reply after
  freed_held cpu reply after = by_cache (cache_of s held.cache) (checked_of s held.cache)
    where
      by_cache : (o : Option Cache) (c : Option CheckedState)
          → MatchOption o ⊥ (λ live. MatchOption c (FreesUnchecked (held_by s object worker held) live.layout cpu worker object h reply after) (λ slabs. FreesChecked (held_by s object worker held) live.layout slabs worker object h reply after))
          → MatchOption o ⊥ (λ live. MatchOption c (FreesUnchecked s live.layout cpu worker object held reply after) (λ slabs. FreesChecked s live.layout slabs worker object held reply after))
      by_cache None c is = is
      by_cache (Some live) None is = freed_unchecked live.layout cpu reply after is
      by_cache (Some live) (Some slabs) is = freed_checked live.layout slabs reply after is

  pub freed_from_board : held.worker ≡ None → (cpu : ℕ) (reply : Reply) (after : State) → Frees (held_by s object worker held) cpu worker object reply after → Frees s cpu worker object reply after
  freed_from_board nobodys cpu reply after frees =
      subst (λ o. MatchOption o ((reply ≡ NotHeld) × (after ≡ s)) (λ (held : Held). MatchBool (is_freeable worker held.worker) (FreesHeld s cpu worker object held reply after) ((reply ≡ NotHeld) × (after ≡ s)))) (sym there)
      (subst (λ o. MatchBool (is_freeable worker o) (FreesHeld s cpu worker object held reply after) ((reply ≡ NotHeld) × (after ≡ s))) (sym nobodys) (freed_held cpu reply after held_frees))
    where
      none : Type 0
      none = (reply ≡ NotHeld) × (after ≡ held_by s object worker held)

      held_frees : FreesHeld (held_by s object worker held) cpu worker object h reply after
      held_frees =
          subst (λ z. MatchBool z (FreesHeld (held_by s object worker held) cpu worker object h reply after) ((reply ≡ NotHeld) × (after ≡ held_by s object worker held))) (eq-eqb worker worker refl)
          (subst (λ o. MatchOption o ((reply ≡ NotHeld) × (after ≡ held_by s object worker held)) (λ (held_now : Held). MatchBool (is_freeable worker held_now.worker) (FreesHeld (held_by s object worker held) cpu worker object held_now reply after) ((reply ≡ NotHeld) × (after ≡ held_by s object worker held))))
          (get_or-set_same s.board object (Some h) None (inside-of s.board object held there)) frees)

-- ---- the turn

-- the first spot of the free of a held object, by whether its cache is checked
abbrev way : Bool → Spot
way checked = cond checked (InChecked LockChecked Free) (InFree LoadOwn)

first_free : (checked : Bool) → first_spot Free checked true ≡ way checked
first_free true = refl
first_free false = refl

module _ (opening : World) (s : State) (b : Beside) (system : System) (x : ℕ) (call : Call) (rest : IsAtRest opening s b system) (next : IsNext system x call) (is : call_kind call ≡ Free) (dw : BoardWord)
    (board : (world_of (setup_of s b) system.value system.words).board (known_at (worker_at system x) call).object ≡ Some dw) (unheld : (known_at (worker_at system x) call).held ≡ false) where
  abbrev m : Setup
  m = setup_of s b

  abbrev w : World
  w = world_of m system.value system.words

  abbrev l : Local
  l = worker_at system x

  abbrev o : Known
  o = known_at l call

  abbrev held : Held
  held = held_on dw

  begin : IsStart opening s b system x call
  begin = starts opening s b system x call rest next

  names : names_object (call_kind call) ≡ true
  names = ap names_object is

  resting : Rests s b w system.locals
  resting = rest.rests.rests

  object : o.object ≡ call_object call
  object = begin.may.known names

  place : call_place call < length l.known
  place = begin.may.place names

  some_number : 1 ≤ o.object
  some_number = let some = (begin.may.object names).0 in omega (arith, object, some)

  on_board : call_object call < length s.board
  on_board = (begin.may.object names).1

  below_number : o.object < m.objects
  below_number = omega (arith, object, on_board)

  named : held_under s (call_object call) ≡ Some held
  named = resting.named (call_object call) ∙ ap (λ d. option_or (option_map held_on d) (held_among system.locals (call_object call))) (ap w.board (sym object) ∙ board)

  abbrev asking : Local
  asking = record l { spot = InFree TakeBoard; cache = o.cache; cpu = call_cpu call; place = call_place call; fast = false; turn = 0; count = 0 }

  abbrev got : Known
  got = record { object = o.object; frame = dw.frame; index = dw.index; cache = dw.cache; held = true }

  -- the worker that holds the object, at this spot
  abbrev holding : Spot → Local
  holding spot = record l { spot = spot; cache = dw.cache; cpu = call_cpu call; place = call_place call; fast = false; turn = 0; count = 0; known = set l.known (call_place call) got }

  abbrev asked : Local
  asked = holding (way (m.checks dw.cache))

  abbrev holds : Local
  holds = holding Between

  here_is : known_at holds call ≡ got
  here_is = get_or-set_same l.known (call_place call) got nobody place

  waits : (c : Bool) → (at_once m false system.value (holding (way c)) (way c) ≡ stays system.value (holding (way c))) × (rested m (holding (way c)) ≡ holding (way c)) × (begun m false (holding (way c)) ≡ holding (way c))
  waits true = (refl, refl, refl)
  waits false = (refl, refl, refl)

  begins : begun m false holds ≡ asked
  begins = begun_next m holds call next.calls refl next.todo ∙ ap (λ kind. by kind (known_at holds call)) is ∙ ap (by Free) here_is ∙ ap holding (first_free (m.checks dw.cache))
    where
      by : CallKind → Known → Local
      by kind k =
          let cache = cache_for m k (call_cache call) kind in
          record holds { spot = first_spot kind (m.checks cache) k.held; cache = cache; cpu = first_cpu kind (call_cpu call); place = call_place call; fast = false; turn = 0; count = 0 }

  abbrev y : ℕ
  y = get_or system.words (board_base m + o.object) 0

  abbrev words : List ℕ
  words = set system.words (board_base m + o.object) 0

  takes_it : turn m system (own_pick x) ≡ machine words system.value (set system.locals x asked)
  takes_it = ap (λ ls. turn m (machine system.words system.value ls) (own_pick x)) (sym (set-get_or system.locals x idle))
      ∙ turn_goes m system.words words system.value system.locals x l asking asked (record { place = BoardOf o.object; op = Swap 0 }) (Word y) next.there
      (begin_board m l call next.calls begin.between.between next.todo is unheld) refl refl refl
      (settle_goes m system.value asking asked (Word y) (ap (board_taken m asking) (sym (board-read m system.value system.words o.object some_number below_number) ∙ board)) (waits (m.checks dw.cache)).0 (waits (m.checks dw.cache)).1)

  abbrev took : System
  took = machine words system.value (set system.locals x asked)

  abbrev taken : System
  taken = machine words system.value (set system.locals x holds)

  coherent : IsCoherentSystem m opening took
  coherent = subst (IsCoherentSystem m opening) takes_it (alone_keeps m opening x 1 system rest.coherent)

  begun_is : with_begun m x taken ≡ took
  begun_is = ap (λ l. machine words system.value (set (set system.locals x holds) x (begun m false l))) (get_or-set_same system.locals x holds idle next.there)
      ∙ ap (λ l. machine words system.value (set (set system.locals x holds) x l)) begins ∙ ap (machine words system.value) (set-set system.locals x holds asked)

  -- ---- where it leads

  abbrev u : World
  u = record w { board = update w.board o.object None }

  says : world_of m system.value words ≡ u
  unfolding board_in
  says = world_of-board m system.value system.words o.object 0 begin.table some_number below_number

  abbrev after : State
  after = held_by s (call_object call) l.worker held

  abbrev holder : Held
  holder = record held { worker = Some l.worker }

  once : (j : ℕ) → times_named u (set system.locals x holds) j ≤ 1
  once j =
      let a = sum_by-set (held_times j) system.locals x holds idle next.there in
      let e = sum_by-set (held_times j) system.locals x asked idle next.there in
      let was = subst (λ w. times_named w (set system.locals x asked) j ≤ 1) says (once_named m opening took coherent j) in
      omega (arith, a, e, was)

  worker_rests : IsBetween w.setup holds
  worker_rests = record {
    between = refl;
    hands = begin.between.hands;
    string = begin.between.string;
    run = begin.between.run;
    packed = record { cpu_word = begin.between.packed.cpu_word; slab_word = begin.between.packed.slab_word; list_word = begin.between.packed.list_word; next = begin.between.packed.next };
    cpu = subst (λ (m : Setup). call_cpu call < m.cpus) (sym resting.setup) begin.may.cpu;
    numbers = All-set (λ (k : Known). k.object < w.setup.objects) l.known (call_place call) got (subst (λ (m : Setup). o.object < m.objects) (sym resting.setup) below_number) begin.between.numbers;
    some = All-set (λ (k : Known). k.held ≡ true → 1 ≤ k.object) l.known (call_place call) got (λ e. some_number) begin.between.some;
  }

  ends : Rests after b u (set system.locals x holds)
  ends = record {
    setup = resting.setup ∙ sym (held_setup s (call_object call) l.worker held named b);
    words = let front = at_front m opening took x (omega (arith, next.there, length-set system.locals x asked)) coherent in subst IsWorded says front.stands.fresh.worded;
    workers = All-set (IsBetween w.setup) system.locals x holds worker_rests resting.workers;
    locks = resting.locks;
    values = resting.values;
    nodes = resting.nodes;
    cpu = λ k below. let c = resting.cpu k below in record { tid = c.tid; current = c.current; free = c.free; count = c.count; partial = c.partial };
    slab = resting.slab;
    unchecked = resting.unchecked;
    unslabbed = resting.unslabbed;
    own = λ f. let r = resting.own f in record { chain = r.chain; in_use = r.in_use };
    listed = resting.listed;
    named = names_are;
    once = once;
    no_zero = update_other w.board o.object None 0 (λ e. absurd (omega (arith, e, some_number))) ∙ resting.no_zero;
    contents = words_are;
  }
    where
      names_are : (j : ℕ) → get_or (set s.board (call_object call) (Some holder)) j None ≡ named_in u (set system.locals x holds) j
      names_are j = elim (cases_eq j (call_object call)) [
        | inl e ↦ ap (λ o. get_or (set s.board (call_object call) (Some holder)) o None) e ∙ get_or-set_same s.board (call_object call) (Some holder) None on_board
            ∙ sym (ap (named_in u (set system.locals x holds)) (e ∙ sym object) ∙ named_held u system.locals x (call_place call) holds l.known got next.there place refl refl (once o.object))
        | inr away ↦ get_or-set_other s.board (call_object call) j (Some holder) None away ∙ resting.named j ∙ sym (named_other w system.locals x (call_place call) holds got refl refl refl j (λ e. away (sym e ∙ object)))
            ∙ ap (λ d. option_or (option_map held_on d) (held_among (set system.locals x holds) j)) (sym (update_other w.board o.object None j (λ e. away (e ∙ object))))
      ]

      injected : {x y : Held} → Some x ≡ Some y → x ≡ y
      injected e = cc

      words_are : (j word : ℕ) (h : Held) → get_or (set s.board (call_object call) (Some holder)) j None ≡ Some h → KeepsWord after u h word
      words_are j word h there = elim (cases_eq j (call_object call)) [
        | inl e ↦ subst (λ h. KeepsWord after u h word) (injected (sym (ap (λ o. get_or (set s.board (call_object call) (Some holder)) o None) e ∙ get_or-set_same s.board (call_object call) (Some holder) None on_board) ∙ there)) (resting.contents (call_object call) word held named)
        | inr away ↦ resting.contents j word h (sym (get_or-set_other s.board (call_object call) j (Some holder) None away) ∙ there)
      ]

  same : setup_of after b ≡ m
  same = held_setup s (call_object call) l.worker held named b

  is_taken : TakesFromBoard opening s b system x call held
  is_taken = record {
    taken = taken;
    ready = record {
      lists = held_coherent s (call_object call) l.worker held named rest.lists;
      beside = held_beside s (call_object call) l.worker held named b rest.beside;
      rests = record {
        count = length-set system.words (board_base m + o.object) 0 ∙ rest.rests.count ∙ ap word_count (sym same);
        rests = subst (λ m. Rests after b (world_of m system.value words) (set system.locals x holds)) (sym same) (subst (λ w. Rests after b w (set system.locals x holds)) (sym says) ends);
      };
      whole = subst (λ m. AreWhole m words) (sym same) (whole_board m system.words o.object 0 refl some_number rest.whole);
      coherent = subst (λ m. IsCoherentSystem m opening (with_begun m x taken)) (sym same) (subst (IsCoherentSystem m opening) (sym begun_is) coherent);
    };
    next = record { there = omega (arith, next.there, length-set system.locals x holds); calls = next.calls; todo = ap (λ (l : Local). l.todo) mine ∙ next.todo };
    holds = ap (λ l. known_at l call) mine ∙ here_is ∙ (λ i. record { object = object i; frame = dw.frame; index = dw.index; cache = dw.cache; held = true });
    known = ap (λ (l : Local). l.known) mine ∙ (λ i. set l.known (call_place call) (record { object = object i; frame = dw.frame; index = dw.index; cache = dw.cache; held = true }));
    number = ap (λ (l : Local). l.worker) mine;
    done = ap (λ (l : Local). l.done) mine;
    todo = ap (λ (l : Local). l.todo) mine;
    others = ap (set system.locals x) (sym mine);
    later = λ turns. ap (λ t. alone m x turns (turn m t (own_pick x))) takes_it ∙ ap (alone m x turns) (same_turn m words system.value system.locals x asked holds next.there ((waits (m.checks dw.cache)).2 ∙ sym begins));
  }
    where
      mine : worker_at taken x ≡ holds
      mine = get_or-set_same system.locals x holds idle next.there

pub objects_taken : BoardObjectsAreTaken
objects_taken opening s b system x call held rest next is named nobodys =
    let w = world_of (setup_of s b) system.value system.words in
    let begin = starts opening s b system x call rest next in
    let object = begin.may.known (ap names_object is) in
    let on = on_board_it w system.locals (call_object call) held (sym (rest.rests.rests.named (call_object call)) ∙ named) nobodys in
    let unheld = board_unheld opening s b system x call held rest next is named nobodys in
    subst (λ h. TakesFromBoard opening s b system x call h) on.is (is_taken opening s b system x call rest next is on.word (ap w.board object ∙ on.there) unheld)

pub board_frees : BoardFreesAreFrees
board_frees opening s b system x call held rest next is named nobodys takes turns d frees =
    let m = setup_of s b in
    let l = worker_at system x in
    let end = alone m x (suc (suc turns)) system in
    let same = held_setup s (call_object call) l.worker held named b in
    let r = frees.replies in
    let ran : alone (setup_of (held_by s (call_object call) l.worker held) b) x (suc turns) takes.taken ≡ end = ap (λ m. alone m x (suc turns) takes.taken) same ∙ sym (takes.later turns) in
    record {
      reply = frees.reply;
      after = frees.after;
      frees = freed_from_board s (call_object call) l.worker held named nobodys (call_cpu call) frees.reply frees.after (subst (λ worker. Frees (held_by s (call_object call) l.worker held) (call_cpu call) worker (call_object call) frees.reply frees.after) takes.number frees.frees);
      replies = record {
        setup = r.setup ∙ same;
        rest = subst (IsAtRest opening frees.after d) ran r.rest;
        replied = record {
          told = r.replied.told;
          between = r.replied.between;
          number = r.replied.number ∙ takes.number;
          done = r.replied.done ∙ ap by_done takes.done;
          todo = r.replied.todo ∙ ap (drop 1) takes.todo;
          rested = sym (ap (λ (t : System). worker_at t x) ran) ∙ r.replied.rested ∙ ap (λ m. rested m r.replied.told) same;
        };
        others = sym (ap (λ (t : System). t.locals) ran) ∙ r.others ∙ ap (λ ls. set ls x (worker_at (alone (setup_of (held_by s (call_object call) l.worker held) b) x (suc turns) takes.taken) x)) takes.others
            ∙ set-set system.locals x (worker_at takes.taken x) (worker_at (alone (setup_of (held_by s (call_object call) l.worker held) b) x (suc turns) takes.taken) x) ∙ ap (λ (t : System). set system.locals x (worker_at t x)) ran;
      };
      known = sym (ap (λ (t : System). (worker_at t x).known) ran) ∙ frees.known ∙ known_twice;
    }
  where
    by_done : List Answered → List Answered
    by_done done = record { call = call; reply = frees.reply } ∷ done

    -- the object that it takes first
    known_twice : known_freed (worker_at takes.taken x).known (call_place call) (call_object call) (worker_at takes.taken x).worker (get_or (set s.board (call_object call) (Some (record held { worker = Some (worker_at system x).worker }))) (call_object call) None) (held_under frees.after (call_object call))
        ≡ known_freed (worker_at system x).known (call_place call) (call_object call) (worker_at system x).worker (held_under s (call_object call)) (held_under frees.after (call_object call))
    known_twice =
        let l = worker_at system x in
        let now = held_under frees.after (call_object call) in
        let taken = set l.known (call_place call) (known_as (call_object call) held) in
        ap (λ ks. known_freed ks (call_place call) (call_object call) (worker_at takes.taken x).worker (get_or (set s.board (call_object call) (Some (record held { worker = Some l.worker }))) (call_object call) None) now) takes.known
        ∙ ap (λ y. known_freed taken (call_place call) (call_object call) y (get_or (set s.board (call_object call) (Some (record held { worker = Some l.worker }))) (call_object call) None) now) takes.number
        ∙ ap (λ h. known_freed taken (call_place call) (call_object call) l.worker h now) (get_or-set_same s.board (call_object call) (Some (record held { worker = Some l.worker })) None (inside-of s.board (call_object call) held named))
        ∙ ap (λ z. cond {A = List Known} z (set taken (call_place call) (record (known_as (call_object call) held) { held = is_some now })) taken) (eq-eqb l.worker l.worker refl)
        ∙ set-set l.known (call_place call) (known_as (call_object call) held) (record (known_as (call_object call) held) { held = is_some now })
        ∙ sym (ap (λ h. known_freed l.known (call_place call) (call_object call) l.worker h now) named ∙ ap (λ h. cond {A = List Known} (is_freeable l.worker h) (set l.known (call_place call) (record (known_as (call_object call) held) { held = is_some now })) l.known) nobodys)
