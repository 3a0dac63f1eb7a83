-- A free of an object of a full slab, where the CPU's partial list is full: the list is moved to the node list, and the slab takes its place.
use Rattle.std.proofs.Common.{◌≡◌, ℕ, suc, ◌+◌, ◌^◌, ◌<◌, eqb, cond, true, false, List, [], ◌∷◌, length, get_or, set, Some, None, inl, inr, refl, ap, sym, ◌∙◌, subst, arith}
use Rattle.std.specs.Prelude.{is_some, nat_le}
use Rattle.std.proofs.lemmas.Bool.{cases_eq, cond-false, eq-eqb, le-leb}
use Rattle.std.proofs.lemmas.List.{get_or-set_same, get_or-set_other, set-get_or, set-set, length-set}
use Rattle.std.proofs.lemmas.List.Elements.{All-get_or}
use Rattle.slub_common.specs.Times.{times}
use Rattle.slub_trace.specs.declared.reply.Reply.TheVariants.{Freed}
use Rattle.slub_cache_create.specs.declared.caches.Cache.{Cache}
use Rattle.slub_object_layout.specs.declared.layout.Layout.{Layout}
use Rattle.slub_object_layout.specs.Layout.{address_of}
use Rattle.slub_words.specs.declared.slab.SlabWord.{SlabWord}
use Rattle.slub_cpu_partial.specs.declared.words.ListWord.{ListWord}
use Rattle.slub_cpu_partial.specs.Strings.{list_bits}
use Rattle.slub_lists.specs.declared.lists.CpuLists.{CpuLists}
use Rattle.slub_lists.specs.State.{State}
use Rattle.slub_lists.specs.Alloc.{cache_of, cpu_place, lists_of, own_free}
use Rattle.slub_lists.specs.Coherent.{IsAccounted}
use Rattle.slub_lists.specs.Free.{is_frozen, freed_here, freed_there, moved_all, put_partial, settled, with_freed, with_gone, with_partial, with_taken}
use Rattle.slub_lists.specs.Freeing.{Frees}
use Rattle.slub_lists.specs.Places.{layout_at}
use Rattle.slub_lists.proofs.Taking.{taken-accounted}
use Rattle.slub_core.specs.declared.call.Call.{Call}
use Rattle.slub_core.specs.declared.local.Known.{Known}
use Rattle.slub_lists.specs.declared.lists.Held.{Held}
use Rattle.slub_trace.specs.declared.reply.Reply.{Reply}
use Rattle.slub_law_alone.proofs.Ready.{IsReadyStart, along, ends_ready}
use Rattle.slub_law_alone.proofs.Start.{HasObject}
use Rattle.slub_core.specs.declared.spot.Spot.TheVariants.{Between, InPutOnList}
use Rattle.slub_core.specs.declared.spot.MoveSet.TheVariants.{ForFree}
use Rattle.slub_core.specs.declared.spot.PutOnList.TheVariants.{OfFree}
use Rattle.slub_core.specs.declared.spot.PutOnListSpot.TheVariants.{LoadList, LinkString, PushString}
use Rattle.slub_core.specs.declared.step.Answer.{Answer}
use Rattle.slub_core.specs.declared.step.Answer.TheVariants.{Word, Done, Won, Lost}
use Rattle.slub_core.specs.declared.step.Op.TheVariants.{Load, Store, Exchange}
use Rattle.slub_core.specs.declared.step.Place.TheVariants.{ListOf, LinkOf, LockOf}
use Rattle.slub_core.specs.Calls.{call_cpu, call_object, call_place}
use Rattle.slub_core.specs.Setup.{Setup}
use Rattle.slub_core.specs.Words.{list_base, link_base, list_in}
use Rattle.slub_core.specs.World.{World, LockValue, update, set_list, set_link, world_of}
use Rattle.slub_core.specs.Alloc.{single_string}
use Rattle.slub_core.specs.Fresh.{IsWorded}
use Rattle.slub_core.specs.Local.{Local, Turn, goes}
use Rattle.slub_core.specs.Law.{IsCoherentSystem}
use Rattle.slub_core.specs.PutOnList.{way_of_front}
use Rattle.slub_core.specs.Run.{System, idle, turn}
use Rattle.slub_core.specs.Steps.{rested}
use Rattle.slub_core.proofs.Packed.{IsListFit, list_in-bits}
use Rattle.slub_core.proofs.Update.{each_updated}
use Rattle.slub_core.proofs.StepWords.{IsTable, list-read, setup_of as setup_is, world_of-link, world_of-list}
use Rattle.slub_law_opening.specs.Opening.{Beside, cpu_at}
use Rattle.slub_law_opening.specs.Rests.{IsBetween, IsCpuOf, Rests}
use Rattle.slub_law_opening.specs.Closing.{HasLengths}
use Rattle.slub_law_alone.specs.Alone.{AreWhole, own_pick, alone, worker_at, known_at, IsNext}
use Rattle.slub_law_alone.specs.Ready.{IsReady}
use Rattle.slub_law_alone.specs.Laws.{IsFree, FreesAlone}
use Rattle.slub_law_alone.specs.Sets.{FullListsAreMoved, HasNoRoom}
use Rattle.slub_law_alone.proofs.Bits.{whole_link, whole_list_word, whole_lock}
use Rattle.slub_law_alone.proofs.CpuWords.{cpu_changed, cpu_other}
use Rattle.slub_law_alone.proofs.Ended.{replies_of}
use Rattle.slub_law_alone.proofs.Knows.{known_ends, knows_freed}
use Rattle.slub_law_alone.proofs.FastFree.{frees_held, layout_of}
use Rattle.slub_law_alone.proofs.Freed as put_back
use Rattle.slub_law_alone.proofs.InPlace.{not_current}
use Rattle.slub_law_alone.proofs.Movable.{KeepsRest, gone_moved, moved_keeps}
use Rattle.slub_law_alone.proofs.MovedLists.{rests_pushed}
use Rattle.slub_law_alone.proofs.MovedStart as start
use Rattle.slub_law_alone.proofs.MoveLoop.{LeadsTo, all_moved, told_of}
use Rattle.slub_law_alone.proofs.UnderLock.{RestsUnder, given_back, given_says, table_set, then_turns}
use Rattle.slub_law_alone.proofs.MoveTurns.{before}
use Rattle.slub_law_alone.proofs.Resting.{rests_with}
use Rattle.slub_law_alone.proofs.Turns.{machine, turn_goes, settle_goes, settle_rests, then_turn}
use Rattle.slub_law_alone.proofs.Workers.{IsWithCalls, rested_calls}

module _ (opening : World) (s : State) (b : Beside) (system : System) (x : ℕ) (call : Call) (rest : IsReady opening s b system x) (next : IsNext system x call) (is : IsFree s (worker_at system x) call)
    (unfrozen : is_frozen s (known_at (worker_at system x) call).frame ≡ false) (full : own_free s (known_at (worker_at system x) call).frame ≡ []) (long : HasNoRoom s (known_at (worker_at system x) call).cache (call_cpu call))
    (e : ℕ) (es : List ℕ) (front : (lists_of s (known_at (worker_at system x) call).cache (call_cpu call)).partial ≡ e ∷ es) where
  abbrev m : Setup
  m = start.m opening s b system x call rest next is unfrozen full long e es front

  abbrev l : Local
  l = start.l opening s b system x call rest next is unfrozen full long e es front

  abbrev o : Known
  o = start.o opening s b system x call rest next is unfrozen full long e es front

  abbrev f : ℕ
  f = start.f opening s b system x call rest next is unfrozen full long e es front

  abbrev n : ℕ
  n = start.n opening s b system x call rest next is unfrozen full long e es front

  abbrev held : Held
  held = start.held opening s b system x call rest next is unfrozen full long e es front

  abbrev z : SlabWord
  z = start.z opening s b system x call rest next is unfrozen full long e es front

  abbrev g : ListWord
  g = start.g opening s b system x call rest next is unfrozen full long e es front

  abbrev fs : List ℕ
  fs = start.fs opening s b system x call rest next is unfrozen full long e es front

  abbrev j : ℕ
  j = start.j opening s b system x call rest next is unfrozen full long e es front

  abbrev takes : Local
  takes = start.takes opening s b system x call rest next is unfrozen full long e es front

  abbrev moves : Local
  moves = start.moves opening s b system x call rest next is unfrozen full long e es front

  abbrev none : ListWord
  none = start.none opening s b system x call rest next is unfrozen full long e es front

  abbrev words4 : List ℕ
  words4 = start.words4 opening s b system x call rest next is unfrozen full long e es front

  abbrev ends : List Local
  ends = start.ends opening s b system x call rest next is unfrozen full long e es front

  abbrev bare : State
  bare = start.bare opening s b system x call rest next is unfrozen full long e es front

  abbrev reply : Reply
  reply = start.reply opening s b system x call rest next is unfrozen full long e es front

  begin : IsReadyStart opening s b system x call
  begin = start.begin opening s b system x call rest next is unfrozen full long e es front

  has : HasObject s system x call
  has = start.has opening s b system x call rest next is unfrozen full long e es front

  small : n < 512
  small = start.small opening s b system x call rest next is unfrozen full long e es front

  within : (0 < f) × (f < s.frames)
  within = start.within opening s b system x call rest next is unfrozen full long e es front

  j_small : j < 33
  j_small = start.j_small opening s b system x call rest next is unfrozen full long e es front

  lists_inside : cpu_place s o.cache (call_cpu call) < length s.cpu_lists
  lists_inside = start.lists_inside opening s b system x call rest next is unfrozen full long e es front

  abbrev quiet : Local
  quiet = put_back.quiet opening s b system x call rest next is (start.away opening s b system x call rest next is unfrozen full long e es front)

  -- ---- the list is moved

  abbrev min : ℕ
  min = (layout_at s o.cache).min_partial

  loop : LeadsTo m b system.locals ends x j words4 system.value moves (moved_all bare min o.cache fs) (λ z c. before m system.locals x takes ForFree next.there z c []) (0 + told_of 0 min o.cache bare fs)
  loop = all_moved m b system.locals ends x takes ForFree next.there has.inside has.lives (ap is_some is.unchecked) fs bare words4 system.value (start.under opening s b system x call rest next is unfrozen full long e es front) (start.movable opening s b system x call rest next is unfrozen full long e es front) g.front (start.linked_up opening s b system x call rest next is unfrozen full long e es front) z 0 (start.fit opening s b system x call rest next is unfrozen full long e es front)

  keeps : KeepsRest bare (moved_all bare min o.cache fs)
  keeps = moved_keeps bare min o.cache fs

  -- the lists with the set moved
  abbrev left : State
  left = record bare { pool = keeps.pool; slabs = keeps.slabs; frees = keeps.frees; nodes = keeps.nodes }

  under : RestsUnder m b ends j left loop.after loop.guards
  under = subst (λ t. RestsUnder m b ends j t loop.after loop.guards) keeps.is loop.under

  -- the world with the lock given back
  abbrev free : World
  free = given_back m j loop.after loop.guards

  lists_are : cpu_at left n ≡ start.emptied opening s b system x call rest next is unfrozen full long e es front
  lists_are = cpu_changed s o.cache (call_cpu call) (start.emptied opening s b system x call rest next is unfrozen full long e es front) begin.may.cpu begin.few lists_inside

  list_is : free.list n ≡ none
  list_is = let it = subst (IsCpuOf b free n) lists_are (under.rests.cpu n small) in λ i. record { front = it.partial i; count = it.count i }

  -- ---- the worker, turn by turn

  abbrev gives : Local
  gives = before m system.locals x takes ForFree next.there loop.word loop.told []

  abbrev counted : Local
  counted = record gives { hands = l.hands; string = Some (single_string f); spot = InPutOnList LoadList OfFree }

  abbrev again : Local
  again = record counted { list_word = none; spot = InPutOnList LinkString OfFree }

  abbrev stored : Local
  stored = record again { string = Some (record (single_string f) { link = Some 0 }); spot = InPutOnList PushString OfFree }

  abbrev told : Local
  told = record stored { string = None; put = l.put + 0; spot = Between }

  abbrev longer : ListWord
  longer = record { front = f; count = 1 }

  abbrev vals : ℕ → LockValue
  vals = loop.guards

  abbrev words5 : List ℕ
  words5 = set loop.after j 0

  abbrev words6 : List ℕ
  words6 = set words5 (link_base m + f) 0

  abbrev words7 : List ℕ
  words7 = set words6 (list_base + n) (list_bits longer)

  table5 : IsTable m words5
  table5 = table_set m loop.after j 0 under.table

  table6 : IsTable m words6
  table6 = table_set m words5 (link_base m + f) 0 table5

  whole5 : AreWhole m words5
  whole5 = whole_lock m loop.after j 0 j_small under.whole

  free_says : world_of m vals words5 ≡ free
  free_says = given_says m j loop.after vals j_small under.table

  list_reads : list_in (get_or words5 (list_base + n) 0) ≡ none
  list_reads = sym (list-read m vals words5 n small) ∙ ap (λ (w : World). w.list n) free_says ∙ list_is

  list_hit : eqb (get_or words6 (list_base + n) 0) (list_bits none) ≡ true
  list_hit = eq-eqb (get_or words6 (list_base + n) 0) (list_bits none) (get_or-set_other words5 (link_base m + f) (list_base + n) 0 0 (λ q. absurd (omega (arith, q, small))) ∙ sym (whole5.list n small) ∙ ap list_bits list_reads)

  turn1 : turn m (machine loop.after vals (set system.locals x gives)) (own_pick x) ≡ machine words5 vals (set system.locals x counted)
  turn1 = turn_goes m loop.after words5 vals system.locals x gives gives counted (record { place = LockOf j; op = Store 0 }) Done next.there refl refl refl refl (settle_goes m vals gives counted Done refl refl refl)

  turn2 : turn m (machine words5 vals (set system.locals x counted)) (own_pick x) ≡ machine words5 vals (set system.locals x again)
  turn2 = turn_goes m words5 words5 vals system.locals x counted counted again (record { place = ListOf n; op = Load }) (Word (get_or words5 (list_base + n) 0)) next.there refl refl (set-get_or words5 (list_base + n) 0) refl
      (settle_goes m vals counted again (Word (get_or words5 (list_base + n) 0)) (ap by_word list_reads) refl refl)
    where
      by_word : ListWord → Turn
      by_word y = goes (record counted { list_word = y; spot = way_of_front (single_string f) y.front OfFree })

  turn3 : turn m (machine words5 vals (set system.locals x again)) (own_pick x) ≡ machine words6 vals (set system.locals x stored)
  turn3 = turn_goes m words5 words6 vals system.locals x again again stored (record { place = LinkOf f; op = Store 0 }) Done next.there refl refl refl refl (settle_goes m vals again stored Done refl refl refl)

  turn4 : turn m (machine words6 vals (set system.locals x stored)) (own_pick x) ≡ machine words7 vals (set system.locals x (rested m told))
  turn4 = turn_goes m words6 words7 vals system.locals x stored stored (rested m told) (record { place = ListOf n; op = Exchange (list_bits none) (list_bits longer) }) Won next.there refl refl
      (ap (λ h. set words6 (list_base + n) (cond {A = ℕ} h (list_bits longer) (get_or words6 (list_base + n) 0))) list_hit) (ap (λ h. cond {A = Answer} h Won (Lost (get_or words6 (list_base + n) 0))) list_hit)
      (settle_rests m vals stored told Won refl refl)

  abbrev end : System
  end = machine words7 vals (set system.locals x (rested m told))

  abbrev turns : ℕ
  turns = 6 + (loop.turns + 4)

  whole : alone m x (suc turns) system ≡ end
  whole = then_turns m x 7 (loop.turns + 4) (suc turns) system (machine words4 system.value (set system.locals x moves)) end (omega arith) (start.first_turns opening s b system x call rest next is unfrozen full long e es front)
      (then_turns m x loop.turns 4 (loop.turns + 4) (machine words4 system.value (set system.locals x moves)) (machine loop.after vals (set system.locals x gives)) end refl loop.ran
      (then_turn m x 3 (machine loop.after vals (set system.locals x gives)) (machine words5 vals (set system.locals x counted)) end turn1
      (then_turn m x 2 (machine words5 vals (set system.locals x counted)) (machine words5 vals (set system.locals x again)) end turn2
      (then_turn m x 1 (machine words5 vals (set system.locals x again)) (machine words6 vals (set system.locals x stored)) end turn3
      (then_turn m x 0 (machine words6 vals (set system.locals x stored)) end end turn4 refl)))))

  -- ---- the words that they leave

  list_fit : IsListFit longer
  list_fit = (let many = rest.lists.shaped.frames in omega (arith, many.1, within.1), omega arith)

  abbrev pushed : World
  pushed = record free { list = update free.list n longer; link = update free.link f 0 }

  says : world_of m vals words7 ≡ pushed
  says = world_of-list m vals words6 n (list_bits longer) table6 small
      ∙ ap (λ w. set_list w n (list_in (list_bits longer))) (world_of-link m vals words5 f 0 table5 within.1 ∙ ap (λ w. set_link w f 0) free_says)
      ∙ ap (set_list (set_link free f 0) n) (list_in-bits longer list_fit)

  are_whole : AreWhole m words7
  are_whole = whole_list_word m words6 n longer refl small (omega (arith, table6.length, small)) list_fit (whole_link m words5 f 0 refl begin.table.objects whole5)

  ended : IsCoherentSystem m opening end
  ended = subst (IsCoherentSystem m opening) whole (along opening s b system x next.there rest turns)

  worded : IsWorded pushed
  worded = record {
    cpu = under.rests.words.cpu;
    slab = under.rests.words.slab;
    list = each_updated free.list n longer (λ _ (d : ListWord). IsListFit d) list_fit (λ i d. under.rests.words.list i);
    link = each_updated free.link f 0 (λ _ (d : ℕ). d < 2 ^ 16) (omega arith) (λ i d. under.rests.words.link i);
    room = under.rests.words.room;
    remainder = under.rests.words.remainder;
  }

  -- ---- the lists that they leave

  abbrev after : State
  after = with_partial left o.cache (call_cpu call) (f ∷ (lists_of left o.cache (call_cpu call)).partial)

  left_inside : cpu_place s o.cache (call_cpu call) < length left.cpu_lists
  left_inside = let same = length-set s.cpu_lists (cpu_place s o.cache (call_cpu call)) (start.emptied opening s b system x call rest next is unfrozen full long e es front) in omega (arith, same, lists_inside)

  off_lists : (i : ℕ) → times f (cpu_at left i).partial ≡ 0
  off_lists i = elim (cases_eq i n) [
    | inl q ↦ ap (λ (y : CpuLists). times f y.partial) (ap (cpu_at left) q ∙ lists_are)
    | inr d ↦ ap (λ (y : CpuLists). times f y.partial) (cpu_other s o.cache (call_cpu call) (start.emptied opening s b system x call rest next is unfrozen full long e es front) i begin.may.cpu begin.few d) ∙ start.off_lists opening s b system x call rest next is unfrozen full long e es front i
  ]

  quiet_rests : Rests after b pushed ends
  quiet_rests = rests_pushed left b free ends o.cache (call_cpu call) f 0 1 (ap (λ (y : ListWord). y.front) list_is) (ap (λ (y : ListWord). y.count + 1) list_is) under.rests worded begin.may.cpu begin.few left_inside off_lists

  calls : IsWithCalls told (rested m told)
  calls = rested_calls m told refl

  -- the worker between calls, as it stood in for itself
  quiet_is : get_or ends x idle ≡ quiet
  quiet_is = get_or-set_same system.locals x (quiet) idle next.there

  worker_rests : IsBetween pushed.setup (rested m told)
  worker_rests =
      let quiet = subst (IsBetween pushed.setup) quiet_is (All-get_or (IsBetween pushed.setup) ends x idle (let long = length-set system.locals x (quiet) in omega (arith, long, next.there)) quiet_rests.workers) in
      subst (IsBetween pushed.setup) (sym calls.same) (record {
        between = refl;
        hands = begin.between.hands;
        string = refl;
        run = refl;
        packed = record { cpu_word = rest.rests.rests.words.cpu n; slab_word = loop.fit; list_word = (omega arith, omega arith); next = begin.between.packed.next };
        cpu = subst (λ (m : Setup). call_cpu call < m.cpus) (sym (setup_is m vals loop.after)) begin.may.cpu;
        numbers = quiet.numbers;
        some = quiet.some;
      })

  rests : Rests after b pushed (set system.locals x (rested m told))
  rests = subst (Rests after b pushed) (set-set system.locals x (quiet) (rested m told))
      (rests_with after b pushed ends x (rested m told) quiet_rests (let long = length-set system.locals x (quiet) in omega (arith, long, next.there)) worker_rests
      (ap (λ (l : Local). l.worker) calls.same ∙ sym (ap (λ (l : Local). l.worker) quiet_is)) (ap (λ (l : Local). l.known) calls.same ∙ sym (ap (λ (l : Local). l.known) quiet_is)))

  lengths : HasLengths after
  lengths = let long = under.lengths in record {
    slabs = long.slabs;
    frees = long.frees;
    cpu_lists = length-set left.cpu_lists (cpu_place s o.cache (call_cpu call)) _ ∙ long.cpu_lists;
    nodes = long.nodes;
    checked = long.checked;
    memory = long.memory;
    gone = long.gone;
    live = long.live;
  }

  accounted : IsAccounted after
  accounted = taken-accounted s (call_object call) held begin.consistent has.named

  abbrev there : State
  there = with_freed (with_taken s (call_object call) o.cache) f o.index

  settles : (live : Cache) → cache_of s o.cache ≡ Some live → with_gone (settled there live.layout o.cache (call_cpu call) f (own_free s f)) (call_object call) l.worker held ≡ after
  settles live same =
      ap (λ fs. gone_by (settled there live.layout o.cache (call_cpu call) f fs)) full
      ∙ ap gone_by (cond-false {A = State} (is_frozen s f) there (put_partial there live.layout o.cache (call_cpu call) f) unfrozen)
      ∙ ap (λ h. gone_by (by_rest (cond {A = State} h (moved_all empty live.layout.min_partial o.cache (lists_of s o.cache (call_cpu call)).partial) there))) enough
      ∙ ap (λ (y : Layout). gone_by (by_rest (moved_all empty y.min_partial o.cache (lists_of s o.cache (call_cpu call)).partial))) (sym (layout_of s o.cache live same))
      ∙ ap (λ fs. gone_by (by_rest (moved_all empty min o.cache fs))) front
      ∙ ap by_rest (gone_moved empty min o.cache fs (call_object call) l.worker held)
      ∙ ap by_rest keeps.is
    where
      gone_by : State → State
      gone_by t = with_gone t (call_object call) l.worker held

      by_rest : State → State
      by_rest t = with_partial t o.cache (call_cpu call) (f ∷ (lists_of t o.cache (call_cpu call)).partial)

      empty : State
      empty = with_partial there o.cache (call_cpu call) []

      enough : nat_le live.layout.cpu_partial_slabs (length (lists_of s o.cache (call_cpu call)).partial) ≡ true
      enough = le-leb live.layout.cpu_partial_slabs (length (lists_of s o.cache (call_cpu call)).partial) (let most = ap (λ (y : Layout). y.cpu_partial_slabs) (layout_of s o.cache live same) in let full = long.full in omega (arith, most, full))

  frees : Frees s (call_cpu call) l.worker (call_object call) reply after
  frees = frees_held s (call_cpu call) l.worker (call_object call) o after has.named has.lives is.unchecked (λ live same. (
    ap (λ layout. Freed (address_of f o.index layout)) (layout_of s o.cache live same),
    sym (ap (λ h. with_gone (cond {A = State} h (freed_here (with_taken s (call_object call) o.cache) o.cache (call_cpu call) o.index) (freed_there (with_taken s (call_object call) o.cache) live.layout o.cache (call_cpu call) f o.index)) (call_object call) l.worker held) (not_current f (lists_of s o.cache (call_cpu call)).current (start.away opening s b system x call rest next is unfrozen full long e es front))
        ∙ settles live same),
  ))

  moves_all : FreesAlone opening s b system x call (suc turns) b
  moves_all = record {
    reply = reply;
    after = after;
    frees = frees;
    known = known_ends s b system x (suc turns) told words7 vals next.there whole refl ∙ knows_freed l.known (call_place call) o.object (call_object call) l.worker s after held has.named (eq-eqb l.worker l.worker refl) has.on_board refl has.object;
    replies = replies_of opening s after b b system x (suc turns) call reply told words7 vals next whole refl refl refl refl under.same
        (ends_ready opening pushed s after b b system end rest under.same refl refl lengths accounted rest.beside.tids refl refl ended says rests are_whole);
  }

  all_turns : (n : ℕ) × FreesAlone opening s b system x call (suc n) b
  all_turns = (turns, moves_all)

pub lists_moved : FullListsAreMoved
lists_moved opening s b system x call rest next is unfrozen full long = by (lists_of s (known_at (worker_at system x) call).cache (call_cpu call)).partial refl
  where
    by : (fs : List ℕ) → (lists_of s (known_at (worker_at system x) call).cache (call_cpu call)).partial ≡ fs → (turns : ℕ) × FreesAlone opening s b system x call (suc turns) b
    by [] empty = absurd (let some = long.some in let none = ap (length {A = ℕ}) empty in omega (arith, some, none))
    by (e ∷ es) front = all_turns opening s b system x call rest next is unfrozen full long e es front
