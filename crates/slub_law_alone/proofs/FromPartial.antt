-- An allocation that takes the first slab of its CPU's partial list: the list is taken, and what is left of it put back, the slab is frozen with its whole freelist, and it becomes current with the rest.
use Rattle.std.proofs.Common.{◌≡◌, ℕ, suc, ◌+◌, ◌-◌, ◌*◌, ◌/◌, ◌%◌, ◌^◌, ◌<◌, ◌≤◌, eqb, cond, true, false, List, [], ◌∷◌, length, get_or, set, Option, Some, None, inl, inr, refl, ap, sym, ◌∙◌, subst, arith, sum_by}
use Rattle.std.specs.Prelude.{is_some, IfSome, MatchOption, MatchResult, nat_lt}
use Rattle.std.specs.Option.{option_map}
use Rattle.std.proofs.lemmas.Bool.{cases_eq, false≢true, eq-eqb, ne_eqb, le-ltb, cond-false, lt-ltb}
use Rattle.std.proofs.lemmas.List.{get_or-set_same, get_or-set_other, set-get_or, set-set, length-set}
use Rattle.std.proofs.lemmas.List.Elements.{All-set}
use Rattle.slub_common.specs.Times.{times}
use Rattle.slub_cpu_partial.specs.Strings.{list_bits}
use Rattle.slub_core.specs.declared.spot.PutOnListSpot.TheVariants.{LoadList, PushString}
use Rattle.slub_core.specs.declared.spot.PutOnList.TheVariants.{OfRest}
use Rattle.slub_core.specs.PutOnList.{way_of_front}
use Rattle.slub_common.proofs.Sums.{element-counted}
use Rattle.slub_cpu_partial.specs.declared.words.ListWord.{ListWord}
use Rattle.slub_trace.specs.Kinds.{is_given}
use Rattle.slub_trace.specs.declared.reply.Reply.{Reply}
use Rattle.slub_trace.specs.declared.reply.Reply.TheVariants.{Given, NoSuchCache}
use Rattle.slub_object_layout.specs.Layout.{address_of}
use Rattle.slub_cache_create.specs.declared.caches.Cache.{Cache}
use Rattle.slub_words.specs.declared.cpu.CpuWord.{CpuWord}
use Rattle.slub_words.specs.declared.slab.SlabWord.{SlabWord}
use Rattle.slub_words.specs.Words.{cpu_bits, slab_bits}
use Rattle.slub_lists.specs.declared.lists.Slab.{Slab}
use Rattle.slub_lists.specs.declared.lists.CpuLists.{CpuLists}
use Rattle.slub_lists.specs.declared.lists.Held.{Held}
use Rattle.slub_lists.specs.State.{State}
use Rattle.slub_lists.specs.Alloc.{lists_of, no_lists, cache_of, checked_of, cpu_place, slab_of, own_free, marked, taken_up, from_free, from_slabs, batch_of, AllocatesNew, Gives, node_of, from_partial}
use Rattle.slub_lists.specs.Named.{AllocatesNamed, AllocatesFrom}
use Rattle.slub_lists.specs.Coherent.{IsConsistent, IsAccounted, held_under, times_partial}
use Rattle.slub_lists.specs.Places.{layout_at, pointer_at as pointer_in}
use Rattle.slub_lists.proofs.Accounted.{accounted-with_held}
use Rattle.slub_lists.proofs.Coherence.{place-inside}
use Rattle.slub_lists.proofs.Giving.{from-unchecked}
use Rattle.slub_lists.proofs.Places.{objects-few, own-object, pointer-inside, slab-inside, listed-is}
use Rattle.slub_core.specs.declared.call.Call.{Call}
use Rattle.slub_core.specs.declared.local.Known.{Known}
use Rattle.slub_core.specs.declared.spot.Spot.TheVariants.{Between, InAlloc, InPutOnList}
use Rattle.slub_core.specs.declared.spot.AllocSpot.TheVariants.{LoadCpu, LoadReady, TakeList, LoadKept, FreezeKept, FollowFront}
use Rattle.slub_core.specs.declared.step.Answer.{Answer}
use Rattle.slub_core.specs.declared.step.Answer.TheVariants.{Word, Won, Lost}
use Rattle.slub_core.specs.declared.step.Op.TheVariants.{Load, Exchange, Swap}
use Rattle.slub_core.specs.declared.step.Place.TheVariants.{CpuOf, SlabOf, ListOf, LinkOf}
use Rattle.slub_core.specs.Calls.{call_kind, call_cpu, call_object, call_place}
use Rattle.slub_core.specs.Setup.{Setup, cpu_number, pointer_at, hardened}
use Rattle.slub_core.specs.Words.{cpu_in, slab_in, cpu_base, slab_base, memory_base, list_in, list_base, no_list_word, link_base}
use Rattle.slub_core.specs.World.{World, update, set_cpu, set_slab, pointer, IsChain, world_from, world_of, one_if, set_list, Links}
use Rattle.slub_core.specs.Local.{Local, Turn, nobody, hand_from, answered, goes, bare_hand}
use Rattle.slub_core.specs.Alloc.{is_spent, way_of_word, told_of_word, hands_of_list, string_of_list, way_of_list, taken_string}
use Rattle.slub_core.specs.Replies.{names_object}
use Rattle.slub_core.specs.Steps.{begun, rested, advance_at}
use Rattle.slub_core.specs.Run.{System, idle, turn}
use Rattle.slub_core.specs.Law.{IsCoherentSystem}
use Rattle.slub_core.specs.Fresh.{IsWorded}
use Rattle.slub_core.proofs.Chains.{IsChain-first, Leads-small}
use Rattle.slub_core.proofs.Lists.{times-first}
use Rattle.slub_core.proofs.Packed.{IsCpuFit, IsSlabFit, cpu_in-bits, slab_in-bits, IsListFit, list_in-bits}
use Rattle.slub_core.proofs.Update.{update_same, update_other, each_updated}
use Rattle.slub_core.proofs.StepWords.{IsTable, world_of-cpu, world_of-slab, cpu-read, slab-read, memory-read, world_of-list, list-read, link-read}
use Rattle.slub_law_opening.specs.Opening.{Beside, setup_of, tid_of, cpu_at}
use Rattle.slub_law_opening.specs.Rests.{IsBetween, IsCpuOf, IsFreelistOf, Rests, named as named_in, times_named, slab_at}
use Rattle.slub_law_opening.specs.Closing.{HasLengths}
use Rattle.slub_law_opening.proofs.Words.{chain-empty, chain-some}
use Rattle.slub_law_alone.specs.Alone.{own_pick, alone, worker_at, IsAtRest, IsNext, HasIds, AreWhole}
use Rattle.slub_law_alone.specs.Laws.{IsAlloc, AllocatesAlone, OnlyPartialSlabsAreTaken, FirstPartialSlabsAreTaken}
use Rattle.slub_law_alone.proofs.Bits.{bits_in, keeps_small, object_once, memory_of, copied, copied_length, whole_cpu, whole_slab, whole_list, current_none, whole_list_word}
use Rattle.slub_law_alone.proofs.Changed.{setup_same, rests_relisted, slab_frozen, slab_as_it_was}
use Rattle.slub_law_alone.proofs.CpuWords.{cpus_relisted}
use Rattle.slub_law_alone.proofs.FastAlloc.{begin_alloc}
use Rattle.slub_law_alone.proofs.Install.{install_turns}
use Rattle.slub_law_alone.proofs.Apart.{IsSlabAt, slab_word, plain_word}
use Rattle.slub_law_alone.proofs.FastFree.{layout_of}
use Rattle.slub_law_alone.proofs.Ended.{alone_keeps, ends_at_rest, replies_of}
use Rattle.slub_law_alone.proofs.Knows.{known_ends, knows_given}
use Rattle.slub_law_alone.proofs.Names.{named_other, named_held, named_new}
use Rattle.slub_law_alone.proofs.Turns.{machine, turn_goes, settle_goes, then_turn}
use Rattle.slub_law_alone.proofs.Workers.{at_front, once_named, IsWithCalls, rested_calls}
use Rattle.slub_law_alone.proofs.Start.{IsStart, starts}
use Rattle.slub_calls.specs.Changes.{grown}
use Rattle.slub_calls.proofs.ChangeNumbers.{cpu_here}

module _ (opening : World) (s : State) (b : Beside) (system : System) (x : ℕ) (call : Call) (place k f : ℕ) (fs : List ℕ) (rest : IsAtRest opening s b system) (next : IsNext system x call) (is : IsAlloc s call place k)
    (ids : HasIds b (cpu_number k (call_cpu call)) 1) (empty : (lists_of s k (call_cpu call)).free ≡ []) (current : (lists_of s k (call_cpu call)).current ≡ None) (only : (lists_of s k (call_cpu call)).partial ≡ f ∷ fs) where
  abbrev m : Setup
  m = setup_of s b

  abbrev w : World
  w = world_of m system.value system.words

  abbrev l : Local
  l = worker_at system x

  abbrev n : ℕ
  n = cpu_number k (call_cpu call)

  abbrev c : CpuWord
  c = w.cpu n

  abbrev z : SlabWord
  z = w.slab f

  abbrev lists : CpuLists
  lists = lists_of s k (call_cpu call)

  begin : IsStart opening s b system x call
  begin = starts opening s b system x call rest next

  consistent : IsConsistent s
  consistent = begin.consistent

  resting : Rests s b w system.locals
  resting = rest.rests.rests

  lives : m.lives k ≡ true
  lives = subst (λ o. IfSome o (λ k. m.lives k ≡ true)) is.asks begin.may.cache

  inside : k < 32
  inside = begin.setup.live k lives

  cpu : call_cpu call < s.cpus
  cpu = begin.may.cpu

  small : n < 512
  small = omega (arith, inside, cpu, begin.few)

  number : n / 16 ≡ k
  number = omega (arith, cpu, begin.few)

  here : cpu_at s n ≡ lists
  here = cpu_here s k (call_cpu call) cpu begin.few

  cpu_is : IsCpuOf b w n lists
  cpu_is = subst (IsCpuOf b w n) here (resting.cpu n small)

  names : names_object (call_kind call) ≡ true
  names = ap names_object is.kind

  bare : c.frame ≡ 0
  bare = current_none c.frame (sym cpu_is.current ∙ current)

  head_none : c.head ≡ 0
  head_none = chain-empty (pointer w (n / 16) c.frame) c.head lists.free cpu_is.free (ap (length {A = ℕ}) empty)

  -- ---- the slab

  place_below : cpu_place s k (call_cpu call) < length s.cpu_lists
  place_below = place-inside s k (call_cpu call) rest.lists.shaped inside cpu

  on_list : 1 ≤ times f lists.partial
  on_list = let t = times-first f f fs in let o : one_if (eqb f f) ≡ 1 = ap one_if (eq-eqb f f refl) in subst (λ fs. 1 ≤ times f fs) (sym only) (omega (arith, t, o))

  counted : times f lists.partial ≤ sum_by (λ lists. times f lists.partial) s.cpu_lists
  counted = element-counted (λ lists. times f lists.partial) s.cpu_lists (cpu_place s k (call_cpu call)) no_lists refl

  off_node : times f (node_of s k) ≡ 0
  off_node = let e = element-counted (times f) s.nodes k [] refl in omega (arith, e, counted, on_list, consistent.listed.once f)

  a_partial : 0 < times_partial s f
  a_partial = omega (arith, counted, on_list)

  listed_at : (y : Slab) × (slab_of s f ≡ Some y) × (checked_of s y.cache ≡ None)
  listed_at = listed-is s f consistent a_partial

  of_cache : listed_at.0.cache ≡ k
  of_cache = subst (λ o. IfSome o (λ (y : Slab). y.cache ≡ k)) listed_at.1 (consistent.listed.of_partial k (call_cpu call) f cpu (omega (arith, on_list)))

  some : 0 < length (own_free s f)
  some = consistent.listed.stocked f a_partial

  within : (0 < f) × (f < s.frames)
  within = slab-inside s f listed_at.0 consistent listed_at.1

  slab_some : 1 ≤ z.objects
  slab_some = plain_word s b w system.locals begin.front.stands.chains resting begin.front.stands.listed.shaped f 0 listed_at.0 listed_at.1 (objects-few s f listed_at.0 consistent listed_at.1).0 listed_at.2

  slab_at_it : IsSlabAt s w f
  slab_at_it = slab_word s b w system.locals resting f slab_some

  same_slab : listed_at.0 ≡ slab_at_it.slab
  same_slab = injected (sym listed_at.1 ∙ slab_at_it.there)
    where
      injected : {x y : Slab} → Some x ≡ Some y → x ≡ y
      injected e = cc

  cache : z.cache ≡ k
  cache = sym slab_at_it.cache ∙ ap (λ (x : Slab). x.cache) (sym same_slab) ∙ of_cache

  own : IsChain (pointer w k f) z.head (own_free s f)
  own = subst (λ q. IsChain (pointer w q f) z.head (own_free s f)) cache (resting.own f).chain

  head : 1 ≤ z.head
  head = chain-some (pointer w k f) z.head (own_free s f) own some

  first : (ys : List ℕ) × (own_free s f ≡ (z.head - 1) ∷ ys) × IsChain (pointer w k f) (pointer w k f (z.head - 1)) ys
  first = IsChain-first (pointer w k f) z.head (own_free s f) head own

  has_first : 1 ≤ times (z.head - 1) (own_free s f)
  has_first =
      let t = times-first (z.head - 1) (z.head - 1) first.0 in
      let o : one_if (eqb (z.head - 1) (z.head - 1)) ≡ 1 = ap one_if (eq-eqb (z.head - 1) (z.head - 1) refl) in
      subst (λ free. 1 ≤ times (z.head - 1) free) (sym first.1) (omega (arith, t, o))

  abbrev p : ℕ
  p = pointer_at m k f (z.head - 1)

  p_inside : p < 512 * m.frames
  p_inside =
      let r = own-object s f (z.head - 1) consistent has_first in
      let one : r.0 ≡ listed_at.0 = injected (sym r.1 ∙ listed_at.1) in
      let layout : pointer_in (layout_at s r.0.cache) f (z.head - 1) ≡ p = ap (λ (x : Slab). pointer_in (layout_at s x.cache) f (z.head - 1)) one ∙ ap (λ q. pointer_in (layout_at s q) f (z.head - 1)) of_cache in
      omega (arith, pointer-inside s f (z.head - 1) r.0 consistent r.1 r.2, layout, rest.lists.shaped.memory)
    where
      injected : {x y : Slab} → Some x ≡ Some y → x ≡ y
      injected e = cc

  member : (j : ℕ) → 1 ≤ times j first.0 → suc j < 2 ^ 16
  member j has =
      let t = times-first j (z.head - 1) first.0 in
      let r = own-object s f j consistent (subst (λ free. 1 ≤ times j free) (sym first.1) (omega (arith, t, has))) in
      let few = objects-few s f r.0 consistent r.1 in
      omega (arith, r.2, few.1)

  -- ---- the turns

  abbrev asked : Local
  asked = record l { spot = InAlloc LoadCpu; cache = k; cpu = call_cpu call; place = call_place call; fast = false; turn = 0; count = 0 }

  abbrev loaded : Local
  loaded = record asked { cpu_word = c; spot = InAlloc TakeList }

  abbrev q : ℕ
  q = get_or system.words (cpu_base + n) 0

  abbrev y : ℕ
  y = get_or system.words (list_base + n) 0

  abbrev r : ℕ
  r = get_or system.words (slab_base + f) 0

  cpu_reads : c ≡ cpu_in q
  cpu_reads = cpu-read m system.value system.words n small

  list_reads : w.list n ≡ list_in y
  list_reads = list-read m system.value system.words n small

  slab_reads : z ≡ slab_in r
  slab_reads = slab-read m system.value system.words f within.1

  spent : is_spent m c ≡ false
  spent = le-ltb (4294967295 - 2 * b.step) c.tid (omega (arith, ids, cpu_is.tid, rest.beside.step.1))

  begins : begun m false l ≡ asked
  begins = begin_alloc m l call next.calls k begin.between.between next.todo is.kind is.asks (ap is_some is.unchecked)

  turn1 : turn m (machine system.words system.value (set system.locals x l)) (own_pick x) ≡ machine system.words system.value (set system.locals x loaded)
  turn1 = turn_goes m system.words system.words system.value system.locals x l asked loaded (record { place = CpuOf n; op = Load }) (Word q) next.there begins refl (set-get_or system.words (cpu_base + n) 0) refl
      (settle_goes m system.value asked loaded (Word q) leads refl refl)
    where
      by_word : CpuWord → Turn
      by_word z = record { local = record asked { cpu_word = z; spot = way_of_word m false z }; reply = told_of_word m false z }

      way : way_of_word m false c ≡ InAlloc TakeList
      way = rw (spent, eq-eqb c.head 0 head_none, eq-eqb c.frame 0 bare) refl

      says : told_of_word m false c ≡ None
      says = rw spent refl

      leads : advance_at m system.value asked (InAlloc LoadCpu) (Word q) ≡ goes loaded
      leads = ap by_word (sym cpu_reads) ∙ (λ i. record { local = record asked { cpu_word = c; spot = way i }; reply = says i })

  -- ---- from where the slab is in hand

  module _ (turns : ℕ) (lw0 : ListWord) (put0 : ℕ) (words1 : List ℕ) (list : ListWord)
      (to_taken : (t : System) → alone m x 5 (machine words1 system.value (set system.locals x (record loaded { spot = InAlloc LoadKept; hands = bare_hand f ∷ l.hands; string = None; list_word = lw0; put = put0 }))) ≡ t → alone m x turns system ≡ t)
      (long1 : length words1 ≡ length system.words) (cpu1 : get_or words1 (cpu_base + n) 0 ≡ q) (slab_there : get_or words1 (slab_base + f) 0 ≡ r) (mem1 : get_or words1 (memory_base m + p) 0 ≡ get_or system.words (memory_base m + p) 0)
      (world1 : world_of m system.value words1 ≡ set_list w n list) (whole1 : AreWhole m words1) (fit0 : (lw0.front < 2 ^ 16) × (lw0.count < 2 ^ 16)) (count : list.count ≡ length fs) (links : Links w.link list.front fs 0) where
    abbrev taken : Local
    taken = record loaded { spot = InAlloc LoadKept; hands = bare_hand f ∷ l.hands; string = None; list_word = lw0; put = put0 }

    abbrev seen : Local
    seen = record taken { slab_word = z; spot = InAlloc FreezeKept }

    abbrev ready : Local
    ready = record seen { spot = InAlloc LoadReady; hands = hand_from f z.head ∷ l.hands }

    abbrev e : SlabWord
    e = record z { head = 0; inuse = z.objects; frozen = true; listed = false }

    abbrev words2 : List ℕ
    words2 = set words1 (slab_base + f) (slab_bits e)

    slab_hit : eqb (get_or words1 (slab_base + f) 0) (slab_bits z) ≡ true
    slab_hit = eq-eqb (get_or words1 (slab_base + f) 0) (slab_bits z) (slab_there ∙ sym (rest.whole.slab f within.1) ∙ ap slab_bits (sym slab_reads))

    turn3 : turn m (machine words1 system.value (set system.locals x taken)) (own_pick x) ≡ machine words1 system.value (set system.locals x seen)
    turn3 = turn_goes m words1 words1 system.value system.locals x taken taken seen (record { place = SlabOf f; op = Load }) (Word (get_or words1 (slab_base + f) 0)) next.there refl refl (set-get_or words1 (slab_base + f) 0) refl
        (settle_goes m system.value taken seen (Word (get_or words1 (slab_base + f) 0)) (ap (λ y. by_word (slab_in y)) slab_there ∙ ap by_word (sym slab_reads)) refl refl)
      where
        by_word : SlabWord → Turn
        by_word z = goes (record taken { slab_word = z; spot = InAlloc FreezeKept })

    turn4 : turn m (machine words1 system.value (set system.locals x seen)) (own_pick x) ≡ machine words2 system.value (set system.locals x ready)
    turn4 = turn_goes m words1 words2 system.value system.locals x seen seen ready (record { place = SlabOf f; op = Exchange (slab_bits z) (slab_bits e) }) Won next.there refl refl
        (ap (λ h. set words1 (slab_base + f) (cond {A = ℕ} h (slab_bits e) (get_or words1 (slab_base + f) 0))) slab_hit) (ap (λ h. cond {A = Answer} h Won (Lost (get_or words1 (slab_base + f) 0))) slab_hit) (settle_goes m system.value seen ready Won refl refl refl)

    -- ---- the last three turns

    abbrev base : Local
    base = seen

    abbrev follows : ℕ
    follows = hardened k p (get_or words2 (memory_base m + p) 0) % 2 ^ 16

    follows_is : follows ≡ pointer w k f (z.head - 1)
    unfolding world_of world_from
    follows_is =
        let other1 : get_or words2 (memory_base m + p) 0 ≡ get_or words1 (memory_base m + p) 0 = get_or-set_other words1 (slab_base + f) (memory_base m + p) (slab_bits e) 0 (λ e. absurd (omega (arith, e, within.1, begin.table.objects))) in
        let other2 : get_or words1 (memory_base m + p) 0 ≡ get_or system.words (memory_base m + p) 0 = mem1 in
        ap (λ y. hardened k p y % 2 ^ 16) (other1 ∙ other2 ∙ sym (memory-read m system.value system.words p p_inside))
        ∙ keeps_small (pointer w k f (z.head - 1)) (Leads-small (pointer w k f) (pointer w k f (z.head - 1)) first.0 member first.2)

    abbrev v : CpuWord
    v = record { tid = c.tid + b.step; frame = f; head = follows }

    abbrev words : List ℕ
    words = set words2 (cpu_base + n) (cpu_bits v)

    abbrev known : Known
    known = record { object = (get_or l.known (call_place call) nobody).object; frame = f; index = z.head - 1; cache = k; held = true }

    abbrev has : Local
    has = record base { spot = Between; hands = l.hands; cpu_word = c; known = set l.known (call_place call) known }

    abbrev reply : Reply
    reply = Given (address_of f (z.head - 1) (layout_at s k))

    abbrev told : Local
    told = answered has reply

    whole : alone m x turns system ≡ machine words system.value (set system.locals x (rested m told))
    whole = to_taken (machine words system.value (set system.locals x (rested m told)))
        (then_turn m x 4 (machine words1 system.value (set system.locals x taken)) (machine words1 system.value (set system.locals x seen)) (machine words system.value (set system.locals x (rested m told))) turn3
        (then_turn m x 3 (machine words1 system.value (set system.locals x seen)) (machine words2 system.value (set system.locals x ready)) (machine words system.value (set system.locals x (rested m told))) turn4
        (install_turns m words2 system.value system.locals x base l.hands f z.head c next.there reads_c (resting.words.cpu n) bare spent)))
      where
        reads_c : get_or words2 (cpu_base + n) 0 ≡ cpu_bits c
        reads_c = get_or-set_other words1 (slab_base + f) (cpu_base + n) (slab_bits e) 0 (λ e. absurd (omega (arith, e, small))) ∙ cpu1 ∙ sym (bits_in q) ∙ ap cpu_bits (sym cpu_reads)

    -- ---- where they end

    ended : IsCoherentSystem m opening (machine words system.value (set system.locals x (rested m told)))
    ended = subst (IsCoherentSystem m opening) whole (alone_keeps m opening x turns system rest.coherent)

    fit : IsCpuFit v
    fit = (omega (arith, ids, cpu_is.tid), omega (arith, within.1, rest.lists.shaped.frames.1), omega arith)

    fit_e : IsSlabFit e
    fit_e = (omega arith, (resting.words.slab f).2, (resting.words.slab f).2, (resting.words.slab f).3)

    abbrev u : World
    u = record w { cpu = update w.cpu n v; list = update w.list n list; slab = update w.slab f e }

    table1 : IsTable m words1
    table1 = record { length = long1 ∙ begin.table.length; locks = refl; cpu_words = refl; frames = begin.table.frames; objects = begin.table.objects }

    table2 : IsTable m words2
    table2 = record { length = length-set words1 (slab_base + f) (slab_bits e) ∙ table1.length; locks = refl; cpu_words = refl; frames = begin.table.frames; objects = begin.table.objects }

    says : world_of m system.value words ≡ u
    says = world_of-cpu m system.value words2 n (cpu_bits v) table2 small
        ∙ ap (λ w. set_cpu w n (cpu_in (cpu_bits v))) (world_of-slab m system.value words1 f (slab_bits e) table1 within.1 ∙ ap (λ w. set_slab w f (slab_in (slab_bits e))) world1 ∙ ap (set_slab (set_list w n list) f) (slab_in-bits e fit_e))
        ∙ ap (set_cpu (set_slab (set_list w n list) f e) n) (cpu_in-bits v fit)

    abbrev left : CpuLists
    left = record { current = Some f; free = first.0; partial = fs }

    abbrev held : Held
    held = record { frame = f; index = z.head - 1; cache = k; worker = Some l.worker }

    abbrev after : State
    after = record s { slabs = set s.slabs f (option_map (marked true) (slab_of s f)); frees = set s.frees f []; cpu_lists = set s.cpu_lists (cpu_place s k (call_cpu call)) left; board = set s.board (call_object call) (Some held); live = set s.live k (get_or s.live k 0 + 1) }

    abbrev given : State
    given = record after { memory = memory_of w (512 * s.frames) }

    abbrev b2 : Beside
    b2 = grown b n 1

    calls : IsWithCalls told (rested m told)
    calls = rested_calls m told refl

    known_is : (rested m told).known ≡ set l.known (call_place call) known
    known_is = ap (λ (l : Local). l.known) calls.same

    worker_is : (rested m told).worker ≡ l.worker
    worker_is = ap (λ (l : Local). l.worker) calls.same

    object : known.object ≡ call_object call
    object = begin.may.known names

    on_board : call_object call < length s.board
    on_board = (begin.may.object names).1

    once : (o : ℕ) → times_named u (set system.locals x (rested m told)) o ≤ 1
    once o = subst (λ w. times_named w (set system.locals x (rested m told)) o ≤ 1) says (once_named m opening (machine words system.value (set system.locals x (rested m told))) ended o)

    unused : held_under s (call_object call) ≡ None
    unused = resting.named (call_object call) ∙ named_new w system.locals x (call_place call) (rested m told) known next.there (begin.may.place names) known_is refl (begin.may.new is.kind) (call_object call) object (once (call_object call))

    frees_below : f < length s.frees
    frees_below = omega (arith, within.1, rest.lists.shaped.frees)

    worker_rests : IsBetween w.setup (rested m told)
    worker_rests = subst (IsBetween w.setup) (sym calls.same) (record {
      between = refl;
      hands = begin.between.hands;
      string = refl;
      run = begin.between.run;
      packed = record { cpu_word = resting.words.cpu n; slab_word = resting.words.slab f; list_word = fit0; next = begin.between.packed.next };
      cpu = subst (λ (m : Setup). call_cpu call < m.cpus) (sym resting.setup) begin.may.cpu;
      numbers = All-set (λ (k : Known). k.object < w.setup.objects) l.known (call_place call) known (subst (λ (m : Setup). known.object < m.objects) (sym resting.setup) (omega (arith, object, on_board))) begin.between.numbers;
      some = All-set (λ (k : Known). k.held ≡ true → 1 ≤ k.object) l.known (call_place call) known (λ _. omega (arith, object, (begin.may.object names).0)) begin.between.some;
    })

    own_ends : (g : ℕ) → IsFreelistOf u g (get_or (set s.frees f []) g [])
    own_ends g = elim (cases_eq g f) [
      | inl same ↦ subst (λ g. IsFreelistOf u g (get_or (set s.frees f []) g [])) (sym same) (subst (IsFreelistOf u f) (sym (get_or-set_same s.frees f [] [] frees_below)) (record {
        chain = ap (λ (c : SlabWord). c.head) (update_same w.slab f e);
        in_use = subst (λ (c : SlabWord). c.inuse + 0 ≡ c.objects) (sym (update_same w.slab f e)) (omega arith);
      }))
      | inr other ↦ subst (IsFreelistOf u g) (sym (get_or-set_other s.frees f g [] [] other)) (record {
        chain = subst (λ (c : SlabWord). IsChain (pointer u c.cache g) c.head (own_free s g)) (sym (update_other w.slab f e g other)) (resting.own g).chain;
        in_use = subst (λ (c : SlabWord). c.inuse + length (own_free s g) ≡ c.objects) (sym (update_other w.slab f e g other)) (resting.own g).in_use;
      })
    ]

    slabs_below : f < length s.slabs
    slabs_below = omega (arith, within.1, rest.lists.shaped.slabs)

    at_word : (P : ℕ → SlabWord → Type 0) → P f e → ((g : ℕ) → P g (w.slab g)) → (g : ℕ) → P g (update w.slab f e g)
    at_word P here there = each_updated w.slab f e P here (λ g d. there g)

    slabs_are : (g : ℕ) → get_or (set s.slabs f (option_map (marked true) (slab_of s f))) g None ≡ slab_at u g
    slabs_are g = elim (cases_eq g f) [
      | inl same ↦ ap (λ g. get_or (set s.slabs f (option_map (marked true) (slab_of s f))) g None) same ∙ get_or-set_same s.slabs f (option_map (marked true) (slab_of s f)) None slabs_below ∙ ap (option_map (marked true)) (resting.slab f)
          ∙ sym (slab_frozen w u f refl refl (ap (λ (c : SlabWord). c.objects) (update_same w.slab f e)) (ap (λ (c : SlabWord). c.cache) (update_same w.slab f e)) (ap (λ (c : SlabWord). c.frozen) (update_same w.slab f e))) ∙ ap (slab_at u) (sym same)
      | inr other ↦ get_or-set_other s.slabs f g (option_map (marked true) (slab_of s f)) None other ∙ resting.slab g ∙ sym (slab_as_it_was w u g refl refl (update_other w.slab f e g other))
    ]

    ends : Rests given b2 u (set system.locals x (rested m told))
    ends = rests_relisted s b w system.locals (set s.slabs f (option_map (marked true) (slab_of s f))) (set s.frees f []) (set s.cpu_lists (cpu_place s k (call_cpu call)) left) (memory_of w (512 * s.frames)) (set s.board (call_object call) (Some held)) s.gone (set s.live k (get_or s.live k 0 + 1)) (set b.tids n (tid_of b n + 1 * b.step))
        (update w.cpu n v) (update w.list n list) (update w.slab f e) w.link w.board w.memory (set system.locals x (rested m told)) resting
        (length-set s.board (call_object call) (Some held))
        (let front = at_front m opening (machine words system.value (set system.locals x (rested m told))) x (omega (arith, next.there, length-set system.locals x (rested m told))) ended in subst IsWorded says front.stands.fresh.worded)
        (All-set (IsBetween w.setup) system.locals x (rested m told) worker_rests resting.workers)
        (cpus_relisted s b w k (call_cpu call) left v (tid_of b n + 1 * b.step) list (update w.slab f e) cpu begin.few place_below (omega (arith, small, rest.beside.tids)) resting.cpu (omega (arith, cpu_is.tid))
        (sym (cond-false {A = Option ℕ} (eqb f 0) None (Some f) (ne_eqb f 0 (λ none. absurd (let some = within.0 in omega arith)))))
        (subst (λ h. IsChain (pointer w k f) h first.0) (sym follows_is) first.2) count links)
        slabs_are
        (at_word (λ g (c : SlabWord). 1 ≤ c.objects → checked_of s c.cache ≡ None) (λ _. ap (checked_of s) cache ∙ is.unchecked) (λ g. resting.unchecked g))
        (at_word (λ g (c : SlabWord). c.objects ≡ 0 → c.frozen ≡ false) (λ none. absurd (omega (arith, none, slab_some))) (λ g. resting.unslabbed g))
        (at_word (λ g (c : SlabWord). c.listed ≡ nat_lt 0 (times g (node_of s c.cache))) (sym (ap (λ q. nat_lt 0 (times f (node_of s q))) cache ∙ ap (nat_lt 0) off_node)) (λ g. resting.listed g))
        own_ends names_are once (λ o word h there plain is_word. copied m system.value system.words _) resting.no_zero
      where
        names_are : (o : ℕ) → get_or (set s.board (call_object call) (Some held)) o None ≡ named_in u (set system.locals x (rested m told)) o
        names_are o = elim (cases_eq o (call_object call)) [
          | inl e ↦ ap (λ o. get_or (set s.board (call_object call) (Some held)) o None) e ∙ get_or-set_same s.board (call_object call) (Some held) None on_board ∙ ap (λ worker. Some (record { frame = f; index = z.head - 1; cache = k; worker = Some worker })) (sym worker_is)
              ∙ sym (named_held u system.locals x (call_place call) (rested m told) l.known known next.there (begin.may.place names) known_is refl (once known.object)) ∙ ap (named_in u (set system.locals x (rested m told))) (object ∙ sym e)
          | inr away ↦ get_or-set_other s.board (call_object call) o (Some held) None away ∙ resting.named o ∙ sym (named_other u system.locals x (call_place call) (rested m told) known worker_is known_is refl o (λ e. away (sym e ∙ object)))
        ]

    -- ---- on lists

    accounted : IsAccounted given
    accounted = accounted-with_held s (call_object call) held (omega (arith, inside, rest.lists.shaped.live)) on_board unused rest.lists.accounted

    lengths : HasLengths given
    lengths = record {
      slabs = length-set s.slabs f (option_map (marked true) (slab_of s f)) ∙ rest.lists.shaped.slabs;
      frees = length-set s.frees f [] ∙ rest.lists.shaped.frees;
      cpu_lists = length-set s.cpu_lists (cpu_place s k (call_cpu call)) left ∙ rest.lists.shaped.cpu_lists;
      nodes = rest.lists.shaped.nodes;
      checked = rest.lists.shaped.checked.numbers;
      memory = copied_length w (512 * s.frames);
      gone = rest.lists.shaped.gone ∙ sym (length-set s.board (call_object call) (Some held));
      live = length-set s.live k (get_or s.live k 0 + 1) ∙ rest.lists.shaped.live;
    }

    abbrev stock : State
    stock = taken_up s k (call_cpu call) f fs

    stock_lists : lists_of stock k (call_cpu call) ≡ record { current = Some f; free = own_free s f; partial = fs }
    stock_lists = get_or-set_same s.cpu_lists (cpu_place s k (call_cpu call)) (record { current = Some f; free = own_free s f; partial = fs }) no_lists place_below

    gives : (live : Cache) → cache_of s k ≡ Some live → Gives stock live.layout k (call_cpu call) l.worker (call_object call) reply after
    gives live e = record {
      frame = f;
      index = z.head - 1;
      rest = first.0;
      current = ap (λ (x : CpuLists). x.current) stock_lists;
      first = ap (λ (x : CpuLists). x.free) stock_lists ∙ first.1;
      unheld = omega (arith, has_first, consistent.placed f (z.head - 1), object_once (z.head - 1) (slab_of s f));
      address = ap (λ layout. Given (address_of f (z.head - 1) layout)) (layout_of s k live e);
      given = λ i. record s {
        slabs = set s.slabs f (option_map (marked true) (slab_of s f));
        frees = set s.frees f [];
        cpu_lists = cpus_are i;
        board = set s.board (call_object call) (Some (record { frame = f; index = z.head - 1; cache = k; worker = Some l.worker }));
        live = set s.live k (get_or s.live k 0 + 1);
      };
    }
      where
        cpus_are : set s.cpu_lists (cpu_place s k (call_cpu call)) left ≡ set stock.cpu_lists (cpu_place s k (call_cpu call)) (record { current = Some f; free = first.0; partial = (lists_of stock k (call_cpu call)).partial })
        cpus_are = sym (set-set s.cpu_lists (cpu_place s k (call_cpu call)) (record { current = Some f; free = own_free s f; partial = fs }) left)
            ∙ ap (λ fs. set stock.cpu_lists (cpu_place s k (call_cpu call)) (record { current = Some f; free = first.0; partial = fs })) (sym (ap (λ (x : CpuLists). x.partial) stock_lists))

    allocates : AllocatesNamed s place (call_cpu call) l.worker (call_object call) reply after
    allocates = subst (λ o. MatchOption o ((reply ≡ NoSuchCache) × (after ≡ s)) (λ cache. MatchOption (cache_of s cache) ⊥ (λ live. AllocatesFrom s live.layout cache (call_cpu call) l.worker (call_object call) reply after))) (sym is.named) (by (cache_of s k) refl lives)
      where
        by : (o : Option Cache) → cache_of s k ≡ o → is_some o ≡ true → MatchOption o ⊥ (λ live. AllocatesFrom s live.layout k (call_cpu call) l.worker (call_object call) reply after)
        by None e live = false≢true live
        by (Some live) e has_it = from-unchecked (checked_of s k) _ _ is.unchecked
            (subst (λ free. MatchResult (from_free s k (call_cpu call) (batch_of live.layout) free) (λ stocked. Gives stocked live.layout k (call_cpu call) l.worker (call_object call) reply after) (λ bare. AllocatesNew bare live.layout k (call_cpu call) l.worker (call_object call) reply after)) (sym empty)
            (subst (λ o. MatchResult (from_slabs s k (call_cpu call) (batch_of live.layout) o) (λ stocked. Gives stocked live.layout k (call_cpu call) l.worker (call_object call) reply after) (λ bare. AllocatesNew bare live.layout k (call_cpu call) l.worker (call_object call) reply after)) (sym current)
            (subst (λ fs. MatchResult (from_partial s k (call_cpu call) (batch_of live.layout) fs) (λ stocked. Gives stocked live.layout k (call_cpu call) l.worker (call_object call) reply after) (λ bare. AllocatesNew bare live.layout k (call_cpu call) l.worker (call_object call) reply after)) (sym only) (gives live e))))

    takes : AllocatesAlone opening s b system x call place turns b2
    takes = record {
      reply = reply;
      after = after;
      allocates = allocates;
      given = given;
      words = record {
        lists = refl;
        sized = copied_length w (512 * s.frames) ∙ sym rest.lists.shaped.memory;
        words = λ other word h away there plain is_word. sym (copied m system.value system.words _) ∙ resting.contents other word h (sym (get_or-set_other s.board (call_object call) other (Some held) None away) ∙ there) plain is_word;
      };
      known = known_ends s b system x turns told words system.value next.there whole refl ∙ knows_given l.known (call_place call) known.object (call_object call) s.board held after refl on_board object;
      replies = replies_of opening s given b b2 system x turns call reply told words system.value next whole refl refl refl refl same
          (ends_at_rest opening u s given b b2 system (machine words system.value (set system.locals x (rested m told))) rest same refl refl lengths accounted (length-set b.tids n (tid_of b n + 1 * b.step) ∙ rest.beside.tids) refl refl ended says ends
          (whole_cpu m words2 n (cpu_bits v) refl small (whole_slab m words1 f e refl (omega (arith, table1.length, within.1)) fit_e whole1)));
    }
      where
        same : setup_of given b2 ≡ setup_of s b
        same = setup_same s b w system.locals (set s.frees f []) (set s.cpu_lists (cpu_place s k (call_cpu call)) left) (memory_of w (512 * s.frames)) (set s.board (call_object call) (Some held)) s.gone (set s.live k (get_or s.live k 0 + 1)) (set b.tids n (tid_of b n + 1 * b.step))
            (update w.cpu n v) (update w.slab f e) w.memory (set system.locals x (rested m told)) (length-set s.board (call_object call) (Some held))

  -- ---- the only slab

  module _ (none : fs ≡ []) where
    abbrev only_words : List ℕ
    only_words = set system.words (list_base + n) 0

    abbrev only_taken : Local
    only_taken = record loaded { spot = InAlloc LoadKept; hands = bare_hand f ∷ l.hands; string = None }

    one_slab : w.list n ≡ record { front = f; count = 1 }
    one_slab =
        let links = subst (λ fs. Links w.link (w.list n).front fs 0) only cpu_is.partial in
        let count = cpu_is.count ∙ ap (length {A = ℕ}) only ∙ ap (λ fs. length (f ∷ fs)) none in
        λ i. record { front = links.0 i; count = count i }

    only_turn : turn m (machine system.words system.value (set system.locals x loaded)) (own_pick x) ≡ machine only_words system.value (set system.locals x only_taken)
    only_turn = turn_goes m system.words only_words system.value system.locals x loaded loaded only_taken (record { place = ListOf n; op = Swap 0 }) (Word y) next.there refl refl refl refl
        (settle_goes m system.value loaded only_taken (Word y) (ap by_list (sym list_reads ∙ one_slab)) refl refl)
      where
        by_list : ListWord → Turn
        by_list list = goes (record loaded { hands = hands_of_list list l.hands; string = string_of_list list; spot = way_of_list list })

    only_start : (t : System) → alone m x 5 (machine only_words system.value (set system.locals x only_taken)) ≡ t → alone m x 7 system ≡ t
    only_start t then = ap (alone m x 7) (ap (machine system.words system.value) (sym (set-get_or system.locals x idle)))
        ∙ then_turn m x 6 (machine system.words system.value (set system.locals x l)) (machine system.words system.value (set system.locals x loaded)) t turn1
        (then_turn m x 5 (machine system.words system.value (set system.locals x loaded)) (machine only_words system.value (set system.locals x only_taken)) t only_turn then)

    only_says : world_of m system.value only_words ≡ set_list w n no_list_word
    unfolding list_in
    only_says = world_of-list m system.value system.words n 0 begin.table small

    pub takes_only : AllocatesAlone opening s b system x call place 7 (grown b n 1)
    takes_only = takes 7 l.list_word l.put only_words no_list_word only_start (length-set system.words (list_base + n) 0)
        (get_or-set_other system.words (list_base + n) (cpu_base + n) 0 0 (λ e. absurd (omega (arith, e, small))))
        (get_or-set_other system.words (list_base + n) (slab_base + f) 0 0 (λ e. absurd (omega (arith, e, small))))
        (get_or-set_other system.words (list_base + n) (memory_base m + p) 0 0 (λ e. absurd (omega (arith, e, small))))
        only_says (whole_list m system.words n refl small (omega (arith, small, begin.table.length)) rest.whole) begin.between.packed.list_word
        (sym (ap (length {A = ℕ}) none)) (subst (λ fs. Links w.link 0 fs 0) (sym none) refl)

    pub takes_only_gives : is_given takes_only.reply ≡ true
    unfolding takes_only takes
    takes_only_gives = refl

  -- ---- the first of several

  module _ (g : ℕ) (gs : List ℕ) (more : fs ≡ g ∷ gs) where
    abbrev lw : ListWord
    lw = w.list n

    abbrev rest_word : ListWord
    rest_word = record { front = g; count = 0 + (lw.count - 1) }

    abbrev emptied : List ℕ
    emptied = set system.words (list_base + n) 0

    abbrev put_back : List ℕ
    put_back = set system.words (list_base + n) (list_bits rest_word)

    abbrev strung : Local
    strung = record loaded { spot = InAlloc FollowFront; hands = l.hands; string = Some (taken_string f lw.count) }

    abbrev following : Local
    following = record loaded { spot = InPutOnList LoadList OfRest; hands = bare_hand f ∷ l.hands; string = Some (taken_string g (lw.count - 1)) }

    abbrev pushing : Local
    pushing = record following { spot = InPutOnList PushString OfRest; list_word = no_list_word }

    abbrev several_taken : Local
    several_taken = record loaded { spot = InAlloc LoadKept; hands = bare_hand f ∷ l.hands; string = None; list_word = no_list_word; put = l.put + 0 }

    strings : Links w.link lw.front (f ∷ g ∷ gs) 0
    strings = subst (λ fs. Links w.link lw.front fs 0) (only ∙ ap (λ fs. f ∷ fs) more) cpu_is.partial

    counts : lw.count ≡ length (f ∷ g ∷ gs)
    counts = cpu_is.count ∙ ap (length {A = ℕ}) (only ∙ ap (λ fs. f ∷ fs) more)

    many : 2 ≤ lw.count
    many = let c = counts in let two = at_least gs in omega (arith, c, two)
      where
        at_least : (gs : List ℕ) → 2 ≤ length (f ∷ g ∷ gs)
        at_least gs = omega arith

    sturn2 : turn m (machine system.words system.value (set system.locals x loaded)) (own_pick x) ≡ machine emptied system.value (set system.locals x strung)
    sturn2 = turn_goes m system.words emptied system.value system.locals x loaded loaded strung (record { place = ListOf n; op = Swap 0 }) (Word y) next.there refl refl refl refl
        (settle_goes m system.value loaded strung (Word y) (ap by_list (sym list_reads) ∙ (λ i. goes (record loaded { hands = hands i; string = string i; spot = way i }))) refl refl)
      where
        by_list : ListWord → Turn
        by_list list = goes (record loaded { hands = hands_of_list list l.hands; string = string_of_list list; spot = way_of_list list })

        hands : hands_of_list lw l.hands ≡ l.hands
        hands = rw (ne_eqb lw.count 1 (λ e. absurd (omega (arith, e, many)))) refl

        string : string_of_list lw ≡ Some (taken_string f lw.count)
        string = rw (lt-ltb 1 lw.count (omega (arith, many))) (ap (λ front. Some (taken_string front lw.count)) strings.0)

        way : way_of_list lw ≡ InAlloc FollowFront
        way = rw (ne_eqb lw.count 0 (λ e. absurd (omega (arith, e, many))), ne_eqb lw.count 1 (λ e. absurd (omega (arith, e, many)))) refl

    link_there : get_or emptied (link_base m + f) 0 % 2 ^ 16 ≡ g
    link_there = ap (λ x. x % 2 ^ 16) (get_or-set_other system.words (list_base + n) (link_base m + f) 0 0 (λ e. absurd (omega (arith, e, small))) ∙ sym (link-read m system.value system.words f within.1))
        ∙ keeps_small (w.link f) (resting.words.link f) ∙ strings.1.0

    sturn3 : turn m (machine emptied system.value (set system.locals x strung)) (own_pick x) ≡ machine emptied system.value (set system.locals x following)
    sturn3 = turn_goes m emptied emptied system.value system.locals x strung strung following (record { place = LinkOf f; op = Load }) (Word (get_or emptied (link_base m + f) 0)) next.there refl refl (set-get_or emptied (link_base m + f) 0) refl
        (settle_goes m system.value strung following (Word (get_or emptied (link_base m + f) 0)) (ap by_front link_there) refl refl)
      where
        by_front : ℕ → Turn
        by_front g = goes (record loaded { spot = InPutOnList LoadList OfRest; hands = bare_hand f ∷ l.hands; string = Some (taken_string g (lw.count - 1)) })

    empty_list : get_or emptied (list_base + n) 0 ≡ 0
    empty_list = get_or-set_same system.words (list_base + n) 0 0 (omega (arith, small, begin.table.length))

    no_list : list_in 0 ≡ no_list_word
    unfolding list_in
    no_list = refl

    sturn4 : turn m (machine emptied system.value (set system.locals x following)) (own_pick x) ≡ machine emptied system.value (set system.locals x pushing)
    sturn4 = turn_goes m emptied emptied system.value system.locals x following following pushing (record { place = ListOf n; op = Load }) (Word (get_or emptied (list_base + n) 0)) next.there refl refl (set-get_or emptied (list_base + n) 0) refl
        (settle_goes m system.value following pushing (Word (get_or emptied (list_base + n) 0)) (ap (λ y. by_list (list_in y)) empty_list ∙ ap by_list no_list) refl refl)
      where
        by_list : ListWord → Turn
        by_list list = goes (record following { list_word = list; spot = way_of_front (taken_string g (lw.count - 1)) list.front OfRest })

    sturn5 : turn m (machine emptied system.value (set system.locals x pushing)) (own_pick x) ≡ machine put_back system.value (set system.locals x several_taken)
    sturn5 = turn_goes m emptied put_back system.value system.locals x pushing pushing several_taken (record { place = ListOf n; op = Exchange (list_bits no_list_word) (list_bits rest_word) }) Won next.there refl refl
        (ap (λ h. set emptied (list_base + n) (cond {A = ℕ} h (list_bits rest_word) (get_or emptied (list_base + n) 0))) hit ∙ set-set system.words (list_base + n) 0 (list_bits rest_word))
        (ap (λ h. cond {A = Answer} h Won (Lost (get_or emptied (list_base + n) 0))) hit) (settle_goes m system.value pushing several_taken Won refl refl refl)
      where
        hit : eqb (get_or emptied (list_base + n) 0) (list_bits no_list_word) ≡ true
        hit = eq-eqb (get_or emptied (list_base + n) 0) (list_bits no_list_word) empty_list

    several_start : (t : System) → alone m x 5 (machine put_back system.value (set system.locals x several_taken)) ≡ t → alone m x 10 system ≡ t
    several_start t then = ap (alone m x 10) (ap (machine system.words system.value) (sym (set-get_or system.locals x idle)))
        ∙ then_turn m x 9 (machine system.words system.value (set system.locals x l)) (machine system.words system.value (set system.locals x loaded)) t turn1
        (then_turn m x 8 (machine system.words system.value (set system.locals x loaded)) (machine emptied system.value (set system.locals x strung)) t sturn2
        (then_turn m x 7 (machine emptied system.value (set system.locals x strung)) (machine emptied system.value (set system.locals x following)) t sturn3
        (then_turn m x 6 (machine emptied system.value (set system.locals x following)) (machine emptied system.value (set system.locals x pushing)) t sturn4
        (then_turn m x 5 (machine emptied system.value (set system.locals x pushing)) (machine put_back system.value (set system.locals x several_taken)) t sturn5 then))))

    fit_rest : IsListFit rest_word
    fit_rest = (subst (λ g. g < 2 ^ 16) strings.1.0 (resting.words.link f), (let old = (resting.words.list n).1 in omega (arith, old)))

    pub takes_first : AllocatesAlone opening s b system x call place 10 (grown b n 1)
    takes_first = takes 10 no_list_word (l.put + 0) put_back rest_word several_start (length-set system.words (list_base + n) (list_bits rest_word))
        (get_or-set_other system.words (list_base + n) (cpu_base + n) (list_bits rest_word) 0 (λ e. absurd (omega (arith, e, small))))
        (get_or-set_other system.words (list_base + n) (slab_base + f) (list_bits rest_word) 0 (λ e. absurd (omega (arith, e, small))))
        (get_or-set_other system.words (list_base + n) (memory_base m + p) (list_bits rest_word) 0 (λ e. absurd (omega (arith, e, small))))
        (world_of-list m system.value system.words n (list_bits rest_word) begin.table small ∙ ap (set_list w n) (list_in-bits rest_word fit_rest))
        (whole_list_word m system.words n rest_word refl small (omega (arith, small, begin.table.length)) fit_rest rest.whole) (omega arith, omega arith)
        (let c = counts in let e = ap (length {A = ℕ}) more in let d = longer gs in omega (arith, c, e, d))
        (subst (λ fs. Links w.link g fs 0) (sym more) (subst (λ h. Links w.link h (g ∷ gs) 0) strings.1.0 strings.1))
      where
        longer : (gs : List ℕ) → length (f ∷ g ∷ gs) ≡ 1 + length (g ∷ gs)
        longer gs = omega arith

    pub takes_first_gives : is_given takes_first.reply ≡ true
    unfolding takes_first takes
    takes_first_gives = refl

pub only_kept : OnlyPartialSlabsAreTaken
only_kept opening s b system x call place k f rest next is ids empty current only = takes_only opening s b system x call place k f [] rest next is ids empty current only refl

pub first_kept : FirstPartialSlabsAreTaken
first_kept opening s b system x call place k f g gs rest next is ids empty current only = takes_first opening s b system x call place k f (g ∷ gs) rest next is ids empty current only g gs refl
