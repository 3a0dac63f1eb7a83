-- An allocation that takes slabs of its cache's node list: under the list's lock the first is frozen with its whole freelist and the next ones go to the CPU's partial list, and then the first becomes current with the rest.
use Rattle.std.proofs.Common.{◌≡◌, ℕ, suc, ◌+◌, ◌-◌, ◌*◌, ◌/◌, ◌%◌, ◌^◌, ◌<◌, ◌≤◌, eqb, cond, true, false, List, [], ◌∷◌, length, get_or, set, Option, Some, None, inl, inr, refl, ap, sym, ◌∙◌, subst, arith}
use Rattle.std.specs.Prelude.{is_some, IfSome, MatchOption, MatchResult, nat_lt, nat_le, ◌||◌, ◌==◌, take, drop, reverse}
use Rattle.std.specs.Option.{option_map}
use Rattle.std.proofs.lemmas.Bool.{cases_eq, false≢true, eq-eqb, ne_eqb, le-ltb, cond-true, cond-false}
use Rattle.std.proofs.lemmas.List.{get_or-set_same, get_or-set_other, set-get_or, set-set, length-set, length-reverse}
use Rattle.std.proofs.lemmas.List.Elements.{All-set}
use Rattle.slub_common.specs.Times.{times}
use Rattle.slub_cpu_partial.specs.declared.words.ListWord.{ListWord}
use Rattle.slub_cpu_partial.specs.Strings.{list_bits}
use Rattle.slub_trace.specs.Kinds.{is_given}
use Rattle.slub_trace.specs.declared.reply.Reply.{Reply}
use Rattle.slub_trace.specs.declared.reply.Reply.TheVariants.{Given, NoSuchCache}
use Rattle.slub_object_layout.specs.Layout.{address_of}
use Rattle.slub_cache_create.specs.declared.caches.Cache.{Cache}
use Rattle.slub_words.specs.declared.cpu.CpuWord.{CpuWord}
use Rattle.slub_words.specs.declared.slab.SlabWord.{SlabWord}
use Rattle.slub_words.specs.Words.{cpu_bits, slab_bits}
use Rattle.slub_lists.specs.declared.lists.Slab.{Slab}
use Rattle.slub_lists.specs.declared.lists.CpuLists.{CpuLists}
use Rattle.slub_lists.specs.declared.lists.Held.{Held}
use Rattle.slub_lists.specs.State.{State}
use Rattle.slub_lists.specs.Alloc.{lists_of, no_lists, cache_of, checked_of, cpu_place, slab_of, own_free, marked, taken_up, with_node as with_node_list, from_free, from_slabs, from_partial, from_node, batch_of, AllocatesNew, Gives, node_of}
use Rattle.slub_lists.specs.Named.{AllocatesNamed, AllocatesFrom}
use Rattle.slub_lists.specs.Coherent.{IsConsistent, IsAccounted, held_under}
use Rattle.slub_lists.specs.Places.{layout_at, pointer_at as pointer_in}
use Rattle.slub_lists.proofs.Accounted.{accounted-with_held}
use Rattle.slub_lists.proofs.Coherence.{place-inside}
use Rattle.slub_lists.proofs.Giving.{from-unchecked}
use Rattle.slub_lists.proofs.Places.{objects-few, own-object, pointer-inside, live-of-slab}
use Rattle.slub_core.specs.declared.call.Call.{Call}
use Rattle.slub_core.specs.declared.local.Hand.{Hand}
use Rattle.slub_core.specs.declared.local.Known.{Known}
use Rattle.slub_core.specs.declared.spot.Spot.{Spot}
use Rattle.slub_core.specs.declared.spot.Spot.TheVariants.{Between, InAlloc}
use Rattle.slub_core.specs.declared.spot.AllocSpot.TheVariants.{LoadCpu, LoadReady, TakeList, LockNode, PopNode, LoadPopped, FreezePopped, GiveNode}
use Rattle.slub_core.specs.declared.step.Answer.{Answer}
use Rattle.slub_core.specs.declared.step.Answer.TheVariants.{Word, Done, Won, Lost}
use Rattle.slub_core.specs.declared.step.Op.TheVariants.{Load, Store, Exchange, Swap}
use Rattle.slub_core.specs.declared.step.Place.TheVariants.{CpuOf, SlabOf, ListOf, LockOf}
use Rattle.slub_core.specs.Calls.{call_kind, call_cpu, call_object, call_place}
use Rattle.slub_core.specs.Setup.{Setup, cpu_number, pointer_at, hardened, node_lock}
use Rattle.slub_core.specs.Words.{cpu_in, slab_in, cpu_base, slab_base, memory_base, list_in, list_base, no_list_word}
use Rattle.slub_core.specs.World.{World, LockValue, Node, update, set_cpu, set_slab, set_lock, set_value, pointer, IsChain, Links, world_from, world_of, one_if, frames_in}
use Rattle.slub_core.specs.Local.{Local, Turn, nobody, hand_from, answered, goes, bare_hand}
use Rattle.slub_core.specs.Alloc.{is_spent, way_of_word, told_of_word, hands_of_list, string_of_list, way_of_list, way_of_popped, way_of_node, asks_for_another, pop_node, unlisted_word}
use Rattle.slub_core.specs.Replies.{names_object}
use Rattle.slub_core.specs.Steps.{begun, rested, advance_at}
use Rattle.slub_core.specs.Run.{System, idle, turn}
use Rattle.slub_core.specs.Law.{IsCoherentSystem}
use Rattle.slub_core.specs.Fresh.{IsWorded}
use Rattle.slub_core.proofs.Chains.{IsChain-first, Leads-small}
use Rattle.slub_core.proofs.Lists.{times-first}
use Rattle.slub_core.proofs.Packed.{IsCpuFit, IsSlabFit, cpu_in-bits, slab_in-bits}
use Rattle.slub_core.proofs.Update.{update_same}
use Rattle.slub_core.proofs.StepWords.{IsTable, world_of-cpu, world_of-slab, world_of-lock, world_of-value, cpu-read, slab-read, memory-read, list-read, lock-read, value_of}
use Rattle.slub_law_opening.specs.Opening.{Beside, setup_of, tid_of, cpu_at}
use Rattle.slub_law_opening.specs.Rests.{IsBetween, IsCpuOf, IsFreelistOf, Rests, named as named_in, times_named, slab_at}
use Rattle.slub_law_opening.specs.Closing.{HasLengths}
use Rattle.slub_law_opening.proofs.Cpus.{cpu-bare}
use Rattle.slub_law_opening.proofs.Words.{chain-empty, chain-some}
use Rattle.slub_law_alone.specs.Alone.{own_pick, alone, worker_at, IsAtRest, IsNext, HasIds}
use Rattle.slub_law_alone.specs.Laws.{IsAlloc, AllocatesAlone}
use Rattle.slub_law_alone.proofs.Bits.{bits_in, keeps_small, object_once, memory_of, copied, copied_length, whole_cpu, whole_slab, whole_lock, current_none}
use Rattle.slub_law_alone.proofs.Changed.{setup_same, slab_frozen}
use Rattle.slub_law_alone.proofs.CpuWords.{cpus_relisted}
use Rattle.slub_law_alone.proofs.FastAlloc.{begin_alloc}
use Rattle.slub_law_alone.proofs.Install.{install_turns}
use Rattle.slub_law_alone.proofs.FastFree.{layout_of}
use Rattle.slub_law_alone.proofs.Ended.{alone_keeps, ends_at_rest, replies_of}
use Rattle.slub_law_alone.proofs.Knows.{known_ends, knows_given}
use Rattle.slub_law_alone.proofs.Names.{named_other, named_held, named_new}
use Rattle.slub_law_alone.proofs.NewSlabSearch.{turn_changes, settle_does}
use Rattle.slub_common.proofs.Times.{times-take-drop}
use Rattle.slub_object_layout.specs.declared.layout.Layout.{Layout}
use Rattle.slub_law_alone.specs.Node.{NodeSlabsAreTaken}
use Rattle.slub_law_alone.proofs.FullFreed.{links_same}
use Rattle.slub_law_alone.proofs.InPlace.{update_back}
use Rattle.slub_law_alone.proofs.NodeBatch.{batch_turns, batch_turns_are, pop_quiet, pops, looks, Pushed, batch_goes}
use Rattle.slub_law_alone.proofs.NodeLists.{node_slabs, node_guarded, node_other, values_set, nodes_set}
use Rattle.slub_law_alone.proofs.OnNode.{IsOnNode, node_once, on_node}
use Rattle.slub_law_alone.proofs.Pushed.{unlisted_all, linked_all, pushed_all, pushed_world, each_unlisted, linked_out, links_pushed, pushed_count}
use Rattle.slub_law_alone.proofs.Turns.{machine, turn_goes, settle_goes, then_turn}
use Rattle.slub_law_alone.proofs.Workers.{at_front, once_named, IsWithCalls, rested_calls}
use Rattle.slub_law_alone.proofs.Start.{IsStart, starts}
use Rattle.slub_calls.specs.Changes.{grown}
use Rattle.slub_calls.proofs.ChangeNumbers.{cpu_here}

module _ (opening : World) (s : State) (b : Beside) (system : System) (x : ℕ) (call : Call) (place k f : ℕ) (others : List ℕ) (rest : IsAtRest opening s b system) (next : IsNext system x call) (is : IsAlloc s call place k)
    (ids : HasIds b (cpu_number k (call_cpu call)) 1) (current : (lists_of s k (call_cpu call)).current ≡ None) (none : (lists_of s k (call_cpu call)).partial ≡ []) (nodes : node_of s k ≡ f ∷ others) where
  abbrev m : Setup
  m = setup_of s b

  abbrev w : World
  w = world_of m system.value system.words

  abbrev l : Local
  l = worker_at system x

  abbrev n : ℕ
  n = cpu_number k (call_cpu call)

  abbrev c : CpuWord
  c = w.cpu n

  abbrev z : SlabWord
  z = w.slab f

  abbrev lists : CpuLists
  lists = lists_of s k (call_cpu call)

  -- the slabs that go to the partial list, and those that stay
  abbrev ts : List ℕ
  ts = take (batch_of (layout_at s k)) others

  abbrev fs : List ℕ
  fs = drop (batch_of (layout_at s k)) others

  begin : IsStart opening s b system x call
  begin = starts opening s b system x call rest next

  consistent : IsConsistent s
  consistent = begin.consistent

  resting : Rests s b w system.locals
  resting = rest.rests.rests

  lives : m.lives k ≡ true
  lives = subst (λ o. IfSome o (λ k. m.lives k ≡ true)) is.asks begin.may.cache

  inside : k < 32
  inside = begin.setup.live k lives

  cpu : call_cpu call < s.cpus
  cpu = begin.may.cpu

  small : n < 512
  small = omega (arith, inside, cpu, begin.few)

  number : n / 16 ≡ k
  number = omega (arith, cpu, begin.few)

  here : cpu_at s n ≡ lists
  here = cpu_here s k (call_cpu call) cpu begin.few

  cpu_is : IsCpuOf b w n lists
  cpu_is = subst (IsCpuOf b w n) here (resting.cpu n small)

  names : names_object (call_kind call) ≡ true
  names = ap names_object is.kind

  empty : lists.free ≡ []
  empty = sym (ap (λ (x : CpuLists). x.free) here) ∙ cpu-bare s n consistent (ap (λ (x : CpuLists). x.current) here ∙ current)

  bare : c.frame ≡ 0
  bare = current_none c.frame (sym cpu_is.current ∙ current)

  head_none : c.head ≡ 0
  head_none = chain-empty (pointer w (n / 16) c.frame) c.head lists.free cpu_is.free (ap (length {A = ℕ}) empty)

  list_is : w.list n ≡ no_list_word
  list_is = λ i. record { front = front_is i; count = count_is i }
    where
      count_is : (w.list n).count ≡ 0
      count_is = cpu_is.count ∙ ap (length {A = ℕ}) none

      front_is : (w.list n).front ≡ 0
      front_is = subst (λ fs. Links w.link (w.list n).front fs 0) none cpu_is.partial

  -- ---- the slab

  place_below : cpu_place s k (call_cpu call) < length s.cpu_lists
  place_below = place-inside s k (call_cpu call) rest.lists.shaped inside cpu

  nodes_below : k < length s.nodes
  nodes_below = omega (arith, inside, rest.lists.shaped.nodes)

  listed : (g : ℕ) → 1 ≤ times g (node_of s k) → IsOnNode s w k g
  listed g = on_node s b w system.locals begin.front.stands.chains k g consistent resting begin.front.stands.listed.shaped

  -- each slab of the list is the first one, one of those that go or one of those that stay
  parts : (g : ℕ) → times g (node_of s k) ≡ one_if (eqb f g) + times g ts + times g fs
  parts g = let t = times-first g f others in let d = times-take-drop g (batch_of (layout_at s k)) others in ap (times g) nodes ∙ (omega (arith, t, d))

  first_one : one_if (eqb f f) ≡ 1
  first_one = ap one_if (eq-eqb f f refl)

  f_not_taken : times f ts ≡ 0
  f_not_taken = omega (arith, parts f, node_once s k f consistent, first_one)

  f_not_left : times f fs ≡ 0
  f_not_left = omega (arith, parts f, node_once s k f consistent, first_one)

  taken_once : (g : ℕ) → 1 ≤ times g ts → (1 ≤ times g (node_of s k)) × (times g fs ≡ 0)
  taken_once g has = (omega (arith, parts g, has), omega (arith, parts g, node_once s k g consistent, has))

  mine : IsOnNode s w k f
  mine = listed f (omega (arith, parts f, first_one))

  within : (0 < f) × (f < s.frames)
  within = mine.within

  cache : z.cache ≡ k
  cache = mine.cache

  own : IsChain (pointer w k f) z.head (own_free s f)
  own = subst (λ q. IsChain (pointer w q f) z.head (own_free s f)) cache (resting.own f).chain

  head : 1 ≤ z.head
  head = chain-some (pointer w k f) z.head (own_free s f) own mine.stocked

  first : (ys : List ℕ) × (own_free s f ≡ (z.head - 1) ∷ ys) × IsChain (pointer w k f) (pointer w k f (z.head - 1)) ys
  first = IsChain-first (pointer w k f) z.head (own_free s f) head own

  has_first : 1 ≤ times (z.head - 1) (own_free s f)
  has_first =
      let t = times-first (z.head - 1) (z.head - 1) first.0 in
      let o : one_if (eqb (z.head - 1) (z.head - 1)) ≡ 1 = ap one_if (eq-eqb (z.head - 1) (z.head - 1) refl) in
      subst (λ free. 1 ≤ times (z.head - 1) free) (sym first.1) (omega (arith, t, o))

  abbrev p : ℕ
  p = pointer_at m k f (z.head - 1)

  p_inside : p < 512 * m.frames
  p_inside =
      let r = own-object s f (z.head - 1) consistent has_first in
      let one : r.0 ≡ mine.slab = injected (sym r.1 ∙ mine.there) in
      let layout : pointer_in (layout_at s r.0.cache) f (z.head - 1) ≡ p = ap (λ (x : Slab). pointer_in (layout_at s x.cache) f (z.head - 1)) one ∙ ap (λ q. pointer_in (layout_at s q) f (z.head - 1)) mine.of_cache in
      omega (arith, pointer-inside s f (z.head - 1) r.0 consistent r.1 r.2, layout, rest.lists.shaped.memory)
    where
      injected : {x y : Slab} → Some x ≡ Some y → x ≡ y
      injected e = cc

  member : (j : ℕ) → 1 ≤ times j first.0 → suc j < 2 ^ 16
  member j has =
      let t = times-first j (z.head - 1) first.0 in
      let r = own-object s f j consistent (subst (λ free. 1 ≤ times j free) (sym first.1) (omega (arith, t, has))) in
      let few = objects-few s f r.0 consistent r.1 in
      omega (arith, r.2, few.1)

  -- ---- the node list

  abbrev j : ℕ
  j = node_lock k

  abbrev a : ℕ
  a = l.worker + 1

  abbrev others_left : ℕ → LockValue
  others_left = update system.value j (Node others)

  abbrev later : ℕ → LockValue
  later = update system.value j (Node fs)

  j_small : j < 33
  j_small = omega (arith, inside)

  value_is : w.value ≡ system.value
  value_is = value_of m system.value system.words

  node_there : w.value j ≡ Node (f ∷ others)
  node_there = resting.values j j_small ∙ node_guarded s k lives is.unchecked ∙ ap Node nodes

  node_was : frames_in (system.value j) ≡ f ∷ others
  node_was = ap frames_in (sym (ap (λ (value : ℕ → LockValue). value j) value_is) ∙ node_there)

  -- ---- the turns

  abbrev asked : Local
  asked = record l { spot = InAlloc LoadCpu; cache = k; cpu = call_cpu call; place = call_place call; fast = false; turn = 0; count = 0 }

  abbrev loaded : Local
  loaded = record asked { cpu_word = c; spot = InAlloc TakeList }

  abbrev listless : Local
  listless = record loaded { string = None; spot = InAlloc LockNode }

  abbrev popping : Local
  popping = record listless { put = 0; spot = InAlloc PopNode }

  abbrev popped : Local
  popped = record popping { hands = bare_hand f ∷ l.hands; spot = InAlloc LoadPopped }

  abbrev seen : Local
  seen = record popped { slab_word = z; spot = InAlloc FreezePopped }

  abbrev based : Local
  based = record seen { hands = l.hands }

  abbrev hand : Hand
  hand = hand_from f z.head

  abbrev e : SlabWord
  e = record z { head = 0; inuse = z.objects; frozen = true; listed = false }

  abbrev q : ℕ
  q = get_or system.words (cpu_base + n) 0

  abbrev y : ℕ
  y = get_or system.words (list_base + n) 0

  abbrev r : ℕ
  r = get_or system.words (slab_base + f) 0

  abbrev words1 : List ℕ
  words1 = set system.words j a

  abbrev words2 : List ℕ
  words2 = set words1 (slab_base + f) (slab_bits e)

  cpu_reads : c ≡ cpu_in q
  cpu_reads = cpu-read m system.value system.words n small

  list_reads : w.list n ≡ list_in y
  list_reads = list-read m system.value system.words n small

  list_zero : y ≡ 0
  list_zero = sym (rest.whole.list n small) ∙ ap list_bits (sym list_reads ∙ list_is)

  slab_reads : z ≡ slab_in r
  slab_reads = slab-read m system.value system.words f within.1

  lock_free : w.lock j ≡ 0
  lock_free = resting.locks j j_small

  lock_hit : eqb (get_or system.words j 0) 0 ≡ true
  lock_hit = eq-eqb (get_or system.words j 0) 0 (sym (lock-read m system.value system.words j j_small) ∙ lock_free)

  slab_there : get_or words1 (slab_base + f) 0 ≡ r
  slab_there = get_or-set_other system.words j (slab_base + f) a 0 (λ e. absurd (omega (arith, e, j_small)))

  slab_hit : eqb (get_or words1 (slab_base + f) 0) (slab_bits z) ≡ true
  slab_hit = eq-eqb (get_or words1 (slab_base + f) 0) (slab_bits z) (slab_there ∙ sym (rest.whole.slab f within.1) ∙ ap slab_bits (sym slab_reads))

  spent : is_spent m c ≡ false
  spent = le-ltb (4294967295 - 2 * b.step) c.tid (omega (arith, ids, cpu_is.tid, rest.beside.step.1))

  begins : begun m false l ≡ asked
  begins = begin_alloc m l call next.calls k begin.between.between next.todo is.kind is.asks (ap is_some is.unchecked)

  turn1 : turn m (machine system.words system.value (set system.locals x l)) (own_pick x) ≡ machine system.words system.value (set system.locals x loaded)
  turn1 = turn_goes m system.words system.words system.value system.locals x l asked loaded (record { place = CpuOf n; op = Load }) (Word q) next.there begins refl (set-get_or system.words (cpu_base + n) 0) refl
      (settle_goes m system.value asked loaded (Word q) leads refl refl)
    where
      by_word : CpuWord → Turn
      by_word z = record { local = record asked { cpu_word = z; spot = way_of_word m false z }; reply = told_of_word m false z }

      way : way_of_word m false c ≡ InAlloc TakeList
      way = rw (spent, eq-eqb c.head 0 head_none, eq-eqb c.frame 0 bare) refl

      says : told_of_word m false c ≡ None
      says = rw spent refl

      leads : advance_at m system.value asked (InAlloc LoadCpu) (Word q) ≡ goes loaded
      leads = ap by_word (sym cpu_reads) ∙ (λ i. record { local = record asked { cpu_word = c; spot = way i }; reply = says i })

  turn2 : turn m (machine system.words system.value (set system.locals x loaded)) (own_pick x) ≡ machine system.words system.value (set system.locals x listless)
  turn2 = turn_goes m system.words system.words system.value system.locals x loaded loaded listless (record { place = ListOf n; op = Swap 0 }) (Word y) next.there refl refl
      (ap (set system.words (list_base + n)) (sym list_zero) ∙ set-get_or system.words (list_base + n) 0) refl (settle_goes m system.value loaded listless (Word y) leads refl refl)
    where
      by_list : ListWord → Turn
      by_list list = record { local = record loaded { hands = hands_of_list list l.hands; string = string_of_list list; spot = way_of_list list }; reply = None }

      leads : advance_at m system.value loaded (InAlloc TakeList) (Word y) ≡ goes listless
      leads = ap by_list (sym list_reads ∙ list_is)

  -- the lock is taken, and at once the slab
  turn3 : turn m (machine system.words system.value (set system.locals x listless)) (own_pick x) ≡ machine words1 others_left (set system.locals x popped)
  turn3 = turn_changes m system.words words1 system.value others_left system.locals x listless listless popped (record { place = LockOf j; op = Exchange 0 a }) Won next.there refl refl
      (ap (λ h. set system.words j (cond {A = ℕ} h a (get_or system.words j 0))) lock_hit) (ap (λ h. cond {A = Answer} h Won (Lost (get_or system.words j 0))) lock_hit)
      (settle_does m system.value others_left listless popping popped Won None refl (ap (pop_node m system.value popping) node_was ∙ takes_it) refl refl)
    where
      asks : asks_for_another m popping ≡ true
      asks = ap (λ (hands : List Hand). (length hands == 0) || nat_le 0 ((m.layout k).cpu_partial_slabs / 2)) begin.between.hands

      takes_it : pop_node m system.value popping (f ∷ others) ≡ record { value = others_left; local = popped; reply = None }
      takes_it = cond-true (asks_for_another m popping) _ _ asks

  turn4 : turn m (machine words1 others_left (set system.locals x popped)) (own_pick x) ≡ machine words1 others_left (set system.locals x seen)
  turn4 = turn_goes m words1 words1 others_left system.locals x popped popped seen (record { place = SlabOf f; op = Load }) (Word (get_or words1 (slab_base + f) 0)) next.there refl refl (set-get_or words1 (slab_base + f) 0) refl
      (settle_goes m others_left popped seen (Word (get_or words1 (slab_base + f) 0)) (ap (λ y. by_word (slab_in y)) slab_there ∙ ap by_word (sym slab_reads) ∙ ap by_spot way) refl refl)
    where
      by_word : SlabWord → Turn
      by_word z = goes (record popped { slab_word = z; spot = way_of_popped (bare_hand f ∷ l.hands) })

      by_spot : Spot → Turn
      by_spot spot = goes (record popped { slab_word = z; spot = spot })

      way : way_of_popped (bare_hand f ∷ l.hands) ≡ InAlloc FreezePopped
      way = ap (λ (hands : List Hand). way_of_popped (bare_hand f ∷ hands)) begin.between.hands

  abbrev looked : System
  looked = looks m system.locals x based hand system.value next.there begin.between.hands words2 others z l.list_word 0

  -- the slab is frozen, and the worker looks for another
  turn5 : turn m (machine words1 others_left (set system.locals x seen)) (own_pick x) ≡ looked
  turn5 =
      let again = pops m system.locals x based hand system.value next.there begin.between.hands z l.list_word 0 in
      let c = pop_node m others_left again others in
      let quiet = pop_quiet m others_left again others in
      turn_changes m words1 words2 others_left c.value system.locals x seen seen c.local (record { place = SlabOf f; op = Exchange (slab_bits z) (slab_bits e) }) Won next.there refl refl
      (ap (λ h. set words1 (slab_base + f) (cond {A = ℕ} h (slab_bits e) (get_or words1 (slab_base + f) 0))) slab_hit) (ap (λ h. cond {A = Answer} h Won (Lost (get_or words1 (slab_base + f) 0))) slab_hit)
      (settle_does m others_left c.value seen again c.local Won None refl (ap (pop_node m others_left again) (ap frames_in (update_same system.value j (Node others))) ∙ quiet.told) quiet.waits quiet.rests)

  -- ---- the next slabs go to the partial list

  table1 : IsTable m words1
  table1 = record { length = length-set system.words j a ∙ begin.table.length; locks = refl; cpu_words = refl; frames = begin.table.frames; objects = begin.table.objects }

  table2 : IsTable m words2
  table2 = record { length = length-set words1 (slab_base + f) (slab_bits e) ∙ table1.length; locks = refl; cpu_words = refl; frames = begin.table.frames; objects = begin.table.objects }

  fit_e : IsSlabFit e
  fit_e = (omega arith, (resting.words.slab f).2, (resting.words.slab f).2, (resting.words.slab f).3)

  few_slabs : (layout_at s k).cpu_partial_slabs ≤ 8192
  few_slabs = subst (λ q. (layout_at s q).cpu_partial_slabs ≤ 8192) mine.of_cache (live-of-slab s f mine.slab consistent mine.there).1.cpu_partial_slabs

  list_there : get_or words2 (list_base + n) 0 ≡ list_bits no_list_word
  list_there = get_or-set_other words1 (slab_base + f) (list_base + n) (slab_bits e) 0 (λ e. absurd (omega (arith, e, small))) ∙ get_or-set_other system.words j (list_base + n) a 0 (λ e. absurd (omega (arith, e, j_small))) ∙ list_zero

  pushed : Pushed m system.locals x based hand system.value next.there begin.between.hands words2 looked fs ts no_list_word
  pushed = batch_goes m system.locals x based hand system.value next.there begin.between.hands (batch_of (layout_at s k)) 0 words2 others z l.list_word no_list_word (omega arith) (omega (arith, few_slabs)) (omega (arith, rest.lists.shaped.frames.1)) small table2
      (whole_slab m words1 f e refl (omega (arith, table1.length, within.1)) fit_e (whole_lock m system.words j a j_small rest.whole)) list_there (omega arith, omega arith) (resting.words.slab f) begin.between.packed.list_word
      (λ g has. (listed g (let t = times-first g f others in subst (λ fs. 1 ≤ times g fs) (sym nodes) (omega (arith, t, has)))).within.1)

  abbrev holding : Local
  holding = record based { slab_word = pushed.slab_word; list_word = pushed.list_word; put = pushed.put }

  abbrev giving : Local
  giving = record holding { spot = InAlloc GiveNode; hands = hand ∷ l.hands }

  abbrev ready : Local
  ready = record holding { spot = InAlloc LoadReady; hands = hand ∷ l.hands }

  abbrev words3 : List ℕ
  words3 = set pushed.after j 0

  turn6 : turn m (machine pushed.after later (set system.locals x giving)) (own_pick x) ≡ machine words3 later (set system.locals x ready)
  turn6 = turn_goes m pushed.after words3 later system.locals x giving giving ready (record { place = LockOf j; op = Store 0 }) Done next.there refl refl refl refl
      (settle_goes m later giving ready Done (ap by_spot way) refl refl)
    where
      by_spot : Spot → Turn
      by_spot spot = goes (record giving { spot = spot })

      way : way_of_node (hand ∷ l.hands) ≡ InAlloc LoadReady
      way = ap (λ (hands : List Hand). way_of_node (hand ∷ hands)) begin.between.hands

  -- ---- the words once the lock is given back

  abbrev listing : ListWord
  listing = pushed_all no_list_word ts

  abbrev slabs : ℕ → SlabWord
  slabs = unlisted_all (update w.slab f e) ts

  abbrev links : ℕ → ℕ
  links = linked_all w.link 0 ts

  words2_says : world_of m system.value words2 ≡ record w { slab = update w.slab f e; lock = update w.lock j a }
  words2_says = world_of-slab m system.value words1 f (slab_bits e) table1 within.1
      ∙ ap (λ w. set_slab w f (slab_in (slab_bits e))) (world_of-lock m system.value system.words j a begin.table j_small)
      ∙ ap (set_slab (set_lock w j a) f) (slab_in-bits e fit_e)

  value_later : later ≡ update w.value j (Node fs)
  value_later = ap (λ (g : ℕ → LockValue). update g j (Node fs)) (sym value_is)

  lock_says : world_of m later words3 ≡ record w { list = update w.list n listing; slab = slabs; link = links; value = update w.value j (Node fs) }
  lock_says = world_of-value m system.value later words3
      ∙ ap (λ (w : World). record w { value = later }) (world_of-lock m system.value pushed.after j 0 pushed.table j_small ∙ ap (λ w. set_lock w j 0) (pushed.says ∙ ap (λ w. pushed_world n w no_list_word ts) words2_says))
      ∙ (λ i. record w { list = update w.list n listing; slab = slabs; link = links; lock = update_back w.lock j a 0 lock_free i; value = value_later i })

  -- ---- the last three turns

  abbrev follows : ℕ
  follows = hardened k p (get_or words3 (memory_base m + p) 0) % 2 ^ 16

  follows_is : follows ≡ pointer w k f (z.head - 1)
  unfolding world_of world_from
  follows_is =
      ap (λ y. hardened k p y % 2 ^ 16) (sym (memory-read m later words3 p p_inside) ∙ ap (λ (w : World). w.memory p) lock_says)
      ∙ keeps_small (pointer w k f (z.head - 1)) (Leads-small (pointer w k f) (pointer w k f (z.head - 1)) first.0 member first.2)

  abbrev v : CpuWord
  v = record { tid = c.tid + b.step; frame = f; head = follows }

  abbrev words : List ℕ
  words = set words3 (cpu_base + n) (cpu_bits v)

  abbrev known : Known
  known = record { object = (get_or l.known (call_place call) nobody).object; frame = f; index = z.head - 1; cache = k; held = true }

  abbrev has : Local
  has = record holding { spot = Between; cpu_word = c; known = set l.known (call_place call) known }

  abbrev reply : Reply
  reply = Given (address_of f (z.head - 1) (layout_at s k))

  abbrev told : Local
  told = answered has reply

  abbrev final : System
  final = machine words later (set system.locals x (rested m told))

  abbrev turns : ℕ
  turns = 9 + 5 * length ts

  abbrev more : ℕ
  more = batch_turns ts 4

  reads_c : get_or words3 (cpu_base + n) 0 ≡ cpu_bits c
  reads_c = sym (bits_in (get_or words3 (cpu_base + n) 0)) ∙ ap cpu_bits (sym (cpu-read m later words3 n small) ∙ ap (λ (w : World). w.cpu n) lock_says)

  whole : alone m x turns system ≡ final
  whole = ap (λ t. alone m x t system) (let t = batch_turns_are ts 4 in let e : turns ≡ suc (suc (suc (suc (suc more)))) = omega (arith, t) in e)
      ∙ ap (alone m x (suc (suc (suc (suc (suc more)))))) (ap (machine system.words system.value) (sym (set-get_or system.locals x idle)))
      ∙ then_turn m x (suc (suc (suc (suc more)))) (machine system.words system.value (set system.locals x l)) (machine system.words system.value (set system.locals x loaded)) final turn1
      (then_turn m x (suc (suc (suc more))) (machine system.words system.value (set system.locals x loaded)) (machine system.words system.value (set system.locals x listless)) final turn2
      (then_turn m x (suc (suc more)) (machine system.words system.value (set system.locals x listless)) (machine words1 others_left (set system.locals x popped)) final turn3
      (then_turn m x (suc more) (machine words1 others_left (set system.locals x popped)) (machine words1 others_left (set system.locals x seen)) final turn4
      (then_turn m x more (machine words1 others_left (set system.locals x seen)) looked final turn5
      (pushed.ran 4 final (then_turn m x 3 (machine pushed.after later (set system.locals x giving)) (machine words3 later (set system.locals x ready)) final turn6
      (install_turns m words3 later system.locals x holding l.hands f z.head c next.there reads_c (resting.words.cpu n) bare spent)))))))

  -- ---- where they end

  ended : IsCoherentSystem m opening final
  ended = subst (IsCoherentSystem m opening) whole (alone_keeps m opening x turns system rest.coherent)

  fit : IsCpuFit v
  fit = (omega (arith, ids, cpu_is.tid), omega (arith, within.1, rest.lists.shaped.frames.1), omega arith)

  table3 : IsTable m words3
  table3 = record { length = length-set pushed.after j 0 ∙ pushed.table.length; locks = refl; cpu_words = refl; frames = begin.table.frames; objects = begin.table.objects }

  -- the same with the node list of before
  abbrev frozen : World
  frozen = record w { cpu = update w.cpu n v; list = update w.list n listing; slab = slabs; link = links }

  abbrev u : World
  u = set_value frozen j (Node fs)

  says : world_of m later words ≡ u
  says = world_of-cpu m later words3 n (cpu_bits v) table3 small
      ∙ ap (λ w. set_cpu w n (cpu_in (cpu_bits v))) lock_says
      ∙ ap (set_cpu (record w { list = update w.list n listing; slab = slabs; link = links; value = update w.value j (Node fs) }) n) (cpu_in-bits v fit)

  abbrev left : CpuLists
  left = record { current = Some f; free = first.0; partial = reverse ts }

  abbrev held : Held
  held = record { frame = f; index = z.head - 1; cache = k; worker = Some l.worker }

  abbrev after : State
  after = record s { slabs = set s.slabs f (option_map (marked true) (slab_of s f)); frees = set s.frees f []; cpu_lists = set s.cpu_lists (cpu_place s k (call_cpu call)) left; nodes = set s.nodes k fs; board = set s.board (call_object call) (Some held); live = set s.live k (get_or s.live k 0 + 1) }

  abbrev given : State
  given = record after { memory = memory_of w (512 * s.frames) }

  abbrev b2 : Beside
  b2 = grown b n 1

  calls : IsWithCalls told (rested m told)
  calls = rested_calls m told refl

  known_is : (rested m told).known ≡ set l.known (call_place call) known
  known_is = ap (λ (l : Local). l.known) calls.same

  worker_is : (rested m told).worker ≡ l.worker
  worker_is = ap (λ (l : Local). l.worker) calls.same

  object : known.object ≡ call_object call
  object = begin.may.known names

  on_board : call_object call < length s.board
  on_board = (begin.may.object names).1

  once : (o : ℕ) → times_named u (set system.locals x (rested m told)) o ≤ 1
  once o = subst (λ w. times_named w (set system.locals x (rested m told)) o ≤ 1) says (once_named m opening final ended o)

  unused : held_under s (call_object call) ≡ None
  unused = resting.named (call_object call) ∙ named_new w system.locals x (call_place call) (rested m told) known next.there (begin.may.place names) known_is refl (begin.may.new is.kind) (call_object call) object (once (call_object call))

  frees_below : f < length s.frees
  frees_below = omega (arith, within.1, rest.lists.shaped.frees)

  worker_rests : IsBetween w.setup (rested m told)
  worker_rests = subst (IsBetween w.setup) (sym calls.same) (record {
    between = refl;
    hands = begin.between.hands;
    string = refl;
    run = begin.between.run;
    packed = record { cpu_word = resting.words.cpu n; slab_word = pushed.slab_fit; list_word = pushed.list_fit; next = begin.between.packed.next };
    cpu = subst (λ (m : Setup). call_cpu call < m.cpus) (sym resting.setup) begin.may.cpu;
    numbers = All-set (λ (k : Known). k.object < w.setup.objects) l.known (call_place call) known (subst (λ (m : Setup). known.object < m.objects) (sym resting.setup) (omega (arith, object, on_board))) begin.between.numbers;
    some = All-set (λ (k : Known). k.held ≡ true → 1 ≤ k.object) l.known (call_place call) known (λ _. omega (arith, object, (begin.may.object names).0)) begin.between.some;
  })

  -- a fact at each slab word
  at_word : (P : ℕ → SlabWord → Type 0) → P f e → ((g : ℕ) → (g ≡ f → ⊥) → 1 ≤ times g ts → P g (unlisted_word (w.slab g))) → ((g : ℕ) → (g ≡ f → ⊥) → times g ts ≡ 0 → P g (w.slab g)) → (g : ℕ) → P g (slabs g)
  at_word = each_unlisted w.slab f e ts f_not_taken

  own_ends : (g : ℕ) → IsFreelistOf u g (get_or (set s.frees f []) g [])
  own_ends g = let at = at_word HasFreelist here (λ g away has. there g away) (λ g away none. there g away) g in record { chain = at.0; in_use = at.1 }
    where
      HasFreelist : ℕ → SlabWord → Type 0
      HasFreelist g c = let free = get_or (set s.frees f []) g [] in IsChain (pointer w c.cache g) c.head free × (c.inuse + length free ≡ c.objects)

      here : HasFreelist f e
      here = subst (λ free. IsChain (pointer w z.cache f) 0 free × (z.objects + length free ≡ z.objects)) (sym (get_or-set_same s.frees f [] [] frees_below)) (refl, omega arith)

      there : (g : ℕ) → (g ≡ f → ⊥) → HasFreelist g (w.slab g)
      there g away = let c = w.slab g in subst (λ free. IsChain (pointer w c.cache g) c.head free × (c.inuse + length free ≡ c.objects)) (sym (get_or-set_other s.frees f g [] [] away)) ((resting.own g).chain, (resting.own g).in_use)

  slabs_below : f < length s.slabs
  slabs_below = omega (arith, within.1, rest.lists.shaped.slabs)

  -- a slab by its word
  abbrev with_word : SlabWord → World
  with_word c = record w { slab = λ (g : ℕ). c }

  slabs_are : (g : ℕ) → slab_of given g ≡ slab_at u g
  slabs_are g = at_word (λ g c. slab_of given g ≡ slab_at (with_word c) g) here (λ g away has. there g away) (λ g away none. there g away) g ∙ sym (node_slabs frozen j (f ∷ others) fs node_there g)
    where
      here : slab_of given f ≡ slab_at (with_word e) f
      here = get_or-set_same s.slabs f (option_map (marked true) (slab_of s f)) None slabs_below ∙ ap (option_map (marked true)) (resting.slab f) ∙ sym (slab_frozen w (with_word e) f refl refl refl refl refl)

      there : (g : ℕ) → (g ≡ f → ⊥) → slab_of given g ≡ slab_at w g
      there g away = get_or-set_other s.slabs f g (option_map (marked true) (slab_of s f)) None away ∙ resting.slab g

  -- a slab that goes is on no CPU's list
  cpu_linked : (i : ℕ) → i < 512 → IsCpuOf b (record w { link = links; value = update w.value j (Node fs) }) i (cpu_at s i)
  cpu_linked i below = record {
    tid = (resting.cpu i below).tid;
    current = (resting.cpu i below).current;
    free = (resting.cpu i below).free;
    count = (resting.cpu i below).count;
    partial = links_same w.link links (w.list i).front (cpu_at s i).partial (λ g has. linked_out w.link 0 ts g (elim (cases_eq (times g ts) 0) [
      | inl none ↦ none
      | inr some ↦ absurd (let off = (listed g (taken_once g (omega (arith, some))).0).off_cpus i in omega (arith, off, has))
    ])) (resting.cpu i below).partial;
  }

  cpu_ends : (i : ℕ) → i < 512 → IsCpuOf b2 u i (cpu_at given i)
  cpu_ends i below = cpus_relisted s b (record w { link = links; value = update w.value j (Node fs) }) k (call_cpu call) left v (tid_of b n + 1 * b.step) listing slabs cpu begin.few place_below (omega (arith, small, rest.beside.tids)) cpu_linked (omega (arith, cpu_is.tid))
      (sym (cond-false {A = Option ℕ} (eqb f 0) None (Some f) (ne_eqb f 0 (λ none. absurd (let some = within.0 in omega arith)))))
      (subst (λ h. IsChain (pointer w k f) h first.0) (sym follows_is) first.2)
      (pushed_count no_list_word ts ∙ (let long = length-reverse ts in let e : 0 + length ts ≡ length (reverse ts) = omega (arith, long) in e))
      (links_pushed w.link no_list_word ts [] (λ g. let none : times g [] ≡ 0 = refl in omega (arith, none, parts g, node_once s k g consistent)) refl) i below

  -- ---- the node lists

  node_left : node_of given k ≡ fs
  node_left = get_or-set_same s.nodes k fs [] nodes_below

  -- a slab that stays where it is is on its node list as it was
  marks_same : (g q : ℕ) → (g ≡ f → ⊥) → times g ts ≡ 0 → times g (node_of s q) ≡ times g (node_of given q)
  marks_same g q away none = elim (cases_eq q k) [
    | inl same ↦ ap (λ q. times g (node_of s q)) same ∙ stays ∙ sym (ap (λ q. times g (node_of given q)) same ∙ ap (times g) node_left)
    | inr apart ↦ sym (ap (times g) (node_other s k fs nodes_below lives is.unchecked q apart))
  ]
    where
      stays : times g (node_of s k) ≡ times g fs
      stays = let o : one_if (eqb f g) ≡ 0 = ap one_if (ne_eqb f g (λ e. away (sym e))) in omega (arith, parts g, o, none)

  listed_are : (g : ℕ) → (slabs g).listed ≡ nat_lt 0 (times g (node_of given (slabs g).cache))
  listed_are = at_word (λ g c. c.listed ≡ nat_lt 0 (times g (node_of given c.cache))) (unmarked f cache f_not_left)
      (λ g away has. unmarked g (listed g (taken_once g has).0).cache (taken_once g has).1)
      (λ g away none. resting.listed g ∙ ap (nat_lt 0) (marks_same g (w.slab g).cache away none))
    where
      unmarked : (g : ℕ) → (w.slab g).cache ≡ k → times g fs ≡ 0 → false ≡ nat_lt 0 (times g (node_of given (w.slab g).cache))
      unmarked g of_k none = sym (ap (λ q. nat_lt 0 (times g (node_of given q))) of_k ∙ ap (λ fs. nat_lt 0 (times g fs)) node_left ∙ ap (nat_lt 0) none)

  names_are : (o : ℕ) → get_or (set s.board (call_object call) (Some held)) o None ≡ named_in u (set system.locals x (rested m told)) o
  names_are o = elim (cases_eq o (call_object call)) [
    | inl e ↦ ap (λ o. get_or (set s.board (call_object call) (Some held)) o None) e ∙ get_or-set_same s.board (call_object call) (Some held) None on_board ∙ ap (λ worker. Some (record { frame = f; index = z.head - 1; cache = k; worker = Some worker })) (sym worker_is)
        ∙ sym (named_held u system.locals x (call_place call) (rested m told) l.known known next.there (begin.may.place names) known_is refl (once known.object)) ∙ ap (named_in u (set system.locals x (rested m told))) (object ∙ sym e)
    | inr away ↦ get_or-set_other s.board (call_object call) o (Some held) None away ∙ resting.named o ∙ sym (named_other u system.locals x (call_place call) (rested m told) known worker_is known_is refl o (λ e. away (sym e ∙ object)))
  ]

  same_setup : setup_of given b2 ≡ setup_of s b
  same_setup = setup_same s b w system.locals (set s.frees f []) (set s.cpu_lists (cpu_place s k (call_cpu call)) left) given.memory (set s.board (call_object call) (Some held)) s.gone (set s.live k (get_or s.live k 0 + 1)) (set b.tids n (tid_of b n + 1 * b.step))
      (update w.cpu n v) slabs w.memory (set system.locals x (rested m told)) (length-set s.board (call_object call) (Some held))

  ends : Rests given b2 u (set system.locals x (rested m told))
  ends = record {
    setup = resting.setup ∙ sym same_setup;
    words = let front = at_front m opening final x (omega (arith, next.there, length-set system.locals x (rested m told))) ended in subst IsWorded says front.stands.fresh.worded;
    workers = All-set (IsBetween w.setup) system.locals x (rested m told) worker_rests resting.workers;
    locks = resting.locks;
    values = values_set s k fs nodes_below lives is.unchecked w.value resting.values;
    nodes = nodes_set s k fs nodes_below lives is.unchecked resting.nodes;
    cpu = cpu_ends;
    slab = slabs_are;
    unchecked = at_word (λ g (c : SlabWord). 1 ≤ c.objects → checked_of s c.cache ≡ None) (λ _. ap (checked_of s) cache ∙ is.unchecked) (λ g away has. resting.unchecked g) (λ g away none. resting.unchecked g);
    unslabbed = at_word (λ g (c : SlabWord). c.objects ≡ 0 → c.frozen ≡ false) (λ none. absurd (omega (arith, none, mine.some))) (λ g away has. resting.unslabbed g) (λ g away none. resting.unslabbed g);
    own = own_ends;
    listed = listed_are;
    named = names_are;
    once = once;
    no_zero = resting.no_zero;
    contents = λ o word h there plain is_word. copied m system.value system.words _;
  }

  -- ---- on lists

  accounted : IsAccounted given
  accounted = accounted-with_held s (call_object call) held (omega (arith, inside, rest.lists.shaped.live)) on_board unused rest.lists.accounted

  lengths : HasLengths given
  lengths = record {
    slabs = length-set s.slabs f (option_map (marked true) (slab_of s f)) ∙ rest.lists.shaped.slabs;
    frees = length-set s.frees f [] ∙ rest.lists.shaped.frees;
    cpu_lists = length-set s.cpu_lists (cpu_place s k (call_cpu call)) left ∙ rest.lists.shaped.cpu_lists;
    nodes = length-set s.nodes k fs ∙ rest.lists.shaped.nodes;
    checked = rest.lists.shaped.checked.numbers;
    memory = copied_length w (512 * s.frames);
    gone = rest.lists.shaped.gone ∙ sym (length-set s.board (call_object call) (Some held));
    live = length-set s.live k (get_or s.live k 0 + 1) ∙ rest.lists.shaped.live;
  }

  abbrev stock : State
  stock = taken_up (with_node_list s k fs) k (call_cpu call) f (reverse ts)

  stock_lists : lists_of stock k (call_cpu call) ≡ record { current = Some f; free = own_free s f; partial = reverse ts }
  stock_lists = get_or-set_same s.cpu_lists (cpu_place s k (call_cpu call)) (record { current = Some f; free = own_free s f; partial = reverse ts }) no_lists place_below

  stock_gives : (live : Cache) → cache_of s k ≡ Some live → Gives stock live.layout k (call_cpu call) l.worker (call_object call) reply after
  stock_gives live e = record {
    frame = f;
    index = z.head - 1;
    rest = first.0;
    current = ap (λ (x : CpuLists). x.current) stock_lists;
    first = ap (λ (x : CpuLists). x.free) stock_lists ∙ first.1;
    unheld = omega (arith, has_first, consistent.placed f (z.head - 1), object_once (z.head - 1) (slab_of s f));
    address = ap (λ layout. Given (address_of f (z.head - 1) layout)) (layout_of s k live e);
    given = λ i. record s {
      slabs = set s.slabs f (option_map (marked true) (slab_of s f));
      frees = set s.frees f [];
      cpu_lists = cpus_are i;
      nodes = set s.nodes k fs;
      board = set s.board (call_object call) (Some (record { frame = f; index = z.head - 1; cache = k; worker = Some l.worker }));
      live = set s.live k (get_or s.live k 0 + 1);
    };
  }
    where
      cpus_are : set s.cpu_lists (cpu_place s k (call_cpu call)) left ≡ set stock.cpu_lists (cpu_place s k (call_cpu call)) (record { current = Some f; free = first.0; partial = (lists_of stock k (call_cpu call)).partial })
      cpus_are = sym (set-set s.cpu_lists (cpu_place s k (call_cpu call)) (record { current = Some f; free = own_free s f; partial = reverse ts }) left)
          ∙ ap (λ fs. set stock.cpu_lists (cpu_place s k (call_cpu call)) (record { current = Some f; free = first.0; partial = fs })) (sym (ap (λ (x : CpuLists). x.partial) stock_lists))

  gives : (live : Cache) → cache_of s k ≡ Some live → Gives (taken_up (with_node_list s k (drop (batch_of live.layout) others)) k (call_cpu call) f (reverse (take (batch_of live.layout) others))) live.layout k (call_cpu call) l.worker (call_object call) reply after
  gives live e = subst (λ (y : Layout). Gives (taken_up (with_node_list s k (drop (batch_of y) others)) k (call_cpu call) f (reverse (take (batch_of y) others))) live.layout k (call_cpu call) l.worker (call_object call) reply after) (layout_of s k live e) (stock_gives live e)

  allocates : AllocatesNamed s place (call_cpu call) l.worker (call_object call) reply after
  allocates = subst (λ o. MatchOption o ((reply ≡ NoSuchCache) × (after ≡ s)) (λ cache. MatchOption (cache_of s cache) ⊥ (λ live. AllocatesFrom s live.layout cache (call_cpu call) l.worker (call_object call) reply after))) (sym is.named) (by (cache_of s k) refl lives)
    where
      by : (o : Option Cache) → cache_of s k ≡ o → is_some o ≡ true → MatchOption o ⊥ (λ live. AllocatesFrom s live.layout k (call_cpu call) l.worker (call_object call) reply after)
      by None e live = false≢true live
      by (Some live) e has_it = from-unchecked (checked_of s k) _ _ is.unchecked
          (subst (λ free. MatchResult (from_free s k (call_cpu call) (batch_of live.layout) free) (λ stocked. Gives stocked live.layout k (call_cpu call) l.worker (call_object call) reply after) (λ bare. AllocatesNew bare live.layout k (call_cpu call) l.worker (call_object call) reply after)) (sym empty)
          (subst (λ o. MatchResult (from_slabs s k (call_cpu call) (batch_of live.layout) o) (λ stocked. Gives stocked live.layout k (call_cpu call) l.worker (call_object call) reply after) (λ bare. AllocatesNew bare live.layout k (call_cpu call) l.worker (call_object call) reply after)) (sym current)
          (subst (λ fs. MatchResult (from_partial s k (call_cpu call) (batch_of live.layout) fs) (λ stocked. Gives stocked live.layout k (call_cpu call) l.worker (call_object call) reply after) (λ bare. AllocatesNew bare live.layout k (call_cpu call) l.worker (call_object call) reply after)) (sym none)
          (subst (λ fs. MatchResult (from_node s k (call_cpu call) (batch_of live.layout) fs) (λ stocked. Gives stocked live.layout k (call_cpu call) l.worker (call_object call) reply after) (λ bare. AllocatesNew bare live.layout k (call_cpu call) l.worker (call_object call) reply after)) (sym nodes) (gives live e)))))

  pub takes : AllocatesAlone opening s b system x call place turns b2
  takes = record {
    reply = reply;
    after = after;
    allocates = allocates;
    given = given;
    words = record {
      lists = refl;
      sized = copied_length w (512 * s.frames) ∙ sym rest.lists.shaped.memory;
      words = λ other word h away there plain is_word. sym (copied m system.value system.words _) ∙ resting.contents other word h (sym (get_or-set_other s.board (call_object call) other (Some held) None away) ∙ there) plain is_word;
    };
    known = known_ends s b system x turns told words later next.there whole refl ∙ knows_given l.known (call_place call) known.object (call_object call) s.board held after refl on_board object;
    replies = replies_of opening s given b b2 system x turns call reply told words later next whole refl refl refl refl same_setup
        (ends_at_rest opening u s given b b2 system final rest same_setup refl refl lengths accounted (length-set b.tids n (tid_of b n + 1 * b.step) ∙ rest.beside.tids) refl refl ended says ends
        (whole_cpu m words3 n (cpu_bits v) refl small (whole_lock m pushed.after j 0 j_small pushed.whole)));
  }

  pub takes_gives : is_given takes.reply ≡ true
  unfolding takes
  takes_gives = refl

pub node_taken : NodeSlabsAreTaken
node_taken opening s b system x call place k f others rest next is ids current none nodes = takes opening s b system x call place k f others rest next is ids current none nodes
