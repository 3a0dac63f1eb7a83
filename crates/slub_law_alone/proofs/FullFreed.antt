-- A free of an object of a full slab that no CPU has: the object goes to the slab's own freelist, and the slab to the front of the CPU's partial list, which has room.
use Rattle.std.proofs.Common.{◌≡◌, ◌≢◌, ℕ, ◌+◌, ◌-◌, ◌*◌, ◌<◌, ◌≤◌, ◌⊎◌, ◌&&◌, eqb, cond, Bool, true, false, List, [], ◌∷◌, length, get_or, set, Option, Some, None, inl, inr, refl, ap, sym, ◌∙◌, subst, arith, ◌/◌}
use Rattle.std.specs.Prelude.{nat_lt, not, is_some}
use Rattle.std.specs.Option.{option_map_or}
use Rattle.std.proofs.lemmas.Bool.{cases_eq, false≢true, eq-eqb, ne_eqb, cond-false, cases_lt}
use Rattle.std.proofs.lemmas.List.{get_or-set_same, get_or-set_other, set-get_or, length-set}
use Rattle.std.proofs.lemmas.List.Elements.{All-set}
use Rattle.slub_common.specs.Times.{times}
use Rattle.slub_cpu_partial.specs.declared.words.ListWord.{ListWord}
use Rattle.slub_cpu_partial.specs.Strings.{IsList, list_bits}
use Rattle.slub_core.specs.declared.spot.PutOnListSpot.TheVariants.{LoadList, LinkString, PushString}
use Rattle.slub_core.specs.declared.spot.PutOnList.TheVariants.{OfFree}
use Rattle.slub_core.specs.PutOnList.{way_of_front}
use Rattle.slub_core.proofs.Lists.{times-first}
use Rattle.slub_lists.proofs.Coherence.{place-inside}
use Rattle.slub_law_opening.proofs.Cpus.{current-at, partial-one}
use Rattle.slub_trace.specs.declared.reply.Reply.{Reply}
use Rattle.slub_trace.specs.declared.reply.Reply.TheVariants.{Freed}
use Rattle.slub_object_layout.specs.declared.layout.Layout.{Layout}
use Rattle.slub_object_layout.specs.Layout.{address_of}
use Rattle.slub_words.specs.declared.cpu.CpuWord.{CpuWord}
use Rattle.slub_words.specs.declared.slab.SlabWord.{SlabWord}
use Rattle.slub_words.specs.Words.{slab_bits}
use Rattle.slub_lists.specs.declared.lists.Slab.{Slab}
use Rattle.slub_lists.specs.declared.lists.CpuLists.{CpuLists}
use Rattle.slub_lists.specs.declared.lists.Held.{Held}
use Rattle.slub_lists.specs.State.{State}
use Rattle.slub_lists.specs.Alloc.{cache_of, lists_of, checked_of, node_of, own_free, slab_of, cpu_place, with_lists}
use Rattle.slub_lists.specs.Free.{is_current, is_frozen, freed_here, freed_there, settled, put_partial, with_freed, with_taken, with_gone}
use Rattle.slub_lists.specs.Freeing.{Frees}
use Rattle.slub_lists.specs.Words.{word_at}
use Rattle.slub_lists.specs.Coherent.{IsAccounted, held_under, times_partial}
use Rattle.slub_lists.specs.Places.{layout_at}
use Rattle.slub_lists.proofs.Places.{objects-few, slab-inside}
use Rattle.slub_lists.proofs.Taking.{taken-accounted}
use Rattle.slub_core.specs.declared.call.Call.{Call}
use Rattle.slub_core.specs.declared.call.CallKind.TheVariants.{Free}
use Rattle.slub_core.specs.declared.local.Known.{Known}
use Rattle.slub_core.specs.declared.spot.Spot.TheVariants.{Between, InFree, InPutOnList}
use Rattle.slub_core.specs.declared.spot.FreeSpot.TheVariants.{LoadOwn, LoadSlab, LinkSlab, FreeSlab, LoadCount, TakeSet}
use Rattle.slub_core.specs.declared.step.Answer.{Answer}
use Rattle.slub_core.specs.declared.step.Answer.TheVariants.{Word, Done, Won, Lost}
use Rattle.slub_core.specs.declared.step.Op.TheVariants.{Load, Store, Exchange}
use Rattle.slub_core.specs.declared.step.Place.TheVariants.{CpuOf, SlabOf, MemoryOf, ListOf, LinkOf}
use Rattle.slub_core.specs.Calls.{call_kind, call_cpu, call_object, call_place}
use Rattle.slub_core.specs.Setup.{Setup, cpu_number, pointer_at, hardened}
use Rattle.slub_core.specs.Words.{cpu_in, slab_in, cpu_base, slab_base, memory_base, list_in, list_base, link_base}
use Rattle.slub_core.specs.World.{World, update, set_slab, set_memory, pointer, IsChain, world_of, Links, set_list, set_link, one_if}
use Rattle.slub_core.specs.Fresh.{IsWorded}
use Rattle.slub_core.specs.Local.{Local, Turn, at, loses, answered, goes, bare_hand, string_of}
use Rattle.slub_core.specs.Free.{way_of_own, way_of_slab, way_of_freed, hands_of_freed, is_last_listed, was_full, count_loaded, is_long, alone as free_alone}
use Rattle.slub_core.specs.Replies.{names_object}
use Rattle.slub_core.specs.Spots.{notes_list}
use Rattle.slub_core.specs.Steps.{begun, rested, advance_at}
use Rattle.slub_core.specs.Run.{System, idle, turn}
use Rattle.slub_core.specs.Law.{IsCoherentSystem}
use Rattle.slub_core.proofs.Leads.{at_work}
use Rattle.slub_core.proofs.Packed.{IsSlabFit, slab_in-bits, IsListFit, list_in-bits}
use Rattle.slub_core.proofs.Update.{update_same, update_other, each_updated}
use Rattle.slub_core.proofs.StepWords.{world_of-slab, world_of-memory, cpu-read, slab-read, IsTable, world_of-list, world_of-link, list-read, setup_of as setup_is}
use Rattle.slub_law_opening.specs.Opening.{Beside, setup_of, cpu_at}
use Rattle.slub_law_opening.specs.Rests.{IsBetween, IsCpuOf, IsFreelistOf, KeepsWord, Rests, current_in, named as named_in, times_named}
use Rattle.slub_law_opening.specs.Closing.{HasLengths}
use Rattle.slub_law_opening.proofs.Names.{as_held}
use Rattle.slub_law_opening.proofs.Rows.{comes-back}
use Rattle.slub_law_opening.proofs.Words.{chain-empty}
use Rattle.slub_core.specs.Alloc.{single_string}
use Rattle.slub_cache_create.specs.declared.caches.Cache.{Cache}
use Rattle.slub_law_alone.specs.Alone.{own_pick, alone, worker_at, known_at, IsNext}
use Rattle.slub_law_alone.specs.Ready.{IsReady}
use Rattle.slub_law_alone.specs.Laws.{IsFree, FreesAlone, ListHasRoom, FullSlabsAreListed}
use Rattle.slub_law_alone.proofs.Apart.{IsSlabAt, slab_word, plain_word, pointer_own, cpu_stands, own_stands, word_apart}
use Rattle.slub_law_alone.proofs.Bits.{whole_memory, whole_slab, whole_list_word, whole_link}
use Rattle.slub_law_alone.proofs.Changed.{SameSlab, setup_same, same_word, rests_relisted, slab_kept}
use Rattle.slub_law_alone.proofs.CpuWords.{cpu_changed, cpu_other}
use Rattle.slub_law_alone.proofs.Ended.{replies_of}
use Rattle.slub_law_alone.proofs.Knows.{known_ends, knows_freed}
use Rattle.slub_law_alone.proofs.FastFree.{frees_held, layout_of}
use Rattle.slub_law_alone.proofs.Names.{named_other, named_lost}
use Rattle.slub_law_alone.proofs.Room.{not_long, put_with_room}
use Rattle.slub_law_alone.proofs.Ready.{IsReadyStart, ready_starts, ready_object, along, ends_ready}
use Rattle.slub_law_alone.proofs.Start.{HasObject, begin_held}
use Rattle.slub_law_alone.proofs.Turns.{machine, turn_goes, settle_goes, settle_rests, settle_tells_once, then_turn}
use Rattle.slub_law_alone.proofs.Workers.{AtFront, at_front, once_named, IsWithCalls, rested_calls}
use Rattle.slub_calls.proofs.ChangeNumbers.{cpu_here}

-- ---- marks

and_no : (h : Bool) {e : Bool} → e ≡ false → h && e ≡ false
and_no true e = e
and_no false e = refl

-- ---- on lists

not_current : (f : ℕ) (o : Option ℕ) → o ≢ Some f → is_current f o ≡ false
not_current f None away = refl
not_current f (Some c) away = ne_eqb c f (λ e. away (ap Some e))

-- a string stands as long as the links of its slabs do
pub links_same : (g h : ℕ → ℕ) (front : ℕ) (fs : List ℕ) → ((j : ℕ) → 1 ≤ times j fs → h j ≡ g j) → Links g front fs 0 → Links h front fs 0
links_same g h front [] same c = c
links_same g h front (x ∷ fs) same c =
    let first : 1 ≤ times x (x ∷ fs) = (let t = times-first x x fs in let o : one_if (eqb x x) ≡ 1 = ap one_if (eq-eqb x x refl) in omega (arith, t, o)) in
    (c.0, subst (λ front. Links h front fs 0) (sym (same x first)) (links_same g h (g x) fs (λ j some. same j (let t = times-first j x fs in omega (arith, t, some))) c.1))

no_third : (a b c d : Bool) → c ≡ false → a && b && c && d ≡ false
no_third true true true d e = absurd (false≢true (sym e))
no_third true true false d e = refl
no_third true false c d e = refl
no_third false b c d e = refl

module _ (opening : World) (s : State) (b : Beside) (system : System) (x : ℕ) (call : Call) (rest : IsReady opening s b system x) (next : IsNext system x call) (is : IsFree s (worker_at system x) call)
    (unfrozen : is_frozen s (known_at (worker_at system x) call).frame ≡ false) (full : own_free s (known_at (worker_at system x) call).frame ≡ [])
    (room : ListHasRoom s (known_at (worker_at system x) call).cache (call_cpu call)) where
  abbrev m : Setup
  m = setup_of s b

  abbrev w : World
  w = world_of m system.value system.words

  abbrev l : Local
  l = worker_at system x

  abbrev o : Known
  o = known_at l call

  abbrev f : ℕ
  f = o.frame

  abbrev n : ℕ
  n = cpu_number o.cache (call_cpu call)

  abbrev c : CpuWord
  c = w.cpu n

  abbrev z : SlabWord
  z = w.slab f

  abbrev held : Held
  held = as_held l.worker o

  begin : IsReadyStart opening s b system x call
  begin = ready_starts opening s b system x call rest next

  names : names_object (call_kind call) ≡ true
  names = ap names_object is.kind

  has : HasObject s system x call
  has = ready_object opening s b system x call rest next names is.held

  resting : Rests s b w system.locals
  resting = rest.rests.rests

  cpu : call_cpu call < s.cpus
  cpu = begin.may.cpu

  small : n < 512
  small = omega (arith, has.inside, cpu, begin.few)

  cpu_is : IsCpuOf b w n (lists_of s o.cache (call_cpu call))
  cpu_is = subst (IsCpuOf b w n) (cpu_here s o.cache (call_cpu call) cpu begin.few) (resting.cpu n small)

  away : (lists_of s o.cache (call_cpu call)).current ≢ Some f
  away current =
      let there = current-at s n f begin.consistent (ap (λ (x : CpuLists). x.current) (cpu_here s o.cache (call_cpu call) cpu begin.few) ∙ current) in
      let frozen_it = ap (λ o. option_map_or (λ (x : Slab). x.frozen) o false) there.there ∙ there.frozen in
      false≢true (sym unfrozen ∙ frozen_it)

  within : (0 < f) × (f < s.frames)
  within = slab-inside s f has.slab.0 begin.consistent has.slab.1

  frame_away : c.frame ≡ f → ⊥
  frame_away e = away (cpu_is.current ∙ ap current_in e ∙ cond-false {A = Option ℕ} (eqb f 0) None (Some f) (ne_eqb f 0 (λ none. absurd (let some = within.0 in omega arith))))

  abbrev p : ℕ
  p = pointer_at m o.cache f o.index

  p_inside : p < 512 * m.frames
  p_inside = has.pointer

  -- ---- the slab

  some : 1 ≤ z.objects
  some = plain_word s b w system.locals begin.front.stands.chains resting begin.front.stands.listed.shaped f o.index has.slab.0 has.slab.1 has.slab.3 (ap (checked_of s) has.slab.2 ∙ is.unchecked)

  slab_at_it : IsSlabAt s w f
  slab_at_it = slab_word s b w system.locals resting f some

  same_slab : has.slab.0 ≡ slab_at_it.slab
  same_slab = injected (sym has.slab.1 ∙ slab_at_it.there)
    where
      injected : {x y : Slab} → Some x ≡ Some y → x ≡ y
      injected e = cc

  cache : z.cache ≡ o.cache
  cache = sym slab_at_it.cache ∙ ap (λ (x : Slab). x.cache) (sym same_slab) ∙ has.slab.2

  frozen_is : is_frozen s f ≡ z.frozen
  frozen_is = ap (λ o. option_map_or (λ (x : Slab). x.frozen) o false) slab_at_it.there ∙ slab_at_it.frozen

  objects_is : option_map_or (λ (x : Slab). x.objects) (slab_of s f) 0 ≡ z.objects
  objects_is = ap (λ o. option_map_or (λ (x : Slab). x.objects) o 0) slab_at_it.there ∙ slab_at_it.objects

  own : IsFreelistOf w f (own_free s f)
  own = resting.own f

  listed_is : z.listed ≡ nat_lt 0 (times f (node_of s o.cache))
  listed_is = resting.listed f ∙ ap (λ k. nat_lt 0 (times f (node_of s k))) cache

  -- ---- the worker, and what it leaves

  abbrev asked : Local
  asked = record l { spot = InFree LoadOwn; cache = o.cache; cpu = call_cpu call; place = call_place call; fast = false; turn = 0; count = 0 }

  abbrev loaded : Local
  loaded = record asked { cpu_word = c; spot = InFree LoadSlab }

  abbrev lost : Known
  lost = record o { held = false }

  abbrev freed_it : Local
  freed_it = record loaded { slab_word = z; spot = Between; known = set l.known (call_place call) lost }

  abbrev reply : Reply
  reply = Freed (address_of f o.index (layout_at s o.cache))

  abbrev told : Local
  told = answered freed_it reply

  abbrev v : SlabWord
  v = record z { head = o.index + 1; inuse = z.inuse - 1 }

  abbrev q : ℕ
  q = get_or system.words (cpu_base + n) 0

  abbrev r : ℕ
  r = get_or system.words (slab_base + f) 0

  abbrev value : ℕ
  value = hardened o.cache p z.head

  cpu_reads : c ≡ cpu_in q
  cpu_reads = cpu-read m system.value system.words n small

  slab_reads : z ≡ slab_in r
  slab_reads = slab-read m system.value system.words f within.1

  begins : begun m false l ≡ asked
  begins = begin_held m l call next.calls Free (InFree LoadOwn) begin.between.between next.todo is.kind refl refl (ap is_some is.unchecked) is.held refl

  turn1 : turn m (machine system.words system.value (set system.locals x l)) (own_pick x) ≡ machine system.words system.value (set system.locals x loaded)
  turn1 = turn_goes m system.words system.words system.value system.locals x l asked loaded (record { place = CpuOf n; op = Load }) (Word q) next.there begins refl (set-get_or system.words (cpu_base + n) 0) refl
      (settle_goes m system.value asked loaded (Word q) leads refl refl)
    where
      by_word : CpuWord → Turn
      by_word z = record { local = record asked { cpu_word = z; spot = way_of_own m asked z }; reply = None }

      way : way_of_own m asked c ≡ InFree LoadSlab
      way = rw (ne_eqb c.frame f frame_away) refl

      leads : advance_at m system.value asked (InFree LoadOwn) (Word q) ≡ goes loaded
      leads = ap by_word (sym cpu_reads) ∙ (λ i. record { local = record asked { cpu_word = c; spot = way i }; reply = None })

  fit : IsSlabFit v
  fit = (let few = objects-few s f has.slab.0 begin.consistent has.slab.1 in omega (arith, few.1, has.slab.3), let old = (resting.words.slab f).1 in omega arith, (resting.words.slab f).2, (resting.words.slab f).3)

  -- ---- the slab is full, and on no list

  head_none : z.head ≡ 0
  head_none = chain-empty (pointer w z.cache f) z.head (own_free s f) own.chain (ap (length {A = ℕ}) full)

  never_listed : times_partial s f ≡ 0
  never_listed = elim (cases_lt 0 (times_partial s f)) [
    | inl l ↦ absurd (let t = begin.consistent.listed.stocked f l in let none = ap (length {A = ℕ}) full in omega (arith, t, none))
    | inr g ↦ omega arith
  ]

  is_full : was_full z ≡ true
  is_full = rw (sym frozen_is ∙ unfrozen, eq-eqb z.head 0 head_none) refl

  not_the_last : is_last_listed z ≡ false
  not_the_last = no_third (not z.frozen) z.listed (not (eqb z.head 0)) (eqb z.inuse 1) (ap not (eq-eqb z.head 0 head_none))

  abbrev lists : CpuLists
  lists = lists_of s o.cache (call_cpu call)

  abbrev lw : ListWord
  lw = w.list n

  abbrev y : ℕ
  y = get_or system.words (list_base + n) 0

  list_reads : lw ≡ list_in y
  list_reads = list-read m system.value system.words n small

  abbrev longer : ListWord
  longer = record { front = f; count = lw.count + 1 }

  -- ---- the turns

  abbrev seen : Local
  seen = record loaded { slab_word = z; spot = InFree LinkSlab }

  abbrev linked : Local
  linked = at seen (InFree FreeSlab)

  abbrev handed : Local
  handed = record (loses linked) { hands = bare_hand f ∷ l.hands; spot = InFree LoadCount }

  abbrev counting : Local
  counting = answered handed reply

  abbrev alone_it : Local
  alone_it = record counting { list_word = lw; hands = l.hands; string = Some (single_string f); spot = InPutOnList LoadList OfFree }

  abbrev linking : Local
  linking = record alone_it { spot = InPutOnList LinkString OfFree }

  abbrev pushing : Local
  pushing = record alone_it { string = Some (record { front = f; count = 1; cursor = f; place = 1; link = Some lw.front }); spot = InPutOnList PushString OfFree }

  abbrev listed_it : Local
  listed_it = record alone_it { string = None; put = l.put + 0; spot = Between }

  abbrev words1 : List ℕ
  words1 = set system.words (memory_base m + p) value

  abbrev words2 : List ℕ
  words2 = set words1 (slab_base + f) (slab_bits v)

  abbrev words3 : List ℕ
  words3 = set words2 (link_base m + f) lw.front

  abbrev words : List ℕ
  words = set words3 (list_base + n) (list_bits longer)

  slab_still : get_or words1 (slab_base + f) 0 ≡ r
  slab_still = get_or-set_other system.words (memory_base m + p) (slab_base + f) value 0 (λ e. absurd (omega (arith, e, within.1, begin.table.objects)))

  slab_hit : eqb (get_or words1 (slab_base + f) 0) (slab_bits z) ≡ true
  slab_hit = eq-eqb (get_or words1 (slab_base + f) 0) (slab_bits z) (slab_still ∙ sym (rest.whole.slab f within.1) ∙ ap slab_bits (sym slab_reads))

  list_still : get_or words2 (list_base + n) 0 ≡ y
  list_still = get_or-set_other words1 (slab_base + f) (list_base + n) (slab_bits v) 0 (λ e. absurd (omega (arith, e, small))) ∙ get_or-set_other system.words (memory_base m + p) (list_base + n) value 0 (λ e. absurd (omega (arith, e, small)))

  list_last : get_or words3 (list_base + n) 0 ≡ y
  list_last = get_or-set_other words2 (link_base m + f) (list_base + n) lw.front 0 (λ e. absurd (omega (arith, e, small))) ∙ list_still

  list_hit : eqb (get_or words3 (list_base + n) 0) (list_bits lw) ≡ true
  list_hit = eq-eqb (get_or words3 (list_base + n) 0) (list_bits lw) (list_last ∙ sym (rest.whole.list n small) ∙ ap list_bits (sym list_reads))

  turn2 : turn m (machine system.words system.value (set system.locals x loaded)) (own_pick x) ≡ machine system.words system.value (set system.locals x seen)
  turn2 = turn_goes m system.words system.words system.value system.locals x loaded loaded seen (record { place = SlabOf f; op = Load }) (Word r) next.there refl refl (set-get_or system.words (slab_base + f) 0) refl
      (settle_goes m system.value loaded seen (Word r) leads refl refl)
    where
      by_word : SlabWord → Turn
      by_word z = record { local = record loaded { slab_word = z; spot = way_of_slab z }; reply = None }

      way : way_of_slab z ≡ InFree LinkSlab
      way = rw not_the_last refl

      leads : advance_at m system.value loaded (InFree LoadSlab) (Word r) ≡ goes seen
      leads = ap by_word (sym slab_reads) ∙ (λ i. record { local = record loaded { slab_word = z; spot = way i }; reply = None })

  turn3 : turn m (machine system.words system.value (set system.locals x seen)) (own_pick x) ≡ machine words1 system.value (set system.locals x linked)
  turn3 = turn_goes m system.words words1 system.value system.locals x seen seen linked (record { place = MemoryOf p; op = Store value }) Done next.there refl refl refl refl (settle_goes m system.value seen linked Done refl refl refl)

  turn4 : turn m (machine words1 system.value (set system.locals x linked)) (own_pick x) ≡ machine words2 system.value (set system.locals x counting)
  turn4 = turn_goes m words1 words2 system.value system.locals x linked linked counting (record { place = SlabOf f; op = Exchange (slab_bits z) (slab_bits v) }) Won next.there refl refl
      (ap (λ h. set words1 (slab_base + f) (cond {A = ℕ} h (slab_bits v) (get_or words1 (slab_base + f) 0))) slab_hit) (ap (λ h. cond {A = Answer} h Won (Lost (get_or words1 (slab_base + f) 0))) slab_hit)
      (settle_tells_once m system.value linked handed counting Won reply (λ i. record { local = record (loses linked) { hands = hands i; spot = way i }; reply = Some reply }) refl refl refl)
    where
      hands : hands_of_freed linked ≡ bare_hand f ∷ l.hands
      hands = rw is_full refl

      way : way_of_freed z ≡ InFree LoadCount
      way = rw is_full refl

  turn5 : turn m (machine words2 system.value (set system.locals x counting)) (own_pick x) ≡ machine words2 system.value (set system.locals x alone_it)
  turn5 = turn_goes m words2 words2 system.value system.locals x counting counting alone_it (record { place = ListOf n; op = Load }) (Word (get_or words2 (list_base + n) 0)) next.there refl refl (set-get_or words2 (list_base + n) 0) refl
      (settle_goes m system.value counting alone_it (Word (get_or words2 (list_base + n) 0)) (ap (λ y. goes (count_loaded m counting (list_in y))) list_still ∙ ap (λ list. goes (count_loaded m counting list)) (sym list_reads) ∙ ap by_long short) refl refl)
    where
      by_long : Bool → Turn
      by_long z = goes (cond {A = Local} z (record counting { list_word = lw; spot = InFree TakeSet }) (free_alone (record counting { list_word = lw })))

      short : is_long m counting lw ≡ false
      short = not_long (layout_at s o.cache).cpu_partial_slabs lw.count (subst (λ k. (k ≡ 0) ⊎ (k < (layout_at s o.cache).cpu_partial_slabs)) (sym cpu_is.count) room)

  turn6 : turn m (machine words2 system.value (set system.locals x alone_it)) (own_pick x) ≡ machine words2 system.value (set system.locals x linking)
  turn6 = turn_goes m words2 words2 system.value system.locals x alone_it alone_it linking (record { place = ListOf n; op = Load }) (Word (get_or words2 (list_base + n) 0)) next.there refl refl (set-get_or words2 (list_base + n) 0) refl
      (settle_goes m system.value alone_it linking (Word (get_or words2 (list_base + n) 0)) (ap (λ y. by_list (list_in y)) list_still ∙ ap by_list (sym list_reads)) refl refl)
    where
      by_list : ListWord → Turn
      by_list list = goes (record alone_it { list_word = list; spot = way_of_front (single_string f) list.front OfFree })

  turn7 : turn m (machine words2 system.value (set system.locals x linking)) (own_pick x) ≡ machine words3 system.value (set system.locals x pushing)
  turn7 = turn_goes m words2 words3 system.value system.locals x linking linking pushing (record { place = LinkOf f; op = Store lw.front }) Done next.there refl refl refl refl (settle_goes m system.value linking pushing Done refl refl refl)

  turn8 : turn m (machine words3 system.value (set system.locals x pushing)) (own_pick x) ≡ machine words system.value (set system.locals x (rested m listed_it))
  turn8 = turn_goes m words3 words system.value system.locals x pushing pushing (rested m listed_it) (record { place = ListOf n; op = Exchange (list_bits lw) (list_bits longer) }) Won next.there refl refl
      (ap (λ h. set words3 (list_base + n) (cond {A = ℕ} h (list_bits longer) (get_or words3 (list_base + n) 0))) list_hit) (ap (λ h. cond {A = Answer} h Won (Lost (get_or words3 (list_base + n) 0))) list_hit)
      (settle_rests m system.value pushing listed_it Won refl refl)

  start : alone m x 6 system ≡ machine words2 system.value (set system.locals x linking)
  start = ap (alone m x 6) (ap (machine system.words system.value) (sym (set-get_or system.locals x idle)))
      ∙ then_turn m x 5 (machine system.words system.value (set system.locals x l)) (machine system.words system.value (set system.locals x loaded)) (machine words2 system.value (set system.locals x linking)) turn1
      (then_turn m x 4 (machine system.words system.value (set system.locals x loaded)) (machine system.words system.value (set system.locals x seen)) (machine words2 system.value (set system.locals x linking)) turn2
      (then_turn m x 3 (machine system.words system.value (set system.locals x seen)) (machine words1 system.value (set system.locals x linked)) (machine words2 system.value (set system.locals x linking)) turn3
      (then_turn m x 2 (machine words1 system.value (set system.locals x linked)) (machine words2 system.value (set system.locals x counting)) (machine words2 system.value (set system.locals x linking)) turn4
      (then_turn m x 1 (machine words2 system.value (set system.locals x counting)) (machine words2 system.value (set system.locals x alone_it)) (machine words2 system.value (set system.locals x linking)) turn5
      (then_turn m x 0 (machine words2 system.value (set system.locals x alone_it)) (machine words2 system.value (set system.locals x linking)) (machine words2 system.value (set system.locals x linking)) turn6 refl)))))

  whole : alone m x 8 system ≡ machine words system.value (set system.locals x (rested m listed_it))
  whole = ap (alone m x 2) start
      ∙ then_turn m x 1 (machine words2 system.value (set system.locals x linking)) (machine words3 system.value (set system.locals x pushing)) (machine words system.value (set system.locals x (rested m listed_it))) turn7
      (then_turn m x 0 (machine words3 system.value (set system.locals x pushing)) (machine words system.value (set system.locals x (rested m listed_it))) (machine words system.value (set system.locals x (rested m listed_it))) turn8 refl)

  -- in between the worker relies on it that the list has room, and that the object was in use
  relies : (1 ≤ z.inuse) × (lw.count + 1 ≤ s.frames - 1)
  relies =
      let sys : System = machine words2 system.value (set system.locals x linking) in
      let coherent = subst (IsCoherentSystem m opening) start (along opening s b system x next.there rest 5) in
      let front : AtFront m opening sys x = at_front m opening sys x (omega (arith, next.there, length-set system.locals x linking)) coherent in
      let mine = front.local ∙ get_or-set_same system.locals x linking idle next.there in
      let noted = (at_work (world_of m system.value words2) front.worker front.others front.stands).spot.noted.list in
      let list = subst (λ (l : Local). notes_list l.spot ≡ true → IsList l.list_word.front l.list_word.count × (l.list_word.count + (string_of l).count ≤ (world_of m system.value words2).setup.frames - 1)) mine noted refl in
      (used, subst (λ (m : Setup). lw.count + 1 ≤ m.frames - 1) (setup_is m system.value words2) list.1)
    where
      used : 1 ≤ z.inuse
      used = let u = own.in_use in let none = ap (length {A = ℕ}) full in omega (arith, u, none, some)

  -- ---- where they end

  ended : IsCoherentSystem m opening (machine words system.value (set system.locals x (rested m listed_it)))
  ended = subst (IsCoherentSystem m opening) whole (along opening s b system x next.there rest 7)

  fit_list : IsListFit longer
  fit_list = let many = relies.1 in (omega (arith, within.1, rest.lists.shaped.frames.1), omega (arith, many, rest.lists.shaped.frames.1))

  abbrev u : World
  u = record w { list = update w.list n longer; slab = update w.slab f v; link = update w.link f lw.front; memory = update w.memory p value }

  table1 : IsTable m words1
  table1 = record { length = length-set system.words (memory_base m + p) value ∙ begin.table.length; locks = refl; cpu_words = refl; frames = begin.table.frames; objects = begin.table.objects }

  table2 : IsTable m words2
  table2 = record { length = length-set words1 (slab_base + f) (slab_bits v) ∙ table1.length; locks = refl; cpu_words = refl; frames = begin.table.frames; objects = begin.table.objects }

  table3 : IsTable m words3
  table3 = record { length = length-set words2 (link_base m + f) lw.front ∙ table2.length; locks = refl; cpu_words = refl; frames = begin.table.frames; objects = begin.table.objects }

  says : world_of m system.value words ≡ u
  says = world_of-list m system.value words3 n (list_bits longer) table3 small
      ∙ ap (λ w. set_list w n (list_in (list_bits longer))) (world_of-link m system.value words2 f lw.front table2 within.1 ∙ ap (λ w. set_link w f lw.front) (world_of-slab m system.value words1 f (slab_bits v) table1 within.1
      ∙ ap (λ w. set_slab w f (slab_in (slab_bits v))) (world_of-memory m system.value system.words p value begin.table p_inside) ∙ ap (set_slab (set_memory w p value) f) (slab_in-bits v fit)))
      ∙ ap (set_list (set_link (set_slab (set_memory w p value) f v) f lw.front) n) (list_in-bits longer fit_list)

  abbrev left : CpuLists
  left = record lists { partial = f ∷ lists.partial }

  abbrev after : State
  after = with_gone (with_lists (with_freed (with_taken s (call_object call) o.cache) f o.index) o.cache (call_cpu call) left) (call_object call) l.worker held

  calls : IsWithCalls listed_it (rested m listed_it)
  calls = rested_calls m listed_it refl

  known_is : (rested m listed_it).known ≡ set l.known (call_place call) lost
  known_is = ap (λ (l : Local). l.known) calls.same

  worker_is : (rested m listed_it).worker ≡ l.worker
  worker_is = ap (λ (l : Local). l.worker) calls.same

  once : (j : ℕ) → times_named u (set system.locals x (rested m listed_it)) j ≤ 1
  once j = subst (λ w. times_named w (set system.locals x (rested m listed_it)) j ≤ 1) says (once_named m opening (machine words system.value (set system.locals x (rested m listed_it))) ended j)

  worker_rests : IsBetween w.setup (rested m listed_it)
  worker_rests = subst (IsBetween w.setup) (sym calls.same) (record {
    between = refl;
    hands = begin.between.hands;
    string = refl;
    run = begin.between.run;
    packed = record { cpu_word = resting.words.cpu n; slab_word = resting.words.slab f; list_word = resting.words.list n; next = begin.between.packed.next };
    cpu = subst (λ (m : Setup). call_cpu call < m.cpus) (sym resting.setup) begin.may.cpu;
    numbers = All-set (λ (k : Known). k.object < w.setup.objects) l.known (call_place call) lost (subst (λ (m : Setup). o.object < m.objects) (sym resting.setup) (omega (arith, has.object, has.on_board))) begin.between.numbers;
    some = All-set (λ (k : Known). k.held ≡ true → 1 ≤ k.object) l.known (call_place call) lost (λ e. absurd (false≢true e)) begin.between.some;
  })

  frees_below : f < length s.frees
  frees_below = omega (arith, within.1, rest.lists.shaped.frees)

  place_below : cpu_place s o.cache (call_cpu call) < length s.cpu_lists
  place_below = place-inside s o.cache (call_cpu call) rest.lists.shaped has.inside cpu

  free_is : get_or (set s.frees f (o.index ∷ own_free s f)) f [] ≡ o.index ∷ own_free s f
  free_is = get_or-set_same s.frees f (o.index ∷ own_free s f) [] frees_below

  stands : (g : ℕ) → IsChain (pointer u (w.slab g).cache g) (w.slab g).head (own_free s g)
  stands g = own_stands s (call_object call) held begin.consistent has.named p (pointer_own s (call_object call) held begin.consistent has.named) b w system.locals resting w.cpu (update w.slab f v) value g

  leads_back : pointer u z.cache f o.index ≡ z.head
  leads_back = ap (λ k. pointer u k f o.index) cache
      ∙ ap (λ (m : Setup). hardened o.cache (pointer_at m o.cache f o.index) (update w.memory p value (pointer_at m o.cache f o.index))) resting.setup
      ∙ ap (hardened o.cache p) (update_same w.memory p value) ∙ comes-back o.cache p z.head

  own_ends : (g : ℕ) → IsFreelistOf u g (get_or (set s.frees f (o.index ∷ own_free s f)) g [])
  own_ends g = elim (cases_eq g f) [
    | inl e ↦ subst (λ g. IsFreelistOf u g (get_or (set s.frees f (o.index ∷ own_free s f)) g [])) (sym e) (subst (IsFreelistOf u f) (sym free_is) (record {
      chain = subst (λ (c : SlabWord). IsChain (pointer u c.cache f) c.head (o.index ∷ own_free s f)) (sym (update_same w.slab f v)) (omega arith, subst (λ h. IsChain (pointer u z.cache f) h (own_free s f)) (sym leads_back) (stands f));
      in_use = subst (λ (c : SlabWord). c.inuse + length (o.index ∷ own_free s f) ≡ c.objects) (sym (update_same w.slab f v)) (let u = own.in_use in omega (arith, u, relies.0));
    }))
    | inr d ↦ subst (IsFreelistOf u g) (sym (get_or-set_other s.frees f g (o.index ∷ own_free s f) [] d)) (record {
      chain = subst (λ (c : SlabWord). IsChain (pointer u c.cache g) c.head (own_free s g)) (sym (update_other w.slab f v g d)) (stands g);
      in_use = subst (λ (c : SlabWord). c.inuse + length (own_free s g) ≡ c.objects) (sym (update_other w.slab f v g d)) (resting.own g).in_use;
    })
  ]

  -- no list leads over the slab
  links_still : (k : ℕ) → k < 512 → Links u.link (w.list k).front (cpu_at s k).partial 0
  links_still k below = links_same w.link u.link (w.list k).front (cpu_at s k).partial
      (λ g has_it. update_other w.link f lw.front g (λ e. absurd (let t = partial-one s k f in let same = ap (λ g. times g (cpu_at s k).partial) e in omega (arith, t, same, has_it, never_listed)))) (resting.cpu k below).partial

  free_still : (k : ℕ) → k < 512 → IsChain (pointer u (k / 16) (w.cpu k).frame) (w.cpu k).head (cpu_at s k).free
  free_still k below = cpu_stands s (call_object call) held begin.consistent has.named p (pointer_own s (call_object call) held begin.consistent has.named) b w system.locals resting w.cpu (update w.slab f v) value k below

  cpu_ends : (k : ℕ) → k < 512 → IsCpuOf b u k (cpu_at after k)
  cpu_ends k below = elim (cases_eq k n) [
    | inl e ↦ subst (λ k. IsCpuOf b u k (cpu_at after k)) (sym e) (subst (IsCpuOf b u n) (sym (cpu_changed s o.cache (call_cpu call) left cpu begin.few place_below)) (record {
      tid = cpu_is.tid;
      current = cpu_is.current;
      free = subst (λ (x : CpuLists). IsChain (pointer u (n / 16) c.frame) c.head x.free) (cpu_here s o.cache (call_cpu call) cpu begin.few) (free_still n small);
      count = ap (λ (z : ListWord). z.count) (update_same w.list n longer) ∙ (let count = cpu_is.count in omega arith);
      partial = subst (λ (z : ListWord). Links u.link z.front (f ∷ lists.partial) 0) (sym (update_same w.list n longer))
          (refl, subst (λ front. Links u.link front lists.partial 0) (sym (update_same w.link f lw.front)) (subst (λ (x : CpuLists). Links u.link lw.front x.partial 0) (cpu_here s o.cache (call_cpu call) cpu begin.few) (links_still n small)));
    }))
    | inr d ↦ subst (IsCpuOf b u k) (sym (cpu_other s o.cache (call_cpu call) left k cpu begin.few d)) (record {
      tid = (resting.cpu k below).tid;
      current = (resting.cpu k below).current;
      free = free_still k below;
      count = ap (λ (z : ListWord). z.count) (update_other w.list n longer k d) ∙ (resting.cpu k below).count;
      partial = subst (λ (z : ListWord). Links u.link z.front (cpu_at s k).partial 0) (sym (update_other w.list n longer k d)) (links_still k below);
    })
  ]

  same_slabs : (g : ℕ) → SameSlab (w.slab g) (update w.slab f v g)
  same_slabs = each_updated w.slab f v (λ g (c : SlabWord). SameSlab (w.slab g) c) (record { objects = refl; cache = refl; frozen = refl; listed = refl }) (λ g d. same_word (w.slab g))

  ends : Rests after b u (set system.locals x (rested m listed_it))
  ends = rests_relisted s b w system.locals s.slabs (set s.frees f (o.index ∷ own_free s f)) (set s.cpu_lists (cpu_place s o.cache (call_cpu call)) left) s.memory (set s.board (call_object call) None) (set s.gone (call_object call) (Some held)) (set s.live o.cache (get_or s.live o.cache 0 - 1)) b.tids
      w.cpu (update w.list n longer) (update w.slab f v) (update w.link f lw.front) w.board (update w.memory p value) (set system.locals x (rested m listed_it)) resting
      (length-set s.board (call_object call) None)
      (let front = at_front m opening (machine words system.value (set system.locals x (rested m listed_it))) x (omega (arith, next.there, length-set system.locals x (rested m listed_it))) ended in subst IsWorded says front.stands.fresh.worded)
      (All-set (IsBetween w.setup) system.locals x (rested m listed_it) worker_rests resting.workers)
      cpu_ends (λ g. resting.slab g ∙ sym (slab_kept w u g refl refl (same_slabs g)))
      (λ g has_it. ap (checked_of s) (same_slabs g).cache ∙ resting.unchecked g (subst (λ n. 1 ≤ n) (same_slabs g).objects has_it))
      (λ g none. (same_slabs g).frozen ∙ resting.unslabbed g (sym (same_slabs g).objects ∙ none))
      (λ g. (same_slabs g).listed ∙ resting.listed g ∙ ap (λ k. nat_lt 0 (times g (node_of s k))) (sym (same_slabs g).cache))
      own_ends names_are once words_are resting.no_zero
    where
      names_are : (j : ℕ) → get_or (set s.board (call_object call) None) j None ≡ named_in u (set system.locals x (rested m listed_it)) j
      names_are j = elim (cases_eq j (call_object call)) [
        | inl e ↦ ap (λ o. get_or (set s.board (call_object call) None) o None) e ∙ get_or-set_same s.board (call_object call) None None has.on_board
            ∙ sym (named_lost u system.locals x (call_place call) (rested m listed_it) lost next.there has.place known_is refl is.held j (has.object ∙ sym e) (resting.once j))
        | inr d ↦ get_or-set_other s.board (call_object call) j None None d ∙ resting.named j ∙ sym (named_other u system.locals x (call_place call) (rested m listed_it) lost worker_is known_is refl j (λ e. d (sym e ∙ has.object)))
      ]

      words_are : (j word : ℕ) (h : Held) → get_or (set s.board (call_object call) None) j None ≡ Some h → KeepsWord s u h word
      words_are j word h there plain inside = elim (cases_eq j (call_object call)) [
        | inl e ↦ absurd (let none = ap (λ o. get_or (set s.board (call_object call) None) o None) e ∙ get_or-set_same s.board (call_object call) None None has.on_board in cc (none, there))
        | inr d ↦
            let before : held_under s j ≡ Some h = sym (get_or-set_other s.board (call_object call) j None None d) ∙ there in
            update_other w.memory p value (word_at (layout_at s h.cache) h word) (word_apart s (call_object call) held begin.consistent has.named j word h before d inside) ∙ resting.contents j word h before plain inside
      ]

  -- ---- on lists

  accounted : IsAccounted after
  accounted = taken-accounted s (call_object call) held begin.consistent has.named

  lengths : HasLengths after
  lengths = record {
    slabs = rest.lists.shaped.slabs;
    frees = length-set s.frees f (o.index ∷ own_free s f) ∙ rest.lists.shaped.frees;
    cpu_lists = length-set s.cpu_lists (cpu_place s o.cache (call_cpu call)) left ∙ rest.lists.shaped.cpu_lists;
    nodes = rest.lists.shaped.nodes;
    checked = rest.lists.shaped.checked.numbers;
    memory = rest.lists.shaped.memory;
    gone = length-set s.gone (call_object call) (Some held) ∙ rest.lists.shaped.gone ∙ sym (length-set s.board (call_object call) None);
    live = length-set s.live o.cache (get_or s.live o.cache 0 - 1) ∙ rest.lists.shaped.live;
  }

  abbrev freed_state : State
  freed_state = with_freed (with_taken s (call_object call) o.cache) f o.index

  settles : (live : Cache) → cache_of s o.cache ≡ Some live → settled freed_state live.layout o.cache (call_cpu call) f (own_free s f) ≡ with_lists freed_state o.cache (call_cpu call) left
  settles live e =
      ap (settled freed_state live.layout o.cache (call_cpu call) f) full
      ∙ cond-false {A = State} (is_frozen s f) freed_state (put_partial freed_state live.layout o.cache (call_cpu call) f) unfrozen
      ∙ put_with_room freed_state live.layout o.cache (call_cpu call) f (subst (λ (y : Layout). (length lists.partial ≡ 0) ⊎ (length lists.partial < y.cpu_partial_slabs)) (layout_of s o.cache live e) room) place_below

  frees : Frees s (call_cpu call) l.worker (call_object call) reply after
  frees = frees_held s (call_cpu call) l.worker (call_object call) o after has.named has.lives is.unchecked (λ live e. (
    ap (λ layout. Freed (address_of f o.index layout)) (layout_of s o.cache live e),
    sym (ap (λ h. with_gone (cond {A = State} h (freed_here (with_taken s (call_object call) o.cache) o.cache (call_cpu call) o.index) (freed_there (with_taken s (call_object call) o.cache) live.layout o.cache (call_cpu call) f o.index)) (call_object call) l.worker held) (not_current f (lists_of s o.cache (call_cpu call)).current away)
        ∙ ap (λ t. with_gone t (call_object call) l.worker held) (settles live e)),
  ))

  lists_it : FreesAlone opening s b system x call 8 b
  lists_it = record {
    reply = reply;
    after = after;
    frees = frees;
    known = known_ends s b system x 8 listed_it words system.value next.there whole refl ∙ knows_freed l.known (call_place call) o.object (call_object call) l.worker s after held has.named (eq-eqb l.worker l.worker refl) has.on_board refl has.object;
    replies = replies_of opening s after b b system x 8 call reply listed_it words system.value next whole refl refl refl refl same
        (ends_ready opening u s after b b system (machine words system.value (set system.locals x (rested m listed_it))) rest same refl refl lengths accounted rest.beside.tids refl refl ended says ends
        (whole_list_word m words3 n longer refl small (omega (arith, small, table3.length)) fit_list (whole_link m words2 f lw.front refl begin.table.objects (whole_slab m words1 f v refl (omega (arith, table1.length, within.1)) fit (whole_memory m system.words p value refl begin.table.objects rest.whole)))));
  }
    where
      same : setup_of after b ≡ setup_of s b
      same = setup_same s b w system.locals (set s.frees f (o.index ∷ own_free s f)) (set s.cpu_lists (cpu_place s o.cache (call_cpu call)) left) s.memory (set s.board (call_object call) None) (set s.gone (call_object call) (Some held)) (set s.live o.cache (get_or s.live o.cache 0 - 1)) b.tids
          w.cpu (update w.slab f v) (update w.memory p value) (set system.locals x (rested m listed_it)) (length-set s.board (call_object call) None)

pub full_listed : FullSlabsAreListed
full_listed opening s b system x call rest next is unfrozen full room = lists_it opening s b system x call rest next is unfrozen full room
