-- A free of an object whose slab is current on the CPU: the CPU word is loaded, the freelist's head is stored in the object, and the object is put on the freelist.
use Rattle.std.proofs.Common.{◌≡◌, ℕ, ◌+◌, ◌-◌, ◌*◌, ◌/◌, ◌^◌, ◌<◌, ◌≤◌, eqb, cond, true, false, List, ◌∷◌, length, get_or, set, Option, Some, None, inl, inr, refl, ap, sym, ◌∙◌, subst, arith}
use Rattle.std.specs.Prelude.{is_some, MatchOption, MatchBool}
use Rattle.std.specs.Option.{option_map_or}
use Rattle.std.proofs.lemmas.Bool.{cases_eq, false≢true, eq-eqb, le-ltb}
use Rattle.std.proofs.lemmas.List.{get_or-set_same, get_or-set_other, set-get_or, length-set}
use Rattle.std.proofs.lemmas.List.Elements.{All-set}
use Rattle.slub_trace.specs.declared.reply.Reply.{Reply}
use Rattle.slub_trace.specs.declared.reply.Reply.TheVariants.{Freed, NotHeld}
use Rattle.slub_object_layout.specs.Layout.{address_of, no_layout}
use Rattle.slub_cache_create.specs.declared.caches.Cache.{Cache}
use Rattle.slub_words.specs.declared.cpu.CpuWord.{CpuWord}
use Rattle.slub_words.specs.Words.{cpu_bits}
use Rattle.slub_lists.specs.declared.lists.CpuLists.{CpuLists}
use Rattle.slub_lists.specs.declared.lists.Held.{Held}
use Rattle.slub_lists.specs.State.{State}
use Rattle.slub_lists.specs.Alloc.{lists_of, cache_of, checked_of, cpu_place}
use Rattle.slub_lists.specs.Free.{FreesUnchecked, is_current, is_freeable, freed_here, freed_there, with_taken, with_gone}
use Rattle.slub_lists.specs.Freeing.{Frees, FreesHeld}
use Rattle.slub_lists.specs.Checked.{FreesChecked}
use Rattle.slub_lists.specs.Words.{word_at}
use Rattle.slub_lists.specs.Coherent.{IsAccounted, held_under}
use Rattle.slub_lists.specs.Places.{layout_at}
use Rattle.slub_lists.proofs.Coherence.{place-inside}
use Rattle.slub_lists.proofs.Giving.{from-unchecked}
use Rattle.slub_lists.proofs.Places.{objects-few}
use Rattle.slub_lists.proofs.Taking.{taken-accounted}
use Rattle.slub_core.specs.declared.call.Call.{Call}
use Rattle.slub_core.specs.declared.call.CallKind.TheVariants.{Free}
use Rattle.slub_core.specs.declared.local.Known.{Known}
use Rattle.slub_core.specs.declared.spot.Spot.TheVariants.{Between, InFree}
use Rattle.slub_core.specs.declared.spot.FreeSpot.TheVariants.{LoadOwn, LinkOwn, Push}
use Rattle.slub_core.specs.declared.step.Answer.{Answer}
use Rattle.slub_core.specs.declared.step.Answer.TheVariants.{Word, Done, Won, Lost}
use Rattle.slub_core.specs.declared.step.Op.TheVariants.{Load, Store, Exchange}
use Rattle.slub_core.specs.declared.step.Place.TheVariants.{CpuOf, MemoryOf}
use Rattle.slub_core.specs.Calls.{call_kind, call_cpu, call_object, call_place}
use Rattle.slub_core.specs.Setup.{Setup, cpu_number, pointer_at, hardened}
use Rattle.slub_core.specs.Words.{cpu_in, cpu_base, memory_base}
use Rattle.slub_core.specs.World.{World, update, set_cpu, set_memory, pointer, IsChain, world_of}
use Rattle.slub_core.specs.Fresh.{IsWorded}
use Rattle.slub_core.specs.Local.{Local, Turn, at, loses, answered, goes}
use Rattle.slub_core.specs.Alloc.{is_spent}
use Rattle.slub_core.specs.Free.{way_of_own}
use Rattle.slub_core.specs.Replies.{names_object}
use Rattle.slub_core.specs.Steps.{begun, rested, advance_at}
use Rattle.slub_core.specs.Run.{System, idle, turn}
use Rattle.slub_core.specs.Law.{IsCoherentSystem}
use Rattle.slub_core.proofs.Packed.{IsCpuFit, cpu_in-bits}
use Rattle.slub_core.proofs.Update.{update_same, update_other}
use Rattle.slub_core.proofs.StepWords.{world_of-cpu, world_of-memory, cpu-read}
use Rattle.slub_law_opening.specs.Opening.{Beside, setup_of, tid_of, cpu_at}
use Rattle.slub_law_opening.specs.Rests.{IsBetween, IsCpuOf, KeepsWord, Rests, named as named_in, times_named}
use Rattle.slub_law_opening.specs.Closing.{HasLengths}
use Rattle.slub_law_opening.proofs.Names.{as_held}
use Rattle.slub_law_opening.proofs.Rows.{comes-back}
use Rattle.slub_law_alone.specs.Alone.{own_pick, alone, worker_at, known_at, IsNext, HasIds}
use Rattle.slub_law_alone.specs.Ready.{IsReady}
use Rattle.slub_law_alone.specs.Laws.{IsFree, FreesAlone, FastFreesArePushes}
use Rattle.slub_law_alone.proofs.Apart.{pointer_own, cpu_stands, own_stands, word_apart}
use Rattle.slub_law_alone.proofs.Bits.{bits_in, current_frame, whole_cpu, whole_memory}
use Rattle.slub_law_alone.proofs.Changed.{rests_changed, setup_same, same_word}
use Rattle.slub_law_alone.proofs.CpuWords.{cpus_changed}
use Rattle.slub_law_alone.proofs.Ended.{replies_of}
use Rattle.slub_law_alone.proofs.Knows.{known_ends, knows_freed}
use Rattle.slub_law_alone.proofs.Names.{named_other, named_lost}
use Rattle.slub_law_alone.proofs.Ready.{IsReadyStart, ready_starts, ready_object, along, ends_ready}
use Rattle.slub_law_alone.proofs.Start.{HasObject, begin_held}
use Rattle.slub_law_alone.proofs.Turns.{machine, turn_goes, settle_goes, settle_tells, then_turn}
use Rattle.slub_law_alone.proofs.Workers.{at_front, once_named, IsWithCalls, rested_calls}
use Rattle.slub_calls.specs.Changes.{grown}
use Rattle.slub_calls.proofs.ChangeNumbers.{cpu_here}

-- the free of an object that the worker holds is that of the lists
pub frees_held : (s : State) (cpu worker object : ℕ) (k : Known) (after : State) → held_under s object ≡ Some (as_held worker k) → is_some (cache_of s k.cache) ≡ true → checked_of s k.cache ≡ None
    → ((live : Cache) → cache_of s k.cache ≡ Some live → FreesUnchecked s live.layout cpu worker object (as_held worker k) (Freed (address_of k.frame k.index (layout_at s k.cache))) after)
    → Frees s cpu worker object (Freed (address_of k.frame k.index (layout_at s k.cache))) after
frees_held s cpu worker object k after named lives plain frees =
    let reply = Freed (address_of k.frame k.index (layout_at s k.cache)) in
    subst (λ o. MatchOption o ((reply ≡ NotHeld) × (after ≡ s)) (λ (held : Held). MatchBool (is_freeable worker held.worker) (FreesHeld s cpu worker object held reply after) ((reply ≡ NotHeld) × (after ≡ s)))) (sym named)
    (subst (λ z. MatchBool z (FreesHeld s cpu worker object (as_held worker k) reply after) ((reply ≡ NotHeld) × (after ≡ s))) (sym (eq-eqb worker worker refl)) (by (cache_of s k.cache) refl lives))
  where
    by : (o : Option Cache) → cache_of s k.cache ≡ o → is_some o ≡ true → MatchOption o ⊥ (λ live. MatchOption (checked_of s k.cache)
        (FreesUnchecked s live.layout cpu worker object (as_held worker k) (Freed (address_of k.frame k.index (layout_at s k.cache))) after)
        (λ slabs. FreesChecked s live.layout slabs worker object (as_held worker k) (Freed (address_of k.frame k.index (layout_at s k.cache))) after))
    by None e live = false≢true live
    by (Some live) e has_it = from-unchecked (checked_of s k.cache) _ _ plain (frees live e)

-- the layout of a live cache
pub layout_of : (s : State) (k : ℕ) (live : Cache) → cache_of s k ≡ Some live → layout_at s k ≡ live.layout
layout_of s k live e = ap (λ o. option_map_or (λ (live : Cache). live.layout) o no_layout) e

module _ (opening : World) (s : State) (b : Beside) (system : System) (x : ℕ) (call : Call) (rest : IsReady opening s b system x) (next : IsNext system x call) (is : IsFree s (worker_at system x) call)
    (ids : HasIds b (cpu_number (known_at (worker_at system x) call).cache (call_cpu call)) 1) (current : (lists_of s (known_at (worker_at system x) call).cache (call_cpu call)).current ≡ Some (known_at (worker_at system x) call).frame) where
  abbrev m : Setup
  m = setup_of s b

  abbrev w : World
  w = world_of m system.value system.words

  abbrev l : Local
  l = worker_at system x

  abbrev o : Known
  o = known_at l call

  abbrev n : ℕ
  n = cpu_number o.cache (call_cpu call)

  abbrev c : CpuWord
  c = w.cpu n

  abbrev lists : CpuLists
  lists = lists_of s o.cache (call_cpu call)

  abbrev held : Held
  held = as_held l.worker o

  begin : IsReadyStart opening s b system x call
  begin = ready_starts opening s b system x call rest next

  names : names_object (call_kind call) ≡ true
  names = ap names_object is.kind

  has : HasObject s system x call
  has = ready_object opening s b system x call rest next names is.held

  resting : Rests s b w system.locals
  resting = rest.rests.rests

  cpu : call_cpu call < s.cpus
  cpu = begin.may.cpu

  small : n < 512
  small = omega (arith, has.inside, cpu, begin.few)

  here : cpu_at s n ≡ lists
  here = cpu_here s o.cache (call_cpu call) cpu begin.few

  cpu_is : IsCpuOf b w n lists
  cpu_is = subst (IsCpuOf b w n) here (resting.cpu n small)

  frame : c.frame ≡ o.frame
  frame = current_frame c.frame o.frame (sym cpu_is.current ∙ current)

  abbrev p : ℕ
  p = pointer_at m o.cache o.frame o.index

  p_inside : p < 512 * m.frames
  p_inside = has.pointer

  -- ---- the turns

  abbrev asked : Local
  asked = record l { spot = InFree LoadOwn; cache = o.cache; cpu = call_cpu call; place = call_place call; fast = false; turn = 0; count = 0 }

  abbrev loaded : Local
  loaded = record asked { cpu_word = c; spot = InFree LinkOwn }

  abbrev linked : Local
  linked = at loaded (InFree Push)

  abbrev lost : Known
  lost = record o { held = false }

  abbrev freed_it : Local
  freed_it = at (loses linked) Between

  abbrev reply : Reply
  reply = Freed (address_of o.frame o.index (layout_at s o.cache))

  abbrev told : Local
  told = answered freed_it reply

  abbrev v : CpuWord
  v = record { tid = c.tid + b.step; frame = c.frame; head = o.index + 1 }

  abbrev q : ℕ
  q = get_or system.words (cpu_base + n) 0

  abbrev value : ℕ
  value = hardened o.cache p c.head

  abbrev words1 : List ℕ
  words1 = set system.words (memory_base m + p) value

  abbrev words : List ℕ
  words = set words1 (cpu_base + n) (cpu_bits v)

  reads : c ≡ cpu_in q
  reads = cpu-read m system.value system.words n small

  stays_there : get_or words1 (cpu_base + n) 0 ≡ q
  stays_there = get_or-set_other system.words (memory_base m + p) (cpu_base + n) value 0 (λ e. absurd (omega (arith, e, small)))

  hit : eqb (get_or words1 (cpu_base + n) 0) (cpu_bits c) ≡ true
  hit = eq-eqb (get_or words1 (cpu_base + n) 0) (cpu_bits c) (stays_there ∙ sym (bits_in q) ∙ ap cpu_bits (sym reads))

  spent : is_spent m c ≡ false
  spent = le-ltb (4294967295 - 2 * b.step) c.tid (omega (arith, ids, cpu_is.tid, rest.beside.step.1))

  begins : begun m false l ≡ asked
  begins = begin_held m l call next.calls Free (InFree LoadOwn) begin.between.between next.todo is.kind refl refl (ap is_some is.unchecked) is.held refl

  leads : advance_at m system.value asked (InFree LoadOwn) (Word q) ≡ goes loaded
  leads = ap by_word (sym reads) ∙ (λ i. record { local = record asked { cpu_word = c; spot = way i }; reply = None })
    where
      by_word : CpuWord → Turn
      by_word z = record { local = record asked { cpu_word = z; spot = way_of_own m asked z }; reply = None }

      way : way_of_own m asked c ≡ InFree LinkOwn
      way = rw (eq-eqb c.frame o.frame frame, spent) refl

  turn1 : turn m (machine system.words system.value (set system.locals x l)) (own_pick x) ≡ machine system.words system.value (set system.locals x loaded)
  turn1 = turn_goes m system.words system.words system.value system.locals x l asked loaded (record { place = CpuOf n; op = Load }) (Word q) next.there begins refl (set-get_or system.words (cpu_base + n) 0) refl
      (settle_goes m system.value asked loaded (Word q) leads refl refl)

  turn2 : turn m (machine system.words system.value (set system.locals x loaded)) (own_pick x) ≡ machine words1 system.value (set system.locals x linked)
  turn2 = turn_goes m system.words words1 system.value system.locals x loaded loaded linked (record { place = MemoryOf p; op = Store value }) Done next.there refl refl refl refl (settle_goes m system.value loaded linked Done refl refl refl)

  turn3 : turn m (machine words1 system.value (set system.locals x linked)) (own_pick x) ≡ machine words system.value (set system.locals x (rested m told))
  turn3 = turn_goes m words1 words system.value system.locals x linked linked (rested m told) (record { place = CpuOf n; op = Exchange (cpu_bits c) (cpu_bits v) }) Won next.there refl refl
      (ap (λ z. set words1 (cpu_base + n) (cond {A = ℕ} z (cpu_bits v) (get_or words1 (cpu_base + n) 0))) hit) (ap (λ z. cond {A = Answer} z Won (Lost (get_or words1 (cpu_base + n) 0))) hit) (settle_tells m system.value linked freed_it Won reply refl refl)

  whole : alone m x 3 system ≡ machine words system.value (set system.locals x (rested m told))
  whole = ap (alone m x 3) (ap (machine system.words system.value) (sym (set-get_or system.locals x idle)))
      ∙ then_turn m x 2 (machine system.words system.value (set system.locals x l)) (machine system.words system.value (set system.locals x loaded)) (machine words system.value (set system.locals x (rested m told))) turn1
      (then_turn m x 1 (machine system.words system.value (set system.locals x loaded)) (machine words1 system.value (set system.locals x linked)) (machine words system.value (set system.locals x (rested m told))) turn2
      (then_turn m x 0 (machine words1 system.value (set system.locals x linked)) (machine words system.value (set system.locals x (rested m told))) (machine words system.value (set system.locals x (rested m told))) turn3 refl))

  -- ---- where they end

  ended : IsCoherentSystem m opening (machine words system.value (set system.locals x (rested m told)))
  ended = subst (IsCoherentSystem m opening) whole (along opening s b system x next.there rest 2)

  index_small : o.index + 1 < 2 ^ 16
  index_small = let few = objects-few s o.frame has.slab.0 begin.consistent has.slab.1 in omega (arith, few.1, has.slab.3)

  fit : IsCpuFit v
  fit = (omega (arith, ids, cpu_is.tid), (resting.words.cpu n).1, index_small)

  says : world_of m system.value words ≡ set_cpu (set_memory w p value) n v
  says = world_of-cpu m system.value words1 n (cpu_bits v) (record { length = length-set system.words (memory_base m + p) value ∙ begin.table.length; locks = refl; cpu_words = refl; frames = begin.table.frames; objects = begin.table.objects }) small
      ∙ ap (λ w. set_cpu w n (cpu_in (cpu_bits v))) (world_of-memory m system.value system.words p value begin.table p_inside) ∙ ap (set_cpu (set_memory w p value) n) (cpu_in-bits v fit)

  abbrev left : CpuLists
  left = record lists { free = o.index ∷ lists.free }

  abbrev after : State
  after = with_gone (freed_here (with_taken s (call_object call) o.cache) o.cache (call_cpu call) o.index) (call_object call) l.worker held

  abbrev d : Beside
  d = grown b n 1

  calls : IsWithCalls told (rested m told)
  calls = rested_calls m told refl

  known_is : (rested m told).known ≡ set l.known (call_place call) lost
  known_is = ap (λ (l : Local). l.known) calls.same

  worker_is : (rested m told).worker ≡ l.worker
  worker_is = ap (λ (l : Local). l.worker) calls.same

  once : (o : ℕ) → times_named (set_cpu (set_memory w p value) n v) (set system.locals x (rested m told)) o ≤ 1
  once o = subst (λ w. times_named w (set system.locals x (rested m told)) o ≤ 1) says (once_named m opening (machine words system.value (set system.locals x (rested m told))) ended o)

  place_below : cpu_place s o.cache (call_cpu call) < length s.cpu_lists
  place_below = place-inside s o.cache (call_cpu call) rest.lists.shaped has.inside cpu

  worker_rests : IsBetween w.setup (rested m told)
  worker_rests = subst (IsBetween w.setup) (sym calls.same) (record {
    between = refl;
    hands = begin.between.hands;
    string = begin.between.string;
    run = begin.between.run;
    packed = record { cpu_word = resting.words.cpu n; slab_word = begin.between.packed.slab_word; list_word = begin.between.packed.list_word; next = begin.between.packed.next };
    cpu = subst (λ (m : Setup). call_cpu call < m.cpus) (sym resting.setup) begin.may.cpu;
    numbers = All-set (λ (k : Known). k.object < w.setup.objects) l.known (call_place call) lost (subst (λ (m : Setup). o.object < m.objects) (sym resting.setup) (omega (arith, has.object, has.on_board))) begin.between.numbers;
    some = All-set (λ (k : Known). k.held ≡ true → 1 ≤ k.object) l.known (call_place call) lost (λ e. absurd (false≢true e)) begin.between.some;
  })

  head_free : IsChain (pointer (set_cpu (set_memory w p value) n v) o.cache c.frame) (o.index + 1) (o.index ∷ lists.free)
  head_free =
      let u : World = set_cpu (set_memory w p value) n v in
      let stands = cpu_stands s (call_object call) held begin.consistent has.named p (pointer_own s (call_object call) held begin.consistent has.named) b w system.locals resting (update w.cpu n v) w.slab value n small in
      let mine : IsChain (pointer u o.cache c.frame) c.head lists.free = subst (λ k. IsChain (pointer u k c.frame) c.head lists.free) number (subst (λ (x : CpuLists). IsChain (pointer u (n / 16) c.frame) c.head x.free) here stands) in
      (omega arith, subst (λ h. IsChain (pointer u o.cache c.frame) h lists.free) (sym (leads_back u refl)) mine)
    where
      number : n / 16 ≡ o.cache
      number = omega (arith, cpu, begin.few)

      leads_back : (u : World) → u ≡ set_cpu (set_memory w p value) n v → pointer u o.cache c.frame o.index ≡ c.head
      leads_back u e = ap (λ (u : World). pointer u o.cache c.frame o.index) e ∙ ap (λ f. pointer (set_cpu (set_memory w p value) n v) o.cache f o.index) frame
          ∙ ap (λ (m : Setup). hardened o.cache (pointer_at m o.cache o.frame o.index) (update w.memory p value (pointer_at m o.cache o.frame o.index))) resting.setup
          ∙ ap (hardened o.cache p) (update_same w.memory p value) ∙ comes-back o.cache p c.head

  ends : Rests after d (set_cpu (set_memory w p value) n v) (set system.locals x (rested m told))
  ends = rests_changed s b w system.locals s.frees (set s.cpu_lists (cpu_place s o.cache (call_cpu call)) left) s.memory (set s.board (call_object call) None) (set s.gone (call_object call) (Some held)) (set s.live o.cache (get_or s.live o.cache 0 - 1)) (set b.tids n (tid_of b n + 1 * b.step))
      (update w.cpu n v) w.slab (update w.memory p value) (set system.locals x (rested m told)) resting
      (length-set s.board (call_object call) None)
      (let f = at_front m opening (machine words system.value (set system.locals x (rested m told))) x (omega (arith, next.there, length-set system.locals x (rested m told))) ended in subst IsWorded says f.stands.fresh.worded)
      (All-set (IsBetween w.setup) system.locals x (rested m told) worker_rests resting.workers)
      (cpus_changed s b w o.cache (call_cpu call) left v (tid_of b n + 1 * b.step) w.slab (update w.memory p value) cpu begin.few place_below (omega (arith, small, rest.beside.tids)) resting.cpu (omega (arith, cpu_is.tid)) cpu_is.current
      head_free refl (λ n below away. cpu_stands s (call_object call) held begin.consistent has.named p (pointer_own s (call_object call) held begin.consistent has.named) b w system.locals resting (update w.cpu (cpu_number o.cache (call_cpu call)) v) w.slab value n below))
      (λ f. same_word (w.slab f)) (λ f. record { chain = own_stands s (call_object call) held begin.consistent has.named p (pointer_own s (call_object call) held begin.consistent has.named) b w system.locals resting (update w.cpu n v) w.slab value f; in_use = (resting.own f).in_use })
      names_are once words_are
    where
      names_are : (j : ℕ) → get_or (set s.board (call_object call) None) j None ≡ named_in (set_cpu (set_memory w p value) n v) (set system.locals x (rested m told)) j
      names_are j = elim (cases_eq j (call_object call)) [
        | inl e ↦ ap (λ o. get_or (set s.board (call_object call) None) o None) e ∙ get_or-set_same s.board (call_object call) None None has.on_board
            ∙ sym (named_lost (set_cpu (set_memory w p value) n v) system.locals x (call_place call) (rested m told) lost next.there has.place known_is refl is.held j (has.object ∙ sym e) (resting.once j))
        | inr away ↦ get_or-set_other s.board (call_object call) j None None away ∙ resting.named j ∙ sym (named_other (set_cpu (set_memory w p value) n v) system.locals x (call_place call) (rested m told) lost worker_is known_is refl j (λ e. away (sym e ∙ has.object)))
      ]

      words_are : (j word : ℕ) (h : Held) → get_or (set s.board (call_object call) None) j None ≡ Some h → KeepsWord s (set_cpu (set_memory w p value) n v) h word
      words_are j word h there plain inside = elim (cases_eq j (call_object call)) [
        | inl e ↦ absurd (let none = ap (λ o. get_or (set s.board (call_object call) None) o None) e ∙ get_or-set_same s.board (call_object call) None None has.on_board in cc (none, there))
        | inr away ↦
            let before : held_under s j ≡ Some h = sym (get_or-set_other s.board (call_object call) j None None away) ∙ there in
            update_other w.memory p value (word_at (layout_at s h.cache) h word) (word_apart s (call_object call) held begin.consistent has.named j word h before away inside) ∙ resting.contents j word h before plain inside
      ]

  -- ---- on lists

  accounted : IsAccounted after
  accounted = taken-accounted s (call_object call) held begin.consistent has.named

  lengths : HasLengths after
  lengths = record {
    slabs = rest.lists.shaped.slabs;
    frees = rest.lists.shaped.frees;
    cpu_lists = length-set s.cpu_lists (cpu_place s o.cache (call_cpu call)) left ∙ rest.lists.shaped.cpu_lists;
    nodes = rest.lists.shaped.nodes;
    checked = rest.lists.shaped.checked.numbers;
    memory = rest.lists.shaped.memory;
    gone = length-set s.gone (call_object call) (Some held) ∙ rest.lists.shaped.gone ∙ sym (length-set s.board (call_object call) None);
    live = length-set s.live o.cache (get_or s.live o.cache 0 - 1) ∙ rest.lists.shaped.live;
  }

  frees : Frees s (call_cpu call) l.worker (call_object call) reply after
  frees = frees_held s (call_cpu call) l.worker (call_object call) o after has.named has.lives is.unchecked (λ live e. (
    ap (λ layout. Freed (address_of o.frame o.index layout)) (layout_of s o.cache live e),
    sym (ap (λ z. with_gone (cond {A = State} z (freed_here (with_taken s (call_object call) o.cache) o.cache (call_cpu call) o.index) (freed_there (with_taken s (call_object call) o.cache) live.layout o.cache (call_cpu call) o.frame o.index)) (call_object call) l.worker held) on_cpu),
  ))
    where
      on_cpu : is_current o.frame lists.current ≡ true
      on_cpu = ap (is_current o.frame) current ∙ eq-eqb o.frame o.frame refl

  pushes : FreesAlone opening s b system x call 3 d
  pushes = record {
    reply = reply;
    after = after;
    frees = frees;
    known = known_ends s b system x 3 told words system.value next.there whole refl ∙ knows_freed l.known (call_place call) o.object (call_object call) l.worker s after held has.named (eq-eqb l.worker l.worker refl) has.on_board refl has.object;
    replies = replies_of opening s after b d system x 3 call reply told words system.value next whole refl refl refl refl same
        (ends_ready opening (set_cpu (set_memory w p value) n v) s after b d system (machine words system.value (set system.locals x (rested m told))) rest same refl refl lengths accounted (length-set b.tids n (tid_of b n + 1 * b.step) ∙ rest.beside.tids) refl refl ended says ends (whole_cpu m words1 n (cpu_bits v) refl small (whole_memory m system.words p value refl begin.table.objects rest.whole)));
  }
    where
      same : setup_of after d ≡ setup_of s b
      same = setup_same s b w system.locals s.frees (set s.cpu_lists (cpu_place s o.cache (call_cpu call)) left) s.memory (set s.board (call_object call) None) (set s.gone (call_object call) (Some held)) (set s.live o.cache (get_or s.live o.cache 0 - 1)) (set b.tids n (tid_of b n + 1 * b.step))
          (update w.cpu n v) w.slab (update w.memory p value) (set system.locals x (rested m told)) (length-set s.board (call_object call) None)

pub fast_pushes : FastFreesArePushes
fast_pushes opening s b system x call rest next is ids current = pushes opening s b system x call rest next is ids current
