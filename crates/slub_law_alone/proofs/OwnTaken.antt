-- An allocation that takes the own freelist of its CPU's current slab: the slab is taken off the CPU, its freelist taken, and it becomes current with the rest.
use Rattle.std.proofs.Common.{◌≡◌, ℕ, suc, ◌+◌, ◌-◌, ◌*◌, ◌/◌, ◌%◌, ◌^◌, ◌<◌, ◌≤◌, eqb, cond, true, false, List, [], ◌∷◌, length, get_or, set, Option, Some, None, inl, inr, refl, ap, sym, ◌∙◌, subst, arith}
use Rattle.std.specs.Prelude.{is_some, IfSome, MatchOption, MatchResult}
use Rattle.std.specs.Option.{option_map}
use Rattle.std.proofs.lemmas.Bool.{cases_eq, false≢true, eq-eqb, ne_eqb, le-ltb}
use Rattle.std.proofs.lemmas.List.{get_or-set_same, get_or-set_other, set-get_or, set-set, length-set}
use Rattle.std.proofs.lemmas.List.Elements.{All-set}
use Rattle.slub_common.specs.Times.{times}
use Rattle.slub_trace.specs.Kinds.{is_given}
use Rattle.slub_trace.specs.declared.reply.Reply.{Reply}
use Rattle.slub_trace.specs.declared.reply.Reply.TheVariants.{Given, NoSuchCache}
use Rattle.slub_object_layout.specs.Layout.{address_of}
use Rattle.slub_cache_create.specs.declared.caches.Cache.{Cache}
use Rattle.slub_words.specs.declared.cpu.CpuWord.{CpuWord}
use Rattle.slub_words.specs.declared.slab.SlabWord.{SlabWord}
use Rattle.slub_words.specs.Words.{cpu_bits, slab_bits}
use Rattle.slub_lists.specs.declared.lists.Slab.{Slab}
use Rattle.slub_lists.specs.declared.lists.CpuLists.{CpuLists}
use Rattle.slub_lists.specs.declared.lists.Held.{Held}
use Rattle.slub_lists.specs.State.{State}
use Rattle.slub_lists.specs.Alloc.{lists_of, no_lists, cache_of, checked_of, cpu_place, slab_of, own_free, marked, taken_up, from_free, from_slabs, from_current, batch_of, AllocatesNew, Gives}
use Rattle.slub_lists.specs.Named.{AllocatesNamed, AllocatesFrom}
use Rattle.slub_lists.specs.Coherent.{IsConsistent, IsAccounted, held_under}
use Rattle.slub_lists.specs.Places.{IsCurrent, layout_at, pointer_at as pointer_in}
use Rattle.slub_lists.proofs.Accounted.{accounted-with_held}
use Rattle.slub_lists.proofs.Coherence.{place-inside}
use Rattle.slub_lists.proofs.Giving.{from-unchecked}
use Rattle.slub_lists.proofs.Places.{objects-few, own-object, pointer-inside, slab-inside}
use Rattle.slub_core.specs.declared.call.Call.{Call}
use Rattle.slub_core.specs.declared.local.Known.{Known}
use Rattle.slub_core.specs.declared.spot.Spot.TheVariants.{Between, InAlloc}
use Rattle.slub_core.specs.declared.spot.AllocSpot.TheVariants.{LoadCpu, Detach, LoadTaken, TakeAll, LoadReady}
use Rattle.slub_core.specs.declared.step.Answer.{Answer}
use Rattle.slub_core.specs.declared.step.Answer.TheVariants.{Word, Won, Lost}
use Rattle.slub_core.specs.declared.step.Op.TheVariants.{Load, Exchange}
use Rattle.slub_core.specs.declared.step.Place.TheVariants.{SlabOf}
use Rattle.slub_core.specs.Calls.{call_kind, call_cpu, call_object, call_place}
use Rattle.slub_core.specs.Setup.{Setup, cpu_number, pointer_at, hardened}
use Rattle.slub_core.specs.Words.{cpu_in, slab_in, cpu_base, slab_base, memory_base}
use Rattle.slub_core.specs.World.{World, update, set_cpu, set_slab, pointer, IsChain, world_from, world_of, one_if}
use Rattle.slub_core.specs.Local.{Local, Turn, nobody, hand_from, answered, goes}
use Rattle.slub_core.specs.Ops.{load_slab, change_slab}
use Rattle.slub_core.specs.Alloc.{is_spent, way_of_taken}
use Rattle.slub_core.specs.Replies.{names_object}
use Rattle.slub_core.specs.Steps.{rested, advance_at}
use Rattle.slub_core.specs.Run.{System, idle, turn}
use Rattle.slub_core.specs.Law.{IsCoherentSystem}
use Rattle.slub_core.specs.Fresh.{IsWorded}
use Rattle.slub_core.proofs.Chains.{IsChain-first, Leads-small}
use Rattle.slub_core.proofs.Lists.{times-first}
use Rattle.slub_core.proofs.Packed.{IsCpuFit, IsSlabFit, cpu_in-bits, slab_in-bits}
use Rattle.slub_core.proofs.Update.{update_at, update_same, update_other, each_updated}
use Rattle.slub_core.proofs.StepWords.{IsTable, world_of-cpu, world_of-slab, slab-read, memory-read}
use Rattle.slub_law_opening.specs.Opening.{Beside, setup_of, tid_of, cpu_at}
use Rattle.slub_law_opening.specs.Rests.{IsBetween, IsCpuOf, IsFreelistOf, Rests, named as named_in, times_named}
use Rattle.slub_law_opening.specs.Closing.{HasLengths}
use Rattle.slub_law_opening.proofs.Cpus.{current-at}
use Rattle.slub_law_opening.proofs.Words.{chain-empty, chain-some}
use Rattle.slub_law_alone.specs.Alone.{own_pick, alone, worker_at, IsAtRest, IsNext, HasIds}
use Rattle.slub_law_alone.specs.Laws.{IsAlloc, AllocatesAlone, OwnFreelistsAreTaken}
use Rattle.slub_law_alone.proofs.Bits.{keeps_small, object_once, memory_of, copied, copied_length, current_frame, whole_cpu, whole_slab}
use Rattle.slub_law_alone.proofs.Changed.{SameSlab, rests_changed, setup_same, same_word}
use Rattle.slub_law_alone.proofs.CpuWords.{cpus_changed}
use Rattle.slub_law_alone.proofs.Install.{install_turns}
use Rattle.slub_law_alone.proofs.Apart.{IsSlabAt, slab_word, plain_word}
use Rattle.slub_law_alone.proofs.FastFree.{layout_of}
use Rattle.slub_law_alone.proofs.DetachFirst.{loads_word, takes_slab}
use Rattle.slub_law_alone.proofs.Ended.{alone_keeps, ends_at_rest, replies_of}
use Rattle.slub_law_alone.proofs.Knows.{known_ends, knows_given}
use Rattle.slub_law_alone.proofs.Names.{named_other, named_held, named_new}
use Rattle.slub_law_alone.proofs.Turns.{machine, turn_goes, settle_goes, then_turn}
use Rattle.slub_law_alone.proofs.Workers.{at_front, once_named, IsWithCalls, rested_calls}
use Rattle.slub_law_alone.proofs.Start.{IsStart, starts}
use Rattle.slub_calls.specs.Changes.{grown}
use Rattle.slub_calls.proofs.ChangeNumbers.{cpu_here}

-- a function changed twice at one number
pub update_twice : {A : Type 0} (g : ℕ → A) (n : ℕ) (a b : A) → update (update g n a) n b ≡ update g n b
update_twice g n a b = λ i k. same k i
  where
    same : (k : ℕ) → update (update g n a) n b k ≡ update g n b k
    same k = elim (cases_eq k n) [
      | inl e ↦ update_at (update g n a) n b k e ∙ sym (update_at g n b k e)
      | inr d ↦ update_other (update g n a) n b k d ∙ update_other g n a k d ∙ sym (update_other g n b k d)
    ]

module _ (opening : World) (s : State) (b : Beside) (system : System) (x : ℕ) (call : Call) (place k f : ℕ) (rest : IsAtRest opening s b system) (next : IsNext system x call) (is : IsAlloc s call place k)
    (ids : HasIds b (cpu_number k (call_cpu call)) 2) (empty : (lists_of s k (call_cpu call)).free ≡ []) (current : (lists_of s k (call_cpu call)).current ≡ Some f) (some : 0 < length (own_free s f)) where
  abbrev m : Setup
  m = setup_of s b

  abbrev w : World
  w = world_of m system.value system.words

  abbrev l : Local
  l = worker_at system x

  abbrev n : ℕ
  n = cpu_number k (call_cpu call)

  abbrev c : CpuWord
  c = w.cpu n

  abbrev z : SlabWord
  z = w.slab f

  abbrev lists : CpuLists
  lists = lists_of s k (call_cpu call)

  begin : IsStart opening s b system x call
  begin = starts opening s b system x call rest next

  consistent : IsConsistent s
  consistent = begin.consistent

  resting : Rests s b w system.locals
  resting = rest.rests.rests

  lives : m.lives k ≡ true
  lives = subst (λ o. IfSome o (λ k. m.lives k ≡ true)) is.asks begin.may.cache

  inside : k < 32
  inside = begin.setup.live k lives

  cpu : call_cpu call < s.cpus
  cpu = begin.may.cpu

  small : n < 512
  small = omega (arith, inside, cpu, begin.few)

  number : n / 16 ≡ k
  number = omega (arith, cpu, begin.few)

  here : cpu_at s n ≡ lists
  here = cpu_here s k (call_cpu call) cpu begin.few

  cpu_is : IsCpuOf b w n lists
  cpu_is = subst (IsCpuOf b w n) here (resting.cpu n small)

  names : names_object (call_kind call) ≡ true
  names = ap names_object is.kind

  current_at : (cpu_at s n).current ≡ Some f
  current_at = ap (λ (x : CpuLists). x.current) here ∙ current

  frame : c.frame ≡ f
  frame = current_frame c.frame f (sym cpu_is.current ∙ current)

  bare : c.head ≡ 0
  bare = chain-empty (pointer w (n / 16) c.frame) c.head lists.free cpu_is.free (ap (length {A = ℕ}) empty)

  -- ---- the slab

  at_cpu : IsCurrent s (n / 16) f
  at_cpu = current-at s n f consistent current_at

  within : (0 < f) × (f < s.frames)
  within = slab-inside s f at_cpu.slab consistent at_cpu.there

  slab_some : 1 ≤ z.objects
  slab_some = plain_word s b w system.locals begin.front.stands.chains resting begin.front.stands.listed.shaped f 0 at_cpu.slab at_cpu.there (objects-few s f at_cpu.slab consistent at_cpu.there).0 (ap (checked_of s) at_cpu.own ∙ at_cpu.unchecked)

  slab_at_it : IsSlabAt s w f
  slab_at_it = slab_word s b w system.locals resting f slab_some

  same_slab : at_cpu.slab ≡ slab_at_it.slab
  same_slab = injected (sym at_cpu.there ∙ slab_at_it.there)
    where
      injected : {x y : Slab} → Some x ≡ Some y → x ≡ y
      injected e = cc

  cache : z.cache ≡ k
  cache = sym slab_at_it.cache ∙ ap (λ (x : Slab). x.cache) (sym same_slab) ∙ at_cpu.own ∙ number

  own : IsChain (pointer w k f) z.head (own_free s f)
  own = subst (λ q. IsChain (pointer w q f) z.head (own_free s f)) cache (resting.own f).chain

  head : 1 ≤ z.head
  head = chain-some (pointer w k f) z.head (own_free s f) own some

  first : (ys : List ℕ) × (own_free s f ≡ (z.head - 1) ∷ ys) × IsChain (pointer w k f) (pointer w k f (z.head - 1)) ys
  first = IsChain-first (pointer w k f) z.head (own_free s f) head own

  has_first : 1 ≤ times (z.head - 1) (own_free s f)
  has_first =
      let t = times-first (z.head - 1) (z.head - 1) first.0 in
      let o : one_if (eqb (z.head - 1) (z.head - 1)) ≡ 1 = ap one_if (eq-eqb (z.head - 1) (z.head - 1) refl) in
      subst (λ free. 1 ≤ times (z.head - 1) free) (sym first.1) (omega (arith, t, o))

  abbrev p : ℕ
  p = pointer_at m k f (z.head - 1)

  p_inside : p < 512 * m.frames
  p_inside =
      let r = own-object s f (z.head - 1) consistent has_first in
      let one : r.0 ≡ at_cpu.slab = injected (sym r.1 ∙ at_cpu.there) in
      let layout : pointer_in (layout_at s r.0.cache) f (z.head - 1) ≡ p = ap (λ (x : Slab). pointer_in (layout_at s x.cache) f (z.head - 1)) one ∙ ap (λ q. pointer_in (layout_at s q) f (z.head - 1)) (at_cpu.own ∙ number) in
      omega (arith, pointer-inside s f (z.head - 1) r.0 consistent r.1 r.2, layout, rest.lists.shaped.memory)
    where
      injected : {x y : Slab} → Some x ≡ Some y → x ≡ y
      injected e = cc

  member : (j : ℕ) → 1 ≤ times j first.0 → suc j < 2 ^ 16
  member j has =
      let t = times-first j (z.head - 1) first.0 in
      let r = own-object s f j consistent (subst (λ free. 1 ≤ times j free) (sym first.1) (omega (arith, t, has))) in
      let few = objects-few s f r.0 consistent r.1 in
      omega (arith, r.2, few.1)

  -- ---- the turns

  abbrev asked : Local
  asked = record l { spot = InAlloc LoadCpu; cache = k; cpu = call_cpu call; place = call_place call; fast = false; turn = 0; count = 0 }

  abbrev loaded : Local
  loaded = record asked { cpu_word = c; spot = InAlloc Detach }

  abbrev detached : Local
  detached = record loaded { spot = InAlloc LoadTaken; hands = hand_from c.frame c.head ∷ l.hands }

  abbrev seen : Local
  seen = record detached { slab_word = z; spot = InAlloc TakeAll }

  abbrev ready : Local
  ready = record seen { spot = InAlloc LoadReady; hands = hand_from c.frame z.head ∷ l.hands }

  abbrev d : CpuWord
  d = record { tid = c.tid + b.step; frame = 0; head = 0 }

  abbrev e : SlabWord
  e = record z { head = 0; inuse = z.objects }

  abbrev r : ℕ
  r = get_or system.words (slab_base + f) 0

  abbrev words1 : List ℕ
  words1 = set system.words (cpu_base + n) (cpu_bits d)

  abbrev words2 : List ℕ
  words2 = set words1 (slab_base + f) (slab_bits e)

  slab_reads : z ≡ slab_in r
  slab_reads = slab-read m system.value system.words f within.1

  slab_there : get_or words1 (slab_base + f) 0 ≡ r
  slab_there = get_or-set_other system.words (cpu_base + n) (slab_base + f) (cpu_bits d) 0 (λ e. absurd (omega (arith, e, small)))

  slab_hit : eqb (get_or words1 (slab_base + f) 0) (slab_bits z) ≡ true
  slab_hit = eq-eqb (get_or words1 (slab_base + f) 0) (slab_bits z) (slab_there ∙ sym (rest.whole.slab f within.1) ∙ ap slab_bits (sym slab_reads))

  spent_again : is_spent m d ≡ false
  spent_again = le-ltb (4294967295 - 2 * b.step) (c.tid + b.step) (omega (arith, ids, cpu_is.tid, rest.beside.step.1))

  turn1 : turn m (machine system.words system.value (set system.locals x l)) (own_pick x) ≡ machine system.words system.value (set system.locals x loaded)
  turn1 = loads_word opening s b system x call place k f rest next is (omega (arith, ids)) empty current

  turn2 : turn m (machine system.words system.value (set system.locals x loaded)) (own_pick x) ≡ machine words1 system.value (set system.locals x detached)
  turn2 = takes_slab opening s b system x call place k f rest next is (omega (arith, ids)) empty current

  turn3 : turn m (machine words1 system.value (set system.locals x detached)) (own_pick x) ≡ machine words1 system.value (set system.locals x seen)
  turn3 = turn_goes m words1 words1 system.value system.locals x detached detached seen (record { place = SlabOf f; op = Load }) (Word (get_or words1 (slab_base + f) 0)) next.there refl (ap (λ f. load_slab f) frame) (set-get_or words1 (slab_base + f) 0) refl
      (settle_goes m system.value detached seen (Word (get_or words1 (slab_base + f) 0)) leads refl refl)
    where
      by_word : SlabWord → Turn
      by_word z = record { local = record detached { slab_word = z; spot = way_of_taken z }; reply = None }

      way : way_of_taken z ≡ InAlloc TakeAll
      way = rw (ne_eqb z.head 0 (λ none. absurd (omega (arith, none, head)))) refl

      leads : advance_at m system.value detached (InAlloc LoadTaken) (Word (get_or words1 (slab_base + f) 0)) ≡ goes seen
      leads = ap (λ y. by_word (slab_in y)) slab_there ∙ ap by_word (sym slab_reads) ∙ (λ i. record { local = record detached { slab_word = z; spot = way i }; reply = None })

  turn4 : turn m (machine words1 system.value (set system.locals x seen)) (own_pick x) ≡ machine words2 system.value (set system.locals x ready)
  turn4 = turn_goes m words1 words2 system.value system.locals x seen seen ready (record { place = SlabOf f; op = Exchange (slab_bits z) (slab_bits e) }) Won next.there refl (ap (λ f. change_slab seen f e) frame)
      (ap (λ h. set words1 (slab_base + f) (cond {A = ℕ} h (slab_bits e) (get_or words1 (slab_base + f) 0))) slab_hit) (ap (λ h. cond {A = Answer} h Won (Lost (get_or words1 (slab_base + f) 0))) slab_hit) (settle_goes m system.value seen ready Won refl refl refl)

  -- ---- the last three turns

  abbrev base : Local
  base = seen

  abbrev follows : ℕ
  follows = hardened k (pointer_at m k c.frame (z.head - 1)) (get_or words2 (memory_base m + pointer_at m k c.frame (z.head - 1)) 0) % 2 ^ 16

  follows_is : follows ≡ pointer w k f (z.head - 1)
  unfolding world_of world_from
  follows_is =
      let other1 : get_or words2 (memory_base m + p) 0 ≡ get_or words1 (memory_base m + p) 0 = get_or-set_other words1 (slab_base + f) (memory_base m + p) (slab_bits e) 0 (λ e. absurd (omega (arith, e, within.1, begin.table.objects))) in
      let other2 : get_or words1 (memory_base m + p) 0 ≡ get_or system.words (memory_base m + p) 0 = get_or-set_other system.words (cpu_base + n) (memory_base m + p) (cpu_bits d) 0 (λ e. absurd (omega (arith, e, small))) in
      ap (λ g. hardened k (pointer_at m k g (z.head - 1)) (get_or words2 (memory_base m + pointer_at m k g (z.head - 1)) 0) % 2 ^ 16) frame
      ∙ ap (λ y. hardened k p y % 2 ^ 16) (other1 ∙ other2 ∙ sym (memory-read m system.value system.words p p_inside))
      ∙ keeps_small (pointer w k f (z.head - 1)) (Leads-small (pointer w k f) (pointer w k f (z.head - 1)) first.0 member first.2)

  abbrev v : CpuWord
  v = record { tid = c.tid + b.step + b.step; frame = c.frame; head = follows }

  abbrev words : List ℕ
  words = set words2 (cpu_base + n) (cpu_bits v)

  abbrev known : Known
  known = record { object = (get_or l.known (call_place call) nobody).object; frame = c.frame; index = z.head - 1; cache = k; held = true }

  abbrev has : Local
  has = record base { spot = Between; hands = l.hands; cpu_word = d; known = set l.known (call_place call) known }

  abbrev reply : Reply
  reply = Given (address_of c.frame (z.head - 1) (layout_at s k))

  abbrev told : Local
  told = answered has reply

  whole : alone m x 7 system ≡ machine words system.value (set system.locals x (rested m told))
  whole = ap (alone m x 7) (ap (machine system.words system.value) (sym (set-get_or system.locals x idle)))
      ∙ then_turn m x 6 (machine system.words system.value (set system.locals x l)) (machine system.words system.value (set system.locals x loaded)) (machine words system.value (set system.locals x (rested m told))) turn1
      (then_turn m x 5 (machine system.words system.value (set system.locals x loaded)) (machine words1 system.value (set system.locals x detached)) (machine words system.value (set system.locals x (rested m told))) turn2
      (then_turn m x 4 (machine words1 system.value (set system.locals x detached)) (machine words1 system.value (set system.locals x seen)) (machine words system.value (set system.locals x (rested m told))) turn3
      (then_turn m x 3 (machine words1 system.value (set system.locals x seen)) (machine words2 system.value (set system.locals x ready)) (machine words system.value (set system.locals x (rested m told))) turn4
      (install_turns m words2 system.value system.locals x base l.hands c.frame z.head d next.there reads_d (omega (arith, ids, cpu_is.tid), omega arith, omega arith) refl spent_again))))
    where
      reads_d : get_or words2 (cpu_base + n) 0 ≡ cpu_bits d
      reads_d = get_or-set_other words1 (slab_base + f) (cpu_base + n) (slab_bits e) 0 (λ e. absurd (omega (arith, e, small))) ∙ get_or-set_same system.words (cpu_base + n) (cpu_bits d) 0 (omega (arith, small, begin.table.length))

  -- ---- where they end

  ended : IsCoherentSystem m opening (machine words system.value (set system.locals x (rested m told)))
  ended = subst (IsCoherentSystem m opening) whole (alone_keeps m opening x 7 system rest.coherent)

  fit : IsCpuFit v
  fit = (omega (arith, ids, cpu_is.tid), (resting.words.cpu n).1, omega arith)

  fit_d : IsCpuFit d
  fit_d = (omega (arith, ids, cpu_is.tid), omega arith, omega arith)

  fit_e : IsSlabFit e
  fit_e = (omega arith, (resting.words.slab f).2, (resting.words.slab f).2, (resting.words.slab f).3)

  abbrev u : World
  u = set_cpu (set_slab w f e) n v

  table1 : IsTable m words1
  table1 = record { length = length-set system.words (cpu_base + n) (cpu_bits d) ∙ begin.table.length; locks = refl; cpu_words = refl; frames = begin.table.frames; objects = begin.table.objects }

  table2 : IsTable m words2
  table2 = record { length = length-set words1 (slab_base + f) (slab_bits e) ∙ table1.length; locks = refl; cpu_words = refl; frames = begin.table.frames; objects = begin.table.objects }

  says : world_of m system.value words ≡ u
  says = world_of-cpu m system.value words2 n (cpu_bits v) table2 small
      ∙ ap (λ w. set_cpu w n (cpu_in (cpu_bits v))) (world_of-slab m system.value words1 f (slab_bits e) table1 within.1
      ∙ ap (λ w. set_slab w f (slab_in (slab_bits e))) (world_of-cpu m system.value system.words n (cpu_bits d) begin.table small ∙ ap (set_cpu w n) (cpu_in-bits d fit_d)) ∙ ap (set_slab (set_cpu w n d) f) (slab_in-bits e fit_e))
      ∙ ap (set_cpu (set_slab (set_cpu w n d) f e) n) (cpu_in-bits v fit) ∙ ap with_cpus (update_twice w.cpu n d v)
    where
      with_cpus : (ℕ → CpuWord) → World
      with_cpus g = record w { cpu = g; slab = update w.slab f e }

  abbrev left : CpuLists
  left = record { current = Some f; free = first.0; partial = lists.partial }

  abbrev held : Held
  held = record { frame = c.frame; index = z.head - 1; cache = k; worker = Some l.worker }

  abbrev after : State
  after = record s { frees = set s.frees f []; cpu_lists = set s.cpu_lists (cpu_place s k (call_cpu call)) left; board = set s.board (call_object call) (Some held); live = set s.live k (get_or s.live k 0 + 1) }

  abbrev given : State
  given = record after { memory = memory_of w (512 * s.frames) }

  abbrev b2 : Beside
  b2 = grown b n 2

  calls : IsWithCalls told (rested m told)
  calls = rested_calls m told refl

  known_is : (rested m told).known ≡ set l.known (call_place call) known
  known_is = ap (λ (l : Local). l.known) calls.same

  worker_is : (rested m told).worker ≡ l.worker
  worker_is = ap (λ (l : Local). l.worker) calls.same

  object : known.object ≡ call_object call
  object = begin.may.known names

  on_board : call_object call < length s.board
  on_board = (begin.may.object names).1

  once : (o : ℕ) → times_named u (set system.locals x (rested m told)) o ≤ 1
  once o = subst (λ w. times_named w (set system.locals x (rested m told)) o ≤ 1) says (once_named m opening (machine words system.value (set system.locals x (rested m told))) ended o)

  unused : held_under s (call_object call) ≡ None
  unused = resting.named (call_object call) ∙ named_new w system.locals x (call_place call) (rested m told) known next.there (begin.may.place names) known_is refl (begin.may.new is.kind) (call_object call) object (once (call_object call))

  place_below : cpu_place s k (call_cpu call) < length s.cpu_lists
  place_below = place-inside s k (call_cpu call) rest.lists.shaped inside cpu

  frees_below : f < length s.frees
  frees_below = omega (arith, within.1, rest.lists.shaped.frees)

  worker_rests : IsBetween w.setup (rested m told)
  worker_rests = subst (IsBetween w.setup) (sym calls.same) (record {
    between = refl;
    hands = begin.between.hands;
    string = begin.between.string;
    run = begin.between.run;
    packed = record { cpu_word = fit_d; slab_word = resting.words.slab f; list_word = begin.between.packed.list_word; next = begin.between.packed.next };
    cpu = subst (λ (m : Setup). call_cpu call < m.cpus) (sym resting.setup) begin.may.cpu;
    numbers = All-set (λ (k : Known). k.object < w.setup.objects) l.known (call_place call) known (subst (λ (m : Setup). known.object < m.objects) (sym resting.setup) (omega (arith, object, on_board))) begin.between.numbers;
    some = All-set (λ (k : Known). k.held ≡ true → 1 ≤ k.object) l.known (call_place call) known (λ _. omega (arith, object, (begin.may.object names).0)) begin.between.some;
  })

  own_ends : (g : ℕ) → IsFreelistOf u g (get_or (set s.frees f []) g [])
  own_ends g = elim (cases_eq g f) [
    | inl same ↦ subst (λ g. IsFreelistOf u g (get_or (set s.frees f []) g [])) (sym same) (subst (IsFreelistOf u f) (sym (get_or-set_same s.frees f [] [] frees_below)) (record {
      chain = ap (λ (c : SlabWord). c.head) (update_same w.slab f e);
      in_use = subst (λ (c : SlabWord). c.inuse + 0 ≡ c.objects) (sym (update_same w.slab f e)) (omega arith);
    }))
    | inr other ↦ subst (IsFreelistOf u g) (sym (get_or-set_other s.frees f g [] [] other)) (record {
      chain = subst (λ (c : SlabWord). IsChain (pointer u c.cache g) c.head (own_free s g)) (sym (update_other w.slab f e g other)) (resting.own g).chain;
      in_use = subst (λ (c : SlabWord). c.inuse + length (own_free s g) ≡ c.objects) (sym (update_other w.slab f e g other)) (resting.own g).in_use;
    })
  ]

  ends : Rests given b2 u (set system.locals x (rested m told))
  ends = rests_changed s b w system.locals (set s.frees f []) (set s.cpu_lists (cpu_place s k (call_cpu call)) left) (memory_of w (512 * s.frames)) (set s.board (call_object call) (Some held)) s.gone (set s.live k (get_or s.live k 0 + 1)) (set b.tids n (tid_of b n + 2 * b.step))
      (update w.cpu n v) (update w.slab f e) w.memory (set system.locals x (rested m told)) resting
      (length-set s.board (call_object call) (Some held))
      (let front = at_front m opening (machine words system.value (set system.locals x (rested m told))) x (omega (arith, next.there, length-set system.locals x (rested m told))) ended in subst IsWorded says front.stands.fresh.worded)
      (All-set (IsBetween w.setup) system.locals x (rested m told) worker_rests resting.workers)
      (cpus_changed s b w k (call_cpu call) left v (tid_of b n + 2 * b.step) (update w.slab f e) w.memory cpu begin.few place_below (omega (arith, small, rest.beside.tids)) resting.cpu (omega (arith, cpu_is.tid)) (sym current ∙ cpu_is.current)
      (subst (λ h. IsChain (pointer w k c.frame) h first.0) (sym follows_is) (subst (λ g. IsChain (pointer w k g) (pointer w k f (z.head - 1)) first.0) (sym frame) first.2)) refl (λ n below away. (resting.cpu n below).free))
      (each_updated w.slab f e (λ g (c : SlabWord). SameSlab (w.slab g) c) (record { objects = refl; cache = refl; frozen = refl; listed = refl }) (λ g d. same_word (w.slab g)))
      own_ends names_are once (λ o word h there plain is_word. copied m system.value system.words _)
    where
      names_are : (o : ℕ) → get_or (set s.board (call_object call) (Some held)) o None ≡ named_in u (set system.locals x (rested m told)) o
      names_are o = elim (cases_eq o (call_object call)) [
        | inl e ↦ ap (λ o. get_or (set s.board (call_object call) (Some held)) o None) e ∙ get_or-set_same s.board (call_object call) (Some held) None on_board ∙ ap (λ worker. Some (record { frame = c.frame; index = z.head - 1; cache = k; worker = Some worker })) (sym worker_is)
            ∙ sym (named_held u system.locals x (call_place call) (rested m told) l.known known next.there (begin.may.place names) known_is refl (once known.object)) ∙ ap (named_in u (set system.locals x (rested m told))) (object ∙ sym e)
        | inr away ↦ get_or-set_other s.board (call_object call) o (Some held) None away ∙ resting.named o ∙ sym (named_other u system.locals x (call_place call) (rested m told) known worker_is known_is refl o (λ e. away (sym e ∙ object)))
      ]

  -- ---- on lists

  accounted : IsAccounted given
  accounted = accounted-with_held s (call_object call) held (omega (arith, inside, rest.lists.shaped.live)) on_board unused rest.lists.accounted

  lengths : HasLengths given
  lengths = record {
    slabs = rest.lists.shaped.slabs;
    frees = length-set s.frees f [] ∙ rest.lists.shaped.frees;
    cpu_lists = length-set s.cpu_lists (cpu_place s k (call_cpu call)) left ∙ rest.lists.shaped.cpu_lists;
    nodes = rest.lists.shaped.nodes;
    checked = rest.lists.shaped.checked.numbers;
    memory = copied_length w (512 * s.frames);
    gone = rest.lists.shaped.gone ∙ sym (length-set s.board (call_object call) (Some held));
    live = length-set s.live k (get_or s.live k 0 + 1) ∙ rest.lists.shaped.live;
  }

  abbrev stock : State
  stock = taken_up s k (call_cpu call) f lists.partial

  stock_lists : lists_of stock k (call_cpu call) ≡ record { current = Some f; free = own_free s f; partial = lists.partial }
  stock_lists = get_or-set_same s.cpu_lists (cpu_place s k (call_cpu call)) (record { current = Some f; free = own_free s f; partial = lists.partial }) no_lists place_below

  frozen_still : set s.slabs f (option_map (marked true) (slab_of s f)) ≡ s.slabs
  frozen_still = ap (set s.slabs f) (ap (option_map (marked true)) at_cpu.there ∙ ap Some mark ∙ sym at_cpu.there) ∙ set-get_or s.slabs f None
    where
      mark : marked true at_cpu.slab ≡ at_cpu.slab
      mark = λ i. record at_cpu.slab { frozen = sym at_cpu.frozen i }

  gives : (live : Cache) → cache_of s k ≡ Some live → Gives stock live.layout k (call_cpu call) l.worker (call_object call) reply after
  gives live e = record {
    frame = f;
    index = z.head - 1;
    rest = first.0;
    current = ap (λ (x : CpuLists). x.current) stock_lists;
    first = ap (λ (x : CpuLists). x.free) stock_lists ∙ first.1;
    unheld = omega (arith, has_first, consistent.placed f (z.head - 1), object_once (z.head - 1) (slab_of s f));
    address = ap (λ g. Given (address_of g (z.head - 1) (layout_at s k))) frame ∙ ap (λ layout. Given (address_of f (z.head - 1) layout)) (layout_of s k live e);
    given = λ i. record s {
      slabs = sym frozen_still i;
      frees = set s.frees f [];
      cpu_lists = cpus_are i;
      board = set s.board (call_object call) (Some (record { frame = frame i; index = z.head - 1; cache = k; worker = Some l.worker }));
      live = set s.live k (get_or s.live k 0 + 1);
    };
  }
    where
      cpus_are : set s.cpu_lists (cpu_place s k (call_cpu call)) left ≡ set stock.cpu_lists (cpu_place s k (call_cpu call)) (record { current = Some f; free = first.0; partial = (lists_of stock k (call_cpu call)).partial })
      cpus_are = sym (set-set s.cpu_lists (cpu_place s k (call_cpu call)) (record { current = Some f; free = own_free s f; partial = lists.partial }) left)
          ∙ ap (λ fs. set stock.cpu_lists (cpu_place s k (call_cpu call)) (record { current = Some f; free = first.0; partial = fs })) (sym (ap (λ (x : CpuLists). x.partial) stock_lists))

  allocates : AllocatesNamed s place (call_cpu call) l.worker (call_object call) reply after
  allocates = subst (λ o. MatchOption o ((reply ≡ NoSuchCache) × (after ≡ s)) (λ cache. MatchOption (cache_of s cache) ⊥ (λ live. AllocatesFrom s live.layout cache (call_cpu call) l.worker (call_object call) reply after))) (sym is.named) (by (cache_of s k) refl lives)
    where
      by : (o : Option Cache) → cache_of s k ≡ o → is_some o ≡ true → MatchOption o ⊥ (λ live. AllocatesFrom s live.layout k (call_cpu call) l.worker (call_object call) reply after)
      by None e live = false≢true live
      by (Some live) e has_it = from-unchecked (checked_of s k) _ _ is.unchecked
          (subst (λ free. MatchResult (from_free s k (call_cpu call) (batch_of live.layout) free) (λ stocked. Gives stocked live.layout k (call_cpu call) l.worker (call_object call) reply after) (λ bare. AllocatesNew bare live.layout k (call_cpu call) l.worker (call_object call) reply after)) (sym empty)
          (subst (λ o. MatchResult (from_slabs s k (call_cpu call) (batch_of live.layout) o) (λ stocked. Gives stocked live.layout k (call_cpu call) l.worker (call_object call) reply after) (λ bare. AllocatesNew bare live.layout k (call_cpu call) l.worker (call_object call) reply after)) (sym current)
          (subst (λ free. MatchResult (from_current s k (call_cpu call) (batch_of live.layout) f free) (λ stocked. Gives stocked live.layout k (call_cpu call) l.worker (call_object call) reply after) (λ bare. AllocatesNew bare live.layout k (call_cpu call) l.worker (call_object call) reply after)) (sym first.1) (gives live e))))

  pub takes : AllocatesAlone opening s b system x call place 7 b2
  takes = record {
    reply = reply;
    after = after;
    allocates = allocates;
    given = given;
    words = record {
      lists = refl;
      sized = copied_length w (512 * s.frames) ∙ sym rest.lists.shaped.memory;
      words = λ other word h away there plain is_word. sym (copied m system.value system.words _) ∙ resting.contents other word h (sym (get_or-set_other s.board (call_object call) other (Some held) None away) ∙ there) plain is_word;
    };
    known = known_ends s b system x 7 told words system.value next.there whole refl ∙ knows_given l.known (call_place call) known.object (call_object call) s.board held after refl on_board object;
    replies = replies_of opening s given b b2 system x 7 call reply told words system.value next whole refl refl refl refl same
        (ends_at_rest opening u s given b b2 system (machine words system.value (set system.locals x (rested m told))) rest same refl refl lengths accounted (length-set b.tids n (tid_of b n + 2 * b.step) ∙ rest.beside.tids) refl refl ended says ends
        (whole_cpu m words2 n (cpu_bits v) refl small (whole_slab m words1 f e refl (omega (arith, table1.length, within.1)) fit_e (whole_cpu m system.words n (cpu_bits d) refl small rest.whole))));
  }
    where
      same : setup_of given b2 ≡ setup_of s b
      same = setup_same s b w system.locals (set s.frees f []) (set s.cpu_lists (cpu_place s k (call_cpu call)) left) (memory_of w (512 * s.frames)) (set s.board (call_object call) (Some held)) s.gone (set s.live k (get_or s.live k 0 + 1)) (set b.tids n (tid_of b n + 2 * b.step))
          (update w.cpu n v) (update w.slab f e) w.memory (set system.locals x (rested m told)) (length-set s.board (call_object call) (Some held))

  pub takes_gives : is_given takes.reply ≡ true
  unfolding takes
  takes_gives = refl

pub own_taken : OwnFreelistsAreTaken
own_taken opening s b system x call place k f rest next is ids empty current some = takes opening s b system x call place k f rest next is ids empty current some
