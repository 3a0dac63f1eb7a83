-- The first two turns of an allocation that finds its CPU's freelist empty and a slab current there: the slab is taken off the CPU.
use Rattle.std.proofs.Common.{◌≡◌, ℕ, zero, suc, ◌+◌, ◌-◌, ◌*◌, ◌/◌, ◌<◌, eqb, cond, Bool, true, false, List, [], ◌∷◌, length, get_or, set, None, Some, refl, ap, sym, ◌∙◌, subst, arith}
use Rattle.std.specs.Prelude.{is_some, IfSome}
use Rattle.std.proofs.lemmas.Bool.{eq-eqb, false≢true, le-ltb, ne_eqb}
use Rattle.std.proofs.lemmas.List.{get_or-set_same, set-get_or}
use Rattle.slub_words.specs.declared.cpu.CpuWord.{CpuWord}
use Rattle.slub_words.specs.Words.{cpu_bits}
use Rattle.slub_lists.specs.declared.lists.CpuLists.{CpuLists}
use Rattle.slub_lists.specs.State.{State}
use Rattle.slub_lists.specs.Alloc.{lists_of}
use Rattle.slub_lists.proofs.Places.{slab-inside}
use Rattle.slub_core.specs.declared.call.Call.{Call}
use Rattle.slub_core.specs.declared.spot.Spot.{Spot}
use Rattle.slub_core.specs.declared.spot.Spot.TheVariants.{Between, InAlloc}
use Rattle.slub_core.specs.declared.spot.AllocSpot.TheVariants.{LoadCpu, Detach, LoadTaken}
use Rattle.slub_core.specs.declared.step.Answer.{Answer}
use Rattle.slub_core.specs.declared.step.Answer.TheVariants.{Word, Won, Lost}
use Rattle.slub_core.specs.declared.step.Op.TheVariants.{Load, Exchange}
use Rattle.slub_core.specs.declared.step.Place.TheVariants.{CpuOf}
use Rattle.slub_core.specs.Calls.{call_cpu, call_place}
use Rattle.slub_core.specs.Setup.{Setup, cpu_number}
use Rattle.slub_core.specs.Words.{cpu_in, cpu_base}
use Rattle.slub_core.specs.World.{World, pointer, set_cpu, world_of}
use Rattle.slub_core.specs.Local.{Local, Turn, hand_from, goes}
use Rattle.slub_core.specs.Alloc.{is_spent, way_of_word, told_of_word}
use Rattle.slub_core.specs.Steps.{begun, advance_at}
use Rattle.slub_core.specs.Run.{System, idle, turn}
use Rattle.slub_core.proofs.Packed.{IsCpuFit, cpu_in-bits}
use Rattle.slub_core.proofs.Update.{update_same}
use Rattle.slub_core.proofs.StepWords.{cpu-read, world_of-cpu}
use Rattle.slub_law_opening.specs.Opening.{Beside, setup_of, tid_of, cpu_at}
use Rattle.slub_law_opening.specs.Rests.{IsCpuOf, Rests}
use Rattle.slub_law_opening.proofs.Cpus.{current-at}
use Rattle.slub_law_opening.proofs.Words.{chain-empty}
use Rattle.slub_law_alone.specs.Alone.{own_pick, alone, worker_at, IsAtRest, IsNext, HasIds}
use Rattle.slub_law_alone.specs.Busy.{IsInCall}
use Rattle.slub_law_alone.specs.Detached.{CurrentSlabsAreDetached, Detaches}
use Rattle.slub_law_alone.specs.Laws.{IsAlloc}
use Rattle.slub_law_alone.proofs.Bits.{bits_in, current_frame}
use Rattle.slub_law_alone.proofs.FastAlloc.{begin_alloc}
use Rattle.slub_law_alone.proofs.Start.{IsStart, starts}
use Rattle.slub_law_alone.proofs.Turns.{machine, turn_goes, settle_goes, then_turn}
use Rattle.slub_calls.proofs.ChangeNumbers.{cpu_here}

module _ (opening : World) (s : State) (b : Beside) (system : System) (x : ℕ) (call : Call) (place k f : ℕ) (rest : IsAtRest opening s b system) (next : IsNext system x call) (is : IsAlloc s call place k)
    (ids : HasIds b (cpu_number k (call_cpu call)) 1) (empty : (lists_of s k (call_cpu call)).free ≡ []) (current : (lists_of s k (call_cpu call)).current ≡ Some f) where
  abbrev m : Setup
  m = setup_of s b

  abbrev w : World
  w = world_of m system.value system.words

  abbrev l : Local
  l = worker_at system x

  abbrev n : ℕ
  n = cpu_number k (call_cpu call)

  abbrev c : CpuWord
  c = w.cpu n

  abbrev lists : CpuLists
  lists = lists_of s k (call_cpu call)

  begin : IsStart opening s b system x call
  begin = starts opening s b system x call rest next

  resting : Rests s b w system.locals
  resting = rest.rests.rests

  lives : m.lives k ≡ true
  lives = subst (λ o. IfSome o (λ k. m.lives k ≡ true)) is.asks begin.may.cache

  small : n < 512
  small = omega (arith, begin.setup.live k lives, begin.may.cpu, begin.few)

  here : cpu_at s n ≡ lists
  here = cpu_here s k (call_cpu call) begin.may.cpu begin.few

  cpu_is : IsCpuOf b w n lists
  cpu_is = subst (IsCpuOf b w n) here (resting.cpu n small)

  frame : c.frame ≡ f
  frame = current_frame c.frame f (sym cpu_is.current ∙ current)

  bare : c.head ≡ 0
  bare = chain-empty (pointer w (n / 16) c.frame) c.head lists.free cpu_is.free (ap (length {A = ℕ}) empty)

  some : 0 < f
  some =
      let at_cpu = current-at s n f begin.consistent (ap (λ (x : CpuLists). x.current) here ∙ current) in
      (slab-inside s f at_cpu.slab begin.consistent at_cpu.there).0

  -- ---- the turns

  abbrev asked : Local
  asked = record l { spot = InAlloc LoadCpu; cache = k; cpu = call_cpu call; place = call_place call; fast = false; turn = 0; count = 0 }

  abbrev loaded : Local
  loaded = record asked { cpu_word = c; spot = InAlloc Detach }

  abbrev detached : Local
  detached = record loaded { spot = InAlloc LoadTaken; hands = hand_from c.frame c.head ∷ l.hands }

  abbrev d : CpuWord
  d = record { tid = c.tid + b.step; frame = 0; head = 0 }

  abbrev q : ℕ
  q = get_or system.words (cpu_base + n) 0

  abbrev words1 : List ℕ
  words1 = set system.words (cpu_base + n) (cpu_bits d)

  cpu_reads : c ≡ cpu_in q
  cpu_reads = cpu-read m system.value system.words n small

  cpu_hit : eqb q (cpu_bits c) ≡ true
  cpu_hit = eq-eqb q (cpu_bits c) (sym (bits_in q) ∙ ap cpu_bits (sym cpu_reads))

  spent : is_spent m c ≡ false
  spent = le-ltb (4294967295 - 2 * b.step) c.tid (omega (arith, ids, cpu_is.tid, rest.beside.step.1))

  begins : begun m false l ≡ asked
  begins = begin_alloc m l call next.calls k begin.between.between next.todo is.kind is.asks (ap is_some is.unchecked)

  -- it loads the CPU word
  pub loads_word : turn m (machine system.words system.value (set system.locals x l)) (own_pick x) ≡ machine system.words system.value (set system.locals x loaded)
  loads_word = turn_goes m system.words system.words system.value system.locals x l asked loaded (record { place = CpuOf n; op = Load }) (Word q) next.there begins refl (set-get_or system.words (cpu_base + n) 0) refl
      (settle_goes m system.value asked loaded (Word q) leads refl refl)
    where
      by_word : CpuWord → Turn
      by_word z = record { local = record asked { cpu_word = z; spot = way_of_word m false z }; reply = told_of_word m false z }

      way : way_of_word m false c ≡ InAlloc Detach
      way = rw (spent, eq-eqb c.head 0 bare, ne_eqb c.frame 0 (λ none. absurd (omega (arith, none, frame, some)))) refl

      says : told_of_word m false c ≡ None
      says = rw spent refl

      leads : advance_at m system.value asked (InAlloc LoadCpu) (Word q) ≡ goes loaded
      leads = ap by_word (sym cpu_reads) ∙ (λ i. record { local = record asked { cpu_word = c; spot = way i }; reply = says i })

  -- and takes the slab off
  pub takes_slab : turn m (machine system.words system.value (set system.locals x loaded)) (own_pick x) ≡ machine words1 system.value (set system.locals x detached)
  takes_slab = turn_goes m system.words words1 system.value system.locals x loaded loaded detached (record { place = CpuOf n; op = Exchange (cpu_bits c) (cpu_bits d) }) Won next.there refl refl
      (ap (λ h. set system.words (cpu_base + n) (cond {A = ℕ} h (cpu_bits d) q)) cpu_hit) (ap (λ h. cond {A = Answer} h Won (Lost q)) cpu_hit) (settle_goes m system.value loaded detached Won refl refl refl)

  -- ---- where they end

  one : alone m x 1 system ≡ machine system.words system.value (set system.locals x loaded)
  one = ap (λ ls. alone m x 1 (machine system.words system.value ls)) (sym (set-get_or system.locals x idle)) ∙ loads_word

  two : alone m x 2 system ≡ machine words1 system.value (set system.locals x detached)
  two =
      ap (λ ls. alone m x 2 (machine system.words system.value ls)) (sym (set-get_or system.locals x idle))
      ∙ then_turn m x 1 (machine system.words system.value (set system.locals x l)) (machine system.words system.value (set system.locals x loaded)) (machine words1 system.value (set system.locals x detached)) loads_word
      (then_turn m x 0 (machine system.words system.value (set system.locals x loaded)) (machine words1 system.value (set system.locals x detached)) (machine words1 system.value (set system.locals x detached)) takes_slab refl)

  at_it : (now : Local) (turns : ℕ) (words : List ℕ) → alone m x turns system ≡ machine words system.value (set system.locals x now) → worker_at (alone m x turns system) x ≡ now
  at_it now turns words ran = ap (λ (t : System). worker_at t x) ran ∙ get_or-set_same system.locals x now idle next.there

  abbrev in_alloc : Spot → Bool
  in_alloc (InAlloc s) = true
  in_alloc _ = false

  not_between : (now : Local) (turns : ℕ) (words : List ℕ) → alone m x turns system ≡ machine words system.value (set system.locals x now) → in_alloc now.spot ≡ true → (worker_at (alone m x turns system) x).spot ≡ Between → ⊥
  not_between now turns words ran inside is = false≢true (sym (ap in_alloc is) ∙ ap (λ (l : Local). in_alloc l.spot) (at_it now turns words ran) ∙ inside)

  busy : IsInCall m system x 2
  busy zero some few = absurd (omega (arith, some))
  busy (suc zero) some few = not_between loaded 1 system.words one refl
  busy (suc (suc zero)) some few = not_between detached 2 words1 two refl
  busy (suc (suc (suc made))) some few = absurd (omega (arith, few))

  fit : IsCpuFit d
  fit = (omega (arith, ids, cpu_is.tid), omega arith, omega arith)

  word_is : (world_of m system.value words1).cpu n ≡ record { tid = tid_of b n + b.step; frame = 0; head = 0 }
  word_is =
      ap (λ (w : World). w.cpu n) (world_of-cpu m system.value system.words n (cpu_bits d) begin.table small ∙ ap (set_cpu w n) (cpu_in-bits d fit))
      ∙ update_same w.cpu n d ∙ ap (λ (id : ℕ). record { tid = id + b.step; frame = 0; head = 0 }) cpu_is.tid

  pub detaches : Detaches s b system x n
  detaches = record {
    busy = busy;
    waits = ap (λ (l : Local). l.done) (at_it detached 2 words1 two);
    word = ap (λ (t : System). (world_of m t.value t.words).cpu n) two ∙ word_is;
  }

pub detached_first : CurrentSlabsAreDetached
detached_first opening s b system x call place k f rest next is ids empty current = detaches opening s b system x call place k f rest next is ids empty current
