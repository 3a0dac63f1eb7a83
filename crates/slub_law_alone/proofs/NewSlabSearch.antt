-- An allocation of a CPU that has no slab of the cache: it finds nothing in the CPU word, the CPU's partial list and the node list, and comes to the pool's lock.
use Rattle.std.proofs.Common.{◌≡◌, ℕ, ◌+◌, ◌-◌, ◌*◌, ◌/◌, ◌<◌, eqb, cond, true, false, List, [], length, get_or, set, Option, Some, None, inl, inr, refl, ap, sym, ◌∙◌, subst, arith}
use Rattle.std.specs.Prelude.{is_some, IfSome}
use Rattle.std.proofs.lemmas.Bool.{cases_eq, eq-eqb, ne_eqb, le-ltb, cond-false}
use Rattle.std.proofs.lemmas.List.{get_or-set_same, set-get_or, set-set}
use Rattle.slub_trace.specs.declared.reply.Reply.{Reply}
use Rattle.slub_words.specs.declared.cpu.CpuWord.{CpuWord}
use Rattle.slub_cpu_partial.specs.declared.words.ListWord.{ListWord}
use Rattle.slub_cpu_partial.specs.Strings.{list_bits}
use Rattle.slub_lists.specs.declared.lists.CpuLists.{CpuLists}
use Rattle.slub_lists.specs.State.{State}
use Rattle.slub_lists.specs.Alloc.{lists_of}
use Rattle.slub_core.specs.declared.call.Call.{Call}
use Rattle.slub_core.specs.declared.spot.Spot.TheVariants.{InAlloc}
use Rattle.slub_core.specs.declared.spot.AllocSpot.TheVariants.{LoadCpu, TakeList, LockNode, PopNode, GiveNode, LockPool}
use Rattle.slub_core.specs.declared.step.Step.{Step}
use Rattle.slub_core.specs.declared.step.Answer.{Answer}
use Rattle.slub_core.specs.declared.step.Answer.TheVariants.{Word, Done, Won, Lost}
use Rattle.slub_core.specs.declared.step.Op.TheVariants.{Load, Store, Swap, Exchange}
use Rattle.slub_core.specs.declared.step.Place.TheVariants.{CpuOf, ListOf, LockOf}
use Rattle.slub_core.specs.Calls.{call_cpu, call_place}
use Rattle.slub_core.specs.Setup.{Setup, cpu_number, node_lock}
use Rattle.slub_core.specs.Words.{number_of, after_op, answer_of, no_list_word, cpu_in, list_in, cpu_base, list_base}
use Rattle.slub_core.specs.World.{World, LockValue, pointer, Links, world_of, frames_in}
use Rattle.slub_core.specs.Local.{Local, Turn, Change, at, noted, goes, stays}
use Rattle.slub_core.specs.Alloc.{is_spent, way_of_word, told_of_word, hands_of_list, string_of_list, way_of_list, way_of_node, pop_node}
use Rattle.slub_core.specs.Steps.{step_of, advance_at, advance_of, at_once, settled, changed, rested, begun}
use Rattle.slub_core.specs.Run.{System, idle, after_step, turn}
use Rattle.slub_core.proofs.StepWords.{cpu-read, list-read, lock-read, value_of}
use Rattle.slub_law_opening.specs.Opening.{Beside, setup_of, cpu_at}
use Rattle.slub_law_opening.specs.Rests.{IsCpuOf, Rests, current_in}
use Rattle.slub_law_opening.proofs.Cpus.{cpu-bare}
use Rattle.slub_law_opening.proofs.Words.{chain-empty}
use Rattle.slub_law_alone.specs.Alone.{own_pick, alone, worker_at, IsAtRest, IsNext, HasIds}
use Rattle.slub_law_alone.specs.Laws.{IsAlloc, HasNoSlab}
use Rattle.slub_calls.proofs.ChangeNumbers.{cpu_here}
use Rattle.slub_law_alone.proofs.FastAlloc.{begin_alloc}
use Rattle.slub_law_alone.proofs.Start.{IsStart, starts}
use Rattle.slub_law_alone.proofs.Turns.{machine, turn_goes, settle_goes, then_turn}

-- ---- turns in which something is done at once

abbrev with_step : Setup → List ℕ → (ℕ → LockValue) → List Local → ℕ → Local → Step → System
with_step m words value ls x l step =
    let n = number_of m step.place in
    let q = get_or words n 0 in
    let c = advance_of m false value l (answer_of step.op q) in
    record { words = set words n (after_op step.op q); value = c.value; locals = set ls x c.local }

-- a turn after which the locks guard other values
pub turn_changes : (m : Setup) (words after : List ℕ) (value later : ℕ → LockValue) (ls : List Local) (x : ℕ) (l begins next : Local) (step : Step) (a : Answer) → x < length ls → begun m false l ≡ begins → step_of m value begins ≡ step
    → set words (number_of m step.place) (after_op step.op (get_or words (number_of m step.place) 0)) ≡ after → answer_of step.op (get_or words (number_of m step.place) 0) ≡ a
    → advance_of m false value begins a ≡ stays later next → turn m (machine words value (set ls x l)) (own_pick x) ≡ machine after later (set ls x next)
turn_changes m words after value later ls x l begins next step a below begin steps moves answers leads =
    let s : System = machine words value (set ls x l) in
    let n = number_of m step.place in
    let q = get_or words n 0 in
    ap (λ l. after_step m false s x (begun m false l)) (get_or-set_same ls x l idle below)
    ∙ ap (after_step m false s x) begin
    ∙ ap (with_step m words value (set ls x l) x begins) steps
    ∙ ap (λ a. by_change n q (advance_of m false value begins a)) answers
    ∙ ap (by_change n q) leads
    ∙ ap (λ ws. machine ws later (set (set ls x l) x next)) moves
    ∙ ap (machine after later) (set-set ls x l next)
  where
    by_change : ℕ → ℕ → Change → System
    by_change n q c = record { words = set words n (after_op step.op q); value = c.value; locals = set (set ls x l) x c.local }

abbrev pub change : (ℕ → LockValue) → Local → Option Reply → Change
change value l told = record { value = value; local = l; reply = told }

-- an answer leads to a spot at which something is done at once
pub settle_does : (m : Setup) (value later : ℕ → LockValue) (l next mid : Local) (a : Answer) (told : Option Reply) → advance_at m value l l.spot a ≡ goes next → at_once m false value next next.spot ≡ change later mid told → at_once m false later (noted mid told) (noted mid told).spot ≡ stays later (noted mid told)
    → rested m (noted mid told) ≡ noted mid told → advance_of m false value l a ≡ stays later (noted mid told)
settle_does m value later l next mid a told leads does waits rests =
    ap by_turn leads ∙ ap (λ c. end (changed m false c)) does ∙ ap end waits ∙ ap (stays later) rests
  where
    end : Change → Change
    end c = record { value = c.value; local = rested m (noted c.local c.reply); reply = None }

    by_turn : Turn → Change
    by_turn t = end (settled m false (record { value = value; local = t.local; reply = t.reply }))

-- ---- what is there

-- a CPU word that leads to no current slab
pub no_frame : (f : ℕ) → current_in f ≡ None → f ≡ 0
no_frame f none = elim (cases_eq f 0) [
  | inl z ↦ z
  | inr away ↦ absurd (let some = cond-false {A = Option ℕ} (eqb f 0) None (Some f) (ne_eqb f 0 away) in cc (none, some))
]

-- the worker before the pool's lock
abbrev pub searched : Local → Call → ℕ → CpuWord → Local
searched l call k c = record l { spot = InAlloc LockPool; cache = k; cpu = call_cpu call; place = call_place call; fast = false; turn = 0; count = 0; cpu_word = c; string = None; put = 0 }

-- a lock that is taken and given back
pub lock_back : (words : List ℕ) (j a : ℕ) → get_or words j 0 ≡ 0 → set (set words j a) j 0 ≡ words
lock_back words j a free = set-set words j a 0 ∙ ap (set words j) (sym free) ∙ set-get_or words j 0

module _ (opening : World) (s : State) (b : Beside) (system : System) (x : ℕ) (call : Call) (place k : ℕ) (rest : IsAtRest opening s b system) (next : IsNext system x call) (is : IsAlloc s call place k)
    (ids : HasIds b (cpu_number k (call_cpu call)) 1) (none : HasNoSlab s k (call_cpu call)) where
  abbrev m : Setup
  m = setup_of s b

  abbrev w : World
  w = world_of m system.value system.words

  abbrev l : Local
  l = worker_at system x

  abbrev n : ℕ
  n = cpu_number k (call_cpu call)

  abbrev c : CpuWord
  c = w.cpu n

  abbrev lists : CpuLists
  lists = lists_of s k (call_cpu call)

  begin : IsStart opening s b system x call
  begin = starts opening s b system x call rest next

  resting : Rests s b w system.locals
  resting = rest.rests.rests

  lives : m.lives k ≡ true
  lives = subst (λ o. IfSome o (λ k. m.lives k ≡ true)) is.asks begin.may.cache

  inside : k < 32
  inside = begin.setup.live k lives

  cpu : call_cpu call < s.cpus
  cpu = begin.may.cpu

  small : n < 512
  small = omega (arith, inside, cpu, begin.few)

  here : cpu_at s n ≡ lists
  here = cpu_here s k (call_cpu call) cpu begin.few

  cpu_is : IsCpuOf b w n lists
  cpu_is = subst (IsCpuOf b w n) here (resting.cpu n small)

  empty : lists.free ≡ []
  empty = sym (ap (λ (x : CpuLists). x.free) here) ∙ cpu-bare s n begin.consistent (ap (λ (x : CpuLists). x.current) here ∙ none.current)

  frame : c.frame ≡ 0
  frame = no_frame c.frame (sym cpu_is.current ∙ none.current)

  bare : c.head ≡ 0
  bare = chain-empty (pointer w (n / 16) c.frame) c.head lists.free cpu_is.free (ap (length {A = ℕ}) empty)

  list_is : w.list n ≡ no_list_word
  list_is = λ i. record { front = front_is i; count = count_is i }
    where
      count_is : (w.list n).count ≡ 0
      count_is = cpu_is.count ∙ ap (length {A = ℕ}) none.list

      front_is : (w.list n).front ≡ 0
      front_is = subst (λ fs. Links w.link (w.list n).front fs 0) none.list cpu_is.partial

  abbrev q : ℕ
  q = get_or system.words (cpu_base + n) 0

  abbrev r : ℕ
  r = get_or system.words (list_base + n) 0

  abbrev j : ℕ
  j = node_lock k

  abbrev a : ℕ
  a = l.worker + 1

  j_small : j < 33
  j_small = omega (arith, inside)

  cpu_reads : c ≡ cpu_in q
  cpu_reads = cpu-read m system.value system.words n small

  list_reads : w.list n ≡ list_in r
  list_reads = list-read m system.value system.words n small

  list_zero : r ≡ 0
  list_zero = sym (rest.whole.list n small) ∙ ap list_bits (sym list_reads ∙ list_is)

  lock_zero : get_or system.words j 0 ≡ 0
  lock_zero = sym (lock-read m system.value system.words j j_small) ∙ resting.locks j j_small

  lock_hit : eqb (get_or system.words j 0) 0 ≡ true
  lock_hit = eq-eqb (get_or system.words j 0) 0 lock_zero

  spent : is_spent m c ≡ false
  spent = le-ltb (4294967295 - 2 * b.step) c.tid (omega (arith, ids, cpu_is.tid, rest.beside.step.1))

  no_frames : frames_in (system.value j) ≡ []
  no_frames = ap frames_in (sym (ap (λ (value : ℕ → LockValue). value j) (value_of m system.value system.words)) ∙ resting.values j j_small) ∙ sym (resting.nodes k) ∙ none.node

  -- ---- the turns

  abbrev asked : Local
  asked = record l { spot = InAlloc LoadCpu; cache = k; cpu = call_cpu call; place = call_place call; fast = false; turn = 0; count = 0 }

  abbrev loaded : Local
  loaded = record asked { cpu_word = c; spot = InAlloc TakeList }

  abbrev listless : Local
  listless = record loaded { string = None; spot = InAlloc LockNode }

  abbrev popping : Local
  popping = record listless { put = 0; spot = InAlloc PopNode }

  abbrev emptied : Local
  emptied = at popping (InAlloc GiveNode)

  abbrev waits : Local
  waits = searched l call k c

  abbrev words1 : List ℕ
  words1 = set system.words j a

  begins : begun m false l ≡ asked
  begins = begin_alloc m l call next.calls k begin.between.between next.todo is.kind is.asks (ap is_some is.unchecked)

  turn1 : turn m (machine system.words system.value (set system.locals x l)) (own_pick x) ≡ machine system.words system.value (set system.locals x loaded)
  turn1 = turn_goes m system.words system.words system.value system.locals x l asked loaded (record { place = CpuOf n; op = Load }) (Word q) next.there begins refl (set-get_or system.words (cpu_base + n) 0) refl
      (settle_goes m system.value asked loaded (Word q) leads refl refl)
    where
      by_word : CpuWord → Turn
      by_word z = record { local = record asked { cpu_word = z; spot = way_of_word m false z }; reply = told_of_word m false z }

      way : way_of_word m false c ≡ InAlloc TakeList
      way = rw (spent, eq-eqb c.head 0 bare, eq-eqb c.frame 0 frame) refl

      says : told_of_word m false c ≡ None
      says = rw spent refl

      leads : advance_at m system.value asked (InAlloc LoadCpu) (Word q) ≡ goes loaded
      leads = ap by_word (sym cpu_reads) ∙ (λ i. record { local = record asked { cpu_word = c; spot = way i }; reply = says i })

  turn2 : turn m (machine system.words system.value (set system.locals x loaded)) (own_pick x) ≡ machine system.words system.value (set system.locals x listless)
  turn2 = turn_goes m system.words system.words system.value system.locals x loaded loaded listless (record { place = ListOf n; op = Swap 0 }) (Word r) next.there refl refl
      (ap (set system.words (list_base + n)) (sym list_zero) ∙ set-get_or system.words (list_base + n) 0) refl (settle_goes m system.value loaded listless (Word r) leads refl refl)
    where
      by_list : ListWord → Turn
      by_list z = record { local = record loaded { hands = hands_of_list z l.hands; string = string_of_list z; spot = way_of_list z }; reply = None }

      leads : advance_at m system.value loaded (InAlloc TakeList) (Word r) ≡ goes listless
      leads = ap by_list (sym list_reads ∙ list_is)

  turn3 : turn m (machine system.words system.value (set system.locals x listless)) (own_pick x) ≡ machine words1 system.value (set system.locals x emptied)
  turn3 = turn_goes m system.words words1 system.value system.locals x listless listless emptied (record { place = LockOf j; op = Exchange 0 a }) Won next.there refl refl
      (ap (λ h. set system.words j (cond {A = ℕ} h a (get_or system.words j 0))) lock_hit) (ap (λ h. cond {A = Answer} h Won (Lost (get_or system.words j 0))) lock_hit)
      (settle_does m system.value system.value listless popping emptied Won None refl (ap (pop_node m system.value popping) no_frames) refl refl)

  turn4 : turn m (machine words1 system.value (set system.locals x emptied)) (own_pick x) ≡ machine system.words system.value (set system.locals x waits)
  turn4 = turn_goes m words1 system.words system.value system.locals x emptied emptied waits (record { place = LockOf j; op = Store 0 }) Done next.there refl refl (lock_back system.words j a lock_zero) refl
      (settle_goes m system.value emptied waits Done (ap (λ hands. goes (at emptied (way_of_node hands))) begin.between.hands) refl refl)

  pub search_turns : alone m x 4 system ≡ machine system.words system.value (set system.locals x waits)
  search_turns = ap (alone m x 4) (ap (machine system.words system.value) (sym (set-get_or system.locals x idle)))
      ∙ then_turn m x 3 (machine system.words system.value (set system.locals x l)) (machine system.words system.value (set system.locals x loaded)) (machine system.words system.value (set system.locals x waits)) turn1
      (then_turn m x 2 (machine system.words system.value (set system.locals x loaded)) (machine system.words system.value (set system.locals x listless)) (machine system.words system.value (set system.locals x waits)) turn2
      (then_turn m x 1 (machine system.words system.value (set system.locals x listless)) (machine words1 system.value (set system.locals x emptied)) (machine system.words system.value (set system.locals x waits)) turn3
      (then_turn m x 0 (machine words1 system.value (set system.locals x emptied)) (machine system.words system.value (set system.locals x waits)) (machine system.words system.value (set system.locals x waits)) turn4 refl)))
