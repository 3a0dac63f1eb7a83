-- A current slab that is put away: it is taken off its CPU, its CPU freelist is walked, and under the node lock this is put before the slab's own freelist.
use Rattle.std.proofs.Common.{◌≡◌, ℕ, suc, ◌+◌, ◌-◌, ◌*◌, ◌/◌, ◌%◌, ◌<◌, ◌≤◌, ◌^◌, eqb, cond, Bool, true, false, List, [], ◌∷◌, ◌++◌, length, get_or, set, Some, None, refl, ap, sym, ◌∙◌, subst, arith}
use Rattle.std.specs.Prelude.{is_some}
use Rattle.std.proofs.lemmas.Bool.{eq-eqb, ne_eqb}
use Rattle.std.proofs.lemmas.List.{get_or-set_other, set-get_or}
use Rattle.slub_common.specs.Times.{times}
use Rattle.slub_words.specs.declared.cpu.CpuWord.{CpuWord}
use Rattle.slub_words.specs.declared.slab.SlabWord.{SlabWord}
use Rattle.slub_words.specs.Words.{cpu_bits}
use Rattle.slub_lists.specs.declared.lists.CpuLists.{CpuLists}
use Rattle.slub_lists.specs.declared.lists.Held.{Held}
use Rattle.slub_lists.specs.State.{State}
use Rattle.slub_lists.specs.Alloc.{cache_of, checked_of, lists_of, own_free, slab_of}
use Rattle.slub_lists.specs.Coherent.{IsConsistent, held_under}
use Rattle.slub_lists.specs.Places.{IsCurrent}
use Rattle.slub_lists.proofs.Places.{objects-few, slab-inside}
use Rattle.slub_core.specs.declared.local.Hand.{Hand}
use Rattle.slub_core.specs.declared.spot.Spot.{Spot}
use Rattle.slub_core.specs.declared.spot.Spot.TheVariants.{InOffline, InPutAway}
use Rattle.slub_core.specs.declared.spot.Sweep.{Sweep}
use Rattle.slub_core.specs.declared.spot.Away.{Away}
use Rattle.slub_core.specs.declared.spot.Away.TheVariants.{ForSweep}
use Rattle.slub_core.specs.declared.spot.OfflineSpot.TheVariants.{LoadCurrent, DetachCurrent, TakeCurrent}
use Rattle.slub_core.specs.declared.spot.PutAwaySpot.TheVariants.{WalkChain, LockAway, LoadAway, LinkLast, Unfreeze}
use Rattle.slub_core.specs.declared.step.Answer.{Answer}
use Rattle.slub_core.specs.declared.step.Answer.TheVariants.{Word, Won, Lost}
use Rattle.slub_core.specs.declared.step.Op.TheVariants.{Load, Exchange}
use Rattle.slub_core.specs.declared.step.Place.TheVariants.{CpuOf}
use Rattle.slub_core.specs.Setup.{Setup, cpu_number, node_lock, pointer_at, hardened}
use Rattle.slub_core.specs.Words.{cpu_in, slab_in, cpu_base, slab_base, memory_base}
use Rattle.slub_core.specs.World.{World, update, set_cpu, set_lock, set_memory, pointer, IsChain, world_of}
use Rattle.slub_core.specs.Alloc.{way_of_away}
use Rattle.slub_core.specs.Local.{Local, Turn, at, goes, stays}
use Rattle.slub_core.specs.Offline.{if_flushing, way_of_current}
use Rattle.slub_core.specs.Run.{System, turn}
use Rattle.slub_core.specs.Steps.{advance_at, at_once, rested}
use Rattle.slub_core.proofs.Packed.{IsCpuFit, cpu_in-bits}
use Rattle.slub_core.proofs.StepWords.{IsTable, cpu-read, slab-read, memory-read, lock-read, world_of-cpu, world_of-lock, world_of-memory}
use Rattle.slub_law_opening.specs.Opening.{Beside, cpu_at}
use Rattle.slub_law_opening.specs.Rests.{IsCpuOf, KeepsWord, Rests}
use Rattle.slub_law_opening.proofs.Cpus.{current-at, cpu-alone, cpu-object}
use Rattle.slub_law_opening.proofs.Words.{chain-empty}
use Rattle.slub_law_alone.specs.Alone.{own_pick, alone, AreWhole}
use Rattle.slub_law_alone.specs.Away.{RestsBut}
use Rattle.slub_law_alone.proofs.Apart.{plain_word}
use Rattle.slub_law_alone.proofs.AwayTurns.{with_slab, unfreezes, turn_locks, turn_loads, turn_loads_bare, turn_links}
use Rattle.slub_law_alone.proofs.Bits.{bits_in, object_once, whole_cpu, whole_lock, whole_memory}
use Rattle.slub_calls.proofs.ChangeNumbers.{cpu_here}
use Rattle.slub_law_alone.proofs.FreePointer as pointed
use Rattle.slub_law_alone.proofs.MoveLoop.{none_of}
use Rattle.slub_law_alone.proofs.Sweeping as sweeping
use Rattle.slub_law_alone.proofs.TakenDown as down
use Rattle.slub_law_alone.proofs.Turns.{machine, turn_goes, settle_goes, then_turn}
use Rattle.slub_law_alone.proofs.UnderLock.{table_set, then_turns}
use Rattle.slub_law_alone.proofs.WalkTurns.{last_of, last_there, leads_found, leads_on, next_in, walks_to_end}

module _ (opening : World) (s : State) (b : Beside) (system : System) (x : ℕ) (l : Local) (sweep : Sweep) (is : RestsBut opening s b system x (at l (InOffline LoadCurrent sweep))) where
  abbrev pub m : Setup
  m = sweeping.m opening s b system x l (InOffline LoadCurrent sweep) refl is

  abbrev pub w : World
  w = sweeping.w opening s b system x l (InOffline LoadCurrent sweep) refl is

  abbrev pub k : ℕ
  k = l.cache

  abbrev pub n : ℕ
  n = cpu_number l.cache l.cpu

  abbrev pub c : CpuWord
  c = w.cpu n

  abbrev pub f : ℕ
  f = c.frame

  abbrev pub z : SlabWord
  z = w.slab f

  abbrev pub lists : CpuLists
  lists = lists_of s k l.cpu

  abbrev pub own : List ℕ
  own = own_free s f

  abbrev pub ls : List Local
  ls = sweeping.ls opening s b system x l (InOffline LoadCurrent sweep) refl is

  pub resting : Rests s b w ls
  resting = sweeping.rests opening s b system x l (InOffline LoadCurrent sweep) refl is

  pub inside : k < 32
  inside = (sweeping.plain opening s b system x l (InOffline LoadCurrent sweep) refl is).0

  pub lives : is_some (cache_of s k) ≡ true
  lives = ap (λ (m : Setup). m.lives k) (sym resting.setup) ∙ (sweeping.plain opening s b system x l (InOffline LoadCurrent sweep) refl is).1

  pub unchecked : checked_of s k ≡ None
  unchecked = none_of (checked_of s k) (ap (λ (m : Setup). m.checks k) (sym resting.setup) ∙ (sweeping.plain opening s b system x l (InOffline LoadCurrent sweep) refl is).2)

  pub cpu : l.cpu < s.cpus
  cpu = subst (λ (m : Setup). l.cpu < m.cpus) resting.setup (sweeping.cpu opening s b system x l (InOffline LoadCurrent sweep) refl is)

  abbrev pub table : IsTable m system.words
  table = sweeping.table opening s b system x l (InOffline LoadCurrent sweep) refl is

  pub few : s.cpus ≤ 16
  few = is.rest.lists.shaped.cpus.1

  pub small : n < 512
  small = omega (arith, inside, cpu, few)

  abbrev pub j : ℕ
  j = node_lock k

  pub j_small : j < 33
  j_small = omega (arith, inside)

  abbrev a : ℕ
  a = l.worker + 1

  abbrev q : ℕ
  q = get_or system.words (cpu_base + n) 0

  pub cpu_reads : c ≡ cpu_in q
  cpu_reads = cpu-read m system.value system.words n small

  -- where it stands
  abbrev pub asked : Local
  asked = at l (InOffline LoadCurrent sweep)

  abbrev pub start : System
  start = machine system.words system.value (set system.locals x asked)

  pub start_is : start ≡ system
  start_is = ap (machine system.words system.value) (sweeping.locals_are opening s b system x l (InOffline LoadCurrent sweep) refl is)

  -- it loads the CPU word
  pub turn_begins : (spot : Spot) → way_of_current sweep c ≡ spot → at_once m false system.value (record l { cpu_word = c; spot = spot }) spot ≡ stays system.value (record l { cpu_word = c; spot = spot }) → rested m (record l { cpu_word = c; spot = spot }) ≡ record l { cpu_word = c; spot = spot }
      → turn m start (own_pick x) ≡ machine system.words system.value (set system.locals x (record l { cpu_word = c; spot = spot }))
  turn_begins spot way waits rests =
      turn_goes m system.words system.words system.value system.locals x asked asked (record l { cpu_word = c; spot = spot }) (record { place = CpuOf n; op = Load }) (Word q) is.there refl refl (set-get_or system.words (cpu_base + n) 0) refl
      (settle_goes m system.value asked (record l { cpu_word = c; spot = spot }) (Word q) leads waits rests)
    where
      by : CpuWord → Turn
      by c = goes (record l { cpu_word = c; spot = way_of_current sweep c })

      leads : advance_at m system.value asked (InOffline LoadCurrent sweep) (Word q) ≡ goes (record l { cpu_word = c; spot = spot })
      leads = ap by (sym cpu_reads) ∙ ap (λ spot. goes (record l { cpu_word = c; spot = spot })) way

  pub number : n / 16 ≡ k
  number = omega (arith, cpu, few)

  here : cpu_at s n ≡ lists
  here = cpu_here s k l.cpu cpu few

  pub cpu_is : IsCpuOf b w n lists
  cpu_is = subst (IsCpuOf b w n) here (resting.cpu n small)

  -- ---- there is a current slab

  module _ (current : lists.current ≡ Some f) where
    consistent : IsConsistent s
    consistent = sweeping.consistent opening s b system x l (InOffline LoadCurrent sweep) refl is

    on_cpu : (cpu_at s n).current ≡ Some f
    on_cpu = ap (λ (x : CpuLists). x.current) here ∙ current

    abbrev at_it : IsCurrent s (n / 16) f
    at_it = current-at s n f consistent on_cpu

    pub within : (0 < f) × (f < s.frames)
    within = slab-inside s f at_it.slab consistent at_it.there

    pub some : 1 ≤ z.objects
    some = let y = sweeping.front opening s b system x l (InOffline LoadCurrent sweep) refl is in plain_word s b w ls y.stands.chains resting y.stands.listed.shaped f 0 at_it.slab at_it.there (objects-few s f at_it.slab consistent at_it.there).0 (ap (checked_of s) at_it.own ∙ at_it.unchecked)

    cache : z.cache ≡ k
    cache = down.cache s b w ls k l.cpu f resting consistent inside cpu current unchecked (sweeping.lengths opening s b system x l (InOffline LoadCurrent sweep) refl is) is.rest.beside.tids some

    -- ---- the CPU's freelist

    chain : IsChain (pointer w k f) c.head lists.free
    chain = subst (λ k. IsChain (pointer w k f) c.head lists.free) number cpu_is.free

    free_of : (i : ℕ) → 1 ≤ times i lists.free → 1 ≤ times i (cpu_at s n).free
    free_of i has = subst (λ (y : CpuLists). 1 ≤ times i y.free) (sym here) has

    once : (i : ℕ) → times i lists.free ≤ 1
    once i = let t = cpu-alone s n f i consistent on_cpu in let o = object_once i (slab_of s f) in let e = ap (λ (y : CpuLists). times i y.free) here in omega (arith, t, o, e)

    few_objects : (i : ℕ) → 1 ≤ times i lists.free → suc i < 2 ^ 16
    few_objects i has = let r = cpu-object s n f i consistent on_cpu (free_of i has) in let most = (objects-few s f at_it.slab consistent at_it.there).1 in omega (arith, r, most)

    p_inside : (i : ℕ) → 1 ≤ times i lists.free → pointer_at m k f i < 512 * m.frames
    p_inside i has = let r = pointed.pointer_there s n k f i number consistent on_cpu (free_of i has) in omega (arith, r, is.rest.lists.shaped.memory)

    -- ---- it is taken off the CPU

    abbrev pub away : Away
    away = ForSweep sweep

    abbrev pub d : CpuWord
    d = record { tid = c.tid + b.step; frame = 0; head = 0 }

    abbrev pub l1 : Local
    l1 = record l { cpu_word = c; count = l.count + if_flushing sweep 1 }

    abbrev pub hand : ℕ → ℕ → Bool → Hand
    hand last seen walked = record { frame = f; head = c.head; last = last; length = seen; walked = walked }

    abbrev words1 : List ℕ
    words1 = set system.words (cpu_base + n) (cpu_bits d)

    abbrev words2 : List ℕ
    words2 = set words1 j a

    cpu_hit : eqb q (cpu_bits c) ≡ true
    cpu_hit = eq-eqb q (cpu_bits c) (sym (bits_in q) ∙ ap cpu_bits (sym cpu_reads))

    fit_d : IsCpuFit d
    fit_d = (let r = is.rest.beside.room n (ap is_some on_cpu) in let t = cpu_is.tid in omega (arith, r, t), omega arith, omega arith)

    abbrev loaded : Local
    loaded = record l { cpu_word = c; spot = InOffline DetachCurrent sweep }

    -- it is on the way to the lock, or along the chain
    abbrev holds : ℕ → ℕ → Bool → Spot → Local
    holds last seen walked spot = record l1 { hands = hand last seen walked ∷ l.hands; spot = spot }

    turn1 : turn m start (own_pick x) ≡ machine system.words system.value (set system.locals x loaded)
    turn1 = turn_begins (InOffline DetachCurrent sweep) (ap (λ b. cond {A = Spot} b (InOffline TakeCurrent sweep) (InOffline DetachCurrent sweep)) (ne_eqb f 0 (λ e. absurd (omega (arith, e, within.0))))) refl refl

    turn2 : (spot : Spot) → way_of_away (hand 0 0 false) away ≡ spot → at_once m false system.value (holds 0 0 false spot) spot ≡ stays system.value (holds 0 0 false spot) → rested m (holds 0 0 false spot) ≡ holds 0 0 false spot
        → turn m (machine system.words system.value (set system.locals x loaded)) (own_pick x) ≡ machine words1 system.value (set system.locals x (holds 0 0 false spot))
    turn2 spot way waits rests = turn_goes m system.words words1 system.value system.locals x loaded loaded (holds 0 0 false spot) (record { place = CpuOf n; op = Exchange (cpu_bits c) (cpu_bits d) }) Won is.there refl refl
        (ap (λ h. set system.words (cpu_base + n) (cond {A = ℕ} h (cpu_bits d) q)) cpu_hit) (ap (λ h. cond {A = Answer} h Won (Lost q)) cpu_hit)
        (settle_goes m system.value loaded (holds 0 0 false spot) Won (ap (λ spot. goes (holds 0 0 false spot)) way) waits rests)

    -- it is at the lock, with the chain walked
    pub record IsReady : Type 0 where
      pub last : ℕ
      pub seen : ℕ
      pub walked : Bool
      pub turns : ℕ
      pub ran : alone m x turns start ≡ machine words1 system.value (set system.locals x (holds last seen walked (InPutAway LockAway away)))
      pub seen_is : seen ≡ length lists.free
      pub last_is : (y : ℕ) (ys : List ℕ) → lists.free ≡ y ∷ ys → last ≡ suc (last_of y ys)

    found : (i : ℕ) → 1 ≤ times i lists.free → (suc i < 2 ^ 16) × (next_in m words1 system.value system.locals x l1 away is.there f i ≡ pointer w k f i % 2 ^ 16)
    found i has = (few_objects i has, sym (ap (λ v. v % 2 ^ 16) reads))
      where
        p : ℕ
        p = pointer_at m k f i

        by : Setup → ℕ
        by m = hardened k (pointer_at m k f i) (w.memory (pointer_at m k f i))

        there : w.memory p ≡ get_or words1 (memory_base m + p) 0
        there = memory-read m system.value system.words p (p_inside i has) ∙ sym (get_or-set_other system.words (cpu_base + n) (memory_base m + p) (cpu_bits d) 0 (λ e. absurd (omega (arith, e, small, table.objects, table.frames))))

        reads : pointer w k f i ≡ hardened k p (get_or words1 (memory_base m + p) 0)
        reads = ap by resting.setup ∙ ap (hardened k p) there

    pub ready : IsReady
    ready = by lists.free refl
      where
        at_lock : System
        at_lock = machine words1 system.value (set system.locals x (holds 0 0 false (InPutAway LockAway away)))

        by : (free : List ℕ) → lists.free ≡ free → IsReady
        by [] none = record {
          last = 0;
          seen = 0;
          walked = false;
          turns = 2;
          ran = then_turn m x 1 start (machine system.words system.value (set system.locals x loaded)) at_lock turn1
              (then_turn m x 0 (machine system.words system.value (set system.locals x loaded)) at_lock at_lock (turn2 (InPutAway LockAway away) (rw (eq-eqb c.head 0 (chain-empty (pointer w k f) c.head lists.free chain (ap (length {A = ℕ}) none))) refl) refl refl) refl);
          seen_is = sym (ap (length {A = ℕ}) none);
          last_is = λ y ys e. absurd (let short = ap (length {A = ℕ}) (sym none ∙ e) in omega (arith, short));
        }
        by (y ∷ ys) free =
            let is_chain = subst (IsChain (pointer w k f) c.head) free chain in
            let leads = leads_found (pointer w k f) (next_in m words1 system.value system.locals x l1 away is.there f) c.head (y ∷ ys) (λ i has. found i (subst (λ xs. 1 ≤ times i xs) (sym free) has)) is_chain in
            let head : c.head ≡ suc y = is_chain.0 in
            let walks = machine words1 system.value (set system.locals x (holds 0 0 false (InPutAway WalkChain away))) in
            let end = machine words1 system.value (set system.locals x (holds (suc (last_of y ys)) (1 + length ys) true (InPutAway LockAway away))) in
            record {
              last = suc (last_of y ys);
              seen = 1 + length ys;
              walked = true;
              turns = suc (suc (suc (length ys)));
              ran = then_turn m x (suc (suc (length ys))) start (machine system.words system.value (set system.locals x loaded)) end turn1
                  (then_turn m x (suc (length ys)) (machine system.words system.value (set system.locals x loaded)) walks end (turn2 (InPutAway WalkChain away) (rw (ne_eqb c.head 0 (λ e. absurd (omega (arith, e, head)))) refl) refl refl)
                  (walks_to_end m words1 system.value system.locals x l1 away is.there ys (hand 0 0 false) y (omega (arith, head)) refl head leads.1));
              seen_is = (let n = ap (length {A = ℕ}) free in omega (arith, n));
              last_is = λ v vs e. same v vs (sym free ∙ e);
            }
          where
            same : (v : ℕ) (vs : List ℕ) → y ∷ ys ≡ v ∷ vs → suc (last_of y ys) ≡ suc (last_of v vs)
            same v vs e = ap to e
              where
                to : List ℕ → ℕ
                to [] = 0
                to (y ∷ ys) = suc (last_of y ys)

    -- ---- under the lock

    says1 : world_of m system.value words1 ≡ set_cpu w n d
    says1 = world_of-cpu m system.value system.words n (cpu_bits d) table small ∙ ap (set_cpu w n) (cpu_in-bits d fit_d)

    table1 : IsTable m words1
    table1 = table_set m system.words (cpu_base + n) (cpu_bits d) table

    table2 : IsTable m words2
    table2 = table_set m words1 j a table1

    says2 : world_of m system.value words2 ≡ record w { cpu = update w.cpu n d; lock = update w.lock j a }
    says2 = world_of-lock m system.value words1 j a table1 j_small ∙ ap (λ w. set_lock w j a) says1

    whole2 : AreWhole m words2
    whole2 = whole_lock m words1 j a j_small (whole_cpu m system.words n (cpu_bits d) refl small is.rest.whole)

    lock_hit : eqb (get_or words1 j 0) 0 ≡ true
    lock_hit = eq-eqb (get_or words1 j 0) 0 (get_or-set_other system.words (cpu_base + n) j (cpu_bits d) 0 (λ e. absurd (omega (arith, e, j_small))) ∙ sym (lock-read m system.value system.words j j_small) ∙ resting.locks j j_small)

    pub slab_reads : z ≡ slab_in (get_or system.words (slab_base + f) 0)
    slab_reads = slab-read m system.value system.words f within.1

    there2 : get_or words2 (slab_base + f) 0 ≡ get_or system.words (slab_base + f) 0
    there2 = get_or-set_other words1 j (slab_base + f) a 0 (λ e. absurd (omega (arith, e, j_small))) ∙ get_or-set_other system.words (cpu_base + n) (slab_base + f) (cpu_bits d) 0 (λ e. absurd (omega (arith, e, small)))

    reads2 : slab_in (get_or words2 (slab_base + f) 0) ≡ z
    reads2 = ap slab_in there2 ∙ sym slab_reads

    -- the head of both freelists
    abbrev pub head : ℕ
    head = cond (eqb c.head 0) z.head c.head

    -- both stand in memory one before the other, and the slab is about to be unfrozen
    pub record IsJoined : Type 0 where
      pub turns : ℕ
      pub last : ℕ
      pub seen : ℕ
      pub walked : Bool
      pub words : List ℕ
      pub bytes : ℕ → ℕ
      pub ran : alone m x turns start ≡ machine words system.value (set system.locals x (unfreezes m system.locals x l1 sweep is.there (hand last seen walked) z))
      pub seen_is : seen ≡ length lists.free
      pub says : world_of m system.value words ≡ record w { cpu = update w.cpu n d; lock = update w.lock j a; memory = bytes }
      pub table : IsTable m words
      pub whole : AreWhole m words
      pub there : get_or words (slab_base + f) 0 ≡ get_or system.words (slab_base + f) 0
      pub chain : IsChain (pointer (record w { memory = bytes }) k f) head (lists.free ++ own)
      pub cpus : (q : ℕ) → q < 512 → (q ≡ n → ⊥) → IsChain (pointer (record w { memory = bytes }) (q / 16) (w.cpu q).frame) (w.cpu q).head (cpu_at s q).free
      pub owns : (g : ℕ) → IsChain (pointer (record w { memory = bytes }) (w.slab g).cache g) (w.slab g).head (own_free s g)
      pub kept : (o word : ℕ) (held : Held) → held_under s o ≡ Some held → KeepsWord s (record w { memory = bytes }) held word

    own_chain : IsChain (pointer w k f) z.head own
    own_chain = subst (λ k. IsChain (pointer w k f) z.head own) cache (resting.own f).chain

    pub joined : IsJoined
    joined = by lists.free refl
      where
        r : IsReady
        r = ready

        h : Hand
        h = hand r.last r.seen r.walked

        standing : List ℕ → Spot → SlabWord → System
        standing words spot z = machine words system.value (set system.locals x (with_slab m system.locals x l1 sweep is.there (hand r.last r.seen r.walked) z spot))

        locks : turn m (standing words1 (InPutAway LockAway away) l.slab_word) (own_pick x) ≡ standing words2 (InPutAway LoadAway away) l.slab_word
        locks = turn_locks m system.locals x l1 sweep is.there words1 system.value (hand r.last r.seen r.walked) l.slab_word lock_hit

        by : (free : List ℕ) → lists.free ≡ free → IsJoined
        by [] none =
            let bare : eqb c.head 0 ≡ true = eq-eqb c.head 0 (chain-empty (pointer w k f) c.head lists.free chain (ap (length {A = ℕ}) none)) in
            record {
              turns = r.turns + 2;
              last = r.last;
              seen = r.seen;
              walked = r.walked;
              words = words2;
              bytes = w.memory;
              ran = then_turns m x r.turns 2 (r.turns + 2) start (standing words1 (InPutAway LockAway away) l.slab_word) (standing words2 (InPutAway Unfreeze away) z) refl r.ran
                  (then_turn m x 1 (standing words1 (InPutAway LockAway away) l.slab_word) (standing words2 (InPutAway LoadAway away) l.slab_word) (standing words2 (InPutAway Unfreeze away) z) locks
                  (then_turn m x 0 (standing words2 (InPutAway LoadAway away) l.slab_word) (standing words2 (InPutAway Unfreeze away) z) (standing words2 (InPutAway Unfreeze away) z)
                  (turn_loads_bare m system.locals x l1 sweep is.there words2 system.value (hand r.last r.seen r.walked) l.slab_word z reads2 bare) refl));
              seen_is = r.seen_is;
              says = says2;
              table = table2;
              whole = whole2;
              there = there2;
              chain = subst (λ xs. IsChain (pointer w k f) head (xs ++ own)) (sym none) (subst (λ b. IsChain (pointer w k f) (cond b z.head c.head) own) (sym bare) own_chain);
              cpus = λ q under away. (resting.cpu q under).free;
              owns = λ g. (resting.own g).chain;
              kept = resting.contents;
            }
        by (y ∷ ys) free = record {
          turns = r.turns + 3;
          last = r.last;
          seen = r.seen;
          walked = r.walked;
          words = words3;
          bytes = update w.memory p (hardened k p z.head);
          ran = then_turns m x r.turns 3 (r.turns + 3) start (standing words1 (InPutAway LockAway away) l.slab_word) (standing words3 (InPutAway Unfreeze away) z) refl r.ran
              (then_turn m x 2 (standing words1 (InPutAway LockAway away) l.slab_word) (standing words2 (InPutAway LoadAway away) l.slab_word) (standing words3 (InPutAway Unfreeze away) z) locks
              (then_turn m x 1 (standing words2 (InPutAway LoadAway away) l.slab_word) (standing words2 (InPutAway LinkLast away) z) (standing words3 (InPutAway Unfreeze away) z)
              (turn_loads m system.locals x l1 sweep is.there words2 system.value (hand r.last r.seen r.walked) l.slab_word z reads2 some_head)
              (then_turn m x 0 (standing words2 (InPutAway LinkLast away) z) (standing words3 (InPutAway Unfreeze away) z) (standing words3 (InPutAway Unfreeze away) z)
              (turn_links m system.locals x l1 sweep is.there words2 system.value (hand r.last r.seen r.walked) z p (ap (pointer_at m k f) at_last)) refl)));
          seen_is = r.seen_is;
          says = world_of-memory m system.value words2 p (hardened k p z.head) table2 (p_inside i has) ∙ ap (λ u. set_memory u p (hardened k p z.head)) says2;
          table = table_set m words2 (memory_base m + p) (hardened k p z.head) table2;
          whole = whole_memory m words2 p (hardened k p z.head) refl table.objects whole2;
          there = get_or-set_other words2 (memory_base m + p) (slab_base + f) (hardened k p z.head) 0 (λ e. absurd (omega (arith, e, within.1, table.objects))) ∙ there2;
          chain = subst (λ xs. IsChain after head (xs ++ own)) (sym free) (subst (λ b. IsChain after (cond b z.head c.head) (y ∷ ys ++ own)) (sym some_head)
              (leads_on (pointer w k f) after c.head y ys own z.head (λ j. subst (λ xs. times j xs ≤ 1) free (once j))
              (λ j on away. pointed.free_stays s n k f i number consistent on_cpu has_i b w ls resting w.cpu w.slab (hardened k p z.head) j (free_of j (subst (λ xs. 1 ≤ times j xs) (sym free) on)) away)
              (pointed.stored_leads s n k f i number consistent on_cpu has_i b w ls resting z.head) (subst (IsChain (pointer w k f) c.head) free chain)
              (subst (λ k. IsChain (pointer (record w { memory = update w.memory p (hardened l.cache p z.head) }) k f) z.head own) cache (pointed.own_stays s n k f i number consistent on_cpu has_i b w ls resting w.cpu w.slab (hardened k p z.head) f))));
          cpus = pointed.cpu_stays s n k f i number consistent on_cpu has_i b w ls resting w.cpu w.slab (hardened k p z.head);
          owns = pointed.own_stays s n k f i number consistent on_cpu has_i b w ls resting w.cpu w.slab (hardened k p z.head);
          kept = pointed.words_stay s n k f i number consistent on_cpu has_i b w ls resting w.cpu w.slab (hardened k p z.head);
        }
          where
            i : ℕ
            i = last_of y ys

            has : 1 ≤ times i lists.free
            has = subst (λ xs. 1 ≤ times i xs) (sym free) (last_there y ys)

            has_i : 1 ≤ times i (cpu_at s n).free
            has_i = free_of i has

            p : ℕ
            p = pointer_at m k f i

            words3 : List ℕ
            words3 = set words2 (memory_base m + p) (hardened k p z.head)

            after : ℕ → ℕ
            after = pointer (record w { memory = update w.memory p (hardened k p z.head) }) k f

            at_last : r.last - 1 ≡ i
            at_last = let e = r.last_is y ys free in omega (arith, e)

            some_head : eqb c.head 0 ≡ false
            some_head = ne_eqb c.head 0 (λ e. absurd (let first = (subst (IsChain (pointer w k f) c.head) free chain).0 in omega (arith, e, first)))
