-- What a CPU has of a cache on its partial list is moved to the node list, and the worker goes on with its sweep.
use Rattle.std.proofs.Common.{◌≡◌, ℕ, zero, suc, ◌+◌, ◌<◌, ◌≤◌, eqb, cond, Bool, true, false, List, [], ◌∷◌, length, get_or, set, Option, Some, None, refl, ap, sym, ◌∙◌, subst, arith}
use Rattle.std.specs.Prelude.{is_some, nat_lt, slice_index}
use Rattle.std.proofs.lemmas.Bool.{eq-eqb, ne_eqb, cond_both, ltb-true}
use Rattle.std.proofs.lemmas.List.{get_or-set_other, set-get_or, length-set}
use Rattle.slub_trace.specs.declared.reply.Reply.{Reply}
use Rattle.slub_trace.specs.declared.reply.Reply.TheVariants.{Flushed}
use Rattle.slub_words.specs.declared.slab.SlabWord.{SlabWord}
use Rattle.slub_cpu_partial.specs.declared.words.ListWord.{ListWord}
use Rattle.slub_cpu_partial.specs.Strings.{list_bits}
use Rattle.slub_lists.specs.State.{State}
use Rattle.slub_lists.specs.Alloc.{cache_of, checked_of, cpu_place, lists_of, no_lists}
use Rattle.slub_lists.specs.Coherent.{IsConsistent, IsAccounted}
use Rattle.slub_lists.specs.Free.{is_spare, moved, moved_all, with_partial}
use Rattle.slub_lists.specs.Shrink.{min_partial_of, moved_partial}
use Rattle.slub_lists.proofs.Coherence.{place-inside}
use Rattle.slub_core.specs.declared.spot.Spot.{Spot}
use Rattle.slub_core.specs.declared.spot.Spot.TheVariants.{Between, InMoveSet, InOffline, InTrim}
use Rattle.slub_core.specs.declared.spot.Sweep.{Sweep}
use Rattle.slub_core.specs.declared.spot.Sweep.TheVariants.{Trimming, Flushing}
use Rattle.slub_core.specs.declared.spot.MoveSet.TheVariants.{ForOffline}
use Rattle.slub_core.specs.declared.spot.MoveSetSpot.TheVariants.{LockMove, GiveMove}
use Rattle.slub_core.specs.declared.spot.OfflineSpot.TheVariants.{LoadCurrent, TakeCurrent}
use Rattle.slub_core.specs.declared.spot.TrimSpot.TheVariants.{LockTrim}
use Rattle.slub_core.specs.declared.step.Answer.{Answer}
use Rattle.slub_core.specs.declared.step.Answer.TheVariants.{Word, Done}
use Rattle.slub_core.specs.declared.step.Op.TheVariants.{Store, Swap}
use Rattle.slub_core.specs.declared.step.Place.TheVariants.{ListOf, LockOf}
use Rattle.slub_core.specs.Setup.{Setup, cpu_number, node_lock}
use Rattle.slub_core.specs.Words.{list_base, list_in}
use Rattle.slub_core.specs.World.{World, LockValue, Links, set_list, set_lock, size_in, world_of}
use Rattle.slub_core.specs.Alloc.{taken_string}
use Rattle.slub_core.specs.Discard.{counts_for}
use Rattle.slub_core.specs.declared.spot.Discard.TheVariants.{FromMove}
use Rattle.slub_core.specs.Local.{Local, Turn, answered, at, goes, stays, tells}
use Rattle.slub_core.specs.Offline.{if_flushing, if_trimming, list_swept, next_swept, flushed_cache}
use Rattle.slub_core.specs.Run.{System, turn}
use Rattle.slub_core.specs.Steps.{advance_at, advance_of, at_once, rested, rested_at}
use Rattle.slub_core.proofs.Packed.{IsSlabFit}
use Rattle.slub_core.proofs.StepWords.{IsTable, list-read, lock-read, setup_of as setup_is, world_of-list, world_of-lock}
use Rattle.slub_law_opening.specs.Opening.{Beside, setup_of, value_of as value_at}
use Rattle.slub_law_opening.specs.Rests.{IsBetween, IsCpuOf, Rests}
use Rattle.slub_law_opening.specs.Closing.{HasLengths}
use Rattle.slub_law_alone.specs.Alone.{alone, own_pick, AreWhole}
use Rattle.slub_law_alone.specs.Away.{RestsBut, ComesTo, EndsAs, MovesList, PartialListsAreMoved, has_moved, spare_among, told_of_partial}
use Rattle.slub_law_alone.proofs.Bits.{whole_list, whole_lock}
use Rattle.slub_calls.proofs.ChangeNumbers.{cpu_here}
use Rattle.slub_law_alone.proofs.Movable.{AreMovable, KeepsRest, list_movable, movable_in, moved_keeps}
use Rattle.slub_law_alone.proofs.MoveLoop.{LeadsTo, all_moved, told_of}
use Rattle.slub_law_alone.proofs.MoveTurns.{before, turn_locks}
use Rattle.slub_law_alone.proofs.MovedLists.{list_zero, rests_emptied}
use Rattle.slub_law_alone.proofs.PutAway.{least_of}
use Rattle.slub_law_alone.proofs.Sweeping as sweeping
use Rattle.slub_law_alone.proofs.Sweeping.{QuietSpot, Loads, Takes, Locks, spot_of}
use Rattle.slub_law_alone.proofs.Turns.{machine, turn_goes, settle_goes, settle_tells, then_turn}
use Rattle.slub_law_alone.proofs.UnderLock.{RestsUnder, given_says, table_set, then_turns, under_locked}

-- what a set tells of
told_spare : (sweep : Sweep) (s : State) (min k : ℕ) (fs : List ℕ) → told_of (if_trimming sweep 1) min k s fs ≡ if_trimming sweep (spare_among s min k fs)
told_spare Trimming s min k fs = by s fs
  where
    by : (s : State) (fs : List ℕ) → told_of 1 min k s fs ≡ spare_among s min k fs
    by s [] = refl
    by s (f ∷ fs) = ap (λ n. cond {A = ℕ} (is_spare s min k f) 1 0 + n) (by (moved min k s f) fs)
told_spare Flushing s min k fs = by s fs
  where
    by : (s : State) (fs : List ℕ) → told_of 0 min k s fs ≡ 0
    by s [] = refl
    by s (f ∷ fs) = let none = cond_both {A = ℕ} (is_spare s min k f) 0 0 (λ n. n ≡ 0) (λ _. refl) (λ _. refl) in let rest = by (moved min k s f) fs in omega (arith, none, rest)

-- a worker that has no lock and nothing in hand does nothing at once, and has no reply to come
quiet_once : (m : Setup) (value : ℕ → LockValue) (n : Local) (q : QuietSpot) → n.spot ≡ spot_of q → (at_once m false value n n.spot ≡ stays value n) × (rested m n ≡ n)
quiet_once m value n (Loads sweep) is = (ap (at_once m false value n) is, ap (rested_at m n) is)
quiet_once m value n (Takes sweep) is = (ap (at_once m false value n) is, ap (rested_at m n) is)
quiet_once m value n Locks is = (ap (at_once m false value n) is, ap (rested_at m n) is)

module _ (opening : World) (s : State) (b : Beside) (system : System) (x : ℕ) (l : Local) (sweep : Sweep) (is : RestsBut opening s b system x (at l (InOffline TakeCurrent sweep))) where
  abbrev m : Setup
  m = setup_of s b

  abbrev w : World
  w = world_of m system.value system.words

  abbrev k : ℕ
  k = l.cache

  abbrev n : ℕ
  n = cpu_number l.cache l.cpu

  abbrev ls : List Local
  ls = sweeping.ls opening s b system x l (InOffline TakeCurrent sweep) refl is

  abbrev resting : Rests s b w ls
  resting = sweeping.rests opening s b system x l (InOffline TakeCurrent sweep) refl is

  inside : k < 32
  inside = (sweeping.plain opening s b system x l (InOffline TakeCurrent sweep) refl is).0

  lives : is_some (cache_of s k) ≡ true
  lives = ap (λ (m : Setup). m.lives k) (sym resting.setup) ∙ (sweeping.plain opening s b system x l (InOffline TakeCurrent sweep) refl is).1

  checks : is_some (checked_of s k) ≡ false
  checks = ap (λ (m : Setup). m.checks k) (sym resting.setup) ∙ (sweeping.plain opening s b system x l (InOffline TakeCurrent sweep) refl is).2

  cpu : l.cpu < s.cpus
  cpu = subst (λ (m : Setup). l.cpu < m.cpus) resting.setup (sweeping.cpu opening s b system x l (InOffline TakeCurrent sweep) refl is)

  consistent : IsConsistent s
  consistent = sweeping.consistent opening s b system x l (InOffline TakeCurrent sweep) refl is

  long : HasLengths s
  long = sweeping.lengths opening s b system x l (InOffline TakeCurrent sweep) refl is

  abbrev table : IsTable m system.words
  table = sweeping.table opening s b system x l (InOffline TakeCurrent sweep) refl is

  few : s.cpus ≤ 16
  few = is.rest.lists.shaped.cpus.1

  small : n < 512
  small = omega (arith, inside, cpu, few)

  abbrev j : ℕ
  j = node_lock k

  j_small : j < 33
  j_small = omega (arith, inside)

  waits : IsBetween w.setup (at l Between)
  waits = sweeping.waits_between opening s b system x l (InOffline TakeCurrent sweep) refl is

  abbrev frames : List ℕ
  frames = (lists_of s k l.cpu).partial

  cpu_is : IsCpuOf b w n (lists_of s k l.cpu)
  cpu_is = subst (IsCpuOf b w n) (cpu_here s k l.cpu cpu few) (resting.cpu n small)

  abbrev g : ListWord
  g = w.list n

  abbrev q : ℕ
  q = get_or system.words (list_base + n) 0

  list_reads : g ≡ list_in q
  list_reads = list-read m system.value system.words n small

  abbrev asked : Local
  asked = at l (InOffline TakeCurrent sweep)

  abbrev start : System
  start = machine system.words system.value (set system.locals x asked)

  start_is : start ≡ system
  start_is = ap (machine system.words system.value) (sweeping.locals_are opening s b system x l (InOffline TakeCurrent sweep) refl is)

  abbrev after : State
  after = moved_partial s (min_partial_of s k) k l.cpu

  -- ---- but for its last turn

  -- the worker as it makes the turn that goes on
  abbrev standing : SlabWord → ℕ → Spot → Local
  standing z c spot = record l { slab_word = z; count = c; spot = spot }

  -- its last turn leads on with the sweep, and the machine rests then in the lists t
  record IsSwept (t : State) (count : ℕ) : Type 0 where
    turns : ℕ
    words : List ℕ
    value : ℕ → LockValue
    word : SlabWord
    fit : IsSlabFit word
    spot : Spot
    answer : Answer
    ran : (next : Local) → advance_of m false value (standing word count spot) answer ≡ stays value next → alone m x (suc turns) start ≡ machine words value (set system.locals x next)
    leads : advance_at m value (standing word count spot) spot answer ≡ next_swept m (standing word count spot) sweep
    setup : setup_of t b ≡ m
    names : t.table ≡ s.table
    checked : t.checked ≡ s.checked
    lengths : HasLengths t
    accounted : IsAccounted t
    sizes : t.frames ≡ s.frames
    rests : Rests t b (world_of m value words) ls
    whole : AreWhole m words

  -- ---- no slab is there

  swept_none : frames ≡ [] → IsSwept s l.count
  swept_none none = record {
    turns = 0;
    words = system.words;
    value = system.value;
    word = l.slab_word;
    fit = waits.packed.slab_word;
    spot = InOffline TakeCurrent sweep;
    answer = Word q;
    ran = λ next leads. then_turn m x 0 start (machine system.words system.value (set system.locals x next)) (machine system.words system.value (set system.locals x next))
        (turn_goes m system.words system.words system.value system.locals x asked asked next (record { place = ListOf n; op = Swap 0 }) (Word q) is.there refl refl (ap (set system.words (list_base + n)) (sym zero_word) ∙ set-get_or system.words (list_base + n) 0) refl leads) refl;
    leads = ap (list_swept m asked sweep) (sym list_reads)
        ∙ ap (λ b. cond {A = Turn} b (next_swept m asked sweep) (goes (record asked { string = Some (taken_string g.front g.count); count = l.count + if_flushing sweep g.count; spot = InMoveSet LockMove (ForOffline sweep) }))) (eq-eqb g.count 0 (cpu_is.count ∙ ap (length {A = ℕ}) none));
    setup = refl;
    names = refl;
    checked = refl;
    lengths = long;
    accounted = is.rest.lists.accounted;
    sizes = refl;
    rests = resting;
    whole = is.rest.whole;
  }
    where
      list_is : g ≡ record { front = 0; count = 0 }
      list_is = λ i. record { front = (subst (λ fs. Links w.link g.front fs 0) none cpu_is.partial) i; count = (cpu_is.count ∙ ap (length {A = ℕ}) none) i }

      zero_word : q ≡ 0
      zero_word = sym (is.rest.whole.list n small) ∙ ap list_bits (sym list_reads ∙ list_is)

  -- ---- some are

  module _ (e : ℕ) (es : List ℕ) (some : frames ≡ e ∷ es) where
    abbrev fs : List ℕ
    fs = e ∷ es

    abbrev first : ℕ
    first = l.count + if_flushing sweep (suc (length es))

    abbrev words1 : List ℕ
    words1 = set system.words (list_base + n) 0

    abbrev a : ℕ
    a = l.worker + 1

    abbrev words2 : List ℕ
    words2 = set words1 j a

    string_is : (g.front ≡ e) × (g.count ≡ suc (length es)) × Links w.link g.front fs 0
    string_is =
        let links = subst (λ fs. Links w.link g.front fs 0) some cpu_is.partial in
        (links.0, cpu_is.count ∙ ap (length {A = ℕ}) some, links)

    abbrev ge : ListWord
    ge = record { front = e; count = suc (length es) }

    list_is : g ≡ ge
    list_is = λ i. record { front = string_is.0 i; count = string_is.1 i }

    -- it has the list in hand
    abbrev locking : Local
    locking = record l { count = first; run = None; string = Some (taken_string e (suc (length es))); spot = InMoveSet LockMove (ForOffline sweep) }

    turn1 : turn m start (own_pick x) ≡ machine words1 system.value (set system.locals x locking)
    turn1 = turn_goes m system.words words1 system.value system.locals x asked asked locking (record { place = ListOf n; op = Swap 0 }) (Word q) is.there refl refl refl refl (settle_goes m system.value asked locking (Word q) leads refl refl)
      where
        by : ListWord → Turn
        by g = list_swept m asked sweep g

        leads : advance_at m system.value asked (InOffline TakeCurrent sweep) (Word q) ≡ goes locking
        leads = ap by (sym list_reads ∙ list_is) ∙ ap (λ b. cond {A = Turn} b (next_swept m asked sweep) (goes (record locking { run = l.run }))) (ne_eqb (suc (length es)) 0 (λ e. absurd (omega (arith, e))))
            ∙ ap (λ run. goes (record locking { run = run })) waits.run

    table1 : IsTable m words1
    table1 = table_set m system.words (list_base + n) 0 table

    lock_hit : eqb (get_or words1 j 0) 0 ≡ true
    lock_hit = eq-eqb (get_or words1 j 0) 0 (get_or-set_other system.words (list_base + n) j 0 0 (λ q. absurd (omega (arith, q, j_small))) ∙ sym (lock-read m system.value system.words j j_small) ∙ resting.locks j j_small)

    abbrev none_word : ListWord
    none_word = record { front = 0; count = 0 }

    says1 : world_of m system.value words1 ≡ set_list w n none_word
    says1 = world_of-list m system.value system.words n 0 table small ∙ ap (set_list w n) list_zero

    -- the list is the CPU's no more
    abbrev bare : State
    bare = with_partial s k l.cpu []

    bare_long : HasLengths bare
    bare_long = record {
      slabs = long.slabs;
      frees = long.frees;
      cpu_lists = length-set s.cpu_lists (cpu_place s k l.cpu) _ ∙ long.cpu_lists;
      nodes = long.nodes;
      checked = long.checked;
      memory = long.memory;
      gone = long.gone;
      live = long.live;
    }

    under : RestsUnder m b ls j bare words2 system.value
    under = under_locked m b ls j a bare words1 system.value j_small refl bare_long table1 (whole_list m system.words n refl small (let q = table.length in omega (arith, q, small)) is.rest.whole)
        (subst (λ (w : World). Rests bare b w ls) (sym says1) (rests_emptied s b w ls k l.cpu resting cpu few (place-inside s k l.cpu is.rest.lists.shaped inside cpu)))

    linked_up : Links (world_of m system.value words2).link g.front fs 0
    linked_up = subst (λ (w : World). Links w.link g.front fs 0) (sym (world_of-lock m system.value words1 j a table1 j_small ∙ ap (λ w. set_lock w j a) says1)) string_is.2

    movable : AreMovable bare k fs
    movable = movable_in s bare k fs refl refl refl values (λ h some. some) (subst (AreMovable s k) some (list_movable s k l.cpu consistent cpu))
      where
        values : (n h : ℕ) → size_in (value_at bare n) h ≡ size_in (value_at s n) h
        values zero h = refl
        values (suc n) h = refl

    abbrev min : ℕ
    min = (m.layout k).min_partial

    abbrev each : ℕ
    each = counts_for (FromMove (ForOffline sweep))

    abbrev moves : Local
    moves = before m system.locals x l (ForOffline sweep) is.there l.slab_word first fs

    loop : LeadsTo m b system.locals ls x j words2 system.value moves (moved_all bare min k fs) (λ z c. before m system.locals x l (ForOffline sweep) is.there z c []) (first + told_of each min k bare fs)
    loop = all_moved m b system.locals ls x l (ForOffline sweep) is.there inside lives checks fs bare words2 system.value under movable g.front linked_up l.slab_word first waits.packed.slab_word

    keeps : KeepsRest bare (moved_all bare min k fs)
    keeps = moved_keeps bare min k fs

    -- the lists with the set moved
    abbrev left : State
    left = record bare { pool = keeps.pool; slabs = keeps.slabs; frees = keeps.frees; nodes = keeps.nodes }

    moved_under : RestsUnder m b ls j left loop.after loop.guards
    moved_under = subst (λ t. RestsUnder m b ls j t loop.after loop.guards) keeps.is loop.under

    abbrev gives : Local
    gives = standing loop.word loop.told (InMoveSet GiveMove (ForOffline sweep))

    gives_is : before m system.locals x l (ForOffline sweep) is.there loop.word loop.told [] ≡ gives
    gives_is = λ i. record l { slab_word = loop.word; count = loop.told; run = sym waits.run i; string = sym waits.string i; spot = InMoveSet GiveMove (ForOffline sweep) }

    swept_some : IsSwept left loop.told
    swept_some = record {
      turns = suc (suc loop.turns);
      words = set loop.after j 0;
      value = loop.guards;
      word = loop.word;
      fit = loop.fit;
      spot = InMoveSet GiveMove (ForOffline sweep);
      answer = Done;
      ran = λ next leads.
          let end = machine (set loop.after j 0) loop.guards (set system.locals x next) in
          then_turn m x (suc (suc loop.turns)) start (machine words1 system.value (set system.locals x locking)) end turn1
          (then_turn m x (suc loop.turns) (machine words1 system.value (set system.locals x locking)) (machine words2 system.value (set system.locals x moves)) end (turn_locks m system.locals x l (ForOffline sweep) is.there words1 system.value l.slab_word first fs lock_hit)
          (then_turns m x loop.turns 1 (suc loop.turns) (machine words2 system.value (set system.locals x moves)) (machine loop.after loop.guards (set system.locals x gives)) end (omega arith) (loop.ran ∙ ap (λ l. machine loop.after loop.guards (set system.locals x l)) gives_is)
          (then_turn m x 0 (machine loop.after loop.guards (set system.locals x gives)) end end
          (turn_goes m loop.after (set loop.after j 0) loop.guards system.locals x gives gives next (record { place = LockOf j; op = Store 0 }) Done is.there refl refl refl refl leads) refl)));
      leads = refl;
      setup = refl;
      names = refl;
      checked = refl;
      lengths = moved_under.lengths;
      accounted = is.rest.lists.accounted;
      sizes = refl;
      rests = subst (λ (w : World). Rests left b w ls) (sym (given_says m j loop.after loop.guards j_small moved_under.table)) moved_under.rests;
      whole = whole_lock m loop.after j 0 j_small moved_under.whole;
    }

  -- ---- whichever it is

  abbrev told : ℕ
  told = l.count + told_of_partial s sweep k l.cpu

  swept : IsSwept after told
  swept = by frames refl
    where
      by : (fs : List ℕ) → frames ≡ fs → IsSwept after told
      by [] none = subst (λ t. IsSwept t told) (sym same) (subst (IsSwept s) count (swept_none none))
        where
          same : after ≡ s
          same = ap (moved_all (with_partial s k l.cpu []) (min_partial_of s k) k) none ∙ ap (with_partial s k l.cpu) (sym none) ∙ ap (λ ls. record s { cpu_lists = ls }) (set-get_or s.cpu_lists (cpu_place s k l.cpu) no_lists)

          count : l.count ≡ told
          count = let a : if_flushing sweep (length frames) ≡ 0 = ap (λ fs. if_flushing sweep (length fs)) none ∙ (none_told sweep).0 in
              let b : if_trimming sweep (spare_among (with_partial s k l.cpu []) (min_partial_of s k) k frames) ≡ 0 = ap (λ fs. if_trimming sweep (spare_among (with_partial s k l.cpu []) (min_partial_of s k) k fs)) none ∙ (none_told sweep).1 in
              omega (arith, a, b)
            where
              none_told : (sweep : Sweep) → (if_flushing sweep 0 ≡ 0) × (if_trimming sweep 0 ≡ 0)
              none_told Trimming = (refl, refl)
              none_told Flushing = (refl, refl)
      by (e ∷ es) some = subst (λ t. IsSwept t told) (sym (keeps e es some).is ∙ same) (subst (IsSwept (left e es some)) count (swept_some e es some))
        where
          same : moved_all (with_partial s k l.cpu []) (m.layout k).min_partial k (e ∷ es) ≡ after
          same = (λ i. moved_all (with_partial s k l.cpu []) (least_of s k i) k (sym some i))

          count : (loop e es some).told ≡ told
          count = (loop e es some).counted
              ∙ (λ i. l.count + if_flushing sweep (length (sym some i)) + each_is (least_of s k i) (sym some i) i)
              ∙ (omega arith)
            where
              each_is : (min : ℕ) (fs : List ℕ) → told_of (counts_for (FromMove (ForOffline sweep))) min k (with_partial s k l.cpu []) fs ≡ if_trimming sweep (spare_among (with_partial s k l.cpu []) min k fs)
              each_is min fs = told_spare sweep (with_partial s k l.cpu []) min k fs

  from_start : (turns : ℕ) (end : System) → alone m x turns start ≡ end → alone m x turns system ≡ end
  from_start turns end ran = ap (alone m x turns) (sym start_is) ∙ ran

  abbrev done : Local
  done = has_moved s sweep l swept.word

  -- it knows the same objects, and has no slab in hand
  done_between : (c t k : ℕ) → c < w.setup.cpus → IsBetween w.setup (record done { cpu = c; turn = t; cache = k; spot = Between })
  done_between c t k below = record {
    between = refl;
    hands = waits.hands;
    string = waits.string;
    run = waits.run;
    packed = record { cpu_word = waits.packed.cpu_word; slab_word = swept.fit; list_word = waits.packed.list_word; next = waits.packed.next };
    cpu = below;
    numbers = waits.numbers;
    some = waits.some;
  }

  goes_same : next_swept m (standing swept.word told swept.spot) sweep ≡ next_swept m done sweep
  goes_same = by sweep
    where
      by : (sweep : Sweep) → next_swept m (standing swept.word told swept.spot) sweep ≡ next_swept m done sweep
      by Trimming = refl
      by Flushing = refl

  between_answered : (reply : Reply) → IsBetween w.setup (answered (at done Between) reply)
  between_answered reply = let same = done_between l.cpu l.turn l.cache waits.cpu in record {
    between = refl;
    hands = same.hands;
    string = same.string;
    run = same.run;
    packed = record { cpu_word = same.packed.cpu_word; slab_word = same.packed.slab_word; list_word = same.packed.list_word; next = same.packed.next };
    cpu = same.cpu;
    numbers = same.numbers;
    some = same.some;
  }

  comes_on : (n : Local) (quiet : QuietSpot) → next_swept m done sweep ≡ goes n → n.spot ≡ spot_of quiet → n.worker ≡ l.worker → n.known ≡ l.known → n.todo ≡ l.todo → IsBetween w.setup (at n Between) → ComesTo opening s b system x after b n
  comes_on n quiet leads spot worker known todo between =
      sweeping.comes_at opening s b system x l (InOffline TakeCurrent sweep) refl is after b swept.turns swept.words swept.value n quiet
      (from_start (suc swept.turns) (machine swept.words swept.value (set system.locals x n)) (swept.ran n (settle_goes m swept.value (standing swept.word told swept.spot) n swept.answer (swept.leads ∙ goes_same ∙ leads) (quiet_once m swept.value n quiet spot).0 (quiet_once m swept.value n quiet spot).1)))
      swept.setup swept.names swept.checked swept.lengths swept.accounted is.rest.beside.tids refl swept.sizes swept.rests
      (setup_is m swept.value swept.words ∙ sym (setup_is m system.value system.words)) swept.whole spot worker known todo between

  -- ---- a trim goes on

  trims_on : sweep ≡ Trimming → (n : Local) → next_swept m done sweep ≡ goes n → ComesTo opening s b system x after b n
  trims_on trims n leads = subst (λ n. ComesTo opening s b system x after b n) same (by (nat_lt (l.cpu + 1) m.cpus) refl)
    where
      to : Bool → Local
      to more = record done { cpu = cond more (l.cpu + 1) l.cpu; spot = cond more (InOffline LoadCurrent Trimming) (InTrim LockTrim) }

      same : to (nat_lt (l.cpu + 1) m.cpus) ≡ n
      same = ap (λ (t : Turn). t.local) (sym (ap (next_swept m done) trims) ∙ leads)

      by : (more : Bool) → nat_lt (l.cpu + 1) m.cpus ≡ more → ComesTo opening s b system x after b (to (nat_lt (l.cpu + 1) m.cpus))
      by true more =
          let it : to (nat_lt (l.cpu + 1) m.cpus) ≡ to true = ap to more in
          let below = ltb-true (l.cpu + 1) m.cpus more in
          subst (λ n. ComesTo opening s b system x after b n) (sym it) (comes_on (to true) (Loads Trimming) (leads ∙ ap goes (sym same ∙ it)) refl refl refl refl (done_between (l.cpu + 1) l.turn l.cache (subst (λ (m : Setup). l.cpu + 1 < m.cpus) (sym resting.setup) below)))
      by false more =
          let it : to (nat_lt (l.cpu + 1) m.cpus) ≡ to false = ap to more in
          subst (λ n. ComesTo opening s b system x after b n) (sym it) (comes_on (to false) Locks (leads ∙ ap goes (sym same ∙ it)) refl refl refl refl (done_between l.cpu l.turn l.cache waits.cpu))

  -- ---- a flush goes on

  flushes_on : sweep ≡ Flushing → (n : Local) → next_swept m done sweep ≡ goes n → ComesTo opening s b system x after b n
  flushes_on flushes n leads = subst (λ n. ComesTo opening s b system x after b n) same (by (nat_lt (l.turn + 1) (length m.plain)) refl)
    where
      to : Bool → Local
      to more = record done { turn = cond more (l.turn + 1) l.turn; cache = cond more (slice_index m.plain (l.turn + 1)) l.cache; spot = cond more (InOffline LoadCurrent Flushing) Between }

      is_turn : flushed_cache m done ≡ goes n
      is_turn = sym (ap (next_swept m done) flushes) ∙ leads

      same : to (nat_lt (l.turn + 1) (length m.plain)) ≡ n
      same = ap (λ (t : Turn). t.local) is_turn

      by : (more : Bool) → nat_lt (l.turn + 1) (length m.plain) ≡ more → ComesTo opening s b system x after b (to (nat_lt (l.turn + 1) (length m.plain)))
      by true more =
          let it : to (nat_lt (l.turn + 1) (length m.plain)) ≡ to true = ap to more in
          subst (λ n. ComesTo opening s b system x after b n) (sym it) (comes_on (to true) (Loads Flushing) (leads ∙ ap goes (sym same ∙ it)) refl refl refl refl (done_between l.cpu (l.turn + 1) (slice_index m.plain (l.turn + 1)) waits.cpu))
      by false more = absurd (let told = ap (λ (t : Turn). t.reply) is_turn in let none = ap (λ more. cond {A = Option Reply} more None (Some (Flushed done.count))) more in cc (sym none ∙ told))

  -- or ends

  flush_ends : sweep ≡ Flushing → (n : Local) (reply : Reply) → next_swept m done sweep ≡ tells n reply → EndsAs opening s b system x after b (answered n reply)
  flush_ends flushes n reply leads = subst (λ n. EndsAs opening s b system x after b (answered n reply)) same (by (nat_lt (l.turn + 1) (length m.plain)) refl)
    where
      to : Bool → Local
      to more = record done { turn = cond more (l.turn + 1) l.turn; cache = cond more (slice_index m.plain (l.turn + 1)) l.cache; spot = cond more (InOffline LoadCurrent Flushing) Between }

      is_turn : flushed_cache m done ≡ tells n reply
      is_turn = sym (ap (next_swept m done) flushes) ∙ leads

      same : to (nat_lt (l.turn + 1) (length m.plain)) ≡ n
      same = ap (λ (t : Turn). t.local) is_turn

      by : (more : Bool) → nat_lt (l.turn + 1) (length m.plain) ≡ more → EndsAs opening s b system x after b (answered (to (nat_lt (l.turn + 1) (length m.plain))) reply)
      by true more = absurd (let told = ap (λ (t : Turn). t.reply) is_turn in let none = ap (λ more. cond {A = Option Reply} more None (Some (Flushed done.count))) more in cc (sym none ∙ told))
      by false more =
          let it : to (nat_lt (l.turn + 1) (length m.plain)) ≡ to false = ap to more in
          subst (λ n. EndsAs opening s b system x after b (answered n reply)) (sym it)
          (sweeping.ends_as opening s b system x l (InOffline TakeCurrent sweep) refl is after b swept.turns swept.words swept.value (answered (to false) reply)
          (from_start (suc swept.turns) (machine swept.words swept.value (set system.locals x (rested m (answered (to false) reply))))
          (swept.ran (rested m (answered (to false) reply)) (settle_tells m swept.value (standing swept.word told swept.spot) (to false) swept.answer reply (swept.leads ∙ goes_same ∙ leads ∙ ap (λ n. tells n reply) (sym same ∙ it)) refl)))
          swept.setup swept.names swept.checked swept.lengths swept.accounted is.rest.beside.tids refl swept.sizes swept.rests
          (setup_is m swept.value swept.words ∙ sym (setup_is m system.value system.words)) swept.whole refl refl (between_answered reply))

  -- ---- whichever sweep it is

  moves_list : MovesList opening s b system x l sweep
  moves_list = record {
    slab_word = swept.word;
    goes_on = λ n leads. by_sweep sweep refl n leads;
    ends = λ n reply leads. end_by sweep refl n reply leads;
  }
    where
      by_sweep : (z : Sweep) → sweep ≡ z → (n : Local) → next_swept m done sweep ≡ goes n → ComesTo opening s b system x after b n
      by_sweep Trimming trims n leads = trims_on trims n leads
      by_sweep Flushing flushes n leads = flushes_on flushes n leads

      end_by : (z : Sweep) → sweep ≡ z → (n : Local) (reply : Reply) → next_swept m done sweep ≡ tells n reply → EndsAs opening s b system x after b (answered n reply)
      end_by Trimming trims n reply leads = absurd (let told = ap (λ (t : Turn). t.reply) (sym (ap (next_swept m done) trims) ∙ leads) in cc)
      end_by Flushing flushes n reply leads = flush_ends flushes n reply leads

pub list_moved : PartialListsAreMoved
list_moved opening s b system x l sweep is = moves_list opening s b system x l sweep is
