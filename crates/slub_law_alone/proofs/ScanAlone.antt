-- The end of a trim by a worker alone: the node list is scanned under its lock and put in order, and the call has its reply.
use Rattle.std.proofs.Common.{◌≡◌, ℕ, suc, ◌+◌, ◌<◌, eqb, true, false, List, [], length, get_or, set, refl, ap, sym, ◌∙◌, subst, arith, sum_by}
use Rattle.std.proofs.lemmas.Bool.{eq-eqb}
use Rattle.std.proofs.lemmas.List.{length-map, length-set}
use Rattle.slub_common.specs.Times.{times}
use Rattle.slub_trace.specs.declared.reply.Reply.TheVariants.{Trimmed}
use Rattle.slub_node_partial.specs.Promotion.{IsPromoted}
use Rattle.slub_node_partial.proofs.Promotions.{keeps}
use Rattle.slub_lists.specs.State.{State}
use Rattle.slub_lists.specs.Alloc.{checked_of, node_of, own_free, with_node}
use Rattle.slub_lists.specs.Coherent.{IsAccounted, IsConsistent, held_of}
use Rattle.slub_lists.specs.Shrink.{node_counts, swept}
use Rattle.slub_lists.proofs.Sweeping.{times-IsPermutation}
use Rattle.slub_core.specs.declared.spot.Spot.TheVariants.{Between, InTrim}
use Rattle.slub_core.specs.declared.spot.TrimSpot.TheVariants.{LockTrim}
use Rattle.slub_core.specs.Setup.{Setup, node_lock}
use Rattle.slub_core.specs.World.{World, LockValue, Node, frames_in, set_lock, set_value, update, world_of}
use Rattle.slub_core.specs.Local.{Local, answered, at}
use Rattle.slub_core.specs.Run.{System}
use Rattle.slub_core.specs.Steps.{rested}
use Rattle.slub_core.proofs.StepWords.{lock-read, setup_of as setup_is, value_of as value_is, world_of-value}
use Rattle.slub_law_opening.specs.Opening.{Beside, setup_of}
use Rattle.slub_law_opening.specs.Rests.{IsBetween, Rests}
use Rattle.slub_law_opening.specs.Closing.{HasLengths}
use Rattle.slub_law_alone.specs.Alone.{alone}
use Rattle.slub_law_alone.specs.Away.{EndsAs, RestsBut}
use Rattle.slub_law_alone.proofs.Bits.{whole_lock}
use Rattle.slub_law_alone.proofs.MoveLoop.{none_of}
use Rattle.slub_law_alone.proofs.NodeOrder.{rests_ordered}
use Rattle.slub_law_alone.proofs.ScanLists.{node_scanned}
use Rattle.slub_law_alone.proofs.ScanLoop.{ScanEnds, scan_all}
use Rattle.slub_law_alone.proofs.ScanTurns.{guards, scanning, scans, turn_ends, turn_locks}
use Rattle.slub_law_alone.proofs.Sweeping as sweeping
use Rattle.slub_law_alone.proofs.Turns.{machine, then_turn}
use Rattle.slub_law_alone.proofs.UnderLock.{RestsUnder, given_back, given_says, then_turns, under_locked}

module _ (opening : World) (s : State) (b : Beside) (system : System) (x : ℕ) (l : Local) (is : RestsBut opening s b system x (at l (InTrim LockTrim))) where
  abbrev m : Setup
  m = setup_of s b

  abbrev w : World
  w = world_of m system.value system.words

  abbrev k : ℕ
  k = l.cache

  abbrev j : ℕ
  j = node_lock l.cache

  abbrev ls : List Local
  ls = sweeping.ls opening s b system x l (InTrim LockTrim) refl is

  abbrev resting : Rests s b w ls
  resting = sweeping.rests opening s b system x l (InTrim LockTrim) refl is

  inside : k < 32
  inside = (sweeping.plain opening s b system x l (InTrim LockTrim) refl is).0

  lives : m.lives k ≡ true
  lives = ap (λ (m : Setup). m.lives k) (sym resting.setup) ∙ (sweeping.plain opening s b system x l (InTrim LockTrim) refl is).1

  checks : m.checks k ≡ false
  checks = ap (λ (m : Setup). m.checks k) (sym resting.setup) ∙ (sweeping.plain opening s b system x l (InTrim LockTrim) refl is).2

  pub consistent : IsConsistent s
  consistent = sweeping.consistent opening s b system x l (InTrim LockTrim) refl is

  j_small : j < 33
  j_small = omega (arith, inside)

  waits : IsBetween w.setup (at l Between)
  waits = sweeping.waits_between opening s b system x l (InTrim LockTrim) refl is

  abbrev a : ℕ
  a = l.worker + 1

  abbrev words1 : List ℕ
  words1 = set system.words j a

  -- where it stands
  abbrev stood : Local
  stood = scanning m system.locals x l is.there l.slab_word l.count l.scanned (InTrim LockTrim)

  abbrev start : System
  start = machine system.words system.value (set system.locals x stood)

  start_is : start ≡ system
  start_is = ap (λ n. machine system.words system.value (set system.locals x n)) stood_is ∙ ap (machine system.words system.value) (sweeping.locals_are opening s b system x l (InTrim LockTrim) refl is)
    where
      stood_is : stood ≡ at l (InTrim LockTrim)
      stood_is = λ i. record l { run = sym waits.run i; spot = InTrim LockTrim }

  abbrev nodes : List ℕ
  nodes = node_of s k

  node_is : frames_in (system.value j) ≡ nodes
  node_is = ap frames_in (sym (ap (λ (value : ℕ → LockValue). value j) (value_is m system.value system.words)) ∙ resting.values j j_small) ∙ sym (resting.nodes k)

  lock_hit : eqb (get_or system.words j 0) 0 ≡ true
  lock_hit = eq-eqb (get_or system.words j 0) 0 (sym (lock-read m system.value system.words j j_small) ∙ resting.locks j j_small)

  under : RestsUnder m b ls j s words1 system.value
  under = under_locked m b ls j a s system.words system.value j_small refl (sweeping.lengths opening s b system x l (InTrim LockTrim) refl is) (sweeping.table opening s b system x l (InTrim LockTrim) refl is) is.rest.whole resting

  -- the scan, from the first slab on
  abbrev pub Scan : Type 0
  Scan = ScanEnds m b system.locals ls x l is.there s (swept s k) words1 system.value l.slab_word l.count [] nodes

  pub scan : Scan
  scan = scan_all m b system.locals ls x l is.there inside lives checks nodes [] s words1 system.value under refl (node_scanned s k consistent) (λ g on. refl) l.slab_word l.count [] waits.packed.slab_word refl (λ g on. absurd (let none : times g [] ≡ 0 = refl in omega (arith, on, none)))

  abbrev pub u : State
  u = swept s k

  -- ---- the list is put in order

  abbrev pub frames : List ℕ
  frames = m.means.promote (node_of u k) (node_counts u k)

  counts_long : length (node_counts u k) ≡ length (node_of u k)
  counts_long = length-map (node_of u k) (λ f. length (own_free u f))

  pub promoted : IsPromoted (node_of u k) (node_counts u k) frames
  promoted = m.means.promotes (node_of u k) (node_counts u k) counts_long

  abbrev pub after : State
  after = with_node u k frames

  same_slabs : (g : ℕ) → times g frames ≡ times g (node_of u k)
  same_slabs g = sym (times-IsPermutation g (node_of u k) frames (keeps (node_of u k) (node_counts u k) frames counts_long promoted))

  node_left : frames_in (scan.kept j) ≡ node_of u k
  node_left = ap frames_in (sym (ap (λ (value : ℕ → LockValue). value j) (value_is m scan.kept scan.after)) ∙ scan.under.rests.values j j_small) ∙ sym (scan.under.rests.nodes k)

  pub in_nodes : k < length u.nodes
  in_nodes = let long = scan.under.lengths.nodes in omega (arith, long, inside)

  abbrev values : ℕ → LockValue
  values = guards m system.locals x l is.there scan.kept scan.counts []

  rests_after : Rests after b (world_of m values (set scan.after j 0)) ls
  rests_after = subst (λ (w : World). Rests after b w ls) (sym says)
      (rests_ordered u b (given_back m j scan.after scan.kept) ls k frames scan.under.rests in_nodes inside (ap (λ (m : Setup). m.lives k) scan.under.same ∙ lives) (none_of (checked_of u k) (ap (λ (m : Setup). m.checks k) scan.under.same ∙ checks)) same_slabs)
    where
      by : (ℕ → LockValue) → World
      by values = record (given_back m j scan.after scan.kept) { value = values }

      says : world_of m values (set scan.after j 0) ≡ set_value (given_back m j scan.after scan.kept) (node_lock k) (Node frames)
      says = given_says m j scan.after values j_small scan.under.table ∙ ap (λ (u : World). set_lock u j 0) (world_of-value m scan.kept values scan.after)
          ∙ (λ i. by (update (sym (value_is m scan.kept scan.after) i) j (Node (m.means.promote (node_left i) (scan.counts_are i)))))

  -- ---- the reply

  abbrev pub told : Local
  told = answered (scanning m system.locals x l is.there scan.word scan.told scan.counts Between) (Trimmed scan.told)

  abbrev end : System
  end = machine (set scan.after j 0) values (set system.locals x (rested m told))

  ran : alone m x (suc (suc scan.turns)) system ≡ end
  ran = ap (alone m x (suc (suc scan.turns))) (sym start_is)
      ∙ then_turn m x (suc scan.turns) start (machine words1 (guards m system.locals x l is.there system.value [] nodes) (set system.locals x (scans m system.locals x l is.there l.slab_word l.count [] nodes))) end
      (turn_locks m system.locals x l is.there system.words system.value l.slab_word l.count l.scanned nodes lock_hit (ap (length {A = ℕ}) node_is))
      (then_turns m x scan.turns 1 (suc scan.turns) (machine words1 (guards m system.locals x l is.there system.value [] nodes) (set system.locals x (scans m system.locals x l is.there l.slab_word l.count [] nodes)))
      (machine scan.after values (set system.locals x (scans m system.locals x l is.there scan.word scan.told scan.counts []))) end (omega arith) scan.ran
      (then_turn m x 0 (machine scan.after values (set system.locals x (scans m system.locals x l is.there scan.word scan.told scan.counts []))) end end (turn_ends m system.locals x l is.there scan.after values scan.word scan.told scan.counts) refl))

  accounted : IsAccounted after
  accounted c = (λ i. get_or (scan.keeps.held.live i) c 0) ∙ is.rest.lists.accounted c ∙ (λ i. sum_by (held_of c) (sym scan.keeps.held.board i))

  long : HasLengths after
  long = record {
    slabs = scan.under.lengths.slabs;
    frees = scan.under.lengths.frees;
    cpu_lists = scan.under.lengths.cpu_lists;
    nodes = length-set u.nodes k frames ∙ scan.under.lengths.nodes;
    checked = scan.under.lengths.checked;
    memory = scan.under.lengths.memory;
    gone = scan.under.lengths.gone;
    live = scan.under.lengths.live;
  }

  pub scan_ends : EndsAs opening s b system x after b told
  scan_ends = sweeping.ends_as opening s b system x l (InTrim LockTrim) refl is after b (suc scan.turns) (set scan.after j 0) values told ran scan.under.same scan.keeps.held.table scan.keeps.checked long accounted is.rest.beside.tids refl scan.keeps.held.frames
      rests_after (setup_is m values (set scan.after j 0) ∙ sym (setup_is m system.value system.words)) (whole_lock m scan.after j 0 j_small scan.under.whole) refl refl (record {
        between = refl;
        hands = waits.hands;
        string = waits.string;
        run = refl;
        packed = record { cpu_word = waits.packed.cpu_word; slab_word = scan.fit; list_word = waits.packed.list_word; next = waits.packed.next };
        cpu = waits.cpu;
        numbers = waits.numbers;
        some = waits.some;
      })
