-- Machines of a table of words, lock values and workers.
use Rattle.std.proofs.Common.{true, false, ◌≡◌, ℕ, zero, suc, ◌+◌, ◌/◌, ◌%◌, ◌^◌, ◌<◌, ◌≤◌, eqb, List, [], ◌∷◌, length, get_or, map, Option, Some, None, IsSome, inl, inr, refl, ap, sym, ◌∙◌, subst, arith}
use Rattle.std.specs.Prelude.{slice_index, sum_by, MatchOption, All, IfSome, is_some, option_map}
use Rattle.std.proofs.lemmas.Bool.{false≢true, cases_lt, cond-true, eq-eqb}
use Rattle.std.proofs.lemmas.List.{get_or_past, length-map}
use Rattle.std.proofs.lemmas.List.Elements.{All-nil, All-cons, All-weaker}
use Rattle.slub_cache_create.specs.declared.caches.Cache.{Cache}
use Rattle.slub_red_zone.specs.State.{CheckedState}
use Rattle.slub_lists.specs.declared.lists.CpuLists.{CpuLists}
use Rattle.slub_lists.specs.declared.lists.Held.{Held}
use Rattle.slub_lists.specs.State.{State}
use Rattle.slub_lists.specs.Alloc.{cache_of, checked_of}
use Rattle.slub_lists.specs.Coherent.{IsCacheOf, IsCheckedOf, IsCoherent, IsConsistent, all_on_board, laid_down}
use Rattle.slub_lists.proofs.Coherence.{all_on_board-consistent}
use Rattle.slub_lists.proofs.Kept.{consistent-of}
use Rattle.slub_core.specs.Setup.{Setup}
use Rattle.slub_core.specs.Local.{Local, Worker}
use Rattle.slub_core.specs.Run.{System, Pick, turn, run}
use Rattle.slub_core.specs.declared.local.Known.{Known}
use Rattle.slub_core.specs.Replies.{asked_in}
use Rattle.slub_core.specs.Accounted.{boarded}
use Rattle.slub_core.specs.Opening.{IsRoom, IsNew, IsOpening, opened as begun}
use Rattle.slub_core.specs.World.{World, world_of, pool_of}
use Rattle.slub_core.specs.Coherent.{Stands}
use Rattle.slub_core.specs.Law.{IsCoherentSystem, CoherentAlong}
use Rattle.slub_core.proofs.Opens.{rounds_keep}
use Rattle.slub_law_opening.specs.Opening.{Beside, IsBeside, IsLaidDown, setup_of, value_of, opened_words, tid_of, link_of, cpu_at}
use Rattle.slub_law_opening.specs.Rests.{IsBetween, Rests}
use Rattle.slub_law_opening.specs.Table.{RestsIn, system_of, words_of}
use Rattle.slub_law_opening.specs.Closing.{Closes}
use Rattle.slub_law_opening.specs.Laws.{MayOpen, MayBegin, OpenedMachinesRest, OpenedMachinesClose, CoherentListsStand, ClosedMachinesAreCoherent, RoundsKeepLists}
use Rattle.slub_law_opening.proofs.Counts.{locals_of}
use Rattle.slub_law_opening.proofs.Cpus.{cpu-past, has-cpus}
use Rattle.slub_law_opening.proofs.Opened.{opened-rests}
use Rattle.slub_law_opening.proofs.Rooms.{has-room}
use Rattle.slub_law_opening.proofs.Shaped.{Keeps, closed-coherent}
use Rattle.slub_law_opening.proofs.Standing.{stands}
use Rattle.slub_law_opening.proofs.Tables.{HasRoom, table-length, table-says}
use Rattle.slub_law_opening.proofs.Workers.{IsBare, HoldsNothing}

-- a worker as the laws see it, with no chain and no string in hand
bare_worker : Local → Worker
bare_worker l = record { local = l; chains = []; string = [] }

bare-locals : (ls : List Local) → locals_of (map bare_worker ls) ≡ ls
unfolding bare_worker
bare-locals [] = refl
bare-locals (l ∷ ls) = ap (λ ls. l ∷ ls) (bare-locals ls)

are-bare : (ls : List Local) → All IsBare (map bare_worker ls)
unfolding bare_worker
are-bare [] = All-nil IsBare
are-bare (l ∷ ls) = All-cons IsBare (bare_worker l) (map bare_worker ls) (record { chains = refl; string = refl }) (are-bare ls)

pub lists-stand : CoherentListsStand
lists-stand s b system coherent beside rests =
    let w = world_of (setup_of s b) system.value system.words in
    let xs = map bare_worker system.locals in
    let same = bare-locals system.locals in
    record {
      workers = xs;
      locals = same;
      stands = stands s b w xs beside coherent (subst (λ ls. Rests s b w ls) (sym same) rests.rests) (are-bare system.locals);
    }

-- ---- opening

-- a worker before its first call is between two
new-between : (m : Setup) (l : Local) → IsNew m l → IsBetween m l
new-between m l new = record {
  between = new.between;
  hands = new.hands;
  string = new.string;
  run = new.run;
  packed = new.packed;
  cpu = new.cpu;
  numbers = All-weaker (IsRoom m) (λ (k : Known). k.object < m.objects) (λ k is. is.0) l.known new.known;
  some = All-weaker (IsRoom m) (λ (k : Known). k.held ≡ true → 1 ≤ k.object) (λ k is held. absurd (false≢true (sym is.2 ∙ held))) l.known new.known;
}

new-nothing : (m : Setup) (l : Local) → IsNew m l → HoldsNothing l
new-nothing m l new = All-weaker (IsRoom m) (λ (k : Known). k.held ≡ false) (λ k is. is.2) l.known new.known

module _ (s : State) (b : Beside) (ls : List Local) (may : MayOpen s b) (begin : MayBegin s b ls) where
  between : All (IsBetween (setup_of s b)) ls
  between = All-weaker (IsNew (setup_of s b)) (IsBetween (setup_of s b)) (new-between (setup_of s b)) ls begin.new

  nothing : All HoldsNothing ls
  nothing = All-weaker (IsNew (setup_of s b)) HoldsNothing (new-nothing (setup_of s b)) ls begin.new

  table-room : HasRoom (opened_words s b)
  table-room = has-room s b ls may.beside may.coherent may.laid_down between nothing

  says : world_of (setup_of s b) (value_of s) (words_of (opened_words s b)) ≡ opened_words s b
  says = table-says (opened_words s b) table-room

  pub rests-in : RestsIn s b (system_of s b ls)
  rests-in = record {
    count = table-length (opened_words s b) table-room;
    rests = subst (λ w. Rests s b w ls) (sym says) (opened-rests s b ls may.beside may.coherent may.laid_down between nothing);
  }

  at-rest : Stands (opened_words s b) []
  at-rest =
      let none = All-nil (IsBetween (setup_of s b)) in
      stands s b (opened_words s b) [] may.beside may.coherent (opened-rests s b [] may.beside may.coherent may.laid_down none (All-nil HoldsNothing)) (All-nil IsBare)

  pub is-opening : IsOpening (setup_of s b) (system_of s b ls)
  is-opening = record {
    words = table-length (opened_words s b) table-room;
    rest = subst (λ w. Stands w []) (sym says) at-rest;
    objects = may.beside.objects.0;
    new = begin.new;
    once = λ o. subst (λ w. boarded (w.board o) + sum_by (λ (l : Local). asked_in o l.todo) ls ≤ 1) (sym says) (begin.once o);
    few = begin.few;
    dry = λ order. subst (λ w. slice_index (pool_of w).dry order ≤ 2 ^ 62) (sym says) (begin.dry order);
  }

pub opened-rest : OpenedMachinesRest
opened-rest s b ls may begin = (rests-in s b ls may begin, is-opening s b ls may begin)

-- ---- closing

pub opened-close : OpenedMachinesClose
opened-close s b ls may begin = record {
  stays = refl;
  table = refl;
  lengths = record {
    slabs = may.coherent.shaped.slabs;
    frees = may.coherent.shaped.frees;
    cpu_lists = may.coherent.shaped.cpu_lists;
    nodes = may.coherent.shaped.nodes;
    checked = may.coherent.shaped.checked.numbers;
    memory = may.coherent.shaped.memory;
    gone = may.coherent.shaped.gone;
    live = may.coherent.shaped.live;
  };
  rests = rests-in s b ls may begin;
  tids = may.beside.tids;
  links = may.beside.links;
  link = may.beside.link;
  live = may.coherent.accounted;
  flags = λ k. flags k (checked_of s k) (may.coherent.shaped.checked.those k);
}
  where
    by : (c : CheckedState) (o : Option Cache) → MatchOption o ⊥ (λ live. IsCacheOf c live.layout live.flags) → IfSome o (λ live. live.flags ≡ c.flags)
    by c None is = tt
    by c (Some live) is = is.1

    flags : (k : ℕ) (o : Option CheckedState) → IfSome o (IsCheckedOf s k) → IfSome o (λ slabs. IfSome (cache_of s k) (λ live. live.flags ≡ slabs.flags))
    flags k None is = tt
    flags k (Some c) is = by c (cache_of s k) is.live

-- with all objects on the board the lists are as coherent
laid-coherent : (t : State) → IsCoherent t → IsCoherent (all_on_board t)
laid-coherent t coherent =
    let c = all_on_board-consistent t (consistent-of t coherent) in
    record { shaped = c.shaped; placed = c.placed; framed = c.framed; listed = c.listed; accounted = c.accounted; kept = coherent.kept }

laid-down : (t : State) → IsLaidDown (all_on_board t)
laid-down t o = go t.board o
  where
    go : (hs : List (Option Held)) (o : ℕ) → IfSome (get_or (map (option_map (λ (h : Held). record h { worker = None })) hs) o None) (λ held. held.worker ≡ None)
    go [] o = tt
    go (None ∷ hs) zero = tt
    go (Some h ∷ hs) zero = refl
    go (h ∷ hs) (suc o) = go hs o

module _ (s t : State) (b d : Beside) (w : World) (ls : List Local) (beside : IsBeside s b) (consistent : IsConsistent t) (stays : setup_of t d ≡ setup_of s b) (rests : Rests t d w ls)
    (tids : length d.tids ≡ 512) (links : length d.links ≡ t.frames) (link : (f : ℕ) → link_of d f < 2 ^ 16) where
  cpu_words : w.setup.cpu_words ≡ 512
  cpu_words = ap (λ (m : Setup). m.cpu_words) rests.setup

  step : w.setup.step ≡ d.step
  step = ap (λ (m : Setup). m.step) rests.setup

  small : (n : ℕ) → tid_of d n < 2 ^ 32
  small n = elim (cases_lt n 512) [
    | inl l ↦ subst (λ x. x < 2 ^ 32) (rests.cpu n l).tid (rests.words.cpu n).0
    | inr g ↦ subst (λ x. x < 2 ^ 32) (sym (get_or_past d.tids n 0 (omega (arith, g, tids)))) (omega arith)
  ]

  room : (n : ℕ) → IsSome (cpu_at t n).current → tid_of d n + d.step < 2 ^ 32
  room n some = elim (cases_lt n 512) [
    | inr g ↦ absurd (let none = ap (λ (l : CpuLists). is_some l.current) (cpu-past t n (has-cpus t consistent) g) in false≢true (sym none ∙ some))
    | inl l ↦ (
        let c = rests.cpu n l in
        let r = rests.words.room n (omega (arith, l, cpu_words)) (λ z. cc (some, ap is_some (c.current ∙ cond-true {A = Option ℕ} (eqb (w.cpu n).frame 0) None (Some (w.cpu n).frame) (eq-eqb (w.cpu n).frame 0 z)))) in
        omega (arith, r, c.tid, step))
  ]

  remainder : (n : ℕ) → n < 512 → n % 16 < t.cpus → IsSome (cache_of t (n / 16)) → tid_of d n % d.step ≡ n % 16
  remainder n below inside live =
      let c = rests.cpu n below in
      let r = rests.words.remainder n (omega (arith, below, cpu_words)) (omega (arith, inside, ap (λ (m : Setup). m.cpus) rests.setup)) (ap (λ (m : Setup). m.lives (n / 16)) rests.setup ∙ live) in
      ap (λ z. z % d.step) (sym c.tid) ∙ ap (λ z. (w.cpu n).tid % z) (sym step) ∙ r

  pub closed-beside : IsBeside t d
  closed-beside = record {
    step = subst (λ (m : Setup). (m.cpus ≤ m.step) × (m.step ≤ 16)) (sym stays) beside.step;
    objects = subst (λ (m : Setup). (1 ≤ m.objects) × (m.objects ≤ 1048577)) (sym stays) beside.objects;
    tids = tids;
    links = links;
    tid = small;
    room = room;
    remainder = remainder;
    link = link;
  }

module _ (s t : State) (b d : Beside) (opening : World) (system : System) (may : MayOpen s b) (standing : IsCoherentSystem (setup_of s b) opening system) (closes : Closes s b system t d) where
  there : Stands (world_of (setup_of t d) system.value system.words) standing.workers
  there = subst (λ m. Stands (world_of m system.value system.words) standing.workers) (sym closes.stays) (record { chains = standing.chains; placed = standing.coherent.placed; listed = standing.coherent.listed; fresh = standing.coherent.fresh })

  resting : Rests t d (world_of (setup_of t d) system.value system.words) (locals_of standing.workers)
  resting = subst (λ ls. Rests t d (world_of (setup_of t d) system.value system.words) ls) (sym standing.locals) closes.rests.rests

  keeps : Keeps s t
  keeps = record {
    lengths = closes.lengths;
    table = closes.table;
    checks = λ k. ap (λ (m : Setup). m.checks k) closes.stays;
    live = closes.live;
    flags = closes.flags;
  }

  coherent : IsCoherent t
  coherent = closed-coherent s t d (world_of (setup_of t d) system.value system.words) standing.workers may.coherent keeps there resting

  objects : length t.board ≡ length s.board
  objects = ap (λ (m : Setup). m.objects) closes.stays

  beside : IsBeside t d
  beside = closed-beside s t b d (world_of (setup_of t d) system.value system.words) (locals_of standing.workers) may.beside (consistent-of t coherent) closes.stays resting closes.tids closes.links closes.link

  pub closed : IsCoherent t × MayOpen (all_on_board t) d
  closed = (
    coherent,
    record {
      coherent = laid-coherent t coherent;
      laid_down = laid-down t;
      beside = record {
        step = beside.step;
        objects = subst (λ n. (1 ≤ n) × (n ≤ 1048577)) (sym (length-map t.board (option_map laid_down))) beside.objects;
        tids = beside.tids;
        links = beside.links;
        tid = beside.tid;
        room = beside.room;
        remainder = beside.remainder;
        link = beside.link;
      };
    },
  )

pub closed-are_coherent : ClosedMachinesAreCoherent
closed-are_coherent s t b d opening system may standing closes = closed s t b d opening system may standing closes

-- ---- whole rounds

after-run : (m : Setup) (opening : World) (system : System) (picks : List Pick) → CoherentAlong m opening system picks → IsCoherentSystem m opening (run m system picks)
after-run m opening system [] along = along
after-run m opening system (pick ∷ picks) along = after-run m opening (turn m system pick) picks along.1

pub rounds-keep : RoundsKeepLists
rounds-keep s t b d ls picks may begin closes =
    let m = setup_of s b in
    let system = system_of s b ls in
    let first = world_of (setup_of s b) (value_of s) (words_of (opened_words s b)) in
    let along = rounds_keep m system picks (is-opening s b ls may begin) in
    closed s t b d first (run m (begun m system) picks) may (after-run m first (begun m system) picks along) closes
