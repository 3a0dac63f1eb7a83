-- A worker that empties CPUs, where it is about to take a CPU's partial list: it may as well stand between two calls.
use Rattle.std.proofs.Common.{◌≡◌, ℕ, suc, ◌<◌, true, false, List, [], ◌∷◌, length, get_or, set, None, refl, sym, ap, ◌∙◌, subst, arith}
use Rattle.std.proofs.lemmas.Bool.{false≢true}
use Rattle.std.proofs.lemmas.List.{get_or-set_same, set-get_or, set-set, length-set}
use Rattle.std.proofs.lemmas.List.Elements.{All-get_or}
use Rattle.slub_words.specs.declared.cpu.CpuWord.{CpuWord}
use Rattle.slub_words.specs.declared.slab.SlabWord.{SlabWord}
use Rattle.slub_lists.specs.State.{State}
use Rattle.slub_lists.specs.Coherent.{IsConsistent, IsAccounted as IsAccounted_lists}
use Rattle.slub_lists.proofs.Kept.{consistent-of}
use Rattle.slub_core.specs.declared.call.Call.{Call}
use Rattle.slub_core.specs.declared.spot.Spot.{Spot}
use Rattle.slub_core.specs.declared.spot.Spot.TheVariants.{Between, InOffline, InTrim}
use Rattle.slub_core.specs.declared.spot.Sweep.{Sweep}
use Rattle.slub_core.specs.declared.spot.Sweep.TheVariants.{Trimming, Flushing}
use Rattle.slub_core.specs.declared.spot.OfflineSpot.TheVariants.{LoadCurrent, TakeCurrent}
use Rattle.slub_core.specs.declared.spot.TrimSpot.TheVariants.{LockTrim}
use Rattle.slub_core.specs.Calls.{call_kind, call_place}
use Rattle.slub_core.specs.Setup.{Setup, IsPlain}
use Rattle.slub_core.specs.World.{World, LockValue, world_of}
use Rattle.slub_core.specs.Local.{Local, Worker, at, nobody}
use Rattle.slub_core.specs.Steps.{rested, told_at_once}
use Rattle.slub_core.specs.Spots.{frees, in_plain, is_freeing}
use Rattle.slub_core.specs.Fresh.{IsAtWork, IsAtSpot}
use Rattle.slub_core.specs.Coherent.{Stands}
use Rattle.slub_core.specs.Accounted.{IsAccounted}
use Rattle.slub_core.specs.Law.{IsCoherentSystem, IsRested, TakesStep}
use Rattle.slub_core.specs.Run.{System, idle}
use Rattle.slub_core.proofs.Accounts.{Comes}
use Rattle.slub_core.proofs.Leads.{at_work}
use Rattle.slub_core.proofs.LocalStep.{Settled, local_step}
use Rattle.slub_core.proofs.Packed.{IsCpuFit, IsSlabFit}
use Rattle.slub_core.proofs.TaleQuiet.{told_like}
use Rattle.slub_core.proofs.TaleSpots.{unseen-same}
use Rattle.slub_core.proofs.StepWords.{IsTable}
use Rattle.slub_law_opening.specs.Opening.{Beside, setup_of}
use Rattle.slub_law_opening.specs.Rests.{IsBetween, Rests}
use Rattle.slub_law_opening.specs.Closing.{HasLengths}
use Rattle.slub_law_alone.specs.Alone.{AreWhole, alone, worker_at, IsAtRest}
use Rattle.slub_law_alone.specs.Spent.{recalled}
use Rattle.slub_law_alone.specs.Away.{RestsBut, ComesTo, EndsAs}
use Rattle.slub_law_alone.proofs.Ended.{alone_keeps, ends_at_rest}
use Rattle.slub_law_alone.proofs.Recalled.{elsewhere, waiting}
use Rattle.slub_law_alone.proofs.Resting.{rests_with}
use Rattle.slub_law_alone.proofs.Turns.{machine}
use Rattle.slub_law_alone.proofs.Workers.{AtFront, at_front, IsWithCalls, rested_calls}

-- ---- between two calls

-- where a worker that sweeps has no lock and nothing in hand
pub data QuietSpot : Type 0 where
  Loads : (sweep : Sweep) → QuietSpot
  Takes : (sweep : Sweep) → QuietSpot
  Locks : QuietSpot

abbrev pub spot_of : QuietSpot → Spot
spot_of (Loads sweep) = InOffline LoadCurrent sweep
spot_of (Takes sweep) = InOffline TakeCurrent sweep
spot_of Locks = InTrim LockTrim

quiet_work : (w : World) (x : Worker) (q : QuietSpot) → x.local.spot ≡ spot_of q → IsAtWork w x → IsAtWork w (record x { local = waiting x.local })
quiet_work w x (Loads Trimming) is ok = grind arith
quiet_work w x (Loads Flushing) is ok = grind arith
quiet_work w x (Takes Trimming) is ok = grind arith
quiet_work w x (Takes Flushing) is ok = grind arith
quiet_work w x Locks is ok = grind arith

quiet_settled : (x : Worker) (q : QuietSpot) → x.local.spot ≡ spot_of q → Settled x (record x { local = waiting x.local })
quiet_settled x (Loads sweep) is = record { home = λ f. refl; marked = λ f. rw is refl; covered = λ g. refl; takes = λ n. rw is refl }
quiet_settled x (Takes sweep) is = record { home = λ f. refl; marked = λ f. rw is refl; covered = λ g. refl; takes = λ n. rw is refl }
quiet_settled x Locks is = record { home = λ f. refl; marked = λ f. rw is refl; covered = λ g. refl; takes = λ n. rw is refl }

quiet_frees : (z : Worker) (q : QuietSpot) → z.local.spot ≡ spot_of q → (is_freeing z.local.spot ≡ false) × (frees z.local.spot ≡ false)
quiet_frees z (Loads sweep) is = (ap is_freeing is, ap frees is)
quiet_frees z (Takes sweep) is = (ap is_freeing is, ap frees is)
quiet_frees z Locks is = (ap is_freeing is, ap frees is)

quiet_comes : (opening w : World) (z : Worker) (others : List Worker) (q : QuietSpot) → z.local.spot ≡ spot_of q → Stands w (z ∷ others) → IsAccounted opening w (z ∷ others) → Comes opening w others (waiting z.local)
quiet_comes opening w z others q is s ac = (
  (
    record z { local = waiting z.local },
    refl,
    local_step w z _ others s (λ f i. refl) (quiet_settled z q is) (quiet_work w z q is (at_work w z others s)),
  ),
  (
    record z { local = waiting z.local },
    refl,
    told_like opening w w z (record z { local = waiting z.local }) others ac (unseen-same w) (record {
      known = refl;
      done = refl;
      todo = refl;
      freeing = λ f. absurd (false≢true (sym (quiet_frees z q is).0 ∙ f));
      frees = λ f. absurd (false≢true (sym (quiet_frees z q is).1 ∙ f));
      source = λ f. absurd (false≢true f);
      call = λ kind e. absurd (let z = e in cc);
    }),
  ),
)

pub quiet_coherent : (m : Setup) (opening : World) (words : List ℕ) (value : ℕ → LockValue) (ls : List Local) (x : ℕ) (l : Local) (q : QuietSpot) → x < length ls → l.spot ≡ spot_of q → IsRested m (waiting l) → IsCoherentSystem m opening (machine words value (set ls x l))
    → IsCoherentSystem m opening (machine words value (set ls x (waiting l)))
quiet_coherent m opening words value ls x l q below is rested coherent =
    let w = world_of m value words in
    subst (λ ls. IsCoherentSystem m opening (machine words value ls)) (set-set ls x l (waiting l))
    (elsewhere m opening (machine words value (set ls x l)) x (waiting l) (let e = length-set ls x l in omega (arith, e, below)) rested
    (λ z others mine stands ac. let own = mine ∙ get_or-set_same ls x l idle below in subst (λ l. Comes opening w others (waiting l)) own (quiet_comes opening w z others q (ap (λ (l : Local). l.spot) own ∙ is) stands ac)) coherent)

-- a worker that knows the same has a next call that takes a step
pub takes_alike : (m : Setup) (l n : Local) (calls : List Call) → n.known ≡ l.known → TakesStep m l calls → TakesStep m n calls
takes_alike m l n [] known is = is
takes_alike m l n (call ∷ calls) known is = subst (λ ks. told_at_once m (get_or ks (call_place call) nobody) call (call_kind call) ≡ None) (sym known) is

-- ---- where it begins

-- what is known of a worker that sweeps, where the machine otherwise rests
module _ (opening : World) (s : State) (b : Beside) (system : System) (x : ℕ) (l : Local) (here : Spot) (of_plain : in_plain here ≡ true) (is : RestsBut opening s b system x (at l here)) where
  abbrev pub m : Setup
  m = setup_of s b

  abbrev pub w : World
  w = world_of m system.value system.words

  abbrev pub ls : List Local
  ls = (recalled x system).locals

  pub rests : Rests s b w ls
  rests = is.rest.rests.rests

  pub front : AtFront m opening system x
  front = at_front m opening system x is.there is.coherent

  pub at_spot : IsAtSpot w.setup front.worker
  at_spot = (at_work w front.worker front.others front.stands).spot

  pub stands : front.worker.local ≡ at l here
  stands = front.local ∙ is.here

  pub plain : IsPlain w.setup l.cache
  plain = subst (λ (n : Local). IsPlain w.setup n.cache) stands (at_spot.plain (ap (λ (n : Local). in_plain n.spot) stands ∙ of_plain))

  pub cpu : l.cpu < w.setup.cpus
  cpu = subst (λ (n : Local). n.cpu < w.setup.cpus) stands at_spot.cpu

  pub consistent : IsConsistent s
  consistent = consistent-of s is.rest.lists

  pub table : IsTable m system.words
  table = record { length = is.rest.rests.count; locks = refl; cpu_words = refl; frames = (let f = is.rest.lists.shaped.frames in omega (arith, f)); objects = is.rest.beside.objects.0 }

  pub lengths : HasLengths s
  lengths = record {
    slabs = is.rest.lists.shaped.slabs;
    frees = is.rest.lists.shaped.frees;
    cpu_lists = is.rest.lists.shaped.cpu_lists;
    nodes = is.rest.lists.shaped.nodes;
    checked = is.rest.lists.shaped.checked.numbers;
    memory = is.rest.lists.shaped.memory;
    gone = is.rest.lists.shaped.gone;
    live = is.rest.lists.shaped.live;
  }

  -- the worker between two calls
  abbrev pub waits : Local
  waits = at l Between

  pub ls_is : ls ≡ set system.locals x waits
  ls_is = ap (λ n. set system.locals x (at n Between)) is.here

  pub there_too : x < length ls
  there_too = let e = length-set system.locals x (record (worker_at system x) { spot = Between }) in omega (arith, e, is.there)

  pub waits_at : get_or ls x idle ≡ waits
  waits_at = ap (λ ls. get_or ls x idle) ls_is ∙ get_or-set_same system.locals x waits idle is.there

  pub waits_between : IsBetween w.setup waits
  waits_between = subst (IsBetween w.setup) waits_at (All-get_or (IsBetween w.setup) ls x idle there_too rests.workers)

  pub waits_rested : IsRested m waits
  waits_rested = subst (IsRested m) waits_at (All-get_or (IsRested m) ls x idle there_too is.rest.coherent.rested)

  pub locals_are : set system.locals x (at l here) ≡ system.locals
  locals_are = ap (set system.locals x) (sym is.here) ∙ set-get_or system.locals x idle

  -- ---- where it ends

  module _ (t : State) (d : Beside) (turns : ℕ) (words : List ℕ) (value : ℕ → LockValue) (last : Local) (q : QuietSpot) where
    abbrev end : System
    end = machine words value (set system.locals x last)

    abbrev bare : System
    bare = machine words value (set system.locals x (waiting last))

    pub comes_at : alone m x (suc turns) system ≡ end → setup_of t d ≡ m → t.table ≡ s.table → t.checked ≡ s.checked → HasLengths t → IsAccounted_lists t → length d.tids ≡ 512 → d.links ≡ b.links → t.frames ≡ s.frames
        → Rests t d (world_of m value words) ls → (world_of m value words).setup ≡ w.setup → AreWhole m words → last.spot ≡ spot_of q → last.worker ≡ l.worker → last.known ≡ l.known → last.todo ≡ l.todo → IsBetween w.setup (waiting last) → ComesTo opening s b system x t d last
    comes_at ran setup names checked long accounted tids links frames rest same whole spot worker known todo between = record {
      turns = turns;
      setup = setup;
      rests = subst (λ (r : System). RestsBut opening t d r x last) (sym ran) (record {
        there = (let e = length-set system.locals x last in omega (arith, e, is.there));
        here = get_or-set_same system.locals x last idle is.there;
        rest = subst (IsAtRest opening t d) (sym recalled_is) (ends_at_rest opening (world_of m value words) s t b d (recalled x system) bare is.rest setup names checked long accounted tids links frames coherent refl rest_bare whole);
        coherent = subst (λ m. IsCoherentSystem m opening end) (sym setup) coherent_end;
      });
      others = ap (λ (r : System). r.locals) ran;
    }
      where
        recalled_is : recalled x end ≡ bare
        recalled_is = ap by (get_or-set_same system.locals x last idle is.there) ∙ ap (machine words value) (set-set system.locals x last (waiting last))
          where
            by : Local → System
            by n = machine words value (set (set system.locals x last) x (at n Between))

        coherent_end : IsCoherentSystem m opening end
        coherent_end = subst (IsCoherentSystem m opening) ran (alone_keeps m opening x (suc turns) system is.coherent)

        steps : IsRested m (waiting last)
        steps _ = takes_alike m waits (waiting last) last.todo known (subst (TakesStep m waits) (sym todo) (waits_rested refl))

        coherent : IsCoherentSystem m opening bare
        coherent = quiet_coherent m opening words value system.locals x last q is.there spot steps coherent_end

        rest_bare : Rests t d (world_of m value words) (set system.locals x (waiting last))
        rest_bare = subst (Rests t d (world_of m value words)) (ap (λ ls. set ls x (waiting last)) ls_is ∙ set-set system.locals x waits (waiting last))
            (rests_with t d (world_of m value words) ls x (waiting last) rest there_too (subst (λ m. IsBetween m (waiting last)) (sym same) between) (worker ∙ sym (ap (λ (n : Local). n.worker) waits_at)) (known ∙ sym (ap (λ (n : Local). n.known) waits_at)))

  -- or its call has its reply
  pub ends_as : (t : State) (d : Beside) (turns : ℕ) (words : List ℕ) (value : ℕ → LockValue) (told : Local) → alone m x (suc turns) system ≡ machine words value (set system.locals x (rested m told)) → setup_of t d ≡ m → t.table ≡ s.table → t.checked ≡ s.checked → HasLengths t → IsAccounted_lists t
      → length d.tids ≡ 512 → d.links ≡ b.links → t.frames ≡ s.frames → Rests t d (world_of m value words) ls → (world_of m value words).setup ≡ w.setup → AreWhole m words → told.worker ≡ l.worker → told.known ≡ l.known → IsBetween w.setup told → EndsAs opening s b system x t d told
  ends_as t d turns words value told ran setup names checked long accounted tids links frames rest same whole worker known between = record {
    turns = turns;
    setup = setup;
    rest = subst (IsAtRest opening t d) (sym ran)
        (ends_at_rest opening (world_of m value words) s t b d (recalled x system) (machine words value (set system.locals x (rested m told))) is.rest setup names checked long accounted tids links frames (subst (IsCoherentSystem m opening) ran (alone_keeps m opening x (suc turns) system is.coherent)) refl rest_end whole);
    here = ap (λ (r : System). worker_at r x) ran ∙ get_or-set_same system.locals x (rested m told) idle is.there;
    others = ap (λ (r : System). r.locals) ran;
  }
    where
      calls : IsWithCalls told (rested m told)
      calls = rested_calls m told between.between

      between_end : IsBetween w.setup (rested m told)
      between_end = subst (IsBetween w.setup) (sym calls.same) (record {
        between = between.between;
        hands = between.hands;
        string = between.string;
        run = between.run;
        packed = record { cpu_word = between.packed.cpu_word; slab_word = between.packed.slab_word; list_word = between.packed.list_word; next = between.packed.next };
        cpu = between.cpu;
        numbers = between.numbers;
        some = between.some;
      })

      rest_end : Rests t d (world_of m value words) (set system.locals x (rested m told))
      rest_end = subst (Rests t d (world_of m value words)) (ap (λ ls. set ls x (rested m told)) ls_is ∙ set-set system.locals x waits (rested m told))
          (rests_with t d (world_of m value words) ls x (rested m told) rest there_too (subst (λ setup. IsBetween setup (rested m told)) (sym same) between_end) (ap (λ (n : Local). n.worker) calls.same ∙ worker ∙ sym (ap (λ (n : Local). n.worker) waits_at)) (ap (λ (n : Local). n.known) calls.same ∙ known ∙ sym (ap (λ (n : Local). n.known) waits_at)))

  -- it has noted other words, and tells of another number
  abbrev pub notes : CpuWord → SlabWord → ℕ → Spot → Local
  notes c z n spot = record l { cpu_word = c; slab_word = z; count = n; spot = spot }

  -- it is as it was but for them
  pub notes_between : (c : CpuWord) (z : SlabWord) (n : ℕ) → IsCpuFit c → IsSlabFit z → IsBetween w.setup (notes c z n Between)
  notes_between c z n fit_c fit_z = record {
    between = refl;
    hands = waits_between.hands;
    string = waits_between.string;
    run = waits_between.run;
    packed = record { cpu_word = fit_c; slab_word = fit_z; list_word = waits_between.packed.list_word; next = waits_between.packed.next };
    cpu = waits_between.cpu;
    numbers = waits_between.numbers;
    some = waits_between.some;
  }

  pub comes_to : (sweep : Sweep) (t : State) (d : Beside) (turns : ℕ) (words : List ℕ) (value : ℕ → LockValue) (c : CpuWord) (z : SlabWord) (n : ℕ) → alone m x (suc turns) system ≡ machine words value (set system.locals x (notes c z n (InOffline TakeCurrent sweep))) → setup_of t d ≡ m → t.table ≡ s.table → t.checked ≡ s.checked
      → HasLengths t → IsAccounted_lists t → length d.tids ≡ 512 → d.links ≡ b.links → t.frames ≡ s.frames → Rests t d (world_of m value words) ls → (world_of m value words).setup ≡ w.setup → AreWhole m words → IsCpuFit c → IsSlabFit z → ComesTo opening s b system x t d (notes c z n (InOffline TakeCurrent sweep))
  comes_to sweep t d turns words value c z n ran setup names checked long accounted tids links frames rest same whole fit_c fit_z =
      comes_at t d turns words value (notes c z n (InOffline TakeCurrent sweep)) (Takes sweep) ran setup names checked long accounted tids links frames rest same whole refl refl refl refl (notes_between c z n fit_c fit_z)
