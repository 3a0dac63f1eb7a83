-- A trim by a worker alone is that of the lists: its CPUs are emptied, and its node list is scanned and put in order.
use Rattle.std.proofs.Common.{◌≡◌, ℕ, suc, ◌+◌, ◌-◌, ◌*◌, ◌/◌, ◌%◌, ◌<◌, ◌≤◌, ◌&&◌, cond, Bool, true, false, List, ◌∷◌, fold, get_or, set, Option, Some, None, inl, inr, refl, ap, sym, ◌∙◌, subst, arith}
use Rattle.std.specs.Prelude.{is_some, nat_lt, IfSome, MatchOption}
use Rattle.std.specs.List.{range_with_len}
use Rattle.std.specs.Option.{option_map_or}
use Rattle.std.proofs.lemmas.Bool.{cases_eq, cases_lt, cond-false, eq-eqb, le-ltb, ne_eqb}
use Rattle.std.proofs.lemmas.List.{set-set}
use Rattle.std.proofs.lemmas.List.Elements.{All-get_or}
use Rattle.slub_trace.specs.declared.reply.Reply.{Reply}
use Rattle.slub_trace.specs.declared.reply.Reply.TheVariants.{Checked, Trimmed}
use Rattle.slub_cache_create.specs.declared.caches.Cache.{Cache}
use Rattle.slub_red_zone.specs.State.{CheckedState}
use Rattle.slub_lists.specs.declared.lists.CpuLists.{CpuLists}
use Rattle.slub_lists.specs.State.{State}
use Rattle.slub_lists.specs.Alloc.{cache_of, checked_of, lists_of, named, no_lists, with_node}
use Rattle.slub_lists.specs.Coherent.{IsCoherent}
use Rattle.slub_lists.specs.Leaving.{LeavesSlabs}
use Rattle.slub_lists.specs.Shrink.{ShrinksByKind, ShrinksCache, ShrinksChecked, ShrinksUnchecked, Promotes, busy_of, flushed, flushed_below, has_slab, min_partial_of, slabs_of, swept}
use Rattle.slub_lists.specs.Shrinking.{IsSwept, KeepsChecked}
use Rattle.slub_lists.proofs.ComingFree.{shrinks-cache}
use Rattle.slub_lists.proofs.Emptied.{unchecked-emptied}
use Rattle.slub_lists.proofs.Flushing.{rest-both, rest-with_node}
use Rattle.slub_lists.proofs.Leaving.{leaves-both, leaves-same}
use Rattle.slub_lists.proofs.Sweeping.{promoted-swept}
use Rattle.slub_lists.proofs.Trimming.{trims-unchecked}
use Rattle.slub_core.specs.declared.call.Call.{Call}
use Rattle.slub_core.specs.declared.call.CallKind.{CallKind}
use Rattle.slub_core.specs.declared.call.CallKind.TheVariants.{Trim}
use Rattle.slub_core.specs.declared.spot.Spot.TheVariants.{Between, InOffline, InTrim}
use Rattle.slub_core.specs.declared.spot.Sweep.TheVariants.{Trimming}
use Rattle.slub_core.specs.declared.spot.OfflineSpot.TheVariants.{LoadCurrent}
use Rattle.slub_core.specs.declared.spot.TrimSpot.TheVariants.{LockTrim}
use Rattle.slub_core.specs.Calls.{call_kind, call_cpu, call_cache, call_place}
use Rattle.slub_core.specs.Setup.{Setup, cpu_number}
use Rattle.slub_core.specs.World.{World}
use Rattle.slub_core.specs.Local.{Local, at, no_call, nobody}
use Rattle.slub_core.specs.Law.{IsRested, TakesStep}
use Rattle.slub_core.specs.Run.{System, idle}
use Rattle.slub_core.specs.Steps.{begun, begun_at, begun_with, cache_for, first_cpu, first_spot, rested, told_at_once, told_of_trim}
use Rattle.slub_law_opening.specs.Opening.{Beside, cpu_at, setup_of, tid_of}
use Rattle.slub_law_alone.specs.Alone.{alone, worker_at, IsAtRest, IsNext}
use Rattle.slub_law_alone.specs.Away.{EndsAs, RestsBut, TrimsAlone, TrimsAreThoseOfLists}
use Rattle.slub_calls.specs.Changes.{has_slab_of}
use Rattle.slub_law_alone.proofs.MoveLoop.{none_of}
use Rattle.slub_law_alone.proofs.ScanAlone as scanned
use Rattle.slub_law_alone.proofs.Start.{IsStart, starts}
use Rattle.slub_law_alone.proofs.SweepBegins.{began, rests_began, same_turns, stood, then_ends}
use Rattle.slub_law_alone.proofs.TrimCpus.{CpusEnd, cpus_emptied}
use Rattle.slub_law_alone.proofs.Workers.{rested_calls}
use Rattle.slub_calls.proofs.ChangeNumbers.{cpu_here}

begin_trim : (m : Setup) (l : Local) (call : Call) (calls : List Call) (k : ℕ) → l.spot ≡ Between → l.todo ≡ call ∷ calls → call_kind call ≡ Trim → call_cache call ≡ Some k
    → begun m false l ≡ record l { spot = InOffline LoadCurrent Trimming; cache = k; cpu = 0; place = call_place call; fast = false; turn = 0; count = 0 }
begin_trim m l call calls k between todo kind asks =
    ap (begun_at m false l) between ∙ ap (begun_with m false l) todo ∙ ap (λ kind. by kind (call_cache call)) kind ∙ ap (by Trim) asks
  where
    by : CallKind → Option ℕ → Local
    by kind named =
        let known = get_or l.known (call_place call) nobody in
        let cache = cache_for m known named kind in
        record l { spot = first_spot kind (m.checks cache) known.held; cache = cache; cpu = first_cpu kind (call_cpu call); place = call_place call; fast = false; turn = 0; count = 0 }

-- a live cache without checks is shrunk
shrinks_by : (s : State) (k : ℕ) (after : State) → is_some (cache_of s k) ≡ true → checked_of s k ≡ None → ShrinksUnchecked s (min_partial_of s k) k after → ShrinksByKind s k after
shrinks_by s k after lives plain shrinks = by (cache_of s k) lives shrinks
  where
    by : (o : Option Cache) → is_some o ≡ true → ShrinksUnchecked s (option_map_or (λ (live : Cache). live.layout.min_partial) o 0) k after
        → MatchOption o ⊥ (λ live. MatchOption (checked_of s k) (ShrinksUnchecked s live.layout.min_partial k after) (λ slabs. ShrinksChecked s k slabs after))
    by None some shrinks = absurd (let e = some in cc e)
    by (Some live) some shrinks = subst (λ (c : Option CheckedState). MatchOption c (ShrinksUnchecked s live.layout.min_partial k after) (λ slabs. ShrinksChecked s k slabs after)) (sym plain) shrinks

module _ (opening : World) (s : State) (b : Beside) (system : System) (x : ℕ) (call : Call) (place k : ℕ) (rest : IsAtRest opening s b system) (next : IsNext system x call) (kind : call_kind call ≡ Trim) (names : named s place ≡ Some k) (asks : call_cache call ≡ Some k) where
  abbrev m : Setup
  m = setup_of s b

  abbrev l : Local
  l = worker_at system x

  begin : IsStart opening s b system x call
  begin = starts opening s b system x call rest next

  -- the cache isn't checked, since the call takes a step
  plain : checked_of s k ≡ None
  plain = none_of (checked_of s k) (by (m.checks k) takes)
    where
      takes : cond {A = Option Reply} (m.checks k) (Some Checked) None ≡ None
      takes = ap (told_of_trim m) (sym asks) ∙ ap (told_at_once m (get_or l.known (call_place call) nobody) call) (sym kind) ∙ subst (TakesStep m l) next.todo (All-get_or (IsRested m) system.locals x idle next.there rest.coherent.rested begin.between.between)

      by : (z : Bool) → cond {A = Option Reply} z (Some Checked) None ≡ None → z ≡ false
      by true e = absurd (let z = e in cc z)
      by false e = refl

  some_cpu : 0 < s.cpus
  some_cpu = let c = rest.lists.shaped.cpus in omega (arith, c)

  abbrev first : Local
  first = stood opening s b system x call rest next Trimming k 0 some_cpu

  begins : begun m false l ≡ first
  begins = begin_trim m l call next.calls k begin.between.between next.todo kind asks

  abbrev start : System
  start = began opening s b system x call rest next Trimming k 0 some_cpu

  at_first : RestsBut opening s b start x first
  at_first = rests_began opening s b system x call rest next Trimming k 0 some_cpu begins

  -- ---- the CPUs

  abbrev min : ℕ
  min = min_partial_of s k

  abbrev r : ℕ
  r = s.cpus - 1

  all_cpus : suc r ≡ s.cpus
  all_cpus = omega (arith, some_cpu)

  cpus : CpusEnd opening s b start x first min r
  cpus = cpus_emptied opening x min r s b start first refl (omega (arith, some_cpu)) begin.few at_first

  abbrev u : State
  u = fold (flushed min k) s (range_with_len 0 (suc r))

  abbrev d : Beside
  d = cpus.d

  abbrev n : Local
  n = record first { cpu = cpus.cpu; cpu_word = cpus.cpu_word; slab_word = cpus.slab_word; count = cpus.count }

  abbrev at_node : System
  at_node = alone (setup_of s b) x (suc cpus.comes.turns) start

  abbrev at_lock : RestsBut opening u d at_node x (at n (InTrim LockTrim))
  at_lock = cpus.comes.rests

  -- ---- the node list

  abbrev left : State
  left = swept u k

  abbrev after : State
  after = scanned.after opening u d at_node x n at_lock

  abbrev frames : List ℕ
  frames = scanned.frames opening u d at_node x n at_lock

  abbrev told : Local
  told = scanned.told opening u d at_node x n at_lock

  abbrev scan : scanned.Scan opening u d at_node x n at_lock
  scan = scanned.scan opening u d at_node x n at_lock

  ends : EndsAs opening s b start x after d told
  ends = then_ends opening s u after b d d start x (at n (InTrim LockTrim)) told cpus.comes (scanned.scan_ends opening u d at_node x n at_lock)

  -- ---- the lists

  lives : is_some (cache_of s k) ≡ true
  lives = subst (λ o. IfSome o (λ k. m.lives k ≡ true)) asks begin.may.cache

  keeps : KeepsChecked s after
  keeps = rest-both s u after cpus.keeps (rest-both u left after scan.keeps (rest-with_node left k frames))

  leaves : LeavesSlabs s k after
  leaves = leaves-both s u after k cpus.leaves (leaves-both u left after k scan.leaves (leaves-same left (with_node left k frames) k refl))

  u_is : u ≡ flushed_below s min k s.cpus
  u_is = ap (λ r. fold (flushed min k) s (range_with_len 0 r)) all_cpus

  shrinks : ShrinksUnchecked s min k after
  shrinks = subst (λ u. Promotes (swept u k) k after) u_is (frames, scanned.promoted opening u d at_node x n at_lock, refl)

  swept_left : IsSwept left k
  swept_left = record {
    bare = λ c below.
        ap (λ n. get_or left.cpu_lists (k * n + c) no_lists) scan.keeps.held.cpus ∙ ap (λ all. get_or all (k * u.cpus + c) no_lists) scan.lists
        ∙ cpus.bare c (inr (omega arith, (let e = scan.keeps.held.cpus in let f = cpus.keeps.held.cpus in omega (arith, e, f, below, some_cpu))));
    used = scan.used;
  }

  coherent_after : IsCoherent after
  coherent_after = ends.rest.lists

  emptied : busy_of s k ≡ 0 → has_slab after k ≡ false
  emptied busy = unchecked-emptied after k coherent_after (ap (λ c. get_or c k None) keeps.checked ∙ plain) (promoted-swept left k frames (scanned.promoted opening u d at_node x n at_lock) (scanned.in_nodes opening u d at_node x n at_lock) swept_left)
      (ap (λ live. get_or live k 0) keeps.held.live ∙ (omega (arith, busy)))

  shrinks_cache : ShrinksCache s k after
  shrinks_cache = shrinks-cache s after k rest.lists coherent_after (shrinks_by s k after lives plain shrinks) keeps.held leaves emptied

  counted : slabs_of s k ≡ scan.told + slabs_of after k
  counted = let a = cpus.counted in let c = scan.counted in omega (arith, a, c)

  abbrev reply : Reply
  reply = Trimmed scan.told

  ran : alone m x (suc ends.turns) start ≡ alone m x (suc ends.turns) system
  ran = same_turns opening s b system x call rest next Trimming k 0 some_cpu begins ends.turns

  inside : k < 32
  inside = begin.setup.live k lives

  off : (n : ℕ) → ((j : ℕ) → 0 ≤ j → j ≤ 0 + r → n ≡ cpu_number k j → ⊥) → has_slab_of s k n ≡ false → tid_of d n ≡ tid_of b n + cond (has_slab_of s k n) b.step 0
  off n none not_on = cpus.grown.away n none ∙ (let z = ap (λ z. cond {A = ℕ} z b.step 0) not_on in omega (arith, z))

  ids : (n : ℕ) → tid_of d n ≡ tid_of b n + cond (has_slab_of s k n) b.step 0
  ids n = elim (cases_eq (n / 16) k) [
    | inr away ↦ off n (λ j low high at. away (omega (arith, at, high, begin.few, some_cpu))) (ap (λ z. z && is_some (cpu_at s n).current) (ne_eqb (n / 16) k away))
    | inl mine ↦ elim (cases_lt (n % 16) s.cpus) [
      | inr past ↦ off n (λ j low high at. absurd (omega (arith, at, high, begin.few, some_cpu, past)))
          (ap (λ z. z && is_some (cpu_at s n).current) (eq-eqb (n / 16) k mine) ∙ ap (λ (y : CpuLists). is_some y.current) (cond-false {A = CpuLists} (nat_lt (n % 16) s.cpus) (lists_of s (n / 16) (n % 16)) no_lists (le-ltb (n % 16) s.cpus past)))
      | inl below ↦
          let number : n ≡ cpu_number k (n % 16) = omega (arith, mine) in
          let lists : cpu_at s n ≡ lists_of s k (n % 16) = ap (cpu_at s) number ∙ cpu_here s k (n % 16) below begin.few in
          let flag : has_slab_of s k n ≡ is_some (cpu_at s n).current = ap (λ z. z && is_some (cpu_at s n).current) (eq-eqb (n / 16) k mine) in
          subst (λ j. tid_of d j ≡ tid_of b j + cond (is_some (lists_of s k (n % 16)).current) b.step 0) (sym number)
          (cpus.grown.here (n % 16) (omega arith) (omega (arith, below)) (omega (arith, inside, begin.few, below, rest.beside.tids)))
          ∙ (λ i. tid_of b n + cond (sym (flag ∙ ap (λ (y : CpuLists). is_some y.current) lists) i) b.step 0)
    ]
  ]

  trims_alone : TrimsAlone opening s b system x call place k
  trims_alone = record {
    turns = ends.turns;
    reply = reply;
    after = after;
    trims = trims-unchecked s after place k scan.told names plain shrinks_cache counted;
    beside = d;
    changes = record { same = cpus.grown.same; ids = ids };
    replies = record {
      setup = ends.setup;
      rest = subst (IsAtRest opening after d) ran ends.rest;
      replied = record {
        told = told;
        between = refl;
        number = refl;
        done = ap (λ todo. record { call = get_or todo 0 no_call; reply = reply } ∷ l.done) next.todo;
        todo = refl;
        rested = sym (ap (λ (r : System). worker_at r x) ran) ∙ ends.here;
      };
      others = sym (ap (λ (r : System). r.locals) ran) ∙ ends.others ∙ set-set system.locals x first (rested m told) ∙ ap (set system.locals x) (sym ends.here ∙ ap (λ (r : System). worker_at r x) ran);
    };
    known = sym (ap (λ (r : System). (worker_at r x).known) ran) ∙ ap (λ (l : Local). l.known) (ends.here ∙ (rested_calls m told refl).same);
  }

pub trim_alone : TrimsAreThoseOfLists
trim_alone opening s b system x call place k rest next kind names asks = trims_alone opening s b system x call place k rest next kind names asks
