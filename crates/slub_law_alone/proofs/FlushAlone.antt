-- A flush by a worker alone is that of the lists: one cache after the other, what the CPU has of it is put away and moved.
use Rattle.std.proofs.Common.{◌≡◌, ℕ, suc, ◌+◌, ◌<◌, eqb, cond, Bool, true, false, List, [], ◌∷◌, length, fold, drop, get_or, set, Option, Some, None, refl, ap, sym, ◌∙◌, subst, arith}
use Rattle.std.specs.Prelude.{is_some, nat_lt, slice_index}
use Rattle.std.specs.Option.{option_map_or}
use Rattle.std.proofs.lemmas.Bool.{false≢true, le-ltb, lt-ltb}
use Rattle.std.proofs.lemmas.List.{set-set}
use Rattle.std.proofs.lemmas.List.Elements.{All-get_or}
use Rattle.slub_trace.specs.declared.reply.Reply.{Reply}
use Rattle.slub_trace.specs.declared.reply.Reply.TheVariants.{Flushed}
use Rattle.slub_lists.specs.State.{State}
use Rattle.slub_lists.specs.Alloc.{lists_of}
use Rattle.slub_lists.specs.Coherent.{IsConsistent}
use Rattle.slub_lists.specs.Flush.{slabs_on}
use Rattle.slub_lists.specs.Shrink.{min_partial_of, moved_partial, put_away}
use Rattle.slub_lists.proofs.Flushing.{rest-put_away}
use Rattle.slub_core.specs.declared.call.Call.{Call}
use Rattle.slub_core.specs.declared.call.CallKind.{CallKind}
use Rattle.slub_core.specs.declared.call.CallKind.TheVariants.{Flush}
use Rattle.slub_core.specs.declared.local.Answered.{Answered}
use Rattle.slub_core.specs.declared.spot.Spot.TheVariants.{Between, InOffline}
use Rattle.slub_core.specs.declared.spot.Sweep.TheVariants.{Flushing}
use Rattle.slub_core.specs.declared.spot.OfflineSpot.TheVariants.{LoadCurrent, TakeCurrent}
use Rattle.slub_core.specs.Calls.{call_kind, call_cpu, call_cache, call_place}
use Rattle.slub_core.specs.Setup.{Setup}
use Rattle.slub_core.specs.World.{World}
use Rattle.slub_core.specs.Local.{Local, Turn, answered, at, call_of, no_call, nobody}
use Rattle.slub_core.specs.Law.{IsRested, TakesStep}
use Rattle.slub_core.specs.Offline.{flushed_cache}
use Rattle.slub_core.specs.Run.{System, idle}
use Rattle.slub_core.specs.Steps.{begun, begun_at, begun_with, cache_for, first_cpu, first_spot, rested, told_at_once}
use Rattle.slub_law_opening.specs.Opening.{Beside, setup_of}
use Rattle.slub_law_alone.specs.Alone.{alone, worker_at, IsAtRest, IsNext}
use Rattle.slub_law_alone.specs.Away.{ComesTo, EndsAs, FlushesAlone, FlushesAreThoseOfLists, MovesList, PutsAway, RestsBut, detached, has_moved, told_of_current, told_of_partial}
use Rattle.slub_law_alone.proofs.FlushLists.{away_partial, dropped, flushed_at, flushed_plain, ids_from, ids_once, slabs_all, slabs_from}
use Rattle.slub_law_alone.proofs.ListSwept.{list_moved}
use Rattle.slub_law_alone.proofs.PutAway.{put_away_alone}
use Rattle.slub_law_alone.proofs.Start.{IsStart, starts}
use Rattle.slub_law_alone.proofs.SweepBegins.{began, rests_began, same_turns, stood, then_comes, then_ends}
use Rattle.slub_law_alone.proofs.Sweeping as sweeping
use Rattle.slub_law_alone.proofs.Workers.{rested_calls}

-- the flush of the caches that are left ends, and tells of as many slabs as the CPU had of them
pub record FlushEnds (opening : World) (s : State) (b : Beside) (system : System) (x : ℕ) (l : Local) (ks : List ℕ) : Type 0 where
  pub told : Local
  pub ends : EndsAs opening s b system x (fold (flushed_at l.cpu) s ks) (ids_from s b l.cpu ks) told
  pub done : told.done ≡ record { call = call_of l; reply = Flushed (l.count + slabs_from s l.cpu ks) } ∷ l.done
  pub todo : told.todo ≡ drop 1 l.todo
  pub between : told.spot ≡ Between
  pub number : told.worker ≡ l.worker
  pub known : told.known ≡ l.known

-- what one cache tells
told_one : (s : State) (k cpu : ℕ) → IsConsistent s → k < 32 → cpu < s.cpus → told_of_current s Flushing k cpu + told_of_partial (put_away s (min_partial_of s k) k cpu) Flushing k cpu ≡ slabs_on (lists_of s k cpu)
told_one s k cpu consistent inside below =
    let same = ap (length {A = ℕ}) (away_partial s (min_partial_of s k) k cpu consistent inside below) in
    let first = by (lists_of s k cpu).current in
    omega (arith, same, first)
  where
    by : (o : Option ℕ) → option_map_or (λ (f : ℕ). 1 + 0) o 0 ≡ cond {A = ℕ} (is_some o) 1 0
    by None = refl
    by (Some f) = refl

-- ---- one cache

module _ (opening : World) (x : ℕ) (m : Setup) (s : State) (b : Beside) (system : System) (l : Local) (same : setup_of s b ≡ m) (is : RestsBut opening s b system x (at l (InOffline LoadCurrent Flushing))) where
  abbrev k : ℕ
  k = l.cache

  abbrev away : PutsAway opening s b system x l Flushing
  away = put_away_alone opening s b system x l Flushing is

  abbrev t1 : State
  t1 = put_away s (min_partial_of s k) k l.cpu

  abbrev d1 : Beside
  d1 = detached s b k l.cpu

  abbrev l1 : Local
  l1 = record l { cpu_word = away.cpu_word; slab_word = away.slab_word; count = l.count + told_of_current s Flushing k l.cpu }

  abbrev sys1 : System
  sys1 = alone (setup_of s b) x (suc away.comes.turns) system

  abbrev moves : MovesList opening t1 d1 sys1 x l1 Flushing
  moves = list_moved opening t1 d1 sys1 x l1 Flushing away.comes.rests

  abbrev pub t2 : State
  t2 = flushed_at l.cpu s k

  t2_is : moved_partial t1 (min_partial_of t1 k) k l.cpu ≡ t2
  t2_is = ap (λ min. moved_partial t1 min k l.cpu) (ap (λ table. min_partial_of (record s { table = table }) k) (rest-put_away s (min_partial_of s k) k l.cpu).held.table)

  abbrev pub moved : Local
  moved = has_moved t1 Flushing l1 moves.slab_word

  cpu_below : l.cpu < s.cpus
  cpu_below = subst (λ (m : Setup). l.cpu < m.cpus) is.rest.rests.rests.setup (sweeping.cpu opening s b system x l (InOffline LoadCurrent Flushing) refl is)

  pub count_is : moved.count ≡ l.count + slabs_on (lists_of s k l.cpu)
  count_is = let one = told_one s k l.cpu (sweeping.consistent opening s b system x l (InOffline LoadCurrent Flushing) refl is) (sweeping.plain opening s b system x l (InOffline LoadCurrent Flushing) refl is).0 cpu_below in omega (arith, one)

  abbrev by : Bool → ℕ → Turn
  by more next = record {
    local = record moved { turn = cond more (l.turn + 1) l.turn; cache = cond more next l.cache; spot = cond more (InOffline LoadCurrent Flushing) Between };
    reply = cond more None (Some (Flushed moved.count));
  }

  setup1 : setup_of t1 d1 ≡ m
  setup1 = away.comes.setup ∙ same

  -- it goes on to the next
  pub on : (next : ℕ) → nat_lt (l.turn + 1) (length m.plain) ≡ true → slice_index m.plain (l.turn + 1) ≡ next → ComesTo opening s b system x t2 d1 (record moved { turn = l.turn + 1; cache = next; spot = InOffline LoadCurrent Flushing })
  on next more is_next = then_comes opening s t1 t2 b d1 d1 system x (at l1 (InOffline TakeCurrent Flushing)) n away.comes (subst (λ t. ComesTo opening t1 d1 sys1 x t d1 n) t2_is (moves.goes_on n (ap (λ m. flushed_cache m moved) setup1 ∙ (λ i. by (more i) (is_next i)))))
    where
      n : Local
      n = record moved { turn = l.turn + 1; cache = next; spot = InOffline LoadCurrent Flushing }

  -- or ends
  pub last : nat_lt (l.turn + 1) (length m.plain) ≡ false → EndsAs opening s b system x t2 d1 (answered (at moved Between) (Flushed moved.count))
  last no_more = then_ends opening s t1 t2 b d1 d1 system x (at l1 (InOffline TakeCurrent Flushing)) (answered (at moved Between) (Flushed moved.count)) away.comes
      (subst (λ t. EndsAs opening t1 d1 sys1 x t d1 (answered (at moved Between) (Flushed moved.count))) t2_is (moves.ends (at moved Between) (Flushed moved.count) (ap (λ m. flushed_cache m moved) setup1 ∙ (λ i. by (no_more i) (slice_index m.plain (l.turn + 1))))))

-- ---- all of them

abbrev replies_with : Local → ℕ → List Answered
replies_with l n = record { call = call_of l; reply = Flushed n } ∷ l.done

-- the next cache, where a flush of it and the others ends
module _ (opening : World) (x : ℕ) (m : Setup) (j : ℕ) (ks : List ℕ) (k : ℕ) (s : State) (b : Beside) (system : System) (l : Local) (same : setup_of s b ≡ m) (left : drop l.turn m.plain ≡ k ∷ j ∷ ks) (is : RestsBut opening s b system x (at l (InOffline LoadCurrent Flushing))) where
  places : (slice_index m.plain l.turn ≡ k) × (drop (l.turn + 1) m.plain ≡ j ∷ ks) × (length m.plain ≡ l.turn + suc (length (j ∷ ks)))
  places = dropped l.turn m.plain k (j ∷ ks) left

  abbrev pub next_local : Local
  next_local = record (moved opening x m s b system l same is) { turn = l.turn + 1; cache = j }

  abbrev pub next_state : State
  next_state = t2 opening x m s b system l same is

  abbrev pub next_beside : Beside
  next_beside = detached s b l.cache l.cpu

  pub gone_on : ComesTo opening s b system x next_state next_beside (at next_local (InOffline LoadCurrent Flushing))
  gone_on = on opening x m s b system l same is j (lt-ltb (l.turn + 1) (length m.plain) (let all = places.2 in omega (arith, all))) (dropped (l.turn + 1) m.plain j ks places.1).0

  abbrev pub next_system : System
  next_system = alone (setup_of s b) x (suc gone_on.turns) system

  pub next_left : drop next_local.turn m.plain ≡ j ∷ ks
  next_left = places.1

  pub flush_then : FlushEnds opening next_state next_beside next_system x next_local (j ∷ ks) → FlushEnds opening s b system x l (l.cache ∷ j ∷ ks)
  flush_then rest = record {
    told = rest.told;
    ends = then_ends opening s next_state (fold (flushed_at l.cpu) next_state (j ∷ ks)) b next_beside (ids_from next_state next_beside l.cpu (j ∷ ks)) system x (at next_local (InOffline LoadCurrent Flushing)) rest.told gone_on rest.ends;
    done = rest.done ∙ ap (replies_with l) (let c = count_is opening x m s b system l same is in omega (arith, c));
    todo = rest.todo;
    between = rest.between;
    number = rest.number;
    known = rest.known;
  }

flush_all : (opening : World) (x : ℕ) (m : Setup) (ks : List ℕ) (k : ℕ) (s : State) (b : Beside) (system : System) (l : Local) → setup_of s b ≡ m → drop l.turn m.plain ≡ k ∷ ks → l.cache ≡ k → RestsBut opening s b system x (at l (InOffline LoadCurrent Flushing)) → FlushEnds opening s b system x l (k ∷ ks)
flush_all opening x m [] k s b system l same left own is = subst (λ k. FlushEnds opening s b system x l (k ∷ [])) own (record {
  told = answered (at (moved opening x m s b system l same is) Between) (Flushed (moved opening x m s b system l same is).count);
  ends = last opening x m s b system l same is (le-ltb (l.turn + 1) (length m.plain) (let all = (dropped l.turn m.plain k [] left).2 in omega (arith, all)));
  done = ap (replies_with l) (let c = count_is opening x m s b system l same is in omega (arith, c));
  todo = refl;
  between = refl;
  number = refl;
  known = refl;
})
flush_all opening x m (j ∷ ks) k s b system l same left own is =
    subst (λ k. FlushEnds opening s b system x l (k ∷ j ∷ ks)) own (flush_then opening x m j ks k s b system l same left is
    (flush_all opening x m ks j (next_state opening x m j ks k s b system l same left is) (next_beside opening x m j ks k s b system l same left is) (next_system opening x m j ks k s b system l same left is) (next_local opening x m j ks k s b system l same left is)
    ((gone_on opening x m j ks k s b system l same left is).setup ∙ same) (next_left opening x m j ks k s b system l same left is) refl (gone_on opening x m j ks k s b system l same left is).rests))

-- ---- the call

begin_flush : (m : Setup) (l : Local) (call : Call) (calls : List Call) → l.spot ≡ Between → l.todo ≡ call ∷ calls → call_kind call ≡ Flush
    → begun m false l ≡ record l { spot = InOffline LoadCurrent Flushing; cache = slice_index m.plain 0; cpu = call_cpu call; place = call_place call; fast = false; turn = 0; count = 0 }
begin_flush m l call calls between todo kind =
    ap (begun_at m false l) between ∙ ap (begun_with m false l) todo ∙ ap by kind
  where
    by : CallKind → Local
    by kind =
        let known = get_or l.known (call_place call) nobody in
        let cache = cache_for m known (call_cache call) kind in
        record l { spot = first_spot kind (m.checks cache) known.held; cache = cache; cpu = first_cpu kind (call_cpu call); place = call_place call; fast = false; turn = 0; count = 0 }

module _ (opening : World) (s : State) (b : Beside) (system : System) (x : ℕ) (call : Call) (rest : IsAtRest opening s b system) (next : IsNext system x call) (kind : call_kind call ≡ Flush) where
  abbrev m : Setup
  m = setup_of s b

  abbrev l : Local
  l = worker_at system x

  begin : IsStart opening s b system x call
  begin = starts opening s b system x call rest next

  cpu : call_cpu call < s.cpus
  cpu = begin.may.cpu

  -- there is a cache, since the call takes a step
  some : eqb (length m.plain) 0 ≡ false
  some = by (eqb (length m.plain) 0) takes
    where
      takes : cond {A = Option Reply} (eqb (length m.plain) 0) (Some (Flushed 0)) None ≡ None
      takes = ap (told_at_once m (get_or l.known (call_place call) nobody) call) (sym kind) ∙ subst (TakesStep m l) next.todo (All-get_or (IsRested m) system.locals x idle next.there rest.coherent.rested begin.between.between)

      by : (z : Bool) → cond {A = Option Reply} z (Some (Flushed 0)) None ≡ None → z ≡ false
      by true e = absurd (let z = e in cc z)
      by false e = refl

  abbrev first : Local
  first = stood opening s b system x call rest next Flushing (slice_index m.plain 0) (call_cpu call) cpu

  begins : begun m false l ≡ first
  begins = begin_flush m l call next.calls begin.between.between next.todo kind

  abbrev start : System
  start = began opening s b system x call rest next Flushing (slice_index m.plain 0) (call_cpu call) cpu

  at_first : RestsBut opening s b start x first
  at_first = rests_began opening s b system x call rest next Flushing (slice_index m.plain 0) (call_cpu call) cpu begins

  all_of : (ks : List ℕ) → m.plain ≡ ks → FlushEnds opening s b start x first m.plain
  all_of [] none = absurd (false≢true (sym some ∙ ap (λ (ks : List ℕ). eqb (length ks) 0) none))
  all_of (k ∷ ks) are = subst (FlushEnds opening s b start x first) (sym are) (flush_all opening x m ks k s b start first refl are (ap (λ ks. slice_index ks 0) are) at_first)

  all : FlushEnds opening s b start x first m.plain
  all = all_of m.plain refl

  abbrev after : State
  after = fold (flushed_at (call_cpu call)) s m.plain

  abbrev reply : Reply
  reply = Flushed (slabs_from s (call_cpu call) m.plain)

  ran : alone m x (suc all.ends.turns) start ≡ alone m x (suc all.ends.turns) system
  ran = same_turns opening s b system x call rest next Flushing (slice_index m.plain 0) (call_cpu call) cpu begins all.ends.turns

  flushes_alone : FlushesAlone opening s b system x call
  flushes_alone = record {
    turns = all.ends.turns;
    reply = reply;
    after = after;
    flushes = record { moved = ap Flushed (slabs_all s (call_cpu call) begin.consistent cpu); steps = sym (flushed_plain s (call_cpu call)) };
    beside = ids_from s b (call_cpu call) m.plain;
    changes = ids_once s b (call_cpu call) begin.consistent cpu rest.beside.tids;
    replies = record {
      setup = all.ends.setup;
      rest = subst (IsAtRest opening after (ids_from s b (call_cpu call) m.plain)) ran all.ends.rest;
      replied = record {
        told = all.told;
        between = all.between;
        number = all.number;
        done = all.done ∙ ap (replies_with l) (omega arith) ∙ ap (λ todo. record { call = get_or todo 0 no_call; reply = reply } ∷ l.done) next.todo;
        todo = all.todo;
        rested = sym (ap (λ (r : System). worker_at r x) ran) ∙ all.ends.here;
      };
      others = sym (ap (λ (r : System). r.locals) ran) ∙ all.ends.others ∙ set-set system.locals x first (rested m all.told) ∙ ap (set system.locals x) (sym all.ends.here ∙ ap (λ (r : System). worker_at r x) ran);
    };
    known = sym (ap (λ (r : System). (worker_at r x).known) ran) ∙ ap (λ (l : Local). l.known) (all.ends.here ∙ (rested_calls m all.told all.between).same) ∙ all.known;
  }

pub flush_alone : FlushesAreThoseOfLists
flush_alone opening s b system x call rest next kind = flushes_alone opening s b system x call rest next kind
