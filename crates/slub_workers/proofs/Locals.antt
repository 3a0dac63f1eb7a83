-- The locks that a worker has, as cases; where a step looks at what one guards; and that what is done at once, a noted reply and the begin of a call change none of them.
use Rattle.std.proofs.Common.{◌≡◌, ℕ, zero, suc, ◌+◌, ◌<◌, ◌≤◌, ◌==◌, ◌⊎◌, Bool, true, false, cond, if◌then◌else◌, nat_lt, List, [], ◌∷◌, ◌++◌, length, slice_index_or, Contains, Option, Some, None, refl, sym, ap, ◌∙◌, subst, arith, inl, inr}
use Rattle.std.proofs.lemmas.Bool.{cases_Bool, cases_eq, eq-eqb, ne_eqb, false≢true}
use Rattle.slub_page_pool.specs.FreeFrames.{FreeFrames}
use Rattle.slub_object_layout.specs.declared.layout.Layout.{Layout}
use Rattle.slub_trace.specs.declared.damage.Damage.{Damage}
use Rattle.slub_red_zone.specs.declared.checked.CheckedGive.{CheckedGive}
use Rattle.slub_red_zone.specs.declared.checked.CheckedGive.TheVariants as give
use Rattle.slub_red_zone.specs.State.{CheckedState}
use Rattle.slub_red_zone.specs.Steps.{damage_of_used, with_taken}
use Rattle.slub_trace.specs.declared.reply.Reply.{Reply}
use Rattle.slub_core.specs.declared.call.Call.{Call}
use Rattle.slub_core.specs.declared.call.CallKind.{CallKind}
use Rattle.slub_core.specs.declared.call.CallKind.TheVariants.{Alloc, Free, Write, Read, Poke, Trim, Flush}
use Rattle.slub_core.specs.declared.local.FrameRun.{FrameRun}
use Rattle.slub_core.specs.declared.local.PartialString.{PartialString}
use Rattle.slub_core.specs.declared.step.Answer.{Answer}
use Rattle.slub_core.specs.declared.step.Answer.TheVariants.{Word, Won}
use Rattle.slub_core.specs.declared.spot.Spot.{Spot}
use Rattle.slub_core.specs.declared.spot.Spot.TheVariants.{Between, InAlloc, InPutAway, InDiscard, InFree, InMoveSet, InTrim, InChecked}
use Rattle.slub_core.specs.declared.spot.AllocSpot.{AllocSpot}
use Rattle.slub_core.specs.declared.spot.AllocSpot.TheVariants.{PopNode, TakeRun}
use Rattle.slub_core.specs.declared.spot.PutAwaySpot.{PutAwaySpot}
use Rattle.slub_core.specs.declared.spot.PutAwaySpot.TheVariants.{Unfreeze, PutNode}
use Rattle.slub_core.specs.declared.spot.Away.{Away}
use Rattle.slub_core.specs.declared.spot.DiscardSpot.{DiscardSpot}
use Rattle.slub_core.specs.declared.spot.DiscardSpot.TheVariants.{PutRun}
use Rattle.slub_core.specs.declared.spot.Discard.{Discard}
use Rattle.slub_core.specs.declared.spot.FreeSpot.{FreeSpot}
use Rattle.slub_core.specs.declared.spot.FreeSpot.TheVariants.{TakeOff}
use Rattle.slub_core.specs.declared.spot.MoveSetSpot.{MoveSetSpot}
use Rattle.slub_core.specs.declared.spot.MoveSetSpot.TheVariants.{ChooseFront, LoadMoved, PutTail}
use Rattle.slub_core.specs.declared.spot.MoveSet.{MoveSet}
use Rattle.slub_core.specs.declared.spot.TrimSpot.{TrimSpot}
use Rattle.slub_core.specs.declared.spot.TrimSpot.TheVariants.{ScanNode, LoadScanned, DropScanned}
use Rattle.slub_core.specs.declared.spot.CheckedSpot.TheVariants.{DoChecked, MoveRun, AddSlab}
use Rattle.slub_core.specs.Calls.{call_kind, call_cache, call_place}
use Rattle.slub_core.specs.Setup.{Setup, node_lock, pool_lock}
use Rattle.slub_core.specs.World.{LockValue, one_if, pool_in}
use Rattle.slub_core.specs.Local.{Local, Worker, Change, nobody, answered, noted, here, at}
use Rattle.slub_core.specs.Alloc.{node_of, asks_for_another, pop_node, run_taken, found_run, way_of_run, alloc_at_once}
use Rattle.slub_core.specs.PutAway.{put_away_at_once, put_away_advance}
use Rattle.slub_core.specs.Discard.{discard_at_once}
use Rattle.slub_core.specs.Free.{free_at_once}
use Rattle.slub_core.specs.MoveSet.{front_taken, move_set_at_once, move_set_advance}
use Rattle.slub_core.specs.Offline.{trim_at_once}
use Rattle.slub_core.specs.PutAway.{has_enough}
use Rattle.slub_core.specs.Checked.{slabs_of, slot_of, gave, took_back, is_spare, way_of_found, do_checked, move_run}
use Rattle.slub_core.specs.Listed.{takes}
use Rattle.slub_core.specs.Spots.{has_node, has_pool}
use Rattle.slub_core.specs.Steps.{step_at, advance_at, at_once, told_at_once, or_step, rested_with, rested_at, rested, first_spot, cache_for, begun_with, begun_at, begun}
use Rattle.slub_workers.specs.Locks.{locks_of, Stays, move_of}

-- ---- which locks, by spot and cache

abbrev pub locks_at : Spot → ℕ → List ℕ
locks_at s cache = cond (has_pool s) (pool_lock ∷ []) [] ++ cond (has_node s) (node_lock cache ∷ []) []

-- as cases
abbrev pub Has : Spot → ℕ → ℕ → Type 0
Has s cache lock = ((has_node s ≡ true) × (lock ≡ node_lock cache)) ⊎ ((has_pool s ≡ true) × (lock ≡ pool_lock))

one_at : (b lock k : ℕ) → k < 1 → slice_index_or (b ∷ []) k lock ≡ lock → lock ≡ b
one_at b lock zero below is = sym is
one_at b lock (suc k) below is = absurd (omega arith)

cases : (p q : Bool) (b lock : ℕ) → Contains (cond q (pool_lock ∷ []) [] ++ cond p (b ∷ []) []) lock → ((p ≡ true) × (lock ≡ b)) ⊎ ((q ≡ true) × (lock ≡ pool_lock))
cases true true b lock w = two w.0 w.1 w.2
  where
    two : (k : ℕ) → k < 2 → slice_index_or (pool_lock ∷ b ∷ []) k lock ≡ lock → ((true ≡ true) × (lock ≡ b)) ⊎ ((true ≡ true) × (lock ≡ pool_lock))
    two zero below is = inr (refl, sym is)
    two (suc k) below is = inl (refl, one_at b lock k (omega arith) is)
cases true false b lock w = inl (refl, one_at b lock w.0 w.1 w.2)
cases false true b lock w = inr (refl, one_at pool_lock lock w.0 w.1 w.2)
cases false false b lock w = let no = w.1 in absurd (omega arith)

pub has_at : (s : Spot) (cache lock : ℕ) → Contains (locks_at s cache) lock → Has s cache lock
has_at s cache lock w = cases (has_node s) (has_pool s) (node_lock cache) lock w

last_of : (q : Bool) (b : ℕ) → Contains (cond q (pool_lock ∷ []) [] ++ b ∷ []) b
last_of true b = (1, omega arith, refl)
last_of false b = (0, omega arith, refl)

first_of_two : (p : Bool) (b : ℕ) → Contains (pool_lock ∷ cond p (b ∷ []) []) pool_lock
first_of_two p b = (0, omega arith, refl)

pub node_at : (s : Spot) (cache : ℕ) → has_node s ≡ true → Contains (locks_at s cache) (node_lock cache)
node_at s cache has = rw has (last_of (has_pool s) (node_lock cache))

pub pool_at : (s : Spot) (cache : ℕ) → has_pool s ≡ true → Contains (locks_at s cache) pool_lock
pool_at s cache has = rw has (first_of_two (has_node s) (node_lock cache))

pub contains_at : (s : Spot) (cache lock : ℕ) → Has s cache lock → Contains (locks_at s cache) lock
contains_at s cache lock (inl has) = subst (λ k. Contains (locks_at s cache) k) (sym has.1) (node_at s cache has.0)
contains_at s cache lock (inr has) = subst (λ k. Contains (locks_at s cache) k) (sym has.1) (pool_at s cache has.0)

-- ---- the same of a worker

pub has_cases : (l : Local) (lock : ℕ) → Contains (locks_of l) lock → Has l.spot l.cache lock
has_cases l lock w = has_at l.spot l.cache lock w

pub contains_has : (l : Local) (lock : ℕ) → Has l.spot l.cache lock → Contains (locks_of l) lock
contains_has l lock has = contains_at l.spot l.cache lock has

pub contains_node : (l : Local) → has_node l.spot ≡ true → Contains (locks_of l) (node_lock l.cache)
contains_node l has = node_at l.spot l.cache has

pub contains_pool : (l : Local) → has_pool l.spot ≡ true → Contains (locks_of l) pool_lock
contains_pool l has = pool_at l.spot l.cache has

-- it has the lock or not
which : (p q : Bool) (b lock : ℕ) → (((p ≡ true) × (lock ≡ b)) ⊎ ((q ≡ true) × (lock ≡ pool_lock))) ⊎ ¬ (((p ≡ true) × (lock ≡ b)) ⊎ ((q ≡ true) × (lock ≡ pool_lock)))
which p q b lock = by_node (cases_Bool p) (cases_eq lock b)
  where
    Is : Type 0
    Is = ((p ≡ true) × (lock ≡ b)) ⊎ ((q ≡ true) × (lock ≡ pool_lock))

    by_pool : ((p ≡ true) × (lock ≡ b) → ⊥) → (q ≡ true) ⊎ (q ≡ false) → (lock ≡ pool_lock) ⊎ (lock ≡ pool_lock → ⊥) → Is ⊎ ¬ Is
    by_pool neither (inl has) (inl is) = inl (inr (has, is))
    by_pool neither (inl has) (inr isnt) = inr (λ x. elim x [ inl a ↦ neither a | inr b ↦ isnt b.1 ])
    by_pool neither (inr hasnt) e = inr (λ x. elim x [ inl a ↦ neither a | inr b ↦ false≢true (sym hasnt ∙ b.0) ])

    by_node : (p ≡ true) ⊎ (p ≡ false) → (lock ≡ b) ⊎ (lock ≡ b → ⊥) → Is ⊎ ¬ Is
    by_node (inl has) (inl is) = inl (inl (has, is))
    by_node (inl has) (inr isnt) = by_pool (λ a. isnt a.1) (cases_Bool q) (cases_eq lock pool_lock)
    by_node (inr hasnt) e = by_pool (λ a. false≢true (sym hasnt ∙ a.0)) (cases_Bool q) (cases_eq lock pool_lock)

pub contains_or : (l : Local) (lock : ℕ) → Contains (locks_of l) lock ⊎ ¬ Contains (locks_of l) lock
contains_or l lock = elim (which (has_node l.spot) (has_pool l.spot) (node_lock l.cache) lock) [
  | inl has ↦ inl (contains_has l lock has)
  | inr hasnt ↦ inr (λ w. hasnt (has_cases l lock w))
]

-- ---- the same as a count

one_is : (b n : ℕ) → 1 ≤ one_if (b == n) → n ≡ b
one_is b n some = elim (cases_eq b n) [
  | inl is ↦ sym is
  | inr isnt ↦ absurd (let none = some_isnt b n isnt in omega arith)
]
  where
    some_isnt : (b n : ℕ) → (b ≡ n → ⊥) → one_if (b == n) ≡ 0
    some_isnt b n isnt = rw (ne_eqb b n isnt) refl

count_cases : (p q : Bool) (b n : ℕ) → 1 ≤ cond p (one_if (b == n)) 0 + cond q (one_if (pool_lock == n)) 0 → ((p ≡ true) × (n ≡ b)) ⊎ ((q ≡ true) × (n ≡ pool_lock))
count_cases true q b n some = elim (cases_eq b n) [
  | inl is ↦ inl (refl, sym is)
  | inr isnt ↦ by_pool q (let none : one_if (b == n) ≡ 0 = rw (ne_eqb b n isnt) refl in omega arith)
]
  where
    by_pool : (q : Bool) → 1 ≤ cond q (one_if (pool_lock == n)) 0 → ((true ≡ true) × (n ≡ b)) ⊎ ((q ≡ true) × (n ≡ pool_lock))
    by_pool true some = inr (refl, one_is pool_lock n some)
    by_pool false some = absurd (omega arith)
count_cases false true b n some = inr (refl, one_is pool_lock n (omega arith))
count_cases false false b n some = absurd (omega arith)

has_counts : (p q : Bool) (b n : ℕ) → ((p ≡ true) × (n ≡ b)) ⊎ ((q ≡ true) × (n ≡ pool_lock)) → 1 ≤ cond p (one_if (b == n)) 0 + cond q (one_if (pool_lock == n)) 0
has_counts p q b n (inl has) = rw (has.0, has.1, eq-eqb b b refl) (omega arith)
has_counts p q b n (inr has) = rw (has.0, has.1) (omega arith)

pub takes_contains : (n : ℕ) (x : Worker) → 1 ≤ takes n x → Contains (locks_of x.local) n
takes_contains n x some = contains_has x.local n (count_cases (has_node x.local.spot) (has_pool x.local.spot) (node_lock x.local.cache) n some)

pub contains_takes : (n : ℕ) (x : Worker) → Contains (locks_of x.local) n → 1 ≤ takes n x
contains_takes n x w = has_counts (has_node x.local.spot) (has_pool x.local.spot) (node_lock x.local.cache) n (has_cases x.local n w)

-- ---- where a step, or its answer, looks at what a lock guards

-- it looks at the node list, whose lock the worker has
abbrev pub uses_values : Spot → Bool
uses_values (InPutAway Unfreeze away) = true
uses_values (InMoveSet LoadMoved move) = true
uses_values (InTrim LoadScanned) = true
uses_values _ = false

pub uses_node : (s : Spot) → uses_values s ≡ true → has_node s ≡ true
uses_node (InPutAway Unfreeze away) uses = refl
uses_node (InMoveSet LoadMoved move) uses = refl
uses_node (InTrim LoadScanned) uses = refl
uses_node s uses = absurd (false≢true uses)

pub uses_no_lock : (m : Setup) (v : ℕ → LockValue) (l : Local) (s : Spot) (found : ℕ) → uses_values s ≡ true → move_of (step_at m v l s) found ≡ Stays
uses_no_lock m v l (InPutAway Unfreeze away) found uses = refl
uses_no_lock m v l (InMoveSet LoadMoved move) found uses = refl
uses_no_lock m v l (InTrim LoadScanned) found uses = refl
uses_no_lock m v l s found uses = absurd (false≢true uses)

pub step_alike : (m : Setup) (v w : ℕ → LockValue) (l : Local) (s : Spot) → (uses_values s ≡ true → v (node_lock l.cache) ≡ w (node_lock l.cache)) → step_at m v l s ≡ step_at m w l s
step_alike m v w l (InPutAway Unfreeze away) same = rw (same refl) refl
step_alike m v w l (InPutAway s away) same = refl
step_alike m v w l (InTrim LoadScanned) same = rw (same refl) refl
step_alike m v w l (InTrim s) same = refl
step_alike m v w l s same = refl

-- the answer to it leads to the same
away_alike : (m : Setup) (v w : ℕ → LockValue) (l : Local) (away : Away) (a : Answer) → v (node_lock l.cache) ≡ w (node_lock l.cache) → put_away_advance m v l Unfreeze away a ≡ put_away_advance m w l Unfreeze away a
away_alike m v w l away Won same = rw same refl
away_alike m v w l away a same = refl

move_alike : (m : Setup) (v w : ℕ → LockValue) (l : Local) (move : MoveSet) (a : Answer) → v (node_lock l.cache) ≡ w (node_lock l.cache) → move_set_advance m v l LoadMoved move a ≡ move_set_advance m w l LoadMoved move a
move_alike m v w l move (Word x) same = rw same refl
move_alike m v w l move a same = refl

pub advance_alike : (m : Setup) (v w : ℕ → LockValue) (l : Local) (s : Spot) (a : Answer) → (uses_values s ≡ true → v (node_lock l.cache) ≡ w (node_lock l.cache)) → advance_at m v l s a ≡ advance_at m w l s a
advance_alike m v w l (InPutAway Unfreeze away) a same = away_alike m v w l away a (same refl)
advance_alike m v w l (InPutAway s away) a same = refl
advance_alike m v w l (InMoveSet LoadMoved move) a same = move_alike m v w l move a (same refl)
advance_alike m v w l (InMoveSet s move) a same = refl
advance_alike m v w l s a same = refl

-- ---- the begin of a call, and replies

-- no spot at which a call begins is under a lock
first_free : (kind : CallKind) (checked held : Bool) (cache : ℕ) → locks_at (first_spot kind checked held) cache ≡ []
first_free Alloc false held cache = refl
first_free Alloc true held cache = refl
first_free Free checked false cache = refl
first_free Free false true cache = refl
first_free Free true true cache = refl
first_free Write false held cache = refl
first_free Write true held cache = refl
first_free Read false held cache = refl
first_free Read true held cache = refl
first_free Poke checked held cache = refl
first_free Trim checked held cache = refl
first_free Flush checked held cache = refl

begun_with_locks : (m : Setup) (fast : Bool) (l : Local) (calls : List Call) → l.spot ≡ Between → locks_of (begun_with m fast l calls) ≡ locks_of l
begun_with_locks m fast l [] between = refl
begun_with_locks m fast l (call ∷ calls) between =
    let known = slice_index_or l.known (call_place call) nobody in
    let cache = cache_for m known (call_cache call) (call_kind call) in
    first_free (call_kind call) (m.checks cache) known.held cache ∙ sym (ap (λ s. locks_at s l.cache) between)

pub begun_locks : (m : Setup) (fast : Bool) (l : Local) → locks_of (begun m fast l) ≡ locks_of l
begun_locks m fast l = by_spot l.spot refl
  where
    by_spot : (s : Spot) → l.spot ≡ s → locks_of (begun_at m fast l s) ≡ locks_of l
    by_spot Between between = begun_with_locks m fast l l.todo between
    by_spot s is = refl

pub noted_locks : (l : Local) (reply : Option Reply) → locks_of (noted l reply) ≡ locks_of l
noted_locks l None = refl
noted_locks l (Some reply) = refl

or_step_locks : (l : Local) (more : Reply → Local) (reply : Option Reply) → ((reply : Reply) → locks_of (more reply) ≡ locks_of l) → locks_of (or_step l more reply) ≡ locks_of l
or_step_locks l more None same = refl
or_step_locks l more (Some reply) same = same reply

rested_with_locks : (m : Setup) (calls : List Call) (l : Local) → locks_of (rested_with m calls l) ≡ locks_of l
rested_with_locks m [] l = refl
rested_with_locks m (call ∷ calls) l =
    or_step_locks l (λ reply. rested_with m calls (answered l reply)) (told_at_once m (slice_index_or l.known (call_place call) nobody) call (call_kind call)) (λ reply. rested_with_locks m calls (answered l reply))

pub rested_locks : (m : Setup) (l : Local) → locks_of (rested m l) ≡ locks_of l
rested_locks m l = by_spot l.spot
  where
    by_spot : (s : Spot) → locks_of (rested_at m l s) ≡ locks_of l
    by_spot Between = rested_with_locks m l.todo l
    by_spot s = refl

-- ---- what is done at once

-- of two, whichever it is
either : (b : Bool) (x y : Change) (locks : List ℕ) → locks_of x.local ≡ locks → locks_of y.local ≡ locks → locks_of (if b then x else y).local ≡ locks
either true x y locks one other = one
either false x y locks one other = other

pub either_local : (b : Bool) (x y : Local) (locks : List ℕ) → locks_of x ≡ locks → locks_of y ≡ locks → locks_of (if b then x else y) ≡ locks
either_local true x y locks one other = one
either_local false x y locks one other = other

pub either_spot : (b : Bool) (x y : Spot) (cache : ℕ) (locks : List ℕ) → locks_at x cache ≡ locks → locks_at y cache ≡ locks → locks_at (if b then x else y) cache ≡ locks
either_spot true x y cache locks one other = one
either_spot false x y cache locks one other = other

pub stay : (l : Local) (s : Spot) → l.spot ≡ s → locks_of l ≡ locks_at s l.cache
stay l s is = ap (λ t. locks_at t l.cache) is

popped : (m : Setup) (v : ℕ → LockValue) (l : Local) (frames : List ℕ) → locks_of (pop_node m v l frames).local ≡ locks_at (InAlloc PopNode) l.cache
popped m v l [] = refl
popped m v l (frame ∷ frames) = either (asks_for_another m l) _ _ _ refl refl

run_found : (v : ℕ → LockValue) (pool : FreeFrames) (layout : Layout) (l : Local) (found : Option FrameRun) → locks_of (run_taken v pool layout (at l (way_of_run found)) found).local ≡ locks_at (InAlloc TakeRun) l.cache
run_found v pool layout l None = refl
run_found v pool layout l (Some run) = refl

alloc_locks : (m : Setup) (v : ℕ → LockValue) (l : Local) (s : AllocSpot) → l.spot ≡ InAlloc s → locks_of (alloc_at_once m v l s).local ≡ locks_at (InAlloc s) l.cache
alloc_locks m v l PopNode is = popped m v l (node_of v l)
alloc_locks m v l TakeRun is = run_found v (pool_in (v pool_lock)) (m.layout l.cache) l (found_run m (pool_in (v pool_lock)) (m.layout l.cache))
alloc_locks m v l s is = stay l (InAlloc s) is

away_locks : (v : ℕ → LockValue) (l : Local) (s : PutAwaySpot) (away : Away) → l.spot ≡ InPutAway s away → locks_of (put_away_at_once v l s away).local ≡ locks_at (InPutAway s away) l.cache
away_locks v l PutNode away is = refl
away_locks v l s away is = stay l (InPutAway s away) is

discard_locks : (v : ℕ → LockValue) (l : Local) (s : DiscardSpot) (discard : Discard) → l.spot ≡ InDiscard s discard → locks_of (discard_at_once v l s discard).local ≡ locks_at (InDiscard s discard) l.cache
discard_locks v l PutRun discard is = refl
discard_locks v l s discard is = stay l (InDiscard s discard) is

free_locks : (m : Setup) (v : ℕ → LockValue) (l : Local) (s : FreeSpot) → l.spot ≡ InFree s → locks_of (free_at_once m v l s).local ≡ locks_at (InFree s) l.cache
free_locks m v l TakeOff is = either_local (has_enough m v l) _ _ _ refl refl
free_locks m v l s is = stay l (InFree s) is

front_locks : (l : Local) (move : MoveSet) (string : Option PartialString) → locks_of (front_taken l move string) ≡ locks_at (InMoveSet ChooseFront move) l.cache
front_locks l move None = refl
front_locks l move (Some string) = either_local (string.count == 1) _ _ _ refl refl

move_locks : (v : ℕ → LockValue) (l : Local) (s : MoveSetSpot) (move : MoveSet) → l.spot ≡ InMoveSet s move → locks_of (move_set_at_once v l s move).local ≡ locks_at (InMoveSet s move) l.cache
move_locks v l ChooseFront move is = front_locks l move l.string
move_locks v l PutTail move is = refl
move_locks v l s move is = stay l (InMoveSet s move) is

trim_locks : (m : Setup) (v : ℕ → LockValue) (l : Local) (s : TrimSpot) → l.spot ≡ InTrim s → locks_of (trim_at_once m v l s).local ≡ locks_at (InTrim s) l.cache
trim_locks m v l ScanNode is = either (nat_lt (length l.scanned) (length (node_of v l))) _ _ _ refl refl
trim_locks m v l DropScanned is = refl
trim_locks m v l s is = stay l (InTrim s) is

gave_locks : (m : Setup) (v : ℕ → LockValue) (l : Local) (s : CheckedState) (what : CheckedGive) → locks_of (gave m v l s what).local ≡ locks_at (InChecked DoChecked Alloc) l.cache
gave_locks m v l s (give.Given slot) = refl
gave_locks m v l s give.Empty = refl

took_locks : (m : Setup) (v : ℕ → LockValue) (l : Local) (s : CheckedState) (damage : Option Damage) → locks_of (took_back m v l s damage).local ≡ locks_at (InChecked DoChecked Free) l.cache
took_locks m v l s None = either_spot (is_spare m (with_taken s (slot_of l)) l.cache (here l).frame) _ _ l.cache _ refl refl
took_locks m v l s (Some damage) = refl

do_locks : (m : Setup) (v : ℕ → LockValue) (l : Local) (kind : CallKind) (s : CheckedState) → l.spot ≡ InChecked DoChecked kind → locks_of (do_checked m v l kind s).local ≡ locks_at (InChecked DoChecked kind) l.cache
do_locks m v l Alloc s is = gave_locks m v l (m.means.give s) (m.means.gave s)
do_locks m v l Free s is = took_locks m v l s (damage_of_used s (slot_of l))
do_locks m v l Write s is = refl
do_locks m v l Read s is = refl
do_locks m v l Poke s is = refl
do_locks m v l kind s is = stay l (InChecked DoChecked kind) is

checked_run : (v : ℕ → LockValue) (pool : FreeFrames) (layout : Layout) (l : Local) (found : Option FrameRun) → locks_of (run_taken v pool layout (at l (way_of_found found)) found).local ≡ locks_at (InChecked MoveRun Alloc) l.cache
checked_run v pool layout l None = refl
checked_run v pool layout l (Some run) = refl

run_locks : (m : Setup) (v : ℕ → LockValue) (l : Local) (kind : CallKind) (pool : FreeFrames) → locks_of (move_run m v l kind pool).local ≡ locks_at (InChecked MoveRun kind) l.cache
run_locks m v l Alloc pool = checked_run v pool (m.layout l.cache) l (found_run m pool (m.layout l.cache))
run_locks m v l kind pool = refl

-- the worker has the same locks after it
at_once_at : (m : Setup) (r : Bool) (v : ℕ → LockValue) (l : Local) (s : Spot) → l.spot ≡ s → locks_of (at_once m r v l s).local ≡ locks_at s l.cache
at_once_at m r v l (InAlloc s) is = alloc_locks m v l s is
at_once_at m r v l (InPutAway s away) is = away_locks v l s away is
at_once_at m r v l (InDiscard s discard) is = discard_locks v l s discard is
at_once_at m r v l (InFree s) is = free_locks m v l s is
at_once_at m r v l (InMoveSet s move) is = move_locks v l s move is
at_once_at m r v l (InTrim s) is = trim_locks m v l s is
at_once_at m r v l (InChecked DoChecked kind) is = do_locks m v l kind (slabs_of m v l) is
at_once_at m r v l (InChecked MoveRun kind) is = run_locks m v l kind (pool_in (v pool_lock))
at_once_at m r v l (InChecked AddSlab kind) is = either r _ _ _ refl refl
at_once_at m r v l s is = stay l s is

pub at_once_locks : (m : Setup) (r : Bool) (v : ℕ → LockValue) (l : Local) → locks_of (at_once m r v l l.spot).local ≡ locks_of l
at_once_locks m r v l = at_once_at m r v l l.spot refl
