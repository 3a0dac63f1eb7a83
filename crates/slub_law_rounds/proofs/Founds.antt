-- Where an object that is given was free, and what is there where none is.
use Rattle.std.proofs.Common.{◌≡◌, ◌≢◌, ℕ, zero, suc, ◌+◌, ◌<◌, ◌≤◌, Bool, true, false, cond, List, [], ◌∷◌, length, drop, get_or, set, map, unwrap_or, is_some, refl, sym, ◌∙◌, ap, subst, arith, Option, Some, None, IsSome, IfSome, MatchOption, MatchResult, Result, Ok, Err, inl, inr, ◌⊎◌, get_or-set_other, get_or-set_same, length-set, pow_pos, All}
use Rattle.std.specs.List.{Contains, range_with_len}
use Rattle.std.specs.Prelude.{slice_get}
use Rattle.std.proofs.lemmas.Bool.{cases_eq}
use Rattle.std.proofs.lemmas.List.Elements.{All-cons}
use Rattle.std.proofs.lemmas.Option.{slice_get-get_or}
use Rattle.slub_common.specs.Times.{times}
use Rattle.slub_common.proofs.Times.{times-cons_same}
use Rattle.slub_lists.proofs.Sweeping.{at-counted}
use Rattle.slub_page_pool.specs.FreeFrames.{FreeFrames}
use Rattle.slub_page_pool.specs.Block.{HasNoBlock, IsTaken}
use Rattle.slub_object_layout.specs.declared.layout.Layout.{Layout}
use Rattle.slub_object_layout.specs.Layout.{address_of}
use Rattle.slub_trace.specs.declared.damage.Damage.{Damage}
use Rattle.slub_red_zone.specs.declared.slab.ObjectState.{ObjectState}
use Rattle.slub_red_zone.specs.declared.slab.ObjectState.TheVariants.{Free, Used, Aside}
use Rattle.slub_red_zone.specs.declared.checked.CheckedGive.{CheckedGive}
use Rattle.slub_red_zone.specs.declared.checked.CheckedGive.TheVariants as give
use Rattle.slub_red_zone.specs.declared.checked.Slot.{Slot}
use Rattle.slub_red_zone.specs.Sound.{IsSound, is_stocked}
use Rattle.slub_red_zone.specs.Zones.{damage_when_given}
use Rattle.slub_red_zone.specs.State.{CheckedState, SlabState, no_slab, slab_of as checked_slab, slot_of, state_of}
use Rattle.slub_red_zone.specs.Steps.{Gives as GivesObject, IsNext, damage_of_free, next_is_damaged, next_is_whole, nothing_listed, set_aside, slab_set_aside, with_damaged}
use Rattle.slub_red_zone.proofs.Given.{damaged-sound, next-frame, next-object, next-slab}
use Rattle.slub_red_zone.proofs.OneSlab.{first-is-free}
use Rattle.slub_red_zone.proofs.Sums.{slab_at-set}
use Rattle.slub_lists.specs.declared.lists.CpuLists.{CpuLists}
use Rattle.slub_lists.specs.declared.lists.Held.{Held}
use Rattle.slub_lists.specs.declared.lists.Run.{Run}
use Rattle.slub_trace.specs.declared.reply.Reply.{Reply}
use Rattle.slub_trace.specs.declared.reply.Reply.TheVariants as reply
use Rattle.slub_lists.specs.State.{State}
use Rattle.slub_lists.specs.Checked.{AllocatesChecked, GivesOrMakes, GivesSlot, LacksMemory, LacksRun, first_slot, with_checked, with_checked_slab}
use Rattle.slub_lists.specs.Coherent.{IsCheckedOf, IsCoherent}
use Rattle.slub_lists.proofs.CheckedSlabs.{at_some}
use Rattle.slub_lists.specs.Alloc.{Allocates, AllocatesNew, FindsRun, Gives, batch_of, checked_of, cpu_place, from_current, from_free, from_node, from_partial, from_slabs, lists_of, no_lists, node_of, own_free, retired, stocked, taken_up, with_lists, with_new_slab, with_node}
use Rattle.slub_law_rounds.specs.Event.{HasNoObject, IsFree, first_free, in_checked, in_frames, on_cpu, on_current, on_node, on_partial}

pub injected : {A : Type 0} {x y : A} → Some x ≡ Some y → x ≡ y
injected e = cc

-- what is written at a place of a CPU is there
lists-with : (s : State) (cache cpu : ℕ) (v : CpuLists) → cpu_place s cache cpu < length s.cpu_lists → lists_of (with_lists s cache cpu v) cache cpu ≡ v
lists-with s cache cpu v within = get_or-set_same s.cpu_lists (cpu_place s cache cpu) v no_lists within

first-there : (xs : List ℕ) (x : ℕ) (rest : List ℕ) → xs ≡ x ∷ rest → Contains xs x
first-there xs x rest is = subst (λ l. Contains l x) (sym is) (0, omega arith, refl)

-- ---- an object of a cache that isn't checked

module _ (s : State) (cache cpu : ℕ) (layout : Layout) (worker object : ℕ) (answer : Reply) (after : State) (within : cpu_place s cache cpu < length s.cpu_lists) where
  abbrev Mine : ℕ → ℕ → Held
  Mine frame index = record { frame = frame; index = index; cache = cache; worker = Some worker }

  -- what is taken up stands on the CPU freelist
  of-taken : (mid : State) (frame : ℕ) (partial : List ℕ) → cpu_place mid cache cpu < length mid.cpu_lists → ((index : ℕ) → Contains (own_free mid frame) index → IsFree s cache cpu (Mine frame index))
      → (gives : Gives (taken_up mid cache cpu frame partial) layout cache cpu worker object answer after) → IsFree s cache cpu (Mine gives.frame gives.index)
  of-taken mid frame partial inside free gives =
      let lists = lists-with (record mid { slabs = (taken_up mid cache cpu frame partial).slabs; frees = (taken_up mid cache cpu frame partial).frees }) cache cpu (record { current = Some frame; free = own_free mid frame; partial = partial }) inside in
      let same : frame ≡ gives.frame = injected (sym (ap (λ (l : CpuLists). l.current) lists) ∙ gives.current) in
      let first : own_free mid frame ≡ gives.index ∷ gives.rest = sym (ap (λ (l : CpuLists). l.free) lists) ∙ gives.first in
      subst (λ f. IsFree s cache cpu (Mine f gives.index)) same (free gives.index (first-there (own_free mid frame) gives.index gives.rest first))

  -- where a slab is found, the object was free; where none is, nothing is there
  abbrev IsFound : Result State State → Type 0
  IsFound (Ok mid) = (gives : Gives mid layout cache cpu worker object answer after) → IsFree s cache cpu (Mine gives.frame gives.index)
  IsFound (Err bare) = (bare.pool ≡ s.pool) × (node_of s cache ≡ []) × ((lists_of s cache cpu).partial ≡ []) × (cpu_place bare cache cpu < length bare.cpu_lists)

  module _ (batch : ℕ) where
    node-found : (mid : State) → cpu_place mid cache cpu < length mid.cpu_lists → mid.frees ≡ s.frees → mid.pool ≡ s.pool → (lists_of s cache cpu).partial ≡ [] → (frames : List ℕ) → node_of s cache ≡ frames → IsFound (from_node mid cache cpu batch frames)
    node-found mid inside frees pool none [] is = (pool, is, none, inside)
    node-found mid inside frees pool none (frame ∷ frames) is =
        of-taken (with_node mid cache _) frame _ inside (λ index there. on_node (first-there (node_of s cache) frame frames is) (subst (λ f. Contains (get_or f frame []) index) frees there))

    partial-found : (mid : State) → cpu_place mid cache cpu < length mid.cpu_lists → mid.frees ≡ s.frees → mid.pool ≡ s.pool → node_of mid cache ≡ node_of s cache → (frames : List ℕ) → (lists_of s cache cpu).partial ≡ frames
        → IsFound (from_partial mid cache cpu batch frames)
    partial-found mid inside frees pool nodes [] is = node-found mid inside frees pool is (node_of mid cache) (sym nodes)
    partial-found mid inside frees pool nodes (frame ∷ frames) is =
        of-taken mid frame frames inside (λ index there. on_partial (first-there (lists_of s cache cpu).partial frame frames is) (subst (λ f. Contains (get_or f frame []) index) frees there))

    current-found : (frame : ℕ) → (lists_of s cache cpu).current ≡ Some frame → (free : List ℕ) → own_free s frame ≡ free → IsFound (from_current s cache cpu batch frame free)
    current-found frame current [] is =
        let rest : State = retired s cache cpu frame in
        let lists : lists_of rest cache cpu ≡ record { current = None; free = []; partial = (lists_of s cache cpu).partial } = lists-with (record s { slabs = rest.slabs }) cache cpu (record { current = None; free = []; partial = (lists_of s cache cpu).partial }) within in
        partial-found rest (omega (arith, within, length-set s.cpu_lists (cpu_place s cache cpu) (record { current = None; free = []; partial = (lists_of s cache cpu).partial }))) refl refl refl (lists_of rest cache cpu).partial (sym (ap (λ (l : CpuLists). l.partial) lists))
    current-found frame current (index ∷ free) is = of-taken s frame (lists_of s cache cpu).partial within (λ index there. on_current current there)

    slabs-found : (current : Option ℕ) → (lists_of s cache cpu).current ≡ current → IsFound (from_slabs s cache cpu batch current)
    slabs-found None is = partial-found s within refl refl refl (lists_of s cache cpu).partial refl
    slabs-found (Some frame) is = current-found frame is (own_free s frame) refl

    free-found : (free : List ℕ) → (lists_of s cache cpu).free ≡ free → IsFound (from_free s cache cpu batch free)
    free-found [] is = slabs-found (lists_of s cache cpu).current refl
    free-found (index ∷ free) is = λ gives. on_cpu gives.current (first-there (lists_of s cache cpu).free gives.index gives.rest gives.first)

-- ---- where no slab is found, every list is empty

-- the lists of the CPU, where no slab was found
pub record IsEmpty (s : State) (cache cpu : ℕ) : Type 0 where
  pub on_cpu : (lists_of s cache cpu).free ≡ []
  pub on_current : IfSome (lists_of s cache cpu).current (λ frame. own_free s frame ≡ [])

abbrev EmptyOr : State → ℕ → ℕ → Result State State → Type 0
EmptyOr s cache cpu (Ok mid) = Unit {0}
EmptyOr s cache cpu (Err bare) = IsEmpty s cache cpu

module _ (s : State) (cache cpu batch : ℕ) where
  node-empty : IsEmpty s cache cpu → (mid : State) (frames : List ℕ) → EmptyOr s cache cpu (from_node mid cache cpu batch frames)
  node-empty empty mid [] = empty
  node-empty empty mid (frame ∷ frames) = tt

  partial-empty : IsEmpty s cache cpu → (mid : State) (frames : List ℕ) → EmptyOr s cache cpu (from_partial mid cache cpu batch frames)
  partial-empty empty mid [] = node-empty empty mid (node_of mid cache)
  partial-empty empty mid (frame ∷ frames) = tt

  current-empty : (frame : ℕ) → (lists_of s cache cpu).free ≡ [] → (lists_of s cache cpu).current ≡ Some frame → (free : List ℕ) → own_free s frame ≡ free → EmptyOr s cache cpu (from_current s cache cpu batch frame free)
  current-empty frame none current [] is =
      let rest : State = retired s cache cpu frame in
      partial-empty (record { on_cpu = none; on_current = subst (λ x. IfSome x (λ frame. own_free s frame ≡ [])) (sym current) is }) rest (lists_of rest cache cpu).partial
  current-empty frame none current (index ∷ free) is = tt

  slabs-empty : (lists_of s cache cpu).free ≡ [] → (current : Option ℕ) → (lists_of s cache cpu).current ≡ current → EmptyOr s cache cpu (from_slabs s cache cpu batch current)
  slabs-empty none None is = partial-empty (record { on_cpu = none; on_current = subst (λ x. IfSome x (λ frame. own_free s frame ≡ [])) (sym is) tt }) s (lists_of s cache cpu).partial
  slabs-empty none (Some frame) is = current-empty frame none is (own_free s frame) refl

  free-empty : (free : List ℕ) → (lists_of s cache cpu).free ≡ free → EmptyOr s cache cpu (from_free s cache cpu batch free)
  free-empty [] is = slabs-empty is (lists_of s cache cpu).current refl
  free-empty (index ∷ free) is = tt

-- ---- what an allocation finds

-- an object that was free comes on the board
pub record Finds (s : State) (cache cpu worker object : ℕ) (layout : Layout) (answer : Reply) (after : State) : Type 0 where
  pub held : Held
  pub board : List (Option Held)
  pub address : answer ≡ reply.Given (address_of held.frame held.index layout)
  pub now : after.board ≡ set board object (Some held)
  pub free : IsFree s cache cpu held

-- or nothing is there
pub data Outcome (s : State) (cache cpu worker object : ℕ) (layout : Layout) (answer : Reply) (after : State) : Type 0 where
  finds : Finds s cache cpu worker object layout answer after → Outcome s cache cpu worker object layout answer after
  nothing : HasNoObject s cache cpu → HasNoBlock s.pool.free layout.min_order → answer ≡ reply.NoFrames → Outcome s cache cpu worker object layout answer after
  no_memory : answer ≡ reply.NoMemory → Outcome s cache cpu worker object layout answer after

-- ---- the slabs of a checked cache

-- what is set aside isn't free
none-free : (states : List ObjectState) (i : ℕ) → slice_get (map set_aside states) i ≡ Some Free → ⊥
none-free [] i e = cc
none-free (Free ∷ states) zero e = cc
none-free (Used ∷ states) zero e = cc
none-free (Aside ∷ states) zero e = cc
none-free (state ∷ states) (suc i) e = none-free states i e

module _ (slabs : CheckedState) (slot : Slot) (damage : Damage) (sound : IsSound slabs) (next : IsNext slabs slot) where
  slot-inside : slot.frame < length slabs.slabs
  slot-inside = next-frame slabs slot sound next

  same-slab : (frame : ℕ) → frame ≢ slot.frame → checked_slab (with_damaged slabs slot damage) frame ≡ checked_slab slabs frame
  same-slab frame differ = ap (λ x. unwrap_or x no_slab) (get_or-set_other slabs.slabs slot.frame frame (Some (slab_set_aside (checked_slab slabs slot.frame))) None differ)

  aside-slab : checked_slab (with_damaged slabs slot damage) slot.frame ≡ slab_set_aside (checked_slab slabs slot.frame)
  aside-slab = slab_at-set slabs.slabs slot.frame (slab_set_aside (checked_slab slabs slot.frame)) slot-inside

  -- an object that is free after was free before
  pub free-back : (other : Slot) → state_of (with_damaged slabs slot damage) other ≡ Some Free → state_of slabs other ≡ Some Free
  free-back other free = elim (cases_eq other.frame slot.frame) [
    | inl same ↦ absurd (none-free (checked_slab slabs slot.frame).states other.index
        (sym (ap (λ (slab : SlabState). slice_get slab.states other.index) (ap (checked_slab (with_damaged slabs slot damage)) same ∙ aside-slab)) ∙ free))
    | inr differ ↦ sym (ap (λ (slab : SlabState). slice_get slab.states other.index) (same-slab other.frame differ)) ∙ free
  ]

-- the first free object of the first listed slab is free
pub first-state : (s : CheckedState) (slot : Slot) → IsSound s → IsNext s slot → state_of s slot ≡ Some Free
first-state s slot sound next =
    slice_get-get_or (checked_slab s slot.frame).states slot.index Aside (next-object s slot sound next)
    ∙ ap Some (first-is-free s.layout (checked_slab s slot.frame) (next-slab s slot sound next) slot.index (drop 1 (checked_slab s slot.frame).free) next.free)

-- an object that is given was free
given-free : (slabs : CheckedState) (slot : Slot) (rest : CheckedState) → IsSound slabs → GivesObject slabs (give.Given slot) rest → state_of slabs slot ≡ Some Free
given-free slabs slot rest sound asked = by slabs (give.Given slot) rest sound asked slot refl
  where
    given-slot : {x y : Slot} → give.Given x ≡ give.Given y → x ≡ y
    given-slot e = cc

    by : (slabs : CheckedState) (answer : CheckedGive) (rest : CheckedState) → IsSound slabs → GivesObject slabs answer rest → (slot : Slot) → answer ≡ give.Given slot → state_of slabs slot ≡ Some Free
    by _ _ _ sound (nothing_listed s none) slot is = absurd (let never : give.Empty ≡ give.Given slot = is in cc)
    by _ _ _ sound (next_is_whole s first next whole) slot is =
        let same : first ≡ slot = given-slot is in
        subst (λ (x : Slot). state_of s x ≡ Some Free) same (first-state s first sound next)
    by _ _ _ sound (next_is_damaged s first damage answer after next damaged asked) slot is =
        free-back s first damage sound next slot (by (with_damaged s first damage) answer after (damaged-sound s first sound next damage) asked slot is)

get_or_default : (xs : List ℕ) (k a b : ℕ) → k < length xs → get_or xs k a ≡ get_or xs k b
get_or_default [] k a b within = absurd (omega (arith, within))
get_or_default (x ∷ xs) zero a b within = refl
get_or_default (x ∷ xs) (suc k) a b within = get_or_default xs k a b (omega (arith, within))

-- where none is given, the first free object of each listed slab is damaged
abbrev IsBad : CheckedState → ℕ → Type 0
IsBad slabs frame = IsSome (damage_of_free slabs (first_free slabs frame))

module _ (s : CheckedState) (slot : Slot) (damage : Damage) (sound : IsSound s) (next : IsNext s slot) where
  -- the first slab isn't listed twice
  listed-apart : (k : ℕ) → k < length (drop 1 s.listed) → get_or (drop 1 s.listed) k 0 ≢ slot.frame
  listed-apart k within same =
      let twice : times slot.frame s.listed ≡ 1 + times slot.frame (drop 1 s.listed) = ap (times slot.frame) next.listed ∙ times-cons_same slot.frame slot.frame (drop 1 s.listed) refl in
      let there : 0 < times (get_or (drop 1 s.listed) k 0) (drop 1 s.listed) = at-counted k (drop 1 s.listed) within in
      let again : 0 < times slot.frame (drop 1 s.listed) = subst (λ f. 0 < times f (drop 1 s.listed)) same there in
      absurd (omega (arith, twice, again, sound.listed slot.frame, at-most-one (is_stocked (get_or s.slabs slot.frame None))))
    where
      at-most-one : (b : Bool) → cond b 1 0 ≤ 1
      at-most-one true = omega arith
      at-most-one false = omega arith

  -- what is bad in the others is so before
  bad-back : (frame : ℕ) → frame ≢ slot.frame → IsBad (with_damaged s slot damage) frame → IsBad s frame
  bad-back frame differ bad =
      subst (λ (slab : SlabState). IsSome (damage_when_given s.layout s.flags (slot_of s.layout slab.bytes (get_or slab.free 0 0)))) (same-slab s slot damage sound next frame differ) bad

  bad-first : damage_of_free s slot ≡ Some damage → IsBad s slot.frame
  bad-first damaged =
      let same : get_or (checked_slab s slot.frame).free 0 0 ≡ slot.index = ap (λ l. get_or l 0 0) next.free in
      subst (λ i. IsSome (damage_when_given s.layout s.flags (slot_of s.layout (checked_slab s slot.frame).bytes i))) (sym same) (ap is_some damaged)

  bad-all : damage_of_free s slot ≡ Some damage → All (IsBad (with_damaged s slot damage)) (drop 1 s.listed) → All (IsBad s) s.listed
  bad-all damaged rest =
      subst (All (IsBad s)) (sym next.listed)
      (All-cons (IsBad s) slot.frame (drop 1 s.listed) (bad-first damaged)
      (λ k d within. bad-back (get_or (drop 1 s.listed) k d) (λ same. listed-apart k within (get_or_default (drop 1 s.listed) k 0 d within ∙ same)) (rest k d within)))

all-damaged : (slabs rest : CheckedState) → IsSound slabs → GivesObject slabs give.Empty rest → All (IsBad slabs) slabs.listed
all-damaged slabs rest sound asked = by slabs give.Empty rest sound asked refl
  where
    by : (slabs : CheckedState) (answer : CheckedGive) (rest : CheckedState) → IsSound slabs → GivesObject slabs answer rest → answer ≡ give.Empty → All (IsBad slabs) slabs.listed
    by _ _ _ sound (nothing_listed s none) is = subst (All (IsBad s)) (sym none) (λ k d within. absurd (omega (arith, within)))
    by _ _ _ sound (next_is_whole s first next whole) is = absurd (let never : give.Given first ≡ give.Empty = is in cc)
    by _ _ _ sound (next_is_damaged s first damage answer after next damaged asked) is =
        bad-all s first damage sound next damaged (by (with_damaged s first damage) answer after (damaged-sound s first sound next damage) asked is)

-- the run of a new slab was free
pub run-free : (old : FreeFrames) (layout : Layout) (run : Run) (new : FreeFrames) → FindsRun old layout (Some run) new → Contains old.free run.frame
run-free old layout run new found = elim found [
  | inl wide ↦ taken layout.order wide.2.0
  | inr least ↦ taken layout.min_order least.4.0
]
  where
    taken : (order : ℕ) → IsTaken old.free order run.frame → Contains old.free run.frame
    taken order is = is.block.run.all_free run.frame (omega arith) (omega (arith, pow_pos is.found))

module _ (s : State) (cache cpu worker object : ℕ) (layout : Layout) (answer : Reply) (after : State) where
  abbrev Result' : Type 0
  Result' = Outcome s cache cpu worker object layout answer after

  module _ (within : cpu_place s cache cpu < length s.cpu_lists) (unchecked : checked_of s cache ≡ None) where
    given-finds : (mid : State) → (gives : Gives mid layout cache cpu worker object answer after) → IsFree s cache cpu (record { frame = gives.frame; index = gives.index; cache = cache; worker = Some worker }) → Result'
    given-finds mid gives free = finds (record {
      held = record { frame = gives.frame; index = gives.index; cache = cache; worker = Some worker };
      board = mid.board;
      address = gives.address;
      now = ap (λ (t : State). t.board) gives.given;
      free = free;
    })

    of-new : (bare : State) → cpu_place bare cache cpu < length bare.cpu_lists → bare.pool ≡ s.pool → IsEmpty s cache cpu → node_of s cache ≡ [] → (lists_of s cache cpu).partial ≡ [] → (run : Option Run) (pool : FreeFrames) → FindsRun bare.pool layout run pool
        → MatchOption run ((answer ≡ reply.NoFrames) × (after ≡ record bare { pool = pool })) (λ run. Gives (with_new_slab bare cache cpu pool run) layout cache cpu worker object answer after) → Result'
    of-new bare inside same empty node partial None pool found none =
        nothing (record { on_cpu = empty.on_cpu; on_current = empty.on_current; on_partial = partial; on_node = node; in_checked = subst (λ x. IfSome x (λ slabs. All (λ frame. IsSome (damage_of_free slabs (first_free slabs frame))) slabs.listed)) (sym unchecked) tt })
        (subst (λ (p : FreeFrames). HasNoBlock p.free layout.min_order) same found.1.1) none.0
    of-new bare inside same empty node partial (Some run) pool found gives =
        given-finds (with_new_slab bare cache cpu pool run) gives
        (in_frames (subst (Contains s.pool.free) (at-run gives.current) (subst (λ (p : FreeFrames). Contains p.free run.frame) same (run-free bare.pool layout run pool found))))
      where
        at-run : (lists_of (with_new_slab bare cache cpu pool run) cache cpu).current ≡ Some gives.frame → run.frame ≡ gives.frame
        at-run current =
            let lists = lists-with (record bare { pool = pool; slabs = (with_new_slab bare cache cpu pool run).slabs }) cache cpu (record { current = Some run.frame; free = range_with_len 0 run.objects; partial = (lists_of bare cache cpu).partial }) inside in
            injected (sym (ap (λ (l : CpuLists). l.current) lists) ∙ current)

    of-stock : (r : Result State State) → IsFound s cache cpu layout worker object answer after within r → EmptyOr s cache cpu r
        → MatchResult r (λ stocked. Gives stocked layout cache cpu worker object answer after) (λ bare. AllocatesNew bare layout cache cpu worker object answer after) → Result'
    of-stock (Ok mid) found empty gives = given-finds mid gives (found gives)
    of-stock (Err bare) found empty new = of-new bare found.3 found.0 empty found.1 found.2 new.0 new.1 new.2 new.3

    pub of-unchecked : Allocates s layout cache cpu worker object answer after → Result'
    of-unchecked done =
        of-stock (stocked s layout cache cpu) (free-found s cache cpu layout worker object answer after within (batch_of layout) (lists_of s cache cpu).free refl)
        (free-empty s cache cpu (batch_of layout) (lists_of s cache cpu).free refl) done

  -- ---- a checked cache

  module _ (coherent : IsCoherent s) (slabs : CheckedState) (was : checked_of s cache ≡ Some slabs) (cpu_within : cpu < s.cpus) where
    of : IsCheckedOf s cache slabs
    of = at_some (checked_of s cache) slabs (IsCheckedOf s cache) was (coherent.shaped.checked.those cache)

    slot-finds : (mid : State) (slot : Slot) → IsFree s cache cpu (record { frame = slot.frame; index = slot.index; cache = cache; worker = Some worker }) → GivesSlot mid layout cache worker object slot answer after → Result'
    slot-finds mid slot free given = finds (record {
      held = record { frame = slot.frame; index = slot.index; cache = cache; worker = Some worker };
      board = mid.board;
      address = given.address;
      now = ap (λ (t : State). t.board) given.given;
      free = free;
    })

    -- nothing of the cache is on a CPU or the node
    no-lists : lists_of s cache cpu ≡ no_lists
    no-lists = of.unlisted cpu cpu_within

    of-run : (rest : CheckedState) → GivesObject slabs give.Empty rest → (run : Option Run) (pool : FreeFrames) → FindsRun s.pool layout run pool
        → MatchOption run (LacksRun (with_checked s cache rest) pool answer after) (λ run. LacksMemory (with_checked s cache rest) pool run answer after ⊎ GivesSlot (with_checked_slab (with_checked s cache rest) cache pool run rest) layout cache worker object (first_slot run) answer after)
        → Result'
    of-run rest asked None pool found none =
        nothing (record {
          on_cpu = ap (λ (l : CpuLists). l.free) no-lists;
          on_current = subst (λ x. IfSome x (λ frame. own_free s frame ≡ [])) (sym (ap (λ (l : CpuLists). l.current) no-lists)) tt;
          on_partial = ap (λ (l : CpuLists). l.partial) no-lists;
          on_node = of.off_node;
          in_checked = subst (λ x. IfSome x (λ slabs. All (λ frame. IsSome (damage_of_free slabs (first_free slabs frame))) slabs.listed)) (sym was) (all-damaged slabs rest of.sound asked);
        }) found.1.1 none.0
    of-run rest asked (Some run) pool found (inl none) = no_memory none.0
    of-run rest asked (Some run) pool found (inr given) =
        slot-finds (with_checked_slab (with_checked s cache rest) cache pool run rest) (first_slot run) (in_frames (run-free s.pool layout run pool found)) given

    of-found : (rest : CheckedState) (found : CheckedGive) → GivesObject slabs found rest → GivesOrMakes (with_checked s cache rest) layout cache rest worker object found answer after → Result'
    of-found rest (give.Given slot) asked given =
        slot-finds (with_checked s cache rest) slot
        (in_checked (subst (λ x. IfSome x (λ slabs. state_of slabs slot ≡ Some Free)) (sym was) (given-free slabs slot rest of.sound asked)) (ap is_some was)) given
    of-found rest give.Empty asked makes = of-run rest asked makes.0 makes.1 makes.2 makes.3

    pub of-checked : AllocatesChecked s layout cache slabs worker object answer after → Result'
    of-checked done = of-found done.1 done.0 done.2 done.3
