-- What the steps of an allocation from a checked cache add up to.
use Rattle.std.proofs.Common.{◌≡◌, ℕ, zero, suc, ◌^◌, ◌<◌, ◌≤◌, List, [], ◌∷◌, length, get_or, get_or-set_same, set, sum_by, Option, Some, None, is_some, IsSome, true, false, MatchOption, Ok, Err, inl, inr, refl, ap, sym, ◌∙◌, subst, arith}
use Rattle.slub_page_pool.specs.Block.{CanPut}
use Rattle.slub_page_pool.specs.FreeFrames.{IsPool}
use Rattle.slub_object_layout.specs.declared.layout.Layout.{Layout}
use Rattle.slub_object_layout.specs.Layout.{address_of, IsSized}
use Rattle.slub_red_zone.specs.declared.checked.CheckedGive.TheVariants as give
use Rattle.slub_red_zone.specs.declared.checked.Slot.{Slot}
use Rattle.slub_common.specs.declared.no_memory.NoMemory.{NoMemory}
use Rattle.slub_red_zone.specs.Objects.{AddsGivenSlab, AddsReports, findable}
use Rattle.slub_red_zone.specs.State.{CheckedState, Has}
use Rattle.slub_red_zone.specs.Steps.{with_given as slab_given, with_new_slab}
use Rattle.slub_lists.specs.declared.lists.Run.{Run}
use Rattle.slub_trace.specs.declared.reply.Reply.{Reply}
use Rattle.slub_trace.specs.declared.reply.Reply.TheVariants.{Given, NoFrames, NoMemory as NoMemoryLeft}
use Rattle.slub_lists.specs.State.{State}
use Rattle.slub_lists.specs.Alloc.{cache_of, checked_of, held_here, with_held, HasLayout}
use Rattle.slub_lists.specs.Checked.{AllocatesChecked, AllocatesNewChecked, first_slot, new_given, put_back, with_checked}
use Rattle.slub_lists.specs.CheckedSteps.{FindsRunIn, GivesIn, GivesNewIn, run_of, slab_of_run}
use Rattle.slub_lists.specs.Coherent.{AddsReportsOf, IsConsistent, findable_in, has_object}
use Rattle.slub_lists.specs.Steps.{KeepsFound}
use Rattle.slub_lists.proofs.Accounted.{accounted-most}
use Rattle.slub_lists.proofs.Found.{found-same}
use Rattle.slub_lists.proofs.Runs.{IsRunFor, run-for}
use Rattle.slub_lists.proofs.CheckedSlabs.{findable-with, found-with, keeps-consistent, reports-from, reports-trans, reports-with}
use Rattle.slub_common.proofs.Writes.{inside-of}
use Rattle.slub_lists.proofs.CheckedGiving.{given-consistent, given-frame, given-index, given-unheld, layout-live, the-value}
use Rattle.slub_lists.proofs.CheckedComing.{coming, coming-consistent, new-lacks, new-sized, put-back-consistent, run-can-put, run-first, run-none, run-slot}
use Rattle.slub_lists.proofs.CheckedTaking.{with-checked-same}

-- what is said of the slabs of a checked cache
pub of-slabs : (x : Option CheckedState) (slabs : CheckedState) (P : CheckedState → Type 0) → x ≡ Some slabs → P slabs → MatchOption x ⊥ P
of-slabs x slabs P was h = subst (λ (x : Option CheckedState). MatchOption x ⊥ P) (sym was) h

pub slabs-of : (x : Option CheckedState) (slabs : CheckedState) (P : CheckedState → Type 0) → x ≡ Some slabs → MatchOption x ⊥ P → P slabs
slabs-of x slabs P was h = subst (λ (x : Option CheckedState). MatchOption x ⊥ P) was h

-- what is read inside a list is there, whatever stands for what is past its end
same-default : {A : Type 0} (xs : List A) (i : ℕ) (d e : A) → i < length xs → get_or xs i d ≡ get_or xs i e
same-default [] i d e inside = absurd (omega arith)
same-default (x ∷ xs) zero d e inside = refl
same-default (x ∷ xs) (suc i) d e inside = same-default xs i d e (omega arith)

pub read-slabs : (s : State) (cache : ℕ) (x : Option CheckedState) (slabs : CheckedState) (P : CheckedState → Type 0) → MatchOption (checked_of s cache) ⊥ P → x ≡ get_or s.checked cache x → x ≡ Some slabs → checked_of s cache ≡ Some slabs
read-slabs s cache x slabs P there read is =
    let the = the-value (checked_of s cache) P there in
    same-default s.checked cache None x (inside-of s.checked cache the.0 the.1) ∙ sym read ∙ is

-- the slabs that were read are those of the cache, or it has none
pub read-some : {X : Type 0} (xs : List (Option X)) (i : ℕ) (x : Option X) → i < length xs → x ≡ get_or xs i x → is_some x ≡ true → IsSome (get_or xs i None)
read-some {X} xs i x inside read is = subst (λ (y : Option X). is_some y ≡ true) (read ∙ same-default xs i x None inside) is

pub read-none : {X : Type 0} (xs : List (Option X)) (i : ℕ) (x : Option X) → i < length xs → x ≡ get_or xs i x → is_some x ≡ false → get_or xs i None ≡ None
read-none {X} xs i x inside read isnt = bare (get_or xs i None) (subst (λ (y : Option X). is_some y ≡ false) (read ∙ same-default xs i x None inside) isnt)
  where
    bare : (y : Option X) → is_some y ≡ false → y ≡ None
    bare None e = refl
    bare (Some z) e = absurd (let never : ⊥ = cc in never)

-- the numbers of a live cache
pub cache-live : (s : State) (cache : ℕ) (layout : Layout) → HasLayout s cache layout → IsConsistent s → cache < length s.live
cache-live s cache layout has consistent =
    let live = the-value (cache_of s cache) (λ live. live.layout ≡ layout) has in
    omega (arith, inside-of s.table.caches cache live.0 live.1, consistent.shaped.table.numbers, consistent.shaped.live)

pub live-room : (s : State) (cache : ℕ) → IsConsistent s → get_or s.live cache 0 ≤ 2 ^ 32
live-room s cache consistent = omega (arith, accounted-most s cache consistent.accounted, consistent.shaped.board)

-- where no run is there
pub none-allocates : (s t : State) (cache : ℕ) (layout : Layout) → IsSome (checked_of s cache) → (finds : FindsRunIn s layout None t) (worker object : ℕ)
    → MatchOption (checked_of s cache) ⊥ (λ slabs. AllocatesNewChecked s layout cache slabs worker object NoFrames t)
none-allocates s t cache layout there finds worker object = by-slabs (checked_of s cache) there
  where
    by-slabs : (x : Option CheckedState) → IsSome x → MatchOption x ⊥ (λ slabs. AllocatesNewChecked s layout cache slabs worker object NoFrames t)
    by-slabs None there = cc
    by-slabs (Some slabs) there = (None, finds.pool, finds.found, (refl, finds.now))

-- the slabs are the same after it
pub some-slabs : (s t : State) (cache : ℕ) (layout : Layout) (answer : Option Run) → FindsRunIn s layout answer t → IsSome (checked_of s cache) → (slabs : CheckedState) × (checked_of t cache ≡ Some slabs)
some-slabs s t cache layout answer finds there =
    let the = found-value (checked_of s cache) there in
    (the.0, ap (λ (t : State). checked_of t cache) finds.now ∙ the.1)
  where
    found-value : {X : Type 0} (x : Option X) → IsSome x → (y : X) × (x ≡ Some y)
    found-value None there = cc
    found-value (Some y) there = (y, refl)

-- ---- a new slab

module _ (s t : State) (cache : ℕ) (layout : Layout) (run : Run) (consistent : IsConsistent s) (has : HasLayout s cache layout) (finds : FindsRunIn s layout (Some run) t) where
  is-run : IsRunFor s.pool layout run finds.pool
  is-run = run-for s.pool layout run finds.pool finds.found

  pub found-first : (1 ≤ run.frame) × (run.frame < 4096)
  found-first = run-first s layout run finds.pool consistent is-run

  pub found-slot : run.frame < length s.slabs
  found-slot = run-slot s layout run finds.pool consistent is-run

  module _ (old : CheckedState) (was : checked_of t cache ≡ Some old) where
    was-before : checked_of s cache ≡ Some old
    was-before = sym (ap (λ (t : State). checked_of t cache) finds.now) ∙ was

    -- no slab begins there, and its order and number of objects are the layout's
    pub found-new : (¬ Has old run.frame) × IsSized old.layout run.order run.objects
    found-new = (new-lacks s cache layout old run finds.pool was-before has consistent is-run, new-sized s cache layout old run finds.pool was-before has consistent is-run)

  -- where no memory is there, nothing has changed yet
  pub unchanged : (u : State) (answer : NoMemory) → GivesNewIn t cache run (Err answer) u → u ≡ record s { pool = finds.pool }
  unchanged u answer gives =
      gives.swaps.now ∙ ap (with_checked t cache) gives.gives ∙ with-checked-same t cache gives.slabs gives.swaps.was ∙ finds.now

  -- and the run comes back
  pub lacking-can-put : (u : State) (answer : NoMemory) → GivesNewIn t cache run (Err answer) u → CanPut u.pool run.frame run.order
  lacking-can-put u answer gives =
      subst (λ (u : State). CanPut u.pool run.frame run.order) (sym (unchanged u answer gives))
      (run-can-put s layout run finds.pool consistent is-run (layout-live s cache layout has consistent.shaped))

  module _ (u v : State) (answer : NoMemory) (gives : GivesNewIn t cache run (Err answer) u) (back : v ≡ record u { pool = put_back u.pool run }) (good : IsPool v.pool) where
    lacking-now : v ≡ record s { pool = put_back finds.pool run }
    lacking-now = back ∙ ap (λ (u : State). record u { pool = put_back u.pool run }) (unchanged u answer gives)

    pub lacking-allocates : (worker object : ℕ) → MatchOption (checked_of s cache) ⊥ (λ slabs. AllocatesNewChecked s layout cache slabs worker object NoMemoryLeft v)
    lacking-allocates worker object =
        of-slabs (checked_of s cache) gives.slabs (λ slabs. AllocatesNewChecked s layout cache slabs worker object NoMemoryLeft v) (was-before gives.slabs gives.swaps.was)
        (Some run, finds.pool, finds.found, inl (refl, lacking-now))

    pub lacking-found : KeepsFound s v
    lacking-found = found-same s v (ap (λ (v : State). v.checked) lacking-now)

    pub lacking-consistent : IsConsistent v
    lacking-consistent =
        subst IsConsistent (sym lacking-now)
        (put-back-consistent s layout run finds.pool consistent is-run (subst (λ (v : State). IsPool v.pool) lacking-now good))

  module _ (u : State) (slot : Slot) (gives : GivesNewIn t cache run (Ok slot) u) where
    -- it can be held
    pub made-slot : (slot.frame < 4096) × (slot.index < layout.objects)
    made-slot =
        let live = layout-live s cache layout has consistent.shaped in
        subst (λ (slot : Slot). (slot.frame < 4096) × (slot.index < layout.objects)) (sym gives.gives.0) (found-first.1, omega (arith, live.1.made.objects.0))

    pub made-inside : run.frame < length u.slabs
    made-inside = subst (λ (u : State). run.frame < length u.slabs) (sym (gives.swaps.now ∙ ap (λ (t : State). with_checked t cache gives.rest) finds.now)) found-slot

  -- the first object of the slab that is made
  module _ (u v : State) (slot : Slot) (gives : GivesNewIn t cache run (Ok slot) u) (entered : v ≡ record u { slabs = set u.slabs run.frame (Some (slab_of_run cache run)) }) where
    made-was : checked_of s cache ≡ Some gives.slabs
    made-was = was-before gives.slabs gives.swaps.was

    made-now : v ≡ coming s cache finds.pool run gives.rest
    made-now =
        entered ∙ ap (λ (u : State). record u { slabs = set u.slabs run.frame (Some (slab_of_run cache run)) }) (gives.swaps.now ∙ ap (λ (t : State). with_checked t cache gives.rest) finds.now)

    made-rest : gives.rest ≡ new_given gives.slabs run
    made-rest = gives.gives.1 ∙ ap (λ (slot : Slot). slab_given (with_new_slab gives.slabs (run_of run) run.objects) slot) gives.gives.0

    made-adds : AddsGivenSlab gives.slabs (run_of run) run.objects (first_slot run) gives.rest
    made-adds = subst (λ (slot : Slot). AddsGivenSlab gives.slabs (run_of run) run.objects slot gives.rest) gives.gives.0 gives.slab

    pub made-lengths : (length v.board ≡ length s.board) × (length v.live ≡ length s.live) × (get_or v.live cache 0 ≡ get_or s.live cache 0)
    made-lengths = (ap (λ (v : State). length v.board) made-now, ap (λ (v : State). length v.live) made-now, ap (λ (v : State). get_or v.live cache 0) made-now)

    module _ (w : State) (worker object address : ℕ) (inside : (1 ≤ object) × (object < length s.board)) (free : get_or s.board object None ≡ None)
        (held : w ≡ with_held v object (record { frame = slot.frame; index = slot.index; cache = cache; worker = Some worker })) where
      made-held : w ≡ with_held (coming s cache finds.pool run gives.rest) object (record { frame = run.frame; index = 0; cache = cache; worker = Some worker })
      made-held =
          held ∙ ap (λ (v : State). with_held v object (record { frame = slot.frame; index = slot.index; cache = cache; worker = Some worker })) made-now
          ∙ ap (λ (slot : Slot). with_held (coming s cache finds.pool run gives.rest) object (record { frame = slot.frame; index = slot.index; cache = cache; worker = Some worker })) gives.gives.0

      pub made-consistent : IsConsistent w
      made-consistent =
          subst IsConsistent (sym made-held)
          (coming-consistent s cache layout gives.slabs run finds.pool made-was has consistent is-run gives.rest finds.good gives.swaps.sound made-adds object worker inside free (cache-live s cache layout has consistent))

      pub made-found : KeepsFound s w
      made-found = found-with s cache gives.slabs gives.rest w made-was (reports-from gives.slabs gives.rest made-adds.reports) made-adds.bounded (ap (λ (w : State). w.checked) made-held)

      pub made-allocates : address ≡ address_of slot.frame slot.index layout → MatchOption (checked_of s cache) ⊥ (λ slabs. AllocatesNewChecked s layout cache slabs worker object (Given address) w)
      made-allocates at =
          let nobody : sum_by (held_here run.frame 0) s.board ≡ 0 = omega (arith, consistent.placed run.frame 0, ap (has_object 0) (run-none s layout run finds.pool consistent is-run)) in
          of-slabs (checked_of s cache) gives.slabs (λ slabs. AllocatesNewChecked s layout cache slabs worker object (Given address) w) made-was (
            Some run,
            finds.pool,
            finds.found,
            inr (record {
              unheld = nobody;
              address = ap Given (at ∙ ap (λ (slot : Slot). address_of slot.frame slot.index layout) gives.gives.0);
              given = made-held ∙ ap (λ (new : CheckedState). with_held (coming s cache finds.pool run new) object (record { frame = run.frame; index = 0; cache = cache; worker = Some worker })) made-rest;
            }),
          )

-- ---- a listed slab

-- at most one more that may be reported, after steps of which one adds none
pub found-after : (s t w : State) (cache : ℕ) (old new : CheckedState) → checked_of s cache ≡ Some old → t ≡ with_checked s cache new → AddsReports old new → findable new ≤ findable old → KeepsFound t w → KeepsFound s w
found-after s t w cache old new was now adds fewer found = record {
  reports = λ other. reports-trans (checked_of s other) (checked_of t other) (checked_of w other)
      (subst (λ (t : State). AddsReportsOf (checked_of s other) (checked_of t other)) (sym now) (reports-with s cache old new was adds other)) (found.reports other);
  findable =
      let same : findable_in t ≡ findable_in (with_checked s cache new) = ap findable_in now in
      omega (arith, same, findable-with s cache old new was, fewer, found.findable);
}

module _ (s t : State) (cache : ℕ) (layout : Layout) (consistent : IsConsistent s) (has : HasLayout s cache layout) where
  -- one of its objects is given
  module _ (slot : Slot) (gives : GivesIn s cache (give.Given slot) t) where
    pub listed-slot : (slot.frame < 4096) × (slot.index < layout.objects)
    listed-slot = (
      given-frame s cache slot gives.slabs gives.rest gives.swaps.was gives.objects gives.swaps.sound consistent,
      given-index s cache slot gives.slabs gives.rest gives.swaps.was gives.objects gives.swaps.sound consistent layout has,
    )

    pub listed-lengths : (length t.board ≡ length s.board) × (length t.live ≡ length s.live) × (get_or t.live cache 0 ≡ get_or s.live cache 0)
    listed-lengths = (ap (λ (t : State). length t.board) gives.swaps.now, ap (λ (t : State). length t.live) gives.swaps.now, ap (λ (t : State). get_or t.live cache 0) gives.swaps.now)

    module _ (w : State) (worker object address : ℕ) (inside : (1 ≤ object) × (object < length s.board)) (free : get_or s.board object None ≡ None)
        (held : w ≡ with_held t object (record { frame = slot.frame; index = slot.index; cache = cache; worker = Some worker })) where
      listed-held : w ≡ with_held (with_checked s cache gives.rest) object (record { frame = slot.frame; index = slot.index; cache = cache; worker = Some worker })
      listed-held = held ∙ ap (λ (t : State). with_held t object (record { frame = slot.frame; index = slot.index; cache = cache; worker = Some worker })) gives.swaps.now

      pub listed-consistent : IsConsistent w
      listed-consistent =
          subst IsConsistent (sym listed-held)
          (given-consistent s cache slot gives.slabs gives.rest gives.swaps.was gives.objects gives.swaps.sound consistent object worker inside free (cache-live s cache layout has consistent))

      pub listed-found : KeepsFound s w
      listed-found = found-with s cache gives.slabs gives.rest w gives.swaps.was gives.objects.reports (omega (arith, gives.objects.bounded)) (ap (λ (w : State). w.checked) listed-held)

      pub listed-allocates : address ≡ address_of slot.frame slot.index layout → MatchOption (checked_of s cache) ⊥ (λ slabs. AllocatesChecked s layout cache slabs worker object (Given address) w)
      listed-allocates at =
          of-slabs (checked_of s cache) gives.slabs (λ slabs. AllocatesChecked s layout cache slabs worker object (Given address) w) gives.swaps.was (
            give.Given slot,
            gives.rest,
            gives.gives,
            record {
              unheld = given-unheld s cache slot gives.slabs gives.rest gives.swaps.was gives.objects gives.swaps.sound consistent;
              address = ap Given at;
              given = listed-held;
            },
          )

  -- none of them has one, and a new one is asked for
  module _ (gives : GivesIn s cache give.Empty t) where
    pub spent-was : checked_of t cache ≡ Some gives.rest
    spent-was = ap (λ (t : State). checked_of t cache) gives.swaps.now ∙ get_or-set_same s.checked cache (Some gives.rest) None (inside-of s.checked cache gives.slabs gives.swaps.was)

    pub spent-consistent : IsConsistent t
    spent-consistent =
        subst IsConsistent (sym gives.swaps.now)
        (keeps-consistent s cache gives.slabs gives.rest gives.swaps.was gives.objects.slabs gives.swaps.sound gives.objects.objects consistent)

    pub spent-found : (w : State) → KeepsFound t w → KeepsFound s w
    spent-found w found = found-after s t w cache gives.slabs gives.rest gives.swaps.was gives.swaps.now gives.objects.reports gives.objects.bounded found

    pub spent-allocates : (w : State) (worker object : ℕ) (reply : Reply) → MatchOption (checked_of t cache) ⊥ (λ slabs. AllocatesNewChecked t layout cache slabs worker object reply w)
        → MatchOption (checked_of s cache) ⊥ (λ slabs. AllocatesChecked s layout cache slabs worker object reply w)
    spent-allocates w worker object reply makes =
        let made : AllocatesNewChecked t layout cache gives.rest worker object reply w = slabs-of (checked_of t cache) gives.rest (λ slabs. AllocatesNewChecked t layout cache slabs worker object reply w) spent-was makes in
        of-slabs (checked_of s cache) gives.slabs (λ slabs. AllocatesChecked s layout cache slabs worker object reply w) gives.swaps.was
        (give.Empty, gives.rest, gives.gives, subst (λ (t : State). AllocatesNewChecked t layout cache gives.rest worker object reply w) gives.swaps.now made)
