-- Each step keeps the machine consistent.
use Rattle.std.proofs.Common.{◌≡◌, ℕ, ◌+◌, ◌<◌, ◌≤◌, true, false, List, [], ◌∷◌, length, get_or, take, drop, reverse, Option, Some, None, is_some, IsSome, MatchOption, inl, inr, refl, ap, sym, ◌∙◌, subst, arith, set-set, get_or-set_same}
use Rattle.std.proofs.lemmas.List.{get_or_past, set-get_or}
use Rattle.std.proofs.lemmas.List.Sums.{sum_by-set}
use Rattle.std.proofs.lemmas.Nat.{row_fits}
use Rattle.std.proofs.lemmas.Bool.{cases_lt, cases_eq}
use Rattle.slub_page_pool.specs.FreeFrames.{IsPool}
use Rattle.slub_page_pool.specs.FreeFrames as pool
use Rattle.slub_lists.specs.declared.lists.Slab.{Slab}
use Rattle.slub_lists.specs.declared.lists.CpuLists.{CpuLists}
use Rattle.slub_lists.specs.State.{State}
use Rattle.slub_cache_create.specs.Sound.{IsSound}
use Rattle.slub_cache_create.specs.Table.{opening as no_caches}
use Rattle.slub_lists.specs.Alloc.{IsStocked, from_node, from_partial, no_lists, cpu_place, slab_of, own_free, lists_of, node_of, with_lists, with_node, retired, taken_up}
use Rattle.slub_common.specs.Times.{times}
use Rattle.slub_lists.specs.Coherent.{IsConsistent, IsShaped, times_current, times_partial, if_current, all_on_board, opening}
use Rattle.slub_lists.specs.Steps.{IsTakable, IsRelisted, PopsNode, PopsPartial}
use Rattle.slub_lists.proofs.Times.{current-same}
use Rattle.slub_common.proofs.Times.{times-cons, times-take-drop, times-reverse}
use Rattle.slub_lists.proofs.Placed.{placed-retired, placed-taken_up, placed-partial, placed-all_on_board, placed-opening}
use Rattle.slub_lists.proofs.Framed.{framed-retired, framed-taken_up, framed-opening}
use Rattle.slub_lists.proofs.Listed.{listed-retired, listed-taken_up, listed-relisted, listed-all_on_board, listed-opening, current-counted, live-from}
use Rattle.slub_lists.proofs.Accounted.{accounted-all_on_board, accounted-opening}
use Rattle.slub_lists.proofs.Shaped.{shaped-retired, shaped-taken_up, shaped-partial, shaped-all_on_board, shaped-opening}
use Rattle.slub_lists.proofs.Unchecked.{apart-current, apart-stocked, checked-marked, checked-relisted, checked-taken_up}

-- where what a CPU has of a cache stands is inside
pub place-inside : (s : State) (cache cpu : ℕ) → IsShaped s → cache < 32 → cpu < s.cpus → cpu_place s cache cpu < length s.cpu_lists
place-inside s cache cpu shaped within cpu_within = omega (arith, row_fits cache s.cpus 32 s.cpus within (omega arith), shaped.cpu_lists)

-- a live thing is inside its table
pub live-inside : {X : Type 0} (xs : List (Option X)) (i : ℕ) → IsSome (get_or xs i None) → i < length xs
live-inside xs i live =
    elim (cases_lt i (length xs)) [
      | inl inside ↦ inside
      | inr past ↦ let gone = ap is_some (get_or_past xs i None past) in cc
    ]

pub IsSome-live : {X : Type 0} (x : Option X) (P : X → Type 0) → MatchOption x ⊥ P → IsSome x
IsSome-live None P h = absurd h
IsSome-live (Some y) P h = refl

-- only the lists and the marks changed
pub relisted-from : (s after : State) (slabs : List (Option Slab)) (frees : List (List ℕ)) (cpu_lists : List CpuLists) (nodes : List (List ℕ)) → after ≡ record s { slabs = slabs; frees = frees; cpu_lists = cpu_lists; nodes = nodes } → IsRelisted s after
relisted-from s after slabs frees cpu_lists nodes e = record {
  frames = ap (λ (s : State). s.frames) e;
  cpus = ap (λ (s : State). s.cpus) e;
  table = ap (λ (s : State). s.table) e;
  checked = ap (λ (s : State). s.checked) e;
  board = ap (λ (s : State). s.board) e;
  live = ap (λ (s : State). s.live) e;
}

pub relisted-trans : (a b c : State) → IsRelisted a b → IsRelisted b c → IsRelisted a c
relisted-trans a b c ab bc = record {
  frames = bc.frames ∙ ab.frames;
  cpus = bc.cpus ∙ ab.cpus;
  table = bc.table ∙ ab.table;
  checked = bc.checked ∙ ab.checked;
  board = bc.board ∙ ab.board;
  live = bc.live ∙ ab.live;
}

module _ (s : State) (cache cpu : ℕ) (consistent : IsConsistent s) (within : cache < 32) (cpu_within : cpu < s.cpus) where
  -- the place of what the CPU has of the cache
  inside : cpu_place s cache cpu < length s.cpu_lists
  inside = place-inside s cache cpu consistent.shaped within cpu_within

  -- the current slab is one of the machine's
  pub current-live : (frame : ℕ) → (lists_of s cache cpu).current ≡ Some frame → MatchOption (slab_of s frame) ⊥ (λ slab. slab.cache ≡ cache)
  current-live frame current =
      live-from cache (slab_of s frame) (consistent.listed.live frame (omega (arith, current-counted s cache cpu cpu_within inside frame current))) (consistent.listed.of_current cache cpu frame cpu_within current)

  pub current-inside : (frame : ℕ) → (lists_of s cache cpu).current ≡ Some frame → frame < s.frames
  current-inside frame current =
      let slot = live-inside s.slabs frame (IsSome-live (slab_of s frame) (λ slab. slab.cache ≡ cache) (current-live frame current)) in
      omega (arith, slot, consistent.shaped.slabs)

  -- the current slab can be taken up again
  pub takable-current : (frame : ℕ) → (lists_of s cache cpu).current ≡ Some frame → (lists_of s cache cpu).free ≡ [] → 0 < length (own_free s frame) → IsTakable s cache cpu frame
  takable-current frame current nothing stocked =
      let counted = current-counted s cache cpu cpu_within inside frame current in
      let one = ap (if_current frame 1) current ∙ current-same frame frame 1 refl in
      record {
        live = current-live frame current;
        stocked = stocked;
        free = nothing;
        here = inr current;
        nowhere_else = omega (arith, counted, one, consistent.listed.once frame);
        unlisted = omega (arith, counted, consistent.listed.once frame);
      }

  pub retired-consistent : (frame : ℕ) → (lists_of s cache cpu).current ≡ Some frame → (lists_of s cache cpu).free ≡ [] → IsConsistent (retired s cache cpu frame)
  retired-consistent frame current nothing =
      let slot : frame < length s.slabs = omega (arith, current-inside frame current, consistent.shaped.slabs) in
      record {
        shaped = shaped-retired s cache cpu frame
            (checked-marked s cache cpu cpu_within (apart-current s cache cpu frame cpu_within current) false frame (record { current = None; free = []; partial = (lists_of s cache cpu).partial }) consistent.shaped.checked)
            consistent.shaped;
        placed = placed-retired s cache cpu inside frame nothing consistent.placed;
        framed = framed-retired s cache cpu frame consistent.framed;
        listed = listed-retired s cache cpu cpu_within inside frame slot current consistent.listed;
        accounted = consistent.accounted;
      }

  pub taken_up-inside : (frame : ℕ) → IsTakable s cache cpu frame → frame < s.frames
  taken_up-inside frame takable = omega (arith, live-inside s.slabs frame (IsSome-live (slab_of s frame) (λ slab. slab.cache ≡ cache) takable.live), consistent.shaped.slabs)

  pub taken_up-consistent : (frame : ℕ) → IsTakable s cache cpu frame → IsConsistent (taken_up s cache cpu frame (lists_of s cache cpu).partial)
  taken_up-consistent frame takable =
      let slot : frame < length s.slabs = omega (arith, taken_up-inside frame takable, consistent.shaped.slabs) in
      let own : frame < length s.frees = omega (arith, taken_up-inside frame takable, consistent.shaped.frees) in
      record {
        shaped = shaped-taken_up s cache cpu frame (lists_of s cache cpu).partial
            (checked-taken_up s cache cpu cpu_within (apart-stocked s cache frame takable.live takable.stocked) frame (record { current = Some frame; free = own_free s frame; partial = (lists_of s cache cpu).partial }) consistent.shaped.checked)
            consistent.shaped;
        placed = placed-taken_up s cache cpu inside frame (lists_of s cache cpu).partial own takable.free consistent.placed;
        framed = framed-taken_up s cache cpu frame (lists_of s cache cpu).partial consistent.framed;
        listed = listed-taken_up s cache cpu cpu_within inside frame slot own takable consistent.listed;
        accounted = consistent.accounted;
      }

  -- what is left where slabs come off the node list and go to the CPU's partial list
  abbrev pub gathered : List ℕ → List ℕ → State
  gathered partial frames = let lists : CpuLists = lists_of s cache cpu in with_lists (with_node s cache frames) cache cpu (record lists { partial = partial })

  pub gathered-consistent : (partial frames : List ℕ) → ((f : ℕ) → times f partial + times f frames ≤ times f (lists_of s cache cpu).partial + times f (node_of s cache)) → IsConsistent (gathered partial frames)
  gathered-consistent partial frames fewer = record {
    shaped = shaped-partial s cache cpu partial frames (checked-relisted s cache cpu cpu_within partial frames fewer consistent.shaped.checked) consistent.shaped;
    placed = placed-partial s cache cpu inside partial consistent.placed;
    framed = consistent.framed;
    listed = listed-relisted s cache cpu cpu_within inside partial frames (omega (arith, consistent.shaped.nodes)) fewer consistent.listed;
    accounted = consistent.accounted;
  }

  -- the one slab that is on neither any more can be taken up
  pub gathered-takable : (partial frames : List ℕ) (frame : ℕ) → times frame partial + times frame frames + 1 ≡ times frame (lists_of s cache cpu).partial + times frame (node_of s cache)
      → (lists_of s cache cpu).free ≡ [] → (lists_of s cache cpu).current ≡ None → IsTakable (gathered partial frames) cache cpu frame
  gathered-takable partial frames frame one_less nothing bare =
      let lists : CpuLists = lists_of s cache cpu in
      let v : CpuLists = record lists { partial = partial } in
      let after : State = gathered partial frames in
      let now : lists_of after cache cpu ≡ v = get_or-set_same s.cpu_lists (cpu_place s cache cpu) v no_lists inside in
      let current = sum_by-set (λ (lists : CpuLists). if_current frame 1 lists.current) s.cpu_lists (cpu_place s cache cpu) v no_lists inside in
      let on_cpu = sum_by-set (λ (lists : CpuLists). times frame lists.partial) s.cpu_lists (cpu_place s cache cpu) v no_lists inside in
      let on_node = sum_by-set (times frame) s.nodes cache frames [] (omega (arith, consistent.shaped.nodes)) in
      let same : times_current after frame ≡ times_current s frame = omega (arith, current) in
      let less : times_partial after frame + 1 ≡ times_partial s frame = omega (arith, on_cpu, on_node, one_less) in
      let once = consistent.listed.once frame in
      let nowhere : ◌≡◌ {A = ℕ} (if_current frame 1 (lists_of after cache cpu).current) 0 = ap (λ (l : CpuLists). if_current frame 1 l.current) now ∙ ap (if_current frame 1) bare in
      record {
        live = live-from cache (slab_of s frame) (consistent.listed.live frame (omega (arith, less)))
            (elim (cases_eq (times frame (lists_of s cache cpu).partial) 0) [
              | inl none ↦ consistent.listed.of_node cache frame (omega (arith, none, one_less))
              | inr here ↦ consistent.listed.of_partial cache cpu frame cpu_within (omega arith)
            ]);
        stocked = consistent.listed.stocked frame (omega (arith, less));
        free = ap (λ (l : CpuLists). l.free) now ∙ nothing;
        here = inl (ap (λ (l : CpuLists). l.current) now ∙ bare);
        nowhere_else = omega (arith, same, less, once, nowhere);
        unlisted = omega (arith, less, once);
      }

  -- a list that is written and then the slab that is taken up
  pub taken_up-gathered : (partial frames : List ℕ) (frame : ℕ) → taken_up (gathered partial frames) cache cpu frame (lists_of (gathered partial frames) cache cpu).partial ≡ taken_up (with_node s cache frames) cache cpu frame partial
  taken_up-gathered partial frames frame =
      let lists : CpuLists = lists_of s cache cpu in
      let v : CpuLists = record lists { partial = partial } in
      let before : State = gathered partial frames in
      let now : lists_of before cache cpu ≡ v = get_or-set_same s.cpu_lists (cpu_place s cache cpu) v no_lists inside in
      let last : State = taken_up before cache cpu frame partial in
      let up : CpuLists = record { current = Some frame; free = own_free s frame; partial = partial } in
      ap (λ (l : CpuLists). taken_up before cache cpu frame l.partial) now
      ∙ ap (λ (all : List CpuLists). record last { cpu_lists = all }) (set-set s.cpu_lists (cpu_place s cache cpu) v up)

  -- the node list as it is
  pub gathered-node : (partial : List ℕ) → gathered partial (node_of s cache) ≡ (let lists : CpuLists = lists_of s cache cpu in with_lists s cache cpu (record lists { partial = partial }))
  gathered-node partial =
      let before : State = gathered partial (node_of s cache) in
      ap (λ (all : List (List ℕ)). record before { nodes = all }) (set-get_or s.nodes cache [])

  pub taken_up-node : (partial : List ℕ) (frame : ℕ) → taken_up (with_node s cache (node_of s cache)) cache cpu frame partial ≡ taken_up s cache cpu frame partial
  taken_up-node partial frame =
      let after : State = taken_up s cache cpu frame partial in
      ap (λ (all : List (List ℕ)). record after { nodes = all }) (set-get_or s.nodes cache [])

  -- the head of the node list is taken up
  pub stocked-node : (batch frame : ℕ) (before after : State) → PopsNode s cache cpu batch frame before → after ≡ taken_up before cache cpu frame (lists_of before cache cpu).partial
      → IsStocked (from_node s cache cpu batch (node_of s cache)) true after
  stocked-node batch frame before after popped e =
      let up = ap (λ (t : State). taken_up t cache cpu frame (lists_of t cache cpu).partial) popped.left in
      rw popped.first (refl, e ∙ up ∙ taken_up-gathered (reverse (take batch popped.rest)) (drop batch popped.rest) frame)

  -- the front of the partial list is taken up
  pub stocked-partial : (batch frame : ℕ) (before after : State) → PopsPartial s cache cpu frame before → after ≡ taken_up before cache cpu frame (lists_of before cache cpu).partial
      → IsStocked (from_partial s cache cpu batch (lists_of s cache cpu).partial) true after
  stocked-partial batch frame before after popped e =
      let up = ap (λ (t : State). taken_up t cache cpu frame (lists_of t cache cpu).partial) (popped.left ∙ sym (gathered-node popped.rest)) in
      rw popped.first (refl, e ∙ up ∙ taken_up-gathered popped.rest (node_of s cache) frame ∙ taken_up-node popped.rest frame)

  -- the CPU freelist after
  pub lists-taken_up : (frame : ℕ) (partial : List ℕ) → (lists_of (taken_up s cache cpu frame partial) cache cpu).free ≡ own_free s frame
  lists-taken_up frame partial =
      let up : CpuLists = record { current = Some frame; free = own_free s frame; partial = partial } in
      ap (λ (l : CpuLists). l.free) (get_or-set_same s.cpu_lists (cpu_place s cache cpu) up no_lists inside)

  pub lists-retired : (frame : ℕ) → (let lists : CpuLists = lists_of s cache cpu in lists_of (retired s cache cpu frame) cache cpu ≡ record { current = None; free = []; partial = lists.partial })
  lists-retired frame =
      let lists : CpuLists = lists_of s cache cpu in
      let v : CpuLists = record { current = None; free = []; partial = lists.partial } in
      get_or-set_same s.cpu_lists (cpu_place s cache cpu) v no_lists inside

-- a consistent machine by another name
pub consistent-at : (s after : State) → after ≡ s → IsConsistent s → IsConsistent after
consistent-at s after e consistent = subst IsConsistent (sym e) consistent

-- the front of the CPU's partial list comes off
module _ (s after : State) (cache cpu : ℕ) (consistent : IsConsistent s) (within : cache < 32) (cpu_within : cpu < s.cpus) (bare : (lists_of s cache cpu).current ≡ None) where
  nothing : (lists_of s cache cpu).free ≡ []
  nothing = consistent.shaped.bare (cpu_place s cache cpu) bare

  -- one less of the slab
  partial-less : (frame : ℕ) (rest : List ℕ) (f : ℕ) → (lists_of s cache cpu).partial ≡ frame ∷ rest → times f (lists_of s cache cpu).partial ≡ if_current f 1 (Some frame) + times f rest
  partial-less frame rest f first = ap (times f) first ∙ times-cons f frame rest

  pub popped-partial : (r : Option ℕ) (left : List ℕ) → MatchOption r (((lists_of s cache cpu).partial ≡ []) × (left ≡ [])) (λ item. (lists_of s cache cpu).partial ≡ item ∷ left)
      → (let lists : CpuLists = lists_of s cache cpu in after ≡ with_lists s cache cpu (record lists { partial = left }))
      → MatchOption r (((lists_of s cache cpu).partial ≡ []) × (after ≡ s)) (λ frame. PopsPartial s cache cpu frame after) × IsConsistent after
  popped-partial None left popped e =
      let lists : CpuLists = lists_of s cache cpu in
      let same : left ≡ lists.partial = popped.1 ∙ sym popped.0 in
      let unchanged : after ≡ s = e ∙ ap (λ (l : List ℕ). with_lists s cache cpu (record lists { partial = l })) same ∙ ap (λ (all : List CpuLists). record s { cpu_lists = all }) (set-get_or s.cpu_lists (cpu_place s cache cpu) no_lists) in
      ((popped.0, unchanged), consistent-at s after unchanged consistent)
  popped-partial (Some frame) left popped e =
      let whole = e ∙ sym (gathered-node s cache cpu consistent within cpu_within left) in
      let taken = gathered-takable s cache cpu consistent within cpu_within left (node_of s cache) frame (omega (arith, partial-less frame left frame popped, current-same frame frame 1 refl)) nothing bare in
      let kept = gathered-consistent s cache cpu consistent within cpu_within left (node_of s cache) (λ f. omega (arith, partial-less frame left f popped)) in (
        record {
          rest = left;
          first = popped;
          left = e;
          takable = subst (λ (t : State). IsTakable t cache cpu frame) (sym whole) taken;
        },
        subst IsConsistent (sym whole) kept,
      )

  -- the head of the node list comes off, and slabs after it
  pub popped-node : (frame batch : ℕ) (rest here there : List ℕ) → (lists_of s cache cpu).partial ≡ [] → node_of s cache ≡ frame ∷ rest → here ≡ reverse (take batch rest) → there ≡ drop batch rest
      → after ≡ gathered s cache cpu consistent within cpu_within here there
      → PopsNode s cache cpu batch frame after × IsConsistent after
  popped-node frame batch rest here there none first is_here is_there e =
      let counted : (f : ℕ) → times f here + times f there ≡ times f rest = λ f.
      omega (arith, ap (times f) is_here, ap (times f) is_there, times-reverse f (take batch rest), times-take-drop f batch rest) in
      let before : (f : ℕ) → times f (node_of s cache) ≡ if_current f 1 (Some frame) + times f rest = λ f. ap (times f) first ∙ times-cons f frame rest in
      let empty : (f : ℕ) → times f (lists_of s cache cpu).partial ≡ 0 = λ f. ap (times f) none in
      let taken = gathered-takable s cache cpu consistent within cpu_within here there frame (omega (arith, counted frame, before frame, empty frame, current-same frame frame 1 refl)) nothing bare in
      let kept = gathered-consistent s cache cpu consistent within cpu_within here there (λ f. omega (arith, counted f, before f)) in
      let named = ap (λ (l : List ℕ). gathered s cache cpu consistent within cpu_within l there) is_here ∙ ap (gathered s cache cpu consistent within cpu_within (reverse (take batch rest))) is_there in (
        record {
          rest = rest;
          first = first;
          left = e ∙ named;
          takable = subst (λ (t : State). IsTakable t cache cpu frame) (sym e) taken;
        },
        subst IsConsistent (sym e) kept,
      )

-- the objects of a round are put on the board
pub all_on_board-consistent : (s : State) → IsConsistent s → IsConsistent (all_on_board s)
all_on_board-consistent s consistent = record {
  shaped = shaped-all_on_board s consistent.shaped;
  placed = placed-all_on_board s consistent.placed;
  framed = consistent.framed;
  listed = listed-all_on_board s consistent.listed;
  accounted = accounted-all_on_board s consistent.accounted;
}

-- before the first item
pub opening-consistent : (frames cpus objects : ℕ) (names : List (List ℕ)) → 2 ≤ frames → frames ≤ 4096 → 1 ≤ cpus → cpus ≤ 16 → objects ≤ 1048576 → IsPool (pool.opening frames) → IsSound (no_caches names) → IsConsistent (opening frames cpus objects names)
opening-consistent frames cpus objects names least most one sixteen numbers good sound = record {
  shaped = shaped-opening frames cpus objects names least most one sixteen numbers good sound;
  placed = placed-opening frames cpus objects names;
  framed = framed-opening frames cpus objects names least;
  listed = listed-opening frames cpus objects names;
  accounted = accounted-opening frames cpus objects names;
}
