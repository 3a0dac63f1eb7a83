-- Each object stays in one place.
use Rattle.std.proofs.Common.{◌≡◌, ℕ, ◌+◌, ◌*◌, ◌<◌, Bool, true, false, List, [], ◌∷◌, length, get_or, set, map, sum_by, Option, Some, None, option_map, refl, ap, ◌∙◌, arith, replicate}
use Rattle.std.specs.List.{range_with_len}
use Rattle.std.proofs.lemmas.List.Sums.{sum_by-set}
use Rattle.std.proofs.lemmas.List.Folds.{sum_by-replicate}
use Rattle.std.proofs.lemmas.Bool.Decides.{nat_tests}
use Rattle.slub_page_pool.specs.FreeFrames.{FreeFrames}
use Rattle.slub_lists.specs.declared.lists.Slab.{Slab}
use Rattle.slub_lists.specs.declared.lists.CpuLists.{CpuLists}
use Rattle.slub_lists.specs.declared.lists.Held.{Held}
use Rattle.slub_lists.specs.declared.lists.Run.{Run}
use Rattle.slub_lists.specs.State.{State}
use Rattle.slub_lists.specs.Alloc.{marked, no_lists, cpu_place, lists_of, slab_of, own_free, retired, taken_up, with_new_slab, with_given, with_lists, held_here}
use Rattle.slub_common.specs.Times.{times}
use Rattle.slub_lists.specs.Coherent.{IsPlaced, places, has_object, idle_in, on_cpu, if_current, laid_down, all_on_board, opening}
use Rattle.slub_lists.proofs.Writes.{at_marked}
use Rattle.slub_common.proofs.Writes.{at_written_else, get_or-replicate_any}
use Rattle.slub_lists.proofs.Times.{current-same, current-other}
use Rattle.slub_common.proofs.Times.{times-cons, times-range}
use Rattle.slub_common.proofs.Sums.{sum_by-same, sum_by-map}

-- a mark changes no object
pub has_object-marked : (i n : ℕ) (b : Bool) (x : Option Slab) → has_object i x ≡ n → has_object i (option_map (marked b) x) ≡ n
has_object-marked i n b None h = h
has_object-marked i n b (Some slab) h = h

-- a CPU whose freelist is empty has no object
pub on_cpu-nothing : (f i : ℕ) (lists : CpuLists) → lists.free ≡ [] → on_cpu f i lists ≡ 0
on_cpu-nothing f i lists nothing = rw nothing (nowhere lists.current)
  where
    nowhere : (current : Option ℕ) → if_current f 0 current ≡ 0
    nowhere None = refl
    nowhere (Some frame) = grind (arith, nat_tests)

-- a CPU with no slab has no object
on_cpu-bare : (f i : ℕ) (lists : CpuLists) → lists.current ≡ None → on_cpu f i lists ≡ 0
on_cpu-bare f i lists bare = ap (if_current f (times i lists.free)) bare

-- a CPU's objects, by its current slab and its freelist
on_cpu-first : (f i : ℕ) (lists : CpuLists) (frame index : ℕ) (rest : List ℕ) → lists.current ≡ Some frame → lists.free ≡ index ∷ rest → on_cpu f i lists ≡ if_current f (times i (index ∷ rest)) (Some frame)
on_cpu-first f i lists frame index rest current first = rw (current, first)

-- the first object of a freelist apart from the rest
held_here-split : (f i frame index cache worker : ℕ) (rest : List ℕ)
    → if_current f (times i (index ∷ rest)) (Some frame) ≡ if_current f (times i rest) (Some frame) + held_here f i (Some (record { frame = frame; index = index; cache = cache; worker = Some worker }))
held_here-split f i frame index cache worker rest = grind (arith, nat_tests, times-cons i index rest)

-- a freelist that is taken from its slab is gone there, and no other is
moved : (frees : List (List ℕ)) (frame f i : ℕ) → frame < length frees → times i (get_or (set frees frame []) f []) + if_current f (times i (get_or frees frame [])) (Some frame) ≡ times i (get_or frees f [])
moved frees frame f i own =
    at_written_else (λ xs. times i xs + if_current f (times i (get_or frees frame [])) (Some frame) ≡ times i (get_or frees f [])) frees frame f [] [] own
    (λ e. omega (arith, current-same f frame (times i (get_or frees frame [])) e, ap (λ n. times i (get_or frees n [])) e))
    (λ ne. omega (arith, current-other f frame (times i (get_or frees frame [])) ne))

-- the objects of a slab are the numbers below their number
range-objects : (i : ℕ) (slab : Slab) → times i (range_with_len 0 slab.objects) ≡ has_object i (Some slab)
range-objects i slab = let e = times-range i 0 slab.objects in grind (arith, nat_tests, e)

-- whose an object is doesn't say where it is
held_here-laid_down : (f i : ℕ) (x : Option Held) → held_here f i (option_map laid_down x) ≡ held_here f i x
held_here-laid_down f i None = refl
held_here-laid_down f i (Some held) = refl

module _ (s : State) (cache cpu : ℕ) (inside : cpu_place s cache cpu < length s.cpu_lists) where
  -- what a CPU has of a cache is written
  pub on_cpu-written : (f i : ℕ) (v : CpuLists) → sum_by (on_cpu f i) (set s.cpu_lists (cpu_place s cache cpu) v) + on_cpu f i (lists_of s cache cpu) ≡ sum_by (on_cpu f i) s.cpu_lists + on_cpu f i v
  on_cpu-written f i v = sum_by-set (on_cpu f i) s.cpu_lists (cpu_place s cache cpu) v no_lists inside

  pub placed-retired : (frame : ℕ) → (lists_of s cache cpu).free ≡ [] → IsPlaced s → IsPlaced (retired s cache cpu frame)
  placed-retired frame nothing placed f i =
      let v : CpuLists = record { current = None; free = []; partial = (lists_of s cache cpu).partial } in
      let after = on_cpu-written f i v in
      let before = on_cpu-nothing f i (lists_of s cache cpu) nothing in
      let same = at_marked (λ x. has_object i x ≡ has_object i (slab_of s f)) false s.slabs frame f (has_object-marked i (has_object i (slab_of s f)) false) refl in
      omega (arith, placed f i, after, before, same)

  -- a freelist goes from its slab to the CPU
  pub placed-taken_up : (frame : ℕ) (partial : List ℕ) → frame < length s.frees → (lists_of s cache cpu).free ≡ [] → IsPlaced s → IsPlaced (taken_up s cache cpu frame partial)
  placed-taken_up frame partial own nothing placed f i =
      let v : CpuLists = record { current = Some frame; free = own_free s frame; partial = partial } in
      let after = on_cpu-written f i v in
      let before = on_cpu-nothing f i (lists_of s cache cpu) nothing in
      let moves = moved s.frees frame f i own in
      let same = at_marked (λ x. has_object i x ≡ has_object i (slab_of s f)) true s.slabs frame f (has_object-marked i (has_object i (slab_of s f)) true) refl in
      omega (arith, placed f i, after, before, moves, same)

  -- the partial list has nothing to do with it
  pub placed-partial : (partial : List ℕ) → IsPlaced s → IsPlaced (let lists : CpuLists = lists_of s cache cpu in with_lists s cache cpu (record lists { partial = partial }))
  placed-partial partial placed f i =
      let lists : CpuLists = lists_of s cache cpu in
      let v : CpuLists = record lists { partial = partial } in
      omega (arith, placed f i, on_cpu-written f i v)

  -- a new slab's objects are on the CPU freelist
  pub placed-with_new_slab : (pool : FreeFrames) (run : Run) → run.frame < length s.slabs → slab_of s run.frame ≡ None → (lists_of s cache cpu).current ≡ None → IsPlaced s → IsPlaced (with_new_slab s cache cpu pool run)
  placed-with_new_slab pool run slot unused bare placed f i =
      let v : CpuLists = record { current = Some run.frame; free = range_with_len 0 run.objects; partial = (lists_of s cache cpu).partial } in
      let new : Slab = record { cache = cache; order = run.order; objects = run.objects; frozen = true } in
      let after = on_cpu-written f i v in
      let before = on_cpu-bare f i (lists_of s cache cpu) bare in
      at_written_else (λ x. places (with_new_slab s cache cpu pool run) f i ≡ has_object i x) s.slabs run.frame f (Some new) None slot
      (λ e.
      let all = current-same f run.frame (times i (range_with_len 0 run.objects)) e in
      let here : places s f i ≡ 0 = placed f i ∙ (ap (has_object i) (ap (slab_of s) e ∙ unused)) in
      let whole = range-objects i new in
      omega (arith, all, here, whole, after, before))
      (λ ne.
      let none = current-other f run.frame (times i (range_with_len 0 run.objects)) ne in
      omega (arith, none, placed f i, after, before))

  -- an object goes from the CPU freelist to a worker
  pub placed-with_given : (object frame index worker : ℕ) (rest : List ℕ) → object < length s.board → get_or s.board object None ≡ None
      → (lists_of s cache cpu).current ≡ Some frame → (lists_of s cache cpu).free ≡ index ∷ rest → IsPlaced s
      → IsPlaced (with_given s cache cpu (record { current = Some frame; free = rest; partial = (lists_of s cache cpu).partial }) object (record { frame = frame; index = index; cache = cache; worker = Some worker }))
  placed-with_given object frame index worker rest slot unused current first placed f i =
      let v : CpuLists = record { current = Some frame; free = rest; partial = (lists_of s cache cpu).partial } in
      let held : Held = record { frame = frame; index = index; cache = cache; worker = Some worker } in
      let after = on_cpu-written f i v in
      let before = on_cpu-first f i (lists_of s cache cpu) frame index rest current first in
      let given = held_here-split f i frame index cache worker rest in
      let board = sum_by-set (held_here f i) s.board object (Some held) None slot in
      let nobody : held_here f i (get_or s.board object None) ≡ 0 = ap (held_here f i) unused in
      omega (arith, placed f i, after, before, given, board, nobody)

-- laying an object down moves none
pub placed-all_on_board : (s : State) → IsPlaced s → IsPlaced (all_on_board s)
placed-all_on_board s placed f i =
    let same : sum_by (held_here f i) (map (option_map laid_down) s.board) ≡ sum_by (held_here f i) s.board = sum_by-map (held_here f i) (option_map laid_down) s.board ∙ sum_by-same (λ x. held_here f i (option_map laid_down x)) (held_here f i) s.board (held_here-laid_down f i) in
    omega (arith, placed f i, same)

-- before the first item nothing is anywhere
pub placed-opening : (frames cpus objects : ℕ) (names : List (List ℕ)) → IsPlaced (opening frames cpus objects names)
placed-opening frames cpus objects names f i =
    let board = sum_by-replicate (held_here f i) (objects + 1) None in
    let lists = sum_by-replicate (on_cpu f i) (32 * cpus) no_lists in
    let own : times i (get_or (replicate frames []) f []) ≡ 0 = ap (times i) (get_or-replicate_any frames f []) in
    let slab : has_object i (get_or (replicate frames None) f None) ≡ 0 = ap (has_object i) (get_or-replicate_any frames f None) in
    let checked : sum_by (idle_in f i) (replicate 32 None) ≡ 0 = sum_by-replicate (idle_in f i) 32 None in
    omega (arith, board, lists, own, slab, checked)
