-- Each frame stays free or in one run.
use Rattle.std.proofs.Common.{◌≡◌, ℕ, zero, suc, ◌+◌, ◌-◌, ◌^◌, ◌<◌, ◌≤◌, ◌||◌, Bool, true, false, List, [], ◌∷◌, length, get_or, set, replicate, Option, Some, None, option_map, Contains, refl, ap, inl, inr, arith, nat_lt, nat_le, add-zero, pow_pos, zero-add}
use Rattle.std.proofs.lemmas.Bool.{cases_Bool}
use Rattle.std.proofs.lemmas.Bool.Decides.{nat_tests}
use Rattle.slub_page_pool.specs.FreeFrames.{FreeFrames}
use Rattle.slub_page_pool.specs.Block.{less_run}
use Rattle.slub_lists.specs.declared.lists.Slab.{Slab}
use Rattle.slub_lists.specs.declared.lists.Run.{Run}
use Rattle.slub_lists.specs.State.{State}
use Rattle.slub_lists.specs.Alloc.{marked, slab_of, retired, taken_up, with_new_slab}
use Rattle.slub_common.specs.Times.{times}
use Rattle.slub_lists.specs.Coherent.{IsFramed, covers, covered_from, opening}
use Rattle.slub_common.proofs.Times.{times-range, times-contained, times-filter_pass, times-filter_fail}

-- one slab more or less changes what is covered by what it covers
pub covered-set : (f k : ℕ) (xs : List (Option Slab)) (i : ℕ) (v : Option Slab) → i < length xs
    → covered_from f k (set xs i v) + covers f (k + i) (get_or xs i None) ≡ covered_from f k xs + covers f (k + i) v
covered-set f k [] i v inside = absurd (omega arith)
covered-set f k (x ∷ xs) zero v inside = rw add-zero (omega arith)
covered-set f k (x ∷ xs) (suc i) v inside =
    let further : k + suc i ≡ k + 1 + i = omega arith in
    rw further (omega (arith, covered-set f (k + 1) xs i v (omega arith)))

-- a mark changes no run
covers-marked : (f k : ℕ) (b : Bool) (x : Option Slab) → covers f k (option_map (marked b) x) ≡ covers f k x
covers-marked f k b None = refl
covers-marked f k b (Some slab) = refl

pub covered-marked : (f k : ℕ) (b : Bool) (xs : List (Option Slab)) (i : ℕ) → covered_from f k (set xs i (option_map (marked b) (get_or xs i None))) ≡ covered_from f k xs
covered-marked f k b [] i = refl
covered-marked f k b (x ∷ xs) zero = ap (λ n. n + covered_from f (k + 1) xs) (covers-marked f k b x)
covered-marked f k b (x ∷ xs) (suc i) = ap (λ n. covers f k x + n) (covered-marked f (k + 1) b xs i)

pub framed-retired : (s : State) (cache cpu frame : ℕ) → IsFramed s → IsFramed (retired s cache cpu frame)
framed-retired s cache cpu frame framed f = omega (arith, framed f, covered-marked f 0 false s.slabs frame)

pub framed-taken_up : (s : State) (cache cpu frame : ℕ) (partial : List ℕ) → IsFramed s → IsFramed (taken_up s cache cpu frame partial)
framed-taken_up s cache cpu frame partial framed f = omega (arith, framed f, covered-marked f 0 true s.slabs frame)

-- the least and the most that a frame is free or covered
pub framed-most : (s : State) (f : ℕ) → IsFramed s → times f s.pool.free + covered_from f 0 s.slabs ≤ 1
framed-most s f framed = let e = framed f in grind (arith, nat_tests, e)

-- a run that is free and a slab that is made of it
module _ (s : State) (cache cpu : ℕ) (pool : FreeFrames) (run : Run) (all_free : (g : ℕ) → run.frame ≤ g → g < run.frame + 2 ^ run.order → Contains s.pool.free g) where
  -- the first frame of the run is free
  first-free : 0 < times run.frame s.pool.free
  first-free = times-contained run.frame s.pool.free (all_free run.frame (omega arith) (omega (arith, pow_pos run.order)))

  -- so it is one of the machine
  pub run-inside : IsFramed s → run.frame < s.frames
  run-inside framed = let e = framed run.frame in let some = first-free in grind (arith, nat_tests, e, some)

  -- and no slab's
  pub run-unused : IsFramed s → run.frame < length s.slabs → slab_of s run.frame ≡ None
  run-unused framed slot = unused (slab_of s run.frame) (omega (arith, framed-most s run.frame framed, first-free, covered-set run.frame 0 s.slabs run.frame None slot))
    where
      unused : (x : Option Slab) → covers run.frame (0 + run.frame) x ≡ 0 → x ≡ None
      unused None h = refl
      unused (Some slab) h = absurd (grind (arith, nat_tests, h, zero-add run.frame, pow_pos slab.order))

  pub framed-with_new_slab : run.frame < length s.slabs → pool.free ≡ less_run s.pool.free run.frame run.order → IsFramed s → IsFramed (with_new_slab s cache cpu pool run)
  framed-with_new_slab slot less framed f =
      let new : Slab = record { cache = cache; order = run.order; objects = run.objects; frozen = true } in
      let unused : covers f (0 + run.frame) (get_or s.slabs run.frame None) ≡ 0 = ap (covers f (0 + run.frame)) (run-unused framed slot) in
      let more = covered-set f 0 s.slabs run.frame (Some new) slot in
      let most = framed-most s f framed in
      let before = framed f in
      let free : times f pool.free ≡ times f (less_run s.pool.free run.frame run.order) = ap (times f) less in
      elim (cases_Bool (nat_lt f run.frame || nat_le (run.frame + 2 ^ run.order) f)) [
        | inl outside ↦
            let stays = times-filter_pass f (λ g. nat_lt g run.frame || nat_le (run.frame + 2 ^ run.order) g) s.pool.free outside in
            let out : covers f (0 + run.frame) (Some new) ≡ 0 = grind (arith, nat_tests, outside, zero-add run.frame) in
            omega (arith, free, stays, out, more, unused, before)
        | inr within ↦
            let gone = times-filter_fail f (λ g. nat_lt g run.frame || nat_le (run.frame + 2 ^ run.order) g) s.pool.free within in
            let low : run.frame ≤ f = grind (arith, nat_tests, within) in
            let high : f < run.frame + 2 ^ run.order = grind (arith, nat_tests, within) in
            let has : covers f (0 + run.frame) (Some new) ≡ 1 = grind (arith, nat_tests, low, high, zero-add run.frame) in
            let was = times-contained f s.pool.free (all_free f low high) in
            omega (arith, free, gone, has, more, unused, before, was, most)
      ]

covered-none : (f k n : ℕ) → covered_from f k (replicate n None) ≡ 0
covered-none f k zero = refl
covered-none f k (suc n) = omega (arith, covered-none f (k + 1) n)

-- before the first item every frame but 0 is free
pub framed-opening : (frames cpus objects : ℕ) (names : List (List ℕ)) → 2 ≤ frames → IsFramed (opening frames cpus objects names)
framed-opening frames cpus objects names least f =
    let free = times-range f 1 (frames - 1) in
    let none = covered-none f 0 frames in
    grind (arith, nat_tests, free, none)
