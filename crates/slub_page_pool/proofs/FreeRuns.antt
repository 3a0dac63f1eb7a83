-- Free runs, blocks, and the run that a take chooses.
use Rattle.std.proofs.Common.{ℕ, ◌+◌, ◌-◌, ◌%◌, ◌^◌, ◌<◌, ◌≤◌, ◌≡◌, ◌⊎◌, inl, inr, ltb, leb, ◌||◌, List, ◌++◌, sym, subst, arith, Contains}
use Rattle.std.specs.List.{range_with_len, filter}
use Rattle.std.specs.List.Sorted.{IsStrictlyIncreasing}
use Rattle.std.proofs.lemmas.Bool.{cases_lt, cases_order, lt-ltb, le-leb, ltb-true, leb-true, or_left, or_right, or_cases}
use Rattle.std.proofs.lemmas.List.Elements.{Contains-append_left, Contains-append_right, Contains-append_cases}
use Rattle.std.proofs.lemmas.List.Kept.{IsStrictlyIncreasing-filter}
use Rattle.std.proofs.lemmas.Nat.{pow_pos, mod_below}
use Rattle.std.proofs.lemmas.Nat.Gcd.{dvd_trans, dvd_of_mod-eq-zero, mod-eq-zero_of_dvd, le_of_dvd}
use Rattle.slub_page_pool.specs.Block.{IsFreeRun, IsBlock, IsTaken, less_run, with_run}
use Rattle.slub_common.proofs.Lists.{Contains-filter, from_filter, Contains-range_with_len, from_range_with_len, IsStrictlyIncreasing-range_with_len, IsStrictlyIncreasing-append, same_members}
use Rattle.slub_page_pool.proofs.Aligned.{pow_divides, run_within, aligned_start}

-- the free frames below a frame, and from a frame on
abbrev pub below : List ℕ → ℕ → List ℕ
below free frame = filter (λ g. ltb g frame) free

abbrev pub above : List ℕ → ℕ → List ℕ
above free frame = filter (λ g. leb frame g) free

-- the lengths of runs rise with their orders
pub pow_le : (p q : ℕ) → p ≤ q → 2 ^ p ≤ 2 ^ q
pow_le p q more = le_of_dvd (pow_pos q) (pow_divides p q more)

-- a free run has a free run of each lesser order round each of its frames
pub IsFreeRun-within : {free : List ℕ} {e q : ℕ} → IsFreeRun free e q → (p f : ℕ) → p ≤ q → e ≤ f → f < e + 2 ^ q → IsFreeRun free (f - f % 2 ^ p) p
IsFreeRun-within {free} {e} {q} run p f less low high =
    let ends = run_within p q f e less run.aligned low high in
    record {
      aligned = aligned_start (2 ^ p) f;
      all_free = λ g above below. run.all_free g (omega (arith, ends.0)) (omega (arith, ends.1));
    }

-- a free run is a block where the run of the next order round it is not free
pub IsBlock-from_run : {free : List ℕ} {f p : ℕ} → p ≤ 10 → IsFreeRun free f p → ((p < 10) × IsFreeRun free (f - f % 2 ^ (p + 1)) (p + 1) → ⊥) → IsBlock free f p
IsBlock-from_run {free} {f} {p} small run alone = record {
  small = small;
  run = run;
  maximal = λ e q more most greater low high. alone (omega arith, IsFreeRun-within greater (p + 1) f (omega arith) low high);
}

-- and only there
pub IsBlock-alone : {free : List ℕ} {f p : ℕ} → IsBlock free f p → (p < 10) × IsFreeRun free (f - f % 2 ^ (p + 1)) (p + 1) → ⊥
IsBlock-alone {free} {f} {p} block (less, greater) =
    let rest : f % 2 ^ (p + 1) < 2 ^ (p + 1) = mod_below f (2 ^ (p + 1)) (pow_pos (p + 1)) in
    block.maximal (f - f % 2 ^ (p + 1)) (p + 1) (omega arith) (omega arith) greater (omega arith) (omega arith)

-- each frame of the run that a take chooses is free
pub IsTaken-free : {free : List ℕ} {order frame : ℕ} → IsTaken free order frame → (g : ℕ) → frame ≤ g → g < frame + 2 ^ order → Contains free g
IsTaken-free {free} {order} {frame} taken g low high =
    taken.block.run.all_free g low (omega (arith, pow_le order taken.found taken.enough))

-- the run that a take chooses is aligned
pub IsTaken-aligned : {free : List ℕ} {order frame : ℕ} → IsTaken free order frame → frame % 2 ^ order ≡ 0
IsTaken-aligned {free} {order} {frame} taken =
    mod-eq-zero_of_dvd (2 ^ order) (dvd_trans (2 ^ order) (pow_divides order taken.found taken.enough) (dvd_of_mod-eq-zero (2 ^ taken.found) taken.block.run.aligned))

-- the order that a take finds is one
IsTaken-found : {free : List ℕ} {order f g : ℕ} (a : IsTaken free order f) (b : IsTaken free order g) → a.found ≡ b.found
IsTaken-found {free} {order} {f} {g} a b =
    elim (cases_order a.found b.found) [
      | inl same ↦ same
      | inr (inl less) ↦ absurd (b.least a.found f a.enough less a.block)
      | inr (inr more) ↦ absurd (a.least b.found g b.enough more b.block)
    ]

-- a take chooses one frame
pub IsTaken-unique : {free : List ℕ} {order f g : ℕ} → IsTaken free order f → IsTaken free order g → f ≡ g
IsTaken-unique {free} {order} {f} {g} a b =
    let same : a.found ≡ b.found = IsTaken-found a b in
    elim (cases_order f g) [
      | inl here ↦ here
      | inr (inl less) ↦ absurd (b.lowest f less (subst (λ p. IsBlock free f p) same a.block))
      | inr (inr more) ↦ absurd (a.lowest g more (subst (λ p. IsBlock free g p) (sym same) b.block))
    ]

-- what is free without a run was free, and lies outside the run
pub from_less_run : (free : List ℕ) (frame order g : ℕ) → Contains (less_run free frame order) g → Contains free g × ((g < frame) ⊎ (frame + 2 ^ order ≤ g))
from_less_run free frame order g found =
    let both = from_filter (λ x. ltb x frame || leb (frame + 2 ^ order) x) free g found in (
      both.0,
      elim (or_cases (ltb g frame) (leb (frame + 2 ^ order) g) both.1) [
        | inl below ↦ inl (ltb-true g frame below)
        | inr above ↦ inr (leb-true (frame + 2 ^ order) g above)
      ],
    )

-- what is free below a run stays free without it
pub Contains-less_run_below : (free : List ℕ) (frame order g : ℕ) → Contains free g → g < frame → Contains (less_run free frame order) g
Contains-less_run_below free frame order g found below =
    Contains-filter (λ x. ltb x frame || leb (frame + 2 ^ order) x) free g found (or_left (ltb g frame) (leb (frame + 2 ^ order) g) (lt-ltb g frame below))

-- and what is free above it
pub Contains-less_run_above : (free : List ℕ) (frame order g : ℕ) → Contains free g → frame + 2 ^ order ≤ g → Contains (less_run free frame order) g
Contains-less_run_above free frame order g found above =
    Contains-filter (λ x. ltb x frame || leb (frame + 2 ^ order) x) free g found (or_right (ltb g frame) (leb (frame + 2 ^ order) g) (le-leb (frame + 2 ^ order) g above))

-- the free frames without a run still rise
pub IsStrictlyIncreasing-less_run : (free : List ℕ) (frame order : ℕ) → IsStrictlyIncreasing free → IsStrictlyIncreasing (less_run free frame order)
IsStrictlyIncreasing-less_run free frame order rising = IsStrictlyIncreasing-filter (λ g. ltb g frame || leb (frame + 2 ^ order) g) free rising

-- the frames of a run that comes back are free with it
pub Contains-with_run_new : (free : List ℕ) (frame order g : ℕ) → frame ≤ g → g < frame + 2 ^ order → Contains (with_run free frame order) g
Contains-with_run_new free frame order g low high =
    Contains-append_left (below free frame ++ range_with_len frame (2 ^ order)) (above free (frame + 2 ^ order)) g
    (Contains-append_right (below free frame) (range_with_len frame (2 ^ order)) g (Contains-range_with_len frame (2 ^ order) g low high))

-- and what was free stays free
pub Contains-with_run_old : (free : List ℕ) (frame order g : ℕ) → Contains free g → Contains (with_run free frame order) g
Contains-with_run_old free frame order g found =
    elim (cases_lt g frame) [
      | inl before ↦ Contains-append_left (below free frame ++ range_with_len frame (2 ^ order)) (above free (frame + 2 ^ order)) g
          (Contains-append_left (below free frame) (range_with_len frame (2 ^ order)) g (Contains-filter (λ x. ltb x frame) free g found (lt-ltb g frame before)))
      | inr low ↦ elim (cases_lt g (frame + 2 ^ order)) [
        | inl high ↦ Contains-with_run_new free frame order g low high
        | inr after ↦ Contains-append_right (below free frame ++ range_with_len frame (2 ^ order)) (above free (frame + 2 ^ order)) g
            (Contains-filter (λ x. leb (frame + 2 ^ order) x) free g found (le-leb (frame + 2 ^ order) g after))
      ]
    ]

-- nothing else is free
pub from_with_run : (free : List ℕ) (frame order g : ℕ) → Contains (with_run free frame order) g → Contains free g ⊎ ((frame ≤ g) × (g < frame + 2 ^ order))
from_with_run free frame order g found =
    elim (Contains-append_cases (below free frame ++ range_with_len frame (2 ^ order)) (above free (frame + 2 ^ order)) g found) [
      | inl front ↦ elim (Contains-append_cases (below free frame) (range_with_len frame (2 ^ order)) g front) [
        | inl before ↦ inl (from_filter (λ x. ltb x frame) free g before).0
        | inr within ↦ inr (from_range_with_len frame (2 ^ order) g within)
      ]
      | inr after ↦ inl (from_filter (λ x. leb (frame + 2 ^ order) x) free g after).0
    ]

-- the free frames with a run still rise
pub IsStrictlyIncreasing-with_run : (free : List ℕ) (frame order : ℕ) → IsStrictlyIncreasing free → IsStrictlyIncreasing (with_run free frame order)
IsStrictlyIncreasing-with_run free frame order rising =
    IsStrictlyIncreasing-append (below free frame ++ range_with_len frame (2 ^ order)) (above free (frame + 2 ^ order))
    (IsStrictlyIncreasing-append (below free frame) (range_with_len frame (2 ^ order)) (IsStrictlyIncreasing-filter (λ x. ltb x frame) free rising) (IsStrictlyIncreasing-range_with_len frame (2 ^ order))
    (λ x y left right.
    let low = ltb-true x frame (from_filter (λ z. ltb z frame) free x left).1 in
    let high = (from_range_with_len frame (2 ^ order) y right).0 in
    omega arith))
    (IsStrictlyIncreasing-filter (λ x. leb (frame + 2 ^ order) x) free rising)
    (λ x y left right.
    let high : frame + 2 ^ order ≤ y = leb-true (frame + 2 ^ order) y (from_filter (λ z. leb (frame + 2 ^ order) z) free y right).1 in
    elim (Contains-append_cases (below free frame) (range_with_len frame (2 ^ order)) x left) [
      | inl before ↦ let low : x < frame = ltb-true x frame (from_filter (λ z. ltb z frame) free x before).1 in omega arith
      | inr within ↦ let inside : (frame ≤ x) × (x < frame + 2 ^ order) = from_range_with_len frame (2 ^ order) x within in omega (arith, inside.1)
    ])

-- a run that is taken and comes back leaves the free frames as they were
pub with_run-less_run : (free : List ℕ) (frame order : ℕ) → IsStrictlyIncreasing free → ((g : ℕ) → frame ≤ g → g < frame + 2 ^ order → Contains free g) → with_run (less_run free frame order) frame order ≡ free
with_run-less_run free frame order rising all_free =
    same_members (with_run (less_run free frame order) frame order) free
    (IsStrictlyIncreasing-with_run (less_run free frame order) frame order (IsStrictlyIncreasing-less_run free frame order rising)) rising
    (λ g found. elim (from_with_run (less_run free frame order) frame order g found) [
      | inl kept ↦ (from_less_run free frame order g kept).0
      | inr within ↦ all_free g within.0 within.1
    ])
    (λ g found. elim (cases_lt g frame) [
      | inl before ↦ Contains-with_run_old (less_run free frame order) frame order g (Contains-less_run_below free frame order g found before)
      | inr low ↦ elim (cases_lt g (frame + 2 ^ order)) [
        | inl high ↦ Contains-with_run_new (less_run free frame order) frame order g low high
        | inr after ↦ Contains-with_run_old (less_run free frame order) frame order g (Contains-less_run_above free frame order g found after)
      ]
    ])
