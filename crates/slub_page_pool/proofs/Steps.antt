-- What the layers above need of takes and puts: they keep a pool, agree, and undo one another.
use Rattle.std.proofs.Common.{ℕ, ◌+◌, ◌-◌, ◌^◌, ◌<◌, ◌≤◌, ◌≡◌, ◌⊎◌, inl, inr, ltb, leb, not, ◌||◌, List, length, Option, None, Some, refl, sym, ◌∙◌, ap, arith, Contains, get_or}
use Rattle.std.specs.List.{range_with_len, filter}
use Rattle.std.specs.List.Sorted.{IsStrictlyIncreasing}
use Rattle.std.proofs.lemmas.Bool.{cases_lt, le-ltb, lt-leb, or_parts, or_from, ltb-false, leb-false, not-true, not_from_false}
use Rattle.std.proofs.lemmas.Nat.{pow_pos}
use Rattle.std.proofs.lemmas.List.Elements.{All-contains, All-filter, Contains-get_or}
use Rattle.std.proofs.lemmas.List.Kept.{IsStrictlyIncreasing-filter}
use Rattle.std.proofs.lemmas.List.Filters.{length-filter_both}
use Rattle.std.proofs.lemmas.List.FromFn.{length-range_with_len}
use Rattle.slub_page_pool.specs.FreeFrames.{FreeFrames, IsPool}
use Rattle.slub_page_pool.specs.Block.{IsTaken, HasNoBlock, Takes, CanPut, less_run, with_run}
use Rattle.slub_common.proofs.Lists.{Contains-filter, from_filter, same_members, Contains-range_with_len, from_range_with_len, IsStrictlyIncreasing-range_with_len}
use Rattle.slub_page_pool.proofs.FreeRuns.{IsTaken-free, IsTaken-aligned, IsTaken-unique, from_less_run, Contains-less_run_below, Contains-less_run_above, IsStrictlyIncreasing-less_run, from_with_run, Contains-with_run_old, Contains-with_run_new, IsStrictlyIncreasing-with_run}

-- a free frame is from 1 to frames - 1
pub IsPool-usable : {pool : FreeFrames} → IsPool pool → (g : ℕ) → Contains pool.free g → (1 ≤ g) × (g < pool.frames)
IsPool-usable {pool} is g found = All-contains (λ f. (1 ≤ f) × (f < pool.frames)) pool.free g is.usable found

-- the run that a take chooses lies among the frames 1 to frames - 1
pub IsTaken-within : {pool : FreeFrames} → IsPool pool → {order frame : ℕ} → IsTaken pool.free order frame → (1 ≤ frame) × (frame + 2 ^ order ≤ pool.frames)
IsTaken-within {pool} is {order} {frame} taken =
    let some : 0 < 2 ^ order = pow_pos order in
    let first = IsPool-usable is frame (IsTaken-free taken frame (omega arith) (omega arith)) in
    let last = IsPool-usable is (frame + 2 ^ order - 1) (IsTaken-free taken (frame + 2 ^ order - 1) (omega arith) (omega arith)) in
    (first.0, omega (arith, last.1))

-- a take that chooses a run leaves a pool
pub IsPool-less_run : {pool : FreeFrames} → IsPool pool → (frame order : ℕ) → (let new : FreeFrames = record pool { free = less_run pool.free frame order } in IsPool new)
IsPool-less_run {pool} is frame order = record {
  least = is.least;
  most = is.most;
  rising = IsStrictlyIncreasing-less_run pool.free frame order is.rising;
  usable = All-filter (λ g. ltb g frame || leb (frame + 2 ^ order) g) (λ f. (1 ≤ f) × (f < pool.frames)) pool.free is.usable;
  orders = is.orders;
}

-- so does a put
pub IsPool-with_run : {pool : FreeFrames} → IsPool pool → {frame order : ℕ} → CanPut pool frame order → (let new : FreeFrames = record pool { free = with_run pool.free frame order } in IsPool new)
IsPool-with_run {pool} is {frame} {order} can = record {
  least = is.least;
  most = is.most;
  rising = IsStrictlyIncreasing-with_run pool.free frame order is.rising;
  usable = λ k d short. elim (from_with_run pool.free frame order (get_or (with_run pool.free frame order) k d) (Contains-get_or (with_run pool.free frame order) k d short)) [
    | inl old ↦ IsPool-usable is (get_or (with_run pool.free frame order) k d) old
    | inr within ↦ (omega (arith, within.0, can.positive), omega (arith, within.1, can.inside))
  ];
  orders = is.orders;
}

-- a run that was taken can come back
pub CanPut-taken : {pool : FreeFrames} → IsPool pool → {order frame : ℕ} → order ≤ 10 → IsTaken pool.free order frame → (let new : FreeFrames = record pool { free = less_run pool.free frame order } in CanPut new frame order)
CanPut-taken {pool} is {order} {frame} small taken =
    let bounds = IsTaken-within is taken in
    record {
      small = small;
      aligned = IsTaken-aligned taken;
      positive = bounds.0;
      inside = bounds.1;
      none_free = λ g low high found. elim (from_less_run pool.free frame order g found).1 [
        | inl before ↦ omega arith
        | inr after ↦ omega arith
      ];
    }

-- and it still can after another take
pub CanPut-less_run : {pool : FreeFrames} {frame order : ℕ} → CanPut pool frame order → (f o : ℕ) → (let new : FreeFrames = record pool { free = less_run pool.free f o } in CanPut new frame order)
CanPut-less_run {pool} {frame} {order} can f o = record {
  small = can.small;
  aligned = can.aligned;
  positive = can.positive;
  inside = can.inside;
  none_free = λ g low high found. can.none_free g low high (from_less_run pool.free f o g found).0;
}

-- and after another run came back
pub CanPut-with_run : {pool : FreeFrames} {frame order : ℕ} → CanPut pool frame order → (f o : ℕ) → (f + 2 ^ o ≤ frame) ⊎ (frame + 2 ^ order ≤ f)
    → (let new : FreeFrames = record pool { free = with_run pool.free f o } in CanPut new frame order)
CanPut-with_run {pool} {frame} {order} can f o apart = record {
  small = can.small;
  aligned = can.aligned;
  positive = can.positive;
  inside = can.inside;
  none_free = λ g low high found. elim (from_with_run pool.free f o g found) [
    | inl old ↦ can.none_free g low high old
    | inr within ↦ elim apart [
      | inl before ↦ omega (arith, within.1)
      | inr after ↦ omega (arith, within.0)
    ]
  ];
}

-- where a take chooses a run there is a block
pub IsTaken-not_none : {free : List ℕ} {order frame : ℕ} → IsTaken free order frame → HasNoBlock free order → ⊥
IsTaken-not_none {free} {order} {frame} taken none = none taken.found frame taken.enough taken.block.small taken.block

-- takes of the same order from the same pool have the same answer and leave the same pool
pub Takes-unique : (old : FreeFrames) (order : ℕ) (a b : Option ℕ) (new other : FreeFrames) → Takes old order a new → Takes old order b other → (a ≡ b) × (new ≡ other)
Takes-unique old order None None new other (left, none) (right, none') = (refl, left ∙ sym right)
Takes-unique old order None (Some g) new other (left, none) (taken, right) = absurd (IsTaken-not_none taken none)
Takes-unique old order (Some f) None new other (taken, left) (right, none) = absurd (IsTaken-not_none taken none)
Takes-unique old order (Some f) (Some g) new other (taken, left) (taken', right) =
    let same : f ≡ g = IsTaken-unique taken taken' in
    (ap Some same, left ∙ ap (λ h. let after : FreeFrames = record old { free = less_run old.free h order } in after) same ∙ sym right)

-- a run that comes back and is taken leaves the free frames as they were
pub less_run-with_run : (free : List ℕ) (frame order : ℕ) → IsStrictlyIncreasing free → ((g : ℕ) → frame ≤ g → g < frame + 2 ^ order → Contains free g → ⊥) → less_run (with_run free frame order) frame order ≡ free
less_run-with_run free frame order rising none_free =
    let added = with_run free frame order in
    same_members (less_run added frame order) free (IsStrictlyIncreasing-less_run added frame order (IsStrictlyIncreasing-with_run free frame order rising)) rising
    (λ g found.
    let both = from_less_run added frame order g found in
    elim (from_with_run free frame order g both.0) [
      | inl old ↦ old
      | inr within ↦ elim both.1 [
        | inl before ↦ absurd (omega (arith, within.0))
        | inr after ↦ absurd (omega (arith, within.1))
      ]
    ])
    (λ g found. elim (cases_lt g frame) [
      | inl before ↦ Contains-less_run_below added frame order g (Contains-with_run_old free frame order g found) before
      | inr low ↦ elim (cases_lt g (frame + 2 ^ order)) [
        | inl high ↦ absurd (none_free g low high found)
        | inr after ↦ Contains-less_run_above added frame order g (Contains-with_run_old free frame order g found) after
      ]
    ])

-- a taken run has 2 ^ order of the free frames
pub length-less_run : (free : List ℕ) (frame order : ℕ) → IsStrictlyIncreasing free → ((g : ℕ) → frame ≤ g → g < frame + 2 ^ order → Contains free g) → length (less_run free frame order) + 2 ^ order ≡ length free
length-less_run free frame order rising all_free =
    let outside = λ (g : ℕ). ltb g frame || leb (frame + 2 ^ order) g in
    let inside = λ (g : ℕ). not (outside g) in
    let run : filter inside free ≡ range_with_len frame (2 ^ order) =
    same_members (filter inside free) (range_with_len frame (2 ^ order)) (IsStrictlyIncreasing-filter inside free rising) (IsStrictlyIncreasing-range_with_len frame (2 ^ order))
    (λ g found.
    let parts = or_parts (ltb g frame) (leb (frame + 2 ^ order) g) (not-true (outside g) (from_filter inside free g found).1) in
    Contains-range_with_len frame (2 ^ order) g (ltb-false g frame parts.0) (leb-false (frame + 2 ^ order) g parts.1))
    (λ g found.
    let bounds = from_range_with_len frame (2 ^ order) g found in
    Contains-filter inside free g (all_free g bounds.0 bounds.1) (not_from_false (outside g) (or_from (ltb g frame) (leb (frame + 2 ^ order) g) (le-ltb g frame bounds.0) (lt-leb (frame + 2 ^ order) g bounds.1)))) in
    omega (arith, length-filter_both outside inside (λ g. refl) free, ap length run, length-range_with_len frame (2 ^ order))

-- and a run that comes back adds as many
pub length-with_run : (free : List ℕ) (frame order : ℕ) → IsStrictlyIncreasing free → ((g : ℕ) → frame ≤ g → g < frame + 2 ^ order → Contains free g → ⊥) → length (with_run free frame order) ≡ length free + 2 ^ order
length-with_run free frame order rising none_free =
    omega (
      arith,
      ap length (less_run-with_run free frame order rising none_free),
      length-less_run (with_run free frame order) frame order (IsStrictlyIncreasing-with_run free frame order rising) (Contains-with_run_new free frame order),
    )
