-- Every layout is within its bounds.
use Rattle.std.proofs.Common.{◌≡◌, ℕ, suc, ◌+◌, ◌*◌, ◌/◌, ◌^◌, ◌<◌, ◌≤◌, Bool, true, false, inl, inr, ap, if◌then◌else◌, arith}
use Rattle.std.proofs.lemmas.Bool.{cases_lt}
use Rattle.std.proofs.lemmas.Bool.Decides.{nat_tests}
use Rattle.std.proofs.lemmas.Grind.{div_ceil_times}
use Rattle.std.proofs.lemmas.Nat.{le-div}
use Rattle.std.proofs.Math.Nat.{mul-le-mul_right, mul-le-mul_left, pow-suc, div-mul-le_self}
use Rattle.std.proofs.Math.Pow.{pow_mono}
use Rattle.slub_object_layout.specs.declared.layout.Layout.{Layout}
use Rattle.slub_object_layout.specs.declared.layout.Spec.{Spec}
use Rattle.slub_object_layout.specs.Layout.{IsAccepted, IsLayout, IsWithinBounds, cpu_partial_of, min_partial_of, cpu_partial_slabs_of, is_checked}
use Rattle.slub_object_layout.proofs.Orders.{IsRoomy, order_is}
use Rattle.slub_object_layout.proofs.Slots.{slot_is}

-- the slots of a run
pub record IsCount (size order objects : ℕ) : Type 0 where
  pub some : 1 ≤ objects
  pub fit : objects * size ≤ 4096 * 2 ^ order

-- a run that has room for one slot has some, and they fit
pub count_is : (size order objects : ℕ) → 1 ≤ size → size ≤ 4096 * 2 ^ order → objects ≡ 4096 * 2 ^ order / size → IsCount size order objects
count_is size order objects some holds is = record {
  some = rw is (le-div 1 (4096 * 2 ^ order) size some (omega arith));
  fit = rw is (div-mul-le_self (4096 * 2 ^ order) size);
}

-- a run of order 3 at most has 32768 bytes
pub run_within : (order : ℕ) → order ≤ 3 → 4096 * 2 ^ order ≤ 32768
run_within order small = let power : 2 ^ order ≤ 2 ^ 3 = pow_mono small in omega (arith, power)

-- no slab has more than 512: slots below 64 bytes fill one frame, and 512 others would fill eight
objects_within : (size order objects : ℕ) → 8 ≤ size → IsRoomy size order → IsCount size order objects → objects ≤ 512
objects_within size order objects word room count =
    elim (cases_lt size 64) [
      | inl few ↦
          let none : 4096 * 2 ^ order ≡ 4096 = ap (λ (o : ℕ). 4096 * 2 ^ o) (room.few_bytes few) in
          let eight : objects * 8 ≤ objects * size = mul-le-mul_left objects word in
          omega (arith, eight, count.fit, none)
      | inr many ↦
          let line : objects * 64 ≤ objects * size = mul-le-mul_left objects many in
          omega (arith, line, count.fit, run_within order room.small)
    ]

-- a greater order has at least twice the objects
doubled : (size order objects less fewer : ℕ) → 1 ≤ size → objects ≡ 4096 * 2 ^ order / size → less < order → IsCount size less fewer → fewer + fewer ≤ objects
doubled size order objects less fewer some is below count =
    let twice : 2 * 2 ^ less ≤ 2 ^ order = let step : 2 ^ suc less ≤ 2 ^ order = pow_mono below in omega (arith, step, pow-suc 2 less) in
    rw is (le-div (fewer + fewer) (4096 * 2 ^ order) size some (omega (arith, twice, count.fit)))

-- an order that is no greater has no more objects
fewer_within : (size order objects less fewer : ℕ) → 1 ≤ size → objects ≡ 4096 * 2 ^ order / size → less ≤ order → IsCount size less fewer → fewer ≤ objects
fewer_within size order objects less fewer some is below count =
    let power : 2 ^ less ≤ 2 ^ order = pow_mono below in
    rw is (le-div fewer (4096 * 2 ^ order) size some (omega (arith, power, count.fit)))

-- at most 240 half-full slabs hold 120 objects
partial_within : (n objects : ℕ) → n ≤ 120 → 1 ≤ objects → cpu_partial_slabs_of n objects ≤ 240
partial_within n objects small some =
    elim (cases_lt (cpu_partial_slabs_of n objects) 241) [
      | inl less ↦ omega arith
      | inr more ↦
          let much : 241 * objects ≤ cpu_partial_slabs_of n objects * objects = mul-le-mul_right objects more in
          absurd (omega (arith, much, (div_ceil_times (2 * n) objects some).1))
    ]

-- no CPU is to hold more than 120 objects
cpu_partial_within : (size : ℕ) → cpu_partial_of size ≤ 120
unfolding cpu_partial_of
cpu_partial_within size = grind (arith, nat_tests)

-- the node list keeps 5 to 10 slabs
min_partial_within : (size : ℕ) → (5 ≤ min_partial_of size) × (min_partial_of size ≤ 10)
unfolding min_partial_of
min_partial_within size = (omega arith, omega arith)

-- a checked cache keeps no slab on a CPU, and another at most 240
slabs_within : (checked : Bool) (size objects : ℕ) → 1 ≤ objects → (if checked then 0 else cpu_partial_slabs_of (cpu_partial_of size) objects) ≤ 240
slabs_within true size objects some = omega arith
slabs_within false size objects some = partial_within (cpu_partial_of size) objects (cpu_partial_within size) some

-- the equations keep a layout within its bounds
pub bounds_of : (spec : Spec) (cpus : ℕ) (layout : Layout) → IsAccepted spec → cpus ≤ 16 → IsLayout spec cpus layout → IsWithinBounds layout
bounds_of spec cpus layout accepted few is =
    let slot = slot_is spec accepted in
    let word : 8 ≤ layout.size = rw is.size slot.from_a_word in
    let frames : layout.size ≤ 24576 = rw is.size slot.to_six_frames in
    let room = order_is layout.size cpus layout.order (omega arith) frames few is.order in
    let count = count_is layout.size layout.order layout.objects (omega arith) room.holds is.objects in
    let least = count_is layout.size layout.min_order layout.min_objects_slab (omega arith) is.min_order.holds is.min_objects_slab in
    let order_below : layout.min_order ≤ layout.order = is.min_order.least layout.order room.holds in
    record {
      object_size = rw is.object_size accepted.size;
      size = (word, frames);
      size_in_words = rw is.size slot.words;
      inuse = (rw (is.object_size, is.inuse) slot.inuse_around, rw (is.inuse, is.left_pad, is.size) slot.inuse_within);
      left_pad_in_words = rw is.left_pad slot.pad_words;
      left_pad = rw (is.left_pad, is.size) slot.pad_within;
      offset = rw (is.offset, is.left_pad, is.size) slot.pointer_within;
      offset_in_words = rw is.offset slot.pointer_words;
      order = room.small;
      min_order = order_below;
      objects = (count.some, objects_within layout.size layout.order layout.objects word room count);
      min_objects_slab = (least.some, fewer_within layout.size layout.order layout.objects layout.min_order layout.min_objects_slab (omega arith) is.objects order_below least);
      objects_fit = count.fit;
      min_objects_fit = least.fit;
      within_eight_frames = omega (arith, count.fit, run_within layout.order room.small);
      orders_differ = λ apart same. let twice = doubled layout.size layout.order layout.objects layout.min_order layout.min_objects_slab (omega arith) is.objects (omega arith) least in omega (arith, twice, least.some);
      min_partial = rw is.min_partial (min_partial_within layout.size);
      cpu_partial_slabs = rw is.cpu_partial_slabs (slabs_within (is_checked spec.flags) layout.size layout.objects count.some);
    }
