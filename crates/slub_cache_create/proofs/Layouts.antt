-- The layouts of live caches keep within their bounds.
use Rattle.std.proofs.Common.{◌≡◌, ℕ, ◌*◌, ◌/◌, ◌%◌, ◌+◌, ◌≤◌, ◌||◌, Bool, true, false, refl, ◌∙◌, arith}
use Rattle.std.proofs.Math.Nat.{mul-le-mul_right}
use Rattle.std.specs.Int.{div_ceil}
use Rattle.slub_object_layout.specs.declared.layout.Layout.{Layout}
use Rattle.slub_object_layout.specs.declared.layout.Flags.{Flags}
use Rattle.slub_object_layout.specs.declared.layout.Setting.{Setting}
use Rattle.slub_object_layout.specs.declared.layout.Setting.TheVariants.{MinPartial, CpuPartial}
use Rattle.slub_object_layout.specs.declared.layout.Spec.{Spec}
use Rattle.slub_object_layout.specs.Layout.{IsAccepted, IsLayout, IsWithinBounds, align_up, alignment_of, left_pad_of, is_checked}
use Rattle.slub_cache_create.specs.declared.caches.Cache.{Cache}
use Rattle.slub_cache_create.specs.Merging.{Fits, merged_with, wanted_of}
use Rattle.slub_cache_create.specs.Sound.{IsLiveLayout}
use Rattle.slub_cache_create.specs.Tune.{Takes, tuned_layout}

unpadded : (spec : Spec) → spec.flags.zones ≡ false → left_pad_of spec ≡ 0
unfolding left_pad_of
unpadded spec none = rw none refl

-- a new layout that was never merged with or tuned
pub IsLiveLayout-made : (spec : Spec) (cpus : ℕ) (layout : Layout) → IsLayout spec cpus layout → IsWithinBounds layout → IsLiveLayout spec.flags layout
IsLiveLayout-made spec cpus layout solved good = record {
  made = record {
    object_size = good.object_size;
    inuse = good.inuse;
    size = good.size;
    size_in_words = good.size_in_words;
    left_pad = good.left_pad;
    left_pad_in_words = good.left_pad_in_words;
    offset = good.offset;
    offset_in_words = good.offset_in_words;
    order = good.order;
    min_order = good.min_order;
    objects = good.objects;
    min_objects_slab = good.min_objects_slab;
    objects_fit = good.objects_fit;
    min_objects_fit = good.min_objects_fit;
    within_eight_frames = good.within_eight_frames;
    orders_differ = good.orders_differ;
    min_partial = (omega arith, omega arith);
    cpu_partial_slabs = omega arith;
  };
  min_partial = omega (arith, good.min_partial.1);
  cpu_partial_slabs = omega (arith, good.cpu_partial_slabs);
  unpadded = λ none. solved.left_pad ∙ unpadded spec none;
  no_partial = λ checked. rw checked at solved.cpu_partial_slabs;
}

-- no smaller than what is rounded up
pub align_up-le : (x a : ℕ) → 1 ≤ a → x ≤ align_up x a
align_up-le x a some = omega arith

-- nothing is checked, so there is no red zone
pub no_zones : (flags : Flags) → is_checked flags ≡ false → flags.zones ≡ false
no_zones flags none = by flags.checks flags.zones flags.poison none
  where
    by : (f z p : Bool) → (f || z || p) ≡ false → z ≡ false
    by true z p is = absurd cc
    by false true p is = absurd cc
    by false false p is = refl

-- the greater sizes lie in the same slot
pub IsLiveLayout-merged : (live : Cache) (spec : Spec) → IsAccepted spec → 1 ≤ alignment_of spec → Fits live spec
    → IsLiveLayout live.flags live.layout → IsLiveLayout live.flags (merged_with spec live).layout
IsLiveLayout-merged live spec accepted some fits was =
    let good = was.made in
    let none : live.layout.left_pad ≡ 0 = was.unpadded (no_zones live.flags fits.unchecked) in
    let words : spec.size ≤ align_up spec.size 8 = align_up-le spec.size 8 (omega arith) in
    let slot : align_up spec.size 8 ≤ wanted_of spec = align_up-le (align_up spec.size 8) (alignment_of spec) some in
    record {
      made = record {
        object_size = (omega (arith, good.object_size.0), omega (arith, good.object_size.1, accepted.size.1));
        inuse = (omega (arith, good.inuse.0, words), omega (arith, good.inuse.1, none, slot, fits.holds));
        size = good.size;
        size_in_words = good.size_in_words;
        left_pad = good.left_pad;
        left_pad_in_words = good.left_pad_in_words;
        offset = good.offset;
        offset_in_words = good.offset_in_words;
        order = good.order;
        min_order = good.min_order;
        objects = good.objects;
        min_objects_slab = good.min_objects_slab;
        objects_fit = good.objects_fit;
        min_objects_fit = good.min_objects_fit;
        within_eight_frames = good.within_eight_frames;
        orders_differ = good.orders_differ;
        min_partial = good.min_partial;
        cpu_partial_slabs = good.cpu_partial_slabs;
      };
      min_partial = was.min_partial;
      cpu_partial_slabs = was.cpu_partial_slabs;
      unpadded = was.unpadded;
      no_partial = was.no_partial;
    }

-- the same layout, of which one number is set
pub IsLiveLayout-tuned : (flags : Flags) (setting : Setting) (layout : Layout) → Takes flags setting → IsLiveLayout flags layout
    → IsLiveLayout flags (tuned_layout setting layout)
IsLiveLayout-tuned flags (MinPartial slabs) layout takes was = record {
  made = was.made;
  min_partial = takes;
  cpu_partial_slabs = was.cpu_partial_slabs;
  unpadded = was.unpadded;
  no_partial = was.no_partial;
}
IsLiveLayout-tuned flags (CpuPartial objects) layout takes was = record {
  made = was.made;
  min_partial = was.min_partial;
  cpu_partial_slabs = rounded (2 * objects) layout.objects was.made.objects.0 (omega (arith, takes.0));
  unpadded = was.unpadded;
  no_partial = λ checked. nothing objects layout.objects (takes.1 checked) was.made.objects.0;
}
  where
    nothing : (x y : ℕ) → x ≡ 0 → 1 ≤ y → div_ceil (2 * x) y ≡ 0
    nothing x y none some = rw none (omega arith)

    -- so many slabs are no more than the objects
    rounded : (x y : ℕ) → 1 ≤ y → x ≤ 8192 → div_ceil x y ≤ 8192
    rounded x y some most = let whole : 1 * (x / y) ≤ y * (x / y) = mul-le-mul_right (x / y) some in omega (arith, whole)
