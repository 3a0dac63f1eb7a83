-- What each step does to one slab.
use Rattle.std.proofs.Common.{◌≡◌, ℕ, suc, ◌+◌, ◌*◌, ◌<◌, ◌≤◌, List, ◌∷◌, length, get_or, set, map, drop, replicate, refl, ap, arith, subst, sym, ◌∙◌, length-set}
use Rattle.std.proofs.lemmas.List.{length-map, length-replicate}
use Rattle.std.proofs.lemmas.List.FromFn.{length-range_with_len}
use Rattle.std.proofs.Math.Nat.{mul-le-mul_right}
use Rattle.slub_object_layout.specs.declared.layout.Flags.{Flags}
use Rattle.slub_object_layout.specs.declared.layout.Layout.{Layout}
use Rattle.slub_red_zone.specs.declared.slab.ObjectState.TheVariants.{Free, Used, Aside}
use Rattle.slub_red_zone.specs.State.{SlabState, is_free, free_in, used_in, aside_in, objects_in}
use Rattle.slub_red_zone.specs.Steps.{slab_with_given, slab_with_taken, slab_set_aside, set_aside, new_slab}
use Rattle.slub_red_zone.specs.Sound.{IsSlab}
use Rattle.slub_object_layout.specs.Layout.{IsSized}
use Rattle.slub_red_zone.proofs.Asides.{AreFree, first-inside, free-inside, rest-free, more-free, none-left, all-free}
use Rattle.slub_red_zone.proofs.Counting.{free-state, given-kinds, taken-kinds, aside-kinds, new-kinds, kinds-sum}

module _ (layout : Layout) (slab : SlabState) (is : IsSlab layout slab) where
  -- an object's slot lies among the bytes
  pub slot-inside : (index : ℕ) → index < objects_in slab → index * layout.size + layout.size ≤ length slab.bytes
  slot-inside index inside =
      let more : suc index * layout.size ≤ objects_in slab * layout.size = mul-le-mul_right layout.size inside in
      omega (arith, more, is.bytes)

  -- no more are free than there are
  pub few-free : length slab.free + used_in slab + aside_in slab ≡ objects_in slab
  few-free = omega (arith, kinds-sum slab.states, is.free.count)

  module _ (index : ℕ) (rest : List ℕ) (first : slab.free ≡ index ∷ rest) where
    free-here : AreFree slab.states (index ∷ rest)
    free-here = subst (AreFree slab.states) first is.free.once

    -- the first free object is one of the slab, and it is free
    pub first-is-object : index < objects_in slab
    first-is-object = free-inside slab.states index (first-inside slab.states index rest free-here)

    pub first-is-free : get_or slab.states index Aside ≡ Free
    first-is-free = free-state _ (first-inside slab.states index rest free-here)

    pub given-slab : (flags : Flags) → length (slab_with_given layout flags slab index).bytes ≡ length slab.bytes → IsSlab layout (slab_with_given layout flags slab index)
    given-slab flags same =
        let states = set slab.states index Used in
        let long : length states ≡ length slab.states = length-set slab.states index Used in
        let tail : drop 1 slab.free ≡ rest = ap (drop 1) first in
        let kinds = given-kinds slab.states index first-is-object first-is-free in
        record {
          sized = subst (IsSized layout slab.order) (sym long) is.sized;
          bytes = same ∙ is.bytes ∙ ap (λ n. n * layout.size) (sym long);
          free = record {
            once = subst (AreFree states) (sym tail) (rest-free slab.states index rest Used refl free-here);
            count = let l = ap length first in let t = ap length tail in omega (arith, kinds, is.free.count, l, t);
          };
        }

    pub given-counts : (flags : Flags) → let new = slab_with_given layout flags slab index in (free_in new + 1 ≡ free_in slab) × (used_in new ≡ used_in slab + 1) × (aside_in new ≡ aside_in slab)
    given-counts flags = given-kinds slab.states index first-is-object first-is-free

  module _ (index : ℕ) (inside : index < objects_in slab) (used : get_or slab.states index Aside ≡ Used) where
    -- there is room for it among the free
    pub taken-room : length slab.free < objects_in slab
    taken-room = let kinds = taken-kinds slab.states index inside used in omega (arith, few-free, kinds)

    pub taken-slab : (flags : Flags) → length (slab_with_taken layout flags slab index).bytes ≡ length slab.bytes → IsSlab layout (slab_with_taken layout flags slab index)
    taken-slab flags same =
        let states = set slab.states index Free in
        let long : length states ≡ length slab.states = length-set slab.states index Free in
        let kinds = taken-kinds slab.states index inside used in
        record {
          sized = subst (IsSized layout slab.order) (sym long) is.sized;
          bytes = same ∙ is.bytes ∙ ap (λ n. n * layout.size) (sym long);
          free = record {
            once = more-free slab.states index slab.free inside (ap is_free used) is.free.once;
            count = omega (arith, kinds, is.free.count);
          };
        }

    pub taken-counts : (flags : Flags) → let new = slab_with_taken layout flags slab index in (free_in new ≡ free_in slab + 1) × (used_in new + 1 ≡ used_in slab) × (aside_in new ≡ aside_in slab)
    taken-counts flags = taken-kinds slab.states index inside used

  pub aside-slab : IsSlab layout (slab_set_aside slab)
  aside-slab =
      let states = map set_aside slab.states in
      let long : length states ≡ length slab.states = length-map slab.states set_aside in
      record {
        sized = subst (IsSized layout slab.order) (sym long) is.sized;
        bytes = is.bytes ∙ ap (λ n. n * layout.size) (sym long);
        free = record { once = none-left slab.states; count = sym (aside-kinds slab.states).0 };
      }

  -- the bytes are of no weight
  pub written-slab : (bytes : List ℕ) → length bytes ≡ length slab.bytes → IsSlab layout (record slab { bytes = bytes })
  written-slab bytes same = record { sized = is.sized; bytes = same ∙ is.bytes; free = is.free }

-- a new slab
pub new-slab : (layout : Layout) (flags : Flags) (order objects : ℕ) → IsSized layout order objects → length (new_slab layout flags order objects).bytes ≡ objects * layout.size → IsSlab layout (new_slab layout flags order objects)
new-slab layout flags order objects sized same =
    let long : length (replicate objects Free) ≡ objects = length-replicate objects Free in
    record {
      sized = subst (IsSized layout order) (sym long) sized;
      bytes = same ∙ ap (λ n. n * layout.size) (sym long);
      free = record { once = all-free objects; count = length-range_with_len 0 objects ∙ sym (new-kinds objects).0 };
    }
