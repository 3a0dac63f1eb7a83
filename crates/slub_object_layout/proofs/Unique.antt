-- A spec has one layout.
use Rattle.std.proofs.Common.{◌≡◌, ℕ, sym, ◌∙◌, arith}
use Rattle.slub_object_layout.specs.declared.layout.Layout.{Layout}
use Rattle.slub_object_layout.specs.declared.layout.Spec.{Spec}
use Rattle.slub_object_layout.specs.Layout.{IsLayout, IsLeastOrder, IsOrder, greatest, single, IsFirstFit, sixteenth, eighth, quarter, IsLeastFit}

-- layouts with equal fields are equal
same_layout : (a b : Layout) → a.object_size ≡ b.object_size → a.inuse ≡ b.inuse → a.offset ≡ b.offset → a.left_pad ≡ b.left_pad → a.size ≡ b.size → a.align ≡ b.align
    → a.order ≡ b.order → a.objects ≡ b.objects → a.min_order ≡ b.min_order → a.min_objects_slab ≡ b.min_objects_slab → a.min_partial ≡ b.min_partial
    → a.cpu_partial_slabs ≡ b.cpu_partial_slabs → a ≡ b
same_layout a b e1 e2 e3 e4 e5 e6 e7 e8 e9 e10 e11 e12 = λ i. record {
  object_size = e1 i;
  inuse = e2 i;
  offset = e3 i;
  left_pad = e4 i;
  size = e5 i;
  align = e6 i;
  order = e7 i;
  objects = e8 i;
  min_order = e9 i;
  min_objects_slab = e10 i;
  min_partial = e11 i;
  cpu_partial_slabs = e12 i;
}

-- two least orders are one
least_orders_same : (bytes a b : ℕ) → IsLeastOrder bytes a → IsLeastOrder bytes b → a ≡ b
least_orders_same bytes a b one other = omega (arith, one.least b other.holds, other.least a one.holds)

-- two least orders that fit are one
least_fits_same : (size objects fraction a b : ℕ) → IsLeastFit size objects fraction a → IsLeastFit size objects fraction b → a ≡ b
least_fits_same size objects fraction a b one other = omega (arith, one.least b other.fits, other.least a one.fits)

-- the first fraction with an order is one, and so is its order
first_fits_same : (size objects a b : ℕ) → IsFirstFit size objects a → IsFirstFit size objects b → a ≡ b
first_fits_same size objects a b (sixteenth one) (sixteenth other) = least_fits_same size objects 16 a b one other
first_fits_same size objects a b (sixteenth one) (eighth not16 other) = absurd (not16 (a, one.fits))
first_fits_same size objects a b (sixteenth one) (quarter not16 not8 other) = absurd (not16 (a, one.fits))
first_fits_same size objects a b (eighth not16 one) (sixteenth other) = absurd (not16 (b, other.fits))
first_fits_same size objects a b (eighth not16 one) (eighth no16 other) = least_fits_same size objects 8 a b one other
first_fits_same size objects a b (eighth not16 one) (quarter no16 no8 other) = absurd (no8 (a, one.fits))
first_fits_same size objects a b (quarter not16 not8 one) (sixteenth other) = absurd (not16 (b, other.fits))
first_fits_same size objects a b (quarter not16 not8 one) (eighth no16 other) = absurd (not8 (b, other.fits))
first_fits_same size objects a b (quarter not16 not8 one) (quarter no16 no8 other) = least_fits_same size objects 4 a b one other

-- the greatest number with an order is one, and so is the order
orders_same : (size cpus a b : ℕ) → IsOrder size cpus a → IsOrder size cpus b → a ≡ b
orders_same size cpus a b (greatest m most one) (greatest n least other) =
    let same : m ≡ n = omega (arith, most.greatest n least.above_one least.within least.some, least.greatest m most.above_one most.within most.some) in
    first_fits_same size n a b (rw same at one) other
orders_same size cpus a b (greatest m most one) (single none other) = absurd (none m most.above_one most.within most.some)
orders_same size cpus a b (single none one) (greatest m most other) = absurd (none m most.above_one most.within most.some)
orders_same size cpus a b (single none one) (single nothing other) = least_orders_same size a b one other

-- the equations fix each field
pub layouts_same : (spec : Spec) (cpus : ℕ) (a b : Layout) → IsLayout spec cpus a → IsLayout spec cpus b → a ≡ b
layouts_same spec cpus a b one other =
    let size : a.size ≡ b.size = one.size ∙ sym other.size in
    let order : a.order ≡ b.order = orders_same b.size cpus a.order b.order (rw size at one.order) other.order in
    let min_order : a.min_order ≡ b.min_order = least_orders_same b.size a.min_order b.min_order (rw size at one.min_order) other.min_order in
    let objects : a.objects ≡ b.objects = one.objects ∙ rw (size, order) (sym other.objects) in
    same_layout a b (one.object_size ∙ sym other.object_size) (one.inuse ∙ sym other.inuse) (one.offset ∙ sym other.offset) (one.left_pad ∙ sym other.left_pad) size
    (one.align ∙ sym other.align) order objects min_order (one.min_objects_slab ∙ rw (size, min_order) (sym other.min_objects_slab))
    (one.min_partial ∙ rw size (sym other.min_partial)) (one.cpu_partial_slabs ∙ rw (size, objects) (sym other.cpu_partial_slabs))
