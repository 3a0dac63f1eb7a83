-- No two objects stand at one address.
use Rattle.std.proofs.Common.{◌≡◌, ℕ, ◌+◌, ◌*◌, ◌/◌, ◌%◌, ◌^◌, ◌≤◌, true, List, refl, ap, ◌∙◌, subst, arith, inl, inr, Some, None, Option}
use Rattle.std.specs.Prelude.{nat_lt, unwrap_or, IfSome, slice_index_or}
use Rattle.std.proofs.lemmas.Bool.{cases_eq, cases_lt, lt-ltb, cond-true}
use Rattle.slub_object_layout.specs.declared.layout.Layout.{Layout}
use Rattle.slub_object_layout.specs.Layout.{address_of}
use Rattle.slub_object_layout.proofs.Slots.{mul-words}
use Rattle.slub_red_zone.specs.State.{CheckedState, SlabState, no_slab, objects_in, slab_of}
use Rattle.slub_red_zone.specs.Sound.{IsSlab}
use Rattle.slub_core.specs.Setup.{Setup, IsSetup}
use Rattle.slub_core.specs.World.{World, size_in, order_in, objects_at, cache_at, order_at, order_in_values, object_at, in_run, covers}
use Rattle.slub_core.specs.Local.{Worker}
use Rattle.slub_core.specs.Listed.{IsCheckedOf}
use Rattle.slub_core.specs.Coherent.{Stands}
use Rattle.slub_core.proofs.Exists.{word-object}
use Rattle.slub_core.proofs.StepValues.{word-cache, object-within, in-value, unworded-objects, unworded-cache, checked-value, cache-live}
use Rattle.slub_core.proofs.Slots.{IsWordOf, word-index, word-frame, in_run-one, two_terms}
use Rattle.slub_core.proofs.Apart.{slab-covers, role-most}

eight : (f r p : ℕ) → r % 8 ≡ 0 → p % 8 ≡ 0 → 8 * ((f * 4096 + r + p) / 8) ≡ f * 4096 + r + p
eight f r p a b = omega arith

-- an object begins with a word in its slot
pub address-word : (m : Setup) (cache f i : ℕ) → IsSetup m → m.lives cache ≡ true → IsWordOf (m.layout cache) f i (address_of f i (m.layout cache) / 8)
address-word m cache f i setup live =
    let l = m.layout cache in
    let b = setup.layout cache live in
    let whole : 8 * (address_of f i l / 8) ≡ f * 4096 + i * l.size + l.left_pad = eight f (i * l.size) l.left_pad (mul-words i l.size b.size_in_words) b.left_pad_in_words in
    record { from = omega (arith, whole); below = omega (arith, whole, b.offset, b.left_pad) }

some-slab : (layout : Layout) (o : Option SlabState) → 1 ≤ objects_in (unwrap_or o no_slab) → IfSome o (IsSlab layout) → IsSlab layout (unwrap_or o no_slab)
some-slab layout None some is = absurd (omega arith)
some-slab layout (Some slab) some is = is

-- the objects of a checked slab have room in its frames
checked-fits : (m : Setup) (cache f : ℕ) (slabs : CheckedState) → IsCheckedOf m cache slabs → 1 ≤ objects_in (slab_of slabs f) → objects_in (slab_of slabs f) * (m.layout cache).size ≤ 4096 * 2 ^ (slab_of slabs f).order
checked-fits m cache f slabs of some =
    let slab = some-slab slabs.layout (slice_index_or slabs.slabs f None) some (of.sound.slab f) in
    let b = of.sound.layout.bounds in
    let size : slabs.layout.size ≡ (m.layout cache).size = ap (λ (l : Layout). l.size) of.layout in
    rw (← size) (elim slab.sized [ inl e ↦ rw (e.0, e.1) b.objects_fit | inr e ↦ rw (e.0, e.1) b.min_objects_fit ])

-- a slab covers the frame of each word of its objects, of a checked cache too
pub object-covers : (w : World) (xs : List Worker) (f i p : ℕ) → Stands w xs → 1 ≤ object_at w f i → IsWordOf (w.setup.layout (cache_at w f)) f i p → covers w (p / 512) f ≡ 1
object-covers w xs f i p s some is = elim (cases_lt 0 (w.slab f).objects) [
  | inl l ↦ slab-covers w xs f i p s (let e = word-object w f i (omega arith) in omega arith) (subst (λ c. IsWordOf (w.setup.layout c) f i p) (word-cache w f (omega arith)) is)
  | inr g ↦
      let none : (w.slab f).objects ≡ 0 = omega arith in
      let below = object-within w f i some in
      let o = unworded-objects w f none in
      let r = in-value w.value w.setup.locks f (omega arith) in
      let c = checked-value w.setup r.lock f (w.value r.lock) (s.listed.shaped.guarded r.lock r.below) r.some in
      let cache : cache_at w f ≡ c.0 = unworded-cache w f none ∙ r.cache ∙ (let e = c.3 in omega arith) in
      let objects : objects_at w f ≡ objects_in (slab_of c.1 f) = o ∙ r.objects ∙ ap (λ v. size_in v f) c.2 in
      let order : order_at w f ≡ (slab_of c.1 f).order = (let e : order_at w f ≡ order_in_values w.value w.setup.locks f = rw none refl in e) ∙ r.order ∙ ap (λ v. order_in v f) c.2 in
      let fits = checked-fits w.setup c.0 f c.1 c.6 (omega arith) in
      let frame = word-frame (w.setup.layout c.0) f i (objects_in (slab_of c.1 f)) (slab_of c.1 f).order p (subst (λ c. IsWordOf (w.setup.layout c) f i p) cache is) (omega arith) fits in
      cond-true (nat_lt 0 (objects_at w f)) (in_run (p / 512) f (order_at w f)) 0 (lt-ltb 0 (objects_at w f) (omega arith)) ∙ rw order (in_run-one (p / 512) f (slab_of c.1 f).order frame.0 frame.1)
]

-- two objects with one address are one
pub one-address : (w : World) (xs : List Worker) (f i g j : ℕ) → Stands w xs → 1 ≤ object_at w f i → 1 ≤ object_at w g j
    → address_of g j (w.setup.layout (cache_at w g)) ≡ address_of f i (w.setup.layout (cache_at w f)) → (g ≡ f) × (j ≡ i)
one-address w xs f i g j s some other same =
    let below_f = object-within w f i some in
    let below_g = object-within w g j other in
    let live_f : w.setup.lives (cache_at w f) ≡ true = elim (cache-live w s.chains f s.listed.shaped s.fresh.setup.live (omega arith)) [ inl a ↦ a.1 | inr b ↦ b.1 ] in
    let live_g : w.setup.lives (cache_at w g) ≡ true = elim (cache-live w s.chains g s.listed.shaped s.fresh.setup.live (omega arith)) [ inl a ↦ a.1 | inr b ↦ b.1 ] in
    let p = address_of f i (w.setup.layout (cache_at w f)) / 8 in
    let at_f = address-word w.setup (cache_at w f) f i s.fresh.setup live_f in
    let at_g : IsWordOf (w.setup.layout (cache_at w g)) g j p = subst (λ a. IsWordOf (w.setup.layout (cache_at w g)) g j (a / 8)) same (address-word w.setup (cache_at w g) g j s.fresh.setup live_g) in
    let a = object-covers w xs f i p s some at_f in
    let b = object-covers w xs g j p s other at_g in
    let one = role-most w xs (p / 512) s in
    let in_f = s.listed.shaped.within f (omega arith) in
    let in_g = s.listed.shaped.within g (omega arith) in
    elim (cases_eq g f) [
      | inl e ↦ (e, word-index (w.setup.layout (cache_at w f)) f j i p (subst (λ k. IsWordOf (w.setup.layout (cache_at w k)) k j p) e at_g) at_f)
      | inr d ↦ absurd (let t = two_terms w.setup.frames (λ k. covers w (p / 512) k) g f in_g in_f d in omega arith)
    ]
