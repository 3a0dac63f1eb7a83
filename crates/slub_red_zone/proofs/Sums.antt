-- The totals of a cache.
use Rattle.std.proofs.Common.{◌≡◌, ℕ, suc, ◌+◌, ◌*◌, ◌<◌, ◌≤◌, List, [], ◌∷◌, length, get_or, set, sum_by, Option, None, Some, IfSome, unwrap_or, refl, ap, arith, subst, sym, ◌∙◌, inl, inr}
use Rattle.std.proofs.lemmas.List.Sums.{sum_by-set, sum_by-cons}
use Rattle.std.proofs.lemmas.Grind.{get_or-set_at}
use Rattle.slub_object_layout.specs.declared.layout.Flags.{Flags}
use Rattle.slub_object_layout.specs.declared.layout.Layout.{Layout}
use Rattle.slub_object_layout.specs.Layout.{IsWithinBounds}
use Rattle.slub_trace.specs.declared.damage.Report.{Report}
use Rattle.slub_red_zone.specs.declared.totals.Totals.{Totals}
use Rattle.slub_red_zone.specs.State.{SlabState, CheckedState, no_slab, slab_at, free_in, used_in, aside_in, objects_in, aside_count, free_count, used_count}
use Rattle.slub_red_zone.specs.Sound.{IsSound, IsSlab}
use Rattle.slub_red_zone.specs.Kept.{IsKept}
use Rattle.slub_red_zone.proofs.Counting.{kinds-sum}

-- what one slab counts, and none where there is no slab
abbrev pub each : (SlabState → ℕ) → Option SlabState → ℕ
each F x = F (unwrap_or x no_slab)

-- one slab is written
pub sum-with : (F : SlabState → ℕ) (slabs : List (Option SlabState)) (frame : ℕ) (x : Option SlabState) → frame < length slabs → sum_by (each F) (set slabs frame x) + F (slab_at slabs frame) ≡ sum_by (each F) slabs + each F x
sum-with F slabs frame x inside = sum_by-set (each F) slabs frame x None inside

-- no slab has more objects than the layout says
pub objects-most : (layout : Layout) (slab : SlabState) → IsWithinBounds layout → IsSlab layout slab → objects_in slab ≤ layout.objects
objects-most layout slab bounds is =
    elim is.sized [ inl usual ↦ omega (arith, usual.1) | inr least ↦ omega (arith, least.1, bounds.min_objects_slab.1) ]

-- no slab has more than 512 objects
pub objects-small : (layout : Layout) (slab : SlabState) → IsWithinBounds layout → IsSlab layout slab → objects_in slab ≤ 512
objects-small layout slab bounds is =
    elim is.sized [ inl usual ↦ omega (arith, usual.1, bounds.objects.1) | inr least ↦ omega (arith, least.1, bounds.min_objects_slab.1, bounds.objects.1) ]

one-small : (layout : Layout) (x : Option SlabState) → IsWithinBounds layout → IfSome x (IsSlab layout) → each free_in x + each used_in x + each aside_in x ≤ 512
one-small layout None bounds is = omega arith
one-small layout (Some slab) bounds is = omega (arith, kinds-sum slab.states, objects-small layout slab bounds is)

all-small : (layout : Layout) (slabs : List (Option SlabState)) → IsWithinBounds layout → ((f : ℕ) → IfSome (get_or slabs f None) (IsSlab layout)) → sum_by (each free_in) slabs + sum_by (each used_in) slabs + sum_by (each aside_in) slabs ≤ 512 * length slabs
all-small layout [] bounds is = omega arith
all-small layout (x ∷ xs) bounds is =
    omega (arith, sum_by-cons (each free_in) x xs, sum_by-cons (each used_in) x xs, sum_by-cons (each aside_in) x xs, one-small layout x bounds (is 0), all-small layout xs bounds (λ f. is (suc f)))

-- all objects are so few that their number fits
pub sound-small : (s : CheckedState) → IsSound s → free_count s + used_count s + aside_count s ≤ 2097152
sound-small s sound = omega (arith, all-small s.layout s.slabs sound.layout.bounds sound.slab, sound.frames)

pub kept-small : {s : CheckedState} {t : Totals} {a b c : ℕ} → IsKept s t a b c → t.free + t.used + t.aside ≤ 2097152
kept-small {s} kept = omega (arith, sound-small s kept.sound, kept.are_totals)

-- states are equal by their parts
pub same-state : {layout : Layout} {flags : Flags} {cache : ℕ} {slabs slabs' : List (Option SlabState)} {listed listed' : List ℕ} {reports reports' : List Report} → slabs ≡ slabs' → listed ≡ listed' → reports ≡ reports'
    → ◌≡◌ {A = CheckedState} (record { layout = layout; flags = flags; cache = cache; slabs = slabs; listed = listed; reports = reports }) (record { layout = layout; flags = flags; cache = cache; slabs = slabs'; listed = listed'; reports = reports' })
same-state {layout} {flags} {cache} p q r = λ i. record { layout = layout; flags = flags; cache = cache; slabs = p i; listed = q i; reports = r i }

-- what was written is there
pub slab_at-set : (slabs : List (Option SlabState)) (frame : ℕ) (slab : SlabState) → frame < length slabs → slab_at (set slabs frame (Some slab)) frame ≡ slab
slab_at-set slabs frame slab inside = ap (λ x. unwrap_or x no_slab) (get_or-set_at slabs frame frame (Some slab) None refl inside)

-- what is kept of equal states and rooms
pub kept-same : {s s' : CheckedState} {t : Totals} {a a' b b' c c' : ℕ} → s' ≡ s → a' ≡ a → b ≤ b' → c ≤ c' → IsKept s t a b c → IsKept s' t a' b' c'
kept-same {s} {s'} {t} {a} {a'} {b} {b'} {c} {c'} same rooms counts reports kept =
    let P : CheckedState → Type 0 = λ z. IsKept z t a' b' c' in
    subst P (sym same) (record { sound = kept.sound; are_totals = kept.are_totals; list_room = rooms ∙ kept.list_room; counts_room = omega (arith, kept.counts_room, counts); reports_room = omega (arith, kept.reports_room, reports) })
