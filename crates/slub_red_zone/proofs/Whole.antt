-- What a step with one slab does to the whole.
use Rattle.std.proofs.Common.{◌≡◌, ◌≢◌, ℕ, zero, suc, ◌+◌, ◌<◌, ◌≤◌, ◌++◌, Bool, true, false, not, List, [], ◌∷◌, length, get_or, set, filter, sum_by, Option, None, Some, IsSome, IfSome, unwrap_or, refl, ap, arith, subst, sym, ◌∙◌, length-set, if◌then◌else◌, eqb, inl, inr}
use Rattle.std.proofs.lemmas.Bool.{cases_eq, cases_lt, cond_both}
use Rattle.std.proofs.lemmas.Bool.Decides.{nat_tests}
use Rattle.std.proofs.lemmas.Grind.{get_or-set_at}
use Rattle.std.proofs.lemmas.List.{get_or-set_other, get_or_past}
use Rattle.std.proofs.lemmas.List.Sums.{sum_by-set}
use Rattle.slub_trace.specs.declared.damage.Report.{Report}
use Rattle.slub_red_zone.specs.State.{SlabState, CheckedState, no_slab, slab_of, slab_at, aside_in, objects_in}
use Rattle.slub_common.specs.Times.{times}
use Rattle.slub_red_zone.specs.Sound.{IsSound, IsSlab, is_stocked}
use Rattle.slub_common.proofs.Times.{times-append, times-cons}
use Rattle.slub_common.proofs.Writes.{at_written}

-- 1 for a slab with a free object
abbrev pub stock : Option SlabState → ℕ
stock x = if is_stocked x then 1 else 0

stock-few : (x : Option SlabState) → stock x ≤ 1
stock-few None = omega arith
stock-few (Some slab) = few (is_stocked (Some slab))
  where
    few : (b : Bool) → (if b then 1 else 0) ≤ 1
    few true = omega arith
    few false = omega arith

-- the list is right for the slabs after one is written
abbrev pub IsRelisted : CheckedState → ℕ → Option SlabState → List ℕ → Type 0
IsRelisted s frame x listed = (f : ℕ) → ((f ≡ frame → times f listed ≡ stock x) × (f ≢ frame → times f listed ≡ times f s.listed))

-- one slab is written, is new or is there no more
pub sound-with : (s : CheckedState) (frame : ℕ) (x : Option SlabState) (listed : List ℕ) (reports : List Report)
    → IsSound s → 0 < frame → frame < 4096 → IfSome x (IsSlab s.layout) → IsRelisted s frame x listed
    → length listed + stock (get_or s.slabs frame None) ≡ length s.listed + stock x
    → length reports ≤ sum_by (λ slab. aside_in (unwrap_or slab no_slab)) (set s.slabs frame x)
    → IsSound (record s { slabs = set s.slabs frame x; listed = listed; reports = reports })
sound-with s frame x listed reports sound first last is relisted counted reported =
    let inside : frame < length s.slabs = omega (arith, sound.frames, last) in
    record {
      cache = sound.cache;
      checked = sound.checked;
      layout = sound.layout;
      frames = length-set s.slabs frame x ∙ sound.frames;
      first_frame = λ has. sound.first_frame (let P : Option SlabState → Type 0 = λ y. IsSome y in subst P (get_or-set_other s.slabs frame 0 x None (λ e. omega (arith, e, first))) has);
      slab = λ f. at_written (λ y. IfSome y (IsSlab s.layout)) s.slabs frame f x None (λ _. is) (sound.slab f);
      listed = λ f. elim (cases_eq f frame) [
        | inl same ↦ (relisted f).0 same ∙ ap stock (sym (get_or-set_at s.slabs frame f x None same inside))
        | inr other ↦ (relisted f).1 other ∙ sound.listed f ∙ ap stock (sym (get_or-set_other s.slabs frame f x None other))
      ];
      listed_count = let set_one = sum_by-set stock s.slabs frame x None inside in omega (arith, set_one, counted, sound.listed_count);
      reported = reported;
    }

-- the list stays
pub relisted-same : (s : CheckedState) (frame : ℕ) (x : Option SlabState) → IsSound s → stock x ≡ stock (get_or s.slabs frame None) → IsRelisted s frame x s.listed
relisted-same s frame x sound same f = (λ e. sound.listed f ∙ ap (λ g. stock (get_or s.slabs g None)) e ∙ sym same, λ _. refl)

-- the front goes
pub relisted-less : (s : CheckedState) (frame : ℕ) (x : Option SlabState) (rest : List ℕ) → IsSound s → s.listed ≡ frame ∷ rest → stock x ≡ 0 → IsRelisted s frame x rest
relisted-less s frame x rest sound front none f =
    let t = times-cons f frame rest in
    let l = ap (times f) front in
    let h = sound.listed f in
    (λ e. let few = stock-few (get_or s.slabs f None) in grind (arith, nat_tests, t, l, h, e, few, none), λ other. grind (arith, nat_tests, t, l, other))

-- a slab comes to the front, or to the end
pub relisted-front : (s : CheckedState) (frame : ℕ) (x : Option SlabState) → IsSound s → stock (get_or s.slabs frame None) ≡ 0 → stock x ≡ 1 → IsRelisted s frame x (frame ∷ s.listed)
relisted-front s frame x sound none one f =
    let t = times-cons f frame s.listed in
    let h = sound.listed f in
    (λ e. let g = ap (λ g. stock (get_or s.slabs g None)) e in grind (arith, nat_tests, t, h, e, g, none, one), λ other. grind (arith, nat_tests, t, other))

pub relisted-end : (s : CheckedState) (frame : ℕ) (x : Option SlabState) → IsSound s → stock (get_or s.slabs frame None) ≡ 0 → stock x ≡ 1 → IsRelisted s frame x (s.listed ++ frame ∷ [])
relisted-end s frame x sound none one f =
    let t = times-cons f frame [] in
    let a = times-append f s.listed (frame ∷ []) in
    let h = sound.listed f in
    (λ e. let g = ap (λ g. stock (get_or s.slabs g None)) e in grind (arith, nat_tests, t, a, h, e, g, none, one), λ other. grind (arith, nat_tests, t, a, other))

-- a slab goes from wherever it stands
pub relisted-without : (s : CheckedState) (frame : ℕ) → IsRelisted s frame None (filter (λ other. not (eqb other frame)) s.listed)
relisted-without s frame f = (λ e. none s.listed f e, λ ne. others s.listed f ne)
  where
    none : (xs : List ℕ) (f : ℕ) → f ≡ frame → times f (filter (λ other. not (eqb other frame)) xs) ≡ 0
    none [] f e = refl
    none (x ∷ xs) f e =
        let h = none xs f e in
        cond_both (not (eqb x frame)) (x ∷ filter (λ other. not (eqb other frame)) xs) (filter (λ other. not (eqb other frame)) xs) (λ zs. times f zs ≡ 0)
        (λ kept. let t = times-cons f x (filter (λ other. not (eqb other frame)) xs) in grind (arith, nat_tests, t, h, e, kept))
        (λ gone. h)

    others : (xs : List ℕ) (f : ℕ) → f ≢ frame → times f (filter (λ other. not (eqb other frame)) xs) ≡ times f xs
    others [] f ne = refl
    others (x ∷ xs) f ne =
        let h = others xs f ne in
        let u = times-cons f x xs in
        cond_both (not (eqb x frame)) (x ∷ filter (λ other. not (eqb other frame)) xs) (filter (λ other. not (eqb other frame)) xs) (λ zs. times f zs ≡ times f (x ∷ xs))
        (λ kept. let t = times-cons f x (filter (λ other. not (eqb other frame)) xs) in omega (arith, t, u, h))
        (λ gone. grind (arith, nat_tests, u, h, ne, gone))

-- a slab that is there
pub slab-there : (slabs : List (Option SlabState)) (frame : ℕ) → 0 < objects_in (slab_at slabs frame) → get_or slabs frame None ≡ Some (slab_at slabs frame)
slab-there slabs frame some = there (get_or slabs frame None) some
  where
    there : (x : Option SlabState) → 0 < objects_in (unwrap_or x no_slab) → x ≡ Some (unwrap_or x no_slab)
    there None some = absurd (omega (arith, some))
    there (Some slab) some = refl

-- it begins at one of the machine's frames but frame 0
pub frame-inside : (s : CheckedState) (frame : ℕ) → IsSound s → 0 < objects_in (slab_of s frame) → frame < 4096
frame-inside s frame sound some =
    elim (cases_lt frame 4096) [
      | inl inside ↦ inside
      | inr past ↦ absurd (let none = ap (λ x. objects_in (unwrap_or x no_slab)) (get_or_past s.slabs frame None (omega (arith, past, sound.frames))) in omega (arith, none, some))
    ]

pub frame-positive : (s : CheckedState) (frame : ℕ) → IsSound s → 0 < objects_in (slab_of s frame) → 0 < frame
frame-positive s zero sound some = absurd (sound.first_frame (let P : Option SlabState → Type 0 = λ y. IsSome y in subst P (sym (slab-there s.slabs 0 some)) refl))
frame-positive s (suc frame) sound some = omega arith

-- the slab is one of the layout's
pub slab-sound : (s : CheckedState) (frame : ℕ) → IsSound s → 0 < objects_in (slab_of s frame) → IsSlab s.layout (slab_of s frame)
slab-sound s frame sound some = let P : Option SlabState → Type 0 = λ y. IfSome y (IsSlab s.layout) in subst P (slab-there s.slabs frame some) (sound.slab frame)

-- what stands on the list is a slab with a free object
pub listed-stocked : (s : CheckedState) (frame : ℕ) (rest : List ℕ) → IsSound s → s.listed ≡ frame ∷ rest → stock (get_or s.slabs frame None) ≡ 1
listed-stocked s frame rest sound front =
    let t = times-cons frame frame rest in
    let l = ap (times frame) front in
    let h = sound.listed frame in
    let few = stock-few (get_or s.slabs frame None) in
    grind (arith, nat_tests, t, l, h, few)
