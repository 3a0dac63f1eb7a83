-- A change of a checked cache under its lock by which one slab comes or goes.
use Rattle.std.proofs.Common.{◌≡◌, ◌≢◌, ℕ, zero, suc, ◌+◌, ◌-◌, ◌%◌, ◌^◌, ◌<◌, ◌≤◌, ◌⊎◌, Bool, true, false, cond, List, [], ◌∷◌, refl, sym, ap, ◌∙◌, subst, arith, inl, inr}
use Rattle.std.specs.Prelude.{nat_lt}
use Rattle.std.proofs.lemmas.Bool.{cases_eq, cases_lt, lt-ltb, le-ltb}
use Rattle.slub_common.specs.Times.{times}
use Rattle.slub_red_zone.specs.State.{CheckedState, slab_of, objects_in}
use Rattle.slub_red_zone.specs.Objects.{shape_at, idle}
use Rattle.slub_core.specs.World.{World, LockValue, Checked, update, set_value, objects_at, cache_at, order_at, object_at, size_in, order_in, idle_in, frames_in, pool_in, pool_of, objects_in_values, cache_in_values, order_in_values, one_if, sum_below, live, in_run, covers}
use Rattle.slub_core.specs.Setup.{pool_lock}
use Rattle.slub_core.specs.Local.{Worker}
use Rattle.slub_core.specs.Placed.{owned}
use Rattle.slub_core.specs.Listed.{home_of, marked_of, covered_by, takes, IsGuarded}
use Rattle.slub_core.specs.Fresh.{IsAtWork}
use Rattle.slub_core.specs.Coherent.{Stands}
use Rattle.slub_core.proofs.CheckedStep.{shape-size, shape-order}
use Rattle.slub_core.proofs.RemakeStep.{no_value-objects}
use Rattle.slub_core.proofs.Update.{update_same, update_other, update_at, sum_below_change, sum_below_same}
use Rattle.slub_core.proofs.StepValues.{alone-in}
use Rattle.slub_core.proofs.ValueStep.{value_step}

-- how many values have a slab at a frame
abbrev pub having : (ℕ → LockValue) → ℕ → ℕ → ℕ
having value n f = sum_below n (λ k. one_if (nat_lt 0 (size_in (value k) f)))

-- where only one value may have it, that value tells
pub only-here : (value : ℕ → LockValue) (n k f : ℕ) → k < n → having value n f ≡ one_if (nat_lt 0 (size_in (value k) f))
    → (objects_in_values value n f ≡ size_in (value k) f) × (1 ≤ size_in (value k) f → (cache_in_values value n f ≡ k - 1) × (order_in_values value n f ≡ order_in (value k) f))
only-here value n k f below one = elim (cases_lt 0 (size_in (value k) f)) [
  | inl l ↦
      let b : one_if (nat_lt 0 (size_in (value k) f)) ≡ 1 = rw (lt-ltb 0 (size_in (value k) f) l) refl in
      let r = alone-in value n k f below (omega arith) (omega arith) in
      (r.objects, λ some. (r.cache, r.order))
  | inr g ↦
      let b : one_if (nat_lt 0 (size_in (value k) f)) ≡ 0 = rw (le-ltb 0 (size_in (value k) f) g) refl in
      let r = no_value-objects value n f (omega arith) in
      (omega arith, λ some. absurd (omega arith))
]

-- at a frame at which values have the same
values-at : (old new : ℕ → LockValue) (f : ℕ) → ((k : ℕ) → (size_in (new k) f ≡ size_in (old k) f) × (order_in (new k) f ≡ order_in (old k) f)) → (n : ℕ)
    → (objects_in_values new n f ≡ objects_in_values old n f) × (cache_in_values new n f ≡ cache_in_values old n f) × (order_in_values new n f ≡ order_in_values old n f)
values-at old new f same zero = (refl, refl, refl)
values-at old new f same (suc n) = let r = values-at old new f same n in (rw ((same n).0, r.0) refl, rw ((same n).0, r.1) refl, rw ((same n).0, (same n).1, r.2) refl)

-- what is so of the slabs before and after
pub record IsOneSlab (w : World) (n : ℕ) (old new : CheckedState) (f : ℕ) : Type 0 where
  pub below : n < w.setup.locks
  pub was : w.value n ≡ Checked old
  pub elsewhere : (g : ℕ) → (g ≡ f → ⊥) → shape_at new g ≡ shape_at old g
  pub unworded : (w.slab f).objects ≡ 0
  pub only : having w.value w.setup.locks f ≡ one_if (nat_lt 0 (objects_in (slab_of old f)))
  pub real : f ≢ 0
  pub within : f < w.setup.frames
  pub aligned : 1 ≤ objects_in (slab_of new f) → f % 2 ^ (slab_of new f).order ≡ 0
  pub either : (objects_in (slab_of old f) ≡ 0) ⊎ (objects_in (slab_of new f) ≡ 0)

each-apart : (w : World) (n : ℕ) (old new : CheckedState) (f : ℕ) → IsOneSlab w n old new f → (g : ℕ) → (g ≡ f → ⊥) → (k : ℕ)
    → (size_in (update w.value n (Checked new) k) g ≡ size_in (w.value k) g) × (order_in (update w.value n (Checked new) k) g ≡ order_in (w.value k) g)
each-apart w n old new f one g d k = elim (cases_eq k n) [
  | inl e ↦ (
    ap (λ v. size_in v g) (update_at w.value n (Checked new) k e) ∙ shape-size old new g (one.elsewhere g d) ∙ sym (ap (λ v. size_in v g) (ap w.value e ∙ one.was)),
    ap (λ v. order_in v g) (update_at w.value n (Checked new) k e) ∙ shape-order old new g (one.elsewhere g d) ∙ sym (ap (λ v. order_in v g) (ap w.value e ∙ one.was)),
  )
  | inr e ↦ (ap (λ v. size_in v g) (update_other w.value n (Checked new) k e), ap (λ v. order_in v g) (update_other w.value n (Checked new) k e))
]

pub apart-same : (w : World) (n : ℕ) (old new : CheckedState) (f : ℕ) → IsOneSlab w n old new f → (g : ℕ) → (g ≡ f → ⊥)
    → (objects_at (set_value w n (Checked new)) g ≡ objects_at w g) × (cache_at (set_value w n (Checked new)) g ≡ cache_at w g) × (order_at (set_value w n (Checked new)) g ≡ order_at w g)
apart-same w n old new f one g d = let r = values-at w.value (update w.value n (Checked new)) g (each-apart w n old new f one g d) w.setup.locks in (rw r.0 refl, rw r.1 refl, rw r.2 refl)

-- the count after
having-new : (w : World) (n : ℕ) (old new : CheckedState) (f : ℕ) → IsOneSlab w n old new f → having (update w.value n (Checked new)) w.setup.locks f ≡ one_if (nat_lt 0 (objects_in (slab_of new f)))
having-new w n old new f one =
    let c = sum_below_change w.setup.locks (λ k. one_if (nat_lt 0 (size_in (w.value k) f))) (λ k. one_if (nat_lt 0 (size_in (update w.value n (Checked new) k) f))) n one.below (λ k d. ap (λ v. one_if (nat_lt 0 (size_in v f))) (update_other w.value n (Checked new) k d)) in
    let a : one_if (nat_lt 0 (size_in (update w.value n (Checked new) n) f)) ≡ one_if (nat_lt 0 (objects_in (slab_of new f))) = ap (λ v. one_if (nat_lt 0 (size_in v f))) (update_same w.value n (Checked new)) in
    let b : one_if (nat_lt 0 (size_in (w.value n) f)) ≡ one_if (nat_lt 0 (objects_in (slab_of old f))) = ap (λ v. one_if (nat_lt 0 (size_in v f))) one.was in
    let o = one.only in
    omega arith

-- the slab after, and before
pub new-here : (w : World) (n : ℕ) (old new : CheckedState) (f : ℕ) → IsOneSlab w n old new f
    → (objects_at (set_value w n (Checked new)) f ≡ objects_in (slab_of new f)) × (1 ≤ objects_in (slab_of new f) → (cache_at (set_value w n (Checked new)) f ≡ n - 1) × (order_at (set_value w n (Checked new)) f ≡ (slab_of new f).order))
new-here w n old new f one =
    let same = update_same w.value n (Checked new) in
    let s : size_in (update w.value n (Checked new) n) f ≡ objects_in (slab_of new f) = ap (λ v. size_in v f) same in
    let r = only-here (update w.value n (Checked new)) w.setup.locks n f one.below (having-new w n old new f one ∙ ap (λ a. one_if (nat_lt 0 a)) (sym s)) in
    (rw one.unworded (r.0 ∙ s), λ some. let q = r.1 (omega arith) in (rw one.unworded q.0, rw one.unworded (q.1 ∙ ap (λ v. order_in v f) same)))

pub old-here : (w : World) (n : ℕ) (old new : CheckedState) (f : ℕ) → IsOneSlab w n old new f → (objects_at w f ≡ objects_in (slab_of old f)) × (1 ≤ objects_in (slab_of old f) → order_at w f ≡ (slab_of old f).order)
old-here w n old new f one =
    let s : size_in (w.value n) f ≡ objects_in (slab_of old f) = ap (λ v. size_in v f) one.was in
    let r = only-here w.value w.setup.locks n f one.below (one.only ∙ ap (λ a. one_if (nat_lt 0 a)) (sym s)) in
    (rw one.unworded (r.0 ∙ s), λ some. let q = r.1 (omega arith) in rw one.unworded (q.1 ∙ ap (λ v. order_in v f) one.was))

-- the frames of a slab of a checked cache
abbrev pub run_at_slab : CheckedState → ℕ → ℕ → ℕ
run_at_slab s f g = cond (nat_lt 0 (objects_in (slab_of s f))) (in_run g f (slab_of s f).order) 0

covers-new : (w : World) (n : ℕ) (old new : CheckedState) (f : ℕ) → IsOneSlab w n old new f → (g : ℕ) → covers (set_value w n (Checked new)) g f ≡ run_at_slab new f g
covers-new w n old new f one g =
    let r = new-here w n old new f one in
    elim (cases_lt 0 (objects_in (slab_of new f))) [
      | inl l ↦ rw (r.0, lt-ltb 0 (objects_in (slab_of new f)) l, (r.1 l).1) refl
      | inr h ↦ rw (r.0, le-ltb 0 (objects_in (slab_of new f)) h) refl
    ]

covers-old : (w : World) (n : ℕ) (old new : CheckedState) (f : ℕ) → IsOneSlab w n old new f → (g : ℕ) → covers w g f ≡ run_at_slab old f g
covers-old w n old new f one g =
    let r = old-here w n old new f one in
    elim (cases_lt 0 (objects_in (slab_of old f))) [
      | inl l ↦ rw (r.0, lt-ltb 0 (objects_in (slab_of old f)) l, r.1 l) refl
      | inr h ↦ rw (r.0, le-ltb 0 (objects_in (slab_of old f)) h) refl
    ]

-- What is owed where one slab comes or goes: its objects and its frames go between the cache and the worker.
pub one_slab_step : (w : World) (x z : Worker) (others : List Worker) (n : ℕ) (old new : CheckedState) (f : ℕ) → Stands w (x ∷ others) → 1 ≤ takes n x → IsOneSlab w n old new f → IsGuarded w.setup n (Checked new)
    → ((g j : ℕ) → (g ≡ f → ⊥) → owned g j z + idle new g j ≡ owned g j x + idle old g j)
    → ((j : ℕ) → owned f j z + idle new f j + one_if (nat_lt j (objects_in (slab_of old f))) ≡ owned f j x + idle old f j + one_if (nat_lt j (objects_in (slab_of new f))))
    → ((g : ℕ) → home_of g z ≡ home_of g x) → ((g : ℕ) → marked_of g z ≡ marked_of g x)
    → ((g : ℕ) → covered_by g z.local.run + run_at_slab new f g ≡ covered_by g x.local.run + run_at_slab old f g)
    → ((k : ℕ) → takes k z ≡ takes k x)
    → (((g : ℕ) → (g ≡ f → ⊥) → cache_at (set_value w n (Checked new)) g ≡ cache_at w g) → IsAtWork (set_value w n (Checked new)) z)
    → n ≢ pool_lock
    → Stands (set_value w n (Checked new)) (z ∷ others)
one_slab_step w x z others n old new f s has one guarded elsewhere here home marked covered locks work apart =
    let sh = s.listed.shaped in
    let now = new-here w n old new f one in
    let was = old-here w n old new f one in
    let count = having-new w n old new f one in
    value_step w x z others n (Checked new) s one.below has
    (record {
      guarded = guarded;
      keeps = λ g i some more. elim (cases_eq g f) [
        | inl e ↦ absurd (elim one.either [
          | inl none ↦ (let a : objects_at w g ≡ 0 = rw e (was.0 ∙ none) in let z : object_at w g i ≡ 0 = ap (λ a. one_if (nat_lt i a)) a ∙ ap one_if (le-ltb i 0 (omega arith)) in omega arith)
          | inr none ↦ (let a : objects_at (set_value w n (Checked new)) g ≡ 0 = rw e (now.0 ∙ none) in let z : object_at (set_value w n (Checked new)) g i ≡ 0 = ap (λ a. one_if (nat_lt i a)) a ∙ ap one_if (le-ltb i 0 (omega arith)) in omega arith)
        ])
        | inr d ↦ (apart-same w n old new f one g d).1
      ];
      alone = λ g. elim (cases_eq g f) [
        | inl e ↦ rw e (let l : live (w.slab f) ≡ 0 = ap (λ a. one_if (nat_lt 0 a)) one.unworded in let b = bit (nat_lt 0 (objects_in (slab_of new f))) in omega arith)
        | inr d ↦ (let e = sum_below_same w.setup.locks (λ k. one_if (nat_lt 0 (size_in (w.value k) g))) (λ k. one_if (nat_lt 0 (size_in (update w.value n (Checked new) k) g))) (λ k _. ap (λ a. one_if (nat_lt 0 a)) (each-apart w n old new f one g d k).0) in let a = sh.alone g in omega arith)
      ];
      aligned = λ g some. aligned-slab g some (cases_eq g f);
      within = λ g some. within-slab g some (cases_eq g f);
      no_slab = (apart-same w n old new f one 0 (λ e. one.real (sym e))).0 ∙ sh.no_slab;
      no_frame = refl;
      node = λ k g e some. absurd (omega arith);
    })
    (λ g j. moved g j (cases_eq g f))
    (λ g. let a = home g in let b : times g (frames_in (w.value n)) ≡ 0 = ap (λ v. times g (frames_in v)) one.was in let c : times g [] ≡ 0 = refl in omega arith)
    (λ g. let a = marked g in let b : times g (frames_in (w.value n)) ≡ 0 = ap (λ v. times g (frames_in v)) one.was in let c : times g [] ≡ 0 = refl in omega arith)
    (λ g.
    let a = covered g in
    let sums = sum_below_change w.setup.frames (λ h. covers w g h) (λ h. covers (set_value w n (Checked new)) g h) f one.within (λ h d. let e = apart-same w n old new f one h d in rw (e.0, e.2) refl) in
    let b = covers-new w n old new f one g in
    let c = covers-old w n old new f one g in
    let p : (pool_of (set_value w n (Checked new))).free ≡ (pool_of w).free = ap (λ v. (pool_in v).free) (update_other w.value n (Checked new) pool_lock (λ e. apart (sym e))) in
    let q = ap (λ fs. times g fs) p in
    omega arith)
    locks (work (λ g d. (apart-same w n old new f one g d).1))
  where
    bit : (b : Bool) → one_if b ≤ 1
    bit true = omega arith
    bit false = omega arith

    aligned-slab : (g : ℕ) → 1 ≤ objects_at (set_value w n (Checked new)) g → (g ≡ f) ⊎ (g ≡ f → ⊥) → g % 2 ^ order_at (set_value w n (Checked new)) g ≡ 0
    aligned-slab g some (inl e) =
        let now = new-here w n old new f one in
        let here : 1 ≤ objects_at (set_value w n (Checked new)) f = subst (λ h. 1 ≤ objects_at (set_value w n (Checked new)) h) e some in
        let more : 1 ≤ objects_in (slab_of new f) = let a = now.0 in omega arith in
        subst (λ h. h % 2 ^ order_at (set_value w n (Checked new)) h ≡ 0) (sym e) (subst (λ o. f % 2 ^ o ≡ 0) (sym (now.1 more).1) (one.aligned more))
    aligned-slab g some (inr d) =
        let e = apart-same w n old new f one g d in
        subst (λ o. g % 2 ^ o ≡ 0) (sym e.2) (s.listed.shaped.aligned g (let a = e.0 in omega arith))

    within-slab : (g : ℕ) → 1 ≤ objects_at (set_value w n (Checked new)) g → (g ≡ f) ⊎ (g ≡ f → ⊥) → g < w.setup.frames
    within-slab g some (inl e) = rw e one.within
    within-slab g some (inr d) = s.listed.shaped.within g (let e = (apart-same w n old new f one g d).0 in omega arith)

    moved : (g j : ℕ) → (g ≡ f) ⊎ (g ≡ f → ⊥) → owned g j z + idle new g j + object_at w g j ≡ owned g j x + idle_in (w.value n) g j + object_at (set_value w n (Checked new)) g j
    moved g j (inl e) =
        let b : idle_in (w.value n) f j ≡ idle old f j = ap (λ v. idle_in v f j) one.was in
        let c : object_at w f j ≡ one_if (nat_lt j (objects_in (slab_of old f))) = ap (λ a. one_if (nat_lt j a)) (old-here w n old new f one).0 in
        let d : object_at (set_value w n (Checked new)) f j ≡ one_if (nat_lt j (objects_in (slab_of new f))) = ap (λ a. one_if (nat_lt j a)) (new-here w n old new f one).0 in
        let h = here j in
        subst (λ h. owned h j z + idle new h j + object_at w h j ≡ owned h j x + idle_in (w.value n) h j + object_at (set_value w n (Checked new)) h j) (sym e) (omega arith)
    moved g j (inr d) =
        let b : idle_in (w.value n) g j ≡ idle old g j = ap (λ v. idle_in v g j) one.was in
        let c : object_at (set_value w n (Checked new)) g j ≡ object_at w g j = ap (λ a. one_if (nat_lt j a)) (apart-same w n old new f one g d).0 in
        let h = elsewhere g j d in
        omega arith
