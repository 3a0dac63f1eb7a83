-- No two objects have a word together, nor has one with a run in hand.
use Rattle.std.proofs.Common.{◌≡◌, ℕ, ◌*◌, ◌/◌, ◌^◌, ◌<◌, ◌≤◌, ◌&&◌, true, Some, List, ◌∷◌, length, get_or, refl, sym, ap, ◌∙◌, subst, arith, inl, inr}
use Rattle.std.specs.Prelude.{nat_lt, sum_by}
use Rattle.std.proofs.lemmas.Bool.{cases_eq, cases_lt, cases_Bool, lt-ltb, le-ltb, and_right, cond-true, cond_both}
use Rattle.std.proofs.lemmas.Option.{none-some}
use Rattle.std.proofs.lemmas.List.Sums.{get_or-le-sum_by}
use Rattle.std.proofs.lemmas.List.Elements.{All-head, All-tail}
use Rattle.slub_core.specs.declared.local.FrameRun.{FrameRun}
use Rattle.slub_core.specs.Setup.{Setup, pointer_at}
use Rattle.slub_core.specs.World.{World, objects_at, order_at, exists_at, one_if, in_run, covers}
use Rattle.slub_core.specs.Local.{Local, Worker}
use Rattle.slub_core.specs.Spots.{has_run}
use Rattle.slub_core.specs.Listed.{covered_by, frame_roles}
use Rattle.slub_core.specs.Fresh.{IsRun, IsHeldRun, IsAtWork}
use Rattle.slub_core.specs.Coherent.{Stands}
use Rattle.slub_core.proofs.Counts.{roles-cons}
use Rattle.slub_core.proofs.Exists.{exists_at-within}
use Rattle.slub_core.proofs.MemoryStep.{IsApart}
use Rattle.slub_core.proofs.Slots.{IsWordOf, pointer-word, word-index, word-frame, sized-fits, in_run-one, two_terms}
use Rattle.slub_core.proofs.Spots.{run-cache}
use Rattle.slub_core.proofs.Update.{term_le_sum}
use Rattle.slub_core.proofs.StepValues.{word-objects}

-- a slab covers the frame of each word of its objects
pub slab-covers : (w : World) (xs : List Worker) (f i p : ℕ) (s : Stands w xs) → 1 ≤ exists_at w f i → IsWordOf (w.setup.layout (w.slab f).cache) f i p → covers w (p / 512) f ≡ 1
slab-covers w xs f i p s some is =
    let below = exists_at-within w f i some in
    let live : 1 ≤ (w.slab f).objects = omega arith in
    let plain = s.listed.shaped.plain f live in
    let fits = sized-fits w.setup (w.slab f).cache (order_at w f) (w.slab f).objects s.fresh.setup plain.1 (s.listed.shaped.sized f live) in
    let frame = word-frame (w.setup.layout (w.slab f).cache) f i (w.slab f).objects (order_at w f) p is below fits in
    let there : 1 ≤ objects_at w f = (let e = word-objects w f live in omega arith) in
    cond-true (nat_lt 0 (objects_at w f)) (in_run (p / 512) f (order_at w f)) 0 (lt-ltb 0 (objects_at w f) (omega arith)) ∙ in_run-one (p / 512) f (order_at w f) frame.0 frame.1

slab-below : (w : World) (xs : List Worker) (f i : ℕ) → Stands w xs → 1 ≤ exists_at w f i → f < w.setup.frames
slab-below w xs f i s some =
    let below = exists_at-within w f i some in
    let e = word-objects w f (omega arith) in
    s.listed.shaped.within f (omega arith)

-- so does a run in hand
pub run-covers : (m : Setup) (cache : ℕ) (run : FrameRun) (i p : ℕ) → IsRun m cache run → i < run.objects → run.objects * (m.layout cache).size ≤ 4096 * 2 ^ run.order → IsWordOf (m.layout cache) run.frame i p → covered_by (p / 512) (Some run) ≡ 1
run-covers m cache run i p held below fits is = let frame = word-frame (m.layout cache) run.frame i run.objects run.order p is below fits in in_run-one (p / 512) run.frame run.order frame.0 frame.1

pub role-most : (w : World) (xs : List Worker) (g : ℕ) → Stands w xs → frame_roles w xs g ≤ 1
role-most w xs g s = let e = s.listed.framed g in let o : one_if (nat_lt 0 g && nat_lt g w.setup.frames) ≤ 1 = cond_both (nat_lt 0 g && nat_lt g w.setup.frames) 1 0 (λ n. n ≤ 1) (λ e. omega arith) (λ e. omega arith) in omega arith

-- a word of two objects of slabs is of one
pub one-object : (w : World) (xs : List Worker) (f i g j p : ℕ) → Stands w xs → 1 ≤ exists_at w f i → 1 ≤ exists_at w g j
    → IsWordOf (w.setup.layout (w.slab f).cache) f i p → IsWordOf (w.setup.layout (w.slab g).cache) g j p → (g ≡ f) × (j ≡ i)
one-object w xs f i g j p s some other at_i at_j =
    let a = slab-covers w xs f i p s some at_i in
    let b = slab-covers w xs g j p s other at_j in
    let one = role-most w xs (p / 512) s in
    let below_f = slab-below w xs f i s some in
    let below_g = slab-below w xs g j s other in
    elim (cases_eq g f) [
      | inl e ↦ (e, word-index (w.setup.layout (w.slab f).cache) f j i p (subst (λ k. IsWordOf (w.setup.layout (w.slab k).cache) k j p) e at_j) at_i)
      | inr d ↦ absurd (let t = two_terms w.setup.frames (λ k. covers w (p / 512) k) g f below_g below_f d in omega arith)
    ]

-- the runs in the hands of the others
pub held-run : (w : World) (cache : ℕ) (o : Local) (run : FrameRun) (stored : ℕ) → o.run ≡ Some run → IsHeldRun w cache o.run stored → IsRun w.setup cache run
held-run w cache o run stored is held = let h : IsHeldRun w cache (Some run) stored = rw is at held in h.0

others-run : (w : World) (x : Worker) (others : List Worker) (k : ℕ) (d : Worker) (run : FrameRun) (j p : ℕ) → Stands w (x ∷ others) → k < length others → (get_or others k d).local.run ≡ Some run → j < run.objects → w.setup.lives (get_or others k d).local.cache ≡ true
    → pointer_at w.setup (get_or others k d).local.cache run.frame j ≡ p → 1 ≤ sum_by (λ (o : Worker). covered_by (p / 512) o.local.run) others
others-run w x others k d run j p s below is within live at_p =
    let o = get_or others k d in
    let ok = All-tail (IsAtWork w) x others s.fresh.workers k d below in
    let held = held-run w o.local.cache o.local run _ is ok.seen.run in
    let fits = sized-fits w.setup o.local.cache run.order run.objects s.fresh.setup live held.sized in
    let word : IsWordOf (w.setup.layout o.local.cache) run.frame j p = subst (λ q. IsWordOf (w.setup.layout o.local.cache) run.frame j q) at_p (pointer-word w.setup o.local.cache run.frame j s.fresh.setup live) in
    let c = run-covers w.setup o.local.cache run j p held within fits word in
    let t = get_or-le-sum_by (λ (o : Worker). covered_by (p / 512) o.local.run) others k d below in
    let e : covered_by (p / 512) o.local.run ≡ covered_by (p / 512) (Some run) = ap (covered_by (p / 512)) is in
    omega arith

pub run-live : (w : World) (o : Worker) (run : FrameRun) → IsAtWork w o → o.local.run ≡ Some run → w.setup.lives o.local.cache ≡ true
run-live w o run ok is = elim (cases_Bool (has_run o.local.spot)) [
  | inl e ↦ elim (run-cache o.local.spot e) [ inl a ↦ (ok.spot.plain a).1 | inr b ↦ (ok.spot.checked b).1 ]
  | inr e ↦ absurd (none-some run (sym (ok.spot.no_run e) ∙ is))
]

-- a word of an object of a slab is apart
pub apart-object : (w : World) (x : Worker) (others : List Worker) (f i p : ℕ) → Stands w (x ∷ others) → 1 ≤ exists_at w f i → IsWordOf (w.setup.layout (w.slab f).cache) f i p → IsApart w others f i p
apart-object w x others f i p s some is = record {
  objects = λ g j other away same.
      let live = exists_at-within w g j other in
      let plain = s.listed.shaped.plain g (omega arith) in
      let word : IsWordOf (w.setup.layout (w.slab g).cache) g j p = subst (λ q. IsWordOf (w.setup.layout (w.slab g).cache) g j q) same (pointer-word w.setup (w.slab g).cache g j s.fresh.setup plain.1) in
      let one = one-object w (x ∷ others) f i g j p s some other is word in
      away one.0 one.1;
  runs = λ k d below run j is_run within same.
      let ok = All-tail (IsAtWork w) x others s.fresh.workers k d below in
      let theirs = others-run w x others k d run j p s below is_run within (run-live w (get_or others k d) run ok is_run) same in
      let a = slab-covers w (x ∷ others) f i p s some is in
      let t = term_le_sum w.setup.frames (λ k. covers w (p / 512) k) f (slab-below w (x ∷ others) f i s some) in
      let split = roles-cons w x others (p / 512) in
      let one = role-most w (x ∷ others) (p / 512) s in
      absurd (omega arith);
}

-- so is a free pointer of a run in hand
pub apart-run : (w : World) (x : Worker) (others : List Worker) (run : FrameRun) (i : ℕ) → Stands w (x ∷ others) → x.local.run ≡ Some run → i < run.objects → IsApart w others run.frame i (pointer_at w.setup x.local.cache run.frame i)
apart-run w x others run i s is_mine below =
    let p = pointer_at w.setup x.local.cache run.frame i in
    let ok = All-head (IsAtWork w) x others s.fresh.workers in
    let held = held-run w x.local.cache x.local run _ is_mine ok.seen.run in
    let live = run-live w x run ok is_mine in
    let fits = sized-fits w.setup x.local.cache run.order run.objects s.fresh.setup live held.sized in
    let c = run-covers w.setup x.local.cache run i p held below fits (pointer-word w.setup x.local.cache run.frame i s.fresh.setup live) in
    let e : covered_by (p / 512) x.local.run ≡ covered_by (p / 512) (Some run) = ap (covered_by (p / 512)) is_mine in
    let split = roles-cons w x others (p / 512) in
    let one = role-most w (x ∷ others) (p / 512) s in
    record {
      objects = λ g j other away same.
          let live' = exists_at-within w g j other in
          let plain = s.listed.shaped.plain g (omega arith) in
          let word : IsWordOf (w.setup.layout (w.slab g).cache) g j p = subst (λ q. IsWordOf (w.setup.layout (w.slab g).cache) g j q) same (pointer-word w.setup (w.slab g).cache g j s.fresh.setup plain.1) in
          let a = slab-covers w (x ∷ others) g j p s other word in
          let t = term_le_sum w.setup.frames (λ k. covers w (p / 512) k) g (slab-below w (x ∷ others) g j s other) in
          absurd (omega arith);
      runs = λ k d below' run' j is_run within same.
          let theirs = others-run w x others k d run' j p s below' is_run within (run-live w (get_or others k d) run' (All-tail (IsAtWork w) x others s.fresh.workers k d below') is_run) same in
          absurd (omega arith);
    }

-- a word of an object is a word of memory
pub word-inside : (w : World) (xs : List Worker) (f i p : ℕ) → Stands w xs → 1 ≤ exists_at w f i → IsWordOf (w.setup.layout (w.slab f).cache) f i p → p < 512 * w.setup.frames
word-inside w xs f i p s some is =
    let a = slab-covers w xs f i p s some is in
    let t = term_le_sum w.setup.frames (λ k. covers w (p / 512) k) f (slab-below w xs f i s some) in
    let e = s.listed.framed (p / 512) in
    elim (cases_lt (p / 512) w.setup.frames) [
      | inl l ↦ omega arith
      | inr g ↦ absurd (let z : one_if (nat_lt 0 (p / 512) && nat_lt (p / 512) w.setup.frames) ≡ 0 = rw (and_right (nat_lt 0 (p / 512)) (nat_lt (p / 512) w.setup.frames) (le-ltb (p / 512) w.setup.frames g)) refl in omega arith)
    ]
