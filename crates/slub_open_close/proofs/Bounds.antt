-- Freelists and partial lists of a machine in which all stands fit the lists that they close into.
use Rattle.std.proofs.Common.{◌≡◌, ◌≢◌, ℕ, suc, Bool, true, false, List, ◌^◌, ◌<◌, ◌≤◌, length, ap, ◌∙◌, subst, arith, inl, inr}
use Rattle.std.specs.Prelude.{nat_lt}
use Rattle.std.proofs.lemmas.Bool.{cases_eq, cases_lt}
use Rattle.slub_common.specs.Times.{times}
use Rattle.slub_core.specs.Local.{Worker}
use Rattle.slub_core.specs.World.{World, Chains, one_if, in_chain}
use Rattle.slub_core.specs.Listed.{on_lists}
use Rattle.slub_core.specs.Coherent.{Stands}
use Rattle.slub_core.proofs.Exists.{own-exists, chain-exists, object-small, exists_at-within, in_chain-here, home-live, object_at-le}
use Rattle.slub_core.proofs.Kind21.{run-some}
use Rattle.slub_core.proofs.Pigeon.{length-as_sum, length-below, sum_below-le}
use Rattle.slub_core.proofs.Update.{term_le_sum}
use Rattle.slub_core.proofs.StepValues.{word-objects}

module _ (w : World) (xs : List Worker) (s : Stands w xs) where
  abbrev pub y : Chains
  y = s.chains

  -- a slab has 512 objects at most
  few-objects : (f : ℕ) → (w.slab f).objects ≤ 512
  few-objects f = elim (cases_lt 0 (w.slab f).objects) [
    | inl l ↦ (
        let some : 1 ≤ (w.slab f).objects = omega arith in
        let p = s.listed.shaped.plain f some in
        (run-some _ _ (w.slab f).objects (s.fresh.setup.layout (w.slab f).cache p.1) (s.listed.shaped.sized f some)).1)
    | inr g ↦ omega arith
  ]

  pub own-small : (f j : ℕ) → 1 ≤ times j (y.own f) → suc j < 2 ^ 16
  own-small f j some = object-small w xs f j s (own-exists w y xs f j s.placed s.listed.shaped some)

  pub own-few : (f : ℕ) → length (y.own f) ≤ 512
  own-few f = let c = s.listed.shaped.counted f in let few = few-objects f in omega arith

  in-cpu : (n j : ℕ) → 1 ≤ times j (y.cpu n) → 1 ≤ in_chain (w.cpu n).frame (y.cpu n) (w.cpu n).frame j
  in-cpu n j some = let e = in_chain-here (w.cpu n).frame (y.cpu n) j in omega arith

  pub cpu-small : (n j : ℕ) → n < w.setup.cpu_words → 1 ≤ times j (y.cpu n) → suc j < 2 ^ 16
  cpu-small n j below some = object-small w xs (w.cpu n).frame j s (chain-exists w y xs n (w.cpu n).frame j s.placed s.listed below (in-cpu n j some))

  cpu-once : (n j : ℕ) → n < w.setup.cpu_words → times j (y.cpu n) ≤ 1
  cpu-once n j below =
      let e = in_chain-here (w.cpu n).frame (y.cpu n) j in
      let t = term_le_sum w.setup.cpu_words (λ k. in_chain (w.cpu k).frame (y.cpu k) (w.cpu n).frame j) n below in
      let o = s.placed.once (w.cpu n).frame j in
      let one = object_at-le w (w.cpu n).frame j in
      omega arith

  cpu-past : (n j : ℕ) → n < w.setup.cpu_words → 512 ≤ j → times j (y.cpu n) ≡ 0
  cpu-past n j below past = elim (cases_eq (times j (y.cpu n)) 0) [
    | inl z ↦ z
    | inr d ↦ absurd (
        let e = chain-exists w y xs n (w.cpu n).frame j s.placed s.listed below (in-cpu n j (omega (arith, d))) in
        let i = exists_at-within w (w.cpu n).frame j e in
        let few = few-objects (w.cpu n).frame in
        omega arith)
  ]

  pub cpu-few : (n : ℕ) → n < w.setup.cpu_words → length (y.cpu n) ≤ 512
  cpu-few n below =
      let a = length-as_sum 512 (y.cpu n) (λ j past. cpu-past n j below past) in
      let b = sum_below-le 512 (λ j. times j (y.cpu n)) (λ j. cpu-once n j below) in
      subst (λ k. k ≤ 512) a b

  list-part : (n f : ℕ) → n < w.setup.cpu_words → times f (y.list n) ≤ on_lists w y f
  list-part n f below = let t = term_le_sum w.setup.cpu_words (λ k. times f (y.list k)) n below in omega arith

  pub list-real : (n f : ℕ) → n < w.setup.cpu_words → 1 ≤ times f (y.list n) → (1 ≤ f) × (f < w.setup.frames)
  list-real n f below some =
      let part = list-part n f below in
      let real : f ≢ 0 = λ e. absurd (let z : on_lists w y f ≡ 0 = ap (on_lists w y) e ∙ s.listed.shaped.no_lists in omega arith) in
      let has = home-live w y xs f s.listed real (omega arith) in
      (omega (arith, real), s.listed.shaped.within f (let e = word-objects w f has in omega arith))

  list-once : (n f : ℕ) → n < w.setup.cpu_words → times f (y.list n) ≤ 1
  list-once n f below = elim (cases_eq f 0) [
    | inl e ↦ (let z : on_lists w y f ≡ 0 = ap (on_lists w y) e ∙ s.listed.shaped.no_lists in let p = list-part n f below in omega arith)
    | inr real ↦ (let o = s.listed.once f real in let p = list-part n f below in let l = one-most (nat_lt 0 (w.slab f).objects) in omega arith)
  ]
    where
      one-most : (z : Bool) → one_if z ≤ 1
      one-most true = omega arith
      one-most false = omega arith

  pub list-few : (n : ℕ) → n < w.setup.cpu_words → length (y.list n) ≤ 4095
  list-few n below =
      let few = s.fresh.setup.frames in
      let l = length-below w.setup.frames (y.list n) (omega arith) (λ j. list-once n j below)
      (λ j past. elim (cases_eq (times j (y.list n)) 0) [ inl z ↦ z | inr d ↦ absurd (let r = list-real n j below (omega (arith, d)) in omega arith) ])
      (let p = list-part n 0 below in let z = s.listed.shaped.no_lists in omega arith) in
      omega arith
