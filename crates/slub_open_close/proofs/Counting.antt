-- Objects of a cache are counted one by one.
use Rattle.std.proofs.Common.{ℕ, zero, suc, ◌≤◌, eqb, List, [], ◌∷◌, take, Option, Some, None, arith, sum_by}
use Rattle.std.proofs.lemmas.Bool.{cond_both}
use Rattle.std.proofs.lemmas.List.Sums.{sum_by-cons}
use Rattle.slub_lists.specs.Coherent.{held_of}
use Rattle.slub_lists.specs.declared.lists.Held.{Held}

held-one : (k : ℕ) (h : Option Held) → held_of k h ≤ 1
held-one k None = omega arith
held-one k (Some h) = cond_both (eqb h.cache k) 1 0 (λ n. n ≤ 1) (λ e. omega arith) (λ e. omega arith)

pub counted-few : (k : ℕ) (hs : List (Option Held)) (i : ℕ) → sum_by (held_of k) (take i hs) ≤ i
counted-few k [] zero = omega arith
counted-few k [] (suc i) = omega arith
counted-few k (h ∷ hs) zero = omega arith
counted-few k (h ∷ hs) (suc i) = let c = sum_by-cons (held_of k) h (take i hs) in let r = counted-few k hs i in let o = held-one k h in omega arith
