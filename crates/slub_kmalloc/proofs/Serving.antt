-- The caches of classes, created one after the other.
use Rattle.std.proofs.Common.{◌≡◌, ℕ, zero, suc, ◌+◌, List, [], ◌∷◌, ◌++◌, refl, ◌∙◌, ap, subst, Result, arith}
use Rattle.std.specs.List.{range_with_len}
use Rattle.slub_trace.specs.declared.create.Created.{Created}
use Rattle.slub_trace.specs.declared.create.CreateRefusal.{CreateRefusal}
use Rattle.slub_trace.specs.declared.trace.Trace.{Trace}
use Rattle.slub_slabinfo_text.specs.Classes.{class_spec}
use Rattle.slub_rounds.specs.Heap.{HeapState}
use Rattle.slub_rounds.specs.Kmalloc.{CreatesClasses, CreatesFor, class_name}

pub creates_more : (h : HeapState) (trace : Trace) (classes : List ℕ) (answers : List (Result Created CreateRefusal)) (mid after : HeapState) (class : ℕ) (made : Result Created CreateRefusal)
    → CreatesClasses h trace classes answers mid → CreatesFor mid trace (class_name class) (class_spec class) made after
    → CreatesClasses h trace (classes ++ class ∷ []) (answers ++ made ∷ []) after
creates_more h trace [] [] mid after class made so_far creates =
    (after, subst (λ now. CreatesFor now trace (class_name class) (class_spec class) made after) so_far creates, refl)
creates_more h trace [] (first ∷ answers) mid after class made so_far creates = absurd so_far
creates_more h trace (first ∷ classes) [] mid after class made so_far creates = absurd so_far
creates_more h trace (first ∷ classes) (answer ∷ answers) mid after class made so_far creates =
    (so_far.0, so_far.1, creates_more so_far.0 trace classes answers mid after class made so_far.2 creates)

range_last : (from n last : ℕ) → from + n ≡ last → range_with_len from (suc n) ≡ range_with_len from n ++ last ∷ []
range_last from zero last is = ap (λ k. k ∷ []) (let here : from ≡ last = omega (arith, is) in here)
range_last from (suc n) last is = ap (λ rest. from ∷ rest) (range_last (from + 1) n last (omega (arith, is)))

pub range_more : (n : ℕ) → range_with_len 0 (n + 1) ≡ range_with_len 0 n ++ n ∷ []
range_more n = let on : n + 1 ≡ suc n = omega arith in ap (range_with_len 0) on ∙ range_last 0 n n (omega arith)
