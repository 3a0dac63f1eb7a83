-- Sums over rows of slabinfo don't ask in which order the caches stand.
use Rattle.std.proofs.Common.{◌≡◌, ℕ, ◌+◌, List, [], ◌∷◌, ◌++◌, reverse, sum_by, refl, ◌∙◌, ap, arith}
use Rattle.std.specs.List.{filter_map}
use Rattle.std.proofs.lemmas.List.{reverse-append}
use Rattle.std.proofs.lemmas.List.Elements.{filter_map-append}
use Rattle.std.proofs.lemmas.List.Sums.{sum_by-append}
use Rattle.slub_lists.specs.State.{State}
use Rattle.slub_slabinfo_text.specs.declared.counts.Counts.{Counts}
use Rattle.slub_slabinfo_text.specs.declared.counts.InfoRow.{InfoRow}
use Rattle.slub_slabinfo_text.specs.Counts.{row_of}
use Rattle.slub_slabinfo_text.specs.Lawful.{counted}

pub reversed_rows : (number : Counts → ℕ) (s : State) (caches : List ℕ) → counted number s (reverse caches) ≡ counted number s caches
reversed_rows number s [] = refl
reversed_rows number s (cache ∷ caches) =
    let turned : reverse (cache ∷ caches) ≡ reverse caches ++ cache ∷ [] = reverse-append (cache ∷ []) caches in
    let front = filter_map-append (row_of s) (reverse caches) (cache ∷ []) in
    let back = filter_map-append (row_of s) (cache ∷ []) caches in
    let mine = λ (rows : List InfoRow). sum_by (λ (row : InfoRow). number row.counts) rows in
    let one = sum_by-append (λ (row : InfoRow). number row.counts) (filter_map (row_of s) (reverse caches)) (filter_map (row_of s) (cache ∷ [])) in
    let other = sum_by-append (λ (row : InfoRow). number row.counts) (filter_map (row_of s) (cache ∷ [])) (filter_map (row_of s) caches) in
    let left : counted number s (reverse (cache ∷ caches)) ≡ counted number s (reverse caches) + counted number s (cache ∷ []) = ap mine (ap (filter_map (row_of s)) turned ∙ front) ∙ one in
    let right : counted number s (cache ∷ caches) ≡ counted number s (cache ∷ []) + counted number s caches = ap mine back ∙ other in
    omega (arith, left, right, reversed_rows number s caches)
