-- One more cache among those of a trace.
use Rattle.std.proofs.Common.{◌≡◌, ℕ, zero, suc, ◌+◌, ◌<◌, List, [], ◌∷◌, ◌++◌, length, map, take, get_or, sym, ap, subst, ◌∙◌, arith}
use Rattle.std.specs.Prelude.{All}
use Rattle.std.proofs.lemmas.List.{take_more, map-append}
use Rattle.std.proofs.lemmas.List.Elements.{All-append}
use Rattle.slub_recorded.specs.declared.groups.Chosen.{Chosen}
use Rattle.slub_recorded.specs.declared.text.Row.{Row}
use Rattle.slub_recorded.specs.Groups.{row_of}
use Rattle.slub_recorded.specs.Lines.{IsRow}

pub rows_more : (chosen : List Chosen) (i : ℕ) (c d : Chosen) (rows new : List Row) (r : Row) → i < length chosen → get_or chosen i d ≡ c → rows ≡ map row_of (take i chosen) → r ≡ row_of c → new ≡ rows ++ r ∷ [] → new ≡ map row_of (take (i + 1) chosen)
rows_more chosen i c d rows new r inside at are is more =
    more ∙ ap (λ (x : List Row). x ++ r ∷ []) are ∙ ap (λ (x : Row). map row_of (take i chosen) ++ x ∷ []) (is ∙ ap row_of (sym at))
    ∙ sym (map-append row_of (take i chosen) (get_or chosen i d ∷ [])) ∙ ap (map row_of) (sym (take_more chosen i d inside))

one_row : (r : Row) → IsRow r → All IsRow (r ∷ [])
one_row r fits zero d inside = fits
one_row r fits (suc k) d inside = absurd (omega (arith, inside))

pub all_more : (rows new : List Row) (r : Row) → All IsRow rows → IsRow r → new ≡ rows ++ r ∷ [] → All IsRow new
all_more rows new r are fits more =
    let A : List Row → Type 0 = λ x. All IsRow x in
    subst A (sym more) (All-append IsRow rows (r ∷ []) are (one_row r fits))
