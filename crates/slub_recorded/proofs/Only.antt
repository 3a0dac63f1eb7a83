-- Which caches notes tell as left out.
use Rattle.std.proofs.Common.{◌≡◌, ℕ, ◌+◌, List, [], ◌∷◌, ◌++◌, refl, sym, subst, arith}
use Rattle.std.specs.Prelude.{All, Contains}
use Rattle.std.proofs.lemmas.List.Elements.{All-nil, All-push, All-weaker}
use Rattle.slub_recorded.specs.declared.groups.Cache.{Cache}
use Rattle.slub_recorded.specs.declared.told.About.{About}
use Rattle.slub_recorded.specs.declared.told.About.TheVariants.{UnknownFrees, Letter, LeftOutCache}
use Rattle.slub_recorded.specs.declared.told.Note.{Note}
use Rattle.slub_recorded.specs.declared.told.Note.TheVariants.{Count, Of}
use Rattle.slub_recorded.specs.declared.told.Word.{Word}
use Rattle.slub_recorded.specs.Told.{IsCount, IsMeant, IsOfLeft, left_note}

-- ---- one note more

pub count_more : (notes new : List Note) (word : Word) (number : ℕ) → new ≡ notes ++ Count word number ∷ [] → All IsCount notes → All IsCount new
count_more notes new word number is all = let P : List Note → Type 0 = λ l. All IsCount l in subst P (sym is) (All-push IsCount notes (Count word number) all tt)

pub none_more : (notes new : List Note) (about : About) (name : List ℕ) (number : ℕ) → new ≡ notes ++ Of about name number ∷ [] → IsMeant [] about name number → All (IsOfLeft []) notes → All (IsOfLeft []) new
none_more notes new about name number is one all = let P : List Note → Type 0 = λ l. All (IsOfLeft []) l in subst P (sym is) (All-push (IsOfLeft []) notes (Of about name number) all one)

pub left_more : (left : List Cache) (notes new : List Note) (cache : Cache) → new ≡ notes ++ left_note cache ∷ [] → Contains left cache → All (IsOfLeft left) notes → All (IsOfLeft left) new
left_more left notes new cache is there all =
    let P : List Note → Type 0 = λ l. All (IsOfLeft left) l in subst P (sym is) (All-push (IsOfLeft left) notes (left_note cache) all (cache, there, refl, refl))

-- ---- notes that are of none

meant_any : (left : List Cache) (about : About) (name : List ℕ) (number : ℕ) → IsMeant [] about name number → IsMeant left about name number
meant_any left UnknownFrees name number is = tt
meant_any left Letter name number is = tt
meant_any left LeftOutCache name number is = absurd (omega (arith, is.1.1))

of_any : (left : List Cache) (note : Note) → IsOfLeft [] note → IsOfLeft left note
of_any left (Count word number) is = tt
of_any left (Of about name number) is = meant_any left about name number is

pub any_left : (left : List Cache) (notes : List Note) → All (IsOfLeft []) notes → All (IsOfLeft left) notes
any_left left notes are = All-weaker (IsOfLeft []) (IsOfLeft left) (of_any left) notes are

count_any : (left : List Cache) (note : Note) → IsCount note → IsOfLeft left note
count_any left (Count word number) is = tt
count_any left (Of about name number) is = absurd is

pub counts_any : (left : List Cache) (notes : List Note) → All IsCount notes → All (IsOfLeft left) notes
counts_any left notes are = All-weaker IsCount (IsOfLeft left) (count_any left) notes are

pub none_left : (notes : List Note) → notes ≡ [] → All (IsOfLeft []) notes
none_left notes none = let P : List Note → Type 0 = λ l. All (IsOfLeft []) l in subst P (sym none) (All-nil (IsOfLeft []))

pub none_counted : (notes : List Note) → notes ≡ [] → All IsCount notes
none_counted notes none = let P : List Note → Type 0 = λ l. All IsCount l in subst P (sym none) (All-nil IsCount)
