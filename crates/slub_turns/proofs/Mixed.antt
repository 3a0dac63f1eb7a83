-- A list of which the first elements are changed already.
use Rattle.std.proofs.Common.{◌≡◌, ℕ, zero, suc, ◌+◌, ◌≤◌, ◌∙◌, List, [], ◌∷◌, length, get_or, set, map, refl, sym, ap, add-one, arith}
use Rattle.slub_core.specs.Local.{Local}

abbrev pub mixed : (Local → Local) → List Local → ℕ → List Local
mixed f [] n = []
mixed f (l ∷ ls) zero = l ∷ ls
mixed f (l ∷ ls) (suc n) = f l ∷ mixed f ls n

pub mixed_none : (f : Local → Local) (ls : List Local) → ls ≡ mixed f ls 0
mixed_none f [] = refl
mixed_none f (l ∷ ls) = refl

pub mixed_more : (f : Local → Local) (ls : List Local) (n : ℕ) (d : Local) → set (mixed f ls n) n (f (get_or (mixed f ls n) n d)) ≡ mixed f ls (suc n)
mixed_more f [] n d = refl
mixed_more f (l ∷ ls) zero d = ap (λ (ks : List Local). f l ∷ ks) (mixed_none f ls)
mixed_more f (l ∷ ls) (suc n) d = ap (λ (ks : List Local). f l ∷ ks) (mixed_more f ls n d)

pub mixed_all : (f : Local → Local) (ls : List Local) (n : ℕ) → length ls ≤ n → mixed f ls n ≡ map f ls
mixed_all f [] n long = refl
mixed_all f (l ∷ ls) zero long = absurd (omega arith)
mixed_all f (l ∷ ls) (suc n) long = ap (λ (ks : List Local). f l ∷ ks) (mixed_all f ls n (omega arith))

-- the next element is changed
pub mixed_step : (f : Local → Local) (ls items : List Local) (n : ℕ) (x y : Local) → items ≡ mixed f ls n → y ≡ f (get_or items n x) → set items n y ≡ mixed f ls (n + 1)
mixed_step f ls items n x y is changed =
    ap (λ (k : Local). set items n k) changed ∙ ap (λ (zs : List Local). set zs n (f (get_or zs n x))) is ∙ mixed_more f ls n x ∙ ap (λ (k : ℕ). mixed f ls k) (sym (add-one n))
