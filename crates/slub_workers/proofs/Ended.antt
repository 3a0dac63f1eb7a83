-- The workers that have given their seats back, one after another.
use Rattle.std.proofs.Common.{◌≡◌, zero, suc, ◌-◌, Bool, true, false, ◌||◌, List, [], ◌∷◌, ◌++◌, map, reverse, length, get_or, All, refl, sym, ap, ◌∙◌, subst, arith, append_assoc}
use Rattle.std.proofs.lemmas.List.{reverse-append, length-reverse, get_or-reverse}
use Rattle.atomic_table.specs.Seated.{TableId}
use Rattle.slub_core.specs.Local.{Local}
use Rattle.slub_workers.specs.Standing.{Standing}
use Rattle.slub_workers.specs.Ends.{rising}

pub or_left : (a b : Bool) → (a || b) ≡ false → a ≡ false
or_left true b e = absurd (cc)
or_left false b e = refl

pub or_right : (a b : Bool) → (a || b) ≡ false → b ≡ false
or_right true b e = absurd (cc)
or_right false b e = e

pub both_false : (a b : Bool) → a ≡ false → b ≡ false → (a || b) ≡ false
both_false a b e f = rw (e, f) refl

-- the last of the list comes next
pub risen : (list v : List (TableId × Standing)) (w : TableId × Standing) (back more : List Local) (l : Local) → list ≡ v ++ w ∷ [] → more ≡ back ++ l ∷ [] → l ≡ w.1.local → more ++ rising v ≡ back ++ rising list
risen list v w back more l e is here =
    ap (λ (ls : List Local). ls ++ rising v) is ∙ append_assoc back (l ∷ []) (rising v) ∙ ap (λ (k : Local). back ++ k ∷ rising v) here
    ∙ sym (ap (λ (ws : List (TableId × Standing)). back ++ rising ws) e ∙ ap (λ (ws : List (TableId × Standing)). back ++ map (λ (w : TableId × Standing). w.1.local) ws) (reverse-append v (w ∷ [])))

-- ---- of all of a list

pub all_weaker : {A : Type 0} (P Q : A → Type 0) (xs : List A) → ((x : A) → P x → Q x) → All P xs → All Q xs
all_weaker P Q xs f a k d low = f (get_or xs k d) (a k d low)

all_reversed : {A : Type 0} (P : A → Type 0) (xs : List A) → All P xs → All P (reverse xs)
all_reversed P xs a k d low =
    let n = length-reverse xs in
    subst P (sym (get_or-reverse xs k d (omega arith))) (a (length xs - 1 - k) d (omega arith))

all_mapped : {A B : Type 0} (f : A → B) (P : B → Type 0) (xs : List A) → All (λ x. P (f x)) xs → All P (map f xs)
all_mapped f P [] a k d low = absurd (omega arith)
all_mapped f P (x ∷ xs) a zero d low = a 0 x (omega arith)
all_mapped f P (x ∷ xs) a (suc k) d low = all_mapped f P xs (λ j e lt. a (suc j) e (omega arith)) k d (omega arith)

pub all_risen : (P : Local → Type 0) (list : List (TableId × Standing)) → All (λ w. P w.1.local) list → All P (rising list)
all_risen P list a = all_mapped (λ (w : TableId × Standing). w.1.local) P (reverse list) (all_reversed (λ (w : TableId × Standing). P w.1.local) list a)
