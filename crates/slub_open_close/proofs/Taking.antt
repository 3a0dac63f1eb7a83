-- A list from which the last ones are taken, one after another.
use Rattle.std.proofs.Common.{◌≡◌, ℕ, zero, suc, ◌+◌, ◌-◌, ◌<◌, ◌≤◌, List, [], ◌∷◌, ◌++◌, length, take, get_or, Some, refl, ap, ◌∙◌, arith}

pub length-push : {A : Type 0} (xs : List A) (x : A) → length (xs ++ x ∷ []) ≡ length xs + 1
length-push [] x = refl
length-push (y ∷ ys) x = let r = length-push ys x in let a : length (y ∷ ys) ≡ suc (length ys) = refl in let b : length ((y ∷ ys) ++ x ∷ []) ≡ suc (length (ys ++ x ∷ [])) = refl in omega arith

pub length-take-all : {A : Type 0} (xs : List A) (n : ℕ) → n ≤ length xs → length (take n xs) ≡ n
length-take-all [] zero le = refl
length-take-all [] (suc n) le = absurd (omega arith)
length-take-all (x ∷ xs) zero le = refl
length-take-all (x ∷ xs) (suc n) le = ap suc (length-take-all xs n (let l : length (x ∷ xs) ≡ suc (length xs) = refl in omega arith))

take-fewer : {A : Type 0} (xs : List A) (m n : ℕ) → m ≤ n → take m (take n xs) ≡ take m xs
take-fewer [] zero zero le = refl
take-fewer [] zero (suc n) le = refl
take-fewer [] (suc m) zero le = absurd (omega arith)
take-fewer [] (suc m) (suc n) le = refl
take-fewer (x ∷ xs) zero zero le = refl
take-fewer (x ∷ xs) zero (suc n) le = refl
take-fewer (x ∷ xs) (suc m) zero le = absurd (omega arith)
take-fewer (x ∷ xs) (suc m) (suc n) le = ap (λ l. x ∷ l) (take-fewer xs m n (omega arith))

get-taken : {A : Type 0} (xs : List A) (n i : ℕ) (d : A) → i < n → get_or (take n xs) i d ≡ get_or xs i d
get-taken [] zero i d below = absurd (omega arith)
get-taken [] (suc n) i d below = refl
get-taken (x ∷ xs) zero i d below = absurd (omega arith)
get-taken (x ∷ xs) (suc n) zero d below = refl
get-taken (x ∷ xs) (suc n) (suc i) d below = get-taken xs n i d (omega arith)

-- the last of the first ones
pub last-taken : {A : Type 0} (whole xs : List A) (n len : ℕ) (d x : A) → xs ≡ take (suc n) whole → suc n ≤ length whole → len ≡ length xs → Some x ≡ Some (get_or xs (len - 1) d) → x ≡ get_or whole n d
last-taken {A} whole xs n len d x is few long last =
    let l : len - 1 ≡ n = (let e = ap length is in let t = length-take-all whole (suc n) few in omega arith) in
    injected last ∙ ap (λ i. get_or xs i d) l ∙ ap (λ zs. get_or zs n d) is ∙ get-taken whole (suc n) n d (omega arith)
  where
    injected : {a b : A} → Some a ≡ Some b → a ≡ b
    injected e = cc

-- and what is left without it
pub less-taken : {A : Type 0} (whole xs ys : List A) (n len : ℕ) → xs ≡ take (suc n) whole → suc n ≤ length whole → len ≡ length xs → ys ≡ take (len - 1) xs → ys ≡ take n whole
less-taken whole xs ys n len is few long rest =
    let l : len - 1 ≡ n = (let e = ap length is in let t = length-take-all whole (suc n) few in omega arith) in
    rest ∙ ap (λ i. take i xs) l ∙ ap (take n) is ∙ take-fewer whole n (suc n) (omega arith)
