-- Walks come by the chains and strings that words lead to.
use Rattle.std.proofs.Common.{◌≡◌, ℕ, zero, suc, ◌+◌, ◌-◌, ◌%◌, ◌^◌, ◌<◌, ◌≤◌, ◌++◌, eqb, List, [], ◌∷◌, length, refl, ap, sym, ◌∙◌, arith, append_assoc}
use Rattle.std.proofs.lemmas.Bool.{cond-true, cond-false, eq-eqb, ne_eqb}
use Rattle.slub_common.specs.Times.{times}
use Rattle.slub_core.specs.World.{IsChain, Links}
use Rattle.slub_core.proofs.Chains.{Leads-small}
use Rattle.slub_core.proofs.Exists.{times-self}
use Rattle.slub_core.proofs.Lists.{times-first}
use Rattle.slub_open_close.specs.Reads.{walked}

times-behind : (j x : ℕ) (xs : List ℕ) → 1 ≤ times j xs → 1 ≤ times j (x ∷ xs)
times-behind j x xs some = let c = times-first j x xs in omega arith

-- ---- one step of a walk

pub walked-end : (item next : ℕ → ℕ) (most at : ℕ) → at ≡ 0 → walked item next most at ≡ []
unfolding walked
walked-end item next zero at e = refl
walked-end item next (suc most) at e = cond-true {A = List ℕ} (eqb at 0) [] _ (eq-eqb at 0 e)

pub walked-none : (item next : ℕ → ℕ) (most at : ℕ) → most ≡ 0 → walked item next most at ≡ []
unfolding walked
walked-none item next zero at e = refl
walked-none item next (suc most) at e = absurd (omega arith)

pub walked-more : (item next : ℕ → ℕ) (most at : ℕ) → 0 < at → walked item next (suc most) at ≡ item at ∷ walked item next most (next at)
unfolding walked
walked-more item next most at some = cond-false {A = List ℕ} (eqb at 0) [] _ (ne_eqb at 0 (λ e. absurd (omega arith)))

length-one : (xs : List ℕ) (x : ℕ) → length (xs ++ x ∷ []) ≡ length xs + 1
length-one [] x = refl
length-one (y ∷ ys) x = let r = length-one ys x in let a : length (y ∷ ys) ≡ suc (length ys) = refl in let b : length ((y ∷ ys) ++ x ∷ []) ≡ suc (length (ys ++ x ∷ [])) = refl in omega arith

append-none : (xs : List ℕ) → xs ++ [] ≡ xs
append-none [] = refl
append-none (x ∷ xs) = ap (λ l. x ∷ l) (append-none xs)

-- one item more was come by
pub walk-further : (item next : ℕ → ℕ) (most at to x : ℕ) (come whole : List ℕ) → 0 < at → length come < most → x ≡ item at → to ≡ next at
    → whole ≡ come ++ walked item next (most - length come) at → whole ≡ (come ++ x ∷ []) ++ walked item next (most - length (come ++ x ∷ [])) to
walk-further item next most at to x come whole some room is leads so_far =
    let left = most - length come - 1 in
    let e : most - length come ≡ suc left = omega arith in
    let l : left ≡ most - length (come ++ x ∷ []) = (let o = length-one come x in omega arith) in
    so_far
    ∙ ap (λ n. come ++ walked item next n at) e
    ∙ ap (λ zs. come ++ zs) (walked-more item next left at some)
    ∙ ap (λ y. come ++ y ∷ walked item next left (next at)) (sym is)
    ∙ ap (λ y. come ++ x ∷ walked item next left y) (sym leads)
    ∙ sym (append_assoc come (x ∷ []) (walked item next left to))
    ∙ ap (λ n. (come ++ x ∷ []) ++ walked item next n to) l

-- nothing is left, or there is no room
pub walk-done : (item next : ℕ → ℕ) (most at : ℕ) (come whole : List ℕ) → (0 < at → most ≤ length come) → whole ≡ come ++ walked item next (most - length come) at → come ≡ whole
walk-done item next most zero come whole done so_far = sym (so_far ∙ ap (λ zs. come ++ zs) (walked-end item next (most - length come) 0 refl) ∙ append-none come)
walk-done item next most (suc at) come whole done so_far =
    sym (so_far ∙ ap (λ zs. come ++ zs) (walked-none item next (most - length come) (suc at) (let d = done (omega arith) in omega arith)) ∙ append-none come)

-- ---- what it comes by

pub walked-chain : (next step : ℕ → ℕ) → ((i : ℕ) → step (suc i) ≡ next i % 2 ^ 16) → (most head : ℕ) (xs : List ℕ) → ((j : ℕ) → 1 ≤ times j xs → suc j < 2 ^ 16) → length xs ≤ most → IsChain next head xs → walked (λ h. h - 1) step most head ≡ xs
walked-chain next step says most head [] small long c = walked-end (λ h. h - 1) step most head c
walked-chain next step says zero head (x ∷ xs) small long c = absurd (let l : length (x ∷ xs) ≡ suc (length xs) = refl in omega arith)
walked-chain next step says (suc most) head (x ∷ xs) small long c =
    let rest : (j : ℕ) → 1 ≤ times j xs → suc j < 2 ^ 16 = λ j some. small j (times-behind j x xs some) in
    let few : next x < 2 ^ 16 = Leads-small next (next x) xs rest c.1 in
    let to : step head ≡ next x = ap step c.0 ∙ says x ∙ (let q : next x % 2 ^ 16 ≡ next x = omega arith in q) in
    let item : head - 1 ≡ x = (let e = c.0 in omega arith) in
    walked-more (λ h. h - 1) step most head (let e = c.0 in omega arith)
    ∙ ap (λ y. y ∷ walked (λ h. h - 1) step most (step head)) item
    ∙ ap (λ h. x ∷ walked (λ h. h - 1) step most h) to
    ∙ ap (λ zs. x ∷ zs) (walked-chain next step says most (next x) xs rest (let l : length (x ∷ xs) ≡ suc (length xs) = refl in omega arith) c.1)

pub walked-string : (link step : ℕ → ℕ) (most front : ℕ) (fs : List ℕ) → ((f : ℕ) → 1 ≤ times f fs → (1 ≤ f) × (step f ≡ link f)) → length fs ≤ most → Links link front fs 0 → walked (λ f. f) step most front ≡ fs
walked-string link step most front [] are long l = walked-end (λ f. f) step most front l
walked-string link step zero front (f ∷ fs) are long l = absurd (let n : length (f ∷ fs) ≡ suc (length fs) = refl in omega arith)
walked-string link step (suc most) front (f ∷ fs) are long l =
    let here = are f (times-self f fs) in
    let to : step front ≡ link f = ap step l.0 ∙ here.1 in
    walked-more (λ f. f) step most front (let e = l.0 in omega (arith, here.0))
    ∙ ap (λ y. y ∷ walked (λ f. f) step most (step front)) l.0
    ∙ ap (λ h. f ∷ walked (λ f. f) step most h) to
    ∙ ap (λ zs. f ∷ zs) (walked-string link step most (link f) fs (λ g some. are g (times-behind g f fs some)) (let n : length (f ∷ fs) ≡ suc (length fs) = refl in omega arith) l.1)
