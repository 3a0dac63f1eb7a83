-- Lists that grow.
use Rattle.std.proofs.Common.{◌≡◌, ◌≢◌, ℕ, zero, suc, ◌+◌, ◌<◌, ◌≤◌, ◌++◌, ◌&&◌, cond, Bool, true, false, List, [], ◌∷◌, length, get_or, take, drop, map, count_by, replicate, refl, ap, arith, eqb, nat_lt, nat_le, if◌then◌else◌, append_assoc, append-nil}
use Rattle.std.specs.List.{range_with_len, concat}
use Rattle.std.proofs.lemmas.List.{drop-drop}
use Rattle.std.proofs.lemmas.List.FromFn.{length-range_with_len}

-- one number more
pub range-more : (a n : ℕ) → range_with_len a (n + 1) ≡ range_with_len a n ++ (a + n) ∷ []
range-more a zero = grind arith
range-more a (suc n) =
    let h = range-more (a + 1) n in
    let e : a + 1 + n ≡ a + suc n = omega arith in
    let f : suc n + 1 ≡ suc (n + 1) = omega arith in
    rw (f, h, e) refl

-- one copy more
pub concat-more : (n : ℕ) (xs : List ℕ) → concat (replicate (n + 1) xs) ≡ concat (replicate n xs) ++ xs
concat-more zero xs = grind (arith, append-nil)
concat-more (suc n) xs =
    let h = concat-more n xs in
    let f : suc n + 1 ≡ suc (n + 1) = omega arith in
    rw (f, h) (rw append_assoc refl)

pub ruleset list_more = (range-more, concat-more, length-range_with_len)

pub ruleset dropped = (drop-drop)
