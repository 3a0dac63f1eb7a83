-- How many workers have worked.
use Rattle.std.proofs.Common.{◌≡◌, ℕ, zero, suc, ◌+◌, List, [], ◌∷◌, ◌++◌, map, length, refl, sym, ap, ◌∙◌, arith, length-append}
use Rattle.std.proofs.lemmas.List.{length-map}
use Rattle.atomic_table.specs.Seated.{TableId}
use Rattle.slub_workers.specs.Standing.{Standing}
use Rattle.slub_workers.specs.Workers.{countdown, worker_in}

pub worked_count : (list done todo : List (TableId × Standing)) → map worker_in list ≡ map worker_in done ++ map worker_in todo → length list ≡ length done + length todo
worked_count list done todo e =
    let a = length-map list worker_in in
    let b = length-map done worker_in in
    let d = length-map todo worker_in in
    let k = ap length e ∙ length-append (map worker_in done) (map worker_in todo) in
    omega (arith, a, b, d, k)

length_countdown : (n : ℕ) → length (countdown n) ≡ n
length_countdown zero = refl
length_countdown (suc n) = let e = length_countdown n in omega arith

-- all workers have seats, in falling number
pub seated_count : (list : List (TableId × Standing)) (n : ℕ) → map worker_in list ≡ countdown n → length list ≡ n
seated_count list n e = sym (length-map list worker_in) ∙ ap length e ∙ length_countdown n

-- and all have worked
pub worked_numbers : (list done todo : List (TableId × Standing)) (n : ℕ) → done ≡ [] → map worker_in list ≡ map worker_in done ++ map worker_in todo → map worker_in todo ≡ countdown n
    → (map worker_in list ≡ countdown (length list)) × (length list ≡ n)
worked_numbers list done todo n none e seated =
    let are : map worker_in list ≡ countdown n = e ∙ (λ i. map worker_in (none i) ++ seated i) in
    let long = seated_count list n are in
    (are ∙ ap countdown (sym long), long)

-- the last of a list that has no other
alone : {A : Type 0} (list v : List A) (x : A) → list ≡ v ++ x ∷ [] → length v ≡ 0 → list ≡ x ∷ []
alone list [] x e none = e
alone list (y ∷ v) x e none = absurd (omega arith)

-- where one was left that has worked now
pub worked_alone : (list done todo v : List (TableId × Standing)) (w : TableId × Standing) → todo ≡ v ++ w ∷ [] → length v ≡ 0 → map worker_in list ≡ map worker_in done ++ worker_in w ∷ []
    → map worker_in list ≡ map worker_in done ++ map worker_in todo
worked_alone list done todo v w e none is = is ∙ ap (λ (ws : List (TableId × Standing)). map worker_in done ++ map worker_in ws) (sym (alone todo v w e none))
