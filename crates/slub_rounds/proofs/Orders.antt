-- Of all workers the finished ones leave the order, the last one first.
use Rattle.std.proofs.Common.{true, false, ◌≡◌, ℕ, zero, suc, ◌+◌, ◌<◌, ◌≤◌, Bool, not, List, [], ◌∷◌, ◌++◌, length, drop, get_or, set, replicate, refl, sym, ◌∙◌, ap, arith}
use Rattle.std.proofs.lemmas.List.{append-nil, length-map}
use Rattle.std.proofs.Math.ListN.{get_or-map}
use Rattle.slub_core.specs.Local.{Local}
use Rattle.slub_core.specs.Run.{idle}
use Rattle.slub_schedule.specs.Schedule.{is_finished, marks_of, places_from, places_of}
use Rattle.slub_rounds.specs.Room.{all_workers}

-- the first k workers are in the order whatever they are, the others where they aren't finished
abbrev pub marks_from : ℕ → List Bool → List Bool
marks_from k marks = replicate k true ++ drop k marks

-- place k of the order has worker k, where so many first ones are in it
place-is : (n k : ℕ) (rest : List Bool) → (k < length (places_from n (replicate (suc k) true ++ rest))) × (get_or (places_from n (replicate (suc k) true ++ rest)) k 0 ≡ n + k)
place-is n zero rest = (omega arith, omega arith)
place-is n (suc k) rest =
    let r = place-is (suc n) k rest in
    let below = r.0 in
    let is : get_or (places_from (suc n) (replicate (suc k) true ++ rest)) k 0 ≡ suc n + k = r.1 in
    (omega (arith, below), is ∙ omega arith)

-- it leaves
set-last : (k : ℕ) (rest : List Bool) → set (replicate (suc k) true ++ rest) k false ≡ replicate k true ++ false ∷ rest
set-last zero rest = refl
set-last (suc k) rest = ap (λ (xs : List Bool). true ∷ xs) (set-last k rest)

-- it stays
stay-last : (k : ℕ) (rest : List Bool) → replicate (suc k) true ++ rest ≡ replicate k true ++ true ∷ rest
stay-last zero rest = refl
stay-last (suc k) rest = ap (λ (xs : List Bool). true ∷ xs) (stay-last k rest)

-- ---- the loop; `done` workers were looked at, from the last one on

pub before-any : (n : ℕ) (marks : List Bool) → length marks ≡ n → all_workers n ≡ places_of (marks_from n marks)
before-any n marks long = ap places_of (sym (append-nil (replicate n true)) ∙ ap (λ (xs : List Bool). replicate n true ++ xs) (sym (drop-whole n marks (omega (arith, long)))))
  where
    drop-whole : (n : ℕ) (xs : List Bool) → length xs ≤ n → drop n xs ≡ []
    drop-whole zero [] few = refl
    drop-whole zero (x ∷ xs) few = absurd (let never : ⊥ = omega arith in never)
    drop-whole (suc n) [] few = refl
    drop-whole (suc n) (x ∷ xs) few = drop-whole n xs (omega arith)

pub worker-there : (k : ℕ) (marks : List Bool) → (k < length (places_of (marks_from (suc k) marks))) × (get_or (places_of (marks_from (suc k) marks)) k 0 ≡ k)
worker-there k marks = let r = place-is 0 k (drop (suc k) marks) in (r.0, r.1 ∙ omega arith)

mark-at : (k : ℕ) (marks : List Bool) (b : Bool) → k < length marks → get_or marks k b ≡ b → drop k marks ≡ b ∷ drop (suc k) marks
mark-at zero [] b below is = absurd (let never : ⊥ = omega arith in never)
mark-at zero (x ∷ xs) b below is = ap (λ (y : Bool). y ∷ xs) is
mark-at (suc k) [] b below is = absurd (let never : ⊥ = omega arith in never)
mark-at (suc k) (x ∷ xs) b below is = mark-at k xs b (omega arith) is

pub leaves : (k : ℕ) (marks : List Bool) (order after : List ℕ) → k < length marks → get_or marks k false ≡ false → order ≡ places_of (marks_from (suc k) marks)
    → ((ms : List Bool) → order ≡ places_of ms → after ≡ places_of (set ms (get_or order k 0) false)) → after ≡ places_of (marks_from k marks)
leaves k marks order after below is was leave =
    let at : get_or order k 0 ≡ k = ap (λ (xs : List ℕ). get_or xs k 0) was ∙ (worker-there k marks).1 in
    leave (marks_from (suc k) marks) was ∙ ap (λ n. places_of (set (marks_from (suc k) marks) n false)) at
    ∙ ap places_of (set-last k (drop (suc k) marks) ∙ ap (λ (xs : List Bool). replicate k true ++ xs) (sym (mark-at k marks false below is)))

pub stays : (k : ℕ) (marks : List Bool) (order : List ℕ) → k < length marks → get_or marks k true ≡ true → order ≡ places_of (marks_from (suc k) marks) → order ≡ places_of (marks_from k marks)
stays k marks order below is was =
    was ∙ ap places_of (stay-last k (drop (suc k) marks) ∙ ap (λ (xs : List Bool). replicate k true ++ xs) (sym (mark-at k marks true below is)))

-- an element that there is, whatever is read past the end
any-default : (xs : List Bool) (k : ℕ) (d e : Bool) → k < length xs → get_or xs k d ≡ get_or xs k e
any-default [] k d e below = absurd (let never : ⊥ = omega arith in never)
any-default (x ∷ xs) zero d e below = refl
any-default (x ∷ xs) (suc k) d e below = any-default xs k d e (omega arith)

-- the mark of a worker
pub mark-is : (locals : List Local) (k : ℕ) (l : Local) (b : Bool) → k < length locals → l ≡ get_or locals k idle → is_finished l ≡ not b → get_or (marks_of locals) k b ≡ b
mark-is locals k l b below read is =
    any-default (marks_of locals) k b (not (is_finished idle)) (omega (arith, length-map locals (λ (l : Local). not (is_finished l))))
    ∙ get_or-map (λ (l : Local). not (is_finished l)) locals k idle ∙ ap (λ (l : Local). not (is_finished l)) (sym read) ∙ ap not is ∙ twice b
  where
    twice : (b : Bool) → not (not b) ≡ b
    twice true = refl
    twice false = refl
