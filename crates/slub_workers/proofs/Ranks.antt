-- Lists of workers, one more or one less.
use Rattle.std.proofs.Common.{◌≡◌, ℕ, zero, suc, ◌+◌, ◌<◌, List, [], ◌∷◌, ◌++◌, map, length, get_or, All, refl, sym, ap, ◌∙◌, reverse, subst, arith, append_assoc, length-append}
use Rattle.std.proofs.lemmas.List.{map-append, reverse-append}
use Rattle.std.proofs.lemmas.List.Elements.{All-append}
use lib.ListN.{get_elem?}
use Rattle.atomic_table.specs.Seated.{TableId}
use Rattle.atomic_table.proofs.Lists.{at_last, at_longer}
use Rattle.slub_core.specs.Local.{Local}
use Rattle.slub_workers.specs.Begun.{Begun}
use Rattle.slub_workers.specs.Standing.{Standing, Fork, one_way}
use Rattle.slub_workers.specs.Rule.{standing_first}
use Rattle.slub_workers.specs.Ends.{seated_first}
use Rattle.slub_workers.specs.Ranks.{IsFresh, AreFresh, view_of}
use Rattle.slub_workers.specs.Workers.{countdown, worker_in}

-- ---- the last of a list

module _ {A : Type 0} (P : A → Type 0) where
  all_one : (x : A) → P x → All P (x ∷ [])
  all_one x p zero d low = p
  all_one x p (suc k) d low = absurd (omega arith)

  get_last : (v : List A) (x d : A) → get_or (v ++ x ∷ []) (length v) d ≡ x
  get_last [] x d = refl
  get_last (y ∷ v) x d = get_last v x d

  get_front : (v : List A) (x d : A) (k : ℕ) → k < length v → get_or (v ++ x ∷ []) k d ≡ get_or v k d
  get_front [] x d k low = absurd (omega arith)
  get_front (y ∷ v) x d zero low = refl
  get_front (y ∷ v) x d (suc k) low = get_front v x d k (omega arith)

  -- of a list that is another and one more
  pub all_last : (list v : List A) (x : A) → list ≡ v ++ x ∷ [] → All P list → P x
  all_last list v x e a =
      let n = length-append v (x ∷ []) in
      subst P (get_last v x x) (subst (λ (l : List A). All P l) e a (length v) x (omega arith))

  pub all_front : (list v : List A) (x : A) → list ≡ v ++ x ∷ [] → All P list → All P v
  all_front list v x e a k d low =
      let n = length-append v (x ∷ []) in
      subst P (get_front v x d k low) (subst (λ (l : List A). All P l) e a k d (omega arith))

  pub all_pushed : (list v : List A) (x : A) → list ≡ v ++ x ∷ [] → All P v → P x → All P list
  all_pushed list v x e a p = subst (λ (l : List A). All P l) (sym e) (All-append P v (x ∷ []) a (all_one x p))

-- one less, or one more
pub length_snoc : {A : Type 0} (list v : List A) (x : A) → list ≡ v ++ x ∷ [] → length list ≡ length v + 1
length_snoc list v x e = ap (λ (l : List _). length l) e ∙ length-append v (x ∷ [])

-- ---- those that are to have seats

pub fresh_last : (key : Begun) (ls v : List Local) (l : Local) → ls ≡ v ++ l ∷ [] → AreFresh key ls → IsFresh key (length v) l
fresh_last key ls v l e f = f (length v) l (ap (λ (t : List Local). get_elem? t (length v)) e ∙ at_last v l (length v) refl)

pub fresh_front : (key : Begun) (ls v : List Local) (l : Local) → ls ≡ v ++ l ∷ [] → AreFresh key ls → AreFresh key v
fresh_front key ls v l e f k y at = f k y (ap (λ (t : List Local). get_elem? t k) e ∙ at_longer v (l ∷ []) k y at)

pub view-snoc : (v : List Local) (l : Local) → view_of (v ++ l ∷ []) ≡ view_of v ++ one_way (standing_first l) ∷ []
view-snoc [] l = refl
view-snoc (k ∷ v) l = ap (λ (t : List Fork). one_way (standing_first k) ∷ t) (view-snoc v l)

-- how those begin that are one more: the last one stands before the others
first-snoc : (table : TableId) (v : List Local) (l : Local) → seated_first table (v ++ l ∷ []) ≡ (table, standing_first l) ∷ seated_first table v
first-snoc table v l =
    ap (λ (t : List (TableId × Standing)). reverse t) (map-append (λ (k : Local). (table, standing_first k)) v (l ∷ []))
    ∙ reverse-append (map (λ (k : Local). (table, standing_first k)) v) ((table, standing_first l) ∷ [])

-- the last one of those without a seat gets one, behind those that have one
pub seated_next : (table : TableId) (list more : List (TableId × Standing)) (ls v : List Local) (w : TableId × Standing) (l : Local) → more ≡ list ++ w ∷ [] → ls ≡ v ++ l ∷ [] → w ≡ (table, standing_first l)
    → more ++ seated_first table v ≡ list ++ seated_first table ls
seated_next table list more ls v w l pushed popped stands =
    ap (λ (t : List (TableId × Standing)). t ++ seated_first table v) pushed ∙ append_assoc list (w ∷ []) (seated_first table v)
    ∙ ap (λ (t : TableId × Standing). list ++ t ∷ seated_first table v) stands
    ∙ ap (λ (t : List (TableId × Standing)). list ++ t) (sym (ap (λ (t : List Local). seated_first table t) popped ∙ first-snoc table v l))

-- ---- numbers that fall

numbers-snoc : (v : List (TableId × Standing)) (w : TableId × Standing) (after : List ℕ) → map worker_in (v ++ w ∷ []) ++ after ≡ map worker_in v ++ worker_in w ∷ after
numbers-snoc [] w after = refl
numbers-snoc (x ∷ v) w after = ap (λ (t : List ℕ). worker_in x ∷ t) (numbers-snoc v w after)

-- what a list of them ends with
countdown_end : (n : ℕ) (xs ys : List ℕ) → xs ++ ys ≡ countdown n → ys ≡ countdown (length ys)
countdown_end n [] ys e = subst (λ (k : ℕ). ys ≡ countdown k) (sym (ap (λ (l : List ℕ). length l) e ∙ countdown_length n)) e
  where
    countdown_length : (m : ℕ) → length (countdown m) ≡ m
    countdown_length zero = refl
    countdown_length (suc m) = let e = countdown_length m in omega arith
countdown_end zero (x ∷ xs) ys e = absurd (cc)
countdown_end (suc n) (x ∷ xs) ys e = countdown_end n xs ys (cc)

countdown_count : (m : ℕ) → length (countdown m) ≡ m
countdown_count zero = refl
countdown_count (suc m) = let e = countdown_count m in omega arith

-- one more has its seat
pub numbers_seated : (n whole left : ℕ) (list v : List (TableId × Standing)) (w : TableId × Standing) → whole ≡ left + 1 → list ≡ v ++ w ∷ [] → worker_in w ≡ left → map worker_in v ++ countdown whole ≡ countdown n
    → map worker_in list ++ countdown left ≡ countdown n
numbers_seated n whole left list v w more e number is =
    let one : whole ≡ suc left = omega arith in
    ap (λ (l : List (TableId × Standing)). map worker_in l ++ countdown left) e ∙ numbers-snoc v w (countdown left) ∙ ap (λ (k : ℕ). map worker_in v ++ k ∷ countdown left) number
    ∙ ap (λ (k : ℕ). map worker_in v ++ countdown k) (sym one) ∙ is

-- the next that comes back has the next number
pub number_back : (n whole back : ℕ) (list v : List (TableId × Standing)) (w : TableId × Standing) → whole ≡ back + 1 → list ≡ v ++ w ∷ [] → map worker_in list ++ countdown back ≡ countdown n
    → (worker_in w ≡ back) × (map worker_in v ++ countdown whole ≡ countdown n)
number_back n whole back list v w more e is =
    let one : whole ≡ suc back = omega arith in
    let all : map worker_in v ++ worker_in w ∷ countdown back ≡ countdown n = sym (ap (λ (l : List (TableId × Standing)). map worker_in l ++ countdown back) e ∙ numbers-snoc v w (countdown back)) ∙ is in
    let count : length (worker_in w ∷ countdown back) ≡ suc back = let c = countdown_count back in omega arith in
    let end : worker_in w ∷ countdown back ≡ countdown (suc back) = countdown_end n (map worker_in v) (worker_in w ∷ countdown back) all ∙ ap (λ (k : ℕ). countdown k) count in
    let number : worker_in w ≡ back = cc in
    (number, ap (λ (k : ℕ). map worker_in v ++ countdown k) one ∙ ap (λ (t : List ℕ). map worker_in v ++ t) (sym end) ∙ all)
