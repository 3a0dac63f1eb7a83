-- The numbers that events name, and the places of their rooms.
use Rattle.std.proofs.Common.{◌≡◌, ℕ, suc, ◌<◌, Bool, true, false, ◌||◌, cond, List, [], ◌∷◌, ◌++◌, length, map, refl, sym, ◌∙◌, ap, subst, arith, eqb, All, if◌then◌else◌}
use Rattle.std.proofs.lemmas.Bool.{false≢true}
use Rattle.std.proofs.lemmas.Bool.Decides.{nat_tests}
use Rattle.std.specs.List.{list_any}
use Rattle.std.proofs.lemmas.List.Elements.{All-head, All-push, All-tail}
use Rattle.indexmap.specs.IndexSet.{insert_all, insert_key}
use Rattle.slub_core.specs.declared.local.Known.{Known}
use Rattle.slub_core.specs.Accounted.{place_of, AreDistinct}
use Rattle.slub_calls.specs.Calls.{room_for}

abbrev pub rooms : List ℕ → List Known
rooms ks = map room_for ks

-- ---- one number more

-- a number that isn't there and isn't the new one has no place then
far_push : (ks : List ℕ) (k x : ℕ) → eqb x k ≡ false → place_of (rooms ks) k ≡ length (rooms ks) → place_of (rooms (ks ++ x ∷ [])) k ≡ length (rooms (ks ++ x ∷ []))
far_push [] k x other far = ap (λ b. cond b 0 1) other
far_push (y ∷ ys) k x other far = by (eqb y k) refl (far_push ys k x other)
  where
    by : (b : Bool) → eqb y k ≡ b → (place_of (rooms ys) k ≡ length (rooms ys) → place_of (rooms (ys ++ x ∷ [])) k ≡ length (rooms (ys ++ x ∷ [])))
        → place_of (rooms (y ∷ ys ++ x ∷ [])) k ≡ length (rooms (y ∷ ys ++ x ∷ []))
    by true is more = absurd (let zero_is : 0 ≡ suc (length (rooms ys)) = sym (ap (λ b. cond b 0 (suc (place_of (rooms ys) k))) is) ∙ far in let never : ⊥ = omega (arith, zero_is) in never)
    by false is more =
        let on : suc (place_of (rooms ys) k) ≡ suc (length (rooms ys)) = sym (ap (λ b. cond b 0 (suc (place_of (rooms ys) k))) is) ∙ far in
        let rest = more (omega (arith, on)) in
        ap (λ b. cond b 0 (suc (place_of (rooms (ys ++ x ∷ [])) k))) is ∙ ap suc rest

-- each number is at one place still
distinct_push : (ks : List ℕ) (x : ℕ) → list_any (eqb x) ks ≡ false → AreDistinct (rooms ks) → AreDistinct (rooms (ks ++ x ∷ []))
distinct_push [] x new distinct = (refl, tt)
distinct_push (y ∷ ys) x new distinct = by (eqb x y) refl (λ others. distinct_push ys x others distinct.1)
  where
    by : (b : Bool) → eqb x y ≡ b → (list_any (eqb x) ys ≡ false → AreDistinct (rooms (ys ++ x ∷ []))) → AreDistinct (rooms (y ∷ ys ++ x ∷ []))
    by true is more = absurd (false≢true (sym (sym (ap (λ b. b || list_any (eqb x) ys) is) ∙ new)))
    by false is more = (far_push ys y x is distinct.0, more (sym (ap (λ b. b || list_any (eqb x) ys) is) ∙ new))

distinct_key : (ks : List ℕ) (x : ℕ) → AreDistinct (rooms ks) → AreDistinct (rooms (insert_key eqb ks x))
distinct_key ks x distinct = by (list_any (eqb x) ks) refl
  where
    by : (b : Bool) → list_any (eqb x) ks ≡ b → AreDistinct (rooms (if b then ks else ks ++ x ∷ []))
    by true is = distinct
    by false is = distinct_push ks x is distinct

pub distinct_all : (xs ks : List ℕ) → AreDistinct (rooms ks) → AreDistinct (rooms (insert_all eqb ks xs))
distinct_all [] ks distinct = distinct
distinct_all (x ∷ xs) ks distinct = distinct_all xs (insert_key eqb ks x) (distinct_key ks x distinct)

-- ---- what is there has a place

any_push : (ks : List ℕ) (o x : ℕ) → list_any (eqb o) (ks ++ x ∷ []) ≡ (list_any (eqb o) ks || eqb o x)
any_push [] o x = by (eqb o x)
  where
    by : (b : Bool) → (b || false) ≡ (false || b)
    by true = refl
    by false = refl
any_push (y ∷ ys) o x = ap (λ b. eqb o y || b) (any_push ys o x) ∙ by (eqb o y)
  where
    by : (b : Bool) → (b || (list_any (eqb o) ys || eqb o x)) ≡ ((b || list_any (eqb o) ys) || eqb o x)
    by true = refl
    by false = refl

stays_key : (ks : List ℕ) (o x : ℕ) → list_any (eqb o) ks ≡ true → list_any (eqb o) (insert_key eqb ks x) ≡ true
stays_key ks o x there = by (list_any (eqb x) ks)
  where
    by : (b : Bool) → list_any (eqb o) (if b then ks else ks ++ x ∷ []) ≡ true
    by true = there
    by false = any_push ks o x ∙ ap (λ b. b || eqb o x) there

pub same_number : (o : ℕ) → eqb o o ≡ true
same_number o = grind (arith, nat_tests)

comes_key : (ks : List ℕ) (o : ℕ) → list_any (eqb o) (insert_key eqb ks o) ≡ true
comes_key ks o = by (list_any (eqb o) ks) refl
  where
    last : (b : Bool) → (b || true) ≡ true
    last true = refl
    last false = refl

    by : (b : Bool) → list_any (eqb o) ks ≡ b → list_any (eqb o) (if b then ks else ks ++ o ∷ []) ≡ true
    by true is = is
    by false is = any_push ks o o ∙ ap (λ b. list_any (eqb o) ks || b) (same_number o) ∙ last (list_any (eqb o) ks)

pub stays_all : (xs ks : List ℕ) (o : ℕ) → list_any (eqb o) ks ≡ true → list_any (eqb o) (insert_all eqb ks xs) ≡ true
stays_all [] ks o there = there
stays_all (x ∷ xs) ks o there = stays_all xs (insert_key eqb ks x) o (stays_key ks o x there)

pub comes_all : (xs ks : List ℕ) (o : ℕ) → list_any (eqb o) xs ≡ true → list_any (eqb o) (insert_all eqb ks xs) ≡ true
comes_all [] ks o there = absurd (false≢true there)
comes_all (x ∷ xs) ks o there = by (eqb o x) refl (comes_all xs (insert_key eqb ks x) o)
  where
    by : (b : Bool) → eqb o x ≡ b → (list_any (eqb o) xs ≡ true → list_any (eqb o) (insert_all eqb (insert_key eqb ks x) xs) ≡ true) → list_any (eqb o) (insert_all eqb (insert_key eqb ks x) xs) ≡ true
    by true is more =
        let same : o ≡ x = grind (arith, nat_tests, is) in
        stays_all xs (insert_key eqb ks x) o (subst (λ k. list_any (eqb k) (insert_key eqb ks x) ≡ true) (sym same) (comes_key ks x))
    by false is more = more (sym (ap (λ b. b || list_any (eqb o) xs) is) ∙ there)

pub place_inside : (ks : List ℕ) (o : ℕ) → list_any (eqb o) ks ≡ true → place_of (rooms ks) o < length (rooms ks)
place_inside [] o there = absurd (false≢true there)
place_inside (y ∷ ys) o there = by (eqb y o) refl (place_inside ys o)
  where
    by : (b : Bool) → eqb y o ≡ b → (list_any (eqb o) ys ≡ true → place_of (rooms ys) o < length (rooms ys)) → place_of (rooms (y ∷ ys)) o < length (rooms (y ∷ ys))
    by true is more = subst (λ b. cond b 0 (suc (place_of (rooms ys) o)) < suc (length (rooms ys))) (sym is) (omega arith)
    by false is more =
        let not_it : eqb o y ≡ false = grind (arith, nat_tests, is) in
        let rest = more (sym (ap (λ b. b || list_any (eqb o) ys) not_it) ∙ there) in
        subst (λ b. cond b 0 (suc (place_of (rooms ys) o)) < suc (length (rooms ys))) (sym is) (omega (arith, rest))

-- ---- what holds of each

pub each_key : (P : ℕ → Type 0) (ks : List ℕ) (x : ℕ) → All P ks → P x → All P (insert_key eqb ks x)
each_key P ks x all is = by (list_any (eqb x) ks)
  where
    by : (b : Bool) → All P (if b then ks else ks ++ x ∷ [])
    by true = all
    by false = All-push P ks x all is

pub each_all : (P : ℕ → Type 0) (xs ks : List ℕ) → All P ks → All P xs → All P (insert_all eqb ks xs)
each_all P [] ks all more = all
each_all P (x ∷ xs) ks all more = each_all P xs (insert_key eqb ks x) (each_key P ks x all (All-head P x xs more)) (All-tail P x xs more)
