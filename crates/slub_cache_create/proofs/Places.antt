-- The places of names among those that differ.
use Rattle.std.proofs.Common.{◌≡◌, ℕ, zero, suc, ◌<◌, ◌≤◌, Bool, true, false, List, [], ◌∷◌, ◌++◌, length, get_or, map, replicate, slice_get, Option, Some, None, refl, ap, sym, ◌∙◌, arith}
use Rattle.std.specs.List.{All, list_any}
use Rattle.std.specs.Str.{bytes_eq}
use Rattle.std.proofs.lemmas.List.{map_push, length_push, get_or_append_left}
use Rattle.std.proofs.lemmas.List.Elements.{All-head, All-tail, All-push, All-weaker}
use Rattle.std.proofs.lemmas.Slice.Eq.{bytes_eq-Decides}
use Rattle.indexmap.specs.IndexSet.{insert_key}

-- each place's name
abbrev pub names_at : List (List ℕ) → List ℕ → List (List ℕ)
names_at keys places = map (λ place. get_or keys place []) places

-- names that stand where they stood
names_at-kept : (keys more : List (List ℕ)) → ((i : ℕ) → i < length keys → get_or more i [] ≡ get_or keys i []) → (places : List ℕ) → All (λ place. place < length keys) places
    → names_at more places ≡ names_at keys places
names_at-kept keys more same [] within = refl
names_at-kept keys more same (p ∷ ps) within =
    let here : get_or more p [] ≡ get_or keys p [] = same p (All-head (λ place. place < length keys) p ps within) in
    let rest = names_at-kept keys more same ps (All-tail (λ place. place < length keys) p ps within) in
    cc

-- a name that is inserted stands at the end, where it is new, and the others where they stood
pub record IsGrown (keys more : List (List ℕ)) : Type 0 where
  pub same : (i : ℕ) → i < length keys → get_or more i [] ≡ get_or keys i []
  pub longer : length keys ≤ length more

pub grown : (keys more : List (List ℕ)) (name : List ℕ) → more ≡ insert_key bytes_eq keys name → IsGrown keys more
grown keys more name is = by (list_any (bytes_eq name) keys) refl
  where
    by : (b : Bool) → list_any (bytes_eq name) keys ≡ b → IsGrown keys more
    by true there = let e : more ≡ keys = rw there at is in record { same = λ i less. ap (λ (xs : List (List ℕ)). get_or xs i []) e; longer = omega (arith, ap length e) }
    by false new = let e : more ≡ keys ++ name ∷ [] = rw new at is in
        record { same = λ i less. ap (λ (xs : List (List ℕ)). get_or xs i []) e ∙ get_or_append_left keys (name ∷ []) [] i less; longer = omega (arith, ap length e, length_push keys name) }

-- the name at a place
got : (xs : List (List ℕ)) (i : ℕ) (k : List ℕ) → slice_get xs i ≡ Some k → get_or xs i [] ≡ k
got [] i k is = absurd cc
got (x ∷ xs) zero k is = cc
got (x ∷ xs) (suc i) k is = got xs i k is

-- one more name has its place
pub one_more : (keys more : List (List ℕ)) (name : List ℕ) (place : ℕ) (places : List ℕ) (front : List (List ℕ))
    → more ≡ insert_key bytes_eq keys name → ((k : List ℕ) × (slice_get more place ≡ Some k) × (bytes_eq name k ≡ true))
    → All (λ p. p < length keys) places → names_at keys places ≡ front
    → names_at more (places ++ place ∷ []) ≡ front ++ name ∷ []
one_more keys more name place places front is stored within names =
    let e = grown keys more name is in
    let before : names_at more places ≡ front = names_at-kept keys more e.same places within ∙ names in
    let here : get_or more place [] ≡ name = got more place stored.0 stored.1 ∙ sym ((bytes_eq-Decides name stored.0).0 stored.2) in
    map_push (λ p. get_or more p []) places place ∙ ap (λ (xs : List (List ℕ)). xs ++ get_or more place [] ∷ []) before ∙ ap (λ (x : List ℕ). front ++ x ∷ []) here

pub within_more : (keys more : List (List ℕ)) (name : List ℕ) (place : ℕ) (places : List ℕ) → more ≡ insert_key bytes_eq keys name → place < length more
    → All (λ p. p < length keys) places → All (λ p. p < length more) (places ++ place ∷ [])
within_more keys more name place places is inside within =
    let e = grown keys more name is in
    All-push (λ p. p < length more) places place (All-weaker (λ p. p < length keys) (λ p. p < length more) (λ p less. omega (arith, less, e.longer)) places within) inside

-- no name is live
pub none_named : (f : List ℕ → Option ℕ) (keys : List (List ℕ)) → ((q : List ℕ) → f q ≡ None) → replicate (length keys) None ≡ map f keys
none_named f [] never = refl
none_named f (k ∷ ks) never = let here = never k in let rest = none_named f ks never in cc
