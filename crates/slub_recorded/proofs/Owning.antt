-- The name that an object has of its own is that of its own free.
use Rattle.std.proofs.Common.{◌≡◌, ◌≢◌, ℕ, zero, suc, Bool, true, false, ◌&&◌, List, [], ◌∷◌, map, refl, ap, subst, ◌∙◌, Option, None, Some, nat_eq}
use Rattle.std.specs.Prelude.{fold, if◌then◌else◌, option_map, slice_get, slice_index_or, slice_set}
use Rattle.std.specs.Option.{option_or}
use Rattle.std.proofs.lemmas.Bool.{eqb-true, eqb-false}
use Rattle.slub_recorded.specs.declared.naming.Known.{Known}
use Rattle.slub_recorded.specs.declared.pairing.Born.{Born}
use Rattle.slub_recorded.specs.declared.pairing.Move.{Move}
use Rattle.slub_recorded.specs.declared.pairing.Move.TheVariants as move
use Rattle.slub_recorded.specs.Naming.{is_slot, known_objects, known_of, last_own, own_after, told_own, unnamed, with_own}

set_same : (xs : List Known) (i : ℕ) (x y : Known) → slice_get xs i ≡ Some x → slice_get (slice_set xs i y) i ≡ Some y
set_same [] i x y is = absurd cc
set_same (z ∷ xs) zero x y is = refl
set_same (z ∷ xs) (suc i) x y is = set_same xs i x y is

set_other : (xs : List Known) (i j : ℕ) (y : Known) → j ≢ i → slice_get (slice_set xs i y) j ≡ slice_get xs j
set_other [] i j y ne = refl
set_other (z ∷ xs) zero zero y ne = absurd (ne refl)
set_other (z ∷ xs) zero (suc j) y ne = refl
set_other (z ∷ xs) (suc i) zero y ne = refl
set_other (z ∷ xs) (suc i) (suc j) y ne = set_other xs i j y (λ e. ne (ap suc e))

-- an object with the first of these names, where it has one, else with its own
owned : Known → Option ℕ → Known
owned one name = record one { own = option_or name one.own }

here_by : (slots : List (Option ℕ)) (known : List Known) (o name : ℕ) (one : Known) → slice_get known o ≡ Some one → (c : Bool)
    → slice_get (if c then slice_set known o (record one { own = Some name }) else known) o ≡ Some (owned one (if c then Some name else None))
unfolding owned
here_by slots known o name one is true = set_same known o one (record one { own = Some name }) is
here_by slots known o name one is false = is

there_by : (known : List Known) (o other : ℕ) (y : Known) → nat_eq o other ≡ false → (c : Bool) → slice_get (if c then slice_set known other y else known) o ≡ slice_get known o
there_by known o other y ne true = set_other known other o y (eqb-false o other ne)
there_by known o other y ne false = refl

there : (slots : List (Option ℕ)) (known : List Known) (o other name : ℕ) (g : Option Known) → nat_eq o other ≡ false → slice_get (with_own slots known other name g) o ≡ slice_get known o
there slots known o other name None ne = refl
there slots known o other name (Some two) ne = there_by known o other (record two { own = Some name }) ne (is_slot (slice_index_or slots name None) two.born.slot)

free_by : (slots : List (Option ℕ)) (known : List Known) (o other name : ℕ) (one : Known) → slice_get known o ≡ Some one → (b : Bool) → nat_eq o other ≡ b
    → slice_get (with_own slots known other name (slice_get known other)) o ≡ Some (owned one (if b && is_slot (slice_index_or slots name None) one.born.slot then Some name else None))
unfolding owned
free_by slots known o other name one is true same =
    let P : ℕ → Type 0 = λ k. slice_get (with_own slots known k name (slice_get known k)) o ≡ Some (owned one (if is_slot (slice_index_or slots name None) one.born.slot then Some name else None)) in
    subst P (eqb-true o other same)
    (ap (λ g. slice_get (with_own slots known o name g) o) is ∙ here_by slots known o name one is (is_slot (slice_index_or slots name None) one.born.slot))
free_by slots known o other name one is false ne = there slots known o other name (slice_get known other) ne ∙ is

step_at : (slots : List (Option ℕ)) (known : List Known) (m : Move) (o : ℕ) (one : Known) → slice_get known o ≡ Some one
    → slice_get (own_after slots known m) o ≡ Some (owned one (told_own slots o one.born.slot m))
unfolding owned
step_at slots known (move.Alloc cpu other) o one is = is
step_at slots known (move.Free cpu other None) o one is = is
step_at slots known (move.Free cpu other (Some name)) o one is = free_by slots known o other name one is (nat_eq o other) refl

or_or : (o p q : Option ℕ) → option_or o (option_or p q) ≡ option_or (option_or o p) q
or_or None p q = refl
or_or (Some x) p q = refl

all_at : (slots : List (Option ℕ)) (moves : List Move) (known : List Known) (o : ℕ) (one : Known) → slice_get known o ≡ Some one
    → slice_get (fold (own_after slots) known moves) o ≡ Some (owned one (last_own slots o one.born.slot moves))
unfolding owned
all_at slots [] known o one is = is
all_at slots (m ∷ moves) known o one is =
    all_at slots moves (own_after slots known m) o (owned one (told_own slots o one.born.slot m)) (step_at slots known m o one is)
    ∙ ap (λ (n : Option ℕ). Some (record one { own = n })) (or_or (last_own slots o one.born.slot moves) (told_own slots o one.born.slot m) one.own)

or_none : (o : Option ℕ) → option_or o None ≡ o
or_none None = refl
or_none (Some x) = refl

first_at : (objects : List Born) (o : ℕ) → slice_get (map unnamed objects) o ≡ option_map unnamed (slice_get objects o)
first_at [] o = refl
first_at (b ∷ objects) zero = refl
first_at (b ∷ objects) (suc o) = first_at objects o

pub owns_are : (slots : List (Option ℕ)) (objects : List Born) (moves : List Move) (o : ℕ) (born : Born) → slice_get objects o ≡ Some born
    → slice_get (known_objects slots objects moves) o ≡ Some (known_of slots moves o born)
unfolding owned
owns_are slots objects moves o born is =
    all_at slots moves (map unnamed objects) o (unnamed born) (first_at objects o ∙ ap (option_map unnamed) is)
    ∙ ap (λ (n : Option ℕ). Some (record { born = born; own = n })) (or_none (last_own slots o born.slot moves))
