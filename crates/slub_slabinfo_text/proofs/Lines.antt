-- Lemmas on lines and numbers in columns.
use Rattle.std.proofs.Common.{◌≡◌, ℕ, ◌≤◌, List, [], ◌∷◌, ◌++◌, length, refl, append_assoc, arith}
use Rattle.std.specs.Prelude.{codes}
use Rattle.std.specs.Fmt.{digits}
use Rattle.slub_object_layout.specs.Name.{IsName}
use Rattle.slub_slabinfo_text.specs.Texts.{column}

-- a name has at most 31 bytes
pub name_is_short : (name : List ℕ) → IsName name → length name ≤ 31
name_is_short [] is = absurd is
name_is_short (c ∷ cs) is = omega (arith, is.2)

-- what stands between the columns is constant
pub tunables : codes " : tunables    0    0    0 : slabdata" ≡ codes " : tunables" ++ column 4 0 ++ column 4 0 ++ column 4 0 ++ codes " : slabdata"
unfolding digits
tunables = refl

-- and so is the last column
pub shared : codes "      0" ++ 10 ∷ [] ≡ column 6 0 ++ 10 ∷ []
unfolding digits
shared = refl

-- objects, a constant of three equal columns, and slabs are written one after the other
pub numbers_joined : (old objects before column behind slabs constant : List ℕ) → constant ≡ before ++ column ++ column ++ column ++ behind
    → ((old ++ objects) ++ constant) ++ slabs ≡ old ++ (objects ++ before ++ column ++ column ++ column ++ behind ++ slabs)
numbers_joined old objects before column behind slabs constant is = rw is (simp append_assoc)

-- two columns and a constant are written one after the other
pub slabs_joined : (old active slabs column end constant : List ℕ) → constant ≡ column ++ end
    → ((old ++ active) ++ slabs) ++ constant ≡ old ++ (active ++ slabs ++ column ++ end)
slabs_joined old active slabs column end constant is = rw is (simp append_assoc)
