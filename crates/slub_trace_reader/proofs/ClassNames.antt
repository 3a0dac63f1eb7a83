-- The names of a kmalloc line's caches.
use Rattle.std.proofs.Common.{◌≡◌, ℕ, zero, suc, ◌+◌, ◌<◌, ◌≤◌, true, List, [], ◌∷◌, ◌++◌, length, get_or, take, refl, arith, length-append, All}
use Rattle.std.specs.List.{list_all, list_any}
use Rattle.std.specs.Str.{bytes_eq}
use Rattle.std.proofs.lemmas.Bool.{and_parts, cond_both}
use Rattle.std.proofs.lemmas.List.Elements.{All-cons, All-nil}
use Rattle.slub_object_layout.specs.Name.{IsName}
use Rattle.slub_trace_reader.specs.declared.client.ClientLine.{ClientLine}
use Rattle.slub_trace_reader.specs.declared.client.ClientLine.TheVariants.{Kmalloc, Kget, Krealloc, Bulk, Bulkfree, Mempool, Mget, Mput}
use Rattle.slub_trace_reader.specs.Above.{names_below, with_name, with_names}
use Rattle.slub_trace.specs.Classes.{class_names}
use Rattle.slub_trace.specs.Names.{is_name}
use Rattle.slub_trace.proofs.Names.{name_tells}

all_names : (names : List (List ℕ)) → list_all is_name names ≡ true → All IsName names
all_names [] is = All-nil IsName
all_names (name ∷ names) is =
    let parts = and_parts (is_name name) (list_all is_name names) is in
    All-cons IsName name names ((name_tells name).0 parts.0) (all_names names parts.1)

-- they are thirteen names
pub are_class_names : (length class_names ≡ 13) × All IsName class_names
unfolding class_names
are_class_names = (refl, all_names class_names refl)

-- no name more
pub names_none : (names : List (List ℕ)) → with_names names [] ≡ names
unfolding with_names
names_none names = refl

-- one name more
pub names_then : (names more : List (List ℕ)) (n : ℕ) → n < length more → with_names names (take (n + 1) more) ≡ with_name (with_names names (take n more)) (get_or more n [])
unfolding with_names
names_then names [] n low = absurd (let never : ⊥ = omega arith in never)
names_then names (name ∷ more) zero low = refl
names_then names (name ∷ more) (suc n) low = (let e : suc n + 1 ≡ suc (n + 1) = omega arith in rw e (names_then (with_name names name) more n (omega arith)))

-- some names more are so many more at most
names_long : (names more : List (List ℕ)) → length (with_names names more) ≤ length names + length more
unfolding with_names
names_long names [] = omega arith
names_long names (name ∷ more) =
    let one : length (with_name names name) ≤ length names + 1 =
    cond_both (list_any (bytes_eq name) names) names (names ++ name ∷ []) (λ ns. length ns ≤ length names + 1) (λ _. omega arith) (λ _. omega (arith, length-append names (name ∷ []))) in
    omega (arith, one, names_long (with_name names name) more)

-- a client's line brings thirteen names at most
pub few_names : (names : List (List ℕ)) (line : ClientLine) → length (names_below names line) ≤ length names + 13
few_names names Kmalloc = (let long = are_class_names.0 in omega (arith, names_long names class_names, long))
few_names names (Kget cpu size object) = omega arith
few_names names (Krealloc cpu object size fresh) = omega arith
few_names names (Bulk cpu name first count) = omega arith
few_names names (Bulkfree cpu first count) = omega arith
few_names names (Mempool pool name min first) = omega arith
few_names names (Mget cpu pool object) = omega arith
few_names names (Mput cpu pool object) = omega arith
