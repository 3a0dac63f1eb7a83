-- Lemmas on the numbers of kept objects.
use Rattle.std.proofs.Common.{◌≡◌, ℕ, zero, suc, ◌+◌, ◌<◌, ◌≤◌, List, [], ◌∷◌, ◌++◌, length, take, get_or, refl, sym, ap, ◌∙◌, Option, None, Some, arith}
use Rattle.std.proofs.lemmas.List.{take_more}
use Rattle.std.proofs.lemmas.List.Elements.{filter_map-append}
use Rattle.std.proofs.lemmas.List.Sums.{length-filter}
use Rattle.std.specs.Prelude.{count_by, filter, filter_map, is_some}
use Rattle.slub_recorded.specs.declared.pairing.Move.{Move}
use Rattle.slub_recorded.specs.declared.turns.Kept.{Kept}
use Rattle.slub_recorded.specs.declared.turns.Turn.{Turn}
use Rattle.slub_recorded.specs.Turns.{count_kept, numbered, turn_of, turns_of}

-- one object more
pub numbered_more : (count : ℕ) (places : List (Option ℕ)) (place : Option ℕ)
    → numbered count (places ++ place ∷ []) ≡ numbered count places ++ numbered (count + count_kept places) (place ∷ [])
numbered_more count [] place = ap (λ n. numbered n (place ∷ [])) (let same : count ≡ count + 0 = omega arith in same)
numbered_more count (None ∷ places) place = ap (λ ks. None ∷ ks) (numbered_more count places place)
numbered_more count (Some p ∷ places) place =
    let here : Option Kept = Some (record { place = p; number = count + 1 }) in
    let same : count + 1 + count_kept places ≡ count + (count_kept places + 1) = omega arith in
    ap (λ ks. here ∷ ks) (numbered_more (count + 1) places place ∙ ap (λ n. numbered (count + 1) places ++ numbered n (place ∷ [])) same)

pub count_more : (places : List (Option ℕ)) (place : Option ℕ) → count_kept (places ++ place ∷ []) ≡ count_kept places + count_kept (place ∷ [])
count_more [] place = let same : count_kept (place ∷ []) ≡ 0 + count_kept (place ∷ []) = omega arith in same
count_more (None ∷ places) place = count_more places place
count_more (Some p ∷ places) place = let more = count_more places place in omega (arith, more)

-- no more are kept among the first than among all
pub count_front : (places : List (Option ℕ)) (n : ℕ) → count_kept (take n places) ≤ count_kept places
count_front [] zero = omega arith
count_front [] (suc n) = omega arith
count_front (place ∷ places) zero = omega arith
count_front (None ∷ places) (suc n) = count_front places n
count_front (Some p ∷ places) (suc n) = let few = count_front places n in omega (arith, few)

some_kept : (places : List (Option ℕ)) → length (filter is_some places) ≡ count_kept places
some_kept [] = refl
some_kept (None ∷ places) = some_kept places
some_kept (Some p ∷ places) = let more = some_kept places in omega (arith, more)

pub count_some : (places : List (Option ℕ)) → count_by is_some places ≡ count_kept places
count_some places = sym (length-filter is_some places) ∙ some_kept places

-- a loop over objects numbers them
pub pushed : (places : List (Option ℕ)) (i n : ℕ) (old new : List (Option Kept)) (k : Option Kept) → i < length places → old ≡ numbered 0 (take i places)
    → n ≡ count_kept (take i places) → numbered n (get_or places i None ∷ []) ≡ k ∷ [] → new ≡ old ++ k ∷ [] → new ≡ numbered 0 (take (i + 1) places)
pushed places i n old new k low is count one push =
    let more : take (i + 1) places ≡ take i places ++ get_or places i None ∷ [] = take_more places i None low in
    let same : 0 + count_kept (take i places) ≡ n = omega (arith, count) in
    push ∙ ap (λ xs. xs ++ k ∷ []) is ∙ ap (λ ks. numbered 0 (take i places) ++ ks) (sym one)
    ∙ ap (λ c. numbered 0 (take i places) ++ numbered c (get_or places i None ∷ [])) (sym same)
    ∙ sym (numbered_more 0 (take i places) (get_or places i None)) ∙ ap (numbered 0) (sym more)

pub counted : (places : List (Option ℕ)) (i n m : ℕ) → i < length places → n ≡ count_kept (take i places)
    → m ≡ n + count_kept (get_or places i None ∷ []) → m ≡ count_kept (take (i + 1) places)
counted places i n m low count one =
    let more : take (i + 1) places ≡ take i places ++ get_or places i None ∷ [] = take_more places i None low in
    one ∙ ap (λ c. c + count_kept (get_or places i None ∷ [])) count ∙ sym (count_more (take i places) (get_or places i None)) ∙ ap count_kept (sym more)

-- a loop over moves takes their turns
pub moved : (places : List (Option ℕ)) (cpus : ℕ) (moves : List Move) (i : ℕ) (kept : List (Option Kept)) (old new : List Turn) (d : Move) → i < length moves
    → kept ≡ numbered 0 places → old ≡ turns_of places cpus (take i moves) → new ≡ old ++ filter_map (turn_of kept cpus) (get_or moves i d ∷ [])
    → new ≡ turns_of places cpus (take (i + 1) moves)
moved places cpus moves i kept old new d low same is push =
    push ∙ ap (λ xs. xs ++ filter_map (turn_of kept cpus) (get_or moves i d ∷ [])) is
    ∙ ap (λ ks. turns_of places cpus (take i moves) ++ filter_map (turn_of ks cpus) (get_or moves i d ∷ [])) same
    ∙ sym (filter_map-append (turn_of (numbered 0 places) cpus) (take i moves) (get_or moves i d ∷ []))
    ∙ ap (filter_map (turn_of (numbered 0 places) cpus)) (sym (take_more moves i d low))
