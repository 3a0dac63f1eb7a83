-- Lemmas on what a loop has reached.
use Rattle.std.proofs.Common.{◌≡◌, ℕ, ◌+◌, ◌<◌, ◌≤◌, List, [], ◌∷◌, ◌++◌, Bool, Some, None, refl, sym, ap, ◌∙◌, arith, length, take, take_all, get_or}
use Rattle.std.specs.Prelude.{Option, reverse, sum_by, if◌then◌else◌}
use Rattle.std.specs.List.{zip, cons_option, filter_map}
use Rattle.std.proofs.lemmas.List.Elements.{filter_map-append}
use Rattle.std.proofs.lemmas.List.{reverse-append, take_more}
use Rattle.std.proofs.lemmas.List.Sums.{sum_by_more}
use Rattle.std.proofs.lemmas.Slice.Zip.{length-zip, get_or-zip}
use Rattle.slub_lists.specs.declared.lists.Slab.{Slab}
use Rattle.slub_lists.specs.Shrink.{is_slab_of}
use Rattle.slub_slabinfo_text.specs.Counts.{free_in}

-- what is made of the next item comes after the others
pub made_next : {Y : Type 0} (h : ℕ → Option Y) (xs : List ℕ) (at x : ℕ) (made : List Y) (y : Y) → at < length xs → get_or xs at 0 ≡ x → h x ≡ Some y → made ≡ filter_map h (take at xs)
    → made ++ y ∷ [] ≡ filter_map h (take (at + 1) xs)
made_next h xs at x made y within here is so_far =
    let one : filter_map h (x ∷ []) ≡ y ∷ [] = ap (λ o. cons_option o []) is in
    let more = take_more xs at 0 within in
    let joined = filter_map-append h (take at xs) (x ∷ []) in
    sym (ap (filter_map h) (more ∙ ap (λ (y : ℕ). take at xs ++ y ∷ []) here) ∙ joined ∙ ap (λ l. filter_map h (take at xs) ++ l) one ∙ ap (λ l. l ++ y ∷ []) (sym so_far))

-- the next slab's freelist is added where it is one of the cache
pub slab_next : (cache : ℕ) (slabs : List (Option Slab)) (frees : List (List ℕ)) (frame count : ℕ) (d : Option Slab) (t : Bool)
    → frame < length slabs → length frees ≡ length slabs → t ≡ is_slab_of cache (get_or slabs frame d) → count ≡ sum_by (free_in cache) (take frame (zip slabs frees))
    → count + (if t then length (get_or frees frame []) else 0) ≡ sum_by (free_in cache) (take (frame + 1) (zip slabs frees))
slab_next cache slabs frees frame count d t within long test is =
    let more = sum_by_more (free_in cache) (zip slabs frees) frame (d, []) (omega (arith, length-zip slabs frees)) in
    let item = ap (free_in cache) (get_or-zip slabs frees frame (d, []) within (omega arith)) in
    let share = ap (λ b. if b then length (get_or frees frame []) else 0) test in
    omega (arith, more, item, share, is)

-- all slabs were seen
pub slabs_end : (cache : ℕ) (slabs : List (Option Slab)) (frees : List (List ℕ)) (frame : ℕ) → length slabs ≤ frame → sum_by (free_in cache) (take frame (zip slabs frees)) ≡ sum_by (free_in cache) (zip slabs frees)
slabs_end cache slabs frees frame past = ap (sum_by (free_in cache)) (take_all frame (zip slabs frees) (omega (arith, length-zip slabs frees)))

one_reverse : {Y : Type 0} (o : Option Y) → reverse (cons_option o []) ≡ cons_option o []
one_reverse None = refl
one_reverse (Some y) = refl

-- what is made of a list that is turned round
pub made_reverse : {Y : Type 0} (h : ℕ → Option Y) (xs : List ℕ) → reverse (filter_map h xs) ≡ filter_map h (reverse xs)
made_reverse h [] = refl
made_reverse h (x ∷ xs) =
    let tail = made_reverse h xs in
    let front = filter_map-append h (x ∷ []) xs in
    let back = filter_map-append h (reverse xs) (x ∷ []) in
    ap reverse front ∙ reverse-append (filter_map h (x ∷ [])) (filter_map h xs) ∙ ap (λ l. l ++ reverse (filter_map h (x ∷ []))) tail ∙ ap (λ l. filter_map h (reverse xs) ++ l) (one_reverse (h x)) ∙ sym back ∙ sym (ap (filter_map h) (reverse-append (x ∷ []) xs))
