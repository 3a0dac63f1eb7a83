-- Writing objects behind one another.
use Rattle.std.proofs.Common.{◌≡◌, ℕ, suc, ◌+◌, ◌<◌, ◌≤◌, Bool, true, false, cond, eqb, List, [], ◌∷◌, ◌++◌, length, take, drop, get_or, set, flat_map, refl, sym, ◌∙◌, ap, subst, append_assoc, arith}
use Rattle.std.specs.List.{list_any}
use Rattle.std.proofs.Math.Seq.{set-append_seam, take-append_seam, drop-append-add}
use Rattle.std.proofs.lemmas.List.{append-nil, drop-drop, drop_all, drop_more, length-append, length-take, map-append, take-append-drop, take_all, take_more}
use Rattle.std.proofs.lemmas.Grind.{flat_map-append}
use Rattle.slub_slabinfo_text.specs.Bulk.{free_order, objects_of_slab, slabs_among}
use Rattle.slub_bulk.specs.declared.order.ObjectAt.{ObjectAt}
use Rattle.slub_bulk.specs.Places.{places_of}
use Rattle.slub_bulk.proofs.Counting.{marks_once, objects_more, objects_within, slabs_more, total_whole, total_within}

-- ---- a slab's objects

-- one more object
pub places_more : (places : List ObjectAt) (i : ℕ) (place : ObjectAt) → i < length places → place ≡ get_or places i place
    → places_of (take (i + 1) places) ≡ places_of (take i places) ++ (place.object, place.frame) ∷ []
places_more places i place within at =
    ap places_of (take_more places i place within ∙ ap (λ (one : ObjectAt). take i places ++ one ∷ []) (sym at)) ∙ map-append _ (take i places) (place ∷ [])

pub own_more : (places : List ObjectAt) (i : ℕ) (place : ObjectAt) (frame : ℕ) → i < length places → place ≡ get_or places i place → eqb place.frame frame ≡ true
    → objects_of_slab (places_of (take (i + 1) places)) frame ≡ objects_of_slab (places_of (take i places)) frame ++ place.object ∷ []
own_more places i place frame within at own =
    ap (λ some. objects_of_slab some frame) (places_more places i place within at) ∙ objects_more (places_of (take i places)) (place.object, place.frame) frame
    ∙ ap (λ (rest : List ℕ). objects_of_slab (places_of (take i places)) frame ++ rest) (rw own refl)

pub other_more : (places : List ObjectAt) (i : ℕ) (place : ObjectAt) (frame : ℕ) → i < length places → place ≡ get_or places i place → eqb place.frame frame ≡ false
    → objects_of_slab (places_of (take (i + 1) places)) frame ≡ objects_of_slab (places_of (take i places)) frame
other_more places i place frame within at other =
    ap (λ some. objects_of_slab some frame) (places_more places i place within at) ∙ objects_more (places_of (take i places)) (place.object, place.frame) frame
    ∙ ap (λ (rest : List ℕ). objects_of_slab (places_of (take i places)) frame ++ rest) (rw other refl) ∙ append-nil _

-- a front has no more of them than all
pub front_within : (places : List ObjectAt) (i frame : ℕ) → length (objects_of_slab (places_of (take i places)) frame) ≤ length (objects_of_slab (places_of places) frame)
front_within places i frame =
    let whole : places_of (take i places) ++ places_of (drop i places) ≡ places_of places = sym (map-append _ (take i places) (drop i places)) ∙ ap places_of (take-append-drop i places) in
    subst (λ all. length (objects_of_slab (places_of (take i places)) frame) ≤ length (objects_of_slab all frame)) whole (objects_within (places_of (take i places)) (places_of (drop i places)) frame)

-- the next one is written
pub write_next : (old out mine : List ℕ) (from at x : ℕ) → at ≡ from + length mine → at < length old → out ≡ take from old ++ mine ++ drop at old
    → set out at x ≡ take from old ++ (mine ++ x ∷ []) ++ drop (at + 1) old
write_next old out mine from at x ends within is =
    let front : List ℕ = take from old ++ mine in
    let taken : length (take from old) ≡ from = omega (arith, length-take from old) in
    let long : length front ≡ at = omega (arith, length-append (take from old) mine, taken) in
    let opened : out ≡ front ++ get_or old at 0 ∷ drop (at + 1) old =
    is ∙ ap (λ (rest : List ℕ). front ++ rest) (drop_more old at 0 within) in
    let written : set (front ++ get_or old at 0 ∷ drop (at + 1) old) at x ≡ front ++ x ∷ drop (at + 1) old =
    subst (λ (n : ℕ). set (front ++ get_or old at 0 ∷ drop (at + 1) old) n x ≡ front ++ x ∷ drop (at + 1) old) long (set-append_seam front (get_or old at 0) (drop (at + 1) old) x) in
    ap (λ (list : List ℕ). set list at x) opened ∙ written ∙ sym (append_assoc front (x ∷ []) (drop (at + 1) old))
    ∙ ap (λ (list : List ℕ). list ++ drop (at + 1) old) (append_assoc (take from old) mine (x ∷ []))

-- ---- slab by slab

-- whether an object is of a slab, by its place
any_of : (frame : ℕ) (places : List ObjectAt) → list_any (λ (place : ℕ × ℕ). eqb place.1 frame) (places_of places) ≡ list_any (λ (place : ObjectAt). eqb place.frame frame) places
any_of frame [] = refl
any_of frame (place ∷ places) = rw (any_of frame places) refl

pub slabs_next : (places : List ObjectAt) (i : ℕ) (place : ObjectAt) → i < length places → place ≡ get_or places i place
    → slabs_among (places_of (take (i + 1) places))
    ≡ slabs_among (places_of (take i places)) ++ cond (list_any (λ (other : ObjectAt). eqb other.frame place.frame) (take i places)) [] (place.frame ∷ [])
slabs_next places i place within at =
    ap slabs_among (places_more places i place within at) ∙ slabs_more (places_of (take i places)) (place.object, place.frame)
    ∙ ap (λ (seen : Bool). slabs_among (places_of (take i places)) ++ cond seen [] (place.frame ∷ [])) (any_of place.frame (take i places))

-- what is written of the first objects' slabs
abbrev pub order_to : List ObjectAt → ℕ → List ℕ
order_to places i = flat_map (objects_of_slab (places_of places)) (slabs_among (places_of (take i places)))

pub order_seen : (places : List ObjectAt) (i : ℕ) (place : ObjectAt) → i < length places → place ≡ get_or places i place
    → list_any (λ (other : ObjectAt). eqb other.frame place.frame) (take i places) ≡ true → order_to places (i + 1) ≡ order_to places i
order_seen places i place within at seen =
    ap (flat_map (objects_of_slab (places_of places))) (slabs_next places i place within at ∙ rw seen (append-nil (slabs_among (places_of (take i places)))))

pub order_next : (places : List ObjectAt) (i : ℕ) (place : ObjectAt) → i < length places → place ≡ get_or places i place
    → list_any (λ (other : ObjectAt). eqb other.frame place.frame) (take i places) ≡ false
    → order_to places (i + 1) ≡ order_to places i ++ objects_of_slab (places_of places) place.frame
order_next places i place within at unseen =
    ap (flat_map (objects_of_slab (places_of places))) (slabs_next places i place within at ∙ rw unseen refl)
    ∙ flat_map-append (objects_of_slab (places_of places)) (slabs_among (places_of (take i places))) (place.frame ∷ [])
    ∙ ap (λ (rest : List ℕ). order_to places i ++ rest) (append-nil (objects_of_slab (places_of places) place.frame))

same_count : (places : List ObjectAt) → length (places_of places) ≡ length places
same_count [] = refl
same_count (place ∷ places) = ap suc (same_count places)

-- there is room for it
pub order_room : (places : List ObjectAt) (i : ℕ) → length (order_to places i) ≤ length places
order_room places i =
    omega (arith, total_within (places_of places) (slabs_among (places_of (take i places))) (λ slab. marks_once slab (places_of (take i places))), same_count places)

-- a slab's objects are written behind those before
pub join : (old out done mine : List ℕ) (at end : ℕ) → at ≡ length done → end ≡ at + length mine → out ≡ done ++ drop at old
    → take at out ++ mine ++ drop end out ≡ (done ++ mine) ++ drop end old
join old out done mine at end long ends is =
    let front : take at out ≡ done = rw (is, long) (take-append_seam done (drop (length done) old)) in
    let back : drop end out ≡ drop end old = rw (is, ends, long) (drop-append-add done (drop (length done) old) (length mine) ∙ drop-drop (length mine) (length done) old) in
    rw (front, back) refl

-- all are written
pub all_written : (places : List ObjectAt) (old out : List ℕ) (i at : ℕ) → length places ≤ i → length old ≡ length places → at ≡ length (order_to places i) → out ≡ order_to places i ++ drop at old
    → out ≡ free_order (places_of places)
all_written places old out i at through even ends is =
    let whole : order_to places i ≡ free_order (places_of places) = ap (λ some. flat_map (objects_of_slab (places_of places)) (slabs_among (places_of some))) (take_all i places through) in
    let count : length (order_to places i) ≡ length places = ap (λ (list : List ℕ). length list) whole ∙ total_whole (places_of places) ∙ same_count places in
    let none : drop at old ≡ [] = drop_all at old (omega (arith, even, ends, count)) in
    is ∙ rw none (append-nil (order_to places i)) ∙ whole

-- ---- tests

pub same_test : (a b : ℕ) → a ≡ b → eqb a b ≡ true
same_test a b e = grind (arith, e)

pub other_test : (a b : ℕ) → (a ≡ b → ⊥) → eqb a b ≡ false
other_test a b differ = by (eqb a b) refl
  where
    by : (c : Bool) → eqb a b ≡ c → eqb a b ≡ false
    by true e = absurd (differ (let same : a ≡ b = grind (arith, e) in same))
    by false e = e
