-- Objects slab by slab: each slab comes once, and each object once.
use Rattle.std.proofs.Common.{◌≡◌, ℕ, suc, ◌+◌, ◌≤◌, cond, not, Bool, true, false, eqb, ◌||◌, List, [], ◌∷◌, ◌++◌, length, map, filter, flat_map, refl, sym, ◌∙◌, ap, subst, arith}
use Rattle.std.specs.List.{list_any}
use Rattle.std.proofs.lemmas.List.{length-append, map-append}
use Rattle.std.proofs.lemmas.List.Elements.{filter-append}
use Rattle.std.proofs.lemmas.Grind.{common_steps}
use Rattle.slub_slabinfo_text.specs.Bulk.{free_order, objects_of_slab, slabs_among}

-- ---- how often a slab stands in a list

abbrev pub marks : ℕ → List ℕ → ℕ
marks slab [] = 0
marks slab (frame ∷ frames) = cond (eqb slab frame) (suc (marks slab frames)) (marks slab frames)

same_number : (a b : ℕ) → eqb a b ≡ true → a ≡ b
same_number a b e = grind (arith, e)

other_number : (slab taken frame : ℕ) → eqb taken slab ≡ false → eqb taken frame ≡ true → eqb slab frame ≡ false
other_number slab taken frame differ same = grind (arith, differ, same)

turned : (a b : ℕ) (c : Bool) → eqb a b ≡ c → eqb b a ≡ c
turned a b true e = grind (arith, e)
turned a b false e = grind (arith, e)

-- a slab that is taken out
marks_own : (slab : ℕ) (frames : List ℕ) → marks slab (filter (λ frame. not (eqb slab frame)) frames) ≡ 0
marks_own slab [] = refl
marks_own slab (frame ∷ frames) = by (eqb slab frame) refl (marks_own slab frames)
  where
    by : (b : Bool) → eqb slab frame ≡ b → marks slab (filter (λ frame. not (eqb slab frame)) frames) ≡ 0 → marks slab (filter (λ frame. not (eqb slab frame)) (frame ∷ frames)) ≡ 0
    by true e rest = rw e rest
    by false e rest = rw (e, e) rest

-- and another one
marks_other : (slab taken : ℕ) (frames : List ℕ) → eqb taken slab ≡ false → marks slab (filter (λ frame. not (eqb taken frame)) frames) ≡ marks slab frames
marks_other slab taken [] differ = refl
marks_other slab taken (frame ∷ frames) differ = by (eqb taken frame) refl (marks_other slab taken frames differ)
  where
    by : (b : Bool) → eqb taken frame ≡ b → marks slab (filter (λ frame. not (eqb taken frame)) frames) ≡ marks slab frames → marks slab (filter (λ frame. not (eqb taken frame)) (frame ∷ frames)) ≡ marks slab (frame ∷ frames)
    by true e rest = rw (e, other_number slab taken frame differ e) rest
    by false e rest = rw e (ap (λ n. cond (eqb slab frame) (suc n) n) rest)

-- each slab comes once where an object is of it, and else not
pub marks_slabs : (slab : ℕ) (places : List (ℕ × ℕ)) → marks slab (slabs_among places) ≡ cond (list_any (λ place. eqb place.1 slab) places) 1 0
marks_slabs slab [] = refl
marks_slabs slab (place ∷ places) = by (eqb place.1 slab) refl (marks_slabs slab places)
  where
    by : (b : Bool) → eqb place.1 slab ≡ b → marks slab (slabs_among places) ≡ cond (list_any (λ place. eqb place.1 slab) places) 1 0 → marks slab (slabs_among (place ∷ places)) ≡ cond (list_any (λ place. eqb place.1 slab) (place ∷ places)) 1 0
    by true e rest =
        let own : marks slab (filter (λ frame. not (eqb place.1 frame)) (slabs_among places)) ≡ 0 =
        subst (λ n. marks slab (filter (λ frame. not (eqb n frame)) (slabs_among places)) ≡ 0) (sym (same_number place.1 slab e)) (marks_own slab (slabs_among places)) in
        rw (e, turned place.1 slab true e, own) refl
    by false e rest = rw (e, turned place.1 slab false e) (marks_other slab place.1 (slabs_among places) e ∙ rest)

pub marks_once : (slab : ℕ) (places : List (ℕ × ℕ)) → marks slab (slabs_among places) ≤ 1
marks_once slab places = by (list_any (λ place. eqb place.1 slab) places) (marks_slabs slab places)
  where
    by : (b : Bool) → marks slab (slabs_among places) ≡ cond b 1 0 → marks slab (slabs_among places) ≤ 1
    by true e = omega (arith, e)
    by false e = omega (arith, e)

-- ---- how many objects slabs have

abbrev pub total : List (ℕ × ℕ) → List ℕ → ℕ
total places frames = length (flat_map (objects_of_slab places) frames)

total_none : (frames : List ℕ) → total [] frames ≡ 0
total_none [] = refl
total_none (frame ∷ frames) = total_none frames

total_more : (place : ℕ × ℕ) (places : List (ℕ × ℕ)) (frames : List ℕ) → total (place ∷ places) frames ≡ marks place.1 frames + total places frames
total_more place places [] = refl
total_more place places (frame ∷ frames) = by (eqb place.1 frame) refl (total_more place places frames)
  where
    split : (some : List (ℕ × ℕ)) → total some (frame ∷ frames) ≡ length (objects_of_slab some frame) + total some frames
    split some = length-append (objects_of_slab some frame) (flat_map (objects_of_slab some) frames)

    by : (b : Bool) → eqb place.1 frame ≡ b → total (place ∷ places) frames ≡ marks place.1 frames + total places frames → total (place ∷ places) (frame ∷ frames) ≡ marks place.1 (frame ∷ frames) + total places (frame ∷ frames)
    by true e more =
        let here : length (objects_of_slab (place ∷ places) frame) ≡ suc (length (objects_of_slab places frame)) = rw e refl in
        let mark : marks place.1 (frame ∷ frames) ≡ suc (marks place.1 frames) = rw e refl in
        omega (arith, split (place ∷ places), split places, more, here, mark)
    by false e more =
        let here : length (objects_of_slab (place ∷ places) frame) ≡ length (objects_of_slab places frame) = rw e refl in
        let mark : marks place.1 (frame ∷ frames) ≡ marks place.1 frames = rw e refl in
        omega (arith, split (place ∷ places), split places, more, here, mark)

-- different slabs have no more than there are
pub total_within : (places : List (ℕ × ℕ)) (frames : List ℕ) → ((slab : ℕ) → marks slab frames ≤ 1) → total places frames ≤ length places
total_within [] frames once = omega (arith, total_none frames)
total_within (place ∷ places) frames once = omega (arith, total_more place places frames, once place.1, total_within places frames once)

any_at : (slab : ℕ) (front : List (ℕ × ℕ)) (place : ℕ × ℕ) (places : List (ℕ × ℕ)) → eqb place.1 slab ≡ true → list_any (λ place. eqb place.1 slab) (front ++ place ∷ places) ≡ true
any_at slab [] place places e = rw e refl
any_at slab (first ∷ front) place places e = rw (any_at slab front place places e) (or_true (eqb first.1 slab))
  where
    or_true : (b : Bool) → (b || true) ≡ true
    or_true true = refl
    or_true false = refl

-- and all slabs have them all
total_behind : (front places : List (ℕ × ℕ)) → total places (slabs_among (front ++ places)) ≡ length places
total_behind front [] = total_none (slabs_among (front ++ []))
total_behind front (place ∷ places) =
    let here : marks place.1 (slabs_among (front ++ place ∷ places)) ≡ 1 =
    marks_slabs place.1 (front ++ place ∷ places) ∙ rw (any_at place.1 front place places (own place.1)) refl in
    let rest : total places (slabs_among (front ++ place ∷ places)) ≡ length places =
    subst (λ (all : List (ℕ × ℕ)). total places (slabs_among all) ≡ length places) (shifted front) (total_behind (front ++ place ∷ []) places) in
    omega (arith, total_more place places (slabs_among (front ++ place ∷ places)), here, rest)
  where
    own : (n : ℕ) → eqb n n ≡ true
    own n = grind arith

    shifted : (some : List (ℕ × ℕ)) → (some ++ place ∷ []) ++ places ≡ some ++ place ∷ places
    shifted some = grind (arith, common_steps)

pub total_whole : (places : List (ℕ × ℕ)) → length (free_order places) ≡ length places
total_whole places = total_behind [] places

-- ---- one more object

pub slabs_more : (places : List (ℕ × ℕ)) (place : ℕ × ℕ) → slabs_among (places ++ place ∷ []) ≡ slabs_among places ++ cond (list_any (λ other. eqb other.1 place.1) places) [] (place.1 ∷ [])
slabs_more [] place = refl
slabs_more (first ∷ places) place = by (list_any (λ other. eqb other.1 place.1) places) (eqb first.1 place.1) refl refl (slabs_more places place)
  where
    kept : List ℕ → List ℕ
    kept frames = filter (λ frame. not (eqb first.1 frame)) frames

    step : (rest : List ℕ) → slabs_among (places ++ place ∷ []) ≡ slabs_among places ++ rest → slabs_among (first ∷ places ++ place ∷ []) ≡ (first.1 ∷ kept (slabs_among places)) ++ kept rest
    step rest e = ap (λ (frames : List ℕ). first.1 ∷ frames) (ap kept e ∙ filter-append (λ frame. not (eqb first.1 frame)) (slabs_among places) rest)

    by : (seen same : Bool) → list_any (λ other. eqb other.1 place.1) places ≡ seen → eqb first.1 place.1 ≡ same
        → slabs_among (places ++ place ∷ []) ≡ slabs_among places ++ cond (list_any (λ other. eqb other.1 place.1) places) [] (place.1 ∷ [])
        → slabs_among (first ∷ places ++ place ∷ []) ≡ slabs_among (first ∷ places) ++ cond (list_any (λ other. eqb other.1 place.1) (first ∷ places)) [] (place.1 ∷ [])
    by true true any e more = rw (any, e) (step [] (rw any at more))
    by true false any e more = rw (any, e) (step [] (rw any at more))
    by false true any e more = rw (any, e) (step (place.1 ∷ []) (rw any at more) ∙ ap (λ (rest : List ℕ). slabs_among (first ∷ places) ++ rest) (rw e refl))
    by false false any e more = rw (any, e) (step (place.1 ∷ []) (rw any at more) ∙ ap (λ (rest : List ℕ). slabs_among (first ∷ places) ++ rest) (rw e refl))

-- the objects of a slab, one more of all or none
pub objects_more : (places : List (ℕ × ℕ)) (place : ℕ × ℕ) (frame : ℕ) → objects_of_slab (places ++ place ∷ []) frame ≡ objects_of_slab places frame ++ cond (eqb place.1 frame) (place.0 ∷ []) []
objects_more places place frame = by (eqb place.1 frame) refl
  where
    split : objects_of_slab (places ++ place ∷ []) frame ≡ objects_of_slab places frame ++ objects_of_slab (place ∷ []) frame
    split = ap (λ (some : List (ℕ × ℕ)). map (λ one. one.0) some) (filter-append (λ one. eqb one.1 frame) places (place ∷ [])) ∙ map-append _ _ _

    by : (b : Bool) → eqb place.1 frame ≡ b → objects_of_slab (places ++ place ∷ []) frame ≡ objects_of_slab places frame ++ cond (eqb place.1 frame) (place.0 ∷ []) []
    by true e = split ∙ ap (λ (rest : List ℕ). objects_of_slab places frame ++ rest) (rw e refl)
    by false e = split ∙ ap (λ (rest : List ℕ). objects_of_slab places frame ++ rest) (rw e refl)

-- a front has no more of them than all
pub objects_within : (front back : List (ℕ × ℕ)) (frame : ℕ) → length (objects_of_slab front frame) ≤ length (objects_of_slab (front ++ back) frame)
objects_within front back frame =
    let split : objects_of_slab (front ++ back) frame ≡ objects_of_slab front frame ++ objects_of_slab back frame =
    ap (λ (some : List (ℕ × ℕ)). map (λ one. one.0) some) (filter-append (λ one. eqb one.1 frame) front back) ∙ map-append _ _ _ in
    let long : length (objects_of_slab (front ++ back) frame) ≡ length (objects_of_slab front frame ++ objects_of_slab back frame) = ap (λ (some : List ℕ). length some) split in
    omega (arith, long, length-append (objects_of_slab front frame) (objects_of_slab back frame))
