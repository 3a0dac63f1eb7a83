-- The slabs of a list, one by one.
use Rattle.std.proofs.Common.{◌≡◌, ℕ, zero, suc, ◌+◌, ◌<◌, ◌≤◌, Bool, true, false, cond, List, [], ◌∷◌, ◌++◌, length, get_or, take, drop, filter, refl, sym, ◌∙◌, ap, arith, length-append, take-append-drop, AllPairs}
use Rattle.std.proofs.lemmas.List.{append-nil}
use Rattle.std.proofs.lemmas.List.Elements.{filter_more, filter-append}
use Rattle.std.proofs.lemmas.List.Filters.{length-filter_both}
use Rattle.slub_node_partial.specs.declared.promotion.Slab.{Slab}
use Rattle.slub_node_partial.specs.Gathering.{is_among}
use Rattle.slub_node_partial.specs.Promotion.{slabs_from, slabs_of}

-- there are as many slabs as frames
pub length-slabs : (place : ℕ) (frames counts : List ℕ) → length counts ≡ length frames → length (slabs_from place frames counts) ≡ length frames
length-slabs place [] counts as_many = refl
length-slabs place (frame ∷ frames) [] as_many = absurd (omega (arith, as_many))
length-slabs place (frame ∷ frames) (free ∷ counts) as_many = ap suc (length-slabs (suc place) frames counts (omega arith))

-- the slab at a place
pub slab_at : (place : ℕ) (frames counts : List ℕ) (i : ℕ) (d : Slab) → length counts ≡ length frames → i < length frames
    → get_or (slabs_from place frames counts) i d ≡ record { place = place + i; frame = get_or frames i 0; free = get_or counts i 0 }
slab_at place [] counts i d as_many within = absurd (omega (arith, within))
slab_at place (frame ∷ frames) [] i d as_many within = absurd (omega (arith, as_many))
slab_at place (frame ∷ frames) (free ∷ counts) zero d as_many within = let same : place ≡ place + 0 = omega arith in λ i. record { place = same i; frame = frame; free = free }
slab_at place (frame ∷ frames) (free ∷ counts) (suc i) d as_many within =
    let same : suc place + i ≡ place + suc i = omega arith in
    slab_at (suc place) frames counts i d (omega arith) (omega arith) ∙ ap (λ (at : ℕ). record { place = at; frame = get_or frames i 0; free = get_or counts i 0 }) same

module _ (p : Slab → Bool) (frames counts : List ℕ) (as_many : length counts ≡ length frames) (i : ℕ) (within : i < length frames) (slab : Slab) (is : slab ≡ record { place = i; frame = get_or frames i 0; free = get_or counts i 0 }) where
  -- what one more slab adds
  one_more : filter p (take (i + 1) (slabs_of frames counts)) ≡ filter p (take i (slabs_of frames counts)) ++ cond (p slab) (slab ∷ []) []
  one_more =
      let inside : i < length (slabs_of frames counts) = omega (arith, length-slabs 0 frames counts as_many) in
      let zero_more : 0 + i ≡ i = omega arith in
      let read : get_or (slabs_of frames counts) i slab ≡ slab = slab_at 0 frames counts i slab as_many within ∙ ap (λ (at : ℕ). record { place = at; frame = get_or frames i 0; free = get_or counts i 0 }) zero_more ∙ sym is in
      filter_more p (slabs_of frames counts) i slab inside ∙ ap (λ (s : Slab). filter p (take i (slabs_of frames counts)) ++ cond (p s) (s ∷ []) []) read

  -- one that is kept stands at the end
  pub kept : p slab ≡ true → filter p (take (i + 1) (slabs_of frames counts)) ≡ filter p (take i (slabs_of frames counts)) ++ slab ∷ []
  kept stays = one_more ∙ ap (λ (b : Bool). filter p (take i (slabs_of frames counts)) ++ cond b (slab ∷ []) []) stays

  -- one that is not kept changes nothing
  pub passed : p slab ≡ false → filter p (take (i + 1) (slabs_of frames counts)) ≡ filter p (take i (slabs_of frames counts))
  passed goes = one_more ∙ ap (λ (b : Bool). filter p (take i (slabs_of frames counts)) ++ cond b (slab ∷ []) []) goes ∙ append-nil (filter p (take i (slabs_of frames counts)))

  -- where one is kept, there was one more to come
  pub one_to_come : p slab ≡ true → length (filter p (take i (slabs_of frames counts))) + 1 ≤ length (filter p (slabs_of frames counts))
  one_to_come stays =
      let slabs = slabs_of frames counts in
      let parted : filter p slabs ≡ filter p (take (i + 1) slabs) ++ filter p (drop (i + 1) slabs) = ap (filter p) (sym (take-append-drop (i + 1) slabs)) ∙ filter-append p (take (i + 1) slabs) (drop (i + 1) slabs) in
      omega (arith, ap length parted, length-append (filter p (take (i + 1) slabs)) (filter p (drop (i + 1) slabs)), ap length (kept stays), length-append (filter p (take i slabs)) (slab ∷ []))

-- places rise along a list
pub rising : (frames counts : List ℕ) → length counts ≡ length frames → AllPairs (λ (one other : Slab). one.place < other.place) (slabs_of frames counts)
rising frames counts as_many i j d less within =
    let inside : j < length frames = omega (arith, length-slabs 0 frames counts as_many) in
    let one : (get_or (slabs_of frames counts) i d).place ≡ 0 + i = ap (λ (slab : Slab). slab.place) (slab_at 0 frames counts i d as_many (omega arith)) in
    let other : (get_or (slabs_of frames counts) j d).place ≡ 0 + j = ap (λ (slab : Slab). slab.place) (slab_at 0 frames counts j d as_many inside) in
    omega (arith, one, other, less)

-- the two kinds of slabs make up the list
pub both_kinds : (frames counts : List ℕ) → length counts ≡ length frames
    → length (filter (is_among true) (slabs_of frames counts)) + length (filter (is_among false) (slabs_of frames counts)) ≡ length frames
both_kinds frames counts as_many = length-filter_both (is_among true) (is_among false) (λ _. refl) (slabs_of frames counts) ∙ length-slabs 0 frames counts as_many
