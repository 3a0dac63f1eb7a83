-- The groups of a recording's caches, parted off one after another.
use Rattle.std.proofs.Common.{◌≡◌, ℕ, ◌+◌, ◌<◌, ◌≤◌, ◌≢◌, ◌⊎◌, inl, inr, Bool, true, false, nat_lt, List, [], ◌∷◌, ◌++◌, length, map, get_or, refl, sym, ap, subst, ◌∙◌, arith}
use Rattle.std.specs.Prelude.{All, IsPermutation}
use Rattle.std.specs.List.Sorted.{IsSorted, IsSortedByKey}
use Rattle.std.proofs.lemmas.Bool.Decides.{nat_tests}
use Rattle.std.proofs.lemmas.List.{length-map, get_or-map}
use Rattle.slub_recorded.specs.declared.groups.Cache.{Cache}
use Rattle.slub_recorded.specs.declared.groups.Chosen.{Chosen}
use Rattle.slub_recorded.specs.declared.groups.Split.{Split}
use Rattle.slub_recorded.specs.Members.{AreFramed, AreGrouped, ArePlaced, IsNeed, Member, Need, Packs, cache_cmp, in_group, in_none, left_over, need_of, packed}
use Rattle.slub_recorded.proofs.Framed.{sorted_map}
use Rattle.slub_recorded.proofs.Packing.{all_needs, all_placed, at_first, leave, needs_beyond, none_later, none_left, none_none, none_there, number, pack}

-- ---- one group after another

-- so many groups are parted off, and the caches of the one that is asked for are chosen, where it is among them
pub record Parted (ms : List Member) (group groups : ℕ) (rest chosen : List Chosen) : Type 0 where
  pub rest_is : map need_of rest ≡ needs_beyond groups ms
  pub later : groups < group → chosen ≡ []
  pub there : group ≤ groups → map need_of chosen ≡ in_group group ms

pub members_of : List Chosen → List Member
members_of rest = number [] (map need_of rest)

pub placed_of : (rest : List Chosen) → ArePlaced [] (members_of rest)
unfolding members_of
placed_of rest = all_placed [] (map need_of rest)

pub none_parted : (group : ℕ) (rest chosen : List Chosen) → chosen ≡ [] → Parted (members_of rest) group 0 rest chosen
unfolding members_of
none_parted group rest chosen none =
    let ms = number [] (map need_of rest) in
    record {
      rest_is = at_first (map need_of rest);
      later = λ _. none;
      there = λ h. ap (map need_of) none ∙ sym (none_there group [] ms (all_placed [] (map need_of rest)) (inl (omega (arith, h))));
    }

rest_more : (ms : List Member) (groups : ℕ) (rest : List Chosen) (split : Split) → ArePlaced [] ms → groups < 256 → map need_of rest ≡ needs_beyond groups ms → Packs rest split → map need_of split.others.items ≡ needs_beyond (groups + 1) ms
rest_more ms groups rest split placed few is packs = packs.others ∙ ap (left_over []) is ∙ leave groups [] ms few placed

pub parted_here : (ms : List Member) (group groups : ℕ) (rest chosen : List Chosen) (split : Split) → ArePlaced [] ms → groups < 256 → group ≡ groups + 1 → Parted ms group groups rest chosen → Packs rest split → Parted ms group (groups + 1) split.others.items split.taken.items
parted_here ms group groups rest chosen split placed few here p packs =
    let taken : map need_of split.taken.items ≡ in_group (groups + 1) ms = packs.taken ∙ ap (packed []) p.rest_is ∙ pack groups [] ms few placed in
    record {
      rest_is = rest_more ms groups rest split placed few p.rest_is packs;
      later = λ h. absurd (omega (arith, h, here));
      there = λ _. taken ∙ ap (λ (k : ℕ). in_group k ms) (sym here);
    }

pub parted_else : (ms : List Member) (group groups : ℕ) (rest chosen : List Chosen) (split : Split) → ArePlaced [] ms → groups < 256 → (group ≢ groups + 1) → Parted ms group groups rest chosen → Packs rest split → Parted ms group (groups + 1) split.others.items chosen
parted_else ms group groups rest chosen split placed few here p packs =
    record {
      rest_is = rest_more ms groups rest split placed few p.rest_is packs;
      later = λ h. p.later (omega (arith, h));
      there = λ h. p.there (let ne : group ≢ groups + 1 = here in omega (arith, h, ne));
    }

-- ---- all groups

le_or_lt : (a b : ℕ) → (a ≤ b) ⊎ (b < a)
le_or_lt a b = by (nat_lt b a) refl
  where
    by : (t : Bool) → nat_lt b a ≡ t → (a ≤ b) ⊎ (b < a)
    by true e = inr (grind (arith, nat_tests))
    by false e = inl (grind (arith, nat_tests))

pub record Whole (ms : List Member) (group groups : ℕ) (rest chosen : List Chosen) : Type 0 where
  pub chosen_are : map need_of chosen ≡ in_group group ms
  pub beyond : map need_of rest ≡ in_none ms
  pub last : (k : ℕ) → groups < k → in_group k ms ≡ []

-- once none is left
pub whole_none : (ms : List Member) (group groups : ℕ) (rest chosen : List Chosen) → rest ≡ [] → Parted ms group groups rest chosen → Whole ms group groups rest chosen
whole_none ms group groups rest chosen none p =
    let over : needs_beyond groups ms ≡ [] = sym p.rest_is ∙ ap (map need_of) none in
    record {
      chosen_are = by (le_or_lt group groups);
      beyond = ap (map need_of) none ∙ sym (none_none groups ms over);
      last = λ k less. none_later groups k ms less over;
    }
  where
    by : (group ≤ groups) ⊎ (groups < group) → map need_of chosen ≡ in_group group ms
    by (inl h) = p.there h
    by (inr h) = ap (map need_of) (p.later h) ∙ sym (none_later groups group ms h (sym p.rest_is ∙ ap (map need_of) none))

-- or behind the last
pub whole_last : (ms : List Member) (group groups : ℕ) (rest chosen : List Chosen) → ArePlaced [] ms → groups ≡ 256 → Parted ms group groups rest chosen → Whole ms group groups rest chosen
whole_last ms group groups rest chosen placed all p =
    record {
      chosen_are = by (le_or_lt group groups);
      beyond = p.rest_is ∙ ap (λ (k : ℕ). needs_beyond k ms) all ∙ none_left [] ms placed;
      last = λ k less. none_there k [] ms placed (inr (omega (arith, less, all)));
    }
  where
    by : (group ≤ groups) ⊎ (groups < group) → map need_of chosen ≡ in_group group ms
    by (inl h) = p.there h
    by (inr h) = ap (map need_of) (p.later h) ∙ sym (none_there group [] ms placed (inr (omega (arith, h, all))))

-- ---- the caches of all groups

map-map : {X Y Z : Type 0} (f : X → Y) (g : Y → Z) (xs : List X) → map g (map f xs) ≡ map (λ x. g (f x)) xs
map-map f g [] = refl
map-map f g (x ∷ xs) = ap (λ l. g (f x) ∷ l) (map-map f g xs)

needs_are : (rest : List Chosen) → map (λ (m : Member). m.need) (members_of rest) ≡ map need_of rest
unfolding members_of
needs_are rest = all_needs [] (map need_of rest)

caches_are : (rest : List Chosen) → map (λ (m : Member). m.need.cache) (members_of rest) ≡ map (λ (one : Chosen). one.cache) rest
caches_are rest =
    sym (map-map (λ (m : Member). m.need) (λ (n : Need). n.cache) (members_of rest)) ∙ ap (map (λ (n : Need). n.cache)) (needs_are rest) ∙ map-map need_of (λ (n : Need). n.cache) rest

-- what holds of each need holds of the members
needs_hold : (P : Need → Type 0) (ms : List Member) (rest : List Chosen) → map (λ (m : Member). m.need) ms ≡ map need_of rest → All (λ (one : Chosen). P (need_of one)) rest → All (λ (m : Member). P m.need) ms
needs_hold P [] rest same all k d less = absurd (omega (arith, less))
needs_hold P (m ∷ ms) rest same all k d less =
    let xs = m ∷ ms in
    let f : Member → Need = λ x. x.need in
    let long : length ms + 1 ≡ length rest = omega (arith, sym (length-map xs f) ∙ ap length same ∙ length-map rest need_of) in
    let a : get_or (map f xs) k m.need ≡ f (get_or xs k d) = get_or-map f xs k d m.need less in
    by rest same all (omega (arith, long, less)) a
  where
    by : (r : List Chosen) → map (λ (x : Member). x.need) (m ∷ ms) ≡ map need_of r → All (λ (one : Chosen). P (need_of one)) r → k < length r → get_or (map (λ (x : Member). x.need) (m ∷ ms)) k m.need ≡ (get_or (m ∷ ms) k d).need → P (get_or (m ∷ ms) k d).need
    by [] same all in' a = absurd (omega (arith, in'))
    by (one ∷ r) same all in' a =
        let b : get_or (map need_of (one ∷ r)) k m.need ≡ need_of (get_or (one ∷ r) k one) = get_or-map need_of (one ∷ r) k one m.need in' in
        subst P (sym b ∙ ap (λ (l : List Need). get_or l k m.need) (sym same) ∙ a) (all k one in')

pub grouped : (cpus : ℕ) (caches : List Cache) (rest : List Chosen) → AreFramed cpus caches rest → IsSortedByKey (λ (one : Chosen). one.cache) cache_cmp rest → AreGrouped cpus caches (members_of rest)
grouped cpus caches rest are sorted =
    let same = caches_are rest in
    record {
      others = are.others;
      all = subst (λ (l : List Cache). IsPermutation caches (l ++ are.others)) (sym same) are.all;
      needs = needs_hold (λ (n : Need). IsNeed cpus n.cache n.frames) (members_of rest) rest (needs_are rest) are.needs;
      too_large = are.too_large;
      ordered = subst (λ (l : List Cache). IsSorted cache_cmp l) (sym same) (sorted_map (λ (one : Chosen). one.cache) rest sorted);
      placed = placed_of rest;
    }
