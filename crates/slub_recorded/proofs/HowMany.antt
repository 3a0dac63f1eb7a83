-- How many groups the caches of a recording make.
use Rattle.std.proofs.Common.{◌≡◌, ◌≢◌, ℕ, ◌+◌, ◌<◌, ◌≤◌, ◌⊎◌, inl, inr, Bool, true, false, List, [], ◌∷◌, ◌++◌, map, nat_lt, refl, sym, ◌∙◌, arith}
use Rattle.std.specs.Prelude.{All, filter, max, unwrap_or, nat_le, Option, Some, None}
use Rattle.std.proofs.lemmas.Bool.Decides.{nat_tests}
use Rattle.std.proofs.lemmas.List.Elements.{All-filter, All-map, All-weaker}
use Rattle.slub_recorded.specs.declared.groups.Cache.{Cache}
use Rattle.slub_recorded.specs.declared.groups.Chosen.{Chosen}
use Rattle.slub_recorded.specs.Members.{AreGrouped, ArePlaced, IsNeed, Member, Need, count_groups, has_room, in_group, is_number, need_of, packed}
use Rattle.slub_recorded.proofs.Packing.{filt, is_beyond, needs_beyond, pack, packed_nil, packed_no, packed_yes}

-- ---- the greatest number of a group

-- a cache with the number of a group is in that
is_there : (k : ℕ) (m : Member) (ms : List Member) → is_number m.group k ≡ true → in_group k (m ∷ ms) ≢ []
is_there k m ms e none = let h : m.need ∷ in_group k ms ≡ [] = sym (filt (λ (x : Member). is_number x.group k) m ms true e) ∙ none in absurd cc

not_there : (k : ℕ) (m : Member) (ms : List Member) → is_number m.group k ≡ false → in_group k (m ∷ ms) ≡ in_group k ms
not_there k m ms e = filt (λ (x : Member). is_number x.group k) m ms false e

-- one fewer has none behind a group either
none_in : (k : ℕ) (m : Member) (ms : List Member) → in_group k (m ∷ ms) ≡ [] → in_group k ms ≡ []
none_in k m ms none = by (is_number m.group k) refl
  where
    by : (b : Bool) → is_number m.group k ≡ b → in_group k ms ≡ []
    by true e = absurd (is_there k m ms e none)
    by false e = sym (not_there k m ms e) ∙ none

below : (group : Option ℕ) (g : ℕ) → 1 ≤ g → ((k : ℕ) → g < k → is_number group k ≡ false) → unwrap_or group 1 ≤ g
below None g one none = one
below (Some n) g one none = by (nat_lt g n) refl
  where
    by : (b : Bool) → nat_lt g n ≡ b → n ≤ g
    by true e = let less : g < n = grind (arith, nat_tests) in let no = none n less in absurd (grind (arith, nat_tests))
    by false e = grind (arith, nat_tests)

count_le : (ms : List Member) (g : ℕ) → 1 ≤ g → ((k : ℕ) → g < k → in_group k ms ≡ []) → count_groups ms ≤ g
count_le [] g one last = one
count_le (m ∷ ms) g one last =
    let more = count_le ms g one (λ k less. none_in k m ms (last k less)) in
    let here : unwrap_or m.group 1 ≤ g = below m.group g one (λ k less. by k (last k less) (is_number m.group k) refl) in
    omega (arith, more, here)
  where
    by : (k : ℕ) → in_group k (m ∷ ms) ≡ [] → (b : Bool) → is_number m.group k ≡ b → is_number m.group k ≡ false
    by k none true e = absurd (is_there k m ms e none)
    by k none false e = e

one_le : (ms : List Member) → 1 ≤ count_groups ms
one_le [] = omega arith
one_le (m ∷ ms) = let more = one_le ms in omega (arith, more)

at : (group : Option ℕ) (k : ℕ) → is_number group k ≡ true → k ≤ unwrap_or group 1
at None k e = absurd cc
at (Some n) k e = grind (arith, nat_tests)

le_count : (ms : List Member) (g : ℕ) → in_group g ms ≢ [] → g ≤ count_groups ms
le_count [] g some = absurd (some refl)
le_count (m ∷ ms) g some = by (le_count ms g) (is_number m.group g) refl
  where
    by : (in_group g ms ≢ [] → g ≤ count_groups ms) → (b : Bool) → is_number m.group g ≡ b → g ≤ max (unwrap_or m.group 1) (count_groups ms)
    by more true e = let here : g ≤ unwrap_or m.group 1 = at m.group g e in omega (arith, here)
    by more false e = let later : g ≤ count_groups ms = more (λ none. some (not_there g m ms e ∙ none)) in omega (arith, later)

-- so many groups there are, where the last has a cache and none is behind it
pub count_is : (ms : List Member) (g : ℕ) → 1 ≤ g → ((k : ℕ) → g < k → in_group k ms ≡ []) → (g ≤ 1) ⊎ (in_group g ms ≢ []) → g ≡ count_groups ms
count_is ms g one last some =
    let most = count_le ms g one last in
    let least : g ≤ count_groups ms = elim some [ inl few ↦ (let first = one_le ms in omega (arith, few, first)) | inr there ↦ le_count ms g there ] in
    omega (arith, most, least)

-- ---- the next group has a cache where one is left

first_room : (need : Need) → need.frames ≤ 4095 → has_room [] need ≡ true
unfolding has_room
first_room need few = let test : nat_le (0 + need.frames) 4095 ≡ true = grind (arith, nat_tests) in test

longer : (there : List Need) (need : Need) → there ++ need ∷ [] ≢ []
longer [] need e = absurd cc
longer (x ∷ there) need e = absurd cc

still : (there needs : List Need) → there ≢ [] → packed there needs ≢ []
still there [] some none = some (sym (packed_nil there) ∙ none)
still there (need ∷ needs) some none = by (still (there ++ need ∷ []) needs (longer there need)) (still there needs some) (has_room there need) refl
  where
    by : (packed (there ++ need ∷ []) needs ≢ []) → (packed there needs ≢ []) → (b : Bool) → has_room there need ≡ b → ⊥
    by taken left true e = taken (sym (packed_yes there need needs e) ∙ none)
    by taken left false e = left (sym (packed_no there need needs e) ∙ none)

some_packed : (needs : List Need) → needs ≢ [] → All (λ (need : Need). need.frames ≤ 4095) needs → packed [] needs ≢ []
some_packed [] some few none = some refl
some_packed (need ∷ needs) some few none =
    let room : has_room [] need ≡ true = first_room need (few 0 need (omega arith)) in
    still (need ∷ []) needs (λ e. absurd cc) (sym (packed_yes [] need needs room) ∙ none)

pub next_there : (ms : List Member) (g : ℕ) → g < 256 → ArePlaced [] ms → All (λ (m : Member). m.need.frames ≤ 4095) ms → needs_beyond g ms ≢ [] → in_group (g + 1) ms ≢ []
next_there ms g low placed few some none =
    let p : Member → Bool = λ m. is_beyond m.group g in
    let small : All (λ (need : Need). need.frames ≤ 4095) (needs_beyond g ms) = All-map (λ (need : Need). need.frames ≤ 4095) (λ (m : Member). m.need) (filter p ms) (All-filter p (λ (m : Member). m.need.frames ≤ 4095) ms few) in
    some_packed (needs_beyond g ms) some small (pack g [] ms low placed ∙ none)

-- ---- as groups are parted off

-- so many groups are parted off: the last of them has a cache, and one is left for the next
pub record Filled (ms : List Member) (groups : ℕ) : Type 0 where
  pub last : (groups ≤ 1) ⊎ (in_group groups ms ≢ [])
  pub more : (groups ≡ 0) ⊎ (needs_beyond groups ms ≢ [])

pub none_filled : (ms : List Member) → Filled ms 0
none_filled ms = record { last = inl (omega arith); more = inl refl }

pub small : (cpus : ℕ) (caches : List Cache) (ms : List Member) → AreGrouped cpus caches ms → All (λ (m : Member). m.need.frames ≤ 4095) ms
small cpus caches ms are = All-weaker (λ (m : Member). IsNeed cpus m.need.cache m.need.frames) (λ (m : Member). m.need.frames ≤ 4095) (λ m need. need.few) ms are.needs

-- one more has a cache, too
pub last_filled : (cpus : ℕ) (caches : List Cache) (ms : List Member) (groups : ℕ) → AreGrouped cpus caches ms → groups < 256 → Filled ms groups → (groups + 1 ≤ 1) ⊎ (in_group (groups + 1) ms ≢ [])
last_filled cpus caches ms groups are few filled = elim filled.more [
  | inl none ↦ inl (omega (arith, none))
  | inr some ↦ inr (next_there ms groups few are.placed (small cpus caches ms are) some)
]

some_left : (ms : List Member) (groups : ℕ) (others : List Chosen) → map need_of others ≡ needs_beyond groups ms → others ≢ [] → needs_beyond groups ms ≢ []
some_left ms groups [] is some none = some refl
some_left ms groups (x ∷ xs) is some none = let h : need_of x ∷ map need_of xs ≡ [] = is ∙ none in absurd cc

pub more_filled : (cpus : ℕ) (caches : List Cache) (ms : List Member) (groups : ℕ) (others : List Chosen) → AreGrouped cpus caches ms → groups < 256 → Filled ms groups → map need_of others ≡ needs_beyond (groups + 1) ms → others ≢ [] → Filled ms (groups + 1)
more_filled cpus caches ms groups others are few filled is some =
    record { last = last_filled cpus caches ms groups are few filled; more = inr (some_left ms (groups + 1) others is some) }
