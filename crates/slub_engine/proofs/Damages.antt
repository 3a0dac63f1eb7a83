-- What was found while events were answered, and how much it can be.
use Rattle.std.proofs.Common.{◌≡◌, ℕ, zero, suc, ◌+◌, ◌-◌, ◌<◌, ◌≤◌, Bool, true, false, cond, List, [], ◌∷◌, ◌++◌, length, take, drop, get_or, flat_map, sum_by, refl, sym, ◌∙◌, ap, arith, Option, Some, None, is_some}
use Rattle.std.specs.List.{list_any}
use Rattle.std.specs.Option.{option_map_or}
use Rattle.std.proofs.lemmas.List.{append-nil, length-append, length-drop, length-map, take_all, take_more}
use Rattle.std.proofs.lemmas.List.FromFn.{get_or-range_with_len, length-range_with_len}
use Rattle.std.proofs.lemmas.List.Folds.{length-flat_map-take}
use Rattle.std.proofs.lemmas.Grind.{flat_map-append}
use Rattle.std.proofs.lemmas.List.Concat.{flat_map-cons, length-flat_map}
use Rattle.std.proofs.lemmas.List.Sums.{sum_by-cons, sum_by-le}
use Rattle.std.proofs.Math.ListN.{get_or-map}
use Rattle.slub_red_zone.specs.Objects.{findable}
use Rattle.slub_red_zone.specs.State.{CheckedState}
use Rattle.slub_trace.specs.declared.damage.Report.{Report}
use Rattle.slub_lists.specs.Alloc.{checked_of}
use Rattle.slub_lists.specs.Coherent.{AddsReportsOf, findable_in}
use Rattle.slub_lists.specs.State.{State}
use Rattle.slub_slabinfo_text.specs.declared.journal.Found.{Found}
use Rattle.slub_slabinfo_text.specs.Lawful.{cache_numbers, found_in, found_of, reports_of}
use Rattle.slub_slabinfo_text.proofs.Numbers.{sum_numbers}
use Rattle.slub_engine.specs.Steps.{found_past, found_since, listed_in, most_found, told_in}

-- ---- one after the other

flat_map_same : {A B : Type 0} (f g : A → List B) (xs : List A) → ((x : A) → f x ≡ g x) → flat_map f xs ≡ flat_map g xs
flat_map_same f g [] same = refl
flat_map_same f g (x ∷ xs) same = flat_map-cons f x xs ∙ rw (same x, flat_map_same f g xs same) (sym (flat_map-cons g x xs))

sums_over : (xs : List ℕ) (one two three four : ℕ → ℕ) → ((x : ℕ) → one x + two x ≤ three x + four x)
    → sum_by one xs + sum_by two xs ≤ sum_by three xs + sum_by four xs
sums_over [] one two three four over = omega arith
sums_over (x ∷ xs) one two three four over =
    omega (arith, over x, sums_over xs one two three four over, sum_by-cons one x xs, sum_by-cons two x xs, sum_by-cons three x xs, sum_by-cons four x xs)

-- ---- one cache

abbrev told : Option CheckedState → ℕ
told slabs = option_map_or (λ slabs. length slabs.reports) slabs 0

abbrev listed : Option CheckedState → ℕ
listed slabs = option_map_or (λ slabs. length slabs.listed) slabs 0

abbrev findings : Option CheckedState → ℕ
findings slabs = option_map_or findable slabs 0

told_of : (slabs : Option CheckedState) → told slabs ≡ length (option_map_or (λ slabs. slabs.reports) slabs [])
told_of None = refl
told_of (Some slabs) = refl

findings_are : (slabs : Option CheckedState) → findings slabs ≡ told slabs + listed slabs
findings_are None = refl
findings_are (Some slabs) = refl

told_grows : (old new : Option CheckedState) → AddsReportsOf old new → told old ≤ told new
told_grows None None adds = omega arith
told_grows None (Some new) adds = absurd adds
told_grows (Some old) None adds = absurd adds
told_grows (Some old) (Some new) adds = omega (arith, ap (λ (reports : List Report). length reports) adds.1, length-append old.reports adds.0)

-- where there was no cache there is none, and nothing was told of it
told_none : (old new : Option CheckedState) → AddsReportsOf old new → is_some old ≡ false → told new ≡ 0
told_none None None adds bare = refl
told_none None (Some new) adds bare = absurd adds
told_none (Some old) new adds bare = absurd (let never : ⊥ = cc in never)

-- where no cache is checked, that of no number is
bare_at : (all : List (Option CheckedState)) → list_any is_some all ≡ false → (cache : ℕ) → is_some (get_or all cache None) ≡ false
bare_at [] bare cache = refl
bare_at (None ∷ rest) bare zero = refl
bare_at (None ∷ rest) bare (suc cache) = bare_at rest bare cache
bare_at (Some slabs ∷ rest) bare cache = absurd (let never : ⊥ = cc in never)

-- ---- all caches

-- what was told of each cache, by cache number
pub told_at : (s : State) (cache : ℕ) → get_or (told_in s) cache 0 ≡ length (reports_of s cache)
told_at s cache = get_or-map told s.checked cache None ∙ told_of (checked_of s cache)

-- what was told is still there
pub still_told : (s now : State) (cache : ℕ) → AddsReportsOf (checked_of s cache) (checked_of now cache) → get_or (told_in s) cache 0 ≤ length (reports_of now cache)
still_told s now cache adds =
    omega (arith, told_at s cache, told_of (checked_of s cache), told_of (checked_of now cache), told_grows (checked_of s cache) (checked_of now cache) adds)

-- what was found past what was told before
pub found_is : (s now : State) → found_since (told_in s) now ≡ found_in s now
found_is s now = flat_map_same (λ cache. found_past (get_or (told_in s) cache 0) now cache) (found_of s now) cache_numbers (λ cache. ap (λ count. found_past count now cache) (told_at s cache))

-- what was found of a cache is what was told of it since
found_count : (s now : State) (cache : ℕ) → length (found_past (get_or (told_in s) cache 0) now cache) ≡ told (checked_of now cache) - told (checked_of s cache)
found_count s now cache =
    let count : length (found_past (get_or (told_in s) cache 0) now cache) ≡ length (reports_of now cache) - get_or (told_in s) cache 0 =
    length-map (drop (get_or (told_in s) cache 0) (reports_of now cache)) _ ∙ length-drop (get_or (told_in s) cache 0) (reports_of now cache) in
    omega (arith, count, told_at s cache, told_of (checked_of s cache), told_of (checked_of now cache))

-- at most one of each slab that was listed, and of each that an event lists; none where no cache is checked
pub found_few : (s now : State) (events : ℕ) → length s.checked ≡ 32 → length now.checked ≡ 32
    → ((cache : ℕ) → AddsReportsOf (checked_of s cache) (checked_of now cache)) → findable_in now ≤ findable_in s + events
    → length (found_since (told_in s) now) ≤ most_found s events
found_few s now events before after adds few = at_most (list_any is_some s.checked) refl
  where
    found : ℕ → ℕ
    found cache = length (found_past (get_or (told_in s) cache 0) now cache)

    all : length (found_since (told_in s) now) ≡ sum_by found cache_numbers
    all = length-flat_map (λ cache. found_past (get_or (told_in s) cache 0) now cache) cache_numbers

    one : (cache : ℕ) → findings (checked_of s cache) + found cache ≤ findings (checked_of now cache) + listed (checked_of s cache)
    one cache =
        omega (arith, found_count s now cache, told_grows (checked_of s cache) (checked_of now cache) (adds cache), findings_are (checked_of s cache), findings_are (checked_of now cache))

    none : list_any is_some s.checked ≡ false → (cache : ℕ) → found cache ≤ 0
    none bare cache =
        omega (arith, found_count s now cache, told_none (checked_of s cache) (checked_of now cache) (adds cache) (bare_at s.checked bare cache))

    at_most : (some : Bool) → list_any is_some s.checked ≡ some → length (found_since (told_in s) now) ≤ cond some (listed_in s + events) 0
    at_most true any =
        let over = sums_over cache_numbers (λ cache. findings (checked_of s cache)) found (λ cache. findings (checked_of now cache)) (λ cache. listed (checked_of s cache)) one in
        omega (arith, all, over, few, sum_numbers findings None s.checked before, sum_numbers findings None now.checked after, sum_numbers listed None s.checked before)
    at_most false bare = omega (arith, all, sum_by-le found 0 cache_numbers (λ place d within. none bare (get_or cache_numbers place d)))

-- ---- putting them in

length_numbers : length cache_numbers ≡ 32
unfolding cache_numbers
length_numbers = length-range_with_len 0 32

number_at : (cache : ℕ) → cache < 32 → get_or cache_numbers cache 0 ≡ cache
unfolding cache_numbers
number_at cache within = get_or-range_with_len 0 32 cache 0 within ∙ (let e : 0 + cache ≡ cache = omega arith in e)

-- there is room for what was found of the next cache
pub room_next : (found : ℕ → List Found) (cache capacity : ℕ) (items : List Found) → cache < 32 → items ≡ flat_map found (take cache cache_numbers)
    → length (flat_map found cache_numbers) ≤ capacity → length items + length (found cache) ≤ capacity
room_next found cache capacity items within is room =
    let more = length-flat_map-take found cache_numbers cache 0 (omega (arith, within, length_numbers)) in
    omega (arith, ap (λ (items : List Found). length items) is, ap (λ cache. length (found cache)) (number_at cache within), more, room)

-- one cache more
pub found_next : (found : ℕ → List Found) (cache : ℕ) (items after : List Found) → cache < 32 → items ≡ flat_map found (take cache cache_numbers)
    → after ≡ items ++ found cache → after ≡ flat_map found (take (cache + 1) cache_numbers)
found_next found cache items after within is grown =
    let more : take (cache + 1) cache_numbers ≡ take cache cache_numbers ++ cache ∷ [] =
    take_more cache_numbers cache 0 (omega (arith, within, length_numbers)) ∙ ap (λ (c : ℕ). take cache cache_numbers ++ c ∷ []) (number_at cache within) in
    let split : flat_map found (take cache cache_numbers ++ cache ∷ []) ≡ flat_map found (take cache cache_numbers) ++ (found cache ++ []) = flat_map-append found (take cache cache_numbers) (cache ∷ []) in
    grown ∙ ap (λ (front : List Found). front ++ found cache) is
    ∙ ap (λ (rest : List Found). flat_map found (take cache cache_numbers) ++ rest) (sym (append-nil (found cache)))
    ∙ sym (ap (flat_map found) more ∙ split)

-- every cache
pub found_all : (found : ℕ → List Found) (cache : ℕ) (items : List Found) → 32 ≤ cache → items ≡ flat_map found (take cache cache_numbers) → items ≡ flat_map found cache_numbers
found_all found cache items all is = is ∙ ap (flat_map found) (take_all cache cache_numbers (omega (arith, length_numbers)))
