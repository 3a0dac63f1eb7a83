-- Numbers and ranges of them as texts.
use Rattle.std.specs.Prelude.{ℕ, ◌+◌, ◌==◌, if◌then◌else◌, List, [], ◌∷◌, ◌++◌, flat_map, codes}
use Rattle.std.specs.Fmt.{decimal}
use Rattle.slub_state_text.specs.declared.ranges.Range.{Range}

-- ---- ranges

-- a range of one number
abbrev pub one_number : ℕ → Range
one_number n = record { first = n; last = n }

-- a range before ranges: it takes in the first of them where that goes on from it
abbrev pub joined : Range → List Range → List Range
joined range [] = range ∷ []
joined range (next ∷ ranges) =
    if next.first == range.last + 1 then record range { last = next.last } ∷ ranges
    else range ∷ next ∷ ranges

-- numbers as ranges, each as long as it can be, in their order
abbrev pub ranges_of : List ℕ → List Range
ranges_of [] = []
ranges_of (n ∷ numbers) = joined (one_number n) (ranges_of numbers)

-- ---- texts

-- `A..B`, and a range of one number as that number
abbrev pub range_text : ℕ → ℕ → List ℕ
range_text first last =
    if first == last then decimal first else decimal first ++ codes ".." ++ decimal last

-- a space, and the range
abbrev pub spaced_range : Range → List ℕ
spaced_range range = 32 ∷ range_text range.first range.last

-- the ranges of numbers, each after a space; no number is `none`
abbrev pub ranges_text : List ℕ → List ℕ
ranges_text [] = codes " none"
ranges_text (n ∷ numbers) = flat_map spaced_range (ranges_of (n ∷ numbers))

-- a space, and the number
abbrev pub spaced_number : ℕ → List ℕ
spaced_number n = 32 ∷ decimal n

-- numbers, each after a space; no number is `none`
abbrev pub numbers_text : List ℕ → List ℕ
numbers_text [] = codes " none"
numbers_text (n ∷ numbers) = flat_map spaced_number (n ∷ numbers)
