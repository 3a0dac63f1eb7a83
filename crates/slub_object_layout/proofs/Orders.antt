-- Binary digits and orders.
use Rattle.std.proofs.Common.{◌≡◌, ℕ, suc, ◌+◌, ◌-◌, ◌*◌, ◌/◌, ◌%◌, ◌^◌, ◌<◌, ◌≤◌, inl, inr, subst, Option, None, Some, MatchOption, arith}
use Rattle.std.proofs.lemmas.Nat.{leading_length, pow_pos, mul-le, mod_below}
use Rattle.std.proofs.lemmas.Bool.{cases_lt}
use Rattle.std.proofs.Math.Nat.{pow-suc, mul-le-mul_right}
use Rattle.std.proofs.Math.Pow.{pow_mono}
use Rattle.slub_object_layout.specs.Layout.{fls, most_objects, IsLeastOrder, IsOrder, greatest, single, IsFirstFit, sixteenth, eighth, quarter, IsLeastFit, Fits, SomeFits, HasOrder}

-- 2 to the number of digits is above the number, and not above twice the number and one
pub fls_bounds : (x : ℕ) → x < 2 ^ 32 → (x < 2 ^ fls x) × (2 ^ fls x ≤ 2 * x + 1)
fls_bounds x fits =
    let found = leading_length 32 x fits in
    let is : fls x ≡ found.0 = omega (arith, found.1) in
    rw is (found.2, found.3)

-- the digits of the last frame's number are the least order
pub least_order : (bytes order : ℕ) → bytes ≤ 32768 → order ≡ fls ((bytes - 1) / 4096) → IsLeastOrder bytes order
least_order bytes order small is =
    let bounds = fls_bounds ((bytes - 1) / 4096) (omega arith) in
    let above : (bytes - 1) / 4096 < 2 ^ order = rw is bounds.0 in
    let below : 2 ^ order ≤ 2 * ((bytes - 1) / 4096) + 1 = rw is bounds.1 in
    record {
      holds = omega (arith, above);
      least = λ o holds. elim (cases_lt o order) [
        | inl less ↦ let half : 2 ^ suc o ≤ 2 ^ order = pow_mono less in absurd (omega (arith, half, below, holds, pow-suc 2 o, pow_pos o))
        | inr more ↦ more
      ];
    }

-- eight frames hold 32768 bytes
pub least_order_small : (bytes order : ℕ) → bytes ≤ 32768 → IsLeastOrder bytes order → order ≤ 3
least_order_small bytes order small is = is.least 3 (omega (arith, small))

-- at most 24 objects are asked of a slab, and they have their room in eight frames
pub most_within : (size cpus : ℕ) → 1 ≤ size → cpus ≤ 16 → (most_objects size cpus ≤ 24) × (most_objects size cpus * size ≤ 32768)
most_within size cpus some few =
    let bounds = fls_bounds cpus (omega arith) in
    let digits : fls cpus ≤ 5 = elim (cases_lt (fls cpus) 6) [
      | inl less ↦ omega arith
      | inr more ↦ let at_least : 2 ^ 6 ≤ 2 ^ fls cpus = pow_mono more in absurd (omega (arith, at_least, bounds.1))
    ] in
    let room : 32768 / size * size ≤ 32768 = omega arith in
    let fewer : most_objects size cpus * size ≤ 32768 / size * size = mul-le-mul_right size (omega arith) in
    (omega arith, omega (arith, room, fewer))

-- what an order says of a slot: it has room for it, no order is above 3, and a slot below 64 bytes has order 0
pub record IsRoomy (size order : ℕ) : Type 0 where
  pub small : order ≤ 3
  pub holds : size ≤ 4096 * 2 ^ order
  pub few_bytes : size < 64 → order ≡ 0

-- an order that fits some objects of at least one each
least_fit_is : (size objects fraction order : ℕ) → 1 < objects → IsLeastFit size objects fraction order → (order ≤ 3) × (size ≤ 4096 * 2 ^ order)
least_fit_is size objects fraction order some is =
    let more : 1 * size ≤ objects * size = mul-le-mul_right size (omega arith) in
    (is.fits.small, omega (arith, more, is.fits.holds))

-- a frame fits few objects of few bytes
zero_fits : (size objects : ℕ) → 1 ≤ size → size < 64 → objects ≤ 24 → Fits size objects 16 0
zero_fits size objects some few within =
    let bytes : objects * size ≤ 24 * 63 = mul-le objects size 24 63 within (omega arith) in
    let rest : 4096 % size < size = mod_below 4096 size some in
    record { holds = omega (arith, bytes); small = omega arith; spare = omega (arith, rest) }

-- what the order of some objects says of one slot
first_fit_is : (size objects order : ℕ) → 1 ≤ size → 1 < objects → objects ≤ 24 → IsFirstFit size objects order → IsRoomy size order
first_fit_is size objects order some above within (sixteenth is) =
    let facts = least_fit_is size objects 16 order above is in
    record { small = facts.0; holds = facts.1; few_bytes = λ few. let none = is.least 0 (zero_fits size objects some few within) in omega (arith, none) }
first_fit_is size objects order some above within (eighth not16 is) =
    let facts = least_fit_is size objects 8 order above is in
    record { small = facts.0; holds = facts.1; few_bytes = λ few. absurd (not16 (0, zero_fits size objects some few within)) }
first_fit_is size objects order some above within (quarter not16 not8 is) =
    let facts = least_fit_is size objects 4 order above is in
    record { small = facts.0; holds = facts.1; few_bytes = λ few. absurd (not16 (0, zero_fits size objects some few within)) }

-- what the order of a slab says of a slot
pub order_is : (size cpus order : ℕ) → 1 ≤ size → size ≤ 24576 → cpus ≤ 16 → IsOrder size cpus order → IsRoomy size order
order_is size cpus order some within few (greatest objects most is) =
    first_fit_is size objects order some most.above_one (omega (arith, most.within, most_within size cpus some few)) is
order_is size cpus order some within few (single none is) = record {
  small = least_order_small size order (omega arith) is;
  holds = is.holds;
  few_bytes = λ bytes. let zeroth = is.least 0 (omega arith) in omega (arith, zeroth);
}

-- ---- the search for an order

-- the last fraction decides where the others have no order
pub last_fit : (size objects : ℕ) (found : Option ℕ) → ¬ SomeFits size objects 16 → ¬ SomeFits size objects 8
    → MatchOption found (¬ SomeFits size objects 4) (IsLeastFit size objects 4) → MatchOption found (¬ HasOrder size objects) (IsFirstFit size objects)
last_fit size objects None not16 not8 not4 = λ some. elim some [ inl fits ↦ not16 fits | inr more ↦ elim more [ inl fits ↦ not8 fits | inr fits ↦ not4 fits ] ]
last_fit size objects (Some order) not16 not8 is = quarter not16 not8 is

-- the order of a fraction is one
pub has_order : {size objects order : ℕ} → IsFirstFit size objects order → HasOrder size objects
has_order {order = order} (sixteenth is) = inl (order, is.fits)
has_order {order = order} (eighth not16 is) = inr (inl (order, is.fits))
has_order {order = order} (quarter not16 not8 is) = inr (inr (order, is.fits))

-- no number of objects above this one has an order
abbrev pub NoneAbove : ℕ → ℕ → ℕ → Type 0
NoneAbove size most objects = (m : ℕ) → objects < m → m ≤ most → ¬ HasOrder size m

-- the first number from above that has an order is the greatest
pub greatest_is : (size cpus objects order : ℕ) → 1 < objects → objects ≤ most_objects size cpus → NoneAbove size (most_objects size cpus) objects
    → IsFirstFit size objects order → IsOrder size cpus order
greatest_is size cpus objects order above within none is =
    greatest objects (record {
      above_one = above;
      within = within;
      some = has_order is;
      greatest = λ m more most has. elim (cases_lt objects m) [ inl less ↦ absurd (none m less most has) | inr no_more ↦ no_more ];
    }) is

-- a number without an order joins those above it
pub none_more : (size most objects : ℕ) → 1 < objects → NoneAbove size most objects → ¬ HasOrder size objects → NoneAbove size most (objects - 1)
none_more size most objects above none here m more within has =
    elim (cases_lt objects m) [
      | inl less ↦ none m less within has
      | inr no_more ↦ let same : m ≡ objects = omega arith in here (subst (λ (x : ℕ). HasOrder size x) same has)
    ]
