-- The places that are marked in a list, in rising number: what they are, and the list with one mark less.
use Rattle.std.proofs.Common.{◌≡◌, ℕ, zero, suc, ◌+◌, ◌<◌, ◌≤◌, Bool, true, false, List, [], ◌∷◌, length, get_or, set, refl, ap, ◌∙◌, arith}
use Rattle.std.specs.List.{remove}
use Rattle.slub_schedule.specs.Schedule.{places_from}

-- no place is below the first
pub places_above : (n : ℕ) (marks : List Bool) (at : ℕ) → at < length (places_from n marks) → n ≤ get_or (places_from n marks) at 0
places_above n [] at below = absurd (omega arith)
places_above n (true ∷ marks) zero below = omega arith
places_above n (true ∷ marks) (suc at) below = let r = places_above (suc n) marks at (omega arith) in omega arith
places_above n (false ∷ marks) at below = let r = places_above (suc n) marks at below in omega arith

-- a place is marked
pub places_marked : (n : ℕ) (marks : List Bool) (at : ℕ) → at < length (places_from n marks) → (k : ℕ) × (get_or (places_from n marks) at 0 ≡ n + k) × (k < length marks) × (get_or marks k false ≡ true)
places_marked n [] at below = absurd (omega arith)
places_marked n (true ∷ marks) zero below = (0, omega arith, omega arith, refl)
places_marked n (true ∷ marks) (suc at) below = let r = places_marked (suc n) marks at (omega arith) in (suc r.0, r.1 ∙ omega arith, omega (arith, r.2), r.3)
places_marked n (false ∷ marks) at below = let r = places_marked (suc n) marks at below in (suc r.0, r.1 ∙ omega arith, omega (arith, r.2), r.3)

-- without one place: with one mark less
pub places-remove : (n : ℕ) (marks : List Bool) (at k : ℕ) → at < length (places_from n marks) → get_or (places_from n marks) at 0 ≡ n + k → remove (places_from n marks) at ≡ places_from n (set marks k false)
places-remove n [] at k below is = absurd (omega arith)
places-remove n (true ∷ marks) zero zero below is = refl
places-remove n (true ∷ marks) zero (suc k) below is = absurd (omega arith)
places-remove n (true ∷ marks) (suc at) zero below is = let r = places_above (suc n) marks at (omega arith) in absurd (omega arith)
places-remove n (true ∷ marks) (suc at) (suc k) below is = ap (λ xs. n ∷ xs) (places-remove (suc n) marks at k (omega arith) (is ∙ omega arith))
places-remove n (false ∷ marks) at zero below is = let r = places_above (suc n) marks at below in absurd (omega arith)
places-remove n (false ∷ marks) at (suc k) below is = places-remove (suc n) marks at k below (is ∙ omega arith)
