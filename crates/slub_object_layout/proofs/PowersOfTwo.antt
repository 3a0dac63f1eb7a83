-- Powers of two: they are the numbers with one digit set, and up to 4096 they are small or whole words.
use Rattle.std.proofs.Common.{◌≡◌, ℕ, zero, suc, ◌+◌, ◌-◌, ◌*◌, ◌/◌, ◌%◌, ◌^◌, ◌<◌, ◌≤◌, ◌⊎◌, inl, inr, refl, ◌∙◌, ap, arith}
use Rattle.std.specs.Int.{IsPowerOfTwo}
use Rattle.std.specs.Int.Count.{ones, ones_in}
use Rattle.std.proofs.lemmas.Nat.{ones_cat, ones_le_self, zero_from_ones, pow-add}
use Rattle.std.proofs.lemmas.Bool.{cases_lt}
use Rattle.std.proofs.Math.Nat.{pow-suc, mul-mod_left}
use Rattle.std.proofs.Math.Pow.{pow_mono}

-- the number 1 has one digit
ones-one : ones 1 ≡ 1
unfolding ones ones_in
ones-one = refl

-- a last digit adds itself to the count
ones-halves : (n : ℕ) → ones n ≡ ones (n / 2) + ones (n % 2)
ones-halves n =
    let below : n % 2 < 2 ^ 1 = omega arith in
    let split : n ≡ n / 2 * 2 ^ 1 + n % 2 = omega arith in
    ap ones split ∙ ones_cat 1 (n / 2) (n % 2) below

-- a number with one digit set is a power of two
power_of_one : (fuel n : ℕ) → n ≤ fuel → ones n ≡ 1 → IsPowerOfTwo n
power_of_one zero n small one = absurd (omega (arith, ones_le_self n))
power_of_one (suc fuel) n small one =
    elim (cases_lt (n % 2) 1) [
      | inl even ↦
          let none : ones (n % 2) ≡ 0 = omega (arith, ones_le_self (n % 2)) in
          let half : ones (n / 2) ≡ 1 = omega (arith, ones-halves n) in
          let some : 1 ≤ n = omega (arith, ones_le_self n) in
          let k : IsPowerOfTwo (n / 2) = power_of_one fuel (n / 2) (omega arith) half in
          (suc k.0, omega (arith, k.1, pow-suc 2 k.0))
      | inr odd ↦
          let last : n % 2 ≡ 1 = omega arith in
          let here : ones (n % 2) ≡ 1 = ap ones last ∙ ones-one in
          let none : n / 2 ≡ 0 = zero_from_ones (n / 2) (omega (arith, ones-halves n)) in
          let is : n ≡ 1 = omega arith in
          (0, is)
    ]

-- the same, for any number
pub IsPowerOfTwo-ones : (n : ℕ) → ones n ≡ 1 → IsPowerOfTwo n
IsPowerOfTwo-ones n one = power_of_one n n (omega arith) one

-- a power of two has one digit set
ones-power : (k : ℕ) → ones (2 ^ k) ≡ 1
ones-power zero = ones-one
ones-power (suc k) =
    let none : ones 0 ≡ 0 = omega (arith, ones_le_self 0) in
    let split : 2 ^ suc k ≡ 2 ^ k * 2 ^ 1 + 0 = omega (arith, pow-suc 2 k) in
    ap ones split ∙ omega (arith, ones_cat 1 (2 ^ k) 0 (omega arith), ones-power k, none)

-- the same, for any power
pub ones-IsPowerOfTwo : (n : ℕ) → IsPowerOfTwo n → ones n ≡ 1
ones-IsPowerOfTwo n power = ap ones power.1 ∙ ones-power power.0

-- a power of two up to 4096 divides 4096
divides : (n : ℕ) → IsPowerOfTwo n → n ≤ 4096 → 4096 % n ≡ 0
divides n power within =
    elim (cases_lt power.0 13) [
      | inl less ↦
          let exponent : 12 ≡ (12 - power.0) + power.0 = omega arith in
          let split : 4096 ≡ 2 ^ (12 - power.0) * 2 ^ power.0 = ap (λ (e : ℕ). 2 ^ e) exponent ∙ pow-add 2 (12 - power.0) power.0 in
          rw power.1 (ap (λ (x : ℕ). x % 2 ^ power.0) split ∙ mul-mod_left (2 ^ (12 - power.0)) (2 ^ power.0))
      | inr more ↦ let at_least : 2 ^ 13 ≤ 2 ^ power.0 = pow_mono more in absurd (omega (arith, at_least, power.1, within))
    ]

-- a number of bytes at which objects can be aligned: whole words, and 4096 or at most half of that
pub record IsSlotAlign (a : ℕ) : Type 0 where
  pub from_word : 8 ≤ a
  pub words : a % 8 ≡ 0
  pub within : (a ≡ 4096) ⊎ (a ≤ 2048)
  pub divides_frame : 4096 % a ≡ 0

-- a power of two up to 4096 is below a word, or objects can be aligned at it
pub small_or_words : (n : ℕ) → IsPowerOfTwo n → n ≤ 4096 → (n ≤ 4) ⊎ IsSlotAlign n
small_or_words n power within =
    elim (cases_lt power.0 3) [
      | inl less ↦
          let few : 2 ^ power.0 ≤ 2 ^ 2 = pow_mono {i = power.0} {j = 2} (omega arith) in
          inl (omega (arith, few, power.1))
      | inr more ↦
          let exponent : power.0 ≡ 3 + (power.0 - 3) = omega arith in
          let split : 2 ^ power.0 ≡ 2 ^ 3 * 2 ^ (power.0 - 3) = ap (λ (e : ℕ). 2 ^ e) exponent ∙ pow-add 2 3 (power.0 - 3) in
          let at_least_word : 2 ^ 3 ≤ 2 ^ power.0 = pow_mono more in
          inr (record {
            from_word = omega (arith, at_least_word, power.1);
            words = omega (arith, split, power.1);
            within = elim (cases_lt power.0 12) [
              | inl half ↦ let at_most : 2 ^ power.0 ≤ 2 ^ 11 = pow_mono {i = power.0} {j = 11} (omega arith) in inr (omega (arith, at_most, power.1))
              | inr whole ↦ let at_least : 2 ^ 12 ≤ 2 ^ power.0 = pow_mono whole in inl (omega (arith, at_least, power.1, within))
            ];
            divides_frame = divides n power within;
          })
    ]
