-- A hardened pointer comes back under its random number and place.
use Rattle.std.proofs.Common.{◌≡◌, ℕ, sym, ◌∙◌, ap, bit_xor}
use Rattle.std.specs.Int.{swap_bytes, w64}
use Rattle.std.specs.Int.Bits.{xor_assoc, xor_self, xor_zero_l, xor_zero_r}
use Rattle.std.proofs.lemmas.Nat.{xor_comm}
use Rattle.slub_words.specs.Words.{freelist_ptr}

-- a number taken in on both sides falls out
between : (k r : ℕ) → bit_xor k (bit_xor r k) ≡ r
between k r = ap (bit_xor k) (xor_comm r k) ∙ sym (xor_assoc k k r) ∙ ap (λ (x : ℕ). bit_xor x r) (xor_self k) ∙ xor_zero_l r

-- what is taken in and out with two numbers is as it was
twice : (p r k : ℕ) → bit_xor (bit_xor (bit_xor (bit_xor p r) k) r) k ≡ p
twice p r k =
    xor_assoc (bit_xor (bit_xor p r) k) r k ∙ xor_assoc (bit_xor p r) k (bit_xor r k) ∙ ap (bit_xor (bit_xor p r)) (between k r)
    ∙ xor_assoc p r r ∙ ap (bit_xor p) (xor_self r) ∙ xor_zero_r p

-- to harden twice under one random number and place changes nothing
pub come_back : (pointer random place : ℕ) → freelist_ptr (freelist_ptr pointer random place) random place ≡ pointer
unfolding freelist_ptr
come_back pointer random place = twice pointer random (swap_bytes w64 place)
