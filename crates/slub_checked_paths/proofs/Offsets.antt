-- Offsets within a slot, as tests and as facts.
use Rattle.std.proofs.Common.{◌≡◌, ℕ, Bool, true, false, ◌&&◌, inl, inr, refl, sym}
use Rattle.std.specs.Prelude.{ℤ, pos, int_le, int_lt, ◌≤ℤ◌, ◌<ℤ◌, T, Result, Ok, Err}
use Rattle.std.proofs.lemmas.Bool.{cases_Bool}
use Rattle.std.proofs.lemmas.Float.{T_from_true}
use Rattle.slub_red_zone.specs.declared.checked.Slot.{Slot}
use Rattle.slub_red_zone.specs.declared.checked.OutOfSlot.{OutOfSlot}
use Rattle.slub_red_zone.specs.State.{CheckedState}
use Rattle.slub_red_zone.specs.Steps.{Pokes, with_byte, place_of}
use Rattle.slub_core.specs.Checked.{is_offset}

true-of : (b : Bool) → T b → b ≡ true
true-of true h = refl
true-of false h = absurd h

both : (a b : Bool) → (a && b) ≡ true → (a ≡ true) × (b ≡ true)
both true true e = (refl, refl)
both true false e = (refl, e)
both false b e = absurd (cc)

-- a number lies between two, where the test says so
pub is-between : (x p y : ℤ) → (int_le x p && int_lt p y) ≡ true → (x ≤ℤ p) × (p <ℤ y)
is-between x p y e =
    let h = both (int_le x p) (int_lt p y) e in
    (record { le = T_from_true (int_le x p) h.0 }, record { lt = T_from_true (int_lt p y) h.1 })

-- what is true exactly where it does is what the test says
pub between : (b : Bool) (x p y : ℤ) → (b ≡ true → (x ≤ℤ p) × (p <ℤ y)) → ((x ≤ℤ p) × (p <ℤ y) → b ≡ true) → b ≡ (int_le x p && int_lt p y)
between true x p y to from =
    let h = to refl in
    let low : int_le x p ≡ true = true-of (int_le x p) h.0.le in
    let high : int_lt p y ≡ true = true-of (int_lt p y) h.1.lt in
    rw (low, high) refl
between false x p y to from =
    elim (cases_Bool (int_le x p && int_lt p y)) [
      | inl is ↦ absurd (let e : false ≡ true = from (is-between x p y is) in cc)
      | inr isn ↦ sym isn
    ]

-- a byte at an offset within the slot is written
pub poked : (s : CheckedState) (slot : Slot) (offset : ℤ) (byte : ℕ) (r : Result (Unit {0}) OutOfSlot) (after : CheckedState) → is_offset s.layout offset ≡ true → Pokes s slot offset byte r after
    → after ≡ with_byte s slot offset byte
poked s slot offset byte (Ok done) after inside pokes = pokes.1
poked s slot offset byte (Err out) after inside pokes = absurd (pokes.0 (is-between (pos 0) (place_of s.layout offset) (pos s.layout.size) inside))
