-- The parts of a slot: where they lie, and what follows for what is examined and written.
use Rattle.std.proofs.Common.{◌≡◌, ◌==◌, ℕ, ◌+◌, ◌≤◌, ◌++◌, ◌↔◌, not, Bool, true, false, IsTrue, List, [], ◌∷◌, length, position, replicate, All, Option, None, Some, refl, ap, arith, subst, sym, ◌∙◌, if◌then◌else◌}
use Rattle.std.specs.List.{list_all}
use Rattle.std.proofs.lemmas.Bool.{false≢true}
use Rattle.std.proofs.lemmas.List.{get_or-replicate, length-replicate}
use Rattle.std.proofs.lemmas.List.Elements.{All-nil, All-cons, All-append}
use Rattle.slub_object_layout.specs.declared.layout.Flags.{Flags}
use Rattle.slub_object_layout.specs.declared.layout.Layout.{Layout}
use Rattle.slub_object_layout.specs.declared.layout.Spec.{Spec}
use Rattle.slub_object_layout.specs.Layout.{IsWithinBounds, offset_of, inuse_of}
use Rattle.slub_trace.specs.declared.damage.Damage.{Damage}
use Rattle.slub_red_zone.specs.declared.zones.Part.{Part}
use Rattle.slub_red_zone.specs.Zones.{red_inactive, red_active, padding_byte, left_zone, right_zone, poison_but_end, poison_last, padding_part, red_zones, poison, padding, written, examined_free, examined_used, first_damage, damage_when_given, damage_when_taken, set_up, fill_byte, new_slot}
use Rattle.slub_red_zone.specs.Bytes.{IsInSome, IsWhole, AreWhole, IsWritten, Tells}
use Rattle.slub_red_zone.specs.Sound.{IsLayoutFor}
use Rattle.slub_red_zone.proofs.SlotBytes.{IsInside, IsApart, AreApart, none-first, whole-first, told-first, written-all}

-- what holds of each of these parts
one_part : (P : Part → Type 0) (a : Part) → P a → All P (a ∷ [])
one_part P a x = All-cons P a [] x (All-nil P)

two_parts : (P : Part → Type 0) (a b : Part) → P a → P b → All P (a ∷ b ∷ [])
two_parts P a b x y = All-cons P a (b ∷ []) x (one_part P b y)

three_parts : (P : Part → Type 0) (a b c : Part) → P a → P b → P c → All P (a ∷ b ∷ c ∷ [])
three_parts P a b c x y z = All-cons P a (b ∷ c ∷ []) x (two_parts P b c y z)

-- nothing is found where F isn't set
where_checked : (checks : Bool) (found : Option Damage) (Whole : Type 0) → (found ≡ None → Whole) → (Whole → found ≡ None) → ((if checks then found else None) ≡ None) ↔ (IsTrue checks → Whole)
where_checked true found Whole to from = (λ none on. to none, λ whole. from (whole refl))
where_checked false found Whole to from = (λ none on. absurd (false≢true on), λ whole. refl)

found_there : (checks : Bool) (found : Option Damage) (damage : Damage) → (if checks then found else None) ≡ Some damage → found ≡ Some damage
found_there true found damage some = some
found_there false found damage some = cc

module _ (layout : Layout) (bounds : IsWithinBounds layout) where
  -- ---- each of them lies in the slot
  left-inside : (byte : ℕ) → IsInside layout.size (left_zone layout byte)
  left-inside byte = (omega arith, bounds.left_pad)

  right-inside : (byte : ℕ) → IsInside layout.size (right_zone layout byte)
  right-inside byte = (omega (arith, bounds.inuse), omega (arith, bounds.inuse, bounds.left_pad))

  but_end-inside : IsInside layout.size (poison_but_end layout)
  but_end-inside = (omega (arith, bounds.object_size), omega (arith, bounds.inuse, bounds.left_pad, bounds.object_size))

  last-inside : IsInside layout.size (poison_last layout)
  last-inside = (omega arith, omega (arith, bounds.inuse, bounds.left_pad, bounds.object_size))

  pad-inside : IsInside layout.size (padding_part layout)
  pad-inside = (omega (arith, bounds.offset, bounds.left_pad), omega arith)

  zones-inside : (z : Bool) (byte : ℕ) → All (IsInside layout.size) (if z then (left_zone layout byte ∷ right_zone layout byte ∷ []) else [])
  zones-inside false byte = All-nil (IsInside layout.size)
  zones-inside true byte = two_parts (IsInside layout.size) (left_zone layout byte) (right_zone layout byte) (left-inside byte) (right-inside byte)

  poison-inside : (p : Bool) → All (IsInside layout.size) (if p then (poison_but_end layout ∷ poison_last layout ∷ []) else [])
  poison-inside false = All-nil (IsInside layout.size)
  poison-inside true = two_parts (IsInside layout.size) (poison_but_end layout) (poison_last layout) but_end-inside last-inside

  padding-inside : (p : Bool) → All (IsInside layout.size) (if p then (padding_part layout ∷ []) else [])
  padding-inside false = All-nil (IsInside layout.size)
  padding-inside true = one_part (IsInside layout.size) (padding_part layout) pad-inside

  free-inside : (flags : Flags) → All (IsInside layout.size) (examined_free layout flags)
  free-inside flags =
      let front = All-append (IsInside layout.size) (red_zones layout flags red_inactive) (poison layout flags) (zones-inside flags.zones red_inactive) (poison-inside flags.poison) in
      All-append (IsInside layout.size) (written layout flags red_inactive) (padding layout flags) front (padding-inside flags.poison)

  used-inside : (flags : Flags) → All (IsInside layout.size) (examined_used layout flags)
  used-inside flags = All-append (IsInside layout.size) (red_zones layout flags red_active) (padding layout flags) (zones-inside flags.zones red_active) (padding-inside flags.poison)

  -- ---- no two of those that are written have a byte in common
  poison-apart : AreApart layout.size (poison_but_end layout ∷ poison_last layout ∷ [])
  poison-apart = (but_end-inside, one_part (IsApart (poison_but_end layout)) (poison_last layout) (λ place a b. omega (arith, a, b)), (last-inside, All-nil (IsApart (poison_last layout)), tt))

  apart : (z p : Bool) (byte : ℕ) → AreApart layout.size ((if z then (left_zone layout byte ∷ right_zone layout byte ∷ []) else []) ++ (if p then (poison_but_end layout ∷ poison_last layout ∷ []) else []))
  apart false false byte = tt
  apart false true byte = poison-apart
  apart true false byte = (
    left-inside byte,
    one_part (IsApart (left_zone layout byte)) (right_zone layout byte) (λ place a b. omega (arith, a, b)),
    (right-inside byte, All-nil (IsApart (right_zone layout byte)), tt),
  )
  apart true true byte = (
    left-inside byte,
    three_parts (IsApart (left_zone layout byte)) (right_zone layout byte) (poison_but_end layout) (poison_last layout)
        (λ place a b. omega (arith, a, b)) (λ place a b. omega (arith, a, b)) (λ place a b. omega (arith, a, b, bounds.object_size)),
    (
      right-inside byte,
      two_parts (IsApart (right_zone layout byte)) (poison_but_end layout) (poison_last layout) (λ place a b. omega (arith, a, b)) (λ place a b. omega (arith, a, b)),
      poison-apart,
    ),
  )

  module _ (flags : Flags) (slot : List ℕ) (same : length slot ≡ layout.size) where
    in_slot : (parts : List Part) → All (IsInside layout.size) parts → All (IsInside (length slot)) parts
    in_slot parts inside = let P : ℕ → Type 0 = λ n. All (IsInside n) parts in subst P (sym same) inside

    -- ---- where there is no damage
    pub given-whole : (damage_when_given layout flags slot ≡ None) ↔ (IsTrue flags.checks → AreWhole slot (examined_free layout flags))
    given-whole =
        let inside = in_slot (examined_free layout flags) (free-inside flags) in
        where_checked flags.checks (first_damage layout slot (examined_free layout flags)) (AreWhole slot (examined_free layout flags))
        (whole-first layout slot (examined_free layout flags) inside) (none-first layout slot (examined_free layout flags) inside)

    pub taken-whole : (damage_when_taken layout flags slot ≡ None) ↔ (IsTrue flags.checks → AreWhole slot (examined_used layout flags))
    taken-whole =
        let inside = in_slot (examined_used layout flags) (used-inside flags) in
        where_checked flags.checks (first_damage layout slot (examined_used layout flags)) (AreWhole slot (examined_used layout flags))
        (whole-first layout slot (examined_used layout flags) inside) (none-first layout slot (examined_used layout flags) inside)

    -- ---- what is told
    pub given-tells : (damage : Damage) → damage_when_given layout flags slot ≡ Some damage → Tells layout slot (examined_free layout flags) damage
    given-tells damage some =
        told-first layout slot (examined_free layout flags) damage (in_slot (examined_free layout flags) (free-inside flags))
        (found_there flags.checks (first_damage layout slot (examined_free layout flags)) damage some)

    pub taken-tells : (damage : Damage) → damage_when_taken layout flags slot ≡ Some damage → Tells layout slot (examined_used layout flags) damage
    taken-tells damage some =
        told-first layout slot (examined_used layout flags) damage (in_slot (examined_used layout flags) (used-inside flags))
        (found_there flags.checks (first_damage layout slot (examined_used layout flags)) damage some)

    -- ---- what is written
    pub set_up-writes : (byte : ℕ) → IsWritten slot (written layout flags byte) (set_up layout flags byte slot)
    unfolding set_up
    set_up-writes byte =
        let A : ℕ → Type 0 = λ n. AreApart n (written layout flags byte) in
        written-all (written layout flags byte) slot (subst A (sym same) (apart flags.zones flags.poison byte))

-- ---- a new slab

-- with poison the free pointer stands behind the object and its red zone
behind : (spec : Spec) → spec.flags.poison ≡ true → offset_of spec ≡ inuse_of spec
unfolding offset_of
behind spec on = rw on refl

module _ (layout : Layout) (flags : Flags) (is : IsLayoutFor flags layout) where
  -- what is written ends before the padding
  zones-end : (z : Bool) → All (λ part. part.to ≤ layout.left_pad + layout.inuse) (if z then (left_zone layout red_inactive ∷ right_zone layout red_inactive ∷ []) else [])
  zones-end false = All-nil (λ (part : Part). part.to ≤ layout.left_pad + layout.inuse)
  zones-end true = two_parts (λ part. part.to ≤ layout.left_pad + layout.inuse) (left_zone layout red_inactive) (right_zone layout red_inactive) (omega (arith, is.bounds.inuse)) (omega arith)

  poison-ends : (p : Bool) → All (λ part. part.to ≤ layout.left_pad + layout.inuse) (if p then (poison_but_end layout ∷ poison_last layout ∷ []) else [])
  poison-ends false = All-nil (λ (part : Part). part.to ≤ layout.left_pad + layout.inuse)
  poison-ends true = two_parts (λ part. part.to ≤ layout.left_pad + layout.inuse) (poison_but_end layout) (poison_last layout) (omega (arith, is.bounds.inuse)) (omega (arith, is.bounds.inuse))

  past : (place : ℕ) → layout.left_pad + layout.inuse ≤ place → ¬ IsInSome (written layout flags red_inactive) place
  past place from (k, part, less, same, in_part) =
      let all = All-append (λ part. part.to ≤ layout.left_pad + layout.inuse) (red_zones layout flags red_inactive) (poison layout flags) (zones-end flags.zones) (poison-ends flags.poison) in
      let E : Part → Type 0 = λ part. part.to ≤ layout.left_pad + layout.inuse in
      let h = subst E same (all k part less) in
      omega (arith, h, from, in_part)

  -- so a new slot keeps in its padding what the slab was filled with
  pad-whole : (p : Bool) → flags.poison ≡ p → All (IsWhole (new_slot layout flags)) (if p then (padding_part layout ∷ []) else [])
  pad-whole false off = All-nil (IsWhole (new_slot layout flags))
  pad-whole true on =
      let slot = replicate layout.size (fill_byte flags) in
      let w = set_up-writes layout is.bounds flags slot (length-replicate layout.size (fill_byte flags)) red_inactive in
      let fill : fill_byte flags ≡ padding_byte = rw on refl in
      let poisoned : is.spec.flags.poison ≡ true = ap (λ (flags : Flags). flags.poison) is.same_flags ∙ on in
      let place_is : layout.offset ≡ layout.inuse = is.solved.offset ∙ behind is.spec poisoned ∙ sym is.solved.inuse in
      one_part (IsWhole (new_slot layout flags)) (padding_part layout)
      (λ place in_part.
      w.others place (past place (omega (arith, place_is, in_part))) ∙ get_or-replicate layout.size place (fill_byte flags) 0 in_part.1 ∙ fill)

  -- every byte that is examined before an object is given is the wanted one
  pub new-whole : AreWhole (new_slot layout flags) (examined_free layout flags)
  new-whole =
      let w = set_up-writes layout is.bounds flags (replicate layout.size (fill_byte flags)) (length-replicate layout.size (fill_byte flags)) red_inactive in
      All-append (IsWhole (new_slot layout flags)) (written layout flags red_inactive) (padding layout flags) w.whole (pad-whole flags.poison refl)

  pub new-long : length (new_slot layout flags) ≡ layout.size
  new-long =
      let w = set_up-writes layout is.bounds flags (replicate layout.size (fill_byte flags)) (length-replicate layout.size (fill_byte flags)) red_inactive in
      w.as_long ∙ length-replicate layout.size (fill_byte flags)

  -- so nothing keeps an object of a new slab from being given
  pub new-given : damage_when_given layout flags (new_slot layout flags) ≡ None
  new-given = (given-whole layout is.bounds flags (new_slot layout flags) new-long).1 (λ on. new-whole)

-- where every byte is this one, none is another
pub none_other : (byte : ℕ) (bytes : List ℕ) → list_all (λ x. x == byte) bytes ≡ true → position (λ x. not (x == byte)) bytes ≡ None
none_other byte [] all = grind arith
none_other byte (x ∷ xs) all = grind (arith, none_other byte xs)
