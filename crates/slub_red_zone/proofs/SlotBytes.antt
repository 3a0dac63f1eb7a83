-- The bytes of one slot: what is whole, what is told, and what is written.
use Rattle.std.proofs.Common.{◌≡◌, ◌≢◌, ℕ, suc, ◌+◌, ◌-◌, ◌<◌, ◌≤◌, ◌==◌, not, Bool, true, false, List, [], ◌∷◌, length, get_or, drop, replicate, fold, All, Option, None, Some, option_map, refl, ap, arith, subst, sym, ◌∙◌, length-take, length-drop, inl, inr}
use Rattle.std.specs.Prelude.{position, slice_range, slice_index}
use Rattle.std.specs.Option.{option_or}
use Rattle.std.specs.List.{prefix_len}
use Rattle.std.proofs.lemmas.Bool.Decides.{nat_tests}
use Rattle.std.proofs.lemmas.Bool.{cases_lt, false≢true}
use Rattle.std.proofs.lemmas.Int.{ints}
use Rattle.std.proofs.lemmas.List.{get_or-take, get_or-drop, get_or-replicate, length-replicate}
use Rattle.std.proofs.lemmas.List.Elements.{All-nil, All-cons, All-head, All-tail}
use Rattle.std.proofs.lemmas.List.Quantifiers.{position-Some}
use Rattle.std.proofs.lemmas.List.Sums.{prefix_len_passes}
use Rattle.slub_object_layout.specs.declared.layout.Layout.{Layout}
use Rattle.slub_trace.specs.declared.damage.Damage.{Damage}
use Rattle.slub_red_zone.specs.declared.zones.Part.{Part}
use Rattle.slub_red_zone.specs.Zones.{damage_at, damage_in, first_damage, with_part}
use Rattle.slub_red_zone.specs.Bytes.{IsIn, IsWhole, AreWhole, IsWritten, Tells}
use Rattle.slub_red_zone.proofs.Splices.{spliced-long, spliced-in, spliced-before, spliced-behind}

-- the part lies in a slot of so many bytes
abbrev pub IsInside : ℕ → Part → Type 0
IsInside n part = (part.from ≤ part.to) × (part.to ≤ n)

-- ---- one part

-- another byte than the wanted one
abbrev is_other : ℕ → ℕ → Bool
is_other wanted byte = not (byte == wanted)

-- where no place passes, none does
none-passes : (p : ℕ → Bool) (xs : List ℕ) → position p xs ≡ None → (k : ℕ) → k < length xs → p (get_or xs k 0) ≡ false
none-passes p xs none k inside =
    elim (cases_lt k (prefix_len (λ x. not (p x)) xs)) [
      | inl before ↦ negated (p (get_or xs k 0)) (prefix_len_passes (λ x. not (p x)) xs k 0 before)
      | inr past ↦ absurd (grind (arith, nat_tests, none, past, inside))
    ]
  where
    negated : (b : Bool) → not b ≡ true → b ≡ false
    negated true h = absurd (false≢true h)
    negated false h = refl

-- a byte of the part, as it stands in the slot
read : (slot : List ℕ) (part : Part) (k : ℕ) → k < part.to - part.from → get_or (slice_range slot part.from part.to) k 0 ≡ get_or slot (part.from + k) 0
read slot part k inside = get_or-take (part.to - part.from) (drop part.from slot) k 0 inside ∙ get_or-drop part.from slot k 0

long : (slot : List ℕ) (part : Part) → IsInside (length slot) part → length (slice_range slot part.from part.to) ≡ part.to - part.from
long slot part inside = omega (arith, length-take (part.to - part.from) (drop part.from slot), length-drop part.from slot, inside)

-- a byte is the wanted one, or it isn't
is-same : (byte wanted : ℕ) → is_other wanted byte ≡ false → byte ≡ wanted
is-same byte wanted h = grind (arith, nat_tests, h)

is-different : (byte wanted : ℕ) → is_other wanted byte ≡ true → byte ≢ wanted
is-different byte wanted h same = grind (arith, nat_tests, h, same)

-- where no damage is in the part, it is whole
whole-in : (layout : Layout) (slot : List ℕ) (part : Part) → IsInside (length slot) part → damage_in layout slot part ≡ None → IsWhole slot part
whole-in layout slot part inside none place in_part =
    let k = place - part.from in
    let few : k < part.to - part.from = omega (arith, in_part) in
    let place_is : part.from + k ≡ place = omega (arith, in_part) in
    let lies : k < length (slice_range slot part.from part.to) = omega (arith, long slot part inside, few) in
    let no = none-passes (is_other part.wanted) (slice_range slot part.from part.to) (unmapped (position (is_other part.wanted) (slice_range slot part.from part.to)) none) k lies in
    let here = ap (λ (p : ℕ). get_or slot p 0) place_is in
    sym here ∙ sym (read slot part k few) ∙ is-same (get_or (slice_range slot part.from part.to) k 0) part.wanted no
  where
    unmapped : (o : Option ℕ) → option_map (λ at. damage_at layout slot part (part.from + at)) o ≡ None → o ≡ None
    unmapped None e = refl
    unmapped (Some at) e = cc

-- what is told of a part is told of a byte in it
told-in : (layout : Layout) (slot : List ℕ) (part : Part) (damage : Damage) → IsInside (length slot) part → damage_in layout slot part ≡ Some damage
    → (place : ℕ) × IsIn part place × (damage ≡ damage_at layout slot part place) × (slice_index slot place ≢ part.wanted)
told-in layout slot part damage inside some = told (position (is_other part.wanted) (slice_range slot part.from part.to)) refl some
  where
    told : (o : Option ℕ) → position (is_other part.wanted) (slice_range slot part.from part.to) ≡ o → option_map (λ at. damage_at layout slot part (part.from + at)) o ≡ Some damage
        → (place : ℕ) × IsIn part place × (damage ≡ damage_at layout slot part place) × (slice_index slot place ≢ part.wanted)
    told None at e = cc
    told (Some k) at e =
        let found = position-Some (is_other part.wanted) (slice_range slot part.from part.to) k 0 at in
        let few : k < part.to - part.from = omega (arith, found.0, long slot part inside) in
        let is : damage ≡ damage_at layout slot part (part.from + k) = cc in
        let other = is-different (get_or (slice_range slot part.from part.to) k 0) part.wanted found.1 in
        (part.from + k, (omega arith, omega (arith, few)), is, λ same. other (read slot part k few ∙ same))

-- a part that is whole has no damage
none-in : (layout : Layout) (slot : List ℕ) (part : Part) → IsInside (length slot) part → IsWhole slot part → damage_in layout slot part ≡ None
none-in layout slot part inside whole = none (damage_in layout slot part) refl
  where
    none : (o : Option Damage) → damage_in layout slot part ≡ o → o ≡ None
    none None e = refl
    none (Some damage) e = let t = told-in layout slot part damage inside e in absurd (t.3 (whole t.0 t.1))

-- ---- some parts, one after the other

-- no damage is found where all of them are whole, and only there
pub none-first : (layout : Layout) (slot : List ℕ) (parts : List Part) → All (IsInside (length slot)) parts → AreWhole slot parts → first_damage layout slot parts ≡ None
none-first layout slot [] inside whole = refl
none-first layout slot (part ∷ parts) inside whole =
    let here = none-in layout slot part (All-head (IsInside (length slot)) part parts inside) (All-head (IsWhole slot) part parts whole) in
    rw here (none-first layout slot parts (All-tail (IsInside (length slot)) part parts inside) (All-tail (IsWhole slot) part parts whole))

pub whole-first : (layout : Layout) (slot : List ℕ) (parts : List Part) → All (IsInside (length slot)) parts → first_damage layout slot parts ≡ None → AreWhole slot parts
whole-first layout slot [] inside none = All-nil (IsWhole slot)
whole-first layout slot (part ∷ parts) inside none =
    let both = parted (damage_in layout slot part) (first_damage layout slot parts) none in
    All-cons (IsWhole slot) part parts (whole-in layout slot part (All-head (IsInside (length slot)) part parts inside) both.0)
    (whole-first layout slot parts (All-tail (IsInside (length slot)) part parts inside) both.1)
  where
    parted : (a b : Option Damage) → option_or a b ≡ None → (a ≡ None) × (b ≡ None)
    parted None b e = (refl, e)
    parted (Some x) b e = cc

-- what is found is told of one of them
pub told-first : (layout : Layout) (slot : List ℕ) (parts : List Part) (damage : Damage) → All (IsInside (length slot)) parts → first_damage layout slot parts ≡ Some damage → Tells layout slot parts damage
told-first layout slot [] damage inside some = cc
told-first layout slot (part ∷ parts) damage inside some =
    told (damage_in layout slot part) refl some (λ rest. told-first layout slot parts damage (All-tail (IsInside (length slot)) part parts inside) rest)
  where
    of_part : (place : ℕ) → IsIn part place → damage ≡ damage_at layout slot part place → slice_index slot place ≢ part.wanted → Tells layout slot (part ∷ parts) damage
    of_part place in_part is other =
        let P : Damage → Type 0 = Tells layout slot (part ∷ parts) in
        subst P (sym is) (record {
          part = part;
          place = place;
          of_these = (0, omega arith, refl);
          inside = in_part;
          zone = refl;
          offset = omega (arith, ints);
          found = refl;
          wanted = refl;
          other = other;
        })

    told : (o : Option Damage) → damage_in layout slot part ≡ o → option_or o (first_damage layout slot parts) ≡ Some damage → (first_damage layout slot parts ≡ Some damage → Tells layout slot parts damage)
        → Tells layout slot (part ∷ parts) damage
    told None at e later =
        let t = later e in
        record { part = t.part; place = t.place; of_these = (suc t.of_these.0, omega (arith, t.of_these.1), t.of_these.2); inside = t.inside; zone = t.zone; offset = t.offset; found = t.found; wanted = t.wanted; other = t.other }
    told (Some x) at e later =
        let t = told-in layout slot part damage (All-head (IsInside (length slot)) part parts inside) (at ∙ e) in
        of_part t.0 t.1 t.2 t.3

-- ---- writing

-- a part is written
module _ (slot : List ℕ) (part : Part) (inside : IsInside (length slot) part) where
  wide : length (replicate (part.to - part.from) part.wanted) ≡ part.to - part.from
  wide = length-replicate (part.to - part.from) part.wanted

  long-with : length (with_part slot part) ≡ length slot
  long-with = spliced-long slot (replicate (part.to - part.from) part.wanted) part.from part.to inside.0 inside.1 wide

  written-in : IsWhole (with_part slot part) part
  written-in place in_part =
      spliced-in slot (replicate (part.to - part.from) part.wanted) part.from part.to inside.0 inside.1 wide place in_part.0 in_part.1
      ∙ get_or-replicate (part.to - part.from) (place - part.from) part.wanted 0 (omega (arith, in_part))

  stays-out : (place : ℕ) → ¬ IsIn part place → slice_index (with_part slot part) place ≡ slice_index slot place
  stays-out place out =
      elim (cases_lt place part.from) [
        | inl before ↦ spliced-before slot (replicate (part.to - part.from) part.wanted) part.from part.to inside.0 inside.1 wide place before
        | inr from ↦
            elim (cases_lt place part.to) [
              | inl inner ↦ absurd (out (from, inner))
              | inr past ↦ spliced-behind slot (replicate (part.to - part.from) part.wanted) part.from part.to inside.0 inside.1 wide place past
            ]
      ]

-- the part has no byte of the other
abbrev pub IsApart : Part → Part → Type 0
IsApart part other = (place : ℕ) → IsIn part place → ¬ IsIn other place

-- the parts lie in a slot of so many bytes, and no two have a byte in common
abbrev pub AreApart : ℕ → List Part → Type 0
AreApart n [] = Unit {0}
AreApart n (part ∷ parts) = IsInside n part × All (IsApart part) parts × AreApart n parts

-- parts are written one after the other
pub written-all : (parts : List Part) (slot : List ℕ) → AreApart (length slot) parts → IsWritten slot parts (fold with_part slot parts)
written-all [] slot apart = record { whole = All-nil (IsWhole slot); others = λ place out. refl; as_long = refl }
written-all (part ∷ parts) slot apart =
    let now = with_part slot part in
    let same = long-with slot part apart.0 in
    let F : ℕ → Type 0 = λ n. AreApart n parts in
    let rest = written-all parts now (subst F (sym same) apart.2) in
    record {
      whole = All-cons (IsWhole (fold with_part now parts)) part parts
          (λ place in_part. rest.others place (λ (k, other, less, is, in_other). in_one place in_part k other less is in_other) ∙ written-in slot part apart.0 place in_part) rest.whole;
      others = λ place out.
          rest.others place (λ (k, other, less, is, in_other). out (suc k, other, omega (arith, less), is, in_other)) ∙ stays-out slot part apart.0 place (λ in_part. out (0, part, omega arith, refl, in_part));
      as_long = rest.as_long ∙ same;
    }
  where
    in_one : (place : ℕ) → IsIn part place → (k : ℕ) (other : Part) → k < length parts → get_or parts k other ≡ other → IsIn other place → ⊥
    in_one place in_part k other less is in_other = let A : Part → Type 0 = IsApart part in subst A is (apart.1 k other less) place in_part in_other
