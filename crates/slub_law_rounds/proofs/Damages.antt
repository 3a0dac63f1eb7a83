-- A damage is a byte of a checked part that isn't the wanted one.
use Rattle.std.proofs.Common.{◌≡◌, ◌≢◌, ℕ, suc, ◌+◌, ◌<◌, ◌≤◌, Bool, true, false, cond, eqb, not, List, [], ◌∷◌, length, get_or, refl, sym, ◌∙◌, ap, arith, Option, Some, None, option_map}
use Rattle.std.specs.Prelude.{position, slice_index, slice_range}
use Rattle.std.specs.List.{Contains}
use Rattle.std.specs.Option.{option_or}
use Rattle.std.proofs.lemmas.Bool.{eq-eqb}
use Rattle.std.proofs.lemmas.Grind.{common_steps}
use Rattle.std.proofs.lemmas.List.Quantifiers.{position-Some}
use Rattle.slub_object_layout.specs.declared.layout.Flags.{Flags}
use Rattle.slub_object_layout.specs.declared.layout.Layout.{Layout}
use Rattle.slub_trace.specs.declared.damage.Damage.{Damage}
use Rattle.slub_red_zone.specs.declared.zones.Part.{Part}
use Rattle.slub_red_zone.specs.Zones.{damage_at, damage_in, damage_when_given, damage_when_taken, examined_free, examined_used, first_damage}

-- the byte at a place of the part is the damage
pub record IsDamageIn (layout : Layout) (slot : List ℕ) (part : Part) (damage : Damage) : Type 0 where
  pub place : ℕ
  pub from : part.from ≤ place
  pub below : place < part.to
  pub is : damage ≡ damage_at layout slot part place
  pub differs : slice_index slot place ≢ part.wanted

read-range : (xs : List ℕ) (from to at : ℕ) → at < length (slice_range xs from to) → (from + at < to) × (get_or (slice_range xs from to) at 0 ≡ get_or xs (from + at) 0)
read-range xs from to at inside = (grind (arith, common_steps), grind (arith, common_steps))

in-part : (layout : Layout) (slot : List ℕ) (part : Part) (damage : Damage) → damage_in layout slot part ≡ Some damage → IsDamageIn layout slot part damage
in-part layout slot part damage is = by (position (λ byte. not (eqb byte part.wanted)) (slice_range slot part.from part.to)) refl is
  where
    differs : (byte : ℕ) → not (eqb byte part.wanted) ≡ true → byte ≢ part.wanted
    differs byte other same = absurd (let never : false ≡ true = sym (ap not (eq-eqb byte part.wanted same)) ∙ other in cc)

    by : (x : Option ℕ) → position (λ byte. not (eqb byte part.wanted)) (slice_range slot part.from part.to) ≡ x → option_map (λ at. damage_at layout slot part (part.from + at)) x ≡ Some damage → IsDamageIn layout slot part damage
    by None e is = absurd (cc)
    by (Some at) e is =
        let first = position-Some (λ byte. not (eqb byte part.wanted)) (slice_range slot part.from part.to) at 0 e in
        let read = read-range slot part.from part.to at first.0 in
        record {
          place = part.from + at;
          from = omega arith;
          below = read.0;
          is = let same : damage ≡ damage_at layout slot part (part.from + at) = cc in same;
          differs = λ same. differs (get_or (slice_range slot part.from part.to) at 0) first.1 (read.1 ∙ same);
        }

-- the first damage of some parts is in one of them
pub record IsDamageOf (layout : Layout) (slot : List ℕ) (parts : List Part) (damage : Damage) : Type 0 where
  pub part : Part
  pub one : Contains parts part
  pub here : IsDamageIn layout slot part damage

pub first-damage : (layout : Layout) (slot : List ℕ) (parts : List Part) (damage : Damage) → first_damage layout slot parts ≡ Some damage → IsDamageOf layout slot parts damage
first-damage layout slot [] damage is = absurd (cc)
first-damage layout slot (part ∷ parts) damage is = by (first-damage layout slot parts damage) (damage_in layout slot part) refl is
  where
    by : (first_damage layout slot parts ≡ Some damage → IsDamageOf layout slot parts damage) → (x : Option Damage) → damage_in layout slot part ≡ x → option_or x (first_damage layout slot parts) ≡ Some damage → IsDamageOf layout slot (part ∷ parts) damage
    by again None e is = let more = again is in record { part = more.part; one = (suc more.one.0, omega (arith, more.one.1), more.one.2); here = more.here }
    by again (Some first) e is = record { part = part; one = (0, omega arith, refl); here = in-part layout slot part damage (e ∙ is) }

pub damage-given : (layout : Layout) (flags : Flags) (slot : List ℕ) (damage : Damage) → damage_when_given layout flags slot ≡ Some damage → IsDamageOf layout slot (examined_free layout flags) damage
damage-given layout flags slot damage is = by flags.checks is
  where
    by : (b : Bool) → cond b (first_damage layout slot (examined_free layout flags)) None ≡ Some damage → IsDamageOf layout slot (examined_free layout flags) damage
    by true is = first-damage layout slot (examined_free layout flags) damage is
    by false is = absurd (cc)

pub damage-taken : (layout : Layout) (flags : Flags) (slot : List ℕ) (damage : Damage) → damage_when_taken layout flags slot ≡ Some damage → IsDamageOf layout slot (examined_used layout flags) damage
damage-taken layout flags slot damage is = by flags.checks is
  where
    by : (b : Bool) → cond b (first_damage layout slot (examined_used layout flags)) None ≡ Some damage → IsDamageOf layout slot (examined_used layout flags) damage
    by true is = first-damage layout slot (examined_used layout flags) damage is
    by false is = absurd (cc)

-- what was found isn't what was wanted
pub damage-differs : (layout : Layout) (slot : List ℕ) (parts : List Part) (damage : Damage) → IsDamageOf layout slot parts damage → damage.found ≢ damage.wanted
damage-differs layout slot parts damage of = λ same.
    of.here.differs (ap (λ (d : Damage). d.found) (sym of.here.is) ∙ same ∙ ap (λ (d : Damage). d.wanted) of.here.is)
