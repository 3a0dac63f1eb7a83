-- What giving tells, and in which slabs objects are set aside.
use Rattle.std.proofs.Common.{◌≡◌, ◌≢◌, ℕ, zero, suc, List, [], ◌∷◌, set, map, Option, None, Some, unwrap_or, slice_get, refl, ap, arith, subst, sym, ◌∙◌, append_assoc, append-nil, inl, inr}
use Rattle.std.proofs.lemmas.Bool.{cases_eq}
use Rattle.std.proofs.lemmas.List.{get_or-set_other, length-map}
use Rattle.std.proofs.lemmas.List.Elements.{All-nil, All-cons, All-weaker}
use Rattle.std.proofs.lemmas.Option.{slice_get-get_or}
use Rattle.slub_trace.specs.declared.damage.Damage.{Damage}
use Rattle.slub_trace.specs.declared.damage.Report.{Report}
use Rattle.slub_red_zone.specs.declared.slab.ObjectState.{ObjectState}
use Rattle.slub_red_zone.specs.declared.slab.ObjectState.TheVariants.{Free, Used, Aside}
use Rattle.slub_red_zone.specs.declared.checked.CheckedGive.{CheckedGive}
use Rattle.slub_red_zone.specs.declared.checked.Slot.{Slot}
use Rattle.slub_red_zone.specs.State.{SlabState, CheckedState, no_slab, slab_at, slab_of, state_of, slot_of, aside_in, objects_in, bytes_of}
use Rattle.slub_red_zone.specs.Steps.{Gives, nothing_listed, next_is_whole, next_is_damaged, IsNext, slab_with_given, slab_set_aside, set_aside, with_given, with_damaged, report_of, damage_of_free}
use Rattle.slub_red_zone.specs.Sound.{IsSound}
use Rattle.slub_red_zone.specs.Zones.{examined_free}
use Rattle.slub_red_zone.specs.Bytes.{Tells}
use Rattle.slub_red_zone.specs.Told.{IsReportOf, IsReport, TellsOfSlabs}
use Rattle.slub_red_zone.proofs.OneSlab.{first-is-free, given-counts}
use Rattle.slub_red_zone.proofs.Sums.{slab_at-set}
use Rattle.slub_red_zone.proofs.Given.{next-slab, next-object, next-frame, next-inside, damaged-sound}
use Rattle.slub_red_zone.proofs.Parts.{given-tells}
use Rattle.slub_red_zone.proofs.Written.{slot-long}

-- another slab than the one that is written
pub slab_at-other : (slabs : List (Option SlabState)) (frame other : ℕ) (x : Option SlabState) → other ≢ frame → slab_at (set slabs frame x) other ≡ slab_at slabs other
slab_at-other slabs frame other x ne = ap (λ y. unwrap_or y no_slab) (get_or-set_other slabs frame other x None ne)

-- no object is free where all that were are set aside
none-free : (states : List ObjectState) (j : ℕ) → slice_get (map set_aside states) j ≡ Some Free → ⊥
none-free [] j is = cc
none-free (Free ∷ xs) zero is = cc
none-free (Used ∷ xs) zero is = cc
none-free (Aside ∷ xs) zero is = cc
none-free (x ∷ xs) (suc j) is = none-free xs j is

-- nothing is told
tells-none : (s after : CheckedState) → after.reports ≡ s.reports → ((frame : ℕ) → aside_in (slab_of after frame) ≡ aside_in (slab_of s frame)) → TellsOfSlabs s after
tells-none s after same aside = record {
  found = [];
  added = same ∙ sym (append-nil s.reports);
  told = All-nil (IsReport s);
  aside = λ frame more. absurd (omega (arith, more, aside frame));
}

module _ (s : CheckedState) (slot : Slot) (sound : IsSound s) (next : IsNext s slot) where
  -- an object is given
  given-aside : (frame : ℕ) → aside_in (slab_of (with_given s slot) frame) ≡ aside_in (slab_of s frame)
  given-aside frame =
      let was = slab_of s slot.frame in
      let now : SlabState = slab_with_given s.layout s.flags was slot.index in
      elim (cases_eq frame slot.frame) [
        | inl same ↦
            let at = λ (f : ℕ). aside_in (slab_at (set s.slabs slot.frame (Some now)) f) in
            ap at same ∙ ap (λ (slab : SlabState). aside_in slab) (slab_at-set s.slabs slot.frame now (next-frame s slot sound next))
            ∙ (given-counts s.layout was (next-slab s slot sound next) slot.index _ next.free s.flags).2 ∙ sym (ap (λ (f : ℕ). aside_in (slab_of s f)) same)
        | inr other ↦ ap (λ (slab : SlabState). aside_in slab) (slab_at-other s.slabs slot.frame frame (Some now) other)
      ]

  module _ (damage : Damage) (found : damage_of_free s slot ≡ Some damage) where
    -- the object that is next is told of
    damaged-report : IsReportOf s (report_of s slot damage) slot
    damaged-report =
        let was = slab_of s slot.frame in
        record {
          free = slice_get-get_or was.states slot.index Aside (next-object s slot sound next)
              ∙ ap (λ (state : ObjectState). Some state) (first-is-free s.layout was (next-slab s slot sound next) slot.index _ next.free);
          cache = refl;
          address = refl;
          tells = given-tells s.layout sound.layout.bounds s.flags (bytes_of s slot) (slot-long s.layout was.bytes slot.index (next-inside s slot sound next)) damage found;
        }

    -- the bytes stay
    pub damaged-bytes : (other : Slot) → bytes_of (with_damaged s slot damage) other ≡ bytes_of s other
    damaged-bytes other =
        let now : SlabState = slab_set_aside (slab_of s slot.frame) in
        let same_bytes : (slab_of (with_damaged s slot damage) other.frame).bytes ≡ (slab_of s other.frame).bytes =
        elim (cases_eq other.frame slot.frame) [
          | inl same ↦
              ap (λ (f : ℕ). (slab_at (set s.slabs slot.frame (Some now)) f).bytes) same
              ∙ ap (λ (slab : SlabState). slab.bytes) (slab_at-set s.slabs slot.frame now (next-frame s slot sound next)) ∙ sym (ap (λ (f : ℕ). (slab_of s f).bytes) same)
          | inr ne ↦ ap (λ (slab : SlabState). slab.bytes) (slab_at-other s.slabs slot.frame other.frame (Some now) ne)
        ] in
        ap (λ (bytes : List ℕ). slot_of s.layout bytes other.index) same_bytes

    pub damaged-objects : (frame : ℕ) → objects_in (slab_of (with_damaged s slot damage) frame) ≡ objects_in (slab_of s frame)
    damaged-objects frame =
        let now : SlabState = slab_set_aside (slab_of s slot.frame) in
        elim (cases_eq frame slot.frame) [
          | inl same ↦
              ap (λ (f : ℕ). objects_in (slab_at (set s.slabs slot.frame (Some now)) f)) same
              ∙ ap (λ (slab : SlabState). objects_in slab) (slab_at-set s.slabs slot.frame now (next-frame s slot sound next)) ∙ length-map (slab_of s slot.frame).states set_aside
              ∙ sym (ap (λ (f : ℕ). objects_in (slab_of s f)) same)
          | inr ne ↦ ap (λ (slab : SlabState). objects_in slab) (slab_at-other s.slabs slot.frame frame (Some now) ne)
        ]

    -- what is told of a free object later was free before
    later-report : (report : Report) (other : Slot) → IsReportOf (with_damaged s slot damage) report other → IsReportOf s report other
    later-report report other is =
        let now : SlabState = slab_set_aside (slab_of s slot.frame) in
        let T : List ℕ → Type 0 = λ bytes. Tells s.layout bytes (examined_free s.layout s.flags) report.damage in
        let was_free : state_of s other ≡ Some Free =
        elim (cases_eq other.frame slot.frame) [
          | inl same ↦
              let states : (slab_of (with_damaged s slot damage) other.frame).states ≡ now.states =
              ap (λ (f : ℕ). (slab_at (set s.slabs slot.frame (Some now)) f).states) same ∙ ap (λ (slab : SlabState). slab.states) (slab_at-set s.slabs slot.frame now (next-frame s slot sound next)) in
              absurd (none-free (slab_of s slot.frame).states other.index (sym (ap (λ (states : List ObjectState). slice_get states other.index) states) ∙ is.free))
          | inr ne ↦ sym (ap (λ (slab : SlabState). slice_get slab.states other.index) (slab_at-other s.slabs slot.frame other.frame (Some now) ne)) ∙ is.free
        ] in
        record { free = was_free; cache = is.cache; address = is.address; tells = subst T (damaged-bytes other) is.tells }

    -- what is told after it is told of the same slabs
    tells-later : (after : CheckedState) → TellsOfSlabs (with_damaged s slot damage) after → TellsOfSlabs s after
    tells-later after later =
        let told = report_of s slot damage in
        let damaged = with_damaged s slot damage in
        record {
          found = told ∷ later.found;
          added = later.added ∙ append_assoc s.reports (told ∷ []) later.found;
          told = All-cons (IsReport s) told later.found (slot, damaged-report) (All-weaker (IsReport damaged) (IsReport s) (λ report (other, is). (other, later-report report other is)) later.found later.told);
          aside = λ frame more.
              elim (cases_eq frame slot.frame) [
                | inl same ↦ (0, told, omega arith, refl, (slot, sym same, damaged-report))
                | inr ne ↦
                    let as_many = ap (λ (slab : SlabState). aside_in slab) (slab_at-other s.slabs slot.frame frame (Some (slab_set_aside (slab_of s slot.frame))) ne) in
                    let one = later.aside frame (omega (arith, more, as_many)) in
                    (suc one.0, one.1, omega (arith, one.2), one.3, (one.4.0, one.4.1, later-report one.1 one.4.0 one.4.2))
              ];
        }

-- what any give tells
pub tells-of-slabs : (s : CheckedState) (answer : CheckedGive) (after : CheckedState) → IsSound s → Gives s answer after → TellsOfSlabs s after
tells-of-slabs _ _ _ sound (nothing_listed s none) = tells-none s s refl (λ frame. refl)
tells-of-slabs _ _ _ sound (next_is_whole s slot next whole) = tells-none s (with_given s slot) refl (given-aside s slot sound next)
tells-of-slabs _ _ _ sound (next_is_damaged s slot damage answer after next damaged gives) =
    tells-later s slot sound next damage damaged after (tells-of-slabs (with_damaged s slot damage) answer after (damaged-sound s slot sound next damage) gives)
