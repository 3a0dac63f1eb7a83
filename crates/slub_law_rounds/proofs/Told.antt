-- What the steps on the slabs of a checked cache tell: reports of damage, and which objects are set aside.
use Rattle.std.proofs.Common.{◌≡◌, ◌≢◌, ℕ, zero, suc, ◌<◌, ◌≤◌, false, cond, List, [], ◌∷◌, ◌++◌, length, set, map, refl, sym, ◌∙◌, ap, subst, arith, All, Option, Some, None, unwrap_or, inl, inr, ◌⊎◌, count_by, length-set}
use Rattle.std.specs.List.{Contains}
use Rattle.std.proofs.lemmas.Bool.{cases_lt}
use Rattle.std.proofs.lemmas.List.{append_assoc, append-nil}
use Rattle.std.proofs.lemmas.List.Elements.{All-append, Contains-append_left, Contains-append_right}
use Rattle.std.proofs.lemmas.List.Sums.{sum_by-cons}
use Rattle.slub_object_layout.specs.Layout.{address_of}
use Rattle.slub_trace.specs.declared.damage.Damage.{Damage}
use Rattle.slub_trace.specs.declared.damage.Report.{Report}
use Rattle.slub_red_zone.specs.declared.slab.ObjectState.{ObjectState}
use Rattle.slub_red_zone.specs.declared.slab.ObjectState.TheVariants.{Free, Used}
use Rattle.slub_red_zone.specs.declared.checked.CheckedGive.{CheckedGive}
use Rattle.slub_red_zone.specs.declared.checked.Run.{Run}
use Rattle.slub_red_zone.specs.declared.checked.Slot.{Slot}
use Rattle.slub_red_zone.specs.State.{CheckedState, SlabState, aside_in, is_aside, no_slab, objects_in, slab_at, slab_of, slot_of, with_slab}
use Rattle.slub_red_zone.specs.Steps.{Gives, IsNext, damage_of_free, new_slab, next_is_damaged, next_is_whole, nothing_listed, report_of, set_aside, slab_set_aside, slab_with_given, slab_with_taken, with_damaged, with_given, with_new_slab, with_taken, without_slab}
use Rattle.slub_red_zone.specs.Sound.{IsSound}
use Rattle.slub_red_zone.proofs.Counting.{new-kinds}
use Rattle.slub_red_zone.proofs.Given.{damaged-sound, next-object}
use Rattle.slub_common.proofs.Writes.{at_written}
use Rattle.slub_law_rounds.proofs.Damages.{damage-differs, damage-given}
use Rattle.slub_law_rounds.proofs.Times.{one_where}

-- ---- what is told

-- the report names an object of the slab at this frame
abbrev pub Names : CheckedState → ℕ → Report → Type 0
Names s frame report = (report.cache ≡ s.cache) × ((index : ℕ) × (index < objects_in (slab_of s frame)) × (report.address ≡ address_of frame index s.layout))

abbrev pub IsNamed : CheckedState → ℕ → List Report → Type 0
IsNamed s frame found = (report : Report) × Contains found report × Names s frame report

pub record Told (old new : CheckedState) : Type 0 where
  pub found : List Report
  pub reports : new.reports ≡ old.reports ++ found
  pub differ : All (λ report. report.damage.found ≢ report.damage.wanted) found
  pub layout : new.layout ≡ old.layout
  pub cache : new.cache ≡ old.cache
  -- more objects of a slab are set aside with a report of it alone
  pub aside : (frame : ℕ) → aside_in (slab_of old frame) < aside_in (slab_of new frame) → IsNamed new frame found
  -- a slab with objects set aside is the one before, or is reported
  pub shape : (frame : ℕ) → 0 < aside_in (slab_of new frame) → (objects_in (slab_of new frame) ≡ objects_in (slab_of old frame)) ⊎ IsNamed new frame found

no-reports : All (λ (report : Report). report.damage.found ≢ report.damage.wanted) []
no-reports k d within = absurd (omega (arith, within))

pub told-none : (s : CheckedState) → Told s s
told-none s = record {
  found = [];
  reports = sym (append-nil s.reports);
  differ = no-reports;
  layout = refl;
  cache = refl;
  aside = λ frame more. absurd (omega (arith, more));
  shape = λ frame some. inl refl;
}

module _ (a b c : CheckedState) (first : Told a b) (second : Told b c) where
  -- what was named before is still
  still-named : (frame : ℕ) → objects_in (slab_of c frame) ≡ objects_in (slab_of b frame) → IsNamed b frame first.found → IsNamed c frame (first.found ++ second.found)
  still-named frame same (report, there, (cache, (index, inside, address))) = (
    report,
    Contains-append_left first.found second.found report there,
    (cache ∙ sym second.cache, (index, omega (arith, inside, same), address ∙ ap (λ layout. address_of frame index layout) (sym second.layout))),
  )

  now-named : (frame : ℕ) → IsNamed c frame second.found → IsNamed c frame (first.found ++ second.found)
  now-named frame (report, there, names) = (report, Contains-append_right first.found second.found report there, names)

  asides : (frame : ℕ) → aside_in (slab_of a frame) < aside_in (slab_of c frame) → IsNamed c frame (first.found ++ second.found)
  asides frame more = elim (cases_lt (aside_in (slab_of b frame)) (aside_in (slab_of c frame))) [
    | inl later ↦ now-named frame (second.aside frame later)
    | inr earlier ↦ elim (second.shape frame (omega (arith, more))) [
      | inl same ↦ still-named frame same (first.aside frame (omega (arith, more, earlier)))
      | inr named ↦ now-named frame named
    ]
  ]

  shapes : (frame : ℕ) → 0 < aside_in (slab_of c frame) → (objects_in (slab_of c frame) ≡ objects_in (slab_of a frame)) ⊎ IsNamed c frame (first.found ++ second.found)
  shapes frame some = elim (cases_lt (aside_in (slab_of b frame)) (aside_in (slab_of c frame))) [
    | inl later ↦ inr (now-named frame (second.aside frame later))
    | inr earlier ↦ elim (second.shape frame some) [
      | inl same ↦ elim (first.shape frame (omega (arith, some, earlier))) [
        | inl before ↦ inl (same ∙ before)
        | inr named ↦ inr (still-named frame same named)
      ]
      | inr named ↦ inr (now-named frame named)
    ]
  ]

  pub told-then : Told a c
  told-then = record {
    found = first.found ++ second.found;
    reports = second.reports ∙ ap (λ l. l ++ second.found) first.reports ∙ append_assoc a.reports first.found second.found;
    differ = All-append (λ (report : Report). report.damage.found ≢ report.damage.wanted) first.found second.found first.differ second.differ;
    layout = second.layout ∙ first.layout;
    cache = second.cache ∙ first.cache;
    aside = asides;
    shape = shapes;
  }

-- ---- nothing is reported

-- no more objects of the slab are set aside, and where some are it has as many objects as before
abbrev Quiet : SlabState → SlabState → Type 0
Quiet old new = (aside_in new ≤ aside_in old) × (0 < aside_in new → objects_in new ≡ objects_in old)

-- one slab is another, and nothing is reported
quiet-told : (s : CheckedState) (frame : ℕ) (x : Option SlabState) (listed : List ℕ) → Quiet (slab_of s frame) (unwrap_or x no_slab) → Told s (record s { slabs = set s.slabs frame x; listed = listed })
quiet-told s frame x listed quiet = record {
  found = [];
  reports = sym (append-nil s.reports);
  differ = no-reports;
  layout = refl;
  cache = refl;
  aside = λ at more. absurd (omega (arith, (each at).0, more));
  shape = λ at some. inl ((each at).1 some);
}
  where
    each : (at : ℕ) → Quiet (slab_of s at) (slab_at (set s.slabs frame x) at)
    each at = at_written (λ y. Quiet (slab_of s at) (unwrap_or y no_slab)) s.slabs frame at x None
        (λ same. subst (λ n. Quiet (slab_of s n) (unwrap_or x no_slab)) (sym same) quiet)
        (omega arith, λ some. refl)

-- a state that isn't set aside is written
aside-set : (states : List ObjectState) (i : ℕ) (state : ObjectState) → is_aside state ≡ false → count_by is_aside (set states i state) ≤ count_by is_aside states
aside-set [] i state not_aside = omega arith
aside-set (first ∷ states) zero state not_aside =
    omega (arith, sum_by-cons (λ x. cond (is_aside x) 1 0) state states, sum_by-cons (λ x. cond (is_aside x) 1 0) first states, ap one_where not_aside)
aside-set (first ∷ states) (suc i) state not_aside =
    omega (arith, aside-set states i state not_aside, sum_by-cons (λ x. cond (is_aside x) 1 0) first (set states i state), sum_by-cons (λ x. cond (is_aside x) 1 0) first states)

pub given-told : (s : CheckedState) (slot : Slot) → Told s (with_given s slot)
given-told s slot =
    let slab = slab_of s slot.frame in
    quiet-told s slot.frame (Some (slab_with_given s.layout s.flags slab slot.index)) (with_given s slot).listed (aside-set slab.states slot.index Used refl, λ some. length-set slab.states slot.index Used)

pub taken-told : (s : CheckedState) (slot : Slot) → Told s (with_taken s slot)
taken-told s slot =
    let slab = slab_of s slot.frame in
    quiet-told s slot.frame (Some (slab_with_taken s.layout s.flags slab slot.index)) (with_taken s slot).listed (aside-set slab.states slot.index Free refl, λ some. length-set slab.states slot.index Free)

pub bytes-told : (s : CheckedState) (frame : ℕ) (bytes : List ℕ) → Told s (with_slab s frame (record (slab_of s frame) { bytes = bytes }))
bytes-told s frame bytes = quiet-told s frame (Some (record (slab_of s frame) { bytes = bytes })) s.listed (omega arith, λ some. refl)

pub gone-told : (s : CheckedState) (frame : ℕ) → Told s (without_slab s frame)
gone-told s frame = quiet-told s frame None (without_slab s frame).listed (omega arith, λ some. absurd (omega (arith, some)))

pub new-told : (s : CheckedState) (run : Run) (objects : ℕ) → Told s (with_new_slab s run objects)
new-told s run objects =
    let none : aside_in (new_slab s.layout s.flags run.order objects) ≡ 0 = (new-kinds objects).2 in
    quiet-told s run.frame (Some (new_slab s.layout s.flags run.order objects)) (run.frame ∷ s.listed) (omega (arith, none), λ some. absurd (omega (arith, none, some)))

-- ---- a report

module _ (s : CheckedState) (slot : Slot) (damage : Damage) (sound : IsSound s) (next : IsNext s slot) (is : damage_of_free s slot ≡ Some damage) where
  abbrev report : Report
  report = report_of s slot damage

  aside-length : (states : List ObjectState) → length (map set_aside states) ≡ length states
  aside-length [] = refl
  aside-length (state ∷ states) = ap suc (aside-length states)

  abbrev IsOk : ℕ → SlabState → Type 0
  IsOk at new = (objects_in new ≡ objects_in (slab_of s at)) × ((at ≡ slot.frame) ⊎ (aside_in new ≤ aside_in (slab_of s at)))

  each : (at : ℕ) → IsOk at (slab_of (with_damaged s slot damage) at)
  each at = at_written (λ y. IsOk at (unwrap_or y no_slab)) s.slabs slot.frame at (Some (slab_set_aside (slab_of s slot.frame))) None
      (λ same. (aside-length (slab_of s slot.frame).states ∙ ap (λ n. objects_in (slab_of s n)) (sym same), inl same))
      (refl, inr (omega arith))

  differ : All (λ (report : Report). report.damage.found ≢ report.damage.wanted) (report ∷ [])
  differ zero d within = damage-differs s.layout _ _ damage (damage-given s.layout s.flags (slot_of s.layout (slab_of s slot.frame).bytes slot.index) damage is)
  differ (suc k) d within = absurd (omega (arith, within))

  pub damaged-told : Told s (with_damaged s slot damage)
  damaged-told = record {
    found = report ∷ [];
    reports = refl;
    differ = differ;
    layout = refl;
    cache = refl;
    aside = λ at more. elim (each at).1 [
      | inl same ↦ (report, (0, omega arith, refl), (refl, (slot.index, omega (arith, (each at).0, next-object s slot sound next, ap (λ n. objects_in (slab_of s n)) same), ap (λ n. address_of n slot.index s.layout) (sym same))))
      | inr less ↦ absurd (omega (arith, more, less))
    ];
    shape = λ at some. inl (each at).0;
  }

-- ---- giving

pub gives-told : (s : CheckedState) (answer : CheckedGive) (after : CheckedState) → IsSound s → Gives s answer after → Told s after
gives-told _ _ _ sound (nothing_listed s none) = told-none s
gives-told _ _ _ sound (next_is_whole s slot next whole) = given-told s slot
gives-told _ _ _ sound (next_is_damaged s slot damage answer after next is gives) =
    told-then s (with_damaged s slot damage) after (damaged-told s slot damage sound next is) (gives-told (with_damaged s slot damage) answer after (damaged-sound s slot sound next damage) gives)
