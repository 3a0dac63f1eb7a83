-- What a round found in checked caches, in the words of the text.
use Rattle.std.proofs.Common.{◌≡◌, ◌≢◌, ℕ, zero, suc, ◌+◌, ◌<◌, List, [], ◌∷◌, ◌++◌, length, drop, get_or, map, flat_map, refl, sym, ap, subst, ◌∙◌, arith, All, Option, Some, None, MatchOption, is_some}
use Rattle.std.specs.Prelude.{ℤ}
use Rattle.std.specs.List.{Contains}
use Rattle.std.specs.Option.{option_map_or}
use Rattle.std.proofs.lemmas.Bool.{false≢true}
use Rattle.std.proofs.lemmas.Option.{slice_get_within}
use Rattle.std.proofs.lemmas.List.Elements.{All-map, All-weaker, Contains-append_left, Contains-append_right}
use Rattle.std.proofs.Math.Seq.{drop-append-add}
use Rattle.std.proofs.lemmas.List.FromFn.{get_or-range_with_len, length-range_with_len}
use Rattle.slub_common.proofs.Writes.{inside-of}
use Rattle.slub_object_layout.specs.declared.layout.Layout.{Layout}
use Rattle.slub_object_layout.specs.Layout.{address_of}
use Rattle.slub_trace.specs.declared.damage.Report.{Report}
use Rattle.slub_red_zone.specs.State.{CheckedState, aside_in, objects_in, slab_of as checked_slab}
use Rattle.slub_lists.specs.State.{State}
use Rattle.slub_lists.specs.Alloc.{cache_of, checked_of, node_of}
use Rattle.slub_lists.specs.Coherent.{IsCheckedOf, IsCoherent}
use Rattle.slub_lists.proofs.CheckedSlabs.{at_some}
use Rattle.slub_slabinfo_text.specs.declared.journal.Found.{Found}
use Rattle.slub_slabinfo_text.specs.Lawful.{cache_numbers, found_in, found_of, reports_of, title_of}
use Rattle.slub_core.specs.declared.local.Answered.{Answered as Done}
use Rattle.slub_core.specs.Checked.{slabs_in}
use Rattle.slub_core.specs.Setup.{node_lock}
use Rattle.slub_core.specs.World.{World, LockValue}
use Rattle.slub_law_opening.specs.Opening.{Beside, node_value, setup_of, value_of}
use Rattle.slub_law_rounds.specs.Contents.{Came, IsReport, KeepsContents, KeepsSlabs, slabs_at}
use Rattle.slub_law_rounds.specs.Round.{IsOfSlab, aside_at}
use Rattle.slub_law_rounds.proofs.Reports.{all-flat, drop-none}

-- ---- lists

contains-flat : {A B : Type 0} (f : A → List B) (xs : List A) (x : A) (y : B) (i : ℕ) → i < length xs → get_or xs i x ≡ x → Contains (f x) y → Contains (flat_map f xs) y
contains-flat f [] x y i within is there = absurd (omega (arith, within))
contains-flat f (z ∷ xs) x y zero within is there = Contains-append_left (f z) (flat_map f xs) y (subst (λ w. Contains (f w) y) (sym is) there)
contains-flat f (z ∷ xs) x y (suc i) within is there = Contains-append_right (f z) (flat_map f xs) y (contains-flat f xs x y i (omega (arith, within)) is there)

contains-map : {A B : Type 0} (f : A → B) (xs : List A) (x : A) (i : ℕ) → i < length xs → get_or xs i x ≡ x → Contains (map f xs) (f x)
contains-map f [] x i within is = absurd (omega (arith, within))
contains-map f (z ∷ xs) x zero within is = (0, omega arith, ap f is)
contains-map f (z ∷ xs) x (suc i) within is = let there = contains-map f xs x i (omega (arith, within)) is in (suc there.0, omega (arith, there.1), there.2)

-- the numbers 0 to 31 are those of caches
number-of-cache : (cache : ℕ) → cache < 32 → (cache < length cache_numbers) × (get_or cache_numbers cache cache ≡ cache)
unfolding cache_numbers
number-of-cache cache within = (omega (arith, within, length-range_with_len 0 32), get_or-range_with_len 0 32 cache cache within ∙ omega arith)

-- ---- one cache

abbrev Differs : Report → Type 0
Differs report = report.damage.found ≢ report.damage.wanted

-- what is told of the slabs of a checked cache
record Tells (old new : CheckedState) : Type 0 where
  found : List Report
  added : new.reports ≡ old.reports ++ found
  differ : All Differs found
  aside : (frame : ℕ) → aside_in (checked_slab old frame) < aside_in (checked_slab new frame)
      → (report : Report) × Contains found report × (report.cache ≡ new.cache) × ((index : ℕ) × (index < objects_in (checked_slab new frame)) × (report.address ≡ address_of frame index new.layout))

abbrev TellsOf : Option CheckedState → Option CheckedState → Type 0
TellsOf None None = Unit {0}
TellsOf (Some old) (Some new) = Tells old new
TellsOf _ _ = ⊥

slabs-tell : (came : ℤ → ℕ → Type 0) (old new : CheckedState) → KeepsSlabs came old new → Tells old new
slabs-tell came old new keeps = record {
  found = keeps.found;
  added = keeps.added;
  differ = All-weaker (IsReport came new) Differs (λ report told. told.bad.other) keeps.found keeps.told;
  aside = λ frame more.
      let any = keeps.more_aside frame more in
      let told = any.4.0 in
      let here = any.4.1 in
      let inside = slice_get_within (checked_slab new told.slot.frame).states told.slot.index _ told.aside in (
        any.1,
        (any.0, any.2, any.3),
        told.cache,
        (told.slot.index, subst (λ f. told.slot.index < objects_in (checked_slab new f)) here inside, told.address ∙ ap (λ f. address_of f told.slot.index new.layout) here),
      );
}

-- ---- a round

module _ (s lists : State) (b : Beside) (opening : World) (value : ℕ → LockValue) (dones : List (List Done)) (before : opening.value ≡ value_of s) (after : (n : ℕ) → n < 33 → value n ≡ value_of lists n)
    (checks : (cache : ℕ) → is_some (checked_of lists cache) ≡ is_some (checked_of s cache)) (many : length s.checked ≡ 32) (coherent : IsCoherent lists) (keeps : KeepsContents (setup_of s b) opening value dones) where
  slabs-of : (t : State) (layout : Layout) (cache : ℕ) (slabs : CheckedState) → checked_of t cache ≡ Some slabs → slabs_in layout (value_of t (suc cache)) ≡ slabs
  slabs-of t layout cache slabs is = ap (λ x. slabs_in layout (node_value (is_some (cache_of t cache)) x (node_of t cache))) is

  next : (cache : ℕ) → node_lock cache ≡ suc cache
  next cache = omega arith

  tells : (cache : ℕ) → TellsOf (checked_of s cache) (checked_of lists cache)
  tells cache = by (checked_of s cache) refl (checked_of lists cache) refl
    where
      by : (x : Option CheckedState) → checked_of s cache ≡ x → (y : Option CheckedState) → checked_of lists cache ≡ y → TellsOf x y
      by None is None now = tt
      by None is (Some new) now = false≢true (sym (ap is_some is) ∙ sym (checks cache) ∙ ap is_some now)
      by (Some old) is None now = false≢true (sym (ap is_some now) ∙ checks cache ∙ ap is_some is)
      by (Some old) is (Some new) now =
          let inside : cache < 32 = omega (arith, inside-of s.checked cache old is, many) in
          let layout = (setup_of s b).layout cache in
          let first : slabs_at (setup_of s b) opening.value cache ≡ old = ap (λ (v : ℕ → LockValue). slabs_in layout (v (node_lock cache))) before ∙ ap (λ n. slabs_in layout (value_of s n)) (next cache) ∙ slabs-of s layout cache old is in
          let last : slabs_at (setup_of s b) value cache ≡ new = ap (slabs_in layout) (after (node_lock cache) (omega (arith, inside))) ∙ ap (λ n. slabs_in layout (value_of lists n)) (next cache) ∙ slabs-of lists layout cache new now in
          let kept = keeps.slabs cache (ap is_some is) in
          slabs-tell (Came (setup_of s b) opening dones cache) old new (subst (λ x. KeepsSlabs (Came (setup_of s b) opening dones cache) x new) first (subst (λ x. KeepsSlabs (Came (setup_of s b) opening dones cache) (slabs_at (setup_of s b) opening.value cache) x) last kept))

  -- the reports since the round began
  abbrev since : ℕ → List Report
  since cache = drop (length (reports_of s cache)) (reports_of lists cache)

  dropped : (xs ys : List Report) → drop (length xs) (xs ++ ys) ≡ ys
  dropped xs ys = ap (λ n. drop n (xs ++ ys)) (let e : length xs ≡ length xs + 0 = omega arith in e) ∙ drop-append-add xs ys 0

  since-is : (cache : ℕ) (old new : CheckedState) → checked_of s cache ≡ Some old → checked_of lists cache ≡ Some new → (told : Tells old new) → since cache ≡ told.found
  since-is cache old new is now told =
      ap (λ x. drop (length (option_map_or (λ (slabs : CheckedState). slabs.reports) x [])) (reports_of lists cache)) is ∙ ap (λ x. drop (length old.reports) (option_map_or (λ (slabs : CheckedState). slabs.reports) x [])) now
      ∙ ap (drop (length old.reports)) told.added ∙ dropped old.reports told.found

  since-differ : (cache : ℕ) → All Differs (since cache)
  since-differ cache = by (checked_of s cache) refl (checked_of lists cache) refl (tells cache)
    where
      by : (x : Option CheckedState) → checked_of s cache ≡ x → (y : Option CheckedState) → checked_of lists cache ≡ y → TellsOf x y → All Differs (since cache)
      by None is None now told =
          let none : since cache ≡ [] = ap (λ x. drop (length (reports_of s cache)) (option_map_or (λ (slabs : CheckedState). slabs.reports) x [])) now ∙ drop-none (length (reports_of s cache)) [] refl in
          subst (All Differs) (sym none) (λ k d within. absurd (omega (arith, within)))
      by None is (Some new) now told = absurd told
      by (Some old) is None now told = absurd told
      by (Some old) is (Some new) now told = subst (All Differs) (sym (since-is cache old new is now told)) told.differ

  pub found-differ : All (λ (found : Found). found.report.damage.found ≢ found.report.damage.wanted) (found_in s lists)
  found-differ = all-flat (λ (found : Found). found.report.damage.found ≢ found.report.damage.wanted) (found_of s lists) cache_numbers (λ cache.
      All-map (λ (found : Found). found.report.damage.found ≢ found.report.damage.wanted) (λ report. record { title = title_of lists cache; report = report }) (since cache) (since-differ cache))

  found-there : (cache : ℕ) (report : Report) → cache < 32 → Contains (since cache) report → Contains (found_in s lists) (record { title = title_of lists cache; report = report })
  found-there cache report within there =
      let number = number-of-cache cache within in
      contains-flat (found_of s lists) cache_numbers cache (record { title = title_of lists cache; report = report }) cache number.0 number.1
      (contains-map (λ report. record { title = title_of lists cache; report = report }) (since cache) report there.0 there.1 there.2)

  pub found-aside : (cache frame : ℕ) → aside_at s cache frame < aside_at lists cache frame → (found : Found) × Contains (found_in s lists) found × IsOfSlab lists cache frame found.report
  found-aside cache frame more = by (checked_of s cache) refl (checked_of lists cache) refl (tells cache)
    where
      at : (t : State) (x : Option CheckedState) → checked_of t cache ≡ x → aside_at t cache frame ≡ option_map_or (λ (slabs : CheckedState). aside_in (checked_slab slabs frame)) x 0
      at t x is = ap (λ x. option_map_or (λ (slabs : CheckedState). aside_in (checked_slab slabs frame)) x 0) is

      by : (x : Option CheckedState) → checked_of s cache ≡ x → (y : Option CheckedState) → checked_of lists cache ≡ y → TellsOf x y → (found : Found) × Contains (found_in s lists) found × IsOfSlab lists cache frame found.report
      by None is None now told = absurd (omega (arith, more, at s None is, at lists None now))
      by None is (Some new) now told = absurd told
      by (Some old) is None now told = absurd told
      by (Some old) is (Some new) now told =
          let named = told.aside frame (omega (arith, more, at s (Some old) is, at lists (Some new) now)) in
          let within : cache < 32 = omega (arith, inside-of lists.checked cache new now, coherent.shaped.checked.numbers) in
          let there : Contains (since cache) named.0 = subst (λ l. Contains l named.0) (sym (since-is cache old new is now told)) named.1 in
          let its : IsCheckedOf lists cache new = at_some (checked_of lists cache) new (IsCheckedOf lists cache) now (coherent.shaped.checked.those cache) in (
            record { title = title_of lists cache; report = named.0 },
            found-there cache named.0 within there,
            (named.2 ∙ its.number, subst (λ x. MatchOption x ⊥ (λ slabs. (index : ℕ) × (index < objects_in (checked_slab slabs frame)) × (named.0.address ≡ address_of frame index slabs.layout))) (sym now) named.3),
          )
