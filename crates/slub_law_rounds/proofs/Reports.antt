-- What a round tells of the slabs of checked caches.
use Rattle.std.proofs.Common.{◌≡◌, ◌≢◌, ℕ, zero, suc, ◌+◌, ◌<◌, List, [], ◌∷◌, ◌++◌, length, drop, get_or, set, map, flat_map, refl, sym, ◌∙◌, ap, subst, arith, All, Option, Some, None, MatchOption, inl, inr, get_or-set_other, get_or-set_same}
use Rattle.std.specs.List.{Contains}
use Rattle.std.specs.Prelude.{⊤}
use Rattle.std.specs.Option.{option_map_or}
use Rattle.std.proofs.lemmas.Bool.{cases_eq}
use Rattle.std.proofs.lemmas.List.Elements.{All-append, All-map, Contains-append_left, Contains-append_right}
use Rattle.std.proofs.lemmas.List.FromFn.{get_or-range_with_len, length-range_with_len}
use Rattle.std.proofs.Math.Seq.{drop-append-add}
use Rattle.slub_object_layout.specs.Layout.{address_of}
use Rattle.slub_trace.specs.declared.damage.Report.{Report}
use Rattle.slub_red_zone.specs.declared.checked.CheckedGive.TheVariants as give
use Rattle.slub_red_zone.specs.declared.checked.Run.{Run as SlabRun}
use Rattle.slub_red_zone.specs.State.{CheckedState, aside_in, objects_in, slab_of as checked_slab}
use Rattle.slub_red_zone.specs.Steps.{TakesEmpty, with_new_slab}
use Rattle.slub_lists.specs.State.{State}
use Rattle.slub_lists.specs.Alloc.{checked_of}
use Rattle.slub_lists.specs.Checked.{first_slot}
use Rattle.slub_lists.specs.Coherent.{IsCheckedOf, IsCoherent}
use Rattle.slub_common.proofs.Writes.{inside-of}
use Rattle.slub_lists.proofs.CheckedSlabs.{at_some}
use Rattle.slub_slabinfo_text.specs.declared.journal.Found.{Found}
use Rattle.slub_slabinfo_text.specs.Lawful.{cache_numbers, found_in, found_of, reports_of, title_of}
use Rattle.slub_law_rounds.specs.Answered.{Answered}
use Rattle.slub_law_rounds.specs.Round.{IsOfSlab, aside_at}
use Rattle.slub_law_rounds.proofs.Slabs.{Slabs, Swaps, gave, made, poked_byte, same, took, wrote}
use Rattle.slub_law_rounds.proofs.Told.{Told, bytes-told, given-told, gives-told, gone-told, new-told, taken-told, told-none, told-then}

-- what is told of the slabs of a cache, if it is checked
abbrev pub ToldOf : Option CheckedState → Option CheckedState → Type 0
ToldOf None None = ⊤
ToldOf None (Some new) = ⊥
ToldOf (Some old) None = ⊥
ToldOf (Some old) (Some new) = Told old new

told-same : (x : Option CheckedState) → ToldOf x x
told-same None = tt
told-same (Some slabs) = told-none slabs

told-more : (x y z : Option CheckedState) → ToldOf x y → ToldOf y z → ToldOf x z
told-more None None None first second = tt
told-more None None (Some z) first second = absurd second
told-more None (Some y) z first second = absurd first
told-more (Some x) None z first second = absurd first
told-more (Some x) (Some y) None first second = absurd second
told-more (Some x) (Some y) (Some z) first second = told-then x y z first second

abbrev pub Reports : State → State → Type 0
Reports before s = (cache : ℕ) → ToldOf (checked_of before cache) (checked_of s cache)

pub reports-none : (before : State) → Reports before before
reports-none before cache = told-same (checked_of before cache)

-- ---- an event

-- the slabs of a checked cache are sound
pub slabs-sound : (s : State) (cache : ℕ) (slabs : CheckedState) → IsCoherent s → checked_of s cache ≡ Some slabs → IsCheckedOf s cache slabs
slabs-sound s cache slabs coherent is = at_some (checked_of s cache) slabs (IsCheckedOf s cache) is (coherent.shaped.checked.those cache)

swaps-told : (s : State) (cache : ℕ) (slabs rest : CheckedState) (after : State) → Swaps s cache slabs rest after → Told slabs rest → Reports s after
swaps-told s cache slabs rest after swaps told other = elim (cases_eq other cache) [
  | inl mine ↦
      let was : checked_of s other ≡ Some slabs = ap (checked_of s) mine ∙ swaps.was in
      let now : checked_of after other ≡ Some rest = ap (λ (l : List (Option CheckedState)). get_or l other None) swaps.now ∙ ap (λ n. get_or (set s.checked cache (Some rest)) n None) mine ∙ get_or-set_same s.checked cache (Some rest) None (inside-of s.checked cache slabs swaps.was) in
      subst (λ x. ToldOf x (checked_of after other)) (sym was) (subst (ToldOf (Some slabs)) (sym now) told)
  | inr differ ↦
      let still : checked_of after other ≡ checked_of s other = ap (λ (l : List (Option CheckedState)). get_or l other None) swaps.now ∙ get_or-set_other s.checked cache other (Some rest) None differ in
      subst (ToldOf (checked_of s other)) (sym still) (told-same (checked_of s other))
]

taken-out : (mid : CheckedState) (frame limit : ℕ) (run : Option SlabRun) (rest : CheckedState) → TakesEmpty mid frame limit run rest → Told mid rest
taken-out mid frame limit None rest takes = subst (Told mid) (sym takes.1) (told-none mid)
taken-out mid frame limit (Some run) rest takes = subst (Told mid) (sym takes.2) (gone-told mid frame)

module _ (s : State) (one : Answered) (after : State) (coherent : IsCoherent s) where
  pub event-told : Slabs s one.0 one.1 after → Reports s after
  event-told (same is) = λ cache. subst (ToldOf (checked_of s cache)) (sym (ap (λ (l : List (Option CheckedState)). get_or l cache None) is)) (told-same (checked_of s cache))
  event-told (gave cache slabs rest found swaps asked) =
      swaps-told s cache slabs rest after swaps (gives-told slabs found rest (slabs-sound s cache slabs coherent swaps.was).sound asked)
  event-told (made cache slabs rest run pool live is_live swaps asked finds) =
      swaps-told s cache slabs _ after swaps
      (told-then slabs rest _ (gives-told slabs give.Empty rest (slabs-sound s cache slabs coherent swaps.was).sound asked)
      (told-then rest (with_new_slab rest (record { frame = run.frame; order = run.order }) run.objects) _ (new-told rest (record { frame = run.frame; order = run.order }) run.objects) (given-told (with_new_slab rest (record { frame = run.frame; order = run.order }) run.objects) (first_slot run))))
  event-told (took object held slabs mid rest limit run asks there swaps takes goes) =
      swaps-told s held.cache slabs rest after swaps
      (told-then slabs mid rest (subst (Told slabs) (sym takes.1) (taken-told slabs (record { frame = held.frame; index = held.index }))) (taken-out mid held.frame limit run rest goes))
  event-told (wrote object word value held live slabs asks holds within swaps) = swaps-told s held.cache slabs _ after swaps (bytes-told slabs held.frame _)
  event-told (poked_byte object offset byte held slabs asks is knows inside swaps) = swaps-told s held.cache slabs _ after swaps (bytes-told slabs held.frame _)

pub reports-more : (before s after : State) → Reports before s → Reports s after → Reports before after
reports-more before s after first second cache = told-more (checked_of before cache) (checked_of s cache) (checked_of after cache) (first cache) (second cache)

-- ---- what was found

pub drop-none : {A : Type 0} (n : ℕ) (xs : List A) → xs ≡ [] → drop n xs ≡ []
drop-none zero xs none = none
drop-none (suc n) [] none = refl
drop-none (suc n) (x ∷ xs) none = absurd (cc)

pub all-flat : {A B : Type 0} (P : B → Type 0) (f : A → List B) (xs : List A) → ((x : A) → All P (f x)) → All P (flat_map f xs)
all-flat P f [] each = λ k d within. absurd (omega (arith, within))
all-flat P f (x ∷ xs) each = All-append P (f x) (flat_map f xs) (each x) (all-flat P f xs each)

contains-flat : {A B : Type 0} (f : A → List B) (xs : List A) (x : A) (y : B) (i : ℕ) → i < length xs → get_or xs i x ≡ x → Contains (f x) y → Contains (flat_map f xs) y
contains-flat f [] x y i within is there = absurd (omega (arith, within))
contains-flat f (z ∷ xs) x y zero within is there = Contains-append_left (f z) (flat_map f xs) y (subst (λ w. Contains (f w) y) (sym is) there)
contains-flat f (z ∷ xs) x y (suc i) within is there = Contains-append_right (f z) (flat_map f xs) y (contains-flat f xs x y i (omega (arith, within)) is there)

contains-map : {A B : Type 0} (f : A → B) (xs : List A) (x : A) (i : ℕ) → i < length xs → get_or xs i x ≡ x → Contains (map f xs) (f x)
contains-map f [] x i within is = absurd (omega (arith, within))
contains-map f (z ∷ xs) x zero within is = (0, omega arith, ap f is)
contains-map f (z ∷ xs) x (suc i) within is = let there = contains-map f xs x i (omega (arith, within)) is in (suc there.0, omega (arith, there.1), there.2)

-- the numbers 0 to 31 are those of caches
number-of-cache : (cache : ℕ) → cache < 32 → (cache < length cache_numbers) × (get_or cache_numbers cache cache ≡ cache)
unfolding cache_numbers
number-of-cache cache within = (omega (arith, within, length-range_with_len 0 32), get_or-range_with_len 0 32 cache cache within ∙ omega arith)

module _ (before last : State) (reports : Reports before last) where
  -- the reports since then
  abbrev since : ℕ → List Report
  since cache = drop (length (reports_of before cache)) (reports_of last cache)

  dropped : (xs ys : List Report) → drop (length xs) (xs ++ ys) ≡ ys
  dropped xs ys = ap (λ n. drop n (xs ++ ys)) (let e : length xs ≡ length xs + 0 = omega arith in e) ∙ drop-append-add xs ys 0

  abbrev Differs : Report → Type 0
  Differs report = report.damage.found ≢ report.damage.wanted

  since-is : (cache : ℕ) (old new : CheckedState) → checked_of before cache ≡ Some old → checked_of last cache ≡ Some new → (told : Told old new) → since cache ≡ told.found
  since-is cache old new is now told =
      ap (λ x. drop (length (option_map_or (λ slabs. slabs.reports) x [])) (reports_of last cache)) is ∙ ap (λ x. drop (length old.reports) (option_map_or (λ slabs. slabs.reports) x [])) now
      ∙ ap (drop (length old.reports)) told.reports ∙ dropped old.reports told.found

  since-differ : (cache : ℕ) → All Differs (since cache)
  since-differ cache = by (checked_of before cache) refl (checked_of last cache) refl (reports cache)
    where
      by : (x : Option CheckedState) → checked_of before cache ≡ x → (y : Option CheckedState) → checked_of last cache ≡ y → ToldOf x y → All Differs (since cache)
      by None is None now told =
          let none : since cache ≡ [] = ap (λ x. drop (length (reports_of before cache)) (option_map_or (λ slabs. slabs.reports) x [])) now ∙ drop-none (length (reports_of before cache)) [] refl in
          subst (All Differs) (sym none) (λ k d within. absurd (omega (arith, within)))
      by None is (Some new) now told = absurd told
      by (Some old) is None now told = absurd told
      by (Some old) is (Some new) now told = subst (All Differs) (sym (since-is cache old new is now told)) told.differ

  pub found-differ : All (λ (found : Found). found.report.damage.found ≢ found.report.damage.wanted) (found_in before last)
  found-differ = all-flat (λ (found : Found). found.report.damage.found ≢ found.report.damage.wanted) (found_of before last) cache_numbers (λ cache.
      All-map (λ (found : Found). found.report.damage.found ≢ found.report.damage.wanted) (λ report. record { title = title_of last cache; report = report }) (since cache) (since-differ cache))

  -- a report of a cache is found
  found-there : (cache : ℕ) (report : Report) → cache < 32 → Contains (since cache) report → Contains (found_in before last) (record { title = title_of last cache; report = report })
  found-there cache report within there =
      let number = number-of-cache cache within in
      contains-flat (found_of before last) cache_numbers cache (record { title = title_of last cache; report = report }) cache number.0 number.1
      (contains-map (λ report. record { title = title_of last cache; report = report }) (since cache) report there.0 there.1 there.2)

  pub found-aside : IsCoherent last → (cache frame : ℕ) → aside_at before cache frame < aside_at last cache frame → (found : Found) × Contains (found_in before last) found × IsOfSlab last cache frame found.report
  found-aside coherent cache frame more = by (checked_of before cache) refl (checked_of last cache) refl (reports cache)
    where
      at : (s : State) (x : Option CheckedState) → checked_of s cache ≡ x → aside_at s cache frame ≡ option_map_or (λ slabs. aside_in (checked_slab slabs frame)) x 0
      at s x is = ap (λ x. option_map_or (λ slabs. aside_in (checked_slab slabs frame)) x 0) is

      by : (x : Option CheckedState) → checked_of before cache ≡ x → (y : Option CheckedState) → checked_of last cache ≡ y → ToldOf x y → (found : Found) × Contains (found_in before last) found × IsOfSlab last cache frame found.report
      by None is None now told = absurd (omega (arith, more, at before None is, at last None now))
      by None is (Some new) now told = absurd told
      by (Some old) is None now told = absurd told
      by (Some old) is (Some new) now told =
          let named = told.aside frame (omega (arith, more, at before (Some old) is, at last (Some new) now)) in
          let within : cache < 32 = omega (arith, inside-of last.checked cache new now, coherent.shaped.checked.numbers) in
          let there : Contains (since cache) named.0 = subst (λ l. Contains l named.0) (sym (since-is cache old new is now told)) named.1 in
          let number : new.cache ≡ cache = (slabs-sound last cache new coherent now).number in (
            record { title = title_of last cache; report = named.0 },
            found-there cache named.0 within there,
            (named.2.0 ∙ number, subst (λ x. MatchOption x ⊥ (λ slabs. (index : ℕ) × (index < objects_in (checked_slab slabs frame)) × (named.0.address ≡ address_of frame index slabs.layout))) (sym now) named.2.1),
          )
