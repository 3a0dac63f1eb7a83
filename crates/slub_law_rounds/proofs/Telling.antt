-- What a whole round tells: reports, and frees that found damage.
use Rattle.std.proofs.Common.{◌≡◌, ℕ, ◌+◌, List, [], ◌++◌, length, drop, refl, sym, ◌∙◌, ap, subst, arith, All, Option, Some, None, option_map, inl, inr, ◌⊎◌, ℤ}
use Rattle.std.specs.List.{Contains, zip}
use Rattle.std.specs.Option.{option_map_or}
use Rattle.std.proofs.Math.Seq.{drop-append-add}
use Rattle.std.proofs.lemmas.List.Elements.{All-map}
use Rattle.slub_trace.specs.declared.event.Round.{Round}
use Rattle.slub_object_layout.specs.Layout.{address_of}
use Rattle.slub_trace.specs.declared.damage.Report.{Report}
use Rattle.slub_red_zone.specs.State.{CheckedState}
use Rattle.slub_lists.specs.declared.lists.Held.{Held}
use Rattle.slub_lists.specs.State.{State}
use Rattle.slub_lists.specs.Alloc.{checked_of}
use Rattle.slub_lists.specs.Coherent.{IsCoherent, held_under, laid_down}
use Rattle.slub_slabinfo_text.specs.declared.journal.Found.{Found}
use Rattle.slub_slabinfo_text.specs.declared.journal.RoundResult.{RoundResult}
use Rattle.slub_slabinfo_text.specs.Lawful.{DoesRound, IsAtRest, cache_numbers, found_in, found_of, reports_of, title_of}
use Rattle.slub_law_rounds.specs.Answered.{Answered}
use Rattle.slub_law_rounds.specs.Pokes.{IsPokedFree, IsPokedReport, WasGiven, WasPoked}
use Rattle.slub_law_rounds.specs.Round.{RoundFits}
use Rattle.slub_law_rounds.proofs.Cleaning.{ToldPoked}
use Rattle.slub_law_rounds.proofs.Poked.{AddsTold, IsTold, RoundTold, runs-told}
use Rattle.slub_law_rounds.proofs.Reports.{all-flat, drop-none}
use Rattle.slub_law_rounds.proofs.Rounds.{all-within, runs-of}
use Rattle.slub_law_rounds.proofs.Runs.{gone_under}
use Rattle.slub_law_rounds.proofs.Tale.{injected}
use Rattle.slub_law_rounds.proofs.Whole.{given-once, laid-under, none-gone, start}

-- ---- the reports of a round

module _ (poked : ℤ → ℕ → Type 0) (before last : State) (adds : (cache : ℕ) → AddsTold poked (checked_of before cache) (checked_of last cache)) where
  abbrev since : ℕ → List Report
  since cache = drop (length (reports_of before cache)) (reports_of last cache)

  dropped : (xs ys : List Report) → drop (length xs) (xs ++ ys) ≡ ys
  dropped xs ys = ap (λ n. drop n (xs ++ ys)) (let e : length xs ≡ length xs + 0 = omega arith in e) ∙ drop-append-add xs ys 0

  since-told : (cache : ℕ) → All (ToldPoked poked) (since cache)
  since-told cache = by (checked_of before cache) refl (checked_of last cache) refl (adds cache)
    where
      by : (x : Option CheckedState) → checked_of before cache ≡ x → (y : Option CheckedState) → checked_of last cache ≡ y → AddsTold poked x y → All (ToldPoked poked) (since cache)
      by None is None now told =
          let none : since cache ≡ [] = ap (λ x. drop (length (reports_of before cache)) (option_map_or (λ slabs. slabs.reports) x [])) now ∙ drop-none (length (reports_of before cache)) [] refl in
          subst (All (ToldPoked poked)) (sym none) (λ k d within. absurd (omega (arith, within)))
      by None is (Some new) now told = absurd told
      by (Some old) is None now told = absurd told
      by (Some old) is (Some new) now told =
          let same : since cache ≡ told.0 =
          ap (λ x. drop (length (option_map_or (λ slabs. slabs.reports) x [])) (reports_of last cache)) is ∙ ap (λ x. drop (length old.reports) (option_map_or (λ slabs. slabs.reports) x [])) now
          ∙ ap (drop (length old.reports)) told.1 ∙ dropped old.reports told.0 in
          subst (All (ToldPoked poked)) (sym same) told.2

  found-told : All (λ (found : Found). ToldPoked poked found.report) (found_in before last)
  found-told = all-flat (λ (found : Found). ToldPoked poked found.report) (found_of before last) cache_numbers (λ cache.
      All-map (λ (found : Found). ToldPoked poked found.report) (λ report. record { title = title_of last cache; report = report }) (since cache) (since-told cache))

-- ---- the round

pub record TellsPoked (told : List Answered) (round : Round) (result : RoundResult) (after : State) : Type 0 where
  pub then : IsTold (told ++ zip round.events result.replies) after
  pub damages : All (λ (found : Found). IsPokedReport (told ++ zip round.events result.replies) found.report) result.damages
  pub frees_told : (one : Answered) → Contains (zip round.events result.replies) one → IsPokedFree (told ++ zip round.events result.replies) one

pub round-told : (told : List Answered) (before : State) (round : Round) (result : RoundResult) (after : State) → IsCoherent before → IsAtRest before → RoundFits before round → DoesRound before round result after → IsTold told before
    → TellsPoked told round result after
round-told told before round result after coherent rest fits does is_told =
    let answers = zip round.events result.replies in
    let runs = runs-of before [] before round.events result.replies does.last (all-within before round.events fits.within) (given-once before round result fits) does.runs in
    let done = runs-told told before [] before answers does.last (start before coherent rest) runs is_told in
    record {
      then = record {
        known = λ object held slabs there now. known answers done object held slabs there now;
        clean = λ cache slabs now. done.then.clean cache slabs (sym (ap (λ (t : State). checked_of t cache) does.after_is) ∙ now);
      };
      damages = subst (All (λ (found : Found). IsPokedReport (told ++ answers) found.report)) (sym does.damages) (found-told (WasPoked (told ++ answers)) before does.last done.adds);
      frees_told = done.frees_told;
    }
  where
    laid : (x : Option Held) (held : Held) → option_map laid_down x ≡ Some held → (last : Held) × (x ≡ Some last) × (laid_down last ≡ held)
    laid None held e = absurd (cc)
    laid (Some last) held e = (last, refl, injected e)

    known : (answers : List Answered) → RoundTold told before answers does.last → (object : ℕ) (held : Held) (slabs : CheckedState) → (held_under after object ≡ Some held) ⊎ (gone_under after object ≡ Some held) → checked_of after held.cache ≡ Some slabs
        → WasGiven (told ++ answers) object (address_of held.frame held.index slabs.layout)
    known answers done object held slabs (inr there) now =
        absurd (let never : None ≡ Some held = sym (ap (λ (t : State). gone_under t object) does.after_is ∙ none-gone does.last.gone object) ∙ there in cc)
    known answers done object held slabs (inl there) now =
        let last = laid (held_under does.last object) held (sym (ap (λ (t : State). held_under t object) does.after_is ∙ laid-under does.last.board object) ∙ there) in
        let cache : last.0.cache ≡ held.cache = ap (λ (h : Held). h.cache) last.2 in
        subst (λ (h : Held). WasGiven (told ++ answers) object (address_of h.frame h.index slabs.layout)) last.2
        (done.then.known object last.0 slabs (inl last.1) (ap (checked_of does.last) cache ∙ sym (ap (λ (t : State). checked_of t held.cache) does.after_is) ∙ now))
