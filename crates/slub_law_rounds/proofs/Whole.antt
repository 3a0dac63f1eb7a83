-- The whole of a round.
use Rattle.std.proofs.Common.{◌≡◌, ◌≢◌, ℕ, ◌+◌, ◌<◌, ◌≤◌, Bool, true, false, List, [], ◌∷◌, ◌++◌, length, get_or, map, refl, sym, ◌∙◌, ap, subst, arith, All, Option, Some, None, IsSome, MatchOption, inl, inr, ◌⊎◌, is_some, zero, suc}
use Rattle.std.specs.List.{Contains, zip}
use Rattle.std.specs.Option.{option_map, option_map_or, option_and_then}
use Rattle.std.specs.Prelude.{◌↔◌}
use Rattle.std.proofs.lemmas.List.{length-map}
use Rattle.slub_trace.specs.declared.event.Round.{Round}
use Rattle.slub_object_layout.specs.Layout.{address_of}
use Rattle.slub_red_zone.specs.State.{CheckedState, aside_in, objects_in, slab_of as checked_slab}
use Rattle.slub_lists.specs.declared.lists.Held.{Held}
use Rattle.slub_lists.specs.State.{State}
use Rattle.slub_lists.specs.Alloc.{checked_of}
use Rattle.slub_lists.specs.Coherent.{IsCoherent, all_on_board, held_under, laid_down}
use Rattle.slub_lists.proofs.Coherence.{all_on_board-consistent}
use Rattle.slub_lists.proofs.Kept.{coherent-of, consistent-of}
use Rattle.slub_lists.specs.Words.{held_by, is_worker}
use Rattle.slub_lists.proofs.CheckedSlabs.{at_some}
use Rattle.slub_red_zone.proofs.Comings.{counted-there}
use Rattle.slub_trace.specs.Sound.{objects_of}
use Rattle.slub_common.specs.Times.{times}
use Rattle.slub_slabinfo_text.specs.declared.journal.Found.{Found}
use Rattle.slub_slabinfo_text.specs.declared.journal.RoundResult.{RoundResult}
use Rattle.slub_slabinfo_text.specs.Lawful.{DoesRound, IsAtRest, IsUnheld, is_by}
use Rattle.slub_law_rounds.specs.Answered.{Answered, IsAfter, of_worker, times_freed, times_given}
use Rattle.slub_law_rounds.specs.Round.{ReplyCause, RoundFits, IsBoardAfter, IsOfSlab, IsRound, Spot, WasGivenAt, aside_at, spot_of, spot_under}
use Rattle.slub_law_rounds.proofs.Causes.{cause-of, if-some}
use Rattle.slub_law_rounds.proofs.Reports.{found-aside, found-differ, reports-none}
use Rattle.slub_law_rounds.proofs.Rounds.{Reaches, Runs, SameCaches, Tale, all-within, runs-even, runs-of, runs-reach, runs-tale}
use Rattle.slub_law_rounds.proofs.Runs.{gone_under, on_board, splits}
use Rattle.slub_law_rounds.proofs.Tale.{held-by-none, held-by-some, injected, on-before, same-worker, some-object, spot-kept}
use Rattle.slub_law_rounds.proofs.Times.{events_given, once_times, one_where}

-- ---- before the first event

times-held : (before : State) (objects : List ℕ) (object : ℕ) → All (IsUnheld before) objects → 0 < times object objects → held_under before object ≡ None
times-held before objects object unheld some =
    let there = counted-there object objects some in
    subst (IsUnheld before) there.2 (unheld there.0 object there.1)

-- a number that was on the board isn't given, and none is given twice
pub given-once : (before : State) (round : Round) (result : RoundResult) → RoundFits before round → (object : ℕ) → on_board object before + times_given object (zip round.events result.replies) ≤ 1
given-once before round result fits object = by (held_under before object) refl
  where
    few : times_given object (zip round.events result.replies) ≤ times object (objects_of round.events)
    few = events_given object round.events result.replies

    once : times object (objects_of round.events) ≤ 1
    once = once_times object (objects_of round.events) fits.distinct

    by : (x : Option Held) → held_under before object ≡ x → on_board object before + times_given object (zip round.events result.replies) ≤ 1
    by None is = let off : on_board object before ≡ 0 = ap (λ (x : Option Held). one_where (is_some x)) is in omega (arith, off, few, once)
    by (Some held) is =
        let never : 0 < times object (objects_of round.events) → ⊥ = λ some. (let none : None ≡ Some held = sym (times-held before (objects_of round.events) object fits.unheld some) ∙ is in cc) in
        let none : times object (objects_of round.events) ≡ 0 = zero-of (times object (objects_of round.events)) never in
        omega (arith, on-before before object held is, few, none)
      where
        zero-of : (n : ℕ) → (0 < n → ⊥) → n ≡ 0
        zero-of zero never = refl
        zero-of (suc n) never = absurd (never (omega arith))

-- nothing is answered yet
pub start : (before : State) → IsCoherent before → IsAtRest before → Tale before [] before
start before coherent rest = record {
  coherent = coherent;
  caches = record { frames = refl; cpus = refl; table = refl; board = refl };
  count = λ object. omega arith;
  holds = λ worker object. sym (none-held worker object (held_under before object) refl);
  spots = λ worker object held there may. ap (option_and_then (spot_of before)) there;
  boards = record {
    placed = λ object was held there here. ap laid_down (injected (sym here ∙ there));
    still = λ object held there none. there;
    given = λ object held there none. absurd (let never : None ≡ Some held = sym none ∙ there in cc);
  };
  takens = record {
    taken = λ object worker some more. absurd (omega (arith, more));
    one_worker = λ object one other some more also. absurd (omega (arith, more));
    holder = λ object worker held some there mine. absurd (let never : None ≡ Some worker = sym (laid object held there) ∙ mine in cc);
  };
  values = λ worker object word value held live there mine unchecked is_live within last. absurd (let never : None ≡ Some value = last in cc);
  gones = record {
    spots = λ worker object held there mine. never object held there;
    freed_once = λ object held there. never object held there;
    off = λ object held there. never object held there;
  };
  puts = record {
    unput = λ worker object word place held there free. refl;
    bytes = λ worker object word place byte held live slabs there mine is_live was within below last. absurd (let none : None ≡ Some byte = last in cc);
  };
  dry = λ order within room. omega arith;
  reports = reports-none before;
}
  where
    never : (object : ℕ) (held : Held) {A : Type 0} → gone_under before object ≡ Some held → A
    never object held there = absurd (let none : None ≡ Some held = sym (rest.forgotten object) ∙ there in cc)

    laid : (object : ℕ) (held : Held) → held_under before object ≡ Some held → held.worker ≡ None
    laid object held there = at_some (held_under before object) held (λ held. held.worker ≡ None) there (rest.laid_down object)

    none-held : (worker object : ℕ) (x : Option Held) → held_under before object ≡ x → is_some (held_by before worker object) ≡ false
    none-held worker object None e = held-by-none before worker object e
    none-held worker object (Some held) e = held-by-some before worker object held e ∙ ap (is_worker worker) (laid object held e)

-- ---- after the last

pub laid-under : (board : List (Option Held)) (object : ℕ) → get_or (map (option_map laid_down) board) object None ≡ option_map laid_down (get_or board object None)
laid-under [] object = refl
laid-under (held ∷ board) zero = refl
laid-under (held ∷ board) (suc object) = laid-under board object

abbrev pub nothing : Option Held
nothing = None

pub none-gone : (gone : List (Option Held)) (object : ℕ) → get_or (map (λ (freed : Option Held). nothing) gone) object None ≡ None
none-gone [] object = refl
none-gone (freed ∷ gone) zero = refl
none-gone (freed ∷ gone) (suc object) = none-gone gone object

module _ (before : State) (round : Round) (result : RoundResult) (after : State) (coherent : IsCoherent before) (rest : IsAtRest before) (fits : RoundFits before round) (does : DoesRound before round result after) where
  abbrev answers : List Answered
  answers = zip round.events result.replies

  once : (object : ℕ) → on_board object before + times_given object answers ≤ 1
  once = given-once before round result fits

  tale : Tale before answers does.last
  tale = runs-tale before [] before answers does.last (start before coherent rest) (runs-of before [] before round.events result.replies does.last (all-within before round.events fits.within) once does.runs)

  reaches : (front : List Answered) (one : Answered) (back : List Answered) → answers ≡ front ++ one ∷ back → Reaches before front one
  reaches front one back split =
      runs-reach before [] before front one back does.last (start before coherent rest)
      (subst (λ (l : List Answered). Runs before [] before l does.last) split (runs-of before [] before round.events result.replies does.last (all-within before round.events fits.within) once does.runs))

  causes : (worker : ℕ) (own : List Answered) (one : Answered) → IsAfter answers worker own one → ReplyCause before answers own one.0.act one.1
  causes worker own one is_after =
      let at = splits (is_by worker) answers own is_after.later one is_after.split in
      let here = reaches at.before one at.behind at.parts in
      let mine : of_worker one.0.worker at.before ≡ own = ap (λ w. of_worker w at.before) (same-worker one.0.worker worker at.is) ∙ at.sifted in
      subst (λ (own : List Answered). ReplyCause before answers own one.0.act one.1) mine
      (subst (λ (all : List Answered). ReplyCause before all (of_worker one.0.worker at.before) one.0.act one.1) (sym at.parts)
      (cause-of before at.before here.mid one here.next at.behind here.moves here.tale coherent))

  -- ---- the board after

  now-under : (object : ℕ) → held_under after object ≡ option_map laid_down (held_under does.last object)
  now-under object = ap (λ (t : State). held_under t object) does.after_is ∙ laid-under does.last.board object

  after-coherent : IsCoherent after
  after-coherent = subst IsCoherent (sym does.after_is) (coherent-of (all_on_board does.last) (all_on_board-consistent does.last (consistent-of does.last tale.coherent)) tale.coherent.kept)

  after-rest : IsAtRest after
  after-rest = record {
    laid_down = λ object. if-some (held_under after object) _ (λ held there. laid (held_under does.last object) held (sym (now-under object) ∙ there));
    forgotten = λ object. ap (λ (t : State). gone_under t object) does.after_is ∙ none-gone does.last.gone object;
  }
    where
      laid : (x : Option Held) (held : Held) → option_map laid_down x ≡ Some held → held.worker ≡ None
      laid None held e = absurd (cc)
      laid (Some last) held e = ap (λ (h : Held). h.worker) (sym (injected e))

  after-caches : SameCaches before after
  after-caches = record {
    frames = ap (λ (t : State). t.frames) does.after_is ∙ tale.caches.frames;
    cpus = ap (λ (t : State). t.cpus) does.after_is ∙ tale.caches.cpus;
    table = ap (λ (t : State). t.table) does.after_is ∙ tale.caches.table;
    board = ap (λ (t : State). length t.board) does.after_is ∙ length-map does.last.board (option_map laid_down) ∙ tale.caches.board;
  }

  on-after : (object : ℕ) → on_board object after ≡ on_board object does.last
  on-after object = ap (λ (x : Option Held). one_where (is_some x)) (now-under object) ∙ by (held_under does.last object)
    where
      by : (x : Option Held) → one_where (is_some (option_map laid_down x)) ≡ one_where (is_some x)
      by None = refl
      by (Some held) = refl

  is-there : (x : Option Held) → one_where (is_some x) ≡ 1 → IsSome x
  is-there None none = absurd (omega (arith, none))
  is-there (Some held) some = refl

  at-most : (object : ℕ) (s : State) → on_board object s ≤ 1
  at-most object s = by (is_some (held_under s object))
    where
      by : (b : Bool) → one_where b ≤ 1
      by true = omega arith
      by false = omega arith

  numbers : (object : ℕ) → IsSome (held_under after object) ↔ ((IsSome (held_under before object) ⊎ (0 < times_given object answers)) × (times_freed object answers ≡ 0))
  numbers object = (to, from)
    where
      to : IsSome (held_under after object) → (IsSome (held_under before object) ⊎ (0 < times_given object answers)) × (times_freed object answers ≡ 0)
      to some = (there (on_board object before) refl, omega (arith, some-object (held_under after object) some, on-after object, tale.count object, once object))
        where
          there : (n : ℕ) → on_board object before ≡ n → IsSome (held_under before object) ⊎ (0 < times_given object answers)
          there zero is = inr (omega (arith, some-object (held_under after object) some, on-after object, tale.count object, is))
          there (suc n) is = inl (is-there (held_under before object) (omega (arith, at-most object before, is)))

      from : (IsSome (held_under before object) ⊎ (0 < times_given object answers)) × (times_freed object answers ≡ 0) → IsSome (held_under after object)
      from (inl some, none) = is-there (held_under after object) (omega (arith, some-object (held_under before object) some, on-after object, tale.count object, once object, none))
      from (inr some, none) = is-there (held_under after object) (omega (arith, some, on-after object, tale.count object, once object, none))

  board : IsBoardAfter before answers after
  board = record {
    numbers = numbers;
    stays = λ object. if-some (held_under before object) _ (λ held there. stays object held there (held_under does.last object) refl);
    comes = λ object none. if-some (spot_under after object) _ (λ spot is. comes object none spot is (held_under does.last object) refl);
    once = λ object. omega (arith, tale.count object, once object);
    one_worker = tale.takens.one_worker;
  }
    where
      was-laid : (object : ℕ) (held : Held) → held_under before object ≡ Some held → laid_down held ≡ held
      was-laid object held there = ap (λ (w : Option ℕ). record held { worker = w }) (sym (at_some (held_under before object) held (λ held. held.worker ≡ None) there (rest.laid_down object)))

      stays : (object : ℕ) (held : Held) → held_under before object ≡ Some held → (x : Option Held) → held_under does.last object ≡ x → (held_under after object ≡ Some held) ⊎ (held_under after object ≡ None)
      stays object held there None e = inr (now-under object ∙ ap (option_map laid_down) e)
      stays object held there (Some last) e = inl (now-under object ∙ ap (option_map laid_down) e ∙ ap Some (tale.boards.placed object held last there e ∙ was-laid object held there))

      comes : (object : ℕ) → held_under before object ≡ None → (spot : Spot) → spot_under after object ≡ Some spot → (x : Option Held) → held_under does.last object ≡ x → WasGivenAt before answers object spot
      comes object none spot is None e = absurd (let never : None ≡ Some spot = sym (ap (option_and_then (spot_of after)) (now-under object ∙ ap (option_map laid_down) e)) ∙ is in cc)
      comes object none spot is (Some last) e =
          let given = tale.boards.given object last e none in
          let here : spot_of after (laid_down last) ≡ Some spot = sym (ap (option_and_then (spot_of after)) (now-under object ∙ ap (option_map laid_down) e)) ∙ is in
          let same : given.0 ≡ spot = injected (sym given.1 ∙ sym (spot-kept before after last after-caches.table) ∙ here) in
          subst (WasGivenAt before answers object) same given.2

  -- the slabs of checked caches are those after the last event
  after-checked : after.checked ≡ does.last.checked
  after-checked = ap (λ (t : State). t.checked) does.after_is

  aside : (cache frame : ℕ) → aside_at before cache frame < aside_at after cache frame → (found : Found) × Contains result.damages found × IsOfSlab after cache frame found.report
  aside cache frame more =
      let same : checked_of after cache ≡ checked_of does.last cache = ap (λ (l : List (Option CheckedState)). get_or l cache None) after-checked in
      let less : aside_at before cache frame < aside_at does.last cache frame = subst (λ n. aside_at before cache frame < n) (ap (λ x. option_map_or (λ slabs. aside_in (checked_slab slabs frame)) x 0) same) more in
      let found = found-aside before does.last tale.reports tale.coherent cache frame less in (
        found.0,
        subst (λ l. Contains l found.0) (sym does.damages) found.1,
        (found.2.0, subst (λ x. MatchOption x ⊥ (λ slabs. (index : ℕ) × (index < objects_in (checked_slab slabs frame)) × (found.0.report.address ≡ address_of frame index slabs.layout))) (sym same) found.2.1),
      )

  pub lawful : IsRound before round result after
  lawful = record {
    replies = runs-even before round.events result.replies does.last does.runs;
    causes = causes;
    coherent = after-coherent;
    rest = after-rest;
    frames = after-caches.frames;
    cpus = after-caches.cpus;
    objects = after-caches.board;
    table = after-caches.table;
    board = board;
    ledgers = does.ledgers;
    dry = λ order within room. ap (λ (t : State). get_or t.pool.dry order 0) does.after_is ∙ tale.dry order within room;
    damages = subst (All (λ (found : Found). found.report.damage.found ≢ found.report.damage.wanted)) (sym does.damages) (found-differ before does.last tale.reports);
    aside = aside;
  }
