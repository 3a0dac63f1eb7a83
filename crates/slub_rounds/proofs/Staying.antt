-- What a heap stays open to.
use Rattle.std.proofs.Common.{◌≡◌, ℕ, ◌+◌, ◌<◌, ◌≤◌, Bool, true, false, List, [], length, get_or, All, refl, sym, ◌∙◌, ap, subst, arith, Option, Some, None, IsSome, inl, inr, ◌⊎◌}
use Rattle.std.specs.List.{Contains, list_any, zip}
use Rattle.std.specs.Prelude.{slice_index_or}
use Rattle.std.proofs.lemmas.List.Folds.{list_any_at}
use Rattle.std.proofs.lemmas.Bool.{false≢true}
use Rattle.slub_common.specs.Times.{times}
use Rattle.slub_trace.specs.declared.event.Round.{Round}
use Rattle.slub_cache_create.specs.Table.{Table}
use Rattle.slub_red_zone.proofs.Comings.{counted-there}
use Rattle.slub_lists.specs.declared.lists.Held.{Held}
use Rattle.slub_lists.specs.State.{State}
use Rattle.slub_lists.specs.Coherent.{held_under}
use Rattle.slub_trace.specs.declared.trace.Trace.{Trace}
use Rattle.slub_trace.specs.Sound.{objects_of}
use Rattle.slub_slabinfo_text.specs.declared.journal.RoundResult.{RoundResult}
use Rattle.slub_law_rounds.specs.Answered.{times_freed, times_given}
use Rattle.slub_law_rounds.specs.Round.{IsRound}
use Rattle.slub_law_rounds.proofs.Times.{events_given}
use Rattle.slub_engine.specs.Steps.{KeepsUnheld}
use Rattle.slub_rounds.specs.ByText.{DoesByText}
use Rattle.slub_rounds.specs.Heap.{DoesRoundOf, HeapState, IsSoundHeap}
use Rattle.slub_rounds.specs.Asked.{AreGiven, IsOpenTo, StaysOpen}
use Rattle.slub_rounds.proofs.Wanted.{round-room}

-- ---- fewer objects, and none

pub open-fewer : (h : HeapState) (trace : Trace) (more fewer : ℕ) → fewer ≤ more → IsOpenTo h trace more → IsOpenTo h trace fewer
open-fewer h trace more fewer less is = record {
  sound = is.sound;
  rest = is.rest;
  given = is.given;
  frames = is.frames;
  cpus = is.cpus;
  objects = is.objects;
  numbers = is.numbers;
  names = is.names;
  dry = λ order. omega (arith, is.dry order, less);
}

pub stays-same : (h : HeapState) (trace : Trace) (asked : ℕ) → StaysOpen h trace asked h
stays-same h trace asked = λ more is. open-fewer h trace (asked + more) more (omega arith) is

-- a heap that was open to what was asked can still be asked
pub stays-now : (h : HeapState) (trace : Trace) (asked : ℕ) (after : HeapState) → IsOpenTo h trace asked → StaysOpen h trace asked after → IsOpenTo after trace 0
stays-now h trace asked after is stays = stays 0 (open-fewer h trace asked (asked + 0) (omega arith) is)

-- one asking after another
pub stays-both : (h mid after : HeapState) (trace : Trace) (first second : ℕ) → StaysOpen h trace first mid → StaysOpen mid trace second after → StaysOpen h trace (first + second) after
stays-both h mid after trace first second one other =
    λ more is. other more (one (second + more) (open-fewer h trace ((first + second) + more) (first + (second + more)) (omega arith) is))

-- the second asks nothing
pub stays-then : (h mid after : HeapState) (trace : Trace) (asked : ℕ) → StaysOpen h trace asked mid → StaysOpen mid trace 0 after → StaysOpen h trace asked after
stays-then h mid after trace asked one other =
    λ more is. other more (open-fewer mid trace more (0 + more) (omega arith) (one more is))

-- ---- replies

-- none of them is of this kind
pub none-any : {X : Type 0} (p : X → Bool) (xs : List X) → list_any p xs ≡ false → All (λ x. p x ≡ false) xs
none-any {X = X} p xs none = λ k d inside. by k d inside (p (get_or xs k d)) refl
  where
    by : (k : ℕ) (d : X) → k < length xs → (b : Bool) → p (get_or xs k d) ≡ b → p (get_or xs k d) ≡ false
    by k d inside false is = is
    by k d inside true is = absurd (false≢true (sym none ∙ list_any_at p xs k d inside is))

-- ---- a lawful round

-- a round makes no ids, and takes none away
given-after : (trace : Trace) (s : State) (ids : Option (List ℕ)) (round : Round) (result : RoundResult) (after : State) (left : Option (List ℕ)) → DoesByText s ids round result after left → AreGiven trace ids → AreGiven trace left
given-after trace s None round result after left does given = subst (AreGiven trace) (sym does.1) given
given-after trace s (Some ids) round result after left does given = subst (AreGiven trace) (sym does.2) given

none-of : (x : Option Held) → (IsSome x → ⊥) → x ≡ None
none-of None never = refl
none-of (Some held) never = absurd (never refl)

module _ (h : HeapState) (round : Round) (result : RoundResult) (after : HeapState) (does : DoesRoundOf h round result after) (is : IsRound h.lists round result after.lists) (sound : IsSoundHeap after) where
  pub round-stays : (trace : Trace) → StaysOpen h trace (length (objects_of round.events)) after
  round-stays trace = λ more was. record {
    sound = sound;
    rest = is.rest;
    given = given-after trace h.lists h.ids round result after.lists after.ids does was.given;
    frames = is.frames ∙ was.frames;
    cpus = is.cpus ∙ was.cpus;
    objects = is.objects ∙ was.objects;
    numbers = was.numbers;
    names = ap (λ (table : Table). table.kept) is.table ∙ was.names;
    dry = λ order. (let room = was.dry order in round-room h.lists round result after.lists more order is (omega (arith, room)));
  }

-- what wasn't held and isn't allocated isn't held
module _ (s : State) (round : Round) (result : RoundResult) (after : State) (is : IsRound s round result after) where
  pub round-unheld : KeepsUnheld s (objects_of round.events) after
  round-unheld object none out = none-of (held_under after object) (λ there. by ((is.board.numbers object).0 there))
    where
      few : times_given object (zip round.events result.replies) ≤ times object (objects_of round.events)
      few = events_given object round.events result.replies

      by : ((IsSome (held_under s object) ⊎ (0 < times_given object (zip round.events result.replies))) × (times_freed object (zip round.events result.replies) ≡ 0)) → ⊥
      by (inl was, freed) = absurd (false≢true (subst IsSome none was))
      by (inr given, freed) = out (counted-there object (objects_of round.events) (omega (arith, given, few)))

-- ---- what isn't held

pub held-or-none : (s : State) (object : ℕ) → IsSome (held_under s object) → held_under s object ≡ None → ⊥
held-or-none s object some none = by (held_under s object) some none
  where
    by : (x : Option Held) → IsSome x → x ≡ None → ⊥
    by None some none = absurd (cc)
    by (Some held) some none = absurd (cc)

-- stays so where the board does
pub board_keeps : (s after : State) (objects : List ℕ) → after.board ≡ s.board → KeepsUnheld s objects after
board_keeps s after objects same object none out = subst (λ (b : List (Option Held)). slice_index_or b object None ≡ None) (sym same) none

-- and after one round and another, which asks nothing
pub unheld_after : (s mid after : State) (objects : List ℕ) → KeepsUnheld s objects mid → KeepsUnheld mid [] after → KeepsUnheld s objects after
unheld_after s mid after objects first second object unheld out = second object (first object unheld out) (λ mine. none_of object mine)
  where
    none_of : (object : ℕ) → Contains [] object → ⊥
    none_of object mine = absurd (let never : ⊥ = omega (arith, mine.1) in never)
