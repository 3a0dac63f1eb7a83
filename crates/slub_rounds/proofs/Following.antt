-- What a lawful round leaves for the next one.
use Rattle.std.proofs.Common.{◌≡◌, ℕ, zero, suc, ◌^◌, ◌<◌, ◌≤◌, List, get_or, slice_index, refl, ap, ◌∙◌, subst, arith, Option, Some, None, IsSome, inl, inr, ◌⊎◌}
use Rattle.std.specs.List.{Contains, zip}
use Rattle.std.proofs.lemmas.Bool.{cases_lt, false≢true}
use Rattle.std.proofs.lemmas.List.Sums.{count_by-le-length}
use Rattle.std.proofs.lemmas.Slice.Zip.{length-zip}
use Rattle.slub_common.specs.Times.{times}
use Rattle.slub_trace.specs.declared.event.Round.{Round}
use Rattle.slub_cache_create.specs.Table.{Table}
use Rattle.slub_red_zone.proofs.Comings.{counted-there}
use Rattle.slub_trace.specs.declared.trace.Trace.{Trace}
use Rattle.slub_trace.specs.Sound.{objects_of}
use Rattle.slub_lists.specs.declared.lists.Held.{Held}
use Rattle.slub_lists.specs.State.{State}
use Rattle.slub_lists.specs.Coherent.{held_under}
use Rattle.slub_law_opening.proofs.Turns.{get_or-beyond}
use Rattle.slub_calls.specs.Laws.{MayDo}
use Rattle.slub_slabinfo_text.specs.declared.journal.RoundResult.{RoundResult}
use Rattle.slub_slabinfo_text.specs.Lawful.{lacks}
use Rattle.slub_law_rounds.specs.Answered.{Answered, times_freed, times_given}
use Rattle.slub_law_rounds.specs.Round.{IsRound}
use Rattle.slub_law_rounds.proofs.Times.{events_given}
use Rattle.slub_rounds.specs.Laws.{MayFollow}

none-of : (x : Option Held) → (IsSome x → ⊥) → x ≡ None
none-of None never = refl
none-of (Some held) never = absurd (never refl)

none-below : (n m : ℕ) → m ≤ n → (0 < n → ⊥) → m ≡ 0
none-below zero m below never = omega (arith, below)
none-below (suc n) m below never = absurd (never (omega arith))

module _ (s : State) (trace : Trace) (round next : Round) (result : RoundResult) (after : State)
    (may : MayDo s trace round) (follow : MayFollow s trace round next) (is : IsRound s round result after) where
  abbrev answers : List Answered
  answers = zip round.events result.replies

  not-given : (object : ℕ) → (Contains (objects_of round.events) object → ⊥) → times_given object answers ≡ 0
  not-given object new = none-below (times object (objects_of round.events)) (times_given object answers) (events_given object round.events result.replies)
      (λ some. new (counted-there object (objects_of round.events) some))

  -- what wasn't held and isn't allocated isn't held after the round
  unheld-after : (object : ℕ) → held_under s object ≡ None → (Contains (objects_of round.events) object → ⊥) → held_under after object ≡ None
  unheld-after object none new = none-of (held_under after object) (λ there. by ((is.board.numbers object).0 there))
    where
      by : ((IsSome (held_under s object) ⊎ (0 < times_given object answers)) × (times_freed object answers ≡ 0)) → ⊥
      by (inl was, freed) = absurd (false≢true (subst IsSome none was))
      by (inr given, freed) = let zero = not-given object new in omega (arith, given, zero)

  few-wanted : (order : ℕ) → slice_index after.pool.dry order ≤ 2 ^ 62
  few-wanted order = elim (cases_lt order 11) [
    | inl below ↦
        let few = count_by-le-length (lacks s order) answers in
        let zipped = length-zip round.events result.replies in
        let more = is.dry order below (omega (arith, few, zipped, follow.dry order)) in
        omega (arith, more, few, zipped, follow.dry order)
    | inr past ↦
        let nil : slice_index after.pool.dry order ≡ 0 = get_or-beyond after.pool.dry order 0 (omega (arith, past, is.coherent.shaped.pool.orders)) in
        omega (arith, nil)
  ]

  pub leads-on : MayDo after trace next
  leads-on = record {
    sound = follow.sound;
    cpus = is.cpus ∙ may.cpus;
    objects = is.objects ∙ may.objects;
    names = ap (λ (table : Table). table.kept) is.table ∙ may.names;
    unheld = λ k d below. unheld-after (get_or (objects_of next.events) k d) (follow.unheld k d below) (follow.new k d below);
    distinct = follow.distinct;
    few = follow.few;
    dry = few-wanted;
  }
