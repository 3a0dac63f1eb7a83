-- What a result of an item says of what is counted.
use Rattle.std.proofs.Common.{◌≡◌, ◌∙◌, ℕ, ◌+◌, ◌<◌, List, [], ◌∷◌, ◌++◌, length, get_or, Some, ap, refl, sym, subst, slice_get}
use Rattle.std.specs.Prelude.{IfOk, OnOk, Result, Ok, Err}
use Rattle.std.proofs.lemmas.Option.{slice_get_read}
use Rattle.slub_lists.specs.State.{State}
use Rattle.slub_lists.specs.Coherent.{IsCoherent}
use Rattle.slub_trace.specs.declared.event.Round.{Round}
use Rattle.slub_trace.specs.declared.trace.Item.{Item}
use Rattle.slub_trace.specs.declared.trace.Item.TheVariants as item
use Rattle.slub_trace.specs.declared.trace.Trace.{Trace}
use Rattle.slub_trace.specs.Sound.{IsSound}
use Rattle.slub_slabinfo_text.specs.declared.journal.Done.{Done}
use Rattle.slub_slabinfo_text.specs.Lawful.{opening_of}
use Rattle.slub_law_rounds.specs.Round.{IsRound}
use Rattle.slub_slabinfo_text.specs.declared.journal.RoundResult.{RoundResult}
use Rattle.slub_law_replay.specs.declared.way.Way.{Way}
use Rattle.slub_law_replay.specs.Runs.{DoesAt, IsReadyMachine, MachineState, machine_of}
use Rattle.slub_asked.specs.declared.stop.Stop.{Stop}
use Rattle.slub_steps.specs.Counted.{AreCounted, AreFew, CountsOn, IsOutcome, IsRoundDone}
use Rattle.slub_steps.proofs.Counting.{counted-few, counted-first, counted-plain, counted-round}

-- the item of the number is this round
pub round-here : (trace : Trace) (number : ℕ) (it : Item) (round : Round) → number < length trace.items → it ≡ get_or trace.items number it → it ≡ item.Round round → slice_get trace.items number ≡ Some (item.Round round)
round-here trace number it round within at is = slice_get_read trace.items (length trace.items) number it refl within at ∙ ap (λ (it : Item). Some it) is

-- the item of the number is this
pub item-here : (trace : Trace) (number : ℕ) (it : Item) → number < length trace.items → it ≡ get_or trace.items number it → slice_get trace.items number ≡ Some it
item-here trace number it within at = slice_get_read trace.items (length trace.items) number it refl within at

pub counts-round : (m : MachineState) (trace : Trace) (number : ℕ) (round : Round) (r : Result (MachineState × Done) Stop) → IsSound trace → IsReadyMachine m trace number → slice_get trace.items number ≡ Some (item.Round round)
    → IfOk r (λ done. IsRoundDone m.lists round done.1 done.0.lists) → IfOk r (λ done. IsReadyMachine done.0 trace (number + 1)) → IfOk r (λ done. CountsOn trace number m.lists done.1 done.0.lists)
counts-round m trace number round (Ok done) sound ready here does next = λ dones so_far. counted-round m trace number round done.1 dones done.0 sound ready here so_far does next.lists.coherent
counts-round m trace number round (Err stop) sound ready here does next = tt

pub counts-plain : (way : Way) (m : MachineState) (trace : Trace) (number : ℕ) (r : Result (MachineState × Done) Stop) → IsSound trace → IsReadyMachine m trace number
    → IfOk r (λ done. DoesAt way m trace number done.1 done.0) → IfOk r (λ done. IsReadyMachine done.0 trace (number + 1)) → IfOk r (λ done. CountsOn trace number m.lists done.1 done.0.lists)
counts-plain way m trace number (Ok done) sound ready does next = λ dones so_far. counted-plain way m trace number done.1 dones done.0 sound ready so_far does next.lists.coherent
counts-plain way m trace number (Err stop) sound ready does next = tt

-- what is kept is what was done
pub kept-ready : (trace : Trace) (number : ℕ) (m : MachineState) (r : Result MachineState Stop) → IsReadyMachine m trace (number + 1) → IfOk r (λ after. after ≡ m) → IfOk r (λ after. IsReadyMachine after trace (number + 1))
kept-ready trace number m (Ok after) ready same = subst (λ (m : MachineState). IsReadyMachine m trace (number + 1)) (sym same) ready
kept-ready trace number m (Err stop) ready same = tt

pub kept-counted : (trace : Trace) (number : ℕ) (s : State) (answer : Done) (old new : List Done) (m : MachineState) (r : Result MachineState Stop) → AreCounted trace number old s → CountsOn trace number s answer m.lists → IfOk r (λ after. after ≡ m) → OnOk r (new ≡ old ++ answer ∷ [])
    → IfOk r (λ after. AreCounted trace (number + 1) new after.lists)
kept-counted trace number s answer old new m (Ok after) so_far counts same put = rw (same, put) (counts old so_far)
kept-counted trace number s answer old new m (Err stop) so_far counts same put = tt

-- ---- all items

-- the machine stands before an item, and this is counted
pub record Stands (trace : Trace) (number : ℕ) (m : MachineState) (dones : List Done) : Type 0 where
  pub ready : IsReadyMachine m trace number
  pub counted : AreCounted trace number dones m.lists

pub stands-first : (trace : Trace) (m : MachineState) (dones : List Done) → IsReadyMachine (machine_of trace) trace 0 → IsCoherent (opening_of trace) → m ≡ machine_of trace → dones ≡ [] → Stands trace 0 m dones
stands-first trace m dones ready coherent same none = rw (same, none) (record { ready = ready; counted = counted-first trace coherent })

pub stands-few : (trace : Trace) (number : ℕ) (m : MachineState) (dones : List Done) → IsSound trace → Stands trace number m dones → AreFew dones
stands-few trace number m dones sound stands = counted-few trace number dones m.lists sound stands.counted

-- ---- a round

pub from-ok : {A E : Type 0} (r : Result A E) (x : A) (P : A → Type 0) → r ≡ Ok x → IfOk r P → P x
from-ok {A} {E} r x P is holds = subst (λ (r : Result A E). IfOk r P) is holds

pub closed-done : (s : State) (round : Round) (outcome : RoundResult) (m : MachineState) (r : Result (MachineState × Done) Stop) → IsRound s round outcome m.lists → IfOk r (λ done. (done.0 ≡ m) × IsOutcome outcome done.1) → IfOk r (λ done. IsRoundDone s round done.1 done.0.lists)
closed-done s round outcome m (Ok done) lawful same = (outcome, same.1, subst (λ (m : MachineState). IsRound s round outcome m.lists) (sym same.0) lawful)
closed-done s round outcome m (Err stop) lawful same = tt

pub closed-ready : (trace : Trace) (number : ℕ) (outcome : RoundResult) (m : MachineState) (r : Result (MachineState × Done) Stop) → IsReadyMachine m trace number → IfOk r (λ done. (done.0 ≡ m) × IsOutcome outcome done.1) → IfOk r (λ done. IsReadyMachine done.0 trace number)
closed-ready trace number outcome m (Ok done) ready same = subst (λ (m : MachineState). IsReadyMachine m trace number) (sym same.0) ready
closed-ready trace number outcome m (Err stop) ready same = tt
