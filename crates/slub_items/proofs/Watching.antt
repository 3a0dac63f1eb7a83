-- The machine after a round that is watched.
use Rattle.std.proofs.Common.{◌≡◌, ℕ, ◌+◌, ◌<◌, ◌∷◌, ◌++◌, List, length, drop, get_or, flat_map, ap, ◌∙◌, sym, subst, arith, Some, None, Option, slice_get, inl, inr}
use Rattle.std.proofs.lemmas.Bool.{cases_lt}
use Rattle.std.proofs.lemmas.List.{drop_more, length-append}
use Rattle.std.proofs.lemmas.Option.{get_or_from_slice_get, none-some, slice_get_past}
use Rattle.slub_trace.specs.declared.event.Round.{Round}
use Rattle.slub_trace.specs.declared.trace.Item.{Item}
use Rattle.slub_trace.specs.declared.trace.Item.TheVariants as item
use Rattle.slub_trace.specs.declared.trace.Trace.{Trace}
use Rattle.slub_trace.specs.Sound.{objects_in, objects_of}
use Rattle.slub_slabinfo_text.specs.declared.journal.RoundResult.{RoundResult}
use Rattle.slub_slabinfo_text.specs.Lawful.{coming}
use Rattle.slub_engine.proofs.Ready.{ready_next}
use Rattle.slub_law_rounds.specs.Round.{IsRound}
use Rattle.slub_rounds.specs.Heap.{IsSoundHeap}
use Rattle.slub_rounds.specs.Reserves.{AreSoundReserves}
use Rattle.slub_rounds.proofs.Staying.{round-unheld}
use Rattle.slub_rounds.proofs.Wanted.{round-room}
use Rattle.slub_law_replay.specs.Runs.{IsReadyMachine, KeepsReserves, MachineState, heap_of}
use Rattle.slub_law_replay.specs.Ways.{AreLeft}
use Rattle.slub_items.specs.Watched.{AreGiven, IsDue}
use Rattle.slub_items.proofs.Items.{keeps_sizes}
use Rattle.slub_items.proofs.Standing.{left_stand}

-- the item of a number is there
item_there : (items : List Item) (number : ℕ) (it : Item) → slice_get items number ≡ Some it → (number < length items) × (it ≡ get_or items number it)
item_there items number it is = (
  elim (cases_lt number (length items)) [
    | inl below ↦ below
    | inr past ↦ absurd (none-some it (sym (slice_get_past items number past) ∙ is))
  ],
  sym (get_or_from_slice_get items number it it is),
)

coming_split : (trace : Trace) (number : ℕ) (it : Item) → number < length trace.items → it ≡ get_or trace.items number it → coming trace number ≡ objects_in it ++ coming trace (number + 1)
coming_split trace number it within is =
    ap (λ (items : List Item). flat_map objects_in items) (drop_more trace.items number it within ∙ ap (λ (first : Item). first ∷ drop (number + 1) trace.items) (sym is))

-- ids that are given besides aren't kept, and the others stay beside the lists
pub given_left : (ids : Option (List ℕ)) (kept : List ℕ) (left others : Option (List ℕ)) → AreGiven ids kept left others → AreLeft ids kept left
given_left None kept left others given = given.0
given_left (Some ids) kept left others given = given.0

-- a lawful round that goes on from the ids leaves the machine before the next item, by whatever turns it was made
pub ready_lawful : (m after : MachineState) (trace : Trace) (number : ℕ) (round : Round) (result : RoundResult) (kept : List ℕ) → IsDue m trace number round → AreLeft m.ids kept after.ids → IsRound m.lists round result after.lists → IsSoundHeap (heap_of after) → KeepsReserves m after
    → after.rounds ≡ m.rounds + 1 → IsReadyMachine after trace (number + 1)
ready_lawful m after trace number round result kept due left law heap same more =
    let there = item_there trace.items number (item.Round round) due.here in
    let split = coming_split trace number (item.Round round) there.0 there.1 in
    let long : length (coming trace number) ≡ length (objects_of round.events) + length (coming trace (number + 1)) = ap (λ (xs : List ℕ). length xs) split ∙ length-append (objects_of round.events) (coming trace (number + 1)) in
    record {
      ids = left_stand trace m.lists after.lists m.ids after.ids kept due.ready.ids left heap.ids;
      lists =
          ready_next m.lists after.lists trace number (item.Round round) due.sound due.ready.lists there.0 there.1 law.coherent (keeps_sizes m.lists round result after.lists law) law.rest
          (round-unheld m.lists round result after.lists law);
      reserves = subst (AreSoundReserves trace) (sym same) due.ready.reserves;
      rounds = omega (arith, more, due.ready.rounds);
      dry = λ order. round-room m.lists round result after.lists (length (coming trace (number + 1))) order law (omega (arith, due.ready.dry order, long));
    }
