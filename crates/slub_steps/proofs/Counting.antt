-- What items give and free.
use Rattle.std.proofs.Common.{◌≡◌, ℕ, ◌+◌, ◌<◌, ◌≤◌, List, [], ◌∷◌, ◌++◌, All, flat_map, length, take, get_or, length-append, refl, sym, subst, arith, Option, Some, None, MatchOption, slice_get}
use Rattle.std.proofs.lemmas.List.{take_more}
use Rattle.std.proofs.lemmas.List.Elements.{All-cons}
use Rattle.std.proofs.lemmas.List.Sums.{sum_by-append, sum_by-cons}
use Rattle.std.proofs.lemmas.Option.{get_or_from_slice_get, slice_get_within}
use Rattle.slub_law_rounds.proofs.Times.{times_append}
use Rattle.slub_lists.specs.State.{State}
use Rattle.slub_lists.specs.Coherent.{IsCoherent}
use Rattle.slub_trace.specs.declared.event.Event.{Event}
use Rattle.slub_trace.specs.declared.event.Round.{Round}
use Rattle.slub_trace.specs.declared.trace.Item.{Item}
use Rattle.slub_trace.specs.declared.trace.Item.TheVariants as item
use Rattle.slub_trace.specs.declared.trace.Trace.{Trace}
use Rattle.slub_trace.specs.Sound.{IsSound, IsSoundItem, objects_in, objects_of}
use Rattle.slub_slabinfo_text.specs.declared.journal.Done.{Done}
use Rattle.slub_slabinfo_text.specs.declared.journal.Done.TheVariants as done
use Rattle.slub_slabinfo_text.specs.Lawful.{all_given, coming, freed_of, given_of, opening_of}
use Rattle.slub_law_replay.specs.declared.way.Way.{Way}
use Rattle.slub_law_replay.specs.Runs.{Does, DoesAt, IsReadyMachine, MachineState, RunsItems}
use Rattle.slub_law_replay.proofs.Balanced.{live_board, round-balanced, round-few}
use Rattle.slub_law_replay.proofs.Counted.{room-of, run-counted}
use Rattle.slub_law_replay.proofs.Numbers.{IsBrief, length-first, numbers-few}
use Rattle.slub_law_replay.proofs.Ready.{item-brief, item-sound, item-stands-there}
use Rattle.slub_law_replay.proofs.Standing.{StandsBefore, stands-fewer}
use Rattle.slub_law_replay.proofs.Totals.{opened_none}
use Rattle.slub_steps.specs.Counted.{AreCounted, AreFew, IsRoundDone, held_in}

-- ---- one item

-- an item gave no more than the numbers that it allocates, and what it gave and freed is the change of what is held
pub record Moves (s : State) (it : Item) (dn : Done) (after : State) : Type 0 where
  pub gave : given_of dn ≤ length (objects_in it)
  pub moved : held_in after + freed_of dn ≡ held_in s + given_of dn

all-one : {A : Type 0} (P : A → Type 0) (x : A) → P x → All P (x ∷ [])
all-one P x holds = All-cons P x [] holds (λ k d below. absurd (let never : ⊥ = omega (arith, below) in never))

pub item-moves : (way : Way) (m : MachineState) (trace : Trace) (number : ℕ) (it : Item) (dn : Done) (after : MachineState) → IsSound trace → IsReadyMachine m trace number → slice_get trace.items number ≡ Some it → Does way m trace it dn after → IsCoherent after.lists
    → Moves m.lists it dn after.lists
item-moves way m trace number it dn after sound ready here does coherent =
    let stands = item-stands-there m trace number it sound ready here in
    let rest = coming trace (number + 1) in
    let own : StandsBefore m trace (flat_map objects_in (it ∷ [])) = record {
      lists = stands-fewer m.lists trace (objects_in it ++ rest) (objects_in it ++ []) (λ object. omega (arith, times_append object (objects_in it) rest, times_append object (objects_in it) [])) (omega (arith, length-append (objects_in it) rest, length-append (objects_in it) (let none : List ℕ = [] in none))) stands.lists;
      reserves = stands.reserves;
    } in
    let run : RunsItems way m trace (it ∷ []) (dn ∷ []) after = (after, does, coherent, refl) in
    let counted = run-counted way m trace (it ∷ []) (dn ∷ []) after own (all-one (IsSoundItem trace) it (item-sound m trace number it sound ready here)) (all-one IsBrief it (item-brief m trace number it sound ready here)) run in
    record {
      gave = omega (arith, counted.few, sum_by-cons given_of dn [], length-append (objects_in it) (let none : List ℕ = [] in none));
      moved = omega (arith, counted.balanced, sum_by-cons given_of dn [], sum_by-cons freed_of dn [], live_board m.lists ready.lists.coherent, live_board after.lists coherent);
    }

pub round-moves-it : (m : MachineState) (trace : Trace) (number : ℕ) (round : Round) (dn : Done) (after : MachineState) → IsSound trace → IsReadyMachine m trace number → slice_get trace.items number ≡ Some (item.Round round) → IsRoundDone m.lists round dn after.lists → IsCoherent after.lists
    → Moves m.lists (item.Round round) dn after.lists
round-moves-it m trace number round dn after sound ready here does coherent =
    let stands = item-stands-there m trace number (item.Round round) sound ready here in
    let fine = item-sound m trace number (item.Round round) sound ready here in
    let rest = coming trace (number + 1) in
    let room = room-of m.lists trace (objects_of round.events ++ rest) stands.lists in
    let workers : All (λ (event : Event). event.worker < round.workers) round.events = λ k d within. (fine.events k d within).worker in
    let balanced = round-balanced m.lists round does.0 after.lists does.2 workers rest room in
    let few = round-few m.lists round does.0 after.lists does.2 workers rest room in
    let moves : Moves m.lists (item.Round round) (done.Round does.0) after.lists = record {
      gave = few;
      moved = omega (arith, balanced, live_board m.lists ready.lists.coherent, live_board after.lists coherent);
    } in
    subst (λ (dn : Done). Moves m.lists (item.Round round) dn after.lists) (sym does.1) moves

-- ---- all items so far

pub counted-first : (trace : Trace) → IsCoherent (opening_of trace) → AreCounted trace 0 [] (opening_of trace)
counted-first trace coherent = record {
  few = omega arith;
  balanced = omega (arith, live_board (opening_of trace) coherent, opened_none trace);
}

pub counted-more : (trace : Trace) (number : ℕ) (s : State) (it : Item) (dn : Done) (dones : List Done) (after : State) → slice_get trace.items number ≡ Some it → AreCounted trace number dones s → Moves s it dn after
    → AreCounted trace (number + 1) (dones ++ dn ∷ []) after
counted-more trace number s it dn dones after here so_far moves =
    let inside : number < length trace.items = slice_get_within trace.items number it here in
    let at : get_or trace.items number it ≡ it = get_or_from_slice_get trace.items number it it here in
    let longer = longer_by trace.items number it inside at in
    let given = sum_by-append given_of dones (dn ∷ []) in
    let freed = sum_by-append freed_of dones (dn ∷ []) in
    record {
      few = omega (arith, so_far.few, moves.gave, longer, given, sum_by-cons given_of dn []);
      balanced = omega (arith, so_far.balanced, moves.moved, given, freed, sum_by-cons given_of dn [], sum_by-cons freed_of dn []);
    }
  where
    longer_by : (items : List Item) (n : ℕ) (it : Item) → n < length items → get_or items n it ≡ it → length (flat_map objects_in (take n items)) + length (objects_in it) ≤ length (flat_map objects_in (take (n + 1) items))
    longer_by items n it inside at =
        let all = take_more items n it inside in
        rw (all, at) (let e : length (flat_map objects_in (take n items)) + length (objects_in it) ≤ length (flat_map objects_in (take n items ++ it ∷ [])) = omega (arith, mapped (take n items) it) in e)
      where
        mapped : (xs : List Item) (x : Item) → length (flat_map objects_in (xs ++ x ∷ [])) ≡ length (flat_map objects_in xs) + length (objects_in x)
        mapped [] x = omega (arith, length-append (objects_in x) (let none : List ℕ = [] in none))
        mapped (y ∷ xs) x = omega (arith, mapped xs x, length-append (objects_in y) (flat_map objects_in (xs ++ x ∷ [])), length-append (objects_in y) (flat_map objects_in xs))

pub counted-few : (trace : Trace) (number : ℕ) (dones : List Done) (s : State) → IsSound trace → AreCounted trace number dones s → AreFew dones
counted-few trace number dones s sound counted =
    let few : all_given dones ≤ trace.objects + 1 = omega (arith, counted.few, length-first number trace.items, numbers-few trace sound) in
    record {
      given = omega (arith, few, sound.objects);
      freed = omega (arith, few, sound.objects, counted.balanced);
    }

-- an item that is put behind the journal's
pub counted-plain : (way : Way) (m : MachineState) (trace : Trace) (number : ℕ) (dn : Done) (dones : List Done) (after : MachineState) → IsSound trace → IsReadyMachine m trace number → AreCounted trace number dones m.lists → DoesAt way m trace number dn after → IsCoherent after.lists
    → AreCounted trace (number + 1) (dones ++ dn ∷ []) after.lists
counted-plain way m trace number dn dones after sound ready so_far does coherent = by (slice_get trace.items number) refl does
  where
    by : (found : Option Item) → slice_get trace.items number ≡ found → MatchOption found ⊥ (λ it. Does way m trace it dn after) → AreCounted trace (number + 1) (dones ++ dn ∷ []) after.lists
    by None is does = absurd does
    by (Some it) is does = counted-more trace number m.lists it dn dones after.lists is so_far (item-moves way m trace number it dn after sound ready is does coherent)

pub counted-round : (m : MachineState) (trace : Trace) (number : ℕ) (round : Round) (dn : Done) (dones : List Done) (after : MachineState) → IsSound trace → IsReadyMachine m trace number → slice_get trace.items number ≡ Some (item.Round round) → AreCounted trace number dones m.lists → IsRoundDone m.lists round dn after.lists → IsCoherent after.lists
    → AreCounted trace (number + 1) (dones ++ dn ∷ []) after.lists
counted-round m trace number round dn dones after sound ready here so_far does coherent =
    counted-more trace number m.lists (item.Round round) dn dones after.lists here so_far (round-moves-it m trace number round dn after sound ready here does coherent)
