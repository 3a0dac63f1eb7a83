-- What rounds, items and runs give and free, and what they leave on the board.
use Rattle.std.proofs.Common.{◌≡◌, ℕ, ◌+◌, ◌<◌, ◌≤◌, List, [], ◌∷◌, ◌++◌, append_assoc, append-nil, count_by, flat_map, get_or, is_some, length, length-append, sym, ap, subst, arith, All, Option, None, inl, inr, ◌⊎◌}
use Rattle.std.specs.Prelude.{⊤}
use Rattle.std.specs.List.{range_with_len}
use Rattle.std.proofs.lemmas.Bool.{cases_lt}
use Rattle.std.proofs.lemmas.List.Elements.{All-head, All-tail}
use Rattle.std.proofs.lemmas.List.Sums.{sum_by-cons}
use Rattle.slub_common.specs.Times.{times}
use Rattle.slub_trace.specs.declared.event.Event.{Event}
use Rattle.slub_trace.specs.declared.event.Round.{Round}
use Rattle.slub_lists.specs.declared.lists.Held.{Held}
use Rattle.slub_lists.specs.State.{State}
use Rattle.slub_trace.specs.declared.trace.Client.{Client as Asked}
use Rattle.slub_trace.specs.declared.trace.Item.{Item}
use Rattle.slub_trace.specs.declared.trace.Item.TheVariants as item
use Rattle.slub_trace.specs.declared.trace.Trace.{Trace}
use Rattle.slub_trace.specs.Sound.{IsSoundItem, asked_objects, objects_in, objects_of}
use Rattle.slub_slabinfo_text.specs.declared.client.ClientDone.{ClientDone}
use Rattle.slub_slabinfo_text.specs.declared.client.ClientRound.{ClientRound}
use Rattle.slub_slabinfo_text.specs.declared.journal.Done.{Done}
use Rattle.slub_slabinfo_text.specs.declared.journal.Done.TheVariants as done
use Rattle.slub_slabinfo_text.specs.declared.journal.RoundResult.{RoundResult}
use Rattle.slub_slabinfo_text.specs.Lawful.{DoesPlain, all_freed, all_given, freed_by, freed_in, freed_of, given_by, given_in, given_of}
use Rattle.slub_rounds.specs.Heap.{HeapState}
use Rattle.slub_law_rounds.specs.Answered.{did_free, gave}
use Rattle.slub_law_rounds.specs.Round.{IsRound}
use Rattle.slub_law_rounds.proofs.Runs.{on_board}
use Rattle.slub_law_rounds.proofs.Times.{events_given, one_where, times_append}
use Rattle.slub_law_replay.specs.declared.way.Way.{Way}
use Rattle.slub_law_replay.specs.Runs.{Does, MachineState, RunsItems, heap_of}
use Rattle.slub_law_replay.proofs.Made.{ClientEffect, IsSoundLine, MakesRounds, client_effect, made_caches, made_rounds, objects_asked}
use Rattle.slub_law_replay.proofs.Numbers.{IsBrief}
use Rattle.slub_law_replay.proofs.Rests.{classes-rest, creates-rest, destroys-rest, rests-same, shrinks-rest, tunes-rest}
use Rattle.slub_law_replay.proofs.Standing.{Stands, StandsBefore, made-numbers}
use Rattle.slub_law_replay.specs.Freed.{answered_by, rounds_among, rounds_of}
use Rattle.slub_law_replay.proofs.Adding.{upto}
use Rattle.slub_law_replay.proofs.Balanced.{HasRoom, at-most, board_size, room-after, round-balanced, round-few, round-moves}
use Rattle.slub_law_replay.proofs.Rounds.{AreLawful, AreRounds, item-stands}
use Rattle.slub_law_replay.proofs.Times.{answered_more, made_given}

-- rounds that gave and freed so many objects, and might allocate these numbers
pub record Counted (s : State) (given freed : ℕ) (rounds : List ClientRound) (numbers : List ℕ) (after : State) : Type 0 where
  pub balanced : board_size after + freed ≡ board_size s + given
  pub few : given ≤ length numbers
  -- of each number what is freed was on the board, or was given
  pub moves : (object : ℕ) → on_board object after + count_by (did_free object) (flat_map answered_by rounds) ≤ on_board object s + count_by (gave object) (flat_map answered_by rounds)
  pub gives : (object : ℕ) → count_by (gave object) (flat_map answered_by rounds) ≤ times object numbers

-- those of a part, and those of the rest
counted-both : (s : State) (given freed more_given more_freed : ℕ) (rounds others : List ClientRound) (numbers more : List ℕ) (mid after : State) → Counted s given freed rounds numbers mid → Counted mid more_given more_freed others more after
    → Counted s (given + more_given) (freed + more_freed) (rounds ++ others) (numbers ++ more) after
counted-both s given freed more_given more_freed rounds others numbers more mid after one rest = record {
  balanced = omega (arith, one.balanced, rest.balanced);
  few = omega (arith, one.few, rest.few, length-append numbers more);
  moves = λ object. omega (arith, one.moves object, rest.moves object, answered_more (did_free object) rounds others, answered_more (gave object) rounds others);
  gives = λ object. omega (arith, one.gives object, rest.gives object, answered_more (gave object) rounds others, times_append object numbers more);
}

-- no round
counted-none : (s : State) (numbers : List ℕ) (after : State) → after.board ≡ s.board → Counted s 0 0 [] numbers after
counted-none s numbers after board = record {
  balanced = ap (λ (b : List (Option Held)). upto (λ object. one_where (is_some (get_or b object None))) (length b) + 0) board;
  few = omega arith;
  moves = λ object. omega (arith, ap (λ (b : List (Option Held)). one_where (is_some (get_or b object None))) board);
  gives = λ object. omega arith;
}

-- ---- rounds

-- each event of a round is one of a worker of it
abbrev AreManned : List ClientRound → Type 0
AreManned [] = ⊤
AreManned (round ∷ rounds) = All (λ event. event.worker < round.asked.workers) round.asked.events × AreManned rounds

one-counted : (s : State) (round : ClientRound) (coming : List ℕ) (after : State) → All (λ event. event.worker < round.asked.workers) round.asked.events → HasRoom s (objects_asked round ++ coming) → IsRound s round.asked round.result after
    → Counted s (given_in round.result.ledgers) (freed_in round.result.ledgers) (round ∷ []) (objects_asked round) after
one-counted s round coming after manned room is = record {
  balanced = round-balanced s round.asked round.result after is manned coming room;
  few = round-few s round.asked round.result after is manned coming room;
  moves = λ object. omega (arith, round-moves s round.asked round.result after is object, ap (count_by (did_free object)) (append-nil (answered_by round)), ap (count_by (gave object)) (append-nil (answered_by round)));
  gives = λ object. omega (arith, events_given object round.asked.events round.result.replies, ap (count_by (gave object)) (append-nil (answered_by round)));
}

rounds-counted : (s : State) (rounds : List ClientRound) (coming : List ℕ) (after : State) → AreManned rounds → HasRoom s (flat_map objects_asked rounds ++ coming) → AreLawful s rounds after
    → Counted s (given_by rounds) (freed_by rounds) rounds (flat_map objects_asked rounds) after
rounds-counted s [] coming after manned room same = counted-none s [] after (ap (λ (t : State). t.board) same)
rounds-counted s (round ∷ rounds) coming after manned room are =
    let later = flat_map objects_asked rounds ++ coming in
    let now : HasRoom s (objects_asked round ++ later) = subst (HasRoom s) (append_assoc (objects_asked round) (flat_map objects_asked rounds) coming) room in
    let one = one-counted s round later are.0 manned.0 now are.1 in
    let rest = rounds-counted are.0 rounds coming after manned.1 (room-after s round.asked round.result are.0 are.1 manned.0 later now) are.2 in
    let both = counted-both s (given_in round.result.ledgers) (freed_in round.result.ledgers) (given_by rounds) (freed_by rounds) (round ∷ []) rounds (objects_asked round) (flat_map objects_asked rounds) are.0 after one rest in
    record {
      balanced = omega (arith, both.balanced, sum_by-cons (λ (round : ClientRound). given_in round.result.ledgers) round rounds, sum_by-cons (λ (round : ClientRound). freed_in round.result.ledgers) round rounds);
      few = omega (arith, both.few, sum_by-cons (λ (round : ClientRound). given_in round.result.ledgers) round rounds);
      moves = both.moves;
      gives = both.gives;
    }

-- ---- items

-- before numbers to come there is room for them
pub room-of : (s : State) (trace : Trace) (coming : List ℕ) → Stands s trace coming → HasRoom s coming
room-of s trace coming stands = record {
  few = λ object. by object (cases_lt 0 (times object coming));
  within = λ object some. omega (arith, stands.within object some, stands.objects);
}
  where
    by : (object : ℕ) → (0 < times object coming) ⊎ (times object coming ≤ 0) → on_board object s + times object coming ≤ 1
    by object (inl some) = let off : on_board object s ≡ 0 = ap (λ (x : Option Held). one_where (is_some x)) (stands.unheld object some) in omega (arith, off, stands.once object)
    by object (inr none) = omega (arith, none, at-most (is_some (get_or s.board object None)))

-- rounds that allocate these numbers or none
made-counted : (s : State) (trace : Trace) (rounds : List ClientRound) (numbers coming : List ℕ) (after : State) → (flat_map objects_asked rounds ≡ numbers) ⊎ (flat_map objects_asked rounds ≡ []) → Stands s trace (numbers ++ coming) → AreManned rounds → AreLawful s rounds after
    → Counted s (given_by rounds) (freed_by rounds) rounds numbers after
made-counted s trace rounds numbers coming after objects stands manned are =
    let room = room-of s trace (flat_map objects_asked rounds ++ coming) (made-numbers s trace rounds numbers coming objects stands) in
    let counted = rounds-counted s rounds coming after manned room are in
    record {
      balanced = counted.balanced;
      few = less objects counted.few;
      moves = counted.moves;
      gives = λ object. made_given object rounds numbers objects;
    }
  where
    less : (flat_map objects_asked rounds ≡ numbers) ⊎ (flat_map objects_asked rounds ≡ []) → given_by rounds ≤ length (flat_map objects_asked rounds) → given_by rounds ≤ length numbers
    less (inl all) few = omega (arith, few, ap (λ (xs : List ℕ). length xs) all)
    less (inr none) few = omega (arith, few, ap (λ (xs : List ℕ). length xs) none)

made-manned : (trace : Trace) (sound : Type 0) (h : HeapState) (rounds : List ClientRound) (after : HeapState) → MakesRounds trace sound h rounds after → AreManned rounds
made-manned trace sound h [] after same = tt
made-manned trace sound h (round ∷ rounds) after makes = (makes.1.workers, made-manned trace sound makes.0 rounds after makes.2)

-- what a client's rounds leave, where there are none too
made-are : (trace : Trace) (sound : Type 0) (h : HeapState) (rounds : List ClientRound) (after : HeapState) → MakesRounds trace sound h rounds after → AreRounds h.lists rounds after.lists → AreLawful h.lists rounds after.lists
made-are trace sound h [] after same are = ap (λ (now : HeapState). now.lists) same
made-are trace sound h (round ∷ rounds) after makes are = are

abbrev ItemCounted : State → Item → Done → State → Type 0
ItemCounted s it dn after = Counted s (given_of dn) (freed_of dn) (rounds_of it dn) (objects_in it) after

round-counted : (s : State) (trace : Trace) (round : Round) (result : RoundResult) (coming : List ℕ) (after : State) → Stands s trace (objects_of round.events ++ coming) → IsSoundItem trace (item.Round round)
    → AreRounds s (record { asked = round; result = result } ∷ []) after → ItemCounted s (item.Round round) (done.Round result) after
round-counted s trace round result coming after stands sound are =
    let one : ClientRound = record { asked = round; result = result } in
    let workers : All (λ (event : Event). event.worker < round.workers) round.events = λ k d within. (sound.events k d within).worker in
    subst (λ (now : State). Counted s (given_in result.ledgers) (freed_in result.ledgers) (record { asked = round; result = result } ∷ []) (objects_of round.events) now) (sym are.2)
    (one-counted s one coming are.0 workers (room-of s trace (objects_of round.events ++ coming) stands) are.1)

client-counted : (sound : Type 0) (h : HeapState) (trace : Trace) (client : Asked) (outcome : ClientDone) (coming : List ℕ) (after : HeapState) → Stands h.lists trace (asked_objects client ++ coming) → ClientEffect trace sound h client outcome after
    → AreRounds h.lists outcome.rounds after.lists → ItemCounted h.lists (item.Client client) (done.Client outcome) after.lists
client-counted sound h trace client outcome coming after stands (made_rounds made) are =
    made-counted h.lists trace outcome.rounds (asked_objects client) coming after.lists made.objects stands (made-manned trace sound h outcome.rounds after made.runs) (made-are trace sound h outcome.rounds after made.runs are)
client-counted sound h trace client outcome coming after stands (made_caches answers none creates) are =
    subst (λ (rounds : List ClientRound). Counted h.lists (given_by rounds) (freed_by rounds) rounds (asked_objects client) after.lists) (sym none)
    (counted-none h.lists (asked_objects client) after.lists (classes-rest h trace (range_with_len 0 13) answers after creates).board)

plain-counted : (s : State) (trace : Trace) (it : Item) (dn : Done) (after : State) → DoesPlain s trace it dn after → ItemCounted s it dn after
unfolding DoesPlain
plain-counted s trace (item.Cache place spec) (done.Created answer) after does = counted-none s [] after (creates-rest s _ spec answer after does).board
plain-counted s trace (item.Shrink place) (done.Shrunk answer) after does = counted-none s [] after (shrinks-rest s _ answer after does).board
plain-counted s trace (item.Destroy place) (done.Destroyed answer) after does = counted-none s [] after (destroys-rest s _ answer after does).board
plain-counted s trace item.Slabinfo (done.Slabinfo rows) after does = counted-none s [] after (rests-same s after does.1).board
plain-counted s trace (item.Tune place setting) (done.Tuned answer) after does = counted-none s [] after (tunes-rest s _ setting answer after does).board
plain-counted s trace _ _ after does = absurd does

item-counted : (way : Way) (m : MachineState) (trace : Trace) (it : Item) (dn : Done) (coming : List ℕ) (after : MachineState) → StandsBefore m trace (objects_in it ++ coming) → IsSoundItem trace it → Does way m trace it dn after
    → AreRounds m.lists (rounds_of it dn) after.lists → ItemCounted m.lists it dn after.lists
unfolding Does
item-counted way m trace (item.Round round) (done.Round result) coming after stands sound does are = round-counted m.lists trace round result coming after.lists stands.lists sound are
item-counted way m trace (item.Client client) (done.Client outcome) coming after stands sound does are =
    client-counted (IsSoundLine trace m.reserves client) (heap_of m) trace client outcome coming (heap_of after) stands.lists (client_effect m trace client outcome after does.0) are
item-counted way m trace it dn coming after stands sound does are = plain-counted m.lists trace it dn after.lists does.0

-- ---- a run

pub run-counted : (way : Way) (m : MachineState) (trace : Trace) (items : List Item) (dones : List Done) (after : MachineState) → StandsBefore m trace (flat_map objects_in items) → All (IsSoundItem trace) items → All IsBrief items
    → RunsItems way m trace items dones after → Counted m.lists (all_given dones) (all_freed dones) (rounds_among items dones) (flat_map objects_in items) after.lists
run-counted way m trace [] [] after stands sound brief run = counted-none m.lists [] after.lists (ap (λ (t : MachineState). t.lists.board) run)
run-counted way m trace [] (dn ∷ dones) after stands sound brief run = absurd run
run-counted way m trace (it ∷ items) [] after stands sound brief run = absurd run
run-counted way m trace (it ∷ items) (dn ∷ dones) after stands sound brief run =
    let mine = All-head (IsSoundItem trace) it items sound in
    let coming = flat_map objects_in items in
    let next = item-stands way m trace it dn coming run.0 stands mine (All-head IsBrief it items brief) run.2 run.1 in
    let one = item-counted way m trace it dn coming run.0 stands mine run.1 next.1 in
    let rest = run-counted way run.0 trace items dones after next.0 (All-tail (IsSoundItem trace) it items sound) (All-tail IsBrief it items brief) run.3 in
    let both = counted-both m.lists (given_of dn) (freed_of dn) (all_given dones) (all_freed dones) (rounds_of it dn) (rounds_among items dones) (objects_in it) coming run.0.lists after.lists one rest in
    record {
      balanced = omega (arith, both.balanced, sum_by-cons given_of dn dones, sum_by-cons freed_of dn dones);
      few = omega (arith, both.few, sum_by-cons given_of dn dones);
      moves = both.moves;
      gives = both.gives;
    }
