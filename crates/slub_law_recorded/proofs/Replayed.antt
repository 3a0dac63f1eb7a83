-- A paired trace is replayed: every free is done, and the total counts all allocations and frees.
use Rattle.std.proofs.Common.{◌≡◌, ℕ, ◌+◌, ◌<◌, ◌≤◌, false, List, [], ◌∷◌, ◌++◌, append_assoc, append-nil, drop, flat_map, length, take, get_or, refl, sym, ◌∙◌, ap, subst, arith, All, Contains, Option, Some, None, IsSome, IfSome, MatchOption, inl, inr, ◌⊎◌}
use Rattle.std.specs.Prelude.{⊤}
use Rattle.std.specs.List.{zip}
use Rattle.std.proofs.lemmas.Bool.{cases_lt}
use Rattle.std.proofs.lemmas.List.{length-append, take-append-drop, take_all}
use Rattle.std.proofs.lemmas.List.Concat.{flat_map-append}
use Rattle.std.proofs.lemmas.List.Elements.{All-append, All-contains, All-head, All-nil, All-tail, All-take, Contains-append_right, Contains-get_or, filter_map-append}
use Rattle.std.proofs.lemmas.List.Sums.{sum_by-cons}
use Rattle.slub_common.specs.Times.{times}
use Rattle.slub_common.proofs.Times.{times-append, times-contained}
use Rattle.slub_calls.specs.Calls.{events_by}
use Rattle.slub_trace.specs.declared.damage.Damage.{Damage}
use Rattle.slub_trace.specs.declared.event.Act.TheVariants as act
use Rattle.slub_trace.specs.declared.event.Event.{Event}
use Rattle.slub_trace.specs.declared.event.Round.{Round as Events}
use Rattle.slub_trace.specs.declared.reply.Reply.{Reply}
use Rattle.slub_trace.specs.declared.reply.Reply.TheVariants as reply
use Rattle.slub_trace.specs.declared.trace.Item.{Item}
use Rattle.slub_trace.specs.declared.trace.Item.TheVariants as item
use Rattle.slub_trace.specs.declared.trace.Trace.{Trace}
use Rattle.slub_trace.specs.Sound.{IsSound, IsSoundItem, allocated, events_in, objects_in, objects_of}
use Rattle.slub_lists.specs.declared.lists.Held.{Held}
use Rattle.slub_lists.specs.State.{State}
use Rattle.slub_lists.specs.Coherent.{held_under}
use Rattle.slub_slabinfo_text.specs.declared.client.ClientRound.{ClientRound}
use Rattle.slub_slabinfo_text.specs.declared.journal.Done.{Done}
use Rattle.slub_slabinfo_text.specs.declared.journal.Done.TheVariants as done
use Rattle.slub_slabinfo_text.specs.declared.journal.RoundResult.{RoundResult}
use Rattle.slub_slabinfo_text.specs.declared.journal.Total.{Total}
use Rattle.slub_slabinfo_text.specs.Lawful.{DoesPlain, IsTotal, all_freed, all_given, freed_of as done_freed, given_of}
use Rattle.slub_rounds.specs.Heap.{HeapState}
use Rattle.slub_law_rounds.specs.Answered.{Answered, is_corrupt}
use Rattle.slub_law_rounds.specs.Pokes.{IsPokedFree}
use Rattle.slub_law_rounds.specs.Round.{IsRound}
use Rattle.slub_law_rounds.proofs.Times.{once_times}
use Rattle.slub_law_replay.specs.declared.way.Way.{Way}
use Rattle.slub_law_replay.specs.Freed.{answered, answered_by, rounds_among, rounds_in, rounds_of}
use Rattle.slub_law_replay.specs.Poked.{RunsPoked}
use Rattle.slub_law_replay.specs.Rounds.{LeadAlong, LeadThrough, way_for}
use Rattle.slub_law_replay.specs.Runs.{Does, MachineState, RunsItems, heap_of, machine_of}
use Rattle.slub_law_replay.proofs.Along.{lead-along}
use Rattle.slub_law_replay.proofs.Pokes.{poked-damages}
use Rattle.slub_law_replay.proofs.Rests.{creates-rest, rests-same, tunes-rest}
use Rattle.slub_law_replay.proofs.Times.{zip_taken}
use Rattle.slub_law_recorded.specs.Paired.{IsPaired, IsPairingAct, IsPairingItem, events_of, freed, freed_of}
use Rattle.slub_law_recorded.specs.Replay.{IsAmple, IsFreed, PairedTracesReplay}
use Rattle.slub_law_recorded.proofs.PairedRounds.{IsUnharmed, freed-append, freed-one, round-board, round-freed, round-freed_count, round-given}
use Rattle.slub_law_recorded.proofs.Parts.{all-back, all-front, zip-all}

-- an answer to an allocation or a free
abbrev IsOfPair : Answered → Type 0
IsOfPair one = IsPairingAct one.0.act

-- ---- no free is told of a damage

-- the events of an item are allocations and frees
item-pairs : (it : Item) (dn : Done) → IsPairingItem it → All IsOfPair (flat_map answered_by (rounds_of it dn))
item-pairs (item.Round round) (done.Round result) pairing =
    All-append IsOfPair (zip round.events result.replies) [] (zip-all (λ (event : Event). IsPairingAct event.act) round.events result.replies pairing) (All-nil IsOfPair)
item-pairs (item.Client client) dn pairing = absurd pairing
item-pairs it dn pairing = All-nil IsOfPair

items-pair : (items : List Item) (dones : List Done) → All IsPairingItem items → All IsOfPair (flat_map answered_by (rounds_among items dones))
items-pair [] dones pairing = All-nil IsOfPair
items-pair (it ∷ items) [] pairing = All-nil IsOfPair
items-pair (it ∷ items) (dn ∷ dones) pairing =
    subst (All IsOfPair) (sym (flat_map-append answered_by (rounds_of it dn) (rounds_among items dones)))
    (All-append IsOfPair (flat_map answered_by (rounds_of it dn)) (flat_map answered_by (rounds_among items dones)) (item-pairs it dn (All-head IsPairingItem it items pairing)) (items-pair items dones (All-tail IsPairingItem it items pairing)))

-- a damage was poked, and nothing is
poked-none : (told : List Answered) → All IsOfPair told → (one : Answered) → IsPokedFree told one → IsUnharmed one
poked-none told pairs one poked object frees = by one.1 refl
  where
    never : (damage : Damage) → one.1 ≡ reply.Corrupt damage → ⊥
    never damage is =
        let was = (poked object damage frees is).2 in
        let pair : IsPairingAct was.one.0.act = All-contains IsOfPair told was.one pairs was.there in
        subst IsPairingAct was.asks pair

    by : (answer : Reply) → one.1 ≡ answer → is_corrupt answer ≡ false
    by (reply.Corrupt damage) is = absurd (never damage is)
    by _ is = refl

rounds-unharmed : (told : List Answered) (rounds : List ClientRound) → All IsOfPair told → All IsOfPair (flat_map answered_by rounds) → RunsPoked told rounds → All IsUnharmed (flat_map answered_by rounds)
rounds-unharmed told [] before pairs poked = All-nil IsUnharmed
rounds-unharmed told (round ∷ rounds) before pairs poked =
    let more = flat_map answered_by rounds in
    let now : All IsOfPair (told ++ answered_by round) = All-append IsOfPair told (answered_by round) before (all-front IsOfPair (answered_by round) more pairs) in
    let here : All IsUnharmed (answered_by round) = λ k d within. poked-none (told ++ answered_by round) now (get_or (answered_by round) k d) (poked.0.frees (get_or (answered_by round) k d) (Contains-get_or (answered_by round) k d within)) in
    All-append IsUnharmed (answered_by round) more here (rounds-unharmed (told ++ answered_by round) rounds now (all-back IsOfPair (answered_by round) more pairs) poked.1)

-- ---- the board

-- what these items allocate and don't free is there
abbrev HasBoard : State → List Item → Type 0
HasBoard s before = (object : ℕ) → 0 < times object (flat_map objects_in before) → times object (freed_of (flat_map events_in before)) ≡ 0 → IsSome (held_under s object)

-- what an item gives, frees and leaves
record ItemKept (before : List Item) (it : Item) (dn : Done) (after : State) : Type 0 where
  frees : All IsFreed (flat_map answered_by (rounds_of it dn))
  given : given_of dn ≡ length (objects_of (events_in it))
  freed : done_freed dn ≡ length (freed_of (events_in it))
  board : HasBoard after (before ++ it ∷ [])

-- events of items, and of one more
more-freed : (object : ℕ) (before : List Item) (it : Item) → times object (freed_of (flat_map events_in (before ++ it ∷ []))) ≡ times object (freed_of (flat_map events_in before)) + times object (freed_of (events_in it))
more-freed object before it =
    ap (λ (events : List Event). times object (freed_of events)) (flat_map-append events_in before (it ∷ []) ∙ ap (λ (events : List Event). flat_map events_in before ++ events) (append-nil (events_in it)))
    ∙ freed-append object (flat_map events_in before) (events_in it)

more-objects : (object : ℕ) (before : List Item) (it : Item) → times object (flat_map objects_in (before ++ it ∷ [])) ≡ times object (flat_map objects_in before) + times object (objects_in it)
more-objects object before it =
    ap (times object) (flat_map-append objects_in before (it ∷ []) ∙ ap (λ (objects : List ℕ). flat_map objects_in before ++ objects) (append-nil (objects_in it)))
    ∙ times-append object (flat_map objects_in before) (objects_in it)

-- an item that allocates and frees nothing
board-same : (s : State) (before : List Item) (it : Item) (after : State) → objects_in it ≡ [] → events_in it ≡ [] → after.board ≡ s.board → HasBoard s before → HasBoard after (before ++ it ∷ [])
board-same s before it after objects events same has object some kept =
    subst (λ (b : List (Option Held)). IsSome (get_or b object None)) (sym same)
    (has object (omega (arith, some, more-objects object before it, ap (times object) objects)) (omega (arith, kept, more-freed object before it)))

plain-kept : (s : State) (trace : Trace) (before : List Item) (it : Item) (dn : Done) (after : State) → IsPairingItem it → HasBoard s before → DoesPlain s trace it dn after → ItemKept before it dn after
unfolding DoesPlain
plain-kept s trace before (item.Cache place spec) (done.Created answer) after pairing has does = record {
  frees = All-nil IsFreed;
  given = refl;
  freed = refl;
  board = board-same s before (item.Cache place spec) after refl refl (creates-rest s _ spec answer after does).board has;
}
plain-kept s trace before item.Slabinfo (done.Slabinfo rows) after pairing has does = record {
  frees = All-nil IsFreed;
  given = refl;
  freed = refl;
  board = board-same s before item.Slabinfo after refl refl (rests-same s after does.1).board has;
}
plain-kept s trace before (item.Tune place setting) (done.Tuned answer) after pairing has does = record {
  frees = All-nil IsFreed;
  given = refl;
  freed = refl;
  board = board-same s before (item.Tune place setting) after refl refl (tunes-rest s _ setting answer after does).board has;
}
plain-kept s trace before (item.Shrink place) dn after pairing has does = absurd pairing
plain-kept s trace before (item.Destroy place) dn after pairing has does = absurd pairing
plain-kept s trace before (item.Client client) dn after pairing has does = absurd pairing
plain-kept s trace before _ _ after pairing has does = absurd does

-- ---- a round

module _ (trace : Trace) (sound : IsSound trace) (paired : IsPaired trace) (before : List Item) (round : Events) (left : List Item) (parts : trace.items ≡ before ++ item.Round round ∷ left) where
  -- the frees before the round, of it, and after it
  frees-once : (object : ℕ) → times object (freed_of (flat_map events_in before)) + times object (freed_of round.events) ≤ 1
  frees-once object =
      let events = ap (λ (items : List Item). flat_map events_in items) parts ∙ flat_map-append events_in before (item.Round round ∷ left) in
      omega (arith, once_times object (freed_of (events_of trace)) paired.once, ap (λ (events : List Event). times object (freed_of events)) events, freed-append object (flat_map events_in before) (round.events ++ flat_map events_in left), freed-append object round.events (flat_map events_in left))

  -- an event of the round that frees the object
  freed-there : (object : ℕ) (earlier : List Event) (event : Event) (later : List Event) → round.events ≡ earlier ++ event ∷ later → event.act ≡ act.Free object → 0 < times object (freed_of round.events)
  freed-there object earlier event later split frees =
      omega (arith, ap (λ (events : List Event). times object (freed_of events)) split, freed-append object earlier (event ∷ later), freed-one object event later frees)

  round-there : (s : State) → HasBoard s before → (earlier : List Event) (event : Event) (later : List Event) (object : ℕ) → round.events ≡ earlier ++ event ∷ later → event.act ≡ act.Free object
      → Contains (objects_of (events_by event.worker earlier)) object ⊎ IsSome (held_under s object)
  round-there s has earlier event later object split frees =
      elim (paired.there before earlier event object (record { round = round; after = left; later = later; items = parts; events = split }) frees) [
        | inl own ↦ inl own
        | inr some ↦ inr (has object (times-contained object (flat_map objects_in before) some) (omega (arith, frees-once object, freed-there object earlier event later split frees)))
      ]

  round-kept : (s after : State) (result : RoundResult) → IsRound s round result after → HasBoard s before → All IsAmple (zip round.events result.replies) → All IsUnharmed (zip round.events result.replies)
      → ItemKept before (item.Round round) (done.Round result) after
  round-kept s after result is_round has ample unharmed =
      let pairing : IsPairingItem (item.Round round) = All-contains IsPairingItem trace.items (item.Round round) paired.items (subst (λ (items : List Item). Contains items (item.Round round)) (sym parts) (Contains-append_right before (item.Round round ∷ left) (item.Round round) (0, omega arith, refl))) in
      let mine : IsSoundItem trace (item.Round round) = All-contains (IsSoundItem trace) trace.items (item.Round round) sound.items (subst (λ (items : List Item). Contains items (item.Round round)) (sym parts) (Contains-append_right before (item.Round round ∷ left) (item.Round round) (0, omega arith, refl))) in
      let workers : All (λ (event : Event). event.worker < round.workers) round.events = λ k d within. (mine.events k d within).worker in
      let once = λ (object : ℕ). (let e : times object (freed_of round.events) ≤ 1 = omega (arith, frees-once object) in e) in
      let there = round-there s has in
      record {
        frees = All-append IsFreed (zip round.events result.replies) [] (round-freed s round result after is_round pairing ample unharmed once there) (All-nil IsFreed);
        given = round-given s round result after is_round pairing ample unharmed once there workers;
        freed = round-freed_count s round result after is_round pairing ample unharmed once there workers;
        board = λ object some kept. round-board s round result after is_round pairing ample unharmed once there object
            (came object (cases_lt 0 (times object (objects_of round.events))) some (omega (arith, kept, more-freed object before (item.Round round))) has)
            (omega (arith, kept, more-freed object before (item.Round round)));
      }
    where
      came : (object : ℕ) → (0 < times object (objects_of round.events)) ⊎ (times object (objects_of round.events) ≤ 0) → 0 < times object (flat_map objects_in (before ++ item.Round round ∷ [])) → times object (freed_of (flat_map events_in before)) ≡ 0 → HasBoard s before
          → IsSome (held_under s object) ⊎ (0 < times object (objects_of round.events))
      came object (inl own) some kept has = inr own
      came object (inr none) some kept has = inl (has object (omega (arith, none, some, more-objects object before (item.Round round))) kept)

-- ---- an item

item-kept : (way : Way) (m : MachineState) (trace : Trace) (before : List Item) (it : Item) (left : List Item) (dn : Done) (after : MachineState) → IsSound trace → IsPaired trace → trace.items ≡ before ++ it ∷ left → IsPairingItem it → HasBoard m.lists before
    → Does way m trace it dn after → LeadThrough (way_for way it) m.rounds (heap_of m) (rounds_of it dn) (heap_of after) → All IsAmple (flat_map answered_by (rounds_of it dn)) → All IsUnharmed (flat_map answered_by (rounds_of it dn)) → ItemKept before it dn after.lists
unfolding Does
item-kept way m trace before (item.Round round) left (done.Round result) after sound paired parts pairing has does lead ample unharmed =
    let lists : after.lists ≡ lead.0.lists = ap (λ (h : HeapState). h.lists) lead.2 in
    subst (ItemKept before (item.Round round) (done.Round result)) (sym lists)
    (round-kept trace sound paired before round left parts m.lists lead.0.lists result lead.1.lawful has (all-front IsAmple (zip round.events result.replies) [] ample) (all-front IsUnharmed (zip round.events result.replies) [] unharmed))
item-kept way m trace before (item.Client client) left dn after sound paired parts pairing has does lead ample unharmed = absurd pairing
item-kept way m trace before it left dn after sound paired parts pairing has does lead ample unharmed = plain-kept m.lists trace before it dn after.lists pairing has does.0

-- ---- a run

-- what items give and free
record RunKept (items : List Item) (dones : List Done) : Type 0 where
  frees : All IsFreed (flat_map answered_by (rounds_among items dones))
  given : all_given dones ≡ length (objects_of (flat_map events_in items))
  freed : all_freed dones ≡ length (freed_of (flat_map events_in items))

objects-more : (xs ys : List Event) → length (objects_of (xs ++ ys)) ≡ length (objects_of xs) + length (objects_of ys)
objects-more xs ys = ap (λ (objects : List ℕ). length objects) (filter_map-append (λ (event : Event). allocated event.act) xs ys) ∙ length-append (objects_of xs) (objects_of ys)

freed-more : (xs ys : List Event) → length (freed_of (xs ++ ys)) ≡ length (freed_of xs) + length (freed_of ys)
freed-more xs ys = ap (λ (objects : List ℕ). length objects) (filter_map-append (λ (event : Event). freed event.act) xs ys) ∙ length-append (freed_of xs) (freed_of ys)

run-kept : (way : Way) (m : MachineState) (trace : Trace) (before items left : List Item) (dones : List Done) (after : MachineState) → IsSound trace → IsPaired trace → trace.items ≡ before ++ (items ++ left) → All IsPairingItem items → HasBoard m.lists before
    → (run : RunsItems way m trace items dones after) → LeadAlong way m trace items dones after run → All IsAmple (flat_map answered_by (rounds_among items dones)) → All IsUnharmed (flat_map answered_by (rounds_among items dones)) → RunKept items dones
run-kept way m trace before [] left [] after sound paired parts pairing has run lead ample unharmed = record { frees = All-nil IsFreed; given = refl; freed = refl }
run-kept way m trace before [] left (dn ∷ dones) after sound paired parts pairing has run lead ample unharmed = absurd run
run-kept way m trace before (it ∷ items) left [] after sound paired parts pairing has run lead ample unharmed = absurd run
run-kept way m trace before (it ∷ items) left (dn ∷ dones) after sound paired parts pairing has run lead ample unharmed =
    let mine = flat_map answered_by (rounds_of it dn) in
    let more = flat_map answered_by (rounds_among items dones) in
    let both = flat_map-append answered_by (rounds_of it dn) (rounds_among items dones) in
    let all_ample : All IsAmple (mine ++ more) = subst (All IsAmple) both ample in
    let all_unharmed : All IsUnharmed (mine ++ more) = subst (All IsUnharmed) both unharmed in
    let one = item-kept way m trace before it (items ++ left) dn run.0 sound paired parts (All-head IsPairingItem it items pairing) has run.1 lead.0 (all-front IsAmple mine more all_ample) (all-front IsUnharmed mine more all_unharmed) in
    let rest = run-kept way run.0 trace (before ++ it ∷ []) items left dones after sound paired (parts ∙ sym (append_assoc before (it ∷ []) (items ++ left))) (All-tail IsPairingItem it items pairing) one.board run.3 lead.1 (all-back IsAmple mine more all_ample) (all-back IsUnharmed mine more all_unharmed) in
    record {
      frees = subst (All IsFreed) (sym both) (All-append IsFreed mine more one.frees rest.frees);
      given = omega (arith, one.given, rest.given, sum_by-cons given_of dn dones, objects-more (events_in it) (flat_map events_in items));
      freed = omega (arith, one.freed, rest.freed, sum_by-cons done_freed dn dones, freed-more (events_in it) (flat_map events_in items));
    }

-- ---- the journal

pub paired-replay : PairedTracesReplay
paired-replay way trace journal sound paired lawful ample =
    let some = length journal.items in
    let items = take some trace.items in
    let same : rounds_among items journal.items ≡ rounds_in trace journal = ap (λ pairs. flat_map (λ (one : Item × Done). rounds_of one.0 one.1) pairs) (zip_taken trace.items journal.items) in
    let told : flat_map answered_by (rounds_among items journal.items) ≡ answered trace journal = ap (flat_map answered_by) same in
    let pairs : All IsOfPair (answered trace journal) = items-pair trace.items journal.items paired.items in
    let unharmed : All IsUnharmed (answered trace journal) = rounds-unharmed [] (rounds_in trace journal) (All-nil IsOfPair) pairs (poked-damages way trace journal sound lawful) in
    let kept = run-kept way (machine_of trace) trace [] items (drop some trace.items) journal.items lawful.machine sound paired (sym (take-append-drop some trace.items)) (All-take IsPairingItem some trace.items paired.items)
    (λ object none kept. absurd (let never : ⊥ = omega (arith, none) in never)) lawful.run (lead-along way trace journal sound lawful) (subst (All IsAmple) (sym told) ample) (subst (All IsUnharmed) (sym told) unharmed) in
    record {
      frees = subst (All IsFreed) told kept.frees;
      sums = sums-of trace journal.items lawful.machine.lists journal.total kept.given kept.freed lawful.total;
    }
  where
    sums-of : (trace : Trace) (dones : List Done) (s : State) (found : Option Total) → all_given dones ≡ length (objects_of (flat_map events_in (take (length dones) trace.items))) → all_freed dones ≡ length (freed_of (flat_map events_in (take (length dones) trace.items)))
        → MatchOption found ⊤ (λ total. IsTotal s dones total × (length dones ≡ length trace.items)) → IfSome found (λ total. (total.given ≡ length (objects_of (events_of trace))) × (total.freed ≡ length (freed_of (events_of trace))))
    sums-of trace dones s None given freed is = tt
    sums-of trace dones s (Some total) given freed is =
        let whole : take (length dones) trace.items ≡ trace.items = take_all (length dones) trace.items (omega (arith, is.1)) in
        (is.0.given ∙ given ∙ ap (λ (items : List Item). length (objects_of (flat_map events_in items))) whole, is.0.freed ∙ freed ∙ ap (λ (items : List Item). length (freed_of (flat_map events_in items))) whole)
