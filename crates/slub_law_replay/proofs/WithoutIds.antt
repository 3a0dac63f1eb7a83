-- A client's line leaves ids where they stood. Where the first transaction id of a trace is 0 the machine has no ids, rounds in the order of the text are done on its lists alone, and no turns of them are spent.
use Rattle.std.proofs.Common.{◌≡◌, ℕ, ◌==◌, if◌then◌else◌, true, false, is_some, List, [], ◌∷◌, length, take, refl, ◌∙◌, ap, subst, Option, Some, None, MatchOption, Result, Ok, slice_get, inl, inr}
use Rattle.std.specs.List.{range_with_len}
use Rattle.std.specs.Option.{option_map}
use Rattle.slub_trace.specs.declared.event.Act.{Act}
use Rattle.slub_trace.specs.declared.event.Act.TheVariants.{Alloc, Free}
use Rattle.slub_trace.specs.declared.event.Round.{Round}
use Rattle.slub_trace.specs.declared.create.Created.{Created}
use Rattle.slub_trace.specs.declared.create.CreateRefusal.{CreateRefusal}
use Rattle.slub_lists.specs.State.{State}
use Rattle.slub_trace.specs.declared.trace.Client.{Client as Asked}
use Rattle.slub_trace.specs.declared.trace.Client.TheVariants as line
use Rattle.slub_trace.specs.declared.trace.Item.{Item}
use Rattle.slub_trace.specs.declared.trace.Item.TheVariants as item
use Rattle.slub_trace.specs.declared.trace.Trace.{Trace}
use Rattle.slub_open_close.specs.Ids.{first_ids}
use Rattle.slub_slabinfo_text.specs.declared.client.CacheRefusal.{CacheRefusal}
use Rattle.slub_slabinfo_text.specs.declared.client.ClientDone.{ClientDone}
use Rattle.slub_slabinfo_text.specs.declared.client.ClientRound.{ClientRound}
use Rattle.slub_slabinfo_text.specs.declared.journal.Done.{Done}
use Rattle.slub_slabinfo_text.specs.declared.journal.Done.TheVariants as done
use Rattle.slub_slabinfo_text.specs.declared.journal.Journal.{Journal}
use Rattle.slub_slabinfo_text.specs.declared.journal.RoundResult.{RoundResult}
use Rattle.slub_slabinfo_text.specs.Asked.{round_of}
use Rattle.slub_slabinfo_text.specs.Lawful.{DoesRound}
use Rattle.slub_open_close.specs.Growth.{ids_after}
use Rattle.slub_law_rounds.proofs.Steps.{match_either}
use Rattle.slub_rounds.specs.ByText.{DoesByText, SpendsByText}
use Rattle.slub_rounds.specs.Heap.{HeapState}
use Rattle.slub_rounds.specs.Asked.{DoesAsked, SpendsAsked}
use Rattle.slub_rounds.specs.BulkLines.{SpendsBulkLines, SpendsTaking, allocs_of}
use Rattle.slub_rounds.specs.Kmalloc.{CreatesClasses, SpendsClasses, SpendsOfClass, TakesOfClass, ids_made, place_of_class}
use Rattle.slub_rounds.specs.Reserves.{Reserve, SpendsKept, kept_in, reserve_at}
use Rattle.slub_law_replay.specs.declared.way.Way.{Way}
use Rattle.slub_law_replay.specs.declared.way.Way.TheVariants.{Serial, Schedule, Threads}
use Rattle.slub_law_replay.specs.Ways.{AreLeft, DoesRoundBy, SpendsTurnsBy}
use Rattle.slub_law_replay.specs.Runs.{Does, EndsSpent, IsLawful, ItemSpendsTurns, MachineState, RunsItems, Serves, SpendsLine, heap_of, machine_of, opening_ids}
use Rattle.slub_law_replay.proofs.Made.{ClientEffect, IsSoundLine, MakesRounds, client_effect, made_caches, made_rounds}

-- ---- before the first item

pub opens-without : (trace : Trace) → trace.tid ≡ 0 → opening_ids trace ≡ None
opens-without trace bare = ap (λ (first : ℕ). if first == 0 then None else Some (first_ids first trace.cpus)) bare

-- ---- a round

pub text-without : (s : State) (ids : Option (List ℕ)) (round : Round) (result : RoundResult) (after : State) (left : Option (List ℕ)) → ids ≡ None → DoesByText s ids round result after left → DoesRound s round result after × (left ≡ None)
text-without s None round result after left none does = does
text-without s (Some ids) round result after left none does = absurd (let never : ⊥ = cc in never)

left-without : (ids : Option (List ℕ)) (ids_after : List ℕ) (left : Option (List ℕ)) → ids ≡ None → AreLeft ids ids_after left → left ≡ None
left-without None ids_after left none are = are
left-without (Some ids) ids_after left none are = absurd (let never : ⊥ = cc in never)

round-without : (way : Way) (rounds : ℕ) (s : State) (ids : Option (List ℕ)) (round : Round) (result : RoundResult) (after : State) (left : Option (List ℕ)) → ids ≡ None → DoesRoundBy way rounds s ids round result after left → left ≡ None
round-without Serial rounds s ids round result after left none does = (text-without s ids round result after left none does).1
round-without (Schedule seed) rounds s ids round result after left none (inl (few, does)) = (text-without s ids round result after left none does).1
round-without (Schedule seed) rounds s ids round result after left none (inr (several, does)) = left-without ids does.0 left none does.2
round-without Threads rounds s ids round result after left none (inl (few, does)) = (text-without s ids round result after left none does).1
round-without Threads rounds s ids round result after left none (inr (several, does)) = left-without ids does.0 left none does.2

-- ---- a client's line

none-of : (ids : Option (List ℕ)) → is_some ids ≡ false → ids ≡ None
none-of None none = refl
none-of (Some ids) none = absurd (let never : true ≡ false = none in cc)

mapped : (f : List ℕ → List ℕ) (ids : Option (List ℕ)) → is_some (option_map f ids) ≡ is_some ids
mapped f None = refl
mapped f (Some ids) = refl

text-leaves : (s : State) (ids : Option (List ℕ)) (round : Round) (result : RoundResult) (after : State) (left : Option (List ℕ)) → DoesByText s ids round result after left → is_some left ≡ is_some ids
text-leaves s None round result after left does = ap (λ (x : Option (List ℕ)). is_some x) does.1
text-leaves s (Some ids) round result after left does = ap (λ (x : Option (List ℕ)). is_some x) does.2

rounds-leave : (trace : Trace) (sound : Type 0) (h : HeapState) (rounds : List ClientRound) (after : HeapState) → MakesRounds trace sound h rounds after → is_some after.ids ≡ is_some h.ids
rounds-leave trace sound h [] after same = ap (λ (now : HeapState). is_some now.ids) same
rounds-leave trace sound h (round ∷ rounds) after makes =
    rounds-leave trace sound makes.0 rounds after makes.2 ∙ text-leaves h.lists h.ids round.asked round.result makes.0.lists makes.0.ids makes.1.does

classes-leave : (trace : Trace) (h : HeapState) (classes : List ℕ) (answers : List (Result Created CreateRefusal)) (after : HeapState) → CreatesClasses h trace classes answers after → is_some after.ids ≡ is_some h.ids
classes-leave trace h [] [] after creates = ap (λ (now : HeapState). is_some now.ids) creates
classes-leave trace h [] (answer ∷ answers) after creates = absurd creates
classes-leave trace h (class ∷ classes) [] after creates = absurd creates
classes-leave trace h (class ∷ classes) (answer ∷ answers) after creates =
    classes-leave trace creates.0 classes answers after creates.2 ∙ ap (λ (x : Option (List ℕ)). is_some x) creates.1.ids ∙ mapped (ids_made trace h.lists answer) h.ids

effect-leaves : (trace : Trace) (sound : Type 0) (h : HeapState) (client : Asked) (outcome : ClientDone) (after : HeapState) → ClientEffect trace sound h client outcome after → is_some after.ids ≡ is_some h.ids
effect-leaves trace sound h client outcome after (made_rounds made) = rounds-leave trace sound h outcome.rounds after made.runs
effect-leaves trace sound h client outcome after (made_caches answers none creates) = classes-leave trace h (range_with_len 0 13) answers after creates

-- ids stand beside the lists after it where they stood before it
pub line-leaves : (m : MachineState) (trace : Trace) (client : Asked) (outcome : ClientDone) (after : MachineState) → Serves m trace client outcome after → is_some after.ids ≡ is_some m.ids
line-leaves m trace client outcome after serves = effect-leaves trace (IsSoundLine trace m.reserves client) (heap_of m) client outcome (heap_of after) (client_effect m trace client outcome after serves)

-- ---- items

-- after each there are none still
pub none-stays : (way : Way) (m : MachineState) (trace : Trace) (it : Item) (dn : Done) (after : MachineState) → m.ids ≡ None → Does way m trace it dn after → after.ids ≡ None
unfolding Does
none-stays way m trace (item.Round round) (done.Round result) after none does = round-without way m.rounds m.lists m.ids round result after.lists after.ids none does.0
none-stays way m trace (item.Client client) (done.Client outcome) after none does = none-of after.ids (line-leaves m trace client outcome after does.0 ∙ ap (λ (ids : Option (List ℕ)). is_some ids) none)
none-stays way m trace it dn after none does = does.1 ∙ ap (λ (ids : Option (List ℕ)). option_map (ids_after trace m.lists it dn) ids) none

pub none-after : (way : Way) (m : MachineState) (trace : Trace) (items : List Item) (dones : List Done) (after : MachineState) → m.ids ≡ None → RunsItems way m trace items dones after → after.ids ≡ None
none-after way m trace [] [] after none run = ap (λ (now : MachineState). now.ids) run ∙ none
none-after way m trace [] (dn ∷ dones) after none run = absurd run
none-after way m trace (it ∷ items) [] after none run = absurd run
none-after way m trace (it ∷ items) (dn ∷ dones) after none run = none-after way run.0 trace items dones after (none-stays way m trace it dn run.0 none run.1) run.3

-- and at the end of a lawful journal
pub lawful-without : (way : Way) (trace : Trace) (journal : Journal) → trace.tid ≡ 0 → (law : IsLawful way trace journal) → law.machine.ids ≡ None
lawful-without way trace journal bare law =
    none-after way (machine_of trace) trace (take (length journal.items) trace.items) journal.items law.machine (opens-without trace bare) law.run

-- ---- turns

-- without ids there are none that could be spent
abbrev pub HasNoTurns : Way → Type 0
HasNoTurns way = (rounds : ℕ) (s : State) (round : Round) → SpendsTurnsBy way rounds s None round → ⊥

pub serial-without : HasNoTurns Serial
serial-without rounds s round spent = spent

pub threads-without : HasNoTurns Threads
threads-without rounds s round spent = spent.1

asked-unspent : (h : HeapState) (cpu : ℕ) (acts : List Act) → h.ids ≡ None → SpendsAsked h cpu acts → ⊥
asked-unspent h cpu acts none spent = subst (λ (ids : Option (List ℕ)). SpendsByText h.lists ids (round_of cpu acts)) none spent

asked-none : (h : HeapState) (cpu : ℕ) (acts : List Act) (round : ClientRound) (mid : HeapState) → h.ids ≡ None → DoesAsked h cpu acts round mid → mid.ids ≡ None
asked-none h cpu acts round mid none asked = (text-without h.lists h.ids (round_of cpu acts) round.result mid.lists mid.ids none asked.does).1

class-none : (h : HeapState) (trace : Trace) (cpu class object : ℕ) (rounds : List ClientRound) (told : Result ℕ CacheRefusal) (mid : HeapState) → h.ids ≡ None → TakesOfClass h trace cpu class object rounds told mid → mid.ids ≡ None
class-none h trace cpu class object rounds told mid none takes =
    match_either (place_of_class trace class) _ _ (mid.ids ≡ None) takes
    (λ no same. ap (λ (h : HeapState). h.ids) same.2 ∙ none)
    (λ place is taken. asked-none h cpu (Alloc place object ∷ []) taken.0 mid none taken.3)

class-unspent : (h : HeapState) (trace : Trace) (cpu class object : ℕ) → h.ids ≡ None → SpendsOfClass h trace cpu class object → ⊥
class-unspent h trace cpu class object none (place, is, spent) = asked-unspent h cpu (Alloc place object ∷ []) none spent

classes-unspent : (h : HeapState) (trace : Trace) (client : Asked) → h.ids ≡ None → SpendsClasses h trace client → ⊥
classes-unspent h trace (line.Kget cpu size object) none (class, is, spent) = class-unspent h trace cpu class object none spent
classes-unspent h trace (line.Krealloc cpu object size fresh) none (held, here, (class, outgrows, inl spent)) = class-unspent h trace cpu class fresh none spent
classes-unspent h trace (line.Krealloc cpu object size fresh) none (held, here, (class, outgrows, inr (address, first, mid, takes, spent))) =
    asked-unspent mid cpu (Free object ∷ []) (class-none h trace cpu class fresh first (Ok address) mid none takes) spent
classes-unspent h trace _ none spent = spent

taking-unspent : (h : HeapState) (cpu place : ℕ) (numbers : List ℕ) → h.ids ≡ None → SpendsTaking h cpu place numbers → ⊥
taking-unspent h cpu place numbers none (inl spent) = asked-unspent h cpu (allocs_of place numbers) none spent
taking-unspent h cpu place numbers none (inr (first, mid, does, refused, (some, spent))) = asked-unspent mid cpu _ (asked-none h cpu (allocs_of place numbers) first mid none does) spent

bulk-unspent : (h : HeapState) (client : Asked) → h.ids ≡ None → SpendsBulkLines h client → ⊥
bulk-unspent h (line.Bulk cpu place first count) none spent = taking-unspent h cpu place (range_with_len first count) none spent
bulk-unspent h (line.Bulkfree cpu first count) none (all, spent) = asked-unspent h cpu _ none spent
bulk-unspent h _ none spent = spent

kept-unspent : (h : HeapState) (reserves : List Reserve) (client : Asked) → h.ids ≡ None → SpendsKept h reserves client → ⊥
kept-unspent h reserves (line.Mempool pool place min first) none (free, room, spent) = taking-unspent h 0 place (range_with_len first min) none spent
kept-unspent h reserves (line.Mget cpu pool object) none (at, is, spent) = asked-unspent h cpu (Alloc (reserve_at reserves at).cache object ∷ []) none spent
kept-unspent h reserves (line.Mput cpu pool object) none (at, is, away, spent) = asked-unspent h cpu (Free object ∷ []) none spent
kept-unspent h reserves _ none spent = spent

line-unspent : (m : MachineState) (trace : Trace) (client : Asked) → m.ids ≡ None → SpendsLine m trace client → ⊥
line-unspent m trace client none (inl spent) = classes-unspent (heap_of m) trace client none spent
line-unspent m trace client none (inr (inl spent)) = bulk-unspent (heap_of m) client none spent
line-unspent m trace client none (inr (inr spent)) = kept-unspent (heap_of m) (kept_in m.lists m.reserves) client none spent

item-unspent : (way : Way) (m : MachineState) (trace : Trace) (it : Item) → HasNoTurns way → m.ids ≡ None → ItemSpendsTurns way m trace it → ⊥
item-unspent way m trace (item.Round round) turns none spent = turns m.rounds m.lists round (subst (λ (ids : Option (List ℕ)). SpendsTurnsBy way m.rounds m.lists ids round) none spent)
item-unspent way m trace (item.Client client) turns none spent = line-unspent m trace client none spent
item-unspent way m trace _ turns none spent = spent

found-unspent : (way : Way) (m : MachineState) (trace : Trace) (found : Option Item) → HasNoTurns way → m.ids ≡ None → MatchOption found ⊥ (λ it. ItemSpendsTurns way m trace it) → ⊥
found-unspent way m trace None turns none spent = spent
found-unspent way m trace (Some it) turns none spent = item-unspent way m trace it turns none spent

-- so no journal ends by turns that are spent
pub never-spent : (way : Way) (trace : Trace) (journal : Journal) → trace.tid ≡ 0 → HasNoTurns way → EndsSpent way trace journal → ⊥
never-spent way trace journal bare turns ends =
    found-unspent way ends.0.machine trace (slice_get trace.items (length journal.items)) turns (lawful-without way trace journal bare ends.0) ends.1
