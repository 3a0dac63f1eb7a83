-- What a client's line does: it makes rounds, one after the other, or creates caches.
use Rattle.std.proofs.Common.{◌≡◌, ℕ, ◌<◌, ◌≤◌, Bool, true, false, List, [], ◌∷◌, ◌++◌, length, flat_map, refl, sym, ◌∙◌, ap, subst, arith, All, Option, Some, None, MatchOption, Result, Ok, Err, inl, inr, ◌⊎◌, append-nil}
use Rattle.std.specs.Bool.{MatchBool}
use Rattle.std.specs.List.{list_any, range_with_len}
use Rattle.std.proofs.lemmas.List.Elements.{All-map}
use Rattle.std.proofs.lemmas.List.FromFn.{length-range_with_len}
use Rattle.slub_trace.specs.declared.event.Act.{Act}
use Rattle.slub_trace.specs.declared.event.Act.TheVariants.{Alloc, Free}
use Rattle.slub_trace.specs.declared.event.Event.{Event}
use Rattle.slub_trace.specs.declared.event.Round.{Round}
use Rattle.slub_trace.specs.declared.create.Created.{Created}
use Rattle.slub_trace.specs.declared.create.CreateRefusal.{CreateRefusal}
use Rattle.slub_trace.specs.Kinds.{is_given}
use Rattle.slub_lists.specs.Coherent.{IsCoherent, held_under}
use Rattle.slub_trace.specs.declared.trace.Client.{Client as Asked}
use Rattle.slub_trace.specs.declared.trace.Client.TheVariants as line
use Rattle.slub_trace.specs.declared.trace.Trace.{Trace}
use Rattle.slub_trace.specs.Sound.{AreSoundObjects, IsSoundClient, IsSoundObject, asked_objects, objects_of}
use Rattle.slub_slabinfo_text.specs.declared.client.CacheRefusal.{CacheRefusal}
use Rattle.slub_slabinfo_text.specs.declared.client.ClientAnswer.{ClientAnswer}
use Rattle.slub_slabinfo_text.specs.declared.client.ClientAnswer.TheVariants as answer
use Rattle.slub_slabinfo_text.specs.declared.client.ClientDone.{ClientDone}
use Rattle.slub_slabinfo_text.specs.declared.client.ClientRound.{ClientRound}
use Rattle.slub_slabinfo_text.specs.Asked.{event_of, frees_of, round_of}
use Rattle.slub_slabinfo_text.specs.Bulk.{free_order}
use Rattle.slub_slabinfo_text.specs.Classes.{class_place}
use Rattle.slub_rounds.specs.Heap.{DoesRoundOf, HeapState}
use Rattle.slub_rounds.specs.Asked.{AnswersAtOnce, DoesAsked}
use Rattle.slub_rounds.specs.BulkLines.{FreesAgain, ServesBulkFree, ServesBulkLines, TakesAll, allocs_of, first_unheld, places_under, replied}
use Rattle.slub_rounds.specs.Kmalloc.{CreatesClasses, Moves, MovesOn, ServesClasses, ServesHeld, TakesOfClass, is_enough, is_kmalloc, place_of_class}
use Rattle.slub_rounds.specs.Reserves.{AnswersLeaving, AreSoundReserves, Asks, Fills, Puts, PutsBack, Refills, Reserve, ServesKept, ServesMempool, ServesMget, ServesMput, fresh_reserve, has_number, is_of_cache, kept_in, place_of_reserve, reserve_at, with_numbers}
use Rattle.slub_rounds.proofs.Allowed.{allocs-objects, frees-objects}
use Rattle.slub_law_replay.specs.Runs.{MachineState, Serves, heap_of}
use Rattle.slub_rounds.proofs.Chosen.{order_all, replied_all, replied_long}
use Rattle.slub_law_replay.proofs.Asking.{AreKnown, AreNamed, IsAsked, alloc-asked, allocs-asked, class-named, free-asked, frees-asked, kept-named, order-few, range-known, reserve-named}

-- ---- rounds

-- a round is made, each event of it by one of its workers; of a sound line it is a sound one of the trace
pub record MakesRound (trace : Trace) (sound : Type 0) (h : HeapState) (round : ClientRound) (after : HeapState) : Type 0 where
  pub does : DoesRoundOf h round.asked round.result after
  pub coherent : IsCoherent after.lists
  pub workers : All (λ event. event.worker < round.asked.workers) round.asked.events
  pub asks : sound → IsAsked trace round.asked

-- rounds are, one after the other
abbrev pub MakesRounds : Trace → Type 0 → HeapState → List ClientRound → HeapState → Type 0
MakesRounds trace sound h [] after = after ≡ h
MakesRounds trace sound h (round ∷ rounds) after = (mid : HeapState) × MakesRound trace sound h round mid × MakesRounds trace sound mid rounds after

-- the numbers that a round may allocate
abbrev pub objects_asked : ClientRound → List ℕ
objects_asked round = objects_of round.asked.events

-- rounds are made that allocate these numbers, or none
pub record MadeFor (trace : Trace) (sound : Type 0) (h : HeapState) (rounds : List ClientRound) (numbers : List ℕ) (after : HeapState) : Type 0 where
  pub runs : MakesRounds trace sound h rounds after
  pub objects : (flat_map objects_asked rounds ≡ numbers) ⊎ (flat_map objects_asked rounds ≡ [])

-- what acts allocate is what their round may
asked_objects_are : (h : HeapState) (cpu : ℕ) (acts : List Act) (round : ClientRound) (after : HeapState) (numbers : List ℕ) → DoesAsked h cpu acts round after → objects_of (round_of cpu acts).events ≡ numbers → objects_asked round ≡ numbers
asked_objects_are h cpu acts round after numbers done are = ap (λ (asked : Round). objects_of asked.events) done.asked ∙ are

-- ---- one answer or another

some_or : {A : Type 0} (found : Option A) (N : Type 0) (P : A → Type 0) (Q : Type 0) → MatchOption found N P → (N → Q) → ((x : A) → found ≡ Some x → P x → Q) → Q
some_or None N P Q matches none some = none matches
some_or (Some x) N P Q matches none some = some x refl matches

true_or : (b : Bool) (P N Q : Type 0) → MatchBool b P N → (P → Q) → (N → Q) → Q
true_or true P N Q matches first second = first matches
true_or false P N Q matches first second = second matches

-- ---- the lines, each sound or not

module _ (trace : Trace) (sound : Type 0) where
  -- a client's round is one
  asked_made : (h : HeapState) (cpu : ℕ) (acts : List Act) (round : ClientRound) (after : HeapState) → (sound → IsAsked trace (round_of cpu acts)) → DoesAsked h cpu acts round after → MakesRound trace sound h round after
  asked_made h cpu acts round after asks done = record {
    does = subst (λ (asked : Round). DoesRoundOf h asked round.result after) (sym done.asked) done.does;
    coherent = done.coherent;
    workers = subst (λ (asked : Round). All (λ (event : Event). event.worker < asked.workers) asked.events) (sym done.asked)
        (All-map (λ (event : Event). event.worker < 1) (event_of cpu) acts (λ k d within. omega arith));
    asks = λ whole. subst (IsAsked trace) (sym done.asked) (asks whole);
  }

  -- none is made
  made_none : (h : HeapState) (rounds : List ClientRound) (numbers : List ℕ) (after : HeapState) → rounds ≡ [] → after ≡ h → MadeFor trace sound h rounds numbers after
  made_none h rounds numbers after none same = rw none (record { runs = same; objects = inr refl })

  -- one is
  made_one : (h : HeapState) (cpu : ℕ) (acts : List Act) (round : ClientRound) (rounds : List ClientRound) (numbers : List ℕ) (after : HeapState) → (sound → IsAsked trace (round_of cpu acts))
      → DoesAsked h cpu acts round after → (objects_of (round_of cpu acts).events ≡ numbers) ⊎ (objects_of (round_of cpu acts).events ≡ []) → rounds ≡ round ∷ [] → MadeFor trace sound h rounds numbers after
  made_one h cpu acts round rounds numbers after asks done are one = rw one (record { runs = (after, asked_made h cpu acts round after asks done, refl); objects = by are })
    where
      by : (objects_of (round_of cpu acts).events ≡ numbers) ⊎ (objects_of (round_of cpu acts).events ≡ []) → (flat_map objects_asked (round ∷ []) ≡ numbers) ⊎ (flat_map objects_asked (round ∷ []) ≡ [])
      by (inl all) = inl (append-nil (objects_asked round) ∙ asked_objects_are h cpu acts round after numbers done all)
      by (inr none) = inr (append-nil (objects_asked round) ∙ asked_objects_are h cpu acts round after [] done none)

  -- two are: the second allocates nothing
  made_two : (h mid : HeapState) (cpu : ℕ) (acts other : List Act) (first second : ClientRound) (rounds : List ClientRound) (numbers : List ℕ) (after : HeapState)
      → (sound → IsAsked trace (round_of cpu acts)) → (sound → IsAsked trace (round_of cpu other))
      → DoesAsked h cpu acts first mid → DoesAsked mid cpu other second after → objects_of (round_of cpu acts).events ≡ numbers → objects_of (round_of cpu other).events ≡ []
      → rounds ≡ first ∷ second ∷ [] → MadeFor trace sound h rounds numbers after
  made_two h mid cpu acts other first second rounds numbers after asks frees one two all none both =
      let mine : objects_asked first ≡ numbers = asked_objects_are h cpu acts first mid numbers one all in
      let bare : objects_asked second ≡ [] = asked_objects_are mid cpu other second after [] two none in
      let whole : flat_map objects_asked (first ∷ second ∷ []) ≡ numbers = rw (mine, bare) (append-nil numbers) in
      rw both (record { runs = (mid, asked_made h cpu acts first mid asks one, (after, asked_made mid cpu other second after frees two, refl)); objects = inl whole })

  at_once_made : (h : HeapState) (told : ClientAnswer) (done : ClientDone) (numbers : List ℕ) (after : HeapState) → AnswersAtOnce h told done after → MadeFor trace sound h done.rounds numbers after
  at_once_made h told done numbers after at_once = made_none h done.rounds numbers after at_once.0 at_once.2

  -- ---- `kget` and `krealloc`

  takes_made : (h : HeapState) (cpu class object : ℕ) (rounds : List ClientRound) (told : Result ℕ CacheRefusal) (after : HeapState) → (sound → (cpu < trace.cpus) × IsSoundObject trace object)
      → TakesOfClass h trace cpu class object rounds told after → MadeFor trace sound h rounds (object ∷ []) after
  takes_made h cpu class object rounds told after known takes =
      some_or (place_of_class trace class) _ _ (MadeFor trace sound h rounds (object ∷ []) after) takes
      (λ none. made_none h rounds (object ∷ []) after none.0 none.2)
      (λ place at one.
      made_one h cpu (Alloc place object ∷ []) one.0 rounds (object ∷ []) after (λ whole. alloc-asked trace cpu place object (known whole).0 (class-named trace class place at) (known whole).1) one.3 (inl refl) one.2)

  moves_made : (h : HeapState) (cpu class object fresh : ℕ) (done : ClientDone) (after : HeapState) → (sound → (cpu < trace.cpus) × IsSoundObject trace object × IsSoundObject trace fresh)
      → Moves h trace cpu class object fresh done after → MadeFor trace sound h done.rounds (fresh ∷ []) after
  moves_made h cpu class object fresh done after known moves = by moves.0 moves.1 moves.2 moves.3 moves.4
    where
      differ : {address : ℕ} {why : CacheRefusal} → ◌≡◌ {A = Result ℕ CacheRefusal} (Ok address) (Err why) → ⊥
      differ e = cc

      own : sound → (cpu < trace.cpus) × IsSoundObject trace fresh
      own whole = ((known whole).0, (known whole).2)

      refused : (first : List ClientRound) (mid : HeapState) → MadeFor trace sound h first (fresh ∷ []) mid → done.rounds ≡ first → after ≡ mid → MadeFor trace sound h done.rounds (fresh ∷ []) after
      refused first mid made same stays = rw (same, stays) made

      given : (address : ℕ) (first : List ClientRound) (mid : HeapState) → TakesOfClass h trace cpu class fresh first (Ok address) mid → MovesOn mid cpu object (Ok address) first done after → MadeFor trace sound h done.rounds (fresh ∷ []) after
      given address first mid takes moves =
          some_or (place_of_class trace class) _ _ (MadeFor trace sound h done.rounds (fresh ∷ []) after) takes
          (λ none. absurd (let never : ⊥ = differ none.1 in never))
          (λ place at one.
          let both : done.rounds ≡ one.0 ∷ moves.0 ∷ [] = moves.2 ∙ ap (λ (l : List ClientRound). l ++ moves.0 ∷ []) one.2 in
          made_two h mid cpu (Alloc place fresh ∷ []) (Free object ∷ []) one.0 moves.0 done.rounds (fresh ∷ []) after
          (λ whole. alloc-asked trace cpu place fresh (known whole).0 (class-named trace class place at) (known whole).2) (λ whole. free-asked trace cpu object (known whole).0 (known whole).1) one.3 moves.1 refl refl both)

      by : (told : Result ℕ CacheRefusal) (first : List ClientRound) (mid : HeapState) → TakesOfClass h trace cpu class fresh first told mid → MovesOn mid cpu object told first done after → MadeFor trace sound h done.rounds (fresh ∷ []) after
      by (Ok address) first mid takes moves = given address first mid takes moves
      by (Err why) first mid takes moves = refused first mid (takes_made h cpu class fresh first (Err why) mid own takes) moves.0 moves.2

  held_made : (h : HeapState) (cpu object size fresh cache : ℕ) (done : ClientDone) (after : HeapState) → (sound → (cpu < trace.cpus) × IsSoundObject trace object × IsSoundObject trace fresh)
      → ServesHeld h trace cpu object size fresh cache done after → MadeFor trace sound h done.rounds (fresh ∷ []) after
  held_made h cpu object size fresh cache done after known serves =
      true_or (is_kmalloc h.lists cache) _ _ (MadeFor trace sound h done.rounds (fresh ∷ []) after) serves
      (λ mine. some_or (class_place size) _ _ (MadeFor trace sound h done.rounds (fresh ∷ []) after) mine
      (λ large. at_once_made h answer.TooLarge done (fresh ∷ []) after large)
      (λ class at of_it. true_or (is_enough h.lists cache size) _ _ (MadeFor trace sound h done.rounds (fresh ∷ []) after) of_it
      (λ stays. at_once_made h answer.Stays done (fresh ∷ []) after stays)
      (λ moves. moves_made h cpu class object fresh done after known moves)))
      (λ other. at_once_made h answer.NotKmalloc done (fresh ∷ []) after other)

  -- ---- `bulk` and `bulkfree`

  again_made : (h mid : HeapState) (cpu place : ℕ) (numbers given : List ℕ) (first : ClientRound) (rounds : List ClientRound) (after : HeapState)
      → (sound → IsAsked trace (round_of cpu (allocs_of place numbers))) → (sound → IsAsked trace (round_of cpu (frees_of given)))
      → DoesAsked h cpu (allocs_of place numbers) first mid → FreesAgain mid cpu given first rounds after → MadeFor trace sound h rounds numbers after
  again_made h mid cpu place numbers [] first rounds after asks gives done none =
      rw none.1 (made_one h cpu (allocs_of place numbers) first rounds numbers mid asks done (inl (allocs-objects cpu place numbers)) none.0)
  again_made h mid cpu place numbers (number ∷ given) first rounds after asks gives done frees =
      made_two h mid cpu (allocs_of place numbers) (frees_of (number ∷ given)) first frees.0 rounds numbers after asks gives done frees.1 (allocs-objects cpu place numbers) (frees-objects cpu (number ∷ given)) frees.2

  all_made : (h : HeapState) (cpu place : ℕ) (numbers : List ℕ) (refusal : Option CacheRefusal) (rounds : List ClientRound) (after : HeapState)
      → (sound → (cpu < trace.cpus) × (place < length trace.names) × AreKnown trace numbers × (length numbers ≤ 1024)) → TakesAll h cpu place numbers refusal rounds after → MadeFor trace sound h rounds numbers after
  all_made h cpu place numbers refusal rounds after known takes =
      some_or refusal _ _ (MadeFor trace sound h rounds numbers after) takes.4
      (λ all. rw all.1 (made_one h cpu (allocs_of place numbers) first rounds numbers takes.1 asks takes.2 (inl (allocs-objects cpu place numbers)) all.0))
      (λ why at frees. again_made h takes.1 cpu place numbers given first rounds after asks gives takes.2 frees)
    where
      first : ClientRound
      first = takes.0

      given : List ℕ
      given = replied is_given numbers takes.0.result.replies

      asks : sound → IsAsked trace (round_of cpu (allocs_of place numbers))
      asks whole = allocs-asked trace cpu place numbers (known whole).0 (known whole).1 (known whole).2 (omega (arith, (known whole).3))

      gives : sound → IsAsked trace (round_of cpu (frees_of given))
      gives whole =
          frees-asked trace cpu given (known whole).0 (replied_all (IsSoundObject trace) is_given numbers takes.0.result.replies (known whole).2) (omega (arith, (known whole).3, replied_long is_given numbers takes.0.result.replies))

  bulk_free_made : (h : HeapState) (cpu : ℕ) (numbers : List ℕ) (done : ClientDone) (after : HeapState) → (sound → (cpu < trace.cpus) × AreKnown trace numbers × (length numbers ≤ 1024))
      → ServesBulkFree h cpu numbers done after → MadeFor trace sound h done.rounds [] after
  bulk_free_made h cpu numbers done after known serves =
      some_or (first_unheld h.lists numbers) _ _ (MadeFor trace sound h done.rounds [] after) serves
      (λ frees. made_one h cpu (frees_of order) frees.0 done.rounds [] after asks frees.1 (inr (frees-objects cpu order)) frees.2)
      (λ number at not_held. at_once_made h (answer.NotHeldOf number) done [] after not_held)
    where
      order : List ℕ
      order = free_order (places_under h.lists numbers)

      asks : sound → IsAsked trace (round_of cpu (frees_of order))
      asks whole = frees-asked trace cpu order (known whole).0 (order_all (IsSoundObject trace) h.lists numbers (known whole).1) (order-few h.lists numbers (known whole).2)

  -- ---- reserves

  leaving_made : (h : HeapState) (reserves left : List Reserve) (told : ClientAnswer) (done : ClientDone) (numbers : List ℕ) (after : HeapState) → AnswersLeaving h reserves told done after left → MadeFor trace sound h done.rounds numbers after
  leaving_made h reserves left told done numbers after leaves = at_once_made h told done numbers after leaves.0

  asks_made : (h : HeapState) (reserves : List Reserve) (at cpu object : ℕ) (done : ClientDone) (after : HeapState) (left : List Reserve)
      → (sound → (cpu < trace.cpus) × ((reserve_at reserves at).cache < length trace.names) × IsSoundObject trace object) → Asks h reserves at cpu object done after left → MadeFor trace sound h done.rounds (object ∷ []) after
  asks_made h reserves at cpu object done after left known asks =
      made_one h cpu (Alloc (reserve_at reserves at).cache object ∷ []) asks.1.0 done.rounds (object ∷ []) after
      (λ whole. alloc-asked trace cpu (reserve_at reserves at).cache object (known whole).0 (known whole).1 (known whole).2) asks.1.2 (inl refl) asks.1.5

  back_made : (h : HeapState) (cpu object : ℕ) (done : ClientDone) (after : HeapState) → (sound → (cpu < trace.cpus) × IsSoundObject trace object) → PutsBack h cpu object done after → MadeFor trace sound h done.rounds [] after
  back_made h cpu object done after known puts =
      made_one h cpu (Free object ∷ []) puts.0 done.rounds [] after (λ whole. free-asked trace cpu object (known whole).0 (known whole).1) puts.2 (inr refl) puts.5

  refills_made : (h : HeapState) (reserves : List Reserve) (at cpu object : ℕ) (done : ClientDone) (after : HeapState) (left : List Reserve) → (sound → (cpu < trace.cpus) × IsSoundObject trace object)
      → Refills h reserves at cpu object done after left → MadeFor trace sound h done.rounds [] after
  refills_made h reserves at cpu object done after left known refills =
      true_or _ _ _ (MadeFor trace sound h done.rounds [] after) refills
      (λ (kept : AnswersAtOnce h answer.Kept done after × (left ≡ with_numbers reserves at ((reserve_at reserves at).numbers ++ object ∷ []))). at_once_made h answer.Kept done [] after kept.0)
      (λ (puts : PutsBack h cpu object done after × (left ≡ reserves)). back_made h cpu object done after known puts.0)

  puts_made : (h : HeapState) (reserves : List Reserve) (at cpu object cache : ℕ) (done : ClientDone) (after : HeapState) (left : List Reserve) → (sound → (cpu < trace.cpus) × IsSoundObject trace object)
      → Puts h reserves at cpu object cache done after left → MadeFor trace sound h done.rounds [] after
  puts_made h reserves at cpu object cache done after left known puts =
      true_or (is_of_cache h.lists (reserve_at reserves at) cache) _ _ (MadeFor trace sound h done.rounds [] after) puts
      (λ mine. true_or (list_any (has_number object) reserves) _ _ (MadeFor trace sound h done.rounds [] after) mine
      (λ has. leaving_made h reserves left answer.InReserve done [] after has)
      (λ refills. refills_made h reserves at cpu object done after left known refills))
      (λ other. leaving_made h reserves left answer.WrongCache done [] after other)

  mempool_made : (h : HeapState) (reserves : List Reserve) (fresh : Reserve) (done : ClientDone) (after : HeapState) (left : List Reserve)
      → (sound → (0 < trace.cpus) × (fresh.cache < length trace.names) × AreKnown trace fresh.numbers × (length fresh.numbers ≤ 1024)) → ServesMempool h reserves fresh done after left → MadeFor trace sound h done.rounds fresh.numbers after
  mempool_made h reserves fresh done after left known serves =
      some_or (place_of_reserve reserves fresh.name) _ _ (MadeFor trace sound h done.rounds fresh.numbers after) serves
      (λ none. true_or _ _ _ (MadeFor trace sound h done.rounds fresh.numbers after) none
      (λ many. leaving_made h reserves left answer.TooMany done fresh.numbers after many)
      (λ (fills : Fills h reserves fresh done after left). all_made h 0 fresh.cache fresh.numbers fills.0 done.rounds after known fills.1))
      (λ place at taken. leaving_made h reserves left answer.Taken done fresh.numbers after taken)

  mget_made : (h : HeapState) (reserves : List Reserve) (cpu : ℕ) (pool : List ℕ) (object : ℕ) (done : ClientDone) (after : HeapState) (left : List Reserve)
      → (sound → (cpu < trace.cpus) × AreNamed trace reserves × IsSoundObject trace object) → ServesMget h reserves cpu pool object done after left → MadeFor trace sound h done.rounds (object ∷ []) after
  mget_made h reserves cpu pool object done after left known serves =
      some_or (place_of_reserve reserves pool) _ _ (MadeFor trace sound h done.rounds (object ∷ []) after) serves
      (λ none. leaving_made h reserves left answer.NoPool done (object ∷ []) after none)
      (λ place at asks. asks_made h reserves place cpu object done after left (λ whole. ((known whole).0, reserve-named trace reserves pool place (known whole).1 at, (known whole).2)) asks)

  mput_made : (h : HeapState) (reserves : List Reserve) (cpu : ℕ) (pool : List ℕ) (object : ℕ) (done : ClientDone) (after : HeapState) (left : List Reserve) → (sound → (cpu < trace.cpus) × IsSoundObject trace object)
      → ServesMput h reserves cpu pool object done after left → MadeFor trace sound h done.rounds [] after
  mput_made h reserves cpu pool object done after left known serves =
      some_or (place_of_reserve reserves pool) _ _ (MadeFor trace sound h done.rounds [] after) serves
      (λ none. leaving_made h reserves left answer.NoPool done [] after none)
      (λ place at of_it. some_or (held_under h.lists object) _ _ (MadeFor trace sound h done.rounds [] after) of_it
      (λ none. leaving_made h reserves left answer.NotHeld done [] after none)
      (λ held there puts. puts_made h reserves place cpu object held.cache done after left known puts))

-- ---- any line

-- a sound line of a trace that has a CPU, where the reserves are sound
pub record IsSoundLine (trace : Trace) (kept : List Reserve) (client : Asked) : Type 0 where
  pub line : IsSoundClient trace client
  pub cpus : 0 < trace.cpus
  pub reserves : AreSoundReserves trace kept

-- it makes rounds; or it creates the caches of classes
pub data ClientEffect (trace : Trace) (sound : Type 0) (h : HeapState) (client : Asked) (outcome : ClientDone) (after : HeapState) : Type 0 where
  made_rounds : MadeFor trace sound h outcome.rounds (asked_objects client) after → ClientEffect trace sound h client outcome after
  made_caches : (answers : List (Result Created CreateRefusal)) → outcome.rounds ≡ [] → CreatesClasses h trace (range_with_len 0 13) answers after → ClientEffect trace sound h client outcome after

-- a range of numbers that a line names
named-range : (trace : Trace) (most first count : ℕ) → AreSoundObjects trace most first count → most ≤ 1024 → AreKnown trace (range_with_len first count) × (length (range_with_len first count) ≤ 1024)
named-range trace most first count objects few =
    (range-known trace first count objects.0 (omega (arith, objects.1, objects.3)), omega (arith, length-range_with_len first count, objects.2, few))

classes_effect : (trace : Trace) (reserves : List Reserve) (h : HeapState) (client : Asked) (outcome : ClientDone) (after : HeapState) → ServesClasses h trace client outcome after → ClientEffect trace (IsSoundLine trace reserves client) h client outcome after
classes_effect trace reserves h line.Kmalloc outcome after serves = made_caches serves.0 serves.1 serves.3
classes_effect trace reserves h (line.Kget cpu size object) outcome after serves =
    made_rounds (some_or (class_place size) _ _ (MadeFor trace (IsSoundLine trace reserves (line.Kget cpu size object)) h outcome.rounds (object ∷ []) after) serves
    (λ large. at_once_made trace (IsSoundLine trace reserves (line.Kget cpu size object)) h answer.TooLarge outcome (object ∷ []) after large)
    (λ class at takes.
    takes_made trace (IsSoundLine trace reserves (line.Kget cpu size object)) h cpu class object outcome.rounds takes.0 after (λ (whole : IsSoundLine trace reserves (line.Kget cpu size object)). (whole.line.0, whole.line.2)) takes.1))
classes_effect trace reserves h (line.Krealloc cpu object size fresh) outcome after serves =
    made_rounds (some_or (held_under h.lists object) _ _ (MadeFor trace (IsSoundLine trace reserves (line.Krealloc cpu object size fresh)) h outcome.rounds (fresh ∷ []) after) serves
    (λ none. at_once_made trace (IsSoundLine trace reserves (line.Krealloc cpu object size fresh)) h answer.NotHeld outcome (fresh ∷ []) after none)
    (λ held there of_it.
    held_made trace (IsSoundLine trace reserves (line.Krealloc cpu object size fresh)) h cpu object size fresh held.cache outcome after
    (λ (whole : IsSoundLine trace reserves (line.Krealloc cpu object size fresh)). (whole.line.0, whole.line.1, whole.line.3)) of_it))
classes_effect trace reserves h _ outcome after serves = absurd serves

bulk_effect : (trace : Trace) (reserves : List Reserve) (h : HeapState) (client : Asked) (outcome : ClientDone) (after : HeapState) → ServesBulkLines h client outcome after → ClientEffect trace (IsSoundLine trace reserves client) h client outcome after
bulk_effect trace reserves h (line.Bulk cpu place first count) outcome after serves =
    made_rounds (all_made trace (IsSoundLine trace reserves (line.Bulk cpu place first count)) h cpu place (range_with_len first count) serves.0 outcome.rounds after
    (λ (whole : IsSoundLine trace reserves (line.Bulk cpu place first count)).
    let named = named-range trace 1024 first count whole.line.2 (omega arith) in
    (whole.line.0, whole.line.1, named.0, named.1)) serves.1)
bulk_effect trace reserves h (line.Bulkfree cpu first count) outcome after serves =
    made_rounds (bulk_free_made trace (IsSoundLine trace reserves (line.Bulkfree cpu first count)) h cpu (range_with_len first count) outcome after
    (λ (whole : IsSoundLine trace reserves (line.Bulkfree cpu first count)).
    let named = named-range trace 1024 first count whole.line.1 (omega arith) in
    (whole.line.0, named.0, named.1)) serves)
bulk_effect trace reserves h _ outcome after serves = absurd serves

kept_effect : (trace : Trace) (reserves : List Reserve) (h : HeapState) (client : Asked) (outcome : ClientDone) (after : HeapState) (left : List Reserve) → ServesKept h (kept_in h.lists reserves) client outcome after left
    → ClientEffect trace (IsSoundLine trace reserves client) h client outcome after
kept_effect trace reserves h (line.Mempool pool place min first) outcome after left serves =
    made_rounds (mempool_made trace (IsSoundLine trace reserves (line.Mempool pool place min first)) h (kept_in h.lists reserves) (fresh_reserve pool place min first) outcome after left
    (λ (whole : IsSoundLine trace reserves (line.Mempool pool place min first)).
    let named = named-range trace 64 first min whole.line.2 (omega arith) in
    (whole.cpus, whole.line.1, named.0, named.1)) serves)
kept_effect trace reserves h (line.Mget cpu pool object) outcome after left serves =
    made_rounds (mget_made trace (IsSoundLine trace reserves (line.Mget cpu pool object)) h (kept_in h.lists reserves) cpu pool object outcome after left
    (λ (whole : IsSoundLine trace reserves (line.Mget cpu pool object)). (whole.line.0, kept-named trace h.lists reserves whole.reserves, whole.line.2)) serves)
kept_effect trace reserves h (line.Mput cpu pool object) outcome after left serves =
    made_rounds (mput_made trace (IsSoundLine trace reserves (line.Mput cpu pool object)) h (kept_in h.lists reserves) cpu pool object outcome after left
    (λ (whole : IsSoundLine trace reserves (line.Mput cpu pool object)). (whole.line.0, whole.line.2)) serves)
kept_effect trace reserves h _ outcome after left serves = absurd serves

-- a line on a machine
abbrev pub LineEffect : MachineState → Trace → Asked → ClientDone → MachineState → Type 0
LineEffect m trace client outcome after = ClientEffect trace (IsSoundLine trace m.reserves client) (heap_of m) client outcome (heap_of after)

pub client_effect : (m : MachineState) (trace : Trace) (client : Asked) (outcome : ClientDone) (after : MachineState) → Serves m trace client outcome after → LineEffect m trace client outcome after
client_effect m trace client outcome after (inl serves) = classes_effect trace m.reserves (heap_of m) client outcome (heap_of after) serves.0
client_effect m trace client outcome after (inr (inl serves)) = bulk_effect trace m.reserves (heap_of m) client outcome (heap_of after) serves.0
client_effect m trace client outcome after (inr (inr serves)) = kept_effect trace m.reserves (heap_of m) client outcome (heap_of after) after.reserves serves.0
