-- A line is served, and the reserves are as they should be.
use Rattle.std.proofs.Common.{◌≡◌, ℕ, ◌+◌, ◌<◌, ◌≤◌, true, false, List, [], ◌∷◌, length, refl, ◌∙◌, ap, arith, Option, Some, None, IsSome, Result, Ok, Err}
use Rattle.std.specs.List.{list_any, range_with_len}
use Rattle.std.specs.Prelude.{nat_le, nat_lt}
use Rattle.std.specs.Str.{bytes_eq}
use Rattle.std.proofs.lemmas.Bool.Decides.{nat_tests}
use Rattle.std.proofs.lemmas.List.Elements.{All-cons, All-contains, All-nil}
use Rattle.std.proofs.lemmas.List.FromFn.{length-range_with_len}
use Rattle.std.proofs.lemmas.List.Quantifiers.{position-Some}
use Rattle.slub_common.proofs.Times.{Contains-times}
use Rattle.slub_trace.specs.declared.event.Act.TheVariants.{Free}
use Rattle.slub_lists.specs.State.{State}
use Rattle.slub_lists.specs.Coherent.{held_under}
use Rattle.slub_trace.specs.declared.trace.Client.{Client as Asked}
use Rattle.slub_trace.specs.declared.trace.Client.TheVariants as line
use Rattle.slub_trace.specs.declared.trace.Trace.{Trace}
use Rattle.slub_slabinfo_text.specs.declared.client.CacheRefusal.{CacheRefusal}
use Rattle.slub_slabinfo_text.specs.declared.client.ClientAnswer.{ClientAnswer}
use Rattle.slub_slabinfo_text.specs.declared.client.ClientDone.{ClientDone}
use Rattle.slub_slabinfo_text.specs.Asked.{round_of}
use Rattle.slub_slabinfo_text.specs.Lawful.{IsUnheld}
use Rattle.slub_law_rounds.specs.Round.{IsRound}
use Rattle.slub_law_rounds.proofs.Steps.{match_bool, match_either}
use Rattle.slub_law_rounds.proofs.Times.{once_times}
use Rattle.slub_rounds.specs.Heap.{HeapState}
use Rattle.slub_rounds.specs.TextLaws.{RoundsByTextAreLawful}
use Rattle.slub_rounds.specs.Asked.{IsOpenTo, IsServable}
use Rattle.slub_rounds.specs.BulkLines.{TakesAll}
use Rattle.slub_rounds.specs.ClientLaws.{IsNumber}
use Rattle.slub_rounds.specs.Reserves.{AreReserves, Asks, Fills, Gets, Lends, Makes, Pops, PutsBack, Reserve, ServesKept, ServesMempool, ServesMget, ServesMput, fresh_reserve, has_number, is_of_cache, no_reserve, place_of_reserve, reserve_at, times_in}
use Rattle.slub_rounds.proofs.Allowed.{frees-may}
use Rattle.slub_bulk.specs.Taking.{MayTake}
use Rattle.slub_bulk.proofs.Boards.{allocs_lawful, asked_lawful, one_may, one_stays, others_stay, takes_come, takes_stay}
use Rattle.slub_bulk.proofs.Bulking.{range_differs, range_known}
use Rattle.slub_mempool.proofs.Keeping.{in-none, lent, made, put, still}

-- a place of a reserve is one
pub place-within : (reserves : List Reserve) (pool : List ℕ) (at : ℕ) → place_of_reserve reserves pool ≡ Some at → at < length reserves
place-within reserves pool at is = (position-Some (λ (reserve : Reserve). bytes_eq pool reserve.name) reserves at (reserve_at reserves at) is).0

-- the heap and the reserves are as they were
same : (h : HeapState) (trace : Trace) (reserves : List Reserve) (after : HeapState) (left : List Reserve) → AreReserves h.lists trace reserves → after ≡ h → left ≡ reserves → AreReserves after.lists trace left
same h trace reserves after left are heap kept = rw (heap, kept) are

-- ---- `mempool`

fills : (lawful : RoundsByTextAreLawful) (h : HeapState) (trace : Trace) (reserves : List Reserve) (fresh : Reserve) (done : ClientDone) (after : HeapState) (left : List Reserve) → MayTake h trace 0 fresh.cache fresh.numbers → AreReserves h.lists trace reserves
    → length reserves < 8 → fresh.min_nr ≤ 64 → length fresh.numbers ≤ fresh.min_nr → Fills h reserves fresh done after left → AreReserves after.lists trace left
fills lawful h trace reserves fresh done after left may are room few within filled = by filled.0 filled.1 filled.2
  where
    by : (refusal : Option CacheRefusal) → TakesAll h 0 fresh.cache fresh.numbers refusal done.rounds after → Makes reserves fresh refusal done.answer left → AreReserves after.lists trace left
    by None takes makes =
        rw makes.1 (made h.lists trace reserves fresh after.lists are room (record { cache = may.of_name; min_nr = few; within = within })
        (λ number. once_times number fresh.numbers may.distinct)
        (λ number some. All-contains (IsUnheld h.lists) fresh.numbers number may.unheld (Contains-times number fresh.numbers some))
        (takes_come lawful h trace 0 fresh.cache fresh.numbers may done.rounds after takes)
        (λ number some. takes_stay lawful h trace 0 fresh.cache fresh.numbers may None done.rounds after takes number))
    by (Some why) takes makes =
        rw makes.1 (still h.lists trace reserves after.lists are (λ number some. takes_stay lawful h trace 0 fresh.cache fresh.numbers may (Some why) done.rounds after takes number))

served_mempool : (lawful : RoundsByTextAreLawful) (h : HeapState) (trace : Trace) (reserves : List Reserve) (fresh : Reserve) (done : ClientDone) (after : HeapState) (left : List Reserve) → MayTake h trace 0 fresh.cache fresh.numbers → AreReserves h.lists trace reserves
    → fresh.min_nr ≤ 64 → length fresh.numbers ≤ fresh.min_nr → ServesMempool h reserves fresh done after left → AreReserves after.lists trace left
served_mempool lawful h trace reserves fresh done after left may are few within serves =
    match_either (place_of_reserve reserves fresh.name) _ _ (AreReserves after.lists trace left) serves
    (λ none answered. match_bool (nat_le 8 (length reserves)) _ _ (AreReserves after.lists trace left) answered
    (λ full told. same h trace reserves after left are told.0.2 told.1)
    (λ room filled. fills lawful h trace reserves fresh done after left may are (below room) few within filled))
    (λ at is told. same h trace reserves after left are told.0.2 told.1)
  where
    below : nat_le 8 (length reserves) ≡ false → length reserves < 8
    below room = grind (arith, nat_tests, room)

-- ---- `mget`

gets : (s : State) (trace : Trace) (reserves : List Reserve) (at : ℕ) (told : Result ℕ CacheRefusal) (answer : ClientAnswer) (after : State) (left : List Reserve) → AreReserves s trace reserves → at < length reserves
    → ((number : ℕ) → 0 < times_in number reserves → IsSome (held_under s number) → IsSome (held_under after number)) → Gets after reserves at told answer left → AreReserves after trace left
gets s trace reserves at (Ok address) answer after left are within stay got = rw got.1 (still s trace reserves after are stay)
gets s trace reserves at (Err why) answer after left are within stay got = by got.0 got.2 got.3
  where
    by : (lent : Option ℕ) → Pops (reserve_at reserves at).numbers lent got.1 → Lends after reserves at why lent got.1 answer left → AreReserves after trace left
    by None pops lends = rw lends.1 (still s trace reserves after are stay)
    by (Some last) pops lends = rw lends.1 (lent s trace reserves at last got.1 after are within pops stay)

served_mget : (lawful : RoundsByTextAreLawful) (h : HeapState) (trace : Trace) (reserves : List Reserve) (cpu : ℕ) (pool : List ℕ) (object : ℕ) (done : ClientDone) (after : HeapState) (left : List Reserve) → IsOpenTo h trace 1 → cpu < trace.cpus → AreReserves h.lists trace reserves
    → IsNumber h object → IsUnheld h.lists object → ServesMget h reserves cpu pool object done after left → AreReserves after.lists trace left
served_mget lawful h trace reserves cpu pool object done after left heap on_cpu are known unheld serves =
    match_either (place_of_reserve reserves pool) _ _ (AreReserves after.lists trace left) serves
    (λ none told. same h trace reserves after left are told.0.2 told.1)
    (λ at is asks. asked at (place-within reserves pool at is) asks)
  where
    asked : (at : ℕ) → at < length reserves → Asks h reserves at cpu object done after left → AreReserves after.lists trace left
    asked at within asks =
        let may = one_may h trace cpu (reserve_at reserves at).cache object heap on_cpu (are.sound.each at no_reserve within).cache known unheld in
        let law = allocs_lawful lawful h trace cpu (reserve_at reserves at).cache (object ∷ []) may asks.1.0 after asks.1.2 in
        gets h.lists trace reserves at asks.0 done.answer after.lists left are within
        (λ number some. one_stays h.lists cpu (reserve_at reserves at).cache object asks.1.0.result after.lists law number) asks.2

-- ---- `mput`

puts_back : (lawful : RoundsByTextAreLawful) (h : HeapState) (trace : Trace) (reserves : List Reserve) (cpu object : ℕ) (done : ClientDone) (after : HeapState) → IsOpenTo h trace 0 → cpu < trace.cpus → IsNumber h object → AreReserves h.lists trace reserves
    → list_any (has_number object) reserves ≡ false → PutsBack h cpu object done after → AreReserves after.lists trace reserves
puts_back lawful h trace reserves cpu object done after heap on_cpu known are none back =
    still h.lists trace reserves after.lists are (λ number some. others_stay h.lists cpu object back.0.result after.lists law number (λ is. never number some is))
  where
    never : (number : ℕ) → 0 < times_in number reserves → number ≡ object → ⊥
    never number some is = let zero : times_in number reserves ≡ 0 = ap (λ n. times_in n reserves) is ∙ in-none object reserves none in omega (arith, some, zero)

    law : IsRound h.lists (round_of cpu (Free object ∷ [])) back.0.result after.lists
    law =
        asked_lawful h trace cpu (Free object ∷ []) back.0 after lawful heap.sound.coherent heap.rest
        (frees-may h trace cpu (object ∷ []) heap on_cpu (omega arith) (All-cons (IsNumber h) object [] known (All-nil (IsNumber h)))) back.2

served_mput : (lawful : RoundsByTextAreLawful) (h : HeapState) (trace : Trace) (reserves : List Reserve) (cpu : ℕ) (pool : List ℕ) (object : ℕ) (done : ClientDone) (after : HeapState) (left : List Reserve) → IsOpenTo h trace 0 → cpu < trace.cpus → IsNumber h object → AreReserves h.lists trace reserves
    → ServesMput h reserves cpu pool object done after left → AreReserves after.lists trace left
served_mput lawful h trace reserves cpu pool object done after left heap on_cpu known are serves =
    match_either (place_of_reserve reserves pool) _ _ (AreReserves after.lists trace left) serves
    (λ none told. same h trace reserves after left are told.0.2 told.1)
    (λ at is some. match_either (held_under h.lists object) _ _ (AreReserves after.lists trace left) some
    (λ none told. same h trace reserves after left are told.0.2 told.1)
    (λ held here puts. match_bool (is_of_cache h.lists (reserve_at reserves at) held.cache) _ _ (AreReserves after.lists trace left) puts
    (λ own rest_of. match_bool (list_any (has_number object) reserves) _ _ (AreReserves after.lists trace left) rest_of
    (λ has told. same h trace reserves after left are told.0.2 told.1)
    (λ none refills. match_bool (nat_lt (length (reserve_at reserves at).numbers) (reserve_at reserves at).min_nr) _ _ (AreReserves after.lists trace left) refills
    (λ room told. rw (told.0.2, told.1) (put h.lists trace reserves at object are (place-within reserves pool at is) (below at room) none (rw here refl)))
    (λ full back. rw back.1 (puts_back lawful h trace reserves cpu object done after heap on_cpu known are none back.0))))
    (λ other told. same h trace reserves after left are told.0.2 told.1)))
  where
    below : (at : ℕ) → nat_lt (length (reserve_at reserves at).numbers) (reserve_at reserves at).min_nr ≡ true → length (reserve_at reserves at).numbers < (reserve_at reserves at).min_nr
    below at room = grind (arith, nat_tests, room)

-- ---- all three

pub serves_keep : (lawful : RoundsByTextAreLawful) (h : HeapState) (trace : Trace) (reserves : List Reserve) (client : Asked) (done : ClientDone) (after : HeapState) (left : List Reserve) → IsServable h trace client → AreReserves h.lists trace reserves
    → ServesKept h reserves client done after left → AreReserves after.lists trace left
serves_keep lawful h trace reserves (line.Mempool pool place min first) done after left servable are serves =
    let sound = servable.sound in
    let within : first + min ≤ length h.lists.board = omega (arith, sound.2.1, sound.2.3, servable.heap.objects) in
    let may : MayTake h trace 0 place (range_with_len first min) = record {
      heap = servable.heap;
      on_cpu = omega (arith, servable.whole.cpus.0);
      of_name = sound.1;
      known = range_known h first min sound.2.0 within;
      unheld = servable.unheld;
      distinct = range_differs first min;
    } in
    served_mempool lawful h trace reserves (fresh_reserve pool place min first) done after left may are sound.2.2 (omega (arith, length-range_with_len first min)) serves
serves_keep lawful h trace reserves (line.Mget cpu pool object) done after left servable are serves =
    let sound = servable.sound in
    served_mget lawful h trace reserves cpu pool object done after left servable.heap sound.0 are (sound.2.0, omega (arith, sound.2.1, servable.heap.objects)) (servable.unheld 0 object (omega arith)) serves
serves_keep lawful h trace reserves (line.Mput cpu pool object) done after left servable are serves =
    let sound = servable.sound in
    served_mput lawful h trace reserves cpu pool object done after left servable.heap sound.0 (sound.2.0, omega (arith, sound.2.1, servable.heap.objects)) are serves
serves_keep lawful h trace reserves line.Kmalloc done after left servable are serves = absurd serves
serves_keep lawful h trace reserves (line.Kget cpu size object) done after left servable are serves = absurd serves
serves_keep lawful h trace reserves (line.Krealloc cpu object size fresh) done after left servable are serves = absurd serves
serves_keep lawful h trace reserves (line.Bulk cpu place first count) done after left servable are serves = absurd serves
serves_keep lawful h trace reserves (line.Bulkfree cpu first count) done after left servable are serves = absurd serves
