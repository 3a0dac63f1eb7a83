-- What each client's line of a journal leaves, and each round that ends with a trim.
use Rattle.std.proofs.Common.{◌≡◌, ℕ, ◌+◌, ◌<◌, ◌≤◌, ◌&&◌, cond, eqb, Bool, true, false, List, [], ◌∷◌, ◌++◌, length, take, flat_map, refl, sym, ◌∙◌, ap, subst, All, arith, Option, Some, None, IsSome, IfSome, Result, Ok, Err, inl, inr}
use Rattle.std.specs.Prelude.{nat_le, nat_lt}
use Rattle.std.specs.List.{Contains, list_any, range_with_len}
use Rattle.std.proofs.lemmas.Bool.{false≢true}
use Rattle.std.proofs.lemmas.List.Elements.{All-cons, All-head, All-nil, All-tail}
use Rattle.std.proofs.lemmas.List.Sums.{sum_by-cons}
use Rattle.slub_trace.specs.declared.event.Act.TheVariants.{Alloc, Free}
use Rattle.slub_trace.specs.declared.event.Round.{Round}
use Rattle.slub_trace.specs.declared.reply.Reply.{Reply}
use Rattle.slub_trace.specs.declared.reply.Reply.TheVariants as reply
use Rattle.slub_trace.specs.Kinds.{is_freed}
use Rattle.slub_trace.specs.declared.trace.Client.{Client as Asked}
use Rattle.slub_trace.specs.declared.trace.Client.TheVariants as line
use Rattle.slub_trace.specs.declared.trace.Item.{Item}
use Rattle.slub_trace.specs.declared.trace.Item.TheVariants as item
use Rattle.slub_trace.specs.declared.trace.Trace.{Trace}
use Rattle.slub_trace.specs.Sound.{IsSound, IsSoundItem, objects_in}
use Rattle.slub_lists.specs.declared.lists.Held.{Held}
use Rattle.slub_lists.specs.State.{State}
use Rattle.slub_lists.specs.Coherent.{held_under}
use Rattle.slub_lists.specs.Shrink.{has_slab}
use Rattle.slub_slabinfo_text.specs.declared.client.CacheRefusal.{CacheRefusal}
use Rattle.slub_slabinfo_text.specs.declared.client.ClientAnswer.{ClientAnswer}
use Rattle.slub_slabinfo_text.specs.declared.client.ClientAnswer.TheVariants as answer
use Rattle.slub_slabinfo_text.specs.declared.client.ClientDone.{ClientDone}
use Rattle.slub_slabinfo_text.specs.declared.journal.Done.{Done}
use Rattle.slub_slabinfo_text.specs.declared.journal.Done.TheVariants as done
use Rattle.slub_slabinfo_text.specs.declared.journal.Journal.{Journal}
use Rattle.slub_slabinfo_text.specs.declared.journal.RoundResult.{RoundResult}
use Rattle.slub_slabinfo_text.specs.Asked.{Tells, event_of, round_of}
use Rattle.slub_slabinfo_text.specs.Lawful.{DoesRound, IsUnheld}
use Rattle.slub_law_rounds.specs.Answered.{Answered, did_free, times_freed}
use Rattle.slub_law_rounds.specs.Round.{IsRound}
use Rattle.slub_law_rounds.proofs.Steps.{match_bool, match_either}
use Rattle.slub_rounds.specs.Asked.{IsOpenTo, IsServable}
use Rattle.slub_rounds.specs.BulkLines.{ServesBulk, TakesAll, bulk_answer}
use Rattle.slub_rounds.specs.ByText.{DoesByText, IdsLast}
use Rattle.slub_rounds.specs.ClientLaws.{IsNumber}
use Rattle.slub_rounds.specs.Heap.{HeapState}
use Rattle.slub_rounds.specs.Reserves.{AreReserves, AreSoundReserves, Gets, Lends, Makes, Pops, PutsBack, Reserve, ServesMempool, ServesMget, ServesMput, TakesOne, TellsFree, fresh_reserve, has_number, is_of_cache, kept_in, no_reserve, place_of_reserve, reserve_at, times_in}
use Rattle.slub_rounds.proofs.Allowed.{allocations-may, frees-may}
use Rattle.slub_rounds.proofs.TextLawful.{text-lawful}
use Rattle.slub_bulk.specs.Taking.{MayTake}
use Rattle.slub_bulk.proofs.Boards.{allocs_lawful, answers_of, asked_lawful, frees_give_none, one_may}
use Rattle.slub_bulk.proofs.Bulking.{range_differs, range_known}
use Rattle.slub_bulk.proofs.Leaving.{adds, bulks, either-way, frees, nobody, not-some}
use Rattle.slub_mempool.proofs.Keeping.{dropped, last-in}
use Rattle.slub_mempool.proofs.Serving.{place-within}
use Rattle.slub_law_replay.specs.declared.way.Way.{Way}
use Rattle.slub_law_replay.specs.declared.way.Way.TheVariants.{Serial, Schedule, Threads}
use Rattle.slub_law_replay.specs.Runs.{Does, MachineState, RunsItems, Serves, heap_of, machine_of}
use Rattle.slub_law_replay.specs.Ways.{DoesRoundBy}
use Rattle.slub_law_replay.proofs.Numbers.{IsBrief, front, items-brief}
use Rattle.slub_law_replay.proofs.TrimmedLast.{trimmed-last}
use Rattle.slub_items.specs.Lines.{HasLines, LeavesAlong, LeavesBulkLine, LeavesItem, LeavesLine, LeavesMempool, LeavesMget, LeavesMput, LeavesTrimmed, SameBoard, TakesBack, TrimsLast}
use Rattle.slub_items.proofs.Classes.{refused-given, same-board, serves}
use Rattle.slub_items.proofs.Following.{Follows, follows-first, follows-next, servable}
use Rattle.slub_items.proofs.Ones.{freed-gone, freed-others, given-at, given-board, mine-alone, refused-board}

-- ---- a free that didn't free

unfreed-board : (s : State) (cpu object : ℕ) (result : RoundResult) (after : State) → IsRound s (round_of cpu (Free object ∷ [])) result after → (told : Reply) → result.replies ≡ told ∷ [] → is_freed told ≡ false → SameBoard s after
unfreed-board s cpu object result after law told is unfreed x = by (held_under s x) refl
  where
    answers : List Answered
    answers = answers_of cpu (Free object ∷ []) result.replies

    none-freed : times_freed x (answers_of cpu (Free object ∷ []) result.replies) ≡ 0
    none-freed =
        subst (λ (l : List Reply). times_freed x (answers_of cpu (Free object ∷ []) l) ≡ 0) (sym is)
        (one (eqb object x) (is_freed told) unfreed (sum_by-cons (λ (one : Answered). cond (did_free x one) 1 0) (event_of cpu (Free object), told) []))
      where
        one : (b c : Bool) → c ≡ false → times_freed x ((event_of cpu (Free object), told) ∷ []) ≡ cond (b && c) 1 0 + times_freed x [] → times_freed x ((event_of cpu (Free object), told) ∷ []) ≡ 0
        one b true never first = absurd (false≢true (sym never))
        one true false none first = omega (arith, first)
        one false false none first = omega (arith, first)

    by : (was : Option Held) → held_under s x ≡ was → held_under after x ≡ held_under s x
    by None bare = nobody (held_under after x) (λ there. elim ((law.board.numbers x).0 there).0 [
      | inl before ↦ absurd (not-some (held_under s x) bare before)
      | inr given ↦ absurd (let never : ⊥ = omega (arith, given, frees_give_none x cpu (object ∷ []) result.replies) in never)
    ]) ∙ sym bare
    by (Some held) there = let some : IsSome (held_under s x) = rw there refl in either-way s after x (law.board.stays x) some ((law.board.numbers x).1 (inl some, none-freed))

-- ---- the lines, of a heap of which they can be served

module _ (h : HeapState) (trace : Trace) (outcome : ClientDone) (after : HeapState) where
  -- many numbers may be taken
  range-may : (cpu place first count : ℕ) → IsOpenTo h trace (length (range_with_len first count)) → cpu < trace.cpus → place < length trace.names → 1 ≤ first → first + count ≤ trace.objects + 1 → All (IsUnheld h.lists) (range_with_len first count)
      → MayTake h trace cpu place (range_with_len first count)
  range-may cpu place first count heap on_cpu of_name from within unheld = record {
    heap = heap;
    on_cpu = on_cpu;
    of_name = of_name;
    known = range_known h first count from (omega (arith, within, heap.objects));
    unheld = unheld;
    distinct = range_differs first count;
  }

  -- those that were given are freed again
  back : (cpu place : ℕ) (numbers : List ℕ) (why : CacheRefusal) → MayTake h trace cpu place numbers → TakesAll h cpu place numbers (Some why) outcome.rounds after → TakesBack h place numbers outcome after
  back cpu place numbers why may takes sure = bulks text-lawful h trace cpu place numbers (record { rounds = outcome.rounds; answer = answer.Nothing why }) after may sure (Some why, takes, refl)

  bulk-leaves : (cpu place : ℕ) (numbers : List ℕ) → MayTake h trace cpu place numbers → ServesBulk h cpu place numbers outcome after → LeavesBulkLine h place numbers outcome after outcome.answer
  bulk-leaves cpu place numbers may served = by served.0 served.1 served.2
    where
      by : (refusal : Option CacheRefusal) → TakesAll h cpu place numbers refusal outcome.rounds after → outcome.answer ≡ bulk_answer refusal → LeavesBulkLine h place numbers outcome after outcome.answer
      by None takes is = subst (LeavesBulkLine h place numbers outcome after) (sym is) (adds text-lawful h trace cpu place numbers outcome.rounds after may takes)
      by (Some why) takes is = subst (LeavesBulkLine h place numbers outcome after) (sym is) (back cpu place numbers why may takes)

  -- ---- `mempool`

  mempool-leaves : (reserves : List Reserve) (fresh : Reserve) (left : List Reserve) → MayTake h trace 0 fresh.cache fresh.numbers → ServesMempool h reserves fresh outcome after left → LeavesMempool h fresh.cache fresh.numbers outcome after outcome.answer
  mempool-leaves reserves fresh left may served =
      match_either (place_of_reserve reserves fresh.name) _ _ Goal served
      (λ none answered. match_bool (nat_le 8 (length reserves)) _ _ Goal answered
      (λ full told. subst Leaves (sym told.0.1) (same-board h after told.0.2))
      (λ room filled. by filled.0 filled.1 filled.2))
      (λ at is told. subst Leaves (sym told.0.1) (same-board h after told.0.2))
    where
      Leaves : ClientAnswer → Type 0
      Leaves = LeavesMempool h fresh.cache fresh.numbers outcome after

      Goal : Type 0
      Goal = Leaves outcome.answer

      by : (refusal : Option CacheRefusal) → TakesAll h 0 fresh.cache fresh.numbers refusal outcome.rounds after → Makes reserves fresh refusal outcome.answer left → Goal
      by None takes makes = subst Leaves (sym makes.0) (adds text-lawful h trace 0 fresh.cache fresh.numbers outcome.rounds after may takes)
      by (Some why) takes makes = subst Leaves (sym makes.0) (back 0 fresh.cache fresh.numbers why may takes)

  -- ---- `mget`

  module _ (before reserves : List Reserve) (is : reserves ≡ kept_in h.lists before) (are : AreReserves h.lists trace reserves) (cpu object : ℕ) (heap : IsOpenTo h trace 1) (on_cpu : cpu < trace.cpus) (known : IsNumber h object) (unheld : IsUnheld h.lists object) where
    abbrev Leaves : ClientAnswer → Type 0
    Leaves = LeavesMget h.lists before object after.lists

    gets : (at : ℕ) → at < length reserves → (told : Result ℕ CacheRefusal) (left : List Reserve) → TakesOne h cpu (reserve_at reserves at).cache object outcome.rounds told after → Gets after.lists reserves at told outcome.answer left → Leaves outcome.answer
    gets at within told left takes got = by told takes.4 got
      where
        place : ℕ
        place = (reserve_at reserves at).cache

        may : MayTake h trace cpu (reserve_at reserves at).cache (object ∷ [])
        may = one_may h trace cpu (reserve_at reserves at).cache object heap on_cpu (are.sound.each at no_reserve within).cache known unheld

        law : IsRound h.lists (round_of cpu (Alloc (reserve_at reserves at).cache object ∷ [])) takes.0.result after.lists
        law = allocs_lawful text-lawful h trace cpu (reserve_at reserves at).cache (object ∷ []) may takes.0 after takes.2

        lent : (why : CacheRefusal) (found : Option ℕ) (rest left : List ℕ) (now : List Reserve) → SameBoard h.lists after.lists → Pops (reserve_at reserves at).numbers found rest → Lends after.lists reserves at why found rest outcome.answer now → Leaves outcome.answer
        lent why None rest left now same pops lends = subst Leaves (sym lends.0) same
        lent why (Some last) rest left now same pops lends =
            let mine : 0 < times_in last reserves = last-in reserves at last rest within pops in
            subst Leaves (sym lends.0) (record {
              reserved = subst (λ (l : List Reserve). 0 < times_in last l) is mine;
              there = subst (λ (x : Option Held). IsSome x) (sym (same last)) (are.held last mine);
              at = refl;
              board = same;
            })

        by : (told : Result ℕ CacheRefusal) → Tells takes.1 told → Gets after.lists reserves at told outcome.answer left → Leaves outcome.answer
        by (Ok address) tells got =
            let one : takes.0.result.replies ≡ reply.Given address ∷ [] = takes.3 ∙ ap (λ (r : Reply). r ∷ []) tells in
            subst Leaves (sym got.0)
            (given-board h.lists cpu (reserve_at reserves at).cache object takes.0.result after.lists unheld law address one, given-at h.lists cpu (reserve_at reserves at).cache object takes.0.result after.lists unheld law address one)
        by (Err why) tells got =
            lent why got.0 got.1 [] left (refused-board h.lists cpu (reserve_at reserves at).cache object takes.0.result after.lists unheld law takes.1 takes.3 (refused-given takes.1 why tells)) got.2 got.3

    mget-leaves : (pool : List ℕ) (left : List Reserve) → ServesMget h reserves cpu pool object outcome after left → Leaves outcome.answer
    mget-leaves pool left served =
        match_either (place_of_reserve reserves pool) _ _ (Leaves outcome.answer) served
        (λ none told. subst Leaves (sym told.0.1) (same-board h after told.0.2))
        (λ at found asks. gets at (place-within reserves pool at found) asks.0 left asks.1 asks.2)

  -- ---- `mput`

  module _ (reserves : List Reserve) (cpu object : ℕ) (heap : IsOpenTo h trace 0) (on_cpu : cpu < trace.cpus) (known : IsNumber h object) where
    abbrev Left : ClientAnswer → Type 0
    Left = LeavesMput h.lists object after.lists

    puts-back : PutsBack h cpu object outcome after → Left outcome.answer
    puts-back back = by back.1 back.3 back.4
      where
        law : IsRound h.lists (round_of cpu (Free object ∷ [])) back.0.result after.lists
        law =
            asked_lawful h trace cpu (Free object ∷ []) back.0 after text-lawful heap.sound.coherent heap.rest
            (frees-may h trace cpu (object ∷ []) heap on_cpu (omega arith) (All-cons (IsNumber h) object [] known (All-nil (IsNumber h)))) back.2

        by : (told : Reply) → back.0.result.replies ≡ told ∷ [] → TellsFree told outcome.answer → Left outcome.answer
        by (reply.Freed address) is tells = subst Left (sym tells) (record {
          go = λ x mine. subst (λ n. held_under after.lists n ≡ None) (sym (mine-alone object x mine)) (freed-gone h.lists cpu object back.0.result after.lists law (reply.Freed address) is refl);
          stay = λ x apart. freed-others h.lists cpu object back.0.result after.lists law (reply.Freed address) is refl x (λ same. apart (Contains-one object x same));
        })
          where
            Contains-one : (object x : ℕ) → x ≡ object → Contains (object ∷ []) x
            Contains-one object x same = (0, omega arith, sym same)
        by (reply.Corrupt damage) is tells = subst Left (sym tells) (unfreed-board h.lists cpu object back.0.result after.lists law (reply.Corrupt damage) is refl)
        by _ is tells = absurd tells

    mput-leaves : (pool : List ℕ) (left : List Reserve) → ServesMput h reserves cpu pool object outcome after left → Left outcome.answer
    mput-leaves pool left served =
        match_either (place_of_reserve reserves pool) _ _ (Left outcome.answer) served
        (λ none told. subst Left (sym told.0.1) (same-board h after told.0.2))
        (λ at is some. match_either (held_under h.lists object) _ _ (Left outcome.answer) some
        (λ none told. subst Left (sym told.0.1) (same-board h after told.0.2))
        (λ held here puts. match_bool (is_of_cache h.lists (reserve_at reserves at) held.cache) _ _ (Left outcome.answer) puts
        (λ own rest_of. match_bool (list_any (has_number object) reserves) _ _ (Left outcome.answer) rest_of
        (λ has told. subst Left (sym told.0.1) (same-board h after told.0.2))
        (λ out refills. match_bool (nat_lt (length (reserve_at reserves at).numbers) (reserve_at reserves at).min_nr) _ _ (Left outcome.answer) refills
        (λ room told. subst Left (sym told.0.1) (same-board h after told.0.2))
        (λ full back. puts-back back.0)))
        (λ other told. subst Left (sym told.0.1) (same-board h after told.0.2))))

-- ---- a line

number-of : (h : HeapState) (trace : Trace) (object : ℕ) → length h.lists.board ≡ trace.objects + 1 → (1 ≤ object) × (object ≤ trace.objects) → IsNumber h object
number-of h trace object long sound = (sound.0, omega (arith, long, sound.1))

line-leaves : (m : MachineState) (trace : Trace) (client : Asked) (outcome : ClientDone) (after : MachineState) → IsServable (heap_of m) trace client → AreSoundReserves trace m.reserves → Serves m trace client outcome after → LeavesLine m client outcome after
line-leaves m trace line.Kmalloc outcome after can sound (inl served) = serves text-lawful allocations-may frees-may (heap_of m) trace line.Kmalloc outcome (heap_of after) can served.0
line-leaves m trace line.Kmalloc outcome after can sound (inr (inl served)) = absurd served.0
line-leaves m trace line.Kmalloc outcome after can sound (inr (inr served)) = absurd served.0
line-leaves m trace (line.Kget cpu size object) outcome after can sound (inl served) = serves text-lawful allocations-may frees-may (heap_of m) trace (line.Kget cpu size object) outcome (heap_of after) can served.0
line-leaves m trace (line.Kget cpu size object) outcome after can sound (inr (inl served)) = absurd served.0
line-leaves m trace (line.Kget cpu size object) outcome after can sound (inr (inr served)) = absurd served.0
line-leaves m trace (line.Krealloc cpu object size fresh) outcome after can sound (inl served) = serves text-lawful allocations-may frees-may (heap_of m) trace (line.Krealloc cpu object size fresh) outcome (heap_of after) can served.0
line-leaves m trace (line.Krealloc cpu object size fresh) outcome after can sound (inr (inl served)) = absurd served.0
line-leaves m trace (line.Krealloc cpu object size fresh) outcome after can sound (inr (inr served)) = absurd served.0
line-leaves m trace (line.Bulk cpu place first count) outcome after can sound (inl served) = absurd served.0
line-leaves m trace (line.Bulk cpu place first count) outcome after can sound (inr (inl served)) =
    let here = can.sound in
    bulk-leaves (heap_of m) trace outcome (heap_of after) cpu place (range_with_len first count) (range-may (heap_of m) trace outcome (heap_of after) cpu place first count can.heap here.0 here.1 here.2.0 (omega (arith, here.2.1, here.2.3)) can.unheld) served.0
line-leaves m trace (line.Bulk cpu place first count) outcome after can sound (inr (inr served)) = absurd served.0
line-leaves m trace (line.Bulkfree cpu first count) outcome after can sound (inl served) = absurd served.0
line-leaves m trace (line.Bulkfree cpu first count) outcome after can sound (inr (inl served)) =
    let here = can.sound in
    frees text-lawful (heap_of m) trace cpu first count outcome (heap_of after) can.heap here.0 here.1.0 (omega (arith, here.1.1, here.1.3, can.heap.objects)) served.0
line-leaves m trace (line.Bulkfree cpu first count) outcome after can sound (inr (inr served)) = absurd served.0
line-leaves m trace (line.Mempool pool place min first) outcome after can sound (inl served) = absurd served.0
line-leaves m trace (line.Mempool pool place min first) outcome after can sound (inr (inl served)) = absurd served.0
line-leaves m trace (line.Mempool pool place min first) outcome after can sound (inr (inr served)) =
    let here = can.sound in
    mempool-leaves (heap_of m) trace outcome (heap_of after) (kept_in m.lists m.reserves) (fresh_reserve pool place min first) after.reserves
    (range-may (heap_of m) trace outcome (heap_of after) 0 place first min can.heap (omega (arith, can.whole.cpus.0)) here.1 here.2.0 (omega (arith, here.2.1, here.2.3)) can.unheld) served.0
line-leaves m trace (line.Mget cpu pool object) outcome after can sound (inl served) = absurd served.0
line-leaves m trace (line.Mget cpu pool object) outcome after can sound (inr (inl served)) = absurd served.0
line-leaves m trace (line.Mget cpu pool object) outcome after can sound (inr (inr served)) =
    let here = can.sound in
    mget-leaves (heap_of m) trace outcome (heap_of after) m.reserves (kept_in m.lists m.reserves) refl (dropped m.lists trace m.reserves sound) cpu object can.heap here.0 (number-of (heap_of m) trace object can.heap.objects here.2) (can.unheld 0 object (omega arith)) pool after.reserves served.0
line-leaves m trace (line.Mput cpu pool object) outcome after can sound (inl served) = absurd served.0
line-leaves m trace (line.Mput cpu pool object) outcome after can sound (inr (inl served)) = absurd served.0
line-leaves m trace (line.Mput cpu pool object) outcome after can sound (inr (inr served)) =
    let here = can.sound in
    mput-leaves (heap_of m) trace outcome (heap_of after) (kept_in m.lists m.reserves) cpu object can.heap here.0 (number-of (heap_of m) trace object can.heap.objects here.2) pool after.reserves served.0

-- ---- a round that ends with a trim

text-trimmed : (m : MachineState) (round : Round) (result : RoundResult) (after : State) (left : Option (List ℕ)) → DoesByText m.lists m.ids round result after left → IfSome m.ids (λ ids. IdsLast m.lists ids round)
    → (cache : ℕ) → TrimsLast round cache after → has_slab after cache ≡ false
text-trimmed m round result after left does last cache trims = trimmed-last m.lists round result cache after (record {
  does = by m.ids does last;
  first = trims.first;
  last = trims.last;
  place = trims.place;
  events = trims.events;
  trims = trims.trims;
  of_cache = trims.of_cache;
  unchecked = trims.unchecked;
  idle = trims.idle;
})
  where
    by : (ids : Option (List ℕ)) → DoesByText m.lists ids round result after left → IfSome ids (λ ids. IdsLast m.lists ids round) → DoesRound m.lists round result after
    by None does last = does.0
    by (Some ids) does last = elim does.1 [
      | inl on_lists ↦ on_lists.1.does
      | inr by_steps ↦ absurd (by_steps.0 last)
    ]

round-trimmed : (way : Way) (m : MachineState) (round : Round) (result : RoundResult) (after : MachineState) → DoesRoundBy way m.rounds m.lists m.ids round result after.lists after.ids → LeavesTrimmed way m round after
round-trimmed Serial m round result after does text last cache trims = text-trimmed m round result after.lists after.ids does last cache trims
round-trimmed (Schedule seed) m round result after (inl (few, does)) text last cache trims = text-trimmed m round result after.lists after.ids does last cache trims
round-trimmed (Schedule seed) m round result after (inr (several, does)) text last cache trims = absurd (omega (arith, several, text))
round-trimmed Threads m round result after (inl (few, does)) text last cache trims = text-trimmed m round result after.lists after.ids does last cache trims
round-trimmed Threads m round result after (inr (several, does)) text last cache trims = absurd (omega (arith, several, text))

-- ---- an item

item-leaves : (way : Way) (m : MachineState) (trace : Trace) (it : Item) (dn : Done) (coming : List ℕ) (after : MachineState) → IsSound trace → Follows m trace (objects_in it ++ coming) → IsSoundItem trace it → Does way m trace it dn after → LeavesItem way m it dn after
unfolding Does
item-leaves way m trace (item.Round round) (done.Round result) coming after sound follows here does = round-trimmed way m round result after does.0
item-leaves way m trace (item.Client client) (done.Client outcome) coming after sound follows here does =
    line-leaves m trace client outcome after (servable m trace client coming sound here follows) follows.stands.reserves does.0
item-leaves way m trace it dn coming after sound follows here does = tt

-- ---- the journal

all-leave : (way : Way) (m : MachineState) (trace : Trace) (items : List Item) (dones : List Done) (after : MachineState) → IsSound trace → Follows m trace (flat_map objects_in items) → All (IsSoundItem trace) items → All IsBrief items
    → (run : RunsItems way m trace items dones after) → LeavesAlong way m trace items dones after run
all-leave way m trace [] [] after sound follows items brief run = tt
all-leave way m trace [] (dn ∷ dones) after sound follows items brief run = absurd run
all-leave way m trace (it ∷ items) [] after sound follows all brief run = absurd run
all-leave way m trace (it ∷ items) (dn ∷ dones) after sound follows all brief run =
    let here = All-head (IsSoundItem trace) it items all in
    let short = All-head IsBrief it items brief in
    let next = follows-next way m trace it dn (flat_map objects_in items) run.0 sound follows here short run.2 run.1 in
    (item-leaves way m trace it dn (flat_map objects_in items) run.0 sound follows here run.1, all-leave way run.0 trace items dones after sound next (All-tail (IsSoundItem trace) it items all) (All-tail IsBrief it items brief) run.3)

pub leave-along : (way : Way) (trace : Trace) (journal : Journal) → IsSound trace → HasLines way trace journal
leave-along way trace journal sound lawful =
    let some = length journal.items in
    all-leave way (machine_of trace) trace (take some trace.items) journal.items lawful.machine sound (follows-first trace some sound lawful.coherent) (front (IsSoundItem trace) some trace.items sound.items) (front IsBrief some trace.items (items-brief trace sound)) lawful.run
