-- What rounds of allocations and rounds of frees leave on the board.
use Rattle.std.proofs.Common.{◌≡◌, ◌≢◌, ℕ, ◌+◌, ◌^◌, ◌<◌, ◌≤◌, cond, Bool, true, false, ◌&&◌, eqb, List, [], ◌∷◌, ◌++◌, append_assoc, length, refl, sym, ◌∙◌, ap, subst, All, arith, Option, Some, None, IsSome, MatchOption, inl, inr}
use Rattle.std.specs.List.{Contains, IsDistinct, cons_option, filter_map, zip}
use Rattle.std.specs.Prelude.{nat_eq, slice_get}
use Rattle.std.proofs.lemmas.List.Elements.{All-cons, All-contains, All-head, All-nil, All-tail}
use Rattle.std.proofs.lemmas.List.Sums.{sum_by-cons}
use Rattle.slub_trace.specs.declared.event.Act.{Act}
use Rattle.slub_trace.specs.declared.event.Act.TheVariants.{Alloc, Free}
use Rattle.slub_trace.specs.declared.reply.Reply.{Reply}
use Rattle.slub_trace.specs.declared.reply.Reply.TheVariants as reply
use Rattle.slub_trace.specs.Kinds.{is_freed, is_given, is_no_memory}
use Rattle.slub_common.specs.Times.{times}
use Rattle.slub_common.proofs.Times.{times-absent, times-cons, times-cons_other}
use Rattle.slub_lists.specs.State.{State}
use Rattle.slub_lists.specs.Coherent.{IsCoherent, held_under}
use Rattle.slub_trace.specs.declared.trace.Trace.{Trace}
use Rattle.slub_trace.specs.Sound.{objects_of}
use Rattle.slub_calls.specs.Laws.{MayDo}
use Rattle.slub_slabinfo_text.specs.declared.client.CacheRefusal.{CacheRefusal}
use Rattle.slub_slabinfo_text.specs.declared.client.ClientAnswer.TheVariants as answer
use Rattle.slub_slabinfo_text.specs.declared.client.ClientDone.{ClientDone}
use Rattle.slub_slabinfo_text.specs.declared.client.ClientRound.{ClientRound}
use Rattle.slub_slabinfo_text.specs.declared.journal.RoundResult.{RoundResult}
use Rattle.slub_slabinfo_text.specs.Asked.{event_of, first_refusal, frees_of, refusal_of, round_of}
use Rattle.slub_slabinfo_text.specs.Bulk.{free_order}
use Rattle.slub_slabinfo_text.specs.Lawful.{IsAtRest, IsUnheld}
use Rattle.slub_law_rounds.specs.Answered.{Answered, did_free, gave, of_worker, times_freed, times_given}
use Rattle.slub_law_rounds.specs.Round.{AllocCause, HaveCauses, IsRound}
use Rattle.slub_law_rounds.proofs.Times.{events_given}
use Rattle.slub_rounds.specs.Laws.{MayFollow}
use Rattle.slub_rounds.proofs.Following.{leads-on}
use Rattle.slub_rounds.specs.Heap.{HeapState}
use Rattle.slub_rounds.specs.TextLaws.{RoundsByTextAreLawful}
use Rattle.slub_rounds.specs.Asked.{AnswersAtOnce, DoesAsked, IsOpenTo}
use Rattle.slub_rounds.specs.BulkLines.{FreesAgain, FreesInOrder, ServesBulkFree, TakesAll, allocs_of, first_unheld, places_under, replied}
use Rattle.slub_rounds.specs.ClientLaws.{IsNumber}
use Rattle.slub_rounds.proofs.Allowed.{allocations-may, allocs-long, frees-long, frees-may, frees-objects, none-differ, one-differs}
use Rattle.slub_rounds.proofs.Chosen.{replied_all, replied_long}
use Rattle.slub_rounds.proofs.Staying.{held-or-none, open-fewer}
use Rattle.slub_bulk.specs.Taking.{MayTake}

-- ---- which rounds are lawful

-- a client's round is a lawful round
pub asked_lawful : (h : HeapState) (trace : Trace) (cpu : ℕ) (acts : List Act) (round : ClientRound) (after : HeapState) → RoundsByTextAreLawful → IsCoherent h.lists → IsAtRest h.lists
    → MayDo h.lists trace (round_of cpu acts) → DoesAsked h cpu acts round after → IsRound h.lists (round_of cpu acts) round.result after.lists
asked_lawful h trace cpu acts round after lawful coherent rest may done = lawful h.lists h.ids trace (round_of cpu acts) round.result after.lists after.ids coherent rest may done.does

-- ---- how often a number is given and freed

-- the events of some acts, with their replies
abbrev pub answers_of : ℕ → List Act → List Reply → List Answered
answers_of cpu acts replies = zip (round_of cpu acts).events replies

pub allocs_free_none : (object cpu place : ℕ) (numbers : List ℕ) (replies : List Reply) → times_freed object (answers_of cpu (allocs_of place numbers) replies) ≡ 0
allocs_free_none object cpu place [] replies = refl
allocs_free_none object cpu place (number ∷ numbers) [] = refl
allocs_free_none object cpu place (number ∷ numbers) (answer ∷ replies) =
    omega (arith, sum_by-cons (λ (one : Answered). cond (did_free object one) 1 0) (event_of cpu (Alloc place number), answer) (answers_of cpu (allocs_of place numbers) replies), allocs_free_none object cpu place numbers replies)

pub frees_give_none : (object cpu : ℕ) (numbers : List ℕ) (replies : List Reply) → times_given object (answers_of cpu (frees_of numbers) replies) ≡ 0
frees_give_none object cpu numbers replies =
    let few = events_given object (round_of cpu (frees_of numbers)).events replies in
    let none : times object (objects_of (round_of cpu (frees_of numbers)).events) ≡ 0 = ap (times object) (frees-objects cpu numbers) in
    omega (arith, few, none)

-- a number is freed no more often than that is asked
pub frees_few : (object cpu : ℕ) (numbers : List ℕ) (replies : List Reply) → times_freed object (answers_of cpu (frees_of numbers) replies) ≤ times object numbers
frees_few object cpu [] replies = omega arith
frees_few object cpu (number ∷ numbers) [] = omega arith
frees_few object cpu (number ∷ numbers) (answer ∷ replies) =
    by (eqb number object) (is_freed answer)
    (sum_by-cons (λ (one : Answered). cond (did_free object one) 1 0) (event_of cpu (Free number), answer) (answers_of cpu (frees_of numbers) replies))
    (times-cons object number numbers) (frees_few object cpu numbers replies)
  where
    by : (b c : Bool) → times_freed object (answers_of cpu (frees_of (number ∷ numbers)) (answer ∷ replies)) ≡ cond (b && c) 1 0 + times_freed object (answers_of cpu (frees_of numbers) replies)
        → times object (number ∷ numbers) ≡ cond b 1 0 + times object numbers → times_freed object (answers_of cpu (frees_of numbers) replies) ≤ times object numbers
        → times_freed object (answers_of cpu (frees_of (number ∷ numbers)) (answer ∷ replies)) ≤ times object (number ∷ numbers)
    by true true first all rest = omega (arith, first, all, rest)
    by true false first all rest = omega (arith, first, all, rest)
    by false c first all rest = omega (arith, first, all, rest)

-- where all are given, each number is given as often as it is asked
pub allocs_give_all : (object cpu place : ℕ) (numbers : List ℕ) (replies : List Reply) → length replies ≡ length numbers → All (λ answer. is_given answer ≡ true) replies
    → times_given object (answers_of cpu (allocs_of place numbers) replies) ≡ times object numbers
allocs_give_all object cpu place [] [] even all = refl
allocs_give_all object cpu place [] (answer ∷ replies) even all = absurd (let never : ⊥ = omega arith in never)
allocs_give_all object cpu place (number ∷ numbers) [] even all = absurd (let never : ⊥ = omega arith in never)
allocs_give_all object cpu place (number ∷ numbers) (answer ∷ replies) even all =
    by (eqb number object) (is_given answer) (All-head (λ answer. is_given answer ≡ true) answer replies all)
    (sum_by-cons (λ (one : Answered). cond (gave object one) 1 0) (event_of cpu (Alloc place number), answer) (answers_of cpu (allocs_of place numbers) replies))
    (times-cons object number numbers)
    (allocs_give_all object cpu place numbers replies (omega arith) (All-tail (λ answer. is_given answer ≡ true) answer replies all))
  where
    by : (b c : Bool) → c ≡ true → times_given object (answers_of cpu (allocs_of place (number ∷ numbers)) (answer ∷ replies)) ≡ cond (b && c) 1 0 + times_given object (answers_of cpu (allocs_of place numbers) replies)
        → times object (number ∷ numbers) ≡ cond b 1 0 + times object numbers → times_given object (answers_of cpu (allocs_of place numbers) replies) ≡ times object numbers
        → times_given object (answers_of cpu (allocs_of place (number ∷ numbers)) (answer ∷ replies)) ≡ times object (number ∷ numbers)
    by true true is first all rest = omega (arith, first, all, rest)
    by true false is first all rest = absurd (let never : false ≡ true = is in cc)
    by false c is first all rest = omega (arith, first, all, rest)

-- ---- how many replies there are

pub replies_even : (s : State) (cpu : ℕ) (numbers : List ℕ) (result : RoundResult) (after : State) → IsRound s (round_of cpu (frees_of numbers)) result after → length result.replies ≡ length numbers
replies_even s cpu numbers result after law = omega (arith, law.replies, frees-long cpu numbers)

-- ---- what an allocation is answered

-- it is given, where it isn't refused and memory is there
given-of : (before : State) (all own : List Answered) (place : ℕ) (told : Reply) → AllocCause before all own place told → refusal_of told ≡ None → is_no_memory told ≡ false → is_given told ≡ true
given-of before all own place (reply.Given address) cause none memory = refl
given-of before all own place reply.NoFrames cause none memory = absurd (cc)
given-of before all own place reply.NoMemory cause none memory = absurd (let never : true ≡ false = memory in cc)
given-of before all own place (reply.IdsSpent tid) cause none memory = absurd (cc)
given-of before all own place reply.NoSuchCache cause none memory = absurd (cc)
given-of before all own place told cause none memory = absurd cause

-- every event of such a round is worker 0's
pub own-all : (cpu : ℕ) (acts : List Act) (replies : List Reply) → of_worker 0 (answers_of cpu acts replies) ≡ answers_of cpu acts replies
own-all cpu [] replies = refl
own-all cpu (act ∷ acts) [] = refl
own-all cpu (act ∷ acts) (told ∷ replies) = ap (λ (l : List Answered). (event_of cpu act, told) ∷ l) (own-all cpu acts replies)

-- none is refused: all are given
given-all : (before : State) (all own : List Answered) (cpu place : ℕ) (numbers : List ℕ) (replies : List Reply) → of_worker 0 all ≡ own ++ answers_of cpu (allocs_of place numbers) replies → HaveCauses before all
    → length replies ≡ length numbers → first_refusal replies ≡ None → All (λ told. is_no_memory told ≡ false) replies → All (λ told. is_given told ≡ true) replies
given-all before all own cpu place [] [] split causes even none memory = All-nil (λ told. is_given told ≡ true)
given-all before all own cpu place [] (told ∷ replies) split causes even none memory = absurd (let never : ⊥ = omega arith in never)
given-all before all own cpu place (number ∷ numbers) [] split causes even none memory = absurd (let never : ⊥ = omega arith in never)
given-all before all own cpu place (number ∷ numbers) (told ∷ replies) split causes even none memory =
    by (refusal_of told) refl (λ rest. given-all before all (own ++ (event_of cpu (Alloc place number), told) ∷ []) cpu place numbers replies (split ∙ sym (append_assoc own ((event_of cpu (Alloc place number), told) ∷ []) (answers_of cpu (allocs_of place numbers) replies))) causes (omega arith) rest (All-tail (λ told. is_no_memory told ≡ false) told replies memory))
  where
    by : (x : Option CacheRefusal) → refusal_of told ≡ x → (first_refusal replies ≡ None → All (λ told. is_given told ≡ true) replies) → All (λ told. is_given told ≡ true) (told ∷ replies)
    by None is rest_of =
        let rest : first_refusal replies ≡ None = sym (ap (λ x. slice_get (cons_option x (filter_map refusal_of replies)) 0) is) ∙ none in
        All-cons (λ told. is_given told ≡ true) told replies
        (given-of before all own place told (causes 0 own (event_of cpu (Alloc place number), told) (record { later = answers_of cpu (allocs_of place numbers) replies; split = split })) is (All-head (λ told. is_no_memory told ≡ false) told replies memory))
        (rest_of rest)
    by (Some why) is rest_of = absurd (let never : Some why ≡ None = sym (ap (λ x. slice_get (cons_option x (filter_map refusal_of replies)) 0) is) ∙ none in cc)

pub all_given : (s : State) (cpu place : ℕ) (numbers : List ℕ) (result : RoundResult) (after : State) → IsRound s (round_of cpu (allocs_of place numbers)) result after
    → first_refusal result.replies ≡ None → All (λ told. is_no_memory told ≡ false) result.replies → All (λ told. is_given told ≡ true) result.replies
all_given s cpu place numbers result after law none memory =
    given-all s (answers_of cpu (allocs_of place numbers) result.replies) [] cpu place numbers result.replies (own-all cpu (allocs_of place numbers) result.replies) law.causes (omega (arith, law.replies, allocs-long cpu place numbers)) none memory

-- ---- the board

-- a number that isn't freed stays
pub stays_there : (s : State) (cpu : ℕ) (acts : List Act) (result : RoundResult) (after : State) (object : ℕ) → IsRound s (round_of cpu acts) result after
    → times_freed object (answers_of cpu acts result.replies) ≡ 0 → IsSome (held_under s object) → IsSome (held_under after object)
stays_there s cpu acts result after object law none some = (law.board.numbers object).1 (inl some, none)

-- ---- all or nothing

-- what was on the board isn't among numbers that were not
apart : (s : State) (numbers : List ℕ) (object : ℕ) → All (IsUnheld s) numbers → IsSome (held_under s object) → times object numbers ≡ 0
apart s numbers object unheld some = times-absent object numbers (λ mine. held-or-none s object some (All-contains (IsUnheld s) numbers object unheld mine))

-- a second round was made
pub again_made : (h : HeapState) (cpu : ℕ) (numbers : List ℕ) (first second : ClientRound) (rounds : List ClientRound) (after : HeapState) → eqb (length numbers) 0 ≡ false
    → DoesAsked h cpu (frees_of numbers) second after → rounds ≡ first ∷ second ∷ [] → FreesAgain h cpu numbers first rounds after
again_made h cpu [] first second rounds after some done is = absurd (let never : true ≡ false = some in cc)
again_made h cpu (number ∷ numbers) first second rounds after some done is = (second, done, is)

pub some_there : (numbers : List ℕ) → eqb (length numbers) 0 ≡ false → numbers ≢ []
some_there [] some = absurd (let never : true ≡ false = some in cc)
some_there (number ∷ numbers) some = λ is. (let long = ap (λ (l : List ℕ). length l) is in let never : ⊥ = omega (arith, long) in never)

-- none was
pub none_made : (h : HeapState) (cpu : ℕ) (numbers : List ℕ) (first : ClientRound) (rounds : List ClientRound) → eqb (length numbers) 0 ≡ true → rounds ≡ first ∷ [] → FreesAgain h cpu numbers first rounds h
none_made h cpu [] first rounds none is = (is, refl)
none_made h cpu (number ∷ numbers) first rounds none is = absurd (let same : length (number ∷ numbers) ≡ 0 = grind (arith, none) in let never : ⊥ = omega (arith, same) in never)

-- all were on the board, and are freed in the order of a bulk free
pub in_order_made : (h : HeapState) (cpu : ℕ) (numbers asked order : List ℕ) (done : ClientDone) (after : HeapState) → asked ≡ numbers → order ≡ free_order (places_under h.lists numbers) → None ≡ first_unheld h.lists asked
    → FreesInOrder h cpu order done after → ServesBulkFree h cpu numbers done after
in_order_made h cpu numbers asked order done after same is none freed =
    let all : first_unheld h.lists numbers ≡ None = sym (ap (first_unheld h.lists) same) ∙ sym none in
    subst (λ (x : Option ℕ). MatchOption x (FreesInOrder h cpu (free_order (places_under h.lists numbers)) done after) (λ number. AnswersAtOnce h (answer.NotHeldOf number) done after)) (sym all)
    (subst (λ (l : List ℕ). FreesInOrder h cpu l done after) is freed)

-- ---- numbers that are asked of a heap

pub may_take : (h : HeapState) (trace : Trace) (cpu place : ℕ) (numbers : List ℕ) → IsOpenTo h trace (length numbers) → cpu < h.lists.cpus → place < length h.lists.table.kept
    → All (IsNumber h) numbers → All (IsUnheld h.lists) numbers → IsDistinct nat_eq numbers → MayTake h trace cpu place numbers
may_take h trace cpu place numbers heap on_cpu of_name known unheld distinct = record {
  heap = heap;
  on_cpu = omega (arith, on_cpu, heap.cpus);
  of_name = omega (arith, of_name, ap (λ (l : List (List ℕ)). length l) heap.names);
  known = known;
  unheld = unheld;
  distinct = distinct;
}

-- one number may be asked
pub one_may : (h : HeapState) (trace : Trace) (cpu place object : ℕ) → IsOpenTo h trace 1 → cpu < trace.cpus → place < length trace.names → IsNumber h object → IsUnheld h.lists object → MayTake h trace cpu place (object ∷ [])
one_may h trace cpu place object heap on_cpu of_name known unheld = record {
  heap = heap;
  on_cpu = on_cpu;
  of_name = of_name;
  known = All-cons (IsNumber h) object [] known (All-nil (IsNumber h));
  unheld = All-cons (IsUnheld h.lists) object [] unheld (All-nil (IsUnheld h.lists));
  distinct = one-differs object;
}

pub one_take : (h : HeapState) (trace : Trace) (cpu place object : ℕ) → IsOpenTo h trace 1 → cpu < h.lists.cpus → place < length h.lists.table.kept → IsNumber h object → IsUnheld h.lists object → MayTake h trace cpu place (object ∷ [])
one_take h trace cpu place object heap on_cpu of_name known unheld =
    one_may h trace cpu place object heap (omega (arith, on_cpu, heap.cpus)) (omega (arith, of_name, ap (λ (l : List (List ℕ)). length l) heap.names)) known unheld

pub allocs_may : (h : HeapState) (trace : Trace) (cpu place : ℕ) (numbers : List ℕ) → MayTake h trace cpu place numbers → MayDo h.lists trace (round_of cpu (allocs_of place numbers))
allocs_may h trace cpu place numbers may = allocations-may h trace cpu place numbers may.heap may.on_cpu may.of_name may.known may.unheld may.distinct

-- what replies gave of them is no more than can be freed in a round
pub few_given : (h : HeapState) (trace : Trace) (cpu place : ℕ) (numbers : List ℕ) (replies : List Reply) → MayTake h trace cpu place numbers → length (replied is_given numbers replies) ≤ 2 ^ 32
few_given h trace cpu place numbers replies may =
    omega (arith, replied_long is_given numbers replies, (allocs_may h trace cpu place numbers may).few, allocs-long cpu place numbers)

-- frees that may be done before a round of allocations may be done after it
pub frees-follow : (h : HeapState) (trace : Trace) (cpu place : ℕ) (numbers freed : List ℕ) (first : RoundResult) (mid : State) → IsOpenTo h trace (length numbers) → MayDo h.lists trace (round_of cpu (allocs_of place numbers))
    → MayDo h.lists trace (round_of cpu (frees_of freed)) → IsRound h.lists (round_of cpu (allocs_of place numbers)) first mid → MayDo mid trace (round_of cpu (frees_of freed))
frees-follow h trace cpu place numbers freed first mid is_open may before law = leads-on h.lists trace (round_of cpu (allocs_of place numbers)) (round_of cpu (frees_of freed)) first mid may follow law
  where
    none : (P : ℕ → Type 0) → All P (objects_of (round_of cpu (frees_of freed)).events)
    none P = subst (All P) (sym (frees-objects cpu freed)) (All-nil P)

    follow : MayFollow h.lists trace (round_of cpu (allocs_of place numbers)) (round_of cpu (frees_of freed))
    follow = record {
      sound = before.sound;
      unheld = none (λ object. held_under h.lists object ≡ None);
      new = none (λ object. ¬ Contains (objects_of (round_of cpu (allocs_of place numbers)).events) object);
      distinct = subst (IsDistinct nat_eq) (sym (frees-objects cpu freed)) none-differ;
      few = before.few;
      dry = λ order. omega (arith, is_open.dry order, allocs-long cpu place numbers);
    }

-- the round that asks them
module _ (lawful : RoundsByTextAreLawful) (h : HeapState) (trace : Trace) (cpu place : ℕ) (numbers : List ℕ) (may : MayTake h trace cpu place numbers) where
  module _ (first : ClientRound) (mid : HeapState) (done : DoesAsked h cpu (allocs_of place numbers) first mid) where
    abbrev given : List ℕ
    given = replied is_given numbers first.result.replies

    pub allocs_lawful : IsRound h.lists (round_of cpu (allocs_of place numbers)) first.result mid.lists
    allocs_lawful = asked_lawful h trace cpu (allocs_of place numbers) first mid lawful may.heap.sound.coherent may.heap.rest (allocs_may h trace cpu place numbers may) done

    -- what was given can be freed, before
    frees_before : MayDo h.lists trace (round_of cpu (frees_of given))
    frees_before =
        frees-may h trace cpu given (open-fewer h trace (length numbers) 0 (omega arith) may.heap) may.on_cpu (few_given h trace cpu place numbers first.result.replies may)
        (replied_all (IsNumber h) is_given numbers first.result.replies may.known)

    -- and after the round
    pub frees_may : MayDo mid.lists trace (round_of cpu (frees_of given))
    frees_may = frees-follow h trace cpu place numbers given first.result mid.lists may.heap (allocs_may h trace cpu place numbers may) frees_before allocs_lawful

    pub frees_lawful : (second : ClientRound) (after : HeapState) → DoesAsked mid cpu (frees_of given) second after → IsRound mid.lists (round_of cpu (frees_of given)) second.result after.lists
    frees_lawful second after again = asked_lawful mid trace cpu (frees_of given) second after lawful done.coherent allocs_lawful.rest frees_may again

    -- numbers that are freed again leave the others
    again_stay : (rounds : List ClientRound) (after : HeapState) (object : ℕ) → FreesAgain mid cpu given first rounds after → times object given ≡ 0 → IsSome (held_under mid.lists object) → IsSome (held_under after.lists object)
    again_stay rounds after object again none some = by given refl again
      where
        by : (again_numbers : List ℕ) → given ≡ again_numbers → FreesAgain mid cpu again_numbers first rounds after → IsSome (held_under after.lists object)
        by [] is again = rw again.1 some
        by (number ∷ more) is again =
            let second : DoesAsked mid cpu (frees_of given) again.0 after = subst (λ (l : List ℕ). DoesAsked mid cpu (frees_of l) again.0 after) (sym is) again.1 in
            stays_there mid.lists cpu (frees_of given) again.0.result after.lists object (frees_lawful again.0 after second) (omega (arith, none, frees_few object cpu given again.0.result.replies)) some

  -- what was on the board stays
  pub takes_stay : (refusal : Option CacheRefusal) (rounds : List ClientRound) (after : HeapState) → TakesAll h cpu place numbers refusal rounds after
      → (object : ℕ) → IsSome (held_under h.lists object) → IsSome (held_under after.lists object)
  takes_stay refusal rounds after takes object some = by refusal takes.4
    where
      mid : IsSome (held_under takes.1.lists object)
      mid = stays_there h.lists cpu (allocs_of place numbers) takes.0.result takes.1.lists object (allocs_lawful takes.0 takes.1 takes.2) (allocs_free_none object cpu place numbers takes.0.result.replies) some

      by : (x : Option CacheRefusal) → MatchOption x ((rounds ≡ takes.0 ∷ []) × (after ≡ takes.1)) (λ why. FreesAgain takes.1 cpu (replied is_given numbers takes.0.result.replies) takes.0 rounds after) → IsSome (held_under after.lists object)
      by None told = rw told.1 mid
      by (Some why) again =
          again_stay takes.0 takes.1 takes.2 rounds after object again
          (apart h.lists (replied is_given numbers takes.0.result.replies) object (replied_all (IsUnheld h.lists) is_given numbers takes.0.result.replies may.unheld) some) mid

  -- where none was refused each number is given as often as it is asked
  pub takes_often : (rounds : List ClientRound) (after : HeapState) (takes : TakesAll h cpu place numbers None rounds after) (object : ℕ)
      → times_given object (answers_of cpu (allocs_of place numbers) takes.0.result.replies) ≡ times object numbers
  takes_often rounds after takes object =
      let law = allocs_lawful takes.0 takes.1 takes.2 in
      let given = all_given h.lists cpu place numbers takes.0.result takes.1.lists law (sym takes.3) takes.2.memory in
      allocs_give_all object cpu place numbers takes.0.result.replies (omega (arith, law.replies, allocs-long cpu place numbers)) given

  -- and comes
  pub takes_come : (rounds : List ClientRound) (after : HeapState) → TakesAll h cpu place numbers None rounds after → (object : ℕ) → 0 < times object numbers → IsSome (held_under after.lists object)
  takes_come rounds after takes object some =
      let law = allocs_lawful takes.0 takes.1 takes.2 in
      rw takes.4.1 ((law.board.numbers object).1 (inr (omega (arith, some, takes_often rounds after takes object)), allocs_free_none object cpu place numbers takes.0.result.replies))

-- the object of one more number comes or not, and each other one stays
pub one_stays : (s : State) (cpu place number : ℕ) (result : RoundResult) (after : State) → IsRound s (round_of cpu (Alloc place number ∷ [])) result after
    → (object : ℕ) → IsSome (held_under s object) → IsSome (held_under after object)
one_stays s cpu place number result after law object some =
    stays_there s cpu (Alloc place number ∷ []) result after object law (allocs_free_none object cpu place (number ∷ []) result.replies) some

-- one is freed, and each other one stays
pub others_stay : (s : State) (cpu number : ℕ) (result : RoundResult) (after : State) → IsRound s (round_of cpu (Free number ∷ [])) result after
    → (object : ℕ) → object ≢ number → IsSome (held_under s object) → IsSome (held_under after object)
others_stay s cpu number result after law object differ some =
    let none : times object (number ∷ []) ≡ 0 = times-cons_other object number [] (λ same. differ (sym same)) in
    stays_there s cpu (Free number ∷ []) result after object law (omega (arith, none, frees_few object cpu (number ∷ []) result.replies)) some
