-- The board after a bulk line.
use Rattle.std.proofs.Common.{◌≡◌, ℕ, zero, suc, ◌+◌, ◌*◌, ◌^◌, ◌<◌, ◌≤◌, cond, Bool, true, false, ◌&&◌, eqb, is_none, List, [], ◌∷◌, length, get_or, filter, refl, sym, ◌∙◌, ap, subst, All, arith, Option, Some, None, IsSome, IfSome, inl, inr, ◌⊎◌}
use Rattle.std.specs.List.{Contains, filter_map, range_with_len}
use Rattle.std.specs.Prelude.{count_by, slice_get}
use Rattle.std.proofs.lemmas.List.FromFn.{length-range_with_len}
use Rattle.std.proofs.lemmas.List.Sums.{sum_by-cons}
use Rattle.std.proofs.lemmas.List.Elements.{All-cons, All-contains, All-head, All-nil, All-tail, Contains-get_or}
use Rattle.slub_trace.specs.declared.event.Act.TheVariants.{Alloc, Free}
use Rattle.slub_object_layout.specs.Layout.{address_of}
use Rattle.slub_trace.specs.declared.reply.Reply.{Reply}
use Rattle.slub_trace.specs.Kinds.{is_freed, is_given}
use Rattle.slub_common.specs.Times.{times}
use Rattle.slub_common.proofs.Lists.{from_range_with_len}
use Rattle.slub_common.proofs.Times.{Contains-times, times-absent, times-cons, times-contained}
use Rattle.slub_lists.specs.declared.lists.Held.{Held}
use Rattle.slub_lists.specs.State.{State}
use Rattle.slub_lists.specs.Alloc.{HasLayout, IsLive}
use Rattle.slub_lists.specs.Coherent.{IsCoherent, held_under}
use Rattle.slub_lists.specs.Laws.{HasByte}
use Rattle.slub_lists.specs.Places.{layout_at}
use Rattle.slub_lists.proofs.Apart.{held-apart}
use Rattle.slub_lists.proofs.CheckedGiving.{layout-live}
use Rattle.slub_lists.proofs.CheckedSlabs.{at_some}
use Rattle.slub_lists.proofs.CheckedTaking.{held-slab}
use Rattle.slub_lists.proofs.Kept.{consistent-of}
use Rattle.slub_lists.proofs.Places.{layout-of}
use Rattle.slub_trace.specs.declared.trace.Trace.{Trace}
use Rattle.slub_calls.specs.Laws.{MayDo}
use Rattle.slub_slabinfo_text.specs.declared.client.CacheRefusal.{CacheRefusal}
use Rattle.slub_slabinfo_text.specs.declared.client.ClientDone.{ClientDone}
use Rattle.slub_slabinfo_text.specs.declared.client.ClientAnswer.TheVariants as answer
use Rattle.slub_slabinfo_text.specs.declared.client.ClientRound.{ClientRound}
use Rattle.slub_slabinfo_text.specs.Asked.{event_of, frees_of, round_of}
use Rattle.slub_slabinfo_text.specs.Bulk.{free_order}
use Rattle.slub_slabinfo_text.specs.Lawful.{DoesRound, IsUnheld, freed_in, given_in}
use Rattle.slub_law_rounds.specs.Answered.{Answered, did_free, gave, times_freed, times_given}
use Rattle.slub_law_rounds.specs.Round.{IsRound, NamesChecked}
use Rattle.slub_law_rounds.proofs.Steps.{match_either}
use Rattle.slub_law_rounds.proofs.Times.{once_times}
use Rattle.slub_rounds.specs.Heap.{HeapState}
use Rattle.slub_rounds.specs.TextLaws.{RoundsByTextAreLawful}
use Rattle.slub_rounds.specs.Asked.{AnswersAtOnce, DoesAsked, IsOpenTo}
use Rattle.slub_rounds.specs.BulkLines.{AddsNumbers, DropsNumbers, FreesAgain, FreesInOrder, IsEven, LeavesBulk, LeavesBulkFree, ServesBulk, ServesBulkFree, TakesAll, address_under, allocs_of, bulk_answer, first_unheld, freed_by, freed_number, places_under, replied}
use Rattle.slub_rounds.proofs.Allowed.{allocs-long, frees-long, frees-may}
use Rattle.slub_rounds.proofs.Chosen.{replied_all, replied_long}
use Rattle.slub_bulk.specs.Taking.{IdsLastFor, MayTake}
use Rattle.slub_bulk.proofs.Boards.{allocs_free_none, allocs_lawful, answers_of, asked_lawful, frees_give_none, frees_lawful, replies_even, stays_there, takes_come, takes_often, takes_stay}
use Rattle.slub_bulk.proofs.Bulking.{order_known, order_long, range_known}
use Rattle.slub_bulk.proofs.Even.{ledger-freed, ledger-given, none-given, replied-all, replied-few, replied-none}
use Rattle.slub_bulk.proofs.Lasting.{lasts-on}
use Rattle.slub_bulk.proofs.Plain.{IsPlain, allocs-unfreed, frees-plain, given-plain}
use Rattle.slub_bulk.proofs.Undamaged.{IsFreed, IsUndamaged, frees-all, given-whole-all, laid-whole}

-- ---- on the board or not

pub nobody : (x : Option Held) → (IsSome x → ⊥) → x ≡ None
nobody None never = refl
nobody (Some held) never = absurd (never refl)

pub not-some : (x : Option Held) → x ≡ None → IsSome x → ⊥
not-some None none some = absurd (cc)
not-some (Some held) none some = absurd (cc)

pub is-there : (x : Option Held) (held : Held) → x ≡ Some held → IsSome x
is-there x held is = rw is refl

pub either-way : (s after : State) (object : ℕ) → IfSome (held_under s object) (λ held. (held_under after object ≡ Some held) ⊎ (held_under after object ≡ None)) → IsSome (held_under s object) → IsSome (held_under after object)
    → held_under after object ≡ held_under s object
either-way s after object stays some now = by (held_under s object) refl some
  where
    by : (x : Option Held) → held_under s object ≡ x → IsSome x → held_under after object ≡ held_under s object
    by None is some = absurd (cc)
    by (Some held) is some = elim (at_some (held_under s object) held (λ held. (held_under after object ≡ Some held) ⊎ (held_under after object ≡ None)) is stays) [
      | inl there ↦ there ∙ sym is
      | inr none ↦ absurd (not-some (held_under after object) none now)
    ]

-- ---- addresses

-- the object of a number has a byte at its address
own-byte : (s : State) (object : ℕ) (held : Held) → IsCoherent s → held_under s object ≡ Some held → HasByte s object (address_of held.frame held.index (layout_at s held.cache))
own-byte s object held coherent there =
    let consistent = consistent-of s coherent in
    let slab = held-slab s object held there consistent in
    let has : HasLayout s held.cache (layout_at s held.cache) = subst (λ c. HasLayout s c (layout_at s c)) slab.2 (layout-of s held.frame slab.0 consistent slab.1) in
    let live : IsLive (layout_at s held.cache) = layout-live s held.cache (layout_at s held.cache) has consistent.shaped in
    let within = live.1.made in
    record {
      held = held;
      layout = layout_at s held.cache;
      names = record { here = there; live = has };
      inside = record { from = omega arith; below = omega (arith, within.object_size.0, within.inuse.0, within.inuse.1) };
    }

apart : (s : State) (one other : ℕ) → IsCoherent s → IsSome (held_under s one) → IsSome (held_under s other) → address_under s one ≡ address_under s other → one ≡ other
apart s one other coherent here there same = by (held_under s one) (held_under s other) refl refl here there
  where
    by : (x y : Option Held) → held_under s one ≡ x → held_under s other ≡ y → IsSome x → IsSome y → one ≡ other
    by None y is also here there = absurd (cc)
    by (Some a) None is also here there = absurd (cc)
    by (Some a) (Some b) is also here there =
        let first : address_under s one ≡ address_of a.frame a.index (layout_at s a.cache) = rw is refl in
        let second : address_under s other ≡ address_of b.frame b.index (layout_at s b.cache) = rw also refl in
        held-apart s one other (address_of a.frame a.index (layout_at s a.cache)) coherent (own-byte s one a coherent is)
        (subst (HasByte s other) (sym second ∙ sym same ∙ first) (own-byte s other b coherent also))

-- ---- all were given

pub adds : (lawful : RoundsByTextAreLawful) (h : HeapState) (trace : Trace) (cpu place : ℕ) (numbers : List ℕ) (rounds : List ClientRound) (after : HeapState) → MayTake h trace cpu place numbers
    → TakesAll h cpu place numbers None rounds after → AddsNumbers h.lists numbers after.lists
adds lawful h trace cpu place numbers rounds after may takes = record {
  stay = λ object some. either-way h.lists after.lists object (subst (λ (t : State). IfSome (held_under h.lists object) (λ held. (held_under t object ≡ Some held) ⊎ (held_under t object ≡ None))) same (law.board.stays object)) some (takes_stay lawful h trace cpu place numbers may None rounds after takes object some);
  come = λ object none. (λ some. to object none some, λ mine. come object mine);
  apart = λ one other mine also same. apart after.lists one other (rw takes.4.1 takes.2.coherent) (come one mine) (come other also) same;
}
  where
    law : IsRound h.lists (round_of cpu (allocs_of place numbers)) takes.0.result takes.1.lists
    law = allocs_lawful lawful h trace cpu place numbers may takes.0 takes.1 takes.2

    same : takes.1.lists ≡ after.lists
    same = ap (λ (t : HeapState). t.lists) (sym takes.4.1)

    come : (object : ℕ) → Contains numbers object → IsSome (held_under after.lists object)
    come object mine = takes_come lawful h trace cpu place numbers may rounds after takes object (times-contained object numbers mine)

    to : (object : ℕ) → held_under h.lists object ≡ None → IsSome (held_under after.lists object) → Contains numbers object
    to object none some = elim ((law.board.numbers object).0 (rw same some)).0 [
      | inl before ↦ absurd (not-some (held_under h.lists object) none before)
      | inr given ↦ Contains-times object numbers (omega (arith, given, takes_often lawful h trace cpu place numbers may rounds after takes object))
    ]

-- ---- what a bulk free frees

asked-numbers : (cpu : ℕ) (numbers : List ℕ) → filter_map freed_number (round_of cpu (frees_of numbers)).events ≡ numbers
asked-numbers cpu [] = refl
asked-numbers cpu (number ∷ numbers) = ap (λ (rest : List ℕ). number ∷ rest) (asked-numbers cpu numbers)

freed-often : (object cpu : ℕ) (numbers : List ℕ) (replies : List Reply) → times_freed object (answers_of cpu (frees_of numbers) replies) ≡ times object (replied is_freed numbers replies)
freed-often object cpu [] replies = refl
freed-often object cpu (number ∷ numbers) [] = refl
freed-often object cpu (number ∷ numbers) (told ∷ replies) =
    by (is_freed told) refl (freed-often object cpu numbers replies) (sum_by-cons (λ (one : Answered). cond (did_free object one) 1 0) (event_of cpu (Free number), told) (answers_of cpu (frees_of numbers) replies))
  where
    by : (b : Bool) → is_freed told ≡ b → times_freed object (answers_of cpu (frees_of numbers) replies) ≡ times object (replied is_freed numbers replies)
        → times_freed object (answers_of cpu (frees_of (number ∷ numbers)) (told ∷ replies)) ≡ cond (eqb number object && is_freed told) 1 0 + times_freed object (answers_of cpu (frees_of numbers) replies)
        → times_freed object (answers_of cpu (frees_of (number ∷ numbers)) (told ∷ replies)) ≡ times object (replied is_freed (number ∷ numbers) (told ∷ replies))
    by true is rest split = rw is (rw is at split ∙ both (eqb number object) rest ∙ sym (times-cons object number (replied is_freed numbers replies)))
      where
        both : (b : Bool) → times_freed object (answers_of cpu (frees_of numbers) replies) ≡ times object (replied is_freed numbers replies)
            → cond (b && true) 1 0 + times_freed object (answers_of cpu (frees_of numbers) replies) ≡ cond b 1 0 + times object (replied is_freed numbers replies)
        both true rest = omega (arith, rest)
        both false rest = omega (arith, rest)
    by false is rest split = rw is (rw is at split ∙ none (eqb number object) rest)
      where
        none : (b : Bool) → times_freed object (answers_of cpu (frees_of numbers) replies) ≡ times object (replied is_freed numbers replies)
            → cond (b && false) 1 0 + times_freed object (answers_of cpu (frees_of numbers) replies) ≡ times object (replied is_freed numbers replies)
        none true rest = omega (arith, rest)
        none false rest = omega (arith, rest)

freed-count : (numbers : List ℕ) (replies : List Reply) → length replies ≡ length numbers → count_by is_freed replies ≡ length (replied is_freed numbers replies)
freed-count [] [] even = refl
freed-count [] (told ∷ replies) even = absurd (let never : ⊥ = omega arith in never)
freed-count (number ∷ numbers) [] even = absurd (let never : ⊥ = omega arith in never)
freed-count (number ∷ numbers) (told ∷ replies) even =
    by (is_freed told) refl (freed-count numbers replies (omega arith)) (sum_by-cons (λ (one : Reply). cond (is_freed one) 1 0) told replies)
  where
    by : (b : Bool) → is_freed told ≡ b → count_by is_freed replies ≡ length (replied is_freed numbers replies) → count_by is_freed (told ∷ replies) ≡ cond (is_freed told) 1 0 + count_by is_freed replies
        → count_by is_freed (told ∷ replies) ≡ length (replied is_freed (number ∷ numbers) (told ∷ replies))
    by true is rest split = rw is (let here = rw is at split in omega (arith, here, rest))
    by false is rest split = rw is (let here = rw is at split in omega (arith, here, rest))

-- a round of frees drops what it freed
pub drops : (s : State) (cpu : ℕ) (numbers : List ℕ) (round : ClientRound) (after : State) → IsRound s (round_of cpu (frees_of numbers)) round.result after → DropsNumbers s (replied is_freed numbers round.result.replies) after
drops s cpu numbers round after law = record { go = go; stay = stay }
  where
    often : (object : ℕ) → times_freed object (answers_of cpu (frees_of numbers) round.result.replies) ≡ times object (replied is_freed numbers round.result.replies)
    often object = freed-often object cpu numbers round.result.replies

    go : (object : ℕ) → Contains (replied is_freed numbers round.result.replies) object → held_under after object ≡ None
    go object mine = nobody (held_under after object) (λ some.
        let none : times_freed object (answers_of cpu (frees_of numbers) round.result.replies) ≡ 0 = ((law.board.numbers object).0 some).1 in
        let never : ⊥ = omega (arith, none, often object, times-contained object (replied is_freed numbers round.result.replies) mine) in never)

    stay : (object : ℕ) → (¬ Contains (replied is_freed numbers round.result.replies) object) → held_under after object ≡ held_under s object
    stay object out = by (held_under s object) refl
      where
        none : times_freed object (answers_of cpu (frees_of numbers) round.result.replies) ≡ 0
        none = often object ∙ times-absent object (replied is_freed numbers round.result.replies) out

        by : (x : Option Held) → held_under s object ≡ x → held_under after object ≡ held_under s object
        by None is = nobody (held_under after object) (λ some. elim ((law.board.numbers object).0 some).0 [
          | inl before ↦ absurd (not-some (held_under s object) is before)
          | inr given ↦ absurd (let never : ⊥ = omega (arith, given, frees_give_none object cpu numbers round.result.replies) in never)
        ]) ∙ sym is
        by (Some held) is = either-way s after object (law.board.stays object) (is-there (held_under s object) held is) ((law.board.numbers object).1 (inl (is-there (held_under s object) held is), none))

-- ---- none was

pub given-often : (object cpu place : ℕ) (numbers : List ℕ) (replies : List Reply) → times_given object (answers_of cpu (allocs_of place numbers) replies) ≡ times object (replied is_given numbers replies)
given-often object cpu place [] replies = refl
given-often object cpu place (number ∷ numbers) [] = refl
given-often object cpu place (number ∷ numbers) (told ∷ replies) =
    by (is_given told) refl (given-often object cpu place numbers replies) (sum_by-cons (λ (one : Answered). cond (gave object one) 1 0) (event_of cpu (Alloc place number), told) (answers_of cpu (allocs_of place numbers) replies))
  where
    by : (b : Bool) → is_given told ≡ b → times_given object (answers_of cpu (allocs_of place numbers) replies) ≡ times object (replied is_given numbers replies)
        → times_given object (answers_of cpu (allocs_of place (number ∷ numbers)) (told ∷ replies)) ≡ cond (eqb number object && is_given told) 1 0 + times_given object (answers_of cpu (allocs_of place numbers) replies)
        → times_given object (answers_of cpu (allocs_of place (number ∷ numbers)) (told ∷ replies)) ≡ times object (replied is_given (number ∷ numbers) (told ∷ replies))
    by true is rest split = rw is (rw is at split ∙ both (eqb number object) rest ∙ sym (times-cons object number (replied is_given numbers replies)))
      where
        both : (b : Bool) → times_given object (answers_of cpu (allocs_of place numbers) replies) ≡ times object (replied is_given numbers replies)
            → cond (b && true) 1 0 + times_given object (answers_of cpu (allocs_of place numbers) replies) ≡ cond b 1 0 + times object (replied is_given numbers replies)
        both true rest = omega (arith, rest)
        both false rest = omega (arith, rest)
    by false is rest split = rw is (rw is at split ∙ nothing (eqb number object) rest)
      where
        nothing : (b : Bool) → times_given object (answers_of cpu (allocs_of place numbers) replies) ≡ times object (replied is_given numbers replies)
            → cond (b && false) 1 0 + times_given object (answers_of cpu (allocs_of place numbers) replies) ≡ times object (replied is_given numbers replies)
        nothing true rest = omega (arith, rest)
        nothing false rest = omega (arith, rest)

-- the cache isn't checked, or both rounds of a bulk are done on the lists
abbrev IsPlainOrLasts : HeapState → ℕ → List ℕ → Type 0
IsPlainOrLasts h place numbers = (¬ NamesChecked h.lists place) ⊎ IdsLastFor h (2 * length numbers)

module _ (lawful : RoundsByTextAreLawful) (h : HeapState) (trace : Trace) (cpu place : ℕ) (numbers : List ℕ) (may : MayTake h trace cpu place numbers) (first : ClientRound) (mid : HeapState)
    (does : DoesAsked h cpu (allocs_of place numbers) first mid) where
  abbrev given : List ℕ
  given = replied is_given numbers first.result.replies

  law : IsRound h.lists (round_of cpu (allocs_of place numbers)) first.result mid.lists
  law = allocs_lawful lawful h trace cpu place numbers may first mid does

  no_free : (object : ℕ) → times_freed object (answers_of cpu (allocs_of place numbers) first.result.replies) ≡ 0
  no_free object = allocs_free_none object cpu place numbers first.result.replies

  often : (object : ℕ) → times_given object (answers_of cpu (allocs_of place numbers) first.result.replies) ≡ times object given
  often object = given-often object cpu place numbers first.result.replies

  once : (x : ℕ) → times x given ≤ 1
  once x = omega (arith, once_times x numbers may.distinct, replied-few is_given x numbers first.result.replies)

  -- what was given is there
  given-there : (number : ℕ) → 0 < times number given → IsSome (held_under mid.lists number)
  given-there number some = (law.board.numbers number).1 (inr (omega (arith, some, often number)), no_free number)

  -- after a round on the lists it is undamaged
  module _ (on : DoesRound h.lists (round_of cpu (allocs_of place numbers)) first.result mid.lists) where
    each-freed : (number : ℕ) → 0 < times number given → IsUndamaged on.last number → IsFreed mid.lists number
    each-freed number some whole = by (held_under mid.lists number) refl (given-there number some)
      where
        by : (x : Option Held) → held_under mid.lists number ≡ x → IsSome (held_under mid.lists number) → IsFreed mid.lists number
        by None is there = absurd (not-some (held_under mid.lists number) is there)
        by (Some held) is there = record {
          held = held;
          there = is;
          laid = at_some (held_under mid.lists number) held (λ held. held.worker ≡ None) is (law.rest.laid_down number);
          whole = laid-whole on.last mid.lists number on.after_is whole;
        }

    all-freed : All (IsFreed mid.lists) given
    all-freed = by given (λ number some. some) (given-whole-all cpu place numbers h.lists first.result.replies on.last may.heap.sound.coherent (λ k d inside. (may.known k d inside).1) (λ x. once_times x numbers may.distinct) on.runs)
      where
        by : (some : List ℕ) → ((number : ℕ) → 0 < times number some → 0 < times number given) → All (IsUndamaged on.last) some → All (IsFreed mid.lists) some
        by [] among whole = All-nil (IsFreed mid.lists)
        by (number ∷ some) among whole =
            All-cons (IsFreed mid.lists) number some
            (each-freed number (among number (times-contained number (number ∷ some) (0, omega arith, refl))) (All-head (IsUndamaged on.last) number some whole))
            (by some (λ n there. among n (omega (arith, there, times-cons n number some))) (All-tail (IsUndamaged on.last) number some whole))

  -- and it is of no checked cache, where the cache isn't one
  all-plain : (¬ NamesChecked h.lists place) → All (IsPlain mid.lists) given
  all-plain plain = λ k d inside.
      let number = get_or given k d in
      let mine : Contains given number = Contains-get_or given k d inside in
      record {
        there = given-there number (times-contained number given mine);
        plain = given-plain h.lists cpu place numbers first.result mid.lists number may.heap.sound.coherent law plain
            (All-contains (IsUnheld h.lists) given number (replied_all (IsUnheld h.lists) is_given numbers first.result.replies may.unheld) mine);
      }

  -- the board, where what was given is gone again
  board-back : (after : State) → DropsNumbers mid.lists given after → (object : ℕ) → held_under after object ≡ held_under h.lists object
  board-back after drop object = by-times (times object given) refl
    where
      absent : times object given ≡ 0 → ¬ Contains given object
      absent nothing mine = let some = times-contained object given mine in let never : ⊥ = omega (arith, some, nothing) in never

      back : times object given ≡ 0 → (x : Option Held) → held_under h.lists object ≡ x → held_under mid.lists object ≡ held_under h.lists object
      back nothing None is = nobody (held_under mid.lists object) (λ some. elim ((law.board.numbers object).0 some).0 [
        | inl before ↦ absurd (not-some (held_under h.lists object) is before)
        | inr came ↦ absurd (let never : ⊥ = omega (arith, came, often object, nothing) in never)
      ]) ∙ sym is
      back nothing (Some held) is =
          let there = is-there (held_under h.lists object) held is in
          either-way h.lists mid.lists object (law.board.stays object) there (stays_there h.lists cpu (allocs_of place numbers) first.result mid.lists object law (no_free object) there)

      by-times : (n : ℕ) → times object given ≡ n → held_under after object ≡ held_under h.lists object
      by-times zero nothing = drop.stay object (absent nothing) ∙ back nothing (held_under h.lists object) refl
      by-times (suc n) some =
          let mine = Contains-times object given (omega (arith, some)) in
          drop.go object mine ∙ sym (All-contains (IsUnheld h.lists) given object (replied_all (IsUnheld h.lists) is_given numbers first.result.replies may.unheld) mine)

  first-given : given_in first.result.ledgers ≡ length given
  first-given = ledger-given h.lists (Alloc place) cpu numbers first.result.replies first.result.ledgers law.ledgers

  first-freed : freed_in first.result.ledgers ≡ 0
  first-freed =
      ledger-freed h.lists (Alloc place) cpu numbers first.result.replies first.result.ledgers law.ledgers
      ∙ ap (λ (l : List ℕ). length l) (replied-none is_freed numbers first.result.replies (allocs-unfreed h.lists cpu place numbers first.result mid.lists law))

  -- what was given is freed again
  module _ (sure : IsPlainOrLasts h place numbers) (second : ClientRound) (after : HeapState) (again : DoesAsked mid cpu (frees_of given) second after) where
    law_again : IsRound mid.lists (round_of cpu (frees_of given)) second.result after.lists
    law_again = frees_lawful lawful h trace cpu place numbers may first mid does second after again

    all-told : All (λ told. is_freed told ≡ true) second.result.replies
    all-told = by sure
      where
        by : IsPlainOrLasts h place numbers → All (λ told. is_freed told ≡ true) second.result.replies
        by (inl plain) = frees-plain mid.lists cpu given second.result after.lists law_again once (all-plain plain)
        by (inr last) =
            let few : length (round_of cpu (frees_of given)).events + 0 ≤ length numbers = omega (arith, frees-long cpu given, replied_long is_given numbers first.result.replies) in
            let on = lasts-on h (round_of cpu (allocs_of place numbers)) first.result mid (2 * length numbers) (length numbers) may.heap.sound.coherent law.cpus (omega (arith, allocs-long cpu place numbers)) last does.does in
            let on_again = (lasts-on mid (round_of cpu (frees_of given)) second.result after (length numbers) 0 does.coherent law_again.cpus few on.1 again.does).0 in
            frees-all cpu given mid.lists second.result.replies on_again.last does.coherent (all-freed on.0) once on_again.runs

    back-all : replied is_freed given second.result.replies ≡ given
    back-all = replied-all is_freed given second.result.replies (replies_even mid.lists cpu given second.result after.lists law_again) all-told

    pub dropped : DropsNumbers mid.lists given after.lists
    dropped = subst (λ (l : List ℕ). DropsNumbers mid.lists l after.lists) back-all (drops mid.lists cpu given second after.lists law_again)

    second-freed : freed_in second.result.ledgers ≡ length given
    second-freed = ledger-freed mid.lists Free cpu given second.result.replies second.result.ledgers law_again.ledgers ∙ ap (λ (l : List ℕ). length l) back-all

    second-given : given_in second.result.ledgers ≡ 0
    second-given =
        ledger-given mid.lists Free cpu given second.result.replies second.result.ledgers law_again.ledgers
        ∙ ap (λ (l : List ℕ). length l) (replied-none is_given given second.result.replies (none-given second.result.replies all-told))

    pub even-two : IsEven (first ∷ second ∷ [])
    even-two =
        omega (
          arith,
          first-given,
          first-freed,
          second-given,
          second-freed,
          sum_by-cons (λ (round : ClientRound). given_in round.result.ledgers) first (second ∷ []),
          sum_by-cons (λ (round : ClientRound). given_in round.result.ledgers) second [],
          sum_by-cons (λ (round : ClientRound). freed_in round.result.ledgers) first (second ∷ []),
          sum_by-cons (λ (round : ClientRound). freed_in round.result.ledgers) second [],
        )

  -- or nothing was
  even-one : given ≡ [] → IsEven (first ∷ [])
  even-one nothing =
      omega (
        arith,
        first-given,
        first-freed,
        ap (λ (l : List ℕ). length l) nothing,
        sum_by-cons (λ (round : ClientRound). given_in round.result.ledgers) first [],
        sum_by-cons (λ (round : ClientRound). freed_in round.result.ledgers) first [],
      )

  pub back-again : IsPlainOrLasts h place numbers → (rounds : List ClientRound) (after : HeapState) → FreesAgain mid cpu given first rounds after → ((object : ℕ) → held_under after.lists object ≡ held_under h.lists object) × IsEven rounds
  back-again sure rounds after again = by given refl again
    where
      by : (again_numbers : List ℕ) → given ≡ again_numbers → FreesAgain mid cpu again_numbers first rounds after → ((object : ℕ) → held_under after.lists object ≡ held_under h.lists object) × IsEven rounds
      by [] nothing again =
          let drop : DropsNumbers mid.lists given after.lists = record {
            go = λ object mine. absurd (let some = times-contained object given mine in let never : ⊥ = omega (arith, some, ap (times object) nothing) in never);
            stay = λ object out. ap (λ (t : HeapState). held_under t.lists object) again.1;
          } in
          (board-back after.lists drop, subst IsEven (sym again.0) (even-one nothing))
      by (number ∷ more) are again =
          let does_again : DoesAsked mid cpu (frees_of given) again.0 after = subst (λ (l : List ℕ). DoesAsked mid cpu (frees_of l) again.0 after) (sym are) again.1 in
          (board-back after.lists (dropped sure again.0 after does_again), subst IsEven (sym again.2) (even-two sure again.0 after does_again))

none : (lawful : RoundsByTextAreLawful) (h : HeapState) (trace : Trace) (cpu place : ℕ) (numbers : List ℕ) (why : CacheRefusal) (rounds : List ClientRound) (after : HeapState) → MayTake h trace cpu place numbers → IsPlainOrLasts h place numbers
    → TakesAll h cpu place numbers (Some why) rounds after → ((object : ℕ) → held_under after.lists object ≡ held_under h.lists object) × IsEven rounds
none lawful h trace cpu place numbers why rounds after may sure takes = back-again lawful h trace cpu place numbers may takes.0 takes.1 takes.2 sure rounds after takes.4

-- ---- a bulk

pub bulks_add : (lawful : RoundsByTextAreLawful) (h : HeapState) (trace : Trace) (cpu place : ℕ) (numbers : List ℕ) (done : ClientDone) (after : HeapState) → MayTake h trace cpu place numbers
    → ServesBulk h cpu place numbers done after → done.answer ≡ answer.All → AddsNumbers h.lists numbers after.lists
bulks_add lawful h trace cpu place numbers done after may serves all = by serves.0 serves.1 serves.2
  where
    by : (refusal : Option CacheRefusal) → TakesAll h cpu place numbers refusal done.rounds after → done.answer ≡ bulk_answer refusal → AddsNumbers h.lists numbers after.lists
    by None takes is = adds lawful h trace cpu place numbers done.rounds after may takes
    by (Some why) takes is = absurd (let never : answer.All ≡ answer.Nothing why = sym all ∙ is in cc)

pub bulks : (lawful : RoundsByTextAreLawful) (h : HeapState) (trace : Trace) (cpu place : ℕ) (numbers : List ℕ) (done : ClientDone) (after : HeapState) → MayTake h trace cpu place numbers → IsPlainOrLasts h place numbers
    → ServesBulk h cpu place numbers done after → LeavesBulk h numbers done after done.answer
bulks lawful h trace cpu place numbers done after may sure serves = by serves.0 serves.1 serves.2
  where
    by : (refusal : Option CacheRefusal) → TakesAll h cpu place numbers refusal done.rounds after → done.answer ≡ bulk_answer refusal → LeavesBulk h numbers done after done.answer
    by None takes is = subst (LeavesBulk h numbers done after) (sym is) (adds lawful h trace cpu place numbers done.rounds after may takes)
    by (Some why) takes is = subst (LeavesBulk h numbers done after) (sym is) (none lawful h trace cpu place numbers why done.rounds after may sure takes)

-- ---- the least number that isn't on the board

record IsLeast (s : State) (numbers : List ℕ) (number : ℕ) : Type 0 where
  pub mine : Contains numbers number
  pub none : held_under s number ≡ None
  pub least : (other : ℕ) → Contains numbers other → held_under s other ≡ None → number ≤ other

is-nobody : (x : Option Held) → is_none x ≡ true → x ≡ None
is-nobody None is = refl
is-nobody (Some held) is = absurd (cc)

least-of : (s : State) (first count number : ℕ) → first_unheld s (range_with_len first count) ≡ Some number → IsLeast s (range_with_len first count) number
least-of s first zero number is = absurd (cc)
least-of s first (suc count) number is = by (is_none (held_under s first)) refl (λ rest. least-of s (first + 1) count number rest)
  where
    by : (b : Bool) → is_none (held_under s first) ≡ b → (first_unheld s (range_with_len (first + 1) count) ≡ Some number → IsLeast s (range_with_len (first + 1) count) number) → IsLeast s (range_with_len first (suc count)) number
    by true none later =
        let found : Some first ≡ Some number = sym (ap (λ b. slice_get (cond b (first ∷ filter (λ number. is_none (held_under s number)) (range_with_len (first + 1) count)) (filter (λ number. is_none (held_under s number)) (range_with_len (first + 1) count))) 0) none) ∙ is in
        let same : first ≡ number = cc in
        record {
          mine = (zero, omega arith, same);
          none = ap (held_under s) (sym same) ∙ is-nobody (held_under s first) none;
          least = λ other there bare. (let within = from_range_with_len first (suc count) other there in omega (arith, same, within.0));
        }
    by false some later =
        let found : first_unheld s (range_with_len (first + 1) count) ≡ Some number = sym (ap (λ b. slice_get (cond b (first ∷ filter (λ number. is_none (held_under s number)) (range_with_len (first + 1) count)) (filter (λ number. is_none (held_under s number)) (range_with_len (first + 1) count))) 0) some) ∙ is in
        let rest = later found in
        record {
          mine = (suc rest.mine.0, omega (arith, rest.mine.1), rest.mine.2);
          none = rest.none;
          least = λ other there bare. past some rest other there bare;
        }
      where
        past : is_none (held_under s first) ≡ false → IsLeast s (range_with_len (first + 1) count) number → (other : ℕ) → Contains (range_with_len first (suc count)) other → held_under s other ≡ None → number ≤ other
        past some rest other (zero, below, is) bare =
            absurd (let here : is_none (held_under s other) ≡ true = ap is_none bare in let never : true ≡ false = sym here ∙ ap (λ n. is_none (held_under s n)) (sym is) ∙ some in cc)
        past some rest other (suc k, below, is) bare = rest.least other (k, omega (arith, below), is) bare

-- ---- a bulk free

module _ (lawful : RoundsByTextAreLawful) (h : HeapState) (trace : Trace) (cpu first count : ℕ) (done : ClientDone) (after : HeapState) (heap : IsOpenTo h trace 0) (on_cpu : cpu < trace.cpus) (from : 1 ≤ first)
    (within : first + count ≤ length h.lists.board) (serves : ServesBulkFree h cpu (range_with_len first count) done after) where
  abbrev numbers : List ℕ
  numbers = range_with_len first count

  abbrev order : List ℕ
  order = free_order (places_under h.lists numbers)

  few : length order ≤ 2 ^ 32
  few = omega (arith, order_long h.lists numbers, length-range_with_len first count, within, heap.objects, heap.numbers)

  order_may : MayDo h.lists trace (round_of cpu (frees_of order))
  order_may = frees-may h trace cpu order heap on_cpu few (order_known h numbers (range_known h first count from within))

  at_once : (number : ℕ) → first_unheld h.lists numbers ≡ Some number → AnswersAtOnce h (answer.NotHeldOf number) done after → LeavesBulkFree h numbers done after done.answer
  at_once number is told =
      let least = least-of h.lists first count number is in
      subst (LeavesBulkFree h numbers done after) (sym told.1) (least.mine, least.none, told.2, least.least)

  in_order : FreesInOrder h cpu order done after → LeavesBulkFree h numbers done after done.answer
  in_order freed =
      let round = freed.0 in
      let law : IsRound h.lists (round_of cpu (frees_of order)) round.result after.lists = asked_lawful h trace cpu (frees_of order) round after lawful heap.sound.coherent heap.rest order_may freed.1 in
      let asks : filter_map freed_number round.asked.events ≡ order = rw freed.1.asked (asked-numbers cpu order) in
      let mine : freed_by round ≡ replied is_freed order round.result.replies = ap (λ (l : List ℕ). replied is_freed l round.result.replies) asks in
      let count_is = freed-count order round.result.replies (replies_even h.lists cpu order round.result after.lists law) in
      subst (LeavesBulkFree h numbers done after) (sym freed.3)
      (round, freed.2, count_is ∙ ap (λ (l : List ℕ). length l) (sym mine), subst (λ (l : List ℕ). DropsNumbers h.lists l after.lists) (sym mine) (drops h.lists cpu order round after.lists law))

  pub frees : LeavesBulkFree h numbers done after done.answer
  frees = match_either (first_unheld h.lists numbers) _ _ (LeavesBulkFree h numbers done after done.answer) serves (λ none freed. in_order freed) (λ number is told. at_once number is told)
