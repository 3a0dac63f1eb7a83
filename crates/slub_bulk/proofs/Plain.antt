-- What rounds of allocations and of frees are answered, by the causes of their replies alone.
use Rattle.std.proofs.Common.{◌≡◌, ◌≢◌, ℕ, ◌+◌, ◌≤◌, ◌&&◌, ◌||◌, cond, eqb, Bool, true, false, List, [], ◌∷◌, ◌++◌, append_assoc, length, refl, sym, ◌∙◌, ap, subst, All, arith, Option, Some, None, IsSome, MatchOption, inl, inr}
use Rattle.std.specs.List.{fold}
use Rattle.std.specs.Option.{option_and_then, option_map}
use Rattle.std.proofs.lemmas.List.Elements.{All-append, All-cons, All-contains, All-head, All-nil, All-tail}
use Rattle.std.proofs.lemmas.List.Sums.{sum_by-cons}
use Rattle.slub_trace.specs.declared.event.Act.TheVariants.{Alloc, Free}
use Rattle.slub_object_layout.specs.Layout.{address_of}
use Rattle.slub_trace.specs.declared.reply.Reply.{Reply}
use Rattle.slub_trace.specs.declared.reply.Reply.TheVariants as reply
use Rattle.slub_trace.specs.Kinds.{is_freed}
use Rattle.slub_common.specs.Times.{times}
use Rattle.slub_common.proofs.Times.{times-cons, times-cons_other}
use Rattle.slub_cache_create.specs.Table.{Table, cache_of as live_cache}
use Rattle.slub_cache_create.specs.declared.caches.Cache.{Cache}
use Rattle.slub_lists.specs.declared.lists.Held.{Held}
use Rattle.slub_lists.specs.State.{State}
use Rattle.slub_lists.specs.Alloc.{cache_of, checked_of, named}
use Rattle.slub_lists.specs.Coherent.{IsCoherent, held_under}
use Rattle.slub_lists.proofs.CheckedSlabs.{at_some}
use Rattle.slub_lists.proofs.Trimming.{place-live}
use Rattle.slub_slabinfo_text.specs.declared.journal.RoundResult.{RoundResult}
use Rattle.slub_slabinfo_text.specs.Asked.{event_of, frees_of, round_of}
use Rattle.slub_law_rounds.specs.Answered.{Answered, did_free, found_bad, is_corrupt, of_worker, times_taken}
use Rattle.slub_law_rounds.specs.Round.{AllocCause, FreeCause, HaveCauses, IsGiftOf, IsOfChecked, IsRound, NamesChecked, Spot, WasGivenAt, spot_after, spot_asked, spot_of, spot_under}
use Rattle.slub_law_rounds.proofs.Tale.{injected}
use Rattle.slub_law_rounds.proofs.Times.{counted_append}
use Rattle.slub_law_rounds.proofs.Values.{checked-kept}
use Rattle.slub_rounds.specs.BulkLines.{allocs_of}
use Rattle.slub_rounds.proofs.Allowed.{allocs-long, frees-long}
use Rattle.slub_rounds.proofs.Staying.{held-or-none}
use Rattle.slub_bulk.proofs.Boards.{answers_of, own-all}
use Rattle.slub_bulk.proofs.Undamaged.{first-apart, others, rest-once}

-- an object stands there, in a checked cache
abbrev IsAtChecked : State → Option Spot → Type 0
IsAtChecked s x = MatchOption x ⊥ (λ spot. IsSome (checked_of s spot.cache))

-- ---- allocations

unfreed-of : (before : State) (all own : List Answered) (place : ℕ) (told : Reply) → AllocCause before all own place told → is_freed told ≡ false
unfreed-of before all own place (reply.Freed address) cause = absurd cause
unfreed-of before all own place told cause = refl

unfreed : (before : State) (all own : List Answered) (cpu place : ℕ) (numbers : List ℕ) (replies : List Reply) → of_worker 0 all ≡ own ++ answers_of cpu (allocs_of place numbers) replies → HaveCauses before all
    → length replies ≡ length numbers → All (λ told. is_freed told ≡ false) replies
unfreed before all own cpu place [] [] split causes even = All-nil (λ told. is_freed told ≡ false)
unfreed before all own cpu place [] (told ∷ replies) split causes even = absurd (let never : ⊥ = omega arith in never)
unfreed before all own cpu place (number ∷ numbers) [] split causes even = absurd (let never : ⊥ = omega arith in never)
unfreed before all own cpu place (number ∷ numbers) (told ∷ replies) split causes even =
    All-cons (λ told. is_freed told ≡ false) told replies
    (unfreed-of before all own place told (causes 0 own (event_of cpu (Alloc place number), told) (record { later = answers_of cpu (allocs_of place numbers) replies; split = split })))
    (unfreed before all (own ++ (event_of cpu (Alloc place number), told) ∷ []) cpu place numbers replies (split ∙ sym (append_assoc own ((event_of cpu (Alloc place number), told) ∷ []) (answers_of cpu (allocs_of place numbers) replies))) causes (omega arith))

-- an allocation frees nothing
pub allocs-unfreed : (s : State) (cpu place : ℕ) (numbers : List ℕ) (result : RoundResult) (after : State) → IsRound s (round_of cpu (allocs_of place numbers)) result after → All (λ told. is_freed told ≡ false) result.replies
allocs-unfreed s cpu place numbers result after law =
    unfreed s (answers_of cpu (allocs_of place numbers) result.replies) [] cpu place numbers result.replies (own-all cpu (allocs_of place numbers) result.replies) law.causes (omega (arith, law.replies, allocs-long cpu place numbers))

-- ---- what frees before tell of a number

abbrev IsFree : Answered → Type 0
IsFree one = (object : ℕ) × (one.0.act ≡ Free object)

-- nothing of where its object is
still-one : (before : State) (object : ℕ) (spot : Option Spot) (one : Answered) → IsFree one → spot_after before object spot one ≡ spot
still-one before object spot (event, reply.Given address) free = rw free.1 refl
still-one before object spot (event, told) free = refl

still : (before : State) (object : ℕ) (spot : Option Spot) (own : List Answered) → All IsFree own → fold (spot_after before object) spot own ≡ spot
still before object spot [] frees = refl
still before object spot (one ∷ own) frees =
    ap (λ (x : Option Spot). fold (spot_after before object) x own) (still-one before object spot one (All-head IsFree one own frees))
    ∙ still before object spot own (All-tail IsFree one own frees)

-- it is found no more often than that is asked
taken-few : (object cpu : ℕ) (numbers : List ℕ) (replies : List Reply) → times_taken object (answers_of cpu (frees_of numbers) replies) ≤ times object numbers
taken-few object cpu [] replies = omega arith
taken-few object cpu (number ∷ numbers) [] = omega arith
taken-few object cpu (number ∷ numbers) (told ∷ replies) =
    by (eqb number object) (is_freed told) (is_corrupt told)
    (sum_by-cons (λ (one : Answered). cond (did_free object one || found_bad object one) 1 0) (event_of cpu (Free number), told) (answers_of cpu (frees_of numbers) replies))
    (times-cons object number numbers) (taken-few object cpu numbers replies)
  where
    by : (b c d : Bool) → times_taken object (answers_of cpu (frees_of (number ∷ numbers)) (told ∷ replies)) ≡ cond ((b && c) || (b && d)) 1 0 + times_taken object (answers_of cpu (frees_of numbers) replies)
        → times object (number ∷ numbers) ≡ cond b 1 0 + times object numbers → times_taken object (answers_of cpu (frees_of numbers) replies) ≤ times object numbers
        → times_taken object (answers_of cpu (frees_of (number ∷ numbers)) (told ∷ replies)) ≤ times object (number ∷ numbers)
    by true true d first all rest = omega (arith, first, all, rest)
    by true false true first all rest = omega (arith, first, all, rest)
    by true false false first all rest = omega (arith, first, all, rest)
    by false c d first all rest = omega (arith, first, all, rest)

-- and not where it is answered that it isn't held
taken-none : (object cpu number : ℕ) (told : Reply) → told ≡ reply.NotHeld → times_taken object ((event_of cpu (Free number), told) ∷ []) ≡ 0
taken-none object cpu number told is =
    sum_by-cons (λ (one : Answered). cond (did_free object one || found_bad object one) 1 0) (event_of cpu (Free number), told) [] ∙ rw is (by (eqb number object))
  where
    by : (b : Bool) → cond ((b && false) || (b && false)) 1 0 + 0 ≡ 0
    by true = refl
    by false = refl

-- ---- frees

-- its object is on the board and of no checked cache, and no free before took it
record IsReady (before : State) (own : List Answered) (object : ℕ) : Type 0 where
  pub there : IsSome (held_under before object)
  pub plain : ¬ IsOfChecked before object []
  pub untaken : times_taken object own ≡ 0

freed-of : (before : State) (all own : List Answered) (object : ℕ) (told : Reply) → FreeCause before all own object told → IsSome (held_under before object) → (¬ IsOfChecked before object own)
    → (told ≡ reply.NotHeld → times_taken object all ≡ 0) → is_freed told ≡ true
freed-of before all own object (reply.Freed address) cause there plain untaken = refl
freed-of before all own object (reply.Corrupt damage) cause there plain untaken = absurd (plain cause.1)
freed-of before all own object reply.NotHeld cause there plain untaken = elim cause.1 [
  | inl none ↦ absurd (held-or-none before object there none)
  | inr taken ↦ absurd (let never : ⊥ = omega (arith, taken, untaken refl) in never)
]
freed-of before all own object told cause there plain untaken = absurd cause

module _ (before : State) (all : List Answered) (cpu : ℕ) (mine : of_worker 0 all ≡ all) (causes : HaveCauses before all) where
  freed : (own : List Answered) (numbers : List ℕ) (replies : List Reply) → all ≡ own ++ answers_of cpu (frees_of numbers) replies → length replies ≡ length numbers
      → ((x : ℕ) → times x numbers ≤ 1) → All IsFree own → All (IsReady before own) numbers → All (λ told. is_freed told ≡ true) replies
  freed own [] [] split even once frees ready = All-nil (λ told. is_freed told ≡ true)
  freed own [] (told ∷ replies) split even once frees ready = absurd (let never : ⊥ = omega arith in never)
  freed own (number ∷ numbers) [] split even once frees ready = absurd (let never : ⊥ = omega arith in never)
  freed own (number ∷ numbers) (told ∷ replies) split even once frees ready =
      All-cons (λ told. is_freed told ≡ true) told replies
      (freed-of before all own number told (causes 0 own here (record { later = later; split = mine ∙ split })) head.there plain untaken)
      (freed (own ++ here ∷ []) numbers replies (split ∙ sym (append_assoc own (here ∷ []) later)) (omega arith) (rest-once number numbers once)
      (All-append IsFree own (here ∷ []) frees (All-cons IsFree here [] (number, refl) (All-nil IsFree)))
      (others (IsReady before own) (IsReady before (own ++ here ∷ [])) number numbers apart next (All-tail (IsReady before own) number numbers ready)))
    where
      here : Answered
      here = (event_of cpu (Free number), told)

      later : List Answered
      later = answers_of cpu (frees_of numbers) replies

      head : IsReady before own number
      head = All-head (IsReady before own) number numbers ready

      apart : times number numbers ≡ 0
      apart = first-apart number numbers once

      plain : ¬ IsOfChecked before number own
      plain checked =
          head.plain (subst (IsAtChecked before) (still before number (spot_under before number) own frees) checked)

      untaken : told ≡ reply.NotHeld → times_taken number all ≡ 0
      untaken is =
          let split_here : times_taken number all ≡ times_taken number own + times_taken number (here ∷ later) =
          ap (times_taken number) split ∙ counted_append (λ one. did_free number one || found_bad number one) own (here ∷ later) in
          let first : times_taken number (here ∷ later) ≡ times_taken number (here ∷ []) + times_taken number later = counted_append (λ one. did_free number one || found_bad number one) (here ∷ []) later in
          omega (arith, split_here, first, taken-none number cpu number told is, head.untaken, taken-few number cpu numbers replies, apart)

      next : (n : ℕ) → n ≢ number → IsReady before own n → IsReady before (own ++ here ∷ []) n
      next n differ one = record {
        there = one.there;
        plain = one.plain;
        untaken =
            let both : times_taken n (own ++ here ∷ []) ≡ times_taken n own + times_taken n (here ∷ []) = counted_append (λ one. did_free n one || found_bad n one) own (here ∷ []) in
            let few : times_taken n (here ∷ []) ≤ times n (number ∷ []) = taken-few n cpu (number ∷ []) (told ∷ []) in
            let none : times n (number ∷ []) ≡ 0 = times-cons_other n number [] (λ same. differ (sym same)) in
            omega (arith, both, few, none, one.untaken);
      }

-- an object on the board that is of no checked cache
pub record IsPlain (s : State) (object : ℕ) : Type 0 where
  pub there : IsSome (held_under s object)
  pub plain : ¬ IsOfChecked s object []

-- a round that frees such objects frees them all
pub frees-plain : (s : State) (cpu : ℕ) (numbers : List ℕ) (result : RoundResult) (after : State) → IsRound s (round_of cpu (frees_of numbers)) result after → ((x : ℕ) → times x numbers ≤ 1) → All (IsPlain s) numbers
    → All (λ told. is_freed told ≡ true) result.replies
frees-plain s cpu numbers result after law once plain =
    freed s (answers_of cpu (frees_of numbers) result.replies) cpu (own-all cpu (frees_of numbers) result.replies) law.causes [] numbers result.replies refl (omega (arith, law.replies, frees-long cpu numbers)) once (All-nil IsFree)
    (λ k d inside. let one = plain k d inside in record { there = one.there; plain = one.plain; untaken = refl })

-- ---- which objects are of no checked cache

-- an object on the board of a cache that wasn't checked before a round
pub held-plain : (s after : State) (object : ℕ) (held : Held) → IsCoherent s → IsCoherent after → after.table ≡ s.table → held_under after object ≡ Some held → (IsSome (checked_of s held.cache) → ⊥) → ¬ IsOfChecked after object []
held-plain s after object held coherent next table there plain checked =
    by (cache_of s held.cache) refl (subst (λ (x : Option Held). IsAtChecked after (option_and_then (spot_of after) x)) there checked)
  where
    spot_in : Option Cache → Option Spot
    spot_in x = option_map (λ (live : Cache). record { cache = held.cache; address = address_of held.frame held.index live.layout }) x

    by : (x : Option Cache) → cache_of s held.cache ≡ x → IsAtChecked after (spot_in (cache_of after held.cache)) → ⊥
    by None is checked = subst (λ (x : Option Cache). IsAtChecked after (spot_in x)) (ap (λ (t : Table). live_cache t held.cache) table ∙ is) checked
    by (Some live) is checked =
        plain (checked-kept s after held.cache live coherent next table is ∙ subst (λ (x : Option Cache). IsAtChecked after (spot_in x)) (ap (λ (t : Table). live_cache t held.cache) table ∙ is) checked)

-- an allocation from the cache that a name at a place names
abbrev IsAllocOf : ℕ → Answered → Type 0
IsAllocOf place one = (number : ℕ) × (one.0.act ≡ Alloc place number)

allocs-all : (cpu place : ℕ) (numbers : List ℕ) (replies : List Reply) → All (IsAllocOf place) (answers_of cpu (allocs_of place numbers) replies)
allocs-all cpu place [] replies = All-nil (IsAllocOf place)
allocs-all cpu place (number ∷ numbers) [] = All-nil (IsAllocOf place)
allocs-all cpu place (number ∷ numbers) (told ∷ replies) =
    All-cons (IsAllocOf place) (event_of cpu (Alloc place number), told) (answers_of cpu (allocs_of place numbers) replies) (number, refl) (allocs-all cpu place numbers replies)

-- what it gave is of that cache
gift-cache : (s : State) (place object : ℕ) (spot : Spot) (one : Answered) → IsAllocOf place one → IsGiftOf s object spot one → named s place ≡ Some spot.cache
gift-cache s place object spot (event, reply.Given address) asks gift = by (named s place) refl (subst (λ act. spot_asked s act address ≡ Some spot) asks.1 gift.1)
  where
    by : (x : Option ℕ) → named s place ≡ x → option_map (λ (cache : ℕ). record { cache = cache; address = address }) (named s place) ≡ Some spot → named s place ≡ Some spot.cache
    by None is e = absurd (let never : None ≡ Some spot = sym (ap (option_map (λ (cache : ℕ). record { cache = cache; address = address })) is) ∙ e in cc)
    by (Some cache) is e = is ∙ ap (λ n. Some n) (ap (λ (x : Spot). x.cache) (injected (sym (ap (option_map (λ (cache : ℕ). record { cache = cache; address = address })) is) ∙ e)))
gift-cache s place object spot (event, told) asks gift = absurd gift

-- one that a round was given of a name that isn't that of a checked cache
pub given-plain : (s : State) (cpu place : ℕ) (numbers : List ℕ) (result : RoundResult) (after : State) (object : ℕ) → IsCoherent s → IsRound s (round_of cpu (allocs_of place numbers)) result after
    → (¬ NamesChecked s place) → held_under s object ≡ None → ¬ IsOfChecked after object []
given-plain s cpu place numbers result after object coherent law plain none checked = by (spot_under after object) refl checked
  where
    answers : List Answered
    answers = answers_of cpu (allocs_of place numbers) result.replies

    by : (x : Option Spot) → spot_under after object ≡ x → IsAtChecked after x → ⊥
    by None is checked = checked
    by (Some spot) is checked =
        let gift : WasGivenAt s answers object spot = at_some (spot_under after object) spot (WasGivenAt s answers object) is (law.board.comes object none) in
        let names : named s place ≡ Some spot.cache = gift-cache s place object spot gift.0 (All-contains (IsAllocOf place) answers gift.0 (allocs-all cpu place numbers result.replies) gift.1) gift.2 in
        let live = some-of (cache_of s spot.cache) (place-live s place spot.cache coherent.shaped names) in
        plain (subst (λ (x : Option ℕ). MatchOption x ⊥ (λ cache. IsSome (checked_of s cache))) (sym names) (checked-kept s after spot.cache live.0 coherent law.coherent law.table live.1 ∙ checked))
      where
        some-of : (x : Option Cache) → IsSome x → (live : Cache) × (x ≡ Some live)
        some-of None some = absurd (cc)
        some-of (Some live) some = (live, refl)
