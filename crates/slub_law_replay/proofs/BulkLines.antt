-- `bulk` and `bulkfree` have one outcome.
use Rattle.std.proofs.Common.{◌≡◌, ℕ, List, [], ◌∷◌, Option, Some, None, MatchOption, sym, ap, ◌∙◌, subst}
use Rattle.std.specs.Prelude.{count_by}
use Rattle.std.specs.List.{range_with_len}
use Rattle.slub_trace.specs.Kinds.{is_freed, is_given}
use Rattle.slub_trace.specs.declared.trace.Client.{Client as Asked}
use Rattle.slub_trace.specs.declared.trace.Client.TheVariants as line
use Rattle.slub_slabinfo_text.specs.declared.client.CacheRefusal.{CacheRefusal}
use Rattle.slub_slabinfo_text.specs.declared.client.ClientAnswer.TheVariants as answer
use Rattle.slub_slabinfo_text.specs.declared.client.ClientRound.{ClientRound}
use Rattle.slub_slabinfo_text.specs.Asked.{first_refusal, frees_of}
use Rattle.slub_slabinfo_text.specs.Bulk.{free_order}
use Rattle.slub_rounds.specs.Heap.{HeapState}
use Rattle.slub_rounds.specs.Asked.{AnswersAtOnce}
use Rattle.slub_rounds.specs.BulkLines.{FreesAgain, FreesInOrder, ServesBulk, ServesBulkFree, ServesBulkLines, TakesAll, allocs_of, bulk_answer, first_unheld, places_under, replied}
use Rattle.slub_law_replay.proofs.Asked.{ServesOne, asked-one, at-once-one, option-one, same-done}

-- ---- all or nothing

-- two rounds, the first of which is known
frees-again-one : (mid : HeapState) (cpu : ℕ) (numbers : List ℕ) (first : ClientRound) (rounds others : List ClientRound) (left right : HeapState)
    → FreesAgain mid cpu numbers first rounds left → FreesAgain mid cpu numbers first others right → (rounds ≡ others) × (left ≡ right)
frees-again-one mid cpu [] first rounds others left right does again = (does.0 ∙ sym again.0, does.1 ∙ sym again.1)
frees-again-one mid cpu (number ∷ numbers) first rounds others left right does again =
    let same = asked-one mid cpu (frees_of (number ∷ numbers)) does.0 again.0 left right does.1 again.1 in
    (does.2 ∙ ap (λ (second : ClientRound). first ∷ second ∷ []) same.0 ∙ sym again.2, same.1)

-- what follows the first round
abbrev LeavesAll : HeapState → ℕ → List ℕ → ClientRound → Option CacheRefusal → List ClientRound → HeapState → Type 0
LeavesAll mid cpu numbers first refusal rounds after =
    MatchOption refusal ((rounds ≡ first ∷ []) × (after ≡ mid)) (λ why. FreesAgain mid cpu (replied is_given numbers first.result.replies) first rounds after)

leaves-one : (mid : HeapState) (cpu : ℕ) (numbers : List ℕ) (first : ClientRound) (refusal : Option CacheRefusal) (rounds others : List ClientRound) (left right : HeapState)
    → LeavesAll mid cpu numbers first refusal rounds left → LeavesAll mid cpu numbers first refusal others right → (rounds ≡ others) × (left ≡ right)
leaves-one mid cpu numbers first None rounds others left right does again = (does.0 ∙ sym again.0, does.1 ∙ sym again.1)
leaves-one mid cpu numbers first (Some why) rounds others left right does again = frees-again-one mid cpu (replied is_given numbers first.result.replies) first rounds others left right does again

pub takes-all-one : (h : HeapState) (cpu place : ℕ) (numbers : List ℕ) (one other : Option CacheRefusal) (rounds others : List ClientRound) (left right : HeapState)
    → TakesAll h cpu place numbers one rounds left → TakesAll h cpu place numbers other others right → (one ≡ other) × (rounds ≡ others) × (left ≡ right)
takes-all-one h cpu place numbers one other rounds others left right does again =
    let same = asked-one h cpu (allocs_of place numbers) does.0 again.0 does.1 again.1 does.2 again.2 in
    let refusal : one ≡ other = does.3 ∙ ap (λ (round : ClientRound). first_refusal round.result.replies) same.0 ∙ sym again.3 in
    let moved : LeavesAll again.1 cpu numbers again.0 other rounds left =
    subst (λ (mid : HeapState). LeavesAll mid cpu numbers again.0 other rounds left) same.1
    (subst (λ (first : ClientRound). LeavesAll does.1 cpu numbers first other rounds left) same.0
    (subst (λ (refusal : Option CacheRefusal). LeavesAll does.1 cpu numbers does.0 refusal rounds left) refusal does.4)) in
    let rest = leaves-one again.1 cpu numbers again.0 other rounds others left right moved again.4 in
    (refusal, rest.0, rest.1)

-- ---- `bulk`

bulk-one : (h : HeapState) (cpu place : ℕ) (numbers : List ℕ) → ServesOne HeapState (ServesBulk h cpu place numbers)
bulk-one h cpu place numbers one other left right does again =
    let same = takes-all-one h cpu place numbers does.0 again.0 one.rounds other.rounds left right does.1 again.1 in
    (same-done one other same.1 (does.2 ∙ ap bulk_answer same.0 ∙ sym again.2), same.2)

-- ---- `bulkfree`

frees-one : (h : HeapState) (cpu : ℕ) (numbers : List ℕ) → ServesOne HeapState (FreesInOrder h cpu numbers)
frees-one h cpu numbers one other left right does again =
    let same = asked-one h cpu (frees_of numbers) does.0 again.0 left right does.1 again.1 in (
      same-done one other (does.2 ∙ ap (λ (round : ClientRound). round ∷ []) same.0 ∙ sym again.2)
          (does.3 ∙ ap (λ (round : ClientRound). answer.BulkFreed (count_by is_freed round.result.replies)) same.0 ∙ sym again.3),
      same.1,
    )

bulkfree-one : (h : HeapState) (cpu : ℕ) (numbers : List ℕ) → ServesOne HeapState (ServesBulkFree h cpu numbers)
bulkfree-one h cpu numbers =
    let order = free_order (places_under h.lists numbers) in
    option-one ℕ HeapState (first_unheld h.lists numbers) (FreesInOrder h cpu order) (λ number. AnswersAtOnce h (answer.NotHeldOf number)) (frees-one h cpu order) (λ number. at-once-one h (answer.NotHeldOf number))

-- ---- both

pub bulk-lines-one : (h : HeapState) (client : Asked) → ServesOne HeapState (ServesBulkLines h client)
bulk-lines-one h (line.Bulk cpu place first count) one other left right does again = bulk-one h cpu place (range_with_len first count) one other left right does again
bulk-lines-one h (line.Bulkfree cpu first count) one other left right does again = bulkfree-one h cpu (range_with_len first count) one other left right does again
bulk-lines-one h _ one other left right does again = absurd does
