-- What `bulk` and `bulkfree` are answered, and what they leave.
use Rattle.std.specs.Prelude.{◌≡◌, ◌≢◌, ℕ, ◌⊎◌, ◌≤◌, ◌↔◌, Bool, List, [], ◌∷◌, map, length, count_by, sum_by, Option, Some, None, is_none, IsSome, MatchOption, Contains, ⊤, if◌then◌else◌, slice_get}
use Rattle.std.specs.List.{filter, filter_map, range_with_len, zip}
use Rattle.std.specs.Option.{option_map_or}
use Rattle.slub_trace.specs.declared.event.Act.{Act}
use Rattle.slub_trace.specs.declared.event.Act.TheVariants.{Alloc, Free}
use Rattle.slub_trace.specs.declared.event.Event.{Event}
use Rattle.slub_object_layout.specs.Layout.{address_of}
use Rattle.slub_trace.specs.declared.reply.Reply.{Reply}
use Rattle.slub_trace.specs.Kinds.{is_freed, is_given}
use Rattle.slub_lists.specs.State.{State}
use Rattle.slub_lists.specs.Coherent.{held_under}
use Rattle.slub_lists.specs.Places.{layout_at}
use Rattle.slub_trace.specs.declared.trace.Client.{Client as Asked}
use Rattle.slub_trace.specs.declared.trace.Client.TheVariants as line
use Rattle.slub_slabinfo_text.specs.declared.client.CacheRefusal.{CacheRefusal}
use Rattle.slub_slabinfo_text.specs.declared.client.ClientAnswer.{ClientAnswer}
use Rattle.slub_slabinfo_text.specs.declared.client.ClientAnswer.TheVariants as answer
use Rattle.slub_slabinfo_text.specs.declared.client.ClientDone.{ClientDone}
use Rattle.slub_slabinfo_text.specs.declared.client.ClientRound.{ClientRound}
use Rattle.slub_slabinfo_text.specs.Asked.{first_refusal, frees_of}
use Rattle.slub_slabinfo_text.specs.Bulk.{free_order}
use Rattle.slub_slabinfo_text.specs.Lawful.{freed_in, given_in}
use Rattle.slub_rounds.specs.Heap.{HeapState}
use Rattle.slub_rounds.specs.Asked.{AnswersAtOnce, DoesAsked, SpendsAsked}

-- ---- all or nothing

-- the allocations of these numbers from the cache that the name at a place names
abbrev pub allocs_of : ℕ → List ℕ → List Act
allocs_of place numbers = map (Alloc place) numbers

-- the numbers with a reply of a kind, in their order
abbrev pub replied : (Reply → Bool) → List ℕ → List Reply → List ℕ
replied is numbers replies =
    filter_map (λ one. if is one.1 then Some one.0 else None) (zip numbers replies)

-- these numbers are freed by one more round, where there are any
abbrev pub FreesAgain
    : HeapState → ℕ → List ℕ → ClientRound → List ClientRound → HeapState → Type 0
FreesAgain h cpu [] first rounds after = (rounds ≡ first ∷ []) × (after ≡ h)
FreesAgain h cpu (number ∷ numbers) first rounds after =
    (second : ClientRound) × DoesAsked h cpu (frees_of (number ∷ numbers)) second after
    × (rounds ≡ first ∷ second ∷ [])

-- each of these numbers is asked of the cache on a CPU; where one is refused, those that were given
-- are freed again, in their order: the first refusal, or none
abbrev pub TakesAll : HeapState → ℕ → ℕ → List ℕ → Option CacheRefusal → List ClientRound
    → HeapState → Type 0
TakesAll h cpu place numbers refusal rounds after =
    (first : ClientRound) × (mid : HeapState) × DoesAsked h cpu (allocs_of place numbers) first mid
    × (refusal ≡ first_refusal first.result.replies)
    × MatchOption refusal ((rounds ≡ first ∷ []) × (after ≡ mid))
    (λ why. FreesAgain mid cpu (replied is_given numbers first.result.replies) first rounds after)

-- ---- `bulk` (`kmem_cache_alloc_bulk`)

abbrev pub bulk_answer : Option CacheRefusal → ClientAnswer
bulk_answer None = answer.All
bulk_answer (Some why) = answer.Nothing why

abbrev pub ServesBulk : HeapState → ℕ → ℕ → List ℕ → ClientDone → HeapState → Type 0
ServesBulk h cpu place numbers done after =
    (refusal : Option CacheRefusal) × TakesAll h cpu place numbers refusal done.rounds after
    × (done.answer ≡ bulk_answer refusal)

-- ---- `bulkfree` (`kmem_cache_free_bulk`)

-- the first of these numbers that isn't on the board
abbrev pub first_unheld : State → List ℕ → Option ℕ
first_unheld s numbers = slice_get (filter (λ number. is_none (held_under s number)) numbers) 0

-- the first frame of the slab in which the object of a number stands
abbrev pub frame_under : State → ℕ → ℕ
frame_under s object = option_map_or (λ held. held.frame) (held_under s object) 0

-- numbers, each with that frame
abbrev pub places_under : State → List ℕ → List (ℕ × ℕ)
places_under s numbers = map (λ number. (number, frame_under s number)) numbers

-- one round frees these numbers, in this order
abbrev pub FreesInOrder : HeapState → ℕ → List ℕ → ClientDone → HeapState → Type 0
FreesInOrder h cpu numbers done after =
    (round : ClientRound) × DoesAsked h cpu (frees_of numbers) round after
    × (done.rounds ≡ round ∷ [])
    × (done.answer ≡ answer.BulkFreed (count_by is_freed round.result.replies))

-- slab by slab, where all are on the board
abbrev pub ServesBulkFree : HeapState → ℕ → List ℕ → ClientDone → HeapState → Type 0
ServesBulkFree h cpu numbers done after =
    MatchOption (first_unheld h.lists numbers)
    (FreesInOrder h cpu (free_order (places_under h.lists numbers)) done after)
    (λ number. AnswersAtOnce h (answer.NotHeldOf number) done after)

-- ---- both

-- a line of this request
abbrev pub IsBulkLine : Asked → Type 0
IsBulkLine (line.Bulk cpu place first count) = ⊤
IsBulkLine (line.Bulkfree cpu first count) = ⊤
IsBulkLine _ = ⊥

abbrev pub ServesBulkLines : HeapState → Asked → ClientDone → HeapState → Type 0
ServesBulkLines h (line.Bulk cpu place first count) done after =
    ServesBulk h cpu place (range_with_len first count) done after
ServesBulkLines h (line.Bulkfree cpu first count) done after =
    ServesBulkFree h cpu (range_with_len first count) done after
ServesBulkLines h _ done after = ⊥

-- ---- turns that are spent

-- the round that frees these numbers again spends them, where there are any
abbrev pub SpendsAgain : HeapState → ℕ → List ℕ → Type 0
SpendsAgain h cpu numbers = (numbers ≢ []) × SpendsAsked h cpu (frees_of numbers)

-- the round that asks for these numbers spends them; or it is done, one of them is refused, and the
-- round that frees again those that were given spends them
abbrev pub SpendsTaking : HeapState → ℕ → ℕ → List ℕ → Type 0
SpendsTaking h cpu place numbers =
    SpendsAsked h cpu (allocs_of place numbers)
    ⊎ ((first : ClientRound) × (mid : HeapState)
    × DoesAsked h cpu (allocs_of place numbers) first mid
    × IsSome (first_refusal first.result.replies)
    × SpendsAgain mid cpu (replied is_given numbers first.result.replies))

-- the round that frees these numbers, slab by slab, where all are on the board
abbrev pub SpendsBulkFree : HeapState → ℕ → List ℕ → Type 0
SpendsBulkFree h cpu numbers =
    (first_unheld h.lists numbers ≡ None)
    × SpendsAsked h cpu (frees_of (free_order (places_under h.lists numbers)))

-- a round that the line makes
abbrev pub SpendsBulkLines : HeapState → Asked → Type 0
SpendsBulkLines h (line.Bulk cpu place first count) =
    SpendsTaking h cpu place (range_with_len first count)
SpendsBulkLines h (line.Bulkfree cpu first count) =
    SpendsBulkFree h cpu (range_with_len first count)
SpendsBulkLines h _ = ⊥

-- ---- what they leave

-- the address of the object that a number names, in bytes, or 0
abbrev pub address_under : State → ℕ → ℕ
address_under s object =
    option_map_or (λ held. address_of held.frame held.index (layout_at s held.cache))
    (held_under s object) 0

-- the board before and these numbers, at different addresses
pub record AddsNumbers (s : State) (numbers : List ℕ) (after : State) : Type 0 where
  pub stay : (object : ℕ) → IsSome (held_under s object)
      → held_under after object ≡ held_under s object
  pub come : (object : ℕ) → held_under s object ≡ None
      → IsSome (held_under after object) ↔ Contains numbers object
  pub apart : (one other : ℕ) → Contains numbers one → Contains numbers other
      → address_under after one ≡ address_under after other → one ≡ other

-- the board before, less these numbers
pub record DropsNumbers (s : State) (numbers : List ℕ) (after : State) : Type 0 where
  pub go : (object : ℕ) → Contains numbers object → held_under after object ≡ None
  pub stay : (object : ℕ) → (¬ Contains numbers object)
      → held_under after object ≡ held_under s object

-- rounds gave as many as they freed
abbrev pub IsEven : List ClientRound → Type 0
IsEven rounds =
    sum_by (λ round. given_in round.result.ledgers) rounds
    ≡ sum_by (λ round. freed_in round.result.ledgers) rounds

-- after all, the numbers are there besides; after none, the board is as it was
abbrev pub LeavesBulk
    : HeapState → List ℕ → ClientDone → HeapState → ClientAnswer → Type 0
LeavesBulk h numbers done after answer.All = AddsNumbers h.lists numbers after.lists
LeavesBulk h numbers done after (answer.Nothing why) =
    ((object : ℕ) → held_under after.lists object ≡ held_under h.lists object)
    × IsEven done.rounds
LeavesBulk h numbers done after _ = ⊥

-- the number that an act frees
abbrev pub number_freed : Act → Option ℕ
number_freed (Free object) = Some object
number_freed _ = None

-- the number that an event frees
abbrev pub freed_number : Event → Option ℕ
freed_number event = number_freed event.act

-- the numbers that a round freed
abbrev pub freed_by : ClientRound → List ℕ
freed_by round = replied is_freed (filter_map freed_number round.asked.events) round.result.replies

-- a number that isn't on the board is named, the least of these; else exactly those that were freed
-- are gone, which are as many as is told
abbrev pub LeavesBulkFree
    : HeapState → List ℕ → ClientDone → HeapState → ClientAnswer → Type 0
LeavesBulkFree h numbers done after (answer.NotHeldOf number) =
    Contains numbers number × (held_under h.lists number ≡ None) × (after ≡ h)
    × ((other : ℕ) → Contains numbers other → held_under h.lists other ≡ None → number ≤ other)
LeavesBulkFree h numbers done after (answer.BulkFreed freed) =
    (round : ClientRound) × (done.rounds ≡ round ∷ []) × (freed ≡ length (freed_by round))
    × DropsNumbers h.lists (freed_by round) after.lists
LeavesBulkFree h numbers done after _ = ⊥
