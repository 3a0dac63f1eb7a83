-- The reserves of `mempool` lines: what the lines are answered, and what they leave.
use Rattle.std.specs.Prelude.{◌≡◌, ℕ, ◌<◌, ◌≤◌, ◌==◌, ◌++◌, Bool, false, true, nat_le, nat_lt, List, [], ◌∷◌, length, map, sum_by, Option, None, Some, Result, Ok, Err, IsSome, MatchOption, All, ⊤, is_some, slice_index_or, slice_set}
use Rattle.std.specs.Bool.{MatchBool}
use Rattle.std.specs.List.{filter, list_any, position, range_with_len}
use Rattle.std.specs.Option.{option_map_or}
use Rattle.std.specs.Str.{bytes_eq}
use Rattle.slub_common.specs.Times.{times}
use Rattle.slub_trace.specs.declared.event.Act.TheVariants.{Alloc, Free}
use Rattle.slub_trace.specs.declared.reply.Reply.{Reply}
use Rattle.slub_trace.specs.declared.reply.Reply.TheVariants as reply
use Rattle.slub_lists.specs.declared.lists.Held.{Held}
use Rattle.slub_lists.specs.State.{State}
use Rattle.slub_lists.specs.Alloc.{named}
use Rattle.slub_lists.specs.Coherent.{held_under}
use Rattle.slub_trace.specs.declared.trace.Client.{Client as Asked}
use Rattle.slub_trace.specs.declared.trace.Client.TheVariants as line
use Rattle.slub_trace.specs.declared.trace.Trace.{Trace}
use Rattle.slub_slabinfo_text.specs.declared.client.CacheRefusal.{CacheRefusal}
use Rattle.slub_slabinfo_text.specs.declared.client.ClientAnswer.{ClientAnswer}
use Rattle.slub_slabinfo_text.specs.declared.client.ClientAnswer.TheVariants as answer
use Rattle.slub_slabinfo_text.specs.declared.client.ClientDone.{ClientDone}
use Rattle.slub_slabinfo_text.specs.declared.client.ClientRound.{ClientRound}
use Rattle.slub_slabinfo_text.specs.Asked.{Tells}
use Rattle.slub_rounds.specs.Heap.{HeapState}
use Rattle.slub_rounds.specs.Asked.{AnswersAtOnce, DoesAsked, SpendsAsked}
use Rattle.slub_rounds.specs.BulkLines.{SpendsTaking, TakesAll, address_under}

-- a reserve (`mempool_t`): its name, the place of its cache's name among those of the trace, how
-- many numbers it keeps at most, and these numbers; the last one is lent next
pub record Reserve : Type 0 where
  pub name : List ℕ
  pub cache : ℕ
  pub min_nr : ℕ
  pub numbers : List ℕ

-- where there is none
abbrev pub no_reserve : Reserve
no_reserve = record { name = []; cache = 0; min_nr = 0; numbers = [] }

-- how many reserves there may be, and how many numbers each may keep (*profile*)
abbrev pub reserves_max : ℕ
reserves_max = 8

abbrev pub numbers_max : ℕ
numbers_max = 64

-- ---- which there are

-- the place of the reserve of this name
abbrev pub place_of_reserve : List Reserve → List ℕ → Option ℕ
place_of_reserve reserves pool = position (λ reserve. bytes_eq pool reserve.name) reserves

abbrev pub reserve_at : List Reserve → ℕ → Reserve
reserve_at reserves at = slice_index_or reserves at no_reserve

-- the numbers of the reserve of this name, or none
abbrev pub numbers_of : List Reserve → List ℕ → List ℕ
numbers_of reserves pool =
    option_map_or (λ at. (reserve_at reserves at).numbers) (place_of_reserve reserves pool) []

-- how often a number stands in reserves
abbrev pub times_in : ℕ → List Reserve → ℕ
times_in number reserves = sum_by (λ reserve. times number reserve.numbers) reserves

abbrev pub has_number : ℕ → Reserve → Bool
has_number number reserve = list_any (λ other. other == number) reserve.numbers

-- the reserve at a place keeps these numbers
abbrev pub with_numbers : List Reserve → ℕ → List ℕ → List Reserve
with_numbers reserves at numbers =
    slice_set reserves at (record (reserve_at reserves at) { numbers = numbers })

-- ---- what holds of them

-- its cache has a name of the trace, and it keeps no more numbers than it may
pub record IsSoundReserve (trace : Trace) (reserve : Reserve) : Type 0 where
  pub cache : reserve.cache < length trace.names
  pub min_nr : reserve.min_nr ≤ numbers_max
  pub within : length reserve.numbers ≤ reserve.min_nr

-- of a trace, after any item: no number stands twice in all of them
pub record AreSoundReserves (trace : Trace) (reserves : List Reserve) : Type 0 where
  pub few : length reserves ≤ reserves_max
  pub each : All (IsSoundReserve trace) reserves
  pub once : (number : ℕ) → times_in number reserves ≤ 1

-- and after a `mempool`, an `mget` or an `mput` each number is on the board
pub record AreReserves (s : State) (trace : Trace) (reserves : List Reserve) : Type 0 where
  pub sound : AreSoundReserves trace reserves
  pub held : (number : ℕ) → 0 < times_in number reserves → IsSome (held_under s number)

-- ---- before each of these lines: numbers that are no longer on the board are dropped

abbrev pub kept_of : State → Reserve → Reserve
kept_of s reserve =
    record reserve { numbers = filter (λ number. is_some (held_under s number)) reserve.numbers }

abbrev pub kept_in : State → List Reserve → List Reserve
kept_in s reserves = map (kept_of s) reserves

-- an answer without a round, which leaves the reserves too
abbrev pub AnswersLeaving : HeapState → List Reserve → ClientAnswer → ClientDone → HeapState
    → List Reserve → Type 0
AnswersLeaving h reserves answer done after left =
    AnswersAtOnce h answer done after × (left ≡ reserves)

-- ---- `mempool` (`mempool_create`)

-- where all were given the reserve is there with them, behind the others
abbrev pub Makes : List Reserve → Reserve → Option CacheRefusal → ClientAnswer → List Reserve
    → Type 0
Makes reserves fresh None told left =
    (told ≡ answer.Made) × (left ≡ reserves ++ fresh ∷ [])
Makes reserves fresh (Some why) told left = (told ≡ answer.Nothing why) × (left ≡ reserves)

-- the numbers are allocated on CPU 0
abbrev pub Fills
    : HeapState → List Reserve → Reserve → ClientDone → HeapState → List Reserve → Type 0
Fills h reserves fresh done after left =
    (refusal : Option CacheRefusal)
    × TakesAll h 0 fresh.cache fresh.numbers refusal done.rounds after
    × Makes reserves fresh refusal done.answer left

abbrev pub ServesMempool
    : HeapState → List Reserve → Reserve → ClientDone → HeapState → List Reserve → Type 0
ServesMempool h reserves fresh done after left =
    MatchOption (place_of_reserve reserves fresh.name)
    (MatchBool (nat_le reserves_max (length reserves))
    (AnswersLeaving h reserves answer.TooMany done after left)
    (Fills h reserves fresh done after left))
    (λ at. AnswersLeaving h reserves answer.Taken done after left)

-- ---- `mget` (`mempool_alloc`)

-- the last number leaves a list, or the list is empty
abbrev pub Pops : List ℕ → Option ℕ → List ℕ → Type 0
Pops numbers None rest = (numbers ≡ []) × (rest ≡ [])
Pops numbers (Some last) rest = numbers ≡ rest ++ last ∷ []

-- the cache refused: the reserve at a place lends its last number, which stays on the board
abbrev pub Lends : State → List Reserve → ℕ → CacheRefusal → Option ℕ → List ℕ → ClientAnswer
    → List Reserve → Type 0
Lends s reserves at why None rest told left = (told ≡ answer.Nothing why) × (left ≡ reserves)
Lends s reserves at why (Some last) rest told left =
    (told ≡ answer.Lent last (address_under s last)) × (left ≡ with_numbers reserves at rest)

-- what the cache gave, or else the reserve
abbrev pub Gets : State → List Reserve → ℕ → Result ℕ CacheRefusal → ClientAnswer → List Reserve
    → Type 0
Gets s reserves at (Ok address) told left = (told ≡ answer.Given address) × (left ≡ reserves)
Gets s reserves at (Err why) told left =
    (lent : Option ℕ) × (rest : List ℕ) × Pops (reserve_at reserves at).numbers lent rest
    × Lends s reserves at why lent rest told left

-- one allocation on a CPU from the cache that the name at a place names: the address, or why the
-- cache gave none
abbrev pub TakesOne
    : HeapState → ℕ → ℕ → ℕ → List ClientRound → Result ℕ CacheRefusal → HeapState → Type 0
TakesOne h cpu place object rounds told after =
    (round : ClientRound) × (reply : Reply) × DoesAsked h cpu (Alloc place object ∷ []) round after
    × (round.result.replies ≡ reply ∷ []) × Tells reply told × (rounds ≡ round ∷ [])

-- the cache is asked first
abbrev pub Asks
    : HeapState → List Reserve → ℕ → ℕ → ℕ → ClientDone → HeapState → List Reserve → Type 0
Asks h reserves at cpu object done after left =
    (told : Result ℕ CacheRefusal)
    × TakesOne h cpu (reserve_at reserves at).cache object done.rounds told after
    × Gets after.lists reserves at told done.answer left

abbrev pub ServesMget : HeapState → List Reserve → ℕ → List ℕ → ℕ → ClientDone → HeapState
    → List Reserve → Type 0
ServesMget h reserves cpu pool object done after left =
    MatchOption (place_of_reserve reserves pool) (AnswersLeaving h reserves answer.NoPool done after left)
    (λ at. Asks h reserves at cpu object done after left)

-- ---- `mput` (`mempool_free`)

-- the name of the reserve's cache names this cache now
abbrev pub is_of_cache : State → Reserve → ℕ → Bool
is_of_cache s reserve cache =
    option_map_or (λ number. number == cache) (named s reserve.cache) false

-- what a free's reply tells
abbrev pub TellsFree : Reply → ClientAnswer → Type 0
TellsFree (reply.Freed address) told = told ≡ answer.Freed address
TellsFree (reply.Corrupt damage) told = told ≡ answer.Corrupt
TellsFree _ told = ⊥

-- the object is freed
abbrev pub PutsBack : HeapState → ℕ → ℕ → ClientDone → HeapState → Type 0
PutsBack h cpu object done after =
    (round : ClientRound) × (reply : Reply)
    × DoesAsked h cpu (Free object ∷ []) round after
    × (round.result.replies ≡ reply ∷ []) × TellsFree reply done.answer
    × (done.rounds ≡ round ∷ [])

-- the number goes last into the reserve at a place that has fewer than it may keep, or it is freed
abbrev pub Refills
    : HeapState → List Reserve → ℕ → ℕ → ℕ → ClientDone → HeapState → List Reserve → Type 0
Refills h reserves at cpu object done after left =
    MatchBool
    (nat_lt (length (reserve_at reserves at).numbers) (reserve_at reserves at).min_nr)
    (AnswersAtOnce h answer.Kept done after
    × (left ≡ with_numbers reserves at ((reserve_at reserves at).numbers ++ object ∷ [])))
    (PutsBack h cpu object done after × (left ≡ reserves))

-- an object of this cache is put
abbrev pub Puts : HeapState → List Reserve → ℕ → ℕ → ℕ → ℕ → ClientDone → HeapState → List Reserve
    → Type 0
Puts h reserves at cpu object cache done after left =
    MatchBool (is_of_cache h.lists (reserve_at reserves at) cache)
    (MatchBool (list_any (has_number object) reserves)
    (AnswersLeaving h reserves answer.InReserve done after left)
    (Refills h reserves at cpu object done after left))
    (AnswersLeaving h reserves answer.WrongCache done after left)

abbrev pub ServesMput : HeapState → List Reserve → ℕ → List ℕ → ℕ → ClientDone → HeapState
    → List Reserve → Type 0
ServesMput h reserves cpu pool object done after left =
    MatchOption (place_of_reserve reserves pool) (AnswersLeaving h reserves answer.NoPool done after left)
    (λ at. MatchOption (held_under h.lists object)
    (AnswersLeaving h reserves answer.NotHeld done after left)
    (λ held. Puts h reserves at cpu object held.cache done after left))

-- ---- all three

-- a line of this request
abbrev pub IsReserveLine : Asked → Type 0
IsReserveLine (line.Mempool pool place min first) = ⊤
IsReserveLine (line.Mget cpu pool object) = ⊤
IsReserveLine (line.Mput cpu pool object) = ⊤
IsReserveLine _ = ⊥

-- of the reserve that a line makes
abbrev pub fresh_reserve : List ℕ → ℕ → ℕ → ℕ → Reserve
fresh_reserve pool place min first =
    record { name = pool; cache = place; min_nr = min; numbers = range_with_len first min }

-- of reserves of which each number is on the board
abbrev pub ServesKept
    : HeapState → List Reserve → Asked → ClientDone → HeapState → List Reserve → Type 0
ServesKept h reserves (line.Mempool pool place min first) done after left =
    ServesMempool h reserves (fresh_reserve pool place min first) done after left
ServesKept h reserves (line.Mget cpu pool object) done after left =
    ServesMget h reserves cpu pool object done after left
ServesKept h reserves (line.Mput cpu pool object) done after left =
    ServesMput h reserves cpu pool object done after left
ServesKept h reserves _ done after left = ⊥

-- the line is served with what is left of the reserves that were there before it; any other item
-- leaves the reserves as they are
abbrev pub ServesReserves
    : HeapState → List Reserve → Asked → ClientDone → HeapState → List Reserve → Type 0
ServesReserves h reserves client done after left =
    ServesKept h (kept_in h.lists reserves) client done after left

-- ---- turns that are spent

-- a round that takes the numbers of a new reserve spends them
abbrev pub SpendsMempool : HeapState → List Reserve → Reserve → Type 0
SpendsMempool h reserves fresh =
    (place_of_reserve reserves fresh.name ≡ None) × (length reserves < reserves_max)
    × SpendsTaking h 0 fresh.cache fresh.numbers

-- the one allocation from the cache of the reserve of this name
abbrev pub SpendsMget : HeapState → List Reserve → ℕ → List ℕ → ℕ → Type 0
SpendsMget h reserves cpu pool object =
    (at : ℕ) × (place_of_reserve reserves pool ≡ Some at)
    × SpendsAsked h cpu (Alloc (reserve_at reserves at).cache object ∷ [])

-- an object of the cache of the reserve at a place is in no reserve, and this one is full
pub record IsTurnedAway (s : State) (reserves : List Reserve) (at object : ℕ) : Type 0 where
  pub held : Held
  pub here : held_under s object ≡ Some held
  pub own : is_of_cache s (reserve_at reserves at) held.cache ≡ true
  pub out : list_any (has_number object) reserves ≡ false
  pub full : (reserve_at reserves at).min_nr ≤ length (reserve_at reserves at).numbers

-- the free of such an object
abbrev pub SpendsMput : HeapState → List Reserve → ℕ → List ℕ → ℕ → Type 0
SpendsMput h reserves cpu pool object =
    (at : ℕ) × (place_of_reserve reserves pool ≡ Some at) × IsTurnedAway h.lists reserves at object
    × SpendsAsked h cpu (Free object ∷ [])

-- a round that the line makes, of reserves of which each number is on the board
abbrev pub SpendsKept : HeapState → List Reserve → Asked → Type 0
SpendsKept h reserves (line.Mempool pool place min first) =
    SpendsMempool h reserves (fresh_reserve pool place min first)
SpendsKept h reserves (line.Mget cpu pool object) = SpendsMget h reserves cpu pool object
SpendsKept h reserves (line.Mput cpu pool object) = SpendsMput h reserves cpu pool object
SpendsKept h reserves _ = ⊥

-- with what is left of the reserves that were there before the line
abbrev pub SpendsReserves : HeapState → List Reserve → Asked → Type 0
SpendsReserves h reserves client = SpendsKept h (kept_in h.lists reserves) client
