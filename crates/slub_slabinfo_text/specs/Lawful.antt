-- What is done lawfully on the lists: a creation, a round in the order of the text, each item but a
-- round and a client's line.
use Rattle.std.specs.Prelude.{◌≡◌, ℕ, ◌+◌, ◌<◌, ◌&&◌, ◌⊎◌, Bool, false, ◌==◌, List, [], ◌∷◌, length, map, drop, reverse, sum_by, count_by, flat_map, Option, Some, None, IfSome, MatchOption, ⊤, Result, Ok, Err, slice_index, slice_index_or, slice_get, All}
use Rattle.std.specs.List.{filter_map, range_with_len, zip}
use Rattle.std.specs.Option.{option_map, option_map_or, option_and_then}
use Rattle.slub_object_layout.specs.declared.layout.LayoutRefusal.TheVariants as refused
use Rattle.slub_object_layout.specs.declared.layout.Spec.{Spec}
use Rattle.slub_trace.specs.declared.event.Act.{Act}
use Rattle.slub_trace.specs.declared.event.Act.TheVariants.{Alloc, Free, Write, Read, Poke, Trim, Flush}
use Rattle.slub_trace.specs.declared.event.Event.{Event}
use Rattle.slub_trace.specs.declared.event.Round.{Round}
use Rattle.slub_object_layout.specs.Layout.{IsAccepted, IsAlign, IsSize, IsSupported}
use Rattle.slub_trace.specs.declared.ledger.Ledger.{Ledger}
use Rattle.slub_cache_create.specs.Create.{IsOpenTo}
use Rattle.slub_cache_create.specs.Table.{HasTitle, IsTaken}
use Rattle.slub_cache_create.specs.declared.caches.Cache.{Cache}
use Rattle.slub_cache_create.specs.declared.caches.Created.TheVariants as made
use Rattle.slub_trace.specs.declared.damage.Report.{Report}
use Rattle.slub_trace.specs.declared.reply.Reply.{Reply}
use Rattle.slub_trace.specs.Kinds.{is_freed, is_given, is_no_frames}
use Rattle.slub_lists.specs.State.{State}
use Rattle.slub_lists.specs.Alloc.{cache_of, checked_of, named}
use Rattle.slub_lists.specs.Named.{AllocatesNamed}
use Rattle.slub_lists.specs.Freeing.{Frees}
use Rattle.slub_lists.specs.Words.{Pokes, Reads, Writes}
use Rattle.slub_lists.specs.Create.{CreatesCache}
use Rattle.slub_lists.specs.Shrink.{Shrinks}
use Rattle.slub_lists.specs.Destroy.{Destroys}
use Rattle.slub_lists.specs.Tune.{Tunes}
use Rattle.slub_lists.specs.Trim.{Trims}
use Rattle.slub_lists.specs.Flush.{Flushes}
use Rattle.slub_lists.specs.Coherent.{IsCoherent, all_on_board, held_under, opening}
use Rattle.slub_slabinfo_text.specs.declared.counts.Counts.{Counts}
use Rattle.slub_slabinfo_text.specs.Counts.{row_of, rows_of}
use Rattle.slub_trace.specs.declared.trace.Item.{Item}
use Rattle.slub_trace.specs.declared.trace.Item.TheVariants as item
use Rattle.slub_trace.specs.declared.trace.Trace.{Trace}
use Rattle.slub_trace.specs.Sound.{objects_in}
use Rattle.slub_trace.specs.declared.create.Created.{Created}
use Rattle.slub_trace.specs.declared.create.Created.TheVariants.{New, Merged}
use Rattle.slub_trace.specs.declared.create.CreateRefusal.{CreateRefusal}
use Rattle.slub_trace.specs.declared.create.CreateRefusal.TheVariants as refusal
use Rattle.slub_slabinfo_text.specs.declared.client.ClientRound.{ClientRound}
use Rattle.slub_slabinfo_text.specs.declared.journal.Found.{Found}
use Rattle.slub_slabinfo_text.specs.declared.journal.RoundResult.{RoundResult}
use Rattle.slub_slabinfo_text.specs.declared.journal.Done.{Done}
use Rattle.slub_slabinfo_text.specs.declared.journal.Done.TheVariants as done
use Rattle.slub_slabinfo_text.specs.declared.journal.Total.{Total}

-- the name at a place of the trace's names
abbrev pub name_at : Trace → ℕ → List ℕ
name_at trace place = slice_index_or trace.names place []

-- ---- creation (`kmem_cache_create`)

-- why a name is not created, the first cause; nothing changes then
abbrev pub IsCreateRefusal : State → List ℕ → Spec → CreateRefusal → Type 0
IsCreateRefusal s name spec refusal.NameTaken = IsTaken s.table name
IsCreateRefusal s name spec refusal.TooMany =
    (¬ IsTaken s.table name) × (length s.table.live ≡ 32)
IsCreateRefusal s name spec (refusal.Layout refused.BadSize) =
    IsOpenTo s.table name × (¬ IsSize spec.size)
IsCreateRefusal s name spec (refusal.Layout refused.BadAlign) =
    IsOpenTo s.table name × IsSize spec.size × (¬ IsAlign spec.align)
IsCreateRefusal s name spec (refusal.Layout refused.BadFlags) =
    IsOpenTo s.table name × IsSize spec.size × IsAlign spec.align × (¬ IsSupported spec.flags)

-- a name is created: it is that of a new cache, or one more of a live one; or it is refused
abbrev pub CreatesName : State → List ℕ → Spec → Result Created CreateRefusal → State → Type 0
CreatesName s name spec (Ok (New cache)) after =
    IsOpenTo s.table name × IsAccepted spec × CreatesCache s name spec (made.New cache) after
CreatesName s name spec (Ok (Merged cache title)) after =
    IsOpenTo s.table name × IsAccepted spec × CreatesCache s name spec (made.Merged cache) after
    × HasTitle s.table cache title
CreatesName s name spec (Err why) after = IsCreateRefusal s name spec why × (after ≡ s)

-- ---- events

-- an event is answered
abbrev pub Answers : State → Event → Act → Reply → State → Type 0
Answers s event (Alloc place object) reply after =
    AllocatesNamed s place event.cpu event.worker object reply after
Answers s event (Free object) reply after = Frees s event.cpu event.worker object reply after
Answers s event (Write word object value) reply after =
    Writes s event.worker object word value reply after
Answers s event (Read word object) reply after =
    Reads s event.worker object word reply × (after ≡ s)
Answers s event (Poke object offset byte) reply after =
    Pokes s event.worker object offset byte reply after
Answers s event (Trim place) reply after = Trims s place reply after
Answers s event Flush reply after = Flushes s event.cpu reply after

-- the events are answered one after the other, and the machine is coherent after each
abbrev pub RunsEvents : State → List Event → List Reply → State → Type 0
RunsEvents s [] [] after = after ≡ s
RunsEvents s (event ∷ events) (reply ∷ replies) after =
    (mid : State) × Answers s event event.act reply mid × IsCoherent mid
    × RunsEvents mid events replies after
RunsEvents s _ _ after = ⊥

-- ---- what a round counts

-- the least order of a cache
abbrev pub min_order_of : Cache → ℕ
min_order_of cache = cache.layout.min_order

-- the least order of the cache that an act allocates from
abbrev pub least_order_of : State → Act → Option ℕ
least_order_of s (Alloc place object) =
    option_map min_order_of (option_and_then (cache_of s) (named s place))
least_order_of s _ = None

abbrev pub is_order : ℕ → Option ℕ → Bool
is_order order None = false
is_order order (Some other) = other == order

-- no run of this least order was there
abbrev pub lacks : State → ℕ → Event × Reply → Bool
lacks s order (event, answer) = is_no_frames answer && is_order order (least_order_of s event.act)

-- the event is one of this worker
abbrev pub is_by : ℕ → Event × Reply → Bool
is_by worker answered = answered.0.worker == worker

-- a ledger has a count for each of the orders 0 to 10
abbrev pub HasOrders : Ledger → Type 0
HasOrders ledger = length ledger.no_frames ≡ 11

-- a worker's ledger counts the replies to its events
pub record IsLedger (s : State) (answers : List (Event × Reply)) (worker : ℕ)
    (ledger : Ledger) : Type 0 where
  pub given : ledger.given ≡ count_by (λ one. is_by worker one && is_given one.1) answers
  pub freed : ledger.freed ≡ count_by (λ one. is_by worker one && is_freed one.1) answers
  pub orders : HasOrders ledger
  pub no_frames : (order : ℕ) → order < 11 → slice_index ledger.no_frames order
      ≡ count_by (λ one. is_by worker one && lacks s order one) answers

-- each worker has its ledger, in rising number
pub record AreLedgers (s : State) (answers : List (Event × Reply)) (workers : ℕ)
    (ledgers : List Ledger) : Type 0 where
  pub each : length ledgers ≡ workers
  pub counts : (worker : ℕ) (other : Ledger) → worker < workers →
      IsLedger s answers worker (slice_index_or ledgers worker other)

-- ---- damages

-- what was found of a cache, oldest first
abbrev pub reports_of : State → ℕ → List Report
reports_of s cache = option_map_or (λ slabs. slabs.reports) (checked_of s cache) []

-- the name that a live cache was made under
abbrev pub title_of : State → ℕ → List ℕ
title_of s cache = option_map_or (λ live. live.title) (cache_of s cache) []

-- what was found of a cache since the state before
abbrev pub found_of : State → State → ℕ → List Found
found_of before after cache =
    map (λ report. record { title = title_of after cache; report = report })
    (drop (length (reports_of before cache)) (reports_of after cache))

-- the numbers of caches, 0 to 31
unfoldable pub cache_numbers : List ℕ
cache_numbers = range_with_len 0 32

-- what was found since the state before, by cache number
abbrev pub found_in : State → State → List Found
found_in before after = flat_map (found_of before after) cache_numbers

-- ---- a round

-- by the order of the text its events are answered one after the other, and then what the workers
-- hold is put on the board
pub record DoesRound (s : State) (round : Round) (result : RoundResult)
    (after : State) : Type 0 where
  pub last : State
  pub runs : RunsEvents s round.events result.replies last
  pub after_is : after ≡ all_on_board last
  pub damages : result.damages ≡ found_in s last
  pub ledgers : AreLedgers s (zip round.events result.replies) round.workers result.ledgers

-- ---- items

-- an item that is neither a round nor a client's line is done on the machine's lists, by an answer
-- of its kind
unfoldable pub DoesPlain : State → Trace → Item → Done → State → Type 0
DoesPlain s trace (item.Cache place spec) (done.Created answer) after =
    CreatesName s (name_at trace place) spec answer after
DoesPlain s trace (item.Shrink place) (done.Shrunk answer) after =
    Shrinks s (name_at trace place) answer after
DoesPlain s trace (item.Destroy place) (done.Destroyed answer) after =
    Destroys s (name_at trace place) answer after
DoesPlain s trace item.Slabinfo (done.Slabinfo rows) after = (rows ≡ rows_of s) × (after ≡ s)
DoesPlain s trace (item.Tune place setting) (done.Tuned answer) after =
    Tunes s (name_at trace place) setting answer after
DoesPlain s trace _ _ after = ⊥

-- so is the item of this number
abbrev pub DoesPlainAt : State → Trace → ℕ → Done → State → Type 0
DoesPlainAt s trace number done after =
    MatchOption (slice_get trace.items number) ⊥ (λ item. DoesPlain s trace item done after)

-- the item of this number is neither a round nor a client's line
abbrev pub IsPlain : Item → Type 0
IsPlain (item.Round round) = ⊥
IsPlain (item.Client client) = ⊥
IsPlain _ = ⊤

abbrev pub IsPlainAt : Trace → ℕ → Type 0
IsPlainAt trace number = MatchOption (slice_get trace.items number) ⊥ IsPlain

-- memory is taken for a creation, a round, slabinfo and a client's line, and for no other item
abbrev pub TakesMemory : Item → Type 0
TakesMemory (item.Cache place spec) = ⊤
TakesMemory (item.Round round) = ⊤
TakesMemory item.Slabinfo = ⊤
TakesMemory (item.Client client) = ⊤
TakesMemory _ = ⊥

-- the same of the item of this number
abbrev pub TakesMemoryAt : Trace → ℕ → Type 0
TakesMemoryAt trace number = MatchOption (slice_get trace.items number) ⊥ TakesMemory

-- ---- the total

-- how many objects ledgers gave
abbrev pub given_in : List Ledger → ℕ
given_in ledgers = sum_by (λ ledger. ledger.given) ledgers

-- and how many they freed
abbrev pub freed_in : List Ledger → ℕ
freed_in ledgers = sum_by (λ ledger. ledger.freed) ledgers

-- the same of many rounds
abbrev pub given_by : List ClientRound → ℕ
given_by rounds = sum_by (λ round. given_in round.result.ledgers) rounds

abbrev pub freed_by : List ClientRound → ℕ
freed_by rounds = sum_by (λ round. freed_in round.result.ledgers) rounds

-- how many objects an item gave, by the ledgers of its round or of a client's rounds
abbrev pub given_of : Done → ℕ
given_of (done.Round result) = given_in result.ledgers
given_of (done.Client outcome) = given_by outcome.rounds
given_of _ = 0

-- and how many it freed
abbrev pub freed_of : Done → ℕ
freed_of (done.Round result) = freed_in result.ledgers
freed_of (done.Client outcome) = freed_by outcome.rounds
freed_of _ = 0

-- the same of many items
abbrev pub all_given : List Done → ℕ
all_given dones = sum_by given_of dones

abbrev pub all_freed : List Done → ℕ
all_freed dones = sum_by freed_of dones

-- the sum of a number of the counts of these caches, as far as they are live
abbrev pub counted : (Counts → ℕ) → State → List ℕ → ℕ
counted number s caches = sum_by (λ row. number row.counts) (filter_map (row_of s) caches)

-- a sum over the live caches
abbrev pub over_caches : (Counts → ℕ) → State → ℕ
over_caches number s = counted number s (reverse s.table.ages)

-- the sums of the ledgers, of the counts of the live caches, and the free frames
pub record IsTotal (s : State) (dones : List Done) (total : Total) : Type 0 where
  pub given : total.given ≡ all_given dones
  pub freed : total.freed ≡ all_freed dones
  pub live : total.live ≡ over_caches (λ counts. counts.live) s
  pub free : total.free ≡ over_caches (λ counts. counts.free) s
  pub aside : total.aside ≡ over_caches (λ counts. counts.aside) s
  pub frozen : total.frozen ≡ over_caches (λ counts. counts.frozen) s
  pub slabs : total.slabs ≡ over_caches (λ counts. counts.num_slabs) s
  pub frames : total.frames ≡ length s.pool.free

-- ---- the opening machine

-- the lists before the first item of a trace
abbrev pub opening_of : Trace → State
opening_of trace = opening trace.frames trace.cpus trace.objects trace.names

-- ---- where the machine stands

-- no object that was given and not freed has this number
abbrev pub IsUnheld : State → ℕ → Type 0
IsUnheld s object = held_under s object ≡ None

-- between rounds: what was given and not freed is on the board, no worker has it, and nothing is
-- noted as freed
pub record IsAtRest (s : State) : Type 0 where
  pub laid_down : (object : ℕ) → IfSome (held_under s object) (λ held. held.worker ≡ None)
  pub forgotten : (object : ℕ) → slice_index_or s.gone object None ≡ None

-- the numbers that the items from this one on allocate
abbrev pub coming : Trace → ℕ → List ℕ
coming trace number = flat_map objects_in (drop number trace.items)

-- the machine stands before the item of this number: its frames, CPUs, object numbers and names are
-- the trace's, it is at rest, and no object has a number that is still to be allocated
pub record IsReady (s : State) (trace : Trace) (number : ℕ) : Type 0 where
  pub coherent : IsCoherent s
  pub frames : s.frames ≡ trace.frames
  pub cpus : s.cpus ≡ trace.cpus
  pub objects : length s.board ≡ trace.objects + 1
  pub names : s.table.kept ≡ trace.names
  pub rest : IsAtRest s
  pub unheld : All (IsUnheld s) (coming trace number)
