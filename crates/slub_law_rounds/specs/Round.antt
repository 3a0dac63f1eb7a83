-- Which rounds are lawful: by their events, replies and ledgers and by the machine before and after
-- alone, whatever the number of workers and however their steps came after one another.
use Rattle.std.specs.Prelude.{◌≡◌, ◌≢◌, ℕ, ◌+◌, ◌*◌, ◌^◌, ◌<◌, ◌≤◌, ◌↔◌, ◌⊎◌, if◌then◌else◌, Bool, true, false, List, length, count_by, Option, Some, None, IsSome, IfSome, MatchOption, ⊤, All, Contains, nat_eq, slice_index, ℤ, pos, ◌+ℤ◌}
use Rattle.std.specs.Int.{from_le_bytes, w64}
use Rattle.std.specs.List.{IsDistinct, fold, zip}
use Rattle.std.specs.Option.{option_and_then, option_map, option_map_or}
use Rattle.slub_trace.specs.declared.event.Act.{Act}
use Rattle.slub_trace.specs.declared.event.Act.TheVariants.{Alloc, Free, Write, Read, Poke, Trim, Flush}
use Rattle.slub_trace.specs.declared.event.Round.{Round}
use Rattle.slub_object_layout.specs.declared.layout.Layout.{Layout}
use Rattle.slub_object_layout.specs.Layout.{address_of}
use Rattle.slub_trace.specs.declared.damage.Report.{Report}
use Rattle.slub_red_zone.specs.State.{CheckedState, aside_in, objects_in, slab_of as checked_slab}
use Rattle.slub_trace.specs.declared.reply.Reply.{Reply}
use Rattle.slub_trace.specs.declared.reply.Reply.TheVariants as reply
use Rattle.slub_lists.specs.declared.lists.Held.{Held}
use Rattle.slub_lists.specs.State.{State}
use Rattle.slub_lists.specs.Alloc.{cache_of, checked_of, named}
use Rattle.slub_lists.specs.Coherent.{IsCoherent, held_under}
use Rattle.slub_lists.specs.Words.{is_word}
use Rattle.slub_trace.specs.Sound.{objects_of}
use Rattle.slub_slabinfo_text.specs.declared.journal.Found.{Found}
use Rattle.slub_slabinfo_text.specs.declared.journal.RoundResult.{RoundResult}
use Rattle.slub_slabinfo_text.specs.Lawful.{AreLedgers, IsAtRest, IsUnheld, lacks}
use Rattle.slub_law_rounds.specs.Answered.{Answered, IsAfter, holding, is_alloc_of, last_put, last_written, of_worker, times_freed, times_given, times_taken}

-- what a round allocates are numbers of the machine, which have no object, and each number once
pub record RoundFits (s : State) (round : Round) : Type 0 where
  pub within : All (λ object. object < length s.board) (objects_of round.events)
  pub unheld : All (IsUnheld s) (objects_of round.events)
  pub distinct : IsDistinct nat_eq (objects_of round.events)

-- ---- where an object is

-- an object, by its cache and its address in bytes
pub record Spot : Type 0 where
  pub cache : ℕ
  pub address : ℕ

-- an object of a live cache
abbrev pub spot_of : State → Held → Option Spot
spot_of s held =
    option_map (λ live. record {
      cache = held.cache;
      address = address_of held.frame held.index live.layout;
    }) (cache_of s held.cache)

-- the object that a number on the board names
abbrev pub spot_under : State → ℕ → Option Spot
spot_under s object = option_and_then (spot_of s) (held_under s object)

-- the object at an address of the cache that an act names
abbrev pub spot_asked : State → Act → ℕ → Option Spot
spot_asked s (Alloc place object) address =
    option_map (λ cache. record { cache = cache; address = address }) (named s place)
spot_asked s _ address = None

-- what a number names to a worker after one more of its events
abbrev pub spot_after : State → ℕ → Option Spot → Answered → Option Spot
spot_after before object spot (event, reply.Given address) =
    if is_alloc_of object event.act then spot_asked before event.act address else spot
spot_after before object spot _ = spot

-- what a number names to the worker to which these events were answered: what it was given last
-- under this number, or else what was on the board before the round
abbrev pub spot_by : State → ℕ → List Answered → Option Spot
spot_by before object own = fold (spot_after before object) (spot_under before object) own

-- the layout of a cache
abbrev pub layout_of : State → Spot → Option Layout
layout_of s spot = option_map (λ live. live.layout) (cache_of s spot.cache)

-- the word lies in the object
abbrev pub has_word : State → ℕ → List Answered → ℕ → Bool
has_word before object own word =
    option_map_or (λ layout. is_word layout word)
    (option_and_then (layout_of before) (spot_by before object own)) false

-- the object's cache is checked
abbrev pub IsOfChecked : State → ℕ → List Answered → Type 0
IsOfChecked before object own =
    MatchOption (spot_by before object own) ⊥ (λ spot. IsSome (checked_of before spot.cache))

-- the name at a place is that of a checked cache
abbrev pub NamesChecked : State → ℕ → Type 0
NamesChecked before place =
    MatchOption (named before place) ⊥ (λ cache. IsSome (checked_of before cache))

-- or of a live one that isn't checked
abbrev pub NamesUnchecked : State → ℕ → Type 0
NamesUnchecked before place =
    MatchOption (named before place) ⊥ (λ cache. checked_of before cache ≡ None)

-- ---- why an event is answered so: `own` are the events of the same worker before it, `answers`
-- ---- all of the round, of every worker

-- what is given is no object that the worker holds, and none that was on the board before, but for
-- one that was freed in the round
pub record IsSpare (before : State) (answers own : List Answered) (address : ℕ) : Type 0 where
  pub unheld : (object : ℕ) → holding object own ≡ true
      → IfSome (spot_by before object own) (λ spot. spot.address ≢ address)
  pub off_board : (object : ℕ) → IfSome (spot_under before object)
      (λ spot. spot.address ≡ address → 0 < times_freed object answers)

-- a transaction id at which no two more changes are sure to fit; a change adds 16 at most
abbrev pub IsNearEnd : ℕ → Type 0
IsNearEnd tid = 2 ^ 32 ≤ tid + 2 * 16

-- the name is live, but where it is answered that it isn't; memory lacks for a checked cache alone,
-- and transaction ids for one that isn't, near their end
abbrev pub AllocCause : State → List Answered → List Answered → ℕ → Reply → Type 0
AllocCause before answers own place (reply.Given address) =
    IsSome (named before place) × IsSpare before answers own address
AllocCause before answers own place reply.NoFrames = IsSome (named before place)
AllocCause before answers own place reply.NoMemory = NamesChecked before place
AllocCause before answers own place (reply.IdsSpent tid) =
    NamesUnchecked before place × IsNearEnd tid
AllocCause before answers own place reply.NoSuchCache = named before place ≡ None
AllocCause before answers own place _ = ⊥

-- the worker holds what it would free, or it was on the board before the round
abbrev pub IsFreeable : State → List Answered → ℕ → Type 0
IsFreeable before own object = (holding object own ≡ true) ⊎ IsSome (held_under before object)

-- what is freed, or found damaged, is the worker's or was on the board, and only an object of a
-- checked cache is found damaged; what isn't held was not on the board before the round, or another
-- free took it
abbrev pub FreeCause : State → List Answered → List Answered → ℕ → Reply → Type 0
FreeCause before answers own object (reply.Freed address) =
    IsFreeable before own object
    × MatchOption (spot_by before object own) ⊥ (λ spot. spot.address ≡ address)
FreeCause before answers own object (reply.Corrupt damage) =
    IsFreeable before own object × IsOfChecked before object own
    × (damage.found ≢ damage.wanted)
FreeCause before answers own object reply.NotHeld =
    (holding object own ≡ false)
    × ((held_under before object ≡ None) ⊎ (0 < times_taken object answers))
FreeCause before answers own object _ = ⊥

-- a write answers that the number isn't held exactly where the worker doesn't hold it, and that the
-- word lies outside exactly where it holds the object and that is so
abbrev pub WriteCause : State → List Answered → ℕ → ℕ → Reply → Type 0
WriteCause before own object word reply.Wrote =
    (holding object own ≡ true) × (has_word before object own word ≡ true)
WriteCause before own object word reply.OutOfObject =
    (holding object own ≡ true) × (has_word before object own word ≡ false)
WriteCause before own object word reply.NotHeld = holding object own ≡ false
WriteCause before own object word _ = ⊥

-- a byte was poked at this address under another number than the object's: that of an object which
-- stood there before, and was freed in the round
pub record IsPokedUnder (before : State) (answers : List Answered) (object : ℕ) (at : ℤ) (byte : ℕ)
    : Type 0 where
  pub worker : ℕ
  pub own : List Answered
  pub one : Answered
  pub there : IsAfter answers worker own one
  pub other : ℕ
  pub offset : ℤ
  pub differs : other ≢ object
  pub asks : one.0.act ≡ Poke other offset byte
  pub done : one.1 ≡ reply.Poked
  pub spot : Spot
  pub names : spot_by before other own ≡ Some spot
  pub is : pos spot.address +ℤ offset ≡ at

-- where a byte of a word of an object is
abbrev pub IsByteAt : State → ℕ → List Answered → ℕ → ℕ → ℤ → Type 0
IsByteAt before object own word place at =
    MatchOption (spot_by before object own) ⊥ (λ spot. pos (spot.address + (8 * word + place)) ≡ at)

-- this byte of a word is the one that the worker put there last, by a write or a poke under the
-- object's number, or it was poked there under another number
abbrev pub IsOwnByte : State → List Answered → List Answered → ℕ → ℕ → ℕ → ℕ → Type 0
IsOwnByte before answers own object word place byte =
    IfSome (last_put object word place own) (λ put. (byte ≡ put)
    ⊎ ((at : ℤ) × IsByteAt before object own word place at
    × IsPokedUnder before answers object at byte))

-- the value is that of eight bytes, the least first, which the worker put there last
pub record IsOwnBytes (before : State) (answers own : List Answered) (object word value : ℕ)
    : Type 0 where
  pub bytes : List ℕ
  pub eight : length bytes ≡ 8
  pub spelled : value ≡ from_le_bytes w64 bytes
  pub each : (place : ℕ) → place < 8
      → IsOwnByte before answers own object word place (slice_index bytes place)

-- the value is what the worker wrote there last, if it wrote there since the object was given; of a
-- checked object pokes are laid over it, byte by byte
pub record IsOwnValue (before : State) (answers own : List Answered) (object word value : ℕ)
    : Type 0 where
  pub unchecked : (¬ IsOfChecked before object own)
      → IfSome (last_written object word own) (λ written. value ≡ written)
  pub checked : IsOfChecked before object own → IsOwnBytes before answers own object word value

-- a read answers like a write, with its worker's value
abbrev pub ReadCause : State → List Answered → List Answered → ℕ → ℕ → Reply → Type 0
ReadCause before answers own object word (reply.Value value) =
    (holding object own ≡ true) × (has_word before object own word ≡ true)
    × IsOwnValue before answers own object word value
ReadCause before answers own object word reply.OutOfObject =
    (holding object own ≡ true) × (has_word before object own word ≡ false)
ReadCause before answers own object word reply.NotHeld = holding object own ≡ false
ReadCause before answers own object word _ = ⊥

-- a poke is answered by one of four replies
abbrev pub PokeCause : Reply → Type 0
PokeCause reply.Poked = ⊤
PokeCause reply.OutOfSlot = ⊤
PokeCause reply.NotChecked = ⊤
PokeCause reply.NotHeld = ⊤
PokeCause _ = ⊥

-- a trim answers that the name isn't live exactly where that is so, that its cache is checked
-- exactly where it is, and otherwise how many slabs went
abbrev pub TrimCause : State → ℕ → Reply → Type 0
TrimCause before place (reply.Trimmed slabs) = NamesUnchecked before place
TrimCause before place reply.Checked = NamesChecked before place
TrimCause before place reply.NoSuchCache = named before place ≡ None
TrimCause before place _ = ⊥

-- a flush answers how many slabs its CPU had, and never refuses
abbrev pub FlushCause : Reply → Type 0
FlushCause (reply.Flushed slabs) = ⊤
FlushCause _ = ⊥

-- the cause of a reply, which is one of those that the act has
abbrev pub ReplyCause : State → List Answered → List Answered → Act → Reply → Type 0
ReplyCause before answers own (Alloc place object) reply = AllocCause before answers own place reply
ReplyCause before answers own (Free object) reply = FreeCause before answers own object reply
ReplyCause before answers own (Write word object value) reply = WriteCause before own object word reply
ReplyCause before answers own (Read word object) reply = ReadCause before answers own object word reply
ReplyCause before answers own (Poke object offset byte) reply = PokeCause reply
ReplyCause before answers own (Trim place) reply = TrimCause before place reply
ReplyCause before answers own Flush reply = FlushCause reply

-- ---- the board

-- the event gave the object at this spot under this number
abbrev pub IsGiftOf : State → ℕ → Spot → Answered → Type 0
IsGiftOf before object spot (event, reply.Given address) =
    (is_alloc_of object event.act ≡ true) × (spot_asked before event.act address ≡ Some spot)
IsGiftOf before object spot _ = ⊥

-- one of the events did
abbrev pub WasGivenAt : State → List Answered → ℕ → Spot → Type 0
WasGivenAt before answers object spot =
    (one : Answered) × Contains answers one × IsGiftOf before object spot one

-- the board after is the board before and what was given, less what was freed
pub record IsBoardAfter (before : State) (answers : List Answered) (after : State) : Type 0 where
  pub numbers : (object : ℕ) → IsSome (held_under after object)
      ↔ ((IsSome (held_under before object) ⊎ (0 < times_given object answers))
      × (times_freed object answers ≡ 0))
  -- a number that stays keeps its place
  pub stays : (object : ℕ) → IfSome (held_under before object)
      (λ held. (held_under after object ≡ Some held) ⊎ (held_under after object ≡ None))
  -- one that comes stands at the address that was answered, in the cache that its event names
  pub comes : (object : ℕ) → held_under before object ≡ None
      → IfSome (spot_under after object) (WasGivenAt before answers object)
  -- no number is freed twice
  pub once : (object : ℕ) → times_freed object answers ≤ 1
  -- what was on the board before is freed, or found damaged, by one worker
  pub one_worker : (object one other : ℕ) → IsSome (held_under before object)
      → 0 < times_taken object (of_worker one answers)
      → 0 < times_taken object (of_worker other answers) → one ≡ other

-- ---- damages

-- how many objects of a slab of a checked cache are set aside
abbrev pub aside_at : State → ℕ → ℕ → ℕ
aside_at s cache frame =
    option_map_or (λ slabs. aside_in (checked_slab slabs frame)) (checked_of s cache) 0

-- the address is that of an object of the slab at this frame
abbrev pub IsAddressIn : CheckedState → ℕ → ℕ → Type 0
IsAddressIn slabs frame address =
    (index : ℕ) × (index < objects_in (checked_slab slabs frame))
    × (address ≡ address_of frame index slabs.layout)

-- the report names an object of the slab at this frame
abbrev pub IsOfSlab : State → ℕ → ℕ → Report → Type 0
IsOfSlab s cache frame report =
    (report.cache ≡ cache)
    × MatchOption (checked_of s cache) ⊥ (λ slabs. IsAddressIn slabs frame report.address)

-- ---- the round

-- for each event of each worker: its reply has its cause
abbrev pub HaveCauses : State → List Answered → Type 0
HaveCauses before answers =
    (worker : ℕ) (own : List Answered) (one : Answered) → IsAfter answers worker own one
    → ReplyCause before answers own one.0.act one.1

-- the want of frames is counted by least order, once for each reply that tells of it, as far as the
-- counts go
abbrev pub CountsWant : State → List Answered → State → Type 0
CountsWant before answers after =
    (order : ℕ) → order < 11
    → slice_index before.pool.dry order + count_by (lacks before order) answers < 2 ^ 64
    → slice_index after.pool.dry order
    ≡ slice_index before.pool.dry order + count_by (lacks before order) answers

-- more objects of a slab are set aside with a report of one of its objects alone
abbrev pub ReportsAside : State → List Found → State → Type 0
ReportsAside before damages after =
    (cache frame : ℕ) → aside_at before cache frame < aside_at after cache frame
    → (found : Found) × Contains damages found × IsOfSlab after cache frame found.report

-- replies, ledgers and damages of a round, and the machine after it, are lawful for the machine
-- before
pub record IsRound (before : State) (round : Round) (result : RoundResult)
    (after : State) : Type 0 where
  -- one reply per event, each with its cause
  pub replies : length result.replies ≡ length round.events
  pub causes : HaveCauses before (zip round.events result.replies)
  -- the machine is coherent and at rest, with the sizes, names and caches that it had
  pub coherent : IsCoherent after
  pub rest : IsAtRest after
  pub frames : after.frames ≡ before.frames
  pub cpus : after.cpus ≡ before.cpus
  pub objects : length after.board ≡ length before.board
  pub table : after.table ≡ before.table
  pub board : IsBoardAfter before (zip round.events result.replies) after
  -- each worker's ledger counts the replies to its events
  pub ledgers : AreLedgers before (zip round.events result.replies) round.workers result.ledgers
  pub dry : CountsWant before (zip round.events result.replies) after
  -- a report tells of another byte than the wanted one
  pub damages : All (λ found. found.report.damage.found ≢ found.report.damage.wanted) result.damages
  pub aside : ReportsAside before result.damages after
