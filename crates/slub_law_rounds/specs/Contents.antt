-- Where the bytes of checked caches come from in a round: by the values of the locks before it and
-- after it, and by what its workers were answered. No step stands here.
use Rattle.std.specs.Prelude.{◌≡◌, ◌≢◌, ℕ, ◌+◌, ◌*◌, ◌<◌, ◌++◌, true, List, [], ◌∷◌, slice_index, All, Option, Some, None, IfSome, if◌then◌else◌, ◌==◌, length, ◌⊎◌, ℤ, pos, ◌+ℤ◌}
use Rattle.std.specs.Int.{w64, from_le_bytes, to_le_bytes}
use Rattle.std.specs.Ordering.{int_eq}
use Rattle.std.specs.List.{Contains, Any}
use Rattle.slub_object_layout.specs.Layout.{address_of}
use Rattle.slub_trace.specs.declared.damage.Damage.{Damage}
use Rattle.slub_trace.specs.declared.damage.Report.{Report}
use Rattle.slub_red_zone.specs.declared.slab.ObjectState.TheVariants.{Aside}
use Rattle.slub_red_zone.specs.declared.checked.Slot.{Slot}
use Rattle.slub_red_zone.specs.State.{CheckedState, slab_of, state_of, aside_in, bytes_of}
use Rattle.slub_red_zone.specs.Changes.{IsObject}
use Rattle.slub_words.specs.declared.board.BoardWord.{BoardWord}
use Rattle.slub_trace.specs.declared.reply.Reply.{Reply}
use Rattle.slub_trace.specs.declared.reply.Reply.TheVariants as reply
use Rattle.slub_core.specs.declared.call.Call.{Call}
use Rattle.slub_core.specs.declared.call.CallKind.TheVariants.{Poke}
use Rattle.slub_core.specs.declared.local.Answered.{Answered}
use Rattle.slub_core.specs.Calls.{call_kind, call_object, call_word, call_value, call_offset, call_byte}
use Rattle.slub_core.specs.Setup.{Setup, node_lock}
use Rattle.slub_core.specs.World.{World, LockValue}
use Rattle.slub_core.specs.Checked.{slabs_in}
use Rattle.slub_core.specs.Replies.{address_by, cache_by, IsOfChecked}

-- ---- where a byte comes from

-- the slabs of a checked cache, as its lock guards them
abbrev pub slabs_at : Setup → (ℕ → LockValue) → ℕ → CheckedState
slabs_at m value cache = slabs_in (m.layout cache) (value (node_lock cache))

-- this byte stands at this address, in the slot of an object
pub record IsByteAt (slabs : CheckedState) (at : ℤ) (byte : ℕ) : Type 0 where
  pub slot : Slot
  pub object : IsObject slabs slot
  pub place : ℕ
  pub inside : place < slabs.layout.size
  pub address : pos (slot.frame * 4096 + slot.index * slabs.layout.size + place) ≡ at
  pub is : slice_index (bytes_of slabs slot) place ≡ byte

-- a poke of an object of this cache put this byte at this address and was answered Poked; `own` are
-- the replies of its worker before it, the last one first, which tell where the object is
pub record WasPoked (m : Setup) (board : ℕ → Option BoardWord) (dones : List (List Answered))
    (cache : ℕ) (at : ℤ) (byte : ℕ) : Type 0 where
  pub own : List Answered
  pub one : Answered
  pub later : List Answered
  pub there : Contains dones (later ++ one ∷ own)
  pub asks : call_kind one.call ≡ Poke
  pub done : one.reply ≡ reply.Poked
  pub puts : call_byte one.call ≡ byte
  pub of : cache_by board own (call_object one.call) ≡ Some cache
  pub address : ℕ
  pub object : address_by m board own (call_object one.call) ≡ Some address
  pub is : pos address +ℤ (call_offset one.call) ≡ at

-- the byte stood there before the round, or was put there by a poke
abbrev pub Came : Setup → World → List (List Answered) → ℕ → ℤ → ℕ → Type 0
Came m before dones cache at byte =
    IsByteAt (slabs_at m before.value cache) at byte ⊎ WasPoked m before.board dones cache at byte

-- ---- what is told of damages: `came` says which bytes came to which addresses of the cache

-- the damage of an object at this address: a byte that isn't the wanted one, and that came there
pub record IsDamage (came : ℤ → ℕ → Type 0) (address : ℕ) (damage : Damage) : Type 0 where
  pub other : damage.found ≢ damage.wanted
  pub there : came (pos address +ℤ damage.offset) damage.found

-- the report is of an object that is set aside
pub record IsReport (came : ℤ → ℕ → Type 0) (slabs : CheckedState) (report : Report)
    : Type 0 where
  pub slot : Slot
  pub aside : state_of slabs slot ≡ Some Aside
  pub cache : report.cache ≡ slabs.cache
  pub address : report.address ≡ address_of slot.frame slot.index slabs.layout
  pub bad : IsDamage came report.address report.damage

-- of an object of the slab at this frame
abbrev pub IsReportIn : (ℤ → ℕ → Type 0) → CheckedState → ℕ → Report → Type 0
IsReportIn came slabs frame report =
    (told : IsReport came slabs report) × (told.slot.frame ≡ frame)

-- one checked cache
pub record KeepsSlabs (came : ℤ → ℕ → Type 0) (before after : CheckedState) : Type 0 where
  pub number : after.cache ≡ before.cache
  pub layout : after.layout ≡ before.layout
  -- reports stay, and each new one tells of a damage
  pub found : List Report
  pub added : after.reports ≡ before.reports ++ found
  pub told : All (IsReport came after) found
  -- an object that is set aside after, and wasn't before, has a new report of its slab
  pub aside : (slot : Slot) → state_of after slot ≡ Some Aside
      → (state_of before slot ≡ Some Aside) ⊎ Any (IsReportIn came after slot.frame) found
  -- so has a slab of which more objects are
  pub more_aside : (frame : ℕ)
      → aside_in (slab_of before frame) < aside_in (slab_of after frame)
      → Any (IsReportIn came after frame) found

-- ---- replies; `own` are those of the same worker before, the last one first

-- the object of the call is found damaged
pub record IsCorrupt (m : Setup) (before : World) (dones : List (List Answered))
    (own : List Answered) (call : Call) (damage : Damage) : Type 0 where
  pub cache : ℕ
  pub of : cache_by before.board own (call_object call) ≡ Some cache
  pub address : ℕ
  pub object : address_by m before.board own (call_object call) ≡ Some address
  pub bad : IsDamage (Came m before dones cache) address damage

-- what a call with this reply put in a byte of a word of its object, or else what was put there
abbrev pub put_after : Call → Reply → ℕ → ℕ → Option ℕ → Option ℕ
put_after call (reply.Given address) word place x = None
put_after call reply.Wrote word place x =
    if call_word call == word then Some (slice_index (to_le_bytes w64 (call_value call)) place)
    else x
put_after call reply.Poked word place x =
    if int_eq (call_offset call) (pos (8 * word + place)) then Some (call_byte call) else x
put_after call _ word place x = x

-- what the worker put there last since it was given the object
abbrev pub last_put : List Answered → ℕ → ℕ → ℕ → Option ℕ
last_put [] object word place = None
last_put (one ∷ own) object word place =
    if call_object one.call == object
    then put_after one.call one.reply word place (last_put own object word place)
    else last_put own object word place

-- a byte was put at this address by a poke under another object number
abbrev pub IsPokedUnder : Setup → (ℕ → Option BoardWord) → List (List Answered) → ℕ → ℕ → ℤ → ℕ
    → Type 0
IsPokedUnder m board dones cache object at byte =
    (poked : WasPoked m board dones cache at byte) × (call_object poked.one.call ≢ object)

-- the byte is the one that the worker put there last, or it was poked there under another number
abbrev pub IsPut : Setup → World → List (List Answered) → ℕ → ℕ → ℤ → ℕ → ℕ → Type 0
IsPut m before dones cache object at put byte =
    (byte ≡ put) ⊎ IsPokedUnder m before.board dones cache object at byte

-- a byte that is read, by what its worker put there last: that one; or where it put nothing there
-- since it took the object from the board, one that came there
abbrev pub IsReadByte
    : Setup → World → List (List Answered) → ℕ → ℕ → ℤ → Option ℕ → ℕ → Type 0
IsReadByte m before dones cache object at (Some put) byte =
    IsPut m before dones cache object at put byte
IsReadByte m before dones cache object at None byte =
    IfSome (before.board object) (λ b. Came m before dones cache at byte)

-- a value is eight bytes, the least first
pub record IsValue (m : Setup) (before : World) (dones : List (List Answered))
    (own : List Answered) (call : Call) (value : ℕ) : Type 0 where
  pub cache : ℕ
  pub of : cache_by before.board own (call_object call) ≡ Some cache
  pub address : ℕ
  pub object : address_by m before.board own (call_object call) ≡ Some address
  pub bytes : List ℕ
  pub eight : length bytes ≡ 8
  pub spelled : value ≡ from_le_bytes w64 bytes
  pub each : (place : ℕ) → place < 8 → IsReadByte m before dones cache (call_object call)
      (pos (address + (8 * call_word call + place)))
      (last_put own (call_object call) (call_word call) place)
      (slice_index bytes place)

-- what a reply tells of bytes
abbrev pub TellsOfByte : Setup → World → List (List Answered) → List Answered → Call → Reply → Type 0
TellsOfByte m before dones own call (reply.Corrupt damage) = IsCorrupt m before dones own call damage
TellsOfByte m before dones own call (reply.Value value) =
    IsOfChecked m (cache_by before.board own (call_object call))
    → IsValue m before dones own call value
TellsOfByte m before dones own call _ = Unit {0}

-- each reply of one worker
abbrev pub AreTold : Setup → World → List (List Answered) → List Answered → Type 0
AreTold m before dones [] = Unit {0}
AreTold m before dones (one ∷ own) =
    TellsOfByte m before dones own one.call one.reply × AreTold m before dones own

-- ---- the round

-- from the machine before it to the values of the locks after it, where the workers have these
-- replies
pub record KeepsContents (m : Setup) (before : World) (after : ℕ → LockValue)
    (dones : List (List Answered)) : Type 0 where
  -- of each checked cache
  pub slabs : (cache : ℕ) → m.checks cache ≡ true
      → KeepsSlabs (Came m before dones cache) (slabs_at m before.value cache)
      (slabs_at m after cache)
  -- of each worker
  pub told : All (AreTold m before dones) dones
