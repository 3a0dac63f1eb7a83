-- Bytes of checked caches that are not as they should be, before a round and after it. No step is
-- here.
use Rattle.std.specs.Prelude.{◌≡◌, ◌≢◌, ℕ, ◌+◌, ◌*◌, true, List, [], ◌∷◌, slice_index, All, Option, Some, ◌⊎◌, ℤ, pos}
use Rattle.std.specs.List.{Contains}
use Rattle.slub_red_zone.specs.declared.checked.Slot.{Slot}
use Rattle.slub_trace.specs.declared.damage.Damage.{Damage}
use Rattle.slub_red_zone.specs.declared.zones.Part.{Part}
use Rattle.slub_red_zone.specs.Bytes.{IsIn}
use Rattle.slub_red_zone.specs.State.{CheckedState, slab_of, state_of}
use Rattle.slub_words.specs.declared.board.BoardWord.{BoardWord}
use Rattle.slub_trace.specs.declared.reply.Reply.{Reply}
use Rattle.slub_trace.specs.declared.reply.Reply.TheVariants as reply
use Rattle.slub_core.specs.declared.call.Call.{Call}
use Rattle.slub_core.specs.declared.local.Answered.{Answered}
use Rattle.slub_core.specs.Calls.{call_object}
use Rattle.slub_core.specs.Law.{replies_of}
use Rattle.slub_core.specs.Opening.{IsOpening, opened}
use Rattle.slub_core.specs.Replies.{address_by, cache_by}
use Rattle.slub_core.specs.Run.{System, Pick, run}
use Rattle.slub_core.specs.Setup.{Setup}
use Rattle.slub_core.specs.World.{World, LockValue, world_of}
use Rattle.slub_law_rounds.specs.Contents.{IsDamage, KeepsSlabs, WasPoked, slabs_at}
use Rattle.slub_law_rounds.specs.Law.{examined}

-- a byte is off: it stands in a part of an object's slot that is looked at when the object is given
-- or taken back, and isn't the wanted one
pub record IsOff (slabs : CheckedState) (at : ℤ) (byte : ℕ) : Type 0 where
  pub slot : Slot
  pub part : Part
  pub looked_at : Contains (examined slabs.layout slabs.flags (state_of slabs slot)) part
  pub place : ℕ
  pub inside : IsIn part place
  pub address : pos (slot.frame * 4096 + slot.index * slabs.layout.size + place) ≡ at
  pub is : slice_index (slab_of slabs slot.frame).bytes (slot.index * slabs.layout.size + place)
      ≡ byte
  pub unwanted : byte ≢ part.wanted

-- ---- what is told of damages: `came` says which bytes came to which addresses of a cache

-- the object of the call is found damaged; `own` are the replies of its worker before, the last one
-- first
pub record IsFound (came : ℕ → ℤ → ℕ → Type 0) (m : Setup) (board : ℕ → Option BoardWord)
    (own : List Answered) (call : Call) (damage : Damage) : Type 0 where
  pub cache : ℕ
  pub of : cache_by board own (call_object call) ≡ Some cache
  pub address : ℕ
  pub object : address_by m board own (call_object call) ≡ Some address
  pub bad : IsDamage (came cache) address damage

-- what a reply tells of damages
abbrev pub Finds : (ℕ → ℤ → ℕ → Type 0) → Setup → (ℕ → Option BoardWord) → List Answered → Call
    → Reply → Type 0
Finds came m board own call (reply.Corrupt damage) = IsFound came m board own call damage
Finds came m board own call _ = Unit {0}

-- each reply of one worker
abbrev pub AreFound : (ℕ → ℤ → ℕ → Type 0) → Setup → (ℕ → Option BoardWord) → List Answered
    → Type 0
AreFound came m board [] = Unit {0}
AreFound came m board (one ∷ own) =
    Finds came m board own one.call one.reply × AreFound came m board own

-- ---- the round

-- the byte was off there before the round, or was put there by a poke
abbrev pub WasOff : Setup → World → List (List Answered) → ℕ → ℤ → ℕ → Type 0
WasOff m before dones cache at byte =
    IsOff (slabs_at m before.value cache) at byte ⊎ WasPoked m before.board dones cache at byte

-- from the machine before it to the values of the locks after it, where the workers have these
-- replies
pub record KeepsOff (m : Setup) (before : World) (after : ℕ → LockValue)
    (dones : List (List Answered)) : Type 0 where
  -- of each checked cache: each byte that is off after it
  pub bytes : (cache : ℕ) → m.checks cache ≡ true → (at : ℤ) (byte : ℕ)
      → IsOff (slabs_at m after cache) at byte → WasOff m before dones cache at byte
  -- and each that a new report tells of
  pub slabs : (cache : ℕ) → m.checks cache ≡ true
      → KeepsSlabs (WasOff m before dones cache) (slabs_at m before.value cache)
      (slabs_at m after cache)
  -- of each worker: each that a free was answered
  pub told : All (AreFound (WasOff m before dones) m before.board) dones

-- after any turns of a round, in whatever order the workers make them
abbrev pub RoundsEndWithPokes : Type 0
RoundsEndWithPokes =
    (m : Setup) (s : System) (picks : List Pick) → IsOpening m s
    → let end = run m (opened m s) picks in
    KeepsOff m (world_of m s.value s.words) end.value (replies_of end)
