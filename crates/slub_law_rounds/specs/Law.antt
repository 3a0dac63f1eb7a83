-- The law: in a machine that is coherent the turn of any worker keeps what is said of contents.
use Rattle.std.specs.Prelude.{◌≡◌, ℕ, ◌+◌, ◌*◌, ◌<◌, ◌≤◌, Bool, true, false, ◌&&◌, ◌||◌, ◌==◌, List, [], ◌∷◌, slice_index, Option, Some, None, ◌⊎◌, ℤ, pos, All}
use Rattle.std.specs.List.{Contains, Any}
use Rattle.slub_object_layout.specs.declared.layout.Flags.{Flags}
use Rattle.slub_object_layout.specs.declared.layout.Layout.{Layout}
use Rattle.slub_object_layout.specs.Layout.{address_of}
use Rattle.slub_words.specs.declared.board.BoardWord.{BoardWord}
use Rattle.slub_trace.specs.declared.reply.Reply.{Reply}
use Rattle.slub_trace.specs.declared.reply.Reply.TheVariants as reply
use Rattle.slub_red_zone.specs.Changes.{IsObject}
use Rattle.slub_core.specs.Round.{freed_over}
use Rattle.slub_red_zone.specs.declared.slab.ObjectState.{ObjectState}
use Rattle.slub_red_zone.specs.declared.slab.ObjectState.TheVariants.{Free, Used, Aside}
use Rattle.slub_red_zone.specs.declared.zones.Part.{Part}
use Rattle.slub_red_zone.specs.State.{CheckedState, slab_of, state_of, bytes_of}
use Rattle.slub_red_zone.specs.Zones.{examined_free, examined_used}
use Rattle.slub_red_zone.specs.Bytes.{IsIn}
use Rattle.slub_core.specs.declared.local.Known.{Known}
use Rattle.slub_core.specs.declared.local.Answered.{Answered}
use Rattle.slub_core.specs.Calls.{call_object, call_word}
use Rattle.slub_core.specs.Setup.{Setup}
use Rattle.slub_core.specs.World.{World, LockValue, world_of}
use Rattle.slub_core.specs.Local.{Local, address_in}
use Rattle.slub_core.specs.Replies.{holding}
use Rattle.slub_core.specs.Accounted.{known_of}
use Rattle.slub_core.specs.Run.{System, Pick, turn, run}
use Rattle.slub_core.specs.Opening.{IsOpening, opened}
use Rattle.slub_core.specs.Law.{IsCoherentSystem, replies_of}
use Rattle.slub_law_rounds.specs.Contents.{slabs_at, Came, last_put, IsPut, KeepsContents}

-- ---- between any two steps of all workers

-- which parts of an object's slot are looked at when it is given or taken back
abbrev pub examined : Layout → Flags → Option ObjectState → List Part
examined layout flags None = []
examined layout flags (Some Free) = examined_free layout flags
examined layout flags (Some Used) = examined_used layout flags
examined layout flags (Some Aside) = []

-- each byte of these parts is the wanted one, or one that came there
abbrev pub AreBytes : (ℤ → ℕ → Type 0) → CheckedState → Type 0
AreBytes came s =
    (frame index place : ℕ) (part : Part)
    → Contains (examined s.layout s.flags
    (state_of s (record { frame = frame; index = index }))) part
    → IsIn part place
    → let byte = slice_index (slab_of s frame).bytes (index * s.layout.size + place) in
    (byte ≡ part.wanted) ⊎ came (pos (frame * 4096 + index * s.layout.size + place)) byte

-- a byte of a word of an object
abbrev pub byte_in : CheckedState → Known → ℕ → ℕ → ℕ
byte_in s k word place =
    slice_index (bytes_of s (record { frame = k.frame; index = k.index }))
    (s.layout.left_pad + (8 * word + place))

-- what a worker put in the words of a checked object that it holds stands there
abbrev pub HasWords : Setup → World → List (List Answered) → (ℕ → LockValue) → Local → Type 0
HasWords m opening dones value l =
    (object word place put : ℕ) → let k = known_of l.known object in k.held ≡ true
    → holding l.done object ≡ true → m.checks k.cache ≡ true
    → last_put l.done object word place ≡ Some put
    → 8 * (word + 1) ≤ (m.layout k.cache).object_size → place < 8
    → IsPut m opening dones k.cache object (pos (address_in m k + (8 * word + place))) put
    (byte_in (slabs_at m value k.cache) k word place)

-- whether one of these replies of a worker is to a write of the word of the object
abbrev pub is_wrote : Reply → Bool
is_wrote reply.Wrote = true
is_wrote _ = false

abbrev pub wrote : List Answered → ℕ → ℕ → Bool
wrote [] object word = false
wrote (one ∷ own) object word =
    (is_wrote one.reply && (call_object one.call == object) && (call_word one.call == word))
    || wrote own object word

-- where a checked object of the board stood, which nobody has freed, there stand bytes that came
-- there, or somebody wrote the word
abbrev pub HasBoarded : Setup → World → List (List Answered) → (ℕ → LockValue) → Type 0
HasBoarded m opening dones value =
    (object frame index word place : ℕ) (b : BoardWord) → opening.board object ≡ Some b
    → m.checks b.cache ≡ true → freed_over object dones ≡ 0
    → IsObject (slabs_at m value b.cache) (record { frame = frame; index = index })
    → address_of frame index (m.layout b.cache) ≡ address_of b.frame b.index (m.layout b.cache)
    → 8 * (word + 1) ≤ (m.layout b.cache).object_size → place < 8
    → let s = slabs_at m value b.cache in
    Came m opening dones b.cache
    (pos (address_of b.frame b.index (m.layout b.cache) + (8 * word + place)))
    (slice_index (bytes_of s (record { frame = frame; index = index }))
    (s.layout.left_pad + (8 * word + place)))
    ⊎ Any (λ own. wrote own object word ≡ true) dones

-- reports, objects set aside and replies so far have their causes, and the bytes that will be
-- looked at are whole or have theirs
pub record HasContents (m : Setup) (opening : World) (s : System) : Type 0 where
  pub contents : KeepsContents m opening s.value (replies_of s)
  pub bytes : (cache : ℕ) → m.checks cache ≡ true
      → AreBytes (Came m opening (replies_of s) cache) (slabs_at m s.value cache)
  pub words : All (HasWords m opening (replies_of s) s.value) s.locals
  pub boarded : HasBoarded m opening (replies_of s) s.value

-- ---- the law

-- whatever the other workers are at, the turn of any worker keeps that
abbrev pub TurnsKeepContents : Type 0
TurnsKeepContents =
    (m : Setup) (opening : World) (s : System) (pick : Pick) → IsCoherentSystem m opening s
    → HasContents m opening s → HasContents m opening (turn m s pick)

-- so does every run, in whatever order the workers make their turns
abbrev pub RunsKeepContents : Type 0
RunsKeepContents =
    (m : Setup) (opening : World) (s : System) (picks : List Pick) → IsCoherentSystem m opening s
    → HasContents m opening s → HasContents m opening (run m s picks)

-- and a round begins so
abbrev pub RoundsBeginWithContents : Type 0
RoundsBeginWithContents =
    (m : Setup) (s : System) → IsOpening m s
    → HasContents m (world_of m s.value s.words) (opened m s)

-- after any turns of a round, so too once every call has its reply
abbrev pub RoundsEndWithContents : Type 0
RoundsEndWithContents =
    (m : Setup) (s : System) (picks : List Pick) → IsOpening m s
    → let end = run m (opened m s) picks in
    KeepsContents m (world_of m s.value s.words) end.value (replies_of end)
