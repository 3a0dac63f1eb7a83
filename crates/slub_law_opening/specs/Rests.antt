-- A machine in words, no worker of which is in a call, and the plain lists that it rests in.
use Rattle.std.specs.Prelude.{◌≡◌, ℕ, ◌+◌, ◌/◌, ◌<◌, ◌≤◌, ◌==◌, ◌&&◌, nat_lt, cond, true, false, List, [], ◌∷◌, length, sum_by, slice_index_or, if◌then◌else◌, Option, Some, None, is_some, All}
use Rattle.std.specs.Option.{option_map, option_or}
use Rattle.slub_common.specs.Times.{times}
use Rattle.slub_lists.specs.declared.lists.Slab.{Slab}
use Rattle.slub_lists.specs.declared.lists.CpuLists.{CpuLists}
use Rattle.slub_lists.specs.declared.lists.Held.{Held}
use Rattle.slub_lists.specs.State.{State}
use Rattle.slub_lists.specs.Alloc.{slab_of, own_free, checked_of, node_of}
use Rattle.slub_lists.specs.Coherent as plain
use Rattle.slub_lists.specs.Places.{layout_at}
use Rattle.slub_lists.specs.Words.{is_word, word_at}
use Rattle.slub_words.specs.declared.board.BoardWord.{BoardWord}
use Rattle.slub_core.specs.declared.local.Known.{Known}
use Rattle.slub_core.specs.declared.spot.Spot.TheVariants.{Between}
use Rattle.slub_core.specs.Setup.{Setup, node_lock}
use Rattle.slub_core.specs.World.{World, pointer, frames_in, objects_at, cache_at, order_at, one_if, IsChain, Links}
use Rattle.slub_core.specs.Local.{Local}
use Rattle.slub_core.specs.Fresh.{IsPacked, IsWorded}
use Rattle.slub_law_opening.specs.Opening.{Beside, setup_of, cpu_at, value_of, tid_of}

-- ---- workers between two calls

-- it has no slab, no string of slabs and no run of frames in hand: all that it has are objects
pub record IsBetween (m : Setup) (l : Local) : Type 0 where
  pub between : l.spot ≡ Between
  pub hands : l.hands ≡ []
  pub string : l.string ≡ None
  pub run : l.run ≡ None
  -- what it noted are words, and its numbers are the machine's; it relies on none of its notes
  pub packed : IsPacked l
  pub cpu : l.cpu < m.cpus
  pub numbers : All (λ (k : Known). k.object < m.objects) l.known
  pub some : All (λ (k : Known). k.held ≡ true → 1 ≤ k.object) l.known

-- ---- what an object number names

abbrev pub held_on : BoardWord → Held
held_on b = record { frame = b.frame; index = b.index; cache = b.cache; worker = None }

-- the object that a worker holds under a number
abbrev pub held_in : ℕ → List Known → ℕ → Option Held
held_in worker [] object = None
held_in worker (k ∷ ks) object =
    cond (k.held && (k.object == object))
    (Some (record { frame = k.frame; index = k.index; cache = k.cache; worker = Some worker }))
    (held_in worker ks object)

abbrev pub held_among : List Local → ℕ → Option Held
held_among [] object = None
held_among (l ∷ ls) object =
    option_or (held_in l.worker l.known object) (held_among ls object)

-- the object on the board, or with a worker
abbrev pub named : World → List Local → ℕ → Option Held
named w ls object = option_or (option_map held_on (w.board object)) (held_among ls object)

-- how often a number is held, and how often it names an object
abbrev pub times_held : ℕ → Local → ℕ
times_held object l = sum_by (λ (k : Known). one_if (k.held && (k.object == object))) l.known

abbrev pub times_named : World → List Local → ℕ → ℕ
times_named w ls object = one_if (is_some (w.board object)) + sum_by (times_held object) ls

-- ---- slabs

-- the slab that begins at a frame, by its word, or by the value of its checked cache's lock
abbrev pub slab_at : World → ℕ → Option Slab
slab_at w frame = cond (nat_lt 0 (objects_at w frame))
    (Some (record {
      cache = cache_at w frame;
      order = order_at w frame;
      objects = objects_at w frame;
      frozen = (w.slab frame).frozen;
    }))
    None

-- the word of a frame, and the slab's own freelist: what isn't there is in use
pub record IsFreelistOf (w : World) (frame : ℕ) (free : List ℕ) : Type 0 where
  pub chain : IsChain (pointer w (w.slab frame).cache frame) (w.slab frame).head free
  pub in_use : (w.slab frame).inuse + length free ≡ (w.slab frame).objects

-- ---- what a CPU has

abbrev pub current_in : ℕ → Option ℕ
current_in frame = if frame == 0 then None else Some frame

-- a CPU word and a list word, what the CPU has, and its transaction id
pub record IsCpuOf (b : Beside) (w : World) (n : ℕ) (lists : CpuLists) : Type 0 where
  pub tid : (w.cpu n).tid ≡ tid_of b n
  pub current : lists.current ≡ current_in (w.cpu n).frame
  pub free : IsChain (pointer w (n / 16) (w.cpu n).frame) (w.cpu n).head lists.free
  pub count : (w.list n).count ≡ length lists.partial
  pub partial : Links w.link (w.list n).front lists.partial 0

-- ---- the whole

-- a word of an object of an unchecked cache is the same in the words as in the lists
abbrev pub KeepsWord : State → World → Held → ℕ → Type 0
KeepsWord s w held word = let p = word_at (layout_at s held.cache) held word in
    checked_of s held.cache ≡ None → is_word (layout_at s held.cache) word ≡ true
    → w.memory p ≡ slice_index_or s.memory p 0

-- the words, the values of the locks and the workers say what the lists say. They are free in what
-- the lists don't have: links of slabs on no CPU's list, and words of objects that nobody has
pub record Rests (s : State) (b : Beside) (w : World) (ls : List Local) : Type 0 where
  pub setup : w.setup ≡ setup_of s b
  pub words : IsWorded w
  pub workers : All (IsBetween w.setup) ls
  -- the locks are free, and guard the pool, the slabs of the checked caches and the node lists
  pub locks : (n : ℕ) → n < 33 → w.lock n ≡ 0
  pub values : (n : ℕ) → n < 33 → w.value n ≡ value_of s n
  pub nodes : (cache : ℕ) → node_of s cache ≡ frames_in (value_of s (node_lock cache))
  -- what CPUs have
  pub cpu : (n : ℕ) → n < 512 → IsCpuOf b w n (cpu_at s n)
  -- slabs; a slab of a checked cache has no word
  pub slab : (frame : ℕ) → slab_of s frame ≡ slab_at w frame
  pub unchecked : (frame : ℕ) → 1 ≤ (w.slab frame).objects
      → checked_of s (w.slab frame).cache ≡ None
  pub unslabbed : (frame : ℕ) → (w.slab frame).objects ≡ 0 → (w.slab frame).frozen ≡ false
  pub own : (frame : ℕ) → IsFreelistOf w frame (own_free s frame)
  pub listed : (frame : ℕ) → (w.slab frame).listed
      ≡ nat_lt 0 (times frame (node_of s (w.slab frame).cache))
  -- objects
  pub named : (object : ℕ) → plain.held_under s object ≡ named w ls object
  pub once : (object : ℕ) → times_named w ls object ≤ 1
  pub no_zero : w.board 0 ≡ None
  pub contents : (object word : ℕ) (held : Held) → plain.held_under s object ≡ Some held
      → KeepsWord s w held word
