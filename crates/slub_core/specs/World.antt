-- The state of the machine, as reads of its words, with the values of its locks; and what is
-- counted in it.
use Rattle.std.specs.Prelude.{◌≡◌, ℕ, zero, suc, ◌+◌, ◌-◌, ◌*◌, ◌^◌, Bool, ◌&&◌, ◌==◌, nat_lt, nat_le, cond, List, [], ◌∷◌, slice_index_or, Option, Some, None}
use Rattle.slub_common.specs.Times.{times}
use Rattle.slub_page_pool.specs.FreeFrames.{FreeFrames}
use Rattle.slub_red_zone.specs.State.{CheckedState, slab_of, objects_in}
use Rattle.slub_red_zone.specs.Objects.{idle}
use Rattle.slub_words.specs.declared.cpu.CpuWord.{CpuWord}
use Rattle.slub_words.specs.declared.slab.SlabWord.{SlabWord}
use Rattle.slub_words.specs.declared.board.BoardWord.{BoardWord}
use Rattle.slub_cpu_partial.specs.declared.words.ListWord.{ListWord}
use Rattle.slub_core.specs.Setup.{Setup, pool_lock, pointer_at, word_at, hardened}
use Rattle.slub_object_layout.specs.Layout.{order_for}
use Rattle.slub_core.specs.Words.{list_base, cpu_base, slab_base, board_base, memory_base, link_base, cpu_in, slab_in, board_in, list_in}

-- ---- the state

-- what a lock guards: a node list, head first, the slabs of a checked cache, the pool; nothing
-- where its cache isn't live
pub data LockValue : Type 0 where
  Nothing : LockValue
  Node : (frames : List ℕ) → LockValue
  Checked : (slabs : CheckedState) → LockValue
  Pool : (pool : FreeFrames) → LockValue

-- what the words say, and what the locks guard. A lock's value stays here while a worker has the
-- lock: that worker alone changes it
pub record World : Type 0 where
  pub setup : Setup
  -- by 16 * cache + CPU
  pub cpu : ℕ → CpuWord
  pub list : ℕ → ListWord
  -- by frame
  pub slab : ℕ → SlabWord
  pub link : ℕ → ℕ
  -- by object number
  pub board : ℕ → Option BoardWord
  -- by word: the addresses 8 * word to 8 * word + 7
  pub memory : ℕ → ℕ
  -- by lock: 0, or the number of the worker that has it plus one
  pub lock : ℕ → ℕ
  pub value : ℕ → LockValue

-- a function changed at one number
abbrev pub update {ℓ} : {A : Type ℓ} → (ℕ → A) → ℕ → A → ℕ → A
update g n v k = cond (k == n) v (g k)

abbrev pub set_cpu : World → ℕ → CpuWord → World
set_cpu w n v = record w { cpu = update w.cpu n v }

abbrev pub set_list : World → ℕ → ListWord → World
set_list w n v = record w { list = update w.list n v }

abbrev pub set_slab : World → ℕ → SlabWord → World
set_slab w f v = record w { slab = update w.slab f v }

abbrev pub set_link : World → ℕ → ℕ → World
set_link w f v = record w { link = update w.link f v }

abbrev pub set_board : World → ℕ → Option BoardWord → World
set_board w o v = record w { board = update w.board o v }

abbrev pub set_memory : World → ℕ → ℕ → World
set_memory w p v = record w { memory = update w.memory p v }

abbrev pub set_lock : World → ℕ → ℕ → World
set_lock w n v = record w { lock = update w.lock n v }

abbrev pub set_value : World → ℕ → LockValue → World
set_value w n v = record w { value = update w.value n v }

-- ---- what is read of it

-- the free pointer of an object, made plain again: an index plus one, 0 for none; more than 16 bits
-- where no pointer was stored
abbrev pub pointer : World → ℕ → ℕ → ℕ → ℕ
pointer w cache frame index = let p = pointer_at w.setup cache frame index in
    hardened cache p (w.memory p)

-- a word of an object
abbrev pub content : World → ℕ → ℕ → ℕ → ℕ → ℕ
content w cache frame index word = w.memory (word_at w.setup cache frame index word)

abbrev pub frames_in : LockValue → List ℕ
frames_in Nothing = []
frames_in (Node frames) = frames
frames_in (Checked slabs) = []
frames_in (Pool pool) = []

abbrev pub no_frames : FreeFrames
no_frames = record { frames = 0; free = []; dry = [] }

abbrev pub pool_in : LockValue → FreeFrames
pool_in Nothing = no_frames
pool_in (Node frames) = no_frames
pool_in (Checked slabs) = no_frames
pool_in (Pool pool) = pool

abbrev pub pool_of : World → FreeFrames
pool_of w = pool_in (w.value pool_lock)

-- how many objects a checked slab at a frame has, 0 where none is there, and its order
abbrev pub size_in : LockValue → ℕ → ℕ
size_in Nothing f = 0
size_in (Node frames) f = 0
size_in (Checked slabs) f = objects_in (slab_of slabs f)
size_in (Pool pool) f = 0

abbrev pub order_in : LockValue → ℕ → ℕ
order_in Nothing f = 0
order_in (Node frames) f = 0
order_in (Checked slabs) f = (slab_of slabs f).order
order_in (Pool pool) f = 0

-- 1 where the object is a checked one that is free or set aside
abbrev pub idle_in : LockValue → ℕ → ℕ → ℕ
idle_in Nothing f i = 0
idle_in (Node frames) f i = 0
idle_in (Checked slabs) f i = idle slabs f i
idle_in (Pool pool) f i = 0

-- ---- slabs, by their words or by the value of a checked cache's lock

-- of the last of the first n locks whose value has a slab at the frame: its objects, its cache and
-- its order
abbrev pub objects_in_values : (ℕ → LockValue) → ℕ → ℕ → ℕ
objects_in_values value zero f = 0
objects_in_values value (suc n) f =
    cond (nat_lt 0 (size_in (value n) f)) (size_in (value n) f) (objects_in_values value n f)

abbrev pub cache_in_values : (ℕ → LockValue) → ℕ → ℕ → ℕ
cache_in_values value zero f = 0
cache_in_values value (suc n) f =
    cond (nat_lt 0 (size_in (value n) f)) (n - 1) (cache_in_values value n f)

abbrev pub order_in_values : (ℕ → LockValue) → ℕ → ℕ → ℕ
order_in_values value zero f = 0
order_in_values value (suc n) f =
    cond (nat_lt 0 (size_in (value n) f)) (order_in (value n) f) (order_in_values value n f)

-- a slab at a frame: how many objects it has, 0 where none begins there, its cache and its order
abbrev pub objects_at : World → ℕ → ℕ
objects_at w f = cond (nat_lt 0 (w.slab f).objects) (w.slab f).objects
    (objects_in_values w.value w.setup.locks f)

abbrev pub cache_at : World → ℕ → ℕ
cache_at w f = cond (nat_lt 0 (w.slab f).objects) (w.slab f).cache
    (cache_in_values w.value w.setup.locks f)

abbrev pub order_at : World → ℕ → ℕ
order_at w f =
    cond (nat_lt 0 (w.slab f).objects)
    (order_for (w.setup.layout (w.slab f).cache) (w.slab f).objects)
    (order_in_values w.value w.setup.locks f)

-- ---- counting

abbrev pub one_if : Bool → ℕ
one_if b = cond b 1 0

abbrev pub sum_below : ℕ → (ℕ → ℕ) → ℕ
sum_below zero g = 0
sum_below (suc n) g = sum_below n g + g n

-- 1 where this is the object
abbrev pub is_at : ℕ → ℕ → ℕ → ℕ → Bool
is_at g j f i = (g == f) && (j == i)

-- how often the object i of slab f stands in a chain of slab g
abbrev pub in_chain : ℕ → List ℕ → ℕ → ℕ → ℕ
in_chain g xs f i = cond (g == f) (times i xs) 0

-- 1 where the board word is of this object
abbrev pub on_board : Option BoardWord → ℕ → ℕ → ℕ
on_board None f i = 0
on_board (Some b) f i = one_if (is_at b.frame b.index f i)

-- 1 where there is such an object: by the slab's word alone, and of a checked cache too
abbrev pub exists_at : World → ℕ → ℕ → ℕ
exists_at w f i = one_if (nat_lt i (w.slab f).objects)

abbrev pub object_at : World → ℕ → ℕ → ℕ
object_at w f i = one_if (nat_lt i (objects_at w f))

-- 1 where an unchecked slab begins at the frame
abbrev pub live : SlabWord → ℕ
live s = one_if (nat_lt 0 s.objects)

-- 1 for a slab that is to be on no list: unfrozen and unmarked, with no object to give
abbrev pub off_list : SlabWord → ℕ
off_list s = cond s.frozen 0 (cond s.listed 0 (cond (s.head == 0) (live s) 0))

-- 1 where the frame is one of the 2 ^ order frames from this one on
abbrev pub in_run : ℕ → ℕ → ℕ → ℕ
in_run g frame order = one_if (nat_le frame g && nat_lt g (frame + 2 ^ order))

-- 1 where the slab that begins at f has the frame
abbrev pub covers : World → ℕ → ℕ → ℕ
covers w g f = cond (nat_lt 0 (objects_at w f)) (in_run g f (order_at w f)) 0

-- ---- chains and strings

-- the objects from a head on, each leading to the next, up to an end: 0, or the head of another
-- chain
abbrev pub Leads : (ℕ → ℕ) → ℕ → List ℕ → ℕ → Type 0
Leads next head [] end = head ≡ end
Leads next head (x ∷ xs) end = (head ≡ suc x) × Leads next (next x) xs end

-- a freelist: it ends with 0
abbrev pub IsChain : (ℕ → ℕ) → ℕ → List ℕ → Type 0
IsChain next head xs = Leads next head xs 0

-- the slabs from a front on, each linked to the next, up to an end
abbrev pub Links : (ℕ → ℕ) → ℕ → List ℕ → ℕ → Type 0
Links link front [] end = front ≡ end
Links link front (f ∷ fs) end = (front ≡ f) × Links link (link f) fs end

-- the slabs of a string, whatever its last link says
abbrev pub IsString : (ℕ → ℕ) → ℕ → List ℕ → Type 0
IsString link front [] = Unit {0}
IsString link front (f ∷ fs) = (front ≡ f) × IsString link (link f) fs

-- what the words lead to: each CPU freelist, each slab's own freelist, each CPU's partial list
pub record Chains : Type 0 where
  pub cpu : ℕ → List ℕ
  pub own : ℕ → List ℕ
  pub list : ℕ → List ℕ

-- ---- the list of words

-- word n of a class that begins at a base and has so many words
unfoldable pub word_in : List ℕ → ℕ → ℕ → ℕ → ℕ
word_in words base room n = cond (nat_lt n room) (slice_index_or words (base + n) 0) 0

-- of object numbers, which begin with 1: number 0 has no word
unfoldable pub board_words : Setup → List ℕ → ℕ → ℕ
board_words m words o = cond (o == 0) 0 (word_in words (board_base m) m.objects o)

unfoldable pub world_from : Setup → (ℕ → LockValue) → (ℕ → ℕ) → (ℕ → ℕ) → (ℕ → ℕ) → (ℕ → ℕ)
    → (ℕ → ℕ) → (ℕ → ℕ) → (ℕ → ℕ) → World
world_from m values locks lists cpus slabs boards memory links = record {
  setup = m;
  cpu = λ n. cpu_in (cpus n);
  list = λ n. list_in (lists n);
  slab = λ f. slab_in (slabs f);
  link = links;
  board = λ o. board_in (boards o);
  memory = memory;
  lock = locks;
  value = values;
}

-- the state of a machine of these words and lock values
unfoldable pub world_of : Setup → (ℕ → LockValue) → List ℕ → World
world_of m values words =
    world_from m values (word_in words 0 m.locks) (word_in words list_base m.cpu_words)
    (word_in words cpu_base m.cpu_words)
    (word_in words slab_base m.frames) (board_words m words)
    (word_in words (memory_base m) (512 * m.frames)) (word_in words (link_base m) m.frames)
