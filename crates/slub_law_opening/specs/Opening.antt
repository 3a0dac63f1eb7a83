-- The words and lock values into which a coherent machine on plain lists opens.
use Rattle.std.specs.Prelude.{◌≡◌, ℕ, zero, suc, ◌+◌, ◌-◌, ◌/◌, ◌%◌, ◌^◌, ◌<◌, ◌≤◌, Bool, not, nat_lt, cond, List, [], ◌∷◌, length, filter, slice_index_or, Option, Some, None, is_some, IsSome, IfSome}
use Rattle.std.specs.Option.{option_map}
use Rattle.slub_common.specs.Times.{times}
use Rattle.slub_red_zone.specs.State.{CheckedState}
use Rattle.slub_words.specs.declared.cpu.CpuWord.{CpuWord}
use Rattle.slub_words.specs.declared.slab.SlabWord.{SlabWord}
use Rattle.slub_words.specs.declared.board.BoardWord.{BoardWord}
use Rattle.slub_cpu_partial.specs.declared.words.ListWord.{ListWord}
use Rattle.slub_lists.specs.declared.lists.Slab.{Slab}
use Rattle.slub_lists.specs.declared.lists.CpuLists.{CpuLists}
use Rattle.slub_lists.specs.declared.lists.Held.{Held}
use Rattle.slub_lists.specs.State.{State}
use Rattle.slub_lists.specs.Alloc.{slab_of, own_free, cache_of, checked_of, lists_of, node_of, no_lists}
use Rattle.slub_lists.specs.Coherent.{held_under}
use Rattle.slub_lists.specs.Places.{layout_at, pointer_at}
use Rattle.slub_core.specs.Setup.{Setup, Means, hardened}
use Rattle.slub_core.specs.Words.{no_slab_word}
use Rattle.slub_core.specs.World.{World, LockValue, Nothing, Node, Checked, Pool, update}

-- ---- beside the lists

-- what a machine in words has that plain lists have not
pub record Beside : Type 0 where
  -- by 16 * cache + CPU: the transaction ids
  pub tids : List ℕ
  -- by frame: what the links say of slabs that are on no CPU's partial list
  pub links : List ℕ
  -- what each change adds to a transaction id
  pub step : ℕ
  pub means : Means

abbrev pub tid_of : Beside → ℕ → ℕ
tid_of b n = slice_index_or b.tids n 0

abbrev pub link_of : Beside → ℕ → ℕ
link_of b frame = slice_index_or b.links frame 0

-- ---- what stays

-- the live caches that aren't checked, oldest first
abbrev pub plain_caches : State → List ℕ
plain_caches s = filter (λ cache. not (is_some (checked_of s cache))) s.table.ages

abbrev pub setup_of : State → Beside → Setup
setup_of s b = record {
  frames = s.frames;
  cpus = s.cpus;
  step = b.step;
  objects = length s.board;
  locks = 33;
  cpu_words = 512;
  plain = plain_caches s;
  lives = λ cache. is_some (cache_of s cache);
  layout = layout_at s;
  checks = λ cache. is_some (checked_of s cache);
  means = b.means;
}

-- ---- numbers that are laid into words

-- items, the word of each, and what is to stand there: it leads to the items behind
pub record Row : Type 0 where
  pub place : ℕ → ℕ
  pub value : ℕ → List ℕ → ℕ
  pub items : List ℕ

abbrev pub lay_items : (ℕ → ℕ) → (ℕ → List ℕ → ℕ) → List ℕ → (ℕ → ℕ) → ℕ → ℕ
lay_items place value [] words = words
lay_items place value (x ∷ xs) words =
    update (lay_items place value xs words) (place x) (value x xs)

abbrev pub lay : Row → (ℕ → ℕ) → ℕ → ℕ
lay row words = lay_items row.place row.value row.items words

-- the first n rows
abbrev pub lay_each : (ℕ → Row) → ℕ → (ℕ → ℕ) → ℕ → ℕ
lay_each rows zero words = words
lay_each rows (suc n) words = lay (rows n) (lay_each rows n words)

-- the head of a freelist, an index plus one, and the front of a string, a frame; 0 for none
abbrev pub head_of : List ℕ → ℕ
head_of [] = 0
head_of (index ∷ free) = suc index

abbrev pub front_of : List ℕ → ℕ
front_of [] = 0
front_of (frame ∷ frames) = frame

-- the free pointers of objects of a slab of a cache (`set_freepointer`)
abbrev pub freelist_row : State → ℕ → ℕ → List ℕ → Row
freelist_row s cache frame free = record {
  place = pointer_at (layout_at s cache) frame;
  value = λ index rest. hardened cache (pointer_at (layout_at s cache) frame index) (head_of rest);
  items = free;
}

-- the links of slabs of a partial list (`slab->next`)
abbrev pub string_row : List ℕ → Row
string_row frames = record {
  place = λ frame. frame;
  value = λ frame rest. front_of rest;
  items = frames;
}

-- ---- what a CPU has

-- by 16 * cache + CPU; nothing, where the machine hasn't the CPU
abbrev pub cpu_at : State → ℕ → CpuLists
cpu_at s n = cond (nat_lt (n % 16) s.cpus) (lists_of s (n / 16) (n % 16)) no_lists

abbrev pub frame_of : Option ℕ → ℕ
frame_of None = 0
frame_of (Some frame) = frame

abbrev pub cpu_word : Beside → ℕ → CpuLists → CpuWord
cpu_word b n lists =
    record { tid = tid_of b n; frame = frame_of lists.current; head = head_of lists.free }

abbrev pub list_word : List ℕ → ListWord
list_word frames = record { front = front_of frames; count = length frames }

abbrev pub cpu_row : State → ℕ → Row
cpu_row s n =
    freelist_row s (n / 16) (frame_of (cpu_at s n).current) (cpu_at s n).free

-- ---- slabs

-- the word of an unchecked slab; a slab on its node's list is marked
abbrev pub plain_word : State → ℕ → Slab → SlabWord
plain_word s frame slab = record {
  head = head_of (own_free s frame);
  inuse = slab.objects - length (own_free s frame);
  objects = slab.objects;
  frozen = slab.frozen;
  listed = nat_lt 0 (times frame (node_of s slab.cache));
  cache = slab.cache;
}

-- a checked slab has no word: it stands in the value of its cache's lock
abbrev pub slab_word : State → ℕ → Option Slab → SlabWord
slab_word s frame None = no_slab_word
slab_word s frame (Some slab) =
    cond (is_some (checked_of s slab.cache)) no_slab_word (plain_word s frame slab)

abbrev pub cache_in : Option Slab → ℕ
cache_in None = 0
cache_in (Some slab) = slab.cache

abbrev pub own_row : State → ℕ → Row
own_row s frame = freelist_row s (cache_in (slab_of s frame)) frame (own_free s frame)

-- ---- the board and the locks

abbrev pub board_word : Held → BoardWord
board_word held = record { frame = held.frame; index = held.index; cache = held.cache }

-- of a live cache its checked slabs or its node list
abbrev pub node_value : Bool → Option CheckedState → List ℕ → LockValue
node_value lives (Some slabs) frames = Checked slabs
node_value lives None frames = cond lives (Node frames) Nothing

-- lock 0 guards the pool, lock k + 1 what is the node's of cache k
abbrev pub value_of : State → ℕ → LockValue
value_of s zero = Pool s.pool
value_of s (suc cache) =
    node_value (is_some (cache_of s cache)) (checked_of s cache) (node_of s cache)

-- ---- the machine in words

-- every freelist stands in its objects' free pointers, every partial list of a CPU in the links.
-- All other words of the frames are as they were, and every lock is free
abbrev pub opened_words : State → Beside → World
opened_words s b = record {
  setup = setup_of s b;
  cpu = λ n. cpu_word b n (cpu_at s n);
  list = λ n. list_word (cpu_at s n).partial;
  slab = λ frame. slab_word s frame (slab_of s frame);
  link = lay_each (λ n. string_row (cpu_at s n).partial) 512 (link_of b);
  board = λ object. option_map board_word (held_under s object);
  memory = lay_each (cpu_row s) 512
      (lay_each (own_row s) s.frames (λ word. slice_index_or s.memory word 0));
  lock = λ n. 0;
  value = value_of s;
}

-- ---- what is asked

-- between rounds: every object that was given and not freed is on the board
abbrev pub IsLaidDown : State → Type 0
IsLaidDown s = (object : ℕ) → IfSome (held_under s object) (λ held. held.worker ≡ None)

-- what stands beside the lists fits them
pub record IsBeside (s : State) (b : Beside) : Type 0 where
  pub step : (s.cpus ≤ b.step) × (b.step ≤ 16)
  pub objects : (1 ≤ length s.board) × (length s.board ≤ 1048577)
  pub tids : length b.tids ≡ 512
  pub links : length b.links ≡ s.frames
  -- the transaction id of CPU c leaves c by the step, and a current slab can be detached
  pub tid : (n : ℕ) → tid_of b n < 2 ^ 32
  pub room : (n : ℕ) → IsSome (cpu_at s n).current → tid_of b n + b.step < 2 ^ 32
  pub remainder : (n : ℕ) → n < 512 → n % 16 < s.cpus → IsSome (cache_of s (n / 16))
      → tid_of b n % b.step ≡ n % 16
  pub link : (frame : ℕ) → link_of b frame < 2 ^ 16
