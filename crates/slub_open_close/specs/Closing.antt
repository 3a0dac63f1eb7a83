-- A machine in words whose round is over, and the plain lists that it closes into.
use Rattle.std.specs.Prelude.{◌≡◌, ℕ, suc, ◌+◌, ◌*◌, ◌/◌, ◌%◌, ◌<◌, ◌≤◌, List, [], length, map, replicate, sum_by, slice_index_or, vec_capacity, None, All}
use Rattle.std.specs.Option.{option_or}
use Rattle.std.specs.List.{range_with_len}
use Rattle.slub_lists.specs.State.{State}
use Rattle.slub_lists.specs.Alloc.{no_lists}
use Rattle.slub_lists.specs.Coherent.{IsCoherent, all_on_board, held_of}
use Rattle.slub_core.specs.declared.local.Known.{Known}
use Rattle.slub_core.specs.Accounted.{AreDistinct}
use Rattle.slub_core.specs.Law.{IsCoherentSystem}
use Rattle.slub_core.specs.Local.{Local}
use Rattle.slub_core.specs.Run.{System}
use Rattle.slub_core.specs.World.{World, LockValue, frames_in, pool_in, world_of}
use Rattle.slub_core.specs.declared.guarded.Guarded.{Guarded}
use Rattle.slub_core.specs.declared.guarded.Guarded.TheVariants.{Nothing}
use Rattle.slub_core.specs.Facts.{Facts}
use Rattle.slub_core.specs.Facts as local
use Rattle.slub_core.specs.Values.{values_of, rooms_of, HasPool}
use Rattle.slub_schedule.specs.Table.{WordTable, IsTableOf}
use Rattle.slub_law_opening.specs.Opening.{setup_of}
use Rattle.slub_law_opening.specs.Opening as opening
use Rattle.slub_law_opening.specs.Rests.{held_among}
use Rattle.slub_law_opening.specs.Closing.{Closes, MayClose, checked_in}
use Rattle.slub_law_opening.specs.Laws.{MayOpen}
use Rattle.slub_open_close.specs.declared.beside.Beside.{Beside}
use Rattle.slub_open_close.specs.declared.opened.KeptNode.{KeptNode}
use Rattle.slub_open_close.specs.declared.opened.Rest.{Rest}
use Rattle.slub_open_close.specs.Opened.{room_of}
use Rattle.slub_open_close.specs.Rest.{IsRestOf}
use Rattle.slub_open_close.specs.Joins.{Joins}
use Rattle.slub_open_close.specs.Reads.{slab_at, own_at, lists_at, cpu_word_in, on_board}

-- ---- when it closes

abbrev pub system_of : WordTable → List Guarded → List Local → System
system_of table values locals =
    record { words = table.words; value = values_of values; locals = locals }

-- the machine was opened from s and b, has been coherent since then, and no worker is in a call;
-- its table has the sizes that it had, and each node list the room
pub record IsEnded (facts : Facts) (table : WordTable) (values : List Guarded) (rest : Rest)
    (locals : List Local) (s : State) (b : opening.Beside) (world : World) : Type 0 where
  pub setup : local.setup_of facts b.means ≡ setup_of s b
  pub may_open : MayOpen s b
  pub sizes : IsTableOf (setup_of s b) table
  pub waiting : IsRestOf s rest
  pub rooms : rooms_of values ≡ map (room_of s) (range_with_len 0 33)
  pub coherent : IsCoherentSystem (setup_of s b) world (system_of table values locals)
  pub may_close : MayClose s b (system_of table values locals)

-- ---- what it closes into

-- each word of a frame is as it stands in the machine, whoever has it, and nothing is noted as
-- freed
pub record KeepsWords (s : State) (b : opening.Beside) (system : System) (t : State) : Type 0 where
  pub memory : (p : ℕ) → slice_index_or t.memory p 0
      ≡ (world_of (setup_of s b) system.value system.words).memory p
  pub gone : t.gone ≡ replicate (length t.board) None

-- the lists are those into which the machine closes; they are coherent, and with all objects on the
-- board they may be opened again
pub record IsClosed (s : State) (b : opening.Beside) (system : System) (t : State)
    (d : opening.Beside) : Type 0 where
  pub closes : Closes s b system t d
  pub words : KeepsWords s b system t
  pub coherent : IsCoherent t
  pub again : MayOpen (all_on_board t) d

-- ---- how

-- the vectors that waited have the sizes of a machine
pub record HasSizes (rest : Rest) : Type 0 where
  pub frames : rest.frames ≤ 4096
  pub cpus : (1 ≤ rest.cpus) × (rest.cpus ≤ 16)
  pub slabs : length rest.slabs.items ≡ rest.frames
  pub frees : length rest.frees ≡ rest.frames
  pub cpu_lists : length rest.cpu_lists.items ≡ 32 * rest.cpus
  pub board : length rest.board.items ≤ 1048577
  pub gone : length rest.gone.items ≡ length rest.board.items
  pub live : length rest.live.items ≡ 32
  pub tids : length rest.tids.items ≡ 512
  pub links : length rest.links.items ≡ rest.frames

-- where words of the table begin: of object number 0, and links
abbrev pub board_at : Rest → ℕ
board_at rest = 1056 + rest.frames

abbrev pub links_at : Rest → ℕ
links_at rest = 1056 + rest.frames + length rest.board.items + 512 * rest.frames

-- what each worker knows are numbers of the machine, each once
abbrev pub AreKnown : ℕ → List Local → Type 0
AreKnown objects locals = All (λ (l : Local). AreDistinct l.known
    × All (λ (k : Known). k.object < objects) l.known) locals

-- the vectors say what the words of the table and those of the frames say, and the others are as
-- they were
pub record IsWrittenBack (facts : Facts) (words memory : List ℕ) (value : ℕ → LockValue)
    (locals : List Local) (old new : Rest) : Type 0 where
  pub sizes : HasSizes new
  pub objects : length new.board.items ≡ length old.board.items
  pub rest : new ≡ record old {
    slabs = new.slabs;
    frees = new.frees;
    cpu_lists = new.cpu_lists;
    board = new.board;
    gone = new.gone;
    live = new.live;
    tids = new.tids;
    links = new.links;
  }
  pub slabs : (frame : ℕ) → frame < old.frames
      → slice_index_or new.slabs.items frame None ≡ slab_at facts words value frame
  pub frees : (frame : ℕ) → frame < old.frames
      → slice_index_or new.frees frame [] ≡ own_at facts words memory frame
  pub lists : (place : ℕ) → place < 32 * old.cpus
      → slice_index_or new.cpu_lists.items place no_lists
      ≡ lists_at facts words memory (links_at old)
      (place / old.cpus * 16 + place % old.cpus)
  pub board : AreKnown (length old.board.items) locals
      → (object : ℕ) → object < length old.board.items
      → slice_index_or new.board.items object None
      ≡ option_or (on_board words (board_at old) object) (held_among locals object)
  pub gone : new.gone.items ≡ replicate (length old.board.items) None
  pub live : (cache : ℕ) → cache < 32
      → slice_index_or new.live.items cache 0 ≡ sum_by (held_of cache) new.board.items
  pub tids : (n : ℕ) → n < 512
      → slice_index_or new.tids.items n 0 ≡ (cpu_word_in words n).tid
  pub links : new.links.items ≡ replicate old.frames 0

-- what the locks guard goes back to what was kept of the node lists
pub record MayTakeBack (values : List Guarded) (rest : Rest) : Type 0 where
  pub count : length values ≡ 33
  pub pool : HasPool values
  pub kept : length rest.kept.items ≡ 32
  pub joins : (cache : ℕ) (otherwise : KeptNode) → cache < 32
      → Joins (slice_index_or values (suc cache) Nothing)
      (slice_index_or rest.kept.items cache otherwise)
  pub nodes : (rest.nodes.items ≡ []) × (32 ≤ vec_capacity rest.nodes)
  pub checked : length rest.checked.items ≡ 32

-- the machine that is put together has what was written, what the locks guarded, and these words of
-- the frames
pub record IsPutTogether (step : ℕ) (value : ℕ → LockValue) (rest : Rest) (memory : List ℕ)
    (t : State) (beside : Beside) : Type 0 where
  pub lists : t ≡ record {
    frames = rest.frames;
    cpus = rest.cpus;
    pool = pool_in (value 0);
    slabs = rest.slabs.items;
    frees = rest.frees;
    table = rest.table;
    cpu_lists = rest.cpu_lists.items;
    nodes = t.nodes;
    checked = t.checked;
    memory = memory;
    board = rest.board.items;
    gone = rest.gone.items;
    live = rest.live.items;
  }
  pub node_count : length t.nodes ≡ 32
  pub nodes : (cache : ℕ) → cache < 32
      → slice_index_or t.nodes cache [] ≡ frames_in (value (suc cache))
  pub checked_count : length t.checked ≡ 32
  pub checked : (cache : ℕ) → cache < 32
      → slice_index_or t.checked cache None ≡ checked_in (value (suc cache))
  pub tids : beside.tids.items ≡ rest.tids.items
  pub links : beside.links.items ≡ rest.links.items
  pub raise : beside.step ≡ step
