-- Rounds: workers make steps in some order, each on the one table of words.
use Rattle.std.specs.Prelude.{ℕ, Bool, false, List, [], ◌∷◌, slice_index_or, slice_set, None, ◌≡◌}
use Rattle.slub_core.specs.declared.spot.Spot.TheVariants.{Between}
use Rattle.slub_core.specs.Setup.{Setup}
use Rattle.slub_core.specs.Words.{number_of, after_op, answer_of}
use Rattle.slub_core.specs.World.{LockValue}
use Rattle.slub_core.specs.Local.{Local}
use Rattle.slub_core.specs.Steps.{step_of, advance_of, begun}

-- the words, the values of the locks, and the workers in rising number
pub record System : Type 0 where
  pub words : List ℕ
  pub value : ℕ → LockValue
  pub locals : List Local

-- the turn that comes next
pub record Pick : Type 0 where
  -- whose step it is
  pub worker : ℕ
  -- whether memory is refused in it
  pub refused : Bool
  -- whether a call that begins with it is a try: an allocation of a cache that isn't checked then
  -- goes by the fast path alone (`slab_alloc_node`). It gives up, with no reply, where the CPU
  -- freelist is empty, so that it would go the slow way, where its exchange is lost, or where the
  -- CPU's transaction ids are spent; it stays the worker's next call then. Any other call is made
  -- the same as a try or not, and so is one that began before
  pub tries : Bool

-- a worker that has nothing to do
abbrev pub idle : Local
idle = record {
  worker = 0;
  spot = Between;
  cache = 0;
  cpu = 0;
  place = 0;
  fast = false;
  cpu_word = record { tid = 0; frame = 0; head = 0 };
  slab_word = record {
    head = 0;
    inuse = 0;
    objects = 0;
    frozen = false;
    listed = false;
    cache = 0;
  };
  list_word = record { front = 0; count = 0 };
  next = 0;
  known = [];
  hands = [];
  string = None;
  run = None;
  put = 0;
  turn = 0;
  count = 0;
  scanned = [];
  todo = [];
  done = [];
}

-- the step of a worker, on the one word of it
abbrev pub after_step : Setup → Bool → System → ℕ → Local → System
after_step m refused s worker l =
    let step = step_of m s.value l in
    let n = number_of m step.place in
    let x = slice_index_or s.words n 0 in
    let c = advance_of m refused s.value l (answer_of step.op x) in
    record {
      words = slice_set s.words n (after_op step.op x);
      value = c.value;
      locals = slice_set s.locals worker c.local;
    }

-- a worker between two calls begins the next one with its step
abbrev pub turn : Setup → System → Pick → System
turn m s pick = after_step m pick.refused s pick.worker
    (begun m pick.tries (slice_index_or s.locals pick.worker idle))

abbrev pub run : Setup → System → List Pick → System
run m s [] = s
run m s (pick ∷ picks) = run m (turn m s pick) picks

-- every call of the worker has its reply
pub record IsFinished (l : Local) : Type 0 where
  pub between : l.spot ≡ Between
  pub none : l.todo ≡ []
