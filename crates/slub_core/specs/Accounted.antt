-- Board, counts, contents and replies agree with what the workers did since the round began.
use Rattle.std.specs.Prelude.{◌≡◌, ℕ, suc, ◌+◌, ◌*◌, ◌^◌, ◌<◌, ◌≤◌, Bool, true, false, ◌==◌, cond, List, [], ◌∷◌, length, slice_index, slice_index_or, map, sum_by, All, Option, Some, None, IfSome, ◌⊎◌}
use Rattle.slub_words.specs.declared.board.BoardWord.{BoardWord}
use Rattle.slub_core.specs.declared.call.Call.{Call}
use Rattle.slub_core.specs.declared.call.CallKind.{CallKind}
use Rattle.slub_core.specs.declared.call.CallKind.TheVariants.{Alloc, Write, Read, Trim}
use Rattle.slub_core.specs.declared.local.Known.{Known}
use Rattle.slub_core.specs.declared.local.Answered.{Answered}
use Rattle.slub_core.specs.Calls.{call_kind, call_cpu, call_cache, call_object, call_place, call_word}
use Rattle.slub_core.specs.Setup.{Setup}
use Rattle.slub_core.specs.World.{World, content, pool_of, one_if}
use Rattle.slub_core.specs.Local.{Local, Worker, nobody, here, call_of, address_in}
use Rattle.slub_core.specs.Spots.{doing, frees, is_freeing}
use Rattle.slub_core.specs.Replies.{given_in, freed_in, asked_in, dry_in, holding, knows, address_by, address_on, cache_by, last_wrote, is_alloc, names_object, Public, Caused}

-- ---- what a worker knows, by object number

-- the place of the object among what it knows
abbrev pub place_of : List Known → ℕ → ℕ
place_of [] o = 0
place_of (k ∷ ks) o = cond (k.object == o) 0 (suc (place_of ks o))

abbrev pub known_of : List Known → ℕ → Known
known_of ks o = slice_index_or ks (place_of ks o) nobody

-- each number is known at one place
abbrev pub AreDistinct : List Known → Type 0
AreDistinct [] = Unit {0}
AreDistinct (k ∷ ks) = (place_of ks k.object ≡ length ks) × AreDistinct ks

-- a call fits the machine, and where it is of an object it names its place. One that asks for no
-- CPU has CPU 0, with which it begins (`first_cpu`)
pub record CallFits (m : Setup) (known : List Known) (c : Call) : Type 0 where
  pub cpu : call_cpu c < m.cpus
  pub object : names_object (call_kind c) ≡ true → (1 ≤ call_object c) × (call_object c < m.objects)
  pub place : names_object (call_kind c) ≡ true → call_place c ≡ place_of known (call_object c)
  pub inside : names_object (call_kind c) ≡ true → call_place c < length known
  pub cache : IfSome (call_cache c) (λ k. m.lives k ≡ true)

-- ---- reads and writes that are asked for

-- whether one of these calls, the last one first, is to allocate the object
abbrev pub was_asked : List Call → ℕ → Bool
was_asked [] o = false
was_asked (c ∷ cs) o =
    cond (call_object c == o) (cond (is_alloc (call_kind c)) true (was_asked cs o)) (was_asked cs o)

-- whether a write of the word stands among these calls, the last one first, and after an allocation
-- of the object where one stands there
abbrev pub written_by : Call → CallKind → ℕ → Bool → Bool
written_by c Alloc a was = false
written_by c Write a was = cond (call_word c == a) true was
written_by c kind a was = was

abbrev pub written : List Call → ℕ → ℕ → Bool
written [] o a = false
written (c ∷ cs) o a =
    cond (call_object c == o) (written_by c (call_kind c) a (written cs o a)) (written cs o a)

-- a read is asked for only after a write of the same word
abbrev pub MayCome : List Call → Call → CallKind → Type 0
MayCome past c Read = written past (call_object c) (call_word c) ≡ true
MayCome past c kind = Unit {0}

abbrev pub AreReadable : List Call → List Call → Type 0
AreReadable past [] = Unit {0}
AreReadable past (c ∷ cs) = MayCome past c (call_kind c) × AreReadable (c ∷ past) cs

abbrev pub calls_of : List Answered → List Call
calls_of ds = map (λ (d : Answered). d.call) ds

-- ---- one worker

-- it is in its first call that has no reply
pub record IsDoing (l : Local) (kind : CallKind) : Type 0 where
  pub some : 1 ≤ length l.todo
  pub same_kind : call_kind (call_of l) ≡ kind
  pub object : names_object kind ≡ true → call_object (call_of l) ≡ (here l).object
  pub place : l.place ≡ call_place (call_of l)

-- the cache of its call is the one that the call names
abbrev pub NamesCache : Local → CallKind → Type 0
NamesCache l Alloc = (call_cache (call_of l) ≡ Some l.cache) × (call_cpu (call_of l) ≡ l.cpu)
NamesCache l Trim = call_cache (call_of l) ≡ Some l.cache
NamesCache l kind = Unit {0}

-- its records and its replies agree
pub record IsTold (m : Setup) (before : ℕ → Option BoardWord) (p : Public) (l : Local)
    : Type 0 where
  pub caused : Caused m before p l.done
  -- what it holds it was given, or took from the board and answered Corrupt or is freeing
  pub holds : (o : ℕ) → (is_freeing l.spot ≡ true → o ≡ (here l).object → ⊥)
      → (known_of l.known o).held ≡ holding l.done o
  pub source : is_freeing l.spot ≡ true → (holding l.done (here l).object ≡ true)
      ⊎ (address_on m (before (here l).object) ≡ Some (address_in m (here l)))
  -- what it knows is where the replies and the board before say
  pub address : (o : ℕ) → (known_of l.known o).held ≡ true
      → address_by m before l.done o ≡ Some (address_in m (known_of l.known o))
  pub cache : (o : ℕ) → (known_of l.known o).held ≡ true
      → cache_by before l.done o ≡ Some (known_of l.known o).cache
  pub tells : (o : ℕ) → knows l.done o ≡ true
      → (address_by m before l.done o ≡ Some (address_in m (known_of l.known o)))
      × (cache_by before l.done o ≡ Some (known_of l.known o).cache)
      × (1 ≤ (known_of l.known o).frame)
  pub unknown : (o : ℕ) → 1 ≤ (known_of l.known o).frame → (knows l.done o ≡ true)
      ⊎ ((known_of l.known o).held ≡ true)
  -- its calls
  pub call : (kind : CallKind) → doing l.spot ≡ Some kind → IsDoing l kind × NamesCache l kind
  pub fits : All (CallFits m l.known) l.todo
  pub distinct : AreDistinct l.known
  pub numbers : All (λ (k : Known). k.object < m.objects) l.known

-- what it wrote in the objects that it holds stands there; but in the one that it frees a free
-- pointer may stand
pub record HasWritten (w : World) (before : ℕ → Option BoardWord) (l : Local) : Type 0 where
  pub stands : (o a v : ℕ) → (frees l.spot ≡ true → o ≡ (here l).object → ⊥)
      → (known_of l.known o).held ≡ true → w.setup.checks (known_of l.known o).cache ≡ false
      → last_wrote l.done o a ≡ Some v
      → content w (known_of l.known o).cache (known_of l.known o).frame
      (known_of l.known o).index a ≡ v
  -- a word that was written lies in the object
  pub inside : (o a v : ℕ) → (known_of l.known o).held ≡ true → last_wrote l.done o a ≡ Some v
      → 8 * (a + 1) ≤ (w.setup.layout (known_of l.known o).cache).object_size
  pub reads : AreReadable (calls_of l.done) l.todo
  pub new : (o : ℕ) → was_asked (calls_of l.done) o ≡ true → before o ≡ None

-- ---- all workers

abbrev pub boarded : Option BoardWord → ℕ
boarded None = 0
boarded (Some b) = 1

-- 1 where the worker holds the object, and how often it freed it
abbrev pub had : ℕ → Local → ℕ
had o l = one_if (known_of l.known o).held + freed_in o l.done

abbrev pub public : World → List Worker → Public
public w xs = record {
  boarded = λ o. boarded (w.board o);
  freed = λ o. sum_by (λ (x : Worker). freed_in o x.local.done) xs;
  tid = λ n. (w.cpu n).tid;
}

pub record IsAccounted (opening w : World) (xs : List Worker) : Type 0 where
  -- the setup stays, no transaction id falls
  pub setup : w.setup ≡ opening.setup
  pub tids : (n : ℕ) → (opening.cpu n).tid ≤ (w.cpu n).tid
  -- the board is the one before less what was taken from it
  pub within : (o : ℕ) (b : BoardWord) → opening.board o ≡ Some b → (1 ≤ o) × (o < w.setup.objects)
  pub stands : (o : ℕ) → (w.board o ≡ None) ⊎ (w.board o ≡ opening.board o)
  -- each number is on the board, held or freed as often as it was on the board before or was given;
  -- and that is once at most
  pub count : (o : ℕ) → boarded (w.board o) + sum_by (λ (x : Worker). had o x.local) xs
      ≡ boarded (opening.board o) + sum_by (λ (x : Worker). given_in o x.local.done) xs
  pub once : (o : ℕ) → boarded (opening.board o)
      + sum_by (λ (x : Worker). given_in o x.local.done) xs
      + sum_by (λ (x : Worker). asked_in o x.local.todo) xs ≤ 1
  -- a pool that lacked a run of an order has counted it: each is a NoFrames
  pub few : (sum_by (λ (x : Worker). length x.local.done + length x.local.todo) xs ≤ 2 ^ 32)
      × ((order : ℕ) → slice_index (pool_of opening).dry order ≤ 2 ^ 62)
  pub dry : (order : ℕ)
      → slice_index (pool_of w).dry order ≡ slice_index (pool_of opening).dry order
      + sum_by (λ (x : Worker). dry_in w.setup order x.local.done) xs
  -- each worker's records, and what it wrote
  pub told : All (λ (x : Worker). IsTold w.setup opening.board (public w xs) x.local) xs
  pub written : All (λ (x : Worker). HasWritten w opening.board x.local) xs
