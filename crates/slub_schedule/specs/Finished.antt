-- A round in which each worker is finished: what it leaves of the machine and with the workers.
use Rattle.std.specs.Prelude.{◌≡◌, ℕ, ◌<◌, ◌≤◌, true, false, List, [], map, sum_by, All, Option, Some, None}
use Rattle.slub_words.specs.declared.board.BoardWord.{BoardWord}
use Rattle.slub_core.specs.Setup.{Setup}
use Rattle.slub_core.specs.World.{World, Chains, content, world_of, one_if}
use Rattle.slub_core.specs.Local.{Local, Worker, address_in}
use Rattle.slub_core.specs.Replies.{holding, knows, address_by, cache_by, last_wrote}
use Rattle.slub_core.specs.Accounted.{known_of}
use Rattle.slub_core.specs.Coherent.{IsCoherent}
use Rattle.slub_core.specs.Run.{System}

-- ---- the machine

-- a worker with no slab in hand
abbrev pub empty_handed : Local → Worker
empty_handed l = record { local = l; chains = []; string = [] }

-- nothing is under way
pub record IsQuiet (m : Setup) (opening : World) (s : System) : Type 0 where
  -- no lock is taken
  pub locks : (n : ℕ) → n < m.locks → (world_of m s.value s.words).lock n ≡ 0
  -- no worker has a slab, a string of slabs or a run of frames in hand
  pub hands : All (λ (l : Local). l.hands ≡ []) s.locals
  pub string : All (λ (l : Local). l.string ≡ None) s.locals
  pub run : All (λ (l : Local). l.run ≡ None) s.locals
  -- each object, slab and frame is in one place, of which none is a worker's hand: an object is
  -- held, on the board or on a freelist, a slab on a CPU or on a list, a frame free or in a slab
  pub chains : Chains
  pub coherent : IsCoherent opening (world_of m s.value s.words) chains (map empty_handed s.locals)

-- ---- the workers

-- a worker has what it holds by its replies, where they say
pub record HoldsAsTold (before : ℕ → Option BoardWord) (after : World) (l : Local) : Type 0 where
  pub held : (o : ℕ) → (known_of l.known o).held ≡ holding l.done o
  -- at the address that was given, or else at that of the board before
  pub address : (o : ℕ) → holding l.done o ≡ true
      → address_by after.setup before l.done o ≡ Some (address_in after.setup (known_of l.known o))
  -- of the cache that was asked for, or else of that of the board before
  pub cache : (o : ℕ) → holding l.done o ≡ true
      → cache_by before l.done o ≡ Some (known_of l.known o).cache
  -- in an unchecked object stands what the worker wrote last
  pub words : (o word value : ℕ) → holding l.done o ≡ true
      → after.setup.checks (known_of l.known o).cache ≡ false
      → last_wrote l.done o word ≡ Some value
      → content after (known_of l.known o).cache (known_of l.known o).frame
      (known_of l.known o).index word ≡ value

-- how many workers were given the number, freed it or found it damaged
abbrev pub knowers : ℕ → List Local → ℕ
knowers o ls = sum_by (λ (l : Local). one_if (knows l.done o)) ls

pub record AreHolders (before after : World) (ls : List Local) : Type 0 where
  pub holds : All (HoldsAsTold before.board after) ls
  -- one worker alone is given a number, frees it or finds it damaged
  pub one_worker : (o : ℕ) → knowers o ls ≤ 1
