-- How a round begins: a machine at rest, and workers that have all their calls to come.
use Rattle.std.specs.Prelude.{◌≡◌, ℕ, ◌+◌, ◌^◌, ◌<◌, ◌≤◌, false, [], length, map, sum_by, slice_index, All, None}
use Rattle.slub_core.specs.declared.local.Known.{Known}
use Rattle.slub_core.specs.declared.spot.Spot.TheVariants.{Between}
use Rattle.slub_core.specs.Setup.{Setup}
use Rattle.slub_core.specs.Words.{word_count}
use Rattle.slub_core.specs.World.{world_of, pool_of}
use Rattle.slub_core.specs.Local.{Local}
use Rattle.slub_core.specs.Steps.{rested}
use Rattle.slub_core.specs.Run.{System}
use Rattle.slub_core.specs.Replies.{asked_in}
use Rattle.slub_core.specs.Fresh.{IsPacked}
use Rattle.slub_core.specs.Accounted.{CallFits, AreDistinct, AreReadable, boarded}
use Rattle.slub_core.specs.Coherent.{IsAtRest}

-- room for what a worker will know of an object
abbrev pub IsRoom : Setup → Known → Type 0
IsRoom m k = (k.object < m.objects) × (k.frame ≡ 0) × (k.held ≡ false)

-- a worker before its first call: it holds nothing, has nothing in hand and was told nothing
pub record IsNew (m : Setup) (l : Local) : Type 0 where
  pub between : l.spot ≡ Between
  pub cpu : l.cpu < m.cpus
  pub packed : IsPacked l
  pub hands : l.hands ≡ []
  pub string : l.string ≡ None
  pub run : l.run ≡ None
  pub done : l.done ≡ []
  -- it has room for each number that its calls name, at one place
  pub known : All (IsRoom m) l.known
  pub distinct : AreDistinct l.known
  -- its calls fit the machine, and a word is read only after it was written
  pub fits : All (CallFits m l.known) l.todo
  pub readable : AreReadable [] l.todo

-- a machine at rest, and such workers
pub record IsOpening (m : Setup) (s : System) : Type 0 where
  pub words : length s.words ≡ word_count m
  pub rest : IsAtRest (world_of m s.value s.words)
  pub objects : 1 ≤ m.objects
  pub new : All (IsNew m) s.locals
  -- each number is allocated once at most, and not where it is on the board
  pub once : (o : ℕ) → boarded ((world_of m s.value s.words).board o)
      + sum_by (λ (l : Local). asked_in o l.todo) s.locals ≤ 1
  -- no counter comes to its end
  pub few : sum_by (λ (l : Local). length l.todo) s.locals ≤ 2 ^ 32
  pub dry : (order : ℕ) → slice_index (pool_of (world_of m s.value s.words)).dry order ≤ 2 ^ 62

-- each worker is given the replies that take no step
abbrev pub opened : Setup → System → System
opened m s = record s { locals = map (rested m) s.locals }
