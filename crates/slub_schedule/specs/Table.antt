-- The words of a machine in one table, and which places it has.
use Rattle.std.specs.Prelude.{◌≡◌, ℕ, ◌*◌, ◌<◌, ◌≤◌, List}
use Rattle.slub_core.specs.declared.step.Place.{Place}
use Rattle.slub_core.specs.declared.step.Place.TheVariants.{LockOf, ListOf, CpuOf, SlabOf, BoardOf, MemoryOf, LinkOf}
use Rattle.slub_core.specs.Setup.{Setup}

pub record WordTable : Type 0 where
  -- frame 0 counts; object numbers are below `objects`, and 0 is none
  pub frames : ℕ
  pub objects : ℕ
  pub words : List ℕ

-- of a machine of these sizes
pub record IsTableOf (m : Setup) (t : WordTable) : Type 0 where
  pub frames : m.frames ≡ t.frames
  pub objects : m.objects ≡ t.objects

-- there is such a word: its number is below the room of its class
abbrev pub HasPlace : Setup → Place → Type 0
HasPlace m (LockOf n) = n < 33
HasPlace m (ListOf n) = n < 512
HasPlace m (CpuOf n) = n < 512
HasPlace m (SlabOf f) = f < m.frames
HasPlace m (BoardOf o) = (1 ≤ o) × (o < m.objects)
HasPlace m (MemoryOf p) = p < 512 * m.frames
HasPlace m (LinkOf f) = f < m.frames
