-- What a round by threads begins with.
use Rattle.std.specs.Prelude.{List}
use Rattle.slub_core.specs.Local.{Local}
use Rattle.slub_core.specs.Facts.{Facts}
use Rattle.slub_core.specs.declared.guarded.Guarded.{Guarded}
use Rattle.slub_schedule.specs.Table.{WordTable}

-- the machine of a round, as plain data: what its locks guard, by the number of the lock, and its
-- workers in rising number
pub record Begun : Type 0 where
  pub facts : Facts
  pub table : WordTable
  pub guards : List Guarded
  pub locals : List Local
