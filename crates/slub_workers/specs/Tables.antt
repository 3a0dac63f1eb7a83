-- The table that the workers of a round share, as contracts see it.
use Rattle.atomic_table.specs.Seated.{TableId}
use Rattle.slub_workers.specs.declared.shared.Shared.{Shared}
use Rattle.slub_workers.specs.Begun.{Begun}

-- the machine with which it was opened, with its workers and their calls
abbrev pub begun_at : Shared → Begun
begun_at s = s.words.shared.key

-- which table it is
abbrev pub table_of : Shared → TableId
table_of s = s.words.shared.table_id
