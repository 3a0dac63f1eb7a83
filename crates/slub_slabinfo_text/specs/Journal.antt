-- The journal of nothing.
use Rattle.std.specs.Prelude.{◌≡◌, [], None}
use Rattle.slub_slabinfo_text.specs.declared.journal.Journal.{Journal}

-- no machine, no items, no total
pub record IsEmpty (journal : Journal) : Type 0 where
  pub frames : journal.frames ≡ 0
  pub cpus : journal.cpus ≡ 0
  pub tid : journal.tid ≡ 0
  pub items : journal.items ≡ []
  pub total : journal.total ≡ None
