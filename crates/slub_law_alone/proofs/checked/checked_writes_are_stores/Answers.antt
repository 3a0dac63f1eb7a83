use Rattle.slub_law_alone.proofs.CheckedUses.{checked_stores}
use Rattle.slub_law_alone.proofs.checked.checked_writes_are_stores.Goals as goal

pub returns : goal.returns
returns c = checked_stores
