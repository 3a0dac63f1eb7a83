use Rattle.slub_law_alone.proofs.Uses.{stores}
use Rattle.slub_law_alone.proofs.laws.writes_are_stores.Goals as goal

pub returns : goal.returns
returns c = stores
