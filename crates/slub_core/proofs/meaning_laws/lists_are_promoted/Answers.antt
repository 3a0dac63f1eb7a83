use Rattle.slub_core.proofs.Orders.{lists_are-promoted}
use Rattle.slub_core.proofs.meaning_laws.lists_are_promoted.Goals as goal

pub returns : goal.returns
returns c = lists_are-promoted
