use Rattle.slub_open_close.proofs.Items.{items-keep}
use Rattle.slub_open_close.proofs.id_laws.items_keep_ids.Goals as goal

pub returns : goal.returns
returns c = items-keep
