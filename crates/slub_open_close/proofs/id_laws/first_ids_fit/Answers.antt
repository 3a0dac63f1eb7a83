use Rattle.slub_open_close.proofs.Fitting.{opening-fit}
use Rattle.slub_open_close.proofs.id_laws.first_ids_fit.Goals as goal

pub returns : goal.returns
returns c = opening-fit
