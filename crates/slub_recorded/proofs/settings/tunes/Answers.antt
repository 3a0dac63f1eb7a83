use Rattle.std.proofs.Common.{map, string_bytes}
use Rattle.slub_recorded.proofs.Options.{made_fit}
use Rattle.slub_recorded.proofs.settings.tunes.Goals as goal

pub returns-in-Some-clause-fit : goal.returns-in-Some-clause-fit
returns-in-Some-clause-fit c = made_fit c.tunes_in.result (map string_bytes c.in-Some.rest.now) c.tunes_in.ensures
