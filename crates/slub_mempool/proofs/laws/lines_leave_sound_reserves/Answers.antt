use Rattle.slub_rounds.specs.Reserves.{kept_in}
use Rattle.slub_mempool.proofs.Keeping.{dropped}
use Rattle.slub_mempool.proofs.Serving.{serves_keep}
use Rattle.slub_mempool.proofs.laws.lines_leave_sound_reserves.Goals as goal

pub returns : goal.returns
returns c = λ h trace reserves left client done after servable sound serves.
    serves_keep c.rounds_by_text_are_lawful.ensures h trace (kept_in h.lists reserves) client done after left servable (dropped h.lists trace reserves sound) serves
