-- Rounds in the order of the text on the lists are runs of steps.
use Rattle.slub_law_opening.specs.Laws.{MayOpen}
use Rattle.slub_law_alone.proofs.SerialRounds.{all_rounds}
use Rattle.slub_law_replay.specs.InText.{RoundsOnListsAreRuns}
use Rattle.slub_law_replay.proofs.Simple.{simple}

pub lists-run : RoundsOnListsAreRuns
lists-run s ids trace round result after ids_after coherent rest may are last does memory =
    let b = does.beside in
    let opens : MayOpen s b = record { coherent = coherent; laid_down = rest.laid_down; beside = does.stands.fits } in
    (does.left, all_rounds s b trace round result.replies does.does.last does.left opens may (simple s ids b round coherent rest are last does.stands) does.runs memory, does.ids_are)
