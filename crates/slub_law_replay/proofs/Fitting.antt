-- A round that is done by any way is lawful.
use Rattle.std.proofs.Common.{ℕ, List, Option, inl, inr}
use Rattle.slub_trace.specs.declared.event.Round.{Round}
use Rattle.slub_trace.specs.declared.trace.Trace.{Trace}
use Rattle.slub_lists.specs.State.{State}
use Rattle.slub_lists.specs.Coherent.{IsCoherent}
use Rattle.slub_calls.specs.Laws.{MayDo}
use Rattle.slub_slabinfo_text.specs.Lawful.{IsAtRest}
use Rattle.slub_slabinfo_text.specs.declared.journal.RoundResult.{RoundResult}
use Rattle.slub_law_rounds.specs.Round.{IsRound}
use Rattle.slub_law_rounds.proofs.WholeRan.{drawn-lawful, rounds-lawful}
use Rattle.slub_rounds.specs.Laws.{RoundsBySeedAreLawful, RoundsByThreadsAreLawful}
use Rattle.slub_rounds.proofs.Lawful.{threads-lawful}
use Rattle.slub_rounds.proofs.TextLawful.{text-lawful}
use Rattle.slub_law_replay.specs.declared.way.Way.{Way}
use Rattle.slub_law_replay.specs.declared.way.Way.TheVariants.{Serial, Schedule, Threads}
use Rattle.slub_law_replay.specs.Ways.{DoesRoundBy, ids_before, seed_after}

-- ---- rounds by steps, of several workers

-- one that a seed draws is lawful
seed-lawful : RoundsBySeedAreLawful
seed-lawful s ids seed trace round result after ids_after coherent laid may done =
    drawn-lawful s done.beside seed trace round result done.picks done.last done.lists after done.left coherent laid done.stands.fits may
    done.ends done.closes done.replies done.damages done.ledgers done.after_is

-- one by threads is
by-threads : RoundsByThreadsAreLawful
by-threads = threads-lawful rounds-lawful

-- ---- rounds by any way

pub lawful-by : (way : Way) (rounds : ℕ) (s : State) (ids : Option (List ℕ)) (trace : Trace) (round : Round) (result : RoundResult) (after : State) (left : Option (List ℕ)) → IsCoherent s → IsAtRest s → MayDo s trace round
    → DoesRoundBy way rounds s ids round result after left → IsRound s round result after
lawful-by Serial rounds s ids trace round result after left coherent rest may does = text-lawful s ids trace round result after left coherent rest may does
lawful-by (Schedule seed) rounds s ids trace round result after left coherent rest may (inl (few, does)) = text-lawful s ids trace round result after left coherent rest may does
lawful-by (Schedule seed) rounds s ids trace round result after left coherent rest may (inr (several, does)) =
    seed-lawful s (ids_before s ids) (seed_after seed rounds) trace round result after does.0 coherent rest.laid_down may does.1
lawful-by Threads rounds s ids trace round result after left coherent rest may (inl (few, does)) = text-lawful s ids trace round result after left coherent rest may does
lawful-by Threads rounds s ids trace round result after left coherent rest may (inr (several, does)) =
    by-threads s (ids_before s ids) trace round result after does.0 coherent rest.laid_down may does.1
