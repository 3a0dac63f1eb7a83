-- The machine in words with which a worker that is alone begins.
use Rattle.std.proofs.Common.{◌≡◌, ℕ, List, refl}
use Rattle.slub_trace.specs.declared.event.Round.{Round}
use Rattle.slub_trace.specs.declared.trace.Trace.{Trace}
use Rattle.slub_lists.specs.State.{State}
use Rattle.slub_lists.specs.Coherent.{IsCoherent}
use Rattle.slub_law_opening.specs.Opening.{IsLaidDown}
use Rattle.slub_calls.specs.Laws.{MayDo}
use Rattle.slub_open_close.specs.declared.beside.Beside.{Beside}
use Rattle.slub_open_close.specs.declared.opened.Rest.{Rest}
use Rattle.slub_open_close.specs.Beside.{IsBesideOf, first_links}
use Rattle.slub_open_close.specs.Ids.{IsStepOf}
use Rattle.slub_open_close.specs.Laws.{BesidesFit}
use Rattle.slub_turns.specs.declared.machine.StepMachine.{StepMachine}
use Rattle.slub_turns.specs.Means.{the_means}
use Rattle.slub_rounds.specs.Machine.{IsBegun, MayRun, beside_in}
use Rattle.slub_workers.specs.Round.{begun_by}
use Rattle.slub_tries.specs.Begun.{OpensInto}

-- what stands beside the lists fits them
pub may-run : (s : State) (ids : List ℕ) (b : Beside) (trace : Trace) (round : Round) → IsCoherent s → IsLaidDown s → MayDo s trace round → BesidesFit
    → IsBesideOf s b → IsStepOf s.cpus b.step → b.tids.items ≡ ids → b.links.items ≡ first_links s.frames → MayRun s ids b trace round
may-run s ids b trace round coherent laid does law fits step tids links = record {
  coherent = coherent;
  laid_down = laid;
  beside = fits;
  stands = record { fits = law s b the_means fits; tids = tids; links = links; step = step };
  does = does;
}

pub opens-into : (s : State) (ids : List ℕ) (b : Beside) (trace : Trace) (round : Round) (m : StepMachine) (rest : Rest) → MayRun s ids b trace round → IsBegun s b round m rest → OpensInto s ids round (begun_by m)
opens-into s ids b trace round m rest may begun = record {
  beside = beside_in b;
  stands = may.stands;
  means = refl;
  setup = begun.setup;
  system = begun.system;
}
