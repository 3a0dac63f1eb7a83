-- Where nothing is named. No step is made by it.
use Rattle.std.specs.Prelude.{[], false}
use Rattle.slub_core.specs.declared.step.Answer.TheVariants.{Done}
use Rattle.slub_core.specs.Run.{idle}
use Rattle.slub_workers.specs.Begun.{Begun}
use Rattle.slub_workers.specs.Standing.{Standing}

abbrev pub nobody : Standing
nobody = record { local = idle; values = []; tried = false; answer = Done; steps = 0 }

abbrev pub no_key : Begun
no_key = record {
  facts = record { frames = 0; cpus = 0; step = 0; objects = 0; plain = []; caches = [] };
  table = record { frames = 0; objects = 0; words = [] };
  guards = [];
  locals = [];
}
