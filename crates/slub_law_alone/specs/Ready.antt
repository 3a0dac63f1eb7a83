-- A worker that is about to make a call.
use Rattle.std.specs.Prelude.{ℕ, false, slice_set}
use Rattle.slub_lists.specs.State.{State}
use Rattle.slub_lists.specs.Coherent as plain
use Rattle.slub_core.specs.Setup.{Setup}
use Rattle.slub_core.specs.World.{World}
use Rattle.slub_core.specs.Steps.{begun}
use Rattle.slub_core.specs.Run.{System}
use Rattle.slub_core.specs.Law.{IsCoherentSystem}
use Rattle.slub_law_opening.specs.Opening.{Beside, IsBeside, setup_of}
use Rattle.slub_law_opening.specs.Table.{RestsIn}
use Rattle.slub_law_alone.specs.Alone.{worker_at, AreWhole}

-- the machine in which the worker has begun its next call, and made no step of it
abbrev pub with_begun : Setup → ℕ → System → System
with_begun m worker system = record system {
  locals = slice_set system.locals worker (begun m false (worker_at system worker));
}

-- no worker is in a call, the machine rests in coherent lists, and it is coherent once this worker
-- has begun its next call. A machine at rest is such a one; and so is one where the worker has just
-- taken the object of its free from the board, which is no object that a reply gave it
pub record IsReady (opening : World) (s : State) (b : Beside) (system : System) (worker : ℕ)
    : Type 0 where
  pub lists : plain.IsCoherent s
  pub beside : IsBeside s b
  pub rests : RestsIn s b system
  pub whole : AreWhole (setup_of s b) system.words
  pub coherent : IsCoherentSystem (setup_of s b) opening (with_begun (setup_of s b) worker system)
