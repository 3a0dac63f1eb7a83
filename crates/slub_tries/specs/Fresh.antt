-- The machine of a trace before its first object.
use Rattle.std.specs.Prelude.{◌≡◌, ℕ, ◌+◌, ◌*◌, List, replicate, None, Some, slice_get}
use Rattle.slub_page_pool.specs.FreeFrames as pool
use Rattle.slub_trace.specs.declared.event.Round.{Round as Events}
use Rattle.slub_trace.specs.declared.trace.Item.TheVariants.{Round}
use Rattle.slub_trace.specs.declared.trace.Trace.{Trace}
use Rattle.slub_lists.specs.State.{State}
use Rattle.slub_lists.specs.Alloc.{no_lists}
use Rattle.slub_lists.specs.Coherent.{IsCoherent}
use Rattle.slub_open_close.specs.Ids.{first_ids}
use Rattle.slub_turns.specs.declared.machine.StepMachine.{StepMachine}
use Rattle.slub_tries.specs.declared.tries.Told.{Told}
use Rattle.slub_tries.specs.Begun.{OpensInto, PlaysRound}
use Rattle.slub_tries.specs.Lone.{Lone, begins_as}

-- it has the sizes and names of the trace, and whatever caches; no slab, and nothing on the board
pub record IsFresh (trace : Trace) (s : State) : Type 0 where
  pub coherent : IsCoherent s
  pub frames : s.frames ≡ trace.frames
  pub cpus : s.cpus ≡ trace.cpus
  pub names : s.table.kept ≡ trace.names
  pub board : s.board ≡ replicate (trace.objects + 1) None
  pub pool : s.pool ≡ pool.opening trace.frames
  pub cpu_lists : s.cpu_lists ≡ replicate (32 * trace.cpus) no_lists

abbrev pub IsRoundOf : Trace → Events → Type 0
IsRoundOf trace round = (number : ℕ) × (slice_get trace.items number ≡ Some (Round round))

-- such a machine with a round of the trace, which has one worker
pub record IsSetFor (trace : Trace) (lists : State) (round : Events) : Type 0 where
  pub fresh : IsFresh trace lists
  pub is_round : IsRoundOf trace round
  pub alone : round.workers ≡ 1

-- a worker is alone with the events of such a round, and the CPU words begin at the first ids
pub record BeginsTrace (trace : Trace) (lone : Lone) : Type 0 where
  pub lists : State
  pub round : Events
  pub set : IsSetFor trace lists round
  pub opens : OpensInto lists (first_ids trace.tid trace.cpus) round lone.key
  pub stands : lone.standing ≡ begins_as lone.key

-- the events of such a round were answered so, and this machine is left
pub record PlaysTrace (trace : Trace) (all : List Told) (last : StepMachine) : Type 0 where
  pub lists : State
  pub round : Events
  pub set : IsSetFor trace lists round
  pub plays : PlaysRound lists (first_ids trace.tid trace.cpus) round all last
