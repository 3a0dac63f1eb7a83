-- A round by threads: what it asks, and what it leaves.
use Rattle.std.specs.Prelude.{◌≡◌, ◌≤◌, Bool, false, List, length, All}
use Rattle.slub_core.specs.declared.spot.Spot.TheVariants.{Between}
use Rattle.slub_core.specs.Local.{Local}
use Rattle.slub_core.specs.Run.{Pick, run}
use Rattle.slub_schedule.specs.Schedule.{IsCall}
use Rattle.slub_turns.specs.declared.machine.StepMachine.{StepMachine}
use Rattle.slub_turns.specs.Ready.{IsReady}
use Rattle.slub_workers.specs.Begun.{Begun}
use Rattle.slub_workers.specs.Rule.{setup_in, system_begun}

-- the machine as plain data
abbrev pub begun_by : StepMachine → Begun
begun_by m = record {
  facts = m.setup;
  table = m.table;
  guards = m.values.items;
  locals = m.locals.items;
}

-- the same machine, whatever room its lists have
pub record IsUnchanged (first now : StepMachine) : Type 0 where
  pub setup : now.setup ≡ first.setup
  pub table : now.table ≡ first.table
  pub values : now.values.items ≡ first.values.items
  pub locals : now.locals.items ≡ first.locals.items

-- no worker is in a call yet, each was given the replies that take no step, and the machine is one
-- in which they may make their turns
pub record MayBegin (key : Begun) : Type 0 where
  pub ready : IsReady key.facts key.table key.guards key.locals
  pub between : All (λ (l : Local). l.spot ≡ Between) key.locals
  pub workers : length key.locals ≤ 16

abbrev pub MayWork : StepMachine → Type 0
MayWork m = MayBegin (begun_by m)

-- every worker is between two calls, and the machine is one that some order of the workers' steps
-- leads to, in which no call is a try where none has tried
pub record HasClosed (key : Begun) (tried : Bool) (last : Begun) : Type 0 where
  pub facts : last.facts ≡ key.facts
  pub ready : IsReady last.facts last.table last.guards last.locals
  pub picks : List Pick
  pub calls : tried ≡ false → All IsCall picks
  pub ran : system_begun last ≡ run (setup_in key) (system_begun key) picks
  pub between : All (λ (l : Local). l.spot ≡ Between) last.locals
