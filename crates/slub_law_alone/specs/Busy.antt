-- A call that isn't a try ends with its reply: a worker's turns alone are those of one call.
use Rattle.std.specs.Prelude.{◌≡◌, ◌≢◌, ℕ, suc, ◌<◌, ◌≤◌}
use Rattle.slub_trace.specs.declared.reply.Reply.{Reply}
use Rattle.slub_lists.specs.State.{State}
use Rattle.slub_core.specs.declared.call.Call.{Call}
use Rattle.slub_core.specs.declared.spot.Spot.TheVariants.{Between}
use Rattle.slub_core.specs.Setup.{Setup}
use Rattle.slub_core.specs.World.{World}
use Rattle.slub_core.specs.Run.{System}
use Rattle.slub_law_opening.specs.Opening.{Beside, setup_of}
use Rattle.slub_law_alone.specs.Alone.{alone, worker_at, IsAtRest, IsNext, HasReply, Replies}

-- the worker is in no call
abbrev pub IsBetweenCalls : System → ℕ → Type 0
IsBetweenCalls system worker = (worker_at system worker).spot ≡ Between

-- after each of so many turns of its own alone it is in a call
abbrev pub IsInCall : Setup → System → ℕ → ℕ → Type 0
IsInCall m system worker turns = (made : ℕ) → 1 ≤ made → made ≤ turns
    → (worker_at (alone m worker made system) worker).spot ≢ Between

-- after so many turns of its own alone the worker is in no call, and after each of those before it
-- was in one
pub record EndsCall (m : Setup) (system : System) (worker turns : ℕ) : Type 0 where
  pub busy : (before : ℕ) → 1 ≤ before → before < turns
      → (worker_at (alone m worker before system) worker).spot ≢ Between
  pub ends : IsBetweenCalls (alone m worker turns system) worker

-- a worker between two calls that makes its next one alone, up to where it is between calls for the
-- first time since, has one reply more by a step, that to this call, and at once those to further
-- calls that take no step
abbrev pub CallsEndWithReplies : Type 0
CallsEndWithReplies =
    (m : Setup) (system : System) (worker : ℕ) (call : Call) (turns : ℕ)
    → IsBetweenCalls system worker → IsNext system worker call
    → EndsCall m system worker (suc turns)
    → (reply : Reply) × HasReply m (worker_at system worker) call reply
    (worker_at (alone m worker (suc turns) system) worker)

-- the first of so many turns of the worker alone are those of one call, and the others change
-- nothing
pub record AreOfOneCall (m : Setup) (system : System) (worker turns first : ℕ) : Type 0 where
  pub few : first ≤ turns
  pub one : EndsCall m system worker first
  pub same : alone m worker first system ≡ alone m worker turns system

-- where a worker has its reply, and the machine is at rest, after so many turns of it alone, one at
-- least, the same is so after the first of them, and these are those of its call: further turns
-- would have made the next call, or found none
abbrev pub TurnsAreOfOneCall : Type 0
TurnsAreOfOneCall =
    (opening : World) (s : State) (b : Beside) (system : System) (worker : ℕ) (call : Call)
    (turns : ℕ) (reply : Reply) (after : State) (d : Beside)
    → IsAtRest opening s b system → IsNext system worker call
    → Replies opening s b system worker call (suc turns) reply after d
    → (k : ℕ) × AreOfOneCall (setup_of s b) system worker (suc turns) (suc k)
    × Replies opening s b system worker call (suc k) reply after d
