-- Objects on the board are taken first: their frees are, a turn later, frees of held objects.
use Rattle.std.specs.Prelude.{◌≡◌, ℕ, suc, Some, None, slice_set}
use Rattle.slub_lists.specs.declared.lists.Held.{Held}
use Rattle.slub_lists.specs.State.{State}
use Rattle.slub_lists.specs.Checked.{kept_by as held_by}
use Rattle.slub_lists.specs.Coherent.{held_under}
use Rattle.slub_core.specs.declared.call.Call.{Call}
use Rattle.slub_core.specs.declared.call.CallKind.TheVariants.{Free}
use Rattle.slub_core.specs.Calls.{call_kind, call_object, call_place}
use Rattle.slub_core.specs.World.{World}
use Rattle.slub_core.specs.Run.{System}
use Rattle.slub_law_opening.specs.Opening.{Beside, setup_of}
use Rattle.slub_law_alone.specs.Alone.{alone, worker_at, known_at, known_as, IsAtRest, IsNext}
use Rattle.slub_law_alone.specs.Ready.{IsReady}
use Rattle.slub_law_alone.specs.Laws.{FreesAlone}

-- a machine at rest is ready for whatever call a worker has to make next
abbrev pub RestsAreReady : Type 0
RestsAreReady =
    (opening : World) (s : State) (b : Beside) (system : System) (worker : ℕ) (call : Call)
    → IsAtRest opening s b system → IsNext system worker call
    → IsReady opening s b system worker

-- what a free finds on the board it takes from there, and is then the free of an object that the
-- worker holds. `held_by` are the lists in which it holds it
pub record TakesFromBoard (opening : World) (s : State) (b : Beside) (system : System)
    (worker : ℕ) (call : Call) (held : Held) : Type 0 where
  -- the machine in which the worker holds the object, and has the same calls to make
  pub taken : System
  pub ready : IsReady opening (held_by s (call_object call) (worker_at system worker).worker held) b
      taken worker
  pub next : IsNext taken worker call
  pub holds : known_at (worker_at taken worker) call ≡ known_as (call_object call) held
  -- nothing else of it has changed, and no other worker
  pub known : (worker_at taken worker).known
      ≡ slice_set (worker_at system worker).known (call_place call)
      (known_as (call_object call) held)
  pub number : (worker_at taken worker).worker ≡ (worker_at system worker).worker
  pub done : (worker_at taken worker).done ≡ (worker_at system worker).done
  pub todo : (worker_at taken worker).todo ≡ (worker_at system worker).todo
  pub others : taken.locals ≡ slice_set system.locals worker (worker_at taken worker)
  -- the turns from there are those that follow the turn that takes the object
  pub later : (turns : ℕ) → alone (setup_of s b) worker (suc (suc turns)) system
      ≡ alone (setup_of s b) worker (suc turns) taken

-- a free of an object on the board, be its cache checked or not
abbrev pub BoardObjectsAreTaken : Type 0
BoardObjectsAreTaken =
    (opening : World) (s : State) (b : Beside) (system : System) (worker : ℕ) (call : Call)
    (held : Held) → IsAtRest opening s b system → IsNext system worker call → call_kind call ≡ Free
    → held_under s (call_object call) ≡ Some held → held.worker ≡ None
    → TakesFromBoard opening s b system worker call held

-- what the free of the held object leaves, that of the object on the board leaves a turn later. So
-- each law on frees of held objects is one on frees of objects on the board, and none needs a form
-- of its own for these
abbrev pub BoardFreesAreFrees : Type 0
BoardFreesAreFrees =
    (opening : World) (s : State) (b : Beside) (system : System) (worker : ℕ) (call : Call)
    (held : Held) → IsAtRest opening s b system → IsNext system worker call → call_kind call ≡ Free
    → held_under s (call_object call) ≡ Some held → held.worker ≡ None
    → (takes : TakesFromBoard opening s b system worker call held) (turns : ℕ) (d : Beside)
    → FreesAlone opening (held_by s (call_object call) (worker_at system worker).worker held) b
    takes.taken worker call (suc turns) d
    → FreesAlone opening s b system worker call (suc (suc turns)) d
