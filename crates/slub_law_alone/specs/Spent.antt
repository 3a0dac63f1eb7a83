-- A worker alone whose CPU has nothing left of its current slab: the slab is taken off first.
use Rattle.std.specs.Prelude.{◌≡◌, ℕ, ◌+◌, [], slice_set, Some, None}
use Rattle.slub_lists.specs.State.{State}
use Rattle.slub_lists.specs.Alloc.{lists_of, own_free, retired}
use Rattle.slub_core.specs.declared.call.Call.{Call}
use Rattle.slub_core.specs.declared.spot.Spot.TheVariants.{Between}
use Rattle.slub_core.specs.Calls.{call_cpu}
use Rattle.slub_core.specs.Setup.{cpu_number}
use Rattle.slub_core.specs.World.{World}
use Rattle.slub_core.specs.Local.{Local}
use Rattle.slub_core.specs.Run.{System}
use Rattle.slub_law_opening.specs.Opening.{Beside, setup_of}
use Rattle.slub_law_alone.specs.Alone.{alone, worker_at, IsAtRest, IsNext, HasIds}
use Rattle.slub_law_alone.specs.Laws.{IsAlloc, AllocatesAlone}
use Rattle.slub_calls.specs.Changes.{grown}

-- the machine, were the worker between two calls
abbrev pub recalled : ℕ → System → System
recalled worker system = record system {
  locals = slice_set system.locals worker (record (worker_at system worker) { spot = Between });
}

-- the same calls to make, the same replies and objects: the worker has other notes
pub record HasSame (l n : Local) : Type 0 where
  pub worker : n.worker ≡ l.worker
  pub known : n.known ≡ l.known
  pub todo : n.todo ≡ l.todo
  pub done : n.done ≡ l.done

-- By four turns of the worker alone the slab is off its CPU, unfrozen, on no list and current no
-- more (`retired`), and the id has grown once. The machine rests in these lists, were the worker
-- between two calls; and whatever it would come to by its call from there on, it comes to
pub record TakesOff (opening : World) (s : State) (b : Beside) (system : System) (worker : ℕ)
    (call : Call) (place cache frame : ℕ) : Type 0 where
  pub taken : System
  pub ran : taken ≡ recalled worker (alone (setup_of s b) worker 4 system)
  pub rest : IsAtRest opening (retired s cache (call_cpu call) frame)
      (grown b (cpu_number cache (call_cpu call)) 1) taken
  pub next : IsNext taken worker call
  pub same : HasSame (worker_at system worker) (worker_at taken worker)
  pub others : taken.locals ≡ slice_set system.locals worker (worker_at taken worker)
  pub alloc : IsAlloc (retired s cache (call_cpu call) frame) call place cache
  pub ids : HasIds (grown b (cpu_number cache (call_cpu call)) 1)
      (cpu_number cache (call_cpu call)) 1
  pub lists : lists_of (retired s cache (call_cpu call) frame) cache (call_cpu call)
      ≡ record { current = None; free = []; partial = (lists_of s cache (call_cpu call)).partial }
  -- its first turn from there only loads the CPU word again
  pub goes_on : (turns : ℕ) (d : Beside)
      (later : AllocatesAlone opening (retired s cache (call_cpu call) frame)
      (grown b (cpu_number cache (call_cpu call)) 1) taken worker call place (1 + turns) d)
      → (done : AllocatesAlone opening s b system worker call place (4 + turns) d)
      × (done.reply ≡ later.reply)

-- an allocation that finds its CPU's freelist empty, and that of the current slab too: it takes the
-- slab off the CPU, loads the slab word and unfreezes the slab (`get_freelist` that finds nothing,
-- `deactivate_slab`), and looks for another one as a CPU without a slab does
abbrev pub SpentSlabsAreTakenOff : Type 0
SpentSlabsAreTakenOff =
    (opening : World) (s : State) (b : Beside) (system : System) (worker : ℕ) (call : Call)
    (place cache frame : ℕ) → IsAtRest opening s b system → IsNext system worker call
    → IsAlloc s call place cache → HasIds b (cpu_number cache (call_cpu call)) 2
    → (lists_of s cache (call_cpu call)).free ≡ []
    → (lists_of s cache (call_cpu call)).current ≡ Some frame
    → own_free s frame ≡ [] → TakesOff opening s b system worker call place cache frame
