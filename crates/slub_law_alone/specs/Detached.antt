-- A worker alone that has to take the current slab off its CPU: it does so before anything else.
use Rattle.std.specs.Prelude.{◌≡◌, ℕ, ◌+◌, [], Some}
use Rattle.slub_words.specs.declared.cpu.CpuWord.{CpuWord}
use Rattle.slub_lists.specs.State.{State}
use Rattle.slub_lists.specs.Alloc.{lists_of}
use Rattle.slub_core.specs.declared.call.Call.{Call}
use Rattle.slub_core.specs.Calls.{call_cpu}
use Rattle.slub_core.specs.Setup.{cpu_number}
use Rattle.slub_core.specs.World.{World, world_of}
use Rattle.slub_core.specs.Run.{System}
use Rattle.slub_law_opening.specs.Opening.{Beside, setup_of, tid_of}
use Rattle.slub_law_alone.specs.Alone.{alone, worker_at, IsAtRest, IsNext, HasIds}
use Rattle.slub_law_alone.specs.Busy.{IsInCall}
use Rattle.slub_law_alone.specs.Laws.{IsAlloc}

-- the CPU word of this number, as it stands in the machine after so many turns of the worker alone
abbrev pub cpu_word_after : State → Beside → System → ℕ → ℕ → ℕ → CpuWord
cpu_word_after s b system worker turns n =
    let later = alone (setup_of s b) worker turns system in
    (world_of (setup_of s b) later.value later.words).cpu n

-- by two turns of the worker alone the CPU has no current slab, and the id of its word has grown by
-- the step. The worker is in its call still, which has no reply yet
pub record Detaches (s : State) (b : Beside) (system : System) (worker n : ℕ) : Type 0 where
  pub busy : IsInCall (setup_of s b) system worker 2
  pub waits : (worker_at (alone (setup_of s b) worker 2 system) worker).done
      ≡ (worker_at system worker).done
  pub word : cpu_word_after s b system worker 2 n
      ≡ record { tid = tid_of b n + b.step; frame = 0; head = 0 }

-- an allocation that finds its CPU's freelist empty and a slab current there, whatever is left in
-- the slab, takes it off the CPU first (`get_freelist`, `deactivate_slab`). The id may be spent by
-- that
abbrev pub CurrentSlabsAreDetached : Type 0
CurrentSlabsAreDetached =
    (opening : World) (s : State) (b : Beside) (system : System) (worker : ℕ) (call : Call)
    (place cache frame : ℕ) → IsAtRest opening s b system → IsNext system worker call
    → IsAlloc s call place cache → HasIds b (cpu_number cache (call_cpu call)) 1
    → (lists_of s cache (call_cpu call)).free ≡ []
    → (lists_of s cache (call_cpu call)).current ≡ Some frame
    → Detaches s b system worker (cpu_number cache (call_cpu call))
