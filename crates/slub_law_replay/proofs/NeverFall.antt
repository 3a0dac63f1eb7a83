-- No transaction id falls in a turn.
use Rattle.std.proofs.Common.{ℕ, ◌≤◌, List, arith}
use Rattle.slub_core.specs.Accounted.{IsAccounted}
use Rattle.slub_core.specs.Law.{IsCoherentSystem}
use Rattle.slub_core.specs.Run.{System, Pick, run}
use Rattle.slub_core.specs.Setup.{Setup}
use Rattle.slub_core.specs.World.{World, world_of}
use Rattle.slub_core.proofs.Turns.{run_both}

-- the opening, were its ids and what else is in the CPU words those of this machine
abbrev with_words : Setup → World → System → World
with_words m opening s = record opening { cpu = (world_of m s.value s.words).cpu }

-- of the CPU words of the opening a coherent machine says only that their ids haven't fallen since
since_now : (m : Setup) (opening : World) (s : System) → IsCoherentSystem m opening s → IsCoherentSystem m (with_words m opening s) s
since_now m opening s is =
    let a = is.coherent.accounted in
    let now : IsAccounted (with_words m opening s) (world_of m s.value s.words) is.workers = record {
      setup = a.setup;
      tids = λ n. omega arith;
      within = a.within;
      stands = a.stands;
      count = a.count;
      once = a.once;
      few = a.few;
      dry = a.dry;
      told = a.told;
      written = a.written;
    } in
    record {
      words = is.words;
      workers = is.workers;
      locals = is.locals;
      chains = is.chains;
      coherent = record { placed = is.coherent.placed; listed = is.coherent.listed; fresh = is.coherent.fresh; accounted = now };
      rested = is.rested;
    }

pub never-falls : (m : Setup) (opening : World) (s : System) (picks : List Pick) → IsCoherentSystem m opening s → (n : ℕ)
    → let end = run m s picks in ((world_of m s.value s.words).cpu n).tid ≤ ((world_of m end.value end.words).cpu n).tid
never-falls m opening s picks is n = (run_both m (with_words m opening s) s picks (since_now m opening s is)).0.coherent.accounted.tids n
