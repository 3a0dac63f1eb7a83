-- When the workers of a round may begin.
use Rattle.std.specs.Prelude.{◌≡◌, ℕ, ◌+◌, ◌^◌, ◌≤◌, length, map, slice_index, All, None, nat_eq}
use Rattle.std.specs.List.{IsDistinct, range_with_len}
use Rattle.slub_trace.specs.declared.event.Round.{Round}
use Rattle.slub_cache_create.specs.Table.{Table}
use Rattle.slub_trace.specs.declared.trace.Trace.{Trace}
use Rattle.slub_trace.specs.Sound.{IsSoundRound, objects_of}
use Rattle.slub_lists.specs.State.{State}
use Rattle.slub_lists.specs.Coherent.{held_under}
use Rattle.slub_core.specs.Local.{Local}
use Rattle.slub_law_opening.specs.Opening.{Beside}
use Rattle.slub_law_opening.specs.Laws.{MayOpen, MayBegin}
use Rattle.slub_calls.specs.Calls.{workers_of}

-- ---- a round

-- a round of a trace that can be done on this machine: its numbers are the machine's, what it
-- allocates is allocated once and isn't there yet, and what it reads was written
pub record MayDo (s : State) (trace : Trace) (round : Round) : Type 0 where
  pub sound : IsSoundRound trace round
  pub cpus : s.cpus ≡ trace.cpus
  pub objects : length s.board ≡ trace.objects + 1
  pub names : s.table.kept ≡ trace.names
  pub unheld : All (λ object. held_under s object ≡ None) (objects_of round.events)
  pub distinct : IsDistinct nat_eq (objects_of round.events)
  -- no counter comes to its end
  pub few : length round.events ≤ 2 ^ 32
  pub dry : (order : ℕ) → slice_index s.pool.dry order ≤ 2 ^ 62

-- the workers of such a round may begin
abbrev pub RoundsMayBegin : Type 0
RoundsMayBegin =
    (s : State) (b : Beside) (trace : Trace) (round : Round) → MayOpen s b → MayDo s trace round
    → MayBegin s b (workers_of s.table round)

-- the worker at place w has number w
abbrev pub WorkersAreNumbered : Type 0
WorkersAreNumbered =
    (table : Table) (round : Round)
    → map (λ (l : Local). l.worker) (workers_of table round) ≡ range_with_len 0 round.workers
