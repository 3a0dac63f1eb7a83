-- How many turns a round may take (profile).
use Rattle.std.specs.Prelude.{ℕ, ◌+◌, ◌*◌, List, length, sum_by}
use Rattle.slub_core.specs.declared.call.Call.{Call}
use Rattle.slub_core.specs.declared.call.CallKind.{CallKind}
use Rattle.slub_core.specs.declared.call.CallKind.TheVariants.{Trim, Flush}
use Rattle.slub_core.specs.Calls.{call_kind}
use Rattle.slub_core.specs.Local.{Local}
use Rattle.slub_core.specs.Accounted.{calls_of}
use Rattle.slub_core.specs.Run.{System}

-- a trim or a flush counts as 16 events
abbrev pub weight : CallKind → ℕ
weight Trim = 16
weight Flush = 16
weight _ = 1

abbrev pub events_in : List Call → ℕ
events_in calls = sum_by (λ (c : Call). weight (call_kind c)) calls

abbrev pub turns_for : ℕ → ℕ → ℕ
turns_for events workers = 8192 * (events + 1) * workers

-- of a worker: its calls with a reply and those without
abbrev pub events_of : Local → ℕ
events_of l = events_in (calls_of l.done) + events_in l.todo

-- of all its workers
abbrev pub turns_of : System → ℕ
turns_of s = turns_for (sum_by events_of s.locals) (length s.locals)
