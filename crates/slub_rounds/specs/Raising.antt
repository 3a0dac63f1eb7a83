-- What an event of a round on the lists changes of the transaction ids: first whatever its reply
-- is, and then by the object that it is given.
use Rattle.std.specs.Prelude.{ℕ, ◌+◌, ◌*◌, ◌^◌, ◌<◌, if◌then◌else◌, Bool, List, [], length, Option, Some, None, is_some, slice_set}
use Rattle.std.specs.Option.{option_and_then}
use Rattle.slub_trace.specs.declared.reply.Reply.{Reply}
use Rattle.slub_trace.specs.declared.reply.Reply.TheVariants.{NoFrames}
use Rattle.slub_trace.specs.Kinds.{is_given}
use Rattle.slub_trace.specs.declared.event.Act.{Act}
use Rattle.slub_trace.specs.declared.event.Act.TheVariants as act
use Rattle.slub_lists.specs.State.{State}
use Rattle.slub_lists.specs.Alloc.{checked_of, named}
use Rattle.slub_core.specs.Setup.{cpu_number}
use Rattle.slub_core.specs.World.{one_if}
use Rattle.slub_law_opening.specs.Opening.{Beside}
use Rattle.slub_open_close.specs.Ids.{id_at}
use Rattle.slub_calls.specs.Changes.{beside_after}
use Rattle.slub_turns.specs.Means.{the_means}

-- ---- an event

-- these ids beside a machine, to which each change of a word adds the step. Nothing else of what
-- stands beside it bears on them
abbrev pub ids_beside : ℕ → List ℕ → Beside
ids_beside step ids = record { tids = ids; links = []; step = step; means = the_means }

-- the ids that an act by a worker on a CPU leaves, where it has this reply
abbrev pub ids_left : State → ℕ → ℕ → ℕ → Act → Reply → List ℕ → List ℕ
ids_left s step worker cpu act reply ids =
    (beside_after s (ids_beside step ids) worker cpu act reply).tids

-- those that it leaves but for an object that is given
abbrev pub ids_raised : State → ℕ → ℕ → ℕ → Act → List ℕ → List ℕ
ids_raised s step worker cpu act ids = ids_left s step worker cpu act NoFrames ids

-- ---- an object that is given

-- the id of a word grows by the step where this is so
abbrev pub with_step : ℕ → ℕ → Bool → List ℕ → List ℕ
with_step step word changed ids = slice_set ids word (id_at ids word + one_if changed * step)

-- the CPU's word of a cache, unless that is checked
abbrev pub word_in : State → ℕ → ℕ → Option ℕ
word_in s cpu cache = if is_some (checked_of s cache) then None else Some (cpu_number cache cpu)

-- the word that an act changes once more where it is given an object
abbrev pub word_given : State → ℕ → Act → Option ℕ
word_given s cpu (act.Alloc place object) = option_and_then (word_in s cpu) (named s place)
word_given s cpu _ = None

abbrev pub with_given : ℕ → Option ℕ → Reply → List ℕ → List ℕ
with_given step None reply ids = ids
with_given step (Some word) reply ids = with_step step word (is_given reply) ids

-- ---- room

-- the word is one of all, and has room for a step
abbrev pub WordHasRoom : ℕ → List ℕ → ℕ → Type 0
WordHasRoom step ids word = (word < length ids) × (id_at ids word + step < 2 ^ 32)

-- each word has room for a step
abbrev pub HaveRoom : ℕ → List ℕ → Type 0
HaveRoom step ids = (n : ℕ) → id_at ids n + step < 2 ^ 32
