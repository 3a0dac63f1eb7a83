-- What a log says beside its turns: how it begins, and what stands before and behind the turns of a
-- round.
use Rattle.std.specs.Prelude.{ℕ, nat_lt, if◌then◌else◌, List, [], ◌∷◌, ◌++◌, codes, flat_map}
use Rattle.std.specs.Fmt.{decimal}
use Rattle.slub_trace.specs.Ranges.{step_of}
use Rattle.slub_trace.specs.declared.event.Round.{Round}
use Rattle.slub_trace.specs.declared.trace.Trace.{Trace}
use Rattle.slub_log_text.specs.declared.parts.Counts.{Counts}
use Rattle.slub_log_text.specs.declared.parts.Shown.{Shown}
use Rattle.slub_picks.specs.declared.words.Way.{Way}
use Rattle.slub_picks.specs.declared.words.Way.TheVariants.{Seed, Picks}
use Rattle.slub_state_text.specs.State.{state_text}
use Rattle.slub_turn_text.specs.Columns.{head_line}
use Rattle.slub_log_text.specs.Events.{event_line}

-- ---- the begin of a log

-- where the turns come from: the seed, or the list as it was written
abbrev pub way_text : Way → List ℕ
way_text (Seed seed) = codes "seed " ++ decimal seed
way_text (Picks list) = codes "picks " ++ list.text

-- the sizes of the machine, its first transaction id, and what each change adds to one
abbrev pub machine_line : Trace → List ℕ
machine_line trace =
    codes "machine " ++ decimal trace.frames ++ codes " " ++ decimal trace.cpus
    ++ codes " tid " ++ decimal trace.tid ++ codes " step " ++ decimal (step_of trace.cpus)
    ++ 10 ∷ []

-- its version, the machine, and where the turns come from
abbrev pub head_text : Trace → Way → List ℕ
head_text trace way =
    codes "slubsteps 1" ++ 10 ∷ machine_line trace ++ way_text way ++ 10 ∷ []

-- ---- a round

-- the state of the machine between two rounds
abbrev pub shown_text : Shown → List ℕ
shown_text m = state_text m.lists.now m.first m.ids.now m.live.now

-- what stands before its turns: its events, the state before it, and the head of the turns
abbrev pub opening_text : Trace → ℕ → Round → Shown → List ℕ
opening_text trace number round before =
    10 ∷ codes "round " ++ decimal number ++ codes ", workers " ++ decimal round.workers
    ++ 10 ∷ flat_map (event_line trace.names) round.events
    ++ codes "state before round " ++ decimal number ++ 10 ∷ shown_text before
    ++ 10 ∷ head_line round.workers

-- what is counted of its turns
abbrev pub counts_line : ℕ → Counts → List ℕ
counts_line number counts =
    codes "end of round " ++ decimal number ++ codes ": turns " ++ decimal counts.turns
    ++ codes ", exchanges lost " ++ decimal counts.lost
    ++ codes ", waits for a lock " ++ decimal counts.waits ++ 10 ∷ []

-- the part that says the turns of a round of two or more workers
abbrev pub picks_line : Round → List ℕ → List ℕ
picks_line round part =
    if nat_lt 1 round.workers then codes "picks " ++ part ++ 10 ∷ [] else []

-- what stands behind its turns, before the replies
abbrev pub closing_text : ℕ → Round → Shown → Counts → List ℕ → List ℕ
closing_text number round after counts part =
    10 ∷ codes "state after round " ++ decimal number ++ 10 ∷ shown_text after
    ++ counts_line number counts ++ picks_line round part
