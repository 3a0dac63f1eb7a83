-- The rounds of a run, those of clients among them, and how often their events gave an object and
-- freed it.
use Rattle.std.specs.Prelude.{ℕ, List, [], ◌∷◌, flat_map}
use Rattle.std.specs.List.{zip}
use Rattle.slub_trace.specs.declared.trace.Item.{Item}
use Rattle.slub_trace.specs.declared.trace.Item.TheVariants as item
use Rattle.slub_trace.specs.declared.trace.Trace.{Trace}
use Rattle.slub_slabinfo_text.specs.declared.client.ClientRound.{ClientRound}
use Rattle.slub_slabinfo_text.specs.declared.journal.Done.{Done}
use Rattle.slub_slabinfo_text.specs.declared.journal.Done.TheVariants as done
use Rattle.slub_slabinfo_text.specs.declared.journal.Journal.{Journal}
use Rattle.slub_law_rounds.specs.Answered.{Answered, times_freed, times_given}

-- ---- a run

-- the rounds of an item that was done, in their order: that of a `round`, or those of a client's
-- line
abbrev pub rounds_of : Item → Done → List ClientRound
rounds_of (item.Round round) (done.Round result) = record { asked = round; result = result } ∷ []
rounds_of (item.Client client) (done.Client outcome) = outcome.rounds
rounds_of _ _ = []

-- those of items, one after the other
abbrev pub rounds_among : List Item → List Done → List ClientRound
rounds_among items dones = flat_map (λ one. rounds_of one.0 one.1) (zip items dones)

-- the rounds of a journal
abbrev pub rounds_in : Trace → Journal → List ClientRound
rounds_in trace journal = rounds_among trace.items journal.items

-- the events of a round, each with its reply
abbrev pub answered_by : ClientRound → List Answered
answered_by round = zip round.asked.events round.result.replies

-- all events that were answered, each with its reply, in their order
abbrev pub answered : Trace → Journal → List Answered
answered trace journal = flat_map answered_by (rounds_in trace journal)

-- how often an object was given
abbrev pub given_times : ℕ → Trace → Journal → ℕ
given_times object trace journal = times_given object (answered trace journal)

-- how often an object was freed
abbrev pub freed_times : ℕ → Trace → Journal → ℕ
freed_times object trace journal = times_freed object (answered trace journal)
