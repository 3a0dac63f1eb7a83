-- What a replay of a trace by a seed comes to, and those of many seeds.
use Rattle.std.specs.Prelude.{◌≡◌, ◌<◌, ℕ, ◌+◌, Bool, false, List, [], ◌∷◌, ◌++◌, length, map, MatchBool, ⊤}
use Rattle.std.specs.List.{list_any}
use Rattle.slub_trace.specs.declared.trace.Trace.{Trace}
use Rattle.slub_slabinfo_text.specs.declared.journal.Journal.{Journal}
use Rattle.slub_law_replay.specs.declared.way.Way.TheVariants.{Schedule}
use Rattle.slub_law_replay.specs.Runs.{EndsSpent, IsLawful}
use Rattle.slub_outcomes.specs.declared.count.Counted.{Counted}
use Rattle.slub_outcomes.specs.declared.replay.Replayed.{Replayed}
use Rattle.slub_outcomes.specs.declared.span.Span.{Span}
use Rattle.slub_outcomes.specs.Replies.{end_text, lacks_memory, replies_text}
use Rattle.slub_outcomes.specs.Tally.{AreOutcomes}

-- the items of the span are done by schedule, in turns that this seed draws, or those up to one
-- whose turns are spent: the journal is lawful, no reply of it is that memory was lacking, and this
-- is the text of its replies that count
pub record AreDone (trace : Trace) (span : Span) (seed : ℕ) (is_spent : Bool) (text : List ℕ)
    : Type 0 where
  pub journal : Journal
  pub lawful : IsLawful (Schedule seed) trace journal
  pub memory : list_any lacks_memory journal.items ≡ false
  pub ends : MatchBool is_spent
      (EndsSpent (Schedule seed) trace journal × (length journal.items < span.end))
      (length journal.items ≡ span.end)
  pub text_is : text ≡ replies_text span trace journal.items

-- a replay comes to this
abbrev pub IsReplayed : Trace → Span → ℕ → Replayed → Type 0
IsReplayed trace span seed replayed =
    (text : List ℕ) × AreDone trace span seed replayed.is_spent text
    × (replayed.replies ≡ text ++ end_text replayed.is_spent)

-- so do those of as many seeds, from this one on
abbrev pub AreReplayed : Trace → Span → ℕ → List Replayed → Type 0
AreReplayed trace span seed [] = ⊤
AreReplayed trace span seed (replayed ∷ others) =
    IsReplayed trace span seed replayed × AreReplayed trace span (seed + 1) others

-- the texts of replays
abbrev pub replies_of : List Replayed → List (List ℕ)
replies_of replays = map (λ replayed. replayed.replies) replays

-- the trace was replayed with as many seeds, from this one on, and these are the outcomes; and
-- whether some seed spent the turns of a round
pub record AreCounted (trace : Trace) (span : Span) (from seeds : ℕ) (counted : Counted)
    : Type 0 where
  pub replays : List Replayed
  pub all : length replays ≡ seeds
  pub replayed : AreReplayed trace span from replays
  pub outcomes : AreOutcomes from (replies_of replays) counted.outcomes.items
  pub spent : counted.is_spent ≡ list_any (λ replayed. replayed.is_spent) replays
