-- What the parts of serving a line ask and give.
use Rattle.std.specs.Prelude.{ℕ, ◌<◌, ◌≤◌, List, MatchOption, length, slice_get, ⊤}
use Rattle.slub_trace.specs.declared.reply.Reply.{Reply}
use Rattle.slub_trace.specs.declared.reply.Reply.TheVariants as reply
use Rattle.slub_lists.specs.State.{State}
use Rattle.slub_slabinfo_text.specs.declared.client.ClientAnswer.{ClientAnswer}
use Rattle.slub_rounds.specs.Reserves.{Reserve, TellsFree, times_in}

-- the name of its cache is one that the machine knows, and there is room for what it may keep
abbrev pub IsUsable : State → Reserve → Type 0
IsUsable s reserve = (reserve.cache < length s.table.kept) × (reserve.min_nr ≤ 64)

-- each of its numbers is one of the machine
abbrev pub AreKnown : State → List Reserve → Type 0
AreKnown s reserves = (number : ℕ) → 0 < times_in number reserves → number < length s.board

-- a free of an object that is on the board was answered: it was freed, or found damaged
abbrev pub IsFreeOfHeld : Reply → Type 0
IsFreeOfHeld (reply.Freed address) = ⊤
IsFreeOfHeld (reply.Corrupt damage) = ⊤
IsFreeOfHeld _ = ⊥

-- so was the first of these
abbrev pub FreesHeld : List Reply → Type 0
FreesHeld replies = MatchOption (slice_get replies 0) ⊥ IsFreeOfHeld

-- and that is told
abbrev pub TellsFreed : List Reply → ClientAnswer → Type 0
TellsFreed replies told = MatchOption (slice_get replies 0) ⊥ (λ reply. TellsFree reply told)
