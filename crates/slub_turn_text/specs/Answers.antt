-- The lines of answers.
use Rattle.std.specs.Prelude.{ℕ, ◌+◌, ◌-◌, List, [], ◌∷◌, ◌++◌, length, reverse, slice_get, flat_map, codes, Option, Some, None}
use Rattle.std.specs.List.{range_with_len}
use Rattle.slub_trace.specs.declared.event.Event.{Event}
use Rattle.slub_trace.specs.declared.reply.Reply.{Reply}
use Rattle.slub_trace.specs.declared.reply.Reply.TheVariants.{Given, Freed}
use Rattle.slub_slabinfo_text.specs.Texts.{reply_answer}
use Rattle.slub_core.specs.declared.local.Answered.{Answered}
use Rattle.slub_core.specs.declared.local.Known.{Known}
use Rattle.slub_core.specs.Local.{Local, here}
use Rattle.slub_turn_text.specs.Columns.{front}
use Rattle.slub_turn_text.specs.Fields.{object_text}
use Rattle.slub_turn_text.specs.Labels.{RoundLabels, event_at, event_words}
use Rattle.slub_turn_text.specs.Turns.{lane_of}

-- the event's reply line without its end: `alloc 3: given 4288`
unfoldable pub answer_words : RoundLabels → Event → Reply → List ℕ
answer_words labels event reply = event_words labels event ++ codes ": " ++ reply_answer reply

-- where the object stands that was given or freed: ` at F.I`
unfoldable pub at_text : Known → Reply → List ℕ
at_text o (Given address) = codes " at " ++ object_text o.frame o.index
at_text o (Freed address) = codes " at " ++ object_text o.frame o.index
at_text o _ = []

-- the line of a reply that the worker's call has, which isn't noted yet
abbrev pub answer_line : RoundLabels → Local → Reply → List ℕ
answer_line labels l reply =
    front (codes "=") (lane_of labels l.worker)
    ++ answer_words labels (event_at labels l.worker (length l.done)) reply
    ++ at_text (here l) reply ++ 10 ∷ []

-- ---- events that were answered without a step

-- the line of an answer that gives and frees no object
unfoldable pub quiet_line : RoundLabels → ℕ → ℕ → Reply → List ℕ
quiet_line labels worker number reply =
    front (codes "=") (lane_of labels worker)
    ++ answer_words labels (event_at labels worker number) reply ++ 10 ∷ []

-- the same, where there is such an answer
abbrev pub quiet_text : RoundLabels → ℕ → ℕ → Option Answered → List ℕ
quiet_text labels worker number None = []
quiet_text labels worker number (Some answered) =
    quiet_line labels worker number answered.reply

-- the answer so many behind this one; a worker's answers have numbers from 0 on
unfoldable pub quiet_at : RoundLabels → Local → ℕ → ℕ → List ℕ
quiet_at labels l from more =
    quiet_text labels l.worker (from + more) (slice_get (reverse l.done) (from + more))

-- the lines of a worker's answers, from this number on
abbrev pub quiet_lines : RoundLabels → Local → ℕ → List ℕ
quiet_lines labels l from =
    flat_map (quiet_at labels l from) (range_with_len 0 (length l.done - from))
