-- What the log of a round's turns says, happening by happening.
use Rattle.std.specs.Prelude.{ℕ, ◌+◌, ◌-◌, ◌^◌, min, Bool, true, false, if◌then◌else◌, List, [], ◌∷◌, ◌++◌, slice_index_or, slice_set, replicate, Option, Some, None}
use Rattle.std.specs.List.{fold}
use Rattle.slub_words.specs.declared.slab.SlabWord.{SlabWord}
use Rattle.slub_trace.specs.declared.reply.Reply.{Reply}
use Rattle.slub_core.specs.declared.spot.Spot.TheVariants.{Between}
use Rattle.slub_core.specs.declared.step.Place.{Place}
use Rattle.slub_core.specs.declared.step.Place.TheVariants.{LockOf}
use Rattle.slub_core.specs.declared.step.Step.{Step}
use Rattle.slub_core.specs.declared.step.Answer.{Answer}
use Rattle.slub_core.specs.declared.step.Answer.TheVariants.{Lost}
use Rattle.slub_core.specs.Facts.{Facts}
use Rattle.slub_core.specs.Local.{Local}
use Rattle.slub_core.specs.Words.{no_slab_word}
use Rattle.slub_turns.specs.Happenings.{Happening, Begins, Steps, Advances, Changing, Changed, Rests}
use Rattle.slub_turn_text.specs.declared.change.Before.{Before}
use Rattle.slub_turn_text.specs.Labels.{RoundLabels}
use Rattle.slub_turn_text.specs.Turns.{turn_line}
use Rattle.slub_turn_text.specs.Says.{seen_after}
use Rattle.slub_turn_text.specs.Hands.{hands_text, hands_lines}
use Rattle.slub_turn_text.specs.Changes.{before_of, change_lines}
use Rattle.slub_turn_text.specs.Answers.{answer_line, quiet_lines}

-- ---- what is counted, as far as 64 bits go

abbrev pub one_more : ℕ → ℕ
one_more n = min (n + 1) (2 ^ 64 - 1)

-- the word is a lock's
abbrev pub is_lock : Place → Bool
is_lock (LockOf n) = true
is_lock _ = false

abbrev pub was_lost : Answer → Bool
was_lost (Lost x) = true
was_lost _ = false

-- ---- what a line needs to know of the turns before it

pub record Context : Type 0 where
  -- how many turns were made, how many exchanges were lost of words that are no lock's, and how many
  -- of locks
  pub turns : ℕ
  pub lost : ℕ
  pub waits : ℕ
  -- of each worker the slab word that it saw or left last
  pub seen : List SlabWord
  -- what the worker had in hand when its turn began, in words
  pub hands : List ℕ
  -- what there was before the change that was done at once last
  pub before : Before

-- the slab word that a worker saw or left last
abbrev pub seen_of : Context → ℕ → SlabWord
seen_of c worker = slice_index_or c.seen worker no_slab_word

-- an exchange is counted where it is lost
abbrev pub counted : Context → Step → Answer → Context
counted c step a = if was_lost a
    then (if is_lock step.place then record c { waits = one_more c.waits }
    else record c { lost = one_more c.lost })
    else c

-- after a step of a worker
abbrev pub stepped : Context → ℕ → Step → Answer → Context
stepped c worker step a = record (counted c step a) {
  turns = one_more c.turns;
  seen = slice_set c.seen worker (seen_after (seen_of c worker) step a);
}

abbrev pub context_after : Context → Happening → Context
context_after c (Begins l) = record c { hands = hands_text l }
context_after c (Steps value l step a) = stepped c l.worker step a
context_after c (Advances l reply) = c
context_after c (Changing value l) = record c { before = before_of value l }
context_after c (Changed value l reply) = c
context_after c (Rests value before l) = c

-- ---- the lines

-- of a reply, if there is one
abbrev pub reply_line : RoundLabels → Local → Option Reply → List ℕ
reply_line labels l None = []
reply_line labels l (Some reply) = answer_line labels l reply

abbrev pub lines_of : RoundLabels → Facts → Context → Happening → List ℕ
lines_of labels m c (Begins l) = []
lines_of labels m c (Steps value l step a) =
    turn_line labels m (seen_of c l.worker) (one_more c.turns) l step a
lines_of labels m c (Advances l reply) = reply_line labels l reply
lines_of labels m c (Changing value l) = []
lines_of labels m c (Changed value l reply) =
    change_lines labels m value c.before l reply ++ reply_line labels l reply
lines_of labels m c (Rests value before l) =
    hands_lines labels c.hands l ++ quiet_lines labels l before

-- all that is said of what comes about, in order
abbrev pub turns_text : RoundLabels → Facts → Context → List Happening → List ℕ
turns_text labels m c [] = []
turns_text labels m c (h ∷ hs) =
    lines_of labels m c h ++ turns_text labels m (context_after c h) hs

-- what is known behind it
abbrev pub context_behind : Context → List Happening → Context
context_behind c hs = fold context_after c hs

-- ---- before the first turn

-- nothing was noted yet
abbrev pub nothing_noted : Before
nothing_noted = record {
  spot = Between;
  event = 0;
  frame = 0;
  string = None;
  run = record { frame = 0; order = 0; objects = 0 };
  reports = 0;
}

-- no turn is made, and no worker has seen a slab word
abbrev pub first_context : Context
first_context = record {
  turns = 0;
  lost = 0;
  waits = 0;
  seen = replicate 16 no_slab_word;
  hands = [];
  before = nothing_noted;
}
