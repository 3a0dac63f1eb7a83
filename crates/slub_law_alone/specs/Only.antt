-- A round in the order of the text gives whatever the lists give.
use Rattle.std.specs.Prelude.{◌≡◌, false, List, All}
use Rattle.slub_trace.specs.declared.event.Round.{Round}
use Rattle.slub_trace.specs.declared.reply.Reply.{Reply}
use Rattle.slub_trace.specs.Kinds.{is_no_memory}
use Rattle.slub_trace.specs.declared.trace.Trace.{Trace}
use Rattle.slub_lists.specs.State.{State}
use Rattle.slub_law_opening.specs.Laws.{MayOpen}
use Rattle.slub_law_opening.specs.Opening.{Beside}
use Rattle.slub_calls.specs.Laws.{MayDo}
use Rattle.slub_calls.specs.Events.{RunsWithIds}
use Rattle.slub_law_alone.specs.SerialLaws.{IsSimple, RunsAsLists}

-- the round has these replies, and leaves these lists and these ids beside them
pub record RunsAs (s : State) (b : Beside) (round : Round) (replies : List Reply) (after : State)
    (left : Beside) : Type 0 where
  pub run : RunsAsLists s b round
  pub answered : run.replies ≡ replies
  pub lists : run.after ≡ after
  pub beside : run.beside ≡ left

-- whatever the lists answer to the events and leave, ids beside them, memory being there for each,
-- the round whose events are made one after the other answers and leaves
abbrev pub RunsOfListsAreRounds : Type 0
RunsOfListsAreRounds =
    (s : State) (b : Beside) (trace : Trace) (round : Round) (replies : List Reply) (after : State)
    (left : Beside) → MayOpen s b → MayDo s trace round → IsSimple s b round.events
    → RunsWithIds s b round.events replies after left
    → All (λ reply. is_no_memory reply ≡ false) replies → RunsAs s b round replies after left
