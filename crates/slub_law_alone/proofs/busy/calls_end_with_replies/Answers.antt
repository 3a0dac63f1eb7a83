use Rattle.slub_law_alone.proofs.OneCall.{ends_with_reply}
use Rattle.slub_law_alone.proofs.busy.calls_end_with_replies.Goals as goal

pub returns : goal.returns
returns c = ends_with_reply
