use Rattle.slub_recorded.proofs.Only.{none_left}
use Rattle.slub_recorded.proofs.listed.list.Goals as goal

pub returns-clause-only : goal.returns-clause-only
returns-clause-only c =
    λ left meant. c.in_ok-put_left_out.ensures.only left meant (c.in_ok-put_letters.ensures (c.in_ok-put_unknown.ensures (none_left c.new-notes.result.items c.new-notes.ensures.items)))
