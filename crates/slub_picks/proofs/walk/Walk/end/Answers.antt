use Rattle.slub_picks.proofs.walk.Walk.end.Goals as goal

pub returns-in-PicksEnd-clause-ends : goal.returns-in-PicksEnd-clause-ends
returns-in-PicksEnd-clause-ends c = λ turns along. rw c.in-PicksEnd.is at (c.in-Err.ensures.along turns along)
