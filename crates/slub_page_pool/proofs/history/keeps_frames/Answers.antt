-- The laws are lemmas over histories.
use Rattle.slub_page_pool.proofs.Histories.{history_keeps_frames, history_reopens, history_counts}
use Rattle.slub_page_pool.proofs.history.keeps_frames.Goals as goal

pub returns-clause-partition : goal.returns-clause-partition
returns-clause-partition c = history_keeps_frames

pub returns-clause-reopens : goal.returns-clause-reopens
returns-clause-reopens c = history_reopens

pub returns-clause-counts : goal.returns-clause-counts
returns-clause-counts c = history_counts
