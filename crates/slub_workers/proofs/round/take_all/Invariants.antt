use Rattle.std.proofs.Common.{◌≡◌, ◌+◌, ◌≤◌, ◌++◌, false, [], length, map, All, vec_capacity}
use Rattle.slub_workers.specs.Ranks.{AreBack}
use Rattle.slub_workers.specs.Ends.{IsIdleAt, HasNotTried, rising}
use Rattle.slub_workers.specs.Workers.{countdown, worker_in}
use Rattle.slub_workers.proofs.round.take_all.Given as goal

-- the first are back, and the others have their seats
abbrev pub invariant-loop-worker : goal.invariant-loop-worker
invariant-loop-worker l = record {
  table : l.root.table_id ≡ l.shared.words.shared.table_id;
  slots : l.root.me.1 ≡ [];
  list : All (IsIdleAt l.shared.words.shared.table_id) l.list.items;
  numbers : map worker_in l.list.items ++ countdown (length l.locals.items) ≡ countdown (length l.fn.list.items);
  back : AreBack l.tried 0 l.root.me.0 l.locals.items;
  count : length l.list.items + length l.locals.items ≡ length l.fn.list.items;
  room : length l.fn.list.items ≤ vec_capacity l.locals;
  locals : l.locals.items ++ rising l.list.items ≡ rising l.fn.list.items;
  untried : All HasNotTried l.fn.list.items → (l.tried ≡ false) × All HasNotTried l.list.items;
}

abbrev pub decreases-loop-worker : goal.decreases-loop-worker
decreases-loop-worker l = length l.list.items
