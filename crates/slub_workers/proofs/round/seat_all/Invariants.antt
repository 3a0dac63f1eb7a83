use Rattle.std.proofs.Common.{◌≡◌, ◌+◌, ◌≤◌, ◌++◌, [], length, map, replicate, All, vec_capacity}
use Rattle.slub_core.specs.declared.guarded.Guarded.TheVariants.{Nothing}
use Rattle.slub_workers.specs.Ends.{IsIdleAt, seated_first}
use Rattle.slub_workers.specs.Ranks.{AreFresh, view_of}
use Rattle.slub_workers.specs.Workers.{MayWorkAt, countdown, worker_in}
use Rattle.slub_workers.proofs.round.seat_all.Given as goal

-- some have seats, and the others are in the first seat's view
abbrev pub invariant-loop-local : goal.invariant-loop-local
invariant-loop-local l = record {
  table : l.root.table_id ≡ l.shared.words.shared.table_id;
  view : l.root.me ≡ (view_of l.locals.items, []);
  fresh : AreFresh l.shared.words.shared.key l.locals.items;
  hands : All (λ hand. hand.items ≡ replicate 33 Nothing) l.hands.items;
  count : length l.hands.items ≡ length l.locals.items;
  room : length l.list.items + length l.locals.items ≤ vec_capacity l.list;
  seated : All (MayWorkAt l.shared.words.shared.key l.shared.words.shared.table_id) l.list.items;
  idle : All (IsIdleAt l.shared.words.shared.table_id) l.list.items;
  numbers : map worker_in l.list.items ++ countdown (length l.locals.items) ≡ countdown (length l.fn.locals.items);
  first : l.list.items ++ seated_first l.shared.words.shared.table_id l.locals.items ≡ seated_first l.shared.words.shared.table_id l.fn.locals.items;
  capacity : vec_capacity l.locals ≡ vec_capacity l.fn.locals;
}

abbrev pub decreases-loop-local : goal.decreases-loop-local
decreases-loop-local l = length l.locals.items
