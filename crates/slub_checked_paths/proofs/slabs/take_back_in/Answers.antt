use Rattle.std.proofs.Common.{ℕ, ◌+◌, ap}
use Rattle.slub_core.specs.Setup.{node_lock}
use Rattle.slub_checked_paths.proofs.Calls.{taken-in}
use Rattle.slub_core.proofs.Updates.{rooms_of-set}
use Rattle.slub_checked_paths.proofs.slabs.take_back_in.Goals as goal

pub returns-clause-taken : goal.returns-clause-taken
returns-clause-taken c = taken-in c.args.values.now (c.from.result + 1) (node_lock c.args.cache) c.index-values-from.result c.take_back.new.guarded (ap (λ (k : ℕ). k + 1) c.from.ensures) c.requires.checked c.index-values-from.is c.take_back.result c.args.slot c.args.limit c.take_back.ensures.taken

pub returns-clause-rooms : goal.returns-clause-rooms
returns-clause-rooms c = rooms_of-set _ _ _ _ c.take_back.ensures.room
