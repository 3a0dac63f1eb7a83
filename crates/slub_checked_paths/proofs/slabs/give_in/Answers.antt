use Rattle.std.proofs.Common.{ℕ, ◌+◌, ap}
use Rattle.slub_core.specs.Setup.{node_lock}
use Rattle.slub_core.specs.World.{LockValue}
use Rattle.slub_red_zone.specs.Sound.{IsSound}
use Rattle.slub_checked_paths.specs.Slabs.{slabs_at}
use Rattle.slub_checked_paths.proofs.Calls.{of-lock}
use Rattle.slub_core.proofs.Updates.{rooms_of-set}
use Rattle.slub_checked_paths.proofs.slabs.give_in.Goals as goal

pub returns-clause-sound : goal.returns-clause-sound
returns-clause-sound c = of-lock c.args.values.now (c.from.result + 1) (node_lock c.args.cache) c.index-values-from.result c.give.new.guarded (ap (λ (k : ℕ). k + 1) c.from.ensures) c.requires c.index-values-from.is (λ (v : LockValue). IsSound (slabs_at v)) c.give.ensures.sound

pub returns-clause-rooms : goal.returns-clause-rooms
returns-clause-rooms c = rooms_of-set _ _ _ _ c.give.ensures.room
