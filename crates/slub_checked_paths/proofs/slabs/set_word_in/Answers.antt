use Rattle.std.proofs.Common.{ℕ, ◌+◌, ap}
use Rattle.slub_core.specs.Setup.{node_lock}
use Rattle.slub_core.specs.World.{LockValue, Checked}
use Rattle.slub_red_zone.specs.Steps.{with_word}
use Rattle.slub_checked_paths.specs.Slabs.{slabs_at}
use Rattle.slub_checked_paths.proofs.Calls.{now-lock}
use Rattle.slub_core.proofs.Updates.{rooms_of-set}
use Rattle.slub_checked_paths.proofs.slabs.set_word_in.Goals as goal

pub returns-clause-after : goal.returns-clause-after
returns-clause-after c = now-lock c.args.values.now (c.from.result + 1) (node_lock c.args.cache) c.index-values-from.result c.set_word.new.guarded (ap (λ (k : ℕ). k + 1) c.from.ensures) c.requires.checked c.index-values-from.is (λ (v : LockValue). Checked (with_word (slabs_at v) c.args.slot c.args.word c.args.value)) c.set_word.ensures.after

pub returns-clause-rooms : goal.returns-clause-rooms
returns-clause-rooms c = rooms_of-set _ _ _ _ c.set_word.ensures.room
