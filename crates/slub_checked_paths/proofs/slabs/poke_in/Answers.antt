use Rattle.std.proofs.Common.{◌≡◌, ℕ, ◌+◌, ap}
use Rattle.slub_core.specs.Setup.{node_lock}
use Rattle.slub_core.specs.World.{LockValue, Checked}
use Rattle.slub_core.specs.Checked.{poked, poked_reply}
use Rattle.slub_checked_paths.specs.Slabs.{slabs_at}
use Rattle.slub_checked_paths.proofs.Calls.{of-lock, now-lock}
use Rattle.slub_core.proofs.Updates.{rooms_of-set}
use Rattle.slub_checked_paths.proofs.slabs.poke_in.Goals as goal

pub returns-clause-reply : goal.returns-clause-reply
returns-clause-reply c = of-lock c.args.values.now (c.from.result + 1) (node_lock c.args.cache) c.index-values-from.result c.poke.new.guarded (ap (λ (k : ℕ). k + 1) c.from.ensures) c.requires.checked c.index-values-from.is (λ (v : LockValue). c.poke.result ≡ poked_reply c.args.local.now (slabs_at v)) c.poke.ensures.reply

pub returns-clause-after : goal.returns-clause-after
returns-clause-after c = now-lock c.args.values.now (c.from.result + 1) (node_lock c.args.cache) c.index-values-from.result c.poke.new.guarded (ap (λ (k : ℕ). k + 1) c.from.ensures) c.requires.checked c.index-values-from.is (λ (v : LockValue). Checked (poked c.args.local.now (slabs_at v))) c.poke.ensures.after

pub returns-clause-rooms : goal.returns-clause-rooms
returns-clause-rooms c = rooms_of-set _ _ _ _ c.poke.ensures.room
