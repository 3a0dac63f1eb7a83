use Rattle.std.proofs.Common.{◌∙◌}
use Rattle.slub_tries.proofs.Told.{told-next}
use Rattle.slub_tries.proofs.lone.LoneWorker.all.Goals as goal

pub loop-preserved : goal.loop-preserved
loop-preserved g c =
    let first = c.args.self.now in
    let now = c.loop.self in
    let told = c.in-Some-next.ensures in
    record {
      key = told.key ∙ c.loop.invariant.key;
      told = told-next first.key now.key first.standing c.loop.all.items c.push.new.self.items now.standing c.in-Some-next.told c.next-in-loop.new.self.standing c.loop.invariant.key c.loop.invariant.told told.told c.in_ok-push-in-Some-next.ensures.items;
    }
