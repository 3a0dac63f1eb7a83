use Rattle.std.proofs.Common.{refl}
use Rattle.slub_round_log.specs.Log.{first_lines}
use Rattle.slub_round_log.proofs.Ending.{put_is}
use Rattle.slub_round_log.proofs.kept.Kept.put_first.Goals as goal

pub returns : goal.returns
returns c =
    put_is c.args.self.now (record c.args.self.now { lines = c.push_first-done.new.lines }) c.settle.new.self (first_lines c.args.self.now.labels c.args.locals.now) c.push_first-done.result
    refl c.requires c.push_first-done.ensures c.settle.ensures.fine c.settle.ensures.lacking c.settle.ensures.rest
