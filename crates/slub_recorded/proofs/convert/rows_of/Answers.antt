use Rattle.std.proofs.Common.{sym}
use Rattle.slub_recorded.proofs.Rows.{all_more, rows_more}
use Rattle.slub_recorded.proofs.convert.rows_of.Goals as goal

pub loop-one-preserved : goal.loop-one-preserved
loop-one-preserved c = record {
  fit = all_more c.loop-one.rows.items c.push.new.self.items c.row.result c.loop-one.invariant.fit c.row.ensures.fits c.in_ok-push.ensures.items;
  rows = rows_more c.args.chosen.now c.loop-one.one-index c.one-item.result c.one-item.result c.loop-one.rows.items c.push.new.self.items c.row.result c.loop-one-test.true (sym c.one-item.is) c.loop-one.invariant.rows c.row.ensures.is c.in_ok-push.ensures.items;
}
