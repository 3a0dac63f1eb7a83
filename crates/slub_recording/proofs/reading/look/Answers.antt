use Rattle.slub_recording.proofs.Windows.{file_dat, file_perf, no_file}
use Rattle.slub_recording.proofs.reading.look.Goals as goal

pub returns-then-is_some-clause-file : goal.returns-then-is_some-clause-file
returns-then-is_some-clause-file c = file_dat c.args.bytes.now c.after.result c.after.ensures c.if-is_some.ensures

pub returns-then-is_some-2-clause-file : goal.returns-then-is_some-2-clause-file
returns-then-is_some-2-clause-file c = file_perf c.args.bytes.now c.after-2.result c.after-2.ensures c.if-is_some-2.ensures

pub returns-clause-text : goal.returns-clause-text
returns-clause-text c = (no_file _ c.args.bytes.now c.after.result c.after.ensures c.if-is_some.ensures, no_file _ c.args.bytes.now c.after-2.result c.after-2.ensures c.if-is_some-2.ensures)
