use Rattle.slub_recorded.proofs.Endings.{convert_stop, stops_with}
use Rattle.slub_recorded.proofs.stop.Stop.of_converting.Goals as goal

pub returns-in_default : goal.returns-in_default
returns-in_default c = convert_stop c.args.fault.now c.with.result c.in_default.not-NoMemory (stops_with c.convert_line.result _ c.with.result c.convert_line.ensures c.with.ensures)
