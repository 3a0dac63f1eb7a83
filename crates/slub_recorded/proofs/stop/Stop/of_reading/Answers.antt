use Rattle.slub_recorded.proofs.Endings.{read_stop, stops_with}
use Rattle.slub_recorded.proofs.stop.Stop.of_reading.Goals as goal

pub returns-in_default : goal.returns-in_default
returns-in_default c = read_stop c.args.fault.now c.with.result c.in_default.not-ReadFault c.in_default.not-NoMemory (stops_with c.read_line.result _ c.with.result c.read_line.ensures c.with.ensures)
