use Rattle.std.proofs.Common.{List, subst}
use Rattle.slub_core.specs.Local.{Local}
use Rattle.slub_rounds.proofs.Watching.{came_watched}
use Rattle.slub_rounds.proofs.watched.run_turns.Goals as goal

pub returns-clause-came : goal.returns-clause-came
returns-clause-came g c =
    let w = g.W.Watch in
    let at = c.args.watched.now in
    let told = subst (λ (ls : List Local). w.begins_round at.machine.setup at.watch ls c.begins_round.new.self) c.as_slice.ensures.value c.begins_round.ensures in
    came_watched w.begins_round w.chooses w.hears w.is_done w.halts at.watch (record { machine = at.machine; watch = c.begins_round.new.self }) c.scheduled.new.machine c.scheduled.result told c.scheduled.ensures.ends
