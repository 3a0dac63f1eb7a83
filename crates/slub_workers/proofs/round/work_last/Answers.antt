use Rattle.slub_workers.specs.Workers.{HasWorkedAt}
use Rattle.slub_workers.proofs.Ranks.{all_pushed}
use Rattle.slub_workers.proofs.round.work_last.Goals as goal

pub returns-clause-finished : goal.returns-clause-finished
returns-clause-finished g c =
    all_pushed (HasWorkedAt c.args.shared.now.words.shared.table_id) c.push_reserved.new.self.items c.args.done.items c.work.result c.push_reserved.ensures.items c.requires.done c.work.ensures.worked
