use Rattle.std.proofs.Common.{[]}
use Rattle.slub_picks.specs.Turns.{Say}
use Rattle.slub_round_log.proofs.Choosing.{over, refused}
use Rattle.slub_round_log.proofs.choice.Choice.end.Goals as goal

pub returns-in-Part-clause-over : goal.returns-in-Part-clause-over
returns-in-Part-clause-over c = over c.args.self.now c.in-Part.walk c.in-Part.is c.end.result c.end.ensures.ends

pub returns-in-Part-clause-refused : goal.returns-in-Part-clause-refused
returns-in-Part-clause-refused c =
    refused c.args.self.now c.in-Part.walk c.in-Part.is c.end.result [] (λ turns. Say c.in-Part.walk.workers c.in-Part.walk.entries.now turns []) c.end.ensures.ends c.end.ensures.short
