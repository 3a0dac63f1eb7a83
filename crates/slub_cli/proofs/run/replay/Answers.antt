use Rattle.std.proofs.Common.{refl}
use Rattle.slub_cli.proofs.Parts.{unread_replays}
use Rattle.slub_slabinfo_text.proofs.Given.{given-none}
use Rattle.slub_cli.proofs.run.replay.Goals as goal

pub returns-in-Err-clause-replayed : goal.returns-in-Err-clause-replayed
returns-in-Err-clause-replayed g c =
    λ words. unread_replays _ c.args.way c.args.replies c.args.trace.now c.args.journal.now c.in-Err.stop c.in-Err.ensures.reads refl c.requires.unread c.requires.empty

pub returns-in-Err-clause-lines : goal.returns-in-Err-clause-lines
returns-in-Err-clause-lines g c = given-none (g.K.Sink.pieces c.args.sink.now)
