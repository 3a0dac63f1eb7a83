use Rattle.std.proofs.Common.{arith}
use Rattle.slub_recording.specs.Recording.{recorded}
use Rattle.slub_recording.specs.State.{above}
use Rattle.slub_recording.proofs.Readings.{modest_parts}
use Rattle.slub_recording.proofs.state.State.take.Goals as goal

pub returns-clause-modest : goal.returns-clause-modest
returns-clause-modest c =
    modest_parts (above c.args.self.now) c.args.said _ c.put.new.self.time (recorded c.put.new.self.recording) (omega (arith, c.in_ok-put.ensures.lines)) c.in_ok-put.ensures.recorded c.requires.modest (omega (arith, c.requires.room))
