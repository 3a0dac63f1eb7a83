use Rattle.slub_recording.specs.Recording.{reading}
use Rattle.slub_recording.proofs.Readings.{answer_from}
use Rattle.slub_recording.proofs.Windows.{refuses_whole, text_reads}
use Rattle.slub_recording.proofs.reading.read_bytes.Goals as goal

pub returns-in-Ok : goal.returns-in-Ok
returns-in-Ok c = answer_from _ _ c.read_text.result (text_reads c.args.bytes.now c.in-Ok.ensures.text.0 c.in-Ok.ensures.text.1) c.read_text.ensures

pub returns-in-Err : goal.returns-in-Err
returns-in-Err c = refuses_whole reading c.args.bytes.now c.in-Err.fault c.in-Err.ensures.file
