use Rattle.slub_edges.specs.Window.{items}
use Rattle.slub_recording.proofs.Soundness.{sound_answer}
use Rattle.slub_recording.proofs.Windows.{first_read, reads_first, reads_on, sound_on}
use Rattle.slub_recording.proofs.reading.read_recording.Goals as goal

pub returns-in-Ok-true-clause-sound : goal.returns-in-Ok-true-clause-sound
returns-in-Ok-true-clause-sound g c = sound_answer c.as_slice.result.now c.read_bytes.result c.read_bytes.ensures

pub returns-in-Ok-false-clause-sound : goal.returns-in-Ok-false-clause-sound
returns-in-Ok-false-clause-sound g c = sound_on _ _ _ _ _ c.read_on.result c.read_on.ensures.reads

pub returns-in-Ok-true-clause-reads : goal.returns-in-Ok-true-clause-reads
returns-in-Ok-true-clause-reads g c =
    let filled = c.in-Ok-true.ensures in
    reads_first _ _ _ (items c.in-Ok.window) (items c.fill.new.self) _ _ _ _ c.read_bytes.result filled.grows c.in-Ok.ensures.none c.in-Ok.ensures.count c.as_slice.ensures filled.few (filled.end c.in-Ok-true.field-0-test) filled.still c.read_bytes.ensures

pub returns-in-Ok-false-clause-reads : goal.returns-in-Ok-false-clause-reads
returns-in-Ok-false-clause-reads g c =
    let filled = c.in-Ok-false.ensures in
    reads_on _ _ _ (items c.fill.new.self) _ _ _ c.read_on.result (first_read _ _ (items c.in-Ok.window) (items c.fill.new.self) _ _ filled.grows c.in-Ok.ensures.none) filled.still c.read_on.ensures.reads
