use Rattle.slub_trace_reader.proofs.QuickLines.{read_in_front}
use Rattle.slub_trace_reader.proofs.quick.read_front.Goals as goal

pub returns : goal.returns
returns c =
    read_in_front c.args.bytes.now c.in_ok-past.past.now c.in_ok-worker.past_worker.now c.in_ok-object.past_object.now c.in_ok-word.rest.now
    c.in_ok-worker.worker c.in_ok-object.object c.in_ok-word.word c.in_ok-past.ensures c.in_ok-worker.ensures c.in_ok-object.ensures c.in_ok-word.ensures
