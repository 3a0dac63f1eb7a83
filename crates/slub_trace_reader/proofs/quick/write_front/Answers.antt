use Rattle.slub_trace_reader.proofs.QuickLines.{write_in_front}
use Rattle.slub_trace_reader.proofs.quick.write_front.Goals as goal

pub returns : goal.returns
returns c =
    write_in_front c.args.bytes.now c.in_ok-past.past.now c.in_ok-worker.past_worker.now c.in_ok-object.past_object.now c.in_ok-word.past_word.now c.in_ok-value.rest.now
    c.in_ok-worker.worker c.in_ok-object.object c.in_ok-word.word c.in_ok-value.value c.in_ok-past.ensures c.in_ok-worker.ensures c.in_ok-object.ensures c.in_ok-word.ensures c.in_ok-value.ensures
