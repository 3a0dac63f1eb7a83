use Rattle.slub_trace_reader.proofs.QuickLines.{alloc_in_front}
use Rattle.slub_trace_reader.proofs.quick.alloc_front.Goals as goal

pub returns : goal.returns
returns c =
    alloc_in_front c.args.names.now.keys c.args.bytes.now c.in_ok-past.past.now c.in_ok-worker.past_worker.now c.in_ok-cpu.past_cpu.now c.in_ok-cache.past_cache.now c.in_ok-object.rest.now
    c.in_ok-worker.worker c.in_ok-cpu.cpu c.in_ok-cache.cache c.in_ok-object.object c.in_ok-past.ensures c.in_ok-worker.ensures c.in_ok-cpu.ensures c.in_ok-cache.ensures c.in_ok-object.ensures
