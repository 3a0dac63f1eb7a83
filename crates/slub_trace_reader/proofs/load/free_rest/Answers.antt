use Rattle.std.proofs.Common.{◌≡◌, [], ◌++◌, length, flat_map, sym, ap, ◌∙◌, arith}
use Rattle.std.specs.List.{range_with_len}
use Rattle.std.proofs.lemmas.List.{get_or_default}
use Rattle.slub_trace_reader.specs.Load.{held_by, last_frees}
use Rattle.slub_trace_reader.proofs.Events.{held_kept}
use Rattle.slub_trace_reader.proofs.Frees.{frees_are, frees_more, emptied_is}
use Rattle.slub_trace_reader.proofs.load.free_rest.Goals as goal

pub loop-worker-preserved : goal.loop-worker-preserved
loop-worker-preserved c =
    let es = c.args.events.now.items in
    let held = c.args.held.now in
    let worker = c.loop-worker.worker in
    let queue : held_by worker es ≡ c.index-held-worker.result =
    held_kept es held c.requires.held worker ∙ get_or_default held worker [] c.index-held-worker.result c.loop-worker-test.true ∙ sym c.index-held-worker.is in (
      c.free_all.ensures.freed ∙ ap (λ l. c.loop-worker.events.items ++ l) (frees_are es worker c.index-held-worker.result queue)
          ∙ ap (λ l. l ++ last_frees es worker) c.loop-worker.invariant.0 ∙ frees_more es es worker,
      omega (arith, c.free_all.ensures.few, c.loop-worker.invariant.1),
      c.free_all.ensures.room ∙ c.loop-worker.invariant.2,
    )

pub returns : goal.returns
returns c =
    c.loop-worker.invariant.0
    ∙ ap (λ n. c.args.events.now.items ++ flat_map (last_frees c.args.events.now.items) (range_with_len 0 n)) (omega (arith, c.loop-worker-test.false))
    ∙ emptied_is (length c.args.held.now) c.args.events.now.items
