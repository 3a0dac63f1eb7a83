use Rattle.std.proofs.Common.{◌≡◌, List, [], ◌∷◌, ◌++◌, length, map, sym, ◌∙◌, ap, arith}
use Rattle.std.specs.List.{range_with_len}
use Rattle.std.proofs.lemmas.List.{map_push}
use Rattle.std.proofs.lemmas.List.FromFn.{length-map-range_with_len, map-range_with_len_more}
use Rattle.slub_core.specs.Local.{Local}
use Rattle.slub_core.specs.Run.{idle}
use Rattle.slub_calls.specs.Calls.{events_by}
use Rattle.slub_calls.specs.Share.{gathered}
use Rattle.slub_calls.proofs.workers.open_shares.Goals as goal

pub index-requires : goal.index-requires
index-requires c =
    let long : length c.in_ok-counts.counts.items ≡ c.args.workers =
    ap length c.in_ok-counts.ensures ∙ length-map-range_with_len (λ worker. length (events_by worker c.args.events.now)) 0 c.args.workers in
    omega (arith, c.in_ok-counts.counts.ok.0, long, c.loop-worker-test.true)

pub loop-worker-preserved : goal.loop-worker-preserved
loop-worker-preserved c =
    ap (map gathered) c.in_ok-push.ensures.items ∙ map_push gathered c.loop-worker.shares.items c.in_ok-open.field-0
    ∙ ap (λ (locals : List Local). locals ++ gathered c.in_ok-open.field-0 ∷ []) c.loop-worker.invariant
    ∙ ap (λ (local : Local). map (λ worker. record idle { worker = worker }) (range_with_len 0 c.loop-worker.worker) ++ local ∷ []) c.in_ok-open.ensures
    ∙ sym (map-range_with_len_more (λ worker. record idle { worker = worker }) 0 c.loop-worker.worker c.loop-worker.worker (omega arith))
