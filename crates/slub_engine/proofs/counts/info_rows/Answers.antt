use Rattle.std.proofs.Common.{refl, sym, ap, reverse, take_all, ◌∙◌}
use Rattle.std.specs.List.{filter_map}
use Rattle.slub_slabinfo_text.specs.Counts.{row_of}
use Rattle.slub_engine.proofs.CountSums.{made_next, made_reverse}
use Rattle.slub_engine.proofs.counts.info_rows.Goals as goal

pub loop-cache-preserved : goal.loop-cache-preserved
loop-cache-preserved c =
    c.in_ok-push.ensures.items
    ∙ made_next (row_of c.args.lists.now) c.in_order-cache-items.result.now c.loop-cache.cache-index _ c.loop-cache.rows.items c.info_row.result c.loop-cache-test.true refl (sym c.info_row.ensures) c.loop-cache.invariant

pub returns : goal.returns
returns c =
    let row = row_of c.args.lists.now in
    let ages = c.in_order-cache-items.result.now in
    c.reverse.ensures.items ∙ ap reverse (c.loop-cache.invariant ∙ ap (filter_map row) (take_all c.loop-cache.cache-index ages c.loop-cache-test.false)) ∙ made_reverse row ages
    ∙ ap (λ ages. filter_map row (reverse ages)) (c.in_order-cache-items.ensures.value ∙ ap (λ table. table.ages) c.caches.ensures)
