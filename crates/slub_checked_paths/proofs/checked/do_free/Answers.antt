use Rattle.slub_core.specs.Values.{values_of}
use Rattle.slub_checked_paths.proofs.AtOnce.{free-from, free-damaged}
use Rattle.slub_checked_paths.proofs.checked.do_free.Goals as goal

pub returns-in-Ok-clause-change : goal.returns-in-Ok-clause-change
returns-in-Ok-clause-change c = λ means.
    free-from c.args.setup.now means (values_of c.args.values.now) (values_of c.take_back_in.new.values) c.args.local.now c.freed.new.local c.freed.result c.cache-cache.result c.slot_of.result c.layout-limit.result c.in-Ok.run'
    c.cache-cache.ensures c.slot_of.ensures c.layout-limit.ensures.layout c.in-Ok.ensures.taken c.freed.ensures

pub returns-in-Err-clause-change : goal.returns-in-Err-clause-change
returns-in-Err-clause-change c = λ means.
    free-damaged c.args.setup.now means (values_of c.args.values.now) (values_of c.take_back_in.new.values) c.args.local.now c.at.new.self c.in-Err.damage c.cache-cache.result c.slot_of.result
    c.cache-cache.ensures c.slot_of.ensures c.in-Err.ensures.taken c.at.ensures
