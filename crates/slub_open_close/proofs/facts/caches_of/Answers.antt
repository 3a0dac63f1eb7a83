use Rattle.std.proofs.Common.{◌∙◌, arith}
use Rattle.slub_list_machine.specs.Parts.{state_of}
use Rattle.slub_open_close.specs.Facts.{cache_facts}
use Rattle.slub_open_close.proofs.Pushes.{map-more}
use Rattle.slub_open_close.proofs.facts.caches_of.Goals as goal

pub loop-cache-preserved : goal.loop-cache-preserved
loop-cache-preserved c =
    c.in_ok-push.ensures.items ∙ map-more c.loop-cache.caches.items (cache_facts (state_of c.args.parts.now)) 0 c.loop-cache.cache c.loop-cache.cache c.facts_at.result (omega arith) c.loop-cache.invariant c.facts_at.ensures
