use Rattle.std.proofs.Common.{◌∙◌, arith}
use Rattle.slub_steps.specs.Rounds.{title_at}
use Rattle.slub_open_close.proofs.Pushes.{map-more}
use Rattle.slub_steps.proofs.titles.titles_of.Goals as goal

pub loop-cache-preserved : goal.loop-cache-preserved
loop-cache-preserved c =
    c.in_ok-push.ensures.items ∙ map-more c.loop-cache.titles.items (title_at c.args.lists.now) 0 c.loop-cache.cache c.loop-cache.cache c.title_at.result (omega arith) c.loop-cache.invariant c.title_at.ensures
