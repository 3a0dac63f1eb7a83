use Rattle.std.proofs.Common.{rules}
use Rattle.std.specs.Ordering.{is_lt}
use Rattle.std.proofs.lemmas.List.Sorted.{answers_always, ranks_by}
use Rattle.slub_recorded.specs.declared.groups.Chosen.{Chosen}
use Rattle.slub_recorded.specs.Members.{cache_cmp}
use Rattle.slub_recorded.proofs.Framed.{cache_cmp_total, reordered}
use Rattle.slub_recorded.proofs.groups.ordered.Goals as goal

pub returns-clause-held : goal.returns-clause-held
returns-clause-held c = reordered c.args.cpus c.args.caches.now c.in_ok-chosen.chosen.items c.sort_by.new.self.items c.sort_by.ensures.permutation c.in_ok-chosen.ensures

pub returns-clause-sorted : goal.returns-clause-sorted
returns-clause-sorted c = c.in_ok-sort_by.ensures.sorted (λ x y. is_lt (cache_cmp x.cache y.cache)) (ranks_by cache_cmp_total (λ (x : Chosen). x.cache)) (answers_always _ _ _ (λ f a r q k. search rules))
