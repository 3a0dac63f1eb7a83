use Rattle.std.proofs.Common.{rules}
use Rattle.std.proofs.lemmas.List.Sorted.{answers_always}
use Rattle.slub_node_partial.specs.declared.promotion.Slab.{Slab}
use Rattle.slub_node_partial.proofs.Orders.{in_order}
use Rattle.slub_node_partial.proofs.promotion.sort.Goals as goal

pub returns-clause-sorted : goal.returns-clause-sorted
returns-clause-sorted c =
    in_order _ _ c.requires c.sort_unstable_by_key.ensures.permutation
    (c.sort_unstable_by_key.ensures.sorted (λ (slab : Slab). (slab.free, record { 0 = slab.place })) (answers_always _ _ _ (λ f a r g h. search rules)))
