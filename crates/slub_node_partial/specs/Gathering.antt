-- For proofs and private clauses: the two kinds of slabs that promotion parts.
use Rattle.std.specs.Prelude.{Bool, cond, not}
use Rattle.slub_node_partial.specs.declared.promotion.Slab.{Slab}
use Rattle.slub_node_partial.specs.Promotion.{is_promoted}

-- whether a slab is one of those that are promoted, or one of the others
abbrev pub is_among : Bool → Slab → Bool
is_among promoted slab = cond promoted (is_promoted slab) (not (is_promoted slab))
