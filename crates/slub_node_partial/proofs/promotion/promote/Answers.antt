use Rattle.std.proofs.Common.{◌≡◌, ◌<◌, ◌++◌, true, false, List, length, map, filter, sym, ◌∙◌, ap, subst, arith, length-append, AllPairs, IsPermutation}
use Rattle.std.proofs.lemmas.List.Kept.{AllPairs-filter}
use Rattle.std.proofs.lemmas.List.Sorted.{length_permutation}
use Rattle.slub_node_partial.specs.declared.promotion.Slab.{Slab}
use Rattle.slub_node_partial.specs.Gathering.{is_among}
use Rattle.slub_node_partial.specs.Promotion.{slabs_of}
use Rattle.slub_node_partial.proofs.Gathered.{rising, both_kinds}
use Rattle.slub_node_partial.proofs.promotion.promote.Goals as goal

-- the promoted slabs are no more than all
pub gather-requires-clause-room : goal.gather-requires-clause-room
gather-requires-clause-room c = omega (arith, both_kinds c.args.frames.now c.args.free.now c.requires.as_many)

-- they stand as on the list
pub sort-requires : goal.sort-requires
sort-requires c =
    let Rising = AllPairs (λ (one other : Slab). one.place < other.place) in
    let gathered : c.gather.new.slabs.items ≡ filter (is_among true) (slabs_of c.args.frames.now c.args.free.now) = c.gather.ensures.slabs ∙ ap (λ (xs : List Slab). xs ++ filter (is_among true) (slabs_of c.args.frames.now c.args.free.now)) c.clear.ensures.items in
    subst Rising (sym gathered) (AllPairs-filter (λ (one other : Slab). one.place < other.place) (is_among true) (slabs_of c.args.frames.now c.args.free.now) (rising c.args.frames.now c.args.free.now c.requires.as_many))

-- the others make up the list with them
pub gather-requires-2-clause-room : goal.gather-requires-2-clause-room
gather-requires-2-clause-room c =
    let promoted = filter (is_among true) (slabs_of c.args.frames.now c.args.free.now) in
    omega (arith, both_kinds c.args.frames.now c.args.free.now c.requires.as_many, length_permutation _ _ c.sort.ensures.same, ap length c.gather.ensures.slabs, ap length c.clear.ensures.items, length-append c.clear.new.self.items promoted)

pub write-requires : goal.write-requires
write-requires c =
    let promoted = filter (is_among true) (slabs_of c.args.frames.now c.args.free.now) in
    let others = filter (is_among false) (slabs_of c.args.frames.now c.args.free.now) in
    omega (
      arith,
      both_kinds c.args.frames.now c.args.free.now c.requires.as_many,
      length_permutation _ _ c.sort.ensures.same,
      ap length c.gather.ensures.slabs,
      ap length c.clear.ensures.items,
      length-append c.clear.new.self.items promoted,
      ap length c.gather-2.ensures.slabs,
      length-append c.sort.new.slabs.items others,
      ap length c.deref.ensures.value,
    )

pub returns-clause-promoted : goal.returns-clause-promoted
returns-clause-promoted c =
    let promoted = filter (is_among true) (slabs_of c.args.frames.now c.args.free.now) in
    let gathered : c.gather.new.slabs.items ≡ promoted = c.gather.ensures.slabs ∙ ap (λ (xs : List Slab). xs ++ promoted) c.clear.ensures.items in
    record {
      front = c.sort.new.slabs.items;
      same = subst (λ (xs : List Slab). IsPermutation xs c.sort.new.slabs.items) gathered c.sort.ensures.same;
      sorted = c.sort.ensures.sorted;
      is = c.write.ensures ∙ ap (λ (slabs : List Slab). map (λ (slab : Slab). slab.frame) slabs) (c.deref.ensures.value ∙ c.gather-2.ensures.slabs);
    }
