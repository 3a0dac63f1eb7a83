use Rattle.std.proofs.Common.{◌≤◌, ◌++◌, List, [], ◌∷◌, refl, sym, ◌∙◌, ap, arith, length, get_or, take, filter, length-append, append_assoc, vec_capacity}
use Rattle.std.proofs.lemmas.List.{take_all}
use Rattle.slub_node_partial.specs.declared.promotion.Slab.{Slab}
use Rattle.slub_node_partial.specs.Gathering.{is_among}
use Rattle.slub_node_partial.specs.Promotion.{slabs_of}
use Rattle.slub_node_partial.proofs.Gathered.{length-slabs, kept, passed, one_to_come}
use Rattle.slub_node_partial.proofs.promotion.gather.Goals as goal
use Rattle.slub_node_partial.proofs.promotion.gather.Goals.{then-is_among, else-is_among}

-- a slab that is put there is one of those that there is room for
pub push_reserved-requires : goal.push_reserved-requires
push_reserved-requires c =
    let kind = is_among c.args.promoted in
    let so_far = filter kind (take c.loop-place.place (slabs_of c.args.frames.now c.args.free.now)) in
    let more = one_to_come kind c.args.frames.now c.args.free.now c.requires.as_many c.loop-place.place c.loop-place-test.true
    (record { place = c.loop-place.place; frame = get_or c.args.frames.now c.loop-place.place 0; free = get_or c.args.free.now c.loop-place.place 0 }) refl (sym c.is_among.ensures ∙ c.if-is_among.true) in
    omega (arith, more, ap length c.loop-place.invariant.slabs, length-append c.args.slabs.now.items so_far)

pub loop-place-preserved : goal.loop-place-preserved
loop-place-preserved c =
    let kind = is_among c.args.promoted in
    let slab : Slab = record { place = c.loop-place.place; frame = get_or c.args.frames.now c.loop-place.place 0; free = get_or c.args.free.now c.loop-place.place 0 } in
    let so_far = filter kind (take c.loop-place.place (slabs_of c.args.frames.now c.args.free.now)) in
    elim c.if-is_among.branch [
      | then-is_among w ↦ record {
        slabs = ap (λ v. v.items) w.slabs-is ∙ w.push_reserved.ensures.items ∙ ap (λ (xs : List Slab). xs ++ slab ∷ []) c.loop-place.invariant.slabs ∙ append_assoc c.args.slabs.now.items so_far (slab ∷ [])
            ∙ ap (λ (xs : List Slab). c.args.slabs.now.items ++ xs) (sym (kept kind c.args.frames.now c.args.free.now c.requires.as_many c.loop-place.place c.loop-place-test.true slab refl (sym c.is_among.ensures ∙ w.if-is_among.true)));
        capacity = ap vec_capacity w.slabs-is ∙ w.push_reserved.ensures.capacity ∙ c.loop-place.invariant.capacity;
      }
      | else-is_among w ↦ record {
        slabs = ap (λ v. v.items) w.slabs-is ∙ c.loop-place.invariant.slabs
            ∙ ap (λ (xs : List Slab). c.args.slabs.now.items ++ xs) (sym (passed kind c.args.frames.now c.args.free.now c.requires.as_many c.loop-place.place c.loop-place-test.true slab refl (sym c.is_among.ensures ∙ w.if-is_among.false)));
        capacity = ap vec_capacity w.slabs-is ∙ c.loop-place.invariant.capacity;
      }
    ]

-- at the end all slabs were looked at
pub returns-clause-slabs : goal.returns-clause-slabs
returns-clause-slabs c =
    let slabs = slabs_of c.args.frames.now c.args.free.now in
    let all : length slabs ≤ c.loop-place.place = omega (arith, length-slabs 0 c.args.frames.now c.args.free.now c.requires.as_many) in
    c.loop-place.invariant.slabs ∙ ap (λ (xs : List Slab). c.args.slabs.now.items ++ filter (is_among c.args.promoted) xs) (take_all c.loop-place.place slabs all)
