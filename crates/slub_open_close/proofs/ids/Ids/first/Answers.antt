use Rattle.std.proofs.Common.{[], arith, ◌∙◌}
use Rattle.slub_open_close.specs.Ids.{first_id}
use Rattle.slub_open_close.proofs.Pushes.{map-more, class-room, class-end}
use Rattle.slub_open_close.proofs.ids.Ids.first.Goals as goal

pub push_reserved-requires : goal.push_reserved-requires
push_reserved-requires c =
    let r = class-room [] c.loop-number.by_word.items (first_id c.args.first c.args.cpus) 0 c.loop-number.number 512 512 c.loop-number.invariant.ids (omega arith) c.loop-number-test.true in
    omega (arith, r, c.loop-number.invariant.capacity)

pub loop-number-preserved : goal.loop-number-preserved
loop-number-preserved c = record {
  ids = c.push_reserved.ensures.items ∙ map-more c.loop-number.by_word.items (first_id c.args.first c.args.cpus) 0 c.loop-number.number c.loop-number.number c.first_id.result (omega arith) c.loop-number.invariant.ids c.first_id.ensures;
  capacity = c.push_reserved.ensures.capacity ∙ c.loop-number.invariant.capacity;
}

pub returns : goal.returns
returns c = class-end [] c.loop-number.by_word.items (first_id c.args.first c.args.cpus) 0 c.loop-number.number 512 c.loop-number.invariant.ids (omega (arith, c.loop-number-test, c.loop-number.auto))
