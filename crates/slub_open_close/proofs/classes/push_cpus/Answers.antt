use Rattle.std.proofs.Common.{◌∙◌, arith, get_or, vec_capacity}
use Rattle.slub_list_machine.specs.Parts.{state_of}
use Rattle.slub_law_opening.specs.Opening.{cpu_at}
use Rattle.slub_open_close.specs.Classes.{cpu_number}
use Rattle.slub_open_close.proofs.Pushes.{class-more, class-room, class-end}
use Rattle.slub_open_close.proofs.classes.push_cpus.Goals as goal

pub push_reserved-requires : goal.push_reserved-requires
push_reserved-requires c =
    let r = class-room c.args.words.now.items c.loop-number.words.items (λ n. cpu_number (get_or c.args.tids.now n 0) (cpu_at (state_of c.args.parts.now) n)) 0 (c.loop-number.number) 512 (vec_capacity c.args.words.now) c.loop-number.invariant.words c.requires.room (c.loop-number-test.true) in
    omega (arith, r, c.loop-number.invariant.capacity)

pub loop-number-preserved : goal.loop-number-preserved
loop-number-preserved c = record {
  words = c.push_reserved.ensures.items ∙ class-more c.args.words.now.items c.loop-number.words.items (λ n. cpu_number (get_or c.args.tids.now n 0) (cpu_at (state_of c.args.parts.now) n)) 0 (c.loop-number.number) (c.loop-number.number) _ (omega arith) c.loop-number.invariant.words (c.cpu_number.ensures);
  capacity = c.push_reserved.ensures.capacity ∙ c.loop-number.invariant.capacity;
}

pub returns-clause-words : goal.returns-clause-words
returns-clause-words c = class-end c.args.words.now.items c.loop-number.words.items (λ n. cpu_number (get_or c.args.tids.now n 0) (cpu_at (state_of c.args.parts.now) n)) 0 c.loop-number.number 512 c.loop-number.invariant.words (omega (arith, c.loop-number-test, c.loop-number.auto))
