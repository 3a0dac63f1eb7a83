use Rattle.std.proofs.Common.{◌≡◌, ◌+◌, ◌-◌, ◌<◌, ◌++◌, ap, sym, ◌∙◌, arith, length, map, vec_capacity, subst, Option, None}
use Rattle.std.specs.List.{range_with_len}
use Rattle.slub_list_machine.specs.Parts.{state_of}
use Rattle.slub_open_close.specs.Classes.{object_number}
use Rattle.std.specs.Prelude.{IfSome}
use Rattle.std.specs.Option.{option_map}
use Rattle.slub_lists.specs.declared.lists.Held.{Held}
use Rattle.slub_lists.proofs.ObjectWords.{read-inside}
use Rattle.slub_law_opening.specs.Opening.{board_word}
use Rattle.slub_law_opening.specs.Table.{board_number}
use Rattle.slub_open_close.proofs.Small.{held-small}
use Rattle.slub_open_close.proofs.Pushes.{class-more, class-room, class-end}
use Rattle.slub_open_close.proofs.classes.push_board.Goals as goal

pub object_number-requires : goal.object_number-requires
object_number-requires c =
    subst (λ h. IfSome h (λ (held : Held). held.index < 65535))
    (sym (read-inside c.args.parts.now.board.items c.loop-object.object c.index.result.now None (omega (arith, c.loop-object-test.true, c.loop-object.auto.object)) c.index.ensures))
    (held-small (state_of c.args.parts.now) c.loop-object.object c.requires.consistent)

pub push_reserved-requires : goal.push_reserved-requires
push_reserved-requires c =
    let r = class-room c.args.words.now.items c.loop-object.words.items (object_number (state_of c.args.parts.now)) 1 (c.loop-object.object - 1) (length c.args.parts.now.board.items - 1) (vec_capacity c.args.words.now) c.loop-object.invariant.words c.requires.room (omega (arith, c.loop-object-test.true, c.loop-object.auto.object)) in
    omega (arith, r, c.loop-object.invariant.capacity)

pub loop-object-preserved : goal.loop-object-preserved
loop-object-preserved c = record {
  words = c.push_reserved.ensures.items ∙ class-more c.args.words.now.items c.loop-object.words.items (object_number (state_of c.args.parts.now)) 1 (c.loop-object.object - 1) (c.loop-object.object) _ (omega arith) c.loop-object.invariant.words (c.object_number.ensures ∙ ap (λ (h : Option Held). board_number (option_map board_word h)) (read-inside c.args.parts.now.board.items c.loop-object.object c.index.result.now None (omega (arith, c.loop-object-test.true, c.loop-object.auto.object)) c.index.ensures))
      ∙ ap (λ n. c.args.words.now.items ++ map (object_number (state_of c.args.parts.now)) (range_with_len 1 n)) (let q : c.loop-object.object - 1 + 1 ≡ c.loop-object.object + 1 - 1 = omega (arith, c.loop-object.auto.object) in q);
  capacity = c.push_reserved.ensures.capacity ∙ c.loop-object.invariant.capacity;
}

pub returns-clause-words : goal.returns-clause-words
returns-clause-words c = class-end c.args.words.now.items c.loop-object.words.items (object_number (state_of c.args.parts.now)) 1 (c.loop-object.object - 1) (length c.args.parts.now.board.items - 1) c.loop-object.invariant.words (omega (arith, c.loop-object-test, c.loop-object.auto))
