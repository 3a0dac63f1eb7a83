use Rattle.std.proofs.Common.{◌≡◌, ◌+◌, [], ◌∷◌, ◌++◌, length}
use Rattle.std.specs.Slice.Iter.{iter_rest}
use Rattle.std.specs.Iterator.Adapters.{zip_first, zip_second}
use Rattle.std.proofs.lemmas.Slice.Zip.{zip_turn, zip_end}
use Rattle.slub_slabinfo_text.proofs.Zips.{length-snoc}
use Rattle.slub_bulk.proofs.Bulking.{given_more, given_whole}
use Rattle.slub_bulk.proofs.all.given_of.Goals as goal

pub loop-number-preserved : goal.loop-number-preserved
loop-number-preserved c =
    let first : iter_rest (zip_first c.into_iter-number-iterator.result) ≡ c.args.numbers.now = cc in
    let second : iter_rest (zip_second c.into_iter-number-iterator.result) ≡ c.args.replies.now = cc in
    let turn = zip_turn c.args.numbers.now c.args.replies.now c.loop-number.yielded c.into_iter-number-iterator.result c.loop-number.number-iterator c.next.new.self c.next.result first second c.loop-number.yielded_by (c.in-Some.number, c.in-Some.reply) c.in-Some.is c.next.ensures.steps in
    let n : length (c.loop-number.yielded ++ (c.in-Some.number, c.in-Some.reply) ∷ []) ≡ length c.loop-number.yielded + 1 = length-snoc _ _ in
    rw n (given_more c.args.numbers.now c.args.replies.now _ _ _ _ _ turn.0 turn.1 (turn.2 _) (turn.3 _) c.loop-number.invariant c.in_ok-note_given.ensures)

pub returns : goal.returns
returns c =
    let first : iter_rest (zip_first c.into_iter-number-iterator.result) ≡ c.args.numbers.now = cc in
    let second : iter_rest (zip_second c.into_iter-number-iterator.result) ≡ c.args.replies.now = cc in
    let ended = zip_end c.args.numbers.now c.args.replies.now c.loop-number.yielded c.into_iter-number-iterator.result c.loop-number.number-iterator c.next.new.self c.next.result first second c.loop-number.yielded_by c.in-None.is c.next.ensures.steps in
    given_whole c.args.numbers.now c.args.replies.now _ _ ended c.loop-number.invariant
