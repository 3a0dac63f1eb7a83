use Rattle.std.proofs.Common.{◌≡◌, ◌+◌, [], ◌∷◌, ◌++◌, length}
use Rattle.std.specs.Slice.Iter.{iter_rest}
use Rattle.std.specs.Iterator.Adapters.{zip_first, zip_second}
use Rattle.std.proofs.lemmas.Slice.Zip.{zip_turn, zip_end}
use Rattle.slub_slabinfo_text.proofs.Zips.{length-snoc}
use Rattle.slub_steps.specs.Live.{live_next}
use Rattle.slub_steps.proofs.Lives.{pair_more, pairs_whole}
use Rattle.slub_steps.proofs.live.all_created.Goals as goal

pub loop-name-preserved : goal.loop-name-preserved
loop-name-preserved c =
    let first : iter_rest (zip_first c.into_iter-name-iterator.result) ≡ c.args.names.now = cc in
    let second : iter_rest (zip_second c.into_iter-name-iterator.result) ≡ c.args.answers.now = cc in
    let turn = zip_turn c.args.names.now c.args.answers.now c.loop-name.yielded c.into_iter-name-iterator.result c.loop-name.name-iterator c.next.new.self c.next.result first second c.loop-name.yielded_by (c.in-Some.name, c.in-Some.answer) c.in-Some.is c.next.ensures.steps in
    let n : length (c.loop-name.yielded ++ (c.in-Some.name, c.in-Some.answer) ∷ []) ≡ length c.loop-name.yielded + 1 = length-snoc _ _ in
    rw n (pair_more live_next c.args.names.now c.args.answers.now _ _ _ _ _ _ turn.0 turn.1 (turn.2 _) (turn.3 _) c.loop-name.invariant c.in_ok-created.ensures)

pub returns : goal.returns
returns c =
    let first : iter_rest (zip_first c.into_iter-name-iterator.result) ≡ c.args.names.now = cc in
    let second : iter_rest (zip_second c.into_iter-name-iterator.result) ≡ c.args.answers.now = cc in
    let ended = zip_end c.args.names.now c.args.answers.now c.loop-name.yielded c.into_iter-name-iterator.result c.loop-name.name-iterator c.next.new.self c.next.result first second c.loop-name.yielded_by c.in-None.is c.next.ensures.steps in
    pairs_whole live_next _ _ _ _ _ ended c.loop-name.invariant
