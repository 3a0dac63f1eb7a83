use Rattle.std.proofs.Common.{◌≡◌, ◌+◌, [], ◌∷◌, ◌++◌, length, refl, ap, ◌∙◌}
use Rattle.std.specs.Slice.Iter.{iter_rest}
use Rattle.std.specs.Iterator.Adapters.{zip_first, zip_second}
use Rattle.std.proofs.lemmas.Slice.Zip.{zip_turn, zip_end}
use Rattle.slub_slabinfo_text.specs.ClientText.{creation_text}
use Rattle.slub_slabinfo_text.proofs.Zips.{length-snoc, pieces_more, pieces_whole}
use Rattle.slub_slabinfo_text.proofs.client_text.creations_text.Goals as goal

pub loop-name-preserved : goal.loop-name-preserved
loop-name-preserved c =
    let first : iter_rest (zip_first c.into_iter-name-iterator.result) ≡ c.args.names.now = cc in
    let second : iter_rest (zip_second c.into_iter-name-iterator.result) ≡ c.args.answers.now = cc in
    let turn = zip_turn c.args.names.now c.args.answers.now c.loop-name.yielded c.into_iter-name-iterator.result c.loop-name.name-iterator c.next.new.self c.next.result first second c.loop-name.yielded_by (c.in-Some.name, c.in-Some.made) c.in-Some.is c.next.ensures.steps in
    let n : length (c.loop-name.yielded ++ (c.in-Some.name, c.in-Some.made) ∷ []) ≡ length c.loop-name.yielded + 1 = length-snoc _ _ in
    let line : c.in_ok-line.line.items ≡ creation_text c.args.replies (c.in-Some.name.now, c.in-Some.made.now) = c.in_ok-line.ensures in
    let grown : c.extend_from_slice.new.self.items ≡ c.loop-name.text.items ++ c.in_ok-line.line.items = c.in_ok-extend_from_slice.ensures.items ∙ rw c.as_slice.ensures.value refl in
    rw n (pieces_more (creation_text c.args.replies) c.args.names.now c.args.answers.now _ _ _ [] _ _ turn.0 turn.1 (turn.2 _) (turn.3 _) c.loop-name.invariant (grown ∙ ap (λ piece. c.loop-name.text.items ++ piece) line))

pub returns : goal.returns
returns c =
    let first : iter_rest (zip_first c.into_iter-name-iterator.result) ≡ c.args.names.now = cc in
    let second : iter_rest (zip_second c.into_iter-name-iterator.result) ≡ c.args.answers.now = cc in
    let ended = zip_end c.args.names.now c.args.answers.now c.loop-name.yielded c.into_iter-name-iterator.result c.loop-name.name-iterator c.next.new.self c.next.result first second c.loop-name.yielded_by c.in-None.is c.next.ensures.steps in
    pieces_whole (creation_text c.args.replies) _ _ _ [] _ ended c.loop-name.invariant
