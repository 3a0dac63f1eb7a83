use Rattle.std.proofs.Common.{◌≡◌, ◌+◌, [], ◌∷◌, ◌++◌, false, true, length, sym, ◌∙◌}
use Rattle.std.specs.Slice.Iter.{iter_rest}
use Rattle.std.specs.Iterator.Adapters.{zip_first, zip_second}
use Rattle.std.proofs.lemmas.Slice.Zip.{zip_turn, zip_end}
use Rattle.slub_slabinfo_text.proofs.Zips.{length-snoc}
use Rattle.slub_cli.specs.Run.{has_refused}
use Rattle.slub_cli.proofs.Pairs.{any_found, any_more, any_none}
use Rattle.slub_cli.proofs.status.is_refused.Goals as goal

pub returns-then-has_refused : goal.returns-then-has_refused
returns-then-has_refused c =
    let first : iter_rest (zip_first c.into_iter-item-iterator.result) ≡ c.args.items.now = cc in
    let second : iter_rest (zip_second c.into_iter-item-iterator.result) ≡ c.args.dones.now = cc in
    let turn = zip_turn c.args.items.now c.args.dones.now c.loop-item.yielded c.into_iter-item-iterator.result c.loop-item.item-iterator c.next.new.self c.next.result first second c.loop-item.yielded_by (c.in-Some.item, c.in-Some.done) c.in-Some.is c.next.ensures.steps in
    let passes : has_refused c.in-Some.item.now c.in-Some.done.now ≡ true = sym c.has_refused.ensures ∙ c.if-has_refused.true in
    sym (any_found (λ one. has_refused one.0 one.1) c.args.items.now c.args.dones.now _ _ _ turn.0 turn.1 (turn.2 _) (turn.3 _) passes)

pub loop-item-preserved : goal.loop-item-preserved
loop-item-preserved c =
    let first : iter_rest (zip_first c.into_iter-item-iterator.result) ≡ c.args.items.now = cc in
    let second : iter_rest (zip_second c.into_iter-item-iterator.result) ≡ c.args.dones.now = cc in
    let turn = zip_turn c.args.items.now c.args.dones.now c.loop-item.yielded c.into_iter-item-iterator.result c.loop-item.item-iterator c.next.new.self c.next.result first second c.loop-item.yielded_by (c.in-Some.item, c.in-Some.done) c.in-Some.is c.next.ensures.steps in
    let n : length (c.loop-item.yielded ++ (c.in-Some.item, c.in-Some.done) ∷ []) ≡ length c.loop-item.yielded + 1 = length-snoc _ _ in
    let fails : has_refused c.in-Some.item.now c.in-Some.done.now ≡ false = sym c.has_refused.ensures ∙ c.if-has_refused.false in
    rw n (any_more (λ one. has_refused one.0 one.1) c.args.items.now c.args.dones.now _ _ _ turn.0 turn.1 (turn.2 _) (turn.3 _) c.loop-item.invariant fails)

pub returns : goal.returns
returns c =
    let first : iter_rest (zip_first c.into_iter-item-iterator.result) ≡ c.args.items.now = cc in
    let second : iter_rest (zip_second c.into_iter-item-iterator.result) ≡ c.args.dones.now = cc in
    let ended = zip_end c.args.items.now c.args.dones.now c.loop-item.yielded c.into_iter-item-iterator.result c.loop-item.item-iterator c.next.new.self c.next.result first second c.loop-item.yielded_by c.in-None.is c.next.ensures.steps in
    sym (any_none (λ one. has_refused one.0 one.1) c.args.items.now c.args.dones.now _ ended c.loop-item.invariant)
