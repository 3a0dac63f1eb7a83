use Rattle.std.proofs.Common.{◌≡◌, ◌<◌, length, All, ap, sym, ◌∙◌, subst, arith}
use Rattle.std.specs.Option.{option_or}
use Rattle.slub_core.specs.Accounted.{AreDistinct}
use Rattle.slub_core.specs.Local.{Local}
use Rattle.slub_core.specs.declared.local.Known.{Known}
use Rattle.slub_law_opening.specs.Rests.{held_in}
use Rattle.slub_open_close.specs.Reads.{on_board}
use Rattle.slub_open_close.proofs.Knows.{among-place}
use Rattle.slub_open_close.proofs.board.close_board.Goals as goal

pub loop-local-preserved : goal.loop-local-preserved
loop-local-preserved c = λ are object below.
    let P : Local → Type 0 = λ x. AreDistinct x.known × All (λ (k : Known). k.object < length c.args.board.now) x.known in
    let within : c.loop-local.local-index < length c.args.locals.now = omega (arith, c.loop-local-test.true) in
    let long : length c.args.board.now ≡ length c.loop-local.board = omega (arith, c.loop-local.auto.board, c.lay_down.auto.board) in
    let item : P c.local-item.result = subst P (sym c.local-item.is) (are c.loop-local.local-index c.local-item.result within) in
    c.put_known.ensures item.0 (subst (λ n. All (λ (k : Known). k.object < n) c.local-item.result.known) long item.1) object (omega (arith, below, long))
    ∙ ap (λ o. option_or o (held_in c.local-item.result.worker c.local-item.result.known object)) (c.loop-local.invariant are object below)
    ∙ among-place c.args.locals.now c.loop-local.local-index c.local-item.result object (on_board c.args.table.now.words c.args.base object) within c.local-item.is
