use Rattle.std.proofs.Common.{◌≡◌, ◌<◌, [], ◌∷◌, length, get_or, None, ap, sym, ◌∙◌, arith}
use Rattle.std.specs.Option.{option_or}
use Rattle.slub_core.specs.declared.local.Known.{Known}
use Rattle.slub_core.specs.Local.{nobody}
use Rattle.slub_law_opening.specs.Rests.{held_in}
use Rattle.slub_open_close.proofs.Knows.{held-place, held-all, second-zero, knows-few}
use Rattle.slub_open_close.proofs.board.put_known.Goals as goal
use Rattle.slub_open_close.proofs.board.put_known.Goals.{then-known-eq0+else-was_zero, else-known-eq0}

pub returns-then-was_zero : goal.returns-then-was_zero
returns-then-was_zero c = λ distinct are object below.
    let z = c.loop-place.invariant.zero c.if-was_zero.true in
    let here : (get_or c.args.local.now.known c.loop-place.place nobody).object ≡ 0 = ap (λ (k : Known). k.object) (sym c.known_at-known.ensures) ∙ c.if-known-eq0.true in
    c.loop-place.invariant.put object (omega (arith, below, c.loop-place.auto.board))
    ∙ held-all c.args.local.now.worker object c.args.local.now.known c.loop-place.place (get_or c.args.board.now object None) (second-zero c.args.local.now.known z.0 c.loop-place.place distinct z.1 z.2 here)

pub loop-place-preserved : goal.loop-place-preserved
loop-place-preserved c = record {
  put = λ object below.
      let inside : object < length c.loop-place.board = omega (arith, below, c.put_held.ensures.length) in
      c.put_held.ensures.put object inside
      ∙ ap (λ v. option_or (get_or c.loop-place.board object None) (held_in v (c.known_at-known.result ∷ []) object)) c.worker.ensures
      ∙ ap (λ (z : Known). option_or (get_or c.loop-place.board object None) (held_in c.args.local.now.worker (z ∷ []) object)) c.known_at-known.ensures
      ∙ ap (λ o. option_or o (held_in c.args.local.now.worker (get_or c.args.local.now.known c.loop-place.place nobody ∷ []) object)) (c.loop-place.invariant.put object inside)
      ∙ held-place c.args.local.now.worker object c.args.local.now.known c.loop-place.place (get_or c.args.board.now object None);
  zero = λ was. elim c.if-known-eq0.branch [
    | then-known-eq0+else-was_zero w ↦ (c.loop-place.place, omega arith, ap (λ (k : Known). k.object) (sym c.known_at-known.ensures) ∙ w.if-known-eq0.true)
    | else-known-eq0 w ↦ (let z = c.loop-place.invariant.zero (sym w.was_zero-is ∙ was) in (z.0, omega (arith, z.1), z.2))
  ];
}

pub returns : goal.returns
returns c = λ distinct are object below.
    let few = knows-few c.args.local.now.known (length c.args.board.now) distinct are in
    c.loop-place.invariant.put object (omega (arith, below, c.loop-place.auto.board))
    ∙ held-all c.args.local.now.worker object c.args.local.now.known c.loop-place.place (get_or c.args.board.now object None) (omega (arith, few, c.loop-place-test.false))
