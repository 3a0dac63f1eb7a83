use Rattle.std.proofs.Common.{◌≢◌, ◌∙◌, arith, inl}
use Rattle.std.proofs.lemmas.Result.{err_from_is_err_and}
use Rattle.slub_edges.proofs.Windows.{counts_of, grows_on, stops_from}
use Rattle.slub_edges.proofs.window.Window.fill.Goals as goal

pub returns-in_err-read_piece-clause-stops : goal.returns-in_err-read_piece-clause-stops
returns-in_err-read_piece-clause-stops g c =
    let is = err_from_is_err_and c.from_residual-in_err-read_piece.result c.from_residual-in_err-read_piece.ensures.1 in
    let kept = c.loop-self.invariant in
    rw (is.1, is.2) (stops_from _ _ _ _ _ _ _ _ _ c.in_err-read_piece.field-0.0 (counts_of _ _ _ _ _ _ kept.grows) kept.still c.in_err-read_piece.ensures.stops)

pub returns-then-branch-eq0-clause-grows : goal.returns-then-branch-eq0-clause-grows
returns-then-branch-eq0-clause-grows g c = grows_on _ _ _ _ _ _ _ _ _ c.loop-self.invariant.grows c.in_ok-read_piece.ensures.grows

pub loop-self-preserved : goal.loop-self-preserved
loop-self-preserved g c =
    let kept = c.loop-self.invariant in
    let more = c.in_ok-read_piece.ensures.count in
    let some : c.in_ok-read_piece.field-0 ≢ 0 = c.if-branch-eq0.false in
    record {
      grows = grows_on _ _ _ _ _ _ _ _ _ kept.grows c.in_ok-read_piece.ensures.grows;
      front = c.in_ok-read_piece.ensures.start ∙ kept.front;
      still = c.in_ok-read_piece.ensures.still ∙ kept.still;
      few = c.in_ok-read_piece.ensures.few;
      some = inl (omega (arith, more, some, kept.grows.counted));
    }
