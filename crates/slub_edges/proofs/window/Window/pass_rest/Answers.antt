use Rattle.std.proofs.Common.{◌∙◌}
use Rattle.std.proofs.lemmas.Result.{err_from_is_err_and}
use Rattle.slub_edges.proofs.Windows.{counts_on, stops_from}
use Rattle.slub_edges.proofs.window.Window.pass_rest.Goals as goal

pub returns-in_err-n-clause-stops : goal.returns-in_err-n-clause-stops
returns-in_err-n-clause-stops g c =
    let is = err_from_is_err_and c.from_residual.result c.from_residual.ensures.1 in
    let kept = c.loop-n.invariant in
    rw (is.1, is.2) (stops_from _ _ _ _ _ _ _ _ _ c.in_err-n.field-0.0 kept.counts kept.still c.in_err-n.ensures.stops)

pub loop-n-preserved : goal.loop-n-preserved
loop-n-preserved g c =
    let kept = c.loop-n.invariant in
    record {
      counts = counts_on _ _ _ _ _ _ _ _ kept.counts c.in_ok-n.ensures.grows;
      few = c.in_ok-n.ensures.few;
      still = c.in_ok-n.ensures.still ∙ kept.still;
    }
