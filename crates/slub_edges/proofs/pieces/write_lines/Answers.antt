use Rattle.std.proofs.Common.{◌++◌, ap, ◌∙◌, arith, rules}
use Rattle.std.proofs.KnownBytes.{Appends-trans}
use Rattle.slub_edges.proofs.Told.{AppendsFront-within, split_joins, piece_done}
use Rattle.slub_edges.proofs.Offers.{Gains-trans, line-off, line-given, line-begun}
use Rattle.std.proofs.lemmas.Result.{err_from_is_err_and}
use Rattle.slub_edges.proofs.pieces.write_lines.Goals as goal

pub returns-in_err-write_all-clause-err : goal.returns-in_err-write_all-clause-err
returns-in_err-write_all-clause-err g c =
    let p = err_from_is_err_and c.from_residual.result c.from_residual.ensures.1 in
    let (done, split, appended, still, given) = c.loop-rest.invariant in
    let joined = split_joins c.loop-rest.rest.now c.split_at.result.0.now c.split_at.result.1.now c.line_len.result c.split_at.ensures.front c.split_at.ensures.back in
    rw p.1 (AppendsFront-within _ _ _ _ done c.split_at.result.0.now c.split_at.result.1.now (split ∙ ap (λ l. done ++ l) joined) appended c.in_err-write_all.ensures.err)

pub returns-in_err-write_all-clause-begun : goal.returns-in_err-write_all-clause-begun
returns-in_err-write_all-clause-begun g c =
    let p = err_from_is_err_and c.from_residual.result c.from_residual.ensures.1 in
    let (done, split, appended, still, (pieces, gained, before)) = c.loop-rest.invariant in
    let (first, more, of) = c.in_err-write_all.ensures.begun in
    let rest = c.loop-rest.rest.now in
    let line = c.split_at.result.0.now in
    let after = c.split_at.result.1.now in
    let off = line-off rest line after c.line_len.result (search rules) c.line_len.ensures.line c.split_at.ensures.front c.split_at.ensures.back in
    rw p.1 (pieces ++ first, Gains-trans _ _ _ pieces first gained more, line-begun c.args.text.now rest line after pieces off first (omega (arith, c.split_at.ensures.front_len, c.line_len.ensures.some)) of before)

pub loop-rest-preserved : goal.loop-rest-preserved
loop-rest-preserved g c =
    let (done, split, appended, still, (pieces, gained, before)) = c.loop-rest.invariant in
    let (first, more, given) = c.in_ok-write_all.ensures.given in
    let rest = c.loop-rest.rest.now in
    let line = c.split_at.result.0.now in
    let after = c.split_at.result.1.now in
    let joined = split_joins rest line after c.line_len.result c.split_at.ensures.front c.split_at.ensures.back in
    let off = line-off rest line after c.line_len.result (search rules) c.line_len.ensures.line c.split_at.ensures.front c.split_at.ensures.back in (
      done ++ line,
      piece_done _ done rest _ _ split joined,
      Appends-trans _ _ _ _ _ appended c.in_ok-write_all.ensures.ok,
      c.in_ok-write_all.ensures.still ∙ still,
      (pieces ++ first, Gains-trans _ _ _ pieces first gained more, line-given c.args.text.now rest line after pieces off first given before),
    )
