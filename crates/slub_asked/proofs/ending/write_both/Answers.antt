use Rattle.std.proofs.lemmas.Result.{err_from_is_err_and}
use Rattle.slub_edges.proofs.Told.{AppendsFront-longer}
use Rattle.slub_asked.proofs.Endings.{front_both}
use Rattle.slub_asked.proofs.ending.write_both.Goals as goal

pub returns-in_err-write_lines-clause-err : goal.returns-in_err-write_lines-clause-err
returns-in_err-write_lines-clause-err g c =
    let p = err_from_is_err_and c.from_residual.result c.from_residual.ensures.1 in
    rw p.1 (AppendsFront-longer _ _ 0 _ _ c.in_err-write_lines.ensures.err)

pub returns-clause-err : goal.returns-clause-err
returns-clause-err g c = front_both _ _ _ _ _ c.write_lines-2.result c.in_ok-write_lines.ensures.ok c.write_lines-2.ensures.err
