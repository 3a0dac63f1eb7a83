use Rattle.std.proofs.Common.{◌++◌, ◌∙◌, take, arith, length-append}
use Rattle.std.proofs.KnownBytes.{Consumes-trans}
use Rattle.std.proofs.lemmas.Result.{err_from_is_err_and}
use Rattle.slub_edges.proofs.reading.read_all.Goals as goal

pub returns-then-n-most-clause-all : goal.returns-then-n-most-clause-all
returns-then-n-most-clause-all g c =
    let bytes = c.loop-bytes.bytes.items in
    let piece = take c.in_ok-n.n c.read.new.buf in
    (bytes ++ piece, Consumes-trans _ _ _ bytes piece c.loop-bytes.invariant.read c.in_ok-n.ensures.bytes.0, omega (arith, length-append bytes piece, c.in_ok-n.ensures.bound.1), c.in_ok-n.ensures.still ∙ c.loop-bytes.invariant.still)

pub returns-in_err-extend_from_slice-clause-all : goal.returns-in_err-extend_from_slice-clause-all
returns-in_err-extend_from_slice-clause-all g c =
    let is = err_from_is_err_and c.from_residual-in_err-extend_from_slice.result c.from_residual-in_err-extend_from_slice.ensures.1 in
    let bytes = c.loop-bytes.bytes.items in
    let piece = take c.in_ok-n.n c.read.new.buf in
    rw (is.1, is.2)
    ((bytes ++ piece, Consumes-trans _ _ _ bytes piece c.loop-bytes.invariant.read c.in_ok-n.ensures.bytes.0, omega (arith, length-append bytes piece, c.in_ok-n.ensures.bound.1)), c.in_ok-n.ensures.still ∙ c.loop-bytes.invariant.still)
