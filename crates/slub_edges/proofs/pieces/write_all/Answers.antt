use Rattle.std.proofs.Common.{[], ◌∷◌, ◌++◌, take, ◌∙◌, rules}
use Rattle.std.proofs.KnownBytes.{Appends-trans}
use Rattle.slub_edges.proofs.Told.{front_moves}
use Rattle.slub_edges.proofs.Offers.{Gains-trans, one_more, begun_more}
use Rattle.slub_edges.proofs.pieces.write_all.Goals as goal

pub loop-rest-preserved : goal.loop-rest-preserved
loop-rest-preserved g c =
    let (done, split, appended, still, (pieces, gained, (of, begun))) = c.loop-rest.invariant in
    let n = c.in_ok-n.n in
    let rest = c.loop-rest.rest.now in (
      done ++ take n rest,
      front_moves _ done rest n split,
      Appends-trans _ _ _ _ _ appended c.in_ok-n.ensures.bytes,
      c.in_ok-n.ensures.still ∙ still,
      (pieces ++ rest ∷ [], Gains-trans _ _ _ pieces (rest ∷ []) gained c.in_ok-n.ensures.piece, (one_more _ rest done pieces split of begun, begun_more _ rest _ done pieces split (search rules))),
    )
