use Rattle.std.proofs.Common.{[], ◌∷◌}
use Rattle.slub_slabinfo_text.specs.Texts.{column}
use Rattle.slub_slabinfo_text.proofs.Lines.{shared, slabs_joined}
use Rattle.slub_slabinfo_text.proofs.text.push_slabs.Goals as goal

pub returns : goal.returns
returns c =
    rw (c.in_ok-push_words.ensures, c.in_ok-push_column-2.ensures, c.in_ok-push_column.ensures)
    (slabs_joined c.args.text.now.items (column 6 c.args.slabs) (column 6 c.args.slabs) (column 6 0) (10 ∷ []) _ shared)
