use Rattle.std.specs.Prelude.{codes}
use Rattle.slub_slabinfo_text.specs.Texts.{column, row_objects, row_slabs}
use Rattle.slub_slabinfo_text.proofs.Lines.{tunables, numbers_joined}
use Rattle.slub_slabinfo_text.proofs.text.push_numbers.Goals as goal

pub returns : goal.returns
returns c =
    rw (c.in_ok-push_slabs.ensures, c.in_ok-push_words.ensures, c.in_ok-push_objects.ensures)
    (numbers_joined c.args.text.now.items (row_objects c.args.counts.now) (codes " : tunables") (column 4 0) (codes " : slabdata") (row_slabs c.args.counts.now.num_slabs) _ tunables)
