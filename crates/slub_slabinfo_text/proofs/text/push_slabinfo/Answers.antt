use Rattle.std.proofs.Common.{append_assoc}
use Rattle.std.specs.Prelude.{flat_map}
use Rattle.slub_slabinfo_text.specs.Texts.{header_text, row_text}
use Rattle.slub_slabinfo_text.proofs.text.push_slabinfo.Goals as goal

pub returns : goal.returns
returns c = rw (c.in_ok-push_rows.ensures, c.in_ok-push_header.ensures) (append_assoc c.args.text.now.items header_text (flat_map row_text c.args.rows.now))
