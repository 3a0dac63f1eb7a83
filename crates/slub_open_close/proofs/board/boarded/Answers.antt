use Rattle.std.proofs.Common.{◌+◌, eqb, get_or, ap, sym}
use Rattle.std.specs.Option.{option_map}
use Rattle.std.proofs.lemmas.Bool.{cond-true, eq-eqb}
use Rattle.slub_core.specs.Words.{board_in}
use Rattle.slub_law_opening.specs.Rests.{held_on}
use Rattle.slub_open_close.proofs.board.boarded.Goals as goal

pub returns-then-object-eq0 : goal.returns-then-object-eq0
unfolding board_in
returns-then-object-eq0 c = sym (ap (λ x. option_map held_on (board_in x)) (cond-true (eqb c.args.object 0) 0 (get_or c.args.table.now.words (c.args.base + c.args.object) 0) (eq-eqb c.args.object 0 c.if-object-eq0.true)))
