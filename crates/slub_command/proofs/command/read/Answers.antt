use Rattle.std.proofs.Common.{rules, ◌≡◌, ◌∙◌, sym, false}
use Rattle.std.proofs.lemmas.Bool.{false≢true}
use Rattle.slub_command.proofs.Commands.{command_clean}
use Rattle.slub_command.proofs.command.read.Goals as goal

pub returns-then-not-has_no_dashes-clause-none : goal.returns-then-not-has_no_dashes-clause-none
returns-then-not-has_no_dashes-clause-none c = λ is command spells.
    let clean = command_clean _ command spells in
    let dashes : c.has_no_dashes.result ≡ false = search rules in
    false≢true (sym dashes ∙ (c.has_no_dashes.ensures ∙ clean))
