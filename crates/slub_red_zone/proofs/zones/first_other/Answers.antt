use Rattle.std.proofs.Common.{sym, ◌∙◌}
use Rattle.slub_red_zone.proofs.Parts.{none_other}
use Rattle.slub_red_zone.proofs.zones.first_other.Goals as goal

pub returns-then-are_all-clause-first : goal.returns-then-are_all-clause-first
returns-then-are_all-clause-first c = sym (none_other c.args.wanted c.args.bytes.now (sym c.are_all.ensures ∙ c.if-are_all.true))
