use Rattle.std.proofs.Common.{map, string_bytes}
use Rattle.slub_picks.proofs.Options.{no_option}
use Rattle.slub_picks.proofs.words.first_said.Goals as goal

pub returns-in-None-clause-none : goal.returns-in-None-clause-none
returns-in-None-clause-none c =
    λ bad one rest begins. no_option (map string_bytes c.args.words.now) one rest c.in_default.ensures c.in_default-valued.ensures c.in_default-valued-2.ensures c.in-None.ensures begins
