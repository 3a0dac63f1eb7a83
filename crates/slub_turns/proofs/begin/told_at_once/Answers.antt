use Rattle.std.proofs.Common.{get_or, ap, ◌∙◌}
use Rattle.slub_core.specs.declared.local.Known.{Known}
use Rattle.slub_core.specs.Calls.{call_place}
use Rattle.slub_core.specs.Local.{nobody}
use Rattle.slub_core.specs.Facts.{setup_of}
use Rattle.slub_core.specs.Steps.{told_of_use, told_of_poke}
use Rattle.slub_turns.proofs.begin.told_at_once.Goals as goal

pub returns-in-Write : goal.returns-in-Write
returns-in-Write c = λ means.
    rw c.in-Write.is (c.told_of_use.ensures means ∙ ap (λ (k : Known). told_of_use (setup_of c.args.setup.now means) k c.in-Write.word) c.known_at.ensures)

pub returns-in-Read : goal.returns-in-Read
returns-in-Read c = λ means.
    rw c.in-Read.is (c.told_of_use-in-Read.ensures means ∙ ap (λ (k : Known). told_of_use (setup_of c.args.setup.now means) k c.in-Read.word) c.known_at-in-Read.ensures)

pub returns-in-Poke : goal.returns-in-Poke
returns-in-Poke c = λ means.
    rw c.in-Poke.is (c.told_of_poke.ensures means ∙ ap (λ (k : Known). told_of_poke (setup_of c.args.setup.now means) k) c.known_at-in-Poke.ensures)

pub returns-in-Flush : goal.returns-in-Flush
returns-in-Flush c = λ means. rw c.in-Flush.is (c.told_of_flush.ensures means (get_or c.args.local.now.known (call_place c.args.call) nobody) c.args.call)
