use Rattle.std.proofs.Common.{List, sym, subst}
use Rattle.std.specs.Prelude.{All}
use Rattle.slub_core.specs.declared.cache.CacheFacts.{CacheFacts}
use Rattle.slub_core.specs.Facts.{IsSmall}
use Rattle.slub_list_machine.specs.Parts.{state_of}
use Rattle.slub_open_close.proofs.Setups.{are-facts}
use Rattle.slub_open_close.proofs.facts.setup_of.Goals as goal

pub open-requires : goal.open-requires
open-requires c =
    let facts = are-facts (state_of c.args.parts.now) c.requires.consistent c.args.step c.requires.step in
    record {
      cpus = facts.cpus;
      step = facts.step;
      small = subst (λ (cs : List CacheFacts). All (λ (x : CacheFacts). IsSmall x.layout) cs) (sym c.in_ok-caches.ensures) facts.small;
    }
