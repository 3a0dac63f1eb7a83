use Rattle.slub_cache_create.proofs.Sound.{opening-sound}
use Rattle.slub_lists.specs.Coherent.{opening}
use Rattle.slub_lists.proofs.Coherence.{opening-consistent}
use Rattle.slub_lists.proofs.Keeps.{opening_pool}
use Rattle.slub_lists.proofs.Kept.{coherent-of, kept-opening}
use Rattle.slub_list_machine.proofs.lists.Lists.open.Goals as goal

pub returns-clause-coherent : goal.returns-clause-coherent
returns-clause-coherent c =
    coherent-of (opening c.args.frames c.args.cpus c.args.objects c.args.names.now)
    (opening-consistent c.args.frames c.args.cpus c.args.objects c.args.names.now c.requires.frames.0 c.requires.frames.1 c.requires.cpus.0 c.requires.cpus.1 c.requires.objects
    (opening_pool c.args.frames c.requires.frames.0 c.requires.frames.1) (opening-sound c.args.names.now))
    (kept-opening c.args.frames c.args.cpus c.args.objects c.args.names.now)
