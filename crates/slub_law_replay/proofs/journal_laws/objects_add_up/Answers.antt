use Rattle.slub_lists.specs.Alloc.{cache_of}
use Rattle.slub_law_replay.proofs.AddsUp.{adds_up_live}
use Rattle.slub_law_replay.proofs.journal_laws.objects_add_up.Goals as goal

pub returns : goal.returns
returns c = λ s cache coherent live. adds_up_live s cache coherent (cache_of s cache) live
