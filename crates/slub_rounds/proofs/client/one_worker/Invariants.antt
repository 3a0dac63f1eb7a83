use Rattle.std.proofs.Common.{◌≡◌, map, take}
use Rattle.slub_slabinfo_text.specs.Asked.{event_of}
use Rattle.slub_rounds.proofs.client.one_worker.Given as goal

abbrev pub invariant-loop-act : goal.invariant-loop-act
invariant-loop-act l = l.events.items ≡ map (event_of l.cpu) (take l.act-index l.acts)
