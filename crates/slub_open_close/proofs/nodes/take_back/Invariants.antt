use Rattle.std.proofs.Common.{◌≤◌, vec_capacity}
use Rattle.slub_open_close.proofs.Returning.{IsBack}
use Rattle.slub_open_close.proofs.nodes.take_back.Given as goal

abbrev pub invariant-loop-cache : goal.invariant-loop-cache
invariant-loop-cache l = record {
  back : IsBack l.fn.values.items l.fn.kept.items l.cache l.values.items l.kept.items l.nodes.items l.checked;
  room : 32 ≤ vec_capacity l.nodes;
}
