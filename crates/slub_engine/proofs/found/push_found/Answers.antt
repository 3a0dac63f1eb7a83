use Rattle.std.proofs.Common.{◌∙◌, get_or, arith}
use Rattle.slub_engine.specs.Steps.{found_past}
use Rattle.slub_engine.proofs.Damages.{found_all, found_next, room_next}
use Rattle.slub_engine.proofs.found.push_found.Goals as goal

pub push_found_of-requires-clause-room : goal.push_found_of-requires-clause-room
push_found_of-requires-clause-room c =
    room_next (λ cache. found_past (get_or c.args.told.now cache 0) c.args.lists.now cache) c.loop-cache.cache _ _ (omega (arith, c.requires.each)) c.loop-cache.invariant.found
    (omega (arith, c.requires.room, c.loop-cache.invariant.capacity))

pub loop-cache-preserved : goal.loop-cache-preserved
loop-cache-preserved c = record {
  found = found_next (λ cache. found_past (get_or c.args.told.now cache 0) c.args.lists.now cache) c.loop-cache.cache _ _ (omega (arith, c.requires.each)) c.loop-cache.invariant.found c.push_found_of.ensures.found;
  capacity = c.push_found_of.ensures.capacity ∙ c.loop-cache.invariant.capacity;
}

pub returns : goal.returns
returns c = found_all (λ cache. found_past (get_or c.args.told.now cache 0) c.args.lists.now cache) c.loop-cache.cache _ (omega (arith, c.requires.each)) c.loop-cache.invariant.found
