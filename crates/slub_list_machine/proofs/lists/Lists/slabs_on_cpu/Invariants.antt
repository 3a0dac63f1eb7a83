use Rattle.std.proofs.Common.{◌≡◌, ◌*◌, ◌≤◌, sum_by, take}
use Rattle.slub_lists.specs.Alloc.{lists_of}
use Rattle.slub_lists.specs.Flush.{slabs_on}
use Rattle.slub_list_machine.proofs.lists.Lists.slabs_on_cpu.Given as goal

-- the slabs of the caches so far, of each of which the CPU has 4096 at most
abbrev pub invariant-loop-cache : goal.invariant-loop-cache
invariant-loop-cache l = record {
  counted : l.slabs ≡ sum_by (λ cache. slabs_on (lists_of l.self cache l.cpu)) (take l.cache-index l.cache-items);
  most : l.slabs ≤ 4096 * l.cache-index;
}
