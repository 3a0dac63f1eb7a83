use Rattle.std.proofs.Common.{◌≡◌, ◌-◌, ◌^◌, ◌<◌, ◌++◌, length}
use Rattle.slub_open_close.specs.Reads.{walked, string_in, link_in}
use Rattle.slub_open_close.proofs.walks.walk_string.Given as goal

-- what was come by, and what the walk comes by from here on, are the whole
abbrev pub invariant-loop-next : goal.invariant-loop-next
invariant-loop-next l = record {
  whole : string_in l.table.words l.links l.fn.front ≡ l.partial ++ walked (λ frame. frame) (link_in l.table.words l.links) (4095 - length l.partial) l.next;
  small : l.next < 2 ^ 16;
}

abbrev pub decreases-loop-next : goal.decreases-loop-next
decreases-loop-next l = 4095 - length l.partial
