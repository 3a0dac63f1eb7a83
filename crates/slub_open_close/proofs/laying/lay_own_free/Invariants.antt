use Rattle.std.proofs.Common.{◌≡◌, [], drop, get_or, length}
use Rattle.slub_law_opening.specs.Opening.{head_of}
use Rattle.slub_open_close.specs.Laying.{free_row, laid_items}
use Rattle.slub_open_close.proofs.laying.lay_own_free.Given as goal

-- the pointers of the last objects stand there
abbrev pub invariant-loop-at : goal.invariant-loop-at
invariant-loop-at l =
    let own = get_or l.frees l.frame [] in
    let row = free_row l.setup l.cache l.frame own in
    record {
      memory : l.memory ≡ laid_items row.place row.value (drop l.at own) l.fn.memory;
      count : length l.memory ≡ length l.fn.memory;
      next : l.next ≡ head_of (drop l.at own);
    }
