use Rattle.std.proofs.Common.{[], length, get_or, None, refl, ap, sym}
use Rattle.slub_law_opening.specs.Opening.{cache_in}
use Rattle.slub_open_close.specs.Laying.{read, free_row, own_in}
use Rattle.slub_open_close.proofs.Laid.{row-count, row-more}
use Rattle.slub_open_close.proofs.Layable.{layable-places, layable-as}
use Rattle.slub_open_close.proofs.laying.lay_own.Goals as goal

pub lay_own_free-requires : goal.lay_own_free-requires
lay_own_free-requires c =
    let f = c.loop-frame.frame in
    let own = get_or c.args.frees.now f [] in
    layable-as c.args.setup.now (length c.args.memory.now) (length c.loop-frame.memory) (cache_in (get_or c.args.slabs.now f None)) c.cache_of-cache.result f own own c.loop-frame.invariant.count c.cache_of-cache.ensures refl (c.requires.layable f)

pub loop-frame-preserved : goal.loop-frame-preserved
loop-frame-preserved c =
    let f = c.loop-frame.frame in
    let setup = c.args.setup.now in
    let own = get_or c.args.frees.now f [] in
    let row = free_row setup c.cache_of-cache.result f own in
    record {
      count = row-count (length c.args.memory.now) c.loop-frame.memory c.lay_own_free.new.memory row c.lay_own_free.ensures c.loop-frame.invariant.count;
      memory = row-more (own_in setup c.args.slabs.now c.args.frees.now) f c.loop-frame.memory c.lay_own_free.new.memory (read c.args.memory.now) row
          (ap (λ k. free_row setup k f own) (sym c.cache_of-cache.ensures))
          c.lay_own_free.ensures
          (layable-places setup (length c.args.memory.now) (length c.loop-frame.memory) (cache_in (get_or c.args.slabs.now f None)) f own c.loop-frame.invariant.count (c.requires.layable f))
          c.loop-frame.invariant.memory;
    }
