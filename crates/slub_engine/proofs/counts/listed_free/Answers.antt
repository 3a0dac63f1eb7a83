use Rattle.std.proofs.Common.{arith, length, ap}
use Rattle.std.proofs.lemmas.List.Sums.{count_by-le-length}
use Rattle.slub_red_zone.specs.Sound.{is_stocked}
use Rattle.slub_engine.proofs.counts.listed_free.Goals as goal

pub overflow_add-count : goal.overflow_add-count
overflow_add-count c =
    omega (arith, c.listed-frame-items.ensures.sound.listed_count, c.listed-frame-items.ensures.sound.frames, count_by-le-length is_stocked c.args.slabs.now.slabs, ap length c.listed-frame-items.ensures.listed)
