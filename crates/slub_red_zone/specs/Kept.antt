-- What the fields of a checked cache's slabs hold besides what contracts see.
use Rattle.std.specs.Prelude.{◌≡◌, ℕ, ◌+◌, ◌≤◌}
use Rattle.slub_red_zone.specs.declared.totals.Totals.{Totals}
use Rattle.slub_red_zone.specs.State.{CheckedState, free_count, used_count, aside_count, slab_count}
use Rattle.slub_red_zone.specs.Sound.{IsSound}

-- the totals are true
pub record AreTotals (s : CheckedState) (totals : Totals) : Type 0 where
  pub free : totals.free ≡ free_count s
  pub used : totals.used ≡ used_count s
  pub aside : totals.aside ≡ aside_count s
  pub slabs : totals.slabs ≡ slab_count s

-- the list has room for a slab of each frame, so have the counts for a promotion, and each object
-- can be reported
pub record IsKept (s : CheckedState) (totals : Totals) (frames counts reports : ℕ) : Type 0 where
  pub sound : IsSound s
  pub are_totals : AreTotals s totals
  pub list_room : frames ≡ 4096
  pub counts_room : 4096 ≤ counts
  pub reports_room : totals.free + totals.used + totals.aside ≤ reports
