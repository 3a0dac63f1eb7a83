-- Settings of a live cache, after `min_partial_store` and `cpu_partial_store` of Linux 6.1.
use Rattle.std.specs.Prelude.{◌≡◌, ℕ, ◌≤◌, true, slice_set}
use Rattle.std.specs.Option.{option_map}
use Rattle.slub_object_layout.specs.declared.layout.Flags.{Flags}
use Rattle.slub_object_layout.specs.declared.layout.Layout.{Layout}
use Rattle.slub_object_layout.specs.declared.layout.Setting.{Setting}
use Rattle.slub_object_layout.specs.declared.layout.Setting.TheVariants.{MinPartial, CpuPartial}
use Rattle.slub_object_layout.specs.Layout.{cpu_partial_slabs_of, is_checked}
use Rattle.slub_cache_create.specs.declared.caches.Cache.{Cache}
use Rattle.slub_cache_create.specs.Table.{Table, cache_of}

-- the number that is set is at most 4096 (profile)
abbrev pub IsSetting : Setting → Type 0
IsSetting (MinPartial slabs) = slabs ≤ 4096
IsSetting (CpuPartial objects) = objects ≤ 4096

-- a cache of these flags takes the setting: a checked cache, which has no slab on a CPU's partial
-- list, takes no objects above 0 for one
abbrev pub Takes : Flags → Setting → Type 0
Takes flags (MinPartial slabs) = IsSetting (MinPartial slabs)
Takes flags (CpuPartial objects) =
    IsSetting (CpuPartial objects) × (is_checked flags ≡ true → objects ≡ 0)

-- the one number that is set; of the objects of a CPU's partial list it is the slabs that hold them
abbrev pub tuned_layout : Setting → Layout → Layout
tuned_layout (MinPartial slabs) layout = record layout { min_partial = slabs }
tuned_layout (CpuPartial objects) layout =
    record layout { cpu_partial_slabs = cpu_partial_slabs_of objects layout.objects }

-- a live cache that is set, under whichever of its names
abbrev pub tuned : Setting → Cache → Cache
tuned setting live = record live { layout = tuned_layout setting live.layout }

-- the same names and caches, of which one is set
abbrev pub with_setting : Table → ℕ → Setting → Table
with_setting s cache setting =
    record s { caches = slice_set s.caches cache (option_map (tuned setting) (cache_of s cache)) }
