-- What follows where an object has gone to its slab's own freelist, case by case.
use Rattle.std.proofs.Common.{◌≡◌, ◌≢◌, ℕ, ◌<◌, true, false, List, [], ◌∷◌, length, Option, Some, None, IfSome, IsTrue, ◌↔◌, refl}
use Rattle.std.specs.Option.{option_map_or}
use Rattle.slub_object_layout.specs.declared.layout.Layout.{Layout}
use Rattle.slub_lists.specs.declared.lists.Slab.{Slab}
use Rattle.slub_lists.specs.State.{State}
use Rattle.slub_lists.specs.Alloc.{slab_of}
use Rattle.slub_lists.specs.Coherent.{IsListed, times_current}
use Rattle.slub_lists.specs.Free.{is_frozen, settled, without_spare}

-- an unfrozen slab that wasn't full stays, unless it is spare
pub settled-listed : (s : State) (layout : Layout) (cache cpu frame : ℕ) (own : List ℕ) → length own ≢ 0 → is_frozen s frame ≡ false → settled s layout cache cpu frame own ≡ without_spare s layout.min_partial cache frame
settled-listed s layout cache cpu frame [] some not_frozen = absurd (some refl)
settled-listed s layout cache cpu frame (index ∷ free) some not_frozen = rw not_frozen refl

-- a frozen slab is current
frozen-by : (x : Option Slab) (n : ℕ) → option_map_or (λ slab. slab.frozen) x false ≡ true → IfSome x (λ slab. IsTrue slab.frozen ↔ (0 < n)) → 0 < n
frozen-by None n frozen by = cc
frozen-by (Some slab) n frozen by = by.0 frozen

pub frozen-current : (s : State) (frame : ℕ) → IsListed s → is_frozen s frame ≡ true → 0 < times_current s frame
frozen-current s frame listed frozen = frozen-by (slab_of s frame) (times_current s frame) frozen (listed.frozen frame)
