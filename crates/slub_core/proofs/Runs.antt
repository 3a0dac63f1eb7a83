-- What a take of a run finds, whichever function tells it.
use Rattle.std.proofs.Common.{◌≡◌, ℕ, ◌≤◌, Option, Some, None, refl, arith, eq-eqb}
use Rattle.slub_object_layout.specs.declared.layout.Layout.{Layout}
use Rattle.slub_page_pool.specs.FreeFrames.{FreeFrames, IsPool}
use Rattle.slub_page_pool.specs.Block.{Takes}
use Rattle.slub_page_pool.proofs.Steps.{Takes-unique}
use Rattle.slub_core.specs.Setup.{Setup, pool_after}
use Rattle.slub_core.specs.Alloc.{run_found, found_run}
use Rattle.slub_core.specs.Facts.{IsSmall}

-- the run of a take is the one that the machine's takes tell
take_is : (m : Setup) (pool : FreeFrames) (order : ℕ) (r : Option ℕ) (after : FreeFrames) → IsPool pool → order ≤ 10 → Takes pool order r after → m.means.take pool order ≡ r
take_is m pool order r after good most took = (Takes-unique pool order (m.means.take pool order) r (pool_after pool order (m.means.take pool order)) after (m.means.takes pool order good most) took).0

pub found_run-first : (m : Setup) (pool : FreeFrames) (layout : Layout) (frame : ℕ) (after : FreeFrames) → IsPool pool → IsSmall layout → Takes pool layout.order (Some frame) after
    → Some (record { frame = frame; order = layout.order; objects = layout.objects }) ≡ found_run m pool layout
found_run-first m pool layout frame after good small took =
    let some : m.means.take pool layout.order ≡ Some frame = take_is m pool layout.order (Some frame) after good (omega (arith, small.order)) took in
    rw (some, eq-eqb layout.order layout.order refl) refl

pub found_run-least : (m : Setup) (pool : FreeFrames) (layout : Layout) (r : Option ℕ) (after : FreeFrames) → IsPool pool → IsSmall layout → Takes pool layout.order None pool
    → Takes pool layout.min_order r after → run_found layout layout.min_order r ≡ found_run m pool layout
found_run-least m pool layout r after good small none took =
    let first : m.means.take pool layout.order ≡ None = take_is m pool layout.order None pool good (omega (arith, small.order)) none in
    let least : m.means.take pool layout.min_order ≡ r = take_is m pool layout.min_order r after good (omega (arith, small.min_order)) took in
    rw (first, least) refl
