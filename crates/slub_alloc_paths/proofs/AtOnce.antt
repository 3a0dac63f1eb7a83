-- What is done at once, by what is found.
use Rattle.std.proofs.Common.{◌≡◌, ℕ, true, false, List, [], ◌∷◌, get_or, drop, Option, Some, None, refl, ap, sym, ◌∙◌}
use Rattle.slub_object_layout.specs.declared.layout.Layout.{Layout}
use Rattle.slub_page_pool.specs.FreeFrames.{FreeFrames}
use Rattle.slub_core.specs.declared.local.FrameRun.{FrameRun}
use Rattle.slub_core.specs.declared.spot.Spot.TheVariants.{InAlloc}
use Rattle.slub_core.specs.declared.spot.AllocSpot.TheVariants.{LoadPopped, GiveNode}
use Rattle.slub_trace.specs.declared.reply.Reply.TheVariants.{NoFrames}
use Rattle.slub_core.specs.Setup.{Setup}
use Rattle.slub_core.specs.World.{LockValue}
use Rattle.slub_core.specs.Local.{Local, at, with_hand, bare_hand, stays}
use Rattle.slub_core.specs.Alloc.{pop_node, asks_for_another, with_node, found_run, take_run, pool_with, way_of_run}
use Rattle.slub_core.specs.Taken.{pool_left}

-- no other slab is asked for
pub pop_node-stops : (m : Setup) (value : ℕ → LockValue) (l : Local) (frames : List ℕ) → asks_for_another m l ≡ false → stays value (at l (InAlloc GiveNode)) ≡ pop_node m value l frames
pop_node-stops m value l [] stop = refl
pop_node-stops m value l (frame ∷ frames) stop = rw stop refl

-- the head is popped
pub pop_node-pops : (m : Setup) (value : ℕ → LockValue) (l : Local) (frames : List ℕ) (frame : ℕ) → asks_for_another m l ≡ true → frames ≡ frame ∷ drop 1 frames
    → stays (with_node value l (drop 1 frames)) (at (with_hand l (bare_hand frame)) (InAlloc LoadPopped)) ≡ pop_node m value l frames
pop_node-pops m value l [] frame more e = let h : ⊥ = cc in absurd h
pop_node-pops m value l (first ∷ frames) frame more e =
    let same : first ≡ frame = ap (λ xs. get_or xs 0 0) e in rw (more, same) refl

-- the run is in hand, or there is none
module _ (m : Setup) (value : ℕ → LockValue) (l : Local) (pool : FreeFrames) (layout : Layout) (found : Option FrameRun) (same : layout ≡ m.layout l.cache) (told : found ≡ found_run m pool layout) where
  pub take_run-some : (run : FrameRun) → found ≡ Some run
      → record { value = pool_with value (pool_left pool layout found); local = record (at l (way_of_run found)) { run = found }; reply = None } ≡ take_run m value l pool
  take_run-some run is =
      let e : found_run m pool (m.layout l.cache) ≡ Some run = rw (← same) (sym told ∙ is) in rw (same, is, e) refl

  pub take_run-none : found ≡ None
      → record { value = pool_with value (pool_left pool layout found); local = at l (way_of_run found); reply = Some NoFrames } ≡ take_run m value l pool
  take_run-none is =
      let e : found_run m pool (m.layout l.cache) ≡ None = rw (← same) (sym told ∙ is) in rw (same, is, e) refl
