-- How a partial list lies in its slots.
use Rattle.std.specs.Prelude.{ℕ, ◌+◌, ◌*◌, ◌≤◌, List, length, slice_range}
use Rattle.slub_node_partial.specs.declared.window.Window.{Window}

-- the frames from the start up to the end
abbrev pub frames_of : Window → List ℕ
frames_of window = slice_range window.slots.items window.start window.end

-- they lie in the slots, and are no more than half of them
pub record IsWindow (window : Window) : Type 0 where
  pub forward : window.start ≤ window.end
  pub inside : window.end ≤ length window.slots.items
  pub half : 2 * window.end ≤ 2 * window.start + length window.slots.items
