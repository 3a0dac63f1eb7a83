use Rattle.std.proofs.Common.{◌≡◌, ℕ, ◌<◌, ◌≤◌, true, false, take, get_or, vec_capacity}
use Rattle.std.specs.Mem.Slots.{slots_items, slots_filled, slots_len}
use Rattle.slub_workers.proofs.shared.values_of.Given as goal

-- those of the first locks are taken out, the others are there still
abbrev pub invariant-loop-lock : goal.invariant-loop-lock
invariant-loop-lock l = record {
  items : l.values.items ≡ take l.lock (slots_items l.fn.closed.slots);
  slots : slots_items l.closed.slots ≡ slots_items l.fn.closed.slots;
  count : slots_len l.closed.slots ≡ 33;
  taken : (k : ℕ) → k < l.lock → get_or (slots_filled l.closed.slots) k false ≡ false;
  there : (k : ℕ) → l.lock ≤ k → k < 33 → get_or (slots_filled l.closed.slots) k false ≡ true;
  capacity : vec_capacity l.values ≡ vec_capacity l.fn.values;
}
